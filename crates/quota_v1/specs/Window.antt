-- The records that come next in an opened flat file, as they were read.
use Rattle.std.specs.Prelude.{◌≡◌, ℕ, ◌+◌, ◌-◌, ◌/◌, min, true, List, length}
use Rattle.quota_types.specs.Format.{record_size}
use Rattle.quota_types.specs.declared.file_kind.Format.{Format}
use Rattle.quota_v1.specs.Place.{record_start, records_read}
use Rattle.quota_v1.specs.Slot.{AreFrom}
use Rattle.quota_v1.specs.declared.window.Window.{Window}

-- the bytes of a window are the file's, where any are known
abbrev pub HoldsWindow : Format → (file : List ℕ) → Window → Type 0
HoldsWindow format file window = window.known ≡ true → AreFrom file (record_start format window.first) window.bytes

-- how many calls of `read` find the first record from an identifier on at most, among `records` of them: one for as
-- many as one gives
abbrev pub window_reads : Format → (from records : ℕ) → ℕ
window_reads format from records = (records - from + (records_read format - 1)) / records_read format

-- How many calls of `read` find the next record at most in a file of these bytes, by the identifiers that are passed,
-- from one up to another one: one, and one for as many records of the file among them as one gives.
abbrev pub passing_reads : Format → (file : List ℕ) → (from to : ℕ) → ℕ
passing_reads format file from to = 1 + (min to (length file / record_size format) - from) / records_read format
