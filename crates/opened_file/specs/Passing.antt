-- Which identifiers a call of `next_after` passes: those from the first one that may be answered up to the one behind
-- its answer.
use Rattle.std.specs.Prelude.{ℕ, ◌+◌, ◌*◌, ◌^◌, Option, None, Some, Result, Ok, Err}
use Rattle.quota_types.specs.declared.record.Entry.{Entry}
use Rattle.opened_file.specs.declared.quota_file.FileFault.{FileFault}

-- the least identifier that comes after another one, or the least of all
abbrev pub first_after : Option ℕ → ℕ
first_after None = 0
first_after (Some after) = after + 1

-- the least identifier that a call did not pass: the one behind its answer, or 2^32 where it has none
abbrev pub passed_up_to : Result (Option Entry) FileFault → ℕ
passed_up_to (Ok (Some entry)) = entry.id + 1
passed_up_to (Ok None) = 2 ^ 32
passed_up_to (Err fault) = 2 ^ 32

-- How many calls of `read` pass all identifiers, where it is known how many pass those from one up to another one: as
-- many as one call that passes them all, and for each of the `records` records what a call takes anyway.
abbrev pub reads_over : (passing : ℕ → ℕ → ℕ) → (records : ℕ) → ℕ
reads_over passing records = passing 0 (2 ^ 32) + passing 0 0 * records
