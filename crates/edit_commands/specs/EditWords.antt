-- What the words of an edit ask for. Source: the manual page of setquota.
use Rattle.std.specs.Prelude.{ℕ, Bool, true, false, List, Option, None}
use Rattle.id_names.specs.NamesFile.{NameLine}
use Rattle.quota_types.specs.declared.record.Grace.{Grace}
use Rattle.quota_value.specs.QuotaValue.{QuotaValue}
use Rattle.set_edit.specs.Editing.{Edit}
use Rattle.set_edit.specs.Edits.{copy_edit, grace_edit, limits_edit, times_edit}
use Rattle.set_edit.specs.Times.{record_in, times_skipped}
use Rattle.set_edit.specs.declared.limits.Limits.{Limits as FourLimits}
use Rattle.set_edit.specs.declared.skipped.Skipped.{Skipped}
use Rattle.set_edit.specs.declared.time_word.TimeWord.{TimeWord}
use Rattle.edit_commands.specs.declared.edit.EditWords.{EditWords}
use Rattle.edit_commands.specs.declared.edit.EditWords.TheVariants.{Limits as LimitWords, Copy as CopyWords}
use Rattle.edit_commands.specs.declared.edit.EditWords.TheVariants.{Grace as GraceWords, Times as TimeWords}
use Rattle.edit_commands.specs.declared.edit.FileEdit.{FileEdit}
use Rattle.edit_commands.specs.declared.edit.FileEdit.TheVariants.{Limits, Copy, Grace as Periods, Times}
use Rattle.refusals.specs.Outcome.{Outcome, Passed, and_then}
use Rattle.run_steps.specs.Numbers.{grace_read, identifier_of, limits_read, time_read}

-- the edit that words ask for, where these are the names; they are read from left to right
abbrev pub edit_read : List NameLine → EditWords → Outcome FileEdit
edit_read names (LimitWords name limits) =
    and_then (identifier_of names name) (λ (id : ℕ).
    and_then (limits_read limits) (λ (four : FourLimits).
    Passed (Limits id four)))
edit_read names (CopyWords proto name) =
    and_then (identifier_of names proto) (λ (from : ℕ).
    and_then (identifier_of names name) (λ (to : ℕ).
    Passed (Copy from to)))
edit_read names (GraceWords block inode) =
    and_then (grace_read block inode) (λ (grace : Grace).
    Passed (Periods grace))
edit_read names (TimeWords name block inode) =
    and_then (identifier_of names name) (λ (id : ℕ).
    and_then (time_read block) (λ (b : TimeWord).
    and_then (time_read inode) (λ (i : TimeWord).
    Passed (Times id b i))))

-- The file of names that is read for an edit, where one is given: none for new grace periods, which are no
-- identifier's.
abbrev pub names_wanted : EditWords → Option (List ℕ) → Option (List ℕ)
names_wanted (GraceWords block inode) names = None
names_wanted _ names = names

-- an edit at a moment, in seconds since 1970
abbrev pub edit_meant : FileEdit → ℕ → Edit
edit_meant (Limits id limits) now = limits_edit id limits now
edit_meant (Copy from to) now = copy_edit from to now
edit_meant (Periods grace) now = grace_edit grace
edit_meant (Times id block inode) now = times_edit id block inode now

-- no time is skipped
abbrev pub skips_none : Skipped
skips_none = record { block = false; inode = false }

-- which times an edit of a value skips
abbrev pub skipped_by : FileEdit → QuotaValue → Skipped
skipped_by (Times id block inode) value = times_skipped (record_in value id)
skipped_by _ value = skips_none

-- an edit that words ask for may skip times, of which it then warns
abbrev pub words_warn : EditWords → Bool
words_warn (TimeWords name block inode) = true
words_warn _ = false

-- an edit that words ask for may need room in the blocks of a file; new grace periods need none
abbrev pub words_need_room : EditWords → Bool
words_need_room (GraceWords block inode) = false
words_need_room _ = true

-- an edit may skip times, of which it then warns
abbrev pub edit_warns : FileEdit → Bool
edit_warns (Times id block inode) = true
edit_warns _ = false
