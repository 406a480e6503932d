-- How many calls of `read` the edits of lines make.
use Rattle.std.proofs.Common.{◌≡◌, ℕ, ◌+◌, ◌*◌, ◌≤◌, ◌⊎◌, inl, inr, List, [], length, Option, None, Some, Result, Ok}
use Rattle.std.proofs.Common.{Err, OnOk, refl, sym, subst, arith}
use Rattle.quota_types.specs.declared.file_kind.Kind.{Kind}
use Rattle.id_names.specs.NamesFile.{NameLine}
use Rattle.file_blocks.specs.Block.{file_of}
use Rattle.opened_file.specs.FileSeen.{FileSeen}
use Rattle.quota_value.specs.QuotaValue.{QuotaValue}
use Rattle.opened_file.specs.Replace.{pieces_of}
use Rattle.outside.specs.Seen.{StoreSeen}
use Rattle.outside.specs.World.{World}
use Rattle.quota_map.specs.Asked.{Asked, asked_of}
use Rattle.quota_map.specs.AnyFile.{any_change_reads, reads_of_get}
use Rattle.quota_map.specs.View.{IsView, opening_reads}
use Rattle.quota_map.proofs.AnyLemmas.{any_few_gets, any_few_reads, get_few}
use Rattle.set_edit.specs.EditCalls.{ReadsOnce}
use Rattle.refusals.specs.Outcome.{Passed}
use Rattle.command_words.specs.declared.command.Common.{Common}
use Rattle.refusals.specs.declared.reason.Refusal.{Refusal}
use Rattle.run_steps.specs.Naming.{MayBeNames}
use Rattle.run_steps.specs.Taking.{input_said}
use Rattle.run_steps.specs.Writes.{ReadsWithin}
use Rattle.run_steps.specs.Act.{Way}
use Rattle.run_steps.specs.Done.{RunSeen, RunTells, outside_of}
use Rattle.run_steps.specs.Run.{HasSteps}
use Rattle.batch_commands.specs.Batch.{AskedEdits, batch_reads, batch_step, if_neither, input_asks, input_edits}
use Rattle.batch_commands.specs.Batch.{line_reads}
use Rattle.batch_commands.specs.BatchReading.{LineSteps}
use Rattle.batch_commands.specs.Together.{AreNeverDone, ReadsWhole}
use Rattle.batch_commands.specs.declared.batch_line.LineEdit.{LineEdit}
use Rattle.quota_map.proofs.ViewLemmas.{opening_few}

-- the edit of one line
pub line_few : (seen : FileSeen) (before now : ℕ)
    → ReadsOnce (reads_of_get seen.format) (any_change_reads seen) before now → now ≤ before + 17
line_few seen before now once =
    let change = any_few_reads seen once.change in
    let look = get_few seen.format in
    let most = any_few_gets in
    omega (arith, once.few, change, look, most)

same_passed : (asked other : AskedEdits) → Passed asked ≡ Passed other → asked ≡ other
same_passed asked other same = cc

-- what the standard input asked for
asked_edits : (names : List NameLine) (from : Option (List ℕ)) (files : World) (left : List ℕ) (asked : AskedEdits)
    → from ≡ None → input_said from (batch_step names from) files left ≡ Passed asked → input_asks names [] left ≡ asked
asked_edits names None files left asked none said = same_passed (input_asks names [] left) asked said
asked_edits names (Some name) files left asked none said = absurd (cc)

pub asked_reads : (names : List NameLine) (from : Option (List ℕ)) (files : World) (left : List ℕ) (asked : AskedEdits)
    (before middle now : ℕ) → from ≡ None → input_said from (batch_step names from) files left ≡ Passed asked
    → middle ≡ before → now ≤ middle + line_reads asked.edits → now ≤ before + line_reads (input_edits names left)
asked_reads names from files left asked before middle now none said same few =
    subst (λ (a : AskedEdits). now ≤ before + line_reads a.edits)
    (sym (asked_edits names from files left asked none said))
    (subst (λ (b : ℕ). now ≤ b + line_reads asked.edits) same few)

-- Files that are read whole.

-- a file that was read whole was read no more often than twelve times a line
pub whole_twelve : (count size before now : ℕ) → ReadsWhole count size before now → now ≤ before + 12 * count
whole_twelve count size before now (inl same) = omega (arith, same)
whole_twelve count size before now (inr whole) = omega (arith, whole.0, whole.1)

-- edits of lines that were all done in place
pub placed_reads : (file : List ℕ) (now : ℕ) (lines : List LineEdit) (value : QuotaValue) (before middle after : ℕ)
    (ended : Result (Unit {0}) Refusal) (way : Way) (old new : RunSeen) (tells : RunTells)
    → OnOk ended (HasSteps (LineSteps way file now lines value) tells None old new)
    → OnOk ended (after ≤ middle + 17 * length lines)
    → (middle ≤ before) ⊎ AreNeverDone file now lines value → OnOk ended (after ≤ before + line_reads lines)
placed_reads file now lines value before middle after (Err refusal) way old new tells done few why = tt
placed_reads file now lines value before middle after (Ok passed) way old new tells done few (inl read) =
    omega (arith, few, read)
placed_reads file now lines value before middle after (Ok passed) way old new tells done few (inr never) =
    absurd (never way (outside_of old) (outside_of new) done.acts done.by_steps)

-- All readings of a file that was accepted.

pub within_four : (kind : Kind) (asked : Asked) (file : List ℕ) (value : QuotaValue) (lines : List LineEdit)
    → IsView (Some file) kind asked (Ok value)
    → opening_reads asked file + line_reads lines ≤ 4 + 4 * pieces_of (length file) + 17 * length lines
within_four kind asked file value lines view =
    let opening = opening_few kind asked file value view in
    omega (arith, opening)

-- where there are names, or lines of a file, nothing is said
pub batch_within : (common : Common) (from : Option (List ℕ)) (file : List ℕ) (files : World) (bytes : List ℕ)
    (old new : StoreSeen)
    → (common.names ≡ None → from ≡ None
    → new.reads
    ≤ old.reads + (opening_reads (asked_of common.format) (file_of files file) + line_reads (input_edits [] bytes)))
    → ReadsWithin (batch_reads common from file files bytes) old new
batch_within common from file files bytes old new few =
    within common.names from
    (opening_reads (asked_of common.format) (file_of files file) + line_reads (input_edits [] bytes)) few
  where
    within : (names from : Option (List ℕ)) (reads : ℕ) → (names ≡ None → from ≡ None → new.reads ≤ old.reads + reads)
        → ReadsWithin (if_neither names from reads) old new
    within None None reads few = few refl refl
    within (Some one) from reads few = tt
    within None (Some one) reads few = tt

-- so it is of what was done once the names were read
pub named_within : (common : Common) (from : Option (List ℕ)) (file bytes : List ℕ) (result : Result (Unit {0}) Refusal)
    (told input_told : Type 0) (names : List NameLine) (old middle new : StoreSeen)
    → MayBeNames common.names names → (common.names ≡ None → middle ≡ old)
    → (from ≡ None → OnOk result
    (told → input_told
    → new.reads ≤ middle.reads
    + (opening_reads (asked_of common.format) (file_of middle.files file) + line_reads (input_edits names bytes))))
    → OnOk result (told → input_told → ReadsWithin (batch_reads common from file old.files bytes) old new)
named_within common from file bytes (Ok value) told input_told names old middle new given same few = λ is input_is.
    batch_within common from file old.files bytes old new (λ none without.
    let no_names : names ≡ [] = subst (λ (n : Option (List ℕ)). MayBeNames n names) none given in
    subst (λ (s : StoreSeen). new.reads
    ≤ s.reads + (opening_reads (asked_of common.format) (file_of s.files file) + line_reads (input_edits [] bytes)))
    (same none)
    (subst (λ (l : List NameLine). new.reads
    ≤ middle.reads + (opening_reads (asked_of common.format) (file_of middle.files file)
    + line_reads (input_edits l bytes))) no_names (few without is input_is)))
named_within common from file bytes (Err refusal) told input_told names old middle new given same few = tt
