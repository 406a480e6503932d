-- A line that is refused in memory, though not for lack of room, is refused in every file; and a file that has no room
-- for a line is long.
use Rattle.std.proofs.Common.{◌≡◌, inl, inr, ◌⊎◌, ℕ, ◌+◌, ◌*◌, ◌<◌, ◌≤◌, Bool, true, false, List, [], ◌∷◌, length}
use Rattle.std.proofs.Common.{Option, None, Some, Ok, Err, Result, refl, sym, ap, subst, ◌∙◌, arith}
use Rattle.std.specs.Prelude.{◌^◌, IsSome, IsTrue, OnOk}
use Rattle.std.proofs.lemmas.Bool.{false≢true}
use Rattle.std.proofs.lemmas.Option.{none-some, same_Some}
use Rattle.quota_types.specs.declared.field.Field.{Field}
use Rattle.quota_types.specs.Format.{is_flat}
use Rattle.quota_types.specs.declared.file_kind.Format.TheVariants.{V1, V1R32, V2R0, V2R1}
use Rattle.quota_types.specs.declared.file_kind.Kind.{Kind}
use Rattle.file_in_memory.specs.OneFile.{only_file}
use Rattle.quota_value.specs.QuotaValue.{QuotaValue}
use Rattle.opened_file.specs.Replace.{pieces_of}
use Rattle.quota_map.specs.Asked.{AnyTree, Asked, InFormat}
use Rattle.quota_map.specs.View.{IsView, most_blocks, asks_tree}
use Rattle.refusals.specs.declared.cause.Cause.{Cause}
use Rattle.refusals.specs.declared.cause.Cause.TheVariants.{Full}
use Rattle.refusals.specs.declared.reason.Refusal.{Refusal}
use Rattle.run_steps.specs.Act.{Act, Behind, InPlace, Together, Way}
use Rattle.run_steps.specs.Changing.{idle_acts, written}
use Rattle.quota_map.specs.Size.{blocks_after}
use Rattle.run_steps.specs.Done.{Outside, outside_of, seen_of, tells_of}
use Rattle.run_steps.specs.Meaning.{EndsBy}
use Rattle.run_steps.specs.Steps.{DoingAll, Steps, Then}
use Rattle.edit_steps.specs.EditStep.{changed, is_too_large, value_left}
use Rattle.edit_steps.proofs.FullLemmas.{is_full}
use Rattle.edit_steps.specs.Fits.{IsFullFor}
use Rattle.edit_steps.proofs.LimitsLemmas.{set_format}
use Rattle.batch_commands.specs.Batch.{EditsThen, LeaveRoom, edit_of, met_at, way_behind}
use Rattle.batch_commands.specs.BatchReading.{LineSteps}
use Rattle.batch_commands.specs.AtOnce.{IsPaid}
use Rattle.batch_commands.specs.Together.{AreNeverDone, IsFlatReach, IsMadeInMemory, IsWithin, MayPay, memory_seen}
use Rattle.batch_commands.specs.Together.{refusal_in}
use Rattle.batch_commands.specs.declared.batch_line.LineEdit.{LineEdit}
use Rattle.batch_commands.specs.declared.together.Edited.{Edited}
use Rattle.batch_commands.specs.declared.together.Whole.{Whole}
use Rattle.batch_commands.proofs.FullLemmas.{applied_full}
use Rattle.batch_commands.proofs.MemoryLemmas.{no_link, no_sink, no_source}
use Rattle.batch_commands.proofs.TogetherLemmas.{only_file-at}
use Rattle.quota_map.proofs.RoomLemmas.{flat_blocks, tree_full}

-- Lines that are refused.

-- steps end with this refusal, or with none, in some files
pub record Ends (steps : Steps) (refusal : Option Refusal) : Type 0 where
  pub old : Outside
  pub acts : List Act
  pub new : Outside
  pub by : EndsBy steps old acts new refusal

past_idle : (way : Way) (steps : Steps) (refusal : Option Refusal) → Ends (DoingAll (idle_acts way) steps) refusal
    → Ends steps refusal
past_idle InPlace steps refusal ends = ends
past_idle (Together others) steps refusal ends =
    record { old = record (ends.old) { files = ends.by.1 }; acts = ends.by.0; new = ends.new; by = ends.by.4 }
past_idle Behind steps refusal ends =
    record { old = record (ends.old) { files = ends.by.1 }; acts = ends.by.0; new = ends.new; by = ends.by.4 }

past_change : (act : Act) (steps : Steps) (refusal : Option Refusal) → Ends (DoingAll (act ∷ []) steps) refusal
    → Ends steps refusal
past_change act steps refusal ends =
    record { old = record (ends.old) { files = ends.by.1 }; acts = ends.by.0; new = ends.new; by = ends.by.4 }

-- where the first steps end so, for another cause than that a file is full, the others do not end well
abbrev Apart : (one other : Steps) → Type 0
Apart one other = (refusal : Refusal) → is_full refusal.cause ≡ false → Ends one (Some refusal) → Ends other None → ⊥

step_apart : (way way' after after' : Way) (name : List ℕ) (now : ℕ) (line : LineEdit) (lines : List LineEdit)
    (value new : QuotaValue) (file file' : Option (List ℕ))
    → Apart (EditsThen after name now lines new None) (EditsThen after' name now lines new None)
    → (idle large large' : Bool)
    → Apart (Then (met_at line.number (written way name (blocks_after file new) new idle large))
    (λ (done : List Act). DoingAll done (EditsThen after name now lines new None)))
    (Then (met_at line.number (written way' name (blocks_after file' new) new idle large'))
    (λ (done : List Act). DoingAll done (EditsThen after' name now lines new None)))
step_apart way way' after after' name now line lines value new file file' rest true large large' =
    λ refusal other one two.
    rest refusal other (past_idle way _ _ one) (past_idle way' _ _ two)
step_apart way way' after after' name now line lines value new file file' rest false true large' =
    λ refusal other one two.
    false≢true (sym other ∙ ap (λ (r : Refusal). is_full r.cause) (same_Some _ _ one.by.ends))
step_apart way way' after after' name now line lines value new file file' rest false false true =
    λ refusal other one two. none-some _ two.by.ends
step_apart way way' after after' name now line lines value new file file' rest false false false =
    λ refusal other one two.
    rest refusal other (past_change _ _ _ one) (past_change _ _ _ two)

edited_apart : (way way' after after' : Way) (name : List ℕ) (now : ℕ) (line : LineEdit) (lines : List LineEdit)
    (value : QuotaValue) (file file' : Option (List ℕ)) (edited : Result QuotaValue (Field × ℕ))
    → Apart (EditsThen after name now lines (value_left edited value) None)
    (EditsThen after' name now lines (value_left edited value) None)
    → Apart (Then (met_at line.number (changed way name (edit_of line now) file value edited))
    (λ (done : List Act). DoingAll done (EditsThen after name now lines (value_left edited value) None)))
    (Then (met_at line.number (changed way' name (edit_of line now) file' value edited))
    (λ (done : List Act). DoingAll done (EditsThen after' name now lines (value_left edited value) None)))
edited_apart way way' after after' name now line lines value file file' (Ok new) rest =
    let edit = edit_of line now in
    step_apart way way' after after' name now line lines value new file file' rest (edit.is_idle value)
    (is_too_large edit file new) (is_too_large edit file' new)
edited_apart way way' after after' name now line lines value file file' (Err out) rest =
    λ refusal other one two. none-some _ two.by.ends

lines_apart : (way way' : Way) (name : List ℕ) (now : ℕ) (lines : List LineEdit) (value : QuotaValue)
    → Apart (EditsThen way name now lines value None) (EditsThen way' name now lines value None)
lines_apart way way' name now [] value = λ refusal other one two. none-some refusal (sym one.by.ends)
lines_apart way way' name now (line ∷ lines) value = λ refusal other one two.
    let edit = edit_of line now in
    let idle = edit.is_idle value in
    let left = value_left (edit.edited value) value in
    edited_apart way way' (way_behind way idle) (way_behind way' idle) name now line lines value (one.old.files name)
    (two.old.files name) (edit.edited value)
    (lines_apart (way_behind way idle) (way_behind way' idle) name now lines left) refusal other
    (record { old = one.old; acts = one.acts; new = one.new; by = one.by })
    (record { old = two.old; acts = two.acts; new = two.new; by = two.by })

-- Lines that end so in some files, for another cause than that a file is full, do not end well in any.
pub refused_never : (way way' : Way) (name : List ℕ) (now : ℕ) (lines : List LineEdit) (value : QuotaValue)
    (old old' new new' : Outside) (acts acts' : List Act) (refusal : Refusal) → is_full refusal.cause ≡ false
    → EndsBy (EditsThen way name now lines value None) old acts new (Some refusal)
    → EndsBy (EditsThen way' name now lines value None) old' acts' new' None → ⊥
refused_never way way' name now lines value old old' new new' acts acts' refusal other one two =
    lines_apart way way' name now lines value refusal other (record { old = old; acts = acts; new = new; by = one })
    (record { old = old'; acts = acts'; new = new'; by = two })

-- Files that have no room.

-- a file that has no room for new limits is a tree file, and long
pub full_long : (kind : Kind) (asked : Asked) (line : LineEdit) (now : ℕ) (file : List ℕ) (blocks limit : ℕ)
    → IsFullFor kind asked (edit_of line now) (Some file) blocks limit
    → IsTrue (asks_tree asked) × (1024 * most_blocks ≤ length file + 4096)
full_long kind AnyTree line now file blocks limit full = (
  refl,
  tree_full kind AnyTree file full.value full.new blocks limit refl full.seen full.needs full.allowed full.passes,
)
full_long kind (InFormat V2R0) line now file blocks limit full = (
  refl,
  tree_full kind (InFormat V2R0) file full.value full.new blocks limit refl full.seen full.needs
      full.allowed full.passes,
)
full_long kind (InFormat V2R1) line now file blocks limit full = (
  refl,
  tree_full kind (InFormat V2R1) file full.value full.new blocks limit refl full.seen full.needs
      full.allowed full.passes,
)
full_long kind (InFormat V1) line now file blocks limit full =
    let flat : is_flat full.new.format ≡ true =
    ap is_flat (set_format full.value full.new line.id line.limits now full.edited ∙ full.seen.0.1.format) in
    let none = flat_blocks (Some file) full.new full.new.format refl flat in
    absurd (omega (arith, none, full.needs, full.passes))
full_long kind (InFormat V1R32) line now file blocks limit full =
    let flat : is_flat full.new.format ≡ true =
    ap is_flat (set_format full.value full.new line.id line.limits now full.edited ∙ full.seen.0.1.format) in
    let none = flat_blocks (Some file) full.new full.new.format refl flat in
    absurd (omega (arith, none, full.needs, full.passes))

-- Lines that are not made together.

full_case : (cause : Cause) → (is_full cause ≡ false) ⊎ ((blocks : ℕ) × (limit : ℕ) × (cause ≡ Full blocks limit))
full_case (Full blocks limit) = inr (blocks, limit, refl)
full_case _ = inl refl

-- lines that leave room do not fill the file
unfilled : (asked : Asked) (count size most long : ℕ) → IsTrue (asks_tree asked)
    → (IsTrue (asks_tree asked) → most ≤ size + 2048 + 4096 * count) → LeaveRoom asked count size → long ≤ most
    → 1024 * most_blocks ≤ long + 4096 → ⊥
unfilled asked count size most long tree grows room within full =
    let few = grows tree in
    let left = room tree in
    absurd (omega (arith, few, left, within, full))

refused_together : (kind : Kind) (asked : Asked) (file : List ℕ) (now others : ℕ) (lines : List LineEdit)
    (value : QuotaValue) (whole : Whole) (edited : Edited) (refusal : Refusal)
    → MayPay asked (length lines) whole → IsWithin whole.most (length lines) edited
    → IsView (Some whole.bytes.items) kind asked (Ok value)
    → IsMadeInMemory (LineSteps (Together others) file now lines value) file whole.bytes.items edited
    → refusal_in edited.lines.ended ≡ Some refusal
    → AreNeverDone file now lines value
refused_together kind asked file now others lines value whole edited refusal may within view made is =
    let made = made no_source no_sink no_sink no_link (tells_of true true true true true) in
    let old = outside_of (seen_of (memory_seen file whole.bytes.items 0) no_source no_sink no_sink no_link) in
    let to =
    outside_of (seen_of (memory_seen file edited.bytes.items edited.writes) no_source no_sink no_sink no_link) in
    let ends : EndsBy (LineSteps (Together others) file now lines value) old made.acts to (Some refusal) =
    subst (λ (r : Option Refusal). EndsBy (LineSteps (Together others) file now lines value) old made.acts to r) is
    made.by_steps in
    elim (full_case refusal.cause) [
      | inl other ↦ λ way old' new' acts by.
          refused_never (Together others) way file now lines value old old' to new' made.acts acts refusal other ends by
      | inr full ↦
          let seen : IsView (only_file file whole.bytes.items file) kind asked (Ok value) = subst
          (λ (f : Option (List ℕ)). IsView f kind asked (Ok value)) (sym (only_file-at file whole.bytes.items)) view in
          let one = (applied_full (Together others) kind asked file now lines None to refusal full.0 full.1 full.2 tt
          value old made.acts seen ends).1 in
          let long = full_long kind asked one.line now edited.bytes.items full.0 full.1
          (subst (λ (f : Option (List ℕ)). IsFullFor kind asked (edit_of one.line now) f full.0 full.1)
          (only_file-at file edited.bytes.items) one.full) in
          absurd (unfilled asked (length lines) (length whole.bytes.items) whole.most (length edited.bytes.items) long.0
          may.grows may.room within.short long.1)
    ]

pub not_together : (kind : Kind) (asked : Asked) (file : List ℕ) (now others : ℕ) (lines : List LineEdit)
    (value : QuotaValue) (whole : Whole) (edited : Edited)
    → MayPay asked (length lines) whole → IsWithin whole.most (length lines) edited
    → IsView (Some whole.bytes.items) kind asked (Ok value)
    → IsMadeInMemory (LineSteps (Together others) file now lines value) file whole.bytes.items edited
    → IsSome (refusal_in edited.lines.ended)
    → AreNeverDone file now lines value
not_together kind asked file now others lines value whole edited may within view made some =
    by_refusal (refusal_in edited.lines.ended) refl some
  where
    by_refusal : (found : Option Refusal) → refusal_in edited.lines.ended ≡ found → IsSome found
        → AreNeverDone file now lines value
    by_refusal None is some = absurd (false≢true some)
    by_refusal (Some refusal) is some =
        refused_together kind asked file now others lines value whole edited refusal may within view made is

-- Where it does not pay to replace the file by that of lines that were edited in memory, one was refused.
pub pays_unless : (asked : Asked) (count : ℕ) (whole : Whole) (edited : Edited) → MayPay asked count whole
    → IsWithin whole.most count edited
    → (length edited.bytes.items ≤ 2 ^ 42 → 12 * edited.lines.made < pieces_of (length edited.bytes.items))
    → IsSome (refusal_in edited.lines.ended)
pays_unless asked count whole edited may within more = by_end edited.lines.ended within.all
  where
    pieces_few : (size most : ℕ) → size ≤ most → pieces_of size ≤ pieces_of most
    pieces_few size most few = omega (arith, few)

    by_end : (ended : Result (Unit {0}) Refusal) → OnOk ended (edited.lines.made ≡ count) → IsSome (refusal_in ended)
    by_end (Err refusal) all = refl
    by_end (Ok passed) all =
        let short = within.short in
        let pieces = pieces_few (length edited.bytes.items) whole.most short in
        let within_most = may.within in
        let few = may.few in
        let least = more (omega (arith, short, within_most)) in
        absurd (omega (arith, least, pieces, few, all))

-- Lines for which a file may be written anew reach no further than twelve pieces for each.
pub paid_within : (asked : Asked) (lines : List LineEdit) (size most : ℕ) → IsPaid asked lines size
    → (IsTrue (asks_tree asked) → most ≤ size + 2048 + 4096 * length lines)
    → (asks_tree asked ≡ false → IsFlatReach asked size lines most) → most ≤ 12288 * length lines
paid_within asked lines size most paid grows room = by_test (asks_tree asked) refl
  where
    by_test : (test : Bool) → asks_tree asked ≡ test → most ≤ 12288 * length lines
    by_test true is = let tree = paid.tree is in let few = grows is in omega (arith, tree, few)
    by_test false is = let flat = paid.flat is in (room is).least (12288 * length lines) flat.0 flat.1
