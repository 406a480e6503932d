-- From what an edit says of an opened file of any format to what a command says of the file.
use Rattle.std.proofs.Common.{◌⊎◌, inl, inr, ◌≡◌, ◌≢◌, ◌+◌, ◌≤◌, ℕ, Bool, true, false, IsTrue, List, Option, Ok, Err}
use Rattle.std.proofs.Common.{Result, refl, sym, ap, subst, ◌∙◌, arith}
use Rattle.std.specs.Prelude.{◌&&◌, ◌<◌, nat_lt, IfOk, IsOk, IsOkAnd}
use Rattle.std.proofs.lemmas.Bool.{false≢true}
use Rattle.std.proofs.lemmas.Bool.Decides.{nat_tests}
use Rattle.quota_types.specs.declared.field.Field.{Field}
use Rattle.quota_types.specs.Format.{is_flat}
use Rattle.quota_types.specs.declared.file_kind.Format.{Format}
use Rattle.quota_types.specs.declared.file_kind.Format.TheVariants.{V1, V1R32}
use Rattle.opened_file.specs.ValueEdits.{IsLeft}
use Rattle.outside.specs.Frame.{OnlyReads}
use Rattle.opened_file.specs.QuotaFile.{is_store_fault}
use Rattle.opened_file.specs.FileSeen.{FileSeen}
use Rattle.quota_value.specs.QuotaValue.{QuotaValue}
use Rattle.outside.specs.Seen.{StoreSeen}
use Rattle.outside.specs.World.{World}
use Rattle.opened_file.specs.declared.quota_file.FileFault.{FileFault}
use Rattle.opened_file.specs.declared.quota_file.FileFault.TheVariants.{Store, Damage, Full, Memory}
use Rattle.opened_file.proofs.LookupLemmas.{change_fault-after}
use Rattle.quota_map.specs.Asked.{Asked, InFormat}
use Rattle.quota_map.specs.AnyFile.{HoldsAny, MayRefuse, any_at, any_laws, any_seen}
use Rattle.quota_map.specs.AnyChange.{AnyLeaves, AnyMakes}
use Rattle.quota_map.specs.StandsFor.{StandsForAs}
use Rattle.quota_map.specs.declared.any_file.AnyFile.{AnyFile}
use Rattle.quota_map.specs.View.{IsOpenedAs, blocks_allowed, fresh_seen, most_blocks, asks_tree}
use Rattle.quota_map.proofs.AnyLemmas.{any_few_writes}
use Rattle.quota_map.proofs.LeftLemmas.{held_format, left_seen}
use Rattle.quota_map.proofs.SeenLemmas.{any_held_seen}
use Rattle.set_edit.specs.Editing.{Edit}
use Rattle.set_edit.specs.EditCalls.{Edits}
use Rattle.set_edit.specs.declared.edit_fault.EditFault.{EditFault}
use Rattle.set_edit.specs.declared.edit_fault.EditFault.TheVariants.{File, NoRoom as Unfit}
use Rattle.refusals.specs.Status.{status_of}
use Rattle.run_steps.specs.Act.{MayBeLeft}
use Rattle.run_steps.specs.Opening.{MayRefuseOpening}
use Rattle.edit_steps.specs.EditStep.{ChangeMayRefuse, edit_cause, is_too_large}
use Rattle.quota_map.specs.Size.{blocks_after}
use Rattle.edit_steps.proofs.EditLemmas.{EditedSeen, IsMade}
use Rattle.run_steps.proofs.ShowingLemmas.{damage_may}
use Rattle.edit_steps.proofs.RefusedEditLemmas.{HasEditCause, IsRefusedAt, refused_read}
use Rattle.quota_map.proofs.RoomLemmas.{HasNoRoom, IsLacking, lacking, lacks_most}
use Rattle.edit_steps.proofs.LimitsLemmas.{set_format}
use Rattle.set_edit.specs.Edits.{limits_edit}
use Rattle.set_edit.specs.declared.limits.Limits.{Limits as FourLimits}

-- an edited value has the format of the value
abbrev pub KeepsFormat : Edit → Type 0
KeepsFormat edit = (value new : QuotaValue) → edit.edited value ≡ Ok new → new.format ≡ value.format

-- an edit of limits keeps the format
pub limits_keep_format : (id : ℕ) (limits : FourLimits) (now : ℕ) → KeepsFormat (limits_edit id limits now)
limits_keep_format id limits now = λ value new is. set_format value new id limits now is

-- Room in an opened file.

-- a number that was found to be less
pub less_of : (a b : ℕ) → nat_lt a b ≡ true → a < b
less_of a b is = grind (arith, nat_tests)

pub both_of : (one other : Bool) → IsTrue (one && other) → IsTrue one × IsTrue other
both_of true other is = (refl, is)
both_of false other is = absurd (false≢true is)

-- what is not found to be so is found not to be so
pub not_so : (found : Bool) → (IsTrue found → ⊥) → found ≡ false
not_so true never = absurd (never refl)
not_so false never = refl

-- What an edit of an opened file says.

-- an edit was made of an opened file of any format
abbrev pub AnyEdits : {T : Type 0} → Edit → Bool → (opened file : AnyFile) (before after : StoreSeen)
    → Result T EditFault → Type 0
AnyEdits edit tells opened file before after result =
    Edits edit (any_laws tells) (any_at tells before opened) (any_at tells after file) result

-- an edit makes twelve calls of `write` at most, however it ended
pub few_writes : {T : Type 0} (tells : Bool) (edit : Edit) (opened file : AnyFile) (before after : StoreSeen)
    (result : Result T EditFault) → AnyEdits edit tells opened file before after result
    → after.writes ≤ before.writes + 12
few_writes tells edit opened file before after result edits =
    let some = edits.value.writes in
    let few = any_few_writes (any_seen opened) some.0 in
    omega (arith, some.1, few)

-- an edited value that the opened file holds is seen of the file, which is not too large
edited_seen : (tells : Bool) (edit : Edit) (opened file : AnyFile) (before after : StoreSeen) (name : List ℕ)
    (format : Format) (value : QuotaValue) (edited : Result QuotaValue (Field × ℕ))
    → edit.edited value ≡ edited → KeepsFormat edit → any_seen opened ≡ fresh_seen name format
    → any_seen file ≡ fresh_seen name format → HoldsAny tells before.files opened value
    → IsOkAnd edited (λ (new : QuotaValue). HoldsAny tells after.files file new)
    → (IsTrue edit.needs_room → (blocks limit : ℕ) → edit.is_idle value ≡ false
    → IfOk edited (λ (new : QuotaValue). ¬ HasNoRoom opened (before.files name) new blocks limit))
    → EditedSeen name (before.files name) after edit value edited
edited_seen tells edit opened file before after name format value (Ok new) set keeps was is held holds room = (
  any_held_seen tells after.files file new name format is holds,
  λ some. not_so (is_too_large edit (before.files name) new) (λ large.
      let blocks = blocks_after (before.files name) new in
      let both = both_of edit.needs_room (nat_lt most_blocks blocks) large in
      room both.0 blocks most_blocks some
      (lacks_most tells before.files opened (before.files name) value new name format was held (keeps value new set)
      (less_of most_blocks blocks both.1))),
)
edited_seen tells edit opened file before after name format value (Err out) set keeps was is held holds room =
    absurd holds

pub any_made : {T : Type 0} (tells : Bool) (edit : Edit) (opened file : AnyFile) (before after : StoreSeen)
    (name : List ℕ) (format : Format) (value : QuotaValue) (told : T) → KeepsFormat edit
    → any_seen opened ≡ fresh_seen name format → (IsTrue tells → HoldsAny tells before.files opened value)
    → AnyEdits edit tells opened file before after (Ok told)
    → IsMade name edit value (IsTrue tells) before after
any_made tells edit opened file before after name format value told keeps was held edits =
    let done = edits.value.done in
    let named : (any_seen opened).name ≡ name = ap (λ (s : FileSeen). s.name) was in
    record {
      idle = λ told is. rw named at (edits.value.idle value (held told) is);
      set =
          λ told. edited_seen tells edit opened file before after name format value (edit.edited value) refl keeps was
          (done.same ∙ was) (held told) (done.set value (held told))
          (λ needs blocks limit some. subst
          (λ (n : List ℕ).
          IfOk (edit.edited value) (λ (new : QuotaValue). ¬ HasNoRoom opened (before.files n) new blocks limit)) named
          (done.room needs value blocks limit (held told) some));
      leaves = rw named at edits.value.leaves;
      few = few_writes tells edit opened file before after _ edits;
    }

-- Refused edits.

-- a fact that holds while a file may be used, or else another one
pub while_usable : (usable : Bool) (same left : Type 0) → (IsTrue usable → same) → (usable ≡ false → left) → same ⊎ left
while_usable true same left kept ended = inl (kept refl)
while_usable false same left kept ended = inr (ended refl)

-- what an edit to a value that failed left of the file that is seen so
abbrev EditLeft : Edit → QuotaValue → Result QuotaValue (Field × ℕ) → FileSeen → (old new : World) → Type 0
EditLeft edit value edited seen old new =
    (new seen.name ≡ old seen.name)
    ⊎ IsLeft (AnyMakes seen (edit.change value) seen.name)
    (λ bytes. IsOkAnd edited (λ (one : QuotaValue). StandsForAs seen.format bytes one)) (AnyLeaves seen.format)
    seen.name old new

-- of a file that was just opened it is what an edit to the edited value that failed may leave
left_may_be : (edit : Edit) (value new : QuotaValue) (format : Format) (name : List ℕ) (before after : World)
    → new.format ≡ format
    → EditLeft edit value (Ok new) (fresh_seen name format) before after → MayBeLeft new (before name) (after name)
left_may_be edit value new format name before after is (inl same) = inl same
left_may_be edit value new format name before after is (inr left) =
    left_seen format (edit.change value) name before after new is left

-- where only was read any file is as it was
pub read_named : {done : Bool} (name opened : List ℕ) (before after : StoreSeen) → OnlyReads done opened before after
    → after.files name ≡ before.files name
read_named name opened before after read = ap (λ (files : World). files name) read.files

-- where an edit was refused that makes a value of the one that is held, the named file is what an edit to that value
-- that failed may leave
pub any_left : {T : Type 0} (name : List ℕ) (edit : Edit) (tells : Bool) (opened file : AnyFile)
    (before after : StoreSeen) (format : Format) (value new : QuotaValue) (fault : FileFault)
    → KeepsFormat edit → any_seen opened ≡ fresh_seen name format → HoldsAny tells before.files opened value
    → edit.edited value ≡ Ok new
    → AnyEdits {T = T} edit tells opened file before after (Err (File fault))
    → MayBeLeft new (before.files name) (after.files name)
any_left name edit tells opened file before after format value new fault keeps was held set edits =
    let refused = edits.value.refused in
    let formats : new.format ≡ format =
    keeps value new set ∙ held_format tells before.files opened value held ∙ ap (λ (s : FileSeen). s.format) was in
    elim (while_usable (any_seen file).usable _ _ refused.unwritten (λ ended. refused.left ended value held)) [
      | inl read ↦ inl (read_named name (any_seen opened).name before after read)
      | inr left ↦
          left_may_be edit value new format name before.files after.files formats
          (subst (λ (s : FileSeen). EditLeft edit value (Ok new) s before.files after.files) was
          (subst (λ (edited : Result QuotaValue (Field × ℕ)).
          EditLeft edit value edited (any_seen opened) before.files after.files) set left))
    ]

-- but for a fault of the store the file may still be used
whole_unless_fault : (fault : FileFault) (same : Type 0) → (is_store_fault fault ≡ false → same)
    → status_of (edit_cause (File fault)) ≢ 4 → same
whole_unless_fault Store same kept other = absurd (other refl)
whole_unless_fault (Damage damage) same kept other = kept refl
whole_unless_fault (Full blocks limit) same kept other = kept refl
whole_unless_fault Memory same kept other = kept refl

-- where the value does not fit nothing was written
same_where_unfit : (usable : Bool) (same : Type 0) (edited : Result QuotaValue (Field × ℕ)) (out : Field × ℕ)
    → (IsTrue usable → same) → (usable ≡ false → IsOk edited) → edited ≡ Err out → same
same_where_unfit true same edited out kept ended is = kept refl
same_where_unfit false same (Ok new) out kept ended is = absurd (cc)
same_where_unfit false same (Err other) out kept ended is = absurd (false≢true (ended refl))

-- where there is no room for the value nothing was written
same_where_full : (same : Type 0) (edited : Result QuotaValue (Field × ℕ)) (lacks : QuotaValue → Type 0)
    (new : QuotaValue)
    → IfOk edited (λ (value : QuotaValue). lacks value → same) → edited ≡ Ok new → lacks new → same
same_where_full same (Ok value) lacks new full is lacks_it = full (subst (λ (v : QuotaValue). lacks v) (cc) lacks_it)
same_where_full same (Err out) lacks new full is lacks_it = absurd (cc)

pub any_refused : {T : Type 0} (name : List ℕ) (edit : Edit) (tells : Bool) (opened file : AnyFile)
    (before after : StoreSeen) (format : Format) (value : QuotaValue) (fault : EditFault)
    → KeepsFormat edit → any_seen opened ≡ fresh_seen name format
    → (IsTrue tells → HoldsAny tells before.files opened value)
    → AnyEdits {T = T} edit tells opened file before after (Err fault)
    → IsRefusedAt name edit value (IsTrue tells) before after (edit_cause fault)
any_refused {T} name edit tells opened file before after format value (File fault) keeps was held edits =
    let named : (any_seen opened).name ≡ name = ap (λ (s : FileSeen). s.name) was in
    let refused = edits.value.refused in
    record {
      whole = λ other.
          rw named at (whole_unless_fault fault _ (λ not_store. refused.unwritten (refused.usable not_store)) other);
      idle = λ told is. rw named at (edits.value.idle value (held told) is);
      named = λ told new set. any_left {T = T} name edit tells opened file before after format value new fault keeps was
          (held told) set edits;
      unfit = λ told out is.
          rw named at (same_where_unfit _ _ _ out refused.unwritten (λ ended. refused.fits ended value (held told)) is);
      full = λ told new is large.
          let bytes = before.files (any_seen opened).name in
          let blocks = blocks_after bytes new in
          let both = both_of edit.needs_room (nat_lt most_blocks blocks)
          (subst (λ (n : List ℕ). IsTrue (is_too_large edit (before.files n) new)) (sym named) large) in
          rw named at
          (same_where_full _ (edit.edited value) (λ (v : QuotaValue). HasNoRoom opened bytes v blocks most_blocks) new
          (edits.value.full both.0 value blocks most_blocks (held told)) is
          (lacks_most tells before.files opened bytes value new name format was (held told) (keeps value new is)
          (less_of most_blocks blocks both.1)));
      leaves = rw named at edits.value.leaves;
      few = few_writes tells edit opened file before after _ edits;
    }
any_refused name edit tells opened file before after format value (Unfit out) keeps was held edits =
    let named : (any_seen opened).name ≡ name = ap (λ (s : FileSeen). s.name) was in
    refused_read name edit value (IsTrue tells) before after (edit_cause (Unfit out))
    (rw named at edits.no_room.unwritten)

-- an edited value for which there is no room
set_lacking : (tells : Bool) (files : World) (opened : AnyFile) (bytes : Option (List ℕ)) (name : List ℕ)
    (format : Format) (value : QuotaValue) (edit : Edit) (edited : Result QuotaValue (Field × ℕ)) (blocks limit : ℕ)
    → edit.edited value ≡ edited → KeepsFormat edit → any_seen opened ≡ fresh_seen name format
    → HoldsAny tells files opened value
    → IsOkAnd edited (λ (new : QuotaValue). HasNoRoom opened bytes new blocks limit)
    → IsOkAnd edited (λ (new : QuotaValue). IsLacking bytes new blocks limit)
set_lacking tells files opened bytes name format value edit (Ok new) blocks limit set keeps was held lacks =
    lacking tells files opened bytes value new name format blocks limit was held (keeps value new set) lacks
set_lacking tells files opened bytes name format value edit (Err out) blocks limit set keeps was held lacks = lacks

pub any_cause : {T : Type 0} (tells : Bool) (edit : Edit) (opened file : AnyFile) (before after : StoreSeen)
    (name : List ℕ) (format : Format) (fault : EditFault) → KeepsFormat edit
    → any_seen opened ≡ fresh_seen name format → AnyEdits {T = T} edit tells opened file before after (Err fault)
    → HasEditCause edit (before.files name) before.faults after.faults (HoldsAny tells before.files opened) fault
any_cause tells edit opened file before after name format (File fault) keeps was edits = record {
  no_room = tt;
  id = tt;
  refused =
      change_fault-after before.faults before.faults after.faults (HoldsAny tells before.files opened)
      (HoldsAny tells before.files opened) _ _ fault (omega arith) (λ value holds. holds)
      (λ blocks limit lacks. (
        lacks.0,
        λ value holds. subst
            (λ (n : List ℕ). IsOkAnd (edit.edited value)
            (λ (new : QuotaValue). IsLacking (before.files n) new blocks limit)) (ap (λ (s : FileSeen). s.name) was)
            (set_lacking tells before.files opened (before.files (any_seen opened).name) name format value edit
            (edit.edited value) blocks limit refl keeps was holds (lacks.1 value holds)),
      )) edits.value.refused.cause;
  wanted = edits.value.refused.busy;
}
any_cause tells edit opened file before after name format (Unfit out) keeps was edits =
    record { no_room = edits.no_room.refused; id = edits.no_room.id; refused = tt; wanted = tt }

-- a file that is full is a tree file, which may have the most blocks
full_asked : (asked : Asked) (format : Format) (blocks limit : ℕ) → IsOpenedAs asked format
    → MayRefuse format (Full blocks limit)
    → IsTrue (asks_tree asked) × (blocks_allowed format ≡ most_blocks)
full_asked asked V1 blocks limit asks may = absurd (may.flat refl)
full_asked asked V1R32 blocks limit asks may = absurd (may.flat refl)
full_asked (InFormat V1) format blocks limit asks may = absurd (may.flat (ap is_flat asks))
full_asked (InFormat V1R32) format blocks limit asks may = absurd (may.flat (ap is_flat asks))
full_asked asked format blocks limit asks may = (refl, refl)

-- for what an edit may be refused, whatever is told
pub edit_may : {T : Type 0} (asked : Asked) (name : List ℕ) (edit : Edit) (tells : Bool) (opened file : AnyFile)
    (before after : StoreSeen) (format : Format) (fault : EditFault)
    → any_seen opened ≡ fresh_seen name format → IsOpenedAs asked format
    → AnyEdits {T = T} edit tells opened file before after (Err fault)
    → ChangeMayRefuse asked edit name (edit_cause fault) name ⊎ MayRefuseOpening asked name (edit_cause fault) name
edit_may asked name edit tells opened file before after format (File Store) was asks edits = inr tt
edit_may asked name edit tells opened file before after format (File (Damage damage)) was asks edits =
    let formats : (any_seen opened).format ≡ format = ap (λ (s : FileSeen). s.format) was in
    inr (damage_may asked format damage asks (rw formats at edits.value.refused.may), refl)
edit_may asked name edit tells opened file before after format (File (Full blocks limit)) was asks edits =
    let formats : (any_seen opened).format ≡ format = ap (λ (s : FileSeen). s.format) was in
    let refused = edits.value.refused in
    let full = full_asked asked format blocks limit asks (rw formats at refused.may) in
    inl
    (refused.cause.0, full.0, refused.passes.0 ∙ ap (λ (s : FileSeen). s.limit) was ∙ full.1, refused.passes.1, refl)
edit_may asked name edit tells opened file before after format (File Memory) was asks edits = inr tt
edit_may asked name edit tells opened file before after format (Unfit out) was asks edits =
    let formats : (any_seen opened).format ≡ format = ap (λ (s : FileSeen). s.format) was in
    inl (refl, edits.no_room.id, (format, asks, rw formats at edits.no_room.may))
