-- An edit of one identifier's record, from what was looked up of it and the record that is put or taken away.
use Rattle.std.proofs.Common.{◌≡◌, ℕ, Bool, true, false, Option, None, Some, unwrap_or, Result, Ok, refl, sym, ap}
use Rattle.std.proofs.Common.{subst, ◌∙◌}
use Rattle.std.specs.Prelude.{◌&&◌, is_none, if◌then◌else◌}
use Rattle.std.specs.FinMap.{get}
use Rattle.quota_types.specs.Kept.{kept_of}
use Rattle.quota_types.specs.Range.{grace_unfit, unfit}
use Rattle.quota_types.specs.Rec.{is_null_of, zero_record}
use Rattle.quota_types.specs.Timers.{timers_of}
use Rattle.quota_types.specs.declared.field.Field.{Field}
use Rattle.quota_types.specs.declared.file_kind.Format.{Format}
use Rattle.quota_types.specs.declared.record.Grace.{Grace}
use Rattle.quota_types.specs.declared.record.Rec.{Rec}
use Rattle.quota_types.proofs.KeptLemmas.{kept_null}
use Rattle.opened_file.specs.Changes.{FileAt}
use Rattle.opened_file.specs.FileChange.{FileChange, Put, Remove, SetGrace, changed_value}
use Rattle.opened_file.specs.ValueEdits.{edit_by, has_nothing_to_do, may_lack_room}
use Rattle.quota_value.specs.QuotaValue.{QuotaValue, with_grace}
use Rattle.outside.proofs.FrameLemmas.{only_reads-none}
use Rattle.opened_file.proofs.LookupLemmas.{IsLookedUp, IsSameAt}
use Rattle.set_edit.specs.declared.limits.Limits.{Limits}
use Rattle.set_edit.specs.declared.time_word.TimeWord.{TimeWord}
use Rattle.set_edit.specs.Edited.{edited, kept_change, unless_unfit, wanted_limits, with_kept, with_limits}
use Rattle.set_edit.specs.EditCalls.{change_to, with_or_without, value_edit}
use Rattle.set_edit.specs.Editing.{Edit}
use Rattle.set_edit.specs.Edits.{grace_edit, limits_edit, times_edit}
use Rattle.set_edit.specs.Times.{found_or_zeros, skips_both, times_skipped, wanted_times, with_times}

-- the change to what the format keeps is the one that is made of it
pub change_to-is : (format : Format) (id : ℕ) (rec next : Rec) → next ≡ kept_of format id rec
    → kept_change format id rec ≡ change_to id next
change_to-is format id rec next kept =
    let P : Rec → Type 0 = λ r. kept_change format id rec ≡ change_to id r in
    subst P (sym kept)
    (ap (λ (b : Bool). if b then Remove id else Put id (kept_of format id rec)) (sym (kept_null format id rec)))

pub edited-fits : (value : QuotaValue) (id : ℕ) (rec next : Rec) → unfit value.format id rec ≡ None
    → next ≡ kept_of value.format id rec → edited value id rec ≡ Ok (with_or_without value id next)
edited-fits value id rec next fits kept =
    ap (λ (o : Option (Field × ℕ)). unless_unfit o (with_kept value id rec)) fits
    ∙ ap (λ (change : FileChange). let r : Result QuotaValue (Field × ℕ) = Ok (changed_value change value) in r)
    (change_to-is value.format id rec next kept)

-- What was looked up of an identifier, as far as an edit of its record goes on from there: its record, and the format.
pub record HasFound (id : ℕ) (old mid : FileAt) (found : Option Rec) (format : Format) : Type 0 where
  pub up : IsLookedUp old mid
  pub looked : (value : QuotaValue) → old.holds value → found ≡ get value.records id
  pub value : (value : QuotaValue) → mid.holds value → format ≡ value.format

-- a fact of what was looked up is one of the value
fact_of : (id : ℕ) (old mid : FileAt) (found : Option Rec) (format : Format) → HasFound id old mid found format
    → (P : QuotaValue → Format → Option Rec → Type 0) → ((value : QuotaValue) → mid.holds value → P value format found)
    → (value : QuotaValue) → old.holds value → P value value.format (get value.records id)
fact_of id old mid found format seen P fact value holds =
    let held = seen.up.stays value holds in
    subst (λ (f : Format). P value f (get value.records id)) (seen.value value held)
    (subst (λ (f : Option Rec). P value format f) (seen.looked value holds) (fact value held))

idle_by : (id : ℕ) (next : Rec) (value : QuotaValue) (null none : Bool) → is_none (get value.records id) ≡ none
    → has_nothing_to_do (if null then Remove id else Put id next) value ≡ (none && null)
idle_by id next value true true is = is
idle_by id next value true false is = is
idle_by id next value false true is = refl
idle_by id next value false false is = refl

room_by : (id : ℕ) (next : Rec) (null : Bool) → true ≡ may_lack_room (if null then Remove id else Put id next)
room_by id next true = refl
room_by id next false = refl

-- What is put is what an edit makes of the values that the file holds: the format keeps it of a record for which it has
-- room, and both idle at the same values.
same_at : (edit : Edit) (id : ℕ) (next : Rec) (at : FileAt) → edit.needs_room ≡ true
    → ((value : QuotaValue) → at.holds value → edit.edited value ≡ Ok (with_or_without value id next))
    → ((value : QuotaValue) → at.holds value → edit.change value ≡ change_to id next)
    → ((value : QuotaValue) → at.holds value → edit.is_idle value ≡ (is_none (get value.records id) && is_null_of next))
    → IsSameAt (value_edit edit) (edit_by (change_to id next)) at
same_at edit id next at room edited change idle = record {
  edited = edited;
  change = change;
  idle = λ value holds.
      idle value holds ∙ sym (idle_by id next value (is_null_of next) (is_none (get value.records id)) refl);
  room = room ∙ room_by id next (is_null_of next);
}

null_same : (found : Option Rec) (limits : Limits) (grace : Grace) (now : ℕ) (null : Bool)
    → null ≡ is_null_of (wanted_limits found limits grace now)
    → (is_none found && is_null_of (wanted_limits None limits grace now)) ≡ (is_none found && null)
null_same None limits grace now null is = sym is
null_same (Some rec) limits grace now null is = refl

-- to set four limits is the change to what the format keeps of the wanted record, where all that it is made of was
-- looked up
pub limits-same : (id : ℕ) (limits : Limits) (now : ℕ) (old mid : FileAt) (found : Option Rec) (format : Format)
    (grace : Grace) (rec next : Rec)
    → HasFound id old mid found format → ((value : QuotaValue) → mid.holds value → grace ≡ value.grace)
    → rec ≡ with_limits (unwrap_or found zero_record) limits
    → unfit format id (timers_of rec grace now) ≡ None → next ≡ kept_of format id (timers_of rec grace now)
    → is_null_of next ≡ is_null_of rec
    → IsSameAt (value_edit (limits_edit id limits now)) (edit_by (change_to id next)) old
limits-same id limits now old mid found format grace rec next seen periods limited fits kept null =
    let P : Format → Option Rec → Rec → Type 0 =
    λ f o r. (unfit f id r ≡ None) × (next ≡ kept_of f id r) × (is_null_of next ≡ is_null_of r) in
    let is = fact_of id old mid found format seen (λ value f o. P f o (wanted_limits o limits value.grace now))
    (λ value holds. subst (λ (g : Grace). P format found (wanted_limits found limits g now)) (periods value holds)
    (subst (λ (r : Rec). P format found (timers_of r grace now)) limited (fits, kept, null))) in
    same_at (limits_edit id limits now) id next old refl
    (λ value holds. edited-fits value id _ next (is value holds).0 (is value holds).1)
    (λ value holds. change_to-is value.format id _ next (is value holds).1)
    (λ value holds. null_same (get value.records id) limits value.grace now (is_null_of next) (is value holds).2)

busy_same : (found : Option Rec) (null : Bool) → skips_both (times_skipped (found_or_zeros found)) ≡ false
    → skips_both (times_skipped (found_or_zeros found)) ≡ (is_none found && null)
busy_same None null busy = absurd (cc)
busy_same (Some rec) null busy = busy

-- to set the times is the change to what the format keeps of the wanted record, where they are not both skipped
pub times-same : (id : ℕ) (block inode : TimeWord) (now : ℕ) (old mid : FileAt) (found : Option Rec) (format : Format)
    (rec next : Rec)
    → HasFound id old mid found format → rec ≡ found_or_zeros found
    → unfit format id (with_times rec block inode now) ≡ None
    → next ≡ kept_of format id (with_times rec block inode now)
    → skips_both (times_skipped rec) ≡ false
    → IsSameAt (value_edit (times_edit id block inode now)) (edit_by (change_to id next)) old
times-same id block inode now old mid found format rec next seen zeros fits kept busy =
    let W : Rec → Rec = λ r. with_times r block inode now in
    let P : Format → Rec → Type 0 =
    λ f r. (unfit f id (W r) ≡ None) × (next ≡ kept_of f id (W r)) × (skips_both (times_skipped r) ≡ false) in
    let is = fact_of id old mid found format seen (λ value f o. P f (found_or_zeros o))
    (λ value holds. subst (λ (r : Rec). P format r) zeros (fits, kept, busy)) in
    same_at (times_edit id block inode now) id next old refl
    (λ value holds.
    ap (λ (b : Bool). let wanted = wanted_times value id block inode now in
    unless_unfit (unfit value.format id wanted) (if b then value else with_kept value id wanted)) (is value holds).2
    ∙ edited-fits value id _ next (is value holds).0 (is value holds).1)
    (λ value holds. change_to-is value.format id _ next (is value holds).1)
    (λ value holds. busy_same (get value.records id) (is_null_of next) (is value holds).2)

-- to set grace periods for which the format has room is the change to them
pub grace-same : (grace : Grace) (at : FileAt) (format : Format)
    → ((value : QuotaValue) → at.holds value → format ≡ value.format)
    → grace_unfit format grace ≡ None → IsSameAt (value_edit (grace_edit grace)) (edit_by (SetGrace grace)) at
grace-same grace at format is fits = record {
  edited = λ value holds. ap (λ (out : Option (Field × ℕ)). unless_unfit out (with_grace value grace))
      (subst (λ (f : Format). grace_unfit f grace ≡ None) (is value holds) fits);
  change = λ value holds. refl;
  idle = λ value holds. refl;
  room = refl;
}

-- where nothing was looked up all is as it was
pub is_looked_up-none : (at : FileAt) → IsLookedUp at at
is_looked_up-none at =
    record { stays = λ value holds. holds; leaves = only_reads-none at.seen.name at.store; same = refl }
