-- What an edit of limits leaves of a value: the kind and the format, and all of it where nothing is to be done.
use Rattle.std.proofs.Common.{◌≡◌, inl, inr, ℕ, Bool, true, false, cond, Option, None, Some, Ok, if◌then◌else◌, refl}
use Rattle.std.proofs.Common.{sym, ap, ◌∙◌, eq-eqb, ne_eqb}
use Rattle.std.specs.Prelude.{◌&&◌, is_none}
use Rattle.std.proofs.lemmas.Bool.{false≢true}
use Rattle.std.proofs.lemmas.Bool.Decides.{eqb_tells}
use Rattle.std.specs.Cmp.{nat_cmp_total, unsigned_tied}
use Rattle.std.specs.FinMap.{get, get-remove, nat_cmp-IsAntisymmetric, remove, same_map}
use Rattle.quota_types.specs.Kept.{kept_of}
use Rattle.quota_types.specs.Range.{unfit}
use Rattle.quota_types.specs.Rec.{is_null_of}
use Rattle.quota_types.specs.declared.field.Field.{Field}
use Rattle.quota_types.specs.declared.record.Rec.{Rec}
use Rattle.opened_file.specs.FileChange.{Put, Remove, changed_value}
use Rattle.quota_value.specs.QuotaValue.{QuotaValue, Records}
use Rattle.set_edit.specs.Edited.{limits_set, unless_unfit, wanted_limits}
use Rattle.set_edit.specs.Edits.{limits_idle}
use Rattle.set_edit.specs.declared.limits.Limits.{Limits}

-- What an edit of limits keeps.

-- of a field of the value that a changed record leaves
pub kept_field : {A : Type 0} (field : QuotaValue → A)
    (same : (value : QuotaValue) (records : Records) → field (record value { records = records }) ≡ field value)
    (value : QuotaValue) (id : ℕ) (kept : Rec) (null : Bool)
    → field (changed_value (if null then Remove id else Put id kept) value) ≡ field value
kept_field field same value id kept true = same value _
kept_field field same value id kept false = same value _

pub fits_field : {A : Type 0} (field : QuotaValue → A) (value next new : QuotaValue) (out : Option (Field × ℕ))
    → field next ≡ field value → unless_unfit out next ≡ Ok new → field new ≡ field value
fits_field field value next new None same is = let next_is : next ≡ new = cc in ap field (sym next_is) ∙ same
fits_field field value next new (Some out) same is = absurd (cc)

pub set_kind : (value new : QuotaValue) (id : ℕ) (limits : Limits) (now : ℕ) → limits_set value id limits now ≡ Ok new
    → new.kind ≡ value.kind
set_kind value new id limits now is =
    fits_field (λ (v : QuotaValue). v.kind) value _ new _
    (kept_field (λ (v : QuotaValue). v.kind) (λ v r. refl) value id _ _) is

pub set_format : (value new : QuotaValue) (id : ℕ) (limits : Limits) (now : ℕ) → limits_set value id limits now ≡ Ok new
    → new.format ≡ value.format
set_format value new id limits now is =
    fits_field (λ (v : QuotaValue). v.format) value _ new _
    (kept_field (λ (v : QuotaValue). v.format) (λ v r. refl) value id _ _) is

-- Where nothing is to be done.

-- what has no record of an identifier is the same once it is taken away
removed_none : (records : Records) (id k : ℕ) → get records id ≡ None → get (remove records id) k ≡ get records k
removed_none records id k none = elim (eqb_tells k id) [
  | inl own ↦ get-remove nat_cmp_total records id k
      ∙ ap (λ (b : Bool). cond b None (get records k)) (unsigned_tied k id ∙ eq-eqb k id own.1)
      ∙ sym (ap (get records) own.1 ∙ none)
  | inr other ↦ get-remove nat_cmp_total records id k
      ∙ ap (λ (b : Bool). cond b None (get records k)) (unsigned_tied k id ∙ ne_eqb k id other.1)
]

none_removed : (value : QuotaValue) (id : ℕ) → get value.records id ≡ None
    → record value { records = remove value.records id } ≡ value
none_removed value id none =
    ap (λ (r : Records). record value { records = r })
    (same_map nat_cmp_total nat_cmp-IsAntisymmetric (remove value.records id) value.records
    (λ k. removed_none value.records id k none))

null_same : (value new : QuotaValue) (id : ℕ) (kept : Rec) (null : Bool) (out : Option (Field × ℕ))
    → get value.records id ≡ None → null ≡ true
    → unless_unfit out (changed_value (if null then Remove id else Put id kept) value) ≡ Ok new → new ≡ value
null_same value new id kept true None none is set =
    let next_is : record value { records = remove value.records id } ≡ new = cc in
    sym next_is ∙ none_removed value id none
null_same value new id kept true (Some out) none is set = absurd (cc)
null_same value new id kept false out none is set = absurd (false≢true is)

found_same : (value new : QuotaValue) (id : ℕ) (limits : Limits) (now : ℕ) (found : Option Rec)
    → get value.records id ≡ found → (is_none found && is_null_of (wanted_limits None limits value.grace now)) ≡ true
    → unless_unfit (unfit value.format id (wanted_limits found limits value.grace now))
    (changed_value (if is_null_of (wanted_limits found limits value.grace now) then Remove id
    else Put id (kept_of value.format id (wanted_limits found limits value.grace now))) value) ≡ Ok new
    → new ≡ value
found_same value new id limits now None none idle set =
    null_same value new id _ (is_null_of (wanted_limits None limits value.grace now)) _ none idle set
found_same value new id limits now (Some rec) none idle set = absurd (false≢true idle)

pub idle_same : (value new : QuotaValue) (id : ℕ) (limits : Limits) (now : ℕ) → limits_idle value id limits now ≡ true
    → limits_set value id limits now ≡ Ok new → new ≡ value
idle_same value new id limits now idle set = found_same value new id limits now (get value.records id) refl idle set
