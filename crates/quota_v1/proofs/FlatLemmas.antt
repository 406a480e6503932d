-- The records of a flat file and of the value that it stands for.
use Rattle.std.proofs.Common.{◌≡◌, ℕ, zero, suc, ◌+◌, ◌/◌, ◌%◌, ◌<◌, ◌≤◌, Bool, true, false, cond, List, length, Option}
use Rattle.std.proofs.Common.{Some, None, nat_le, refl, sym, ap, subst, ◌∙◌, ◌⊎◌, inl, inr, arith}
use Rattle.std.proofs.lemmas.Bool.{cases_lt, lt-leb}
use Rattle.std.specs.Ordering.{nat_cmp, eq_by_cmp, is_eq}
use Rattle.std.specs.declared.cmp.Ordering.TheVariants.{Less, Equal, Greater}
use Rattle.std.specs.Cmp.{nat_cmp_total, nat_cmp_is}
use Rattle.std.specs.FinMap.{get, insert, empty, get-empty, get-insert}
use Rattle.quota_types.specs.declared.file_kind.Kind.{Kind}
use Rattle.quota_types.specs.Format.{record_size}
use Rattle.quota_types.specs.declared.file_kind.Format.{Format}
use Rattle.quota_types.specs.declared.record.Rec.{Rec}
use Rattle.quota_types.specs.declared.record.Entry.{Entry}
use Rattle.quota_value.specs.QuotaValue.{QuotaValue, Records}
use Rattle.quota_value.specs.NextRecord.{IsNextAfter}
use Rattle.quota_types.specs.Ids.{IsAfter}
use Rattle.quota_v1.specs.FlatFile.{flat_record, flat_grace, FlatStandsFor, timed_record, unless_zeros}
use Rattle.quota_v1.specs.Slot.{IsFirstRecord}
use Rattle.quota_v1.specs.Place.{record_start}
use Rattle.quota_v1.proofs.PlaceLemmas.{past_all}

-- a record put in where there is one
with_record : Option Rec → ℕ → Records → Records
with_record None id records = records
with_record (Some rec) id records = insert records id rec

same_key : (id : ℕ) → eq_by_cmp nat_cmp id id ≡ true
same_key id = ap is_eq (sym (nat_cmp_is id id Equal refl))

lower_key : (q id : ℕ) → q < id → eq_by_cmp nat_cmp q id ≡ false
lower_key q id h = ap is_eq (sym (nat_cmp_is q id Less h))

higher_key : (q id : ℕ) → id < q → eq_by_cmp nat_cmp q id ≡ false
higher_key q id h = ap is_eq (sym (nat_cmp_is q id Greater h))

get-with_record-same : (found : Option Rec) (id : ℕ) (records : Records) → get records id ≡ None
    → get (with_record found id records) id ≡ found
unfolding with_record
get-with_record-same None id records none = none
get-with_record-same (Some rec) id records none =
    get-insert nat_cmp_total records id rec id ∙ ap (λ (b : Bool). cond b (Some rec) (get records id)) (same_key id)

get-with_record-other : (found : Option Rec) (id : ℕ) (records : Records) (q : ℕ) → eq_by_cmp nat_cmp q id ≡ false
    → get (with_record found id records) q ≡ get records q
unfolding with_record
get-with_record-other None id records q other = refl
get-with_record-other (Some rec) id records q other =
    get-insert nat_cmp_total records id rec q ∙ ap (λ (b : Bool). cond b (Some rec) (get records q)) other

-- the records of the first identifiers
records_below : Format → List ℕ → ℕ → Records
records_below format file zero = empty
records_below format file (suc n) = with_record (flat_record format file n) n (records_below format file n)

get-records_below-past : (format : Format) (file : List ℕ) (n q : ℕ) → n ≤ q
    → get (records_below format file n) q ≡ None
unfolding records_below
get-records_below-past format file zero q h = get-empty nat_cmp q
get-records_below-past format file (suc n) q h =
    get-with_record-other (flat_record format file n) n (records_below format file n) q (higher_key q n (omega arith))
    ∙ get-records_below-past format file n q (omega arith)

below_cases : (n q : ℕ) → q < suc n → (q < n) ⊎ (q ≡ n)
below_cases n q h = elim (cases_lt q n) [ inl low ↦ inl low | inr high ↦ inr (omega arith) ]

get-records_below : (format : Format) (file : List ℕ) (n q : ℕ) → q < n
    → get (records_below format file n) q ≡ flat_record format file q
unfolding records_below
get-records_below format file zero q h = absurd (omega arith)
get-records_below format file (suc n) q h = elim (below_cases n q h) [
  | inl low ↦ get-with_record-other (flat_record format file n) n (records_below format file n) q (lower_key q n low)
      ∙ get-records_below format file n q low
  | inr same ↦ subst
      (λ (k : ℕ). get (with_record (flat_record format file n) n (records_below format file n)) k
      ≡ flat_record format file k) (sym same)
      (get-with_record-same (flat_record format file n) n (records_below format file n)
      (get-records_below-past format file n n (omega arith)))
]

-- the value of a file of one kind
pub flat_value : Kind → Format → List ℕ → QuotaValue
flat_value kind format file = record {
  kind = kind;
  format = format;
  grace = flat_grace format file;
  flags = 0;
  records = records_below format file (length file / record_size format);
}

pub flat_value-kind : (kind : Kind) (format : Format) (file : List ℕ) → (flat_value kind format file).kind ≡ kind
unfolding flat_value
flat_value-kind kind format file = refl

pub flat_record-past : (format : Format) (file : List ℕ) (id : ℕ) → length file / record_size format ≤ id
    → flat_record format file id ≡ None
flat_record-past format file id h =
    let long : nat_le (record_start format id + record_size format) (length file) ≡ false =
    lt-leb (record_start format id + record_size format) (length file) (past_all format (length file) id h) in
    ap (λ (b : Bool). cond b (unless_zeros (timed_record format file id)) None) long

-- a file of whole records stands for its value
pub stands_for_value : (kind : Kind) (format : Format) (file : List ℕ) → length file % record_size format ≡ 0
    → FlatStandsFor format file (flat_value kind format file)
unfolding flat_value
stands_for_value kind format file whole = record {
  whole = whole;
  format = refl;
  flags = refl;
  grace = refl;
  records = λ id. elim (cases_lt id (length file / record_size format)) [
    | inl low ↦ get-records_below format file (length file / record_size format) id low
    | inr high ↦ get-records_below-past format file (length file / record_size format) id high
        ∙ sym (flat_record-past format file id high)
  ];
}

-- the first record from the identifier that comes after another one is the next one of the value
pub next_of_first : (format : Format) (file : List ℕ) (after : Option ℕ) (from records : ℕ) (found : Option Entry)
    (value : QuotaValue) → FlatStandsFor format file value → records ≡ length file / record_size format
    → ((id : ℕ) → IsAfter after id → from ≤ id) → ((id : ℕ) → from ≤ id → id < records → IsAfter after id)
    → IsFirstRecord format file from records found → IsNextAfter after value.records found
next_of_first format file after from records None value stands all first comes none =
    λ id is. elim (cases_lt id records) [
      | inl low ↦ stands.records id ∙ none id (first id is) low
      | inr high ↦ stands.records id ∙ flat_record-past format file id (omega (arith, all, high))
    ]
next_of_first format file after from records (Some entry) value stands all first comes next = (
  comes entry.id next.0 next.1,
  stands.records entry.id ∙ next.2,
  λ id is less. stands.records id ∙ next.3 id (first id is) less,
)
