-- The records that identifiers are to have, one after another.
use Rattle.std.proofs.Common.{◌≡◌, ◌≢◌, ℕ, suc, ◌<◌, ◌≤◌, true, false, cond, List, [], ◌∷◌, ◌++◌, map, Option, Some}
use Rattle.std.proofs.Common.{None, Ok, Err, refl, sym, ap, subst, ◌∙◌, inl, inr, arith, append-nil, append_assoc}
use Rattle.std.proofs.Common.{eq-eqb, ne_eqb}
use Rattle.std.specs.Prelude.{◌||◌, ◌⊎◌, min, is_some, IfSome, IsSome, slice_get}
use Rattle.std.specs.Cmp.{nat_cmp_total, unsigned_tied}
use Rattle.std.specs.FinMap.{contains_key-keys, entries, find, from_entries, get, get-from_entries, keys}
use Rattle.std.specs.List.{cons_option, filter_map, list_any}
use Rattle.std.specs.List.Sorted.{IsStrictlyIncreasing}
use Rattle.std.specs.Option.{option_map, option_to_list}
use Rattle.std.specs.Ordering.{eq_by_cmp, nat_cmp}
use Rattle.std.proofs.lemmas.Bool.{cases_lt}
use Rattle.std.proofs.lemmas.Bool.Decides.{eqb_tells}
use Rattle.std.proofs.lemmas.List.{map-append}
use Rattle.std.proofs.lemmas.List.Folds.{list_any-append}
use Rattle.quota_types.specs.declared.field.NoRoom.{NoRoom}
use Rattle.quota_types.specs.declared.file_kind.Format.{Format}
use Rattle.quota_types.specs.declared.record.Entry.{Entry}
use Rattle.quota_types.specs.declared.record.Grace.{Grace}
use Rattle.quota_types.specs.declared.record.Rec.{Rec}
use Rattle.quota_types.proofs.AscendsLemmas.{Ascends, Ascends-of}
use Rattle.quota_value.specs.Listed.{ids_of, records_of}
use Rattle.quota_types.specs.Ids.{IsAfter}
use Rattle.quota_value.specs.QuotaValue.{Records}
use Rattle.quota_value.specs.NextRecord.{IsNextAfter}
use Rattle.quota_value.proofs.EntriesLemmas.{entries_after, entries_after-all, entries_after-end, entries_after-next}
use Rattle.quota_value.proofs.EntriesLemmas.{IsAfter-more}
use Rattle.quota_value.proofs.ListedLemmas.{pairs_of}
use Rattle.inode_scan.specs.declared.used.Used.{Used}
use Rattle.inode_scan.specs.Apply.{IsKeptEntry, applied, first_no_room, kept_entry, kept_records, no_room, wanted}
use Rattle.inode_scan.specs.Apply.{wanted_record}
use Rattle.inode_scan.specs.Faults.{unless}
use Rattle.inode_scan.specs.Merge.{first_id, least_id, record_at, records_behind}
use Rattle.inode_scan.specs.Usage.{UsageMap}
use Rattle.inode_scan.specs.UsageSums.{IsNextUser}

-- Numbers.

tied : (id n : ℕ) → id ≡ n → eq_by_cmp nat_cmp id n ≡ true
tied id n own = unsigned_tied id n ∙ eq-eqb id n own

untied : (id n : ℕ) → id ≢ n → eq_by_cmp nat_cmp id n ≡ false
untied id n other = unsigned_tied id n ∙ ne_eqb id n other

-- What is wanted, at one identifier.

found_made : {X : Type 0} (made : ℕ → X) (ids : List ℕ) (id : ℕ)
    → find nat_cmp id (map (λ k. (k, made k)) ids) ≡ cond (list_any (eq_by_cmp nat_cmp id) ids) (Some (made id)) None
found_made made [] id = refl
found_made {X} made (k ∷ ids) id = elim (eqb_tells id k) [
  | inl own ↦
      ap (λ b. cond b (Some (made k)) (find nat_cmp id (map (λ k. (k, made k)) ids))) (tied id k own.1)
      ∙ ap (λ n. Some (made n)) (sym own.1)
      ∙ ap (λ b. cond (b || list_any (eq_by_cmp nat_cmp id) ids) (Some (made id)) None) (sym (tied id k own.1))
  | inr other ↦
      ap (λ b. cond b (Some (made k)) (find nat_cmp id (map (λ k. (k, made k)) ids))) (untied id k other.1)
      ∙ found_made made ids id
      ∙ ap (λ b. cond (b || list_any (eq_by_cmp nat_cmp id) ids) (Some (made id)) None) (sym (untied id k other.1))
]

pub wanted_at : (grace : Grace) (now : ℕ) (records : Records) (usage : UsageMap) (id : ℕ)
    → get (wanted grace now records usage) id
    ≡ cond (is_some (get records id) || is_some (get usage id))
    (Some (wanted_record grace now (get records id) (get usage id))) None
unfolding wanted
wanted_at grace now records usage id =
    let made : ℕ → Rec = λ k. wanted_record grace now (get records k) (get usage k) in
    get-from_entries nat_cmp_total (map (λ k. (k, made k)) (keys records ++ keys usage)) id
    ∙ found_made made (keys records ++ keys usage) id
    ∙ ap (λ b. cond b (Some (made id)) None) (list_any-append (eq_by_cmp nat_cmp id) (keys records) (keys usage)
    ∙ ap (λ b. b || list_any (eq_by_cmp nat_cmp id) (keys usage)) (sym (contains_key-keys records id))
    ∙ ap (λ b. is_some (get records id) || b) (sym (contains_key-keys usage id)))

wanted_none : (grace : Grace) (now : ℕ) (records : Records) (usage : UsageMap) (id : ℕ) → get records id ≡ None
    → get usage id ≡ None → get (wanted grace now records usage) id ≡ None
wanted_none grace now records usage id none unused =
    wanted_at grace now records usage id
    ∙ ap (λ (o : Option Rec).
    cond (is_some o || is_some (get usage id)) (Some (wanted_record grace now o (get usage id))) None) none
    ∙ ap (λ (o : Option Used). cond (is_some o) (Some (wanted_record grace now None o)) None) unused

either_some : (rec : Option Rec) (used : Option Used) → IsSome rec ⊎ IsSome used → (is_some rec || is_some used) ≡ true
either_some (Some rec) used some = refl
either_some None (Some used) some = refl
either_some None None (inl some) = absurd (cc)
either_some None None (inr some) = absurd (cc)

wanted_some : (grace : Grace) (now : ℕ) (records : Records) (usage : UsageMap) (id : ℕ)
    → IsSome (get records id) ⊎ IsSome (get usage id)
    → get (wanted grace now records usage) id ≡ Some (wanted_record grace now (get records id) (get usage id))
wanted_some grace now records usage id some =
    wanted_at grace now records usage id
    ∙ ap (λ b. cond b (Some (wanted_record grace now (get records id) (get usage id))) None)
    (either_some (get records id) (get usage id) some)

-- Lists whose identifiers ascend.

-- what is below all is not found
below_all : (low id : ℕ) (list : List Entry) → Ascends low (ids_of list) → id < low
    → find nat_cmp id (pairs_of list) ≡ None
below_all low id [] ascends below = refl
below_all low id (entry ∷ list) ascends below =
    let from : low ≤ entry.id = ascends.0 in
    ap (λ b. cond b (Some entry.rec) (find nat_cmp id (pairs_of list)))
    (untied id entry.id (λ same. omega (arith, same)))
    ∙ below_all (suc entry.id) id list ascends.1 (omega arith)

-- no identifier of a list is less than this one
abbrev IsFrom : ℕ → List Entry → Type 0
IsFrom id list = IfSome (first_id list) (λ first. id ≤ first)

record_is : (low id : ℕ) (list : List Entry) → Ascends low (ids_of list) → IsFrom id list
    → record_at id list ≡ find nat_cmp id (pairs_of list)
record_is low id [] ascends from = refl
record_is low id (entry ∷ list) ascends from = elim (eqb_tells entry.id id) [
  | inl own ↦
      ap (λ b. cond b (Some entry.rec) None) own.0
      ∙ ap (λ b. cond b (Some entry.rec) (find nat_cmp id (pairs_of list))) (sym (tied id entry.id (sym own.1)))
  | inr other ↦
      let apart : id < entry.id = omega (arith, from, other.1) in
      ap (λ b. cond b (Some entry.rec) None) other.0
      ∙ sym (ap (λ b. cond b (Some entry.rec) (find nat_cmp id (pairs_of list)))
      (untied id entry.id (λ same. omega (arith, same)))
      ∙ below_all (suc entry.id) id list ascends.1 (omega arith))
]

behind_ascends : (low id : ℕ) (list : List Entry) → Ascends low (ids_of list) → IsFrom id list
    → Ascends (suc id) (ids_of (records_behind id list))
behind_ascends low id [] ascends from = tt
behind_ascends low id (entry ∷ list) ascends from = elim (eqb_tells entry.id id) [
  | inl own ↦ subst (λ b. Ascends (suc id) (ids_of (cond b list (entry ∷ list)))) (sym own.0)
      (subst (λ n. Ascends (suc n) (ids_of list)) own.1 ascends.1)
  | inr other ↦ subst (λ b. Ascends (suc id) (ids_of (cond b list (entry ∷ list)))) (sym other.0)
      (omega (arith, from, other.1), ascends.1)
]

behind_same : (id k : ℕ) (list : List Entry) → id < k
    → find nat_cmp k (pairs_of (records_behind id list)) ≡ find nat_cmp k (pairs_of list)
behind_same id k [] behind = refl
behind_same id k (entry ∷ list) behind = elim (eqb_tells entry.id id) [
  | inl own ↦
      ap (λ b. find nat_cmp k (pairs_of (cond b list (entry ∷ list)))) own.0
      ∙ sym (ap (λ b. cond b (Some entry.rec) (find nat_cmp k (pairs_of list)))
      (untied k entry.id (λ same. omega (arith, same, own.1))))
  | inr other ↦ ap (λ b. find nat_cmp k (pairs_of (cond b list (entry ∷ list)))) other.0
]

-- The rest of the list.

-- the least number that comes after another one, or after none
abbrev pub from_after : Option ℕ → ℕ
from_after None = 0
from_after (Some id) = suc id

pub after_is : (after : Option ℕ) (id : ℕ) → IsAfter after id → from_after after ≤ id
after_is None id is = omega arith
after_is (Some after) id is = omega arith

is_after : (after : Option ℕ) (id : ℕ) → from_after after ≤ id → IsAfter after id
is_after None id is = tt
is_after (Some after) id is = omega arith

-- what is left of a list has the records of the identifiers that come after
pub record IsRest (after : Option ℕ) (list rest : List Entry) : Type 0 where
  pub same : (id : ℕ) → IsAfter after id → get (records_of rest) id ≡ get (records_of list) id
  pub ascends : Ascends (from_after after) (ids_of rest)

pub rest_all : (list : List Entry) → IsStrictlyIncreasing (ids_of list) → IsRest None list list
rest_all list rising = record { same = λ id is. refl; ascends = Ascends-of (ids_of list) rising }

rest_more : (after : Option ℕ) (list rest : List Entry) (id : ℕ) → IsRest after list rest → IsAfter after id
    → IsFrom id rest → IsRest (Some id) list (records_behind id rest)
rest_more after list rest id is later from = record {
  same = λ k behind.
      get-from_entries nat_cmp_total (pairs_of (records_behind id rest)) k ∙ behind_same id k rest behind
      ∙ sym (get-from_entries nat_cmp_total (pairs_of rest) k) ∙ is.same k (IsAfter-more after id k later behind);
  ascends = behind_ascends (from_after after) id rest is.ascends from;
}

pub rest_record : (after : Option ℕ) (list rest : List Entry) (id : ℕ) → IsRest after list rest → IsAfter after id
    → IsFrom id rest → record_at id rest ≡ get (records_of list) id
rest_record after list rest id is later from =
    record_is (from_after after) id rest is.ascends from ∙ sym (get-from_entries nat_cmp_total (pairs_of rest) id)
    ∙ is.same id later

-- between what comes after and the first of the rest there is no record
rest_none : (after : Option ℕ) (list rest : List Entry) (k : ℕ) → IsRest after list rest → IsAfter after k
    → IfSome (first_id rest) (λ first. k < first) → get (records_of list) k ≡ None
rest_none after list [] k is later below = sym (is.same k later) ∙ get-from_entries nat_cmp_total [] k
rest_none after list (entry ∷ rest) k is later below =
    sym (is.same k later) ∙ get-from_entries nat_cmp_total (pairs_of (entry ∷ rest)) k
    ∙ below_all entry.id k (entry ∷ rest) (omega arith, is.ascends.1) below

-- The next identifier.

-- it is the least of both
record IsLeast (first used : Option ℕ) (id : ℕ) : Type 0 where
  from : IfSome first (λ first. id ≤ first)
  below : IfSome used (λ used. id ≤ used)
  one : (first ≡ Some id) ⊎ (used ≡ Some id)

none_some : {A : Type 0} (id : ℕ) → None ≡ Some id → A
none_some id e = absurd (cc)

least_is : (first used : Option ℕ) (id : ℕ) → least_id first used ≡ Some id → IsLeast first used id
least_is None None id is = none_some id is
least_is None (Some used) id is =
    let same : used ≡ id = cc in record { from = tt; below = omega (arith, same); one = inr is }
least_is (Some first) None id is =
    let same : first ≡ id = cc in record { from = omega (arith, same); below = tt; one = inl is }
least_is (Some first) (Some used) id is =
    let same : min used first ≡ id = cc in
    record { from = omega (arith, same); below = omega (arith, same); one = which used first id same }
  where
    which : (used first id : ℕ) → min used first ≡ id → (Some first ≡ Some id) ⊎ (Some used ≡ Some id)
    which used first id same = elim (cases_lt used first) [
      | inl lt ↦ inr (ap Some (omega (arith, lt, same)))
      | inr le ↦ inl (ap Some (omega (arith, le, same)))
    ]

first_after : (after : Option ℕ) (list rest : List Entry) (id : ℕ) → IsRest after list rest → first_id rest ≡ Some id
    → IsAfter after id
first_after after list [] id is e = none_some id e
first_after after list (entry ∷ rest) id is e =
    let same : entry.id ≡ id = cc in is_after after id (omega (arith, is.ascends.0, same))

first_record : (rest : List Entry) (id : ℕ) → first_id rest ≡ Some id → IsSome (record_at id rest)
first_record [] id e = none_some id e
first_record (entry ∷ rest) id e =
    let same : entry.id ≡ id = cc in ap (λ b. is_some (cond b (Some entry.rec) None)) (eq-eqb entry.id id same)

user_after : (after : Option ℕ) (usage : UsageMap) (used : Option ℕ) (id : ℕ) → IsNextUser after usage used
    → used ≡ Some id → IsAfter after id × IsSome (get usage id)
user_after after usage None id next e = none_some id e
user_after after usage (Some used) id next e =
    let same : used ≡ id = cc in (subst (IsAfter after) same next.0, subst (λ n. IsSome (get usage n)) same next.1)

no_user : (after : Option ℕ) (usage : UsageMap) (used : Option ℕ) (k : ℕ) → IsNextUser after usage used
    → IsAfter after k → IfSome used (λ used. k < used) → get usage k ≡ None
no_user after usage None k next later below = next k later
no_user after usage (Some used) k next later below = next.2 k later below

below_less : (o : Option ℕ) (id k : ℕ) → IfSome o (λ n. id ≤ n) → k < id → IfSome o (λ n. k < n)
below_less None id k le lt = tt
below_less (Some n) id k le lt = omega (arith, le, lt)

module _ (grace : Grace) (now : ℕ) (list rest : List Entry) (usage : UsageMap) (after used : Option ℕ)
    (is : IsRest after list rest) (next : IsNextUser after usage used) where
  -- the record that the least identifier is to have
  abbrev pub wanted_of : ℕ → Rec
  wanted_of id = wanted_record grace now (record_at id rest) (get usage id)

  -- the identifier is the next that is to have a record
  pub next_wanted : (id : ℕ) → least_id (first_id rest) used ≡ Some id
      → IsNextAfter after (wanted grace now (records_of list) usage) (Some (record { id = id; rec = wanted_of id }))
  next_wanted id e =
      let least : IsLeast (first_id rest) used id = least_is (first_id rest) used id e in
      let later : IsAfter after id = elim least.one [
        | inl first ↦ first_after after list rest id is first
        | inr user ↦ (user_after after usage used id next user).0
      ] in
      let rec : record_at id rest ≡ get (records_of list) id = rest_record after list rest id is later least.from in
      let some : IsSome (get (records_of list) id) ⊎ IsSome (get usage id) =
      elim least.one [
        | inl first ↦ inl (subst (λ (o : Option Rec). IsSome o) rec (first_record rest id first))
        | inr user ↦ inr ((user_after after usage used id next user).1)
      ] in (
        later,
        wanted_some grace now (records_of list) usage id some
            ∙ ap (λ (o : Option Rec). Some (wanted_record grace now o (get usage id))) (sym rec),
        λ k behind less. wanted_none grace now (records_of list) usage k
            (rest_none after list rest k is behind (below_less (first_id rest) id k least.from less))
            (no_user after usage used k next behind (below_less used id k least.below less)),
      )

  pub next_rest : (id : ℕ) → least_id (first_id rest) used ≡ Some id → IsRest (Some id) list (records_behind id rest)
  next_rest id e =
      let least : IsLeast (first_id rest) used id = least_is (first_id rest) used id e in
      let later : IsAfter after id = elim least.one [
        | inl first ↦ first_after after list rest id is first
        | inr user ↦ (user_after after usage used id next user).0
      ] in
      rest_more after list rest id is later least.from

  -- no identifier is to have a record any more
  pub none_wanted : least_id (first_id rest) used ≡ None
      → IsNextAfter after (wanted grace now (records_of list) usage) None
  none_wanted e =
      λ k behind. wanted_none grace now (records_of list) usage k
      (rest_none after list rest k is behind (no_first (first_id rest) used k e))
      (no_user after usage used k next behind (no_used (first_id rest) used k e))
    where
      no_first : (first used : Option ℕ) (k : ℕ) → least_id first used ≡ None → IfSome first (λ first. k < first)
      no_first None used k e = tt
      no_first (Some first) None k e = absurd (cc)
      no_first (Some first) (Some used) k e = absurd (cc)

      no_used : (first used : Option ℕ) (k : ℕ) → least_id first used ≡ None → IfSome used (λ used. k < used)
      no_used None None k e = tt
      no_used None (Some used) k e = absurd (cc)
      no_used (Some first) None k e = tt
      no_used (Some first) (Some used) k e = absurd (cc)

-- What was done.

-- so far nothing was refused, and the entries are what is kept of the records up to an identifier
pub record IsDone (format : Format) (records : Records) (after : Option ℕ) (done : List Entry) : Type 0 where
  pub kept : filter_map (kept_entry format) (entries records)
      ≡ pairs_of done ++ filter_map (kept_entry format) (entries_after after (entries records))
  pub clean : first_no_room format records
      ≡ slice_get (filter_map (no_room format) (entries_after after (entries records))) 0

pub done_none : (format : Format) (records : Records) → IsDone format records None []
done_none format records = record {
  kept = ap (filter_map (kept_entry format)) (sym (entries_after-all (entries records)));
  clean = ap (λ es. slice_get (filter_map (no_room format) es) 0) (sym (entries_after-all (entries records)));
}

cons_is : {X : Type 0} (o : Option X) (xs : List X) → cons_option o xs ≡ option_to_list o ++ xs
cons_is None xs = refl
cons_is (Some x) xs = refl

pairs_push : (done : List Entry) (entry : Option Entry)
    → pairs_of (done ++ option_to_list entry) ≡ pairs_of done ++ option_to_list (option_map (λ e. (e.id, e.rec)) entry)
pairs_push done None = ap pairs_of (append-nil done) ∙ sym (append-nil (pairs_of done))
pairs_push done (Some entry) = map-append (λ (e : Entry). (e.id, e.rec)) done (entry ∷ [])

pub done_more : (format : Format) (records : Records) (after : Option ℕ) (done more : List Entry) (id : ℕ) (rec : Rec)
    (entry : Option Entry) → IsDone format records after done
    → IsNextAfter after records (Some (record { id = id; rec = rec })) → no_room format (id, rec) ≡ None
    → IsKeptEntry format (id, rec) entry → more ≡ done ++ option_to_list entry
    → IsDone format records (Some id) more
done_more format records after done more id rec entry is next fits keeps e =
    let behind : List (ℕ × Rec) = entries_after (Some id) (entries records) in
    let step : entries_after after (entries records) ≡ (id, rec) ∷ behind =
    entries_after-next after records (record { id = id; rec = rec }) next in
    record {
      kept =
          is.kept
          ∙ ap (λ es. pairs_of done ++ filter_map (kept_entry format) es) step
          ∙ ap (λ o. pairs_of done ++ cons_option o (filter_map (kept_entry format) behind)) (sym keeps)
          ∙ ap (λ es. pairs_of done ++ es)
          (cons_is (option_map (λ e. (e.id, e.rec)) entry) (filter_map (kept_entry format) behind))
          ∙ sym (append_assoc (pairs_of done) (option_to_list (option_map (λ e. (e.id, e.rec)) entry))
          (filter_map (kept_entry format) behind))
          ∙ ap (λ es. es ++ filter_map (kept_entry format) behind) (sym (pairs_push done entry) ∙ ap pairs_of (sym e));
      clean = is.clean ∙ ap (λ es. slice_get (filter_map (no_room format) es) 0) step
          ∙ ap (λ o. slice_get (cons_option o (filter_map (no_room format) behind)) 0) fits;
    }

pub done_all : (format : Format) (grace : Grace) (now : ℕ) (records : Records) (usage : UsageMap) (after : Option ℕ)
    (done : List Entry) → IsDone format (wanted grace now records usage) after done
    → IsNextAfter after (wanted grace now records usage) None
    → applied format grace now records usage ≡ Ok (records_of done)
unfolding applied
done_all format grace now records usage after done is none =
    let end : entries_after after (entries (wanted grace now records usage)) ≡ [] =
    entries_after-end after (wanted grace now records usage) none in
    ap (λ o. unless o (kept_records format (wanted grace now records usage)))
    (is.clean ∙ ap (λ es. slice_get (filter_map (no_room format) es) 0) end)
    ∙ ap (λ es. Ok (from_entries es))
    (is.kept ∙ ap (λ es. pairs_of done ++ filter_map (kept_entry format) es) end ∙ append-nil (pairs_of done))

pub refused_at : (format : Format) (grace : Grace) (now : ℕ) (records : Records) (usage : UsageMap) (after : Option ℕ)
    (done : List Entry) (id : ℕ) (rec : Rec) (out : NoRoom) → IsDone format (wanted grace now records usage) after done
    → IsNextAfter after (wanted grace now records usage) (Some (record { id = id; rec = rec }))
    → no_room format (id, rec) ≡ Some out → applied format grace now records usage ≡ Err out
unfolding applied
refused_at format grace now records usage after done id rec out is next refused =
    let step : entries_after after (entries (wanted grace now records usage))
    ≡ (id, rec) ∷ entries_after (Some id) (entries (wanted grace now records usage)) =
    entries_after-next after (wanted grace now records usage) (record { id = id; rec = rec }) next in
    ap (λ o. unless o (kept_records format (wanted grace now records usage)))
    (is.clean ∙ ap (λ es. slice_get (filter_map (no_room format) es) 0) step
    ∙ ap (λ o. slice_get
    (cons_option o (filter_map (no_room format) (entries_after (Some id) (entries (wanted grace now records usage)))))
    0) refused)

-- The answered list.
