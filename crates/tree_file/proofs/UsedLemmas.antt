-- The entries at some places of a block, and the one that an identifier uses.
use Rattle.std.proofs.Common.{◌≡◌, ℕ, zero, suc, ◌+◌, ◌<◌, ◌≤◌, Bool, cond, ◌==◌, List, [], ◌∷◌, map, find, Option}
use Rattle.std.proofs.Common.{Some, None, option_and_then, option_map, refl, sym, ap, subst, ◌∙◌, inl, inr, arith}
use Rattle.std.proofs.Common.{eq-eqb}
use Rattle.std.proofs.lemmas.Bool.{cases_eq}
use Rattle.std.proofs.lemmas.Bool.Decides.{eqb_tells}
use Rattle.std.specs.List.{cons_option, filter_map, range_with_len}
use Rattle.std.specs.Option.{option_or}
use Rattle.std.specs.Prelude.{IsSome}
use Rattle.quota_types.specs.declared.file_kind.Format.{Format}
use Rattle.quota_types.specs.declared.record.Entry.{Entry}
use Rattle.quota_types.specs.declared.record.Rec.{Rec}
use Rattle.entry_codec.specs.Entry.{entries_per_block}
use Rattle.quota_types.specs.Times.{StandsIn, times}
use Rattle.quota_types.proofs.TimesLemmas.{times-cons, times-cons-other, times-cons-same, stands_right}
use Rattle.tree_meaning.specs.Entries.{entries_in, entry_bytes, entry_of, used_entries, used_ids}
use Rattle.tree_meaning.specs.EntryRecords.{IsRecordIn, used_by}
use Rattle.tree_meaning.specs.TreeFile.{record_in}
use Rattle.tree_meaning.proofs.EntryLemmas.{used_ids-entries}
use Rattle.tree_meaning.proofs.RecordLemmas.{found_or_later, used_there}

-- the identifier of an entry, where there is one
abbrev pub id_of : Option Entry → Option ℕ
id_of o = option_map (λ (entry : Entry). entry.id) o

-- the identifiers of the entries at this many places from one on, and the record of the first entry there of an
-- identifier
abbrev pub ids_from : (ℕ → Option Entry) → ℕ → ℕ → List ℕ
ids_from f low count = map (λ (entry : Entry). entry.id) (filter_map f (range_with_len low count))

abbrev pub rec_from : ℕ → (ℕ → Option Entry) → ℕ → ℕ → Option Rec
rec_from id f low count =
    option_map (λ (entry : Entry). entry.rec)
    (find (λ (entry : Entry). entry.id == id) (filter_map f (range_with_len low count)))

pub ids_cons : (o : Option Entry) (entries : List Entry)
    → map (λ (entry : Entry). entry.id) (cons_option o entries)
    ≡ cons_option (id_of o) (map (λ (entry : Entry). entry.id) entries)
ids_cons None entries = refl
ids_cons (Some e) entries = refl

-- an identifier that uses an entry is one of those of the entries
pub used_stands : (id : ℕ) (rec : Rec) (f : ℕ → Option Entry) (low count k : ℕ) → low ≤ k → k < low + count
    → f k ≡ Some (record { id = id; rec = rec }) → StandsIn (ids_from f low count) id
used_stands id rec f low zero k from to is = absurd (omega (arith, from, to))
used_stands id rec f low (suc count) k from to is =
    let rest : List ℕ = ids_from f (low + 1) count in
    let split : ids_from f low (suc count) ≡ cons_option (id_of (f low)) rest =
    ids_cons (f low) (filter_map f (range_with_len (low + 1) count)) in
    elim (cases_eq k low) [
      | inl same ↦
          let first : ids_from f low (suc count) ≡ id ∷ rest = split
          ∙ ap (λ (n : ℕ). cons_option (id_of (f n)) rest) (sym same)
          ∙ ap (λ (o : Option Entry). cons_option (id_of o) rest) is in
          subst (λ (xs : List ℕ). StandsIn xs id) (sym first) (omega (arith, times-cons-same id rest))
      | inr other ↦
          let later : StandsIn rest id =
          used_stands id rec f (low + 1) count k (omega (arith, other, from)) (omega (arith, to)) is in
          subst (λ (xs : List ℕ). StandsIn xs id) (sym split) (either (id_of (f low)) rest later)
    ]
  where
    either : (o : Option ℕ) (xs : List ℕ) → StandsIn xs id → StandsIn (cons_option o xs) id
    either None xs stands = stands
    either (Some x) xs stands = stands_right (x ∷ []) xs id stands

-- the entry that an identifier uses once is the one that is found
pub used_found : (id : ℕ) (rec : Rec) (f : ℕ → Option Entry) (low count k : ℕ) → low ≤ k → k < low + count
    → f k ≡ Some (record { id = id; rec = rec }) → times (ids_from f low count) id ≤ 1
    → rec_from id f low count ≡ Some rec
used_found id rec f low zero k from to is once = absurd (omega (arith, from, to))
used_found id rec f low (suc count) k from to is once =
    let rest : List Entry = filter_map f (range_with_len (low + 1) count) in
    let split : ids_from f low (suc count) ≡ cons_option (id_of (f low)) (ids_from f (low + 1) count) =
    ids_cons (f low) rest in
    found_or_later id (f low) rest
    ∙ elim (cases_eq k low) [
      | inl same ↦
          ap (λ (n : ℕ). option_or (option_and_then (used_by id) (f n)) (rec_from id f (low + 1) count)) (sym same)
          ∙ ap (λ (o : Option Entry). option_or (option_and_then (used_by id) o) (rec_from id f (low + 1) count)) is
          ∙ ap (λ (b : Bool). option_or (cond b (Some rec) None) (rec_from id f (low + 1) count)) (eq-eqb id id refl)
      | inr other ↦
          let later : StandsIn (ids_from f (low + 1) count) id =
          used_stands id rec f (low + 1) count k (omega (arith, other, from)) (omega (arith, to)) is in
          let few : times (cons_option (id_of (f low)) (ids_from f (low + 1) count)) id ≤ 1 =
          subst (λ (xs : List ℕ). times xs id ≤ 1) split once in
          behind (f low) (ids_from f (low + 1) count) (rec_from id f (low + 1) count) later few
          (λ still. used_found id rec f (low + 1) count k (omega (arith, other, from)) (omega (arith, to)) is still)
    ]
  where
    behind : (o : Option Entry) (xs : List ℕ) (found : Option Rec) → StandsIn xs id
        → times (cons_option (id_of o) xs) id ≤ 1 → (times xs id ≤ 1 → found ≡ Some rec)
        → option_or (option_and_then (used_by id) o) found ≡ Some rec
    behind None xs found stands few next = next few
    behind (Some e) xs found stands few next = elim (eqb_tells e.id id) [
      | inl same ↦
          absurd (omega (arith, stands, few, times-cons e.id xs id, ap {B = ℕ} (λ (b : Bool). cond b 1 0) same.0))
      | inr other ↦ ap (λ (b : Bool). option_or (cond b (Some e.rec) None) found) other.0
          ∙ next (omega (arith, few, times-cons-other e.id xs id other.1))
    ]

-- the record that an entry has for its identifier is the entry's
given_is : (o : Option Entry) (id : ℕ) (rec own : Rec) → option_and_then (used_by id) o ≡ Some rec
    → o ≡ Some (record { id = id; rec = own }) → own ≡ rec
given_is o id rec own gives is =
    let own_given : option_and_then (used_by id) o ≡ Some own =
    ap (option_and_then (used_by id)) is ∙ ap (λ (b : Bool). cond b (Some own) None) (eq-eqb id id refl) in
    let same : Some own ≡ Some rec = sym own_given ∙ gives in
    cc

-- of a block that has one entry of an identifier, the record of any is that of the first one
pub one_is_first : (format : Format) (block : List ℕ) (id : ℕ) (rec : Rec) → times (used_ids format block) id ≡ 1
    → IsRecordIn format block id rec → record_in format block id ≡ Some rec
unfolding entries_in
one_is_first format block id rec once there =
    let entry : Option Entry = entry_of format (entry_bytes format block there.place) in
    let some : IsSome (option_and_then (used_by id) entry) = subst (λ (o : Option Rec). IsSome o) (sym there.is) refl in
    let used = used_there format (entry_bytes format block there.place) id some in
    let same : used.1.0 ≡ rec = given_is entry id rec used.1.0 there.is used.1.1 in
    let is : entry ≡ Some (record { id = id; rec = rec }) =
    used.1.1 ∙ ap (λ (r : Rec). Some (record { id = id; rec = r })) same in
    used_found id rec (λ at. entry_of format (entry_bytes format block at)) 0 (entries_per_block format) there.place
    (omega arith) (omega (arith, there.low)) is
    (omega (arith, once, ap (λ (ids : List ℕ). times ids id) (used_ids-entries format block)))
