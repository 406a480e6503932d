-- That the records of a file with the usage of a listing ascend, and that each is kept.
use Rattle.std.proofs.Common.{◌≡◌, ℕ, zero, suc, ◌+◌, ◌<◌, ◌≤◌, Bool, true, false, cond, List, [], ◌∷◌, ◌++◌, get_or}
use Rattle.std.proofs.Common.{Option, Some, None, Err, sym, ap, subst, ◌∙◌, arith, append-nil}
use Rattle.std.specs.Prelude.{IfSome, All}
use Rattle.std.specs.FinMap.{get}
use Rattle.std.specs.List.Sorted.{IsStrictlyIncreasing}
use Rattle.std.specs.Option.{option_to_list}
use Rattle.std.proofs.lemmas.Option.{none-some, some_pair_parts}
use Rattle.std.proofs.lemmas.List.{map-append}
use Rattle.std.proofs.lemmas.List.Elements.{All-push}
use Rattle.quota_types.specs.declared.field.NoRoom.{NoRoom}
use Rattle.quota_types.specs.declared.file_kind.Format.{Format}
use Rattle.quota_types.specs.declared.record.Entry.{Entry}
use Rattle.quota_types.specs.declared.record.Grace.{Grace}
use Rattle.quota_types.specs.declared.record.Rec.{Rec}
use Rattle.quota_types.specs.Kept.{kept_of}
use Rattle.quota_types.specs.Rec.{is_null_of}
use Rattle.quota_value.specs.Listed.{ids_of, records_of}
use Rattle.quota_types.specs.Ids.{IsAfter}
use Rattle.quota_value.specs.NextRecord.{IsNextAfter}
use Rattle.inode_scan.specs.declared.used.Used.{Used}
use Rattle.inode_scan.specs.Apply.{IsKeptEntry, applied, no_room, wanted, wanted_record}
use Rattle.inode_scan.specs.Merge.{first_id, least_id, record_at, records_behind}
use Rattle.inode_scan.specs.Usage.{UsageMap}
use Rattle.inode_scan.specs.UsageSums.{IsNextUser}
use Rattle.inode_scan.proofs.ApplyLemmas.{next_wanted, next_rest, from_after, after_is, IsRest, IsDone, done_more}
use Rattle.inode_scan.proofs.ApplyLemmas.{refused_at}

-- numbers strictly ascend, from one on and below another one
abbrev pub Rises : (low high : ℕ) → List ℕ → Type 0
Rises low high [] = low ≤ high
Rises low high (x ∷ xs) = (low ≤ x) × Rises (suc x) high xs

rises_push : (low high x : ℕ) (xs : List ℕ) → Rises low high xs → high ≤ x → Rises low (suc x) (xs ++ x ∷ [])
rises_push low high x [] rises le = (omega arith, omega arith)
rises_push low high x (y ∷ ys) rises le = (rises.0, rises_push (suc y) high x ys rises.1 le)

rises_more : (low high higher : ℕ) (xs : List ℕ) → Rises low high xs → high ≤ higher → Rises low higher xs
rises_more low high higher [] rises le = omega arith
rises_more low high higher (x ∷ xs) rises le = (rises.0, rises_more (suc x) high higher xs rises.1 le)

pub increasing_of : (low high : ℕ) (xs : List ℕ) → Rises low high xs → IsStrictlyIncreasing xs
increasing_of low high [] rises k lt = absurd (omega arith)
increasing_of low high (x ∷ []) rises k lt = absurd (omega arith)
increasing_of low high (x ∷ y ∷ ys) rises zero lt = let next : suc x ≤ y = rises.1.0 in omega arith
increasing_of low high (x ∷ y ∷ ys) rises (suc k) lt =
    let same : suc (k + 1) ≡ suc k + 1 = omega arith in
    subst (λ (n : ℕ). get_or (y ∷ ys) k 0 < get_or (x ∷ y ∷ ys) n 0) same
    (increasing_of (suc x) high (y ∷ ys) rises.1 k (omega arith))

pub rises_kept : (after : Option ℕ) (id : ℕ) (done more : List Entry) (entry : Option Entry)
    → Rises 0 (from_after after) (ids_of done) → IsAfter after id → IfSome entry (λ entry. entry.id ≡ id)
    → more ≡ done ++ option_to_list entry → Rises 0 (suc id) (ids_of more)
rises_kept after id done more None rises is own e =
    subst (λ list. Rises 0 (suc id) (ids_of list)) (sym (e ∙ append-nil done))
    (rises_more 0 (from_after after) (suc id) (ids_of done) rises (omega (arith, after_is after id is)))
rises_kept after id done more (Some entry) rises is own e =
    subst (λ ids. Rises 0 (suc id) ids) (sym (ap ids_of e ∙ map-append (λ (x : Entry). x.id) done (entry ∷ [])))
    (subst (λ n. Rises 0 (suc n) (ids_of done ++ entry.id ∷ [])) own
    (rises_push 0 (from_after after) entry.id (ids_of done) rises (omega (arith, after_is after id is, own))))

pub all_kept : (P : Entry → Type 0) (done more : List Entry) (entry : Option Entry) → All P done → IfSome entry P
    → more ≡ done ++ option_to_list entry → All P more
all_kept P done more None all own e = subst (All P) (sym (e ∙ append-nil done)) all
all_kept P done more (Some entry) all own e = subst (All P) (sym e) (All-push P done entry all own)

-- an entry that is kept is of its identifier
pub kept_id : (format : Format) (id : ℕ) (rec : Rec) (entry : Option Entry) → IsKeptEntry format (id, rec) entry
    → IfSome entry (λ entry. entry.id ≡ id)
kept_id format id rec None keeps = tt
kept_id format id rec (Some entry) keeps = by (is_null_of (kept_of format id rec)) (kept_of format id rec) keeps
  where
    by : (b : Bool) (kept : Rec)
        → ◌≡◌ {A = Option (ℕ × Rec)} (Some (entry.id, entry.rec)) (cond b None (Some (id, kept))) → entry.id ≡ id
    by true kept e = absurd (none-some (entry.id, entry.rec) (sym e))
    by false kept e = (some_pair_parts entry.id id entry.rec kept e).0

-- The steps of the code.

module _ (format : Format) (grace : Grace) (now : ℕ) (list rest : List Entry) (usage : UsageMap) (after used : Option ℕ)
    (is : IsRest after list rest) (next : IsNextUser after usage used)
    (id : ℕ) (least : least_id (first_id rest) used ≡ Some id) (rec : Option Rec) (mine : Option Used)
    (rec_is : rec ≡ record_at id rest) (mine_is : mine ≡ get usage id) where
  same_wanted : wanted_record grace now rec mine ≡ wanted_record grace now (record_at id rest) (get usage id)
  same_wanted =
      ap (λ (o : Option Rec). wanted_record grace now o mine) rec_is
      ∙ ap (λ (o : Option Used). wanted_record grace now (record_at id rest) o) mine_is

  next_is : IsNextAfter after (wanted grace now (records_of list) usage)
      (Some (record { id = id; rec = wanted_record grace now rec mine }))
  next_is =
      subst (λ (r : Rec). IsNextAfter after (wanted grace now (records_of list) usage)
      (Some (record { id = id; rec = r }))) (sym same_wanted)
      (next_wanted grace now list rest usage after used is next id least)

  pub step_later : IsAfter after id
  step_later = next_is.0

  pub step_rest : (behind : List Entry) → behind ≡ records_behind id rest → IsRest (Some id) list behind
  step_rest behind e =
      subst (IsRest (Some id) list) (sym e) (next_rest grace now list rest usage after used is next id least)

  pub step_done : (done more : List Entry) (entry : Option Entry)
      → IsDone format (wanted grace now (records_of list) usage) after done
      → no_room format (id, wanted_record grace now rec mine) ≡ None
      → IsKeptEntry format (id, wanted_record grace now rec mine) entry → more ≡ done ++ option_to_list entry
      → IsDone format (wanted grace now (records_of list) usage) (Some id) more
  step_done done more entry so_far fits keeps e =
      done_more format (wanted grace now (records_of list) usage) after done more id (wanted_record grace now rec mine)
      entry so_far next_is fits keeps e

  pub step_refused : (done : List Entry) (out : NoRoom)
      → IsDone format (wanted grace now (records_of list) usage) after done
      → no_room format (id, wanted_record grace now rec mine) ≡ Some out
      → applied format grace now (records_of list) usage ≡ Err out
  step_refused done out so_far refused =
      refused_at format grace now (records_of list) usage after done id (wanted_record grace now rec mine) out
      so_far next_is refused
