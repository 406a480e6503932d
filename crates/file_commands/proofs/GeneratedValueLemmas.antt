-- The value of a file with the usage of a listing that is made: its format has room for it, and it needs few blocks.
use Rattle.std.proofs.Common.{◌≡◌, ℕ, suc, ◌-◌, ◌^◌, ◌<◌, ◌≤◌, Bool, true, false, cond, nat_lt, List, [], ◌∷◌, length}
use Rattle.std.proofs.Common.{Option, None, Some, Ok, inl, inr, refl, sym, ap, subst, ◌∙◌, arith}
use Rattle.std.specs.Prelude.{T, IfSome, IsSome, is_some, ◌||◌, if◌then◌else◌}
use Rattle.std.specs.Cmp.{nat_cmp_total}
use Rattle.std.specs.FinMap.{empty, entries, entries_sorted, find, get, get-empty, get-entries, get-from_entries}
use Rattle.std.specs.FinMap.{is_sorted}
use Rattle.std.specs.FinMap.Entries.{below_all}
use Rattle.std.specs.List.{AllByRecursion, cons_option, filter_map}
use Rattle.std.specs.Ordering.{eq_by_cmp, nat_cmp}
use Rattle.std.proofs.lemmas.Bool.Decides.{eqb_tells, nat_tests}
use Rattle.std.proofs.lemmas.List.{length-map}
use Rattle.std.proofs.lemmas.Option.{none-some}
use Rattle.quota_types.specs.Range.{unfit}
use Rattle.quota_types.specs.Rec.{is_null_of}
use Rattle.quota_types.specs.Kept.{kept_of}
use Rattle.quota_types.specs.declared.field.NoRoom.{NoRoom as NoRoomFor}
use Rattle.quota_types.specs.declared.file_kind.Format.TheVariants.{V2R1}
use Rattle.quota_types.specs.declared.file_kind.Kind.TheVariants.{User}
use Rattle.quota_types.specs.declared.record.Grace.{Grace}
use Rattle.quota_types.specs.declared.record.Rec.{Rec}
use Rattle.quota_types.proofs.ListLemmas.{AllByRecursion-weaker}
use Rattle.quota_value.specs.QuotaValue.{QuotaValue, Records}
use Rattle.quota_map.specs.View.{most_blocks}
use Rattle.quota_map.specs.Size.{ids_in, blocks_of}
use Rattle.inode_scan.specs.Apply.{applied, first_no_room, kept_entry, kept_records, wanted, wanted_record}
use Rattle.inode_scan.specs.Faults.{unless}
use Rattle.inode_scan.specs.Usage.{UsageMap}
use Rattle.inode_scan.specs.declared.used.Used.{Used}
use Rattle.inode_scan.proofs.ApplyLemmas.{wanted_at}
use Rattle.inode_scan.proofs.MadeListingLemmas.{generated_usage}
use Rattle.inode_scan.proofs.MadeUsageLemmas.{IsSmallUser, generated_small}
use Rattle.file_commands.specs.Check.{checked, new_value, with_applied}
use Rattle.file_commands.proofs.CheckLemmas.{Lacks, first_lacking, found_here, found_later, made_of}
use Rattle.quota_map.proofs.SizeLemmas.{few_blocks}

-- The format has room.

-- the grace periods of a new file
abbrev week : Grace
week = record { block = 604800; inode = 604800 }

fits_wanted : (now id : ℕ) (used : Option Used) → IfSome used (IsSmallUser id)
    → unfit V2R1 id (wanted_record week now None used) ≡ None
fits_wanted now id None small = refl
fits_wanted now id (Some used) small =
    let inodes : nat_lt used.inodes (2 ^ 64) ≡ true = grind (arith, nat_tests, small.inodes) in
    let space : nat_lt used.space (2 ^ 64) ≡ true = grind (arith, nat_tests, small.space) in
    rw (inodes, space) refl

-- no record
abbrev no_records : Records
no_records = empty

none_there : (id : ℕ) → get no_records id ≡ None
none_there id = get-empty nat_cmp id

-- each user has a small number, and uses little
abbrev AreSmall : UsageMap → Type 0
AreSmall usage = (id : ℕ) → IfSome (get usage id) (IsSmallUser id)

-- the record that is wanted of an identifier that has none
wanted_is : (now : ℕ) (usage : UsageMap) (id : ℕ) (rec : Rec) → get (wanted week now empty usage) id ≡ Some rec
    → wanted_record week now None (get usage id) ≡ rec
wanted_is now usage id rec has =
    made_of (is_some (get no_records id) || is_some (get usage id)) (wanted_record week now None (get usage id)) rec
    (ap (λ (o : Option Rec). cond (is_some (get no_records id) || is_some (get usage id))
    (Some (wanted_record week now o (get usage id))) None) (sym (none_there id))
    ∙ sym (wanted_at week now empty usage id) ∙ has)

lacks_none : (now : ℕ) (usage : UsageMap) (out : NoRoomFor) → AreSmall usage
    → Lacks V2R1 (entries (wanted week now empty usage)) out → ⊥
lacks_none now usage out small lacks =
    let all : Records = wanted week now empty usage in
    let made : wanted_record week now None (get usage out.id) ≡ lacks.0 =
    wanted_is now usage out.id lacks.0 (get-entries all out.id ∙ lacks.1) in
    let fits : unfit V2R1 out.id lacks.0 ≡ None = subst (λ (r : Rec). unfit V2R1 out.id r ≡ None) made
    (fits_wanted now out.id (get usage out.id) (small out.id)) in
    none-some _ (sym fits ∙ lacks.2)

room_for_all : (now : ℕ) (usage : UsageMap) → AreSmall usage → first_no_room V2R1 (wanted week now empty usage) ≡ None
room_for_all now usage small =
    by (wanted week now empty usage) (λ out lacks. lacks_none now usage out small lacks)
    (first_no_room V2R1 (wanted week now empty usage)) refl
  where
    by : (all : Records) → ((out : NoRoomFor) → Lacks V2R1 (entries all) out → ⊥) → (found : Option NoRoomFor)
        → first_no_room V2R1 all ≡ found → found ≡ None
    by all none None is = refl
    by all none (Some out) is = absurd (none out (first_lacking V2R1 (entries all) out (entries_sorted all) is))

-- the value that comes of it
pub generated_value : (seed count now : ℕ) → QuotaValue
generated_value seed count now =
    record (new_value User (Some V2R1)) {
      records =
          kept_records V2R1 (wanted (record { block = 604800; inode = 604800 }) now empty (generated_usage seed count));
    }

pub checked-generated : (seed count now : ℕ) → count < 2 ^ 32
    → checked (new_value User (Some V2R1)) (generated_usage seed count) now ≡ Ok (generated_value seed count now)
unfolding generated_value applied
checked-generated seed count now few =
    let usage : UsageMap = generated_usage seed count in
    ap (λ (found : Option NoRoomFor).
    with_applied (new_value User (Some V2R1)) (unless found (kept_records V2R1 (wanted week now empty usage))))
    (room_for_all now usage (λ id. generated_small seed count id few))

-- Few blocks.

-- each identifier of some entries is found in them
each_some : (pairs : List (ℕ × Rec)) → AllByRecursion (λ pair. IsSome (find nat_cmp pair.0 pairs)) pairs
each_some [] = tt
each_some (pair ∷ pairs) = (
  subst (λ (o : Option Rec). IsSome o) (sym (found_here pair pairs)) refl,
  AllByRecursion-weaker (λ (p : ℕ × Rec). IsSome (find nat_cmp p.0 pairs))
      (λ (p : ℕ × Rec). IsSome (find nat_cmp p.0 (pair ∷ pairs))) pairs
      (λ p some. behind (find nat_cmp p.0 pairs) some (eq_by_cmp nat_cmp p.0 pair.0)) (each_some pairs),
)
  where
    behind : (found : Option Rec) → IsSome found → (b : Bool) → IsSome (cond b (Some pair.1) found)
    behind found some true = refl
    behind found some false = some

-- what is kept is found where it was
kept_found : (id : ℕ) (pairs : List (ℕ × Rec)) → IsSome (find nat_cmp id (filter_map (kept_entry V2R1) pairs))
    → IsSome (find nat_cmp id pairs)
kept_found id [] some = some
kept_found id (pair ∷ pairs) some =
    let rest : List (ℕ × Rec) = filter_map (kept_entry V2R1) pairs in
    let kept : Rec = kept_of V2R1 pair.0 pair.1 in
    elim (eqb_tells id pair.0) [
      | inl own ↦
          let here : find nat_cmp id (pair ∷ pairs) ≡ Some pair.1 =
          ap (λ (n : ℕ). find nat_cmp n (pair ∷ pairs)) own.1 ∙ found_here pair pairs in
          subst (λ (o : Option Rec). IsSome o) (sym here) refl
      | inr other ↦
          subst (λ (o : Option Rec). IsSome o) (sym (found_later id pair pairs other.1))
          (kept_found id pairs
          (behind rest (pair.0, kept) (found_later id (pair.0, kept) rest other.1) (is_null_of kept) some))
    ]
  where
    behind : (rest : List (ℕ × Rec)) (kept : ℕ × Rec)
        → find nat_cmp id (kept ∷ rest) ≡ find nat_cmp id rest → (b : Bool)
        → IsSome (find nat_cmp id (cons_option (if b then None else Some kept) rest)) → IsSome (find nat_cmp id rest)
    behind rest kept later true some = some
    behind rest kept later false some = subst (λ (o : Option Rec). IsSome o) later some

some_used : (some : Bool) (made : Rec) → IsSome (cond some (Some made) None) → some ≡ true
some_used true made is = refl
some_used false made is = absurd (cc)

low_to_high : (id : ℕ) (used : Option Used) → IfSome used (IsSmallUser id) → is_some used ≡ true
    → (1000 ≤ id) × (id < 6000)
low_to_high id None small some = absurd (cc)
low_to_high id (Some used) small some = (small.low, small.high)

-- the identifiers that have a record are those of such users
users_only : (now : ℕ) (usage : UsageMap) → AreSmall usage → (id : ℕ)
    → IsSome (get (kept_records V2R1 (wanted week now empty usage)) id) → (1000 ≤ id) × (id < 6000)
users_only now usage small id some =
    let all : Records = wanted week now empty usage in
    let listed : IsSome (find nat_cmp id (filter_map (kept_entry V2R1) (entries all))) =
    subst (λ (o : Option Rec). IsSome o)
    (get-from_entries nat_cmp_total (filter_map (kept_entry V2R1) (entries all)) id) some in
    let found : IsSome (get all id) =
    subst (λ (o : Option Rec). IsSome o) (sym (get-entries all id)) (kept_found id (entries all) listed) in
    let used : (is_some (get no_records id) || is_some (get usage id)) ≡ true =
    some_used _ _ (subst (λ (o : Option Rec). IsSome o) (wanted_at week now empty usage id) found) in
    low_to_high id (get usage id) (small id)
    (ap (λ (o : Option Rec). is_some o || is_some (get usage id)) (sym (none_there id)) ∙ used)

below_each : (id : ℕ) (pairs : List (ℕ × Rec)) → T (below_all nat_cmp id pairs)
    → AllByRecursion (λ pair. id < pair.0) pairs
below_each id [] below = tt
below_each id (pair ∷ pairs) below = (grind (arith, nat_tests), below_each id pairs (grind (arith, nat_tests)))

abbrev Within : (low : ℕ) → ℕ × Rec → Type 0
Within low pair = (low ≤ pair.0) × (pair.0 < 6000)

raised : (low id : ℕ) (pairs : List (ℕ × Rec)) → AllByRecursion (λ pair. id < pair.0) pairs
    → AllByRecursion (Within low) pairs → AllByRecursion (Within (suc id)) pairs
raised low id [] above all = tt
raised low id (pair ∷ pairs) above all = ((omega (arith, above.0), all.0.1), raised low id pairs above.1 all.1)

-- entries that ascend, with identifiers between two numbers, are no more than there are numbers
sorted_few : (low : ℕ) (pairs : List (ℕ × Rec)) → T (is_sorted nat_cmp pairs) → AllByRecursion (Within low) pairs
    → length pairs ≤ 6000 - low
sorted_few low [] sorted all = omega arith
sorted_few low (pair ∷ pairs) sorted all =
    let below : T (below_all nat_cmp pair.0 pairs) = grind arith in
    let rest : T (is_sorted nat_cmp pairs) = grind arith in
    let fewer : length pairs ≤ 6000 - suc pair.0 =
    sorted_few (suc pair.0) pairs rest (raised low pair.0 pairs (below_each pair.0 pairs below) all.1) in
    omega (arith, all.0.0, all.0.1, fewer)

few_users : (now : ℕ) (usage : UsageMap) → AreSmall usage
    → length (entries (kept_records V2R1 (wanted week now empty usage))) ≤ 5000
few_users now usage small =
    let records : Records = kept_records V2R1 (wanted week now empty usage) in
    sorted_few 1000 (entries records) (entries_sorted records)
    (AllByRecursion-weaker (λ (p : ℕ × Rec). IsSome (find nat_cmp p.0 (entries records))) (Within 1000)
    (entries records)
    (λ p some. users_only now usage small p.0
    (subst (λ (o : Option Rec). IsSome o) (sym (get-entries records p.0)) some)) (each_some (entries records)))

pub few-generated : (seed count now : ℕ) → count < 2 ^ 32 → blocks_of (generated_value seed count now) ≤ most_blocks
unfolding generated_value
few-generated seed count now few =
    let records : Records = kept_records V2R1 (wanted week now empty (generated_usage seed count)) in
    let users : length (entries records) ≤ 5000 =
    few_users now (generated_usage seed count) (λ id. generated_small seed count id few) in
    few_blocks (ids_in records) (omega (arith, users, length-map (entries records) (λ (entry : ℕ × Rec). entry.0)))
