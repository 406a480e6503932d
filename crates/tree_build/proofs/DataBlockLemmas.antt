-- A data block that is filled entry by entry.
use Rattle.std.proofs.Common.{◌≡◌, ℕ, zero, suc, ◌+◌, ◌-◌, ◌*◌, ◌<◌, ◌≤◌, Bool, true, false, cond, ◌||◌, nat_lt, List}
use Rattle.std.proofs.Common.{[], ◌∷◌, ◌++◌, length, get_or, replicate, Option, Some, None, refl, sym, ap, subst, ◌∙◌}
use Rattle.std.proofs.Common.{inl, inr, arith}
use Rattle.std.proofs.Math.Nat.{mul-le-mul_left}
use Rattle.std.proofs.lemmas.Bool.{cases_lt, cases_eq, lt-ltb, le-ltb}
use Rattle.std.proofs.lemmas.List.{append-nil, get_or_past}
use Rattle.std.proofs.lemmas.List.Elements.{filter_map-append}
use Rattle.std.proofs.lemmas.List.Folds.{list_any-append}
use Rattle.std.specs.List.{cons_option, filter_map, list_any, range_with_len}
use Rattle.quota_types.specs.KeptBytes.{KeepsOutside}
use Rattle.quota_types.specs.Bytes.{byte_at, number_at}
use Rattle.quota_types.specs.Format.{record_size}
use Rattle.quota_types.specs.Kept.{without_marker}
use Rattle.quota_types.specs.declared.file_kind.Format.{Format}
use Rattle.quota_types.specs.declared.file_kind.Format.TheVariants.{V1, V1R32, V2R0, V2R1}
use Rattle.quota_types.specs.declared.record.Entry.{Entry}
use Rattle.quota_types.proofs.TimesLemmas.{range_with_len-add}
use Rattle.quota_types.proofs.BytesLemmas.{number_at-zeros, number_same}
use Rattle.entry_codec.specs.Entry.{entries_per_block, is_unused, stored_id}
use Rattle.entry_codec.specs.Spelling.{IsEntry, padding_of}
use Rattle.entry_codec.proofs.SpellingLemmas.{is_unused-zeros}
use Rattle.tree_meaning.specs.Entries.{entries_in, entry_bytes, entry_of, has_unused, stored_record, used_entries}
use Rattle.tree_build.specs.NewFile.{IsDataBlock}
use Rattle.file_blocks.proofs.WordLemmas.{same_part}
use Rattle.tree_meaning.proofs.EntryLemmas.{no_test}
use Rattle.byte_order.specs.declared.order.Order.TheVariants.{Little}
use Rattle.tree_meaning.proofs.RecordLemmas.{used_is}
use Rattle.tree_meaning.proofs.BlankLemmas.{zero_part, zero_bytes}

-- an entry in the place of one that is not there
abbrev pub no_entry : Entry
no_entry = record {
  id = 0;
  rec = record { ihard = 0; isoft = 0; inodes = 0; bhard = 0; bsoft = 0; space = 0; btime = 0; itime = 0 };
}

-- a block that has this many of these entries, and otherwise zeros
pub record IsFilledTo (format : Format) (block : List ℕ) (entries : List Entry) (count : ℕ) : Type 0 where
  pub size : length block ≡ 1024
  pub entry : (place : ℕ) (absent : Entry) → place < count
      → IsEntry format (entry_bytes format block place) (get_or entries place absent).id
      (get_or entries place absent).rec
  pub padding : (place : ℕ) → place < count → padding_of format (entry_bytes format block place) ≡ 0
  pub zeros : (at : ℕ) → 16 + record_size format * count ≤ at → byte_at block at ≡ 0
  pub links : (at : ℕ) → at < 8 → byte_at block at ≡ 0
  pub stated : number_at 2 block 8 ≡ length entries
  pub behind_count : (at : ℕ) → 10 ≤ at → at < 16 → byte_at block at ≡ 0

pub filled_none : (format : Format) (block : List ℕ) (entries : List Entry)
    → KeepsOutside 8 (8 + 2) (replicate 1024 0) block → number_at 2 block 8 ≡ length entries
    → length block ≡ 1024 → IsFilledTo format block entries 0
filled_none format block entries kept stated size = record {
  size = size;
  entry = λ place absent low. absurd (omega arith);
  padding = λ place low. absurd (omega arith);
  zeros = λ at from. kept.behind at (omega arith) ∙ zero_bytes at;
  links = λ at to. kept.before at to ∙ zero_bytes at;
  stated = stated;
  behind_count = λ at from to. kept.behind at from ∙ zero_bytes at;
}

pub filled_more : (format : Format) (old new : List ℕ) (entries : List Entry) (count : ℕ) → length new ≡ 1024
    → count < length entries
    → IsEntry format (entry_bytes format new count) (get_or entries count no_entry).id
    (get_or entries count no_entry).rec → padding_of format (entry_bytes format new count) ≡ 0
    → KeepsOutside (16 + record_size format * count) (16 + record_size format * count + record_size format) old new
    → IsFilledTo format old entries count → IsFilledTo format new entries (count + 1)
filled_more format old new entries count long low spelled padding kept so_far =
    let size : ℕ = record_size format in
    let earlier : (place : ℕ) → place < count → entry_bytes format old place ≡ entry_bytes format new place =
    λ place below.
    let room : size * suc place ≤ size * count = mul-le-mul_left size below in
    same_part size (16 + size * place) old new (so_far.size ∙ sym long)
    (λ k from to. sym (kept.before k (omega arith))) in
    let there : (absent : Entry) → get_or entries count no_entry ≡ get_or entries count absent =
    λ absent. get_or_any entries count no_entry absent low in
    record {
      size = long;
      entry = λ place absent below. elim (cases_eq place count) [
        | inl same ↦ subst
            (λ (k : ℕ). IsEntry format (entry_bytes format new k) (get_or entries k absent).id
            (get_or entries k absent).rec) (sym same)
            (subst (λ (e : Entry). IsEntry format (entry_bytes format new count) e.id e.rec) (there absent) spelled)
        | inr other ↦ subst
            (λ (bytes : List ℕ). IsEntry format bytes (get_or entries place absent).id
            (get_or entries place absent).rec) (earlier place (omega (arith, other, below)))
            (so_far.entry place absent (omega (arith, other, below)))
      ];
      padding = λ place below. elim (cases_eq place count) [
        | inl same ↦ ap (λ (k : ℕ). padding_of format (entry_bytes format new k)) same ∙ padding
        | inr other ↦ ap (padding_of format) (sym (earlier place (omega (arith, other, below))))
            ∙ so_far.padding place (omega (arith, other, below))
      ];
      zeros = λ at from. kept.behind at (omega arith) ∙ so_far.zeros at (omega arith);
      links = λ at to. kept.before at (omega arith) ∙ so_far.links at to;
      stated = number_same 2 8 new old (λ k from to. kept.before k (omega arith)) ∙ so_far.stated;
      behind_count = λ at from to. kept.before at (omega arith) ∙ so_far.behind_count at from to;
    }
  where
    get_or_any : (xs : List Entry) (k : ℕ) (d e : Entry) → k < length xs → get_or xs k d ≡ get_or xs k e
    get_or_any [] k d e h = absurd (omega arith)
    get_or_any (x ∷ xs) zero d e h = refl
    get_or_any (x ∷ xs) (suc k) d e h = get_or_any xs k d e (omega arith)

-- what is kept of numbers of which each gives one of a list
pub all_found : {Y : Type 0} (f : ℕ → Option Y) (ys : List Y) (low : ℕ)
    → ((k : ℕ) (d : Y) → k < length ys → f (low + k) ≡ Some (get_or ys k d))
    → filter_map f (range_with_len low (length ys)) ≡ ys
all_found f [] low found = refl
all_found {Y} f (y ∷ ys) low found =
    let start : low ≡ low + 0 = omega arith in
    let first : f low ≡ Some y = ap f start ∙ found 0 y (omega arith) in
    let rest : filter_map f (range_with_len (low + 1) (length ys)) ≡ ys = all_found f ys (low + 1) (λ k d lt.
    let next : low + 1 + k ≡ low + suc k = omega arith in
    ap f next ∙ found (suc k) d (omega arith)) in
    ap (λ (o : Option Y). cons_option o (filter_map f (range_with_len (low + 1) (length ys)))) first
    ∙ ap (λ (zs : List Y). y ∷ zs) rest

-- and of numbers that give none
pub none_found : {Y : Type 0} (f : ℕ → Option Y) (low count : ℕ) → ((k : ℕ) → low ≤ k → k < low + count → f k ≡ None)
    → filter_map f (range_with_len low count) ≡ []
none_found f low zero none = refl
none_found {Y} f low (suc count) none =
    ap (λ (o : Option Y). cons_option o (filter_map f (range_with_len (low + 1) count)))
    (none low (omega arith) (omega arith))
    ∙ none_found f (low + 1) count (λ k from to. none k (omega arith) (omega arith))

-- whether one of the numbers that are left passes, where each does
any_left : (test : ℕ → Bool) (first left count : ℕ) → first + left ≡ count → ((k : ℕ) → first ≤ k → test k ≡ true)
    → list_any test (range_with_len first left) ≡ nat_lt first count
any_left test first zero count all each = sym (le-ltb first count (omega arith))
any_left test first (suc left) count all each =
    ap (λ (b : Bool). b || list_any test (range_with_len (first + 1) left)) (each first (omega arith))
    ∙ sym (lt-ltb first count (omega arith))

padding_zero : (format : Format) (bytes : List ℕ) → ((k : ℕ) → get_or bytes k 0 ≡ 0) → padding_of format bytes ≡ 0
padding_zero V1 bytes zeros = refl
padding_zero V1R32 bytes zeros = refl
padding_zero V2R0 bytes zeros = refl
padding_zero V2R1 bytes zeros = number_at-zeros 4 4 bytes (λ k from to. zeros k)

-- a block that has all of its entries
pub filled_all : (format : Format) (block : List ℕ) (entries : List Entry) (count : ℕ)
    → length entries ≤ entries_per_block format → length entries ≤ count → count ≤ length entries
    → IsFilledTo format block entries count → IsDataBlock format block entries
unfolding entries_in has_unused number_at
filled_all format block entries count few over under so_far =
    let size : ℕ = record_size format in
    let per : ℕ = entries_per_block format in
    let read : ℕ → Option Entry = λ place. entry_of format (entry_bytes format block place) in
    let free : ℕ → Bool = λ place. is_unused (entry_bytes format block place) in
    let left : ℕ = per - length entries in
    let all : length entries + left ≡ per = omega arith in
    let start : 0 + length entries ≡ length entries = omega arith in
    let zeros : (place : ℕ) → length entries ≤ place → (k : ℕ) → get_or (entry_bytes format block place) k 0 ≡ 0 =
    λ place from.
    let room : size * count ≤ size * place = mul-le-mul_left size (omega arith) in
    zero_part size (16 + size * place) block (λ k behind. so_far.zeros k (omega arith)) in
    let used : (place : ℕ) (absent : Entry) → place < length entries
    → (free place ≡ false) × (read place ≡ Some (get_or entries place absent)) = λ place absent low.
    used_is Little format (entry_bytes format block place) (get_or entries place absent).id
    (get_or entries place absent).rec
    (so_far.entry place absent (omega arith)) in
    let unused : (place : ℕ) → length entries ≤ place → free place ≡ true =
    λ place from. is_unused-zeros (entry_bytes format block place) (λ k low. zeros place from k) in
    let parted : range_with_len 0 per ≡ range_with_len 0 (length entries) ++ range_with_len (length entries) left =
    ap (range_with_len 0) (sym all) ∙ range_with_len-add 0 (length entries) left
    ∙ ap (λ (k : ℕ). range_with_len 0 (length entries) ++ range_with_len k left) start in
    record {
      used = ap (filter_map read) parted
          ∙ filter_map-append read (range_with_len 0 (length entries)) (range_with_len (length entries) left)
          ∙ ap (λ (es : List Entry). es ++ filter_map read (range_with_len (length entries) left))
          (all_found read entries 0
          (λ k absent low. let same : 0 + k ≡ k = omega arith in ap read same ∙ (used k absent low).1))
          ∙ ap (λ (es : List Entry). entries ++ es)
          (none_found read (length entries) left
          (λ k from to. ap
          (λ (b : Bool). cond b None (Some (record {
            id = stored_id (entry_bytes format block k);
            rec = without_marker (stored_id (entry_bytes format block k))
                (stored_record format (entry_bytes format block k));
          }))) (unused k from)))
          ∙ append-nil entries;
      next =
          number_same 4 0 block [] (λ k from to. so_far.links k (omega arith) ∙ sym (get_or_past [] k 0 (omega arith)));
      previous =
          number_same 4 4 block [] (λ k from to. so_far.links k (omega arith) ∙ sym (get_or_past [] k 0 (omega arith)));
      stated = so_far.stated;
      room = ap (list_any free) parted
          ∙ list_any-append free (range_with_len 0 (length entries)) (range_with_len (length entries) left)
          ∙ ap (λ (b : Bool). b || list_any free (range_with_len (length entries) left))
          (no_test free 0 (length entries) (λ k from to. (used k no_entry (omega arith)).0))
          ∙ any_left free (length entries) left per all unused;
      behind_count = so_far.behind_count;
      in_entries = λ place low. elim (cases_lt place (length entries)) [
        | inl has ↦ so_far.padding place (omega arith)
        | inr behind ↦ padding_zero format (entry_bytes format block place) (zeros place behind)
      ];
    }
