-- The data blocks of a new file, as they are appended one after another.
use Rattle.std.proofs.Common.{◌≡◌, ℕ, zero, suc, ◌+◌, ◌-◌, ◌*◌, ◌≤◌, min, List, [], ◌∷◌, ◌++◌, length, map, take, drop}
use Rattle.std.proofs.Common.{sym, ap, subst, ◌∙◌, inl, inr, arith, length-drop}
use Rattle.std.proofs.lemmas.Bool.{cases_lt}
use Rattle.std.proofs.lemmas.List.{append-nil, drop-drop, drop_all, map-append, take_all}
use Rattle.std.proofs.lemmas.List.Concat.{flat_map-append}
use Rattle.std.specs.List.{flat_map, range_with_len}
use Rattle.quota_types.specs.Format.{IsTreeFormat}
use Rattle.quota_types.specs.declared.file_kind.Format.{Format}
use Rattle.quota_types.proofs.FormatLemmas.{by_tree}
use Rattle.quota_types.specs.declared.record.Entry.{Entry}
use Rattle.entry_codec.specs.Entry.{entries_per_block}
use Rattle.quota_radix.specs.declared.tree_path.TreePath.{TreePath}
use Rattle.file_blocks.specs.Block.{block_of}
use Rattle.tree_build.specs.NewFile.{AreDataBlocks, IsDataBlock, KeepsBlocks, Part, leaves_in, part_of, parts_needed}
use Rattle.tree_build.specs.NewFile.{parts_of}
use Rattle.tree_build.specs.Size.{filled_blocks}
use Rattle.tree_meaning.proofs.EntryLemmas.{range-suc}
use Rattle.tree_build.proofs.NewFileLemmas.{appended, kept_again, kept_append}
use Rattle.quota_radix.proofs.PathLemmas.{each-append}

-- a file with this many of the data blocks of a list, and the leaves of these
pub record HasParts (format : Format) (list : List Entry) (first : ℕ) (old file : List ℕ) (leaves : List TreePath)
    (rest : List Entry) (count : ℕ) : Type 0 where
  pub leaves_are : leaves ≡ flat_map leaves_in (parts_of format list first count)
  pub blocks_are : AreDataBlocks format file (parts_of format list first count)
  pub kept : KeepsBlocks first old file
  pub rest_is : rest ≡ drop (entries_per_block format * count) list
  pub left : count + filled_blocks (entries_per_block format) (length rest) ≡ parts_needed format list

-- one block more of what is left
filled_one_more : (format : Format) → IsTreeFormat format → (left now later : ℕ) → 1 ≤ left
    → now ≡ min left (entries_per_block format) → later ≡ left - now
    → filled_blocks (entries_per_block format) left ≡ suc (filled_blocks (entries_per_block format) later)
filled_one_more = by_tree _ (λ left now later some is rest. omega arith) (λ left now later some is rest. omega arith)

pub parts_push : (format : Format) (list : List Entry) (first count : ℕ)
    → parts_of format list first (count + 1) ≡ parts_of format list first count ++ part_of format list first count ∷ []
parts_push format list first count =
    ap (map (part_of format list first)) (range-suc count)
    ∙ map-append (part_of format list first) (range_with_len 0 count) (count ∷ [])

-- the parts of the first blocks stay
parts_kept : (format : Format) (old new : List ℕ) (list : List Entry) (first low count : ℕ)
    → KeepsBlocks (first + (low + count)) old new
    → AreDataBlocks format old (map (part_of format list first) (range_with_len low count))
    → AreDataBlocks format new (map (part_of format list first) (range_with_len low count))
parts_kept format old new list first low zero kept are = tt
parts_kept format old new list first low (suc count) kept are = (
  subst (λ (block : List ℕ). IsDataBlock format block (part_of format list first low).entries)
      (sym (kept (first + low) (omega arith))) are.0,
  parts_kept format old new list first (low + 1) count (λ number below. kept number (omega arith)) are.1,
)

-- One data block is appended to a file: it has the first entries of those that are left, as many as a block has room
-- for, or all of them.
pub record AppendsPart (format : Format) (file new block : List ℕ) (leaves more : List TreePath)
    (rest now later : List Entry) (first count number now_len : ℕ) : Type 0 where
  pub tree : IsTreeFormat format
  pub long : length file ≡ 1024 * number
  pub place : number ≡ first + count
  pub size : length block ≡ 1024
  pub grown : new ≡ file ++ block
  pub some : 1 ≤ length rest
  pub now_is : now_len ≡ min (length rest) (entries_per_block format)
  pub now_so : now ≡ take now_len rest
  pub later_so : later ≡ drop now_len rest
  pub spelled : IsDataBlock format block now
  pub pushed : more ≡ leaves ++ leaves_in (record { block = number; entries = now })

-- the parts so far, with one more
pub part_added : {format : Format} {file new block : List ℕ} {leaves more : List TreePath} {rest now later : List Entry}
    {first count number now_len : ℕ} (list : List Entry) (old : List ℕ)
    → AppendsPart format file new block leaves more rest now later first count number now_len
    → HasParts format list first old file leaves rest count → HasParts format list first old new more later (count + 1)
part_added {format} {file} {new} {block} {leaves} {more} {rest} {now} {later} {first} {count} {number} {now_len} list
    old a so_far =
    let per : ℕ = entries_per_block format in
    let now_part : now ≡ (part_of format list first count).entries =
    a.now_so ∙ take_least now_len per rest a.now_is ∙ ap (take per) so_far.rest_is in
    let kept : KeepsBlocks number file new =
    subst (λ (bytes : List ℕ). KeepsBlocks number file bytes) (sym a.grown) (kept_append file block number a.long) in
    let there : block_of new (first + count) ≡ block = ap (λ (bytes : List ℕ). block_of bytes (first + count)) a.grown
    ∙ ap (block_of (file ++ block)) (sym a.place) ∙ appended file block number a.long a.size in
    let part : Part = part_of format list first count in
    let same_part : leaves_in (record { block = number; entries = now }) ≡ leaves_in part =
    ap (λ (k : ℕ). leaves_in (record { block = k; entries = now })) a.place
    ∙ ap (λ (es : List Entry). leaves_in (record { block = first + count; entries = es })) now_part in
    let one : leaves_in part ++ [] ≡ leaves_in part = append-nil (leaves_in part) in
    record {
      leaves_are =
          a.pushed ∙ ap (λ (ps : List TreePath). leaves ++ ps) same_part
          ∙ ap (λ (ps : List TreePath). ps ++ leaves_in part) so_far.leaves_are
          ∙ ap (λ (ps : List TreePath). flat_map leaves_in (parts_of format list first count) ++ ps) (sym one)
          ∙ sym (ap (flat_map leaves_in) (parts_push format list first count)
          ∙ flat_map-append leaves_in (parts_of format list first count) (part ∷ []));
      blocks_are = subst (AreDataBlocks format new) (sym (parts_push format list first count))
          (each-append (λ (p : Part). IsDataBlock format (block_of new p.block) p.entries)
          (parts_of format list first count) (part ∷ [])
          (parts_kept format file new list first 0 count (λ k below. kept k (omega (arith, a.place)))
          so_far.blocks_are) (
            subst (λ (bytes : List ℕ). IsDataBlock format bytes part.entries) (sym there)
                (subst (IsDataBlock format block) now_part a.spelled),
            tt,
          ));
      kept = kept_again first old file new so_far.kept (λ k below. kept k (omega (arith, a.place)));
      rest_is = a.later_so ∙ ap (drop now_len) so_far.rest_is
          ∙ drop_least now_len (per * count) per (length rest) list a.now_is (ap length so_far.rest_is)
          ∙ ap (λ (k : ℕ). drop k list) (omega arith);
      left = omega (
        arith,
        so_far.left,
        filled_one_more format a.tree (length rest) now_len (length later) a.some a.now_is
            (ap length a.later_so ∙ length-drop now_len rest),
      );
    }
  where
    take_least : (n per : ℕ) (xs : List Entry) → n ≡ min (length xs) per → take n xs ≡ take per xs
    take_least n per xs is = elim (cases_lt (length xs) per) [
      | inl short ↦ take_all n xs (omega arith) ∙ sym (take_all per xs (omega arith))
      | inr long ↦ ap (λ (k : ℕ). take k xs) (omega arith)
    ]

    drop_least : (n at per left : ℕ) (xs : List Entry) → n ≡ min left per → left ≡ length (drop at xs)
        → drop n (drop at xs) ≡ drop (at + per) xs
    drop_least n at per left xs is left_is = elim (cases_lt left per) [
      | inl short ↦
          drop_all n (drop at xs) (omega arith) ∙ sym (drop_all (at + per) xs (omega (arith, length-drop at xs)))
      | inr long ↦ ap (λ (k : ℕ). drop k (drop at xs)) (omega arith) ∙ drop-drop per at xs
    ]
