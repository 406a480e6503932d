-- What was read is what whoever opens the file sees, and what a refusal says of the file.
use Rattle.std.proofs.Common.{◌≡◌, ℕ, ◌≤◌, Bool, IsTrue, if◌then◌else◌, List, ◌∷◌, ◌++◌, get_or, Option, Some}
use Rattle.std.proofs.Common.{None, Ok, IsSome, refl, sym, ap, subst, ◌∙◌, inl, inr, arith, nat_eq, ◌^◌}
use Rattle.std.specs.Prelude.{All, IsPermutation}
use Rattle.std.specs.Cmp.{nat_eq_equiv}
use Rattle.std.specs.List.{IsDistinct}
use Rattle.std.proofs.lemmas.Map.Keys.{IsDistinct-IsPermutation}
use Rattle.std.proofs.lemmas.Bool.{cases_lt, le-ltb, lt-ltb}
use Rattle.std.proofs.lemmas.List.Elements.{All-from_recursion}
use Rattle.std.proofs.lemmas.List.Sorted.{All-permutation, IsPermutation-map, IsPermutation-trans}
use Rattle.quota_types.specs.Times.{StandsIn, times}
use Rattle.quota_types.specs.declared.damage.Damage.{Damage}
use Rattle.quota_types.specs.declared.file_kind.Format.{Format}
use Rattle.quota_types.specs.declared.file_kind.Format.TheVariants.{V2R0}
use Rattle.quota_types.specs.declared.file_kind.Kind.{Kind}
use Rattle.quota_types.specs.declared.record.Entry.{Entry}
use Rattle.quota_types.specs.declared.record.Rec.{Rec}
use Rattle.quota_types.proofs.TimesLemmas.{times-append}
use Rattle.quota_value.specs.Listed.{ids_of, records_of, value_of}
use Rattle.quota_value.specs.QuotaValue.{QuotaValue}
use Rattle.byte_order.specs.declared.order.Order.TheVariants.{Big}
use Rattle.byte_order.specs.Words.{in_order}
use Rattle.byte_order.proofs.WordsLemmas.{block_in_order}
use Rattle.entry_codec.specs.Header.{HeaderNumbers, header_of}
use Rattle.entry_codec.specs.Spelling.{AreOf}
use Rattle.entry_codec.specs.declared.header.Header.{Header}
use Rattle.file_blocks.specs.Block.{block_of, bytes_of}
use Rattle.file_blocks.specs.BlockSet.{AreFlagsOf}
use Rattle.file_blocks.specs.CheckFault.{IsCheckFault}
use Rattle.file_blocks.specs.declared.check_fault.CheckFault.{CheckFault}
use Rattle.file_blocks.specs.declared.check_fault.CheckFault.TheVariants.{Store, Damage as Damaged, Memory}
use Rattle.opened_file.specs.Opening.{open_fault}
use Rattle.quota_radix.specs.declared.tree_path.TreePath.{TreePath}
use Rattle.quota_radix.specs.Tree.{data_blocks, ids_at, leaves, numbers_of, tree_blocks}
use Rattle.quota_radix.proofs.PathLemmas.{Rises-paths, data_block_of_id, leaves_lead}
use Rattle.tree_meaning.specs.Entries.{entries_in, used_ids}
use Rattle.tree_meaning.specs.TreeFile.{TreeStandsForIn, tree_record_in}
use Rattle.tree_meaning.proofs.DefectLemmas.{no_defect_of_sound}
use Rattle.tree_meaning.proofs.InOrderLemmas.{used_ids-in_order}
use Rattle.tree_meaning.proofs.ValueLemmas.{found_entry}
use Rattle.tree_check.specs.Found.{IsRoleDefect}
use Rattle.tree_file.specs.TreeCalls.{IsTreeFaultIn}
use Rattle.tree_file.specs.View.{IsTreeViewIn}
use Rattle.big_endian_files.specs.ReadBig.{CanBeRead, StandsBig, record_of, records_at, records_in}
use Rattle.big_endian_files.proofs.PermutedLemmas.{distinct_rising}
use Rattle.big_endian_files.proofs.ValueLemmas.{records_read}

-- the file that is seen as a value
pub seen_file : (named : Option (List ℕ)) (kind : Kind) (limit : ℕ) (value : QuotaValue)
    → IsTreeViewIn Big named kind (Some V2R0) limit (Ok value)
    → TreeStandsForIn Big (bytes_of named) value × (V2R0 ≡ value.format) × (value.kind ≡ kind)
seen_file None kind limit value view = absurd view.0
seen_file (Some file) kind limit value view = (view.0.1, view.2, view.1)

-- the value of a file's header and of the records that were read is the one that is seen
pub view_read : (named : Option (List ℕ)) (kind : Kind) (limit : ℕ) (header : Header) (list : List Entry)
    (value : QuotaValue)
    → AreOf header (header_of (in_order Big (bytes_of named)))
    → IsTreeViewIn Big named kind (Some V2R0) limit (Ok value)
    → IsPermutation (records_at (bytes_of named) (leaves (in_order Big (bytes_of named)) header.blocks))
    (records_in list)
    → IsTreeViewIn Big named kind (Some V2R0) limit (Ok (value_of kind V2R0 header.grace header.flags list))
view_read named kind limit header list value are view moved =
    let file : List ℕ = bytes_of named in
    let seen = seen_file named kind limit value view in
    let stands = seen.0 in
    let of_kind : value.kind ≡ kind = seen.2 in
    let of_format : value.format ≡ V2R0 = sym seen.1 in
    let block : value.grace.block ≡ header.grace.block = stands.block_grace ∙ are.block_grace in
    let inode : value.grace.inode ≡ header.grace.inode = stands.inode_grace ∙ are.inode_grace in
    let flags : value.flags ≡ header.flags = stands.flags ∙ are.flags in
    let records : value.records ≡ records_of list =
    sym (records_read file header.blocks value list
    (λ id. stands.records id
    ∙ ap (λ (f : Format). tree_record_in Big f file (header_of (in_order Big file)).blocks id) of_format
    ∙ ap (λ (n : ℕ). tree_record_in Big V2R0 file n id) are.blocks) moved) in
    let same : value ≡ value_of kind V2R0 header.grace header.flags list = λ i. record {
      kind = of_kind i;
      format = of_format i;
      grace = record { block = block i; inode = inode i };
      flags = flags i;
      records = records i;
    } in
    subst (λ (v : QuotaValue). IsTreeViewIn Big named kind (Some V2R0) limit (Ok v)) same view

-- the records of the leaves, as they were read and sorted
pub records_moved : (file : List ℕ) (ls sorted : List TreePath) (list out : List Entry) → IsPermutation ls sorted
    → records_in list ≡ records_at file sorted → IsPermutation list out
    → IsPermutation (records_at file ls) (records_in out)
records_moved file ls sorted list out by_block read by_id =
    IsPermutation-trans (records_at file ls) (records_in list) (records_in out)
    (subst (λ (rs : List (ℕ × Option Rec)). IsPermutation (records_at file ls) rs) (sym read)
    (IsPermutation-map (λ (leaf : TreePath). (leaf.number, record_of file leaf)) ls sorted by_block))
    (IsPermutation-map (λ (entry : Entry). (entry.id, Some entry.rec)) list out by_id)

-- each leaf of a sound file has its record
leaf_has : (file : List ℕ) (value : QuotaValue) (leaf : TreePath) → TreeStandsForIn Big file value
    → V2R0 ≡ value.format
    → StandsIn (ids_at (leaves (in_order Big file) (header_of (in_order Big file)).blocks) leaf.block) leaf.number
    → IsSome (record_of file leaf)
leaf_has file value leaf stands format leads =
    let words : List ℕ = in_order Big file in
    let filled = stands.sound.filled in
    let one : times (used_ids value.format (block_of words leaf.block)) leaf.number ≡ 1 =
    filled.one_entry leaf.block leaf.number leads in
    let there : StandsIn (used_ids V2R0 (block_of words leaf.block)) leaf.number =
    subst (λ (f : Format). StandsIn (used_ids f (block_of words leaf.block)) leaf.number) (sym format)
    (omega (arith, one)) in
    let found = found_entry (entries_in Big V2R0 (block_of file leaf.block)) leaf.number
    (subst (λ (ids : List ℕ). StandsIn ids leaf.number) (used_ids-in_order Big V2R0 (block_of file leaf.block))
    (subst (λ (block : List ℕ). StandsIn (used_ids V2R0 block) leaf.number) (block_in_order Big file leaf.block)
    there)) in
    subst (λ (o : Option Rec). IsSome o) (sym found.1) refl

-- and leads to a block that is none of the header and the tree
leaf_apart : (file : List ℕ) (value : QuotaValue) (leaf : TreePath) → TreeStandsForIn Big file value
    → StandsIn (ids_at (leaves (in_order Big file) (header_of (in_order Big file)).blocks) leaf.block) leaf.number
    → times (0 ∷ tree_blocks (in_order Big file) (header_of (in_order Big file)).blocks) leaf.block ≡ 0
leaf_apart file value leaf stands leads =
    let words : List ℕ = in_order Big file in
    let blocks : ℕ = (header_of words).blocks in
    let roles = stands.sound.roles in
    let named : StandsIn (data_blocks words blocks) leaf.block =
    data_block_of_id words blocks leaf.block leaf.number leads in
    let both = times-append ((0 ∷ tree_blocks words blocks) ++ data_blocks words blocks) roles.free leaf.block in
    let each = times-append (0 ∷ tree_blocks words blocks) (data_blocks words blocks) leaf.block in
    elim (cases_lt leaf.block blocks) [
      | inl low ↦ omega (
        arith,
        named,
        both,
        each,
        roles.once leaf.block,
        ap {B = ℕ} (λ (b : Bool). if b then 1 else 0) (lt-ltb leaf.block blocks low),
      )
      | inr high ↦ omega (
        arith,
        named,
        both,
        each,
        roles.once leaf.block,
        ap {B = ℕ} (λ (b : Bool). if b then 1 else 0) (le-ltb leaf.block blocks high),
      )
    ]

-- the leaves of a file that stands for a value can be read
pub can_be_read : (file : List ℕ) (blocks : ℕ) (flags : List Bool) (sorted : List TreePath) → StandsBig file blocks
    → IsPermutation (leaves (in_order Big file) blocks) sorted
    → AreFlagsOf blocks flags (0 ∷ tree_blocks (in_order Big file) blocks)
    → CanBeRead file blocks flags sorted
can_be_read file blocks flags sorted is moved marked =
    let words : List ℕ = in_order Big file in
    let lead : All (λ (leaf : TreePath). StandsIn (ids_at (leaves words blocks) leaf.block) leaf.number)
    (leaves words blocks) = All-from_recursion _ (leaves words blocks) (leaves_lead words blocks) in
    let sorted_lead = All-permutation
    (λ (leaf : TreePath). StandsIn (ids_at (leaves words blocks) leaf.block) leaf.number)
    (leaves words blocks) sorted moved lead in
    let stated : (leaf : TreePath) → StandsIn (ids_at (leaves words blocks) leaf.block) leaf.number
    → StandsIn (ids_at (leaves words (header_of words).blocks) leaf.block) leaf.number = λ leaf.
    subst (λ (n : ℕ). StandsIn (ids_at (leaves words n) leaf.block) leaf.number) (sym is.as_many) in
    record {
      numbers = 0 ∷ tree_blocks words blocks;
      marked = marked;
      apart = λ k d low.
          subst (λ (n : ℕ). times (0 ∷ tree_blocks words n) (get_or sorted k d).block ≡ 0) is.as_many
          (leaf_apart file is.value (get_or sorted k d) is.stands (stated (get_or sorted k d) (sorted_lead k d low)));
      has = λ k d low. leaf_has file is.value (get_or sorted k d) is.stands (sym is.format)
          (stated (get_or sorted k d) (sorted_lead k d low));
    }

-- and it has no damage by its roles
pub no_role_defect : (file : List ℕ) (blocks : ℕ) (damage : Damage) → StandsBig file blocks
    → ((free_head : ℕ) → IsRoleDefect Big file blocks free_head damage) → ⊥
no_role_defect file blocks damage is defect =
    let numbers : HeaderNumbers = header_of (in_order Big file) in
    no_defect_of_sound Big is.value.format file numbers is.stands.sound damage
    (defect numbers.free is.value.format numbers is.as_many refl)

-- the identifiers that are read of the leaves differ
pub ids_differ : (words : List ℕ) (blocks : ℕ) (sorted : List TreePath) (list : List Entry)
    → IsPermutation (leaves words blocks) sorted → ids_of list ≡ numbers_of sorted → IsDistinct nat_eq (ids_of list)
ids_differ words blocks sorted list moved ids =
    subst (IsDistinct nat_eq) (sym ids)
    (IsDistinct-IsPermutation nat_eq (λ x y. nat_eq_equiv.symm x y) (numbers_of (leaves words blocks))
    (numbers_of sorted) (IsPermutation-map (λ (leaf : TreePath). leaf.number) (leaves words blocks) sorted moved)
    (distinct_rising 0 (256 ^ 4) (leaves words blocks) (Rises-paths words blocks 4)))

-- the file that is seen stands for a value
pub seen_stands : (named : Option (List ℕ)) (kind : Kind) (limit : ℕ) (header : Header) (value : QuotaValue)
    → AreOf header (header_of (in_order Big (bytes_of named)))
    → IsTreeViewIn Big named kind (Some V2R0) limit (Ok value) → StandsBig (bytes_of named) header.blocks
seen_stands named kind limit header value are view =
    let seen = seen_file named kind limit value view in
    record { value = value; stands = seen.0; format = sym seen.1; as_many = are.blocks }

-- a refusal that would be none where the store tells its files
pub refused_untold : (before between now : ℕ) (tells : Bool) (named : Option (List ℕ)) (kind : Kind) (limit : ℕ)
    (fault : CheckFault) → before ≤ between → IsCheckFault between now (λ damage. IsTrue tells → ⊥) fault
    → IsTreeFaultIn Big before now tells named kind (Some V2R0) limit (open_fault fault)
refused_untold before between now tells named kind limit Store later is = omega (arith, later, is)
refused_untold before between now tells named kind limit (Damaged damage) later is =
    (is.0, λ told. absurd (is.1 told))
refused_untold before between now tells named kind limit Memory later is = tt
