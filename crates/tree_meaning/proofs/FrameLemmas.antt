-- The tree and the entries are the same in a file that keeps them, and that may have more blocks.
use Rattle.std.proofs.Common.{◌≡◌, ℕ, zero, suc, ◌+◌, ◌-◌, ◌*◌, ◌<◌, ◌≤◌, Bool, true, false, cond, ◌&&◌, ◌==◌, nat_le}
use Rattle.std.proofs.Common.{if◌then◌else◌, IsTrue, List, [], ◌∷◌, ◌++◌, length, map, filter, find, Option, Some, None}
use Rattle.std.proofs.Common.{option_and_then, option_map, refl, sym, ap, subst, ◌∙◌, inl, inr, arith}
use Rattle.std.specs.Prelude.{IfSome}
use Rattle.std.specs.List.{cons_option, filter_map, flat_map, range_with_len, AllByRecursion}
use Rattle.std.proofs.lemmas.Bool.{cases_Bool, leb-true}
use Rattle.std.proofs.lemmas.Bool.Decides.{nat_tests}
use Rattle.std.proofs.lemmas.List.{append-nil}
use Rattle.std.proofs.lemmas.List.Elements.{filter-append}
use Rattle.quota_types.specs.declared.file_kind.Format.{Format}
use Rattle.quota_types.specs.declared.record.Entry.{Entry}
use Rattle.quota_types.specs.Times.{StandsIn, times}
use Rattle.quota_types.proofs.TimesLemmas.{range_with_len-add, stands_cons, stands_right, times-cons-same}
use Rattle.quota_types.proofs.TimesLemmas.{times-filter-no}
use Rattle.file_blocks.specs.Block.{block_of, leads, word_at}
use Rattle.file_blocks.proofs.LeadsLemmas.{leads_within}
use Rattle.quota_radix.specs.declared.tree_path.TreePath.{TreePath}
use Rattle.quota_radix.specs.Tree.{blocks_of, ids_at, leaves, level, lower_blocks, paths, step, steps, tree_blocks}
use Rattle.quota_radix.proofs.LinkPathLemmas.{level_in_tree}
use Rattle.quota_radix.proofs.PathLemmas.{length_ids, level_leads}
use Rattle.tree_meaning.specs.Entries.{has_unused, used_ids}
use Rattle.tree_meaning.proofs.EntryPlaceLemmas.{entries_kept, ids_kept as used_ids_kept, unused_kept}
use Rattle.tree_meaning.specs.IsTree.{IsAwaited}
use Rattle.tree_meaning.specs.KeepsEntries.{IsNamed, KeepsEntries}
use Rattle.tree_meaning.specs.Loose.{Loose, leaves_with}
use Rattle.tree_meaning.specs.Roles.{Filled, counted_leaves, counts_as_data, data_with, has_room, roles}
use Rattle.tree_meaning.specs.TreeFile.{record_by_leaves, record_in}
use Rattle.quota_radix.specs.TreeDefect.{IsEmpty}
use Rattle.quota_radix.proofs.StepLemmas.{word_in}

-- a reference to a block leads to it among more blocks too
leads_more : (blocks more reference : ℕ) → blocks ≤ more → reference < blocks
    → leads more reference ≡ leads blocks reference
leads_more blocks more reference grows low = grind (arith, nat_tests)

alike : (f g : ℕ → Option TreePath) (first count : ℕ)
    → ((digit : ℕ) → first ≤ digit → digit < first + count → f digit ≡ g digit)
    → filter_map f (range_with_len first count) ≡ filter_map g (range_with_len first count)
alike f g first zero same = refl
alike f g first (suc count) same =
    ap (λ (o : Option TreePath). cons_option o (filter_map f (range_with_len (first + 1) count)))
    (same first (omega arith) (omega arith))
    ∙ ap (λ (ps : List TreePath). cons_option (g first) ps)
    (alike f g (first + 1) count (λ digit from to. same digit (omega arith) (omega arith)))

-- the path to a block goes on as before, where that keeps its references and these pass no block
steps_kept : (old new : List ℕ) (blocks more : ℕ) (path : TreePath) → blocks ≤ more
    → ((digit : ℕ) → digit < 256 → word_at old path.block digit < blocks)
    → ((digit : ℕ) → digit < 256 → word_at new path.block digit ≡ word_at old path.block digit)
    → steps new more path ≡ steps old blocks path
unfolding steps
steps_kept old new blocks more path grows low same =
    alike (step new more path) (step old blocks path) 0 256 (λ digit from to.
    let below : digit < 256 = omega arith in
    let word : ℕ = word_at old path.block digit in
    ap (λ (w : ℕ). if leads more w then Some (record { number = 256 * path.number + digit; block = w }) else None)
    (same digit below)
    ∙ ap (λ (b : Bool). if b then Some (record { number = 256 * path.number + digit; block = word }) else None)
    (leads_more blocks more word grows (low digit below)))

-- a test that no number of a range passes
none_pass : (test : ℕ → Bool) (first count : ℕ) → ((k : ℕ) → first ≤ k → test k ≡ false)
    → filter test (range_with_len first count) ≡ []
none_pass test first zero none = refl
none_pass test first (suc count) none =
    ap (λ (b : Bool). cond b (first ∷ filter test (range_with_len (first + 1) count))
    (filter test (range_with_len (first + 1) count))) (none first (omega arith))
    ∙ none_pass test (first + 1) count (λ k from. none k (omega arith))

some_of : (xs : List ℕ) (n : ℕ) → StandsIn xs n → 1 ≤ length xs
some_of [] n stands = absurd (omega (arith, stands))
some_of (x ∷ xs) n stands = omega arith

-- an identifier that leads to a block names it
pub named_of_id : (ps : List TreePath) (block id : ℕ) → StandsIn (ids_at ps block) id → StandsIn (blocks_of ps) block
named_of_id ps block id stands = omega (arith, length_ids ps block, some_of (ids_at ps block) id stands)

-- a leaf that counts names a block
named_leads : (awaited : Option TreePath) (file : List ℕ) (blocks block : ℕ) → IfSome awaited (IsAwaited file blocks)
    → StandsIn (blocks_of (leaves_with awaited (leaves file blocks))) block → IsTrue (leads blocks block)
named_leads None file blocks block is stands = level_leads file blocks 3 block stands
named_leads (Some leaf) file blocks block is stands =
    elim (stands_cons leaf.block (blocks_of (leaves file blocks)) block stands) [
      | inl same ↦ subst (λ (n : ℕ). IsTrue (leads blocks n)) same is.inside
      | inr there ↦ level_leads file blocks 3 block there
    ]

-- so a data block is a block
pub data_leads : (loose : Loose) (file : List ℕ) (blocks block : ℕ) → IfSome loose.awaited (IsAwaited file blocks)
    → counts_as_data loose file blocks block ≡ true → IsTrue (leads blocks block)
data_leads loose file blocks block awaited is =
    named_leads loose.awaited file blocks block awaited
    (leb-true 1 (times (blocks_of (counted_leaves loose file blocks)) block) is)

module _ (loose : Loose) (format : Format) (old new : List ℕ) (blocks more : ℕ)
    (kept : KeepsEntries loose format blocks more old new)
    (low : (block : ℕ) → StandsIn (tree_blocks old blocks) block → (digit : ℕ) → digit < 256
    → word_at old block digit < blocks)
    (awaited : IfSome loose.awaited (IsAwaited old blocks)) where
  onward_kept : (ps : List TreePath)
      → ((block : ℕ) → StandsIn (blocks_of ps) block → StandsIn (tree_blocks old blocks) block)
      → flat_map (steps new more) ps ≡ flat_map (steps old blocks) ps
  onward_kept [] tree = refl
  onward_kept (p ∷ ps) tree =
      let here : StandsIn (tree_blocks old blocks) p.block =
      tree p.block (omega (arith, times-cons-same p.block (blocks_of ps))) in
      ap (λ (qs : List TreePath). qs ++ flat_map (steps new more) ps)
      (steps_kept old new blocks more p kept.at_least (low p.block here) (kept.words p.block here))
      ∙ ap (λ (qs : List TreePath). steps old blocks p ++ qs)
      (onward_kept ps (λ block stands. tree block (stands_right (p.block ∷ []) (blocks_of ps) block stands)))

  -- the paths of no more than four digits are the same
  pub paths_kept : (digits : ℕ) → digits ≤ 4 → paths new more digits ≡ paths old blocks digits
  paths_kept zero few = refl
  paths_kept (suc digits) few =
      ap (flat_map (steps new more)) (paths_kept digits (omega (arith, few)))
      ∙ onward_kept (paths old blocks digits)
      (λ block stands. level_in_tree old blocks digits block (omega (arith, few)) stands)

  pub level_kept : (digits : ℕ) → digits ≤ 4 → level new more digits ≡ level old blocks digits
  level_kept digits few = ap (λ (ps : List TreePath). map (λ path. path.block) ps) (paths_kept digits few)

  pub lower_kept : lower_blocks new more ≡ lower_blocks old blocks
  lower_kept = λ i. level_kept 1 (omega arith) i ++ level_kept 2 (omega arith) i ++ level_kept 3 (omega arith) i

  pub tree_kept : tree_blocks new more ≡ tree_blocks old blocks
  tree_kept = λ i. level_kept 0 (omega arith) i ++ lower_kept i

  pub leaves_kept : counted_leaves loose new more ≡ counted_leaves loose old blocks
  leaves_kept = ap (leaves_with loose.awaited) (paths_kept 4 (omega arith))

  not_above : (block : ℕ) → blocks ≤ block → counts_as_data loose old blocks block ≡ false
  not_above block high = elim (cases_Bool (counts_as_data loose old blocks block)) [
    | inl is ↦
        absurd (omega (arith, high, (leads_within blocks block (data_leads loose old blocks block awaited is)).1))
    | inr other ↦ other
  ]

  counts_kept : (block : ℕ) → counts_as_data loose new more block ≡ counts_as_data loose old blocks block
  counts_kept block = ap (λ (ps : List TreePath). nat_le 1 (times (blocks_of ps) block)) leaves_kept

  -- the data blocks are the same
  pub data_kept : data_with loose new more ≡ data_with loose old blocks
  data_kept =
      let test : ℕ → Bool = counts_as_data loose old blocks in
      let at_least : blocks ≤ more = kept.at_least in
      let sum : more ≡ blocks + (more - blocks) = omega arith in
      ap (λ (ps : List TreePath).
      filter (λ block. nat_le 1 (times (blocks_of ps) block)) (range_with_len 0 more)) leaves_kept
      ∙ ap (λ (n : ℕ). filter test (range_with_len 0 n)) sum
      ∙ ap (filter test) (range_with_len-add 0 blocks (more - blocks))
      ∙ filter-append test (range_with_len 0 blocks) (range_with_len (0 + blocks) (more - blocks))
      ∙ ap (λ (xs : List ℕ). filter test (range_with_len 0 blocks) ++ xs)
      (none_pass test (0 + blocks) (more - blocks) (λ k from. not_above k (omega (arith, from))))
      ∙ append-nil (filter test (range_with_len 0 blocks))

  -- each block has the roles that it had
  pub roles_kept : (free : List ℕ) → roles loose new more free ≡ roles loose old blocks free
  roles_kept free = λ i. loose.held ++ 0 ∷ tree_kept i ++ data_kept i ++ free

  pub references_kept : (block : ℕ) → StandsIn (tree_blocks new more) block → (digit : ℕ) → digit < 256
      → word_at new block digit < more
  references_kept block stands digit small =
      let there : StandsIn (tree_blocks old blocks) block =
      subst (λ (xs : List ℕ). StandsIn xs block) tree_kept stands in
      omega (arith, kept.words block there digit small, low block there digit small, kept.at_least)

  -- the data blocks with room are the same
  pub room_kept : (block : ℕ) → has_room loose format new more block ≡ has_room loose format old blocks block
  room_kept block =
      ap (λ (b : Bool). b && has_unused format (block_of new block)) (counts_kept block)
      ∙ elim (counts_as_data loose old blocks block) as
      (λ b. counts_as_data loose old blocks block ≡ b
      → (b && has_unused format (block_of new block)) ≡ (b && has_unused format (block_of old block))) [
        | true ↦ λ is. unused_kept format (block_of old block) (block_of new block)
            (kept.entries block (leb-true 1 (times (blocks_of (counted_leaves loose old blocks)) block) is))
        | false ↦ λ is. refl
      ] refl

  ids_kept : (block : ℕ) → IsNamed loose old blocks block
      → used_ids format (block_of new block) ≡ used_ids format (block_of old block)
  ids_kept block named = used_ids_kept format (block_of old block) (block_of new block) (kept.entries block named)

  named_data : (block : ℕ) → StandsIn (data_with loose old blocks) block → IsNamed loose old blocks block
  named_data block stands = elim (cases_Bool (counts_as_data loose old blocks block)) [
    | inl is ↦ leb-true 1 (times (blocks_of (counted_leaves loose old blocks)) block) is
    | inr other ↦ absurd
        (omega (arith, stands, times-filter-no (counts_as_data loose old blocks) (range_with_len 0 blocks) block other))
  ]

  -- the tree and the data blocks are filled as they were
  pub filled_kept : Filled loose format old blocks → Filled loose format new more
  filled_kept filled = record {
    not_empty = λ block stands empty.
        let there : StandsIn (lower_blocks old blocks) block =
        subst (λ (xs : List ℕ). StandsIn xs block) lower_kept stands in
        filled.not_empty block there
        (λ digit small. sym
        (kept.words block (stands_right (level old blocks 0) (lower_blocks old blocks) block there) digit small)
        ∙ empty digit small);
    one_entry = λ block id stands.
        let there : StandsIn (ids_at (counted_leaves loose old blocks) block) id =
        subst (λ (ps : List TreePath). StandsIn (ids_at ps block) id) leaves_kept stands in
        ap (λ (ids : List ℕ). times ids id)
        (ids_kept block (named_of_id (counted_leaves loose old blocks) block id there))
        ∙ filled.one_entry block id there;
    stated = λ block stands.
        let there : StandsIn (data_with loose old blocks) block =
        subst (λ (xs : List ℕ). StandsIn xs block) data_kept stands in
        let named : IsNamed loose old blocks block = named_data block there in
        ap (λ (ids : List ℕ). length ids) (ids_kept block named) ∙ filled.stated block there
        ∙ sym (kept.stated block named);
    counted = λ block stands.
        let there : StandsIn (data_with loose old blocks) block =
        subst (λ (xs : List ℕ). StandsIn xs block) data_kept stands in
        ap (λ (ids : List ℕ). length ids) (ids_kept block (named_data block there)) ∙ filled.counted block there
        ∙ ap (λ (ps : List TreePath). length (ids_at ps block)) (sym leaves_kept);
  }

  found_kept : (id : ℕ) (ps : List TreePath)
      → ((block : ℕ) → StandsIn (blocks_of ps) block → IsNamed loose old blocks block)
      → record_by_leaves format new ps id ≡ record_by_leaves format old ps id
  found_kept id [] named = refl
  found_kept id (p ∷ ps) named =
      let here : IsNamed loose old blocks p.block =
      named p.block (omega (arith, times-cons-same p.block (blocks_of ps))) in
      elim (p.number == id) as
      (λ b. option_and_then (λ (leaf : TreePath). record_in format (block_of new leaf.block) id)
      (cond b (Some p) (find (λ (leaf : TreePath). leaf.number == id) ps))
      ≡ option_and_then (λ (leaf : TreePath). record_in format (block_of old leaf.block) id)
      (cond b (Some p) (find (λ (leaf : TreePath). leaf.number == id) ps))) [
        | true ↦ ap (λ (es : List Entry). option_map (λ (entry : Entry). entry.rec)
            (find (λ (entry : Entry). entry.id == id) es))
            (entries_kept format (block_of old p.block) (block_of new p.block) (kept.entries p.block here))
        | false ↦
            found_kept id ps (λ block stands. named block (stands_right (p.block ∷ []) (blocks_of ps) block stands))
      ]

  -- the record of each identifier is the same
  pub records_kept : (id : ℕ)
      → record_by_leaves format new (counted_leaves loose new more) id
      ≡ record_by_leaves format old (counted_leaves loose old blocks) id
  records_kept id =
      ap (λ (ps : List TreePath). record_by_leaves format new ps id) leaves_kept
      ∙ found_kept id (counted_leaves loose old blocks) (λ block stands. stands)

pub empty_kept : (old new : List ℕ) (block : ℕ) → block_of new block ≡ block_of old block → IsEmpty new block
    → IsEmpty old block
empty_kept old new block same empty digit low =
    ap (λ (bytes : List ℕ). word_in bytes digit) (sym same) ∙ empty digit low

pub flat_map_same : {X Y : Type 0} (f g : X → List Y) (xs : List X) → AllByRecursion (λ x. f x ≡ g x) xs
    → flat_map f xs ≡ flat_map g xs
flat_map_same f g [] all = refl
flat_map_same {X} {Y} f g (x ∷ xs) all =
    ap (λ (ys : List Y). ys ++ flat_map f xs) all.0 ∙ ap (λ (ys : List Y). g x ++ ys) (flat_map_same f g xs all.1)
