-- A level of a new file's tree, as its blocks are appended one after another.
use Rattle.std.proofs.Common.{length-drop, ◌≡◌, ◌≢◌, ℕ, zero, suc, ◌+◌, ◌*◌, ◌/◌, ◌<◌, ◌≤◌, IsTrue, List, [], ◌∷◌, ◌++◌}
use Rattle.std.proofs.Common.{length, map, get_or, take, drop, refl, sym, ap, subst, ◌∙◌, arith, length-append}
use Rattle.std.proofs.lemmas.List.{append_assoc, get_or-drop, append-nil, map-append, take-append-drop}
use Rattle.std.proofs.lemmas.List.Concat.{flat_map-append}
use Rattle.std.specs.Prelude.{All}
use Rattle.std.specs.List.{AllByRecursion, flat_map, range_with_len}
use Rattle.std.specs.List.Sorted.{IsStrictlyIncreasing}
use Rattle.quota_types.proofs.AscendsLemmas.{Ascends, Ascends-left, Ascends-right, IsStrictlyIncreasing-of}
use Rattle.quota_types.proofs.ListLemmas.{AllByRecursion-weaker}
use Rattle.quota_radix.specs.declared.tree_path.TreePath.{TreePath}
use Rattle.file_blocks.specs.Block.{block_of, leads}
use Rattle.quota_radix.specs.Tree.{blocks_of, numbers_of, steps}
use Rattle.tree_build.specs.NewFile.{AllLead, AreSiblings, IsFullTreeBlock, IsLevel, KeepsBlocks, parents_of}
use Rattle.quota_radix.specs.TreeDefect.{IsEmpty}
use Rattle.tree_build.specs.Size.{each_once}
use Rattle.file_blocks.proofs.LeadsLemmas.{leads_below}
use Rattle.tree_build.proofs.NewFileLemmas.{appended, kept_again, kept_append, kept_first}
use Rattle.tree_build.proofs.OnceLemmas.{once_run}
use Rattle.quota_radix.proofs.OrderLemmas.{each_left, each_of_places, each_right}
use Rattle.quota_radix.proofs.PathLemmas.{each-append}
use Rattle.quota_radix.proofs.StepLemmas.{none_of_zeros, range_push, steps_all, word_in}
use Rattle.quota_radix.proofs.LinkStepLemmas.{steps_same}
use Rattle.tree_build.proofs.TreeBlockLemmas.{no_path}
use Rattle.tree_meaning.proofs.FrameLemmas.{empty_kept, flat_map_same}

-- the blocks of paths to which numbers one after another were given
pub blocks_between : (paths : List TreePath) (first count : ℕ) → blocks_of paths ≡ range_with_len first count
    → AllByRecursion (λ (p : TreePath). (first ≤ p.block) × (p.block < first + count)) paths
blocks_between [] first count is = tt
blocks_between (p ∷ ps) first zero is = absurd cc
blocks_between (p ∷ ps) first (suc count) is =
    let this : p.block ≡ first = cc in
    let rest : blocks_of ps ≡ range_with_len (first + 1) count = cc in (
      (omega arith, omega arith),
      AllByRecursion-weaker (λ (q : TreePath). (first + 1 ≤ q.block) × (q.block < first + 1 + count))
          (λ (q : TreePath). (first ≤ q.block) × (q.block < first + suc count)) ps
          (λ q between. (omega (arith, between), omega (arith, between))) (blocks_between ps (first + 1) count rest),
    )

-- a full block that stays
full_kept : (old new : List ℕ) (blocks block : ℕ) → block_of new block ≡ block_of old block
    → IsFullTreeBlock old blocks block → IsFullTreeBlock new blocks block
full_kept old new blocks block same full = record {
  references =
      λ digit low. subst (λ (bytes : List ℕ). word_in bytes digit < blocks) (sym same) (full.references digit low);
  not_empty = λ empty. full.not_empty (empty_kept old new block same empty);
}

pub all_full_kept : (old new : List ℕ) (blocks : ℕ) (ps : List TreePath)
    → AllByRecursion (λ (p : TreePath). block_of new p.block ≡ block_of old p.block) ps
    → AllByRecursion (λ (p : TreePath). IsFullTreeBlock old blocks p.block) ps
    → AllByRecursion (λ (p : TreePath). IsFullTreeBlock new blocks p.block) ps
all_full_kept old new blocks [] same full = tt
all_full_kept old new blocks (p ∷ ps) same full =
    (full_kept old new blocks p.block same.0 full.0, all_full_kept old new blocks ps same.1 full.1)

-- a level whose blocks stay
pub level_kept : (blocks : ℕ) (old new : List ℕ) (parents children : List TreePath)
    → AllByRecursion (λ (p : TreePath). block_of new p.block ≡ block_of old p.block) parents
    → IsLevel old blocks parents children → IsLevel new blocks parents children
level_kept blocks old new parents children same level = record {
  onward = flat_map_same (steps new blocks) (steps old blocks) parents
      (AllByRecursion-weaker (λ (p : TreePath). block_of new p.block ≡ block_of old p.block)
      (λ (p : TreePath). steps new blocks p ≡ steps old blocks p) parents (λ p is. steps_same old new blocks p is) same)
      ∙ level.onward;
  full = all_full_kept old new blocks parents same level.full;
}

-- a file with the blocks of some parents of paths
pub record HasLevel (children : List TreePath) (first : ℕ) (old file : List ℕ)
    (parents rest : List TreePath) : Type 0 where
  pub kept : KeepsBlocks first old file
  pub blocks_are : blocks_of parents ≡ range_with_len first (length parents)
  pub numbers_are : numbers_of parents ++ parents_of (numbers_of rest) ≡ parents_of (numbers_of children)
  pub ascends : Ascends 0 (numbers_of rest)
  pub onward : (blocks : ℕ) → AllLead blocks children → flat_map (steps file blocks) parents ++ rest ≡ children
  pub full : (blocks : ℕ) → AllLead blocks children
      → AllByRecursion (λ (p : TreePath). IsFullTreeBlock file blocks p.block) parents

pub level_none : (children : List TreePath) (first : ℕ) (file : List ℕ) → Ascends 0 (numbers_of children)
    → HasLevel children first file file [] children
level_none children first file rising = record {
  kept = kept_first first file;
  blocks_are = refl;
  numbers_are = refl;
  ascends = rising;
  onward = λ blocks leading. refl;
  full = λ blocks leading. tt;
}

-- paths whose numbers are past those of a parent
past : (number low : ℕ) (paths : List TreePath) → 256 * number + 256 ≤ low → Ascends low (numbers_of paths)
    → AllByRecursion (λ n. n ≢ number) (map (λ n. n / 256) (numbers_of paths))
past number low [] above rising = tt
past number low (p ∷ ps) above rising =
    let from : low ≤ p.number = rising.0 in
    ((λ e. omega (arith, e, from, above)), past number (suc p.number) ps (omega arith) rising.1)

siblings_numbers : (number : ℕ) (paths : List TreePath) → AreSiblings number paths
    → AllByRecursion (λ n. n ≡ number) (map (λ n. n / 256) (numbers_of paths))
siblings_numbers number [] all = tt
siblings_numbers number (p ∷ ps) all = (all.0, siblings_numbers number ps all.1)

numbers_append : (ps qs : List TreePath) → numbers_of (ps ++ qs) ≡ numbers_of ps ++ numbers_of qs
numbers_append ps qs = map-append (λ (p : TreePath). p.number) ps qs

-- the first paths of one parent, and those behind them
pub record AreParted (number : ℕ) (rest siblings later : List TreePath) : Type 0 where
  pub joined : siblings ++ later ≡ rest
  pub some : 1 ≤ length siblings
  pub siblings_are : AreSiblings number siblings
  pub numbers_are : parents_of (numbers_of rest) ≡ number ∷ parents_of (numbers_of later)

-- paths behind those of a parent, the first of which has another one
behind_parent : (number low : ℕ) (later : List TreePath) → number ≤ low / 256
    → ((absent : TreePath) → 0 < length later → (get_or later 0 absent).number / 256 ≢ number)
    → Ascends low (numbers_of later)
    → AllByRecursion (λ n. n ≢ number) (map (λ n. n / 256) (numbers_of later))
behind_parent number low [] le other rising = tt
behind_parent number low (q ∷ qs) le other rising =
    let from : low ≤ q.number = rising.0 in
    let not_it : q.number / 256 ≢ number = other no_path (omega arith) in
    (not_it, past number (suc q.number) qs (omega (arith, not_it, from, le)) rising.1)

pub parted : (rest : List TreePath) (count number : ℕ) → 0 < length rest → number ≡ (get_or rest 0 no_path).number / 256
    → Ascends 0 (numbers_of rest)
    → All (λ (p : TreePath). p.number / 256 ≡ number) (take count rest)
    → ((absent : TreePath) → count < length rest → (get_or rest count absent).number / 256 ≢ number)
    → AreParted number rest (take count rest) (drop count rest)
parted [] count number some is rising same other = absurd (omega arith)
parted (p ∷ ps) zero number some is rising same other = absurd (other no_path (omega arith) (sym is))
parted (p ∷ ps) (suc count) number some is rising same other =
    let siblings : AreSiblings number (p ∷ take count ps) = each_of_places (λ (q : TreePath). q.number / 256 ≡ number)
    no_path (p ∷ take count ps) (λ k lt. same k no_path lt) in
    let joined : take count ps ++ drop count ps ≡ ps = take-append-drop count ps in
    let numbers : numbers_of ps ≡ numbers_of (take count ps) ++ numbers_of (drop count ps) =
    ap numbers_of (sym joined) ∙ numbers_append (take count ps) (drop count ps) in
    let whole : Ascends (suc p.number) (numbers_of (take count ps) ++ numbers_of (drop count ps)) =
    subst (Ascends (suc p.number)) numbers rising.1 in
    let later_rising : Ascends (suc p.number) (numbers_of (drop count ps)) =
    Ascends-right (suc p.number) (numbers_of (take count ps)) (numbers_of (drop count ps)) whole in
    let first_other : (absent : TreePath) → 0 < length (drop count ps)
    → (get_or (drop count ps) 0 absent).number / 256 ≢ number = λ absent there.
    let at : count + 0 ≡ count = omega arith in
    let is_there : get_or (drop count ps) 0 absent ≡ get_or ps count absent =
    get_or-drop count ps 0 absent ∙ ap (λ (k : ℕ). get_or ps k absent) at in
    subst (λ (q : TreePath). q.number / 256 ≢ number) (sym is_there)
    (other absent (omega (arith, there, length-drop count ps))) in
    let others = behind_parent number (suc p.number) (drop count ps) (omega arith) first_other later_rising in
    let divided : List ℕ → List ℕ = λ ns. map (λ n. n / 256) ns in
    record {
      joined = ap (λ (qs : List TreePath). p ∷ qs) joined;
      some = omega arith;
      siblings_are = siblings;
      numbers_are = ap (λ (ns : List ℕ). each_once (p.number / 256 ∷ divided ns)) numbers
          ∙ ap (λ (ns : List ℕ). each_once (p.number / 256 ∷ ns))
          (map-append (λ n. n / 256) (numbers_of (take count ps)) (numbers_of (drop count ps)))
          ∙ ap (λ (n : ℕ).
          each_once (n ∷ (divided (numbers_of (take count ps)) ++ divided (numbers_of (drop count ps))))) (sym is)
          ∙ once_run number (divided (numbers_of (take count ps))) (divided (numbers_of (drop count ps)))
          (siblings_numbers number (take count ps) siblings.1) others;
    }

-- a block from which no path goes on, though some do
not_empty_of : (file : List ℕ) (blocks : ℕ) (path : TreePath) (siblings : List TreePath)
    → steps file blocks path ≡ siblings → 1 ≤ length siblings → ¬ IsEmpty file path.block
not_empty_of file blocks path siblings are some empty =
    let none : steps file blocks path ≡ [] =
    sym (steps_all file (block_of file path.block) blocks path 256 refl refl)
    ∙ none_of_zeros (word_in (block_of file path.block)) blocks path 0 256 (λ digit low. empty digit (omega arith)) in
    omega (arith, ap length none, ap length are, some)

all_between : (paths : List TreePath) (first count : ℕ) → blocks_of paths ≡ range_with_len first count
    → AllByRecursion (λ (p : TreePath). p.block < first + count) paths
all_between paths first count is =
    AllByRecursion-weaker (λ (p : TreePath). (first ≤ p.block) × (p.block < first + count))
    (λ (p : TreePath). p.block < first + count) paths (λ p between. between.1) (blocks_between paths first count is)

pub level_more : (children : List TreePath) (first : ℕ) (old file new block : List ℕ)
    (parents more rest siblings later : List TreePath) (number blocks : ℕ)
    → length file ≡ 1024 * blocks → blocks ≡ first + length parents → length block ≡ 1024 → new ≡ file ++ block
    → more ≡ parents ++ record { number = number; block = blocks } ∷ []
    → AreParted number rest siblings later
    → ((other : List ℕ) (all : ℕ) (path : TreePath) → block_of other path.block ≡ block
    → IsStrictlyIncreasing (numbers_of siblings) → AreSiblings path.number siblings → AllLead all siblings
    → steps other all path ≡ siblings)
    → ((all digit : ℕ) → 1 ≤ all → AllLead all siblings → word_in block digit < all)
    → HasLevel children first old file parents rest → HasLevel children first old new more later
level_more children first old file new block parents more rest siblings later number blocks long place size grown pushed
    is_parted filled inside so_far =
    let count : ℕ = length parents in
    let parent : TreePath = record { number = number; block = blocks } in
    let kept : KeepsBlocks blocks file new =
    subst (λ (bytes : List ℕ). KeepsBlocks blocks file bytes) (sym grown) (kept_append file block blocks long) in
    let there : block_of new blocks ≡ block =
    ap (λ (bytes : List ℕ). block_of bytes blocks) grown ∙ appended file block blocks long size in
    let numbers : numbers_of rest ≡ numbers_of siblings ++ numbers_of later =
    ap numbers_of (sym is_parted.joined) ∙ numbers_append siblings later in
    let both : Ascends 0 (numbers_of siblings ++ numbers_of later) = subst (Ascends 0) numbers so_far.ascends in
    let rising : IsStrictlyIncreasing (numbers_of siblings) = IsStrictlyIncreasing-of 0 (numbers_of siblings)
    (Ascends-left 0 (numbers_of siblings) (numbers_of later) both) in
    let below : AllByRecursion (λ (p : TreePath). p.block < blocks) parents = subst
    (λ (n : ℕ). AllByRecursion (λ (p : TreePath). p.block < n) parents) (sym place)
    (all_between parents first count so_far.blocks_are) in
    let leading : (all : ℕ) → AllLead all children → AllLead all siblings = λ all lead.
    let here : AllLead all (siblings ++ later) =
    subst (AllLead all) (sym is_parted.joined)
    (each_right (λ (p : TreePath). IsTrue (leads all p.block)) (flat_map (steps file all) parents) rest
    (subst (AllLead all) (sym (so_far.onward all lead)) lead)) in
    each_left (λ (p : TreePath). IsTrue (leads all p.block)) siblings later here in
    let on : (all : ℕ) → AllLead all children → steps new all parent ≡ siblings =
    λ all lead. filled new all parent there rising is_parted.siblings_are (leading all lead) in
    let same : (all : ℕ) → flat_map (steps new all) parents ≡ flat_map (steps file all) parents = λ all.
    flat_map_same (steps new all) (steps file all) parents
    (AllByRecursion-weaker (λ (p : TreePath). p.block < blocks) (λ (p : TreePath). steps new all p ≡ steps file all p)
    parents (λ p low. steps_same file new all p (kept p.block low)) below) in
    record {
      kept = kept_again first old file new so_far.kept (λ k low. kept k (omega arith));
      blocks_are = ap blocks_of pushed ∙ map-append (λ (p : TreePath). p.block) parents (parent ∷ [])
          ∙ ap (λ (ns : List ℕ). ns ++ blocks ∷ []) so_far.blocks_are
          ∙ ap (λ (n : ℕ). range_with_len first count ++ n ∷ []) place
          ∙ sym (range_push first count)
          ∙ ap (range_with_len first) (sym (ap length pushed ∙ length-append parents (parent ∷ [])));
      numbers_are = ap (λ (ps : List TreePath). numbers_of ps ++ parents_of (numbers_of later)) pushed
          ∙ ap (λ (ns : List ℕ). ns ++ parents_of (numbers_of later)) (numbers_append parents (parent ∷ []))
          ∙ append_assoc (numbers_of parents) (number ∷ []) (parents_of (numbers_of later))
          ∙ ap (λ (ns : List ℕ). numbers_of parents ++ ns) (sym is_parted.numbers_are) ∙ so_far.numbers_are;
      ascends = Ascends-right 0 (numbers_of siblings) (numbers_of later) both;
      onward = λ all lead.
          ap (λ (ps : List TreePath). flat_map (steps new all) ps ++ later) pushed
          ∙ ap (λ (ps : List TreePath). ps ++ later) (flat_map-append (steps new all) parents (parent ∷ []))
          ∙ ap (λ (ps : List TreePath). (flat_map (steps new all) parents ++ ps) ++ later)
          (append-nil (steps new all parent) ∙ on all lead)
          ∙ append_assoc (flat_map (steps new all) parents) siblings later
          ∙ ap (λ (ps : List TreePath). flat_map (steps new all) parents ++ ps) is_parted.joined
          ∙ ap (λ (ps : List TreePath). ps ++ rest) (same all)
          ∙ so_far.onward all lead;
      full = λ all lead.
          let some : 1 ≤ all = lead_some all siblings is_parted.some (leading all lead) in
          subst (AllByRecursion (λ (p : TreePath). IsFullTreeBlock new all p.block)) (sym pushed)
          (each-append (λ (p : TreePath). IsFullTreeBlock new all p.block) parents (parent ∷ [])
          (all_full_kept file new all parents
          (AllByRecursion-weaker (λ (p : TreePath). p.block < blocks)
          (λ (p : TreePath). block_of new p.block ≡ block_of file p.block) parents (λ p low. kept p.block low) below)
          (so_far.full all lead)) (
            record {
              references = λ digit low. subst (λ (bytes : List ℕ). word_in bytes digit < all) (sym there)
                  (inside all digit some (leading all lead));
              not_empty = not_empty_of new all parent siblings (on all lead) is_parted.some;
            },
            tt,
          ));
    }
  where
    lead_some : (all : ℕ) (ps : List TreePath) → 1 ≤ length ps → AllLead all ps → 1 ≤ all
    lead_some all [] some lead = absurd (omega arith)
    lead_some all (p ∷ ps) some lead = let low = leads_below all p.block lead.0 in omega arith

-- the level when no path is left
pub level_all : (children : List TreePath) (first : ℕ) (old file : List ℕ) (parents rest : List TreePath)
    → length rest ≡ 0 → HasLevel children first old file parents rest
    → HasLevel children first old file parents []
level_all children first old file parents [] none so_far = so_far
level_all children first old file parents (p ∷ ps) none so_far = absurd (omega arith)
