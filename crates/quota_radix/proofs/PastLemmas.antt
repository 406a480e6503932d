-- The first leaf from a number on, read block by block: how far a path has gone, the numbers behind it, and what a
-- refusal says of the block that was read.
use Rattle.std.proofs.Common.{◌≡◌, ℕ, suc, ◌+◌, ◌*◌, ◌^◌, ◌<◌, ◌≤◌, Bool, cond, List, ◌∷◌, length, get_or, Option, Some}
use Rattle.std.proofs.Common.{None, refl, sym, ap, subst, ◌∙◌, inl, inr, arith, pow-suc, mul-le-mul_left}
use Rattle.std.specs.List.{flat_map}
use Rattle.std.specs.Option.{option_map, option_or}
use Rattle.std.proofs.lemmas.Bool.{cases_eq}
use Rattle.quota_types.specs.Bytes.{number_at}
use Rattle.quota_types.specs.declared.damage.Damage.{Damage}
use Rattle.quota_types.specs.declared.damage.DamageKind.TheVariants.{RefOut, EmptyTree}
use Rattle.file_blocks.specs.Block.{block_of, leads, word_at}
use Rattle.quota_radix.specs.declared.tree_path.TreePath.{TreePath}
use Rattle.quota_radix.specs.Descent.{later_steps, leaf_from, path_from, paths_below, with_digits}
use Rattle.quota_radix.specs.Digits.{id_of}
use Rattle.quota_radix.specs.LeafAfter.{first_after, leaf_after}
use Rattle.quota_radix.specs.Lookup.{IsBelowRoot, IsOnWay, IsWayFault}
use Rattle.quota_radix.specs.Tree.{leaves, step}
use Rattle.quota_radix.specs.TreeDefect.{IsEmpty}
use Rattle.quota_radix.specs.Walk.{HasLeft}
use Rattle.quota_radix.proofs.DescentLemmas.{leaves_below, none_from}
use Rattle.quota_radix.proofs.FirstLemmas.{digits_below, first_of_first, least_below_step, none_of_none}
use Rattle.quota_radix.proofs.PathLemmas.{Rises-paths}
use Rattle.quota_radix.proofs.StepLemmas.{leads_on}
use Rattle.quota_radix.proofs.WayLemmas.{empty_fault, first_later, first_on_way, out_fault, pow_small}

-- a path from which a digit is to go has three digits at most
pub left_small : (to_go less : ℕ) (path : TreePath) → to_go ≡ suc less → HasLeft to_go path → path.number < 2 ^ 24
left_small to_go less path is left = omega (arith, left.small, pow_small left.gone (omega (arith, left.four, is)))

-- a path with one digit more has one digit fewer to go
pub left_next : (to_go less : ℕ) (path next : TreePath) → to_go ≡ suc less → HasLeft to_go path
    → next.number < 256 * path.number + 256 → HasLeft less next
left_next to_go less path next is left most = record {
  gone = suc left.gone;
  four = omega (arith, left.four, is);
  small = omega (arith, most, left.small, pow-suc 256 left.gone);
}

-- what goes on below a path with one digit more has greater numbers than all paths by smaller digits
pub least_onward : (to_go first leaf : ℕ) (path next : TreePath) → 256 * path.number + first ≤ next.number
    → 256 ^ to_go * next.number ≤ leaf
    → 256 ^ to_go * (256 * path.number + first) ≤ leaf
least_onward to_go first leaf path next least below =
    let more : 256 ^ to_go * (256 * path.number + first) ≤ 256 ^ to_go * next.number =
    mul-le-mul_left (256 ^ to_go) least in
    omega (arith, more, below)

pub least_all : (to_go less leaf : ℕ) (path : TreePath) → to_go ≡ suc less → 256 ^ less * (256 * path.number + 0) ≤ leaf
    → 256 ^ to_go * path.number ≤ leaf
least_all to_go less leaf path is below =
    let same : 256 ^ to_go * path.number ≡ 256 ^ less * (256 * path.number + 0) =
    omega (arith, ap (λ (k : ℕ). 256 ^ k * path.number) is, ap (λ (k : ℕ). k * path.number) (pow-suc 256 less)) in
    omega (arith, same, below)

-- and so greater ones than the number that is looked for
pub least_past_digits : (leaf digit : ℕ) (digits rest : List ℕ) (path : TreePath) → digits ≡ digit ∷ rest
    → ((k : ℕ) → get_or digits k 0 < 256)
    → 256 ^ length rest * (256 * path.number + (digit + 1)) ≤ leaf → with_digits path.number digits ≤ leaf
least_past_digits leaf digit digits rest path are bytes past =
    let low : with_digits (256 * path.number + digit) rest < 256 ^ length rest * suc (256 * path.number + digit) =
    digits_below (256 * path.number + digit) rest
    (λ k under. subst (λ (ds : List ℕ). get_or ds (suc k) 0 < 256) are (bytes (suc k))) in
    let next : suc (256 * path.number + digit) ≡ 256 * path.number + (digit + 1) = omega arith in
    let all : with_digits path.number digits ≡ with_digits (256 * path.number + digit) rest =
    ap (with_digits path.number) are in
    omega (arith, all, low, past, ap (λ (k : ℕ). 256 ^ length rest * k) next)

-- a reference past the last block of the block of a path
pub out_way : (file : List ℕ) (blocks to_go less : ℕ) (path : TreePath) (damage : Damage) → to_go ≡ suc less
    → IsOnWay file blocks to_go path
    → damage ≡ record { kind = RefOut; block = path.block; id = 0 }
    → (digit : ℕ) × (digit < 256) × (blocks ≤ word_at file path.block digit) → IsWayFault file blocks damage
out_way file blocks to_go less path damage more way is out =
    out_fault file blocks way.gone path.block out.0 (word_at file path.block out.0) damage
    (omega (arith, way.four, more)) way.stands out.1 refl out.2 is

-- the same of what was read
pub out_read : (missing : ℕ → ℕ) (known : Type 0) (file : List ℕ) (blocks to_go less : ℕ) (path : TreePath)
    (damage : Damage) → to_go ≡ suc less
    → (damage ≡ record { kind = RefOut; block = path.block; id = 0 }) × (missing path.block ≡ 0)
    × (known → (digit : ℕ) × (digit < 256) × (blocks ≤ word_at file path.block digit))
    → (missing damage.block ≡ 0) × (known → IsOnWay file blocks to_go path → IsWayFault file blocks damage)
out_read missing known file blocks to_go less path damage more out = (
  subst (λ (d : Damage). missing d.block ≡ 0) (sym out.0) out.1,
  λ told way. out_way file blocks to_go less path damage more way out.0 (out.2 told),
)

-- below the first step from a path below the root
pub below_onward : (file : List ℕ) (blocks to_go less first : ℕ) (path next : TreePath) → to_go ≡ suc less → first ≤ 256
    → IsBelowRoot file blocks to_go path
    → path_from 0 (later_steps file blocks path first) ≡ Some next → IsBelowRoot file blocks less next
below_onward file blocks to_go less first path next more low below found =
    let few : to_go < 4 = below.0 in (
      omega (arith, few, more),
      first_on_way file blocks less path next first low
          (subst (λ (k : ℕ). IsOnWay file blocks k path) more below.1) found,
    )

-- below the root too where the path is to a block of the tree
pub past_onward : (file : List ℕ) (blocks to_go first : ℕ) (path next : TreePath) → first ≤ 256
    → IsOnWay file blocks (suc to_go) path
    → path_from 0 (later_steps file blocks path first) ≡ Some next → IsBelowRoot file blocks to_go next
past_onward file blocks to_go first path next low way found =
    (omega (arith, way.four), first_on_way file blocks to_go path next first low way found)

-- a block below the root without a reference
pub empty_way : (file : List ℕ) (blocks to_go less : ℕ) (path : TreePath) (damage : Damage) → to_go ≡ suc less
    → IsBelowRoot file blocks to_go path → IsEmpty file path.block
    → damage ≡ record { kind = EmptyTree; block = path.block; id = 0 } → IsWayFault file blocks damage
empty_way file blocks to_go less path damage more below empty is =
    let few : to_go < 4 = below.0 in
    empty_fault file blocks less path damage (omega (arith, few, more))
    (subst (λ (k : ℕ). IsOnWay file blocks k path) more below.1) empty is

-- no leaf comes after the last identifier
pub none_after_last : (file : List ℕ) (blocks : ℕ) (after : Option ℕ) → first_after after ≡ 2 ^ 32
    → leaf_after file blocks after ≡ None
none_after_last file blocks after last =
    ap (option_map (λ (leaf : TreePath). (leaf.number, leaf.block)))
    (none_from 0 (256 ^ 4) (first_after after) (leaves file blocks) (Rises-paths file blocks 4) (omega (arith, last)))

-- the step by a reference that is none, or leads on
pub step_none : (file : List ℕ) (blocks : ℕ) (path : TreePath) (digit word : ℕ) → word ≡ word_at file path.block digit
    → word ≡ 0 → None ≡ step file blocks path digit
step_none file blocks path digit word is none =
    ap (λ (w : ℕ). cond (leads blocks w) (Some (record { number = 256 * path.number + digit; block = w })) None) (sym
    none ∙ is)

pub step_some : (file : List ℕ) (blocks : ℕ) (path : TreePath) (digit word : ℕ) → word ≡ word_at file path.block digit
    → word < blocks → (word ≡ 0 → ⊥)
    → Some (record { number = 256 * path.number + digit; block = word }) ≡ step file blocks path digit
step_some file blocks path digit word is low some =
    let next : ℕ → TreePath = λ w. record { number = 256 * path.number + digit; block = w } in
    ap (λ (b : Bool). cond b (Some (next word)) None) (sym (leads_on blocks word low some))
    ∙ ap (λ (w : ℕ). cond (leads blocks w) (Some (next w)) None) is

-- the first of the steps from a digit on, where the reference there is none, or leads on
pub later_none : (file : List ℕ) (blocks : ℕ) (path : TreePath) (digit word : ℕ) → digit < 256
    → word ≡ word_at file path.block digit → word ≡ 0
    → path_from 0 (later_steps file blocks path (digit + 1)) ≡ path_from 0 (later_steps file blocks path digit)
later_none file blocks path digit word low is none =
    let rest : Option TreePath = path_from 0 (later_steps file blocks path (digit + 1)) in
    ap (λ (o : Option TreePath). option_or o rest) (step_none file blocks path digit word is none)
    ∙ sym (first_later file blocks path digit low)

pub later_some : (file : List ℕ) (blocks : ℕ) (path : TreePath) (digit word : ℕ) → digit < 256
    → word ≡ word_at file path.block digit → word < blocks → (word ≡ 0 → ⊥)
    → Some (record { number = 256 * path.number + digit; block = word })
    ≡ path_from 0 (later_steps file blocks path digit)
later_some file blocks path digit word low is inside some =
    let rest : Option TreePath = path_from 0 (later_steps file blocks path (digit + 1)) in
    ap (λ (o : Option TreePath). option_or o rest) (step_some file blocks path digit word is inside some)
    ∙ sym (first_later file blocks path digit low)

-- the reference at a digit of a block that was read
pub word_read : (block file : List ℕ) (number digit word : ℕ) → word ≡ number_at 4 block (4 * digit)
    → block ≡ block_of file number → word ≡ word_at file number digit
word_read block file number digit word is read = is ∙ ap (λ (bytes : List ℕ). number_at 4 bytes (4 * digit)) read

-- one more reference that is none
pub zeros_more : (words : ℕ → ℕ) (first digit : ℕ) → ((k : ℕ) → first ≤ k → k < digit → words k ≡ 0) → words digit ≡ 0
    → (k : ℕ) → first ≤ k → k < digit + 1 → words k ≡ 0
zeros_more words first digit zeros here k from to = elim (cases_eq k digit) [
  | inl same ↦ ap words same ∙ here
  | inr differ ↦ zeros k from (omega arith)
]

-- the first leaf below the root from the number that four digits make
pub from_root : (file : List ℕ) (blocks from : ℕ) (digits : List ℕ) → length digits ≡ 4 → id_of digits ≡ from
    → path_from (with_digits 0 digits) (paths_below file blocks (length digits) (record { number = 0; block = 1 }))
    ≡ leaf_from file blocks from
from_root file blocks from digits four is =
    let root : TreePath = record { number = 0; block = 1 } in
    ap (λ (k : ℕ). path_from (with_digits 0 digits) (paths_below file blocks k root)) four
    ∙ ap (λ (n : ℕ). path_from n (paths_below file blocks 4 root)) is
    ∙ ap (path_from from) (sym (leaves_below file blocks))

-- a way from which a digit is to go
pub way_more : (file : List ℕ) (blocks to_go less : ℕ) (path : TreePath) → to_go ≡ suc less
    → IsOnWay file blocks to_go path → IsOnWay file blocks (suc less) path
way_more file blocks to_go less path more way = subst (λ (k : ℕ). IsOnWay file blocks k path) more way

-- the least leaf below the first step is that below the path
pub least_found : (file : List ℕ) (blocks to_go less : ℕ) (path next leaf : TreePath) (first : Option TreePath)
    → to_go ≡ suc less → first ≡ path_from 0 (later_steps file blocks path 0)
    → first ≡ Some next → path_from 0 (paths_below file blocks less next) ≡ Some leaf
    → path_from 0 (paths_below file blocks to_go path) ≡ Some leaf
least_found file blocks to_go less path next leaf first more is there below =
    subst (λ (k : ℕ). path_from 0 (paths_below file blocks k path) ≡ Some leaf) (sym more)
    (least_below_step file blocks less path next leaf (sym is ∙ there) below)

-- the least leaf below the first step behind a digit
pub least_past_some : (file : List ℕ) (blocks to_go digit from : ℕ) (path next leaf : TreePath)
    (first : Option TreePath) → from ≡ digit → first ≡ path_from 0 (later_steps file blocks path (from + 1))
    → first ≡ Some next → path_from 0 (paths_below file blocks to_go next) ≡ Some leaf
    → Some leaf ≡ path_from 0 (flat_map (paths_below file blocks to_go) (later_steps file blocks path (digit + 1)))
least_past_some file blocks to_go digit from path next leaf first same is there below =
    sym (first_of_first (paths_below file blocks to_go) (later_steps file blocks path (digit + 1)) next leaf
    (ap (λ (d : ℕ). path_from 0 (later_steps file blocks path (d + 1))) (sym same) ∙ sym is ∙ there) below)

pub least_past_none : (file : List ℕ) (blocks to_go digit from : ℕ) (path : TreePath) (first : Option TreePath)
    → from ≡ digit → first ≡ path_from 0 (later_steps file blocks path (from + 1))
    → first ≡ None
    → None ≡ path_from 0 (flat_map (paths_below file blocks to_go) (later_steps file blocks path (digit + 1)))
least_past_none file blocks to_go digit from path first same is none =
    sym (none_of_none (paths_below file blocks to_go) (later_steps file blocks path (digit + 1))
    (ap (λ (d : ℕ). path_from 0 (later_steps file blocks path (d + 1))) (sym same) ∙ sym is ∙ none))
