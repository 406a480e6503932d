-- The references between the ways of two identifiers, where none leads past the last block: level by level, and digit
-- by digit.
use Rattle.std.proofs.Common.{◌≡◌, ℕ, zero, suc, ◌+◌, ◌-◌, ◌*◌, ◌/◌, ◌%◌, ◌^◌, ◌<◌, ◌≤◌, Bool, true, cond, nat_le}
use Rattle.std.proofs.Common.{IsTrue, List, [], ◌∷◌, length, Option, Some, None, option_and_then, Result, Ok, Err, refl}
use Rattle.std.proofs.Common.{sym, ap, subst, ◌∙◌, inl, inr, arith, pow-suc, mul-le-mul_left}
use Rattle.std.specs.Prelude.{IfOk, IfSome}
use Rattle.std.proofs.lemmas.Bool.{cases_Bool, cases_eq, cases_lt}
use Rattle.std.proofs.lemmas.Bool.Decides.{nat_tests}
use Rattle.quota_types.specs.Damage.{NamesItsId}
use Rattle.quota_types.proofs.TimesLemmas.{times-cons-same}
use Rattle.quota_types.specs.Times.{StandsIn}
use Rattle.quota_types.specs.declared.damage.Damage.{Damage}
use Rattle.quota_types.specs.declared.damage.DamageKind.{DamageKind}
use Rattle.quota_types.specs.declared.damage.DamageKind.TheVariants.{RefOut}
use Rattle.file_blocks.specs.Block.{word_at, leads}
use Rattle.quota_radix.specs.declared.tree_path.TreePath.{TreePath}
use Rattle.quota_radix.specs.Descent.{later_steps, path_from, paths_below, with_digits}
use Rattle.quota_radix.specs.OnWay.{block_led_to, led_by, block_on_way}
use Rattle.quota_radix.specs.Digits.{id_of}
use Rattle.quota_radix.specs.Lookup.{IsWayFault}
use Rattle.quota_radix.specs.Tree.{level, step}
use Rattle.quota_radix.specs.Way.{IsClearTo, IsInsideBy, IsInsideFrom, IsInsideOnWay, IsInsideUpTo, IsOutOnWay}
use Rattle.quota_radix.specs.Way.{digit_on_way, number_in}
use Rattle.quota_radix.proofs.AlongLemmas.{divided}
use Rattle.quota_radix.proofs.DescentLemmas.{Rises-paths_below, not_some, some_same}
use Rattle.quota_radix.proofs.FirstLemmas.{digits_above}
use Rattle.quota_radix.proofs.OrderLemmas.{rises_bound}
use Rattle.quota_radix.proofs.PathLemmas.{Rises}
use Rattle.quota_radix.proofs.WayLemmas.{first_is_step, level_onward, out_fault, step_is}

-- what follows of an identifier that may be there
some_so : (P Q : ℕ → Type 0) (last : Option ℕ) → ((id : ℕ) → P id → Q id) → IfSome last P → IfSome last Q
some_so P Q None so here = tt
some_so P Q (Some id) so here = so id here

-- what follows of an answer by two clauses
pub both_weaker : {T E : Type 0} (result : Result T E) (P Q R : T → Type 0)
    → ((value : T) → P value → Q value → R value) → IfOk result P → IfOk result Q → IfOk result R
both_weaker (Ok value) P Q R so one two = so value one two
both_weaker (Err fault) P Q R so one two = tt

leads_low : (blocks word : ℕ) → leads blocks word ≡ true → word < blocks
leads_low blocks word leading = grind (arith, nat_tests)

not_led : (blocks word : ℕ) → leads blocks word ≡ true → word ≡ 0 → ⊥
not_led blocks word leading none = grind (arith, nat_tests)

pow_times : (k number : ℕ) → 256 ^ suc k * number ≡ 256 ^ k * (256 * number)
pow_times k number = omega (arith, ap (λ (power : ℕ). power * number) (pow-suc 256 k))

cancel : (k one two : ℕ) → 256 ^ k * one < 256 ^ k * two → one < two
cancel k one two low = elim (cases_lt one two) [
  | inl under ↦ under
  | inr over ↦
      absurd (let more : 256 ^ k * two ≤ 256 ^ k * one = mul-le-mul_left (256 ^ k) over in omega (arith, low, more))
]

-- a number reaches from an identifier on where the one of a digit more does
above_first : (k number first : ℕ) → first < 256 ^ k * (number + 1) → first < 256 ^ suc k * (number / 256 + 1)
above_first k number first low =
    let more : 256 ^ k * (number + 1) ≤ 256 ^ k * (256 * (number / 256 + 1)) =
    mul-le-mul_left (256 ^ k) (omega arith) in
    omega (arith, low, more, pow_times k (number / 256 + 1))

above_last : (k number id : ℕ) → 256 ^ k * number ≤ id → 256 ^ suc k * (number / 256) ≤ id
above_last k number id low =
    let less : 256 ^ k * (256 * (number / 256)) ≤ 256 ^ k * number = mul-le-mul_left (256 ^ k) (omega arith) in
    omega (arith, low, less, pow_times k (number / 256))

-- from a greater identifier on too
inside_later : (file : List ℕ) (blocks to_go : ℕ) (path : TreePath) (first from : ℕ) (last : Option ℕ) → first ≤ from
    → IsInsideFrom file blocks to_go path first last → IsInsideFrom file blocks to_go path from last
inside_later file blocks zero path first from last more inside = tt
inside_later file blocks (suc to_go) path first from last more inside = λ digit low reaches upto.
    let here = inside digit low (omega (arith, more, reaches)) upto in (
      here.0,
      λ leading. inside_later file blocks to_go
          (record { number = 256 * path.number + digit; block = word_at file path.block digit }) first from last more
          (here.1 leading),
    )

-- and up to one, where it is so up to all
inside_all : (file : List ℕ) (blocks to_go : ℕ) (path : TreePath) (first : ℕ) (last : Option ℕ)
    → IsInsideFrom file blocks to_go path first None → IsInsideFrom file blocks to_go path first last
inside_all file blocks zero path first last inside = tt
inside_all file blocks (suc to_go) path first last inside = λ digit low reaches upto.
    let here = inside digit low reaches tt in (
      here.0,
      λ leading. inside_all file blocks to_go
          (record { number = 256 * path.number + digit; block = word_at file path.block digit }) first last
          (here.1 leading),
    )

-- the first of ascending paths from a number on is below their bound
found_under : (low high from : ℕ) (ps : List TreePath) (leaf : TreePath) → Rises low ps high
    → path_from from ps ≡ Some leaf → leaf.number < high
found_under low high from [] leaf r found = absurd (not_some leaf (sym found))
found_under low high from (p ∷ ps) leaf r found = elim (cases_Bool (nat_le from p.number)) [
  | inl passes ↦
      let same : p ≡ leaf =
      some_same p leaf (sym (ap (λ (b : Bool). cond b (Some p) (path_from from ps)) passes) ∙ found) in
      omega (arith, ap (λ (path : TreePath). path.number) same, rises_bound (suc p.number) high ps r.1)
  | inr fails ↦ found_under (suc p.number) high from ps leaf r.1
      (sym (ap (λ (b : Bool). cond b (Some p) (path_from from ps)) fails) ∙ found)
]

below_most : (file : List ℕ) (blocks k from : ℕ) (next leaf : TreePath)
    → path_from from (paths_below file blocks k next) ≡ Some leaf → leaf.number < 256 ^ k * (next.number + 1)
below_most file blocks k from next leaf found =
    let under : leaf.number < 256 ^ k * suc next.number =
    found_under (256 ^ k * next.number) (256 ^ k * suc next.number) from (paths_below file blocks k next) leaf
    (Rises-paths_below file blocks k next) found in
    let same : next.number + 1 ≡ suc next.number = omega arith in
    omega (arith, under, ap (λ (n : ℕ). 256 ^ k * n) same)

-- no reference before the first one that leads on, which is followed by a leaf
pub by_some : (file : List ℕ) (blocks k least : ℕ) (path next leaf : TreePath) (found : Option TreePath)
    → found ≡ path_from 0 (later_steps file blocks path least) → found ≡ Some next
    → IsClearTo file blocks path least found → path_from 0 (paths_below file blocks k next) ≡ Some leaf
    → IsInsideFrom file blocks k next 0 (Some leaf.number)
    → IsInsideBy file blocks k path least (Some leaf.number)
unfolding IsClearTo
by_some file blocks k least path next leaf found first is clear below behind = λ digit from to upto.
    let by = first_is_step file blocks path next least (256 - least) (sym first ∙ is) in
    let there = step_is file blocks path next by.0 by.2 in
    let number : next.number ≡ 256 * path.number + by.0 = ap (λ (p : TreePath). p.number) there.1 in
    let under : 256 * path.number + digit < next.number + 1 =
    cancel k (256 * path.number + digit) (next.number + 1)
    (omega (arith, upto, below_most file blocks k 0 next leaf below)) in
    elim (cases_eq digit by.0) [
      | inl same ↦
          let leading : leads blocks (word_at file path.block digit) ≡ true =
          subst (λ (d : ℕ). leads blocks (word_at file path.block d) ≡ true) (sym same) there.0 in
          let on : ℕ → TreePath = λ d. record { number = 256 * path.number + d; block = word_at file path.block d } in
          let next_is : next ≡ on digit = there.1 ∙ ap on (sym same) in (
            leads_low blocks (word_at file path.block digit) leading,
            λ led. subst (λ (p : TreePath). IsInsideFrom file blocks k p 0 (Some leaf.number)) next_is behind,
          )
      | inr differ ↦
          let none =
          subst (IsClearTo file blocks path least) is clear digit from to (omega (arith, under, number, differ)) in
          (omega (arith, none.0, none.1), λ led. absurd (not_led blocks (word_at file path.block digit) led none.0))
    ]

-- none at all, where none leads on
pub by_none : (file : List ℕ) (blocks k least : ℕ) (path : TreePath) (found : Option TreePath) (last : Option ℕ)
    → found ≡ None → IsClearTo file blocks path least found
    → IsInsideBy file blocks k path least last
unfolding IsClearTo
by_none file blocks k least path found last is clear = λ digit from to upto.
    let none = subst (IsClearTo file blocks path least) is clear digit from to tt in
    (omega (arith, none.0, none.1), λ led. absurd (not_led blocks (word_at file path.block digit) led none.0))

-- by all digits
pub from_first : (file : List ℕ) (blocks to_go less : ℕ) (path : TreePath) (last : Option ℕ) → to_go ≡ suc less
    → IsInsideBy file blocks less path 0 last
    → IsInsideFrom file blocks to_go path 0 last
from_first file blocks to_go less path last more by =
    subst (λ (k : ℕ). IsInsideFrom file blocks k path 0 last) (sym more)
    (λ digit low reaches upto. by digit (omega arith) low upto)

pub from_none : (file : List ℕ) (blocks to_go first : ℕ) (path : TreePath) (last : Option ℕ) → to_go ≡ 0
    → IsInsideFrom file blocks to_go path first last
from_none file blocks to_go first path last none =
    subst (λ (k : ℕ). IsInsideFrom file blocks k path first last) (sym none) tt

-- the references of a path from the number on that digits make: that by the first digit with those below it, and those
-- by greater ones
module _ (file : List ℕ) (blocks digit : ℕ) (digits rest : List ℕ) (path : TreePath) (are : digits ≡ digit ∷ rest)
    (here : word_at file path.block digit < blocks) where
  all : (last : Option ℕ)
      → (IsTrue (leads blocks (word_at file path.block digit))
      → IsInsideFrom file blocks (length rest)
      (record { number = 256 * path.number + digit; block = word_at file path.block digit })
      (with_digits (256 * path.number + digit) rest) last)
      → IsInsideBy file blocks (length rest) path (digit + 1) last
      → IsInsideFrom file blocks (length digits) path (with_digits path.number digits) last
  all last behind past =
      subst (λ (ds : List ℕ). IsInsideFrom file blocks (length ds) path (with_digits path.number ds) last) (sym are)
      (λ d low reaches upto.
      let over : 256 * path.number + digit < 256 * path.number + d + 1 =
      cancel (length rest) (256 * path.number + digit) (256 * path.number + d + 1)
      (omega (arith, reaches, digits_above (256 * path.number + digit) rest)) in
      elim (cases_eq d digit) [
        | inl same ↦ subst (λ (k : ℕ). (word_at file path.block k < blocks)
            × (IsTrue (leads blocks (word_at file path.block k))
            → IsInsideFrom file blocks (length rest)
            (record { number = 256 * path.number + k; block = word_at file path.block k })
            (with_digits (256 * path.number + digit) rest) last))
            (sym same) (here, behind)
        | inr differ ↦
            let later = past d (omega (arith, over, differ)) low upto in (
              later.0,
              λ leading. inside_later file blocks (length rest)
                  (record { number = 256 * path.number + d; block = word_at file path.block d }) 0
                  (with_digits (256 * path.number + digit) rest) last (omega arith) (later.1 leading),
            )
      ])

  -- where the first digit leads nowhere
  pub inside_past : (found : Option TreePath) (last : Option ℕ) → found ≡ step file blocks path digit → found ≡ None
      → IsInsideBy file blocks (length rest) path (digit + 1) last
      → IsInsideFrom file blocks (length digits) path (with_digits path.number digits) last
  inside_past found last is none past =
      let there : TreePath = record { number = 256 * path.number + digit; block = word_at file path.block digit } in
      all last (λ leading.
      absurd (not_some there (ap (λ (b : Bool). cond b (Some there) None) (sym leading) ∙ sym is ∙ none))) past

  -- where it leads on, but to no leaf
  pub inside_both : (found below : Option TreePath) (next : TreePath) (last : Option ℕ)
      → found ≡ step file blocks path digit → found ≡ Some next → below ≡ None
      → IsInsideFrom file blocks (length rest) next (with_digits next.number rest) (number_in below)
      → IsInsideBy file blocks (length rest) path (digit + 1) last
      → IsInsideFrom file blocks (length digits) path (with_digits path.number digits) last
  inside_both found below next last is some none inside past =
      let there = step_is file blocks path next digit (sym is ∙ some) in
      let every : IsInsideFrom file blocks (length rest) next (with_digits next.number rest) last =
      inside_all file blocks (length rest) next (with_digits next.number rest) last
      (subst (λ (o : Option TreePath).
      IsInsideFrom file blocks (length rest) next (with_digits next.number rest) (number_in o)) none inside) in
      all last (λ leading. subst
      (λ (p : TreePath). IsInsideFrom file blocks (length rest) p (with_digits p.number rest) last) there.1 every) past

  -- where it leads on to the leaf
  pub inside_here : (found below : Option TreePath) (next leaf : TreePath) → found ≡ step file blocks path digit
      → found ≡ Some next → below ≡ Some leaf
      → below ≡ path_from (with_digits next.number rest) (paths_below file blocks (length rest) next)
      → IsInsideFrom file blocks (length rest) next (with_digits next.number rest) (number_in below)
      → IsInsideFrom file blocks (length digits) path (with_digits path.number digits) (Some leaf.number)
  inside_here found below next leaf is some leaf_is first inside =
      let there = step_is file blocks path next digit (sym is ∙ some) in
      let number : next.number ≡ 256 * path.number + digit = ap (λ (p : TreePath). p.number) there.1 in
      let most : leaf.number < 256 ^ length rest * (next.number + 1) =
      below_most file blocks (length rest) (with_digits next.number rest) next leaf (sym first ∙ leaf_is) in
      let upto_leaf : IsInsideFrom file blocks (length rest) next (with_digits next.number rest) (Some leaf.number) =
      subst (λ (o : Option TreePath).
      IsInsideFrom file blocks (length rest) next (with_digits next.number rest) (number_in o)) leaf_is inside in
      all (Some leaf.number)
      (λ leading. subst
      (λ (p : TreePath). IsInsideFrom file blocks (length rest) p (with_digits p.number rest) (Some leaf.number))
      there.1 upto_leaf)
      (λ d from to upto. absurd (
      let under : 256 * path.number + d < next.number + 1 =
      cancel (length rest) (256 * path.number + d) (next.number + 1) (omega (arith, upto, most)) in
      omega (arith, under, number, from)))

led_some : (file : List ℕ) (blocks digit block word : ℕ) → led_by file blocks digit block ≡ Some word
    → (leads blocks (word_at file block digit) ≡ true) × (word_at file block digit ≡ word)
led_some file blocks digit block word led = elim (cases_Bool (leads blocks (word_at file block digit))) [
  | inl leading ↦
      let is : Some (word_at file block digit) ≡ Some word =
      ap (λ (b : Bool). cond b (Some (word_at file block digit)) None) (sym leading) ∙ led in
      (leading, cc)
  | inr other ↦
      let none : Some word ≡ None = sym led ∙ ap (λ (b : Bool). cond b (Some (word_at file block digit)) None) other in
      absurd cc
]

led_from : (file : List ℕ) (blocks digit word : ℕ) (from : Option ℕ)
    → option_and_then (led_by file blocks digit) from ≡ Some word
    → (block : ℕ) × (from ≡ Some block) × (leads blocks (word_at file block digit) ≡ true)
    × (word_at file block digit ≡ word)
led_from file blocks digit word None led = absurd cc
led_from file blocks digit word (Some block) led =
    let there = led_some file blocks digit block word led in
    (block, refl, there.0, there.1)

-- where digits lead stands in the tree
led_stands : (file : List ℕ) (blocks gone number block : ℕ) → block_led_to file blocks gone number ≡ Some block
    → StandsIn (level file blocks gone) block
led_stands file blocks zero number block led =
    let one : 1 ≡ block = cc in
    subst (λ (b : ℕ). StandsIn (level file blocks 0) b) one (omega (arith, times-cons-same 1 []))
led_stands file blocks (suc gone) number block led =
    let from = led_from file blocks (number % 256) block (block_led_to file blocks gone (number / 256)) led in
    let above : StandsIn (level file blocks gone) from.0 = led_stands file blocks gone (number / 256) from.0 from.1 in
    subst (λ (b : ℕ). StandsIn (level file blocks (suc gone)) b) from.3
    (level_onward file blocks gone (number % 256) from.0 (word_at file from.0 (number % 256)) (omega arith)
    refl from.2 above)

-- a reference on the way of an identifier that leads past the last block is a damage
pub out_on_way : (file : List ℕ) (blocks id : ℕ) (damage : Damage) → damage.kind ≡ RefOut
    → NamesItsId damage.kind damage.id → IsOutOnWay file blocks id damage.block → IsWayFault file blocks damage
unfolding block_on_way digit_on_way
out_on_way file blocks id damage kind named out =
    let no_id : damage.id ≡ 0 = subst (λ (k : DamageKind). NamesItsId k damage.id) kind named in
    let digit : ℕ = id / 256 ^ (3 - out.gone) % 256 in
    out_fault file blocks out.gone damage.block digit (word_at file damage.block digit) damage out.few
    (led_stands file blocks out.gone (id / 256 ^ (4 - out.gone)) damage.block out.led)
    (omega arith) refl out.out (λ i. record { kind = kind i; block = damage.block; id = no_id i })

-- from the root down by the digits of a number
inside_at : (file : List ℕ) (blocks first : ℕ) (last : Option ℕ) (gone to_go number block : ℕ) → gone + to_go ≡ 4
    → IsInsideFrom file blocks 4 (record { number = 0; block = 1 }) first last
    → number < 256 ^ gone → block_led_to file blocks gone number ≡ Some block → first < 256 ^ to_go * (number + 1)
    → IfSome last (λ id. 256 ^ to_go * number ≤ id)
    → IsInsideFrom file blocks to_go (record { number = number; block = block }) first last
inside_at file blocks first last zero to_go number block four inside small led reaches upto =
    let root : Some 1 ≡ Some block = led in
    let one : 1 ≡ block = cc in
    let none : 0 ≡ number = omega (arith, small) in
    let all : 4 ≡ to_go = omega (arith, four) in
    subst (λ (k : ℕ). IsInsideFrom file blocks k (record { number = number; block = block }) first last) all
    (subst (λ (b : ℕ). IsInsideFrom file blocks 4 (record { number = number; block = b }) first last) one
    (subst (λ (n : ℕ). IsInsideFrom file blocks 4 (record { number = n; block = 1 }) first last) none inside))
inside_at file blocks first last (suc gone) to_go number block four inside small led reaches upto =
    let from = led_from file blocks (number % 256) block (block_led_to file blocks gone (number / 256)) led in
    let above : IsInsideFrom file blocks (suc to_go) (record { number = number / 256; block = from.0 }) first last =
    inside_at file blocks first last gone (suc to_go) (number / 256) from.0 (omega (arith, four)) inside
    (omega (arith, small, pow-suc 256 gone)) from.1
    (above_first to_go number first reaches)
    (some_so (λ id. 256 ^ to_go * number ≤ id) (λ id. 256 ^ suc to_go * (number / 256) ≤ id) last
    (above_last to_go number) upto) in
    let whole : number ≡ 256 * (number / 256) + number % 256 = omega arith in
    let here = above (number % 256) (omega arith) (subst (λ (n : ℕ). first < 256 ^ to_go * (n + 1)) whole reaches)
    (subst (λ (n : ℕ). IfSome last (λ id. 256 ^ to_go * n ≤ id)) whole upto) in
    subst (λ (b : ℕ). IsInsideFrom file blocks to_go (record { number = number; block = b }) first last) from.3
    (subst (λ (n : ℕ). IsInsideFrom file blocks to_go
    (record { number = n; block = word_at file from.0 (number % 256) }) first last) (sym whole) (here.1 from.2))

inside_up_to : (file : List ℕ) (blocks first : ℕ) (last : Option ℕ)
    → IsInsideFrom file blocks 4 (record { number = 0; block = 1 }) first last → IsInsideUpTo file blocks first last
inside_up_to file blocks first last inside gone number block few small led reaches upto =
    let to_go : ℕ = 3 - gone in
    let power : 256 ^ (gone + 1) ≡ 256 * 256 ^ gone =
    omega (arith, ap (λ (k : ℕ). 256 ^ k) (plus_one gone), pow-suc 256 gone) in
    let here : IsInsideFrom file blocks (suc to_go) (record { number = number / 256; block = block }) first last =
    inside_at file blocks first last gone (suc to_go) (number / 256) block (omega (arith, few)) inside
    (omega (arith, small, power)) led
    (above_first to_go number first reaches)
    (some_so (λ id. 256 ^ to_go * number ≤ id) (λ id. 256 ^ suc to_go * (number / 256) ≤ id) last
    (above_last to_go number) upto) in
    let whole : number ≡ 256 * (number / 256) + number % 256 = omega arith in
    let by = here (number % 256) (omega arith) (subst (λ (n : ℕ). first < 256 ^ to_go * (n + 1)) whole reaches)
    (subst (λ (n : ℕ). IfSome last (λ id. 256 ^ to_go * n ≤ id)) whole upto) in
    by.0
  where
    plus_one : (k : ℕ) → k + 1 ≡ suc k
    plus_one k = omega arith

-- what the root's references say of an identifier's digits
pub root_up_to : (file : List ℕ) (blocks from : ℕ) (digits : List ℕ) (last : Option ℕ) → length digits ≡ 4
    → id_of digits ≡ from
    → IsInsideFrom file blocks (length digits) (record { number = 0; block = 1 }) (with_digits 0 digits) last
    → IsInsideUpTo file blocks from last
root_up_to file blocks from digits last four id inside =
    inside_up_to file blocks from last
    (subst (λ (n : ℕ). IsInsideFrom file blocks 4 (record { number = 0; block = 1 }) n last) id
    (subst
    (λ (k : ℕ). IsInsideFrom file blocks k (record { number = 0; block = 1 }) (with_digits 0 digits) last) four inside))

-- behind the last identifier there is no reference
pub none_up_to : (file : List ℕ) (blocks first : ℕ) (last : Option ℕ) → first ≡ 2 ^ 32
    → IsInsideUpTo file blocks first last
none_up_to file blocks first last is zero number block few small led reaches upto =
    absurd (omega (arith, is, small, reaches))
none_up_to file blocks first last is (suc zero) number block few small led reaches upto =
    absurd (omega (arith, is, small, reaches))
none_up_to file blocks first last is (suc (suc zero)) number block few small led reaches upto =
    absurd (omega (arith, is, small, reaches))
none_up_to file blocks first last is (suc (suc (suc zero))) number block few small led reaches upto =
    absurd (omega (arith, is, small, reaches))
none_up_to file blocks first last is (suc (suc (suc (suc gone)))) number block few small led reaches upto =
    absurd (omega arith)

on_way_number : (id gone : ℕ) → gone < 4 → id < 2 ^ 32
    → (id / 256 ^ (3 - gone) < 256 ^ (gone + 1)) × (id < 256 ^ (3 - gone) * (id / 256 ^ (3 - gone) + 1))
    × (256 ^ (3 - gone) * (id / 256 ^ (3 - gone)) ≤ id)
on_way_number id zero few small = (omega (arith, small), omega arith, omega arith)
on_way_number id (suc zero) few small = (omega (arith, small), omega arith, omega arith)
on_way_number id (suc (suc zero)) few small = (omega (arith, small), omega arith, omega arith)
on_way_number id (suc (suc (suc zero))) few small = (omega (arith, small), omega arith, omega arith)
on_way_number id (suc (suc (suc (suc gone)))) few small = absurd (omega arith)

-- the way of the first identifier is between them
pub way_up_to : (file : List ℕ) (blocks first : ℕ) (last : Option ℕ) → first < 2 ^ 32 → IfSome last (λ id. first ≤ id)
    → IsInsideUpTo file blocks first last → IsInsideOnWay file blocks first
unfolding block_on_way digit_on_way
way_up_to file blocks first last small upto inside gone block few led =
    let number : ℕ = first / 256 ^ (3 - gone) in
    let fits = on_way_number first gone few small in
    inside gone number block few fits.0 (ap (block_led_to file blocks gone) (divided first gone few) ∙ led) fits.1
    (some_so (λ id. first ≤ id) (λ id. 256 ^ (3 - gone) * number ≤ id) last
    (λ id least. omega (arith, least, fits.2)) upto)
