-- The way of an identifier, digit by digit: the blocks that it has come to so far.
use Rattle.std.proofs.Common.{◌≡◌, ℕ, zero, suc, ◌+◌, ◌-◌, ◌/◌, ◌%◌, ◌^◌, ◌<◌, ◌≤◌, Bool, true, cond, List, [], ◌∷◌}
use Rattle.std.proofs.Common.{◌++◌, length, get_or, Option, Some, None, option_and_then, refl, sym, ap, subst, ◌∙◌, inl}
use Rattle.std.proofs.Common.{inr, arith, add-one, append-nil}
use Rattle.std.specs.Prelude.{slice_get}
use Rattle.std.specs.List.{cons_option, filter_map, range_with_len}
use Rattle.std.proofs.lemmas.Bool.{cases_eq, cases_lt}
use Rattle.std.proofs.lemmas.List.{get_or_append_left}
use Rattle.std.proofs.lemmas.List.Elements.{filter_map-append}
use Rattle.std.proofs.lemmas.Option.{none-some, same_Some}
use Rattle.quota_types.specs.declared.damage.Damage.{Damage}
use Rattle.quota_types.specs.declared.damage.DamageKind.TheVariants.{RefOut}
use Rattle.quota_types.proofs.TimesLemmas.{range_with_len-add}
use Rattle.file_blocks.specs.Block.{word_at, leads}
use Rattle.quota_radix.specs.Descent.{leaf_block}
use Rattle.quota_radix.specs.OnWay.{block_led_to, led_by, block_on_way, blocks_on_way}
use Rattle.quota_radix.specs.Digits.{digits_of}
use Rattle.quota_radix.specs.Way.{IsInsideOnWay, IsOutOnWay, digit_on_way}
use Rattle.quota_radix.proofs.StepLemmas.{leads_on}

pub divided : (id gone : ℕ) → gone < 4 → id / 256 ^ (3 - gone) / 256 ≡ id / 256 ^ (4 - gone)
divided id zero few = omega arith
divided id (suc zero) few = omega arith
divided id (suc (suc zero)) few = omega arith
divided id (suc (suc (suc zero))) few = omega arith
divided id (suc (suc (suc (suc gone)))) few = absurd (omega arith)

-- a digit of an identifier, among all four
pub digit_there : (id gone : ℕ) → gone < 4 → get_or (digits_of id) gone 0 ≡ digit_on_way id gone
unfolding digit_on_way
digit_there id zero few = refl
digit_there id (suc zero) few = refl
digit_there id (suc (suc zero)) few = refl
digit_there id (suc (suc (suc zero))) few = omega arith
digit_there id (suc (suc (suc (suc gone)))) few = absurd (omega arith)

-- the same of digits that were found
pub nth : (digits : List ℕ) (id index : ℕ) → digits ≡ digits_of id
    → get_or digits index 0 ≡ get_or (digits_of id) index 0
nth digits id index are = ap (λ (ds : List ℕ). get_or ds index 0) are

-- one more digit leads on from where those before it do
way_onward : (file : List ℕ) (blocks id gone : ℕ) → gone < 4
    → block_on_way file blocks id (suc gone)
    ≡ option_and_then (led_by file blocks (digit_on_way id gone)) (block_on_way file blocks id gone)
unfolding block_on_way digit_on_way
way_onward file blocks id gone few =
    let power : 4 - suc gone ≡ 3 - gone = omega arith in
    ap (λ (k : ℕ). block_led_to file blocks (suc gone) (id / 256 ^ k)) power
    ∙ ap (λ (n : ℕ). option_and_then (led_by file blocks (id / 256 ^ (3 - gone) % 256))
    (block_led_to file blocks gone n)) (divided id gone few)

way_leads : (file : List ℕ) (blocks id gone block word : ℕ) → gone < 4 → block_on_way file blocks id gone ≡ Some block
    → word ≡ word_at file block (digit_on_way id gone) → leads blocks word ≡ true
    → block_on_way file blocks id (suc gone) ≡ Some word
way_leads file blocks id gone block word few led is leading =
    way_onward file blocks id gone few
    ∙ ap (option_and_then (led_by file blocks (digit_on_way id gone))) led
    ∙ ap (λ (w : ℕ). cond (leads blocks w) (Some w) None) (sym is)
    ∙ ap (λ (b : Bool). cond b (Some word) None) leading

way_ends : (file : List ℕ) (blocks id gone block word : ℕ) → gone < 4 → block_on_way file blocks id gone ≡ Some block
    → word ≡ word_at file block (digit_on_way id gone) → word ≡ 0
    → block_on_way file blocks id (suc gone) ≡ None
way_ends file blocks id gone block word few led is none =
    way_onward file blocks id gone few
    ∙ ap (option_and_then (led_by file blocks (digit_on_way id gone))) led
    ∙ ap (λ (w : ℕ). cond (leads blocks w) (Some w) None) (sym is ∙ none)

none_behind : (file : List ℕ) (blocks id gone more : ℕ) → block_on_way file blocks id gone ≡ None → gone + more ≤ 4
    → block_on_way file blocks id (gone + more) ≡ None
none_behind file blocks id gone zero none few =
    let same : gone + zero ≡ gone = omega arith in
    ap (block_on_way file blocks id) same ∙ none
none_behind file blocks id gone (suc more) none few =
    let same : gone + suc more ≡ suc (gone + more) = omega arith in
    ap (block_on_way file blocks id) same
    ∙ way_onward file blocks id (gone + more) (omega arith)
    ∙ ap (option_and_then (led_by file blocks (digit_on_way id (gone + more))))
    (none_behind file blocks id gone more none (omega arith))

-- where the way of an identifier has ended it goes no further
pub none_later : (file : List ℕ) (blocks id gone later : ℕ) → block_on_way file blocks id gone ≡ None → gone ≤ later
    → later ≤ 4 → block_on_way file blocks id later ≡ None
none_later file blocks id gone later none from few =
    let same : gone + (later - gone) ≡ later = omega arith in
    subst (λ (k : ℕ). block_on_way file blocks id k ≡ None) same
    (none_behind file blocks id gone (later - gone) none (omega arith))

-- what a function gives of numbers in a range, with one more
pub given_more : (f : ℕ → Option ℕ) (count : ℕ)
    → filter_map f (range_with_len 0 (count + 1)) ≡ filter_map f (range_with_len 0 count) ++ cons_option (f count) []
given_more f count =
    let from : 0 + count ≡ count = omega arith in
    ap (filter_map f) (range_with_len-add 0 count 1)
    ∙ filter_map-append f (range_with_len 0 count) (range_with_len (0 + count) 1)
    ∙ ap (λ (k : ℕ). filter_map f (range_with_len 0 count) ++ cons_option (f k) []) from

-- where it gives nothing of the later ones
given_none : (f : ℕ → Option ℕ) (first count : ℕ) → ((k : ℕ) → first ≤ k → k < first + count → f k ≡ None)
    → filter_map f (range_with_len first count) ≡ []
given_none f first zero none = refl
given_none f first (suc count) none =
    ap (λ (o : Option ℕ). cons_option o (filter_map f (range_with_len (first + 1) count)))
    (none first (omega arith) (omega arith))
    ∙ given_none f (first + 1) count (λ k from to. none k (omega arith) (omega arith))

pub given_all : (f : ℕ → Option ℕ) (count more : ℕ) → ((k : ℕ) → count ≤ k → k < count + more → f k ≡ None)
    → filter_map f (range_with_len 0 (count + more)) ≡ filter_map f (range_with_len 0 count)
given_all f count more none =
    ap (filter_map f) (range_with_len-add 0 count more)
    ∙ filter_map-append f (range_with_len 0 count) (range_with_len (0 + count) more)
    ∙ ap (λ (xs : List ℕ). filter_map f (range_with_len 0 count) ++ xs)
    (given_none f (0 + count) more (λ k from to. none k (omega arith) (omega arith)))
    ∙ append-nil (filter_map f (range_with_len 0 count))

-- some digits of an identifier lead to a block, and to these blocks before it, by references that lead to none past the
-- last
pub record IsAlong (file : List ℕ) (blocks id gone block : ℕ) (found : List ℕ) : Type 0 where
  pub few : gone ≤ 4
  pub led : block_on_way file blocks id gone ≡ Some block
  pub all : found ≡ filter_map (block_on_way file blocks id) (range_with_len 0 (gone + 1))
  pub inside : (before other : ℕ) → before < gone → block_on_way file blocks id before ≡ Some other
      → word_at file other (digit_on_way id before) < blocks

-- the root is where no digit leads
pub along_start : (file : List ℕ) (blocks id : ℕ) (found : List ℕ) → found ≡ 1 ∷ [] → IsAlong file blocks id 0 1 found
unfolding block_on_way
along_start file blocks id found is = record {
  few = omega arith;
  led = refl;
  all = is;
  inside = λ before other low there. absurd (omega arith);
}

-- the reference by the next digit, where it does not lead past the last block
inside_more : (file : List ℕ) (blocks id gone block word : ℕ) (found : List ℕ) → IsAlong file blocks id gone block found
    → word ≡ word_at file block (digit_on_way id gone) → word < blocks
    → (before other : ℕ) → before < gone + 1 → block_on_way file blocks id before ≡ Some other
    → word_at file other (digit_on_way id before) < blocks
inside_more file blocks id gone block word found along is low before other under there = elim (cases_eq before gone) [
  | inl same ↦
      let here : other ≡ block =
      same_Some other block (sym there ∙ ap (block_on_way file blocks id) same ∙ along.led) in
      let word_is : word ≡ word_at file other (digit_on_way id before) =
      is ∙ ap (λ (b : ℕ). word_at file b (digit_on_way id gone)) (sym here)
      ∙ ap (λ (k : ℕ). word_at file other (digit_on_way id k)) (sym same) in
      subst (λ (w : ℕ). w < blocks) word_is low
  | inr differ ↦ along.inside before other (omega arith) there
]

-- one digit more, which leads on
pub along_more : (file : List ℕ) (blocks id gone block word digit : ℕ) (found new : List ℕ) → gone < 4
    → digit ≡ get_or (digits_of id) gone 0 → IsAlong file blocks id gone block found
    → word ≡ word_at file block digit → word < blocks → (word ≡ 0 → ⊥) → new ≡ found ++ word ∷ []
    → IsAlong file blocks id (gone + 1) word new
along_more file blocks id gone block word digit found new few digit_is along is low some pushed =
    let there : word ≡ word_at file block (digit_on_way id gone) =
    is ∙ ap (word_at file block) (digit_is ∙ digit_there id gone few) in
    let led : block_on_way file blocks id (gone + 1) ≡ Some word =
    ap (block_on_way file blocks id) (add-one gone)
    ∙ way_leads file blocks id gone block word few along.led there (leads_on blocks word low some) in
    record {
      few = omega arith;
      led = led;
      all = pushed
          ∙ ap (λ (xs : List ℕ). xs ++ word ∷ []) along.all
          ∙ ap (λ (o : Option ℕ).
          filter_map (block_on_way file blocks id) (range_with_len 0 (gone + 1)) ++ cons_option o []) (sym led)
          ∙ sym (given_more (block_on_way file blocks id) (gone + 1));
      inside = inside_more file blocks id gone block word found along there low;
    }

-- where the way ends all its blocks were found
pub along_end : (file : List ℕ) (blocks id gone block word digit : ℕ) (found : List ℕ) → gone < 4
    → digit ≡ get_or (digits_of id) gone 0 → IsAlong file blocks id gone block found
    → word ≡ word_at file block digit → word ≡ 0 → found ≡ blocks_on_way file blocks id
unfolding blocks_on_way
along_end file blocks id gone block word digit found few digit_is along is none =
    let there : word ≡ word_at file block (digit_on_way id gone) =
    is ∙ ap (word_at file block) (digit_is ∙ digit_there id gone few) in
    let next : block_on_way file blocks id (gone + 1) ≡ None =
    ap (block_on_way file blocks id) (add-one gone)
    ∙ way_ends file blocks id gone block word few along.led there none in
    let five : gone + 1 + (4 - gone) ≡ 5 = omega arith in
    along.all
    ∙ sym (given_all (block_on_way file blocks id) (gone + 1) (4 - gone)
    (λ k from to. none_later file blocks id (gone + 1) k next from (omega arith)))
    ∙ ap (λ (k : ℕ). filter_map (block_on_way file blocks id) (range_with_len 0 k)) five

pub along_end_inside : (file : List ℕ) (blocks id gone block word digit : ℕ) (found : List ℕ) → gone < 4
    → digit ≡ get_or (digits_of id) gone 0 → IsAlong file blocks id gone block found
    → word ≡ word_at file block digit → word < blocks → word ≡ 0 → IsInsideOnWay file blocks id
along_end_inside file blocks id gone block word digit found few digit_is along is low none before other under led =
    let there : word ≡ word_at file block (digit_on_way id gone) =
    is ∙ ap (word_at file block) (digit_is ∙ digit_there id gone few) in
    let next : block_on_way file blocks id (gone + 1) ≡ None =
    ap (block_on_way file blocks id) (add-one gone)
    ∙ way_ends file blocks id gone block word few along.led there none in
    elim (cases_lt before (gone + 1)) [
      | inl early ↦ inside_more file blocks id gone block word found along there low before other early led
      | inr late ↦
          absurd (none-some other (sym (none_later file blocks id (gone + 1) before next late (omega arith)) ∙ led))
    ]

-- and where all digits led on
pub along_all : (file : List ℕ) (blocks id gone block : ℕ) (found : List ℕ) → 4 ≤ gone
    → IsAlong file blocks id gone block found → found ≡ blocks_on_way file blocks id
unfolding blocks_on_way
along_all file blocks id gone block found last along =
    let five : gone + 1 ≡ 5 = omega (arith, along.few, last) in
    along.all ∙ ap (λ (k : ℕ). filter_map (block_on_way file blocks id) (range_with_len 0 k)) five

pub along_all_inside : (file : List ℕ) (blocks id gone block : ℕ) (found : List ℕ) → 4 ≤ gone
    → IsAlong file blocks id gone block found → IsInsideOnWay file blocks id
along_all_inside file blocks id gone block found last along before other under led =
    along.inside before other (omega arith) led

-- the data block is where all four digits lead
way_to_leaf : (file : List ℕ) (blocks id : ℕ) → block_on_way file blocks id 4 ≡ leaf_block file blocks id
unfolding block_on_way
way_to_leaf file blocks id =
    let whole : id / 1 ≡ id = omega arith in
    ap (block_led_to file blocks 4) whole

pub along_leaf : (file : List ℕ) (blocks id gone block : ℕ) (found : List ℕ) → 4 ≤ gone
    → IsAlong file blocks id gone block found → Some block ≡ leaf_block file blocks id
along_leaf file blocks id gone block found last along =
    let four : gone ≡ 4 = omega (arith, along.few, last) in
    sym along.led ∙ ap (block_on_way file blocks id) four ∙ way_to_leaf file blocks id

-- and is none where the way ends before
pub along_no_leaf : (file : List ℕ) (blocks id gone block word digit : ℕ) (found : List ℕ) → gone < 4
    → digit ≡ get_or (digits_of id) gone 0 → IsAlong file blocks id gone block found
    → word ≡ word_at file block digit → word ≡ 0 → None ≡ leaf_block file blocks id
along_no_leaf file blocks id gone block word digit found few digit_is along is none =
    let there : word ≡ word_at file block (digit_on_way id gone) =
    is ∙ ap (word_at file block) (digit_is ∙ digit_there id gone few) in
    let next : block_on_way file blocks id (gone + 1) ≡ None =
    ap (block_on_way file blocks id) (add-one gone)
    ∙ way_ends file blocks id gone block word few along.led there none in
    sym (none_later file blocks id (gone + 1) 4 next (omega arith) (omega arith)) ∙ way_to_leaf file blocks id

-- a reference on the way that leads past the last block
pub along_out : (file : List ℕ) (blocks id gone block digit : ℕ) (found : List ℕ) (damage : Damage) → gone < 4
    → digit ≡ get_or (digits_of id) gone 0 → IsAlong file blocks id gone block found
    → damage ≡ record { kind = RefOut; block = block; id = 0 } → blocks ≤ word_at file block digit
    → IsOutOnWay file blocks id damage.block
along_out file blocks id gone block digit found damage few digit_is along is out =
    subst (λ (d : Damage). IsOutOnWay file blocks id d.block) (sym is) (record {
      gone = gone;
      few = few;
      led = along.led;
      out = subst (λ (d : ℕ). blocks ≤ word_at file block d) (digit_is ∙ digit_there id gone few) out;
    })

-- the same of the block itself
pub along_out_at : (file : List ℕ) (blocks id gone block named digit : ℕ) (found : List ℕ) → gone < 4
    → digit ≡ get_or (digits_of id) gone 0 → IsAlong file blocks id gone block found
    → named ≡ block → blocks ≤ word_at file block digit → IsOutOnWay file blocks id named
along_out_at file blocks id gone block named digit found few digit_is along is out =
    let damage : Damage = record { kind = RefOut; block = block; id = 0 } in
    subst (λ (n : ℕ). IsOutOnWay file blocks id n) (sym is)
    (along_out file blocks id gone block digit found damage few digit_is along refl out)

fifth : (two three four five : Option ℕ) → (two ≡ None → three ≡ None) → (three ≡ None → four ≡ None)
    → (four ≡ None → five ≡ None)
    → slice_get (1 ∷ cons_option two (cons_option three (cons_option four (cons_option five [])))) 4 ≡ five
fifth (Some a) (Some b) (Some c) (Some d) three four five = refl
fifth (Some a) (Some b) (Some c) None three four five = refl
fifth (Some a) (Some b) None last three four five =
    ap (λ (o : Option ℕ). slice_get (1 ∷ a ∷ b ∷ cons_option o []) 4) (five refl) ∙ sym (five refl)
fifth (Some a) None next last three four five =
    ap (λ (o : Option ℕ). slice_get (1 ∷ a ∷ cons_option o (cons_option last [])) 4) (four refl)
    ∙ ap (λ (o : Option ℕ). slice_get (1 ∷ a ∷ cons_option o []) 4) (five (four refl)) ∙ sym (five (four refl))
fifth None after next last three four five =
    ap (λ (o : Option ℕ). slice_get (1 ∷ cons_option o (cons_option next (cons_option last []))) 4) (three refl)
    ∙ ap (λ (o : Option ℕ). slice_get (1 ∷ cons_option o (cons_option last [])) 4) (four (three refl))
    ∙ ap (λ (o : Option ℕ). slice_get (1 ∷ cons_option o []) 4) (five (four (three refl)))
    ∙ sym (five (four (three refl)))

-- the fifth block of a way is the data block
pub fifth_is_leaf : (file : List ℕ) (blocks id : ℕ)
    → slice_get (blocks_on_way file blocks id) 4 ≡ leaf_block file blocks id
unfolding blocks_on_way block_on_way
fifth_is_leaf file blocks id =
    fifth (block_on_way file blocks id 1) (block_on_way file blocks id 2) (block_on_way file blocks id 3)
    (block_on_way file blocks id 4)
    (λ none. none_later file blocks id 1 2 none (omega arith) (omega arith))
    (λ none. none_later file blocks id 2 3 none (omega arith) (omega arith))
    (λ none. none_later file blocks id 3 4 none (omega arith) (omega arith))
    ∙ way_to_leaf file blocks id

-- the blocks of a way begin with the root, also with one more
pub root_first : (found new : List ℕ) (word : ℕ) → 1 ≤ length found → new ≡ found ++ word ∷ [] → get_or found 0 0 ≡ 1
    → get_or new 0 0 ≡ 1
root_first found new word some pushed first =
    ap (λ (xs : List ℕ). get_or xs 0 0) pushed ∙ get_or_append_left found (word ∷ []) 0 0 some ∙ first
