-- Steps that take blocks within a limit, and none of which lends the header's block.
use Rattle.std.proofs.Common.{◌≡◌, ◌≢◌, ℕ, ◌<◌, ◌≤◌, ◌-◌, ◌/◌, ◌%◌, zero, suc, Bool, if◌then◌else◌, List, [], ◌∷◌}
use Rattle.std.proofs.Common.{length, get_or, Option, Some, None, option_and_then, Result, Ok, Err, sym, ap, ◌∙◌, inl}
use Rattle.std.proofs.Common.{inr, arith}
use Rattle.std.proofs.lemmas.Bool.{cases_Bool, cases_eq}
use Rattle.std.proofs.lemmas.Bool.Decides.{eqb_tells}
use Rattle.std.specs.Prelude.{⊤, OnOk}
use Rattle.quota_types.specs.Times.{times}
use Rattle.quota_types.proofs.TimesLemmas.{times-cons-other}
use Rattle.file_blocks.specs.Block.{leads, word_at}
use Rattle.file_blocks.proofs.LeadsLemmas.{leads_within}
use Rattle.quota_pages.specs.Page.{is_lent}
use Rattle.quota_pages.specs.Pages.{pages_of}
use Rattle.quota_pages.specs.declared.page_buffer.Pages.{Pages}
use Rattle.quota_radix.specs.OnWay.{block_led_to, led_by, blocks_on_way}
use Rattle.quota_radix.proofs.LinkPathLemmas.{front_of}
use Rattle.quota_radix.proofs.LinkWayLemmas.{way_last}
use Rattle.free_chains.specs.FreeList.{TakesHead}
use Rattle.free_chains.specs.Links.{led_to}
use Rattle.free_chains.specs.declared.heads.Heads.{Heads}
use Rattle.tree_change.specs.Putting.{TakesWithin}

-- another block, and the one to which a link leads, are none of the header
pub other_block : (block : ℕ) → block ≢ 0 → times (block ∷ []) 0 ≡ 0
other_block block other = times-cons-other block [] 0 other

pub no_link_to_header : (link : ℕ) → times (led_to link) 0 ≡ 0
no_link_to_header link = elim (eqb_tells link 0) [
  | inl none ↦ ap (λ (b : Bool). times (if b then [] else link ∷ []) 0) none.0
  | inr some ↦ ap (λ (b : Bool). times (if b then [] else link ∷ []) 0) some.0 ∙ other_block link some.1
]

-- nor is a block to which digits lead
led_on : (file : List ℕ) (blocks digit from block : ℕ) → led_by file blocks digit from ≡ Some block → block ≢ 0
led_on file blocks digit from block led = elim (cases_Bool (leads blocks (word_at file from digit))) [
  | inl is ↦
      let both : Some (word_at file from digit) ≡ Some block =
      sym (ap (λ (b : Bool). if b then Some (word_at file from digit) else None) is) ∙ led in
      let same : word_at file from digit ≡ block = cc in
      λ none. omega (arith, (leads_within blocks (word_at file from digit) is).0, same, none)
  | inr other ↦ absurd
      (let none : None ≡ Some block =
      sym (ap (λ (b : Bool). if b then Some (word_at file from digit) else None) other) ∙ led in cc)
]

led_from : (file : List ℕ) (blocks digit : ℕ) (from : Option ℕ) (block : ℕ)
    → option_and_then (led_by file blocks digit) from ≡ Some block → block ≢ 0
led_from file blocks digit None block led = absurd cc
led_from file blocks digit (Some from) block led = led_on file blocks digit from block led

pub led_beside : (file : List ℕ) (blocks digits number block : ℕ)
    → block_led_to file blocks digits number ≡ Some block → block ≢ 0
led_beside file blocks zero number block led = λ none. let same : 1 ≡ block = cc in omega (arith, same, none)
led_beside file blocks (suc digits) number block led =
    led_from file blocks (number % 256) (block_led_to file blocks digits (number / 256)) block led

-- so the last block of a way is none of the header
pub last_beside : (file : List ℕ) (blocks id : ℕ) (found : List ℕ) → found ≡ blocks_on_way file blocks id
    → 1 ≤ length found → get_or found (length found - 1) 0 ≢ 0
last_beside file blocks id found is some =
    led_beside file blocks (length found - 1) (front_of id (length found - 1)) _
    (way_last file found blocks id (length found - 1) is (omega (arith, some)))

-- one step after another
pub takes_then : (limit : ℕ) (one two : Type 0) (heads middle now : Heads) (old between new : Pages) → (one → two)
    → TakesWithin limit one heads middle old between → TakesWithin limit two middle now between new
    → TakesWithin limit one heads now old new
takes_then limit one two heads middle now old between new so first second = record {
  at_least = omega (arith, first.at_least, second.at_least);
  within = λ few. second.within (first.within few);
  header = λ beside some.
      second.header (so beside) (λ none. some (omega (arith, none, first.at_least))) ∙ first.header beside some;
}

-- a step that takes none
pub takes_none : (limit : ℕ) (beside : Type 0) (heads now : Heads) (old new : Pages) → now.blocks ≡ heads.blocks
    → (beside → is_lent (pages_of new) 0 ≡ is_lent (pages_of old) 0) → TakesWithin limit beside heads now old new
takes_none limit beside heads now old new same stays = record {
  at_least = omega (arith, same);
  within = λ few. omega (arith, same, few);
  header = λ is some. stays is;
}

-- a block that is taken is none of the header, where there was a block
pub block_taken : (heads now : Heads) (block : ℕ) → TakesHead heads now block → heads.blocks ≢ 0 → block ≢ 0
block_taken heads now block head some = elim (cases_eq heads.free 0) [
  | inl none ↦ λ is. some (omega (arith, is, (head.none none).block_is))
  | inr listed ↦ λ is. listed (omega (arith, is, (head.some listed).block_is))
]

-- and it is behind the last one only where none is free
pub takes_head : (limit : ℕ) (heads now : Heads) (block : ℕ) (old new : Pages) → TakesHead heads now block
    → (heads.free ≡ 0 → heads.blocks < limit)
    → (times (block ∷ []) 0 ≡ 0 → is_lent (pages_of new) 0 ≡ is_lent (pages_of old) 0)
    → TakesWithin limit ⊤ heads now old new
takes_head limit heads now block old new head room stays = elim (cases_eq heads.free 0) [
  | inl none ↦ record {
    at_least = omega (arith, (head.none none).blocks);
    within = λ few. omega (arith, (head.none none).blocks, room none);
    header = λ is some. stays (other_block block (block_taken heads now block head some));
  }
  | inr listed ↦ record {
    at_least = omega (arith, (head.some listed).blocks);
    within = λ few. omega (arith, (head.some listed).blocks, few);
    header = λ is some. stays (other_block block (block_taken heads now block head some));
  }
]

-- what follows from two things that hold where a call answered Ok
pub on_ok_both : {T E P Q R : Type 0} (r : Result T E) → (P → Q → R) → OnOk r P → OnOk r Q → OnOk r R
on_ok_both (Ok x) both one two = both one two
on_ok_both (Err e) both one two = tt
