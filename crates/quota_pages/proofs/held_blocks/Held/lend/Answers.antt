use Rattle.std.proofs.Common.{◌≡◌, List, ℕ, length, get_or, refl, ap, ◌∙◌}
use Rattle.arrayvec.specs.ArrayVec.{ArrayVec, with_item}
use Rattle.quota_pages.specs.Held.{with_lent}
use Rattle.quota_pages.specs.declared.held_blocks.PageHead.{PageHead}
use Rattle.quota_pages.specs.declared.held_blocks.Held.{Held}
use Rattle.quota_pages.proofs.HeldLemmas.{same_read}
use Rattle.quota_pages.proofs.held_blocks.Held.lend.Goals as goal

-- what is held where the mark was set and the block was written
same_held : (held : Held) (heads : ArrayVec PageHead) (blocks : ArrayVec (List ℕ)) (place : ℕ) (bytes : List ℕ)
    → heads ≡ (with_lent held place bytes).heads → blocks ≡ held.blocks
    → let left : Held =
    record { heads = heads; blocks = with_item blocks place bytes } in left ≡ with_lent held place bytes
same_held held heads blocks place bytes marked kept =
    ap (λ (h : ArrayVec PageHead). let left : Held = record { heads = h; blocks = with_item blocks place bytes } in
    left) marked
    ∙ ap (λ (b : ArrayVec (List ℕ)). let left : Held =
    record { heads = (with_lent held place bytes).heads; blocks = with_item b place bytes } in left) kept

pub returns : goal.returns
returns c =
    let blocks = c.args.self.now.blocks.items in
    let block = c.in-Some.block.now in
    let value : block ≡ get_or blocks c.args.place block = c.in-Some.ensures.value
    ∙ ap (λ (b : ArrayVec (List ℕ)). get_or b.items c.args.place block) c.mark.ensures.blocks in (
      (
        refl,
        λ bytes. same_held c.args.self.now c.mark.new.self.heads c.mark.new.self.blocks c.args.place bytes
            c.mark.ensures.heads c.mark.ensures.blocks,
      ),
      record {
        lends = tt;
        value = value;
        whole = ap length
            (same_read blocks c.args.place block c.block.result.now c.requires.blocks value c.block.ensures.value)
            ∙ c.block.ensures.whole;
      },
    )
