use Rattle.std.proofs.Common.{ap, ◌∙◌, false, List}
use Rattle.std.specs.Prelude.{◌==◌, position}
use Rattle.quota_pages.specs.declared.held_blocks.PageHead.{PageHead}
use Rattle.quota_pages.proofs.HeldLemmas.{placed}
use Rattle.quota_pages.proofs.held_blocks.Held.place_of.Goals as goal

pub returns : goal.returns
returns c =
    placed c.args.self.now.heads.items c.args.self.now.blocks.items c.args.number (record { number = 0; lent = false })
    c.place_in.result c.requires
    (c.place_in.ensures
    ∙ ap (λ (heads : List PageHead). position (λ head. head.number == c.args.number) heads) c.as_slice.ensures.value)
