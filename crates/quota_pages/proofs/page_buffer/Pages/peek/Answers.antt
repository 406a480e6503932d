use Rattle.std.proofs.Common.{refl}
use Rattle.quota_pages.proofs.BufferLemmas.{looked_at, looked_at-held, looked_at-was_lent}
use Rattle.quota_pages.proofs.page_buffer.Pages.peek.Goals as goal

pub returns : goal.returns
returns g c =
    let brought = c.in_ok-place.ensures in (
      (
        refl,
        (λ last. tt),
        (
          brought.looked,
          looked_at-held g.S.Store.tells c.args.n c.in_ok-place.place c.block.result.now c.bring.new.self brought.place
              c.block.ensures.value c.block.ensures.whole,
        ),
      ),
      record {
        looked = tt;
        block = λ told clean. looked_at _ _ c.args.n c.in_ok-place.place c.block.result.now c.args.self.now
            c.bring.new.self brought.looked brought.place c.block.ensures.value c.block.ensures.whole told clean;
        lent = λ lent other. looked_at-was_lent _ _ c.args.n c.in_ok-place.place c.block.result.now c.args.self.now
            c.bring.new.self brought.looked brought.place c.block.ensures.value c.block.ensures.whole lent other;
        buffered = λ there. (refl, (brought.buffered there).1);
        reads = brought.reads;
        cause = tt;
        leaves = brought.leaves;
        commits = brought.commits;
      },
    )
