use Rattle.std.proofs.Common.{refl}
use Rattle.quota_pages.proofs.BufferLemmas.{lent_beside, lent_distinct, lent_few, lent_from, looked_at}
use Rattle.quota_pages.proofs.BufferLemmas.{looked_at-was_lent}
use Rattle.quota_pages.proofs.page_buffer.Pages.page.Goals as goal

pub invariant_of-self-lent : goal.invariant_of-self-lent
invariant_of-self-lent g c = λ bytes. (
  lent_beside c.bring.new.self c.in_ok-place.place bytes,
  (
    lent_distinct c.bring.new.self c.in_ok-place.place c.args.n bytes c.in_ok-place.ensures.place,
    (lent_few c.bring.new.self c.in_ok-place.place bytes, tt),
  ),
)

pub returns : goal.returns
returns g c =
    let brought = c.in_ok-place.ensures in (
      (
        refl,
        (λ bytes ok. lent_from _ _ c.args.n c.in_ok-place.place bytes c.args.self.now c.bring.new.self _ brought.looked
            brought.place refl refl),
        tt,
      ),
      record {
        lends = tt;
        block = λ told clean. looked_at _ _ c.args.n c.in_ok-place.place c.lend.result.now c.args.self.now
            c.bring.new.self brought.looked brought.place c.lend.ensures.value c.lend.ensures.whole told clean;
        lent = λ lent other. looked_at-was_lent _ _ c.args.n c.in_ok-place.place c.lend.result.now c.args.self.now
            c.bring.new.self brought.looked brought.place c.lend.ensures.value c.lend.ensures.whole lent other;
        buffered = λ there. (refl, (brought.buffered there).1);
        reads = brought.reads;
        cause = tt;
        leaves = brought.leaves;
        commits = brought.commits;
      },
    )
