use Rattle.std.proofs.Common.{ℕ, ◌*◌, sym, ap}
use Rattle.quota_pages.proofs.FlushLemmas.{either_flushed, flushed-bytes, flushed-kept, on_ok}
use Rattle.quota_pages.proofs.page_write.write_page.Goals as goal

pub returns-then-not-lent-clause-ok : goal.returns-then-not-lent-clause-ok
returns-then-not-lent-clause-ok g c told = sym (flushed-kept _ _ _ c.if-not-lent.true)

-- the bytes that are written are those of the page
pub returns-clause-ok : goal.returns-clause-ok
returns-clause-ok g c =
    on_ok c.write.result _ _ _ _ c.write.ensures.ok
    (flushed-bytes _ _ c.args.number c.args.lent c.args.block.now (1024 * c.from.result) c.if-not-lent.false
    c.told-block (ap (λ (n : ℕ). 1024 * n) c.from.ensures))

pub returns-clause-fault : goal.returns-clause-fault
returns-clause-fault g c =
    either_flushed c.write.result _ _ _ _ _ c.write.ensures.fault
    (flushed-bytes _ _ c.args.number c.args.lent c.args.block.now (1024 * c.from.result) c.if-not-lent.false
    c.told-block (ap (λ (n : ℕ). 1024 * n) c.from.ensures))
