use Rattle.std.proofs.Common.{true, ◌∷◌, [], arith}
use Rattle.tree_change.proofs.HeaderChangedLemmas.{sets_none}
use Rattle.quota_pages.proofs.LentLemmas.{lends_among}
use Rattle.quota_pages.proofs.UsedLemmas.{lends_more, lends_of_looks, looks_none, missing-few}
use Rattle.quota_pages.specs.Pages.{pages_of}
use Rattle.std.proofs.lemmas.Result.{on_ok_weaker}
use Rattle.tree_change.proofs.header_block.renew_heads.Goals as goal

pub returns-then-has_heads-clause-set : goal.returns-then-has_heads-clause-set
returns-then-has_heads-clause-set g c =
    λ known are. sets_none c.args.header.now _ c.args.heads.now (c.has_heads.ensures.0 c.if-has_heads.true) are

pub returns-then-has_heads-clause-lends : goal.returns-then-has_heads-clause-lends
returns-then-has_heads-clause-lends g c =
    lends_more 1 (omega arith)
    (lends_among (0 ∷ []) (λ number stands. absurd (omega (arith, stands)))
    (lends_of_looks (looks_none {ok = true} g.S.Store.tells _ _)))

pub returns-clause-lends : goal.returns-clause-lends
returns-clause-lends g c =
    on_ok_weaker c.set_heads.result (λ lends. lends_more 1 (missing-few (pages_of c.args.pages.now) 0) lends)
    c.set_heads.ensures.lends
