use Rattle.std.proofs.Common.{inr, arith}
use Rattle.std.proofs.lemmas.Result.{on_ok_weaker}
use Rattle.quota_map.proofs.ReplacedLemmas.{on_ok_done}
use Rattle.quota_map.proofs.replacing.replace_file.Goals as goal

pub returns-in-Ok-clause-replaced : goal.returns-in-Ok-clause-replaced
returns-in-Ok-clause-replaced g c =
    let bytes = c.deref.ensures.value in
    on_ok_weaker c.replace.result
    (λ replaced told. record {
      bytes = c.in-Ok.bytes.items;
      files = replaced told;
      stands = c.in-Ok.ensures.stands;
      plain = c.in-Ok.ensures.plain;
      long = omega (arith, c.in-Ok.ensures.size, c.in-Ok.bytes.ok);
    })
    (rw bytes at c.replace.ensures.replaced)

pub returns-in-Ok-clause-commits : goal.returns-in-Ok-clause-commits
returns-in-Ok-clause-commits g c = λ told.
    let bytes = c.deref.ensures.value in
    inr (record {
      bytes = c.in-Ok.bytes.items;
      stands_so = (c.in-Ok.ensures.few, c.in-Ok.ensures.seen);
      commits_it = rw bytes at c.replace.ensures.commits told;
      told = λ done. on_ok_done c.replace.result (rw bytes at c.replace.ensures.replaced) done told;
    })
