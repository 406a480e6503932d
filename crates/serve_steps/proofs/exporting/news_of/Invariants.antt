use Rattle.std.proofs.Common.{◌≡◌, length, take}
use Rattle.rquota_serve.specs.Added.{news_seen}
use Rattle.serve_steps.specs.Exporting.{news_of}
use Rattle.serve_steps.proofs.exporting.news_of.Given as goal

abbrev pub invariant-loop-export : goal.invariant-loop-export
invariant-loop-export l = record {
  named : news_seen l.news.items ≡ news_of (take l.export-index l.list);
  long : length l.news.items ≡ l.export-index;
}
