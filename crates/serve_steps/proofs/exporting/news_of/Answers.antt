use Rattle.std.proofs.Common.{arith, refl}
use Rattle.serve_steps.proofs.ExportingLemmas.{named_more}
use Rattle.serve_steps.proofs.exporting.news_of.Goals as goal

pub loop-export-preserved : goal.loop-export-preserved
loop-export-preserved c = record {
  named = named_more c.args.list.now c.loop-export.export-index c.export-item.result c.loop-export.news.items
      c.push.new.self.items _ (omega (arith, c.loop-export-test.true)) c.export-item.is c.loop-export.invariant.named
      c.push.ensures.items c.as_str.ensures refl c.as_str-in-loop-export.ensures;
  long = omega (arith, c.push.ensures.len, c.loop-export.invariant.long);
}
