use Rattle.std.proofs.Common.{length, ap, ◌∙◌, arith}
use Rattle.std.proofs.lemmas.Bool.{false≢true}
use Rattle.journal_store.specs.Kinds.{kind_of}
use Rattle.journal_store.proofs.KindLemmas.{plain-empty}
use Rattle.journal_store.proofs.journal.Journal.new.Goals as goal

pub invariant_of-result : goal.invariant_of-result
invariant_of-result g c = record {
  plain = ap kind_of c.new-name.ensures ∙ plain-empty;
  settled = λ told is. absurd (false≢true is);
  there = λ told some. absurd (omega (arith, some, ap length c.new-ranges.ensures));
}
