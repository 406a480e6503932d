use Rattle.std.proofs.Common.{◌≤◌, ℕ}
use Rattle.std.specs.Prelude.{All}
use Rattle.std.specs.List.{AllWithin}
use Rattle.batch_commands.specs.Batch.{record_end}
use Rattle.batch_commands.specs.declared.batch_line.LineEdit.{LineEdit}
use Rattle.batch_commands.proofs.reached_length.flat_reach.Given as goal

abbrev pub invariant-loop-line : goal.invariant-loop-line
invariant-loop-line l = record {
  reaches : l.size ≤ l.most;
  holds : AllWithin (λ (line : LineEdit). record_end l.format line.id ≤ l.most) l.lines 0 l.line-index;
  least : (room : ℕ) → l.size ≤ room → All (λ (line : LineEdit). record_end l.format line.id ≤ room) l.lines
      → l.most ≤ room;
}
