use Rattle.batch_commands.proofs.ReadsLemmas.{within_four}
use Rattle.batch_commands.proofs.laws.lines_read_a_file_four_times_at_most.Goals as goal

pub returns : goal.returns
returns c = record {
  reads = λ kind asked file value lines view. within_four kind asked file value lines view;
}
