use Rattle.batch_commands.proofs.FullLemmas.{lines_full}
use Rattle.batch_commands.proofs.laws.a_file_that_is_full_is_so_behind_lines.Goals as goal

pub returns : goal.returns
returns c = record {
  lines = λ common from file invocation old new acts refusal blocks limit ends is.
      lines_full common from file invocation old acts new refusal blocks limit ends is;
}
