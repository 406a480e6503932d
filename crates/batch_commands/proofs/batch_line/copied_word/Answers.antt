use Rattle.std.proofs.Common.{◌∙◌}
use Rattle.std.specs.Str.{is_utf8}
use Rattle.std.proofs.lemmas.Str.{IsUtf8-from_is_utf8, is_utf8-from_IsUtf8}
use Rattle.edit_steps.proofs.EditFileLemmas.{not_so}
use Rattle.batch_commands.proofs.batch_line.copied_word.Goals as goal

pub returns-in_ok-copy_of-in-Ok : goal.returns-in_ok-copy_of-in-Ok
returns-in_ok-copy_of-in-Ok c = (
  is_utf8-from_IsUtf8 c.args.word.now c.in-Ok.ensures.cases.1,
  c.in_ok-copy_of-in-Ok.ensures ∙ c.in-Ok.ensures.cases.0,
)

pub returns-in-Err : goal.returns-in-Err
returns-in-Err c =
    not_so (is_utf8 c.args.word.now) (λ is. c.in-Err.ensures.cases.0 (IsUtf8-from_is_utf8 c.args.word.now is))
