use Rattle.std.specs.Str.{is_utf8}
use Rattle.std.proofs.lemmas.Str.{IsUtf8-from_is_utf8, is_utf8-from_IsUtf8}
use Rattle.script_lines.proofs.ReadingLemmas.{none_if}
use Rattle.script_lines.proofs.line.as_text.Goals as goal

pub returns-in-Ok : goal.returns-in-Ok
returns-in-Ok c = (is_utf8-from_IsUtf8 c.args.line.now c.in-Ok.ensures.cases.1, c.in-Ok.ensures.cases.0)

pub returns-in-Err : goal.returns-in-Err
returns-in-Err c =
    none_if (is_utf8 c.args.line.now) (λ is. c.in-Err.ensures.cases.0 (IsUtf8-from_is_utf8 c.args.line.now is))
