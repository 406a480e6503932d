use Rattle.std.proofs.Common.{IsTrue, string_bytes}
use Rattle.std.specs.List.{list_all}
use Rattle.error_lines.specs.Shown.{is_printed}
use Rattle.error_lines.proofs.escapes.shown.Given as goal

abbrev pub invariant-loop-byte : goal.invariant-loop-byte
invariant-loop-byte l = IsTrue (list_all is_printed (string_bytes l.shown))
