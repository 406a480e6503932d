use Rattle.std.proofs.Common.{◌≤◌, length}
use Rattle.file_windows.proofs.window.read_from.Given as goal

abbrev pub invariant-loop : goal.invariant-loop
invariant-loop l = l.done ≤ length l.buf
