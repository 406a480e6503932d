use Rattle.std.proofs.Common.{◌≡◌, ◌++◌, replicate}
use Rattle.report_text.proofs.page.Page.push_repeated.Given as goal

abbrev pub invariant-loop-i : goal.invariant-loop-i
invariant-loop-i l = l.self ≡ l.initial.self ++ replicate l._i l.byte
