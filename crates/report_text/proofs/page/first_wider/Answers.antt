use Rattle.std.proofs.Common.{arith}
use Rattle.std.proofs.lemmas.Fmt.{length-decimal-le}
use Rattle.report_text.proofs.page.first_wider.Goals as goal

pub returns-in-8 : goal.returns-in-8
returns-in-8 c = rw c.in-8.is (λ number below. length-decimal-le 8 number (omega arith) below (omega arith))

pub returns-in-10 : goal.returns-in-10
returns-in-10 c = rw c.in-10.is (λ number below. length-decimal-le 10 number (omega arith) below (omega arith))
