use Rattle.std.proofs.Common.{arith}
use Rattle.report_text.proofs.PageLemmas.{left_spaces, left_text, text_length}
use Rattle.report_text.proofs.page.Page.push_left_number.Goals as goal

pub invariant_of-self : goal.invariant_of-self
invariant_of-self c =
    let long = text_length _ _ _ _ c.self.told c.self.invariant.0 c.self.view_is c.self.invariant.1 in
    let put = rw c.count_digits-count.ensures.digits at (rw c.from.ensures at c.write_digits.ensures) in (
      omega (arith, c.requires, long, c.max.ensures, c.count_digits-count.ensures.few),
      left_spaces _ _ _ _ c.self.told c.self.invariant.0 c.self.view_is c.self.invariant.1 c.args.width _ _ _
          (omega (arith, c.requires, long, c.count_digits-count.ensures))
          c.max.result (rw c.count_digits-count.ensures.digits at c.max.ensures)
          (omega (arith, c.requires, long, c.max.ensures, c.count_digits-count.ensures.few)) put.start
          put.before put.written,
    )

pub returns-clause-text : goal.returns-clause-text
returns-clause-text c =
    let long = text_length _ _ _ _ c.self.told c.self.invariant.0 c.self.view_is c.self.invariant.1 in
    let put = rw c.count_digits-count.ensures.digits at (rw c.from.ensures at c.write_digits.ensures) in
    left_text _ _ _ _ c.self.told c.self.invariant.0 c.self.view_is c.self.invariant.1 c.args.width _ _ _
    (omega (arith, c.requires, long, c.count_digits-count.ensures))
    c.max.result (rw c.count_digits-count.ensures.digits at c.max.ensures)
    (omega (arith, c.requires, long, c.max.ensures, c.count_digits-count.ensures.few)) put.start put.before put.written
