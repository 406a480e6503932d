use Rattle.std.proofs.Common.{arith}
use Rattle.report_text.proofs.PageLemmas.{text_length, narrow_text, narrow_spaces}
use Rattle.report_text.proofs.page.Page.push_narrow.Goals as goal

pub invariant_of-self : goal.invariant_of-self
invariant_of-self c =
    let long = text_length _ _ _ _ c.self.told c.self.invariant.0 c.self.view_is c.self.invariant.1 in
    let put = c.write_digits.ensures in (
      omega arith,
      narrow_spaces _ _ _ _ c.self.told c.self.invariant.0 c.self.view_is c.self.invariant.1 _ _ _ _
          c.requires.narrow c.requires.room
          put.start put.before put.written,
    )

pub returns-clause-text : goal.returns-clause-text
returns-clause-text c =
    let put = c.write_digits.ensures in
    narrow_text _ _ _ _ c.self.told c.self.invariant.0 c.self.view_is c.self.invariant.1 _ _ _ _
    c.requires.narrow c.requires.room
    put.start put.before put.written
