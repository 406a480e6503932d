use Rattle.std.proofs.Common.{arith}
use Rattle.report_text.proofs.PageLemmas.{text_length, spaces_past, take_spaces}
use Rattle.report_text.proofs.page.Page.push_spaces.Goals as goal

pub invariant_of-self : goal.invariant_of-self
invariant_of-self c =
    let long = text_length _ _ _ _ c.self.told c.self.invariant.0 c.self.view_is c.self.invariant.1 in
    (omega arith, spaces_past _ _ _ _ c.self.told c.self.invariant.0 c.self.view_is c.self.invariant.1 _)

pub returns : goal.returns
returns c =
    let long = text_length _ _ _ _ c.self.told c.self.invariant.0 c.self.view_is c.self.invariant.1 in
    take_spaces _ _ _ _ c.self.told c.self.invariant.0 c.self.view_is c.self.invariant.1 c.args.count (omega arith)
