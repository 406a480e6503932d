use Rattle.std.proofs.Common.{ℕ, ap, sym, ◌∙◌, arith}
use Rattle.rpc_marks.specs.Marker.{front_by}
use Rattle.rpc_marks.specs.Records.{is_last}
use Rattle.rpc_marks.proofs.MarkerLemmas.{at_body, at_end, ends-fragment, ends-record}
use Rattle.rpc_marks.proofs.marker.Marker.end_fragment.Goals as goal

pub returns-then-self-gt0-clause-leads : goal.returns-then-self-gt0-clause-leads
returns-then-self-gt0-clause-leads c = λ behind.
    let marker = c.args.self.now in
    sym (at_body marker.head.items marker.body.items marker.left behind c.requires c.if-self-gt0.true)

pub returns-then-is_last-clause-leads : goal.returns-then-is_last-clause-leads
returns-then-is_last-clause-leads c = λ behind.
    let marker = c.args.self.now in
    ends-record marker.body.items (is_last marker.head.items) marker.left behind (omega arith)
    (ap is_last (sym c.as_slice.ensures.value) ∙ sym c.is_last.ensures ∙ c.if-is_last.true)

pub returns-then-is_last-clause-anew : goal.returns-then-is_last-clause-anew
returns-then-is_last-clause-anew c = λ is bytes.
    let marker = c.args.self.now in
    ap (λ (n : ℕ). front_by marker.head.items marker.body.items n bytes) (omega arith)
    ∙ at_end marker.head.items marker.body.items bytes c.requires

pub returns-clause-leads : goal.returns-clause-leads
returns-clause-leads c = λ behind.
    let marker = c.args.self.now in
    ends-fragment marker.body.items c.clear.new.self.items (is_last marker.head.items) marker.left behind (omega arith)
    (ap is_last (sym c.as_slice.ensures.value) ∙ sym c.is_last.ensures ∙ c.if-is_last.false) c.clear.ensures
