use Rattle.std.proofs.Common.{ℕ, ◌∷◌, ◌≡◌, ap, sym, ◌∙◌, arith}
use Rattle.rpc_marks.specs.Marker.{front_at, front_in_body}
use Rattle.rpc_marks.specs.Records.{body_len, is_last}
use Rattle.rpc_marks.proofs.MarkerLemmas.{head-fits, head-long, head-more, leads-same}
use Rattle.rpc_marks.proofs.marker.Marker.take_of_head.Goals as goal

pub returns-then-len-lt-HEAD-clause-takes : goal.returns-then-len-lt-HEAD-clause-takes
returns-then-len-lt-HEAD-clause-takes c = λ behind.
    let marker = c.args.self.now in
    head-more marker.head.items c.push.new.self.items marker.body.items marker.left c.args.byte behind
    c.push.ensures.items (omega (arith, c.len.ensures.value))

pub returns-then-len-clause-takes : goal.returns-then-len-clause-takes
returns-then-len-clause-takes c = λ behind.
    let marker = c.args.self.now in
    let len : body_len c.push.new.self.items ≡ c.body_len-len.result =
    ap body_len (sym c.as_slice.ensures.value) ∙ sym c.body_len-len.ensures in
    head-long marker.head.items c.push.new.self.items marker.body.items marker.left c.args.byte behind
    c.push.ensures.items c.requires (omega (arith, c.len.ensures.value))
    (omega (arith, len, c.len-2.ensures.value))

pub returns-clause-takes : goal.returns-clause-takes
returns-clause-takes c =
    let marker = c.args.self.now in
    let len : body_len c.push.new.self.items ≡ c.body_len-len.result =
    ap body_len (sym c.as_slice.ensures.value) ∙ sym c.body_len-len.ensures in
    leads-same (front_in_body marker.body.items (is_last c.push.new.self.items) c.body_len-len.result)
    (λ behind. front_at marker (c.args.byte ∷ behind)) c.end_fragment.new.self c.end_fragment.result
    (λ behind.
    head-fits marker.head.items c.push.new.self.items marker.body.items marker.left c.args.byte behind
    c.push.ensures.items c.requires (omega (arith, c.len.ensures.value))
    (omega (arith, len, c.len-2.ensures.value))
    ∙ ap (λ (n : ℕ). front_in_body marker.body.items (is_last c.push.new.self.items) n behind) len)
    c.end_fragment.ensures.leads
