use Rattle.std.proofs.Common.{ℕ, List, ◌∷◌, ◌-◌, ap, sym, ◌∙◌}
use Rattle.rpc_marks.specs.Marker.{front_at, front_in_body}
use Rattle.rpc_marks.specs.Records.{is_last}
use Rattle.rpc_marks.proofs.MarkerLemmas.{at_body, byte_of_body, leads-same}
use Rattle.rpc_marks.proofs.marker.Marker.take_of_body.Goals as goal

pub returns-clause-takes : goal.returns-clause-takes
returns-clause-takes c =
    let marker = c.args.self.now in
    leads-same (front_in_body c.push.new.self.items (is_last marker.head.items) (marker.left - 1))
    (λ behind. front_at marker (c.args.byte ∷ behind)) c.end_fragment.new.self c.end_fragment.result
    (λ behind.
    at_body marker.head.items marker.body.items marker.left (c.args.byte ∷ behind) c.requires.head c.requires.some
    ∙ byte_of_body marker.body.items (is_last marker.head.items) marker.left c.args.byte behind c.requires.some
    ∙ ap (λ (l : List ℕ). front_in_body l (is_last marker.head.items) (marker.left - 1) behind)
    (sym c.push.ensures.items))
    c.end_fragment.ensures.leads
