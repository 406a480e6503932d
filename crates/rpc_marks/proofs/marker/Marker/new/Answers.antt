use Rattle.std.proofs.Common.{[], ℕ, List, ap, ◌∙◌, arith}
use Rattle.rpc_marks.specs.Marker.{front_by}
use Rattle.rpc_marks.proofs.MarkerLemmas.{at_head}
use Rattle.rpc_marks.proofs.marker.Marker.new.Goals as goal

pub returns : goal.returns
returns c = λ bytes.
    ap (λ (l : List ℕ). front_by l c.new.result.items 0 bytes) c.new-2.ensures
    ∙ ap (λ (l : List ℕ). front_by [] l 0 bytes) c.new.ensures ∙ at_head [] [] 0 bytes (omega arith)
