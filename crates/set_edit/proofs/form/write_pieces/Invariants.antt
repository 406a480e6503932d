use Rattle.std.proofs.Common.{◌≤◌, IsTrue, take}
use Rattle.std.specs.List.{flat_map}
use Rattle.outside.specs.Gathering.{IsGathered}
use Rattle.set_edit.proofs.form.write_pieces.Given as goal

abbrev pub invariant-loop-piece : goal.invariant-loop-piece
invariant-loop-piece g l =
    let O = g.O.Sink in
    record {
      gathered : IsTrue O.tells
          → IsGathered (O.seen l.fn.sink).written (flat_map (λ piece. piece.now) (take l.piece-index l.pieces))
          (O.seen l.sink).written l.text;
      later : (O.seen l.fn.sink).faults ≤ (O.seen l.sink).faults;
    }
