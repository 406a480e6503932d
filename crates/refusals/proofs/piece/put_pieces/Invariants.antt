use Rattle.std.proofs.Common.{◌++◌, ◌≤◌, IsTrue, take, List, ℕ}
use Rattle.outside.specs.Gathering.{IsGathered}
use Rattle.refusals.specs.Piece.{joined}
use Rattle.refusals.proofs.piece.put_pieces.Given as goal

abbrev pub invariant-loop-piece : goal.invariant-loop-piece
invariant-loop-piece g l =
    let O = g.O.Sink in
    record {
      gathered : IsTrue O.tells → (start before : List ℕ) → IsGathered start before (O.seen l.fn.sink).written l.fn.text
          → IsGathered start (before ++ joined (take l.piece-index l.pieces)) (O.seen l.sink).written l.text;
      later : (O.seen l.fn.sink).faults ≤ (O.seen l.sink).faults;
    }
