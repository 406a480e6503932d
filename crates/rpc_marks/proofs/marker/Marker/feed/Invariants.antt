use Rattle.std.proofs.Common.{◌≡◌, ℕ, List, ◌++◌, take}
use Rattle.rpc_marks.specs.Marker.{front_at}
use Rattle.rpc_marks.proofs.marker.Marker.feed.Given as goal

abbrev pub invariant-loop-place : goal.invariant-loop-place
invariant-loop-place l =
    (behind : List ℕ) → front_at l.fn.self (take l.place l.piece ++ behind) ≡ front_at l.self behind
