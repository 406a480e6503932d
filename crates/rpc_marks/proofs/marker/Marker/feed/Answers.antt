use Rattle.std.proofs.Common.{◌≡◌, ℕ, ◌+◌, List, ◌++◌, length, take, refl, subst, arith}
use Rattle.rpc_marks.specs.Marker.{front_at}
use Rattle.rpc_marks.specs.declared.step.Step.TheVariants.{More}
use Rattle.rpc_marks.proofs.MarkerLemmas.{fed-by, takes-more}
use Rattle.rpc_marks.proofs.marker.Marker.feed.Goals as goal

pub returns-in_default-clause-fed : goal.returns-in_default-clause-fed
returns-in_default-clause-fed c =
    fed-by c.args.piece.now (c.loop-place.place + 1) c.args.self.now c.take.new.self c.take.result
    (λ is. absurd (c.in_default.not-More is))
    (takes-more c.args.piece.now c.loop-place.place _ c.args.self.now c.loop-place.self c.take.new.self c.take.result
    c.loop-place-test.true refl c.loop-place.invariant c.take.ensures.takes)

pub returns-clause-fed : goal.returns-clause-fed
returns-clause-fed c =
    let all : c.loop-place.place ≡ length c.args.piece.now = omega arith in
    fed-by c.args.piece.now (length c.args.piece.now) c.args.self.now c.loop-place.self More (λ is. refl)
    (subst (λ (n : ℕ). (behind : List ℕ)
    → front_at c.args.self.now (take n c.args.piece.now ++ behind) ≡ front_at c.loop-place.self behind) all
    c.loop-place.invariant)
