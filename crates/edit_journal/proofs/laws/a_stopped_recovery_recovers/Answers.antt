use Rattle.std.proofs.Common.{inl, inr, ⊎_elim, sym, ◌∙◌, subst, arith}
use Rattle.outside.specs.World.{World}
use Rattle.edit_journal.specs.Settled.{RecoversToEither}
use Rattle.edit_journal.proofs.laws.a_stopped_recovery_recovers.Goals as goal

pub returns-clause-stopped : goal.returns-clause-stopped
returns-clause-stopped g c = λ name undo und old new before after image each passes was.
    ⊎_elim
    (λ earlier. each image ((g.met.D.Disk.present_is_now before image).0 earlier))
    (λ by. ⊎_elim (λ is. inl (by.2.0 ∙ is)) (λ is. inr (by.2.0 ∙ is)) (each by.0 by.1))
    (passes.known (g.D.Disk.seen before).moment image (omega arith) was)

pub returns-clause-again : goal.returns-clause-again
returns-clause-again g c = λ name undo old new disk left either fresh image is.
    subst (λ (w : World). RecoversToEither name undo old new w) (sym ((fresh.left image).0 is)) either
