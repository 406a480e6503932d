use Rattle.std.proofs.Common.{IsTrue}
use Rattle.disk.specs.DiskCalls.{ChangesFile, IsOutside, TearsRange, Torn}
use Rattle.disk.proofs.StepLemmas.{torn-less}
use Rattle.disk.proofs.StopLemmas.{passes-step, passes-wider}
use Rattle.disk.proofs.laws.changes_pass_on.Goals as goal

pub returns-clause-written : goal.returns-clause-written
returns-clause-written g c =
    λ stays name at len old new sub takes.
    passes-wider (TearsRange name at len) (ChangesFile (Torn (λ place. IsTrue (stays place))) name) _ _
    (λ before after change.
    (torn-less (IsOutside at len) (λ place. IsTrue (stays place)) (before name) (after name) sub change.0, change.1))
    (passes-step (TearsRange name at len) _ _ takes)
