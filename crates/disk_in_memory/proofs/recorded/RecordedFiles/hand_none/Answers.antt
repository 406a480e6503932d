use Rattle.std.proofs.Common.{◌≤◌, ℕ}
use Rattle.disk.specs.DiskSeen.{ChangesNothing}
use Rattle.disk_in_memory.specs.Told.{told_of}
use Rattle.disk_in_memory.proofs.ToldLemmas.{on_err_any}
use Rattle.disk_in_memory.proofs.recorded.RecordedFiles.hand_none.Goals as goal

pub returns-in_err-make-clause-err : goal.returns-in_err-make-clause-err
returns-in_err-make-clause-err c =
    let same : (failed later : ℕ) → failed ≤ later
    → ChangesNothing (told_of c.args.self.now failed) (told_of c.make.new.self later) =
    λ failed later less. c.in_err-make.ensures.err _ _ failed later less in
    on_err_any _ same
