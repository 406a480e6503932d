use Rattle.std.proofs.Common.{◌≡◌, None, IsTrue, ap, subst}
use Rattle.outside.specs.Unsynced.{AddsNone, UnsyncedNames}
use Rattle.disk_in_memory.specs.Told.{names_of, present_of}
use Rattle.disk_in_memory.proofs.ToldLemmas.{on_ok_any}
use Rattle.disk_in_memory.proofs.recorded.RecordedFiles.hand_over.Goals as goal

pub returns-then-is_none-clause-absent : goal.returns-then-is_none-clause-absent
returns-then-is_none-clause-absent c =
    let adds : AddsNone (names_of c.args.self.now) (names_of c.hand_none.new.self) =
    λ name is. subst (λ (names : UnsyncedNames). IsTrue (names name)) c.hand_none.ensures.unsynced is in
    let fact : present_of c.args.self.now c.args.from.now ≡ None
    → AddsNone (names_of c.args.self.now) (names_of c.hand_none.new.self) = λ absent. adds in
    on_ok_any _ fact

pub returns-then-is_none-clause-others : goal.returns-then-is_none-clause-others
returns-then-is_none-clause-others c =
    λ other differ differs. ap (λ (names : UnsyncedNames). names other) c.hand_none.ensures.unsynced
