use Rattle.std.proofs.lemmas.Result.{on_ok_weaker, on_err_weaker}
use Rattle.disk_in_memory.proofs.ToldLemmas.{read_more, read_same, told_any, told_nothing, told_step}
use Rattle.std.proofs.Common.{sym, ap, List, ◌∙◌}
use Rattle.outside.specs.World.{World}
use Rattle.disk_in_memory.specs.Told.{calls_of, first_of, left_unsynced}
use Rattle.disk_in_memory.specs.Unsynced.{unsynced_after, unsynced_by}
use Rattle.disk_in_memory.specs.declared.disk_call.DiskCall.{DiskCall}
use Rattle.disk_in_memory.proofs.recorded.RecordedFiles.make.Goals as goal

pub returns-clause-ok : goal.returns-clause-ok
returns-clause-ok c =
    on_ok_weaker c.add.result
    (λ added. λ names now failed later less.
    told_step _ _ _ _ c.args.call _ _ names now failed later c.add.ensures.first added
    (read_more _ _ _ _ c.args.call _ _ c.add.ensures.first added c.args.self.now.replayed c.add.new.self.replayed)
    c.args.self.now.replayed less)
    c.add.ensures.ok

pub returns-clause-err : goal.returns-clause-err
returns-clause-err c =
    on_err_weaker c.add.result
    (λ same. λ names now failed later less.
    told_nothing _ _ _ _ _ _ names now failed later c.add.ensures.first same
    (read_same _ _ _ _ _ _ c.add.ensures.first same c.args.self.now.replayed c.add.new.self.replayed) less)
    c.add.ensures.err

pub returns-clause-any : goal.returns-clause-any
returns-clause-any c =
    on_ok_weaker c.add.result
    (λ added. λ failed later before after left makes.
    told_any _ _ _ _ c.args.call _ c.add.ensures.first added c.args.self.now.replayed before after left makes)
    c.add.ensures.ok

pub returns-clause-left : goal.returns-clause-left
returns-clause-left c =
    on_ok_weaker c.add.result
    (λ added.
    ap (λ (first : World). unsynced_after first (calls_of c.add.new.self)) c.add.ensures.first
    ∙ ap (λ (calls : List DiskCall). unsynced_after (first_of c.args.self.now) calls) added
    ∙ ap (λ (read : World). unsynced_by c.args.call read (left_unsynced c.args.self.now))
    (sym c.args.self.now.replayed))
    c.add.ensures.ok

pub returns-clause-stays : goal.returns-clause-stays
returns-clause-stays c =
    on_err_weaker c.add.result
    (λ same.
    ap (λ (first : World). unsynced_after first (calls_of c.add.new.self)) c.add.ensures.first
    ∙ ap (λ (calls : List DiskCall). unsynced_after (first_of c.args.self.now) calls) same)
    c.add.ensures.err
