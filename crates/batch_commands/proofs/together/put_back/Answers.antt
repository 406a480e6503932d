use Rattle.std.proofs.Common.{false, refl, arith, []}
use Rattle.std.specs.Prelude.{is_ok, ⊤}
use Rattle.std.proofs.lemmas.Bool.{false≢true}
use Rattle.run_steps.specs.Done.{seen_of, tells_of}
use Rattle.batch_commands.specs.Batch.{LineEditMayRefuse}
use Rattle.batch_commands.proofs.TogetherLemmas.{kept_takes, put_carried, refused_carried, replaced_takes}
use Rattle.batch_commands.proofs.RefusedLemmas.{pays_unless}
use Rattle.batch_commands.proofs.LinesCommittedLemmas.{replaced_committed, unchanged_committed}
use Rattle.batch_commands.proofs.together.put_back.Goals as goal

pub returns-then-edited-eq0-clause-carries : goal.returns-then-edited-eq0-clause-carries
returns-then-edited-eq0-clause-carries g c =
    λ asked bytes now lines value edits others several made input out err link input_tells out_tells
    err_tells link_tells.
    let S = g.S.Store in
    let store = S.seen c.args.store.now in
    put_carried others c.args.file now lines value bytes c.args.edited (LineEditMayRefuse asked c.args.file)
    (tells_of S.tells input_tells out_tells err_tells link_tells)
    (seen_of store input out err link) store edits made
    (λ told alone. kept_takes c.args.file bytes c.args.edited store alone.named
    (edits.same (omega (arith, c.if-edited-eq0.true)))) (omega arith)
    (record { none = λ is. refl; few = omega arith })

pub returns-in-Ok-clause-carries : goal.returns-in-Ok-clause-carries
returns-in-Ok-clause-carries g c =
    λ asked bytes now lines value edits others several made input out err link input_tells out_tells
    err_tells link_tells.
    let S = g.S.Store in
    let old = S.seen c.args.store.now in
    let new = S.seen c.replace.new.store in
    let replaced = rw (c.as_str.ensures, c.as_slice.ensures.value) at c.in-Ok.ensures.replaced in
    let writes = rw c.as_slice.ensures.value at c.in-Ok.ensures.writes in
    let few = c.if-not-pays.ensures.few refl in
    put_carried others c.args.file now lines value bytes c.args.edited (LineEditMayRefuse asked c.args.file)
    (tells_of S.tells input_tells out_tells err_tells link_tells)
    (seen_of old input out err link) new edits made
    (λ told alone. replaced_takes c.args.file c.args.edited.bytes.items old new alone.no_other (replaced told))
    c.in-Ok.ensures.leaves.later
    (record { none = λ is. absurd (omega (arith, is, c.if-edited-eq0.false)); few = omega (arith, writes, few) })

pub returns-in-Err-clause-carries : goal.returns-in-Err-clause-carries
returns-in-Err-clause-carries g c =
    λ asked bytes now lines value edits others several made input out err link input_tells out_tells
    err_tells link_tells.
    let S = g.S.Store in
    let writes = rw c.as_slice.ensures.value at c.in-Err.ensures.writes in
    let few = c.if-not-pays.ensures.few refl in
    rw (c.of.ensures, c.replace_cause.ensures)
    (refused_carried others c.args.file now lines value bytes c.args.edited asked
    (tells_of S.tells input_tells out_tells err_tells link_tells)
    (seen_of (S.seen c.args.store.now) input out err link) (S.seen c.replace.new.store) c.in-Err.fault
    (λ is. omega (arith, is, c.if-edited-eq0.false)) made (rw c.as_str.ensures at c.in-Err.ensures.unchanged)
    (rw c.as_str.ensures at c.in-Err.ensures.leaves)
    (omega (arith, writes, few, edits.few, several)) c.in-Err.ensures.refused c.in-Err.ensures.memory)

pub returns-then-not-pays-clause-refused : goal.returns-then-not-pays-clause-refused
returns-then-not-pays-clause-refused g c =
    λ asked count whole may within.
    pays_unless asked count whole c.args.edited may within (c.if-not-pays.ensures.no refl)

pub returns-then-edited-eq0-clause-commits : goal.returns-then-edited-eq0-clause-commits
returns-then-edited-eq0-clause-commits g c = λ told bytes now lines value others alone made.
    let S = g.S.Store in
    unchanged_committed ⊤ (is_ok c.args.edited.lines.ended) _ c.args.file _ _
    (λ worlds. S.commits worlds c.args.store.now c.args.store.now)
    (λ worlds none. S.commits_nothing worlds c.args.store.now)
    (S.commits_nothing [] c.args.store.now) refl

pub returns-in-Ok-clause-commits : goal.returns-in-Ok-clause-commits
returns-in-Ok-clause-commits g c = λ told bytes now lines value others alone made.
    let S = g.S.Store in
    let replaced = rw (c.as_str.ensures, c.as_slice.ensures.value) at c.in-Ok.ensures.replaced in
    replaced_committed (is_ok c.args.edited.lines.ended) others c.args.file now lines value bytes c.args.edited
    (S.seen c.args.store.now).files (S.seen c.replace.new.store).files
    (λ worlds. S.commits worlds c.args.store.now c.replace.new.store) alone made
    (rw (c.as_str.ensures, c.as_slice.ensures.value) at (c.replace.ensures.commits told)) (λ well. replaced told)

pub returns-in-Err-clause-commits : goal.returns-in-Err-clause-commits
returns-in-Err-clause-commits g c = λ told bytes now lines value others alone made.
    let S = g.S.Store in
    replaced_committed false others c.args.file now lines value bytes c.args.edited (S.seen c.args.store.now).files
    (S.seen c.replace.new.store).files
    (λ worlds. S.commits worlds c.args.store.now c.replace.new.store) alone made
    (rw (c.as_str.ensures, c.as_slice.ensures.value) at (c.replace.ensures.commits told))
    (λ well. absurd (false≢true well))
