use Rattle.std.proofs.Common.{true, false, length, refl, subst, Option, []}
use Rattle.std.specs.Prelude.{IsSome, ⊤}
use Rattle.std.proofs.lemmas.Bool.{false≢true}
use Rattle.refusals.specs.declared.reason.Refusal.{Refusal}
use Rattle.run_steps.specs.Act.{Together}
use Rattle.run_steps.specs.Done.{seen_of, tells_of}
use Rattle.batch_commands.specs.BatchReading.{LineSteps}
use Rattle.batch_commands.proofs.RefusedLemmas.{not_together}
use Rattle.batch_commands.proofs.TogetherLemmas.{not_made_weaker, only_read-none, wanting_carried}
use Rattle.batch_commands.proofs.LinesCommittedLemmas.{fit_unrefused, unchanged_committed}
use Rattle.batch_commands.proofs.together.edit_bytes.Goals as goal
use Rattle.quota_map.specs.Asked.{asked_of}

pub returns-in-Ok-Some-clause-carries : goal.returns-in-Ok-Some-clause-carries
returns-in-Ok-Some-clause-carries g c =
    λ others several value stands view input out err link input_tells out_tells err_tells link_tells.
    let edits = rw c.as_str.ensures at (rw c.in-Ok-Some.field-0-is at c.in-Ok-Some.ensures.edits) in
    let made = rw c.as_str.ensures at (rw c.in-Ok-Some.field-0-is at c.in-Ok-Some.ensures.made) in
    c.put_back.ensures.carries (asked_of c.args.format) c.args.whole.bytes.items c.args.now c.args.lines.now value edits
    others several (λ told. (stands told, made others value (view told)))
    input out err link input_tells out_tells err_tells link_tells

pub returns-in-Ok-Some-clause-wanting : goal.returns-in-Ok-Some-clause-wanting
returns-in-Ok-Some-clause-wanting g c =
    c.put_back.ensures.wanting (asked_of c.args.format) (length c.args.lines.now) c.args.whole.bytes.items
    (rw c.as_str.ensures at (rw c.in-Ok-Some.field-0-is at c.in-Ok-Some.ensures.edits))

pub returns-clause-carries : goal.returns-clause-carries
returns-clause-carries g c =
    λ others several value stands view input out err link input_tells out_tells err_tells link_tells.
    let S = g.S.Store in
    let store = S.seen c.args.store.now in
    rw c.of.ensures
    (wanting_carried (LineSteps (Together others) c.args.file c.args.now c.args.lines.now value)
    (asked_of c.args.format) c.args.file (tells_of S.tells input_tells out_tells err_tells link_tells)
    (seen_of store input out err link) store
    (only_read-none {done = true} store store refl))

pub returns-in-Ok-Some-clause-never : goal.returns-in-Ok-Some-clause-never
returns-in-Ok-Some-clause-never g c = λ may value view.
    let made = rw c.as_str.ensures at (rw c.in-Ok-Some.field-0-is at c.in-Ok-Some.ensures.made) in
    let within = rw c.in-Ok-Some.field-0-is at c.in-Ok-Some.ensures.within in
    not_made_weaker c.put_back.result _ _
    (λ name some. not_together c.args.kind (asked_of c.args.format) c.args.file c.args.now 0 c.args.lines.now value
    c.args.whole c.in-Ok-Some.edited may within view (made 0 value view) some)
    (c.put_back.ensures.refused (asked_of c.args.format) (length c.args.lines.now) c.args.whole may within)

pub returns-in-Ok-None-clause-never : goal.returns-in-Ok-None-clause-never
returns-in-Ok-None-clause-never g c =
    λ may value view. absurd (c.in-Ok-None.ensures.opens c.in-Ok-None.field-0-is value view)

pub returns-in-Ok-Some-clause-commits : goal.returns-in-Ok-Some-clause-commits
returns-in-Ok-Some-clause-commits g c = λ told others value alone view.
    let made = rw c.as_str.ensures at (rw c.in-Ok-Some.field-0-is at c.in-Ok-Some.ensures.made) in
    c.put_back.ensures.commits told c.args.whole.bytes.items c.args.now c.args.lines.now value others alone
    (made others value view)

pub returns-clause-commits : goal.returns-clause-commits
returns-clause-commits g c = λ told others value alone view.
    let S = g.S.Store in
    unchanged_committed ⊤ false _ c.args.file _ _ (λ worlds. S.commits worlds c.args.store.now c.args.store.now)
    (λ worlds none. S.commits_nothing worlds c.args.store.now) (S.commits_nothing [] c.args.store.now) refl

pub returns-in-Ok-Some-clause-fitting : goal.returns-in-Ok-Some-clause-fitting
returns-in-Ok-Some-clause-fitting g c = λ may others value files named view fit.
    let made = rw c.as_str.ensures at (rw c.in-Ok-Some.field-0-is at c.in-Ok-Some.ensures.made) in
    let within = rw c.in-Ok-Some.field-0-is at c.in-Ok-Some.ensures.within in
    let none = fit_unrefused others c.args.file c.args.now c.args.lines.now value c.args.whole.bytes.items
    c.in-Ok-Some.edited files named fit (made others value view) in
    not_made_weaker c.put_back.result _ _ (λ name some. false≢true (subst (λ (r : Option Refusal). IsSome r) none some))
    (c.put_back.ensures.refused (asked_of c.args.format) (length c.args.lines.now) c.args.whole may within)

pub returns-in-Ok-None-clause-fitting : goal.returns-in-Ok-None-clause-fitting
returns-in-Ok-None-clause-fitting g c =
    λ may others value files named view fit. absurd (c.in-Ok-None.ensures.opens c.in-Ok-None.field-0-is value view)
