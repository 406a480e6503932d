use Rattle.std.proofs.Common.{◌≡◌, Ok, Some, length, sym, subst, inr, arith, []}
use Rattle.std.specs.Prelude.{Option, List, false, is_ok, ℕ, ⊤}
use Rattle.outside.specs.World.{World}
use Rattle.quota_map.specs.Asked.{asked_of}
use Rattle.quota_map.specs.View.{IsView}
use Rattle.run_steps.specs.Act.{Together, Way}
use Rattle.run_steps.specs.Done.{seen_of, tells_of}
use Rattle.run_steps.specs.Carrying.{CarriesOut}
use Rattle.batch_commands.specs.Batch.{LineEditMayRefuse, line_uses, way_of}
use Rattle.batch_commands.specs.BatchReading.{LineSteps}
use Rattle.batch_commands.specs.FullForLines.{AllFit}
use Rattle.batch_commands.specs.Together.{IfEnded, IfNotMade, StandsAlone}
use Rattle.batch_commands.specs.declared.together.Attempt.{Attempt}
use Rattle.batch_commands.specs.declared.together.Attempt.TheVariants.{Ended, NotMade}
use Rattle.batch_commands.proofs.ReadsLemmas.{whole_twelve}
use Rattle.batch_commands.proofs.TogetherLemmas.{ended_any, ended_read, on_ok_any, unread_carried, view_some, way_many}
use Rattle.outside.specs.Replacement.{ReplacesOnly}
use Rattle.batch_commands.specs.LinesCommitted.{CommitsFrom}
use Rattle.batch_commands.proofs.LinesCommittedLemmas.{ended_weaker, looked_before, unchanged_committed}
use Rattle.batch_commands.proofs.together.edit_together.Goals as goal

pub returns-in-Ok-Some-clause-carries : goal.returns-in-Ok-Some-clause-carries
returns-in-Ok-Some-clause-carries g c = λ value view input out err link input_tells out_tells err_tells link_tells.
    let S = g.S.Store in
    let whole = rw c.as_str.ensures at (rw c.in-Ok-Some.field-0-is at c.in-Ok-Some.ensures.whole) in
    let reads = c.in-Ok-Some.ensures.leaves in
    let tells = tells_of S.tells input_tells out_tells err_tells link_tells in
    let many = way_many c.args.lines.now (omega arith) in
    subst (λ (w : Way). IfEnded c.edit_bytes.result
    (CarriesOut (LineSteps w c.args.file c.args.now c.args.lines.now value) line_uses
    (LineEditMayRefuse (asked_of c.args.format) c.args.file) tells
    (seen_of (S.seen c.args.store.now) input out err link)
    (seen_of (S.seen c.edit_bytes.new.store) input out err link))) (sym many.2)
    (ended_read c.edit_bytes.result _ _ _ tells
    (seen_of (S.seen c.args.store.now) input out err link) (S.seen c.read_whole.new.store)
    (seen_of (S.seen c.edit_bytes.new.store) input out err link) reads
    (c.edit_bytes.ensures.carries many.0 many.1 value
    (λ told.
    subst (λ (w : World). StandsAlone w c.args.file c.in-Ok-Some.whole.bytes.items) (sym reads.files) (whole told))
    (λ told. subst (λ (f : Option (List ℕ)). IsView f c.args.kind (asked_of c.args.format) (Ok value))
    (whole told).named (view told))
    input out err link input_tells out_tells err_tells link_tells))

pub returns-in-Err-clause-carries : goal.returns-in-Err-clause-carries
returns-in-Err-clause-carries g c = λ value view input out err link input_tells out_tells err_tells link_tells.
    let S = g.S.Store in
    rw (c.of.ensures, c.load_cause.ensures)
    (unread_carried (LineSteps (way_of c.args.lines.now) c.args.file c.args.now c.args.lines.now value)
    (asked_of c.args.format) c.args.file (tells_of S.tells input_tells out_tells err_tells link_tells)
    (seen_of (S.seen c.args.store.now) input out err link) (S.seen c.read_whole.new.store) c.in-Err.fault
    c.in-Err.ensures.leaves
    (λ told. view_some _ c.args.kind (asked_of c.args.format) value (view told))
    (rw c.as_str.ensures at c.in-Err.ensures.refused))

pub returns-in-Ok-Some-clause-reads : goal.returns-in-Ok-Some-clause-reads
returns-in-Ok-Some-clause-reads g c =
    ended_any c.edit_bytes.result _ (λ ended. on_ok_any ended _ (λ told.
    let read = whole_twelve (length c.args.lines.now) _ _ _ (c.in-Ok-Some.ensures.reads told) in
    omega (arith, read, c.edit_bytes.ensures.reads)))

pub returns-in-Ok-Some-clause-reads_more : goal.returns-in-Ok-Some-clause-reads_more
returns-in-Ok-Some-clause-reads_more g c =
    let S = g.S.Store in
    let files = (S.seen c.args.store.now).files in
    let file = c.args.file in
    let bytes = c.in-Ok-Some.whole.bytes.items in
    let whole = rw c.as_str.ensures at (rw c.in-Ok-Some.field-0-is at c.in-Ok-Some.ensures.whole) in
    let pays = rw c.in-Ok-Some.field-0-is at c.in-Ok-Some.ensures.pays in
    not_made_weaker_all c.edit_bytes.result
    (λ told value view.
    let named : files file ≡ Some bytes = (whole told).named in
    c.edit_bytes.ensures.never (pays told) value
    (subst (λ (f : Option (List ℕ)). IsView f c.args.kind (asked_of c.args.format) (Ok value)) named view))
    (λ told value view never. inr never)
  where
    not_made_weaker_all : {T V : Type 0} {P : V → Type 0} {A B : V → Type 0} (attempt : Attempt)
        → (T → (value : V) → P value → IfNotMade attempt (λ name. A value))
        → (T → (value : V) → P value → A value → B value)
        → IfNotMade attempt (λ name. T → (value : V) → P value → B value)
    not_made_weaker_all (Ended result) is weaker = tt
    not_made_weaker_all (NotMade name) is weaker = λ told value of. weaker told value of (is told value of)

pub returns-in-Ok-Some-clause-commits : goal.returns-in-Ok-Some-clause-commits
returns-in-Ok-Some-clause-commits g c = λ told value view.
    let S = g.S.Store in
    let file = c.args.file in
    let whole = (rw c.as_str.ensures at (rw c.in-Ok-Some.field-0-is at c.in-Ok-Some.ensures.whole)) told in
    let same = c.in-Ok-Some.ensures.leaves.files in
    let many = way_many c.args.lines.now (omega arith) in
    let old = (S.seen c.args.store.now).files in
    let middle = (S.seen c.read_whole.new.store).files in
    let new = (S.seen c.edit_bytes.new.store).files in
    let latter = λ (worlds : List World). S.commits worlds c.read_whole.new.store c.edit_bytes.new.store in
    let commits = λ (worlds : List World). S.commits worlds c.args.store.now c.edit_bytes.new.store in
    let steps = λ (way : Way). LineSteps way file c.args.now c.args.lines.now value in
    ended_weaker c.edit_bytes.result
    (λ ended. CommitsFrom ⊤ (is_ok ended) (steps (Together many.0)) (ReplacesOnly file middle) middle new latter)
    (λ ended. CommitsFrom ⊤ (is_ok ended) (steps (way_of c.args.lines.now)) (ReplacesOnly file old) old new commits)
    (λ ended those.
    subst (λ (way : Way). CommitsFrom ⊤ (is_ok ended) (steps way) (ReplacesOnly file old) old new commits) (sym many.2)
    (looked_before ⊤ ⊤ (is_ok ended) (steps (Together many.0)) file old middle new latter commits same (λ is. is)
    (λ worlds it. S.commits_on [] worlds _ _ _ c.in-Ok-Some.ensures.commits it) those))
    (c.edit_bytes.ensures.commits told many.0 value
    (subst (λ (w : World). StandsAlone w file c.in-Ok-Some.whole.bytes.items) (sym same) whole)
    (subst (λ (f : Option (List ℕ)). IsView f c.args.kind (asked_of c.args.format) (Ok value)) whole.named view))

pub returns-in-Err-clause-commits : goal.returns-in-Err-clause-commits
returns-in-Err-clause-commits g c = λ told value view.
    let S = g.S.Store in
    unchanged_committed ⊤ false _ c.args.file _ _ (λ worlds. S.commits worlds c.args.store.now c.read_whole.new.store)
    (λ worlds none. g.met.S.Store.commits_more worlds _ _ none) c.in-Err.ensures.commits
    c.in-Err.ensures.leaves.files

pub returns-in-Ok-Some-clause-together : goal.returns-in-Ok-Some-clause-together
returns-in-Ok-Some-clause-together g c =
    let S = g.S.Store in
    let files = (S.seen c.args.store.now).files in
    let file = c.args.file in
    let bytes = c.in-Ok-Some.whole.bytes.items in
    let lines = c.args.lines.now in
    let whole = rw c.as_str.ensures at (rw c.in-Ok-Some.field-0-is at c.in-Ok-Some.ensures.whole) in
    let pays = rw c.in-Ok-Some.field-0-is at c.in-Ok-Some.ensures.pays in
    let many = way_many lines (omega arith) in
    never_made c.edit_bytes.result (λ told value view together.
    c.edit_bytes.ensures.fitting (pays told) many.0 value files (whole told).named
    (subst (λ (f : Option (List ℕ)). IsView f c.args.kind (asked_of c.args.format) (Ok value)) (whole told).named view)
    (subst (λ (w : Way). AllFit w file c.args.now lines files value) many.2 together.fit))
  where
    never_made : {T V : Type 0} {P Q : V → Type 0} (attempt : Attempt)
        → (T → (value : V) → P value → Q value → IfNotMade attempt (λ _. ⊥))
        → IfNotMade attempt (λ _. T → (value : V) → P value → Q value → ⊥)
    never_made (Ended result) never = tt
    never_made (NotMade name) never = never
