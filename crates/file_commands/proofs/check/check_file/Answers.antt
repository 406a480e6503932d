use Rattle.std.proofs.Common.{◌≡◌, [], subst, ◌∙◌, true}
use Rattle.std.specs.Prelude.{⊤}
use Rattle.std.proofs.lemmas.Result.{on_ok_weaker}
use Rattle.quota_types.specs.declared.file_kind.Format.{Format}
use Rattle.outside.proofs.FrameLemmas.{only_reads-none}
use Rattle.quota_types.specs.declared.file_kind.Kind.{Kind}
use Rattle.quota_value.specs.QuotaValue.{QuotaValue}
use Rattle.run_steps.specs.Done.{seen_of, tells_of, Outside}
use Rattle.run_steps.specs.Carrying.{CarriesOut}
use Rattle.file_commands.specs.Check.{UsageMayRefuse, UsageSteps, check_uses, new_format, new_value}
use Rattle.file_commands.proofs.CheckLemmas.{anew_since}
use Rattle.std.specs.Result.{is_ok}
use Rattle.outside.specs.Replacement.{ReplacesOnly}
use Rattle.run_steps.specs.Committed.{CommitsSteps}
use Rattle.file_commands.proofs.check.check_file.Goals as goal

pub returns-then-fresh-clause-carries : goal.returns-then-fresh-clause-carries
returns-then-fresh-clause-carries g c = λ out err link out_tells err_tells link_tells line.
    let S = g.S.Store in
    let I = g.I.Source in
    let value = c.new-value.result in
    let is = c.new-value.ensures in
    let made = new_value c.args.common.kind c.args.common.format in
    let tells = tells_of S.tells I.tells out_tells err_tells link_tells in
    let old = seen_of (S.seen c.args.store.now) (I.seen c.args.input.now) out err link in
    let new = seen_of (S.seen c.check_value.new.store) (I.seen c.check_value.new.input) out err link in
    let steps = λ (k : Kind) (v : QuotaValue). UsageSteps k c.args.device c.args.from c.args.file c.args.now v in
    rw c.if-fresh.true
    (subst (λ (k : Kind). CarriesOut (steps k made) (check_uses c.args.from)
    (UsageMayRefuse made c.args.from c.args.file) tells old new c.check_value.result) is.kind
    (subst (λ (v : QuotaValue). CarriesOut (steps value.kind v) (check_uses c.args.from)
    (UsageMayRefuse v c.args.from c.args.file) tells old new c.check_value.result) is.value
    (c.check_value.ensures.carries out err link out_tells err_tells link_tells)))

pub returns-clause-carries : goal.returns-clause-carries
returns-clause-carries g c = λ out err link out_tells err_tells link_tells line.
    rw c.if-fresh.false (c.check_opened.ensures.carries out err link out_tells err_tells link_tells)

pub returns-then-fresh-clause-anew : goal.returns-then-fresh-clause-anew
returns-then-fresh-clause-anew g c =
    let is = c.new-value.ensures in
    rw c.if-fresh.true (on_ok_weaker c.check_value.result
    (λ anew told. anew_since c.new-value.result.kind c.args.common.kind (λ (f : Format). f ≡ c.new-value.result.format)
    (λ (f : Format). f ≡ new_format c.args.common.format)
    [] c.args.file _ _ (g.S.Store.seen c.check_value.new.store)
    (only_reads-none {done = true} [] (g.S.Store.seen c.args.store.now)) is.kind
    (λ f same. same ∙ is.format) (anew told))
    c.check_value.ensures.anew)

pub returns-clause-anew : goal.returns-clause-anew
returns-clause-anew g c = rw c.if-fresh.false c.check_opened.ensures.anew

pub returns-then-fresh-clause-commits : goal.returns-then-fresh-clause-commits
returns-then-fresh-clause-commits g c = λ datagrams line told input_told.
    let S = g.S.Store in
    let is = c.new-value.ensures in
    let made = new_value c.args.common.kind c.args.common.format in
    let old : Outside = record {
      files = (S.seen c.args.store.now).files;
      input = (g.I.Source.seen c.args.input.now).left;
      datagrams = datagrams;
    } in
    let all = λ (k : Kind) (v : QuotaValue).
    CommitsSteps ⊤ (is_ok c.check_value.result) (UsageSteps k c.args.device c.args.from c.args.file c.args.now v)
    (ReplacesOnly c.args.file old.files) old (S.seen c.check_value.new.store).files
    (λ worlds. S.commits worlds c.args.store.now c.check_value.new.store) in
    rw c.if-fresh.true
    (subst (λ (k : Kind). all k made) is.kind
    (subst (λ (v : QuotaValue). all c.new-value.result.kind v) is.value
    (c.check_value.ensures.commits datagrams told input_told)))

pub returns-clause-commits : goal.returns-clause-commits
returns-clause-commits g c =
    λ datagrams line told input_told. rw c.if-fresh.false (c.check_opened.ensures.commits datagrams told input_told)
