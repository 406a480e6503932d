use Rattle.std.proofs.Common.{◌≡◌, true, false, inl, inr, refl, ap}
use Rattle.std.specs.Prelude.{⊤}
use Rattle.std.proofs.lemmas.Bool.{false≢true}
use Rattle.std.proofs.lemmas.Result.{on_ok_weaker}
use Rattle.outside.proofs.FrameLemmas.{syncs-after_read, syncs-read}
use Rattle.inode_scan.specs.Usage.{UsageMap}
use Rattle.run_steps.specs.Taking.{AListing}
use Rattle.file_commands.specs.Check.{ReplaceSteps, check_uses, checked}
use Rattle.file_commands.specs.FileValue.{value_in}
use Rattle.quota_types.specs.declared.file_kind.Format.{Format}
use Rattle.file_commands.proofs.CheckLemmas.{anew_since}
use Rattle.run_steps.proofs.PhaseLemmas.{placed_nowhere}
use Rattle.run_steps.proofs.TakingLemmas.{carries_taking, fault_more, has_taken, input_refused}
use Rattle.std.specs.Result.{is_ok}
use Rattle.run_steps.specs.Done.{Outside}
use Rattle.run_steps.proofs.CommittedLemmas.{looked_committed}
use Rattle.run_steps.proofs.CommittedLemmas.{comes_taking}
use Rattle.file_commands.proofs.CommittedLemmas.{committed_since}
use Rattle.file_commands.proofs.check.check_value.Goals as goal

pub returns-in-Ok-clause-carries : goal.returns-in-Ok-clause-carries
returns-in-Ok-clause-carries g c = λ out err link out_tells err_tells link_tells.
    let took = c.in-Ok.ensures in
    carries_taking _ c.args.from (λ (u : UsageMap). true) _ (λ (u : UsageMap). ReplaceSteps c.args.file
    (checked (value_in c.args.value) u c.args.now)) c.in-Ok.usage
    _ _ _ _ _ _ _ _ _ took.leaves took.later (λ told. took.read told.store (λ none. told.input))
    (λ told. has_taken c.args.from true _ _ (took.behind (λ none. told.input)) (λ all none. took.ended none told.input)
    (λ some. ap (λ i. (g.I.Source.seen i).left) (took.untouched some)))
    (λ cause said may. inr may)
    (c.replace_usage.ensures.carries (g.I.Source.seen c.take_usage.new.input) out err link g.I.Source.tells
    out_tells err_tells link_tells)

pub returns-in-Err-clause-carries : goal.returns-in-Err-clause-carries
returns-in-Err-clause-carries g c = λ out err link out_tells err_tells link_tells.
    let took = c.in-Err.ensures in
    input_refused _ AListing c.args.from (λ (u : UsageMap). true) _ _ _ _ _ _ _ _ _ took.leaves took.later
    (fault_more _ _ _ _ _ _ _ c.in-Err.refusal c.in-Err.refusal.cause (λ rose. rose) (λ rose. rose)
    (λ told. (told.store, λ none. told.input)) took.refused)
    (λ told. has_taken c.args.from false _ _ (took.behind (λ none. told.input)) (λ no. absurd (false≢true no))
    (λ some. ap (λ i. (g.I.Source.seen i).left) (took.untouched some)))
    took.may (inl took.may) (placed_nowhere (check_uses c.args.from) c.in-Err.refusal took.placed)

pub returns-in-Ok-clause-synced : goal.returns-in-Ok-clause-synced
returns-in-Ok-clause-synced g c =
    λ told. syncs-after_read _ _ _ _ c.in-Ok.ensures.leaves (c.replace_usage.ensures.synced told)

pub returns-in-Err-clause-synced : goal.returns-in-Err-clause-synced
returns-in-Err-clause-synced g c = λ told. syncs-read _ _ _ c.in-Err.ensures.leaves

pub returns-in-Ok-clause-anew : goal.returns-in-Ok-clause-anew
returns-in-Ok-clause-anew g c =
    on_ok_weaker c.replace_usage.result
    (λ anew told. anew_since c.args.value.kind c.args.value.kind (λ (f : Format). f ≡ c.args.value.format)
    (λ (f : Format). f ≡ c.args.value.format)
    _ c.args.file _ _ (g.S.Store.seen c.replace_usage.new.store) c.in-Ok.ensures.leaves refl (λ f is. is) (anew told))
    c.replace_usage.ensures.anew

pub returns-in-Ok-clause-commits : goal.returns-in-Ok-clause-commits
returns-in-Ok-clause-commits g c = λ datagrams told input_told.
    let S = g.S.Store in
    let I = g.I.Source in
    let took = c.in-Ok.ensures in
    let old : Outside = record {
      files = (S.seen c.args.store.now).files;
      input = (I.seen c.args.input.now).left;
      datagrams = datagrams;
    } in
    let left = (I.seen c.take_usage.new.input).left in
    committed_since (is_ok c.replace_usage.result) _ _ c.args.file
    (record { files = (S.seen c.take_usage.new.store).files; input = left; datagrams = datagrams }) old _ _ _
    took.leaves.files (λ worlds. g.met.S.Store.commits_behind_none worlds _ _ _ took.commits)
    (λ world. comes_taking c.args.from (λ (u : UsageMap). true) _
    (λ (u : UsageMap). ReplaceSteps c.args.file (checked (value_in c.args.value) u c.args.now)) c.in-Ok.usage
    old left world (took.read told input_told)
    (has_taken c.args.from true _ _ (took.behind input_told) (λ all none. took.ended none (input_told none))
    (λ some. ap (λ i. (I.seen i).left) (took.untouched some))))
    (c.replace_usage.ensures.commits left datagrams told)

pub returns-in-Err-clause-commits : goal.returns-in-Err-clause-commits
returns-in-Err-clause-commits g c = λ datagrams told input_told.
    looked_committed ⊤ false _ _ _ _ _ (λ worlds. g.met.S.Store.commits_more worlds _ _) c.in-Err.ensures.commits
    c.in-Err.ensures.leaves.files (λ other differ differs. refl)
