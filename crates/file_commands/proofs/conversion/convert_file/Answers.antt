use Rattle.std.proofs.Common.{sym, true, false, arith}
use Rattle.outside.proofs.FrameLemmas.{syncs-all}
use Rattle.opened_file.proofs.ReplaceLemmas.{replacement_name-ne}
use Rattle.file_commands.proofs.ConversionLemmas.{converted_anew, converted_done, not_converted, comes_converted}
use Rattle.std.proofs.lemmas.Bool.{false≢true}
use Rattle.outside.specs.ManyCalls.{replaced_files}
use Rattle.quota_map.specs.View.{most_blocks}
use Rattle.quota_map.proofs.ReplacedLemmas.{replaced-only}
use Rattle.convert.specs.Convert.{IsMade, IsMadeOf, asked_for}
use Rattle.run_steps.specs.Done.{Outside}
use Rattle.file_commands.specs.Conversion.{ConvertSteps}
use Rattle.file_commands.proofs.CommittedLemmas.{replaced_committed, seen_in}
use Rattle.file_commands.proofs.conversion.convert_file.Goals as goal

pub returns-in-Ok-clause-carries : goal.returns-in-Ok-clause-carries
returns-in-Ok-clause-carries g c = λ input out err link input_tells out_tells err_tells link_tells invocation.
    converted_done c.args.kind c.args.old c.args.new c.args.source c.args.target invocation _ _ _
    (rw (c.as_str.ensures, c.as_str-2.ensures) at c.in-Ok.ensures.made)
    (rw (c.as_str.ensures, c.as_str-2.ensures) at c.in-Ok.ensures.leaves)

pub returns-in-Ok-clause-anew : goal.returns-in-Ok-clause-anew
returns-in-Ok-clause-anew g c =
    converted_anew c.args.kind c.args.old c.args.new c.args.source c.args.target _ _ _
    (rw (c.as_str.ensures, c.as_str-2.ensures) at c.in-Ok.ensures.made)

pub returns-in-Ok-clause-synced : goal.returns-in-Ok-clause-synced
returns-in-Ok-clause-synced g c = λ told.
    let kept = c.in-Ok.ensures.synced told in
    syncs-all _ _ c.in-Ok.ensures.leaves.later (record { none = kept.none; changed = kept.changed })

pub returns-in-Err-clause-synced : goal.returns-in-Err-clause-synced
returns-in-Err-clause-synced g c = λ told. c.in-Err.ensures.left_synced

pub returns-in-Err-clause-carries : goal.returns-in-Err-clause-carries
returns-in-Err-clause-carries g c = λ input out err link input_tells out_tells err_tells link_tells invocation.
    rw c.convert_refusal.ensures
    (not_converted c.args.kind c.args.old c.args.new c.args.source c.args.target invocation _ _ _ c.in-Err.fault
    (rw (c.as_str.ensures, c.as_str-2.ensures) at c.in-Err.ensures.refused)
    (rw (c.as_str.ensures, c.as_str-2.ensures) at c.in-Err.ensures.unwritten)
    ((rw c.as_str-2.ensures at c.in-Err.ensures.unchanged) c.args.target
    (λ same. replacement_name-ne c.args.target (sym same)))
    (rw (c.as_str.ensures, c.as_str-2.ensures) at c.in-Err.ensures.leaves))

pub returns-in-Err-clause-named : goal.returns-in-Err-clause-named
returns-in-Err-clause-named g c =
    (rw c.as_str-2.ensures at c.in-Err.ensures.unchanged) c.args.target
    (λ same. replacement_name-ne c.args.target (sym same))

pub returns-in-Ok-clause-commits : goal.returns-in-Ok-clause-commits
returns-in-Ok-clause-commits g c = λ input datagrams invocation told.
    let S = g.S.Store in
    let source = c.as_str.ensures in
    let target = c.as_str-2.ensures in
    let done = c.in-Ok.ensures in
    let old : Outside = record { files = (S.seen c.args.store.now).files; input = input; datagrams = datagrams } in
    let new = (S.seen c.convert.new.store).files in
    let asked = asked_for c.args.source c.args.target c.args.old c.args.new c.args.kind most_blocks in
    replaced_committed true (ConvertSteps c.args.kind c.args.old c.args.new c.args.source c.args.target invocation)
    c.args.target (IsMadeOf S.tells asked old.files) old new
    (λ worlds. S.commits worlds c.args.store.now c.convert.new.store) (λ worlds. g.met.S.Store.commits_more worlds _ _)
    (λ bytes is. comes_converted c.args.kind c.args.old c.args.new c.args.source c.args.target invocation S.tells old
    (replaced_files old.files c.args.target bytes) is.made told is.free is.converts is.few
    (seen_in old.files c.args.target bytes c.args.kind c.args.new is.made (is.seen (omega arith)))
    (replaced-only old.files c.args.target bytes))
    (λ well.
    let is : IsMade S.tells asked (S.seen c.args.store.now) (S.seen c.convert.new.store) =
    rw (source, target) at done.made in
    comes_converted c.args.kind c.args.old c.args.new c.args.source c.args.target invocation S.tells old new is.made
    told is.free is.converts is.few
    (is.seen told (omega arith)) (rw target at done.leaves.files))
    (rw target at done.leaves.files) (rw (source, target) at done.commits told)

pub returns-in-Err-clause-commits : goal.returns-in-Err-clause-commits
returns-in-Err-clause-commits g c = λ input datagrams invocation told.
    let S = g.S.Store in
    let source = c.as_str.ensures in
    let target = c.as_str-2.ensures in
    let done = c.in-Err.ensures in
    let old : Outside = record { files = (S.seen c.args.store.now).files; input = input; datagrams = datagrams } in
    let new = (S.seen c.convert.new.store).files in
    let asked = asked_for c.args.source c.args.target c.args.old c.args.new c.args.kind most_blocks in
    replaced_committed false (ConvertSteps c.args.kind c.args.old c.args.new c.args.source c.args.target invocation)
    c.args.target (IsMadeOf S.tells asked old.files) old new
    (λ worlds. S.commits worlds c.args.store.now c.convert.new.store) (λ worlds. g.met.S.Store.commits_more worlds _ _)
    (λ bytes is. comes_converted c.args.kind c.args.old c.args.new c.args.source c.args.target invocation S.tells old
    (replaced_files old.files c.args.target bytes) is.made told is.free is.converts is.few
    (seen_in old.files c.args.target bytes c.args.kind c.args.new is.made (is.seen (omega arith)))
    (replaced-only old.files c.args.target bytes))
    (λ well. absurd (false≢true well))
    (rw target at done.leaves.files) (rw (source, target) at done.commits told)
