use Rattle.std.proofs.Common.{◌≡◌, ◌+◌, IsTrue, List, [], drop, length, refl, ap, subst, ◌∙◌, arith, true}
use Rattle.std.proofs.lemmas.List.{drop_all, drop_more}
use Rattle.opened_file.specs.EditsOne.{EditsOne}
use Rattle.opened_file.specs.FileSeen.{FileSeen}
use Rattle.outside.proofs.FrameLemmas.{only_reads-none, syncs-none, syncs-then}
use Rattle.opened_file.proofs.EditsOneLemmas.{edits_one-none, edits_one-then}
use Rattle.set_edit.proofs.EditingLemmas.{edits-syncs}
use Rattle.quota_map.specs.AnyFile.{HoldsAny, any_seen}
use Rattle.quota_map.specs.View.{fresh_seen}
use Rattle.batch_commands.specs.declared.batch_line.LineEdit.{LineEdit}
use Rattle.run_steps.specs.Done.{seen_of, tells_of}
use Rattle.run_steps.specs.Act.{Together}
use Rattle.batch_commands.proofs.BatchLemmas.{AreMade, all_carried, line_may_fail, line_refused}
use Rattle.batch_commands.proofs.CountLemmas.{all_made, refused_made}
use Rattle.edit_steps.proofs.EditFileLemmas.{any_cause, any_made, any_refused, limits_keep_format}
use Rattle.batch_commands.proofs.ReadsLemmas.{line_few}
use Rattle.batch_commands.proofs.WantingLemmas.{wants_none}
use Rattle.edit_steps.proofs.CommittedLemmas.{refused_stepped}
use Rattle.batch_commands.proofs.LinesCommittedLemmas.{AreCommitted, each_fewer, none_made, one_more, refused_committed}
use Rattle.batch_commands.proofs.batch.edit_all.Goals as goal

pub loop-made-init : goal.loop-made-init
loop-made-init g c = record {
  made = λ told way start held.
      none_made way c.args.file c.args.now c.args.lines.now start [] (g.S.Store.seen c.args.store.now)
      (g.S.Store.seen c.args.store.now) _ (λ worlds. g.S.Store.commits worlds c.args.store.now c.args.store.now)
      (only_reads-none {done = true} _ _) held (g.S.Store.commits_nothing [] c.args.store.now);
  same = refl;
  leaves = edits_one-none _ _;
  reads = omega arith;
  within = omega arith;
  synced = λ told. syncs-none _;
}

pub loop-made-preserved : goal.loop-made-preserved
loop-made-preserved g c =
    let S = g.S.Store in
    let kept = c.loop-made.invariant in
    let edits = c.set_limits.ensures.edits in
    let done = c.in-Ok.ensures.edits.value.done in
    let file = c.args.file in
    let before = S.seen c.loop-made.store in
    let after = S.seen c.set_limits.new.store in
    let format = (any_seen c.args.opened.now).format in
    let was : any_seen c.loop-made.opened ≡ fresh_seen file format = kept.same ∙ c.requires in
    let named : (any_seen c.loop-made.opened).name ≡ file = ap (λ (s : FileSeen). s.name) was in
    let leaves : EditsOne file before after = rw named at edits.value.leaves in
    record {
      made = λ told way start held.
          let first = c.args.store.now in
          let between = c.loop-made.store in
          let last = c.set_limits.new.store in
          let both = subst
          (λ (l : List LineEdit). AreCommitted way file c.args.now c.args.lines.now l start c.loop-made.made
          (S.seen first) before (HoldsAny S.tells before.files c.loop-made.opened)
          (λ worlds. S.commits worlds first between))
          (drop_more c.args.lines.now c.loop-made.made _ c.loop-made-test.true) (kept.made told way start held) in
          let all : EditsOne file (S.seen first) after = edits_one-then _ _ _ _ kept.leaves leaves in
          one_more way file c.args.now c.args.lines.now _ (drop (c.loop-made.made + 1) c.args.lines.now) start
          c.loop-made.made (S.seen first) before after _ (HoldsAny S.tells after.files c.set_limits.new.file)
          (IsTrue S.tells)
          (λ worlds. S.commits worlds first between) (λ worlds. S.commits worlds between last)
          (λ worlds. S.commits worlds first last) _ told both
          (any_made S.tells _ c.loop-made.opened c.set_limits.new.file before after file format both.0.value tt
          (limits_keep_format _ _ c.args.now) was (λ is. both.0.held) c.in-Ok.ensures.edits)
          (done.set both.0.value both.0.held)
          (λ worlds more one two. S.commits_on worlds more _ _ _ one two)
          (λ worlds none. g.met.S.Store.commits_more worlds between last none) c.set_limits.ensures.commits all.files;
      same = done.same ∙ kept.same;
      leaves = edits_one-then _ _ _ _ kept.leaves leaves;
      reads = let few = line_few (any_seen c.loop-made.opened) before.reads after.reads c.in-Ok.ensures.reads in
          omega (arith, kept.reads, few);
      within = omega (arith, c.loop-made-test.true);
      synced = λ told. syncs-then _ _ _ (kept.synced told) (edits-syncs _ _ _ _ _ c.in-Ok.ensures.edits told);
    }

pub returns-clause-carries : goal.returns-clause-carries
returns-clause-carries g c =
    λ way asked as_asked value held input out err link input_tells out_tells err_tells link_tells.
    let S = g.S.Store in
    let kept = c.loop-made.invariant in
    let at_end : drop c.loop-made.made c.args.lines.now ≡ [] =
    drop_all c.loop-made.made c.args.lines.now (omega arith) in
    all_carried way c.args.file c.args.now c.args.lines.now value c.loop-made.made _
    (tells_of S.tells input_tells out_tells err_tells link_tells)
    (seen_of (S.seen c.args.store.now) input out err link) (S.seen c.loop-made.store)
    (HoldsAny S.tells (S.seen c.loop-made.store).files c.loop-made.opened)
    (λ told. rw at_end at ((kept.made told way value (held told)).0)) kept.leaves

pub returns-in-Err-clause-carries : goal.returns-in-Err-clause-carries
returns-in-Err-clause-carries g c =
    λ way asked as_asked value held input out err link input_tells out_tells err_tells link_tells.
    let S = g.S.Store in
    let kept = c.loop-made.invariant in
    let edits = c.set_limits.ensures.edits in
    let refused = c.in-Err.ensures.edits in
    let fault = c.in-Err.fault in
    let file = c.args.file in
    let before = S.seen c.loop-made.store in
    let after = S.seen c.set_limits.new.store in
    let format = (any_seen c.args.opened.now).format in
    let was : any_seen c.loop-made.opened ≡ fresh_seen file format = kept.same ∙ c.requires in
    let named : (any_seen c.loop-made.opened).name ≡ file = ap (λ (s : FileSeen). s.name) was in
    let leaves : EditsOne file before after = rw named at edits.value.leaves in
    let tells = tells_of S.tells input_tells out_tells err_tells link_tells in
    let keeps = limits_keep_format _ _ c.args.now in
    rw (c.at_line-refusal.ensures, c.of.ensures, c.edit_cause.ensures)
    (line_refused way file c.args.now c.args.lines.now _ (drop (c.loop-made.made + 1) c.args.lines.now) value
    c.loop-made.made _ tells
    (seen_of (S.seen c.args.store.now) input out err link) before after
    (HoldsAny S.tells before.files c.loop-made.opened) fault
    (λ told. subst (λ (l : List LineEdit). AreMade way file c.args.now c.args.lines.now l value c.loop-made.made
    (S.seen c.args.store.now) before (HoldsAny S.tells before.files c.loop-made.opened))
    (drop_more c.args.lines.now c.loop-made.made _ c.loop-made-test.true) (kept.made told way value (held told)).0)
    (λ v holds. any_refused file _ S.tells c.loop-made.opened c.set_limits.new.file before after format v fault keeps
    was (λ is. holds) refused)
    (any_cause S.tells _ c.loop-made.opened c.set_limits.new.file before after file format fault keeps was refused)
    kept.leaves leaves
    (line_may_fail asked file _ _ c.args.now S.tells c.loop-made.opened c.set_limits.new.file before after format fault
    was as_asked refused))

pub returns-clause-leaves : goal.returns-clause-leaves
returns-clause-leaves g c = c.loop-made.invariant.leaves

pub returns-in-Err-clause-leaves : goal.returns-in-Err-clause-leaves
returns-in-Err-clause-leaves g c =
    let S = g.S.Store in
    let kept = c.loop-made.invariant in
    let edits = c.set_limits.ensures.edits in
    let named : (any_seen c.loop-made.opened).name ≡ c.args.file =
    ap (λ (s : FileSeen). s.name) (kept.same ∙ c.requires) in
    let leaves : EditsOne c.args.file (S.seen c.loop-made.store) (S.seen c.set_limits.new.store) =
    rw named at edits.value.leaves in
    edits_one-then _ _ _ _ kept.leaves leaves

pub returns-clause-reads : goal.returns-clause-reads
returns-clause-reads g c =
    let kept = c.loop-made.invariant in
    omega (arith, kept.reads, kept.within)

pub returns-in-Err-clause-synced : goal.returns-in-Err-clause-synced
returns-in-Err-clause-synced g c =
    λ told. syncs-then _ _ _ (c.loop-made.invariant.synced told) (edits-syncs _ _ _ _ _ c.in-Err.ensures.edits told)

pub returns-in-Err-clause-memory : goal.returns-in-Err-clause-memory
returns-in-Err-clause-memory g c =
    rw (c.at_line-refusal.ensures, c.of.ensures, c.edit_cause.ensures)
    (wants_none c.in-Err.fault c.in-Err.ensures.memory)

pub returns-clause-counted : goal.returns-clause-counted
returns-clause-counted g c = λ told others value held input out err link tells.
    let S = g.S.Store in
    let kept = c.loop-made.invariant in
    let count : c.loop-made.made ≡ length c.args.lines.now = omega arith in
    let at_end : drop c.loop-made.made c.args.lines.now ≡ [] =
    drop_all c.loop-made.made c.args.lines.now (omega arith) in
    rw count at
    (all_made others c.args.file c.args.now c.args.lines.now value c.loop-made.made tells
    (seen_of (S.seen c.args.store.now) input out err link) (S.seen c.loop-made.store)
    (HoldsAny S.tells (S.seen c.loop-made.store).files c.loop-made.opened)
    (rw at_end at ((kept.made told (Together others) value held).0)))

pub returns-in-Err-clause-counted : goal.returns-in-Err-clause-counted
returns-in-Err-clause-counted g c = λ told others value held input out err link tells.
    let S = g.S.Store in
    let kept = c.loop-made.invariant in
    let refused = c.in-Err.ensures.edits in
    let fault = c.in-Err.fault in
    let file = c.args.file in
    let before = S.seen c.loop-made.store in
    let after = S.seen c.set_limits.new.store in
    let format = (any_seen c.args.opened.now).format in
    let was : any_seen c.loop-made.opened ≡ fresh_seen file format = kept.same ∙ c.requires in
    let keeps = limits_keep_format _ _ c.args.now in
    rw (c.at_line-refusal.ensures, c.of.ensures, c.edit_cause.ensures) (λ own.
    refused_made others file c.args.now c.args.lines.now _ (drop (c.loop-made.made + 1) c.args.lines.now) value
    c.loop-made.made tells
    (seen_of (S.seen c.args.store.now) input out err link) before after
    (HoldsAny S.tells before.files c.loop-made.opened) (IsTrue S.tells) fault
    (subst (λ (l : List LineEdit). AreMade (Together others) file c.args.now c.args.lines.now l value c.loop-made.made
    (S.seen c.args.store.now) before (HoldsAny S.tells before.files c.loop-made.opened))
    (drop_more c.args.lines.now c.loop-made.made _ c.loop-made-test.true)
    (kept.made told (Together others) value held).0)
    (λ v holds. any_refused file _ S.tells c.loop-made.opened c.set_limits.new.file before after format v fault keeps
    was (λ is. holds) refused)
    (any_cause S.tells _ c.loop-made.opened c.set_limits.new.file before after file format fault keeps was refused)
    kept.leaves.later own)

pub returns-clause-few : goal.returns-clause-few
returns-clause-few g c = omega arith

pub returns-in-Err-clause-few : goal.returns-in-Err-clause-few
returns-in-Err-clause-few g c = omega (arith, c.loop-made.invariant.within)

pub returns-clause-commits : goal.returns-clause-commits
returns-clause-commits g c = λ told way value held.
    let both = c.loop-made.invariant.made told way value held in
    each_fewer _ _ _ c.loop-made.made (length c.args.lines.now)
    (λ worlds. g.S.Store.commits worlds c.args.store.now c.loop-made.store) (omega arith) (both.0.acts, both.1)

pub returns-in-Err-clause-commits : goal.returns-in-Err-clause-commits
returns-in-Err-clause-commits g c = λ told way value held.
    let S = g.S.Store in
    let kept = c.loop-made.invariant in
    let file = c.args.file in
    let before = S.seen c.loop-made.store in
    let after = S.seen c.set_limits.new.store in
    let format = (any_seen c.args.opened.now).format in
    let was : any_seen c.loop-made.opened ≡ fresh_seen file format = kept.same ∙ c.requires in
    let named : (any_seen c.loop-made.opened).name ≡ file = ap (λ (s : FileSeen). s.name) was in
    let leaves : EditsOne file before after = rw named at c.set_limits.ensures.edits.value.leaves in
    let lines = c.args.lines.now in
    let made = c.loop-made.made in
    let opened = c.loop-made.opened in
    let first = c.args.store.now in
    let between = c.loop-made.store in
    let last = c.set_limits.new.store in
    let holds = HoldsAny S.tells before.files opened in
    let both = subst
    (λ (l : List LineEdit). AreCommitted way file c.args.now lines l value made (S.seen first) before holds
    (λ worlds. S.commits worlds first between))
    (drop_more lines made _ c.loop-made-test.true) (kept.made told way value held) in
    let all : EditsOne file (S.seen first) after = edits_one-then _ _ _ _ kept.leaves leaves in
    each_fewer _ _ _ (made + 1) (length lines) (λ worlds. S.commits worlds first last)
    (omega (arith, kept.within, c.loop-made-test.true))
    (refused_committed way file c.args.now lines _ (drop (made + 1) lines) value made (S.seen first) before after holds
    (λ worlds. S.commits worlds first between) (λ worlds. S.commits worlds between last)
    (λ worlds. S.commits worlds first last) _
    both (λ worlds more one two. S.commits_on worlds more _ _ _ one two)
    (λ worlds none. g.met.S.Store.commits_more worlds between last none) c.set_limits.ensures.commits
    (λ is. refused_stepped both.0.next file _ S.tells opened c.set_limits.new.file before after format both.0.value
    c.in-Err.fault (limits_keep_format _ _ c.args.now) was told both.0.held
    c.in-Err.ensures.edits is)
    kept.leaves.files all.files)
