use Rattle.std.proofs.Common.{◌≡◌, ℕ, ap, ◌∙◌, ◌+◌, ◌<◌, min, arith, []}
use Rattle.outside.proofs.FrameLemmas.{only_reads-then}
use Rattle.quota_v1.proofs.WindowLemmas.{first_then, held_of_file, held_on, none_then, reads_end, reads_exact}
use Rattle.quota_v1.proofs.WindowLemmas.{reads_near, reads_on, reads_some, reads_within}
use Rattle.quota_v1.specs.Place.{records_read}
use Rattle.quota_v1.proofs.window.Window.first_from.Goals as goal

pub returns-in-Some-clause-found : goal.returns-in-Some-clause-found
returns-in-Some-clause-found g c = λ told file is whole held.
    let so_far = c.loop-next.invariant in
    let on = held_on c.args.format _ _ c.args.name.now c.args.self.now c.loop-next.self c.bring.new.self
    so_far.leaves.files (so_far.held told) (c.bring.ensures.held told) in
    first_then c.args.format file c.args.from c.loop-next.next c.min-end.result c.args.records c.in-Some.entry
    so_far.later (omega (arith, c.min-end.ensures))
    (so_far.none told file is whole held)
    (c.in-Some.ensures.found file whole (held_of_file c.args.format _ file c.args.self.now c.bring.new.self is on held))

pub returns-in-Some-clause-held : goal.returns-in-Some-clause-held
returns-in-Some-clause-held g c = λ told.
    let so_far = c.loop-next.invariant in
    held_on c.args.format _ _ c.args.name.now c.args.self.now c.loop-next.self c.bring.new.self so_far.leaves.files
    (so_far.held told) (c.bring.ensures.held told)

pub returns-in-Some-clause-near : goal.returns-in-Some-clause-near
returns-in-Some-clause-near g c =
    let so_far = c.loop-next.invariant in
    reads_near c.args.format _ _ _ c.args.from c.loop-next.next c.in-Some.entry.id (so_far.exact c.loop-next-test.true)
    so_far.later c.bring.ensures.reads c.in-Some.ensures.between.0

pub returns-in-Some-clause-reads : goal.returns-in-Some-clause-reads
returns-in-Some-clause-reads g c =
    let so_far = c.loop-next.invariant in
    reads_on c.args.format _ _ c.args.from (c.loop-next.next + 1) c.args.records
    (reads_near c.args.format _ _ _ c.args.from c.loop-next.next c.loop-next.next (so_far.exact c.loop-next-test.true)
    so_far.later c.bring.ensures.reads (omega arith))
    (omega (arith, c.loop-next-test.true))

pub returns-in_err-bring-clause-reads : goal.returns-in_err-bring-clause-reads
returns-in_err-bring-clause-reads g c =
    let so_far = c.loop-next.invariant in
    reads_on c.args.format _ _ c.args.from (c.loop-next.next + 1) c.args.records
    (reads_near c.args.format _ _ _ c.args.from c.loop-next.next c.loop-next.next (so_far.exact c.loop-next-test.true)
    so_far.later c.bring.ensures.reads (omega arith))
    (omega (arith, c.loop-next-test.true))

pub returns-clause-reads : goal.returns-clause-reads
returns-clause-reads g c =
    let so_far = c.loop-next.invariant in
    reads_end c.args.format _ _ c.args.from c.loop-next.next c.args.records so_far.reads so_far.later so_far.within

pub loop-next-preserved : goal.loop-next-preserved
loop-next-preserved g c =
    let so_far = c.loop-next.invariant in
    let has = c.in_ok-bring.ensures.has in
    let end : c.min-end.result ≡ min c.args.records (c.bring.new.self.first + records_read c.args.format) =
    c.min-end.ensures ∙ ap (λ (n : ℕ). min c.args.records (c.bring.new.self.first + n)) c.records_read.ensures in
    let more : c.loop-next.next < c.args.records = c.loop-next-test.true in
    let on : c.loop-next.next < c.min-end.result = omega (arith, end, more, has.2) in
    record {
      later = omega (arith, so_far.later, on);
      held = λ told. held_on c.args.format _ _ c.args.name.now c.args.self.now c.loop-next.self c.bring.new.self
          so_far.leaves.files (so_far.held told) (c.bring.ensures.held told);
      none = λ told file is whole held.
          let kept = held_on c.args.format _ _ c.args.name.now c.args.self.now c.loop-next.self c.bring.new.self
          so_far.leaves.files (so_far.held told) (c.bring.ensures.held told) in
          none_then c.args.format file c.args.from c.loop-next.next c.min-end.result
          (so_far.none told file is whole held)
          (c.in_default.ensures.found file whole
          (held_of_file c.args.format _ file c.args.self.now c.bring.new.self is kept held));
      leaves = only_reads-then _ _ _ _ so_far.leaves c.in_ok-bring.ensures.leaves;
      exact = λ less. reads_exact c.args.format _ _ _ c.args.from c.loop-next.next c.bring.new.self.first
          c.min-end.result c.args.records so_far.later more has.1 end (so_far.exact more) c.in_ok-bring.ensures.fresh
          c.bring.ensures.reads on less;
      reads = reads_some c.args.format _ _ c.args.from c.min-end.result
          (reads_within c.args.format _ _ _ c.args.from c.loop-next.next c.bring.new.self.first c.min-end.result
          c.args.records so_far.later more has.1 end (so_far.exact more) c.in_ok-bring.ensures.fresh
          c.bring.ensures.reads on);
      within = λ _. omega (arith, end);
      commits = g.S.Store.commits_on [] [] _ _ _ c.loop-next.invariant.commits c.in_ok-bring.ensures.commits;
    }
