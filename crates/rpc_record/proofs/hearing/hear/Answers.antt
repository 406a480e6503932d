use Rattle.std.proofs.Common.{◌≡◌, ◌+◌, ◌-◌, ◌<◌, ℕ, List, [], length, take, drop, Ok, Err, Some, sym, ap, subst, ◌∙◌}
use Rattle.std.proofs.Common.{length-drop, arith}
use Rattle.std.proofs.lemmas.List.{take_all}
use Rattle.std.proofs.lemmas.Result.{err_from_is_err_and}
use Rattle.quota_map.specs.AnyFile.{any_get_reads}
use Rattle.rpc_marks.specs.Marker.{Takes}
use Rattle.rpc_marks.specs.declared.step.Step.{Step}
use Rattle.rpc_marks.specs.declared.step.Step.TheVariants.{TooLong, Whole}
use Rattle.rquota_serve.specs.Exports.{Serves}
use Rattle.rquota_serve.specs.Looking.{ExportsAt, exports_at}
use Rattle.rquota_serve.specs.Reply.{reply_of}
use Rattle.rquota_serve.proofs.ExportLemmas.{on-err}
use Rattle.rquota_serve.proofs.LookingLemmas.{looks_in-more}
use Rattle.rpc_record.specs.declared.heard.Heard.TheVariants.{WriteFault}
use Rattle.rpc_record.proofs.HearingLemmas.{long-piece, more-piece, of_passed, of_refused, stopped-piece, unsent-piece}
use Rattle.rpc_record.proofs.ServingLemmas.{changes-then, looks-err, looks-ok}
use Rattle.rpc_record.proofs.hearing.hear.Goals as goal

pub returns-in-TooLong-clause-heard : goal.returns-in-TooLong-clause-heard
returns-in-TooLong-clause-heard g c = λ told.
    let piece = c.args.piece.now in
    let at = c.loop-at.at in
    let count = c.feed-count.result.0 in
    let rest : take (length piece - at) (drop at piece) ≡ drop at piece =
    take_all (length piece - at) (drop at piece) (omega (arith, length-drop at piece)) in
    let takes : Takes (take count (drop at piece)) c.loop-at.marker c.feed-count.new.self TooLong =
    subst (λ (s : Step). Takes (take count (drop at piece)) c.loop-at.marker c.feed-count.new.self s) c.in-TooLong.is
    (subst (λ (l : List ℕ). Takes (take count l) c.loop-at.marker c.feed-count.new.self c.feed-count.result.1) rest
    c.feed-count.ensures.takes) in
    long-piece _ c.args.now piece at count c.args.marker.now c.loop-at.marker c.feed-count.new.self _ _
    (c.loop-at.invariant.heard told) takes

pub returns-in_err-reply-in-Whole-clause-stopped : goal.returns-in_err-reply-in-Whole-clause-stopped
returns-in_err-reply-in-Whole-clause-stopped g c =
    on-err _ c.from_residual.result (λ told.
    stopped-piece _ c.args.now c.args.piece.now c.loop-at.at c.args.marker.now c.loop-at.marker _ _
    (c.loop-at.invariant.heard told))

pub returns-in_err-reply-in-Whole-clause-looks : goal.returns-in_err-reply-in-Whole-clause-looks
returns-in_err-reply-in-Whole-clause-looks g c =
    let S = g.S.Store in
    let p = err_from_is_err_and c.from_residual.result c.from_residual.ensures.1 in
    let before : ExportsAt = exports_at S.tells (S.seen c.args.store.now) c.args.exports.now in
    let so_far : ExportsAt = exports_at S.tells (S.seen c.loop-at.store) c.loop-at.exports in
    let after : ExportsAt = exports_at S.tells (S.seen c.answer.new.store) c.answer.new.exports in
    rw (p.1, p.2)
    (looks_in-more Some Some before so_far after any_get_reads c.loop-at.at (length c.args.piece.now) (tt {0})
    (Err c.in_err-reply-in-Whole.field-0.0) (omega (arith, c.loop-at-test.true))
    c.loop-at.invariant.up
    (looks-err Some so_far after any_get_reads c.in_err-reply-in-Whole.field-0.0 c.in_err-reply-in-Whole.ensures.looks))

pub returns-then-is_err-clause-heard : goal.returns-then-is_err-clause-heard
returns-then-is_err-clause-heard g c = λ told.
    let S = g.S.Store in
    let C = g.C.Conns in
    let piece = c.args.piece.now in
    let at = c.loop-at.at in
    let count = c.feed-count.result.0 in
    let reply = c.in_ok-reply-in-Whole.reply in
    let rest : take (length piece - at) (drop at piece) ≡ drop at piece =
    take_all (length piece - at) (drop at piece) (omega (arith, length-drop at piece)) in
    let takes : Takes (take count (drop at piece)) c.loop-at.marker c.feed-count.new.self Whole =
    subst (λ (s : Step). Takes (take count (drop at piece)) c.loop-at.marker c.feed-count.new.self s) c.in-Whole.is
    (subst (λ (l : List ℕ). Takes (take count l) c.loop-at.marker c.feed-count.new.self c.feed-count.result.1) rest
    c.feed-count.ensures.takes) in
    unsent-piece (Serves S.tells (S.seen c.args.store.now).files c.args.exports.now) c.args.now piece at count
    c.args.marker.now c.loop-at.marker c.feed-count.new.self reply
    (C.seen c.args.conns.now).current (C.seen c.loop-at.conns).current (C.seen c.send.new.conns).current
    (c.loop-at.invariant.heard told) takes (c.feed-count.ensures.anew c.in-Whole.is)
    (λ exported is.
    c.in_ok-reply-in-Whole.ensures.reply exported (c.loop-at.invariant.up.stays exported is)
    ∙ ap (λ (b : List ℕ). reply_of exported b c.args.now) c.body.ensures)
    (of_refused _ c.send.result (sym c.is_err.ensures.value ∙ c.if-is_err.true) c.send.ensures.unsent told)

pub returns-then-is_err-clause-looks : goal.returns-then-is_err-clause-looks
returns-then-is_err-clause-looks g c =
    let S = g.S.Store in
    let before : ExportsAt = exports_at S.tells (S.seen c.args.store.now) c.args.exports.now in
    let so_far : ExportsAt = exports_at S.tells (S.seen c.loop-at.store) c.loop-at.exports in
    let after : ExportsAt = exports_at S.tells (S.seen c.answer.new.store) c.answer.new.exports in
    looks_in-more Some Some before so_far after any_get_reads c.loop-at.at (length c.args.piece.now) (tt {0})
    (Ok WriteFault) (omega (arith, c.loop-at-test.true))
    c.loop-at.invariant.up
    (looks-ok Some so_far after any_get_reads c.in_ok-reply-in-Whole.reply WriteFault
    c.in_ok-reply-in-Whole.ensures.looks)

pub loop-at-preserved : goal.loop-at-preserved
loop-at-preserved g c =
    let S = g.S.Store in
    let C = g.C.Conns in
    let piece = c.args.piece.now in
    let at = c.loop-at.at in
    let count = c.feed-count.result.0 in
    let reply = c.in_ok-reply-in-Whole.reply in
    let so_far = c.loop-at.invariant in
    let before : ExportsAt = exports_at S.tells (S.seen c.args.store.now) c.args.exports.now in
    let middle : ExportsAt = exports_at S.tells (S.seen c.loop-at.store) c.loop-at.exports in
    let after : ExportsAt = exports_at S.tells (S.seen c.answer.new.store) c.answer.new.exports in
    let rest : take (length piece - at) (drop at piece) ≡ drop at piece =
    take_all (length piece - at) (drop at piece) (omega (arith, length-drop at piece)) in
    let takes : Takes (take count (drop at piece)) c.loop-at.marker c.feed-count.new.self Whole =
    subst (λ (s : Step). Takes (take count (drop at piece)) c.loop-at.marker c.feed-count.new.self s) c.in-Whole.is
    (subst (λ (l : List ℕ). Takes (take count l) c.loop-at.marker c.feed-count.new.self c.feed-count.result.1) rest
    c.feed-count.ensures.takes) in
    let some : 0 < count =
    c.feed-count.ensures.some (omega (arith, c.loop-at-test.true, ap length rest, length-drop at piece)) in
    record {
      within = omega (arith, so_far.within, c.feed-count.ensures.within, ap length rest, length-drop at piece);
      heard = λ told.
          more-piece (Serves S.tells (S.seen c.args.store.now).files c.args.exports.now) c.args.now piece at count
          c.args.marker.now c.loop-at.marker c.feed-count.new.self reply
          (C.seen c.args.conns.now).current (C.seen c.loop-at.conns).current (C.seen c.send.new.conns).current
          (so_far.heard told) takes (c.feed-count.ensures.anew c.in-Whole.is)
          (λ exported is.
          c.in_ok-reply-in-Whole.ensures.reply exported (so_far.up.stays exported is)
          ∙ ap (λ (b : List ℕ). reply_of exported b c.args.now) c.body.ensures)
          (of_passed _ c.send.result (sym c.is_err.ensures.value ∙ c.if-is_err.false) c.send.ensures.sent told);
      up =
          looks_in-more Some Some before middle after any_get_reads at (at + count) (tt {0}) (Ok (tt {0}))
          (omega (arith, some)) so_far.up
          (looks-ok Some middle after any_get_reads reply (tt {0}) c.in_ok-reply-in-Whole.ensures.looks);
      changes = changes-then _ _ _ so_far.changes c.send.ensures.leaves;
      as_before = c.send.ensures.open_as_before ∙ so_far.as_before;
      commits = S.commits_on [] [] _ _ _ so_far.commits c.in_ok-reply-in-Whole.ensures.commits;
    }
