use Rattle.std.proofs.Common.{◌≡◌, ◌+◌, ◌-◌, ◌*◌, ℕ, [], length, take, Ok, Err, Some, refl, subst, ◌∙◌, arith}
use Rattle.std.proofs.lemmas.Result.{err_from_is_err_and}
use Rattle.network.specs.Connections.{with_failed_write, with_written}
use Rattle.quota_map.specs.AnyFile.{any_get_reads}
use Rattle.rquota_serve.specs.ExportedValues.{ExportedValues}
use Rattle.rquota_serve.specs.Exports.{Serves}
use Rattle.rquota_serve.specs.Looking.{ExportsAt, exports_at}
use Rattle.rquota_serve.proofs.ExportLemmas.{on-err}
use Rattle.rquota_serve.proofs.LookingLemmas.{looks_in-none, looks_in-then}
use Rattle.rpc_record.specs.Hearing.{IsHeard, awaited_at, nothing_awaited}
use Rattle.rpc_record.specs.Serving.{connection_reads}
use Rattle.rpc_record.specs.declared.heard.Heard.{Heard}
use Rattle.rpc_record.proofs.ConnectionLemmas.{IsHearing, begun-part, hearing-more, hearing-start, served-end}
use Rattle.rpc_record.proofs.ConnectionLemmas.{served-full, served-long, served-unread, served-unwritten}
use Rattle.rpc_record.proofs.HearingLemmas.{answers-before, in_part-before}
use Rattle.rpc_record.proofs.ServingLemmas.{changes-none, changes-then, looks-err, looks-ok, looks-within, reads-both}
use Rattle.rpc_record.proofs.connection.serve_connection.Goals as goal

pub loop-left-init : goal.loop-left-init
loop-left-init g c =
    let C = g.C.Conns in
    record {
      within = omega arith;
      hearing = λ told arrival came is. hearing-start _ c.args.now arrival c.new-marker.result
          (C.seen c.args.conns.now).current c.new-marker.ensures is;
      up = looks_in-none Some _ _ (tt {0});
      changes = changes-none _;
      as_before = refl;
      commits = g.S.Store.commits_nothing [] _;
    }

pub returns-in_default-clause-served : goal.returns-in_default-clause-served
returns-in_default-clause-served g c = λ told arrival came is.
    let C = g.C.Conns in
    served-unread _ c.args.now arrival c.loop-left.marker c.loop-left.left (C.seen c.loop-left.conns).current
    (C.seen c.read_piece.new.conns).current came
    (c.loop-left.invariant.hearing told arrival came is) (c.in_default.ensures.fault told)

pub returns-then-count-eq0-clause-served : goal.returns-then-count-eq0-clause-served
returns-then-count-eq0-clause-served g c = λ told arrival came is.
    let C = g.C.Conns in
    served-end _ c.args.now arrival c.loop-left.marker c.loop-left.left (take c.in-Ok.count c.read_piece.new.buf)
    (C.seen c.loop-left.conns).current (C.seen c.read_piece.new.conns).current came
    (c.loop-left.invariant.hearing told arrival came is) (c.in-Ok.ensures.taken told)
    (c.in-Ok.ensures.end told c.if-count-eq0.true)

pub returns-in_err-hear-clause-stopped : goal.returns-in_err-hear-clause-stopped
returns-in_err-hear-clause-stopped g c =
    let S = g.S.Store in
    let C = g.C.Conns in
    let piece = take c.in-Ok.count c.read_piece.new.buf in
    let before : ExportedValues → Type 0 = Serves S.tells (S.seen c.args.store.now).files c.args.exports.now in
    let behind : ExportedValues → Type 0 = Serves S.tells (S.seen c.loop-left.store).files c.loop-left.exports in
    on-err _ c.from_residual.result (λ told arrival came is.
    begun-part before c.args.now arrival c.loop-left.marker c.loop-left.left piece (C.seen c.loop-left.conns).current
    (C.seen c.read_piece.new.conns).current (C.seen c.hear.new.conns).current came
    (omega (arith, c.in-Ok.ensures.size, c.in-Ok.ensures.within)) (c.loop-left.invariant.hearing told arrival came is)
    (c.in-Ok.ensures.taken told)
    (in_part-before with_written before behind piece (awaited_at c.args.now c.loop-left.marker) _ _
    c.loop-left.invariant.up.stays (c.in_err-hear.ensures.stopped told)))

pub returns-in_err-hear-clause-looks : goal.returns-in_err-hear-clause-looks
returns-in_err-hear-clause-looks g c =
    let S = g.S.Store in
    let p = err_from_is_err_and c.from_residual.result c.from_residual.ensures.1 in
    let piece = take c.in-Ok.count c.read_piece.new.buf in
    let before : ExportsAt = exports_at S.tells (S.seen c.args.store.now) c.args.exports.now in
    let so_far : ExportsAt = exports_at S.tells (S.seen c.loop-left.store) c.loop-left.exports in
    let after : ExportsAt = exports_at S.tells (S.seen c.hear.new.store) c.hear.new.exports in
    let heard = 16777216 - c.loop-left.left in
    rw (p.1, p.2)
    (looks-within Some before after (any_get_reads * heard + any_get_reads * length piece) connection_reads
    (Err c.in_err-hear.field-0.0)
    (reads-both any_get_reads heard (length piece) 16777216 (omega (
      arith,
      c.loop-left.invariant.within,
      c.in-Ok.ensures.size,
      c.in-Ok.ensures.within,
    )))
    (looks_in-then Some Some before so_far after (any_get_reads * heard) (any_get_reads * length piece) (tt {0})
    (Err c.in_err-hear.field-0.0) c.loop-left.invariant.up
    (looks-err Some so_far after (any_get_reads * length piece) c.in_err-hear.field-0.0 c.in_err-hear.ensures.looks)))

pub returns-clause-served : goal.returns-clause-served
returns-clause-served g c = λ told arrival came is.
    let C = g.C.Conns in
    served-full _ c.args.now arrival c.loop-left.marker c.loop-left.left (C.seen c.loop-left.conns).current came
    c.loop-left-test.false (c.loop-left.invariant.hearing told arrival came is)

pub returns-in-TooLong-clause-served : goal.returns-in-TooLong-clause-served
returns-in-TooLong-clause-served g c = λ told arrival came is.
    let S = g.S.Store in
    let C = g.C.Conns in
    let piece = take c.in-Ok.count c.read_piece.new.buf in
    let before : ExportedValues → Type 0 = Serves S.tells (S.seen c.args.store.now).files c.args.exports.now in
    let behind : ExportedValues → Type 0 = Serves S.tells (S.seen c.loop-left.store).files c.loop-left.exports in
    let awaited = awaited_at c.args.now c.loop-left.marker in
    let heard = subst
    (λ (h : Heard). IsHeard behind piece awaited (awaited_at c.args.now c.hear.new.marker)
    (C.seen c.read_piece.new.conns).current (C.seen c.hear.new.conns).current h)
    c.in-TooLong.is (c.in_ok-hear.ensures.heard told) in
    served-long before c.args.now arrival c.loop-left.marker c.loop-left.left piece (C.seen c.loop-left.conns).current
    (C.seen c.read_piece.new.conns).current (C.seen c.hear.new.conns).current came
    (omega (arith, c.in-Ok.ensures.size, c.in-Ok.ensures.within)) (c.loop-left.invariant.hearing told arrival came is)
    (c.in-Ok.ensures.taken told)
    (answers-before before behind piece awaited nothing_awaited _ _ c.loop-left.invariant.up.stays heard)

pub returns-in-WriteFault-clause-served : goal.returns-in-WriteFault-clause-served
returns-in-WriteFault-clause-served g c = λ told arrival came is.
    let S = g.S.Store in
    let C = g.C.Conns in
    let piece = take c.in-Ok.count c.read_piece.new.buf in
    let before : ExportedValues → Type 0 = Serves S.tells (S.seen c.args.store.now).files c.args.exports.now in
    let behind : ExportedValues → Type 0 = Serves S.tells (S.seen c.loop-left.store).files c.loop-left.exports in
    let awaited = awaited_at c.args.now c.loop-left.marker in
    let part = subst
    (λ (h : Heard). IsHeard behind piece awaited (awaited_at c.args.now c.hear.new.marker)
    (C.seen c.read_piece.new.conns).current (C.seen c.hear.new.conns).current h)
    c.in-WriteFault.is (c.in_ok-hear.ensures.heard told) in
    served-unwritten before c.args.now arrival c.loop-left.marker c.loop-left.left piece
    (C.seen c.loop-left.conns).current (C.seen c.read_piece.new.conns).current (C.seen c.hear.new.conns).current came
    (omega (arith, c.in-Ok.ensures.size, c.in-Ok.ensures.within)) (c.loop-left.invariant.hearing told arrival came is)
    (c.in-Ok.ensures.taken told)
    (in_part-before with_failed_write before behind piece awaited _ _ c.loop-left.invariant.up.stays part)

pub loop-left-preserved : goal.loop-left-preserved
loop-left-preserved g c =
    let S = g.S.Store in
    let C = g.C.Conns in
    let so_far = c.loop-left.invariant in
    let piece = take c.in-Ok.count c.read_piece.new.buf in
    let size : length piece ≡ c.in-Ok.count = c.in-Ok.ensures.size in
    let before : ExportedValues → Type 0 = Serves S.tells (S.seen c.args.store.now).files c.args.exports.now in
    let behind : ExportedValues → Type 0 = Serves S.tells (S.seen c.loop-left.store).files c.loop-left.exports in
    let awaited = awaited_at c.args.now c.loop-left.marker in
    let next = awaited_at c.args.now c.hear.new.marker in
    let from : ExportsAt = exports_at S.tells (S.seen c.args.store.now) c.args.exports.now in
    let mid : ExportsAt = exports_at S.tells (S.seen c.loop-left.store) c.loop-left.exports in
    let after : ExportsAt = exports_at S.tells (S.seen c.hear.new.store) c.hear.new.exports in
    let taken = 16777216 - c.loop-left.left in
    record {
      within = omega (arith, so_far.within);
      hearing = λ told arrival came is.
          let heard = subst
          (λ (h : Heard).
          IsHeard behind piece awaited next (C.seen c.read_piece.new.conns).current (C.seen c.hear.new.conns).current h)
          c.in-GoesOn.is (c.in_ok-hear.ensures.heard told) in
          subst (λ (n : ℕ). IsHearing before c.args.now arrival c.hear.new.marker (c.loop-left.left - n)
          (C.seen c.hear.new.conns).current) size
          (hearing-more before c.args.now arrival c.loop-left.marker c.hear.new.marker c.loop-left.left piece
          (C.seen c.loop-left.conns).current (C.seen c.read_piece.new.conns).current (C.seen c.hear.new.conns).current
          (omega (arith, size, c.in-Ok.ensures.within)) (so_far.hearing told arrival came is)
          (c.in-Ok.ensures.taken told)
          (answers-before before behind piece awaited next _ _ so_far.up.stays heard));
      up = looks-ok Some from after (any_get_reads * (16777216 - (c.loop-left.left - c.in-Ok.count))) _ (tt {0})
          (looks-within Some from after (any_get_reads * taken + any_get_reads * length piece)
          (any_get_reads * (16777216 - (c.loop-left.left - c.in-Ok.count))) _
          (reads-both any_get_reads taken (length piece) (16777216 - (c.loop-left.left - c.in-Ok.count)) (omega (
            arith,
            so_far.within,
            size,
            c.in-Ok.ensures.within,
          )))
          (looks_in-then Some Some from mid after (any_get_reads * taken) (any_get_reads * length piece) (tt {0}) _
          so_far.up c.in_ok-hear.ensures.looks));
      changes =
          changes-then _ _ _ (changes-then _ _ _ so_far.changes c.read_piece.ensures.leaves) c.hear.ensures.leaves;
      as_before = c.hear.ensures.open_as_before ∙ c.read_piece.ensures.open_as_before ∙ so_far.as_before;
      commits = S.commits_on [] [] _ _ _ so_far.commits c.hear.ensures.commits;
    }

pub returns-in-TooLong-clause-looks : goal.returns-in-TooLong-clause-looks
returns-in-TooLong-clause-looks g c =
    let S = g.S.Store in
    let piece = take c.in-Ok.count c.read_piece.new.buf in
    let before : ExportsAt = exports_at S.tells (S.seen c.args.store.now) c.args.exports.now in
    let so_far : ExportsAt = exports_at S.tells (S.seen c.loop-left.store) c.loop-left.exports in
    let after : ExportsAt = exports_at S.tells (S.seen c.hear.new.store) c.hear.new.exports in
    let heard = 16777216 - c.loop-left.left in
    looks-ok Some before after connection_reads c.in_ok-hear.field-0 (tt {0})
    (looks-within Some before after (any_get_reads * heard + any_get_reads * length piece) connection_reads
    (Ok c.in_ok-hear.field-0)
    (reads-both any_get_reads heard (length piece) 16777216 (omega (
      arith,
      c.loop-left.invariant.within,
      c.in-Ok.ensures.size,
      c.in-Ok.ensures.within,
    )))
    (looks_in-then Some Some before so_far after (any_get_reads * heard) (any_get_reads * length piece) (tt {0})
    (Ok c.in_ok-hear.field-0) c.loop-left.invariant.up c.in_ok-hear.ensures.looks))

pub returns-in-WriteFault-clause-looks : goal.returns-in-WriteFault-clause-looks
returns-in-WriteFault-clause-looks g c =
    let S = g.S.Store in
    let piece = take c.in-Ok.count c.read_piece.new.buf in
    let before : ExportsAt = exports_at S.tells (S.seen c.args.store.now) c.args.exports.now in
    let so_far : ExportsAt = exports_at S.tells (S.seen c.loop-left.store) c.loop-left.exports in
    let after : ExportsAt = exports_at S.tells (S.seen c.hear.new.store) c.hear.new.exports in
    let heard = 16777216 - c.loop-left.left in
    looks-ok Some before after connection_reads c.in_ok-hear.field-0 (tt {0})
    (looks-within Some before after (any_get_reads * heard + any_get_reads * length piece) connection_reads
    (Ok c.in_ok-hear.field-0)
    (reads-both any_get_reads heard (length piece) 16777216 (omega (
      arith,
      c.loop-left.invariant.within,
      c.in-Ok.ensures.size,
      c.in-Ok.ensures.within,
    )))
    (looks_in-then Some Some before so_far after (any_get_reads * heard) (any_get_reads * length piece) (tt {0})
    (Ok c.in_ok-hear.field-0) c.loop-left.invariant.up c.in_ok-hear.ensures.looks))
