use Rattle.std.proofs.Common.{List, ℕ, length, refl, arith}
use Rattle.file_blocks.specs.Block.{bytes_of}
use Rattle.quota_v1.proofs.PlaceLemmas.{cut_off, id_within, some_time, times_fill}
use Rattle.quota_v1.proofs.SlotLemmas.{record_read}
use Rattle.quota_v1.proofs.slot_file.read_record.Goals as goal

pub returns-clause-found : goal.returns-clause-found
returns-clause-found g c = λ told file is long.
    record_read c.args.format c.requires.flat _ file _ c.read_from.new.buf c.args.id c.record_at.result is
    (c.in-Ok.ensures.shown told) (omega (arith, c.record_start-at.ensures.place))
    (omega (arith, c.read_from.auto.buf, times_fill c.args.format c.requires.flat, some_time c.args.format))
    (omega (arith, c.if-len-at.false, c.record_start-at.ensures.place, c.record_size-size.ensures, long))
    c.record_at.ensures.value

pub record_at-requires-clause-small : goal.record_at-requires-clause-small
record_at-requires-clause-small g c =
    id_within c.args.format c.args.len c.args.id c.requires.limited
    (omega (arith, c.if-len-at.false, c.record_start-at.ensures.place, c.record_size-size.ensures))

pub returns-then-count-size-clause-refused : goal.returns-then-count-size-clause-refused
returns-then-count-size-clause-refused g c = λ told.
    let format = c.args.format in
    let file : List ℕ = bytes_of ((g.S.Store.seen c.args.store.now).files c.args.name.now) in
    let fill = times_fill format c.requires.flat in
    let some = some_time format in
    let count = c.in-Ok.ensures.count told in
    let place = c.record_start-at.ensures.place in
    let cut = cut_off format (length file) c.args.id (omega (arith, count, c.if-count-eq0.false, place)) (omega (
      arith,
      count,
      c.if-count-size.true,
      place,
      c.record_size-size.ensures,
      c.read_from.auto.buf,
      fill,
      some.1,
    )) in
    record { cut = cut.0; kind = refl; block = cut.1; id = refl }
