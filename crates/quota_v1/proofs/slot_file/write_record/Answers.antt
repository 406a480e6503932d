use Rattle.std.proofs.Common.{◌≡◌, ◌≤◌, List, ℕ, length, take, length-take, arith, ◌∙◌}
use Rattle.outside.proofs.FrameLemmas.{only_reads-none}
use Rattle.file_blocks.specs.Block.{bytes_of}
use Rattle.opened_file.proofs.CommittedLemmas.{once_then}
use Rattle.quota_types.specs.Format.{record_size}
use Rattle.quota_v1.specs.Slot.{PutsRecord}
use Rattle.quota_v1.proofs.SlotLemmas.{made_overwritten, stored_part}
use Rattle.quota_v1.proofs.ChangedLemmas.{changes_file, puts_record}
use Rattle.quota_v1.proofs.PlaceLemmas.{some_time, times_fill}
use Rattle.quota_v1.proofs.slot_file.write_record.Goals as goal

pub returns : goal.returns
returns g c =
    let S = g.S.Store in
    let wrote = c.write_synced.ensures in
    let whole = c.record_bytes-bytes.ensures in
    let times = c.times_in-times.ensures in
    let format = c.args.format in
    let bytes : List ℕ = take c.record_size.result c.record_bytes-bytes.result in
    let fill = times_fill format c.requires.flat in
    let some = some_time format in
    let long : length bytes ≡ record_size format = omega
    (arith, length-take c.record_size.result c.record_bytes-bytes.result, c.record_size.ensures, whole.whole) in
    let few : length bytes ≤ 1024 = omega (arith, long, fill, some.1) in
    let some_bytes : 1 ≤ length bytes = omega (arith, long, fill) in
    let stored = stored_part format c.requires.flat c.record_size.result c.record_bytes-bytes.result
    c.record_size.ensures ∙ whole.stored in
    record {
      changes =
          changes_file S.tells _ c.args.name.now _ bytes c.write_synced.result (record {
            read = only_reads-none _ _;
            few = omega arith;
            written = wrote.written;
            synced = wrote.synced;
            torn = wrote.torn;
            cause = wrote.cause;
            leaves = wrote.leaves;
            writes = wrote.writes;
            rose = wrote.rose;
            some = some_bytes;
            fits = few;
            made = λ told.
                puts_record format c.requires.flat (bytes_of ((S.seen c.args.store.now).files c.args.name.now))
                c.args.id c.args.rec.now c.args.times c.times_in-times.result _ bytes
                c.record_start-at.ensures.place long stored c.requires.kept times.first times.other;
          });
      reads = wrote.leaves.reads;
      commits = once_then S.commits _ _ _ _ _ wrote.commits
          (λ written told. made_overwritten (PutsRecord format c.args.id c.args.rec.now c.args.times)
          (S.seen c.args.store.now).files (S.seen c.write_synced.new.store).files c.args.name.now _ bytes
          (written told) some_bytes few
          (puts_record format c.requires.flat (bytes_of ((S.seen c.args.store.now).files c.args.name.now)) c.args.id
          c.args.rec.now c.args.times c.times_in-times.result _ bytes
          c.record_start-at.ensures.place long stored c.requires.kept times.first times.other));
    }
