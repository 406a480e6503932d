use Rattle.std.proofs.Common.{◌≡◌, ◌≤◌, List, ℕ, length, take, length-take, ap, ◌∙◌, arith}
use Rattle.file_blocks.specs.Block.{bytes_of}
use Rattle.opened_file.proofs.CommittedLemmas.{once_behind}
use Rattle.outside.specs.World.{World, with_bytes}
use Rattle.quota_v1.specs.Change.{FlatGraced}
use Rattle.quota_v1.proofs.SlotLemmas.{made_overwritten}
use Rattle.quota_v1.proofs.ChangedLemmas.{changes_file, puts_part}
use Rattle.quota_v1.proofs.PlaceLemmas.{grace_room, some_time, times_fill}
use Rattle.quota_v1.proofs.slot_file.write_grace.Goals as goal

pub write_times-requires-clause-block : goal.write_times-requires-clause-block
write_times-requires-clause-block g c = (grace_room c.args.format c.requires.flat c.args.grace c.requires.fits).block

pub write_times-requires-clause-inode : goal.write_times-requires-clause-inode
write_times-requires-clause-inode g c = (grace_room c.args.format c.requires.flat c.args.grace c.requires.fits).inode

pub returns : goal.returns
returns g c =
    let S = g.S.Store in
    let wrote = c.write_synced.ensures in
    let read = c.in_ok-read_from.ensures in
    let times = c.write_times.ensures in
    let format = c.args.format in
    let size : ℕ = c.record_size.result in
    let bytes : List ℕ = take size c.write_times.new.bytes in
    let fill = times_fill format c.requires.flat in
    let some = some_time format in
    let room : size ≤ length c.write_times.new.bytes =
    omega (arith, c.write_times.auto.bytes, c.read_from.auto.buf, c.record_size.ensures, fill, some.1) in
    let shown : size ≤ length c.read_from.new.buf =
    omega (arith, c.read_from.auto.buf, c.record_size.ensures, fill, some.1) in
    let long : length bytes ≡ size = omega (arith, length-take size c.write_times.new.bytes, room) in
    let few : length bytes ≤ 1024 = omega (arith, long, c.record_size.ensures, fill, some.1) in
    let some_bytes : 1 ≤ length bytes = omega (arith, long, c.record_size.ensures, fill) in
    record {
      changes =
          changes_file S.tells _ c.args.name.now 0 bytes c.write_synced.result (record {
            read = read.leaves;
            few = omega (arith, read.reads);
            written = wrote.written;
            synced = wrote.synced;
            torn = wrote.torn;
            cause = wrote.cause;
            leaves = wrote.leaves;
            writes = wrote.writes;
            rose = wrote.rose;
            some = some_bytes;
            fits = few;
            made = λ told.
                puts_part format c.requires.flat (bytes_of ((S.seen c.args.store.now).files c.args.name.now))
                c.args.grace c.read_from.new.buf c.write_times.new.bytes size c.record_size.ensures
                (read.shown told) shown room times.kept times.block times.inode;
          });
      commits = once_behind S.commits S.commits_on _ _ _ _ _ _ c.read_from.ensures.commits wrote.commits
          (λ written told. made_overwritten (FlatGraced format c.args.grace) (S.seen c.args.store.now).files
          (S.seen c.write_synced.new.store).files c.args.name.now 0 bytes
          (written told ∙ ap (λ (files : World). with_bytes files c.args.name.now 0 bytes) read.leaves.files)
          some_bytes few
          (puts_part format c.requires.flat (bytes_of ((S.seen c.args.store.now).files c.args.name.now)) c.args.grace
          c.read_from.new.buf c.write_times.new.bytes size c.record_size.ensures
          (read.shown told) shown room times.kept times.block times.inode));
    }
