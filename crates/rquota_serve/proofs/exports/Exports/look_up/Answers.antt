use Rattle.std.proofs.Common.{◌≡◌, Some, refl}
use Rattle.std.specs.List.{slice_get}
use Rattle.std.specs.Vec.{with_item}
use Rattle.std.proofs.lemmas.Result.{err_from_is_err_and}
use Rattle.outside.proofs.FrameLemmas.{syncs-read}
use Rattle.rquota_serve.specs.Exports.{kept_in}
use Rattle.rquota_serve.specs.declared.exports.Exports.{Exports}
use Rattle.rquota_serve.proofs.ExportLemmas.{counts-set, found-at, item-at, looks-at, may-at, refused-at, same-set}
use Rattle.rquota_serve.proofs.ExportLemmas.{serves-set}
use Rattle.rquota_serve.proofs.exports.Exports.look_up.Goals as goal

-- what is kept at the place
at_err : (g : _) (c : goal.After-from_residual g)
    → slice_get (kept_in c.args.self.now) c.in-Some.place ≡ Some c.index_mut.result.now
at_err g c =
    item-at c.args.self.now c.in-Some.place c.in-Some.ensures.found.0 c.index_mut.result.now c.in-Some.ensures.found.1
    c.index_mut.ensures.value

at_ok : (g : _) (c : goal.In_ok-rec g)
    → slice_get (kept_in c.args.self.now) c.in-Some.place ≡ Some c.index_mut.result.now
at_ok g c =
    item-at c.args.self.now c.in-Some.place c.in-Some.ensures.found.0 c.index_mut.result.now c.in-Some.ensures.found.1
    c.index_mut.ensures.value

pub returns-in_err-rec-clause-looks : goal.returns-in_err-rec-clause-looks
returns-in_err-rec-clause-looks g c =
    let S = g.S.Store in
    let one = c.in_err-rec.ensures in
    let now : Exports = record { list = with_item c.args.self.now.list c.in-Some.place c.record_of.new.self } in
    let p = err_from_is_err_and c.from_residual.result c.from_residual.ensures.1 in
    rw (p.1, p.2) (record {
      refused = refused-at S.tells (S.seen c.args.store.now).faults (S.seen c.record_of.new.store).faults
          (S.seen c.args.store.now).files c.args.self.now c.in-Some.place c.index_mut.result.now c.in_err-rec.field-0.0
          (at_err g c) one.looks.refused;
      may = may-at c.args.self.now c.in-Some.place c.index_mut.result.now c.in_err-rec.field-0.0
          (at_err g c) one.looks.may;
      stays = λ exported serves.
          serves-set S.tells (S.seen c.args.store.now).files (S.seen c.record_of.new.store).files c.args.self.now now
          exported c.in-Some.place c.index_mut.result.now c.record_of.new.self
          (at_err g c) refl one.looks.leaves.files one.path one.kind one.looks.stays serves;
      leaves = looks-at c.args.self.now c.in-Some.place c.index_mut.result.now (S.seen c.args.store.now)
          (S.seen c.record_of.new.store) (at_err g c) one.looks.leaves;
      synced = syncs-read _ _ _ one.looks.leaves;
      same = tt;
      counted = counts-set c.args.self.now now c.in-Some.place c.index_mut.result.now c.record_of.new.self (at_err g c)
          refl one.looks.counted one.path one.kind;
      reads = one.looks.reads;
    })

pub returns-clause-found : goal.returns-clause-found
returns-clause-found g c = λ exported serves.
    let S = g.S.Store in
    found-at S.tells (S.seen c.args.store.now).files c.args.self.now exported c.in-Some.place c.in-Some.ensures.found.0
    c.index_mut.result.now c.args.path.now c.args.kind c.args.id c.in_ok-rec.rec
    c.in-Some.ensures.found.1 c.in-Some.ensures.found.2 (at_ok g c) c.in_ok-rec.ensures.found serves

pub returns-clause-looks : goal.returns-clause-looks
returns-clause-looks g c =
    let S = g.S.Store in
    let one = c.in_ok-rec.ensures in
    let now : Exports = record { list = with_item c.args.self.now.list c.in-Some.place c.record_of.new.self } in
    record {
      refused = tt;
      may = tt;
      stays = λ exported serves.
          serves-set S.tells (S.seen c.args.store.now).files (S.seen c.record_of.new.store).files c.args.self.now now
          exported c.in-Some.place c.index_mut.result.now c.record_of.new.self
          (at_ok g c) refl one.looks.leaves.files one.path one.kind one.looks.stays serves;
      leaves = looks-at c.args.self.now c.in-Some.place c.index_mut.result.now (S.seen c.args.store.now)
          (S.seen c.record_of.new.store) (at_ok g c) one.looks.leaves;
      synced = syncs-read _ _ _ one.looks.leaves;
      same = same-set c.args.self.now now c.in-Some.place c.index_mut.result.now c.record_of.new.self (at_ok g c) refl
          one.looks.same one.path one.kind;
      counted = tt;
      reads = one.looks.reads;
    }
