use Rattle.std.proofs.Common.{◌≡◌, ◌*◌, ◌≤◌, [], IsTrue, Ok}
use Rattle.quota_map.specs.AnyFile.{any_get_reads}
use Rattle.rquota_serve.specs.Exports.{Serves}
use Rattle.rquota_serve.specs.Looking.{LooksUpIn, exports_at}
use Rattle.rquota_serve.specs.Refusal.{file_in}
use Rattle.rquota_serve.specs.Served.{ReadsForTaken, Served}
use Rattle.rquota_serve.proofs.serving.serve.Given as goal

abbrev pub invariant-loop-call : goal.invariant-loop-call
invariant-loop-call g l =
    let S = g.S.Store in
    let L = g.L.Link in
    record {
      served : IsTrue L.tells
          → Served (Serves S.tells (S.seen l.fn.store).files l.fn.exports) l._call (L.seen l.fn.link) (L.seen l.link);
      up : LooksUpIn file_in (exports_at S.tells (S.seen l.fn.store) l.fn.exports)
          (exports_at S.tells (S.seen l.store) l.exports) (any_get_reads * l._call) (Ok (tt {0}));
      reads : IsTrue L.tells
          → ReadsForTaken any_get_reads (L.seen l.fn.link) (L.seen l.link) (S.seen l.fn.store).reads
          (S.seen l.store).reads;
      started : (L.seen l.link).started ≡ (L.seen l.fn.link).started;
      later : (L.seen l.fn.link).faults ≤ (L.seen l.link).faults;
      commits : S.commits [] l.fn.store l.store;
    }
