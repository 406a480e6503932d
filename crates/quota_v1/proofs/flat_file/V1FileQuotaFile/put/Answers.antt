use Rattle.std.proofs.Common.{refl, arith}
use Rattle.opened_file.specs.FileChange.{Put}
use Rattle.opened_file.proofs.CommittedLemmas.{once_then}
use Rattle.quota_v1.proofs.FlatChangesLemmas.{flat_done, flat_stands, flat_torn, put_right, stays_done, stays_failed}
use Rattle.quota_v1.proofs.PlaceLemmas.{end_within, id_fits, start_of_next, whole_with}
use Rattle.quota_v1.proofs.flat_file.V1FileQuotaFile.put.Goals as goal

pub invariant_of-self-clause-whole : goal.invariant_of-self-clause-whole
invariant_of-self-clause-whole g c =
    let was = c.args.self.now in
    whole_with was.format was.len _ c.args.id was.whole
    (omega (arith, c.max-self.ensures, c.record_start-end.ensures.place, start_of_next was.format c.args.id))

pub invariant_of-self-clause-limited : goal.invariant_of-self-clause-limited
invariant_of-self-clause-limited g c =
    let was = c.args.self.now in
    omega (
      arith,
      c.max-self.ensures,
      c.record_start-end.ensures.place,
      start_of_next was.format c.args.id,
      was.limited,
      end_within was.format c.args.id (id_fits was.format was.flat c.args.id c.args.rec c.requires.kept.fits),
    )

pub returns-in-Ok : goal.returns-in-Ok
returns-in-Ok g c =
    let S = g.S.Store in
    let was = c.args.self.now in
    let did = rw c.as_str.ensures.value at c.in-Ok.ensures in
    record {
      in_place = stays_done S.tells _ _ _ _ _ tt did.changes;
      changes =
          flat_done (Put c.args.id c.args.rec) S.tells _ _ _ _ was.opened was.format was.len c.max-self.result was.times
          was.times was.window c.forget.new.self _ tt did.changes (λ value held. refl)
          (λ value held after puts.
          put_right was.format was.flat c.args.id c.args.rec was.len c.max-self.result was.times was.window
          c.forget.new.self held.file after c.requires.kept c.requires.not_null
          (omega (arith, c.max-self.ensures, c.record_start-end.ensures.place)) c.forget.ensures held.few
          held.stands.whole held.agrees puts);
      commits = once_then S.commits _ _ _ _ _ did.commits
          (flat_stands (Put c.args.id c.args.rec) S.tells _ (S.seen c.args.store.now) (S.seen c.write_record.new.store)
          _ was.opened was.format was.len c.max-self.result was.times was.times was.window c.forget.new.self
          (λ value held after puts.
          put_right was.format was.flat c.args.id c.args.rec was.len c.max-self.result was.times was.window
          c.forget.new.self held.file after c.requires.kept c.requires.not_null
          (omega (arith, c.max-self.ensures, c.record_start-end.ensures.place)) c.forget.ensures held.few
          held.stands.whole held.agrees puts));
    }

pub returns-in-Err : goal.returns-in-Err
returns-in-Err g c =
    let S = g.S.Store in
    let was = c.args.self.now in
    let did = rw c.as_str.ensures.value at c.in-Err.ensures in
    record {
      in_place = stays_failed S.tells _ _ _ _ _ c.refused.result c.refused.ensures.same did.changes;
      changes =
          flat_torn (Put c.args.id c.args.rec) S.tells _ _ _ _ was.opened was.format was.len _ was.times was.times
          was.window c.forget.new.self c.refused.new.self _ c.refused.result c.forget.new.self c.refused.ensures.same
          did.changes (λ value held. refl)
          (λ value held after puts.
          put_right was.format was.flat c.args.id c.args.rec was.len _ was.times was.window c.forget.new.self held.file
          after c.requires.kept c.requires.not_null refl c.forget.ensures held.few held.stands.whole held.agrees puts)
          c.refused.ensures.counted;
      commits = once_then S.commits _ _ _ _ _ did.commits
          (flat_stands (Put c.args.id c.args.rec) S.tells _ (S.seen c.args.store.now) (S.seen c.write_record.new.store)
          _ was.opened was.format was.len _ was.times was.times was.window c.forget.new.self
          (λ value held after puts.
          put_right was.format was.flat c.args.id c.args.rec was.len _ was.times was.window c.forget.new.self held.file
          after c.requires.kept c.requires.not_null refl c.forget.ensures held.few held.stands.whole held.agrees puts));
    }
