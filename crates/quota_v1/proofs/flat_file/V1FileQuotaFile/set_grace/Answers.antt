use Rattle.std.proofs.Common.{refl, arith}
use Rattle.opened_file.specs.FileChange.{SetGrace}
use Rattle.opened_file.proofs.CommittedLemmas.{once_then}
use Rattle.quota_v1.proofs.FlatChangesLemmas.{flat_done, flat_stands, flat_torn, grace_right, stays_done, stays_failed}
use Rattle.quota_v1.proofs.flat_file.V1FileQuotaFile.set_grace.Goals as goal

pub returns-in-Ok : goal.returns-in-Ok
returns-in-Ok g c =
    let S = g.S.Store in
    let was = c.args.self.now in
    let did = rw c.as_str.ensures.value at c.in-Ok.ensures in
    record {
      in_place = stays_done S.tells _ _ _ _ _ tt did.changes;
      changes =
          flat_done (SetGrace c.args.grace) S.tells _ _ _ _ was.opened was.format was.len c.max-self.result was.times
          c.args.grace was.window c.forget.new.self _ tt did.changes (λ value held. refl)
          (λ value held after graced.
          grace_right was.format was.flat c.args.grace was.len c.max-self.result was.times was.window c.forget.new.self
          held.file after c.requires.fits (omega (arith, c.max-self.ensures, c.record_size.ensures)) c.forget.ensures
          held.few held.stands.whole held.agrees graced);
      commits = once_then S.commits _ _ _ _ _ did.commits
          (flat_stands (SetGrace c.args.grace) S.tells _ (S.seen c.args.store.now) (S.seen c.write_grace.new.store) _
          was.opened was.format was.len c.max-self.result was.times c.args.grace was.window c.forget.new.self
          (λ value held after graced.
          grace_right was.format was.flat c.args.grace was.len c.max-self.result was.times was.window c.forget.new.self
          held.file after c.requires.fits (omega (arith, c.max-self.ensures, c.record_size.ensures)) c.forget.ensures
          held.few held.stands.whole held.agrees graced));
    }

pub returns-in-Err : goal.returns-in-Err
returns-in-Err g c =
    let S = g.S.Store in
    let was = c.args.self.now in
    let did = rw c.as_str.ensures.value at c.in-Err.ensures in
    record {
      in_place = stays_failed S.tells _ _ _ _ _ c.refused.result c.refused.ensures.same did.changes;
      changes =
          flat_torn (SetGrace c.args.grace) S.tells _ _ _ _ was.opened was.format was.len _ was.times c.args.grace
          was.window c.forget.new.self c.refused.new.self _ c.refused.result c.forget.new.self c.refused.ensures.same
          did.changes (λ value held. refl)
          (λ value held after graced.
          grace_right was.format was.flat c.args.grace was.len _ was.times was.window c.forget.new.self held.file after
          c.requires.fits refl c.forget.ensures held.few held.stands.whole held.agrees graced)
          c.refused.ensures.counted;
      commits = once_then S.commits _ _ _ _ _ did.commits
          (flat_stands (SetGrace c.args.grace) S.tells _ (S.seen c.args.store.now) (S.seen c.write_grace.new.store) _
          was.opened was.format was.len _ was.times c.args.grace was.window c.forget.new.self
          (λ value held after graced.
          grace_right was.format was.flat c.args.grace was.len _ was.times was.window c.forget.new.self held.file after
          c.requires.fits refl c.forget.ensures held.few held.stands.whole held.agrees graced));
    }
