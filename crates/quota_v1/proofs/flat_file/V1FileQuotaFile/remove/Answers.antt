use Rattle.std.proofs.Common.{◌≡◌, None, inl, sym, subst, ◌∙◌, arith}
use Rattle.std.specs.String.{string_bytes}
use Rattle.opened_file.specs.FileChange.{Remove}
use Rattle.quota_v1.specs.FlatFile.{unless_zeros}
use Rattle.outside.specs.World.{World}
use Rattle.opened_file.proofs.CommittedLemmas.{once_behind}
use Rattle.quota_v1.specs.Slot.{MakesOne, PutsRecord}
use Rattle.quota_v1.proofs.ChangedLemmas.{changes_after_read}
use Rattle.quota_v1.proofs.FlatChangesLemmas.{flat_done, flat_stands, flat_torn, remove_right, stays_done, stays_failed}
use Rattle.quota_v1.proofs.LooksLemmas.{forgotten, removes_none, removes_refused}
use Rattle.quota_v1.proofs.MakesLemmas.{value_found}
use Rattle.quota_v1.proofs.flat_file.V1FileQuotaFile.remove.Goals as goal

pub returns-in-Ok-None-clause-changes : goal.returns-in-Ok-None-clause-changes
returns-in-Ok-None-clause-changes g c =
    let S = g.S.Store in
    let was = c.args.self.now in
    let did = rw c.as_str.ensures.value at c.in-Ok-None.ensures in
    removes_none S.tells (S.seen c.args.store.now) (S.seen c.read_record.new.store) (string_bytes was.name) was.opened
    was.format was.len was.times was.window c.forget.new.self
    (λ value held. forgotten was.format c.forget.new.self held.file c.forget.ensures) c.args.id tt did.leaves did.reads
    (λ told file is long. sym c.in-Ok-None.field-0-is ∙ did.found told file is long)

pub returns-in-Err-clause-changes : goal.returns-in-Err-clause-changes
returns-in-Err-clause-changes g c =
    let S = g.S.Store in
    let was = c.args.self.now in
    let did = rw c.as_str.ensures.value at c.in-Err.ensures in
    removes_refused S.tells (S.seen c.args.store.now) (S.seen c.read_record.new.store) (string_bytes was.name)
    was.opened c.refused.new.self was.format was.len was.times was.window c.forget.new.self c.args.id c.in-Err.fault
    c.refused.result
    (λ value held. forgotten was.format c.forget.new.self held.file c.forget.ensures) c.refused.ensures.same did.leaves
    did.reads did.refused did.may c.refused.ensures.counted

pub returns-in-Ok : goal.returns-in-Ok
returns-in-Ok g c =
    let S = g.S.Store in
    let was = c.args.self.now in
    let old = S.seen c.args.store.now in
    let new = S.seen c.write_record.new.store in
    let read = rw c.as_str.ensures.value at c.in-Ok-Some.ensures in
    let did = rw c.as_str-2.ensures.value at c.in-Ok.ensures in
    let zeros = c.default.ensures in
    let none : unless_zeros c.default.result ≡ None = rw (
      zeros.0,
      zeros.1.0,
      zeros.1.1.0,
      zeros.1.1.1.0,
      zeros.1.1.1.1.0,
      zeros.1.1.1.1.1.0,
      zeros.1.1.1.1.1.1.0,
      zeros.1.1.1.1.1.1.1,
    ) in
    let changes = changes_after_read S.tells (PutsRecord was.format c.args.id c.default.result was.times)
    (string_bytes was.name) old (S.seen c.read_record.new.store) new _ read.leaves read.reads
    (omega (arith, did.reads)) did.changes in
    record {
      in_place = stays_done S.tells _ (string_bytes was.name) old new _ tt changes;
      never_full = tt;
      changes =
          flat_done (Remove c.args.id) S.tells (PutsRecord was.format c.args.id c.default.result was.times) old new
          (string_bytes was.name) was.opened was.format was.len was.len was.times was.times was.window
          c.forget.new.self _ tt changes
          (λ value held. value_found was.format held.file value c.args.id c.in-Ok-Some.field-0-0
          (sym c.in-Ok-Some.field-0-is ∙ read.found held.told held.file held.there (sym held.agrees.long)) held.stands)
          (λ value held after puts.
          remove_right was.format was.flat c.args.id c.default.result c.in-Ok-Some.field-0-0 was.len was.times
          was.window c.forget.new.self held.file after none
          (sym c.in-Ok-Some.field-0-is ∙ read.found held.told held.file held.there (sym held.agrees.long))
          c.forget.ensures held.few held.stands.whole held.agrees puts);
      commits = once_behind S.commits S.commits_on _ _ _ _ _ _ read.commits did.commits
          (λ made. flat_stands (Remove c.args.id) S.tells (PutsRecord was.format c.args.id c.default.result was.times)
          old new (string_bytes was.name) was.opened was.format was.len was.len was.times was.times was.window
          c.forget.new.self
          (λ value held after puts.
          remove_right was.format was.flat c.args.id c.default.result c.in-Ok-Some.field-0-0 was.len was.times
          was.window c.forget.new.self held.file after none
          (sym c.in-Ok-Some.field-0-is ∙ read.found held.told held.file held.there (sym held.agrees.long))
          c.forget.ensures held.few held.stands.whole held.agrees puts)
          (λ told. subst (λ (files : World). MakesOne (PutsRecord was.format c.args.id c.default.result was.times)
          (string_bytes was.name) files new.files) read.leaves.files (made told)));
    }

pub returns-in-Err-write_record-clause-in_place : goal.returns-in-Err-write_record-clause-in_place
returns-in-Err-write_record-clause-in_place g c =
    let S = g.S.Store in
    let was = c.args.self.now in
    let old = S.seen c.args.store.now in
    let new = S.seen c.write_record.new.store in
    let read = rw c.as_str.ensures.value at c.in-Ok-Some.ensures in
    let did = rw c.as_str-2.ensures.value at c.in-Err-write_record.ensures in
    let changes = changes_after_read S.tells (PutsRecord was.format c.args.id c.default.result was.times)
    (string_bytes was.name) old (S.seen c.read_record.new.store) new _ read.leaves read.reads
    (omega (arith, did.reads)) did.changes in
    stays_failed S.tells _ (string_bytes was.name) old new _ c.refused-in-Err-write_record.result
    c.refused-in-Err-write_record.ensures.same changes

pub returns-in-Err-write_record-clause-changes : goal.returns-in-Err-write_record-clause-changes
returns-in-Err-write_record-clause-changes g c =
    let S = g.S.Store in
    let was = c.args.self.now in
    let old = S.seen c.args.store.now in
    let new = S.seen c.write_record.new.store in
    let read = rw c.as_str.ensures.value at c.in-Ok-Some.ensures in
    let did = rw c.as_str-2.ensures.value at c.in-Err-write_record.ensures in
    let zeros = c.default.ensures in
    let none : unless_zeros c.default.result ≡ None = rw (
      zeros.0,
      zeros.1.0,
      zeros.1.1.0,
      zeros.1.1.1.0,
      zeros.1.1.1.1.0,
      zeros.1.1.1.1.1.0,
      zeros.1.1.1.1.1.1.0,
      zeros.1.1.1.1.1.1.1,
    ) in
    let changes = changes_after_read S.tells (PutsRecord was.format c.args.id c.default.result was.times)
    (string_bytes was.name) old (S.seen c.read_record.new.store) new _ read.leaves read.reads
    (omega (arith, did.reads)) did.changes in
    flat_torn (Remove c.args.id) S.tells (PutsRecord was.format c.args.id c.default.result was.times) old new
    (string_bytes was.name) was.opened was.format was.len was.len was.times was.times was.window c.forget.new.self
    c.refused-in-Err-write_record.new.self _ c.refused-in-Err-write_record.result c.forget.new.self
    c.refused-in-Err-write_record.ensures.same changes
    (λ value held. value_found was.format held.file value c.args.id c.in-Ok-Some.field-0-0
    (sym c.in-Ok-Some.field-0-is ∙ read.found held.told held.file held.there (sym held.agrees.long)) held.stands)
    (λ value held after puts.
    remove_right was.format was.flat c.args.id c.default.result c.in-Ok-Some.field-0-0 was.len was.times was.window
    c.forget.new.self held.file after none
    (sym c.in-Ok-Some.field-0-is ∙ read.found held.told held.file held.there (sym held.agrees.long)) c.forget.ensures
    held.few held.stands.whole held.agrees puts)
    c.refused-in-Err-write_record.ensures.counted

pub returns-in-Err-write_record-clause-commits : goal.returns-in-Err-write_record-clause-commits
returns-in-Err-write_record-clause-commits g c =
    let S = g.S.Store in
    let was = c.args.self.now in
    let old = S.seen c.args.store.now in
    let new = S.seen c.write_record.new.store in
    let read = rw c.as_str.ensures.value at c.in-Ok-Some.ensures in
    let did = rw c.as_str-2.ensures.value at c.in-Err-write_record.ensures in
    let zeros = c.default.ensures in
    let none : unless_zeros c.default.result ≡ None = rw (
      zeros.0,
      zeros.1.0,
      zeros.1.1.0,
      zeros.1.1.1.0,
      zeros.1.1.1.1.0,
      zeros.1.1.1.1.1.0,
      zeros.1.1.1.1.1.1.0,
      zeros.1.1.1.1.1.1.1,
    ) in
    once_behind S.commits S.commits_on _ _ _ _ _ _ read.commits did.commits
    (λ made. flat_stands (Remove c.args.id) S.tells (PutsRecord was.format c.args.id c.default.result was.times) old new
    (string_bytes was.name) was.opened was.format was.len was.len was.times was.times was.window c.forget.new.self
    (λ value held after puts.
    remove_right was.format was.flat c.args.id c.default.result c.in-Ok-Some.field-0-0 was.len was.times was.window
    c.forget.new.self held.file after none
    (sym c.in-Ok-Some.field-0-is ∙ read.found held.told held.file held.there (sym held.agrees.long)) c.forget.ensures
    held.few held.stands.whole held.agrees puts)
    (λ told. subst (λ (files : World). MakesOne (PutsRecord was.format c.args.id c.default.result was.times)
    (string_bytes was.name) files new.files) read.leaves.files (made told)))

pub returns-in-Ok-None-clause-commits : goal.returns-in-Ok-None-clause-commits
returns-in-Ok-None-clause-commits g c = inl c.read_record.ensures.commits

pub returns-in-Err-clause-commits : goal.returns-in-Err-clause-commits
returns-in-Err-clause-commits g c = inl c.read_record.ensures.commits
