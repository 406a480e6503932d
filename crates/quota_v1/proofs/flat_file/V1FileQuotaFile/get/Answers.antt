use Rattle.std.proofs.Common.{sym, ◌∙◌}
use Rattle.std.specs.String.{string_bytes}
use Rattle.quota_v1.proofs.LooksLemmas.{forgotten, looks_done, looks_failed, record_damage, record_fault}
use Rattle.quota_v1.proofs.flat_file.V1FileQuotaFile.get.Goals as goal

pub returns-in-Ok-clause-found : goal.returns-in-Ok-clause-found
returns-in-Ok-clause-found g c = λ value held.
    let did = rw c.as_str.ensures.value at c.in-Ok.ensures in
    did.found held.told held.file held.there (sym held.agrees.long) ∙ sym (held.stands.records c.args.id)

pub returns-in-Ok-clause-looks : goal.returns-in-Ok-clause-looks
returns-in-Ok-clause-looks g c =
    let did = rw c.as_str.ensures.value at c.in-Ok.ensures in
    looks_done _ _ _ _ c.args.self.now.opened c.args.self.now.format c.args.self.now.len c.args.self.now.times
    c.args.self.now.window c.forget.new.self
    (λ value held. forgotten c.args.self.now.format c.forget.new.self held.file c.forget.ensures) c.in-Ok.found 1
    did.leaves did.reads

pub returns-in-Err-clause-looks : goal.returns-in-Err-clause-looks
returns-in-Err-clause-looks g c =
    let S = g.S.Store in
    let was = c.args.self.now in
    let did = rw c.as_str.ensures.value at c.in-Err.ensures in
    looks_failed S.tells (S.seen c.args.store.now) (S.seen c.read_record.new.store) (string_bytes was.name) was.opened
    was.format was.len was.times was.window c.forget.new.self
    (λ value held. forgotten c.args.self.now.format c.forget.new.self held.file c.forget.ensures)
    c.refused_look_up.new.self c.in-Err.fault c.refused_look_up.result 1 c.refused_look_up.ensures.same
    did.leaves did.reads
    (record_fault S.tells (S.seen c.args.store.now) (S.seen c.read_record.new.store) (string_bytes was.name) was.format
    was.len was.times was.window c.in-Err.fault did.refused) did.may c.refused_look_up.ensures.counted

pub returns-in-Err-clause-damage : goal.returns-in-Err-clause-damage
returns-in-Err-clause-damage g c =
    let S = g.S.Store in
    let was = c.args.self.now in
    let did = rw c.as_str.ensures.value at c.in-Err.ensures in
    rw c.refused_look_up.ensures.same
    (record_damage S.tells (S.seen c.args.store.now) (S.seen c.read_record.new.store) (string_bytes was.name) was.format
    was.len was.times was.window c.in-Err.fault did.refused)
