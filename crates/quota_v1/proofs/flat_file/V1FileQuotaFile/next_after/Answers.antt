use Rattle.std.proofs.Common.{ℕ, ◌/◌, ap, ◌∙◌, arith}
use Rattle.quota_types.specs.Format.{record_size}
use Rattle.quota_v1.proofs.FlatLemmas.{next_of_first}
use Rattle.quota_v1.proofs.LooksLemmas.{looks_done, looks_failed}
use Rattle.quota_v1.proofs.PassingLemmas.{of_named, passed_found, passed_refused}
use Rattle.quota_v1.proofs.WindowLemmas.{held_of_file, reads_most}
use Rattle.quota_v1.proofs.flat_file.V1FileQuotaFile.next_after.Goals as goal

pub returns-in-Ok-clause-found : goal.returns-in-Ok-clause-found
returns-in-Ok-clause-found g c = λ value held.
    let did = rw c.as_str.ensures.value at c.in-Ok.ensures in
    next_of_first c.args.self.now.format held.file c.args.after c.first_after-from.result _ c.in-Ok.found value
    held.stands (c.records_in-records.ensures.value
    ∙ ap (λ (n : ℕ). n / record_size c.args.self.now.format) held.agrees.long) c.first_after-from.ensures.first
    c.first_after-from.ensures.comes_after
    (did.found held.told held.file held.there held.stands.whole held.agrees.next)

pub returns-in-Ok-clause-looks : goal.returns-in-Ok-clause-looks
returns-in-Ok-clause-looks g c =
    let did = rw c.as_str.ensures.value at c.in-Ok.ensures in
    looks_done _ _ _ _ c.args.self.now.opened c.args.self.now.format c.args.self.now.len c.args.self.now.times
    c.args.self.now.window c.first_from.new.self
    (λ value held. held_of_file c.args.self.now.format _ held.file c.args.self.now.window c.first_from.new.self
    held.there (did.held held.told) held.agrees.next) c.in-Ok.found _ did.leaves
    (reads_most c.args.self.now.format _ _ _ _ did.reads c.records_in-records.ensures.few)

pub returns-in-Err-clause-looks : goal.returns-in-Err-clause-looks
returns-in-Err-clause-looks g c =
    let did = rw c.as_str.ensures.value at c.in-Err.ensures in
    looks_failed _ _ _ _ c.args.self.now.opened c.args.self.now.format c.args.self.now.len c.args.self.now.times
    c.args.self.now.window c.first_from.new.self
    (λ value held. held_of_file c.args.self.now.format _ held.file c.args.self.now.window c.first_from.new.self
    held.there (did.held held.told) held.agrees.next)
    c.refused_look_up.new.self _ c.refused_look_up.result _ c.refused_look_up.ensures.same did.leaves
    (reads_most c.args.self.now.format _ _ _ _ did.reads c.records_in-records.ensures.few) did.cause tt
    c.refused_look_up.ensures.counted

pub returns-in-Ok-clause-passing : goal.returns-in-Ok-clause-passing
returns-in-Ok-clause-passing g c = λ value held.
    let did = rw c.as_str.ensures.value at c.in-Ok.ensures in
    of_named c.args.self.now.format _ held.file _ _ _ _ held.there
    (passed_found c.args.self.now.format held.file c.args.after c.first_after-from.result _ _ _ c.in-Ok.found
    (c.records_in-records.ensures.value ∙ ap (λ (n : ℕ). n / record_size c.args.self.now.format) held.agrees.long)
    (omega (arith, c.records_in-records.ensures.few)) c.first_after-from.ensures.comes_after did.between
    did.near did.reads)

pub returns-in-Err-clause-passing : goal.returns-in-Err-clause-passing
returns-in-Err-clause-passing g c = λ value held.
    let did = rw c.as_str.ensures.value at c.in-Err.ensures in
    of_named c.args.self.now.format _ held.file _ _ _ _ held.there
    (passed_refused c.args.self.now.format held.file c.args.after c.first_after-from.result _ _ _
    c.refused_look_up.result
    (c.records_in-records.ensures.value ∙ ap (λ (n : ℕ). n / record_size c.args.self.now.format) held.agrees.long)
    (omega (arith, c.records_in-records.ensures.few)) c.first_after-from.ensures.comes_after did.reads)
