use Rattle.quota_map.proofs.any_file.AnyFileQuotaFile.grace.Goals as goal

pub returns-in-V1-clause-value : goal.returns-in-V1-clause-value
returns-in-V1-clause-value g c = λ store value held. c.grace.ensures.value store value (rw c.in-V1.is at held)
