use Rattle.std.proofs.Common.{inl, inr, [], ◌∙◌}
use Rattle.quota_v1.proofs.slot_file.write_synced.Goals as goal

pub returns-in_err-write-clause-commits : goal.returns-in_err-write-clause-commits
returns-in_err-write-clause-commits g c =
    inl c.write.ensures.commits

pub returns-clause-commits : goal.returns-clause-commits
returns-clause-commits g c =
    inr (
      g.S.Store.commits_on [] _ _ _ _ c.write.ensures.commits c.sync.ensures.commits,
      λ told. c.sync.ensures.leaves.files ∙ c.in_ok-write.ensures.ok told,
    )
