use Rattle.std.proofs.Common.{arith}
use Rattle.quota_v1.proofs.PlaceLemmas.{read_within}
use Rattle.quota_v1.proofs.window.Window.first_known.Goals as goal

pub first_record-requires-clause-within : goal.first_record-requires-clause-within
first_record-requires-clause-within c =
    omega (arith, read_within c.args.format c.args.self.now.first c.args.to c.requires.ends)
