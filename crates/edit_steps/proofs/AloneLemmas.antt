-- That calls which only read leave all files.
use Rattle.std.proofs.Common.{ℕ, Bool, List}
use Rattle.outside.specs.Frame.{OnlyReads}
use Rattle.outside.specs.Seen.{StoreSeen}
use Rattle.outside.specs.World.{KeepsOthers}
use Rattle.outside.proofs.FrameLemmas.{keeps_others-same}

-- calls that only read leave all files
pub others-read : {done : Bool} (file name : List ℕ) (old new : StoreSeen) → OnlyReads done name old new
    → KeepsOthers file old.files new.files
others-read file name old new read = keeps_others-same file old.files new.files read.files
