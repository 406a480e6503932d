-- What a change of an opened file puts where a stop of the machine leaves it.
use Rattle.std.specs.Prelude.{◌⊎◌, List, [], ◌∷◌, ℕ, Option, IsSomeAnd}
use Rattle.outside.specs.World.{World}
use Rattle.opened_file.specs.FileChange.{FileChange, changed_value}
use Rattle.quota_value.specs.QuotaValue.{QuotaValue}

-- Along some calls nothing was committed, or once the files as they are behind them, of which something holds then.
abbrev pub CommitsOnce : (committed : List World → Type 0) → (whole : Type 0) → World → Type 0
CommitsOnce committed whole now = committed [] ⊎ (committed (now ∷ []) × whole)

-- a file stands for what a change makes of each value that was held before
abbrev pub StandsChanged : FileChange → (held : QuotaValue → Type 0) → (stands : List ℕ → QuotaValue → Type 0)
    → Option (List ℕ) → Type 0
StandsChanged change held stands file =
    (value : QuotaValue) → held value → IsSomeAnd file (λ bytes. stands bytes (changed_value change value))
