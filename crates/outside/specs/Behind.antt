-- What is left of a list once some of its front was taken.
use Rattle.std.specs.Prelude.{◌≡◌, ℕ, List, ◌++◌, [], refl}
use Rattle.std.proofs.Common.{ap, sym, ◌∙◌, append_assoc}

-- the bytes that are left stand behind those that were taken
abbrev pub IsBehind : (whole left : List ℕ) → Type 0
IsBehind whole left = (taken : List ℕ) × (whole ≡ taken ++ left)

-- all bytes are left where none was taken
pub behind_nothing : (whole : List ℕ) → IsBehind whole whole
behind_nothing whole = ([], refl)

-- bytes were taken, and then more
pub behind_on : (first between last : List ℕ) → IsBehind first between → IsBehind between last → IsBehind first last
behind_on first between last one two =
    (one.0 ++ two.0, one.1 ∙ ap (λ (bytes : List ℕ). one.0 ++ bytes) two.1 ∙ sym (append_assoc one.0 two.0 last))
