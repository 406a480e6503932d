-- Units and their bytes.
use Rattle.std.proofs.Common.{◌≡◌, ℕ, zero, suc, ◌+◌, ◌-◌, ◌*◌, ◌<◌, List, [], ◌∷◌, ◌++◌, get_or, drop, refl, ap, ◌∙◌}
use Rattle.std.proofs.Common.{arith}
use Rattle.std.specs.Int.{w32, from_be_bytes}
use Rattle.std.proofs.lemmas.List.{get_or-take, get_or-drop}
use Rattle.rquota_xdr.specs.Units.{unit_at, units_from}

-- the number that the four bytes at a place spell
pub unit_at-bytes : (bytes : List ℕ) (at : ℕ)
    → from_be_bytes w32
    (get_or bytes at 0 ∷ get_or bytes (at + 1) 0 ∷ get_or bytes (at + 2) 0 ∷ get_or bytes (at + 3) 0 ∷ [])
    ≡ unit_at bytes at
unfolding unit_at
unit_at-bytes bytes at =
    let four : at + 4 - at ≡ 4 = omega arith in
    let byte = λ (i : ℕ) (lt : i < 4). get_or-take 4 (drop at bytes) i 0 lt ∙ get_or-drop at bytes i 0 in
    let none : at + 0 ≡ at = omega arith in
    rw (four, byte 0 (omega arith), byte 1 (omega arith), byte 2 (omega arith), byte 3 (omega arith), none) refl

-- one unit more stands behind the others
pub one_unit_more : (bytes : List ℕ) (at count : ℕ)
    → units_from bytes at (count + 1) ≡ units_from bytes at count ++ unit_at bytes (at + 4 * count) ∷ []
unfolding units_from
one_unit_more bytes at zero =
    let none : at + 4 * 0 ≡ at = omega arith in
    rw none refl
one_unit_more bytes at (suc count) =
    let place : at + 4 * suc count ≡ at + 4 + 4 * count = omega arith in
    let more : suc count + 1 ≡ suc (count + 1) = omega arith in
    rw (place, more) (ap (λ (rest : List ℕ). unit_at bytes at ∷ rest) (one_unit_more bytes (at + 4) count))
