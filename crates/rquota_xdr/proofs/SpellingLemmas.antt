-- Units as bytes, and bytes as units.
use Rattle.std.proofs.Common.{◌≡◌, ℕ, zero, suc, ◌+◌, ◌*◌, ◌^◌, ◌<◌, List, [], ◌∷◌, ◌++◌, length, get_or, refl, sym, ap}
use Rattle.std.proofs.Common.{◌∙◌, arith}
use Rattle.std.specs.Int.{w32, to_be_bytes}
use Rattle.std.proofs.lemmas.Nat.{be_bytes_4, from_be_bytes-to_be_bytes_4}
use Rattle.rquota_xdr.specs.Units.{unit_at, units_from}
use Rattle.rquota_xdr.specs.Reply.{AreNumbers, bytes_of}
use Rattle.rquota_xdr.proofs.UnitLemmas.{unit_at-bytes}

abbrev pub AreBytes : List ℕ → Type 0
AreBytes bytes = (at : ℕ) → get_or bytes at 0 < 256

-- numbers that fit at each place
pub are_numbers : (units : List ℕ) → ((at : ℕ) → get_or units at 0 < 2 ^ 32) → AreNumbers units
are_numbers [] fits = tt
are_numbers (unit ∷ units) fits = (fits 0, are_numbers units (λ at. fits (suc at)))

pub length-bytes_of : (units : List ℕ) → length (bytes_of units) ≡ 4 * length units
length-bytes_of [] = refl
length-bytes_of (unit ∷ units) = let rest = length-bytes_of units in omega arith

-- a unit behind another one
unit_at-behind : (a b c d : ℕ) (rest : List ℕ) (at : ℕ) → unit_at (a ∷ b ∷ c ∷ d ∷ rest) (at + 4) ≡ unit_at rest at
unit_at-behind a b c d rest at =
    let place : at + 4 ≡ suc (suc (suc (suc at))) = omega arith in
    let second : at + 4 + 1 ≡ suc (suc (suc (suc (at + 1)))) = omega arith in
    let third : at + 4 + 2 ≡ suc (suc (suc (suc (at + 2)))) = omega arith in
    let fourth : at + 4 + 3 ≡ suc (suc (suc (suc (at + 3)))) = omega arith in
    sym (unit_at-bytes (a ∷ b ∷ c ∷ d ∷ rest) (at + 4)) ∙ rw (second, third, fourth, place) (unit_at-bytes rest at)

units_from-behind : (a b c d : ℕ) (rest : List ℕ) (at count : ℕ)
    → units_from (a ∷ b ∷ c ∷ d ∷ rest) (at + 4) count ≡ units_from rest at count
unfolding units_from
units_from-behind a b c d rest at zero = refl
units_from-behind a b c d rest at (suc count) =
    rw (unit_at-behind a b c d rest at, units_from-behind a b c d rest (at + 4) count) refl

-- numbers that are spelled are read again
pub units_again : (units : List ℕ) → AreNumbers units → units_from (bytes_of units) 0 (length units) ≡ units
unfolding units_from
units_again [] fits = refl
units_again (unit ∷ units) fits =
    let first : unit_at (bytes_of (unit ∷ units)) 0 ≡ unit =
    sym (unit_at-bytes (bytes_of (unit ∷ units)) 0) ∙ from_be_bytes-to_be_bytes_4 unit fits.0 in
    let rest : units_from (bytes_of (unit ∷ units)) 4 (length units) ≡ units =
    units_from-behind _ _ _ _ (bytes_of units) 0 (length units) ∙ units_again units fits.1 in
    rw (first, rest) refl

-- bytes that are read as whole units are their spelling
pub bytes_again : (count : ℕ) (bytes : List ℕ) → length bytes ≡ 4 * count → AreBytes bytes
    → bytes_of (units_from bytes 0 count) ≡ bytes
unfolding units_from
bytes_again zero [] size fits = refl
bytes_again zero (a ∷ rest) size fits = absurd (omega arith)
bytes_again (suc count) [] size fits = absurd (omega arith)
bytes_again (suc count) (a ∷ []) size fits = absurd (omega arith)
bytes_again (suc count) (a ∷ b ∷ []) size fits = absurd (omega arith)
bytes_again (suc count) (a ∷ b ∷ c ∷ []) size fits = absurd (omega arith)
bytes_again (suc count) (a ∷ b ∷ c ∷ d ∷ rest) size fits =
    let four : AreBytes (a ∷ b ∷ c ∷ d ∷ []) = four_bytes a b c d rest fits in
    let first : to_be_bytes w32 (unit_at (a ∷ b ∷ c ∷ d ∷ rest) 0) ≡ a ∷ b ∷ c ∷ d ∷ [] =
    be_bytes_4 (a ∷ b ∷ c ∷ d ∷ []) _ refl four (sym (unit_at-bytes (a ∷ b ∷ c ∷ d ∷ rest) 0)) in
    let behind : bytes_of (units_from (a ∷ b ∷ c ∷ d ∷ rest) 4 count) ≡ rest = ap bytes_of
    (units_from-behind a b c d rest 0 count)
    ∙ bytes_again count rest (omega arith) (λ at. fits (suc (suc (suc (suc at))))) in
    ap (λ (front : List ℕ). front ++ bytes_of (units_from (a ∷ b ∷ c ∷ d ∷ rest) 4 count)) first
    ∙ ap (λ (back : List ℕ). a ∷ b ∷ c ∷ d ∷ back) behind
  where
    four_bytes : (a b c d : ℕ) (rest : List ℕ) → AreBytes (a ∷ b ∷ c ∷ d ∷ rest) → AreBytes (a ∷ b ∷ c ∷ d ∷ [])
    four_bytes a b c d rest fits zero = fits 0
    four_bytes a b c d rest fits (suc zero) = fits 1
    four_bytes a b c d rest fits (suc (suc zero)) = fits 2
    four_bytes a b c d rest fits (suc (suc (suc zero))) = fits 3
    four_bytes a b c d rest fits (suc (suc (suc (suc at)))) = omega arith
