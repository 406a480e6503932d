-- Numbers in parts of a file.
use Rattle.std.proofs.Common.{◌≡◌, ℕ, zero, suc, ◌+◌, ◌*◌, ◌<◌, ◌≤◌, List, length, take, drop, refl, ap, ◌∙◌, arith}
use Rattle.std.proofs.lemmas.List.{get_or-drop, get_or-take, get_or_past}
use Rattle.quota_types.specs.Bytes.{byte_at, number_at}

-- a number in two equal parts
number_by : (byte byte' rest rest' : ℕ) → byte ≡ byte' → rest ≡ rest' → byte + 256 * rest ≡ byte' + 256 * rest'
number_by byte byte' rest rest' e f = ap (λ (b : ℕ). b + 256 * rest) e ∙ ap (λ (r : ℕ). byte' + 256 * r) f

add_suc : (a b : ℕ) → a + suc b ≡ suc (a + b)
add_suc a b = omega arith

-- a number behind what was dropped
pub number_at-drop : (width : ℕ) (skip : ℕ) (file : List ℕ) (at : ℕ)
    → number_at width (drop skip file) at ≡ number_at width file (skip + at)
unfolding number_at
number_at-drop zero skip file at = refl
number_at-drop (suc width) skip file at =
    number_by _ _ _ _ (get_or-drop skip file at 0)
    (number_at-drop width skip file (suc at) ∙ ap (λ (n : ℕ). number_at width file n) (add_suc skip at))

-- a number within what was taken
pub number_at-take : (width : ℕ) (most : ℕ) (file : List ℕ) (at : ℕ) → at + width ≤ most
    → number_at width (take most file) at ≡ number_at width file at
unfolding number_at
number_at-take zero most file at h = refl
number_at-take (suc width) most file at h =
    number_by _ _ _ _ (get_or-take most file at 0 (omega arith)) (number_at-take width most file (suc at) (omega arith))

-- a number of bytes that are 0
pub number_at-zeros : (width at : ℕ) (file : List ℕ) → ((k : ℕ) → at ≤ k → k < at + width → byte_at file k ≡ 0)
    → number_at width file at ≡ 0
unfolding number_at
number_at-zeros zero at file zeros = refl
number_at-zeros (suc width) at file zeros =
    let byte : byte_at file at ≡ 0 = zeros at (omega arith) (omega arith) in
    let rest = number_at-zeros width (suc at) file (λ k from to. zeros k (omega arith) (omega arith)) in
    omega arith

-- past the end there are zeros
pub number_at-past : (width at : ℕ) (file : List ℕ) → length file ≤ at → number_at width file at ≡ 0
number_at-past width at file past = number_at-zeros width at file (λ k from to. get_or_past file k 0 (omega arith))

-- numbers of bytes that are the same
pub number_same : (width at : ℕ) (xs ys : List ℕ) → ((k : ℕ) → at ≤ k → k < at + width → byte_at xs k ≡ byte_at ys k)
    → number_at width xs at ≡ number_at width ys at
unfolding number_at
number_same zero at xs ys same = refl
number_same (suc width) at xs ys same =
    let byte : byte_at xs at ≡ byte_at ys at = same at (omega arith) (omega arith) in
    let rest = number_same width (suc at) xs ys (λ k from to. same k (omega arith) (omega arith)) in
    omega arith
