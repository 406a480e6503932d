-- Numbers of bytes, the highest first, as `byteorder` reads them.
use Rattle.std.proofs.Common.{◌≡◌, ℕ, zero, suc, ◌+◌, ◌*◌, ◌^◌, List, drop, get_or, refl, ap, ◌∙◌, arith}
use Rattle.std.proofs.lemmas.List.{get_or-drop}
use Rattle.byteorder.specs.Endian.{big_from, big_number}
use Rattle.byte_order.specs.Number.{big_at}

big_from-drop : (width from at : ℕ) (file : List ℕ) → big_from from width (drop at file) ≡ big_at width file (at + from)
unfolding big_at
big_from-drop zero from at file = refl
big_from-drop (suc width) from at file =
    let next : at + suc from ≡ suc (at + from) = omega arith in
    ap (λ (byte : ℕ). byte * 256 ^ width + big_from (suc from) width (drop at file)) (get_or-drop at file from 0)
    ∙ ap (λ (rest : ℕ). get_or file (at + from) 0 * 256 ^ width + rest)
    (big_from-drop width (suc from) at file ∙ ap (big_at width file) next)

-- what is read from a place on is the number there
pub big_number-drop : (width at : ℕ) (file : List ℕ) → big_number width (drop at file) ≡ big_at width file at
big_number-drop width at file = big_from-drop width 0 at file ∙ ap (big_at width file) (omega arith)
