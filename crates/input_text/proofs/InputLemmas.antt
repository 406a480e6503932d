-- What is left of a file once bytes were taken from its front.
use Rattle.std.proofs.Common.{◌≡◌, ℕ, ◌+◌, ◌-◌, ◌^◌, ◌≤◌, List, [], ◌++◌, length, take, drop, Option, sym, ap, ◌∙◌}
use Rattle.std.proofs.Common.{arith, length-take}
use Rattle.std.proofs.Math.Seq.{take-add}
use Rattle.std.proofs.lemmas.List.{drop-drop, take-append-le}
use Rattle.std.specs.Option.{unwrap_or}
use Rattle.input_text.specs.InputLeft.{left_from}
use Rattle.outside.specs.World.{World, bytes_from}
use Rattle.outside.proofs.WorldLemmas.{take-length-take}

-- a front of what may be taken, and then the rest of it
front_taken : (most want count : ℕ) (left : List ℕ) → want ≤ most → count ≡ length (take want left)
    → take most left ≡ take want left ++ take (most - count) (drop count left)
front_taken most want count left within is =
    let split : most ≡ count + (most - count) = omega (arith, is, length-take want left) in
    ap (λ (n : ℕ). take n left) split
    ∙ take-add count (most - count) left
    ∙ ap (λ (front : List ℕ). front ++ take (most - count) (drop count left))
    (ap (λ (n : ℕ). take n left) is ∙ take-length-take want left)

-- bytes were taken from the place on, and the place moved behind them
pub left_moved : (file : Option (List ℕ)) (at want count : ℕ) (buf rest : List ℕ) → want ≤ 2 ^ 64 - 1 - at
    → count ≤ length buf
    → take count buf ≡ bytes_from file at want → count ≡ length (bytes_from file at want)
    → left_from file at ≡ take count (buf ++ rest) ++ left_from file (at + count)
left_moved file at want count buf rest within fits bytes is =
    let there : List ℕ = unwrap_or file [] in
    let behind : 2 ^ 64 - 1 - at - count ≡ 2 ^ 64 - 1 - (at + count) = omega arith in
    front_taken (2 ^ 64 - 1 - at) want count (drop at there) within is
    ∙ ap (λ (front : List ℕ). front ++ take (2 ^ 64 - 1 - at - count) (drop count (drop at there)))
    (sym bytes ∙ sym (take-append-le count buf rest fits))
    ∙ ap (λ (back : List ℕ). take count (buf ++ rest) ++ take (2 ^ 64 - 1 - at - count) back) (drop-drop count at there)
    ∙ ap (λ (n : ℕ). take count (buf ++ rest) ++ take n (drop (at + count) there)) behind

-- what is left behind what was read, where the files and the name stayed
pub left_moved_of : (files files_now : World) (name name_now : List ℕ) (at at_now want count : ℕ) (buf rest : List ℕ)
    → files_now ≡ files → name_now ≡ name → at_now ≡ at + count
    → want ≤ 2 ^ 64 - 1 - at → count ≤ length buf → take count buf ≡ bytes_from (files name) at want
    → count ≡ length (bytes_from (files name) at want)
    → left_from (files name) at ≡ take count (buf ++ rest) ++ left_from (files_now name_now) at_now
left_moved_of files files_now name name_now at at_now want count buf rest same same_name moved within fits bytes is =
    left_moved (files name) at want count buf rest within fits bytes is
    ∙ ap (λ (n : ℕ). take count (buf ++ rest) ++ left_from (files name) n) (sym moved)
    ∙ ap (λ (f : World). take count (buf ++ rest) ++ left_from (f name) at_now) (sym same)
    ∙ ap (λ (n : List ℕ). take count (buf ++ rest) ++ left_from (files_now n) at_now) (sym same_name)
