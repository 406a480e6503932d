-- The words of a run.
use Rattle.std.proofs.Common.{◌≡◌, ℕ, ◌+◌, ◌*◌, ◌%◌, ◌<◌, List, [], ◌∷◌, ◌++◌, length, get_or, drop, Ok, refl, ap, ◌∙◌}
use Rattle.std.proofs.Common.{arith}
use Rattle.std.specs.Prelude.{String}
use Rattle.std.specs.String.{string_bytes}
use Rattle.std.specs.declared.alloc.Global.{Global}
use Rattle.std.proofs.lemmas.List.{drop_more, map-append}
use Rattle.option_words.specs.Given.{export_given, exports_given}
use Rattle.option_words.specs.Items.{texts_of}
use Rattle.option_words.specs.declared.given.ExportWords.{ExportWords}
use Rattle.option_words.specs.declared.export_option.ExportOption.{ExportOption}
use Rattle.stream_words.specs.Words.{export_of, exports_of}

-- three elements of a list, one behind another
three_more : {X : Type 0} (xs : List X) (place : ℕ) (a b c : X) → place + 2 < length xs → a ≡ get_or xs place a
    → b ≡ get_or xs (place + 1) b → c ≡ get_or xs (place + 2) c
    → drop place xs ≡ a ∷ b ∷ c ∷ drop (place + 3) xs
three_more xs place a b c long is_a is_b is_c =
    let two : place + 1 + 1 ≡ place + 2 = omega arith in
    let three : place + 2 + 1 ≡ place + 3 = omega arith in
    drop_more xs place a (omega (arith, long))
    ∙ rw (
      ← is_a,
      drop_more xs (place + 1) b (omega (arith, long)),
      ← is_b,
      two,
      drop_more xs (place + 2) c (omega (arith, long)),
      ← is_c,
      three,
    ) refl

-- words in threes of which so many were read, and not all: three more are there
pub more_whole : (place count all : ℕ) → place ≡ 3 * count → all % 3 ≡ 0 → place < all → place + 2 < all
more_whole place count all is whole less = omega (arith, is, whole, less)

-- one more file behind those that were read
pub one_given : (exports : List ExportWords) (export : ExportWords)
    → exports_given (exports ++ export ∷ []) ≡ exports_given exports ++ export_given export ∷ []
one_given exports export = map-append export_given exports (export ∷ [])

-- a file whose words were read, in front of those behind it
pub one_read : (files : List (String Global)) (place : ℕ) (path kind file : String Global) (before : List ExportOption)
    (export : ExportOption) → place + 2 < length files
    → path ≡ get_or files place path → kind ≡ get_or files (place + 1) kind → file ≡ get_or files (place + 2) file
    → export_of (3 + place) before (string_bytes path) (string_bytes kind) (string_bytes file) ≡ Ok export
    → exports_of (3 + place) before (texts_of (drop place files))
    ≡ exports_of (3 + (place + 3)) (before ++ export ∷ []) (texts_of (drop (place + 3) files))
one_read files place path kind file before export long is_path is_kind is_file is =
    let word : 3 + place + 3 ≡ 3 + (place + 3) = omega arith in
    ap (λ (l : List (String Global)). exports_of (3 + place) before (texts_of l))
    (three_more files place path kind file long is_path is_kind is_file)
    ∙ rw (is, word) refl
