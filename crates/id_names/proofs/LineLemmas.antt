-- The fields of a line.
use Rattle.std.proofs.Common.{◌≡◌, ◌≢◌, ℕ, ◌+◌, ◌==◌, List, ◌∷◌, length, count_by, ap, ◌∙◌, arith}
use Rattle.std.proofs.lemmas.List.Splits.{length-slice_split}
use Rattle.id_names.specs.NamesFile.{parts_of, fields_of}

-- how many fields there are, where three were cut off
pub length-fields_of : (line name after_name password after_password id behind : List ℕ)
    → parts_of 58 line ≡ name ∷ parts_of 58 after_name → parts_of 58 after_name ≡ password ∷ parts_of 58 after_password
    → parts_of 58 after_password ≡ id ∷ parts_of 58 behind
    → length (fields_of line) ≡ count_by (λ byte. byte == 58) behind + 4
length-fields_of line name after_name password after_password id behind first second third =
    let all : parts_of 58 line ≡ name ∷ (password ∷ (id ∷ parts_of 58 behind)) =
    first ∙ ap (λ parts. name ∷ parts) (second ∙ ap (λ parts. password ∷ parts) third) in
    omega (arith, ap length all, length-slice_split (λ (byte : ℕ). byte == 58) behind)

-- there are more than two fields, where two were cut off
pub more_than_two : (line name after_name id behind : List ℕ) → parts_of 58 line ≡ name ∷ parts_of 58 after_name
    → parts_of 58 after_name ≡ id ∷ parts_of 58 behind
    → length (fields_of line) ≢ 2
more_than_two line name after_name id behind first second two =
    absurd (omega (arith, two, ap length first, ap length second, length-slice_split (λ (byte : ℕ). byte == 58) behind))
