-- The words of a line.
use Rattle.std.proofs.Common.{◌≡◌, ◌^◌, ℕ, true, false, List, [], ◌∷◌, Option, Some, None, refl, ap, ◌∙◌}
use Rattle.std.specs.Option.{option_and_then}
use Rattle.input_text.specs.Numeral.{number_of}
use Rattle.input_text.specs.Words.{words_eq, words_of}
use Rattle.inode_scan.specs.Line.{below, number_below, row_from, row_in, row_of}

-- more than five words say nothing
pub row_of_more : (owner group device inode blocks : List ℕ) (words : List (List ℕ)) → words_eq words [] ≡ false
    → row_of (owner ∷ group ∷ device ∷ inode ∷ blocks ∷ words) ≡ None
row_of_more owner group device inode blocks [] more = absurd (cc)
row_of_more owner group device inode blocks (word ∷ words) more = refl

pub no_words : (words : List (List ℕ)) → words_eq words [] ≡ true → words ≡ []
no_words [] same = refl
no_words (word ∷ words) same = absurd (cc)

-- five words, one after another
pub row_in_five : (line owner behind_owner group behind_group device behind_device inode behind_inode blocks
    behind : List ℕ)
    → words_of line ≡ owner ∷ words_of behind_owner → words_of behind_owner ≡ group ∷ words_of behind_group
    → words_of behind_group ≡ device ∷ words_of behind_device
    → words_of behind_device ≡ inode ∷ words_of behind_inode → words_of behind_inode ≡ blocks ∷ words_of behind
    → words_eq (words_of behind) [] ≡ true
    → row_in line ≡ row_from (number_below (2 ^ 32) owner) (number_below (2 ^ 32) group) (number_of device)
    (number_of inode) (number_of blocks)
unfolding row_in
row_in_five line owner behind_owner group behind_group device behind_device inode behind_inode blocks behind one two
    three four five none =
    ap row_of (one ∙ ap (λ ws. owner ∷ ws)
    (two ∙ ap (λ ws. group ∷ ws)
    (three ∙ ap (λ ws. device ∷ ws)
    (four ∙ ap (λ ws. inode ∷ ws) (five ∙ ap (λ ws. blocks ∷ ws) (no_words (words_of behind) none))))))

-- what is no number is no identifier
pub id_none : (word : List ℕ) → number_of word ≡ None → number_below (2 ^ 32) word ≡ None
unfolding number_below
id_none word none = rw none

-- a number that is an identifier where it has 32 bits
pub id_is : (word : List ℕ) (number : ℕ) (id : Option ℕ) → Some number ≡ number_of word → id ≡ below (2 ^ 32) number
    → id ≡ number_below (2 ^ 32) word
unfolding number_below
id_is word number id some is = is ∙ ap (option_and_then (below (2 ^ 32))) some
