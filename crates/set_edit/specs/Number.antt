-- Limits as words of a command. A word is its bytes. Source: the suffixes of setquota(8), which are K, M, G and T for
-- blocks of 1 KiB, and k, m, g and t for inodes.
use Rattle.std.specs.Prelude.{ℕ, ◌*◌, ◌^◌, Bool, if◌then◌else◌, List, [], ◌∷◌, take, drop, find, Option, Some, None}
use Rattle.std.specs.Prelude.{codes}
use Rattle.std.specs.Char.{is_ascii_digit}
use Rattle.std.specs.List.{prefix_len}
use Rattle.std.specs.Option.{option_map}
use Rattle.std.specs.Str.{bytes_eq}
use Rattle.input_text.specs.Numeral.{number_of, within_64_bits}

-- what may stand behind the digits of a limit of blocks, with how many KiB it stands for
abbrev pub block_suffixes : List (List ℕ × ℕ)
block_suffixes = ([], 1) ∷ (codes "K", 1) ∷ (codes "M", 1024) ∷ (codes "G", 1024 ^ 2) ∷ (codes "T", 1024 ^ 3) ∷ []

-- what may stand behind the digits of a limit of inodes, with how many inodes it stands for
abbrev pub inode_suffixes : List (List ℕ × ℕ)
inode_suffixes = ([], 1) ∷ (codes "k", 10 ^ 3) ∷ (codes "m", 10 ^ 6) ∷ (codes "g", 10 ^ 9) ∷ (codes "t", 10 ^ 12) ∷ []

-- the factor of what stands behind the digits of a limit, where that may stand there
abbrev pub factor_of : Bool → List ℕ → Option ℕ
factor_of blocks suffix =
    option_map (λ (s : List ℕ × ℕ). s.1)
    (find (λ (s : List ℕ × ℕ). bytes_eq s.0 suffix) (if blocks then block_suffixes else inode_suffixes))

-- the digits that a word begins with
abbrev pub digits_before : List ℕ → List ℕ
digits_before word = take (prefix_len is_ascii_digit word) word

-- what stands behind the digits that a word begins with
abbrev pub behind_digits : List ℕ → List ℕ
behind_digits word = drop (prefix_len is_ascii_digit word) word

-- the product of two numbers, where there are both and it is below 2^64
abbrev pub product_of : Option ℕ → Option ℕ → Option ℕ
product_of (Some one) (Some other) = within_64_bits (one * other)
product_of (Some one) None = None
product_of None other = None

-- the limit that a word spells: a number, and behind it nothing or a suffix, whose product is below 2^64; one of blocks
-- is in KiB
unfoldable pub limit_of : Bool → List ℕ → Option ℕ
limit_of blocks word = product_of (number_of (digits_before word)) (factor_of blocks (behind_digits word))
