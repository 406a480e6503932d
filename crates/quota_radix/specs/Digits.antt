-- The digits of an identifier. Source: `get_index` of the quota tools and the kernel's `fs/quota/quota_tree.c`, with
-- four levels of 256 references each.
use Rattle.std.specs.Prelude.{ℕ, ◌+◌, ◌*◌, ◌/◌, ◌%◌, ◌^◌, List, [], ◌∷◌, fold}

-- the four digits of an identifier to the base 256, the most significant first
abbrev pub digits_of : ℕ → List ℕ
digits_of id = (id / 256 ^ 3 % 256) ∷ (id / 256 ^ 2 % 256) ∷ (id / 256 % 256) ∷ (id % 256) ∷ []

-- the number with these digits to the base 256, the most significant first
abbrev pub id_of : List ℕ → ℕ
id_of digits = fold (λ number digit. 256 * number + digit) 0 digits
