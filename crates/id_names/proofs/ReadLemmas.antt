-- The lines of a file, taken from the front.
use Rattle.std.proofs.Common.{◌≡◌, ℕ, suc, ◌+◌, ◌<◌, ◌≤◌, Bool, false, List, [], ◌∷◌, ◌++◌, length, position, Option}
use Rattle.std.proofs.Common.{Some, None, refl, sym, ap, ◌∙◌, add-one, append_assoc, arith}
use Rattle.std.specs.List.{filter_map}
use Rattle.std.specs.Option.{option_map, option_to_list}
use Rattle.std.proofs.lemmas.Bool.Decides.{nat_tests}
use Rattle.quota_types.specs.declared.file_kind.Kind.{Kind}
use Rattle.id_names.specs.declared.index.Index.{Index}
use Rattle.id_names.specs.Index.{IsIndex, kept_lines}
use Rattle.id_names.specs.NamesFile.{NameLine, bad_line, is_bad, lines_in, names_in, told_by}

-- the first bad line among these, of which the first has this number
abbrev bad_from : Kind → ℕ → List (List ℕ) → Option ℕ
bad_from kind number lines = option_map (λ place. place + number) (position (is_bad kind) lines)

-- the lines before the rest are read: the first of the rest has this number, and none before it is bad
pub record IsRead (kind : Kind) (file rest : List ℕ) (number : ℕ) (index : Index) : Type 0 where
  pub lines : names_in kind file ≡ kept_lines index ++ filter_map (told_by kind) (lines_in rest)
  pub bad : bad_line kind file ≡ bad_from kind number (lines_in rest)
  pub is_index : IsIndex index
  pub fits : number + length rest ≤ length file + 1

pub read_none : (kind : Kind) (file : List ℕ) (index : Index) → kept_lines index ≡ [] → IsIndex index
    → IsRead kind file file 1 index
unfolding names_in bad_line
read_none kind file index none indexed = record {
  lines = ap (λ (ls : List NameLine). ls ++ filter_map (told_by kind) (lines_in file)) (sym none);
  bad = refl;
  is_index = indexed;
  fits = omega arith;
}

next_place : (p : List ℕ → Bool) (line : List ℕ) (lines : List (List ℕ)) (number : ℕ) → p line ≡ false
    → option_map (λ place. place + number) (position p (line ∷ lines))
    ≡ option_map (λ place. place + suc number) (position p lines)
next_place p line lines number good = grind (arith, nat_tests)

first_told : (kind : Kind) (line : List ℕ) (lines : List (List ℕ))
    → filter_map (told_by kind) (line ∷ lines) ≡ option_to_list (told_by kind line) ++ filter_map (told_by kind) lines
first_told kind line lines = by (told_by kind line) refl
  where
    by : (o : Option NameLine) → told_by kind line ≡ o
        → filter_map (told_by kind) (line ∷ lines)
        ≡ option_to_list (told_by kind line) ++ filter_map (told_by kind) lines
    by None is = rw is refl
    by (Some told) is = rw is refl

-- what the first line of the rest tells joins what was told before it
lines_more : (kind : Kind) (file rest line : List ℕ) (lines : List (List ℕ)) (number : ℕ) (index new : Index)
    → IsRead kind file rest number index → lines_in rest ≡ line ∷ lines
    → kept_lines new ≡ kept_lines index ++ option_to_list (told_by kind line)
    → names_in kind file ≡ kept_lines new ++ filter_map (told_by kind) lines
lines_more kind file rest line lines number index new read first told =
    read.lines
    ∙ ap (λ (ls : List (List ℕ)). kept_lines index ++ filter_map (told_by kind) ls) first
    ∙ ap (λ (ls : List NameLine). kept_lines index ++ ls) (first_told kind line lines)
    ∙ sym (append_assoc (kept_lines index) (option_to_list (told_by kind line)) (filter_map (told_by kind) lines))
    ∙ ap (λ (ls : List NameLine). ls ++ filter_map (told_by kind) lines) (sym told)

-- a first line that is good leaves the first bad one to the others
bad_more : (kind : Kind) (file rest line : List ℕ) (lines : List (List ℕ)) (number : ℕ) (index : Index)
    → IsRead kind file rest number index → lines_in rest ≡ line ∷ lines → is_bad kind line ≡ false
    → bad_line kind file ≡ bad_from kind (suc number) lines
bad_more kind file rest line lines number index read first good =
    read.bad ∙ ap (bad_from kind number) first ∙ next_place (is_bad kind) line lines number good

-- one line more is read
pub read_more : (kind : Kind) (file rest line behind : List ℕ) (number : ℕ) (index new : Index)
    → IsRead kind file rest number index → lines_in rest ≡ line ∷ lines_in behind → length behind < length rest
    → kept_lines new ≡ kept_lines index ++ option_to_list (told_by kind line) → IsIndex new → is_bad kind line ≡ false
    → IsRead kind file behind (number + 1) new
read_more kind file rest line behind number index new read first shorter told indexed good = record {
  lines = lines_more kind file rest line (lines_in behind) number index new read first told;
  bad = bad_more kind file rest line (lines_in behind) number index read first good
      ∙ ap (λ (n : ℕ). bad_from kind n (lines_in behind)) (sym (add-one number));
  is_index = indexed;
  fits = omega (arith, read.fits);
}
