-- A listing that is being made: what is left of it once a line was made, and once bytes of one were taken.
use Rattle.std.proofs.Common.{◌≡◌, ℕ, zero, suc, ◌+◌, ◌-◌, ◌<◌, ◌≤◌, min, List, [], ◌∷◌, ◌++◌, length, take, drop}
use Rattle.std.proofs.Common.{codes, refl, sym, ap, ◌∙◌, arith, add-one, append_assoc}
use Rattle.std.specs.List.{slice_range}
use Rattle.std.proofs.lemmas.List.{drop_all, drop_min, take_at}
use Rattle.std.proofs.lemmas.List.Folds.{drop_split}
use Rattle.inode_scan.specs.Generated.{first_alike, generated, generated_lines, lines_text, number_behind}
use Rattle.inode_scan.specs.Generated.{number_of_line, row_made, row_text}
use Rattle.inode_scan.specs.GeneratedLeft.{lines_behind}

-- the lines behind one are those of the listing
lines_made : (seed line count : ℕ)
    → lines_behind (number_of_line seed line) line count ≡ generated_lines seed line count
lines_made seed line zero = refl
lines_made seed line (suc count) =
    ap (λ (lines : List (List ℕ)). row_text (row_made (number_of_line seed (suc line)) (first_alike (suc line)))
    ∷ lines) (lines_made seed (suc line) count)

-- at first all lines are left
pub left_first : (seed count : ℕ) (text : List ℕ) → text ≡ []
    → drop 0 text ++ lines_text (lines_behind seed 0 (count - 0)) ≡ generated seed count
unfolding generated
left_first seed count text none =
    ap (λ (t : List ℕ). drop 0 t ++ lines_text (lines_behind seed 0 (count - 0))) none
    ∙ ap (λ (n : ℕ). lines_text (lines_behind seed 0 n)) (omega arith)
    ∙ ap lines_text (lines_made seed 0 count)

text_made : (x line more : ℕ) → lines_text (lines_behind x line (suc more))
    ≡ (row_text (row_made (number_behind x (suc line)) (first_alike (suc line))) ++ codes "\n")
    ++ lines_text (lines_behind (number_behind x (suc line)) (suc line) more)
text_made x line more = refl

-- a line that was made stands in front of the others
pub left_made : (x line count at : ℕ) (text made : List ℕ) → line < count → length text ≤ at
    → made ≡ row_text (row_made (number_behind x (line + 1)) (first_alike (line + 1))) ++ codes "\n"
    → drop 0 made ++ lines_text (lines_behind (number_behind x (line + 1)) (line + 1) (count - (line + 1)))
    ≡ drop at text ++ lines_text (lines_behind x line (count - line))
left_made x line count at text made more used is =
    let one : count - line ≡ suc (count - (line + 1)) = omega arith in
    let next : line + 1 ≡ suc line = add-one line in
    ap (λ (t : List ℕ). t ++ lines_text (lines_behind (number_behind x (line + 1)) (line + 1) (count - (line + 1)))) is
    ∙ ap (λ (n : ℕ). (row_text (row_made (number_behind x n) (first_alike n)) ++ codes "\n")
    ++ lines_text (lines_behind (number_behind x n) n (count - (line + 1)))) next
    ∙ sym (text_made x line (count - (line + 1)))
    ∙ ap (λ (n : ℕ). lines_text (lines_behind x line n)) (sym one)
    ∙ ap (λ (t : List ℕ). t ++ lines_text (lines_behind x line (count - line))) (sym (drop_all at text used))

-- nothing is left once all lines were made and taken
pub left_none : (x line count at : ℕ) (text : List ℕ) → count ≤ line → length text ≤ at
    → drop at text ++ lines_text (lines_behind x line (count - line)) ≡ []
left_none x line count at text all used =
    let none : count - line ≡ 0 = omega arith in
    ap (λ (t : List ℕ). t ++ lines_text (lines_behind x line (count - line))) (drop_all at text used)
    ∙ ap (λ (n : ℕ). lines_text (lines_behind x line n)) none

-- bytes that were taken of a line stand in front of the rest of it
pub left_taken : (text behind buf front : List ℕ) (at start count : ℕ) → start ≡ min at (length text)
    → length front ≡ count → front ≡ slice_range text start (start + count)
    → drop at text ++ behind ≡ take count (front ++ drop count buf) ++ (drop (start + count) text ++ behind)
left_taken text behind buf front at start count is long copied =
    ap (λ (t : List ℕ). t ++ behind)
    (sym (drop_min at text)
    ∙ ap (λ (n : ℕ). drop n text) (sym is)
    ∙ drop_split text start (start + count) (omega arith)
    ∙ ap (λ (f : List ℕ). f ++ drop (start + count) text)
    (sym copied ∙ sym (take_at front (drop count buf) count long)))
    ∙ append_assoc (take count (front ++ drop count buf)) (drop (start + count) text) behind
