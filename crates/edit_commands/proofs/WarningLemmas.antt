-- Lines that were said up to one of them.
use Rattle.std.proofs.Common.{◌≡◌, ℕ, List, [], ◌∷◌, ◌++◌, refl, sym, ap, subst, ◌∙◌, append-nil, append_assoc}
use Rattle.std.specs.List.{concat}
use Rattle.outside.specs.Text.{AppendsPrefix}
use Rattle.edit_commands.specs.EditsInPart.{IsSaidInPart}

pub concat_append : (lines more : List (List ℕ)) → concat (lines ++ more) ≡ concat lines ++ concat more
concat_append [] more = refl
concat_append (line ∷ lines) more =
    ap (λ (b : List ℕ). line ++ b) (concat_append lines more) ∙ sym (append_assoc line (concat lines) (concat more))

-- one line, of which a prefix was said
pub said_one : (line old new : List ℕ) → AppendsPrefix old new line → IsSaidInPart (line ∷ []) old new
said_one line old new part = record {
  said = [];
  unsaid = line ∷ [];
  whole = refl;
  line = line;
  more = [];
  next = refl;
  written = subst (λ (o : List ℕ). AppendsPrefix o new line) (sym (append-nil old)) part;
}

-- lines that were said in part, and more of them
pub said_first : (lines more : List (List ℕ)) (old new : List ℕ) → IsSaidInPart lines old new
    → IsSaidInPart (lines ++ more) old new
said_first lines more old new part = record {
  said = part.said;
  unsaid = part.unsaid ++ more;
  whole = ap (λ (l : List (List ℕ)). l ++ more) part.whole ∙ append_assoc part.said part.unsaid more;
  line = part.line;
  more = part.more ++ more;
  next = ap (λ (l : List (List ℕ)). l ++ more) part.next;
  written = part.written;
}

-- lines that were said, and more of them that were said in part
pub said_second : (lines more : List (List ℕ)) (old between new : List ℕ) → between ≡ old ++ concat lines
    → IsSaidInPart more between new → IsSaidInPart (lines ++ more) old new
said_second lines more old between new is part = record {
  said = lines ++ part.said;
  unsaid = part.unsaid;
  whole = ap (λ (l : List (List ℕ)). lines ++ l) part.whole ∙ sym (append_assoc lines part.said part.unsaid);
  line = part.line;
  more = part.more;
  next = part.next;
  written = subst (λ (o : List ℕ). AppendsPrefix o new part.line)
      (ap (λ (b : List ℕ). b ++ concat part.said) is ∙ append_assoc old (concat lines) (concat part.said)
      ∙ ap (λ (b : List ℕ). old ++ b) (sym (concat_append lines part.said)))
      part.written;
}

-- lines in a row that were said
pub said_row : (lines more : List (List ℕ)) (old between new : List ℕ) → between ≡ old ++ concat lines
    → new ≡ between ++ concat more → new ≡ old ++ concat (lines ++ more)
said_row lines more old between new is then =
    then ∙ ap (λ (b : List ℕ). b ++ concat more) is ∙ append_assoc old (concat lines) (concat more)
    ∙ ap (λ (b : List ℕ). old ++ b) (sym (concat_append lines more))
