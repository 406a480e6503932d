-- Operands that are kept, of which there are at most seven.
use Rattle.std.proofs.Common.{◌≡◌, ◌∙◌, ◌≤◌, List, [], ◌∷◌, ◌++◌, length, take, sym, ap, append_assoc}
use Rattle.std.proofs.lemmas.List.{length-map, map-append, take-append-le}
use Rattle.option_words.specs.declared.scan.OperandWord.{OperandWord}
use Rattle.option_words.specs.Items.{Operand}
use Rattle.option_words.specs.Reads.{operand_seen, operands_seen}

-- where seven are kept, no more are
pub full_keeps : (kept : List OperandWord) (one other : List Operand) → 7 ≤ length kept
    → take 7 (operands_seen kept ++ one) ≡ take 7 (operands_seen kept ++ other)
full_keeps kept one other full =
    let long : 7 ≤ length (operands_seen kept) = rw (length-map kept operand_seen) full in
    take-append-le 7 (operands_seen kept) one long ∙ sym (take-append-le 7 (operands_seen kept) other long)

-- one more is kept behind the others
pub kept_more : (kept after : List OperandWord) (operand : OperandWord) (behind : List Operand)
    → after ≡ kept ++ operand ∷ []
    → take 7 (operands_seen after ++ behind) ≡ take 7 (operands_seen kept ++ operand_seen operand ∷ behind)
kept_more kept after operand behind is =
    ap (λ (os : List OperandWord). take 7 (operands_seen os ++ behind)) is
    ∙ ap (λ (os : List Operand). take 7 (os ++ behind)) (map-append operand_seen kept (operand ∷ []))
    ∙ ap (take 7) (append_assoc (operands_seen kept) (operand_seen operand ∷ []) behind)
