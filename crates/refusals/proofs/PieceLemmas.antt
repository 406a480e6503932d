-- Texts that are put piece by piece.
use Rattle.std.proofs.Common.{◌≡◌, ℕ, ◌+◌, ◌<◌, ◌≤◌, List, [], ◌∷◌, ◌++◌, length, get_or, take, drop, sym, ap, subst}
use Rattle.std.proofs.Common.{◌∙◌, append_assoc}
use Rattle.std.proofs.lemmas.List.{take_more, take-append-drop, append-nil, take_all}
use Rattle.std.proofs.lemmas.List.Concat.{flat_map-append}
use Rattle.outside.specs.Text.{AppendsPrefix}
use Rattle.outside.specs.Gathering.{IsGathered}
use Rattle.outside.proofs.TextLemmas.{appends_at_flush, appends_more}
use Rattle.refusals.specs.declared.piece.Piece.{Piece}
use Rattle.refusals.specs.Piece.{joined, piece_bytes}

-- one more piece
pub joined_more : (pieces : List Piece) (i : ℕ) (d : Piece) → i < length pieces
    → joined (take (i + 1) pieces) ≡ joined (take i pieces) ++ piece_bytes (get_or pieces i d)
joined_more pieces i d h =
    ap joined (take_more pieces i d h)
    ∙ flat_map-append piece_bytes (take i pieces) (get_or pieces i d ∷ [])
    ∙ ap (λ (t : List ℕ). joined (take i pieces) ++ t) (append-nil (piece_bytes (get_or pieces i d)))

-- the first pieces and the others
pub joined_rest : (pieces : List Piece) (i : ℕ) → joined (take i pieces) ++ joined (drop i pieces) ≡ joined pieces
joined_rest pieces i =
    sym (flat_map-append piece_bytes (take i pieces) (drop i pieces)) ∙ ap joined (take-append-drop i pieces)

-- nothing more was put
pub gathered_none : (start before written buffered : List ℕ) → IsGathered start before written buffered
    → IsGathered start (before ++ []) written buffered
gathered_none start before written buffered g =
    subst (λ (t : List ℕ). IsGathered start t written buffered) (sym (append-nil before)) g

-- one more piece was put
pub gathered_more : (start before written buffered : List ℕ) (pieces : List Piece) (i : ℕ) (d : Piece)
    → i < length pieces
    → IsGathered start ((before ++ joined (take i pieces)) ++ piece_bytes (get_or pieces i d)) written buffered
    → IsGathered start (before ++ joined (take (i + 1) pieces)) written buffered
gathered_more start before written buffered pieces i d h g =
    subst (λ (t : List ℕ). IsGathered start t written buffered)
    (append_assoc before (joined (take i pieces)) (piece_bytes (get_or pieces i d))
    ∙ ap (λ (t : List ℕ). before ++ t) (sym (joined_more pieces i d h))) g

-- a prefix of the pieces up to one of them is a prefix of all
pub prefix_more : (start before new : List ℕ) (pieces : List Piece) (i : ℕ) (d : Piece) → i < length pieces
    → AppendsPrefix start new ((before ++ joined (take i pieces)) ++ piece_bytes (get_or pieces i d))
    → AppendsPrefix start new (before ++ joined pieces)
prefix_more start before new pieces i d h p =
    let so : AppendsPrefix start new (before ++ joined (take (i + 1) pieces)) =
    subst (λ (t : List ℕ). AppendsPrefix start new t)
    (append_assoc before (joined (take i pieces)) (piece_bytes (get_or pieces i d))
    ∙ ap (λ (t : List ℕ). before ++ t) (sym (joined_more pieces i d h))) p in
    subst (λ (t : List ℕ). AppendsPrefix start new t)
    (append_assoc before (joined (take (i + 1) pieces)) (joined (drop (i + 1) pieces))
    ∙ ap (λ (t : List ℕ). before ++ t) (joined_rest pieces (i + 1)))
    (appends_more start new (before ++ joined (take (i + 1) pieces)) (joined (drop (i + 1) pieces)) so)

-- all pieces were put
pub gathered_all : (start before written buffered : List ℕ) (pieces : List Piece) (i : ℕ) → length pieces ≤ i
    → IsGathered start (before ++ joined (take i pieces)) written buffered
    → IsGathered start (before ++ joined pieces) written buffered
gathered_all start before written buffered pieces i h g =
    subst (λ (t : List ℕ). IsGathered start (before ++ t) written buffered) (ap joined (take_all i pieces h)) g

-- nothing is gathered before anything was put
pub gathered_start : (start buffered : List ℕ) → buffered ≡ [] → IsGathered start [] start buffered
gathered_start start buffered empty = record { sent = []; appended = sym (append-nil start); whole = sym empty }

-- all that was gathered was written
pub gathered_flushed : (start text written buffered new : List ℕ) → IsGathered start text written buffered
    → new ≡ written ++ buffered → new ≡ start ++ text
gathered_flushed start text written buffered new g is =
    is ∙ ap (λ (w : List ℕ). w ++ buffered) g.appended ∙ append_assoc start g.sent buffered
    ∙ ap (λ (t : List ℕ). start ++ t) (sym g.whole)

-- a prefix of what was gathered was written
pub prefix_flushed : (start text written buffered new : List ℕ) → IsGathered start text written buffered
    → AppendsPrefix written new buffered → AppendsPrefix start new text
prefix_flushed start text written buffered new g p =
    subst (λ (t : List ℕ). AppendsPrefix start new t) (append-nil text)
    (appends_at_flush start text written buffered new [] g p)

-- the whole of a text is a prefix of it
pub appends_whole : (old new bytes : List ℕ) → new ≡ old ++ bytes → AppendsPrefix old new bytes
appends_whole old new bytes e = record { done = bytes; rest = []; appended = e; prefix = append-nil bytes }

-- two texts in a row were put
pub gathered_row : (start before one two written buffered : List ℕ)
    → IsGathered start ((before ++ one) ++ two) written buffered
    → IsGathered start (before ++ (one ++ two)) written buffered
gathered_row start before one two written buffered g =
    subst (λ (t : List ℕ). IsGathered start t written buffered) (append_assoc before one two) g

-- a prefix of the first of two texts in a row
pub prefix_first : (start before one two new : List ℕ) → AppendsPrefix start new (before ++ one)
    → AppendsPrefix start new (before ++ (one ++ two))
prefix_first start before one two new p =
    subst (λ (t : List ℕ). AppendsPrefix start new t) (append_assoc before one two)
    (appends_more start new (before ++ one) two p)

-- a prefix of two texts in a row
pub prefix_row : (start before one two new : List ℕ) → AppendsPrefix start new ((before ++ one) ++ two)
    → AppendsPrefix start new (before ++ (one ++ two))
prefix_row start before one two new p =
    subst (λ (t : List ℕ). AppendsPrefix start new t) (append_assoc before one two) p
