-- The pieces of a form, one after the other.
use Rattle.std.proofs.Common.{◌≡◌, ℕ, suc, ◌+◌, ◌<◌, List, ◌++◌, length, take, drop, get_or, sym, ap, subst, ◌∙◌, arith}
use Rattle.std.proofs.Common.{append_assoc, codes, decimal}
use Rattle.std.specs.List.{flat_map}
use Rattle.std.proofs.Math.Seq.{drop-cons}
use Rattle.std.proofs.lemmas.Grind.{flat_map-append}
use Rattle.std.proofs.lemmas.List.{take-append-drop}
use Rattle.quota_types.specs.declared.file_kind.Kind.{Kind}
use Rattle.quota_types.specs.declared.record.Rec.{Rec}
use Rattle.outside.specs.Text.{AppendsPrefix}
use Rattle.set_edit.specs.Form.{form_columns, form_heading, form_of, id_front, name_front}
use Rattle.outside.proofs.TextLemmas.{appends_more}

-- all pieces are those up to a place, the one there, and those behind it
pieces-at : {A : Type 0} (text : A → List ℕ) (pieces : List A) (at : ℕ) (none : A) → at < length pieces
    → flat_map text pieces
    ≡ (flat_map text (take at pieces) ++ text (get_or pieces at none)) ++ flat_map text (drop (at + 1) pieces)
pieces-at text pieces at none within =
    let one_more : suc at ≡ at + 1 = omega arith in
    ap (flat_map text) (sym (take-append-drop at pieces))
    ∙ flat_map-append text (take at pieces) (drop at pieces)
    ∙ ap (λ (rest : List _). flat_map text (take at pieces) ++ flat_map text rest) (drop-cons pieces at none within)
    ∙ ap (λ (next : ℕ).
    flat_map text (take at pieces) ++ (text (get_or pieces at none) ++ flat_map text (drop next pieces))) one_more
    ∙ sym (append_assoc (flat_map text (take at pieces)) (text (get_or pieces at none))
    (flat_map text (drop (at + 1) pieces)))

-- a prefix of the pieces up to one is a prefix of all
pub pieces-prefix : {A : Type 0} (text : A → List ℕ) (pieces : List A) (at : ℕ) (none : A) (old new : List ℕ)
    → at < length pieces
    → AppendsPrefix old new (flat_map text (take at pieces) ++ text (get_or pieces at none))
    → AppendsPrefix old new (flat_map text pieces)
pieces-prefix text pieces at none old new within p =
    subst (AppendsPrefix old new) (sym (pieces-at text pieces at none within))
    (appends_more old new (flat_map text (take at pieces) ++ text (get_or pieces at none))
    (flat_map text (drop (at + 1) pieces)) p)

regroup : (front name id_front digits close end heading indent file columns : List ℕ)
    → front ++ name ++ (id_front ++ digits ++ close ++ end ++ heading ++ end ++ indent) ++ file ++ (columns ++ end)
    ≡ front ++ name ++ id_front ++ digits ++ close ++ end ++ heading ++ end ++ (indent ++ file ++ columns) ++ end
regroup front name id_front digits close end heading indent file columns = simp append_assoc

-- the pieces make the form
pub form_of-pieces : (kind : Kind) (name : List ℕ) (id : ℕ) (file : List ℕ) (rec : Rec)
    (front middle path columns whole : List ℕ)
    → whole ≡ front ++ name ++ middle ++ path ++ columns → front ≡ name_front kind
    → middle ≡ id_front kind ++ decimal id ++ codes "):" ++ codes "\n" ++ form_heading ++ codes "\n" ++ codes "  "
    → path ≡ file → columns ≡ form_columns rec ++ codes "\n"
    → whole ≡ form_of kind name id file rec
unfolding form_of
form_of-pieces kind name id file rec front middle path columns whole is is_front is_middle is_file is_columns =
    is
    ∙ ap (λ (text : List ℕ). text ++ name ++ middle ++ path ++ columns) is_front
    ∙ ap (λ (text : List ℕ). name_front kind ++ name ++ middle ++ path ++ text) is_columns
    ∙ ap (λ (text : List ℕ). name_front kind ++ name ++ middle ++ text ++ (form_columns rec ++ codes "\n")) is_file
    ∙ ap (λ (text : List ℕ). name_front kind ++ name ++ text ++ file ++ (form_columns rec ++ codes "\n")) is_middle
    ∙ regroup (name_front kind) name (id_front kind) (decimal id) (codes "):") (codes "\n") form_heading (codes "  ")
    file (form_columns rec)
