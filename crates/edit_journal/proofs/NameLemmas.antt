-- The names of undo files.
use Rattle.std.proofs.Common.{◌≡◌, ◌≢◌, ℕ, ◌+◌, List, ◌++◌, length, get_or, ap, ◌∙◌, arith, length-append}
use Rattle.std.specs.Prelude.{codes}
use Rattle.std.proofs.lemmas.List.{append_cancel_right, get_or-append-add}
use Rattle.edit_journal.specs.UndoName.{und_name, undo_name}

-- a name with an ending added is another one
added-differs : (name added : List ℕ) (more : ℕ) → length added ≡ more + 1 → name ≢ name ++ added
added-differs name added more long same = absurd (omega (arith, ap length same, length-append name added, long))

pub undo-own : (name : List ℕ) → name ≢ undo_name name
unfolding undo_name
undo-own name same = added-differs name (codes ".undo") 4 (omega arith) same

pub und-own : (name : List ℕ) → name ≢ und_name name
unfolding und_name
und-own name same = added-differs name (codes ".und") 3 (omega arith) same

-- the last letters differ
pub und-undo : (one other : List ℕ) → und_name one ≢ undo_name other
unfolding und_name undo_name
und-undo one other same =
    let long : length one ≡ length other + 1 =
    omega (arith, ap length same, length-append one (codes ".und"), length-append other (codes ".undo")) in
    let there : length one + 3 ≡ length other + 4 = omega (arith, long) in
    let first : get_or (one ++ codes ".und") (length one + 3) 0 ≡ 100 = get_or-append-add one (codes ".und") 3 0 in
    let last : get_or (other ++ codes ".undo") (length other + 4) 0 ≡ 111 =
    get_or-append-add other (codes ".undo") 4 0 in
    let both : get_or (one ++ codes ".und") (length one + 3) 0 ≡ get_or (other ++ codes ".undo") (length other + 4) 0 =
    ap (λ (l : List ℕ). get_or l (length one + 3) 0) same ∙ ap (λ (n : ℕ). get_or (other ++ codes ".undo") n 0) there in
    absurd (omega (arith, first, last, both))

pub undo-injective : (one other : List ℕ) → undo_name one ≡ undo_name other → one ≡ other
unfolding undo_name
undo-injective one other same = append_cancel_right one other (codes ".undo") same

pub und-injective : (one other : List ℕ) → und_name one ≡ und_name other → one ≡ other
unfolding und_name
und-injective one other same = append_cancel_right one other (codes ".und") same
