-- Names of each kind.
use Rattle.std.proofs.Common.{◌≡◌, ◌≢◌, ℕ, ◌-◌, ◌≤◌, Bool, true, false, refl, List, [], ◌++◌, length, drop, sym, ap}
use Rattle.std.proofs.Common.{◌∙◌, arith, length-append}
use Rattle.std.specs.Prelude.{codes, nat_le, if◌then◌else◌}
use Rattle.std.specs.Str.{bytes_eq}
use Rattle.std.proofs.Math.Bool.{or-true}
use Rattle.std.proofs.Math.Seq.{drop-append_seam}
use Rattle.std.proofs.lemmas.Bool.{false≢true, leb-true}
use Rattle.outside.specs.Replacement.{replacement_name}
use Rattle.outside.proofs.WorldLemmas.{bytes_eq-same}
use Rattle.edit_journal.specs.UndoName.{und_name, undo_name}
use Rattle.journal_store.specs.Kinds.{ends_so, is_new, is_undo, kind_of}
use Rattle.journal_store.specs.declared.kinds.NameKind.TheVariants.{Barred, New, Plain}

-- a name with an ending added ends so
ends-added : (name ending : List ℕ) → ends_so (name ++ ending) ending ≡ true
ends-added name ending =
    let seam : length (name ++ ending) - length ending ≡ length name = omega (arith, length-append name ending) in
    ap (λ (n : ℕ). bytes_eq (drop n (name ++ ending)) ending) seam
    ∙ ap (λ (l : List ℕ). bytes_eq l ending) (drop-append_seam name ending)
    ∙ bytes_eq-same ending

-- both names of an undo file are kept for undo files
pub undo-is_undo : (name : List ℕ) → is_undo (undo_name name) ≡ true
unfolding is_undo undo_name
undo-is_undo name = rw (ends-added name (codes ".undo")) refl

pub und-is_undo : (name : List ℕ) → is_undo (und_name name) ≡ true
unfolding is_undo und_name
und-is_undo name = rw (ends-added name (codes ".und")) (or-true _)

-- a name that is not kept for undo files is none of theirs
pub undo-apart : (name other : List ℕ) → is_undo name ≡ false → name ≢ undo_name other
undo-apart name other is same = false≢true (sym is ∙ ap is_undo same ∙ undo-is_undo other)

pub und-apart : (name other : List ℕ) → is_undo name ≡ false → name ≢ und_name other
und-apart name other is same = false≢true (sym is ∙ ap is_undo same ∙ und-is_undo other)

-- a plain name
pub record IsPlain (name : List ℕ) : Type 0 where
  pub undo : is_undo name ≡ false
  pub new : is_new name ≡ false
  pub few : length name ≤ 250

-- a name under which a whole new file is written
pub record IsNew (name : List ℕ) : Type 0 where
  pub undo : is_undo name ≡ false
  pub new : is_new name ≡ true

-- what the tests say of a plain name, and of a new one
plain_tests : (u n a b : Bool)
    → (if u then Barred else (if n then (if a then New else Barred) else (if b then Plain else Barred))) ≡ Plain
    → (u ≡ false) × (n ≡ false) × (b ≡ true)
plain_tests false false a true is = (refl, refl, refl)
plain_tests true n a b is = absurd (cc)
plain_tests false true true b is = absurd (cc)
plain_tests false true false b is = absurd (cc)
plain_tests false false a false is = absurd (cc)

new_tests : (u n a b : Bool)
    → (if u then Barred else (if n then (if a then New else Barred) else (if b then Plain else Barred))) ≡ New
    → (u ≡ false) × (n ≡ true)
new_tests false true true b is = (refl, refl)
new_tests true n a b is = absurd (cc)
new_tests false true false b is = absurd (cc)
new_tests false false a true is = absurd (cc)
new_tests false false a false is = absurd (cc)

-- what a plain name is, and a new one
pub is_plain : (name : List ℕ) → kind_of name ≡ Plain → IsPlain name
is_plain name is =
    let tests = plain_tests (is_undo name) (is_new name) (nat_le (length name) 254) (nat_le (length name) 250) is in
    record { undo = tests.0; new = tests.1; few = leb-true _ _ tests.2 }

pub is_new_name : (name : List ℕ) → kind_of name ≡ New → IsNew name
is_new_name name is =
    let tests = new_tests (is_undo name) (is_new name) (nat_le (length name) 254) (nat_le (length name) 250) is in
    record { undo = tests.0; new = tests.1 }

-- no name is both
pub new-plain : (name : List ℕ) → kind_of name ≡ New → kind_of name ≡ Plain → ⊥
new-plain name new plain = false≢true (sym (is_plain name plain).new ∙ (is_new_name name new).new)

pub plain-barred : (name : List ℕ) → kind_of name ≡ Plain → kind_of name ≡ Barred → ⊥
plain-barred name plain barred = let same : Plain ≡ Barred = sym plain ∙ barred in absurd (cc)

-- a plain name is not one under which a new file is written
pub new-apart : (name other : List ℕ) → is_new name ≡ false → is_new other ≡ true → other ≢ name
new-apart name other plain new same = false≢true (sym plain ∙ ap is_new (sym same) ∙ new)

-- the empty name is plain
pub plain-empty : kind_of [] ≡ Plain
unfolding is_undo is_new
plain-empty = refl

-- a name with the ending of new files added is one of them
pub replacement-is_new : (name base : List ℕ) → name ≡ replacement_name base → is_new name ≡ true
unfolding is_new replacement_name
replacement-is_new name base is = ap is_new is ∙ ends-added base (codes ".new")
