-- What is read of an undo file.
use Rattle.std.proofs.Common.{◌≡◌, ℕ, zero, suc, ◌+◌, ◌<◌, ◌≤◌, ◌^◌, Bool, true, false, ◌&&◌, ◌||◌, get_or, refl, List}
use Rattle.std.proofs.Common.{length, drop, sym, ap, ◌∙◌, subst, arith}
use Rattle.std.specs.Prelude.{nat_eq, nat_le}
use Rattle.std.proofs.lemmas.Bool.{false≢true}
use Rattle.std.proofs.lemmas.List.{get_or-drop}
use Rattle.outside.specs.World.{World}
use Rattle.disk.specs.DiskSeen.{DiskSeen, IsDurable, Passes}
use Rattle.disk.proofs.StopLemmas.{passes-then, passes-wider}
use Rattle.quota_types.specs.Bytes.{byte_at, number_at}
use Rattle.quota_types.proofs.BytesLemmas.{number_at-drop, number_same}
use Rattle.edit_journal.specs.Recovery.{IsSame}
use Rattle.edit_journal.specs.Undo.{bytes_at, range_at, saved_range, saved_ranges, range_fits, ranges_fit}
use Rattle.edit_journal.proofs.SavedLemmas.{length-bytes_at}
use Rattle.edit_journal.proofs.WrittenLemmas.{bytes_at-list}

-- a number in bytes that were read from a place on
pub number-read : (width place at : ℕ) (file buf : List ℕ) (len : ℕ)
    → ((j : ℕ) → j < len → get_or buf j 0 ≡ byte_at file (place + j)) → at + width ≤ len
    → number_at width buf at ≡ number_at width file (place + at)
number-read width place at file buf len same within =
    number_same width at buf (drop place file)
    (λ p from to. same p (omega (arith, to, within)) ∙ sym (get_or-drop place file p 0))
    ∙ number_at-drop width place file at

-- reading passes by no change
pub looks-then : (a b c : DiskSeen) → Passes IsSame a b → Passes IsSame b c → Passes IsSame a c
looks-then a b c first second = passes-then IsSame a b c (λ x y z one two. two ∙ one) first second

-- where nothing changes a file is kept
pub looks-kept : (name : List ℕ) (a b : DiskSeen) → IsDurable name a → Passes IsSame a b → IsDurable name b
looks-kept name a b kept looks image left =
    let from = looks.follows.left image left in
    ap (λ (f : World). f name) from.2 ∙ kept from.0 from.1 ∙ ap (λ (f : World). f name) (sym looks.follows.read)

-- no change is a step of each kind that leads from files to the same
pub looks-wider : (step : World → World → Type 0) (a b : DiskSeen) → ((files : World) → step files files)
    → Passes IsSame a b → Passes step a b
looks-wider step a b same looks =
    passes-wider IsSame step a b (λ x y is. subst (λ (f : World). step x f) (sym is) (same x)) looks

-- whether a saved range fits, by its numbers
pub fits-numbers : (old_length at saved k : ℕ) (undo : List ℕ) → at ≡ number_at 8 undo (range_at k)
    → saved ≡ number_at 2 undo (range_at k + 8)
    → range_fits old_length (saved_range undo k)
    ≡ (nat_le saved 1024 && nat_le at (2 ^ 42) && (nat_eq saved 0 || nat_le (at + saved) old_length))
fits-numbers old_length at saved k undo place number =
    let long : length (saved_range undo k).bytes ≡ saved =
    length-bytes_at undo (range_at k + 16) (number_at 2 undo (range_at k + 8)) ∙ sym number in
    ap (λ (n : ℕ). nat_le n 1024 && nat_le (saved_range undo k).at (2 ^ 42)
    && (nat_eq n 0 || nat_le ((saved_range undo k).at + n) old_length)) long
    ∙ ap
    (λ (p : ℕ). nat_le saved 1024 && nat_le p (2 ^ 42) && (nat_eq saved 0 || nat_le (p + saved) old_length)) (sym place)

and_true : (a b : Bool) → a ≡ true → b ≡ true → (a && b) ≡ true
and_true a b x y = rw (x, y) refl

and_first : (a b : Bool) → (a && b) ≡ true → a ≡ true
and_first true b is = refl
and_first false b is = absurd (false≢true is)

and_second : (a b : Bool) → (a && b) ≡ true → b ≡ true
and_second true b is = is
and_second false b is = absurd (false≢true is)

-- all ranges fit where each does
pub fit-all : (old_length : ℕ) (undo : List ℕ) (k count : ℕ)
    → ((i : ℕ) → i < count → range_fits old_length (saved_range undo (k + i)) ≡ true)
    → ranges_fit old_length (saved_ranges undo k count) ≡ true
fit-all old_length undo k zero each = refl
fit-all old_length undo k (suc count) each =
    let here : k + 0 ≡ k = omega arith in
    and_true _ _
    (ap (λ (n : ℕ). range_fits old_length (saved_range undo n)) (sym here) ∙ each 0 (omega arith))
    (fit-all old_length undo (suc k) count
    (λ i below. let there : suc k + i ≡ k + suc i = omega arith in
    ap (λ (n : ℕ). range_fits old_length (saved_range undo n)) there ∙ each (suc i) (omega (arith, below))))

-- and each does where all do
pub fit-each : (old_length : ℕ) (undo : List ℕ) (k count : ℕ) → ranges_fit old_length (saved_ranges undo k count) ≡ true
    → (i : ℕ) → i < count → range_fits old_length (saved_range undo (k + i)) ≡ true
fit-each old_length undo k zero fit i below = absurd (omega (arith, below))
fit-each old_length undo k (suc count) fit zero below =
    let here : k + 0 ≡ k = omega arith in
    ap (λ (n : ℕ). range_fits old_length (saved_range undo n)) here ∙ and_first _ _ fit
fit-each old_length undo k (suc count) fit (suc i) below =
    let there : k + suc i ≡ suc k + i = omega arith in
    ap (λ (n : ℕ). range_fits old_length (saved_range undo n)) there
    ∙ fit-each old_length undo (suc k) count (and_second _ _ fit) i (omega (arith, below))

-- bytes that were read, as those of the file
pub padded-bytes : (file buf : List ℕ) (at len : ℕ) → length buf ≡ len
    → ((j : ℕ) → j < len → get_or buf j 0 ≡ byte_at file (at + j)) → buf ≡ bytes_at file at len
padded-bytes file buf at len long same =
    sym (bytes_at-list file at buf (λ j below. sym (same j (omega (arith, below, long)))))
    ∙ ap (λ (n : ℕ). bytes_at file at n) long
