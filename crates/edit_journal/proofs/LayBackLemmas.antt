-- A saved range that is laid back.
use Rattle.std.proofs.Common.{◌≡◌, ℕ, ◌+◌, ◌<◌, ◌≤◌, ◌^◌, Bool, true, false, ◌&&◌, ◌||◌, refl, List, [], length}
use Rattle.std.proofs.Common.{unwrap_or, ap, ◌∙◌, subst, arith}
use Rattle.std.specs.Prelude.{nat_eq, nat_le}
use Rattle.std.proofs.lemmas.Bool.{false≢true, leb-true}
use Rattle.outside.specs.World.{World}
use Rattle.disk.specs.DiskSeen.{DiskSeen, Passes}
use Rattle.disk.specs.DiskCalls.{IsOutside, TearsRange}
use Rattle.quota_types.specs.Bytes.{number_at}
use Rattle.edit_journal.specs.Recovery.{IsSame, MendsFile}
use Rattle.edit_journal.specs.ByteRanges.{ByteRange, laid, with_laid}
use Rattle.edit_journal.specs.Undo.{bytes_at, saved_range, saved_ranges, range_fits, ranges_fit}
use Rattle.edit_journal.proofs.MendedFileLemmas.{laid_back-more, mends_file-range, mends_file-then}
use Rattle.edit_journal.proofs.ReadLemmas.{fit-each, looks-wider}
use Rattle.edit_journal.proofs.LoopLemmas.{tears-then}

-- the first two of three facts
and-two_true : (a b c : Bool) → (a && b && c) ≡ true → (a ≡ true) × (b ≡ true)
and-two_true true true c is = (refl, refl)
and-two_true false b c is = absurd (false≢true is)
and-two_true true false c is = absurd (false≢true is)

-- a saved range that fits has few bytes and a low place
pub range-parts : (old_length : ℕ) (span : ByteRange) → range_fits old_length span ≡ true
    → (length span.bytes ≤ 1024) × (span.at ≤ 2 ^ 42)
range-parts old_length span fit =
    let two = and-two_true (nat_le (length span.bytes) 1024) (nat_le span.at (2 ^ 42))
    (nat_eq (length span.bytes) 0 || nat_le (span.at + length span.bytes) old_length) fit in
    (leb-true _ _ two.0, leb-true _ _ two.1)

-- a file that is torn within a range once other files were read
pub tears-looks : (name : List ℕ) (at len place count : ℕ) (a b c : DiskSeen) → Passes IsSame a b → at ≡ place
    → len ≡ count → Passes (TearsRange name at len) b c → Passes (TearsRange name place count) a c
tears-looks name at len place count a b c looks here many tears =
    tears-then (IsOutside place count) name a b c
    (looks-wider (TearsRange name place count) a b
    (λ files.
    (record { there = λ is. is; no_shorter = omega arith; same = λ p stays below. refl }, λ other differ. refl)) looks)
    (subst (λ (p : ℕ). Passes (TearsRange name p count) b c) here
    (subst (λ (n : ℕ). Passes (TearsRange name at n) b c) many tears))

-- a range that is laid over a file once other files were read
pub laid-looks : (a b c : DiskSeen) (name undo : List ℕ) (at place from start len count : ℕ) → Passes IsSame a b
    → at ≡ place → from ≡ start → len ≡ count
    → unwrap_or (c.files name) []
    ≡ with_laid (unwrap_or (b.files name) []) at (bytes_at (unwrap_or (b.files undo) []) from len)
    → unwrap_or (c.files name) []
    ≡ with_laid (unwrap_or (a.files name) []) place (bytes_at (unwrap_or (a.files undo) []) start count)
laid-looks a b c name undo at place from start len count looks here there many laid =
    laid
    ∙ ap (λ (f : World). with_laid (unwrap_or (f name) []) at (bytes_at (unwrap_or (f undo) []) from len))
    looks.follows.read
    ∙ ap (λ (p : ℕ). with_laid (unwrap_or (a.files name) []) p (bytes_at (unwrap_or (a.files undo) []) from len)) here
    ∙ ap (λ (p : ℕ). with_laid (unwrap_or (a.files name) []) place (bytes_at (unwrap_or (a.files undo) []) p len)) there
    ∙ ap
    (λ (n : ℕ). with_laid (unwrap_or (a.files name) []) place (bytes_at (unwrap_or (a.files undo) []) start n)) many

-- one of the saved ranges fits, as an undo file has it that is the same
pub fit-here : (old_length : ℕ) (undo there : List ℕ) (k count : ℕ) → there ≡ undo
    → ranges_fit old_length (saved_ranges undo 0 count) ≡ true → k < count
    → range_fits old_length (saved_range there k) ≡ true
fit-here old_length undo there k count same fit below =
    let here : k ≡ 0 + k = omega arith in
    ap (λ (f : List ℕ). range_fits old_length (saved_range f k)) same
    ∙ ap (λ (n : ℕ). range_fits old_length (saved_range undo n)) here
    ∙ fit-each old_length undo 0 count fit k below

-- a file that was mended is mended still once one more saved range is laid back
pub ranges-mended : (name undo there : List ℕ) (k count : ℕ) (a b c : DiskSeen) → there ≡ undo
    → number_at 4 undo 16 ≡ count → k < count → Passes (MendsFile name undo) a b
    → Passes (TearsRange name (saved_range there k).at (length (saved_range there k).bytes)) b c
    → Passes (MendsFile name undo) a c
ranges-mended name undo there k count a b c same counts below before tears =
    mends_file-then name undo a b c before
    (mends_file-range name undo k b c (omega (arith, below, counts))
    (subst
    (λ (f : List ℕ). Passes (TearsRange name (saved_range f k).at (length (saved_range f k).bytes)) b c) same tears))

-- the same of the bytes that are read
pub ranges-laid : (undo there file mid new : List ℕ) (k : ℕ) → there ≡ undo → mid ≡ laid (saved_ranges undo 0 k) file
    → new ≡ with_laid mid (saved_range there k).at (saved_range there k).bytes
    → new ≡ laid (saved_ranges undo 0 (k + 1)) file
ranges-laid undo there file mid new k same before one =
    laid_back-more undo file mid new k before
    (one ∙ ap (λ (f : List ℕ). with_laid mid (saved_range f k).at (saved_range f k).bytes) same)
