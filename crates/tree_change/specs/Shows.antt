-- What a buffer of pages shows of a tree file that is changed block by block.
use Rattle.std.specs.Prelude.{ℕ, Bool, true, false, List, [], ◌∷◌, length, Option, None}
use Rattle.quota_types.specs.declared.file_kind.Format.{Format}
use Rattle.entry_codec.specs.Header.{header_of}
use Rattle.entry_codec.specs.Spelling.{AreOf}
use Rattle.entry_codec.specs.declared.header.Header.{Header}
use Rattle.quota_value.specs.QuotaValue.{QuotaValue, Records}
use Rattle.outside.specs.Seen.{StoreSeen}
use Rattle.quota_pages.specs.Pages.{pages_of}
use Rattle.quota_pages.specs.Used.{IsKnown, LendsSome, LooksAtSome, missing, shown_over}
use Rattle.quota_pages.specs.declared.page_buffer.Pages.{Pages}
use Rattle.quota_radix.specs.declared.tree_path.TreePath.{TreePath}
use Rattle.free_chains.specs.declared.heads.Heads.{Heads}
use Rattle.tree_meaning.specs.IsTree.{IsTree}
use Rattle.tree_meaning.specs.Loose.{Loose, loose_of}
use Rattle.tree_meaning.specs.TreeFile.{TreeStandsFor}

-- the page of one block was lent for writing, which was read if it was missing
abbrev pub LendsOne : (tells : Bool) → (block : ℕ) → (before now : StoreSeen) → (old new : Pages) → Type 0
LendsOne tells block before now old new =
    LendsSome tells true (missing (pages_of old) block) (block ∷ []) before now old new

-- it was not, since the store failed
abbrev pub LooksAtOne : (tells : Bool) → (block : ℕ) → (before now : StoreSeen) → (old new : Pages) → Type 0
LooksAtOne tells block before now old new = LooksAtSome tells false (missing (pages_of old) block) before now old new

-- bytes are a whole tree with these heads and records, but for what is loose
abbrev pub IsWholeTree : Loose → Format → List ℕ → Heads → Records → Type 0
IsWholeTree loose format file heads records = IsTree loose format file (length file) heads records

-- what a buffer shows over its file, as a store has it, is a tree with these heads and records, but for what is loose
abbrev pub ShowsTree : Loose → Format → StoreSeen → Pages → Heads → Records → Type 0
ShowsTree loose format seen pages heads records = IsWholeTree loose format (shown_over seen pages) heads records

-- no bytes of a tree with these heads are so, whatever is held of it, whether a leaf is awaited, and whatever its
-- records are
abbrev pub IsNoTree : Format → List ℕ → Heads → Type 0
IsNoTree format file heads =
    (held : List ℕ) (awaited : Option TreePath) (records : Records)
    → ¬ IsWholeTree (loose_of held awaited None) format file heads records

-- the same of a tree of which no leaf is awaited
abbrev pub IsNoCompleteTree : Format → List ℕ → Heads → Type 0
IsNoCompleteTree format file heads =
    (held : List ℕ) (records : Records) → ¬ IsWholeTree (loose_of held None None) format file heads records

-- where what a buffer shows over its file is known, something holds of that
abbrev pub OfShown : (tells : Bool) → StoreSeen → Pages → (holds : List ℕ → Type 0) → Type 0
OfShown tells seen pages holds = IsKnown tells seen pages → holds (shown_over seen pages)

-- where what a buffer shows before a call is known, something holds of that and of what it shows then
abbrev pub OfChange : (tells : Bool) → (before now : StoreSeen) → (old new : Pages)
    → (holds : List ℕ → List ℕ → Type 0) → Type 0
OfChange tells before now old new holds = IsKnown tells before old → holds (shown_over before old) (shown_over now new)

-- where what a buffer shows is known, something holds of each tree of which no leaf is awaited that it is, by what is
-- held of it and its records
abbrev pub OfEachTree : (tells : Bool) → Format → StoreSeen → Pages → Heads
    → (holds : List ℕ → Records → Type 0) → Type 0
OfEachTree tells format seen pages heads holds =
    IsKnown tells seen pages → (held : List ℕ) (records : Records)
    → ShowsTree (loose_of held None None) format seen pages heads records → holds held records

-- where what a buffer shows is known and has this header, something holds of each value for which it stands
abbrev pub OfEachValue : (tells : Bool) → StoreSeen → Pages → Header → (holds : QuotaValue → Type 0) → Type 0
OfEachValue tells seen pages header holds =
    IsKnown tells seen pages → AreOf header (header_of (shown_over seen pages)) → (value : QuotaValue)
    → TreeStandsFor (shown_over seen pages) value → holds value

-- the same of what the buffer shows before a call, and then
abbrev pub OfValueChange : (tells : Bool) → (before now : StoreSeen) → (old new : Pages) → Header
    → (holds : QuotaValue → List ℕ → List ℕ → Type 0) → Type 0
OfValueChange tells before now old new header holds =
    OfEachValue tells before old header (λ value. holds value (shown_over before old) (shown_over now new))
