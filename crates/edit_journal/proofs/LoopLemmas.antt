-- One range more, as the loops over kept ranges come to it, and files that are torn within ranges.
use Rattle.std.proofs.Common.{◌≡◌, ℕ, ◌+◌, ◌<◌, ◌≤◌, inl, List, [], ◌∷◌, ◌++◌, length, take, Option, Some, unwrap_or}
use Rattle.std.proofs.Common.{sym, ap, ◌∙◌, subst, get_or, arith, length-take, zero, suc}
use Rattle.std.proofs.lemmas.List.{length-map, map_more, take_all}
use Rattle.disk.specs.DiskCalls.{IsOutside, Torn, ChangesFile}
use Rattle.edit_journal.specs.ByteRanges.{ByteRange, laid, range_of, ranges_of, with_laid}
use Rattle.edit_journal.specs.Undo.{range_at}
use Rattle.edit_journal.specs.UndoSaves.{SavesFrom, SavesOne, IsOutsideAll}
use Rattle.edit_journal.specs.declared.kept.KeptRange.{KeptRange}
use Rattle.edit_journal.proofs.LaidBytesLemmas.{laid-more}
use Rattle.edit_journal.proofs.SavedLemmas.{saves_from-more, saves_from-same}
use Rattle.disk.specs.DiskSeen.{DiskSeen, Passes}
use Rattle.disk.proofs.StepLemmas.{changes_file-then, torn-less, torn-then}
use Rattle.disk.proofs.StopLemmas.{passes-then, passes-wider}

-- the ranges so far and one more
spans-more : (ranges : List KeptRange) (i : ℕ) (range : KeptRange) → range ≡ get_or ranges i range → i < length ranges
    → ranges_of (take (i + 1) ranges) ≡ ranges_of (take i ranges) ++ range_of range ∷ []
spans-more ranges i range is below =
    map_more range_of ranges i range below
    ∙ ap (λ (r : KeptRange). ranges_of (take i ranges) ++ range_of r ∷ []) (sym is)

-- all ranges
pub ranges-all : (ranges : List KeptRange) (i : ℕ) → length ranges ≤ i → ranges_of (take i ranges) ≡ ranges_of ranges
ranges-all ranges i all = ap (λ (l : List KeptRange). ranges_of l) (take_all i ranges all)

-- one range more, laid over a file
pub laid-next : (ranges : List KeptRange) (i : ℕ) (range : KeptRange) (file : List ℕ) → range ≡ get_or ranges i range
    → i < length ranges
    → laid (ranges_of (take (i + 1) ranges)) file
    ≡ with_laid (laid (ranges_of (take i ranges)) file) range.at range.bytes.items
laid-next ranges i range file is below =
    ap (λ (s : List ByteRange). laid s file) (spans-more ranges i range is below)
    ∙ laid-more (ranges_of (take i ranges)) (range_of range) file

-- the file that has it
pub laid-step : (ranges : List KeptRange) (i : ℕ) (range : KeptRange) (old : List ℕ) (mid new : Option (List ℕ))
    → range ≡ get_or ranges i range → i < length ranges
    → mid ≡ Some (laid (ranges_of (take i ranges)) old)
    → new ≡ Some (with_laid (unwrap_or mid []) range.at range.bytes.items)
    → new ≡ Some (laid (ranges_of (take (i + 1) ranges)) old)
laid-step ranges i range old mid new is below before one =
    one
    ∙ ap (λ (f : Option (List ℕ)). Some (with_laid (unwrap_or f []) range.at range.bytes.items)) before
    ∙ ap (λ (f : List ℕ). Some f) (sym (laid-next ranges i range old is below))

-- one range more is saved
pub saves-step : (old now : List ℕ) (ranges : List KeptRange) (i : ℕ) (range : KeptRange) (undo new : Option (List ℕ))
    → range ≡ get_or ranges i range → i < length ranges → now ≡ old
    → SavesFrom old 0 (ranges_of (take i ranges)) (unwrap_or undo []) → Torn (IsOutside (range_at i) 1040) undo new
    → SavesOne now i range.at (length range.bytes.items) (unwrap_or new [])
    → SavesFrom old 0 (ranges_of (take (i + 1) ranges)) (unwrap_or new [])
saves-step old now ranges i range undo new is below same before torn one =
    let spans : List ByteRange = ranges_of (take i ranges) in
    let count : 0 + length spans ≡ i = omega (arith, length-map (take i ranges) range_of, length-take i ranges) in
    let kept : SavesFrom old 0 spans (unwrap_or new []) =
    saves_from-same old 0 spans (unwrap_or undo []) (unwrap_or new []) before torn.no_shorter
    (λ p from inside to. torn.same p (inl (omega (arith, to, count))) inside) in
    let here : SavesOne old (0 + length spans) range.at (length range.bytes.items) (unwrap_or new []) =
    subst (λ (n : ℕ). SavesOne old n range.at (length range.bytes.items) (unwrap_or new [])) (sym count)
    (subst (λ (f : List ℕ). SavesOne f i range.at (length range.bytes.items) (unwrap_or new [])) same one) in
    subst (λ (s : List ByteRange). SavesFrom old 0 s (unwrap_or new [])) (sym (spans-more ranges i range is below))
    (saves_from-more old 0 spans (range_of range) (unwrap_or new []) kept here)

-- two changes in a row that tear a file but for the same places
pub tears-then : (stays : ℕ → Type 0) (name : List ℕ) (a b c : DiskSeen) → Passes (ChangesFile (Torn stays) name) a b
    → Passes (ChangesFile (Torn stays) name) b c → Passes (ChangesFile (Torn stays) name) a c
tears-then stays name a b c first second =
    passes-then (ChangesFile (Torn stays) name) a b c
    (λ x y z one two. changes_file-then (Torn stays) name x y z (torn-then stays (x name) (y name) (z name)) one two)
    first second

-- fewer places stay
pub tears-less : (more fewer : ℕ → Type 0) (name : List ℕ) (a b : DiskSeen) → ((place : ℕ) → fewer place → more place)
    → Passes (ChangesFile (Torn more) name) a b → Passes (ChangesFile (Torn fewer) name) a b
tears-less more fewer name a b sub passes =
    passes-wider (ChangesFile (Torn more) name) (ChangesFile (Torn fewer) name) a b
    (λ x y step. (torn-less more fewer (x name) (y name) sub step.0, step.1)) passes

-- a place outside of all ranges is outside of each
pub outside-each : (ranges : List KeptRange) (i : ℕ) (d : KeptRange) (place : ℕ) → i < length ranges
    → IsOutsideAll (ranges_of ranges) place
    → IsOutside (get_or ranges i d).at (length (get_or ranges i d).bytes.items) place
outside-each [] i d place below outside = absurd (omega (arith, below))
outside-each (range ∷ rest) zero d place below outside = outside.0
outside-each (range ∷ rest) (suc i) d place below outside = outside-each rest i d place (omega (arith, below)) outside.1

-- the same of a range that stands among the ranges
pub outside-item : (ranges : List KeptRange) (i : ℕ) (range : KeptRange) → range ≡ get_or ranges i range
    → i < length ranges → (place : ℕ) → IsOutsideAll (ranges_of ranges) place
    → IsOutside range.at (length range.bytes.items) place
outside-item ranges i range is below place outside =
    subst (λ (r : KeptRange). IsOutside r.at (length r.bytes.items) place) (sym is)
    (outside-each ranges i range place below outside)
