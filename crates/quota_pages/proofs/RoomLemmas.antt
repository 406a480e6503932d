-- Room for blocks of which some are buffered.
use Rattle.std.proofs.Common.{◌≡◌, ℕ, ◌+◌, ◌≤◌, true, List, [], ◌∷◌, ◌++◌, length, take, ap, ◌∙◌, arith}
use Rattle.std.proofs.lemmas.List.{take-append-le, take-take, take_all}
use Rattle.quota_pages.specs.Page.{HasRoomFor, Page, is_buffered}
use Rattle.quota_pages.specs.Used.{missing, missing_among}
use Rattle.quota_pages.proofs.UsedLemmas.{missing-few, room-missing}
use Rattle.quota_pages.proofs.UsesLemmas.{missing_among-cons, missing_among-nil, missing_among-stay}
use Rattle.quota_pages.proofs.UsesLemmas.{missing_among-take_few}

-- no more blocks are missing than there are
pub missing_among-few : (pages : List Page) (numbers : List ℕ) → missing_among pages numbers ≤ length numbers
missing_among-few pages [] = omega (arith, missing_among-nil pages)
missing_among-few pages (number ∷ numbers) =
    omega (arith, missing_among-cons pages number numbers, missing-few pages number, missing_among-few pages numbers)

-- some blocks miss as many among others that begin with them, at least
pub missing_among-front : (pages : List Page) (front rest : List ℕ) (most : ℕ) → length front ≤ most
    → missing_among pages front ≤ missing_among pages (take most (front ++ rest))
missing_among-front pages front rest most few =
    let is : take (length front) (take most (front ++ rest)) ≡ front =
    take-take (length front) most (front ++ rest) few ∙ take-append-le (length front) front rest (omega arith)
    ∙ take_all (length front) front (omega arith) in
    omega (arith, ap (missing_among pages) is, missing_among-take_few pages (take most (front ++ rest)) (length front))

-- where some blocks have room, the first of them has
pub room-first : (pages : List Page) (number : ℕ) (numbers : List ℕ)
    → length pages + missing_among pages (number ∷ numbers) ≤ 12 → HasRoomFor pages number
room-first pages number numbers room =
    room-missing pages number (omega (arith, room, missing_among-cons pages number numbers))

-- and the others have, once that was looked at
pub room-others : (old new : List Page) (number : ℕ) (numbers : List ℕ)
    → ((other : ℕ) → is_buffered old other ≡ true → is_buffered new other ≡ true)
    → length new ≤ length old + missing old number
    → length old + missing_among old (number ∷ numbers) ≤ 12 → length new + missing_among new numbers ≤ 12
room-others old new number numbers stay few room =
    omega (arith, few, room, missing_among-cons old number numbers, missing_among-stay old new numbers stay)
