-- How many blocks are missing in a buffer.
use Rattle.std.proofs.Common.{ℕ, ◌+◌, ◌≤◌, ◌⊎◌, List, [], ◌∷◌, inl, length, arith}
use Rattle.quota_pages.specs.Page.{Page}
use Rattle.quota_pages.specs.Used.{HasRoomWithin, missing_among}
use Rattle.quota_pages.proofs.UsedLemmas.{missing-few}
use Rattle.quota_pages.proofs.UsesLemmas.{missing_among-cons, missing_among-nil}

-- at most all of some blocks are missing
pub few_missing : (pages : List Page) (numbers : List ℕ) → missing_among pages numbers ≤ length numbers
few_missing pages [] = omega (arith, missing_among-nil pages)
few_missing pages (number ∷ numbers) =
    omega (arith, missing_among-cons pages number numbers, missing-few pages number, few_missing pages numbers)

-- where there is room for as many blocks as a call may look at, it need not be known which they are
pub room_many : {K : Type 0} (pages : List Page) (most : ℕ) (numbers : List ℕ) → length pages + most ≤ 12
    → HasRoomWithin K pages most numbers
room_many pages most numbers many = inl many

pub room_either : {K : Type 0} (pages : List Page) (most : ℕ) → length pages + most ≤ 12
    → (length pages + most ≤ 12) ⊎ K
room_either pages most many = inl many
