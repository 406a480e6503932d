-- What steps receive from a link, and how many datagrams were taken from it.
use Rattle.std.specs.Prelude.{◌≡◌, ℕ, suc, ◌+◌, List, ◌++◌, length, Some, None, ⊤}
use Rattle.quota_value.specs.QuotaValue.{QuotaValue}
use Rattle.outside.specs.Seen.{Datagram}
use Rattle.outside.specs.World.{World}
use Rattle.run_steps.specs.Steps.{Steps, Ending, Doing, Looking, Opening, Reading, Starting, Receiving, Before, InLine}

-- Where these steps pass, this many datagrams were received.
abbrev pub Receives : ℕ → Steps → Type 0
Receives count (Ending None) = count ≡ 0
Receives count (Ending (Some refusal)) = ⊤
Receives count (Doing act next) = Receives count next
Receives count (Looking next) = (files : World) → Receives count (next files)
Receives count (Opening kind asked name next) = (value : QuotaValue) → Receives count (next value)
Receives count (Reading whole next) = (bytes : List ℕ) → Receives count (next bytes)
Receives count (Starting port next) = Receives count next
Receives count (Receiving next) =
    (more : ℕ) × (count ≡ suc more) × ((datagram : Datagram) → Receives more (next datagram))
Receives count (Before one others) =
    (first : ℕ) × (more : ℕ) × (count ≡ first + more) × Receives first one × Receives more others
Receives count (InLine line steps) = Receives count steps

-- this many datagrams were taken, and these are left
pub record AreReceived (count : ℕ) (old new : List Datagram) : Type 0 where
  pub taken : List Datagram
  pub behind : old ≡ taken ++ new
  pub counted : length taken ≡ count
