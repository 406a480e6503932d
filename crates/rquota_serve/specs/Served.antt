-- How many datagrams were served, and how many calls of `read` that took.
use Rattle.std.specs.Prelude.{◌≡◌, ℕ, ◌+◌, ◌*◌, ◌≤◌, List, ◌++◌, length}
use Rattle.outside.specs.Seen.{Datagram, LinkSeen}
use Rattle.rquota_serve.specs.ExportedValues.{ExportedValues}
use Rattle.rquota_serve.specs.Serving.{answers_of}

-- This many datagrams were taken, those without a reply counted too, and the answers to them were sent, and no others.
pub record Served (serves : ExportedValues → Type 0) (calls : ℕ) (old new : LinkSeen) : Type 0 where
  pub taken : List Datagram
  pub left : old.left ≡ taken ++ new.left
  pub number : length taken ≡ calls
  pub answers : (exported : ExportedValues) → serves exported → new.answers ≡ old.answers ++ answers_of exported taken

-- Datagrams were taken from a link, and for each of them a store had at most `most` calls of `read`.
pub record ReadsForTaken (most : ℕ) (old new : LinkSeen) (before now : ℕ) : Type 0 where
  pub taken : List Datagram
  pub left : old.left ≡ taken ++ new.left
  pub few : now ≤ before + most * length taken
