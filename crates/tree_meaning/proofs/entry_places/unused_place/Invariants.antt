use Rattle.std.proofs.Common.{◌≡◌, ℕ, ◌<◌, false}
use Rattle.entry_codec.specs.Entry.{is_unused}
use Rattle.tree_meaning.specs.Entries.{entry_bytes}
use Rattle.tree_meaning.proofs.entry_places.unused_place.Given as goal

abbrev pub invariant-loop-place : goal.invariant-loop-place
invariant-loop-place l = (before : ℕ) → before < l.place → is_unused (entry_bytes l.format l.block before) ≡ false
