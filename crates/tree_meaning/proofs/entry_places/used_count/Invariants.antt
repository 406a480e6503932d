use Rattle.std.proofs.Common.{◌≡◌, ◌≤◌, length}
use Rattle.std.specs.List.{flat_map, range_with_len}
use Rattle.tree_meaning.specs.Entries.{entry_bytes, id_in}
use Rattle.tree_meaning.proofs.entry_places.used_count.Given as goal

abbrev pub invariant-loop-place : goal.invariant-loop-place
invariant-loop-place l = record {
  count : l.count
      ≡ length (flat_map (λ place. id_in l.format (entry_bytes l.format l.block place)) (range_with_len 0 l.place));
  few : l.count ≤ l.place;
}
