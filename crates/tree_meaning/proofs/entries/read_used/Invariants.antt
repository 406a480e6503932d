use Rattle.std.proofs.Common.{◌≡◌, ◌≤◌}
use Rattle.std.specs.List.{flat_map, list_any, range_with_len}
use Rattle.arrayvec.specs.ArrayVec.{array_vec_len}
use Rattle.entry_codec.specs.Entry.{is_unused}
use Rattle.tree_meaning.specs.Entries.{entry_bytes, id_in}
use Rattle.tree_meaning.proofs.entries.read_used.Given as goal

abbrev pub invariant-loop-place : goal.invariant-loop-place
invariant-loop-place l = record {
  ids : l.used.ids.items
      ≡ flat_map (λ place. id_in l.format (entry_bytes l.format l.block place)) (range_with_len 0 l.place);
  unused : l.used.has_unused
      ≡ list_any (λ place. is_unused (entry_bytes l.format l.block place)) (range_with_len 0 l.place);
  len : array_vec_len l.used.ids ≤ l.place;
}
