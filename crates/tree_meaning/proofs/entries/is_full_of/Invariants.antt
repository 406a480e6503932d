use Rattle.std.proofs.Common.{◌≡◌, false, take}
use Rattle.std.specs.List.{flat_map, list_any, range_with_len}
use Rattle.entry_codec.specs.Entry.{is_unused}
use Rattle.tree_meaning.specs.Entries.{entry_bytes, id_in}
use Rattle.tree_meaning.proofs.entries.is_full_of.Given as goal

abbrev pub invariant-loop-place : goal.invariant-loop-place
invariant-loop-place l = record {
  ids : take l.place l.ids
      ≡ flat_map (λ place. id_in l.format (entry_bytes l.format l.block place)) (range_with_len 0 l.place);
  none : false ≡ list_any (λ place. is_unused (entry_bytes l.format l.block place)) (range_with_len 0 l.place);
}
