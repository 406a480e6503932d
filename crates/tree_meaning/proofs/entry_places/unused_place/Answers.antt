use Rattle.std.proofs.Common.{◌≡◌, true, sym, rules, arith}
use Rattle.entry_codec.specs.Entry.{entries_per_block, is_unused}
use Rattle.tree_meaning.specs.Entries.{entry_bytes, has_unused}
use Rattle.tree_meaning.proofs.EntryLemmas.{any_there, no_test}
use Rattle.tree_meaning.proofs.entry_places.unused_place.Goals as goal

pub returns-then-is_none-clause-room : goal.returns-then-is_none-clause-room
unfolding has_unused
returns-then-is_none-clause-room c =
    let unused : is_unused (entry_bytes c.args.format c.args.block.now c.loop-place.place) ≡ true = search rules in
    sym (any_there (λ at. is_unused (entry_bytes c.args.format c.args.block.now at)) 0 (entries_per_block c.args.format)
    c.loop-place.place (omega arith) (omega (arith, c.entries_per_block-place-end.ensures)) unused)

pub returns-clause-room : goal.returns-clause-room
unfolding has_unused
returns-clause-room c =
    sym (no_test (λ at. is_unused (entry_bytes c.args.format c.args.block.now at)) 0 (entries_per_block c.args.format)
    (λ at from to. c.loop-place.invariant at (omega (arith, to, c.entries_per_block-place-end.ensures))))
