use Rattle.std.proofs.Common.{◌≡◌, ℕ, ◌||◌, List, ◌++◌, ap, subst, ◌∙◌, arith}
use Rattle.std.specs.List.{flat_map, list_any, range_with_len}
use Rattle.entry_codec.specs.Entry.{entries_per_block, is_unused}
use Rattle.tree_meaning.specs.Entries.{entry_bytes, has_unused, id_in, used_ids}
use Rattle.tree_meaning.proofs.EntryLemmas.{any_more, made_more}
use Rattle.tree_meaning.proofs.entries.read_used.Goals as goal

pub loop-place-preserved : goal.loop-place-preserved
loop-place-preserved c =
    let format = c.args.format in
    let block : List ℕ = c.args.block.now in
    let place : ℕ = c.loop-place.place in
    let kept = c.loop-place.invariant in record {
      ids = c.add.ensures.ids
          ∙ ap (λ (bytes : List ℕ). c.loop-place.used.ids.items ++ id_in format bytes) c.entry_bytes.ensures.value
          ∙ made_more (λ p. id_in format (entry_bytes format block p)) place c.loop-place.used.ids.items kept.ids;
      unused = c.add.ensures.unused
          ∙ ap (λ (bytes : List ℕ). c.loop-place.used.has_unused || is_unused bytes) c.entry_bytes.ensures.value
          ∙ any_more (λ p. is_unused (entry_bytes format block p)) place c.loop-place.used.has_unused kept.unused;
      len = omega (arith, c.add.ensures.len, kept.len);
    }

pub returns-clause-ids : goal.returns-clause-ids
unfolding used_ids
returns-clause-ids c =
    let all : c.loop-place.place ≡ entries_per_block c.args.format =
    omega (arith, c.entries_per_block-place-end.ensures) in
    subst (λ (n : ℕ). c.loop-place.used.ids.items
    ≡ flat_map (λ place. id_in c.args.format (entry_bytes c.args.format c.args.block.now place)) (range_with_len 0 n))
    all c.loop-place.invariant.ids

pub returns-clause-unused : goal.returns-clause-unused
unfolding has_unused
returns-clause-unused c =
    let all : c.loop-place.place ≡ entries_per_block c.args.format =
    omega (arith, c.entries_per_block-place-end.ensures) in
    subst (λ (n : ℕ). c.loop-place.used.has_unused
    ≡ list_any (λ place. is_unused (entry_bytes c.args.format c.args.block.now place)) (range_with_len 0 n))
    all c.loop-place.invariant.unused
