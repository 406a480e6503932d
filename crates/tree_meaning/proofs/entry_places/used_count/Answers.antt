use Rattle.std.proofs.Common.{◌≡◌, ℕ, List, length, refl, ap, subst, arith, length-append}
use Rattle.std.specs.List.{flat_map, range_with_len}
use Rattle.entry_codec.specs.Entry.{entries_per_block}
use Rattle.tree_meaning.specs.Entries.{entry_bytes, id_in, used_ids}
use Rattle.tree_meaning.proofs.EntryLemmas.{made_more}
use Rattle.tree_meaning.proofs.entry_places.used_count.Goals as goal

pub loop-place-preserved : goal.loop-place-preserved
loop-place-preserved c =
    let format = c.args.format in
    let block : List ℕ = c.args.block.now in
    let place : ℕ = c.loop-place.place in
    let f : ℕ → List ℕ = λ p. id_in format (entry_bytes format block p) in
    let more = made_more f place (flat_map f (range_with_len 0 place)) refl in
    let kept = c.loop-place.invariant in record {
      count = omega (
        arith,
        kept.count,
        c.uses_at-count.ensures.count,
        ap length more,
        length-append (flat_map f (range_with_len 0 place)) (f place),
      );
      few = omega (arith, kept.few, c.uses_at-count.ensures.one);
    }

pub returns-clause-count : goal.returns-clause-count
unfolding used_ids
returns-clause-count c =
    let all : c.loop-place.place ≡ entries_per_block c.args.format =
    omega (arith, c.entries_per_block-place-end.ensures) in
    subst (λ (n : ℕ). c.loop-place.count
    ≡ length
    (flat_map (λ place. id_in c.args.format (entry_bytes c.args.format c.args.block.now place)) (range_with_len 0 n)))
    all c.loop-place.invariant.count
