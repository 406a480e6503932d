use Rattle.std.proofs.Common.{◌≡◌, ℕ, false, List, ◌++◌, get_or, take, refl, sym, ap, subst, ◌∙◌, arith}
use Rattle.std.proofs.lemmas.List.{take_all, take_more}
use Rattle.std.specs.List.{flat_map, list_any, range_with_len}
use Rattle.entry_codec.specs.Entry.{entries_per_block, is_unused, stored_id}
use Rattle.tree_meaning.specs.Entries.{entry_bytes, has_unused, id_in, used_ids}
use Rattle.tree_meaning.proofs.EntryLemmas.{any_more, made_more, used_one}
use Rattle.tree_meaning.proofs.entries.is_full_of.Goals as goal

pub loop-place-init : goal.loop-place-init
loop-place-init c = record { ids = refl; none = refl }

pub loop-place-preserved : goal.loop-place-preserved
loop-place-preserved c =
    let format = c.args.format in
    let block : List ℕ = c.args.block.now in
    let ids : List ℕ = c.args.ids.now in
    let place : ℕ = c.loop-place.place in
    let kept = c.loop-place.invariant in record {
      ids = take_more ids place 0 c.loop-place-test.true
          ∙ ap (λ (ns : List ℕ). take place ids ++ ns)
          (used_one format _ (get_or ids place 0)
          (ap is_unused (sym c.entry_bytes.ensures.value) ∙ c.in-Some.ensures.used)
          (sym c.if-used_by-id.true ∙ c.in-Some.ensures.id ∙ ap stored_id c.entry_bytes.ensures.value))
          ∙ made_more (λ p. id_in format (entry_bytes format block p)) place (take place ids) kept.ids;
      none = sym (ap is_unused (sym c.entry_bytes.ensures.value) ∙ c.in-Some.ensures.used)
          ∙ any_more (λ p. is_unused (entry_bytes format block p)) place false kept.none;
    }

pub returns-clause-ids : goal.returns-clause-ids
unfolding used_ids
returns-clause-ids c =
    let all : c.loop-place.place ≡ entries_per_block c.args.format = omega arith in
    sym
    (sym (take_all c.loop-place.place c.args.ids.now c.loop-place-test.false)
    ∙ subst (λ (n : ℕ). take c.loop-place.place c.args.ids.now
    ≡ flat_map (λ place. id_in c.args.format (entry_bytes c.args.format c.args.block.now place)) (range_with_len 0 n))
    all c.loop-place.invariant.ids)

pub returns-clause-full : goal.returns-clause-full
unfolding has_unused
returns-clause-full c =
    let all : c.loop-place.place ≡ entries_per_block c.args.format = omega arith in
    sym
    (subst (λ (n : ℕ).
    false ≡ list_any (λ place. is_unused (entry_bytes c.args.format c.args.block.now place)) (range_with_len 0 n))
    all c.loop-place.invariant.none)
