use Rattle.std.proofs.Common.{◌≡◌, ℕ, List, false, true, length, refl, sym, ap, ◌∙◌}
use Rattle.entry_codec.specs.Entry.{is_unused, stored_id}
use Rattle.tree_meaning.specs.Entries.{entry_bytes}
use Rattle.tree_meaning.proofs.EntryLemmas.{unused_none, used_one}
use Rattle.tree_meaning.proofs.entry_places.uses_at.Goals as goal

pub returns-in-Some-clause-count : goal.returns-in-Some-clause-count
returns-in-Some-clause-count c =
    let bytes : List ℕ = entry_bytes c.args.format c.args.block.now c.args.place in
    let used : is_unused bytes ≡ false = ap is_unused (sym c.entry_bytes.ensures.value) ∙ c.in-Some.ensures.used in
    ap (λ (ids : List ℕ). length ids) (used_one c.args.format bytes (stored_id bytes) used refl)

pub returns-in-None-clause-count : goal.returns-in-None-clause-count
returns-in-None-clause-count c =
    let bytes : List ℕ = entry_bytes c.args.format c.args.block.now c.args.place in
    let unused : is_unused bytes ≡ true = ap is_unused (sym c.entry_bytes.ensures.value) ∙ c.in-None.ensures.unused in
    sym (ap (λ (ids : List ℕ). length ids) (unused_none c.args.format bytes unused))
