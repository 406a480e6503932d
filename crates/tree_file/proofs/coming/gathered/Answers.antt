use Rattle.std.proofs.Common.{◌≡◌, ℕ, ◌<◌, List, [], ◌∷◌, ◌++◌, Some, sym, ap, subst, ◌∙◌}
use Rattle.quota_types.specs.declared.record.Rec.{Rec}
use Rattle.quota_value.specs.NextRecord.{IsNextAfter}
use Rattle.tree_file.specs.Coming.{AreFit, AreNext, StandsBy}
use Rattle.tree_file.proofs.ComingLemmas.{AreFit-push, AreNext-push, last_of, last_of-push}
use Rattle.tree_file.proofs.coming.gathered.Goals as goal

pub gather-preserved : goal.gather-preserved
gather-preserved c =
    let so_far = c.gather.invariant in
    let first : ℕ = c.args.leaf.number in
    let found : List (ℕ × Rec) = c.gather.found.items in
    let next : ℕ × Rec = (c.in-Some.entry.id, c.in-Some.entry.rec) in
    let grown : c.push.new.self.items ≡ found ++ next ∷ [] = c.push.ensures.items in
    let later : last_of first found < next.0 =
    subst (λ (last : ℕ). last < next.0) so_far.last c.in-Some.ensures.comes_after in
    record {
      beside = c.in-Some.ensures.beside ∙ so_far.beside;
      last = sym (ap (last_of first) grown ∙ last_of-push first found next);
      fits = subst (AreFit c.args.format first) (sym grown)
          (AreFit-push c.args.format first found next so_far.fits later c.in-Some.ensures.narrow
          c.in-Some.ensures.kept);
      next = λ value by.
          let is_next = c.in-Some.ensures.next value
          (subst (λ (number : ℕ). StandsBy c.args.format c.args.lowest.now c.args.data_block.now number
          c.args.leaf.block value) (sym so_far.beside) by) in
          subst (AreNext value.records first) (sym grown)
          (AreNext-push value.records first found next (so_far.next value by)
          (subst (λ (last : ℕ). IsNextAfter (Some last) value.records (Some c.in-Some.entry)) so_far.last is_next));
    }
