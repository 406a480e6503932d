use Rattle.std.proofs.Common.{◌≡◌, Bool, None, sym, subst, inl, inr}
use Rattle.std.proofs.lemmas.Bool.Decides.{eqb_tells}
use Rattle.std.specs.Bool.{OnFalse}
use Rattle.tree_meaning.specs.EntryRecords.{record_by}
use Rattle.tree_meaning.proofs.RecordLemmas.{other_entry}
use Rattle.tree_meaning.proofs.entries.has_id.Goals as goal

pub returns : goal.returns
returns c =
    let P : Bool → Type 0 = λ is. OnFalse is (record_by c.args.format c.args.block.now c.args.id c.args.place ≡ None) in
    elim (eqb_tells c.le32.result c.args.id) [
      | inl same ↦ record { other = subst P (sym same.0) tt }
      | inr apart ↦ record {
        other = subst P (sym apart.0)
            (other_entry c.args.format c.args.block.now c.args.id c.args.place c.record_size.result c.le32.result
            c.requires.tree c.record_size.ensures c.le32.ensures apart.1);
      }
    ]
