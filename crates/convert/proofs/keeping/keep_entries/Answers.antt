use Rattle.std.proofs.Common.{false, sym, subst, ◌≡◌, ◌∙◌}
use Rattle.std.specs.Prelude.{All}
use Rattle.quota_types.specs.Rec.{is_null_of}
use Rattle.quota_types.specs.declared.record.Entry.{Entry}
use Rattle.convert.proofs.ListingLemmas.{all_lasting}
use Rattle.convert.proofs.keeping.keep_entries.Goals as goal

pub keep_all-requires : goal.keep_all-requires
keep_all-requires c =
    subst (All (λ (entry : Entry). is_null_of entry.rec ≡ false))
    (sym (c.as_mut_slice.ensures.value ∙ c.drop_null.ensures)) (all_lasting c.args.entries.now.items)
