use Rattle.std.proofs.Common.{List, ℕ, sym, ap, ◌∙◌}
use Rattle.std.specs.String.{string_bytes}
use Rattle.input_text.specs.declared.store_source.StoreSource.{StoreSource}
use Rattle.file_commands.specs.Check.{scan_cause}
use Rattle.refusals.specs.Refusals.{refusal_of}
use Rattle.refusals.specs.declared.cause.Cause.TheVariants.{StoreFault}
use Rattle.file_commands.proofs.CheckLemmas.{listing_unread_at}
use Rattle.file_commands.proofs.listing_input.scan_there.Goals as goal

pub returns-in-Err-clause-refused : goal.returns-in-Err-clause-refused
returns-in-Err-clause-refused g c =
    let keeps = c.in-Err.ensures.keeps in
    let store = c.store-1.given.1 (sym keeps.store) in
    let source = c.source-2-1.given.1 (sym keeps.source) in
    listing_unread_at c.args.name _ _ _ _ c.in-Err.fault c.listing_refusal.result
    (rw store (rw c.into_string.ensures at c.in-Err.ensures.refused))
    (c.listing_refusal.ensures
    ∙ ap (λ (name : List ℕ). refusal_of (scan_cause StoreFault c.in-Err.fault) name)
    (c.of.ensures ∙ ap (λ (s : StoreSource). string_bytes s.name) source ∙ keeps.name ∙ c.into_string.ensures))
