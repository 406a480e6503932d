use Rattle.edit_journal.proofs.NameLemmas.{und-injective, und-own, und-undo, undo-injective, undo-own}
use Rattle.edit_journal.proofs.names.undo_names_differ.Goals as goal

pub returns : goal.returns
returns c = record { own = undo-own; first = und-own; both = und-undo; undo = undo-injective; und = und-injective }
