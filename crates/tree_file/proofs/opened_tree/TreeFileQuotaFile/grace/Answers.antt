use Rattle.tree_meaning.proofs.MeaningLemmas.{header_grace}
use Rattle.tree_file.proofs.opened_tree.TreeFileQuotaFile.grace.Goals as goal

pub returns-clause-value : goal.returns-clause-value
returns-clause-value g c = λ store value held. header_grace held.file c.args.self.now.header value held.same held.stands
