use Rattle.tree_meaning.proofs.MeaningLemmas.{header_format}
use Rattle.tree_file.proofs.opened_tree.TreeFileQuotaFile.format.Goals as goal

pub returns-clause-value : goal.returns-clause-value
returns-clause-value g c =
    λ store value held. header_format held.file c.args.self.now.header value held.same held.stands
