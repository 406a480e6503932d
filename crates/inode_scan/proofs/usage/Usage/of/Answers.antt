use Rattle.std.proofs.Common.{sym, ap, ◌∙◌}
use Rattle.std.specs.FinMap.{get}
use Rattle.inode_scan.proofs.UsageLemmas.{get_entries}
use Rattle.inode_scan.proofs.usage.Usage.of.Goals as goal

pub returns : goal.returns
returns c =
    c.copied.ensures ∙ c.get.ensures.value ∙ sym (get_entries c.self.inside.used.entries c.args.id)
    ∙ ap (λ m. get m c.args.id) c.self.view_is
