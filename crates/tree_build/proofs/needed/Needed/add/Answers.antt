use Rattle.std.proofs.Common.{◌+◌, ℕ, refl, ap}
use Rattle.tree_build.proofs.NeededLemmas.{met_more}
use Rattle.tree_build.proofs.needed.Needed.add.Goals as goal

pub returns-clause-met : goal.returns-clause-met
returns-clause-met c = λ ids met.
    met_more ids c.args.self.now _ c.args.id c.requires met refl
    (ap (λ (n : ℕ). c.args.self.now.firsts + n) c.new_beginnings.ensures)
    (ap (λ (n : ℕ). c.args.self.now.seconds + n) c.new_beginnings-2.ensures)
    (ap (λ (n : ℕ). c.args.self.now.thirds + n) c.new_beginnings-3.ensures)
    refl
