use Rattle.std.proofs.Common.{List, ℕ, ◌++◌, codes, ap, ◌∙◌}
use Rattle.report_text.specs.Period.{period_of}
use Rattle.report_text.specs.Report.{grace_line}
use Rattle.report_text.proofs.GatherLemmas.{appended_pieces}
use Rattle.report_text.proofs.head.push_grace_line.Goals as goal

pub returns-clause-text : goal.returns-clause-text
unfolding grace_line
returns-clause-text c =
    c.push_text.ensures
    ∙ ap (λ (t : List ℕ). t ++ codes "\n")
    (c.push_period-2.ensures.text
    ∙ ap (λ (t : List ℕ). t ++ (codes "; Inode grace time: " ++ period_of c.args.grace.inode))
    c.push_period.ensures.text)
    ∙ appended_pieces c.args.page.now (codes "Block grace time: ") _ _ _ _
