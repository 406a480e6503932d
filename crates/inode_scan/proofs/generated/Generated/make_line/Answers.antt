use Rattle.std.proofs.Common.{ℕ, ◌≡◌, ◌++◌, ◌+◌, ◌-◌, codes, ap, ◌∙◌}
use Rattle.inode_scan.specs.Generated.{first_alike, lines_text, number_behind, row_made, row_text}
use Rattle.inode_scan.specs.GeneratedLeft.{generated_left, lines_behind}
use Rattle.inode_scan.specs.declared.row.Row.{Row}
use Rattle.inode_scan.proofs.GeneratingLemmas.{left_made, left_none}
use Rattle.inode_scan.proofs.generated.Generated.make_line.Goals as goal

pub returns-then-self-clause-same : goal.returns-then-self-clause-same
unfolding generated_left
returns-then-self-clause-same c =
    let self = c.args.self.now in
    let made : c.row_text-self.result.items
    ≡ row_text (row_made (number_behind self.x (self.line + 1)) (first_alike (self.line + 1))) ++ codes "\n" =
    c.row_text-self.ensures
    ∙ ap (λ (row : Row). row_text row ++ codes "\n")
    (c.row_made.ensures ∙ ap (λ (n : ℕ). row_made n c.first_alike.result) c.number_behind-self.ensures
    ∙ ap (row_made (number_behind self.x (self.line + 1))) c.first_alike.ensures) in
    ap (λ (x : ℕ). c.row_text-self.result.items
    ++ lines_text (lines_behind x (self.line + 1) (self.count - (self.line + 1)))) c.number_behind-self.ensures
    ∙ left_made self.x self.line self.count self.at self.text.items c.row_text-self.result.items
    c.if-self.true c.requires made

pub returns-else-self-clause-some : goal.returns-else-self-clause-some
unfolding generated_left
returns-else-self-clause-some c = λ used.
    let self = c.args.self.now in
    left_none self.x self.line self.count self.at self.text.items c.if-self.false used
