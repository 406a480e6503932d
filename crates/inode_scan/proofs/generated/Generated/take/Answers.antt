use Rattle.std.proofs.Common.{◌≡◌, ◌+◌, ◌-◌, List, ℕ, length, ap, ◌∙◌, arith, length-take}
use Rattle.std.specs.List.{slice_range}
use Rattle.inode_scan.specs.Generated.{lines_text}
use Rattle.inode_scan.specs.GeneratedLeft.{generated_left, lines_behind}
use Rattle.inode_scan.proofs.GeneratingLemmas.{left_taken}
use Rattle.inode_scan.proofs.generated.Generated.take.Goals as goal

pub returns-clause-taken : goal.returns-clause-taken
unfolding generated_left
returns-clause-taken c =
    let self = c.args.self.now in
    let start = c.min-start.result in
    let count = c.min-count.result in
    let long : length c.copy_from_slice.new.self ≡ count =
    omega (arith, c.copy_from_slice.ensures.len, length-take count c.args.buf.now, c.min-count.ensures) in
    let copied : c.copy_from_slice.new.self ≡ slice_range self.text.items start (start + count) =
    c.copy_from_slice.ensures.after
    ∙ ap (λ (t : List ℕ). slice_range t start (start + count)) c.as_slice.ensures.value in
    left_taken self.text.items (lines_text (lines_behind self.x self.line (self.count - self.line))) c.args.buf.now
    c.copy_from_slice.new.self self.at start count (omega (arith, c.min-start.ensures, c.len.ensures.value)) long copied
