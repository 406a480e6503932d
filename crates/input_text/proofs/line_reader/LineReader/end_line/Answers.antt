use Rattle.std.proofs.Common.{◌≡◌, ◌-◌, List, ℕ, ap, ◌∙◌, drop, length, arith, length-take}
use Rattle.std.specs.List.{slice_range}
use Rattle.input_text.specs.LineReading.{LinesSeen}
use Rattle.input_text.proofs.LinesLemmas.{held_later}
use Rattle.input_text.proofs.line_reader.LineReader.end_line.Goals as goal

pub returns-clause-held : goal.returns-clause-held
returns-clause-held c =
    let fields = c.self.inside in
    let held : slice_range fields.piece fields.start fields.end ≡ c.args.self.now.held =
    ap (λ (seen : LinesSeen). seen.held) c.self.view_is in
    held_later fields.piece fields.start 1 fields.end (omega (
      arith,
      c.requires.newline,
      ap (λ (bytes : List ℕ). length bytes) held,
      length-take (fields.end - fields.start) (drop fields.start fields.piece),
    ))
    ∙ ap (λ (bytes : List ℕ). drop 1 bytes) held
