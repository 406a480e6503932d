use Rattle.std.proofs.Common.{◌≡◌, ℕ, length, arith, ◌==◌, if◌then◌else◌, Some, None, refl, ap, ◌∙◌, nat_eq}
use Rattle.std.specs.HashMap.{get}
use Rattle.std.specs.Option.{option_or}
use Rattle.id_names.specs.declared.index.Index.{Index}
use Rattle.id_names.specs.declared.index.Row.{Row}
use Rattle.id_names.specs.NamesFile.{NameLine}
use Rattle.id_names.proofs.RowLemmas.{Adds, kept_lines-added, IsIndex-added}
use Rattle.id_names.proofs.index.Index.add.Goals as goal

-- the line that is added, its row, and the index with it
line : goal.In_ok-note_row → NameLine
line c = record { name = c.args.line.name.now; id = c.args.line.id }

row : goal.In_ok-note_row → Row
row c = record { name = c.in_ok-name.name; id = c.args.line.id }

new : goal.In_ok-note_row → Index
new c = record { names = c.place_of.new.names; rows = c.push.new.self; first_rows = c.note_row.new.first_rows }

adds : (c : goal.In_ok-note_row) → Adds c.args.self.now (new c) (row c) (line c)
unfolding line row new
adds c =
    let rows : c.len-row.result ≡ length c.args.self.now.rows.items =
    omega (arith, c.len-row.ensures, c.args.self.now.rows.ok) in
    record {
      kept = c.in_ok-name.ensures.others;
      name = c.in_ok-name.ensures.place;
      id = refl;
      rows = c.in_ok-push.ensures.items;
      ids = c.in_ok-name.ensures.ids;
      first_rows = λ other. c.in_ok-note_row.ensures other
          ∙ ap (λ (n : ℕ). option_or (get nat_eq c.args.self.now.first_rows other)
          (if c.args.line.id == other then Some n else None)) rows;
    }

pub returns-clause-lines : goal.returns-clause-lines
unfolding line row new
returns-clause-lines c = kept_lines-added c.args.self.now (new c) (row c) (line c) c.requires.index (adds c)

pub returns-clause-index : goal.returns-clause-index
unfolding line row new
returns-clause-index c =
    IsIndex-added c.args.self.now (new c) (row c) (line c) c.requires.index c.requires.name (adds c)
