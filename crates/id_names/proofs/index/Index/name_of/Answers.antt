use Rattle.std.proofs.Common.{◌≡◌, ℕ, List, IsTrue, IsSome, slice_get, Some, sym, ap, subst, ◌∙◌}
use Rattle.id_names.specs.declared.index.Row.{Row}
use Rattle.id_names.specs.Index.{kept_lines, name_list}
use Rattle.id_names.specs.NamesFile.{NameLine, is_name}
use Rattle.id_names.proofs.RowLemmas.{All-slice_get, first_name-at, first_name-none, line_of_row, name_is_there}
use Rattle.id_names.proofs.RowLemmas.{name_read, row_read}
use Rattle.id_names.proofs.index.Index.name_of.Goals as goal

pub returns-in_err-row-clause-found : goal.returns-in_err-row-clause-found
returns-in_err-row-clause-found c =
    let none = sym (c.requires.first_rows c.args.id) ∙ sym c.in_err-row.ensures.value in
    rw c.from_residual.ensures (sym (first_name-none (kept_lines c.args.self.now) c.args.id none))

pub returns-in_err-name-clause-found : goal.returns-in_err-name-clause-found
returns-in_err-name-clause-found c =
    let read = c.in_ok-row-2.ensures.lookup in
    let row = row_read c.args.self.now.rows.items c.deref.result.now c.in_ok-row.row.now c.in_ok-row-2.row.now
    c.deref.ensures.value read.3.0 read.1 in
    let there = All-slice_get (λ (r : Row). IsSome (slice_get (name_list c.args.self.now.names.entries) r.name))
    c.args.self.now.rows.items c.in_ok-row.row.now c.in_ok-row-2.row.now c.requires.within row in
    absurd (name_is_there c.args.self.now.names.entries c.in_ok-row-2.row.now.name c.in_err-name.ensures.entry there)

-- the line of the row that was found
found : (c : goal.After-as_slice)
    → slice_get (kept_lines c.args.self.now) c.in_ok-row.row.now
    ≡ Some (record { name = c.in_ok-name.name.now.items; id = c.in_ok-row-2.row.now.id })
found c =
    let read = c.in_ok-row-2.ensures.lookup in
    let row = row_read c.args.self.now.rows.items c.deref.result.now c.in_ok-row.row.now c.in_ok-row-2.row.now
    c.deref.ensures.value read.3.0 read.1 in
    line_of_row c.args.self.now c.in_ok-row.row.now c.in_ok-row-2.row.now c.in_ok-name.name.now.items row
    (name_read c.args.self.now.names.entries c.in_ok-row-2.row.now.name c.in_ok-name.name.now c.in_ok-name._first_id.now
    c.in_ok-name.ensures.entry)

pub returns-clause-found : goal.returns-clause-found
returns-clause-found c =
    let first = sym (c.requires.first_rows c.args.id) ∙ sym c.in_ok-row.ensures.value in
    ap Some c.as_slice.ensures.value
    ∙ sym (first_name-at (kept_lines c.args.self.now) c.args.id c.in_ok-row.row.now _ first (found c))

pub returns-clause-name : goal.returns-clause-name
returns-clause-name c =
    let named = All-slice_get (λ (l : NameLine). IsTrue (is_name l.name)) (kept_lines c.args.self.now)
    c.in_ok-row.row.now _ c.requires.are_names (found c) in
    subst (λ (name : List ℕ). IsTrue (is_name name)) (sym c.as_slice.ensures.value) named
