use Rattle.std.proofs.Common.{◌≤◌, ◌+◌, ◌-◌, List, ℕ, Bool, cond, nat_lt, length, ap, subst, arith, ◌∙◌, sym, ◌<◌, take}
use Rattle.std.proofs.Common.{drop, length-append, length-take, length-drop}
use Rattle.std.proofs.lemmas.Bool.{ltb-true}
use Rattle.std.proofs.lemmas.Result.{err_from_is_err_and}
use Rattle.input_text.proofs.LinesLemmas.{ended_line, refuses, still_open}
use Rattle.input_text.proofs.line_reader.LineReader.take_held.Goals as goal

pub returns-in_err-admit-clause-refused : goal.returns-in_err-admit-clause-refused
returns-in_err-admit-clause-refused c =
    let p = err_from_is_err_and c.from_residual.result c.from_residual.ensures.1 in
    let front = c.front-front.ensures in
    rw (p.1, p.2) (λ left. refuses c.args.line.now.items c.args.self.now.held left c.requires.open _ _ _ _ _
    (omega (arith, c.len.ensures.value, front.len))
    (front.ended ∙ ap (λ (n : ℕ). nat_lt n (length c.args.self.now.held)) front.len) c.in_err-admit.ensures.refused)

pub returns-then-ended-clause-ended : goal.returns-then-ended-clause-ended
returns-then-ended-clause-ended c ended left =
    let front = c.front-front.ensures in
    let fits = subst
    (λ (b : Bool). c.len.result + c.front-front.result.0 + (cond b 1 0) ≤ c.args.total - c.args.self.now.given) ended
    c.in_ok-admit.ensures.fits in
    ended_line _ _ left c.requires.open _ _ _ _ _ front.len (sym front.ended ∙ ended)
    (omega (arith, c.in_ok-admit.ensures.within, c.len.ensures.value)) (omega (arith, fits, c.len.ensures.value))
    c.append.ensures.line
    (c.end_line.ensures.held ∙ ap (λ (bytes : List ℕ). drop 1 bytes) c.append.ensures.held)

pub returns-else-ended-clause-open : goal.returns-else-ended-clause-open
returns-else-ended-clause-open c open_line =
    let front = c.front-front.ensures in
    still_open _ _ _ _ c.requires.open front.len (sym front.ended ∙ open_line) c.append.ensures.line

pub returns-then-ended-clause-taken : goal.returns-then-ended-clause-taken
returns-then-ended-clause-taken c ended =
    let front = c.front-front.ensures in
    let len : ℕ = c.front-front.result.0 in
    let line = c.args.line.now.items in
    let held = c.args.self.now.held in
    let inside : len < length held = ltb-true _ _ (sym front.ended ∙ ended) in
    omega (
      arith,
      ap (λ (bytes : List ℕ). length bytes) c.append.ensures.line,
      length-append line (take len held),
      length-take len held,
      ap (λ (bytes : List ℕ). length bytes) c.end_line.ensures.held,
      length-drop 1 c.append.new.self.held,
      ap (λ (bytes : List ℕ). length bytes) c.append.ensures.held,
      length-drop len held,
    )
