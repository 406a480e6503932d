use Rattle.std.proofs.Common.{◌≡◌, ◌+◌, cond, ◌-◌, ◌++◌, ℕ, List, Bool, nat_lt, length, ap, ◌∙◌, arith}
use Rattle.std.proofs.lemmas.Result.{err_from_is_err_and}
use Rattle.input_text.specs.Lines.{next_line_of}
use Rattle.input_text.proofs.LinesLemmas.{given_so, last_line, refused_so}
use Rattle.input_text.proofs.line_reader.LineReader.next_line.Goals as goal

pub returns-then-not-branch-clause-next : goal.returns-then-not-branch-clause-next
returns-then-not-branch-clause-next g c told =
    let kept = c.pieces.invariant in
    let filled = c.in_ok-fill.ensures in
    let left = (g.I.Source.seen c.fill.new.source).left in
    last_line c.args.most (c.args.total - c.args.self.now.given) _ _ _ _ _ _ (kept.told told) (filled.same told)
    (filled.at_end c.if-not-branch.true told) (ap (λ (held : List ℕ). held ++ left) c.finish.ensures.held)
    kept.open_line kept.within (omega (arith, kept.fits, kept.given))
    (c.finish.ensures.some ∙ ap (λ (n : ℕ). nat_lt 0 n) c.len.ensures.value)

pub returns-in_err-take_held-clause-cause : goal.returns-in_err-take_held-clause-cause
returns-in_err-take_held-clause-cause g c =
    let kept = c.pieces.invariant in
    let filled = c.in_ok-fill.ensures in
    let left = (g.I.Source.seen c.fill.new.source).left in
    let p = err_from_is_err_and c.from_residual-in_err-take_held.result c.from_residual-in_err-take_held.ensures.1 in
    rw (p.1, p.2) (refused_so _ _ _ _ _ _ (λ told.
    ap (λ (n : ℕ). next_line_of c.args.most (c.args.total - n) (c.pieces.line.items ++ (c.fill.new.self.held ++ left)))
    (filled.given ∙ kept.given)
    ∙ ap (λ (rest : List ℕ). next_line_of c.args.most (c.args.total - c.args.self.now.given) rest)
    (ap (λ (rest : List ℕ). c.pieces.line.items ++ rest) (filled.same told) ∙ kept.told told))
    (c.in_err-take_held.ensures.refused left))

pub returns-then-branch-clause-given : goal.returns-then-branch-clause-given
returns-then-branch-clause-given g c told =
    let kept = c.pieces.invariant in
    let filled = c.in_ok-fill.ensures in
    let taken = c.in_ok-take_held.ensures in
    let left = (g.I.Source.seen c.fill.new.source).left in
    given_so c.args.self.now.given c.take_held.new.self.given c.pieces.line.items c.take_held.new.line.items
    c.fill.new.self.held c.take_held.new.self.held left _ (taken.taken c.if-branch.true)
    (taken.given
    ∙ ap (λ (ended : Bool). c.fill.new.self.given + cond ended (length c.take_held.new.line.items + 1) 0)
    c.if-branch.true
    ∙ ap (λ (given : ℕ). given + (length c.take_held.new.line.items + 1)) (filled.given ∙ kept.given))
    (ap (λ (rest : List ℕ). c.pieces.line.items ++ rest) (filled.same told) ∙ kept.told told)

pub returns-then-branch-clause-nearer : goal.returns-then-branch-clause-nearer
returns-then-branch-clause-nearer g c told =
    let kept = c.pieces.invariant in
    let filled = c.in_ok-fill.ensures in
    let taken = c.in_ok-take_held.ensures in
    let given : c.take_held.new.self.given ≡ c.args.self.now.given + (length c.take_held.new.line.items + 1) =
    taken.given
    ∙ ap (λ (ended : Bool). c.fill.new.self.given + cond ended (length c.take_held.new.line.items + 1) 0)
    c.if-branch.true
    ∙ ap (λ (given : ℕ). given + (length c.take_held.new.line.items + 1)) (filled.given ∙ kept.given) in
    omega (arith, taken.room c.if-branch.true, filled.given, kept.given)
