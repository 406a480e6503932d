use Rattle.std.proofs.Common.{◌≡◌, ◌+◌, true, false, [], ◌∷◌, Ok, Err, List, Option, None, Some, drop, map, refl, sym}
use Rattle.std.proofs.Common.{ap, subst, ◌∙◌, arith}
use Rattle.std.proofs.lemmas.List.{drop_all, drop_more}
use Rattle.std.specs.Prelude.{IfSome}
use Rattle.refusals.specs.declared.reason.Refusal.{Refusal}
use Rattle.outside.specs.World.{World}
use Rattle.run_steps.specs.Committed.{ComesTo}
use Rattle.run_steps.specs.Done.{IsWorldTold, outside_of, seen_of, tells_of}
use Rattle.run_steps.proofs.CommittedLemmas.{looked_committed}
use Rattle.script_lines.specs.ScriptReading.{IsOfScript, line_read}
use Rattle.script_lines.specs.declared.script.ScriptLine.{ScriptLine}
use Rattle.quota_cli.specs.Carrying.{AreCarried}
use Rattle.quota_cli.specs.Script.{LinesSteps}
use Rattle.quota_cli.proofs.CommittedLemmas.{Any, ended_again, lines_committed, lines_onward}
use Rattle.quota_cli.proofs.ScriptLemmas.{lines_done, lines_passed, lines_refused, lines_stopped}
use Rattle.quota_cli.proofs.script.carry_lines.Goals as goal

pub loop-line-init : goal.loop-line-init
loop-line-init g c = record {
  onward = λ new result carried. carried;
  committed = λ told. looked_committed _ _ _ Any _ _ _
      (λ worlds none. g.S.Store.commits_nothing worlds c.args.store.now)
      (g.S.Store.commits_nothing [] c.args.store.now) refl tt;
  reaches = λ told world to. to;
  same = refl;
  input = refl;
}

pub loop-line-preserved : goal.loop-line-preserved
loop-line-preserved g c =
    let S = g.S.Store in
    let I = g.I.Source in
    let O = g.O.Sink in
    let E = g.E.Sink in
    let L = g.L.Link in
    let kept = c.loop-line.invariant in
    let tells = tells_of S.tells I.tells O.tells E.tells L.tells in
    let before = seen_of (S.seen c.loop-line.store) (I.seen c.loop-line.input) (O.seen c.loop-line.out)
    (E.seen c.loop-line.err) (L.seen c.loop-line.link) in
    let after = seen_of (S.seen c.carry_line.new.store) (I.seen c.carry_line.new.input) (O.seen c.carry_line.new.out)
    (E.seen c.carry_line.new.err) (L.seen c.carry_line.new.link) in
    let lines = c.args.lines.now in
    let line = c.line-item.result in
    let rest = drop (c.loop-line.line-index + 1) lines in
    let here : drop c.loop-line.line-index lines ≡ line ∷ rest =
    drop_more lines c.loop-line.line-index line c.loop-line-test.true
    ∙ ap (λ (l : ScriptLine). l ∷ rest) (sym c.line-item.is) in
    let start = seen_of (S.seen c.args.store.now) (I.seen c.args.input.now) (O.seen c.args.out.now)
    (E.seen c.args.err.now) (L.seen c.args.link.now) in
    let whole = LinesSteps c.args.now (map line_read lines) c.args.refusal in
    let onward = λ (told : IsWorldTold tells) (world : World)
    (to : ComesTo (LinesSteps c.args.now (map line_read (line ∷ rest)) c.args.refusal) (outside_of before) world).
    kept.reaches told world
    (subst (λ (l : List ScriptLine).
    ComesTo (LinesSteps c.args.now (map line_read l) c.args.refusal) (outside_of before) world) (sym here) to) in
    record {
      onward = λ new result carried.
          kept.onward new result
          (subst
          (λ (l : List ScriptLine). AreCarried c.args.now (map line_read l) c.args.refusal tells before new result)
          (sym here)
          (lines_passed c.args.now (line_read line) (map line_read rest) c.args.refusal tells before after new tt result
          c.in-Ok.ensures.carries carried));
      committed = λ told.
          lines_committed c.args.now (line_read line) (map line_read rest) c.args.refusal whole _ _ true
          (outside_of start) (outside_of before) _ _ _ _ _
          (λ one two former latter.
          S.commits_on one two c.args.store.now c.loop-line.store c.carry_line.new.store former latter)
          (onward told) (kept.committed told) (c.carry_line.ensures.commits told);
      reaches = λ told.
          let done = c.in-Ok.ensures.carries.carries.done told in
          lines_onward c.args.now (line_read line) (map line_read rest) c.args.refusal whole (outside_of start)
          (outside_of before) (outside_of after) done.acts done.by_steps (onward told);
      same = kept.same;
      input = c.carry_line.ensures.input ∙ kept.input;
    }

pub returns-in-Err-clause-carries : goal.returns-in-Err-clause-carries
returns-in-Err-clause-carries g c =
    let S = g.S.Store in
    let I = g.I.Source in
    let O = g.O.Sink in
    let E = g.E.Sink in
    let L = g.L.Link in
    let kept = c.loop-line.invariant in
    let tells = tells_of S.tells I.tells O.tells E.tells L.tells in
    let before = seen_of (S.seen c.loop-line.store) (I.seen c.loop-line.input) (O.seen c.loop-line.out)
    (E.seen c.loop-line.err) (L.seen c.loop-line.link) in
    let after = seen_of (S.seen c.carry_line.new.store) (I.seen c.carry_line.new.input) (O.seen c.carry_line.new.out)
    (E.seen c.carry_line.new.err) (L.seen c.carry_line.new.link) in
    let lines = c.args.lines.now in
    let line = c.line-item.result in
    let rest = drop (c.loop-line.line-index + 1) lines in
    let here : drop c.loop-line.line-index lines ≡ line ∷ rest =
    drop_more lines c.loop-line.line-index line c.loop-line-test.true
    ∙ ap (λ (l : ScriptLine). l ∷ rest) (sym c.line-item.is) in
    kept.onward after (Err c.in-Err.stop)
    (subst (λ (l : List ScriptLine).
    AreCarried c.args.now (map line_read l) c.args.refusal tells before after (Err c.in-Err.stop))
    (sym here)
    (lines_stopped c.args.now (line_read line) (map line_read rest) c.args.refusal tells before after c.in-Err.stop
    c.in-Err.ensures.carries))

pub returns-in-Err-clause-commits : goal.returns-in-Err-clause-commits
returns-in-Err-clause-commits g c =
    let S = g.S.Store in
    let I = g.I.Source in
    let O = g.O.Sink in
    let E = g.E.Sink in
    let L = g.L.Link in
    let kept = c.loop-line.invariant in
    let tells = tells_of S.tells I.tells O.tells E.tells L.tells in
    let before = seen_of (S.seen c.loop-line.store) (I.seen c.loop-line.input) (O.seen c.loop-line.out)
    (E.seen c.loop-line.err) (L.seen c.loop-line.link) in
    let after = seen_of (S.seen c.carry_line.new.store) (I.seen c.carry_line.new.input) (O.seen c.carry_line.new.out)
    (E.seen c.carry_line.new.err) (L.seen c.carry_line.new.link) in
    let lines = c.args.lines.now in
    let line = c.line-item.result in
    let rest = drop (c.loop-line.line-index + 1) lines in
    let here : drop c.loop-line.line-index lines ≡ line ∷ rest =
    drop_more lines c.loop-line.line-index line c.loop-line-test.true
    ∙ ap (λ (l : ScriptLine). l ∷ rest) (sym c.line-item.is) in
    let start = seen_of (S.seen c.args.store.now) (I.seen c.args.input.now) (O.seen c.args.out.now)
    (E.seen c.args.err.now) (L.seen c.args.link.now) in
    let whole = LinesSteps c.args.now (map line_read lines) c.args.refusal in
    let onward = λ (told : IsWorldTold tells) (world : World)
    (to : ComesTo (LinesSteps c.args.now (map line_read (line ∷ rest)) c.args.refusal) (outside_of before) world).
    kept.reaches told world
    (subst (λ (l : List ScriptLine).
    ComesTo (LinesSteps c.args.now (map line_read l) c.args.refusal) (outside_of before) world) (sym here) to) in
    λ told.
    lines_committed c.args.now (line_read line) (map line_read rest) c.args.refusal whole _ _ false (outside_of start)
    (outside_of before) _ _ _ _ _
    (λ one two former latter.
    S.commits_on one two c.args.store.now c.loop-line.store c.carry_line.new.store former latter)
    (onward told) (kept.committed told) (c.carry_line.ensures.commits told)

pub returns-in-Err-clause-input : goal.returns-in-Err-clause-input
returns-in-Err-clause-input g c = c.carry_line.ensures.input ∙ c.loop-line.invariant.input

pub returns-in-None-clause-carries : goal.returns-in-None-clause-carries
returns-in-None-clause-carries g c =
    let S = g.S.Store in
    let I = g.I.Source in
    let O = g.O.Sink in
    let E = g.E.Sink in
    let L = g.L.Link in
    let tells = tells_of S.tells I.tells O.tells E.tells L.tells in
    let now = seen_of (S.seen c.loop-line.store) (I.seen c.loop-line.input) (O.seen c.loop-line.out)
    (E.seen c.loop-line.err) (L.seen c.loop-line.link) in
    let at_end : drop c.loop-line.line-index c.args.lines.now ≡ [] =
    drop_all c.loop-line.line-index c.args.lines.now (omega arith) in
    let none : c.args.refusal ≡ None = sym c.loop-line.invariant.same ∙ c.in-None.is in
    c.loop-line.invariant.onward now (Ok tt)
    (subst (λ (r : Option Refusal). AreCarried c.args.now (map line_read (drop c.loop-line.line-index c.args.lines.now))
    r tells now now (Ok tt)) (sym none)
    (subst (λ (l : List ScriptLine). AreCarried c.args.now (map line_read l) None tells now now (Ok tt)) (sym at_end)
    (lines_done c.args.now tells now tt)))

pub returns-in-Some-clause-carries : goal.returns-in-Some-clause-carries
returns-in-Some-clause-carries g c =
    let S = g.S.Store in
    let I = g.I.Source in
    let O = g.O.Sink in
    let E = g.E.Sink in
    let L = g.L.Link in
    let tells = tells_of S.tells I.tells O.tells E.tells L.tells in
    let now = seen_of (S.seen c.loop-line.store) (I.seen c.loop-line.input) (O.seen c.loop-line.out)
    (E.seen c.loop-line.err) (L.seen c.loop-line.link) in
    let at_end : drop c.loop-line.line-index c.args.lines.now ≡ [] =
    drop_all c.loop-line.line-index c.args.lines.now (omega arith) in
    let refusal = c.in-Some.refusal in
    let some : c.args.refusal ≡ Some refusal = sym c.loop-line.invariant.same ∙ c.in-Some.is in
    c.loop-line.invariant.onward now (Err refusal)
    (subst (λ (r : Option Refusal). AreCarried c.args.now (map line_read (drop c.loop-line.line-index c.args.lines.now))
    r tells now now (Err refusal)) (sym some)
    (subst (λ (l : List ScriptLine).
    AreCarried c.args.now (map line_read l) (Some refusal) tells now now (Err refusal)) (sym at_end)
    (lines_refused c.args.now tells now refusal (subst (λ (r : Option Refusal). IfSome r IsOfScript) some c.requires))))

pub returns-in-None-clause-commits : goal.returns-in-None-clause-commits
returns-in-None-clause-commits g c = c.loop-line.invariant.committed

pub returns-in-Some-clause-commits : goal.returns-in-Some-clause-commits
returns-in-Some-clause-commits g c = λ told. ended_again true false _ _ _ _ _ (c.loop-line.invariant.committed told)
