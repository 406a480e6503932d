use Rattle.std.proofs.Common.{◌≡◌, true, Result, drop, map}
use Rattle.outside.specs.World.{World}
use Rattle.refusals.specs.declared.reason.Refusal.{Refusal}
use Rattle.run_steps.specs.Committed.{ComesTo, CommitsSteps}
use Rattle.run_steps.specs.Done.{IsWorldTold, RunSeen, outside_of, seen_of, tells_of}
use Rattle.script_lines.specs.ScriptReading.{line_read}
use Rattle.quota_cli.specs.Carrying.{AreCarried}
use Rattle.quota_cli.specs.Script.{LinesSteps}
use Rattle.quota_cli.proofs.CommittedLemmas.{Any}
use Rattle.quota_cli.proofs.script.carry_lines.Given as goal

abbrev pub invariant-loop-line : goal.invariant-loop-line
invariant-loop-line g l =
    let S = g.S.Store in
    let I = g.I.Source in
    let O = g.O.Sink in
    let E = g.E.Sink in
    let L = g.L.Link in
    record {
      onward : (new : RunSeen) (result : Result (Unit {0}) Refusal)
          → AreCarried l.now (map line_read (drop l.line-index l.lines)) l.fn.refusal
          (tells_of S.tells I.tells O.tells E.tells L.tells)
          (seen_of (S.seen l.store) (I.seen l.input) (O.seen l.out) (E.seen l.err) (L.seen l.link)) new result
          → AreCarried l.now (map line_read l.lines) l.fn.refusal (tells_of S.tells I.tells O.tells E.tells L.tells)
          (seen_of (S.seen l.fn.store) (I.seen l.fn.input) (O.seen l.fn.out) (E.seen l.fn.err) (L.seen l.fn.link))
          new result;
      committed : IsWorldTold (tells_of S.tells I.tells O.tells E.tells L.tells)
          → CommitsSteps ⊥ true (LinesSteps l.now (map line_read l.lines) l.fn.refusal) Any
          (outside_of
          (seen_of (S.seen l.fn.store) (I.seen l.fn.input) (O.seen l.fn.out) (E.seen l.fn.err) (L.seen l.fn.link)))
          (S.seen l.store).files (λ worlds. S.commits worlds l.fn.store l.store);
      reaches : IsWorldTold (tells_of S.tells I.tells O.tells E.tells L.tells) → (world : World)
          → ComesTo (LinesSteps l.now (map line_read (drop l.line-index l.lines)) l.fn.refusal)
          (outside_of (seen_of (S.seen l.store) (I.seen l.input) (O.seen l.out) (E.seen l.err) (L.seen l.link))) world
          → ComesTo (LinesSteps l.now (map line_read l.lines) l.fn.refusal)
          (outside_of (seen_of (S.seen l.fn.store) (I.seen l.fn.input) (O.seen l.fn.out) (E.seen l.fn.err)
          (L.seen l.fn.link))) world;
      same : l.refusal ≡ l.fn.refusal;
      input : l.input ≡ l.fn.input;
    }
