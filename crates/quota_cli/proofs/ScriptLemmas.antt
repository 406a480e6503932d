-- Lines of a script that were carried out, one after another, and the script that they stand in.
use Rattle.std.proofs.Common.{◌≡◌, ◌≤◌, ◌<◌, ◌+◌, ℕ, Bool, true, false, cond, IsTrue, List, [], ◌∷◌, Option, None, Some}
use Rattle.std.proofs.Common.{Ok, Err, Result, inl, inr, refl, sym, ap, subst, ◌∙◌, arith, ◌≢◌}
use Rattle.std.specs.Prelude.{◌&&◌, IfErr, IsSome, is_none}
use Rattle.std.specs.Result.{result_err}
use Rattle.std.specs.Str.{is_utf8}
use Rattle.std.proofs.lemmas.Bool.{false≢true, le-leb, or_parts}
use Rattle.std.proofs.lemmas.Option.{none-some}
use Rattle.std.proofs.lemmas.Result.{IfErr-weaker}
use Rattle.outside.specs.Behind.{IsBehind}
use Rattle.outside.specs.Count.{Rose}
use Rattle.input_text.specs.InputLines.{InputLines, NoLine, LineThen, LongNext, PastNext, input_lines}
use Rattle.outside.specs.Seen.{SourceSeen}
use Rattle.input_text.specs.Words.{words_of}
use Rattle.outside.proofs.FrameLemmas.{only_reads-none, syncs-none, syncs-then}
use Rattle.refusals.specs.declared.cause.Cause.{Cause}
use Rattle.refusals.specs.declared.cause.Cause.TheVariants.{LinkFault, SourceFault, TooLarge, LongLine, BadLine}
use Rattle.refusals.specs.declared.cause.Cause.TheVariants.{SinkFault}
use Rattle.refusals.specs.declared.reason.Place.{Place}
use Rattle.refusals.specs.declared.reason.Refusal.{Refusal}
use Rattle.refusals.specs.Outcome.{Passed, Refused}
use Rattle.refusals.specs.Refusals.{nowhere, refusal_of}
use Rattle.run_steps.specs.Done.{Outside, RunSeen, RunTells, outside_of}
use Rattle.run_steps.specs.Meaning.{IsSure, IsTaken}
use Rattle.run_steps.specs.Run.{HasReason}
use Rattle.run_steps.specs.declared.invocation.Invocation.{Invocation}
use Rattle.run_steps.proofs.CarryingLemmas.{carried_before, carried_stopped, finish_carried}
use Rattle.run_steps.proofs.OpeningLemmas.{with_input}
use Rattle.run_steps.proofs.PartLemmas.{nothing_begun}
use Rattle.run_steps.proofs.PhaseLemmas.{LeadsTo, carries_since, leads_reading}
use Rattle.run_steps.proofs.PhaseLemmas.{placed_nowhere, stop_carried}
use Rattle.script_lines.specs.Script.{LineSaid, ScriptMayRefuse, ScriptSaid, lines_say, says_then, script_refusal}
use Rattle.script_lines.specs.Script.{script_said}
use Rattle.script_lines.specs.ScriptReading.{IsOfScript}
use Rattle.run_steps.specs.InputLine.{says_nothing}
use Rattle.command_words.specs.Asked.{command_of}
use Rattle.script_lines.specs.declared.script.ScriptFault.{ScriptFault}
use Rattle.script_lines.specs.declared.script.ScriptFault.TheVariants.{Source, Memory as NoMemory}
use Rattle.command_table.specs.CarriedOut.{IsCarriedOut, StopsIt}
use Rattle.command_table.specs.Table.{described}
use Rattle.command_table.proofs.CommandLemmas.{of_done}
use Rattle.command_table.proofs.AskedLemmas.{asked_sure, spares_input}
use Rattle.command_table.proofs.SoundLemmas.{sound}
use Rattle.quota_cli.specs.Carrying.{AreCarried, Ascends, IsLineCarried, unread_cause}
use Rattle.quota_cli.specs.Script.{ReachesLine, IsLeftUnfinished, IsLineUnfinished, IsOfLine, IsOfLines, StandsInScript}
use Rattle.quota_cli.specs.Script.{LineSteps, LinesSteps, LinesSuffice, RunningMayRefuse, ScriptSteps, asked_in_script}
use Rattle.quota_cli.specs.Script.{comes_to_link, is_come_to, is_up_to, line_invocation, script_uses, scripting}

-- The numbers of lines.

-- a refusal in a line of lines whose numbers ascend from above one names a number above it
above : (now least number : ℕ) (lines : List LineSaid) (tells : RunTells) (old new : RunSeen) (refusal : Refusal)
    → refusal.place.line ≡ Some number → Ascends least lines
    → IsOfLines now lines tells old new refusal → least < number
above now least number [] tells old new refusal named ascends one = absurd one
above now least number (line ∷ lines) tells old new refusal named ascends (inl one) =
    let both : Some number ≡ Some line.number = sym named ∙ one.named in
    let same : number ≡ line.number = cc (both) in
    omega (arith, ascends.0, same)
above now least number (line ∷ lines) tells old new refusal named ascends (inr (middle, done, one)) =
    let more = above now line.number number lines tells middle new refusal named ascends.1 one in
    omega (arith, ascends.0, more)

ascends_then : (nothing utf8 : Bool) (least number : ℕ) (line : List ℕ) (more : ScriptSaid) → least < number
    → Ascends number more.lines → Ascends least more.lines
    → Ascends least (says_then
    (cond nothing (Passed None)
    (cond utf8 (Passed (Some (record { number = number; text = line }))) (Refused (script_refusal (BadLine number)))))
    more).lines
ascends_then true utf8 least number line more is one other = other
ascends_then false true least number line more is one other = (is, one)
ascends_then false false least number line more is one other = tt

lines_ascend : (lines : InputLines) (least number : ℕ) → least < number → Ascends least (lines_say number lines).lines
lines_ascend NoLine least number is = tt
lines_ascend (LineThen line more) least number is =
    ascends_then (says_nothing line) (is_utf8 line) least number line (lines_say (number + 1) more) is
    (lines_ascend more number (number + 1) (omega arith)) (lines_ascend more least (number + 1) (omega (arith, is)))
lines_ascend LongNext least number is = tt
lines_ascend PastNext least number is = tt

-- the numbers of the lines of a script ascend
pub script_ascends : (bytes : List ℕ) → Ascends 0 (script_said bytes).lines
script_ascends bytes = lines_ascend (input_lines 4096 16777216 bytes) 0 1 (omega arith)

-- The lines that were reached.

up_to : (place : Option ℕ) (now : ℕ) (line : LineSaid) (lines : List LineSaid) (tells : RunTells) (old new : RunSeen)
    (refusal : Refusal) → refusal.place.line ≡ place → Ascends line.number lines
    → (IsSome place → IsOfLines now lines tells old new refusal) → is_up_to place line.number ≡ true
up_to None now line lines tells old new refusal named ascends one = refl
up_to (Some number) now line lines tells old new refusal named ascends one =
    let more = above now line.number number lines tells old new refusal named ascends (one refl) in
    le-leb line.number number (omega (arith, more))

-- a line is reached where the ones behind it were carried out
come_to : (now : ℕ) (line : LineSaid) (lines : List LineSaid) (tells : RunTells) (old new : RunSeen)
    (result : Result (Unit {0}) Refusal) → Ascends line.number lines
    → IfErr result (λ (refusal : Refusal). IsSome refusal.place.line → IsOfLines now lines tells old new refusal)
    → is_come_to (result_err result) line ≡ true
come_to now line lines tells old new (Ok value) ascends one = refl
come_to now line lines tells old new (Err refusal) ascends one =
    up_to refusal.place.line now line lines tells old new refusal refl ascends one

own_number : (place : Option ℕ) (number : ℕ) → place ≡ Some number → is_up_to place number ≡ true
own_number None number is = absurd (cc)
own_number (Some last) number is = let same : last ≡ number = cc in le-leb number last (omega (arith, same))

second_false : (a b : Bool) → a ≡ true → (a && b) ≡ false → b ≡ false
second_false true b is none = none
second_false false b is none = absurd (cc)

-- Lines that were carried out.

-- a line was refused, and the ones behind it did not come
pub lines_stopped : (now : ℕ) (line : LineSaid) (lines : List LineSaid) (ended : Option Refusal) (tells : RunTells)
    (old new : RunSeen) (refusal : Refusal)
    → IsLineCarried now line tells old new (Err refusal)
    → AreCarried now (line ∷ lines) ended tells old new (Err refusal)
lines_stopped now line lines ended tells old new refusal carried = record {
  carries = carried_stopped (LineSteps now line) (LinesSteps now lines ended) script_uses RunningMayRefuse tells old new
      refusal carried.carries;
  synced = carried.synced;
  own = λ none. absurd (none-some line.number (sym none ∙ carried.of_line.named));
  within = λ some. inl carried.of_line;
  unlinked = λ least ascends none.
      carried.unlinked
      (second_false _ _ (own_number refusal.place.line line.number carried.of_line.named) (or_parts _ _ none).0);
}

-- a line was carried out, and then the ones behind it
pub lines_passed : (now : ℕ) (line : LineSaid) (lines : List LineSaid) (ended : Option Refusal) (tells : RunTells)
    (old middle new : RunSeen) (passed : Unit {0}) (result : Result (Unit {0}) Refusal)
    → IsLineCarried now line tells old middle (Ok passed) → AreCarried now lines ended tells middle new result
    → AreCarried now (line ∷ lines) ended tells old new result
lines_passed now line lines ended tells old middle new passed result first then = record {
  carries = carried_before (LineSteps now line) (LinesSteps now lines ended) script_uses RunningMayRefuse tells old
      middle new passed result refl first.carries then.carries;
  synced = λ told. syncs-then old.store middle.store new.store (first.synced told) (then.synced told);
  own = then.own;
  within = IfErr-weaker result _ _
      (λ refusal one some. inr (
        middle,
        record {
          done = first.carries.done;
          synced = λ told. (first.synced told).synced (inl refl);
          unlinked = first.unlinked;
          later = first.carries.later;
        },
        one some,
      )) then.within;
  unlinked = λ least ascends none.
      let parts = or_parts (is_come_to (result_err result) line && (asked_in_script line.text).uses.link)
      (comes_to_link lines (result_err result)) none in
      then.unlinked line.number ascends.1 parts.1
      ∙ first.unlinked
      (second_false (is_come_to (result_err result) line) _
      (come_to now line lines tells middle new result ascends.1 then.within) parts.0);
}

-- no line is left, and the script is not refused itself
pub lines_done : (now : ℕ) (tells : RunTells) (old : RunSeen) (passed : Unit {0})
    → AreCarried now [] None tells old old (Ok passed)
lines_done now tells old passed = record {
  carries = finish_carried script_uses RunningMayRefuse tells old passed;
  synced = λ told. syncs-none old.store;
  own = tt;
  within = tt;
  unlinked = λ least ascends none. refl;
}

-- a cause for which a script itself is refused is no fault, and belongs to what is stated
own_reason : (cause : Cause) (name : List ℕ) (tells : RunTells) (old : RunSeen) → ScriptMayRefuse cause name
    → (stated : Type 0) → stated → HasReason script_uses old old stated cause
own_reason (BadLine line) name tells old may stated fact = fact
own_reason (LongLine line) name tells old may stated fact = fact
own_reason TooLarge name tells old may stated fact = fact
own_reason _ name tells old may stated fact = absurd may

-- no output failed for it
own_no_output : (cause : Cause) (name : List ℕ) → ScriptMayRefuse cause name → Some cause ≢ Some SinkFault
own_no_output cause name may is =
    let sink : cause ≡ SinkFault = cc in
    subst (λ (c : Cause). ScriptMayRefuse c name) sink may

-- nor does it stop the script as a fault or lack of memory does
own_no_stop : (cause : Cause) (name : List ℕ) → ScriptMayRefuse cause name → StopsIt cause → ⊥
own_no_stop (BadLine line) name may (inl is) = omega (arith, is)
own_no_stop (BadLine line) name may (inr is) = omega (arith, is)
own_no_stop (LongLine line) name may (inl is) = omega (arith, is)
own_no_stop (LongLine line) name may (inr is) = omega (arith, is)
own_no_stop TooLarge name may (inl is) = omega (arith, is)
own_no_stop TooLarge name may (inr is) = omega (arith, is)
own_no_stop _ name may stopped = absurd may

-- no line is left, and the script is refused itself
pub lines_refused : (now : ℕ) (tells : RunTells) (old : RunSeen) (refusal : Refusal) → IsOfScript refusal
    → AreCarried now [] (Some refusal) tells old old (Err refusal)
lines_refused now tells old refusal own = record {
  carries = stop_carried script_uses RunningMayRefuse tells old refusal
      (own_no_output refusal.cause refusal.name own.may) (own_reason refusal.cause refusal.name tells old own.may)
      (inr (inr (inl own.may))) (placed_nowhere script_uses refusal own.place);
  synced = λ told. syncs-none old.store;
  own = λ none. own.may;
  within = λ some. let none : IsSome nowhere.line = subst (λ (p : Place). IsSome p.line) own.place some in
      absurd (false≢true none);
  unlinked = λ least ascends none. refl;
}

-- A script.

-- lines that were said are those of the script
lines_lead : (invocation : Invocation) (old : RunSeen) (input : SourceSeen) (said : ScriptSaid)
    → script_said old.input.left ≡ said → IsTaken (is_none said.refusal) old.input.left input.left
    → LeadsTo (LinesSteps invocation.now said.lines said.refusal) (record (outside_of old) { input = input.left })
    (ScriptSteps invocation) (outside_of old)
lines_lead invocation old input said is taken =
    let whole = λ (bytes : List ℕ). is_none (script_said bytes).refusal in
    let next = λ (bytes : List ℕ). LinesSteps invocation.now (script_said bytes).lines (script_said bytes).refusal in
    subst (λ (s : ScriptSaid). LeadsTo (LinesSteps invocation.now s.lines s.refusal)
    (record (outside_of old) { input = input.left }) (ScriptSteps invocation) (outside_of old)) is
    (leads_reading whole next (outside_of old) input.left
    (subst (λ (s : ScriptSaid). IsTaken (is_none s.refusal) old.input.left input.left) (sym is) taken))

-- the input is read to its end where the script is not refused itself
pub script_taken : (refusal : Option Refusal) (old left : List ℕ) → IsBehind old left → (refusal ≡ None → left ≡ [])
    → IsTaken (is_none refusal) old left
script_taken None old left behind ended = record { taken = behind.0; behind = behind.1; all = λ all. ended refl }
script_taken (Some refusal) old left behind ended =
    record { taken = behind.0; behind = behind.1; all = λ all. absurd (false≢true all) }

-- what follows for each line follows for the one that was reached
comes_to_weaker : (one other : LineSaid → RunSeen → Type 0) (now : ℕ) (lines : List LineSaid) (tells : RunTells)
    (old : RunSeen) → ((line : LineSaid) (before : RunSeen) → one line before → other line before)
    → ReachesLine one now lines tells old → ReachesLine other now lines tells old
comes_to_weaker one other now [] tells old so at = absurd at
comes_to_weaker one other now (line ∷ lines) tells old so (inl held) = inl (so line old held)
comes_to_weaker one other now (line ∷ lines) tells old so (inr (middle, done, at)) =
    inr (middle, done, comes_to_weaker one other now lines tells middle so at)

no_link_fault : (cause : Cause) (name : List ℕ) → ScriptMayRefuse cause name → cause ≡ LinkFault → ⊥
no_link_fault LinkFault name may is = may
no_link_fault (BadLine line) name may is = absurd (cc)
no_link_fault (LongLine line) name may is = absurd (cc)
no_link_fault TooLarge name may is = absurd (cc)
no_link_fault _ name may is = may

-- a line was left unfinished where a fault of the link is said of lines
left_unfinished : (place : Option ℕ) (now : ℕ) (lines : List LineSaid) (tells : RunTells) (old new : RunSeen)
    (refusal : Refusal) → (place ≡ None → ScriptMayRefuse refusal.cause refusal.name)
    → (IsSome place → IsOfLines now lines tells old new refusal) → refusal.cause ≡ LinkFault
    → IsLeftUnfinished now lines tells old new
left_unfinished None now lines tells old new refusal own one failed =
    absurd (no_link_fault refusal.cause refusal.name (own refl) failed)
left_unfinished (Some number) now lines tells old new refusal own one failed =
    comes_to_weaker (λ (line : LineSaid) (before : RunSeen). IsOfLine now line tells before new refusal)
    (λ (line : LineSaid) (before : RunSeen). IsLineUnfinished now line tells before new) now lines tells old
    (λ line before of_line. of_line.unfinished failed) (one refl)

lines_unfinished : (now : ℕ) (lines : List LineSaid) (ended : Option Refusal) (tells : RunTells) (old new : RunSeen)
    (result : Result (Unit {0}) Refusal) → AreCarried now lines ended tells old new result
    → IfErr result (λ (refusal : Refusal). refusal.cause ≡ LinkFault → IsLeftUnfinished now lines tells old new)
lines_unfinished now lines ended tells old new (Ok value) carried = tt
lines_unfinished now lines ended tells old new (Err refusal) carried =
    left_unfinished refusal.place.line now lines tells old new refusal carried.own carried.within

-- a script was read, and its lines were carried out
pub script_carried : (invocation : Invocation) (tells : RunTells) (old : RunSeen) (input : SourceSeen) (new : RunSeen)
    (result : Result (Unit {0}) Refusal) (said : ScriptSaid)
    → old.input.faults ≤ input.faults → (IsTrue tells.input → script_said old.input.left ≡ said)
    → (IsTrue tells.input → IsBehind old.input.left input.left)
    → (said.refusal ≡ None → IsTrue tells.input → input.left ≡ [])
    → AreCarried invocation.now said.lines said.refusal tells (with_input old input) new result
    → IsCarriedOut scripting invocation tells old new result
script_carried invocation tells old input new result said later is behind ended carried = record {
  carries =
      carries_since {done = true} [] (LinesSteps invocation.now said.lines said.refusal) (ScriptSteps invocation)
      script_uses true RunningMayRefuse RunningMayRefuse tells old old.store input new result
      (only_reads-none [] old.store) later (λ told. lines_lead invocation old input said (is told.input)
      (script_taken said.refusal old.input.left input.left (behind told.input) (λ none. ended none told.input)))
      (λ cause name may. may) carried.carries;
  named = tt;
  edited = tt;
  unwritten = λ said. absurd (false≢true said);
  within = record { files = record { alone = tt; anew = tt }; few = tt };
  reads = of_done result _ (λ told. tt);
  made = of_done result _ (λ told. tt);
  synced = carried.synced;
  unfinished = IfErr-weaker result _ _ (λ refusal left failed told. (
    input,
    subst (λ (s : ScriptSaid). IsLeftUnfinished invocation.now s.lines tells (with_input old input) new)
        (sym (is told)) (left failed),
  )) (lines_unfinished invocation.now said.lines said.refusal tells (with_input old input) new result carried);
  untaken = λ one. absurd (false≢true (sym one));
  unbegun = λ reads. IfErr-weaker result _ _
      (λ refusal own stopped none. absurd (own_no_stop refusal.cause refusal.name (own none) stopped)) carried.own;
  unlinked =
      λ told none.
      carried.unlinked 0 (subst (λ (s : ScriptSaid). Ascends 0 s.lines) (is told) (script_ascends old.input.left))
      (subst (λ (s : ScriptSaid). comes_to_link s.lines (result_err result) ≡ false) (is told) none);
}

not_in_line : (text name : List ℕ) → (asked_in_script text).may SourceFault name → ⊥
not_in_line text name (inl is) = cc
not_in_line text name (inr may) = spares_input (words_of text) name may

-- a refusal in a line is no fault of the input
not_of_input : (now : ℕ) (lines : List LineSaid) (tells : RunTells) (old new : RunSeen) (refusal : Refusal)
    → refusal.cause ≡ SourceFault → IsOfLines now lines tells old new refusal → ⊥
not_of_input now [] tells old new refusal is at = at
not_of_input now (line ∷ lines) tells old new refusal is (inl of_line) =
    not_in_line line.text refusal.name
    (subst (λ (c : Cause). (asked_in_script line.text).may c refusal.name) is of_line.may)
not_of_input now (line ∷ lines) tells old new refusal is (inr (middle, done, at)) =
    not_of_input now lines tells middle new refusal is at

in_no_line : (place : Option ℕ) (now : ℕ) (lines : List LineSaid) (tells : RunTells) (old new : RunSeen)
    (refusal : Refusal) → refusal.cause ≡ SourceFault
    → (IsSome place → IsOfLines now lines tells old new refusal) → place ≡ None
in_no_line None now lines tells old new refusal is one = refl
in_no_line (Some number) now lines tells old new refusal is one =
    absurd (not_of_input now lines tells old new refusal is (one refl))

-- the refusal of a script that was read stands in it
pub script_stands : (now : ℕ) (tells : RunTells) (old : RunSeen) (input : SourceSeen) (new : RunSeen)
    (result : Result (Unit {0}) Refusal) (said : ScriptSaid)
    → (IsTrue tells.input → script_said old.input.left ≡ said)
    → (said.refusal ≡ None → IsTrue tells.input → input.left ≡ [])
    → new.input ≡ input → AreCarried now said.lines said.refusal tells (with_input old input) new result
    → IfErr result (StandsInScript now tells old new)
script_stands now tells old input new (Ok value) said is ended same carried = tt
script_stands now tells old input new (Err refusal) said is ended same carried = record {
  own = λ none. inr (inr (carried.own none));
  unread = λ fault.
      in_no_line refusal.place.line now said.lines tells (with_input old input) new refusal fault carried.within;
  line =
      λ told some. subst
      (λ (s : ScriptSaid). IsOfLines now s.lines tells (record old { input = new.input }) new refusal) (sym (is told))
      (subst (λ (i : SourceSeen). IsOfLines now said.lines tells (with_input old i) new refusal) (sym same)
      (carried.within some));
  read = λ told none some.
      ap (λ (i : SourceSeen). i.left) same ∙ ended (subst (λ (s : ScriptSaid). s.refusal ≡ None) (is told) none) told;
}

-- what is said of a script that was not read stands in none of its lines
pub unread_stands : (now : ℕ) (tells : RunTells) (old new : RunSeen) (fault : ScriptFault)
    → StandsInScript now tells old new (refusal_of (unread_cause fault) [])
unread_stands now tells old new Source = record {
  own = λ none. inl refl;
  unread = λ is. refl;
  line = λ told some. absurd (false≢true some);
  read = λ told none some. absurd (false≢true some);
}
unread_stands now tells old new NoMemory = record {
  own = λ none. inr (inl refl);
  unread = λ is. refl;
  line = λ told some. absurd (false≢true some);
  read = λ told none some. absurd (false≢true some);
}

unread_reason : (fault : ScriptFault) (old new : RunSeen) (stated : Type 0)
    → (fault ≡ Source → Rose old.input.faults new.input.faults)
    → HasReason script_uses old new stated (unread_cause fault)
unread_reason Source old new stated rose = rose refl
unread_reason NoMemory old new stated rose = tt

unread_may : (fault : ScriptFault) → RunningMayRefuse (unread_cause fault) []
unread_may Source = inl refl
unread_may NoMemory = inr (inl refl)

unread_unlinked : (fault : ScriptFault) → unread_cause fault ≡ LinkFault → ⊥
unread_unlinked Source is = absurd (cc)
unread_unlinked NoMemory is = absurd (cc)

unread_no_output : (fault : ScriptFault) → Some (unread_cause fault) ≢ Some SinkFault
unread_no_output Source is = cc
unread_no_output NoMemory is = cc

-- a script was not read
pub script_unread : (invocation : Invocation) (tells : RunTells) (old : RunSeen) (input : SourceSeen)
    (fault : ScriptFault) → old.input.faults ≤ input.faults → (fault ≡ Source → Rose old.input.faults input.faults)
    → IsCarriedOut scripting invocation tells old (with_input old input) (Err (refusal_of (unread_cause fault) []))
script_unread invocation tells old input fault later rose = record {
  carries = record {
    done = tt;
    refused = unread_reason fault old (with_input old input) _ rose;
    part = λ told. nothing_begun (ScriptSteps invocation) tells old (with_input old input) (unread_no_output fault) refl
        (λ is. refl) (λ is. refl) refl refl refl refl;
    may_refuse = unread_may fault;
    placed = record { line = λ none. refl; input_line = λ none. refl };
    only_reads = λ only. record { files = refl; writes = refl };
    all_or_nothing = λ whole other. record { files = refl; writes = refl };
    quiet = λ none. refl;
    later = record { store = omega arith; input = later; out = omega arith; err = omega arith; link = omega arith };
  };
  named = tt;
  edited = tt;
  unwritten = λ said. absurd (false≢true said);
  within = record { files = record { alone = tt; anew = tt }; few = tt };
  reads = tt;
  made = tt;
  synced = λ told. syncs-none old.store;
  unfinished = λ failed. absurd (unread_unlinked fault failed);
  untaken = λ one five. refl;
  unlinked = λ told none. refl;
  unbegun = λ reads stopped none. record { store = refl; out = refl; err = refl; link = refl };
}

-- It reads the input to its end, and is sure.

lines_are_sure : (now : ℕ) (lines : List LineSaid) (old : Outside) → LinesSuffice now lines old
    → IsSure (LinesSteps now lines None) old
lines_are_sure now [] old can = refl
lines_are_sure now (line ∷ lines) old can = (
  asked_sure described (command_of true (words_of line.text)) (line_invocation now line) old
      (λ command. (sound command).sure (line_invocation now line) old) can.0,
  λ acts middle ends. lines_are_sure now lines middle (can.1 acts middle ends),
)

pub script_sure : (invocation : Invocation) (old : Outside) → scripting.suffices invocation old
    → IsSure (ScriptSteps invocation) old
script_sure invocation old can = λ left taken.
    let said = script_said old.input in
    let none : left ≡ [] = taken.all (subst (λ (r : Option Refusal). IsTrue (is_none r)) (sym can.0) refl) in
    subst
    (λ (r : Option Refusal). IsSure (LinesSteps invocation.now said.lines r) (record old { input = left })) (sym can.0)
    (subst (λ (l : List ℕ). IsSure (LinesSteps invocation.now said.lines None) (record old { input = l })) (sym none)
    (lines_are_sure invocation.now said.lines (record old { input = [] }) can.1))
