-- What scripts and runs commit.
use Rattle.std.proofs.Common.{◌≡◌, ℕ, Bool, true, IsTrue, List, ◌∷◌, ◌++◌, Option, None, Result, Ok, Err, refl, sym}
use Rattle.std.proofs.Common.{subst, ◌∙◌, arith}
use Rattle.std.specs.Prelude.{⊤, is_ok, is_none, nat_eq}
use Rattle.std.specs.Result.{result_err}
use Rattle.std.proofs.lemmas.Bool.{false≢true}
use Rattle.std.proofs.lemmas.Bool.Decides.{nat_tests}
use Rattle.std.proofs.lemmas.List.Elements.{All-weaker}
use Rattle.outside.specs.World.{World}
use Rattle.refusals.specs.declared.reason.Refusal.{Refusal}
use Rattle.refusals.specs.Status.{end_status}
use Rattle.run_steps.specs.Committed.{ComesTo, CommitsSteps}
use Rattle.run_steps.specs.Done.{Outside}
use Rattle.run_steps.specs.Meaning.{EndsBy, IsTaken}
use Rattle.run_steps.specs.Act.{Act}
use Rattle.run_steps.specs.Steps.{Steps}
use Rattle.run_steps.specs.declared.invocation.Invocation.{Invocation}
use Rattle.run_steps.proofs.CommittedLemmas.{comes_before, comes_in_line, comes_read, comes_then, committed_on}
use Rattle.input_text.specs.Words.{words_of}
use Rattle.command_words.specs.Asked.{command_of}
use Rattle.script_lines.specs.Script.{LineSaid, ScriptSaid, script_said}
use Rattle.command_table.specs.CarriedOut.{CommandCommits}
use Rattle.descriptions.specs.Description.{MayCommit}
use Rattle.command_table.specs.Table.{asked_by, described}
use Rattle.quota_cli.specs.Script.{LineSteps, LinesSteps, ScriptSteps, asked_in_script, line_invocation, scripting}
use Rattle.quota_cli.proofs.EndStatusLemmas.{no_status_0}

-- Any files may be committed by a line of a script.
abbrev pub Any : World → Type 0
Any world = ⊤

-- what a command commits that stands in a line of a script
pub line_committed : (now : ℕ) (line : LineSaid) (ended again : Bool) (old : Outside) (new : World)
    (commits : List World → Type 0)
    → CommandCommits (asked_in_script line.text) (line_invocation now line) ended old new commits
    → CommitsSteps ⊥ again (LineSteps now line) Any old new commits
line_committed now line ended again old new commits those =
    let steps = (asked_in_script line.text).steps (line_invocation now line) in
    record {
      worlds = those.worlds;
      commits_them = those.commits_them;
      reached = All-weaker (ComesTo steps old) (ComesTo (LineSteps now line) old)
          (λ world to. comes_in_line line.number steps old world to) those.worlds those.reached;
      within =
          All-weaker (MayCommit (asked_in_script line.text) old.files) Any (λ world may. tt) those.worlds those.within;
      one = λ single. absurd single;
    }

-- what the words of a line commit, whatever is said of memory
pub text_committed : (text : List ℕ) (invocation : Invocation) (ended : Bool) (old : Outside) (new : World)
    (commits : List World → Type 0)
    → CommandCommits (asked_by described (command_of true (words_of text))) invocation ended old new commits
    → CommandCommits (asked_in_script text) invocation ended old new commits
text_committed text invocation ended old new commits those = record {
  worlds = those.worlds;
  commits_them = those.commits_them;
  reached = those.reached;
  within =
      All-weaker (MayCommit (asked_by described (command_of true (words_of text))) old.files)
      (MayCommit (asked_in_script text) old.files)
      (λ world may. record { only = record { alone = may.only.alone; anew = may.only.anew }; none = may.none })
      those.worlds those.within;
  one = those.one;
}

-- where several moments may be committed nothing is said of the end
pub ended_again : (ended again : Bool) (steps : Steps) (allowed : World → Type 0) (old : Outside) (new : World)
    (commits : List World → Type 0)
    → CommitsSteps ⊥ ended steps allowed old new commits → CommitsSteps ⊥ again steps allowed old new commits
ended_again ended again steps allowed old new commits those = record {
  worlds = those.worlds;
  commits_them = those.commits_them;
  reached = those.reached;
  within = those.within;
  one = λ single. absurd single;
}

-- what lines commit up to one, and this one behind them, where what comes of it comes of all of them
pub lines_committed : (now : ℕ) (line : LineSaid) (rest : List LineSaid) (refusal : Option Refusal) (whole : Steps)
    (ended first again : Bool) (start old : Outside) (between new : World)
    (former latter commits : List World → Type 0)
    → ((one two : List World) → former one → latter two → commits (one ++ two))
    → ((world : World) → ComesTo (LinesSteps now (line ∷ rest) refusal) old world → ComesTo whole start world)
    → CommitsSteps ⊥ first whole Any start between former → CommitsSteps ⊥ ended (LineSteps now line) Any old new latter
    → CommitsSteps ⊥ again whole Any start new commits
lines_committed now line rest refusal whole ended first again start old between new former latter commits on
    onward those these =
    committed_on again first whole (LineSteps now line) whole Any start old start between new former latter commits on
    (λ world to. to)
    (λ world to. onward world (comes_before (LineSteps now line) (LinesSteps now rest refusal) old world to)) those
    (ended_again ended again _ _ _ _ _ these)

-- what comes of lines behind one that was carried out comes of it and them
pub lines_onward : (now : ℕ) (line : LineSaid) (rest : List LineSaid) (refusal : Option Refusal) (whole : Steps)
    (start old middle : Outside) (acts : List Act)
    → EndsBy (LineSteps now line) old acts middle None
    → ((world : World) → ComesTo (LinesSteps now (line ∷ rest) refusal) old world → ComesTo whole start world)
    → (world : World) → ComesTo (LinesSteps now rest refusal) middle world → ComesTo whole start world
lines_onward now line rest refusal whole start old middle acts ends onward world to =
    onward world (comes_then (LineSteps now line) (LinesSteps now rest refusal) old middle acts world ends to)

-- what the lines of a script commit that was read
pub script_committed : (invocation : Invocation) (said : ScriptSaid) (ended : Bool) (old : Outside) (left : List ℕ)
    (new : World) (commits : List World → Type 0)
    → script_said old.input ≡ said → IsTaken (is_none said.refusal) old.input left
    → CommitsSteps ⊥ ended (LinesSteps invocation.now said.lines said.refusal) Any
    (record old { input = left }) new commits
    → CommandCommits scripting invocation ended old new commits
script_committed invocation said ended old left new commits is taken those =
    let whole = λ (bytes : List ℕ). is_none (script_said bytes).refusal in
    let next = λ (bytes : List ℕ). LinesSteps invocation.now (script_said bytes).lines (script_said bytes).refusal in
    let here : CommitsSteps ⊥ ended (next old.input) Any (record old { input = left }) new commits =
    subst (λ (s : ScriptSaid). CommitsSteps ⊥ ended (LinesSteps invocation.now s.lines s.refusal) Any
    (record old { input = left }) new commits) (sym is) those in
    record {
      worlds = here.worlds;
      commits_them = here.commits_them;
      reached =
          All-weaker (ComesTo (next old.input) (record old { input = left })) (ComesTo (ScriptSteps invocation) old)
          (λ world to. comes_read whole next old left world
          (subst (λ (s : ScriptSaid). IsTaken (is_none s.refusal) old.input left) (sym is) taken) to)
          here.worlds here.reached;
      within = All-weaker Any (MayCommit scripting old.files)
          (λ world may. record { only = record { alone = tt; anew = tt }; none = λ no. absurd (false≢true (sym no)) })
          here.worlds here.within;
      one = λ single. absurd single;
    }

-- A run that ended with status 0 was done.

done_of : (result : Result (Unit {0}) Refusal) (status : ℕ) → status ≡ end_status (result_err result)
    → IsTrue (nat_eq status 0) → IsTrue (is_ok result)
done_of (Ok value) status is zero = refl
done_of (Err refusal) status is zero =
    let none : status ≡ 0 = grind (arith, nat_tests) in
    absurd (no_status_0 refusal.cause (sym is ∙ none))

-- what is committed is so whatever the answer, as far as the end is told by it
pub run_committed : (once : Type 0) (steps : Steps) (allowed : World → Type 0) (old : Outside) (new : World)
    (commits : List World → Type 0) (result : Result (Unit {0}) Refusal) (status : ℕ)
    → status ≡ end_status (result_err result) → CommitsSteps once (is_ok result) steps allowed old new commits
    → CommitsSteps once (nat_eq status 0) steps allowed old new commits
run_committed once steps allowed old new commits result status is those = record {
  worlds = those.worlds;
  commits_them = those.commits_them;
  reached = those.reached;
  within = those.within;
  one = λ single.
      let moment = those.one single in
      (moment.0, moment.1, λ zero. moment.2 (done_of result status is zero));
}
