-- What the commands of the table commit.
use Rattle.std.proofs.Common.{◌≡◌, Bool, List, [], Result, Ok, refl, sym, subst}
use Rattle.outside.specs.World.{World}
use Rattle.refusals.specs.declared.reason.Refusal.{Refusal}
use Rattle.command_words.specs.declared.command.Command.{Command}
use Rattle.run_steps.specs.Committed.{CommitsSteps}
use Rattle.run_steps.specs.Done.{Outside}
use Rattle.run_steps.specs.declared.invocation.Invocation.{Invocation}
use Rattle.run_steps.proofs.CommittedLemmas.{looked_committed}
use Rattle.std.proofs.lemmas.List.Elements.{All-weaker}
use Rattle.command_table.specs.CarriedOut.{CommandCommits}
use Rattle.descriptions.specs.Description.{Description, MayCommit}
use Rattle.command_table.specs.Table.{asked_by}
use Rattle.command_table.proofs.CommandLemmas.{only_itself}

-- files that have not changed may be committed
pub may_itself : (command : Description) (files : World) → MayCommit command files files
may_itself command files = record { only = only_itself command files; none = λ no. refl }

-- what a command commits that has these steps
pub row_committed : (command : Description) (invocation : Invocation) (once : Type 0) (ended : Bool)
    (allowed : World → Type 0) (old : Outside) (new : World) (commits : List World → Type 0)
    → (command.at_once invocation old → once) → ((world : World) → allowed world → MayCommit command old.files world)
    → CommitsSteps once ended (command.steps invocation) allowed old new commits
    → CommandCommits command invocation ended old new commits
row_committed command invocation once ended allowed old new commits single may those = record {
  worlds = those.worlds;
  commits_them = those.commits_them;
  reached = those.reached;
  within = All-weaker allowed (MayCommit command old.files) may those.worlds those.within;
  one = λ changes. those.one (single changes);
}

-- what a command commits that only looked, or did nothing
pub row_looked : (command : Description) (invocation : Invocation) (ended : Bool) (old : Outside) (new : World)
    (commits : List World → Type 0)
    → ((worlds : List World) → commits [] → commits worlds) → commits [] → new ≡ old.files
    → CommandCommits command invocation ended old new commits
row_looked command invocation ended old new commits more none same =
    looked_committed (command.at_once invocation old) ended (command.steps invocation) (MayCommit command old.files) old
    new commits more none same (may_itself command old.files)

-- what a command commits is committed by words that ask for it
pub read_committed : (table : Command → Description) (command : Command) (asked : Result Command Refusal)
    (invocation : Invocation) (ended : Bool) (old : Outside) (new : World)
    (commits : List World → Type 0) → asked ≡ Ok command
    → CommandCommits (table command) invocation ended old new commits
    → CommandCommits (asked_by table asked) invocation ended old new commits
read_committed table command asked invocation ended old new commits is those =
    subst (λ (a : Result Command Refusal). CommandCommits (asked_by table a) invocation ended old new commits)
    (sym is) (record {
      worlds = those.worlds;
      commits_them = those.commits_them;
      reached = those.reached;
      within = All-weaker (MayCommit (table command) old.files) (MayCommit (asked_by table (Ok command)) old.files)
          (λ world may. record { only = record { alone = may.only.alone; anew = may.only.anew }; none = may.none })
          those.worlds those.within;
      one = those.one;
    })
