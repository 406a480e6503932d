-- What an edit of a file commits, by words or by a form: the files of one moment, to which its steps come.
use Rattle.std.proofs.Common.{◌≡◌, ⊎_elim, ℕ, Bool, false, List, [], ◌∷◌, ◌++◌, Option, Ok, refl, subst}
use Rattle.std.specs.Prelude.{⊤}
use Rattle.std.proofs.lemmas.Bool.{false≢true}
use Rattle.quota_types.specs.declared.file_kind.Kind.{Kind}
use Rattle.id_names.specs.NamesFile.{NameLine}
use Rattle.outside.specs.Seen.{Datagram}
use Rattle.outside.specs.World.{KeepsOthers, World}
use Rattle.opened_file.specs.Committed.{CommitsOnce}
use Rattle.quota_value.specs.QuotaValue.{QuotaValue}
use Rattle.quota_map.specs.Asked.{Asked}
use Rattle.quota_map.specs.View.{IsView}
use Rattle.refusals.specs.Outcome.{Outcome, Passed}
use Rattle.run_steps.specs.Act.{Act, Change, InPlace}
use Rattle.run_steps.specs.Committed.{ComesTo, CommitsSteps}
use Rattle.run_steps.specs.Done.{Outside}
use Rattle.run_steps.specs.Naming.{names_seen}
use Rattle.run_steps.specs.Steps.{DoingAll, Finish, Naming, Steps, Then}
use Rattle.run_steps.specs.declared.invocation.Invocation.{Invocation}
use Rattle.run_steps.proofs.CommittedLemmas.{comes_behind, comes_first, comes_looked, comes_opened, comes_passed}
use Rattle.run_steps.proofs.CommittedLemmas.{comes_same, committed_within, looked_committed, one_committed}
use Rattle.edit_steps.specs.EditStep.{edit_step}
use Rattle.edit_steps.proofs.CommittedLemmas.{IsStepped}
use Rattle.edit_commands.specs.Edits.{FileEditSteps, said_acts, warnings}
use Rattle.edit_commands.specs.EditWords.{edit_meant, skipped_by}
use Rattle.edit_commands.specs.declared.edit.FileEdit.{FileEdit}

-- Files that steps come to.

-- those that come of the names that were read
pub comes_named : (kind : Kind) (names : Option (List ℕ)) (lines : List NameLine) (next : List NameLine → Steps)
    (old : Outside) (files : World) → names_seen kind names old.files ≡ Passed lines
    → ComesTo (next lines) old files → ComesTo (Naming kind names next) old files
comes_named kind names lines next old files is to =
    comes_looked (λ (files : World). Then (names_seen kind names files) next) old files
    (comes_passed (names_seen kind names old.files) lines next old files is to)

-- those behind an edit of an opened file, where a step of it made them or they are as they were
pub comes_stepped : (kind : Kind) (asked : Asked) (edit : FileEdit) (file : List ℕ) (invocation : Invocation)
    (old : Outside) (middle new : World) (value : QuotaValue) → middle ≡ old.files
    → IsView (old.files file) kind asked (Ok value)
    → IsStepped InPlace file (edit_meant edit invocation.now) value middle new
    → ComesTo (FileEditSteps kind asked edit file invocation) old new
comes_stepped kind asked edit file invocation old middle new value same view stepped =
    let next : List Act → Steps =
    λ acts. DoingAll (acts ++ said_acts (warnings invocation.line (skipped_by edit value))) Finish in
    let step : World → Outcome (List Act) =
    λ files. edit_step InPlace file (edit_meant edit invocation.now) (files file) value in
    let here : IsStepped InPlace file (edit_meant edit invocation.now) value old.files new =
    subst (λ (w : World). IsStepped InPlace file (edit_meant edit invocation.now) value w new) same stepped in
    ⊎_elim
    (λ (none : new ≡ old.files). comes_same (FileEditSteps kind asked edit file invocation) old old.files new
    (comes_first (FileEditSteps kind asked edit file invocation) old) none)
    (λ made.
    comes_opened kind asked file _ old value new view
    (comes_looked (λ (files : World). Then (step files) next) old new
    (comes_passed (step old.files) (Change InPlace file made.0 ∷ []) next old new made.1
    (comes_behind (Change InPlace file made.0) _ old new new made.2 (comes_first _ (record old { files = new }))))))
    here

-- What is committed.

-- nothing, where the store was only read
pub read_committed : (steps : Steps) (file : List ℕ) (old : Outside) (new : World) (commits : List World → Type 0)
    → ((worlds : List World) → commits [] → commits worlds)
    → commits [] → new ≡ old.files → CommitsSteps ⊤ false steps (KeepsOthers file old.files) old new commits
read_committed steps file old new commits more none same =
    looked_committed ⊤ false steps (KeepsOthers file old.files) old new commits more none same (λ other apart. refl)

-- the files of the end, to which the steps of an edit come that was made
pub made_committed : (ended : Bool) (steps : Steps) (file : List ℕ) (old : Outside) (new : World)
    (commits : List World → Type 0) (whole : Type 0)
    → ((worlds : List World) → commits [] → commits worlds) → CommitsOnce commits whole new → ComesTo steps old new
    → KeepsOthers file old.files new
    → CommitsSteps ⊤ ended steps (KeepsOthers file old.files) old new commits
made_committed ended steps file old new commits whole more once to may =
    one_committed ⊤ ended steps (KeepsOthers file old.files) old new new commits
    (⊎_elim (λ none. more (new ∷ []) none) (λ one. one.0) once) to may (λ well. refl)

-- those of the end, to which the steps of an edit come that was refused but for what it committed, or those of the
-- start
pub refused_committed : (steps : Steps) (file : List ℕ) (old : Outside) (new : World) (commits : List World → Type 0)
    (whole : Type 0) → ((worlds : List World) → commits [] → commits worlds)
    → CommitsOnce commits whole new → (whole → ComesTo steps old new) → KeepsOthers file old.files new
    → CommitsSteps ⊤ false steps (KeepsOthers file old.files) old new commits
refused_committed steps file old new commits whole more once to may =
    ⊎_elim
    (λ none. one_committed ⊤ false steps (KeepsOthers file old.files) old new old.files commits
    (more (old.files ∷ []) none) (comes_first steps old) (λ other apart. refl)
    (λ well. absurd (false≢true well)))
    (λ one.
    one_committed ⊤ false steps (KeepsOthers file old.files) old new new commits one.0 (to one.1) may (λ well. refl))
    once

-- what comes behind steps that only looked is committed by all of them
pub committed_since : (ended : Bool) (next steps : Steps) (file : List ℕ) (old middle new : World) (input left : List ℕ)
    (datagrams : List Datagram) (latter commits : List World → Type 0)
    → middle ≡ old → ((worlds : List World) → latter worlds → commits worlds)
    → ((world : World) → ComesTo next (record { files = old; input = left; datagrams = datagrams }) world
    → ComesTo steps (record { files = old; input = input; datagrams = datagrams }) world)
    → CommitsSteps ⊤ ended next (KeepsOthers file middle)
    (record { files = middle; input = left; datagrams = datagrams }) new latter
    → CommitsSteps ⊤ ended steps (KeepsOthers file old)
    (record { files = old; input = input; datagrams = datagrams }) new commits
committed_since ended next steps file old middle new input left datagrams latter commits same more comes those =
    committed_within ⊤ ⊤ ended ended next steps (KeepsOthers file old) (KeepsOthers file old)
    (record { files = old; input = left; datagrams = datagrams })
    (record { files = old; input = input; datagrams = datagrams }) new latter commits (λ single. single) (λ well. well)
    more comes (λ world may. may)
    (subst (λ (files : World). CommitsSteps ⊤ ended next (KeepsOthers file files)
    (record { files = files; input = left; datagrams = datagrams }) new latter) same those)
