-- Commands whose words are refused, and what all commands share.
use Rattle.std.proofs.Common.{◌≡◌, ◌≢◌, ◌∙◌, ℕ, ◌≤◌, ◌+◌, false, IsTrue, List, [], Option, None, Some, Ok, Err, Result}
use Rattle.std.proofs.Common.{is_ok, inl, inr, refl, sym, subst, arith}
use Rattle.std.specs.Prelude.{IfErr, IfSome, IsErr, IsErrAnd, OnErr, OnOk, ◌↔◌}
use Rattle.std.proofs.lemmas.Bool.{false≢true}
use Rattle.std.proofs.lemmas.Result.{on_ok_weaker}
use Rattle.outside.specs.ManyCalls.{Syncs}
use Rattle.outside.specs.Seen.{StoreSeen}
use Rattle.outside.specs.World.{World}
use Rattle.outside.proofs.FrameLemmas.{syncs-none}
use Rattle.run_steps.specs.Carrying.{CarriesOut}
use Rattle.refusals.specs.declared.cause.Cause.{Cause}
use Rattle.refusals.specs.declared.cause.Cause.TheVariants.{LinkFault, Memory, Usage}
use Rattle.refusals.specs.declared.cause.UsageKind.TheVariants.{UnknownCommand}
use Rattle.refusals.specs.declared.cause.UsageKind.{UsageKind}
use Rattle.refusals.specs.declared.reason.Refusal.{Refusal}
use Rattle.refusals.specs.Refusals.{refusal_of}
use Rattle.refusals.specs.Status.{status_of}
use Rattle.refusals.proofs.GroupLemmas.{words_alone}
use Rattle.command_words.specs.declared.command.Command.{Command}
use Rattle.command_words.specs.declared.reading.UsageFault.{UsageFault}
use Rattle.command_words.specs.declared.reading.UsageFault.TheVariants.{Usage as UsageOf, Memory as NoMemory}
use Rattle.command_words.specs.Usage.{IsUsageFault, usage_refusal}
use Rattle.run_steps.specs.Done.{IsUnwritten, RunSeen, RunTells, outside_of}
use Rattle.run_steps.specs.Steps.{Steps, Stop}
use Rattle.run_steps.specs.Writes.{ReadsWithin}
use Rattle.run_steps.specs.declared.invocation.Invocation.{Invocation}
use Rattle.run_steps.proofs.PhaseLemmas.{carries_more, nothing_carried, stop_carried}
use Rattle.batch_commands.specs.Batch.{batch_uses, if_neither}
use Rattle.descriptions.specs.Description.{ChangesOnly, ChangesWithin, Description, IsLeftByEdit}
use Rattle.command_table.specs.CarriedOut.{AreReadsTold, IsCarriedOut}
use Rattle.command_table.specs.Table.{asked_by, not_here, refused, unknown_command}

-- No command that was read is refused for its words.

-- none of these causes is one of the words
abbrev pub SparesWords : (Cause → List ℕ → Type 0) → Type 0
SparesWords may = (kind : UsageKind) (word : ℕ) (said : List ℕ) → may (Usage kind word) said → ⊥

-- no command that was read is refused with status 2, where it is refused for no cause of words
not_usage : (may : Cause → List ℕ → Type 0) (cause : Cause) (said : List ℕ) → SparesWords may → may cause said
    → status_of cause ≢ 2
not_usage may cause said spares is two =
    let words = words_alone cause two in
    spares words.0 words.1 said (subst (λ (c : Cause). may c said) words.2 is)

-- What words ask for that were read.

-- what a command was carried out for, words were carried out for that ask for it
pub read_carried : (table : Command → Description) (command : Command) (asked : Result Command Refusal)
    (invocation : Invocation) (tells : RunTells) (old new : RunSeen) (result : Result (Unit {0}) Refusal)
    → asked ≡ Ok command
    → IsCarriedOut (table command) invocation tells old new result
    → IsCarriedOut (asked_by table asked) invocation tells old new result
read_carried table command asked invocation tells old new result is carried =
    subst (λ (a : Result Command Refusal). IsCarriedOut (asked_by table a) invocation tells old new result)
    (sym is) (record {
      carries = carries_more _ _ _ _ tells old new result (λ cause said may. inr may) carried.carries;
      named = carried.named;
      edited = carried.edited;
      unwritten = carried.unwritten;
      within = record {
        files = record { alone = carried.within.files.alone; anew = carried.within.files.anew };
        few = carried.within.few;
      };
      reads = carried.reads;
      made = carried.made;
      synced = carried.synced;
      unfinished = carried.unfinished;
      untaken = carried.untaken;
      unlinked = carried.unlinked;
      unbegun = carried.unbegun;
    })

-- the status of a command that was read
pub usage_read : (may : Cause → List ℕ → Type 0) (command : Command) (asked : Result Command Refusal)
    (result : Result (Unit {0}) Refusal) → asked ≡ Ok command
    → SparesWords may → IfErr result (λ (refusal : Refusal). may refusal.cause refusal.name)
    → IsErrAnd result (λ (refusal : Refusal). status_of refusal.cause ≡ 2) ↔ IsErr asked
usage_read may command (Ok other) (Ok value) is spares said = (λ two. absurd two, λ err. absurd (cc))
usage_read may command (Ok other) (Err refusal) is spares said =
    (λ two. absurd (not_usage may refusal.cause refusal.name spares said two), λ err. absurd (cc))
usage_read may command (Err other) result is spares said = absurd (cc)

-- Words that were not read.

-- what holds of every file holds of the one that is there
holds_of_one : (file : Option (List ℕ)) (holds : List ℕ → Type 0) → ((one : List ℕ) → holds one) → IfSome file holds
holds_of_one None holds all = tt
holds_of_one (Some one) holds all = all one

-- files that have not changed
pub only_itself : (command : Description) (files : World) → ChangesOnly command files files
only_itself command files = record {
  alone = holds_of_one command.alone _ (λ file other differ. refl);
  anew = holds_of_one command.anew _ (λ file other differ differs. refl);
}

-- as many calls as there were are no more than others
most_same : (most : Option ℕ) (writes : ℕ) → IfSome most (λ (m : ℕ). writes ≤ writes + m)
most_same None writes = tt
most_same (Some m) writes = omega arith

-- nothing was done for what is refused, but for a fault of the link
nothing_done : (command : Description) (invocation : Invocation) (tells : RunTells) (old : RunSeen) (refusal : Refusal)
    → refusal.cause ≢ LinkFault
    → CarriesOut (command.steps invocation) command.uses command.may tells old old (Err refusal)
    → IsCarriedOut command invocation tells old old (Err refusal)
nothing_done command invocation tells old refusal other carries = record {
  carries = carries;
  named = holds_of_one command.replaces _ (λ file told. refl);
  edited = holds_of_one command.edits _ (λ file told other. inl refl);
  unwritten = λ said memory. record { files = refl; writes = refl };
  within = record { files = only_itself command old.store.files; few = most_same command.most_writes old.store.writes };
  reads = tt;
  made = tt;
  synced = λ told. syncs-none old.store;
  unfinished = λ link. absurd (other link);
  untaken = λ one five. refl;
  unlinked = λ told no. refl;
  unbegun = λ reads stopped none. record { store = refl; out = refl; err = refl; link = refl };
}

-- a command that is refused at once
stopped_at_once : (command : Description) (invocation : Invocation) (tells : RunTells) (old : RunSeen)
    (kind : UsageKind) (word : ℕ) → command.steps invocation ≡ Stop (refusal_of (Usage kind word) [])
    → command.may (Usage kind word) []
    → IsCarriedOut command invocation tells old old (Err (refusal_of (Usage kind word) []))
stopped_at_once command invocation tells old kind word stops may =
    nothing_done command invocation tells old (refusal_of (Usage kind word) []) (λ is. cc)
    (subst (λ (steps : Steps).
    CarriesOut steps command.uses command.may tells old old (Err (refusal_of (Usage kind word) []))) (sym stops)
    (stop_carried command.uses command.may tells old (refusal_of (Usage kind word) []) (λ is. cc) (λ stated fact. fact)
    may (record { line = λ no. refl; input_line = λ no. refl })))

pub not_read : (table : Command → Description) (asked : Result Command Refusal) (invocation : Invocation)
    (tells : RunTells) (old : RunSeen) (fault : UsageFault) → IsUsageFault asked fault
    → IsCarriedOut (asked_by table asked) invocation tells old old (Err (usage_refusal fault))
not_read table (Ok command) invocation tells old (UsageOf kind word) is = absurd (cc)
not_read table (Ok command) invocation tells old NoMemory is =
    nothing_done (asked_by table (Ok command)) invocation tells old (usage_refusal NoMemory) (λ is. cc)
    (nothing_carried ((table command).steps invocation) _ _ tells old (usage_refusal NoMemory) (λ is. cc) tt (inl refl)
    (record { line = λ no. refl; input_line = λ no. refl }))
not_read table (Err refusal) invocation tells old (UsageOf kind word) is =
    let same : refusal ≡ usage_refusal (UsageOf kind word) = cc in
    subst (λ (r : Refusal).
    IsCarriedOut (refused r) invocation tells old old (Err (usage_refusal (UsageOf kind word)))) (sym same)
    (stopped_at_once (refused (usage_refusal (UsageOf kind word))) invocation tells old kind word refl refl)
not_read table (Err refusal) invocation tells old NoMemory is = absurd (cc)

-- a command that does not stand here is refused
pub not_here_carried : (invocation : Invocation) (tells : RunTells) (old : RunSeen)
    → IsCarriedOut not_here invocation tells old old (Err unknown_command)
not_here_carried invocation tells old = stopped_at_once not_here invocation tells old UnknownCommand 0 refl refl

-- the status of words that were not read
pub usage_not_read : (asked : Result Command Refusal) (fault : UsageFault) → IsUsageFault asked fault
    → (status_of (usage_refusal fault).cause ≡ 2 → IsErr asked)
    × (IsErr asked → status_of (usage_refusal fault).cause ≡ 2)
usage_not_read (Ok command) (UsageOf kind word) is = absurd (cc)
usage_not_read (Ok command) NoMemory is = (λ two. absurd (omega (arith, two)), λ err. absurd (cc))
usage_not_read (Err refusal) (UsageOf kind word) is = (λ two. refl, λ err. refl)
usage_not_read (Err refusal) NoMemory is = absurd (cc)

-- Facts of a refusal.

-- what holds of every refusal holds of the one that was answered
pub of_refusal : (result : Result (Unit {0}) Refusal) (holds : Refusal → Type 0) → ((refusal : Refusal) → holds refusal)
    → IfErr result holds
of_refusal (Ok value) holds all = tt
of_refusal (Err refusal) holds all = all refusal

-- what holds always holds where it was done
pub of_done : (result : Result (Unit {0}) Refusal) (holds : Type 0) → holds → OnOk result holds
of_done (Ok value) holds is = is
of_done (Err refusal) holds is = tt

-- What holds of a command that uses no link and reads no commands, once it was done or refused. Its link is as before.
pub record DoesAlone (d : Description) (invocation : Invocation) (tells : RunTells) (old new : RunSeen)
    (result : Result (Unit {0}) Refusal) : Type 0 where
  pub unwritten : IsTrue d.unwritten
      → IfErr result (λ (refusal : Refusal). refusal.cause ≡ Memory → IsUnwritten old.store new.store)
  pub unfinished : d.unfinished invocation tells old new
  pub reads_none : d.uses.reads_commands ≡ false
  pub link : new.link ≡ old.link
  pub carries : CarriesOut (d.steps invocation) d.uses d.may tells old new result
  pub named : IfSome d.replaces
      (λ (file : List ℕ). OnErr result (IsTrue tells.store → new.store.files file ≡ old.store.files file))
  pub edited : IfSome d.edits (λ (file : List ℕ). IfErr result (λ (refusal : Refusal). IsTrue tells.store
      → IsLeftByEdit (status_of refusal.cause) old.store.files new.store.files file))
  pub within : ChangesWithin d old.store new.store
  pub reads : OnOk result
      (AreReadsTold d.uses tells → ReadsWithin (d.most_reads (outside_of old)) old.store new.store)
  pub made : OnOk result (IsTrue tells.store → d.made invocation (outside_of old) new.store.files)
  pub synced : IsTrue tells.store → Syncs (is_ok result) old.store new.store

-- so it is carried out
pub carried_alone : (d : Description) (invocation : Invocation) (tells : RunTells) (old new : RunSeen)
    (result : Result (Unit {0}) Refusal) → DoesAlone d invocation tells old new result
    → IsCarriedOut d invocation tells old new result
carried_alone d invocation tells old new result does = record {
  carries = does.carries;
  named = does.named;
  edited = does.edited;
  unwritten = does.unwritten;
  within = does.within;
  reads = does.reads;
  made = does.made;
  synced = does.synced;
  unfinished = of_refusal result _ (λ refusal failed. does.unfinished);
  untaken = λ _. of_refusal result _ (λ refusal five. does.link);
  unlinked = λ told no. does.link;
  unbegun = λ reads. absurd (false≢true (sym does.reads_none ∙ reads));
}

-- what follows from a fact of a refusal holds of the one that was answered
pub of_refusal_weaker : (result : Result (Unit {0}) Refusal) (one other : Refusal → Type 0)
    → ((refusal : Refusal) → one refusal → other refusal) → IfErr result one → IfErr result other
of_refusal_weaker (Ok value) one other so is = tt
of_refusal_weaker (Err refusal) one other so is = so refusal is

-- the bound of reads of lines rests on the standard input where they come from it, and nothing is said of other lines
pub lines_within : (names from : Option (List ℕ)) (reads : ℕ) (result : Result (Unit {0}) Refusal) (tells : RunTells)
    (old new : StoreSeen)
    → OnOk result (IsTrue tells.store → IsTrue tells.input → ReadsWithin (if_neither names from reads) old new)
    → OnOk result (AreReadsTold (batch_uses from) tells → ReadsWithin (if_neither names from reads) old new)
lines_within names None reads result tells old new few =
    on_ok_weaker result (λ within told. within told.store (told.input refl)) few
lines_within None (Some from) reads result tells old new few = of_done result _ (λ told. tt)
lines_within (Some names) (Some from) reads result tells old new few = of_done result _ (λ told. tt)
