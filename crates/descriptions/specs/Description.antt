-- What is said of a command, and what all that carry one out keep to.
use Rattle.std.specs.Prelude.{◌≡◌, ◌≢◌, ◌≤◌, ◌⊎◌, ◌+◌, ℕ, Bool, false, IfSome, List, [], ◌∷◌, Option, None, ⊤}
use Rattle.outside.specs.Replacement.{ReplacesOnly}
use Rattle.outside.specs.Seen.{StoreSeen}
use Rattle.outside.specs.World.{KeepsOthers, World}
use Rattle.refusals.specs.declared.cause.Cause.{Cause}
use Rattle.refusals.specs.declared.reason.Refusal.{Refusal}
use Rattle.quota_value.specs.QuotaValue.{QuotaValue}
use Rattle.quota_map.specs.Asked.{asked_of}
use Rattle.command_words.specs.declared.command.Common.{Common}
use Rattle.run_steps.specs.Act.{MayBeLeft}
use Rattle.run_steps.specs.Done.{Outside, RunSeen, RunTells}
use Rattle.run_steps.specs.Run.{Uses}
use Rattle.run_steps.specs.SameViews.{FileAsked}
use Rattle.run_steps.specs.Steps.{Steps}
use Rattle.run_steps.specs.declared.invocation.Invocation.{Invocation}

-- What a command may look at among the files: the quota files that it opens, in order; the file of names and the file
-- of an input, where it reads one; and the name of which it asks only whether there is a file.
pub record Looks : Type 0 where
  pub opens : List FileAsked
  pub names : Option (List ℕ)
  pub input : Option (List ℕ)
  pub target : Option (List ℕ)

-- these files are opened, and the names and the input of these are read, where there are such
abbrev pub looks_at : List FileAsked → (names input : Option (List ℕ)) → Looks
looks_at files names input = record { opens = files; names = names; input = input; target = None }

-- the one file that a command is given
abbrev pub file_given : Common → (file : List ℕ) → List FileAsked
file_given common file = record { kind = common.kind; asked = asked_of common.format; name = file } ∷ []

-- All that is said of a command.
pub record Description : Type 1 where
  -- its steps, at a moment and in a line of a script or in none
  pub steps : Invocation → Steps
  -- which objects outside it uses
  pub uses : Uses
  -- the causes for which it may be refused, whatever is told, with the name that is said
  pub may : Cause → List ℕ → Type 0
  -- the refusal of its first faulty word, among those that stand for an identifier, a number or a time, where that
  -- rests on nothing but the words
  pub faulty : Option Refusal
  -- the file that it replaces as a whole, which stays as it was where the command was refused
  pub replaces : Option (List ℕ)
  -- the file that it edits, which stays as it was where the command was refused, but for what an edit that failed may
  -- leave of it
  pub edits : Option (List ℕ)
  -- whether nothing was written where there was not enough memory; of one that is all or nothing, or that only reads,
  -- its uses say so
  pub unwritten : Bool
  -- the only file that it changes, and the only one that it writes, however it ends
  pub alone : Option (List ℕ)
  -- the only file that it makes anew, however it ends: no other one changes but the one with `.new` added to its name
  pub anew : Option (List ℕ)
  -- how many calls of `write` to the store it makes at most, however it ends, where that rests on nothing but its words
  pub most_writes : Option ℕ
  -- how many calls of `read` to the store it makes at most where it was done, by what was outside, where that is said
  pub most_reads : Outside → Option ℕ
  -- what holds of the files where it was done, beside what its acts say
  pub made : Invocation → Outside → World → Type 0
  -- what it looks at among the files
  pub looks : Looks
  -- whether it edits records of a file, for which there may be no room in its blocks
  pub needs_room : Bool
  -- what is known of its words, wherever words ask for it
  pub known : Type 0
  -- what holds where it is said that the link failed: not all that was to be done with the link was done
  pub unfinished : Invocation → RunTells → RunSeen → RunSeen → Type 0
  -- what holds of the files at the end where an edit was refused, since the file that the refusal names is full: it
  -- would have this many blocks, and may have no more than the limit
  pub full : Invocation → Outside → World → Refusal → (blocks limit : ℕ) → Type 0
  -- whether it came to use the link, by the bytes of the input and the refusal with which it ended, if it did with one
  pub links : List ℕ → Option Refusal → Bool
  -- conditions that make no step of it refused, whatever is chosen
  pub suffices : Invocation → Outside → Type 0
  -- conditions with which it changes files at one moment alone, so that a stop leaves the old ones or the new ones
  pub at_once : Invocation → Outside → Type 0

-- A plain row of the table, which says of a command its steps, the objects that it uses and the causes for which it may
-- be refused, and of all else the least: it changes no file that is named, no word of it is faulty by itself, nothing
-- bounds its calls, it looks at no file, and edits none, nothing more is known or said, no conditions are known that
-- suffice, and files change at one moment alone. It comes to use the link where it uses it, whatever the input says and
-- whichever its refusal is. A command says beside it what is more, or else.
abbrev pub row : (Invocation → Steps) → Uses → (Cause → List ℕ → Type 0) → Description
row steps uses may = record {
  steps = steps;
  uses = uses;
  may = may;
  faulty = None;
  replaces = None;
  edits = None;
  unwritten = false;
  alone = None;
  anew = None;
  most_writes = None;
  most_reads = λ (old : Outside). None;
  made = λ (invocation : Invocation) (old : Outside) (files : World). ⊤;
  looks = looks_at [] None None;
  needs_room = false;
  known = ⊤;
  unfinished = λ (invocation : Invocation) (tells : RunTells) (old new : RunSeen). ⊤;
  full = λ (invocation : Invocation) (old : Outside) (files : World) (refusal : Refusal) (blocks limit : ℕ). ⊤;
  links = λ (bytes : List ℕ) (refusal : Option Refusal). uses.link;
  suffices = λ (invocation : Invocation) (old : Outside). ⊥;
  at_once = λ (invocation : Invocation) (old : Outside). ⊤;
}

-- nothing was done but that the input was read
pub record IsOnlyRead (old new : RunSeen) : Type 0 where
  pub store : new.store ≡ old.store
  pub out : new.out ≡ old.out
  pub err : new.err ≡ old.err
  pub link : new.link ≡ old.link

-- What holds of a file that is edited, by the status at the end. With status 0 this says nothing. With any other one
-- the file is as it was, or, where that is 4 and something outside failed, what an edit of it to some value that failed
-- may leave.
abbrev pub IsLeftByEdit : (status : ℕ) (old new : World) → List ℕ → Type 0
IsLeftByEdit status old new file =
    status ≢ 0 → (new file ≡ old file) ⊎ ((status ≡ 4) × ((value : QuotaValue) × MayBeLeft value (old file) (new file)))

-- No other file has changed than the only one that a command changes, or than the only one that it makes anew and the
-- one with `.new` added to that name.
pub record ChangesOnly (command : Description) (old new : World) : Type 0 where
  pub alone : IfSome command.alone (λ (file : List ℕ). KeepsOthers file old new)
  pub anew : IfSome command.anew (λ (file : List ℕ). ReplacesOnly file old new)

-- Files that a command may commit: no other one has changed than it changes, and none where it changes none.
pub record MayCommit (command : Description) (old world : World) : Type 0 where
  pub only : ChangesOnly command old world
  pub none : command.uses.changes ≡ false → world ≡ old

-- However a command ended, and whatever is told, no other file has changed than it changes, and there were no more
-- calls of `write` to the store than it makes.
pub record ChangesWithin (command : Description) (old new : StoreSeen) : Type 0 where
  pub files : ChangesOnly command old.files new.files
  pub few : IfSome command.most_writes (λ (most : ℕ). new.writes ≤ old.writes + most)
