-- Which files of a command are locked against other programs, and how. Source: flock(2), and the quota tools, which
-- lock a quota file alone to change it and beside others to read it; that a script guards its files and that files
-- which are served are kept is this project's own.
use Rattle.std.specs.Prelude.{◌≡◌, ℕ, List}
use Rattle.command_words.specs.declared.command.Command.{Command}
use Rattle.command_words.specs.declared.command.Command.TheVariants.{Report, SetLimits, CopyLimits, SetGrace, SetTimes}
use Rattle.command_words.specs.declared.command.Command.TheVariants.{Batch, PrintForm, ApplyForm, Check, Convert, Serve}
use Rattle.command_words.specs.declared.command.Command.TheVariants.{Script, Generate}
use Rattle.file_locks.specs.declared.sharing.Lock.{Lock}
use Rattle.file_locks.specs.declared.sharing.Lock.TheVariants.{Shared, Exclusive}
use Rattle.file_locks.specs.declared.sharing.Sharing.{Sharing}
use Rattle.file_locks.specs.declared.sharing.Sharing.TheVariants.{Locked, Guarded, Kept}

-- the file of this name is locked so with its first use
abbrev pub IsLocked : (name : List ℕ) → Lock → Sharing → Type 0
IsLocked name lock (Locked locked how) = (locked.now ≡ name) × (how ≡ lock)
IsLocked _ _ _ = ⊥

-- a file that a command may change is locked alone, one that it reads is locked beside others, what is served is kept
-- as it was, and a script guards what its lines change
abbrev pub IsSharing : Command → Sharing → Type 0
IsSharing (Report _ _ file) sharing = IsLocked file Shared sharing
IsSharing (SetLimits _ _ _ file) sharing = IsLocked file Exclusive sharing
IsSharing (CopyLimits _ _ _ file) sharing = IsLocked file Exclusive sharing
IsSharing (Batch _ _ file) sharing = IsLocked file Exclusive sharing
IsSharing (SetGrace _ _ _ file) sharing = IsLocked file Exclusive sharing
IsSharing (SetTimes _ _ _ _ file) sharing = IsLocked file Exclusive sharing
IsSharing (PrintForm _ _ file) sharing = IsLocked file Shared sharing
IsSharing (ApplyForm _ _ _ file) sharing = IsLocked file Exclusive sharing
IsSharing (Check _ _ _ _ file) sharing = IsLocked file Exclusive sharing
IsSharing (Convert _ _ _ source _) sharing = IsLocked source Shared sharing
IsSharing (Serve _ _ _ _) sharing = sharing ≡ Kept
IsSharing Script sharing = sharing ≡ Guarded
IsSharing (Generate _ _ file) sharing = IsLocked file Exclusive sharing
