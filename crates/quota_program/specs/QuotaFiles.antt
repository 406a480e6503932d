-- Which files of a command are quota files, beside which undo files stand. Source: this project's own.
use Rattle.std.specs.Prelude.{◌≡◌, ℕ, List}
use Rattle.command_words.specs.declared.command.Command.{Command}
use Rattle.command_words.specs.declared.command.Command.TheVariants.{Report, SetLimits, CopyLimits, SetGrace, SetTimes}
use Rattle.command_words.specs.declared.command.Command.TheVariants.{Batch, PrintForm, ApplyForm, Check, Convert, Serve}
use Rattle.command_words.specs.declared.command.Command.TheVariants.{Script, Generate}
use Rattle.quota_program.specs.declared.quota_files.QuotaFiles.{QuotaFiles}
use Rattle.quota_program.specs.declared.quota_files.QuotaFiles.TheVariants.{One, Two, Exported, Any}

-- the file of this name alone
abbrev pub IsOne : (name : List ℕ) → QuotaFiles → Type 0
IsOne name (One file) = file.now ≡ name
IsOne _ _ = ⊥

-- the files of these two names
abbrev pub IsTwo : (one other : List ℕ) → QuotaFiles → Type 0
IsTwo one other (Two first second) = (first.now ≡ one) × (second.now ≡ other)
IsTwo _ _ _ = ⊥

-- The FILE of a command, the SOURCE and the TARGET of a conversion, the files of what is exported; of a script whatever
-- its lines name. Neither a file of names nor one of input is among them.
abbrev pub IsOpened : Command → QuotaFiles → Type 0
IsOpened (Report _ _ file) files = IsOne file files
IsOpened (SetLimits _ _ _ file) files = IsOne file files
IsOpened (CopyLimits _ _ _ file) files = IsOne file files
IsOpened (Batch _ _ file) files = IsOne file files
IsOpened (SetGrace _ _ _ file) files = IsOne file files
IsOpened (SetTimes _ _ _ _ file) files = IsOne file files
IsOpened (PrintForm _ _ file) files = IsOne file files
IsOpened (ApplyForm _ _ _ file) files = IsOne file files
IsOpened (Check _ _ _ _ file) files = IsOne file files
IsOpened (Convert _ _ _ source target) files = IsTwo source target files
IsOpened (Serve _ _ _ exports) (Exported list) = list.now ≡ exports
IsOpened (Serve _ _ _ _) _ = ⊥
IsOpened Script files = files ≡ Any
IsOpened (Generate _ _ file) files = IsOne file files
