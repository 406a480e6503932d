-- Why names or an input were not read, and what is said then.
use Rattle.std.specs.Prelude.{◌≡◌, ℕ, IsTrue, Bool, List, ⊤}
use Rattle.outside.specs.Count.{Rose}
use Rattle.opened_file.specs.declared.whole_file.LoadFault.{LoadFault}
use Rattle.opened_file.specs.declared.whole_file.LoadFault.TheVariants.{Store as StoreFailed, NoFile as Absent}
use Rattle.opened_file.specs.declared.whole_file.LoadFault.TheVariants.{TooLarge as Larger, Memory as NoMemory}
use Rattle.id_names.specs.declared.names_fault.NamesFault.{NamesFault}
use Rattle.id_names.specs.declared.names_fault.NamesFault.TheVariants.{BadLine as WrongLine, Memory as NamesWantMemory}
use Rattle.id_names.specs.NamesFile.{NameLine}
use Rattle.refusals.specs.declared.cause.Cause.{Cause}
use Rattle.refusals.specs.declared.cause.Cause.TheVariants.{StoreFault, NoFile, TooLarge, Memory, BadLine, SourceFault}
use Rattle.refusals.specs.declared.reason.Refusal.{Refusal}
use Rattle.refusals.specs.Outcome.{Outcome, Refused}

-- Why the names were not read: the store's count of faults rose, or there was not enough memory, or what is seen of the
-- file of names is this refusal.
abbrev pub IsNamesFault : (before now : ℕ) → (tells : Bool) → Outcome (List NameLine) → Refusal → Cause → Type 0
IsNamesFault before now tells seen refusal StoreFault = Rose before now
IsNamesFault before now tells seen refusal Memory = ⊤
IsNamesFault before now tells seen refusal _ = IsTrue tells → seen ≡ Refused refusal

-- what is said where a file of names could not be read whole
abbrev pub load_cause : LoadFault → Cause
load_cause StoreFailed = StoreFault
load_cause Absent = NoFile
load_cause Larger = TooLarge
load_cause NoMemory = Memory

-- what is said where its lines were not read
abbrev pub names_cause : NamesFault → Cause
names_cause (WrongLine line) = BadLine line
names_cause NamesWantMemory = Memory

-- Why an input was not read: a count of faults rose, there was not enough memory, or what it says, as it is seen, is
-- this refusal.
abbrev pub IsInputFault : {V : Type 0} → (store_rose input_rose told : Type 0) → Outcome V → Refusal → Cause → Type 0
IsInputFault store_rose input_rose told said refusal StoreFault = store_rose
IsInputFault store_rose input_rose told said refusal SourceFault = input_rose
IsInputFault store_rose input_rose told said refusal Memory = ⊤
IsInputFault store_rose input_rose told said refusal _ = told → said ≡ Refused refusal
