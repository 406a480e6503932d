-- What is said where a file was not converted.
use Rattle.std.specs.Prelude.{ℕ, List}
use Rattle.convert.specs.declared.convert_fault.ConvertFault.{ConvertFault}
use Rattle.convert.specs.declared.convert_fault.ConvertFault.TheVariants.{SameName as NamesAreSame}
use Rattle.convert.specs.declared.convert_fault.ConvertFault.TheVariants.{TargetExists as TargetIsThere, Open, File}
use Rattle.convert.specs.declared.convert_fault.ConvertFault.TheVariants.{NoRoom as Unfit, Replace}
use Rattle.refusals.specs.declared.cause.Cause.TheVariants.{NoRoom, TargetExists, SameName}
use Rattle.refusals.specs.declared.reason.Refusal.{Refusal}
use Rattle.refusals.specs.Refusals.{refusal_of}
use Rattle.run_steps.specs.Act.{Replace}
use Rattle.run_steps.specs.Opening.{file_cause, opening_cause}
use Rattle.file_commands.specs.FileValue.{replace_cause}

-- what is said where a file was not converted
abbrev pub convert_refusal : (source target : List ℕ) → ConvertFault → Refusal
convert_refusal source target NamesAreSame = refusal_of SameName source
convert_refusal source target TargetIsThere = refusal_of TargetExists target
convert_refusal source target (Open fault) = refusal_of (opening_cause fault) source
convert_refusal source target (File fault) = refusal_of (file_cause fault) source
convert_refusal source target (Unfit out) = refusal_of (NoRoom out) source
convert_refusal source target (Replace fault) = refusal_of (replace_cause fault) target
