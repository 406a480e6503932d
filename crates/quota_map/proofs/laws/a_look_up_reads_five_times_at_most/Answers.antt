use Rattle.std.proofs.Common.{◌≤◌, Bool, true, false, if◌then◌else◌, arith}
use Rattle.quota_types.specs.Format.{is_flat}
use Rattle.quota_types.specs.declared.file_kind.Format.{Format}
use Rattle.quota_map.specs.AnyFile.{reads_of_get}
use Rattle.quota_map.proofs.laws.a_look_up_reads_five_times_at_most.Goals as goal

five : (format : Format) → reads_of_get format ≤ 5
five format = five_if (is_flat format)
  where
    five_if : (flat : Bool) → (if flat then 1 else 5) ≤ 5
    five_if true = omega arith
    five_if false = omega arith

pub returns-clause-all : goal.returns-clause-all
returns-clause-all c = five
