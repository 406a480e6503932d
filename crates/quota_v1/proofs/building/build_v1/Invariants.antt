use Rattle.std.proofs.Common.{take}
use Rattle.quota_v1.specs.Build.{records_needed}
use Rattle.quota_v1.specs.Place.{record_start}
use Rattle.quota_value.specs.Listed.{ids_of}
use Rattle.quota_v1.proofs.BuildLemmas.{IsBuiltOf}
use Rattle.quota_v1.proofs.building.build_v1.Given as goal

abbrev pub invariant-loop-entry : goal.invariant-loop-entry
invariant-loop-entry l =
    IsBuiltOf l.fn.format l.fn.grace (take l.entry-index l.list)
    (record_start l.fn.format (records_needed (ids_of l.list))) l.file.items
