use Rattle.std.proofs.Common.{refl, ap, arith}
use Rattle.outside.specs.Unsynced.{UnsyncedNames}
use Rattle.outside.proofs.UnsyncedLemmas.{handed-others, keeps_other_two-result}
use Rattle.outside.proofs.WorldLemmas.{with_new_name-others}
use Rattle.memory_objects.proofs.mem_store.MemStore.rename_file.Goals as goal

pub returns-in_err-hand_over-clause-leaves : goal.returns-in_err-hand_over-clause-leaves
returns-in_err-hand_over-clause-leaves c = record {
  files = λ other differ differs. refl;
  unsynced = λ other differ differs. ap (λ (names : UnsyncedNames). names other) c.in_err-hand_over.ensures.err;
  later = omega arith;
  reads = refl;
}

pub returns-clause-leaves : goal.returns-clause-leaves
returns-clause-leaves c = record {
  files = keeps_other_two-result c.rename.result c.args.from.now c.args.to.now _ _ _ (with_new_name-others _ _ _)
      c.rename.ensures.ok c.rename.ensures.err;
  unsynced = handed-others _ _ _ _ _ _ c.in_ok-hand_over.ensures.ok;
  later = omega arith;
  reads = refl;
}
