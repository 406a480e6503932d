use Rattle.std.proofs.Common.{refl, arith}
use Rattle.outside.proofs.FrameLemmas.{keeps_others-same}
use Rattle.outside.proofs.UnsyncedLemmas.{keeps_others-result, with_name-others_is}
use Rattle.outside.proofs.WorldLemmas.{KeepsOthers-with_file}
use Rattle.memory_objects.proofs.mem_store.MemStore.create_file.Goals as goal

pub returns-in_err-add-clause-leaves : goal.returns-in_err-add-clause-leaves
returns-in_err-add-clause-leaves c = record {
  files = λ other differ. refl;
  unsynced = keeps_others-same c.args.name.now _ _ c.in_err-add.ensures.err;
  later = omega arith;
  reads = refl;
}

pub returns-clause-leaves : goal.returns-clause-leaves
returns-clause-leaves c = record {
  files = keeps_others-result c.create.result c.args.name.now _ _ _ (KeepsOthers-with_file _ _ _) c.create.ensures.ok
      c.create.ensures.err;
  unsynced = with_name-others_is _ _ _ _ c.in_ok-add.ensures.ok;
  later = omega arith;
  reads = refl;
}
