use Rattle.std.proofs.Common.{refl, arith}
use Rattle.outside.proofs.UnsyncedLemmas.{with_name-adds_none, with_name-others_is}
use Rattle.memory_objects.proofs.mem_store.MemStoreStore.sync.Goals as goal

pub returns-clause-leaves : goal.returns-clause-leaves
returns-clause-leaves c = record {
  files = refl;
  unsynced = with_name-others_is _ _ _ _ c.remove.ensures;
  later = omega arith;
  writes = refl;
  synced = λ done. with_name-adds_none _ _ _ c.remove.ensures;
}
