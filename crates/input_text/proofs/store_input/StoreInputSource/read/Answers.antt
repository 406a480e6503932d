use Rattle.std.proofs.Common.{ap, arith, inl, inr, refl}
use Rattle.std.specs.String.{string_bytes}
use Rattle.input_text.proofs.InputLemmas.{left_moved_of}
use Rattle.input_text.proofs.store_input.StoreInputSource.read.Goals as goal

pub returns-in-Ok-clause-taken : goal.returns-in-Ok-clause-taken
returns-in-Ok-clause-taken g c told =
    let read = c.in-Ok.ensures in
    left_moved_of _ _ _ _ _ _ _ _ _ _ read.leaves.files (ap string_bytes read.name) read.moved (omega arith)
    (omega (arith, read.fits)) (read.bytes told) (read.count told)

pub returns-in-Ok-clause-keeps : goal.returns-in-Ok-clause-keeps
returns-in-Ok-clause-keeps g c =
    let read = c.in-Ok.ensures in
    record {
      source = refl;
      store = refl;
      name = ap string_bytes read.name;
      leaves = read.leaves;
      unsynced = inr (read.leaves.synced (inl refl));
      behind = λ told. (_, returns-in-Ok-clause-taken g c told);
      committed = read.commits;
    }
