use Rattle.std.proofs.Common.{arith}
use Rattle.tree_build.proofs.NewFileLemmas.{root_written}
use Rattle.tree_build.proofs.new_file.NewFile.set_root.Goals as goal

pub returns-clause-bytes : goal.returns-clause-bytes
returns-clause-bytes c =
    root_written c.args.self.now.bytes.items c.deref_mut.result.now c.args.root.now c.copy_from_slice.new.self
    c.args.self.now.bytes.len
    c.deref_mut.ensures.value (omega arith) (omega arith) c.told-root c.copy_from_slice.ensures.after
