use Rattle.std.proofs.Common.{is_ok}
use Rattle.memory_objects.proofs.NamedFilesLemmas.{file_named-added, distinct-pushed}
use Rattle.memory_objects.proofs.named_files.NamedFiles.add.Goals as goal

pub invariant_of-self : goal.invariant_of-self
invariant_of-self c =
    let distinct = distinct-pushed (is_ok c.push.result) c.args.name.now c.args.self.now.entries.items
    (c.in_ok-name.name, c.args.bytes) c.args.self.now.distinct c.in_ok-name.ensures.ok c.requires in
    record { distinct = rw c.push.ensures.items distinct }

pub returns-clause-ok : goal.returns-clause-ok
returns-clause-ok c =
    rw c.in_ok-push.ensures.items
    (file_named-added c.args.name.now c.args.self.now.entries.items (c.in_ok-name.name, c.args.bytes)
    c.in_ok-name.ensures.ok c.requires)
