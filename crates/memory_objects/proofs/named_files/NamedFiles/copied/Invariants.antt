use Rattle.std.proofs.Common.{◌≡◌, take}
use Rattle.memory_objects.specs.MemStore.{file_named}
use Rattle.memory_objects.proofs.named_files.NamedFiles.copied.Given as goal

abbrev pub invariant-loop-file : goal.invariant-loop-file
invariant-loop-file l = file_named l.copy.entries.items ≡ file_named (take l.file-index l.file-items)
