use Rattle.std.proofs.Common.{◌≡◌, reverse, take}
use Rattle.disk_in_memory.specs.Calls.{half_left, read_after}
use Rattle.memory_objects.specs.MemStore.{file_named}
use Rattle.disk_in_memory.proofs.recorded.make_halves.Given as goal

abbrev pub invariant-loop-call : goal.invariant-loop-call
invariant-loop-call l = record {
  whole : file_named l.read.entries.items
      ≡ read_after (file_named l.fn.read.entries.items) (reverse (take l.call-index l.calls));
  half : file_named l.left.entries.items
      ≡ half_left (file_named l.fn.read.entries.items) (reverse (take l.call-index l.calls));
}
