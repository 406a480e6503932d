-- Files in memory with a record of the calls that made them.
use Rattle.std.specs.Prelude.{List, Option}
use Rattle.std.specs.Option.{option_map_or}
use Rattle.memory_objects.specs.MemStore.{NamedFile, file_named}
use Rattle.memory_objects.specs.declared.named_files.NamedFiles.{NamedFiles}
use Rattle.outside.specs.World.{World}

-- the first files: those that were kept, or else the present ones, which no call has changed yet
abbrev pub first_named : Option NamedFiles → List NamedFile → World
first_named first entries =
    option_map_or (λ (files : NamedFiles). file_named files.entries.items) first (file_named entries)
