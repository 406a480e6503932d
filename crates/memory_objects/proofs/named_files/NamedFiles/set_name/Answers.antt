use Rattle.std.proofs.Common.{refl, sym, ◌∙◌}
use Rattle.std.specs.String.{string_bytes}
use Rattle.memory_objects.proofs.NamedFilesLemmas.{distinct-set, file_named-renamed_found, absent_from_position}
use Rattle.outside.proofs.WorldLemmas.{with_new_name-absent}
use Rattle.memory_objects.proofs.named_files.NamedFiles.set_name.Goals as goal

pub invariant_of-self : goal.invariant_of-self
invariant_of-self c =
    record {
      distinct = distinct-set (string_bytes c.args.to) c.args.self.now.entries.items c.in-Some.place
          (c.args.to, c.index_mut.result.now.1) c.args.self.now.distinct refl c.requires;
    }

pub returns-in-Some : goal.returns-in-Some
returns-in-Some c =
    file_named-renamed_found c.args.from.now (string_bytes c.args.to) c.args.self.now.entries.items c.in-Some.place
    c.index_mut.result.now _
    c.args.self.now.distinct (sym c.position.ensures ∙ c.in-Some.is) c.index_mut.ensures.value refl refl c.requires

pub returns-in_default : goal.returns-in_default
returns-in_default c =
    sym (with_new_name-absent _ c.args.from.now (string_bytes c.args.to)
    (absent_from_position c.args.from.now _ (sym c.position.ensures ∙ c.in_default.is)))
