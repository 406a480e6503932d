use Rattle.std.proofs.Common.{◌≡◌, not, filter, rules}
use Rattle.std.specs.Str.{bytes_eq}
use Rattle.std.specs.String.{string_bytes}
use Rattle.std.proofs.lemmas.Fn.{filter_same}
use Rattle.memory_objects.specs.MemStore.{NamedFile}
use Rattle.memory_objects.proofs.NamedFilesLemmas.{distinct-kept_others, file_named-kept_others}
use Rattle.memory_objects.proofs.named_files.NamedFiles.remove.Goals as goal
use Rattle.memory_objects.proofs.named_files.NamedFiles.remove.Goals.{After-retain}

kept : (c : After-retain)
    → c.retain.new.self.items
    ≡ filter (λ (file : NamedFile). not (bytes_eq (string_bytes file.0) c.args.name.now)) c.args.self.now.entries.items
kept c =
    filter_same _ (λ (file : NamedFile). not (bytes_eq (string_bytes file.0) c.args.name.now)) _
    (λ x b f' k. search rules) _ _ c.retain.ensures.filtered

pub invariant_of-self : goal.invariant_of-self
invariant_of-self c = record {
  distinct = distinct-kept_others c.args.name.now _ _ (kept (goal.at.invariant_of-self c).After-retain)
      c.args.self.now.distinct;
}

pub returns : goal.returns
returns c = file_named-kept_others c.args.name.now _ _ (kept (goal.at.returns c).After-retain)
