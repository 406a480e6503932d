use Rattle.std.proofs.Common.{◌≡◌, List, None, Some, ℕ, ap, ◌∙◌, rules}
use Rattle.outside.specs.World.{World, with_file}
use Rattle.outside.proofs.WorldLemmas.{with_file-again, with_file-at}
use Rattle.memory_objects.specs.MemStore.{file_named}
use Rattle.memory_objects.proofs.named_files.NamedFiles.put.Goals as goal

pub add-requires : goal.add-requires
add-requires c =
    let removed : file_named c.remove.new.self.entries.items
    ≡ with_file (file_named c.args.self.now.entries.items) c.args.name.now None = c.remove.ensures in
    ap (λ (files : World). files c.args.name.now) removed
    ∙ with_file-at (file_named c.args.self.now.entries.items) c.args.name.now None

pub returns : goal.returns
returns c =
    let files = file_named c.args.self.now.entries.items in
    let removed : file_named c.remove.new.self.entries.items ≡ with_file files c.args.name.now None =
    c.remove.ensures in
    let bytes : c.in_ok-copy.copy.items ≡ c.args.bytes.now = search rules in
    c.in_ok-add.ensures.ok
    ∙ ap (λ (f : World). with_file f c.args.name.now (Some c.in_ok-copy.copy.items)) removed
    ∙ with_file-again files c.args.name.now None (Some c.in_ok-copy.copy.items)
    ∙ ap (λ (b : List ℕ). with_file files c.args.name.now (Some b)) bytes
