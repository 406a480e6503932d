use Rattle.std.proofs.Common.{◌≡◌, None, ap, ◌∙◌, List, ℕ, rules}
use Rattle.outside.specs.World.{World, with_file, with_new_name}
use Rattle.memory_objects.specs.MemStore.{file_named}
use Rattle.memory_objects.proofs.NamedFilesLemmas.{found_from_some}
use Rattle.outside.proofs.WorldLemmas.{with_new_name-removed, with_file-at}
use Rattle.memory_objects.proofs.named_files.NamedFiles.rename.Goals as goal

pub set_name-requires : goal.set_name-requires
set_name-requires c =
    let files = file_named c.args.self.now.entries.items in
    let removed : file_named c.remove.new.self.entries.items ≡ with_file files c.args.to.now None = c.remove.ensures in
    ap (λ (name : List ℕ). file_named c.remove.new.self.entries.items name) c.in_ok-name.ensures.ok
    ∙ ap (λ (f : World). f c.args.to.now) removed
    ∙ with_file-at files c.args.to.now None

pub returns-clause-ok : goal.returns-clause-ok
returns-clause-ok c =
    let files = file_named c.args.self.now.entries.items in
    let removed : file_named c.remove.new.self.entries.items ≡ with_file files c.args.to.now None = c.remove.ensures in
    let found = found_from_some c.find.result _ (search rules) c.find.ensures in
    c.set_name.ensures
    ∙ ap (λ (name : List ℕ). with_new_name (file_named c.remove.new.self.entries.items) c.args.from.now name)
    c.in_ok-name.ensures.ok
    ∙ ap (λ (f : World). with_new_name f c.args.from.now c.args.to.now) removed
    ∙ with_new_name-removed files c.args.from.now c.args.to.now found.0 c.requires found.1
