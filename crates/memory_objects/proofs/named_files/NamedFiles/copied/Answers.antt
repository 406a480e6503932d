use Rattle.std.proofs.Common.{◌≡◌, ℕ, List, Some, sym, ap, ◌∙◌, subst, arith, rules}
use Rattle.std.proofs.lemmas.List.{take_all}
use Rattle.std.specs.String.{string_bytes}
use Rattle.outside.specs.World.{World, with_file}
use Rattle.memory_objects.specs.MemStore.{HaveDistinctNames, NamedFile, file_named}
use Rattle.memory_objects.proofs.NamedFilesLemmas.{file_named-front, file_named-next}
use Rattle.memory_objects.proofs.named_files.NamedFiles.copied.Goals as goal
use Rattle.memory_objects.proofs.named_files.NamedFiles.copied.Goals.{In_ok-to_vec}

distinct : (c : In_ok-to_vec) → HaveDistinctNames c.deref-file-items.result.now
distinct c =
    subst (λ (files : List NamedFile). HaveDistinctNames files) (sym c.deref-file-items.ensures.value)
    c.args.self.now.distinct

pub add-requires : goal.add-requires
add-requires c =
    ap (λ (name : List ℕ). file_named c.loop-file.copy.entries.items name) c.as_str.ensures.value
    ∙ ap (λ (files : World). files (string_bytes c.file-item.result.0)) c.loop-file.invariant
    ∙ file_named-front c.deref-file-items.result.now c.loop-file.file-index c.file-item.result (distinct c)
    (omega arith) c.file-item.is

pub loop-file-preserved : goal.loop-file-preserved
loop-file-preserved c =
    let items = c.deref-file-items.result.now in
    let bytes : c.in_ok-to_vec.field-0.items ≡ c.file-item.result.1.items = search rules in
    c.in_ok-add.ensures.ok
    ∙ ap (λ (name : List ℕ). with_file (file_named c.loop-file.copy.entries.items) name
    (Some c.in_ok-to_vec.field-0.items)) c.as_str.ensures.value
    ∙ ap (λ (b : List ℕ).
    with_file (file_named c.loop-file.copy.entries.items) (string_bytes c.file-item.result.0) (Some b)) bytes
    ∙ ap (λ (files : World). with_file files (string_bytes c.file-item.result.0) (Some c.file-item.result.1.items))
    c.loop-file.invariant
    ∙ sym (file_named-next items c.loop-file.file-index c.file-item.result
    (subst (λ (files : List NamedFile). HaveDistinctNames files) (sym c.deref-file-items.ensures.value)
    c.args.self.now.distinct) (omega arith) c.file-item.is)

pub returns : goal.returns
returns c =
    c.loop-file.invariant
    ∙ ap (λ (files : List NamedFile). file_named files)
    (take_all c.loop-file.file-index c.deref-file-items.result.now (omega arith))
    ∙ ap (λ (files : List NamedFile). file_named files) c.deref-file-items.ensures.value
