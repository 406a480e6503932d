use Rattle.std.proofs.Common.{refl, sym, ◌∙◌}
use Rattle.std.proofs.lemmas.Result.{on_ok_weaker, on_err_weaker}
use Rattle.memory_objects.proofs.NamedFilesLemmas.{file_named-written, file_named-kept, absent_from_position}
use Rattle.outside.proofs.WorldLemmas.{with_bytes-made}
use Rattle.memory_objects.proofs.named_files.NamedFiles.write.Goals as goal

pub returns-in-Some-clause-ok : goal.returns-in-Some-clause-ok
returns-in-Some-clause-ok c =
    on_ok_weaker c.overwrite.result
    (λ written. file_named-written c.args.name.now _ _ c.index_mut.result.now _ c.args.at c.args.bytes.now
    (sym c.position.ensures ∙ c.in-Some.is) c.index_mut.ensures.value refl written)
    c.overwrite.ensures.ok

pub returns-in-Some-clause-err : goal.returns-in-Some-clause-err
returns-in-Some-clause-err c =
    on_err_weaker c.overwrite.result
    (λ kept. file_named-kept c.args.name.now _ _ c.index_mut.result.now _ (sym c.position.ensures ∙ c.in-Some.is)
    c.index_mut.ensures.value refl kept)
    c.overwrite.ensures.err

pub add-requires : goal.add-requires
add-requires c = absent_from_position c.args.name.now _ (sym c.position.ensures ∙ c.in_default.is)

pub returns-clause-ok : goal.returns-clause-ok
returns-clause-ok c =
    on_ok_weaker c.add.result
    (λ added. added ∙ with_bytes-made _ c.args.name.now c.args.at c.args.bytes.now _ _
    (absent_from_position c.args.name.now _ (sym c.position.ensures ∙ c.in_default.is)) c.new-file.ensures.items
    c.in_ok-overwrite.ensures.ok)
    c.add.ensures.ok
