use Rattle.std.proofs.Common.{refl, sym, arith}
use Rattle.file_in_memory.specs.OneFile.{one_file_name, one_file_seen}
use Rattle.quota_map.specs.Asked.{InFormat}
use Rattle.quota_map.specs.AnyFile.{any_seen}
use Rattle.run_steps.specs.Act.{InPlace, Together}
use Rattle.batch_commands.specs.Batch.{LineEditMayRefuse}
use Rattle.batch_commands.specs.BatchReading.{LineSteps}
use Rattle.batch_commands.proofs.MemoryLemmas.{memory_edit, memory_failed, memory_made}
use Rattle.batch_commands.proofs.together.edit_opened.Goals as goal

pub returns-clause-made : goal.returns-clause-made
returns-clause-made c = λ bytes has others value held.
    let all = c.edit_all-edited.ensures in
    memory_made (LineSteps (Together others) c.args.file c.args.now c.args.lines.now value) c.args.file bytes
    (one_file_name c.edit_all-edited.new.store) (one_file_seen c.args.memory)
    (one_file_seen c.edit_all-edited.new.store)
    (record { bytes = c.into_bytes-bytes.result; writes = c.writes-writes.result; lines = c.edit_all-edited.result })
    has c.into_bytes-bytes.ensures.only (sym c.writes-writes.ensures) all.leaves (c.if-is_fault.ensures.own refl)
    (λ input out err link tells. all.counted refl others value held input out err link tells)

pub returns-clause-edits : goal.returns-clause-edits
returns-clause-edits c = λ bytes has asked as_asked value held.
    let all = c.edit_all-edited.ensures in
    memory_edit (LineSteps InPlace c.args.file c.args.now c.args.lines.now value) (LineEditMayRefuse asked c.args.file)
    _ c.args.file bytes (one_file_name c.edit_all-edited.new.store) (one_file_seen c.args.memory)
    (one_file_seen c.edit_all-edited.new.store)
    (record { bytes = c.into_bytes-bytes.result; writes = c.writes-writes.result; lines = c.edit_all-edited.result })
    has c.into_bytes-bytes.ensures.only (sym c.writes-writes.ensures) all.few all.leaves
    (c.if-is_fault.ensures.own refl)
    (λ input out err link input_tells out_tells err_tells link_tells. all.carries InPlace asked as_asked value
    (λ told. held) input out err link input_tells out_tells err_tells link_tells)

pub returns-clause-within : goal.returns-clause-within
returns-clause-within c = record { short = omega (arith, c.if-len-most.false); all = c.edit_all-edited.ensures.all }

pub returns-then-is_fault-clause-given_up : goal.returns-then-is_fault-clause-given_up
returns-then-is_fault-clause-given_up c = λ value held.
    let all = c.edit_all-edited.ensures in
    memory_failed (LineSteps InPlace c.args.file c.args.now c.args.lines.now value)
    (LineEditMayRefuse (InFormat (any_seen c.args.opened).format) c.args.file) (one_file_seen c.args.memory)
    (one_file_seen c.edit_all-edited.new.store) _ (c.if-is_fault.ensures.fault refl) all.memory
    (λ input out err link input_tells out_tells err_tells link_tells. all.carries InPlace
    (InFormat (any_seen c.args.opened).format) refl value (λ told. held) input out err link input_tells out_tells
    err_tells link_tells)
