use Rattle.std.proofs.Common.{◌≡◌, refl, sym}
use Rattle.quota_map.specs.Asked.{asked_of}
use Rattle.quota_map.proofs.SeenLemmas.{fault_seen, view_or_refused}
use Rattle.file_in_memory.specs.OneFile.{one_file_seen}
use Rattle.batch_commands.proofs.MemoryLemmas.{of_call, opened_bytes, opened_view}
use Rattle.batch_commands.proofs.together.edit_in_memory.Goals as goal

pub returns-in-Ok-clause-made : goal.returns-in-Ok-clause-made
returns-in-Ok-clause-made c = λ others value view.
    let file : c.in_ok-file.file ≡ c.args.name.now = c.in_ok-file.ensures in
    let named = c.in_ok-from_str.ensures.ok in
    let opening = c.in-Ok.ensures in
    let has = opened_bytes _ c.args.name.now c.args.whole.bytes.items (one_file_seen c.new-memory.result)
    (one_file_seen c.open_file.new.store) named c.new-memory.ensures.seen opening.leaves in
    rw file at (c.in_ok-edit_opened-in-Ok.ensures.made c.args.whole.bytes.items (rw (sym file) at has) others value
    (opening.held refl value
    (opened_view _ c.args.name.now c.args.whole.bytes.items (one_file_seen c.new-memory.result) c.args.kind
    (asked_of c.args.format) value named c.new-memory.ensures.seen view)))

pub returns-in-Ok-clause-edits : goal.returns-in-Ok-clause-edits
returns-in-Ok-clause-edits c =
    let file : c.in_ok-file.file ≡ c.args.name.now = c.in_ok-file.ensures in
    let named = c.in_ok-from_str.ensures.ok in
    let opening = c.in-Ok.ensures in
    let some = opening.seen refl in
    let has = opened_bytes _ c.args.name.now c.args.whole.bytes.items (one_file_seen c.new-memory.result)
    (one_file_seen c.open_file.new.store) named c.new-memory.ensures.seen opening.leaves in
    rw file at (c.in_ok-edit_opened-in-Ok.ensures.edits c.args.whole.bytes.items (rw (sym file) at has)
    (asked_of c.args.format) opening.as_asked some.0 (opening.held refl some.0 some.1))

pub returns-clause-opens : goal.returns-clause-opens
returns-clause-opens c = λ none value view.
    let named = c.in_ok-from_str.ensures.ok in
    let seen = opened_view _ c.args.name.now c.args.whole.bytes.items (one_file_seen c.new-memory.result) c.args.kind
    (asked_of c.args.format) value named c.new-memory.ensures.seen view in
    view_or_refused _ c.args.kind (asked_of c.args.format) value c.in-Err.fault seen
    (fault_seen _ _ _ _ c.args.kind (asked_of c.args.format) c.in-Err.fault c.in-Err.ensures.refused refl
    (of_call c.in-Err.fault (sym c.if-is_of_call.ensures)))
