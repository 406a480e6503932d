use Rattle.std.proofs.Common.{◌≡◌, true, inl}
use Rattle.outside.proofs.FrameLemmas.{syncs-less, syncs-then}
use Rattle.rquota_serve.specs.ExportedValues.{nothing_exported}
use Rattle.rquota_serve.specs.Exports.{Serves}
use Rattle.serve_steps.specs.Exporting.{first_file}
use Rattle.serve_steps.proofs.ExportingLemmas.{serves_nothing}
use Rattle.stream_words.specs.Words.{StreamAsked}
use Rattle.rpc_record.specs.Run.{seen_of, tells_of}
use Rattle.rpc_record.proofs.RunLemmas.{finishing, late_or, late_worded, no_link, no_sink, no_source, no_usage}
use Rattle.rpc_record.proofs.RunLemmas.{opened_ends, placed_nowhere, unopened, unwritten-then, wanting_ends}
use Rattle.rpc_record.proofs.run.serve_files.Goals as goal
use Rattle.quota_map.specs.Asked.{asked_of}

pub returns-in-Ok-first_file-clause-carried : goal.returns-in-Ok-first_file-clause-carried
returns-in-Ok-first_file-clause-carried g c =
    let S = g.S.Store in
    let C = g.C.Conns in
    let asked : StreamAsked = record {
      port = c.args.port;
      connections = c.args.connections;
      format = c.args.format;
      exports = c.args.exports.now;
    } in
    let opened = c.in-Ok.ensures.opened nothing_exported
    (λ told. serves_nothing S.tells (S.seen c.args.store.now).files c.new-opened.result c.new-opened.ensures.empty) in
    let named : c.in-Ok-first_file.file ≡ first_file c.args.exports.now = c.in-Ok-first_file.ensures.copied in
    opened_ends asked (tells_of S.tells C.tells) (S.seen c.args.store.now) (S.seen c.add_all.new.store)
    (C.seen c.args.conns.now)
    (seen_of (S.seen c.serve_opened.new.store) (C.seen c.serve_opened.new.conns))
    (Serves S.tells (S.seen c.add_all.new.store).files c.add_all.new.exports) opened.0 c.serve_opened.result
    c.add_all.ensures.later opened.1 opened.2 c.serve_opened.ensures.ends (rw named at c.serve_opened.ensures.may)
    c.in-Ok.ensures.reads c.serve_opened.ensures.reads

pub returns-in-Ok-clause-carried : goal.returns-in-Ok-clause-carried
returns-in-Ok-clause-carried g c =
    let S = g.S.Store in
    let C = g.C.Conns in
    let asked : StreamAsked = record {
      port = c.args.port;
      connections = c.args.connections;
      format = c.args.format;
      exports = c.args.exports.now;
    } in
    rw c.in-Err-first_file.ensures.wanting
    (wanting_ends asked (tells_of S.tells C.tells) (S.seen c.args.store.now) (S.seen c.add_all.new.store)
    (C.seen c.args.conns.now))

pub returns-clause-carried : goal.returns-clause-carried
returns-clause-carried g c =
    let S = g.S.Store in
    let C = g.C.Conns in
    let asked : StreamAsked = record {
      port = c.args.port;
      connections = c.args.connections;
      format = c.args.format;
      exports = c.args.exports.now;
    } in
    inl (unopened asked (tells_of S.tells C.tells) (S.seen c.args.store.now) (S.seen c.add_all.new.store)
    (C.seen c.args.conns.now) c.in-Err.refusal
    (c.in-Err.ensures.unopened nothing_exported finishing no_source no_sink no_sink no_link true true true true
    (λ told. serves_nothing S.tells (S.seen c.args.store.now).files c.new-opened.result c.new-opened.ensures.empty)))

pub returns-clause-placed : goal.returns-clause-placed
returns-clause-placed g c =
    let S = g.S.Store in
    placed_nowhere c.in-Err.refusal
    (c.in-Err.ensures.unopened nothing_exported finishing no_source no_sink no_sink no_link true true true true
    (λ told.
    serves_nothing S.tells (S.seen c.args.store.now).files c.new-opened.result c.new-opened.ensures.empty)).placed

pub returns-clause-worded : goal.returns-clause-worded
returns-clause-worded g c =
    let S = g.S.Store in
    no_usage (asked_of c.args.format) c.args.exports.now c.in-Err.refusal.cause c.in-Err.refusal.name
    (c.in-Err.ensures.unopened nothing_exported finishing no_source no_sink no_sink no_link true true true true
    (λ told.
    serves_nothing S.tells (S.seen c.args.store.now).files c.new-opened.result c.new-opened.ensures.empty)).may_refuse

pub returns-in-Ok-first_file-clause-worded : goal.returns-in-Ok-first_file-clause-worded
returns-in-Ok-first_file-clause-worded g c = late_worded c.serve_opened.result c.serve_opened.ensures.late

pub returns-in-Ok-first_file-clause-conns : goal.returns-in-Ok-first_file-clause-conns
returns-in-Ok-first_file-clause-conns g c = late_or _ c.serve_opened.result c.serve_opened.ensures.late

pub returns-in-Ok-first_file-clause-unwritten : goal.returns-in-Ok-first_file-clause-unwritten
returns-in-Ok-first_file-clause-unwritten g c =
    unwritten-then _ _ _ c.add_all.ensures.unwritten c.serve_opened.ensures.unwritten

pub returns-in-Ok-first_file-clause-synced : goal.returns-in-Ok-first_file-clause-synced
returns-in-Ok-first_file-clause-synced g c = syncs-then _ _ _ c.in-Ok.ensures.synced c.serve_opened.ensures.synced

pub returns-in-Ok-clause-synced : goal.returns-in-Ok-clause-synced
returns-in-Ok-clause-synced g c = syncs-less _ _ c.in-Ok.ensures.synced

pub returns-clause-synced : goal.returns-clause-synced
returns-clause-synced g c = c.in-Err.ensures.synced
