use Rattle.std.proofs.Common.{◌≡◌, ◌++◌, true, List, ℕ, [], None, length, refl, ap, ◌∙◌}
use Rattle.id_names.specs.NamesFile.{NameLine}
use Rattle.file_commands.specs.Gathered.{gathered_seen}
use Rattle.outside.specs.Seen.{LinkSeen, SinkSeen, SourceSeen}
use Rattle.report_options.specs.declared.options.Options.{Options}
use Rattle.run_steps.specs.Done.{seen_of, tells_of}
use Rattle.file_commands.specs.Generate.{plain_report}
use Rattle.file_commands.specs.Report.{report_on}
use Rattle.file_commands.proofs.GenerateLemmas.{gathered_may, shown_text, unreported}
use Rattle.file_commands.proofs.generate.report_length.Goals as goal

no_input : SourceSeen
no_input = record { left = []; faults = 0 }

no_err : SinkSeen
no_err = record { written = []; faults = 0 }

no_link : LinkSeen
no_link = record { left = []; answers = []; started = record { times = 0; last = None }; faults = 0 }

pub returns-in-Ok-clause-bytes : goal.returns-in-Ok-clause-bytes
returns-in-Ok-clause-bytes g c = λ told value view.
    let S = g.S.Store in
    let file = c.args.file in
    let text = report_on c.none-names.result file c.args.now c.no_options.result in
    let tells = tells_of S.tells true true true true in
    let old = seen_of (S.seen c.args.store.now) no_input (gathered_seen c.new-gathered.result) no_err no_link in
    let to =
    seen_of (S.seen c.report_opened.new.store) no_input (gathered_seen c.report_opened.new.out) no_err no_link in
    let carries = c.in-Ok.ensures.carries no_input no_err no_link true true true in
    let start : (gathered_seen c.new-gathered.result).written ≡ [] =
    ap (λ (s : SinkSeen). s.written) c.new-gathered.ensures in
    let plain : text value ≡ plain_report file c.args.now value =
    ap (λ (lines : List NameLine). report_on lines file c.args.now c.no_options.result value) c.none-names.ensures
    ∙ ap (λ (options : Options). report_on [] file c.args.now options value) c.no_options.ensures in
    ap length
    (c.text.ensures
    ∙ shown_text file text value tells old to refl
    (carries.done (record { store = told; input = refl; link = refl })) view
    ∙ ap (λ (b : List ℕ). b ++ text value) start
    ∙ plain)

pub returns-in-Ok-clause-unwritten : goal.returns-in-Ok-clause-unwritten
returns-in-Ok-clause-unwritten g c = (c.in-Ok.ensures.carries no_input no_err no_link true true true).only_reads refl

pub returns-in-Ok-clause-later : goal.returns-in-Ok-clause-later
returns-in-Ok-clause-later g c = (c.in-Ok.ensures.carries no_input no_err no_link true true true).later.store

pub returns-clause-refused : goal.returns-clause-refused
returns-clause-refused g c =
    let S = g.S.Store in
    let text = report_on c.none-names.result c.args.file c.args.now c.no_options.result in
    let tells = tells_of S.tells true true true true in
    let old = seen_of (S.seen c.args.store.now) no_input (gathered_seen c.new-gathered.result) no_err no_link in
    let to =
    seen_of (S.seen c.report_opened.new.store) no_input (gathered_seen c.report_opened.new.out) no_err no_link in
    let carries = c.in-Err.ensures.carries no_input no_err no_link true true true in
    rw (c.of.ensures, c.gathered_cause.ensures)
    (unreported c.args.file text tells old to c.in-Err.refusal c.in-Err.refusal.cause c.in-Err.refusal.name refl refl
    carries.may_refuse carries.refused)

pub returns-clause-may : goal.returns-clause-may
returns-clause-may g c =
    let carries = c.in-Err.ensures.carries no_input no_err no_link true true true in
    rw (c.of.ensures, c.gathered_cause.ensures)
    (gathered_may c.args.file c.in-Err.refusal.cause c.in-Err.refusal.name carries.may_refuse)

pub returns-clause-unwritten : goal.returns-clause-unwritten
returns-clause-unwritten g c = (c.in-Err.ensures.carries no_input no_err no_link true true true).only_reads refl

pub returns-clause-later : goal.returns-clause-later
returns-clause-later g c = (c.in-Err.ensures.carries no_input no_err no_link true true true).later.store
