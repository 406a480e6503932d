use Rattle.std.proofs.Common.{[], ap, refl, sym}
use Rattle.std.specs.Prelude.{is_none}
use Rattle.std.proofs.lemmas.Bool.{false≢true}
use Rattle.std.proofs.lemmas.Result.{on_err_weaker, on_ok_weaker}
use Rattle.run_steps.specs.Done.{tells_of}
use Rattle.command_table.proofs.CommandLemmas.{carried_alone, lines_within, not_here_carried, of_done}
use Rattle.command_table.proofs.CommandLemmas.{of_refusal_weaker}
use Rattle.command_table.proofs.CommittedLemmas.{row_committed, row_looked}
use Rattle.command_table.proofs.commands.carry_out.Goals as goal

pub returns-in-Report-clause-carries : goal.returns-in-Report-clause-carries
returns-in-Report-clause-carries g c =
    let carries = c.report_file.ensures.carries _ _ _ _ _ _ c.args.invocation.line in
    rw c.in-Report.is
    (carried_alone _ _ _ _ _ _ (record {
      unwritten = λ said. absurd (false≢true said);
      unfinished = tt;
      reads_none = refl;
      link = refl;
      carries = carries;
      named = tt;
      edited = tt;
      within = record { files = record { alone = tt; anew = tt }; few = tt };
      reads = of_done c.report_file.result _ (λ told. tt);
      made = of_done c.report_file.result _ (λ told. tt);
      synced = λ told. c.report_file.ensures.synced;
    }))

pub returns-in-SetLimits-clause-carries : goal.returns-in-SetLimits-clause-carries
returns-in-SetLimits-clause-carries g c =
    rw c.in-SetLimits.is
    (carried_alone _ _ _ _ _ _ (record {
      unwritten = λ said. absurd (false≢true said);
      unfinished = tt;
      reads_none = refl;
      link = refl;
      carries = c.edit_by_words.ensures.carries _ _ _ _ _ _;
      named = tt;
      edited = of_refusal_weaker c.edit_by_words.result _ _ (λ refusal left told other. left told)
          (c.edit_by_words.ensures.named refl);
      within = record {
        files = record { alone = c.edit_by_words.ensures.alone.others; anew = tt };
        few = c.edit_by_words.ensures.alone.writes;
      };
      reads = of_done c.edit_by_words.result _ (λ told. tt);
      made = c.edit_by_words.ensures.made;
      synced = c.edit_by_words.ensures.synced;
    }))

pub returns-in-CopyLimits-clause-carries : goal.returns-in-CopyLimits-clause-carries
returns-in-CopyLimits-clause-carries g c =
    rw c.in-CopyLimits.is
    (carried_alone _ _ _ _ _ _ (record {
      unwritten = λ said. absurd (false≢true said);
      unfinished = tt;
      reads_none = refl;
      link = refl;
      carries = c.edit_by_words-in-CopyLimits.ensures.carries _ _ _ _ _ _;
      named = tt;
      edited = of_refusal_weaker c.edit_by_words-in-CopyLimits.result _ _ (λ refusal left told other. left told)
          (c.edit_by_words-in-CopyLimits.ensures.named refl);
      within = record {
        files = record { alone = c.edit_by_words-in-CopyLimits.ensures.alone.others; anew = tt };
        few = c.edit_by_words-in-CopyLimits.ensures.alone.writes;
      };
      reads = of_done c.edit_by_words-in-CopyLimits.result _ (λ told. tt);
      made = c.edit_by_words-in-CopyLimits.ensures.made;
      synced = c.edit_by_words-in-CopyLimits.ensures.synced;
    }))

pub returns-in-SetGrace-clause-carries : goal.returns-in-SetGrace-clause-carries
returns-in-SetGrace-clause-carries g c =
    rw c.in-SetGrace.is
    (carried_alone _ _ _ _ _ _ (record {
      unwritten = λ said. absurd (false≢true said);
      unfinished = tt;
      reads_none = refl;
      link = refl;
      carries = c.edit_by_words-in-SetGrace.ensures.carries _ _ _ _ _ _;
      named = tt;
      edited = of_refusal_weaker c.edit_by_words-in-SetGrace.result _ _ (λ refusal left told other. left told)
          (c.edit_by_words-in-SetGrace.ensures.named refl);
      within = record {
        files = record { alone = c.edit_by_words-in-SetGrace.ensures.alone.others; anew = tt };
        few = c.edit_by_words-in-SetGrace.ensures.alone.writes;
      };
      reads = of_done c.edit_by_words-in-SetGrace.result _ (λ told. tt);
      made = c.edit_by_words-in-SetGrace.ensures.made;
      synced = c.edit_by_words-in-SetGrace.ensures.synced;
    }))

pub returns-in-SetTimes-clause-carries : goal.returns-in-SetTimes-clause-carries
returns-in-SetTimes-clause-carries g c =
    rw c.in-SetTimes.is
    (carried_alone _ _ _ _ _ _ (record {
      unwritten = λ said. absurd (false≢true said);
      unfinished = tt;
      reads_none = refl;
      link = refl;
      carries = c.edit_by_words-in-SetTimes.ensures.carries _ _ _ _ _ _;
      named = tt;
      edited = tt;
      within = record {
        files = record { alone = c.edit_by_words-in-SetTimes.ensures.alone.others; anew = tt };
        few = c.edit_by_words-in-SetTimes.ensures.alone.writes;
      };
      reads = of_done c.edit_by_words-in-SetTimes.result _ (λ told. tt);
      made = c.edit_by_words-in-SetTimes.ensures.made;
      synced = c.edit_by_words-in-SetTimes.ensures.synced;
    }))

pub returns-in-PrintForm-clause-carries : goal.returns-in-PrintForm-clause-carries
returns-in-PrintForm-clause-carries g c =
    let carries = c.print_by_word.ensures.carries _ _ _ _ _ _ c.args.invocation.now c.args.invocation.line in
    rw c.in-PrintForm.is
    (carried_alone _ _ _ _ _ _ (record {
      unwritten = λ said. absurd (false≢true said);
      unfinished = tt;
      reads_none = refl;
      link = refl;
      carries = carries;
      named = tt;
      edited = tt;
      within = record { files = record { alone = tt; anew = tt }; few = tt };
      reads = of_done c.print_by_word.result _ (λ told. tt);
      made = of_done c.print_by_word.result _ (λ told. tt);
      synced = λ told. c.print_by_word.ensures.synced;
    }))

pub returns-in-Batch-clause-carries : goal.returns-in-Batch-clause-carries
returns-in-Batch-clause-carries g c =
    rw c.in-Batch.is
    (carried_alone _ _ _ _ _ _ (record {
      unwritten = λ said. c.apply_lines.ensures.wanting;
      unfinished = tt;
      reads_none = refl;
      link = refl;
      carries = c.apply_lines.ensures.carries _ _ _ _ _ _ c.args.invocation.line;
      named = tt;
      edited = tt;
      within = record { files = record { alone = tt; anew = c.apply_lines.ensures.others }; few = tt };
      reads = lines_within _ _ _ c.apply_lines.result
          (tells_of g.S.Store.tells g.I.Source.tells g.O.Sink.tells g.E.Sink.tells g.L.Link.tells)
          (g.S.Store.seen c.args.store.now) (g.S.Store.seen c.apply_lines.new.store) c.apply_lines.ensures.reads;
      made = of_done c.apply_lines.result _ (λ told. tt);
      synced = c.apply_lines.ensures.synced;
    }))

pub returns-in-ApplyForm-clause-carries : goal.returns-in-ApplyForm-clause-carries
returns-in-ApplyForm-clause-carries g c =
    rw c.in-ApplyForm.is
    (carried_alone _ _ _ _ _ _ (record {
      unwritten = λ said. absurd (false≢true said);
      unfinished = tt;
      reads_none = refl;
      link = refl;
      carries = c.apply_by_word.ensures.carries _ _ _ _;
      named = tt;
      edited = of_refusal_weaker c.apply_by_word.result _ _ (λ refusal left told other. left told)
          c.apply_by_word.ensures.named;
      within = record {
        files = record { alone = c.apply_by_word.ensures.alone.others; anew = tt };
        few = c.apply_by_word.ensures.alone.writes;
      };
      reads = of_done c.apply_by_word.result _ (λ told. tt);
      made = of_done c.apply_by_word.result _ (λ told. tt);
      synced = c.apply_by_word.ensures.synced;
    }))

pub returns-in-Check-clause-carries : goal.returns-in-Check-clause-carries
returns-in-Check-clause-carries g c =
    rw c.in-Check.is
    (carried_alone _ _ _ _ _ _ (record {
      unwritten = λ said. absurd (false≢true said);
      unfinished = tt;
      reads_none = refl;
      link = refl;
      carries = c.check_file.ensures.carries _ _ _ _ _ _ c.args.invocation.line;
      named = on_err_weaker c.check_file.result (λ same told. same) c.check_file.ensures.named;
      edited = tt;
      within = record { files = record { alone = tt; anew = c.check_file.ensures.others }; few = tt };
      reads = of_done c.check_file.result _ (λ told. tt);
      made = of_done c.check_file.result _ (λ told. tt);
      synced = c.check_file.ensures.synced;
    }))

pub convert_file-requires : goal.convert_file-requires
convert_file-requires g c = rw c.in-Convert.is at c.requires.known

pub returns-in-Convert-clause-carries : goal.returns-in-Convert-clause-carries
returns-in-Convert-clause-carries g c =
    rw c.in-Convert.is
    (carried_alone _ _ _ _ _ _ (record {
      unwritten = λ said. absurd (false≢true said);
      unfinished = tt;
      reads_none = refl;
      link = refl;
      carries = c.convert_file.ensures.carries _ _ _ _ _ _ _ _ c.args.invocation;
      named = on_err_weaker c.convert_file.result (λ same told. same) c.convert_file.ensures.named;
      edited = tt;
      within = record { files = record { alone = tt; anew = c.convert_file.ensures.others }; few = tt };
      reads = of_done c.convert_file.result _ (λ told. tt);
      made = of_done c.convert_file.result _ (λ told. tt);
      synced = c.convert_file.ensures.synced;
    }))

pub serve_files-requires-clause-some : goal.serve_files-requires-clause-some
serve_files-requires-clause-some g c = (rw c.in-Serve.is at c.requires.known).0

pub serve_files-requires-clause-apart : goal.serve_files-requires-clause-apart
serve_files-requires-clause-apart g c = (rw c.in-Serve.is at c.requires.known).1

pub returns-in-Serve-clause-carries : goal.returns-in-Serve-clause-carries
returns-in-Serve-clause-carries g c =
    let carries = c.serve_files.ensures.carries (g.I.Source.seen c.args.input.now) (g.O.Sink.seen c.args.out.now)
    (g.E.Sink.seen c.args.err.now) g.I.Source.tells g.O.Sink.tells g.E.Sink.tells c.args.invocation in
    rw c.in-Serve.is (record {
      carries = carries;
      named = tt;
      edited = tt;
      unwritten = λ said. absurd (false≢true said);
      within = record { files = record { alone = tt; anew = tt }; few = tt };
      reads = on_ok_weaker c.serve_files.result (λ few told. few told.store) c.serve_files.ensures.reads;
      made = of_done c.serve_files.result _ (λ told. tt);
      synced = λ told. c.serve_files.ensures.synced;
      unfinished = c.serve_files.ensures.stopped;
      untaken = λ one. of_refusal_weaker c.serve_files.result _ _ (λ refusal same five. ap g.L.Link.seen (same five))
          c.serve_files.ensures.untaken;
      unlinked = λ told no. absurd (cc);
      unbegun = λ reads. absurd (cc);
    })

pub returns-in-Script-clause-carries : goal.returns-in-Script-clause-carries
returns-in-Script-clause-carries g c =
    rw (c.in-Script.is, c.unknown_command.ensures) (not_here_carried c.args.invocation _ _)

pub returns-in-Generate-clause-carries : goal.returns-in-Generate-clause-carries
returns-in-Generate-clause-carries g c =
    rw c.in-Generate.is
    (carried_alone _ _ _ _ _ _ (record {
      unwritten = λ said. absurd (false≢true said);
      unfinished = tt;
      reads_none = refl;
      link = refl;
      carries = c.generate_file.ensures.carries _ _ _ _ _ _;
      named = tt;
      edited = tt;
      within = record { files = record { alone = tt; anew = c.generate_file.ensures.others }; few = tt };
      reads = of_done c.generate_file.result _ (λ told. tt);
      made = of_done c.generate_file.result _ (λ told. tt);
      synced = c.generate_file.ensures.synced;
    }))

pub returns-in-Report-clause-commits : goal.returns-in-Report-clause-commits
returns-in-Report-clause-commits g c =
    let same = ((c.report_file.ensures.carries (g.I.Source.seen c.args.input.now) (g.E.Sink.seen c.args.err.now)
    (g.L.Link.seen c.args.link.now) g.I.Source.tells g.E.Sink.tells g.L.Link.tells c.args.invocation.line).only_reads
    refl).files in
    rw c.in-Report.is
    (λ told. row_looked _ c.args.invocation _ _ _ _
    (λ worlds none. g.met.S.Store.commits_more worlds c.args.store.now c.report_file.new.store none)
    c.report_file.ensures.commits same)

pub returns-in-SetLimits-clause-commits : goal.returns-in-SetLimits-clause-commits
returns-in-SetLimits-clause-commits g c =
    rw c.in-SetLimits.is
    (λ told. row_committed _ c.args.invocation _ _ _ _ _ _ (λ once. once)
    (λ world keeps. record { only = record { alone = keeps; anew = tt }; none = λ no. absurd (false≢true (sym no)) })
    (c.edit_by_words.ensures.commits (g.I.Source.seen c.args.input.now).left
    (g.L.Link.seen c.args.link.now).left told.store))

pub returns-in-CopyLimits-clause-commits : goal.returns-in-CopyLimits-clause-commits
returns-in-CopyLimits-clause-commits g c =
    rw c.in-CopyLimits.is
    (λ told. row_committed _ c.args.invocation _ _ _ _ _ _ (λ once. once)
    (λ world keeps. record { only = record { alone = keeps; anew = tt }; none = λ no. absurd (false≢true (sym no)) })
    (c.edit_by_words-in-CopyLimits.ensures.commits (g.I.Source.seen c.args.input.now).left
    (g.L.Link.seen c.args.link.now).left told.store))

pub returns-in-SetGrace-clause-commits : goal.returns-in-SetGrace-clause-commits
returns-in-SetGrace-clause-commits g c =
    rw c.in-SetGrace.is
    (λ told. row_committed _ c.args.invocation _ _ _ _ _ _ (λ once. once)
    (λ world keeps. record { only = record { alone = keeps; anew = tt }; none = λ no. absurd (false≢true (sym no)) })
    (c.edit_by_words-in-SetGrace.ensures.commits (g.I.Source.seen c.args.input.now).left
    (g.L.Link.seen c.args.link.now).left told.store))

pub returns-in-SetTimes-clause-commits : goal.returns-in-SetTimes-clause-commits
returns-in-SetTimes-clause-commits g c =
    rw c.in-SetTimes.is
    (λ told. row_committed _ c.args.invocation _ _ _ _ _ _ (λ once. once)
    (λ world keeps. record { only = record { alone = keeps; anew = tt }; none = λ no. absurd (false≢true (sym no)) })
    (c.edit_by_words-in-SetTimes.ensures.commits (g.I.Source.seen c.args.input.now).left
    (g.L.Link.seen c.args.link.now).left told.store))

pub returns-in-Batch-clause-commits : goal.returns-in-Batch-clause-commits
returns-in-Batch-clause-commits g c =
    rw c.in-Batch.is
    (λ told. row_committed _ c.args.invocation _ _ _ _ _ _ (λ once. once)
    (λ world keeps. record { only = record { alone = tt; anew = keeps }; none = λ no. absurd (false≢true (sym no)) })
    (c.apply_lines.ensures.commits (g.L.Link.seen c.args.link.now).left c.args.invocation.line told.store
    (λ none. told.input (ap is_none none))))

pub returns-in-PrintForm-clause-commits : goal.returns-in-PrintForm-clause-commits
returns-in-PrintForm-clause-commits g c =
    let same = ((c.print_by_word.ensures.carries (g.I.Source.seen c.args.input.now) (g.E.Sink.seen c.args.err.now)
    (g.L.Link.seen c.args.link.now) g.I.Source.tells g.E.Sink.tells g.L.Link.tells c.args.invocation.now
    c.args.invocation.line).only_reads refl).files in
    rw c.in-PrintForm.is
    (λ told. row_looked _ c.args.invocation _ _ _ _
    (λ worlds none. g.met.S.Store.commits_more worlds c.args.store.now c.print_by_word.new.store none)
    c.print_by_word.ensures.commits same)

pub returns-in-ApplyForm-clause-commits : goal.returns-in-ApplyForm-clause-commits
returns-in-ApplyForm-clause-commits g c =
    rw c.in-ApplyForm.is
    (λ told. row_committed _ c.args.invocation _ _ _ _ _ _ (λ once. once)
    (λ world keeps. record { only = record { alone = keeps; anew = tt }; none = λ no. absurd (false≢true (sym no)) })
    (c.apply_by_word.ensures.commits (g.L.Link.seen c.args.link.now).left told.store
    (λ none. told.input (ap is_none none))))

pub returns-in-Check-clause-commits : goal.returns-in-Check-clause-commits
returns-in-Check-clause-commits g c =
    rw c.in-Check.is
    (λ told. row_committed _ c.args.invocation _ _ _ _ _ _ (λ once. once)
    (λ world keeps. record { only = record { alone = tt; anew = keeps }; none = λ no. absurd (false≢true (sym no)) })
    (c.check_file.ensures.commits (g.L.Link.seen c.args.link.now).left c.args.invocation.line told.store
    (λ none. told.input (ap is_none none))))

pub returns-in-Convert-clause-commits : goal.returns-in-Convert-clause-commits
returns-in-Convert-clause-commits g c =
    rw c.in-Convert.is
    (λ told. row_committed _ c.args.invocation _ _ _ _ _ _ (λ once. once)
    (λ world keeps. record { only = record { alone = tt; anew = keeps }; none = λ no. absurd (false≢true (sym no)) })
    (c.convert_file.ensures.commits (g.I.Source.seen c.args.input.now).left (g.L.Link.seen c.args.link.now).left
    c.args.invocation told.store))

pub returns-in-Serve-clause-commits : goal.returns-in-Serve-clause-commits
returns-in-Serve-clause-commits g c =
    let same = ((c.serve_files.ensures.carries (g.I.Source.seen c.args.input.now) (g.O.Sink.seen c.args.out.now)
    (g.E.Sink.seen c.args.err.now) g.I.Source.tells g.O.Sink.tells g.E.Sink.tells c.args.invocation).only_reads
    refl).files in
    rw c.in-Serve.is
    (λ told. row_looked _ c.args.invocation _ _ _ _
    (λ worlds none. g.met.S.Store.commits_more worlds c.args.store.now c.serve_files.new.store none)
    c.serve_files.ensures.commits same)

pub returns-in-Script-clause-commits : goal.returns-in-Script-clause-commits
returns-in-Script-clause-commits g c =
    rw c.in-Script.is
    (λ told. row_looked _ c.args.invocation _ _ _ _ (λ worlds none. g.S.Store.commits_nothing worlds c.args.store.now)
    (g.S.Store.commits_nothing [] c.args.store.now) refl)

pub returns-in-Generate-clause-commits : goal.returns-in-Generate-clause-commits
returns-in-Generate-clause-commits g c =
    rw c.in-Generate.is
    (λ told. row_committed _ c.args.invocation _ _ _ _ _ _ (λ once. once)
    (λ world keeps. record { only = record { alone = tt; anew = keeps }; none = λ no. absurd (false≢true (sym no)) })
    (c.generate_file.ensures.commits (g.I.Source.seen c.args.input.now).left
    (g.L.Link.seen c.args.link.now).left told.store))
