use Rattle.std.proofs.Common.{ap}
use Rattle.option_words.specs.Items.{texts_of}
use Rattle.quota_cli.specs.Headline.{command_line}
use Rattle.quota_cli.proofs.CommittedLemmas.{run_committed}
use Rattle.quota_cli.proofs.RunLemmas.{run_headline, run_keeps}
use Rattle.quota_cli.proofs.AskedLemmas.{setting_reads}
use Rattle.quota_cli.proofs.run.run.Goals as goal

pub returns-clause-headline : goal.returns-clause-headline
returns-clause-headline g c =
    let typed = command_line (texts_of c.args.words.now) c.args.now in
    run_headline typed _ _ _ (g.E.Sink.seen c.finish.new.err) c.carry_out_words-done.result c.finish.result
    (setting_reads typed)
    c.carry_out_words-done.ensures.carries.carries
    (record { status_is = c.finish.ensures.status; written = c.finish.ensures.line; later = c.finish.ensures.later })

pub returns-clause-keeps : goal.returns-clause-keeps
returns-clause-keeps g c =
    let done = c.carry_out_words-done in
    run_keeps (command_line (texts_of c.args.words.now) c.args.now) _ _ _ (g.E.Sink.seen c.finish.new.err)
    done.result c.finish.result
    done.ensures.carries done.ensures.stands
    (record { status_is = c.finish.ensures.status; written = c.finish.ensures.line; later = c.finish.ensures.later })
    done.ensures.usage
    (λ refusal faulty. (ap g.E.Sink.seen (done.ensures.quiet refusal faulty), done.ensures.word refusal faulty))

pub returns-clause-commits : goal.returns-clause-commits
returns-clause-commits g c = λ told.
    run_committed _ _ _ _ _ _ c.carry_out_words-done.result c.finish.result c.finish.ensures.status
    (c.carry_out_words-done.ensures.commits told)
