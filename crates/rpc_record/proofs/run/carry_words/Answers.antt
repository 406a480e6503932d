use Rattle.std.proofs.lemmas.Result.{IfErr-weaker}
use Rattle.option_words.specs.Items.{texts_of}
use Rattle.stream_words.specs.Words.{stream_asked}
use Rattle.rpc_record.proofs.AskedLemmas.{asked_may}
use Rattle.rpc_record.proofs.run.carry_words.Goals as goal

pub carry_out-requires-clause-apart : goal.carry_out-requires-clause-apart
carry_out-requires-clause-apart g c = asked_may (texts_of c.args.words.now) (stream_asked c.in-Ok.read) c.in-Ok.ensures

pub returns-in-Ok-clause-carried : goal.returns-in-Ok-clause-carried
returns-in-Ok-clause-carried g c = rw c.in-Ok.ensures c.carry_out.ensures.carried

pub returns-in-Ok-clause-worded : goal.returns-in-Ok-clause-worded
returns-in-Ok-clause-worded g c =
    IfErr-weaker c.carry_out.result _ _ (λ said no two. absurd (no two)) c.carry_out.ensures.worded

pub returns-in-Ok-clause-store : goal.returns-in-Ok-clause-store
returns-in-Ok-clause-store g c =
    IfErr-weaker c.carry_out.result _ _ (λ said no two. absurd (no two)) c.carry_out.ensures.worded
