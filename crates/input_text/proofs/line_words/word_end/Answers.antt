use Rattle.std.proofs.Common.{sym, arith}
use Rattle.input_text.specs.Words.{is_blank}
use Rattle.input_text.proofs.WordsLemmas.{place-none, place-some}
use Rattle.input_text.proofs.line_words.word_end.Goals as goal

pub returns-in-Some-clause-place : goal.returns-in-Some-clause-place
returns-in-Some-clause-place c = (place-some is_blank c.args.text.now c.in-Some.end (sym c.in-Some.ensures)).0

pub returns-in-Some-clause-within : goal.returns-in-Some-clause-within
returns-in-Some-clause-within c =
    let place = place-some is_blank c.args.text.now c.in-Some.end (sym c.in-Some.ensures) in omega arith

pub returns-in-None-clause-place : goal.returns-in-None-clause-place
returns-in-None-clause-place c = place-none is_blank c.args.text.now (sym c.in-None.ensures)
