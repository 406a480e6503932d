use Rattle.std.proofs.Common.{not, sym}
use Rattle.std.proofs.lemmas.List.{take_rest}
use Rattle.input_text.specs.Words.{is_blank}
use Rattle.input_text.proofs.WordsLemmas.{no_word, place-some, word-behind, words_of-behind}
use Rattle.input_text.proofs.line_words.behind_blanks.Goals as goal

pub returns-in_err-start-clause-same : goal.returns-in_err-start-clause-same
returns-in_err-start-clause-same c = rw c.from_residual.ensures (no_word c.args.line.now (sym c.in_err-start.ensures))

pub returns-clause-same : goal.returns-clause-same
returns-clause-same c =
    let place =
    place-some (λ byte. not (is_blank byte)) c.args.line.now c.in_ok-start.start (sym c.in_ok-start.ensures) in
    rw (take_rest c.args.line.now c.in_ok-start.start, place.0) (words_of-behind c.args.line.now)

pub returns-clause-word : goal.returns-clause-word
returns-clause-word c =
    let place =
    place-some (λ byte. not (is_blank byte)) c.args.line.now c.in_ok-start.start (sym c.in_ok-start.ensures) in
    rw (take_rest c.args.line.now c.in_ok-start.start, place.0) (word-behind c.args.line.now (rw place.0 at place.1))
