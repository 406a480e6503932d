use Rattle.std.proofs.lemmas.List.{take_rest}
use Rattle.input_text.proofs.WordsLemmas.{first_word}
use Rattle.input_text.proofs.line_words.split_word.Goals as goal

pub returns-clause-word : goal.returns-clause-word
returns-clause-word c =
    rw (take_rest c.args.text.now c.word_end-end.result, c.word_end-end.ensures.place)
    (first_word c.args.text.now c.requires)
