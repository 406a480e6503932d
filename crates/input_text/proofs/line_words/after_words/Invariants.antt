use Rattle.std.proofs.Common.{◌≡◌, length}
use Rattle.input_text.specs.Words.{words_behind, words_of}
use Rattle.input_text.proofs.line_words.after_words.Given as goal

abbrev pub invariant-loop-front : goal.invariant-loop-front
invariant-loop-front l =
    words_behind (words_of l.text) (words_of l.line) ≡ words_behind (words_of l.wanted) (words_of l.rest)

abbrev pub decreases-loop-front : goal.decreases-loop-front
decreases-loop-front l = length l.wanted
