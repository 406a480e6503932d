use Rattle.std.proofs.Common.{◌≡◌, ◌++◌, length, map}
use Rattle.input_text.specs.Words.{words_of}
use Rattle.input_text.proofs.line_words.words.Given as goal

abbrev pub invariant-loop-word : goal.invariant-loop-word
invariant-loop-word g l = words_of l.line ≡ map (λ word. word.now) l.words.items ++ words_of l.rest

abbrev pub decreases-loop-word : goal.decreases-loop-word
decreases-loop-word g l = length l.rest
