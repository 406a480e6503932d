use Rattle.std.proofs.Common.{◌≡◌, ◌++◌, length}
use Rattle.std.specs.List.{All}
use Rattle.std.specs.Str.{IsUtf8}
use Rattle.option_words.specs.Items.{texts_of}
use Rattle.input_text.specs.Words.{words_of}
use Rattle.script_lines.proofs.line_words.words_of_line.Given as goal

abbrev pub invariant-loop-word : goal.invariant-loop-word
invariant-loop-word l =
    record {
      words : words_of l.text ≡ texts_of l.words.items ++ words_of l.rest;
      texts : All IsUtf8 (words_of l.rest);
    }

abbrev pub decreases-loop-word : goal.decreases-loop-word
decreases-loop-word l = length l.rest
