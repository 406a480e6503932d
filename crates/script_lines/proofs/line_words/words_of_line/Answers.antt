use Rattle.std.specs.Str.{IsUtf8}
use Rattle.std.proofs.lemmas.List.Elements.{All-rest}
use Rattle.input_text.specs.Words.{words_of}
use Rattle.script_lines.proofs.WordLemmas.{words_more, words_utf8}
use Rattle.script_lines.proofs.line_words.words_of_line.Goals as goal

pub loop-word-init : goal.loop-word-init
loop-word-init c =
    record {
      words = rw (c.new-words.ensures.items, c.as_bytes-rest.ensures.value);
      texts = words_utf8 c.as_bytes-rest.result.now c.as_bytes-rest.ensures.utf8;
    }

pub loop-word-preserved : goal.loop-word-preserved
loop-word-preserved c =
    record {
      words = rw c.in_ok-push.ensures.items
          (words_more c.loop-word.words.items c.in_ok-text_of.field-0 c.in-Some.word.now _ _
          (words_of c.in-Some.behind.now) c.loop-word.invariant.words c.in-Some.ensures.word c.in_ok-text_of.ensures);
      texts = All-rest IsUtf8 c.in-Some.word.now (words_of c.in-Some.behind.now) _ c.in-Some.ensures.word
          c.loop-word.invariant.texts;
    }
