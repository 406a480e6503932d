use Rattle.std.proofs.Common.{◌≡◌, ◌+◌, ◌*◌, ◌-◌, [], length, drop}
use Rattle.option_words.specs.Given.{exports_given}
use Rattle.option_words.specs.Items.{texts_of}
use Rattle.stream_words.specs.Words.{exports_of}
use Rattle.stream_words.proofs.words.read_exports.Given as goal

abbrev pub invariant-loop-place : goal.invariant-loop-place
invariant-loop-place l = record {
  number : l.place ≡ 3 * length l.exports.items;
  same : exports_of (3 + l.place) (exports_given l.exports.items) (texts_of (drop l.place l.files))
      ≡ exports_of 3 [] (texts_of l.files);
}

abbrev pub decreases-loop-place : goal.decreases-loop-place
decreases-loop-place l = length l.files - l.place
