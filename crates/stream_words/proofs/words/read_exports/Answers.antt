use Rattle.std.proofs.Common.{◌+◌, ◌<◌, List, length, drop, sym, ap, ◌∙◌, arith}
use Rattle.option_words.specs.Given.{export_given, exports_given}
use Rattle.option_words.specs.Items.{texts_of}
use Rattle.option_words.specs.declared.export_option.ExportOption.{ExportOption}
use Rattle.stream_words.specs.Words.{exports_of}
use Rattle.stream_words.proofs.WordLemmas.{more_whole, one_given, one_read}
use Rattle.stream_words.proofs.words.read_exports.Goals as goal

pub loop-place-preserved : goal.loop-place-preserved
loop-place-preserved c =
    let files = c.args.files.now in
    let place = c.loop-place.place in
    let before = exports_given c.loop-place.exports.items in
    let export = export_given c.in_ok-export.export in
    let long : place + 2 < length files = more_whole place (length c.loop-place.exports.items) (length files)
    c.loop-place.invariant.number c.requires.whole c.loop-place-test.true in
    record {
      number = omega (arith, c.push.ensures.len, c.loop-place.invariant.number);
      same =
          ap (λ (l : List ExportOption). exports_of (3 + (place + 3)) l (texts_of (drop (place + 3) files)))
          (ap exports_given c.push.ensures.items ∙ one_given c.loop-place.exports.items c.in_ok-export.export)
          ∙ sym (one_read files place c.index-files-place.result c.index-files-place-in-loop-place.result
          c.index-files-place-in-loop-place-2.result before export long c.index-files-place.is
          c.index-files-place-in-loop-place.is c.index-files-place-in-loop-place-2.is
          (rw (
            c.as_slice.ensures.value,
            c.as_str.ensures.value,
            c.as_str-in-loop-place.ensures.value,
            c.as_str-in-loop-place-2.ensures.value,
          ) at c.in_ok-export.ensures))
          ∙ c.loop-place.invariant.same;
    }
