use Rattle.std.proofs.Common.{◌≡◌, ◌+◌, length, take, refl, sym}
use Rattle.std.proofs.lemmas.List.{length-map}
use Rattle.option_words.specs.Items.{AnyWord, items_of, operands_in, texts_of}
use Rattle.option_words.specs.Given.{given_options}
use Rattle.option_words.specs.Reads.{operands_seen}
use Rattle.command_words.proofs.OperandLemmas.{asked_formed}
use Rattle.command_words.proofs.reading.read_command.Goals as goal

pub returns : goal.returns
returns c =
    let texts = texts_of c.args.behind.now in
    let count : length c.args.behind.now + 1 ≡ length texts + 1 = rw length-map refl in
    let kept : take 7 (operands_seen c.as_slice.result.now)
    ≡ take 7 (operands_in (items_of c.args.tool AnyWord 1 texts)) =
    rw c.as_slice.ensures.value c.in_ok-scan.ensures.operands in
    rw (asked_formed c.args.in_script c.args.tool texts (given_options c.in_ok-scan.scan.given) c.mode_of-mode.result
    (length c.args.behind.now + 1) (operands_seen c.as_slice.result.now)
    c.in_ok-scan.ensures.given kept (sym c.if-excludes.ensures) (sym c.if-lacks.ensures) c.mode_of-mode.ensures count)
    c.mode_command.ensures
