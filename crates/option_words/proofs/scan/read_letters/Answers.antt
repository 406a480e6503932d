use Rattle.std.proofs.Common.{◌≡◌, ◌<◌, get_or, Some, sym, ap, ◌∙◌, arith}
use Rattle.std.proofs.lemmas.Str.{IsCharBoundary-after_ascii}
use Rattle.option_words.specs.declared.switch.Switch.TheVariants.{Setting}
use Rattle.option_words.specs.Given.{given_options}
use Rattle.option_words.specs.Switches.{letter_switch}
use Rattle.option_words.proofs.LetterLemmas.{read_setting}
use Rattle.option_words.proofs.scan.read_letters.Goals as goal

pub range_from-requires : goal.range_from-requires
range_from-requires c = λ _.
    let low : get_or c.args.letters.now c.loop-at.at 0 < 128 =
    rw c.as_bytes-letter-items.ensures.value at c.in-Some.ensures.ascii in
    IsCharBoundary-after_ascii c.args.letters.now c.loop-at.at c.utf8.letters (omega arith) low

pub returns-in-Setting : goal.returns-in-Setting
returns-in-Setting c =
    let stands : letter_switch c.args.tool (get_or c.args.letters.now c.loop-at.at 0)
    ≡ Some (Setting c.in-Setting.setting) =
    (rw c.as_bytes-letter-items.ensures.value at (sym c.in-Some.ensures.meant)) ∙ ap Some c.in-Setting.is in
    read_setting c.args.tool c.args.word c.args.letters.now (given_options c.args.given.now) c.loop-at.at
    (given_options c.loop-at.given) c.in-Setting.setting
    (given_options c.take_letters.new.given) c.take_letters.result c.loop-at.invariant (omega arith) stands
    (λ more. rw c.range_from.ensures.value at (c.take_letters.ensures more))
