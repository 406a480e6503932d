use Rattle.std.proofs.Common.{◌≡◌, ◌<◌, [], get_or, length, arith}
use Rattle.std.proofs.lemmas.List.{length-map}
use Rattle.option_words.specs.Items.{texts_of}
use Rattle.option_words.specs.Given.{given_options}
use Rattle.option_words.specs.Reads.{next_of, operands_seen}
use Rattle.option_words.proofs.ItemLemmas.{scanned_fault, scanned_more, text_at}
use Rattle.option_words.proofs.scan.scan_words.Goals as goal

pub loop-at-preserved : goal.loop-at-preserved
loop-at-preserved c =
    let inside : c.loop-at.at < length (texts_of c.args.words.now) = rw length-map (omega arith) in
    let text : c.as_str.result.now ≡ get_or (texts_of c.args.words.now) c.loop-at.at [] =
    text_at c.args.words.now c.loop-at.at _ c.as_str.result.now (omega arith) c.index-words-at.is
    c.as_str.ensures.value in
    scanned_more c.args.tool (texts_of c.args.words.now) c.loop-at.at (next_of c.loop-at.wanted)
    (given_options c.loop-at.given)
    (operands_seen c.loop-at.operands.items) c.as_str.result.now c.in-Ok.next (given_options c.read_word.new.given)
    (operands_seen c.read_word.new.operands.items) c.loop-at.invariant inside text c.in-Ok.ensures.reads
    c.in-Ok.ensures.keeps

pub returns-in-Err-clause-given : goal.returns-in-Err-clause-given
returns-in-Err-clause-given c =
    let inside : c.loop-at.at < length (texts_of c.args.words.now) = rw length-map (omega arith) in
    let text : c.as_str.result.now ≡ get_or (texts_of c.args.words.now) c.loop-at.at [] =
    text_at c.args.words.now c.loop-at.at _ c.as_str.result.now (omega arith) c.index-words-at.is
    c.as_str.ensures.value in
    scanned_fault c.args.tool (texts_of c.args.words.now) c.loop-at.at (next_of c.loop-at.wanted)
    (given_options c.loop-at.given)
    (operands_seen c.loop-at.operands.items) c.as_str.result.now c.in-Err.met (given_options c.read_word.new.given)
    c.loop-at.invariant inside text c.in-Err.ensures.reads
