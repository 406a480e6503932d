use Rattle.std.proofs.Common.{◌≡◌, ◌<◌, ◌==◌, ℕ, position, length, get_or, Some, arith}
use Rattle.std.proofs.lemmas.Bool.Decides.{nat_tests}
use Rattle.std.proofs.lemmas.List.Quantifiers.{position-Some}
use Rattle.std.proofs.lemmas.Str.{IsCharBoundary-after_ascii, IsCharBoundary-before_ascii}
use Rattle.option_words.proofs.parts.parted.Goals as goal

pub range_from-requires : goal.range_from-requires
range_from-requires c = λ _.
    let is : position (λ (b : ℕ). b == c.args.at) c.args.text.now ≡ Some c.in-Some.place = cc in
    let there = position-Some (λ (b : ℕ). b == c.args.at) c.args.text.now c.in-Some.place 0 is in
    let inside : c.in-Some.place < length c.args.text.now = there.0 in
    let low : get_or c.args.text.now c.in-Some.place 0 < 128 = grind (arith, nat_tests, there.1) in
    IsCharBoundary-after_ascii c.args.text.now c.in-Some.place c.utf8.text inside low

pub range-requires-clause-end_boundary : goal.range-requires-clause-end_boundary
range-requires-clause-end_boundary c =
    let is : position (λ (b : ℕ). b == c.args.at) c.args.text.now ≡ Some c.in-Some.place = cc in
    let there = position-Some (λ (b : ℕ). b == c.args.at) c.args.text.now c.in-Some.place 0 is in
    let inside : c.in-Some.place < length c.args.text.now = there.0 in
    let low : get_or c.args.text.now c.in-Some.place 0 < 128 = grind (arith, nat_tests, there.1) in
    IsCharBoundary-before_ascii c.args.text.now c.in-Some.place inside low
