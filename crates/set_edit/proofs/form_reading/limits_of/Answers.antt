use Rattle.std.proofs.Common.{Bor, List, ℕ, sym, ◌∙◌, arith}
use Rattle.std.proofs.lemmas.List.{length-map}
use Rattle.set_edit.proofs.FormReadingLemmas.{limits_in-no_usage, limits_in-other, limits_in-usage}
use Rattle.set_edit.proofs.form_reading.limits_of.Goals as goal

pub returns-in_default : goal.returns-in_default
returns-in_default c =
    sym (limits_in-other c.args.file.now _ (λ seven. omega (
      arith,
      seven,
      length-map c.args.words.now (λ (word : Bor (List ℕ)). word.now),
    )))

pub returns-in_default-2 : goal.returns-in_default-2
returns-in_default-2 c =
    sym (limits_in-other c.args.file.now _ (λ seven. omega (
      arith,
      seven,
      length-map c.args.words.now (λ (word : Bor (List ℕ)). word.now),
    )))

pub returns-then-not-is_usage : goal.returns-then-not-is_usage
returns-then-not-is_usage c =
    sym (limits_in-no_usage c.args.file.now c.args.words.now _ c.is_usage.result (omega arith) c.is_usage.ensures
    c.if-not-is_usage.true)

pub returns : goal.returns
returns c =
    c.four_limits.ensures
    ∙ sym (limits_in-usage c.args.file.now c.args.words.now _ c.is_usage.result (omega arith) c.is_usage.ensures
    c.if-not-is_usage.false)
