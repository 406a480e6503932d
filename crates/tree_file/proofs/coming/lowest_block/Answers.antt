use Rattle.std.proofs.Common.{◌≡◌, ℕ, ◌/◌, ◌%◌, ◌^◌, List, get_or, refl, sym, ap, ◌∙◌, arith}
use Rattle.std.proofs.lemmas.Option.{IfSome_then}
use Rattle.quota_pages.specs.Used.{shown_over}
use Rattle.tree_file.specs.Coming.{LeadsTo}
use Rattle.tree_file.proofs.coming.lowest_block.Goals as goal

pub returns : goal.returns
returns c = IfSome_then c.block_below-3.result c.block_below-3.ensures (λ lowest below tells seen known.
    let file : List ℕ = shown_over seen c.args.pages.now in
    let id : ℕ = c.args.id in
    let upper : id / 256 / 256 / 256 % 256 ≡ id / 256 ^ 3 % 256 = omega arith in
    let middle : id / 256 / 256 % 256 ≡ id / 256 ^ 2 % 256 = omega arith in
    let digit = λ (place : ℕ). ap (λ (digits : List ℕ). get_or digits place 0) (sym c.digits.ensures.digits) in
    let root : LeadsTo file c.args.blocks 0 (id / 256 / 256 / 256 / 256) c.in_ok-root.root.now =
    record { block = 1; led = refl; is = c.in_ok-root.ensures.block tells seen known } in
    let first = c.in_ok-block.ensures tells seen 0 (id / 256 / 256 / 256) known (upper ∙ digit 0) root in
    let second = c.in_ok-block-2.ensures tells seen 1 (id / 256 / 256) known (middle ∙ digit 1) first in
    below tells seen 2 (id / 256) known (digit 2) second)
