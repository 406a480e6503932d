use Rattle.std.proofs.Common.{◌+◌, ◌-◌, ◌∙◌, inl, inr, List, ℕ, ap, arith, get_or, length}
use Rattle.journal_store.proofs.OverlayLemmas.{laid-in, laid-past}
use Rattle.journal_store.proofs.overlay.byte_of.Goals as goal
use Rattle.journal_store.proofs.overlay.byte_of.Goals.{then-at-start-via-then-at-start}
use Rattle.journal_store.proofs.overlay.byte_of.Goals.{then-at-start-via-else-at-start+then-at-place}

pub returns-then-at-start : goal.returns-then-at-start
returns-then-at-start c = λ file.
    let range = c.args.range.now in
    let same = ap length c.bytes-bytes.ensures.value in
    laid-past file range.at range.bytes.items (c.args.at + c.args.place)
    (elim c.then-at-start.branch [
      | then-at-start-via-then-at-start w ↦
          inr (omega (arith, same, c.bytes-bytes.ensures.few, c.at-start.ensures.value))
      | then-at-start-via-else-at-start+then-at-place w ↦ inl (omega (arith, c.at-start.ensures.value))
    ])

pub returns-then-index-bytes : goal.returns-then-index-bytes
returns-then-index-bytes c = λ file.
    let range = c.args.range.now in
    let same = ap length c.bytes-bytes.ensures.value in
    laid-past file range.at range.bytes.items (c.args.at + c.args.place)
    (inr (omega (arith, same, c.at-start.ensures.value)))

pub returns : goal.returns
returns c = λ file.
    let range = c.args.range.now in
    let same = ap length c.bytes-bytes.ensures.value in
    let index : ℕ = c.args.at + c.args.place - c.at-start.result in
    ap (λ (l : List ℕ). get_or l index 0) c.bytes-bytes.ensures.value
    ∙ laid-in file range.at range.bytes.items (c.args.at + c.args.place) index (omega (arith, c.at-start.ensures.value))
    (omega (arith, same))
