use Rattle.std.proofs.Common.{◌≡◌, ◌≤◌, ◌+◌, [], List, ℕ, unwrap_or, ap, ◌∙◌, arith, length-take}
use Rattle.quota_types.specs.Bytes.{number_at}
use Rattle.edit_journal.specs.Undo.{range_at, saved_range}
use Rattle.edit_journal.proofs.LayBackLemmas.{laid-looks, range-parts, tears-looks}
use Rattle.edit_journal.proofs.SavedLemmas.{length-bytes_at}
use Rattle.edit_journal.proofs.recovery.lay_span.Goals as goal

pub returns-in_err-lay_through-clause-passes : goal.returns-in_err-lay_through-clause-passes
returns-in_err-lay_through-clause-passes g c told old_length fit =
    let undo : List ℕ = unwrap_or ((g.D.Disk.seen c.args.disk.now).files c.args.undo.now) [] in
    let parts = range-parts old_length (saved_range undo c.args.k) fit in
    let place = c.in_ok-found.ensures.place told in
    let number = c.in_ok-found.ensures.number told in
    let long = length-bytes_at undo (range_at c.args.k + 16) (number_at 2 undo (range_at c.args.k + 8)) in
    let is = c.clamped-span.ensures.same (omega (arith, place, parts.1)) (omega (arith, number, long, parts.0)) in
    let few : c.clamped-span.result.saved ≤ 1024 = c.clamped-span.ensures.few in
    let count : c.clamped-span.result.saved ≡ number_at 2 undo (range_at c.args.k + 8) =
    ap (λ s. s.saved) is ∙ number in
    tears-looks c.args.name.now _ _ _ _ _ _ _ c.in_ok-found.ensures.looks.passes (ap (λ s. s.at) is ∙ place)
    (length-take _ _ ∙ omega (arith, few, count, long)) c.lay_through.ensures.passes

pub returns-clause-laid : goal.returns-clause-laid
returns-clause-laid g c told old_length fit =
    let undo : List ℕ = unwrap_or ((g.D.Disk.seen c.args.disk.now).files c.args.undo.now) [] in
    let parts = range-parts old_length (saved_range undo c.args.k) fit in
    let place = c.in_ok-found.ensures.place told in
    let number = c.in_ok-found.ensures.number told in
    let long = length-bytes_at undo (range_at c.args.k + 16) (number_at 2 undo (range_at c.args.k + 8)) in
    let is = c.clamped-span.ensures.same (omega (arith, place, parts.1)) (omega (arith, number, long, parts.0)) in
    let few : c.clamped-span.result.saved ≤ 1024 = c.clamped-span.ensures.few in
    let count : c.clamped-span.result.saved ≡ number_at 2 undo (range_at c.args.k + 8) =
    ap (λ s. s.saved) is ∙ number in
    laid-looks (g.D.Disk.seen c.args.disk.now) (g.D.Disk.seen c.read_span.new.disk)
    (g.D.Disk.seen c.lay_through.new.disk) c.args.name.now c.args.undo.now _ _ _ _ _ _
    c.in_ok-found.ensures.looks.passes (ap (λ s. s.at) is ∙ place) (omega (arith, c.from.ensures))
    (length-take _ _ ∙ omega (arith, few, count)) (c.in_ok-lay_through.ensures.laid told)

pub returns-clause-passes : goal.returns-clause-passes
returns-clause-passes g c told old_length fit =
    let undo : List ℕ = unwrap_or ((g.D.Disk.seen c.args.disk.now).files c.args.undo.now) [] in
    let parts = range-parts old_length (saved_range undo c.args.k) fit in
    let place = c.in_ok-found.ensures.place told in
    let number = c.in_ok-found.ensures.number told in
    let long = length-bytes_at undo (range_at c.args.k + 16) (number_at 2 undo (range_at c.args.k + 8)) in
    let is = c.clamped-span.ensures.same (omega (arith, place, parts.1)) (omega (arith, number, long, parts.0)) in
    let few : c.clamped-span.result.saved ≤ 1024 = c.clamped-span.ensures.few in
    let count : c.clamped-span.result.saved ≡ number_at 2 undo (range_at c.args.k + 8) =
    ap (λ s. s.saved) is ∙ number in
    tears-looks c.args.name.now _ _ _ _ _ _ _ c.in_ok-found.ensures.looks.passes (ap (λ s. s.at) is ∙ place)
    (length-take _ _ ∙ omega (arith, few, count, long)) c.lay_through.ensures.passes
