use Rattle.std.proofs.Common.{List, ℕ, sym, ap, ◌∙◌, arith}
use Rattle.quota_types.specs.Bytes.{number_at}
use Rattle.outside.specs.World.{World}
use Rattle.opened_file.specs.FileUse.{seen_in}
use Rattle.quota_v1.specs.Place.{time_width}
use Rattle.quota_v1.proofs.OpenLemmas.{holds_opened, value_of_length}
use Rattle.quota_v1.proofs.PlaceLemmas.{some_time, times_fill}
use Rattle.quota_v1.proofs.flat_opening.open_v1.Goals as goal

pub returns-clause-seen : goal.returns-clause-seen
returns-clause-seen g c =
    λ told kind. value_of_length c.args.format _ kind c.in_ok-len.len (c.in_ok-len.ensures.there told)
    c.in_ok-len.ensures.limited c.in_ok-len.ensures.whole

pub returns-clause-held : goal.returns-clause-held
returns-clause-held g c = λ told kind value view.
    let S = g.S.Store in
    let name = c.args.name.now in
    let read = c.in-Ok-read_from.ensures in
    let len = c.in_ok-len.ensures in
    let same = ap (λ (n : List ℕ). (S.seen c.read_from.new.store).files n) c.in-Ok.ensures.ok
    ∙ ap (λ (files : World). files name) (read.leaves.files ∙ len.leaves.files) in
    holds_opened c.args.format c.requires S.tells ((S.seen c.args.store.now).files name) _ kind c.in_ok-len.len _
    c.none.result value c.read_from.new.buf told same (len.there told)
    (rw (ap (λ (files : World). files name) len.leaves.files) at (read.shown told))
    (omega (arith, c.read_from.auto.buf, times_fill c.args.format c.requires, (some_time c.args.format).1))
    (sym c.time_at.ensures.value)
    (ap (number_at (time_width c.args.format) c.read_from.new.buf) (sym c.second_time.ensures)
    ∙ sym c.time_at-2.ensures.value) c.none.ensures view

pub returns-clause-fresh : goal.returns-clause-fresh
returns-clause-fresh g c =
    ap (λ (n : List ℕ). seen_in c.new.result n c.args.format 0) c.in-Ok.ensures.ok
    ∙ c.new.ensures c.args.name.now c.args.format 0
