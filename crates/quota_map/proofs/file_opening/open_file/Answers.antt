use Rattle.std.proofs.Common.{◌≡◌, false, Ok, Option, rules, sym, subst}
use Rattle.quota_types.specs.declared.file_kind.Format.{Format}
use Rattle.quota_map.specs.Asked.{asked_of}
use Rattle.quota_map.specs.View.{IsView, asks_flat}
use Rattle.quota_map.proofs.ViewLemmas.{flat_seen, seen_flat, seen_tree, tree_seen}
use Rattle.quota_map.proofs.file_opening.open_file.Goals as goal

pub returns-in-Some-clause-seen : goal.returns-in-Some-clause-seen
returns-in-Some-clause-seen g c = λ told.
    let is = c.in-Some.ensures.flat in
    let named = (g.S.Store.seen c.args.store.now).files c.args.name.now in
    let seen = c.in_ok-open_v1.ensures.seen told c.args.kind in (
      seen.0,
      subst (λ (asked : Option Format). IsView named c.args.kind (asked_of asked) (Ok seen.0)) (sym is.0)
          (seen_flat named c.args.kind c.in-Some.flat (Ok seen.0) is.1 seen.1),
    )

pub returns-in-Some-clause-held : goal.returns-in-Some-clause-held
returns-in-Some-clause-held g c = λ told value view.
    let is = c.in-Some.ensures.flat in
    let named = (g.S.Store.seen c.args.store.now).files c.args.name.now in
    c.in_ok-open_v1.ensures.held told c.args.kind value
    (flat_seen named c.args.kind c.in-Some.flat (Ok value) is.1
    (subst (λ (asked : Option Format). IsView named c.args.kind (asked_of asked) (Ok value)) is.0 view))

pub returns-clause-seen : goal.returns-clause-seen
returns-clause-seen g c =
    let other : asks_flat (asked_of c.args.format) ≡ false = search rules in
    λ told.
    let seen = c.in_ok-open_tree.ensures.seen told in
    (seen.0, seen_tree _ c.args.kind c.args.format (Ok seen.0) other seen.1)

pub returns-clause-held : goal.returns-clause-held
returns-clause-held g c =
    let other : asks_flat (asked_of c.args.format) ≡ false = search rules in
    λ told value seen.
    c.in_ok-open_tree.ensures.held told value (tree_seen _ c.args.kind c.args.format (Ok value) other seen)
