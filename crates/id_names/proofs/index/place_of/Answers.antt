use Rattle.std.proofs.Common.{◌≡◌, ℕ, nat_eq, List, ◌∷◌, [], ◌++◌, Vec, sym, ap, ◌∙◌}
use Rattle.std.specs.Cmp.Lexicographic.{pointwise}
use Rattle.std.specs.Map.{lookup}
use Rattle.std.specs.Str.{bytes_eq}
use Rattle.indexmap.proofs.CallerLemmas.{insert_entry-new}
use Rattle.id_names.proofs.NameListLemmas.{found_place, found_id, added_place, added_others, added_id}
use Rattle.id_names.proofs.index.place_of.Goals as goal

pub returns-in-Some-clause-place : goal.returns-in-Some-clause-place
returns-in-Some-clause-place c =
    found_place c.args.names.now.entries c.in-Some.place c.in-Some._name.now c.in-Some._id.now c.args.name.now
    c.in-Some.ensures.entry (sym c.in-Some.ensures.key)

pub returns-in-Some-clause-ids : goal.returns-in-Some-clause-ids
returns-in-Some-clause-ids c =
    found_id c.args.names.now.entries c.args.name.now c.args.id c.in-Some._id.now (sym c.in-Some.ensures.value)

-- the key that is inserted has the name's bytes
spelled : (c : goal.In_ok-insert) → c.in_ok-to_vec.field-0.items ≡ c.args.name.now
spelled c = c.in_ok-to_vec.ensures.items_if_clones_equal (λ x y same. same)

-- it goes behind the others
added : (c : goal.In_ok-insert)
    → c.insert.new.self.entries ≡ c.args.names.now.entries ++ (c.in_ok-to_vec.field-0, c.args.id) ∷ []
added c =
    let absent = ap (λ (name : List ℕ). lookup (λ (key : Vec ℕ _). bytes_eq name key.items) c.args.names.now.entries)
    (spelled c) ∙ sym c.in_default.ensures.value in
    c.in_ok-insert.ensures.entries
    ∙ insert_entry-new (λ (x y : Vec ℕ _). pointwise nat_eq x.items y.items) c.args.names.now c.in_ok-to_vec.field-0
    c.args.id absent

pub returns-clause-place : goal.returns-clause-place
returns-clause-place c =
    let at : c.len-place.result ≡ _ = c.len-place.ensures.len in
    rw at (added_place c.args.names.now.entries c.insert.new.self.entries c.in_ok-to_vec.field-0 c.args.id
    c.args.name.now (added c) (spelled c))

pub returns-clause-others : goal.returns-clause-others
returns-clause-others c =
    added_others c.args.names.now.entries c.insert.new.self.entries c.in_ok-to_vec.field-0 c.args.id c.args.name.now
    (added c) (spelled c)

pub returns-clause-ids : goal.returns-clause-ids
returns-clause-ids c =
    added_id c.args.names.now.entries c.insert.new.self.entries c.in_ok-to_vec.field-0 c.args.id c.args.name.now
    (added c) (spelled c)
