use Rattle.std.proofs.Common.{◌≡◌, List, ℕ, [], false, Some, sym, ap, subst, ◌∙◌}
use Rattle.std.specs.Prelude.{◌∷◌}
use Rattle.outside.specs.Replacement.{replacement_name}
use Rattle.outside.specs.Unsynced.{UnsyncedNames}
use Rattle.outside.specs.World.{World, with_file, with_new_name}
use Rattle.opened_file.proofs.ReplaceLemmas.{replacement_name-ne, with_new_name-replaced}
use Rattle.outside.proofs.UnsyncedLemmas.{replaced-names, with_name-at}
use Rattle.opened_file.proofs.replacement.replace.Goals as goal

pub rename-requires : goal.rename-requires
rename-requires g c same =
    replacement_name-ne c.args.name.now (sym (c.as_str-2.ensures.value ∙ c.in_ok-new_name.ensures) ∙ same)

pub returns-clause-replaced : goal.returns-clause-replaced
returns-clause-replaced g c told =
    let files = (g.S.Store.seen c.args.store.now).files in
    let written = (g.S.Store.seen c.write_new.new.store).files in
    let name = c.args.name.now in
    let bytes = c.args.bytes.now in
    let wrote : written ≡ with_file files (replacement_name name) (Some bytes) =
    c.in_ok-write_new.ensures.ok told
    ∙ ap (λ (new : List ℕ). with_file files new (Some bytes)) (c.as_str.ensures.value ∙ c.in_ok-new_name.ensures) in
    c.in_ok-rename.ensures.ok told
    ∙ ap (λ (new : List ℕ). with_new_name written new name) (c.as_str-2.ensures.value ∙ c.in_ok-new_name.ensures)
    ∙ with_new_name-replaced files written (replacement_name name) name bytes wrote

pub returns-clause-synced : goal.returns-clause-synced
returns-clause-synced g c told =
    let same : c.as_str-2.result.now ≡ c.as_str.result.now = c.as_str-2.ensures.value ∙ sym c.as_str.ensures.value in
    replaced-names _ _ _ _ _ c.as_str.result.now _ _ (c.as_str.ensures.value ∙ c.in_ok-new_name.ensures)
    (c.in_ok-write_new.ensures.ok told) (c.in_ok-write_new.ensures.synced told)
    (rw same at (c.in_ok-rename.ensures.unsynced told))

pub returns-in_err-rename-clause-commits : goal.returns-in_err-rename-clause-commits
returns-in_err-rename-clause-commits g c told =
    let files = (g.S.Store.seen c.args.store.now).files in
    let written = (g.S.Store.seen c.write_new.new.store).files in
    let name = c.args.name.now in
    let from = c.as_str-2.result.now in
    let new_name : from ≡ replacement_name name = c.as_str-2.ensures.value ∙ c.in_ok-new_name.ensures in
    let same : from ≡ c.as_str.result.now = c.as_str-2.ensures.value ∙ sym c.as_str.ensures.value in
    let wrote : written ≡ with_file files (replacement_name name) (Some c.args.bytes.now) =
    c.in_ok-write_new.ensures.ok told
    ∙ ap (λ (new : List ℕ). with_file files new (Some c.args.bytes.now))
    (c.as_str.ensures.value ∙ c.in_ok-new_name.ensures) in
    let synced : (g.S.Store.seen c.write_new.new.store).unsynced from ≡ false =
    ap (λ (n : List ℕ). (g.S.Store.seen c.write_new.new.store).unsynced n) same
    ∙ ap (λ (names : UnsyncedNames). names c.as_str.result.now) (c.in_ok-write_new.ensures.synced told)
    ∙ with_name-at (g.S.Store.seen c.args.store.now).unsynced c.as_str.result.now false in
    subst (λ (world : World). g.S.Store.commits (world ∷ []) c.args.store.now c.rename.new.self)
    (ap (λ (new : List ℕ). with_new_name written new name) new_name
    ∙ with_new_name-replaced files written (replacement_name name) name c.args.bytes.now wrote)
    (g.S.Store.commits_on [] (with_new_name written from name ∷ []) _ _ _
    (c.write_new.ensures.commits name (c.as_str.ensures.value ∙ c.in_ok-new_name.ensures))
    (c.rename.ensures.commits synced))

pub returns-clause-commits : goal.returns-clause-commits
returns-clause-commits g c told =
    let files = (g.S.Store.seen c.args.store.now).files in
    let written = (g.S.Store.seen c.write_new.new.store).files in
    let name = c.args.name.now in
    let from = c.as_str-2.result.now in
    let new_name : from ≡ replacement_name name = c.as_str-2.ensures.value ∙ c.in_ok-new_name.ensures in
    let same : from ≡ c.as_str.result.now = c.as_str-2.ensures.value ∙ sym c.as_str.ensures.value in
    let wrote : written ≡ with_file files (replacement_name name) (Some c.args.bytes.now) =
    c.in_ok-write_new.ensures.ok told
    ∙ ap (λ (new : List ℕ). with_file files new (Some c.args.bytes.now))
    (c.as_str.ensures.value ∙ c.in_ok-new_name.ensures) in
    let synced : (g.S.Store.seen c.write_new.new.store).unsynced from ≡ false =
    ap (λ (n : List ℕ). (g.S.Store.seen c.write_new.new.store).unsynced n) same
    ∙ ap (λ (names : UnsyncedNames). names c.as_str.result.now) (c.in_ok-write_new.ensures.synced told)
    ∙ with_name-at (g.S.Store.seen c.args.store.now).unsynced c.as_str.result.now false in
    subst (λ (world : World). g.S.Store.commits (world ∷ []) c.args.store.now c.rename.new.self)
    (ap (λ (new : List ℕ). with_new_name written new name) new_name
    ∙ with_new_name-replaced files written (replacement_name name) name c.args.bytes.now wrote)
    (g.S.Store.commits_on [] (with_new_name written from name ∷ []) _ _ _
    (c.write_new.ensures.commits name (c.as_str.ensures.value ∙ c.in_ok-new_name.ensures))
    (c.rename.ensures.commits synced))
