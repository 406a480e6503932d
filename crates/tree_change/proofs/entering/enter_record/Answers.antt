use Rattle.std.proofs.Common.{◌≡◌, true, ℕ, ◌==◌, if◌then◌else◌, List, [], ◌∷◌, ◌++◌, sym, subst, ◌∙◌, arith, inl}
use Rattle.std.proofs.lemmas.Result.{err_from_is_err_and}
use Rattle.entry_codec.specs.Entry.{is_unused}
use Rattle.file_blocks.specs.Block.{block_of}
use Rattle.quota_types.specs.declared.record.Entry.{Entry}
use Rattle.quota_pages.specs.Used.{IsKnown, shown_over}
use Rattle.quota_pages.proofs.UsedLemmas.{shown_over-lends, shown_over-looks, missing-there}
use Rattle.quota_types.proofs.TimesLemmas.{times-append}
use Rattle.free_chains.specs.EntryList.{LeavesList}
use Rattle.free_chains.specs.Links.{led_to}
use Rattle.free_chains.specs.declared.heads.Heads.{Heads}
use Rattle.tree_meaning.specs.Entries.{entry_bytes}
use Rattle.block_changes.specs.EntryChanges.{WritesEntry}
use Rattle.tree_change.specs.Enters.{EntersRecord}
use Rattle.tree_change.proofs.EnteredLemmas.{entered_and_left, entered_with_room, leaving_refused, placing_refused}
use Rattle.tree_change.proofs.WithinLemmas.{no_link_to_header, other_block}
use Rattle.quota_pages.specs.Pages.{pages_of}
use Rattle.tree_change.proofs.entering.enter_record.Goals as goal

pub leave_entry_list-requires : goal.leave_entry_list-requires
leave_entry_list-requires g c =
    inl (omega (
      arith,
      c.requires.room,
      c.in_ok-place.ensures.looked.few,
      c.in_ok-write_record.ensures.lends.few,
      missing-there (pages_of c.place_in.new.pages) c.args.heads.now.first c.in_ok-place.ensures.brought,
    ))

pub returns-in_err-place-clause-refused : goal.returns-in_err-place-clause-refused
returns-in_err-place-clause-refused g c =
    let p = err_from_is_err_and c.from_residual.result c.from_residual.ensures.1 in
    rw (p.1, p.2)
    (placing_refused _ _ _ c.args.format _ c.args.heads.now _ c.requires.some c.in_err-place.ensures.refused)

pub returns-then-branch-clause-entered : goal.returns-then-branch-clause-entered
returns-then-branch-clause-entered g c = λ known held records tree none.
    let S = g.S.Store in
    let looked = c.in_ok-place.ensures.looked in
    let old : List ℕ = shown_over (S.seen c.args.store.now) c.args.pages.now in
    let between : List ℕ = shown_over (S.seen c.place_in.new.store) c.place_in.new.pages in
    let one : List ℕ = shown_over (S.seen c.write_record.new.store) c.write_record.new.pages in
    let same : between ≡ old = shown_over-looks looked in
    let block : ℕ = c.args.heads.now.first in
    let place : ℕ = c.in_ok-place.place in
    let entry : Entry = record { id = c.args.id; rec = c.args.rec.now } in
    let known' = looked.known known in
    let unused : is_unused (entry_bytes c.args.format (block_of between block) place) ≡ true =
    subst (λ (file : List ℕ). is_unused (entry_bytes c.args.format (block_of file block) place) ≡ true) (sym same)
    (c.in_ok-place.ensures.unused known) in
    let writes : WritesEntry c.args.format block place entry old one =
    subst (λ (file : List ℕ). WritesEntry c.args.format block place entry file one) same
    (c.in_ok-write_record.ensures.written known' unused) in
    entered_with_room held c.args.format old one c.args.heads.now records place c.args.id c.args.rec.now
    (omega (arith, c.ranges.id.fits)) none c.requires.some writes tree
    (sym (c.in_ok-write_record.ensures.room known') ∙ c.if-branch.true)

pub returns-then-branch-clause-header : goal.returns-then-branch-clause-header
returns-then-branch-clause-header g c =
    c.in_ok-write_record.ensures.lends.lent 0 (other_block c.args.heads.now.first c.requires.some)
    ∙ c.in_ok-place.ensures.looked.lent 0

pub returns-clause-header : goal.returns-clause-header
returns-clause-header g c =
    let out = c.in_ok-leave_entry_list.ensures.taken_out in
    let block : ℕ = c.args.heads.now.first in
    let other = other_block block c.requires.some in
    out.lends.lent 0 (omega (
      arith,
      other,
      no_link_to_header out.previous,
      no_link_to_header out.next,
      times-append (block ∷ []) (led_to out.previous ++ led_to out.next) 0,
      times-append (led_to out.previous) (led_to out.next) 0,
    ))
    ∙ c.in_ok-write_record.ensures.lends.lent 0 other ∙ c.in_ok-place.ensures.looked.lent 0

pub returns-in_err-leave_entry_list-clause-refused :
    goal.returns-in_err-leave_entry_list-clause-refused
returns-in_err-leave_entry_list-clause-refused g c =
    let p = err_from_is_err_and c.from_residual-in_err-leave_entry_list.result
    c.from_residual-in_err-leave_entry_list.ensures.1 in
    let S = g.S.Store in
    let looked = c.in_ok-place.ensures.looked in
    let lends = c.in_ok-write_record.ensures.lends in
    let old : List ℕ = shown_over (S.seen c.args.store.now) c.args.pages.now in
    let between : List ℕ = shown_over (S.seen c.place_in.new.store) c.place_in.new.pages in
    let one : List ℕ = shown_over (S.seen c.write_record.new.store) c.write_record.new.pages in
    let same : between ≡ old = shown_over-looks looked in
    let block : ℕ = c.args.heads.now.first in
    let place : ℕ = c.in_ok-place.place in
    let entry : Entry = record { id = c.args.id; rec = c.args.rec.now } in
    let writes : IsKnown S.tells (S.seen c.args.store.now) c.args.pages.now
    → WritesEntry c.args.format block place entry old one =
    λ known. subst (λ (file : List ℕ). WritesEntry c.args.format block place entry file one) same
    (c.in_ok-write_record.ensures.written (looked.known known)
    (subst (λ (file : List ℕ). is_unused (entry_bytes c.args.format (block_of file block) place) ≡ true) (sym same)
    (c.in_ok-place.ensures.unused known))) in
    rw (p.1, p.2) (leaving_refused _ _ _ _ _ c.args.format place entry old one c.args.heads.now _
    (omega (arith, looked.leaves.later, lends.leaves.later)) c.requires.some (λ known. lends.known (looked.known known))
    writes c.in_err-leave_entry_list.ensures.refused)

pub returns-clause-entered : goal.returns-clause-entered
returns-clause-entered g c = λ known held records tree none.
    let S = g.S.Store in
    let looked = c.in_ok-place.ensures.looked in
    let wrote = c.in_ok-write_record.ensures in
    let out = c.in_ok-leave_entry_list.ensures.taken_out in
    let old : List ℕ = shown_over (S.seen c.args.store.now) c.args.pages.now in
    let between : List ℕ = shown_over (S.seen c.place_in.new.store) c.place_in.new.pages in
    let one : List ℕ = shown_over (S.seen c.write_record.new.store) c.write_record.new.pages in
    let two : List ℕ = shown_over (S.seen c.leave_entry_list.new.store) c.leave_entry_list.new.pages in
    let same : between ≡ old = shown_over-looks looked in
    let block : ℕ = c.args.heads.now.first in
    let place : ℕ = c.in_ok-place.place in
    let entry : Entry = record { id = c.args.id; rec = c.args.rec.now } in
    let known' = looked.known known in
    let known'' = wrote.lends.known known' in
    let unused : is_unused (entry_bytes c.args.format (block_of between block) place) ≡ true =
    subst (λ (file : List ℕ). is_unused (entry_bytes c.args.format (block_of file block) place) ≡ true) (sym same)
    (c.in_ok-place.ensures.unused known) in
    let writes : WritesEntry c.args.format block place entry old one =
    subst (λ (file : List ℕ). WritesEntry c.args.format block place entry file one) same
    (wrote.written known' unused) in
    subst (λ (now : Heads). EntersRecord block c.args.id c.args.rec.now 0 held c.args.format old two c.args.heads.now
    now records) (sym out.heads_are)
    (entered_and_left held c.args.format old one c.args.heads.now records place c.args.id c.args.rec.now
    (omega (arith, c.ranges.id.fits)) none c.requires.some writes tree
    two out.next out.previous (if out.previous == 0 then out.next else block)
    (sym (wrote.room known') ∙ c.if-branch.false) (out.next_is known'') (out.previous_is known'')
    (shown_over-lends out.lends)
    (λ front back is_chain named.
    subst (λ (now : Heads). LeavesList one two c.args.heads.now now block front back) out.heads_are
    (c.in_ok-leave_entry_list.ensures.left known'' front back is_chain named)))

pub returns-clause-commits : goal.returns-clause-commits
returns-clause-commits g c =
    g.S.Store.commits_on [] [] _ _ _
    (g.S.Store.commits_on [] [] _ _ _ c.place_in.ensures.commits c.write_record.ensures.commits)
    c.leave_entry_list.ensures.commits
