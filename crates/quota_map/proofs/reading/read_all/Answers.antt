use Rattle.std.proofs.Common.{◌≡◌, ◌^◌, ◌<◌, List, [], ◌∷◌, ◌++◌, ◌+◌, length, IsTrue, Option, Ok, Some, None, IfSome}
use Rattle.std.proofs.Common.{rules, sym, ap, subst, ◌∙◌, arith}
use Rattle.std.proofs.lemmas.List.{length-append, map-append}
use Rattle.std.proofs.lemmas.List.Elements.{All-push}
use Rattle.std.specs.List.{All}
use Rattle.quota_types.specs.Kept.{IsKept}
use Rattle.quota_types.specs.declared.file_kind.Format.{Format}
use Rattle.quota_types.specs.declared.record.Entry.{Entry}
use Rattle.quota_value.specs.Listed.{ids_of}
use Rattle.opened_file.specs.FileSeen.{FileSeen}
use Rattle.quota_types.specs.Ids.{IsAfter}
use Rattle.quota_value.specs.NextRecord.{IsNextAfter}
use Rattle.opened_file.proofs.LooksUpLemmas.{looks_up-answer, looks_up-more, looks_up-none, looks_up-within}
use Rattle.opened_file.proofs.PassingLemmas.{passed_all, passed_end, passed_found, passed_none, passed_part}
use Rattle.opened_file.proofs.PassingLemmas.{passing_still}
use Rattle.quota_map.specs.Passing.{any_adds_up}
use Rattle.quota_map.specs.AnyFile.{any_at, any_laws, any_next_reads, any_passing_reads, any_seen}
use Rattle.quota_map.proofs.ReadingLemmas.{AscendTo, IsReadUpTo, ascend_more, ascend_none, more_few, read_more}
use Rattle.quota_map.proofs.ReadingLemmas.{read_none, read_whole}
use Rattle.quota_map.proofs.reading.read_all.Goals as goal

pub loop-list-init : goal.loop-list-init
loop-list-init g c =
    let none : c.new-list.result.items ≡ [] = c.new-list.ensures.items in
    let S = g.S.Store in
    let laws = any_laws S.tells in
    let at = any_at S.tells (S.seen c.args.store.now) c.args.file.now in
    record {
      read = λ value holds. subst (IsReadUpTo value.records None) (sym none) (read_none value.records);
      passed = λ value holds. passed_none _ value.records _;
      ascends = subst (λ (list : List Entry). AscendTo None (ids_of list)) (sym none) ascend_none;
      narrow = λ k d lt. absurd (omega (arith, lt, c.new-list.ensures.len, ap length none));
      kept = λ k d lt. absurd (omega (arith, lt, ap length none));
      usable = c.requires;
      few = omega (arith, ap length none);
      up = looks_up-within Some laws at at 0 _ (Ok (tt {0})) (omega arith) (looks_up-none Some laws at (tt {0}));
      commits = g.S.Store.commits_nothing [] _;
    }

pub loop-list-preserved : goal.loop-list-preserved
loop-list-preserved g c =
    let so_far = c.loop-list.invariant in
    let found = c.in_ok-entry.ensures in
    let entry : Entry = c.in-Some.entry in
    let pushed : c.push.new.self.items ≡ c.loop-list.list.items ++ entry ∷ [] = search rules in
    let long : length c.push.new.self.items ≡ length c.loop-list.list.items + 1 =
    omega (arith, ap length pushed, length-append c.loop-list.list.items (entry ∷ [])) in
    let is_after : IsAfter c.loop-list.after entry.id =
    subst (λ (o : Option Entry). IfSome o (λ e. IsAfter c.loop-list.after e.id)) c.in-Some.is found.ascends in
    let is_narrow : entry.id < 2 ^ 32 =
    subst (λ (o : Option Entry). IfSome o (λ e. e.id < 2 ^ 32)) c.in-Some.is found.narrow in
    let format : (any_seen c.loop-list.file).format ≡ (any_seen c.args.file.now).format =
    ap (λ (seen : FileSeen). seen.format) so_far.up.same in
    let is_kept : IsKept (any_seen c.args.file.now).format entry.id entry.rec =
    subst (λ (f : Format). IsKept f entry.id entry.rec) format
    (subst (λ (o : Option Entry). IfSome o (λ e. IsKept (any_seen c.loop-list.file).format e.id e.rec))
    c.in-Some.is found.kept) in
    record {
      read = λ value holds.
          let next : IsNextAfter c.loop-list.after value.records (Some entry) =
          subst (IsNextAfter c.loop-list.after value.records) c.in-Some.is
          (found.found value (so_far.up.stays value holds)) in
          subst (IsReadUpTo value.records (Some entry.id)) (sym pushed)
          (read_more value.records c.loop-list.after c.loop-list.list.items entry (so_far.read value holds) next);
      passed = λ value holds.
          let next : IsNextAfter c.loop-list.after value.records (Some entry) =
          subst (IsNextAfter c.loop-list.after value.records) c.in-Some.is
          (found.found value (so_far.up.stays value holds)) in
          let few = passing_still Some _ _ _ _ _ any_passing_reads _ _ _ _ so_far.up
          (found.passing value (so_far.up.stays value holds)) in
          passed_found _ c.loop-list.after value.records entry _ _ _ _ (any_adds_up _ _) (so_far.passed value holds)
          next is_after is_narrow c.in-Some.is few;
      ascends =
          subst (AscendTo (Some entry.id))
          (sym (ap ids_of pushed ∙ map-append (λ (e : Entry). e.id) c.loop-list.list.items (entry ∷ [])))
          (ascend_more c.loop-list.after (ids_of c.loop-list.list.items) entry.id so_far.ascends is_after);
      narrow = subst (All (λ (e : Entry). e.id < 2 ^ 32)) (sym pushed)
          (All-push (λ (e : Entry). e.id < 2 ^ 32) c.loop-list.list.items entry so_far.narrow is_narrow);
      kept =
          let P : Entry → Type 0 = λ e. IsKept (any_seen c.args.file.now).format e.id e.rec in
          subst (All P) (sym pushed) (All-push P c.loop-list.list.items entry so_far.kept is_kept);
      usable = subst (λ (seen : FileSeen). IsTrue seen.usable) (sym found.looks.same) so_far.usable;
      few = more_few c.loop-list.after entry.id (length c.loop-list.list.items) _ so_far.few is_after is_narrow long;
      up = looks_up-answer Some Some _ _ _ _ _ (Ok (tt {0})) tt
          (looks_up-more Some Some _ _ _ _ any_next_reads (length c.loop-list.list.items) (length c.push.new.self.items)
          (tt {0}) _ long so_far.up found.looks);
      commits = g.S.Store.commits_on [] [] _ _ _ c.loop-list.invariant.commits found.commits;
    }

pub returns-clause-records : goal.returns-clause-records
returns-clause-records g c = λ value holds.
    let none : IsNextAfter c.loop-list.after value.records None =
    subst (IsNextAfter c.loop-list.after value.records) c.in_default.is
    (c.in_ok-entry.ensures.found value (c.loop-list.invariant.up.stays value holds)) in
    read_whole value.records c.loop-list.after c.loop-list.list.items (c.loop-list.invariant.read value holds) none

pub returns-clause-few : goal.returns-clause-few
returns-clause-few g c = λ value holds.
    let so_far = c.loop-list.invariant in
    passed_end _ c.loop-list.after value.records _ _ _ _ (any_adds_up _ _) (so_far.passed value holds) c.in_default.is
    (passing_still Some _ _ _ _ _ any_passing_reads _ _ _ _ so_far.up
    (c.in_ok-entry.ensures.passing value (so_far.up.stays value holds)))

pub returns-in_err-entry-clause-few : goal.returns-in_err-entry-clause-few
returns-in_err-entry-clause-few g c = λ value holds.
    let so_far = c.loop-list.invariant in
    passed_all _ c.loop-list.after value.records _ _ _ (any_adds_up _ _) (so_far.passed value holds)
    (passing_still Some _ _ _ _ _ any_passing_reads _ _ _ _ so_far.up
    (c.in_err-entry.ensures.passing value (so_far.up.stays value holds)))

pub returns-then-is_err-clause-few : goal.returns-then-is_err-clause-few
returns-then-is_err-clause-few g c = λ value holds.
    let so_far = c.loop-list.invariant in
    let found = c.in_ok-entry.ensures in
    let entry : Entry = c.in-Some.entry in
    let is_after : IsAfter c.loop-list.after entry.id =
    subst (λ (o : Option Entry). IfSome o (λ e. IsAfter c.loop-list.after e.id)) c.in-Some.is found.ascends in
    let is_narrow : entry.id < 2 ^ 32 =
    subst (λ (o : Option Entry). IfSome o (λ e. e.id < 2 ^ 32)) c.in-Some.is found.narrow in
    let next : IsNextAfter c.loop-list.after value.records (Some entry) =
    subst (IsNextAfter c.loop-list.after value.records) c.in-Some.is
    (found.found value (so_far.up.stays value holds)) in
    let few = passing_still Some _ _ _ _ _ any_passing_reads _ _ _ _ so_far.up
    (found.passing value (so_far.up.stays value holds)) in
    passed_part _ entry.id value.records _ _ (any_adds_up _ _)
    (passed_found _ c.loop-list.after value.records entry _ _ _ _ (any_adds_up _ _) (so_far.passed value holds) next
    is_after is_narrow c.in-Some.is few)
