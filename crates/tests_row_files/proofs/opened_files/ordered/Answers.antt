use Rattle.std.proofs.Common.{◌≡◌, List, [], ◌∷◌, ◌++◌, length, Option, Some, None, IfSome, sym, ap, subst, ◌∙◌, arith}
use Rattle.std.proofs.lemmas.List.{map-append}
use Rattle.std.proofs.lemmas.List.Elements.{All-push}
use Rattle.std.specs.List.{All}
use Rattle.quota_types.specs.Kept.{IsKept}
use Rattle.quota_types.specs.declared.record.Entry.{Entry}
use Rattle.quota_value.specs.Listed.{ids_of}
use Rattle.quota_types.specs.Ids.{IsAfter}
use Rattle.quota_map.proofs.ReadingLemmas.{AscendTo, ascend_more, ascend_none}
use Rattle.tests_row_files.proofs.opened_files.ordered.Goals as goal

pub loop-entry-init : goal.loop-entry-init
loop-entry-init c =
    let none : c.new-ordered.result.items ≡ [] = c.new-ordered.ensures.items in
    record {
      ascends = subst (λ (list : List Entry). AscendTo None (ids_of list)) (sym none) ascend_none;
      kept = λ k d lt. absurd (omega (arith, lt, ap length none));
    }

pub loop-entry-preserved : goal.loop-entry-preserved
loop-entry-preserved c =
    let so_far = c.loop-entry.invariant in
    let before : List Entry = c.loop-entry.ordered.items in
    let entry : Entry = c.in-Some.entry in
    let pushed : c.push.new.self.items ≡ before ++ entry ∷ [] = c.in_ok-push.ensures.items in
    let is_after : IsAfter c.loop-entry.after entry.id = subst
    (λ (o : Option Entry). IfSome o (λ e. IsAfter c.loop-entry.after e.id)) c.in-Some.is c.kept_behind.ensures.behind in
    let is_kept : IsKept c.args.format entry.id entry.rec = subst
    (λ (o : Option Entry). IfSome o (λ e. IsKept c.args.format e.id e.rec)) c.in-Some.is c.kept_behind.ensures.kept in
    record {
      ascends =
          subst (AscendTo (Some entry.id))
          (sym (ap ids_of pushed ∙ map-append (λ (e : Entry). e.id) before (entry ∷ [])))
          (ascend_more c.loop-entry.after (ids_of before) entry.id so_far.ascends is_after);
      kept =
          let P : Entry → Type 0 = λ e. IsKept c.args.format e.id e.rec in
          subst (All P) (sym pushed) (All-push P before entry so_far.kept is_kept);
    }
