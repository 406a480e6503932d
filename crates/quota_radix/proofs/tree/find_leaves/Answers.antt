use Rattle.std.proofs.Common.{IfOk, IsTrue, ◌^◌, ◌∙◌, ℕ, List, [], ◌∷◌, refl, arith}
use Rattle.std.proofs.lemmas.Result.{err_from_is_err_and}
use Rattle.file_blocks.specs.BlockSet.{AreFlagsOf}
use Rattle.byte_order.specs.Words.{words_of}
use Rattle.quota_radix.specs.Reads.{AreMarkedReads}
use Rattle.quota_radix.proofs.DownLemmas.{IsDown, down_none, down_on, down_end, down_end_marked, down_end_whole}
use Rattle.quota_radix.proofs.DownLemmas.{down_refused, down_refused_at, file_same, within_end, within_higher}
use Rattle.quota_radix.proofs.DownLemmas.{within_same, within_root}
use Rattle.quota_radix.proofs.ReadLemmas.{marked_end, marked_few, marked_level, marked_start}
use Rattle.quota_radix.proofs.tree.find_leaves.Given.{Over}
use Rattle.quota_radix.proofs.tree.find_leaves.Goals as goal

pub returns-in_err-second-clause-refused : goal.returns-in_err-second-clause-refused
returns-in_err-second-clause-refused g c =
    let p = err_from_is_err_and c.from_residual.result c.from_residual.ensures.1 in
    rw (p.1, p.2) (down_refused (g.S.Store.seen c.args.store.now).faults (g.S.Store.seen c.args.store.now).faults _
    c.args.blocks 0 _ _ _ c.args.met.now.flags.items _ _
    (omega arith) refl (omega arith) (λ told. down_none _ c.args.blocks c.args.met.now.flags.items) _
    c.in_err-second.ensures.refused)

pub go_down-requires-2 : goal.go_down-requires-2
go_down-requires-2 g c = record {
  small = within_higher c.args.blocks 256 (2 ^ 24) _ _ (omega arith) c.deref.ensures.value
      (c.in_ok-second.ensures.within 1 (within_root c.args.blocks c.requires.two));
}

pub returns-in_err-third-clause-refused : goal.returns-in_err-third-clause-refused
returns-in_err-third-clause-refused g c =
    let p = err_from_is_err_and c.from_residual-in_err-third.result c.from_residual-in_err-third.ensures.1 in
    let file : List ℕ = words_of c.args.order (g.S.Store.seen c.args.store.now).files c.args.name.now in
    let flags = c.args.met.now.flags.items in
    let second = c.in_ok-second.ensures in
    let down = down_on file file c.args.blocks 0 _ flags flags c.go_down.new.met.flags.items _ _ c.deref.result.now refl
    (λ told. down_none file c.args.blocks flags) second.next c.deref.ensures.value second.marked second.whole in
    rw (p.1, p.2) (down_refused (g.S.Store.seen c.args.store.now).faults (g.S.Store.seen c.go_down.new.store).faults _
    c.args.blocks 1 _ file _ flags _ _
    second.leaves.later (file_same c.args.order c.args.name.now _ _ second.leaves.files) (omega arith) down _
    c.in_err-third.ensures.refused)

pub go_down-requires-3 : goal.go_down-requires-3
go_down-requires-3 g c = record {
  small = within_higher c.args.blocks 65536 (2 ^ 24) _ _ (omega arith) c.deref-2.ensures.value
      (c.in_ok-third.ensures.within 256
      (within_same _ _ _ _ c.deref.ensures.value
      (c.in_ok-second.ensures.within 1 (within_root c.args.blocks c.requires.two))));
}

pub returns-in_err-fourth-clause-refused : goal.returns-in_err-fourth-clause-refused
returns-in_err-fourth-clause-refused g c =
    let p = err_from_is_err_and c.from_residual-in_err-fourth.result c.from_residual-in_err-fourth.ensures.1 in
    let file : List ℕ = words_of c.args.order (g.S.Store.seen c.args.store.now).files c.args.name.now in
    let flags = c.args.met.now.flags.items in
    let second = c.in_ok-second.ensures in
    let down = down_on file file c.args.blocks 0 _ flags flags c.go_down.new.met.flags.items _ _ c.deref.result.now refl
    (λ told. down_none file c.args.blocks flags) second.next c.deref.ensures.value second.marked second.whole in
    let third = c.in_ok-third.ensures in
    let down_2 =
    down_on file _ c.args.blocks 1 _ flags _ c.go_down-2.new.met.flags.items c.deref.result.now _ c.deref-2.result.now
    (file_same c.args.order c.args.name.now _ _ second.leaves.files) down third.next c.deref-2.ensures.value
    third.marked third.whole in
    rw (p.1, p.2) (down_refused (g.S.Store.seen c.args.store.now).faults (g.S.Store.seen c.go_down-2.new.store).faults _
    c.args.blocks 2 _ file _ flags _ _
    (omega (arith, second.leaves.later, third.leaves.later))
    (file_same c.args.order c.args.name.now _ _ (third.leaves.files ∙ second.leaves.files))
    (omega arith) down_2 _ c.in_err-fourth.ensures.refused)

pub go_down-requires-4 : goal.go_down-requires-4
go_down-requires-4 g c = record {
  small = within_higher c.args.blocks 16777216 (2 ^ 24) _ _ (omega arith) c.deref-3.ensures.value
      (c.in_ok-fourth.ensures.within 65536
      (within_same _ _ _ _ c.deref-2.ensures.value
      (c.in_ok-third.ensures.within 256
      (within_same _ _ _ _ c.deref.ensures.value
      (c.in_ok-second.ensures.within 1 (within_root c.args.blocks c.requires.two))))));
}

-- what the blocks of the fourth level are, once they were found
down_to_fourth : (g : Over) (c : goal.After-drop-second-2 g) → IsTrue g.S.Store.tells
    → IsDown (words_of c.args.order (g.S.Store.seen c.args.store.now).files c.args.name.now) c.args.blocks 3
    c.args.met.now.flags.items c.go_down-3.new.met.flags.items c.deref-3.result.now
down_to_fourth g c =
    let file : List ℕ = words_of c.args.order (g.S.Store.seen c.args.store.now).files c.args.name.now in
    let flags = c.args.met.now.flags.items in
    let second = c.in_ok-second.ensures in
    let down = down_on file file c.args.blocks 0 _ flags flags c.go_down.new.met.flags.items _ _ c.deref.result.now refl
    (λ told. down_none file c.args.blocks flags) second.next c.deref.ensures.value second.marked second.whole in
    let third = c.in_ok-third.ensures in
    let down_2 =
    down_on file _ c.args.blocks 1 _ flags _ c.go_down-2.new.met.flags.items c.deref.result.now _ c.deref-2.result.now
    (file_same c.args.order c.args.name.now _ _ second.leaves.files) down third.next c.deref-2.ensures.value
    third.marked third.whole in
    let fourth = c.in_ok-fourth.ensures in
    down_on file _ c.args.blocks 2 _ flags _ c.go_down-3.new.met.flags.items c.deref-2.result.now _ c.deref-3.result.now
    (file_same c.args.order c.args.name.now _ _ (third.leaves.files ∙ second.leaves.files)) down_2 fourth.next
    c.deref-3.ensures.value fourth.marked fourth.whole

-- and what the leaves are
down_to_leaves : (g : Over) (c : goal.After-drop-second-2 g) → IfOk c.go_down-4.result (λ found. IsTrue g.S.Store.tells
    → IsDown (words_of c.args.order (g.S.Store.seen c.args.store.now).files c.args.name.now) c.args.blocks 4
    c.args.met.now.flags.items c.go_down-4.new.met.flags.items found.items)
down_to_leaves g c =
    let second = c.in_ok-second.ensures in
    let third = c.in_ok-third.ensures in
    let fourth = c.in_ok-fourth.ensures in
    down_end (λ found. found.items) _ _ c.args.blocks 3 _ c.args.met.now.flags.items c.go_down-3.new.met.flags.items
    c.go_down-4.new.met.flags.items c.deref-3.result.now
    (file_same c.args.order c.args.name.now _ _ (fourth.leaves.files ∙ third.leaves.files ∙ second.leaves.files))
    (down_to_fourth g c) c.go_down-4.result
    c.go_down-4.ensures.next c.go_down-4.ensures.marked c.go_down-4.ensures.whole

pub returns-clause-refused : goal.returns-clause-refused
returns-clause-refused g c =
    let second = c.in_ok-second.ensures in
    let third = c.in_ok-third.ensures in
    let fourth = c.in_ok-fourth.ensures in
    down_refused_at (g.S.Store.seen c.args.store.now).faults (g.S.Store.seen c.go_down-3.new.store).faults _
    c.args.blocks 3 _ _ _ c.args.met.now.flags.items _ _
    (omega (arith, second.leaves.later, third.leaves.later, fourth.leaves.later))
    (file_same c.args.order c.args.name.now _ _ (fourth.leaves.files ∙ third.leaves.files ∙ second.leaves.files))
    (omega arith)
    (down_to_fourth g c)
    c.go_down-4.result c.go_down-4.ensures.refused

pub returns-clause-marked : goal.returns-clause-marked
returns-clause-marked g c =
    down_end_marked (λ found. found.items) _ c.args.blocks _ _ c.go_down-4.new.met.flags.items c.go_down-4.result
    (down_to_leaves g c)

pub returns-clause-whole : goal.returns-clause-whole
returns-clause-whole g c =
    down_end_whole (λ found. found.items) _ c.args.blocks _ c.args.met.now.flags.items c.go_down-4.new.met.flags.items
    c.go_down-4.result (down_to_leaves g c)

pub returns-clause-within : goal.returns-clause-within
returns-clause-within g c =
    within_end (λ found. found.items) c.args.blocks (2 ^ 24) (2 ^ 32) c.deref-3.result.now
    (within_higher c.args.blocks 16777216 (2 ^ 24) _ _ (omega arith) c.deref-3.ensures.value
    (c.in_ok-fourth.ensures.within 65536
    (within_same _ _ _ _ c.deref-2.ensures.value
    (c.in_ok-third.ensures.within 256
    (within_same _ _ _ _ c.deref.ensures.value
    (c.in_ok-second.ensures.within 1 (within_root c.args.blocks c.requires.two))))))) (omega arith)
    c.go_down-4.result c.go_down-4.ensures.within

pub returns-in_err-third-clause-few_reads : goal.returns-in_err-third-clause-few_reads
returns-in_err-third-clause-few_reads g c = λ numbers are.
    let second = c.in_ok-second.ensures in
    marked_few c.args.blocks _ numbers _ _ _
    (marked_level c.args.blocks _ _ numbers (record { number = 0; block = 1 } ∷ []) _ _ _
    (marked_start c.args.blocks _ numbers _ are) second.marked second.reads)
    c.in_err-third.ensures.few_reads

pub returns-in_err-fourth-clause-few_reads : goal.returns-in_err-fourth-clause-few_reads
returns-in_err-fourth-clause-few_reads g c = λ numbers are.
    let second = c.in_ok-second.ensures in
    let third = c.in_ok-third.ensures in
    marked_few c.args.blocks _ numbers _ _ _
    (marked_level c.args.blocks _ _ numbers _ _ _ _
    (marked_level c.args.blocks _ _ numbers (record { number = 0; block = 1 } ∷ []) _ _ _
    (marked_start c.args.blocks _ numbers _ are) second.marked second.reads)
    third.marked third.reads)
    c.in_err-fourth.ensures.few_reads

-- what was marked and read down to the blocks of the fourth level
marked_to_fourth : (g : Over) (c : goal.After-drop-second-2 g) → (numbers : List ℕ)
    → AreFlagsOf c.args.blocks c.args.met.now.flags.items numbers
    → AreMarkedReads c.args.blocks c.go_down-3.new.met.flags.items numbers (g.S.Store.seen c.args.store.now).reads
    (g.S.Store.seen c.go_down-3.new.store).reads
marked_to_fourth g c numbers are =
    let second = c.in_ok-second.ensures in
    let third = c.in_ok-third.ensures in
    let fourth = c.in_ok-fourth.ensures in
    marked_level c.args.blocks _ _ numbers _ _ _ _
    (marked_level c.args.blocks _ _ numbers _ _ _ _
    (marked_level c.args.blocks _ _ numbers (record { number = 0; block = 1 } ∷ []) _ _ _
    (marked_start c.args.blocks _ numbers _ are) second.marked second.reads)
    third.marked third.reads)
    fourth.marked fourth.reads

pub returns-clause-reads : goal.returns-clause-reads
returns-clause-reads g c =
    marked_end c.args.blocks c.args.met.now.flags.items _ _ _ (g.S.Store.seen c.args.store.now).reads _ _
    (marked_to_fourth g c) c.go_down-4.result
    c.go_down-4.ensures.marked c.go_down-4.ensures.reads

pub returns-clause-few_reads : goal.returns-clause-few_reads
returns-clause-few_reads g c = λ numbers are.
    marked_few c.args.blocks _ numbers _ _ _ (marked_to_fourth g c numbers are) c.go_down-4.ensures.few_reads
