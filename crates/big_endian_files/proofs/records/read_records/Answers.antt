use Rattle.std.proofs.Common.{◌≡◌, ℕ, IsTrue, List, [], ◌∷◌, ◌++◌, get_or, take, Option, Some}
use Rattle.std.proofs.Common.{sym, ap, subst, ◌∙◌, arith}
use Rattle.std.proofs.lemmas.Result.{err_from_is_err_and}
use Rattle.std.proofs.lemmas.List.{map-append, map_more}
use Rattle.std.proofs.lemmas.List.Elements.{All-append, All-from_recursion}
use Rattle.outside.proofs.FrameLemmas.{only_reads-then}
use Rattle.file_blocks.specs.Block.{block_of, file_of}
use Rattle.quota_types.specs.declared.file_kind.Format.TheVariants.{V2R0}
use Rattle.quota_types.specs.declared.record.Entry.{Entry}
use Rattle.quota_radix.specs.declared.tree_path.TreePath.{TreePath}
use Rattle.file_blocks.proofs.LeadsLemmas.{leads_within}
use Rattle.outside.specs.World.{World}
use Rattle.std.specs.Prelude.{All}
use Rattle.quota_types.specs.Kept.{IsKept}
use Rattle.quota_types.specs.declared.record.Rec.{Rec}
use Rattle.quota_value.specs.Listed.{ids_of}
use Rattle.byte_order.specs.declared.order.Order.TheVariants.{Big}
use Rattle.tree_meaning.specs.TreeFile.{record_read}
use Rattle.big_endian_files.specs.ReadBig.{AreReadUpTo, HoldsBlock, record_of, records_at, records_in}
use Rattle.big_endian_files.proofs.ReadLemmas.{reads_fit, refused_later}
use Rattle.big_endian_files.proofs.records.read_records.Goals as goal

pub returns-in_err-go_to-clause-refused : goal.returns-in_err-go_to-clause-refused
returns-in_err-go_to-clause-refused g c =
    let p = err_from_is_err_and c.from_residual.result c.from_residual.ensures.1 in
    let kept = c.loop-leaf.invariant in
    let at : ℕ = c.loop-leaf.leaf-index in
    let none : TreePath = record { number = 0; block = 0 } in
    rw p.1 (rw p.2 (refused_later _ (g.S.Store.seen c.loop-leaf.store).faults _ _ _ c.in_err-go_to.field-0.0
    kept.leaves.later
    (λ damage was told blocks within can.
    omega (
      arith,
      was blocks (g.S.Store.seen c.args.store.now).reads can.numbers
          (leads_within blocks _ (within at none c.loop-leaf-test.true).1).1
          (kept.past at (omega arith) c.loop-leaf-test.true) (kept.read blocks can.numbers can.marked within),
      can.apart at none c.loop-leaf-test.true,
    ))
    c.in_err-go_to.ensures.refused))

pub returns-in_err-go_to-clause-reads : goal.returns-in_err-go_to-clause-reads
returns-in_err-go_to-clause-reads g c = λ blocks numbers are within.
    let kept = c.loop-leaf.invariant in
    c.in_err-go_to.ensures.few blocks _ numbers
    (leads_within blocks _ (within c.loop-leaf.leaf-index _ c.loop-leaf-test.true).1).1
    (kept.read blocks numbers are within)

pub returns-in_default-clause-reads : goal.returns-in_default-clause-reads
returns-in_default-clause-reads g c = λ blocks numbers are within.
    let kept = c.loop-leaf.invariant in
    let at : ℕ = c.loop-leaf.leaf-index in
    reads_fit blocks _ numbers _ _ _
    (c.in_ok-go_to.ensures.read blocks _ numbers (leads_within blocks _ (within at _ c.loop-leaf-test.true).1).1
    (kept.past at (omega arith) c.loop-leaf-test.true) (kept.read blocks numbers are within))

pub returns-in_err-push-clause-reads : goal.returns-in_err-push-clause-reads
returns-in_err-push-clause-reads g c = λ blocks numbers are within.
    let kept = c.loop-leaf.invariant in
    let at : ℕ = c.loop-leaf.leaf-index in
    reads_fit blocks _ numbers _ _ _
    (c.in_ok-go_to.ensures.read blocks _ numbers (leads_within blocks _ (within at _ c.loop-leaf-test.true).1).1
    (kept.past at (omega arith) c.loop-leaf-test.true) (kept.read blocks numbers are within))

pub loop-leaf-preserved : goal.loop-leaf-preserved
loop-leaf-preserved g c =
    let S = g.S.Store in
    let kept = c.loop-leaf.invariant in
    let at : ℕ = c.loop-leaf.leaf-index in
    let none : TreePath = record { number = 0; block = 0 } in
    let leaf : TreePath = get_or c.args.leaves.now at none in
    let file : List ℕ = file_of (S.seen c.args.store.now).files c.args.name.now in
    let entry : Entry = record { id = leaf.number; rec = c.in-Some.rec } in
    let old : List Entry = c.loop-leaf.entries.items in
    let here : c.go_to.new.self.number ≡ leaf.block = c.in_ok-go_to.ensures.at in
    let holds : IsTrue S.tells → HoldsBlock file c.go_to.new.self = λ told.
    subst (λ (files : World). HoldsBlock (file_of files c.args.name.now) c.go_to.new.self) kept.leaves.files
    (c.in_ok-go_to.ensures.holds told
    (subst (λ (files : World). HoldsBlock (file_of files c.args.name.now) c.loop-leaf.data) (sym kept.leaves.files)
    (kept.holds told))) in
    record {
      ids = ap ids_of c.in_ok-push.ensures.items ∙ map-append (λ (e : Entry). e.id) old (entry ∷ [])
          ∙ ap (λ (ids : List ℕ). ids ++ leaf.number ∷ []) kept.ids
          ∙ sym (map_more (λ (path : TreePath). path.number) c.args.leaves.now at none c.loop-leaf-test.true);
      records = λ told.
          let bytes : c.go_to.new.self.bytes ≡ block_of file leaf.block =
          holds told (λ zero. c.requires.leads at none c.loop-leaf-test.true (sym here ∙ zero))
          ∙ ap (block_of file) here in
          let found : Some c.in-Some.rec ≡ record_of file leaf =
          sym c.in-Some.is ∙ c.find_record.ensures.value
          ∙ ap (λ (b : List ℕ). record_read Big V2R0 b leaf.number) bytes in
          ap records_in c.in_ok-push.ensures.items
          ∙ map-append (λ (e : Entry). (e.id, Some e.rec)) old (entry ∷ [])
          ∙ ap (λ (all : List (ℕ × Option Rec)). all ++ (leaf.number, Some c.in-Some.rec) ∷ []) (kept.records told)
          ∙ ap (λ (o : Option Rec). records_at file (take at c.args.leaves.now) ++ (leaf.number, o) ∷ []) found
          ∙ sym (map_more (λ (path : TreePath). (path.number, record_of file path)) c.args.leaves.now at none
          c.loop-leaf-test.true);
      kept = subst (λ (all : List Entry). All (λ (e : Entry). IsKept V2R0 e.id e.rec) all)
          (sym c.in_ok-push.ensures.items)
          (All-append (λ (e : Entry). IsKept V2R0 e.id e.rec) old (entry ∷ []) kept.kept
          (All-from_recursion (λ (e : Entry). IsKept V2R0 e.id e.rec) (entry ∷ []) (c.in-Some.ensures.kept, tt)));
      holds = holds;
      past = λ j behind low. omega (
        arith,
        here,
        c.requires.by_block at j none (omega (arith, behind)) low,
      );
      read = λ blocks numbers are within.
          subst (λ (n : ℕ). AreReadUpTo blocks c.go_to.new.met.flags.items numbers n
          (S.seen c.args.store.now).reads (S.seen c.go_to.new.store).reads) (sym here)
          (c.in_ok-go_to.ensures.read blocks _ numbers (leads_within blocks _ (within at _ c.loop-leaf-test.true).1).1
          (kept.past at (omega arith) c.loop-leaf-test.true) (kept.read blocks numbers are within));
      leaves = only_reads-then _ _ _ _ kept.leaves c.in_ok-go_to.ensures.leaves;
      commits = S.commits_on [] [] _ _ _ kept.commits c.in_ok-go_to.ensures.commits;
    }

pub returns-clause-reads : goal.returns-clause-reads
returns-clause-reads g c = λ blocks numbers are within.
    reads_fit blocks _ numbers _ _ _ (c.loop-leaf.invariant.read blocks numbers are within)
