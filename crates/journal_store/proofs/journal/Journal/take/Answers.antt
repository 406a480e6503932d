use Rattle.std.proofs.Common.{◌≡◌, List, ℕ, ◌++◌, false, true, refl, sym, ap, ◌∙◌, arith}
use Rattle.std.proofs.lemmas.Bool.{false≢true}
use Rattle.std.proofs.lemmas.List.{length-map}
use Rattle.edit_journal.specs.ByteRanges.{range_of, ranges_of}
use Rattle.edit_journal.proofs.NameLemmas.{und-own, und-undo, undo-own}
use Rattle.journal_store.proofs.KindLemmas.{is_plain}
use Rattle.journal_store.proofs.LookLemmas.{looks-taken}
use Rattle.journal_store.proofs.MomentLemmas.{recovers-taken}
use Rattle.journal_store.proofs.journal.Journal.take.Goals as goal

pub recover_file-requires : goal.recover_file-requires
recover_file-requires g c =
    let undo = c.as_str.ensures.value ∙ c.undo_name-undo.ensures in
    let und = c.as_str-2.ensures.value ∙ c.und_name-und.ensures in
    record {
      apart = λ same. undo-own c.args.name.now (same ∙ undo);
      unmade = λ same. und-own c.args.name.now (same ∙ und);
      first = λ same. und-undo c.args.name.now c.args.name.now (sym und ∙ same ∙ undo);
    }

pub returns-in_default-clause-leaves : goal.returns-in_default-clause-leaves
returns-in_default-clause-leaves g c told =
    looks-taken false (g.D.Disk.seen c.args.self.now.disk) (g.D.Disk.seen c.recover_file.new.disk)
    c.args.self.now.name.bytes c.args.self.now.name.bytes (ranges_of c.args.self.now.ranges.items) c.args.name.now _ _
    (c.as_str.ensures.value ∙ c.undo_name-undo.ensures) (c.as_str-2.ensures.value ∙ c.und_name-und.ensures)
    (is_plain c.args.name.now c.requires.plain) (λ some. refl)
    (c.recover_file.ensures.passes told).follows.read c.recover_file.ensures.keeps.names (λ is. absurd (false≢true is))

pub returns-clause-leaves : goal.returns-clause-leaves
returns-clause-leaves g c told =
    let named : c.push_str.new.self.bytes ≡ c.args.name.now =
    c.push_str.ensures.bytes ∙ ap (λ (l : List ℕ). l ++ c.args.name.now) c.clear.ensures in
    looks-taken true (g.D.Disk.seen c.args.self.now.disk) (g.D.Disk.seen c.recover_file.new.disk)
    c.args.self.now.name.bytes c.push_str.new.self.bytes (ranges_of c.args.self.now.ranges.items) c.args.name.now _ _
    (c.as_str.ensures.value ∙ c.undo_name-undo.ensures) (c.as_str-2.ensures.value ∙ c.und_name-und.ensures)
    (is_plain c.args.name.now c.requires.plain)
    (λ some. c.requires.first (omega (arith, some, length-map c.args.self.now.ranges.items range_of)) ∙ sym named)
    (c.recover_file.ensures.passes told).follows.read c.recover_file.ensures.keeps.names
    (λ is. c.in-Ok.ensures.synced told)

pub returns-in_default-clause-moments : goal.returns-in_default-clause-moments
returns-in_default-clause-moments g c told =
    recovers-taken _ c.args.name.now _ _ _ _ (c.as_str.ensures.value ∙ c.undo_name-undo.ensures)
    (c.as_str-2.ensures.value ∙ c.und_name-und.ensures) c.requires.plain (c.recover_file.ensures.passes told) tt

pub returns-clause-moments : goal.returns-clause-moments
returns-clause-moments g c told =
    recovers-taken _ c.args.name.now _ _ _ _ (c.as_str.ensures.value ∙ c.undo_name-undo.ensures)
    (c.as_str-2.ensures.value ∙ c.und_name-und.ensures) c.requires.plain (c.recover_file.ensures.passes told)
    (c.in-Ok.ensures.done told)
