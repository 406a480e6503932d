use Rattle.std.proofs.Common.{List, ℕ, IsSome, sym, ap, ◌∙◌, subst, length, arith}
use Rattle.std.proofs.lemmas.Bool.{false≢true}
use Rattle.edit_journal.specs.Recovered.{IsRecovered}
use Rattle.edit_journal.specs.ByteRanges.{ranges_of}
use Rattle.edit_journal.specs.UndoName.{undo_name}
use Rattle.edit_journal.proofs.NameLemmas.{und-own, und-undo, undo-own}
use Rattle.journal_store.proofs.HeldCommitLemmas.{commits-by, looks-committed, looks-refused, moments-held}
use Rattle.journal_store.proofs.HeldCommitLemmas.{ready-committed, recovered-committed, settles-by, there-refused}
use Rattle.journal_store.proofs.HeldCommitLemmas.{unsynced-committed}
use Rattle.journal_store.proofs.HeldLemmas.{stands}
use Rattle.journal_store.proofs.journal.Journal.held_commit.Goals as goal

pub commit_file-requires-clause-apart : goal.commit_file-requires-clause-apart
commit_file-requires-clause-apart g c =
    λ same. undo-own c.args.name.now (same ∙ c.as_str.ensures.value ∙ c.undo_name-undo.ensures)

pub commit_file-requires-clause-unmade : goal.commit_file-requires-clause-unmade
commit_file-requires-clause-unmade g c =
    λ same. und-own c.args.name.now (same ∙ c.as_str-2.ensures.value ∙ c.und_name-und.ensures)

pub commit_file-requires-clause-first : goal.commit_file-requires-clause-first
commit_file-requires-clause-first g c = λ same.
    und-undo c.args.name.now c.args.name.now
    (sym (c.as_str-2.ensures.value ∙ c.und_name-und.ensures) ∙ same ∙ c.as_str.ensures.value ∙ c.undo_name-undo.ensures)

pub invariant_of-self : goal.invariant_of-self
invariant_of-self g c = record {
  plain = c.args.self.now.plain;
  settled = λ told is. absurd (false≢true is);
  there = λ told some.
      let self = c.args.self.now in
      let commits = commits-by self.name.bytes c.args.name.now _ _ (ranges_of self.ranges.items) _ _ _
      (c.as_str.ensures.value ∙ c.undo_name-undo.ensures) (c.as_str-2.ensures.value ∙ c.und_name-und.ensures)
      (ap ranges_of c.as_slice-ranges.ensures.value)
      (stands _ _ _ c.requires.held.0 self.plain (g.met.D.Disk.read_is_image self.disk)
      (self.settled told c.requires.held.1)) (self.there told c.requires.some)
      (c.commit_file.ensures.leaves told) (c.commit_file.ensures.others told) c.commit_file.ensures.keeps.names in
      subst (λ (n : List ℕ). IsSome ((g.D.Disk.seen c.commit_file.new.disk).files n)) (sym c.requires.held.0)
      (there-refused _ _ _ _ _ commits);
}

pub returns-in_default-clause-leaves : goal.returns-in_default-clause-leaves
returns-in_default-clause-leaves g c told =
    let self = c.args.self.now in
    let commits = commits-by self.name.bytes c.args.name.now _ _ (ranges_of self.ranges.items) _ _ _
    (c.as_str.ensures.value ∙ c.undo_name-undo.ensures) (c.as_str-2.ensures.value ∙ c.und_name-und.ensures)
    (ap ranges_of c.as_slice-ranges.ensures.value)
    (stands _ _ _ c.requires.held.0 self.plain (g.met.D.Disk.read_is_image self.disk)
    (self.settled told c.requires.held.1)) (self.there told c.requires.some)
    (c.commit_file.ensures.leaves told) (c.commit_file.ensures.others told) c.commit_file.ensures.keeps.names in
    looks-refused _ _ _ _ _ commits

pub returns-in_default-clause-moments : goal.returns-in_default-clause-moments
returns-in_default-clause-moments g c told =
    let self = c.args.self.now in
    let commits = commits-by self.name.bytes c.args.name.now _ _ (ranges_of self.ranges.items) _ _ _
    (c.as_str.ensures.value ∙ c.undo_name-undo.ensures) (c.as_str-2.ensures.value ∙ c.und_name-und.ensures)
    (ap ranges_of c.as_slice-ranges.ensures.value)
    (stands _ _ _ c.requires.held.0 self.plain (g.met.D.Disk.read_is_image self.disk)
    (self.settled told c.requires.held.1)) (self.there told c.requires.some)
    (c.commit_file.ensures.leaves told) (c.commit_file.ensures.others told) c.commit_file.ensures.keeps.names in
    moments-held _ _ _ _ _ commits _ tt

pub invariant_of-self-2 : goal.invariant_of-self-2
invariant_of-self-2 g c = record {
  plain = c.args.self.now.plain;
  settled = λ told is.
      let self = c.args.self.now in
      let commits = commits-by self.name.bytes c.args.name.now _ _ (ranges_of self.ranges.items) _ _ _
      (c.as_str.ensures.value ∙ c.undo_name-undo.ensures) (c.as_str-2.ensures.value ∙ c.und_name-und.ensures)
      (ap ranges_of c.as_slice-ranges.ensures.value)
      (stands _ _ _ c.requires.held.0 self.plain (g.met.D.Disk.read_is_image self.disk)
      (self.settled told c.requires.held.1)) (self.there told c.requires.some)
      (c.commit_file.ensures.leaves told) (c.commit_file.ensures.others told) c.commit_file.ensures.keeps.names in
      subst (λ (n : List ℕ). IsRecovered n (undo_name n) ((g.D.Disk.seen c.commit_file.new.disk).files n)
      (g.D.Disk.seen c.commit_file.new.disk)) (sym c.requires.held.0)
      (ready-committed _ _ _ _ _ commits
      (settles-by c.args.name.now _ (ranges_of self.ranges.items) _ _ _
      (c.as_str.ensures.value ∙ c.undo_name-undo.ensures) (ap ranges_of c.as_slice-ranges.ensures.value)
      (c.in-Ok.ensures.settled told))
      (g.met.D.Disk.read_is_image c.commit_file.new.disk) (c.in-Ok.ensures.synced told) _
      (ap ranges_of c.clear.ensures));
  there = λ told some. absurd (omega (arith, some, ap length c.clear.ensures));
}

pub returns-clause-unsynced : goal.returns-clause-unsynced
returns-clause-unsynced g c told =
    let self = c.args.self.now in
    let commits = commits-by self.name.bytes c.args.name.now _ _ (ranges_of self.ranges.items) _ _ _
    (c.as_str.ensures.value ∙ c.undo_name-undo.ensures) (c.as_str-2.ensures.value ∙ c.und_name-und.ensures)
    (ap ranges_of c.as_slice-ranges.ensures.value)
    (stands _ _ _ c.requires.held.0 self.plain (g.met.D.Disk.read_is_image self.disk)
    (self.settled told c.requires.held.1)) (self.there told c.requires.some)
    (c.commit_file.ensures.leaves told) (c.commit_file.ensures.others told) c.commit_file.ensures.keeps.names in
    unsynced-committed _ _ _ _ _ commits
    (settles-by c.args.name.now _ (ranges_of self.ranges.items) _ _ _
    (c.as_str.ensures.value ∙ c.undo_name-undo.ensures) (ap ranges_of c.as_slice-ranges.ensures.value)
    (c.in-Ok.ensures.settled told))
    (g.met.D.Disk.read_is_image c.commit_file.new.disk) (c.in-Ok.ensures.synced told) _ (ap ranges_of c.clear.ensures)

pub returns-clause-leaves : goal.returns-clause-leaves
returns-clause-leaves g c told =
    let self = c.args.self.now in
    let commits = commits-by self.name.bytes c.args.name.now _ _ (ranges_of self.ranges.items) _ _ _
    (c.as_str.ensures.value ∙ c.undo_name-undo.ensures) (c.as_str-2.ensures.value ∙ c.und_name-und.ensures)
    (ap ranges_of c.as_slice-ranges.ensures.value)
    (stands _ _ _ c.requires.held.0 self.plain (g.met.D.Disk.read_is_image self.disk)
    (self.settled told c.requires.held.1)) (self.there told c.requires.some)
    (c.commit_file.ensures.leaves told) (c.commit_file.ensures.others told) c.commit_file.ensures.keeps.names in
    looks-committed _ _ _ _ _ commits
    (settles-by c.args.name.now _ (ranges_of self.ranges.items) _ _ _
    (c.as_str.ensures.value ∙ c.undo_name-undo.ensures) (ap ranges_of c.as_slice-ranges.ensures.value)
    (c.in-Ok.ensures.settled told))
    (g.met.D.Disk.read_is_image c.commit_file.new.disk) (c.in-Ok.ensures.synced told) _ (ap ranges_of c.clear.ensures)

pub returns-clause-moments : goal.returns-clause-moments
returns-clause-moments g c told =
    let self = c.args.self.now in
    let commits = commits-by self.name.bytes c.args.name.now _ _ (ranges_of self.ranges.items) _ _ _
    (c.as_str.ensures.value ∙ c.undo_name-undo.ensures) (c.as_str-2.ensures.value ∙ c.und_name-und.ensures)
    (ap ranges_of c.as_slice-ranges.ensures.value)
    (stands _ _ _ c.requires.held.0 self.plain (g.met.D.Disk.read_is_image self.disk)
    (self.settled told c.requires.held.1)) (self.there told c.requires.some)
    (c.commit_file.ensures.leaves told) (c.commit_file.ensures.others told) c.commit_file.ensures.keeps.names in
    moments-held _ _ _ _ _ commits _
    (recovered-committed _ _ _ _ _ commits
    (settles-by c.args.name.now _ (ranges_of self.ranges.items) _ _ _
    (c.as_str.ensures.value ∙ c.undo_name-undo.ensures) (ap ranges_of c.as_slice-ranges.ensures.value)
    (c.in-Ok.ensures.settled told))
    (g.met.D.Disk.read_is_image c.commit_file.new.disk) (c.in-Ok.ensures.synced told) _ (ap ranges_of c.clear.ensures))
