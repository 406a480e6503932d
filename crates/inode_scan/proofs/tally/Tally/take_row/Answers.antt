use Rattle.std.proofs.Common.{◌≡◌, ◌∙◌, Some, None, cond, refl, sym, ap, subst, arith}
use Rattle.inode_scan.specs.Firsts.{inode_eq, kept_in}
use Rattle.inode_scan.specs.Listing.{owner_of}
use Rattle.inode_scan.specs.Tally.{IsBounded}
use Rattle.inode_scan.proofs.SumLemmas.{bounded_row}
use Rattle.inode_scan.proofs.TallyLemmas.{added_usage, inode_of, new_kept, refused_by, stays_kept, taken_by}
use Rattle.inode_scan.proofs.TallyLemmas.{takes_first}
use Rattle.inode_scan.proofs.tally.Tally.take_row.Goals as goal

pub returns-in-Some-clause-taken : goal.returns-in-Some-clause-taken
returns-in-Some-clause-taken c =
    let found : kept_in c.args.self.now.firsts (inode_of c.args.row.now) ≡ Some c.in-Some.first =
    sym c.in_ok-first.ensures.found ∙ c.in-Some.is in
    taken_by c.args.self.now _ c.args.row.now c.args.number c.in-Some.first c.check.result found
    (record {
      firsts = λ inode. c.in_ok-first.ensures.kept inode
          ∙ stays_kept c.args.self.now c.args.row.now c.of.result c.in-Some.first inode found;
      sums = refl;
      kind = refl;
    })
    c.check.ensures

pub returns-in-Some-clause-refused : goal.returns-in-Some-clause-refused
returns-in-Some-clause-refused c =
    refused_by c.args.self.now c.args.row.now c.args.number c.in-Some.first c.check.result
    (sym c.in_ok-first.ensures.found ∙ c.in-Some.is) c.check.ensures

pub returns-clause-taken : goal.returns-clause-taken
returns-clause-taken c =
    let none : kept_in c.args.self.now.firsts (inode_of c.args.row.now) ≡ None =
    sym c.in_ok-first.ensures.found ∙ c.in_default.is in
    takes_first c.args.self.now _ c.args.row.now c.args.number none (record {
      kind = refl;
      firsts = λ inode. c.in_ok-first.ensures.kept inode
          ∙ new_kept c.args.self.now c.args.row.now c.of.result inode none
          ∙ ap (λ first. cond (inode_eq (inode_of c.args.row.now) inode) (Some first)
          (kept_in c.args.self.now.firsts inode)) c.of.ensures;
      sums =
          added_usage c.args.self.now.sums c.add.new.self c.args.row.now c.owner_of.result
          (owner_of c.args.self.now.kind c.args.row.now)
          c.in_ok-add.ensures c.owner_of.ensures;
    })

pub returns-clause-bounded : goal.returns-clause-bounded
returns-clause-bounded c =
    subst (IsBounded c.args.number) (sym c.in_ok-add.ensures)
    (bounded_row c.args.number c.owner_of.result c.args.row.now c.args.self.now.sums c.requires.some (omega arith)
    c.requires.bounded)
