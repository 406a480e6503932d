use Rattle.std.proofs.Common.{sym, subst}
use Rattle.opened_file.specs.QuotaFile.{WantsNoMemory}
use Rattle.opened_file.proofs.CommittedLemmas.{once_then}
use Rattle.quota_pages.specs.Pages.{name_of}
use Rattle.tree_file.proofs.GraceChangeLemmas.{changes_graced, changes_not_graced, stands_graced}
use Rattle.tree_file.proofs.opened_tree.TreeFileQuotaFile.set_grace.Goals as goal

pub returns-in-Ok : goal.returns-in-Ok
returns-in-Ok g c =
    let S = g.S.Store in
    let opened = c.args.self.now in
    let done = c.in-Ok.ensures in
    record {
      in_place = record { few = done.few; others = done.others; no_memory = tt };
      changes =
          changes_graced S.tells c.args.grace (name_of opened.pages) (name_of c.set_grace_in.new.pages) opened.opened
          opened.header opened.coming c.none-self.result opened.limit (S.seen c.args.store.now)
          (S.seen c.set_grace_in.new.store) tt
          done.name done.graced done.synced done.leaves done.reads done.writes c.none-self.ensures.holds;
      commits = once_then S.commits _ _ _ _ _ done.commits
          (λ graces value holds. stands_graced c.args.grace (name_of opened.pages) (S.seen c.args.store.now).files
          (S.seen c.set_grace_in.new.store).files holds.file holds.there (graces holds.told) value holds.stands);
    }

pub returns-in-Err : goal.returns-in-Err
returns-in-Err g c =
    let S = g.S.Store in
    let opened = c.args.self.now in
    let failed = c.in-Err.ensures in
    record {
      in_place = record {
        few = failed.few;
        others = failed.others;
        no_memory = subst WantsNoMemory (sym c.refused.ensures.same) tt;
      };
      changes =
          changes_not_graced S.tells c.args.grace (name_of opened.pages) (name_of c.set_grace_in.new.pages)
          opened.opened c.refused.new.self opened.header opened.coming opened.limit (S.seen c.args.store.now)
          (S.seen c.set_grace_in.new.store)
          c.refused.result c.refused.ensures.same failed.name failed.torn failed.cause failed.leaves failed.reads
          failed.writes (λ name. c.refused.ensures.counted name opened.header.format opened.limit);
      commits = once_then S.commits _ _ _ _ _ failed.commits
          (λ graces value holds. stands_graced c.args.grace (name_of opened.pages) (S.seen c.args.store.now).files
          (S.seen c.set_grace_in.new.store).files holds.file holds.there (graces holds.told) value holds.stands);
    }
