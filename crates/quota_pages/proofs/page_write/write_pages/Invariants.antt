use Rattle.std.proofs.Common.{◌≡◌, false, [], take, IsTrue}
use Rattle.outside.specs.Frame.{ChangesOne}
use Rattle.quota_pages.specs.Flushed.{counted_by, flushed_files, flushed_names}
use Rattle.quota_pages.specs.Held.{pages_in}
use Rattle.quota_pages.specs.Page.{is_some_lent, lent_count}
use Rattle.quota_pages.proofs.page_write.write_pages.Given as goal

abbrev pub invariant-loop-place : goal.invariant-loop-place
invariant-loop-place g l =
    let S = g.S.Store in
    let pages = pages_in l.held.heads.items l.held.blocks.items in
    record {
      files : IsTrue S.tells
          → (S.seen l.store).files ≡ flushed_files (S.seen l.fn.store).files l.name (take l.place pages);
      writes : (S.seen l.store).writes ≡ counted_by (S.seen l.fn.store).writes (lent_count (take l.place pages));
      unsynced : IsTrue S.tells
          → (S.seen l.store).unsynced ≡ flushed_names (S.seen l.fn.store).unsynced l.name (take l.place pages);
      idle : is_some_lent pages ≡ false → l.store ≡ l.fn.store;
      leaves : ChangesOne l.name (S.seen l.fn.store) (S.seen l.store);
      commits : S.commits [] l.fn.store l.store;
    }
