use Rattle.std.proofs.Common.{◌≡◌, ◌≤◌, ◌+◌, ◌*◌, true, IsTrue, drop, length}
use Rattle.opened_file.specs.EditsOne.{EditsOne}
use Rattle.outside.specs.ManyCalls.{Syncs}
use Rattle.quota_value.specs.QuotaValue.{QuotaValue}
use Rattle.quota_map.specs.AnyFile.{HoldsAny, any_seen}
use Rattle.run_steps.specs.Act.{Way}
use Rattle.batch_commands.proofs.LinesCommittedLemmas.{AreCommitted}
use Rattle.batch_commands.proofs.batch.edit_all.Given as goal

abbrev pub invariant-loop-made : goal.invariant-loop-made
invariant-loop-made g l =
    let S = g.S.Store in
    record {
      made : IsTrue S.tells → (way : Way) (start : QuotaValue)
          → HoldsAny S.tells (S.seen l.fn.store).files l.fn.opened start
          → AreCommitted way l.file l.now l.lines (drop l.made l.lines) start l.made (S.seen l.fn.store)
          (S.seen l.store) (HoldsAny S.tells (S.seen l.store).files l.opened)
          (λ worlds. S.commits worlds l.fn.store l.store);
      same : any_seen l.opened ≡ any_seen l.fn.opened;
      leaves : EditsOne l.file (S.seen l.fn.store) (S.seen l.store);
      reads : (S.seen l.store).reads ≤ (S.seen l.fn.store).reads + 17 * l.made;
      within : l.made ≤ length l.lines;
      synced : IsTrue S.tells → Syncs true (S.seen l.fn.store) (S.seen l.store);
    }
