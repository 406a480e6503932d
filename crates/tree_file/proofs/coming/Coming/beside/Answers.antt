use Rattle.std.proofs.Common.{◌≡◌, ℕ, ◌/◌, true, sym, subst}
use Rattle.file_blocks.specs.Block.{leads}
use Rattle.quota_pages.specs.Used.{shown_over}
use Rattle.tree_file.specs.Coming.{LeadsTo}
use Rattle.tree_file.proofs.ComingLemmas.{leaf_inside}
use Rattle.tree_file.proofs.coming.Coming.beside.Goals as goal

pub returns-clause-next : goal.returns-clause-next
returns-clause-next c = λ tells seen header value known of format_is blocks_is stands leaf.
    c.gathered.ensures.next value (record {
      file = shown_over seen c.args.pages.now;
      header = header;
      of = of;
      format_is = format_is;
      stands = stands;
      leads_there = subst
          (λ (blocks : ℕ). LeadsTo (shown_over seen c.args.pages.now) blocks 3 (c.args.leaf.number / 256)
          c.in-Some.lowest.now) (sym blocks_is) (c.in-Some.ensures tells seen known);
      data_is = c.in-Some-buffered.ensures.block tells seen known;
      inside = subst (λ (blocks : ℕ). leads blocks c.args.leaf.block ≡ true) (sym blocks_is)
          (leaf_inside (shown_over seen c.args.pages.now) c.args.blocks c.args.leaf.number c.args.leaf.block leaf);
    })
