use Rattle.std.proofs.Common.{ℕ, length, nat_lt, ap, sym, ◌∙◌, arith}
use Rattle.tree_meaning.specs.Entries.{used_ids}
use Rattle.tree_meaning.proofs.EntryChangeLemmas.{room_by_count}
use Rattle.tree_meaning.proofs.EntryPlaceLemmas.{before_entries, unused_kept}
use Rattle.tree_change.proofs.PutLemmas.{puts_counted}
use Rattle.tree_change.proofs.writing.put_counted.Goals as goal

pub returns-clause-put : goal.returns-clause-put
returns-clause-put c =
    puts_counted c.args.format c.args.place (record { id = c.args.id; rec = c.args.rec.now }) c.args.block.now
    c.put_entry.new.block c.set_le16.new.block
    (omega arith) c.put_entry.array_long c.set_le16.array_long
    c.requires.place c.put_entry.ensures.entry c.put_entry.ensures.others c.set_le16.ensures.others
    (c.set_le16.ensures.written ∙ c.used_count-count.ensures.count)

pub returns-clause-room : goal.returns-clause-room
returns-clause-room c =
    ap (λ (n : ℕ). nat_lt n c.entries_per_block.result) c.used_count-count.ensures.count
    ∙ ap (nat_lt (length (used_ids c.args.format c.put_entry.new.block))) c.entries_per_block.ensures
    ∙ sym (room_by_count c.args.format c.put_entry.new.block)
    ∙ sym (unused_kept c.args.format c.put_entry.new.block c.set_le16.new.block
    (before_entries c.args.format 8 10 c.put_entry.new.block c.set_le16.new.block (omega arith)
    (c.set_le16.array_long ∙ sym c.put_entry.array_long) c.set_le16.ensures.others))
