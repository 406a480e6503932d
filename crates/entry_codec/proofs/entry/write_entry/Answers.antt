use Rattle.entry_codec.proofs.EntryLemmas.{entry_v2r0, entry_v2r1}
use Rattle.entry_codec.proofs.entry.write_entry.Goals as goal

pub returns-in-V2R0-clause-entry : goal.returns-in-V2R0-clause-entry
returns-in-V2R0-clause-entry c =
    entry_v2r0 c.args.format c.write_v2r0.new.bytes c.args.id c.marked-stored.result c.args.rec.now c.in-V2R0.is
    c.write_v2r0.ensures.id c.write_v2r0.ensures.stored c.marked-stored.ensures.used c.marked-stored.ensures.read

pub returns-in-V2R1-clause-entry : goal.returns-in-V2R1-clause-entry
returns-in-V2R1-clause-entry c =
    entry_v2r1 c.args.format c.write_v2r1.new.bytes c.args.id c.marked-stored.result c.args.rec.now c.in-V2R1.is
    c.write_v2r1.ensures.id c.write_v2r1.ensures.stored c.marked-stored.ensures.used c.marked-stored.ensures.read
