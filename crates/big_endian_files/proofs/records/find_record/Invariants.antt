use Rattle.std.proofs.Common.{◌≡◌}
use Rattle.quota_types.specs.declared.file_kind.Format.TheVariants.{V2R0}
use Rattle.byte_order.specs.declared.order.Order.TheVariants.{Big}
use Rattle.tree_meaning.specs.TreeFile.{record_read}
use Rattle.big_endian_files.proofs.EntryLemmas.{record_from}
use Rattle.big_endian_files.proofs.records.find_record.Given as goal

abbrev pub invariant-loop-place : goal.invariant-loop-place
invariant-loop-place l = record_read Big V2R0 l.block l.id ≡ record_from l.block l.id l.place
