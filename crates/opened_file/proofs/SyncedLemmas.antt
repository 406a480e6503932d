-- What has been synced where an edit of an opened file was refused.
use Rattle.std.proofs.Common.{false, refl}
use Rattle.outside.specs.ManyCalls.{Syncs}
use Rattle.outside.proofs.FrameLemmas.{syncs-failed, syncs-read}
use Rattle.opened_file.specs.Changes.{FileAt, FileLaws, IsRefused}
use Rattle.opened_file.specs.EditsOne.{EditsOne}
use Rattle.opened_file.specs.ValueEdits.{ValueEdit}
use Rattle.opened_file.specs.declared.quota_file.FileFault.{FileFault}
use Rattle.opened_file.specs.declared.quota_file.FileFault.TheVariants.{Store, Damage, Full, Memory}

-- an edit was refused: the store failed, or nothing was written
pub syncs-refused : (edit : ValueEdit) (laws : FileLaws) (old new : FileAt) (fault : FileFault)
    → EditsOne old.seen.name old.store new.store → IsRefused edit laws old new fault → Syncs false old.store new.store
syncs-refused edit laws old new Store leaves refused = syncs-failed old.store new.store leaves.later refused.cause
syncs-refused edit laws old new (Damage at) leaves refused =
    syncs-read old.seen.name old.store new.store (refused.unwritten (refused.usable refl))
syncs-refused edit laws old new (Full blocks limit) leaves refused =
    syncs-read old.seen.name old.store new.store (refused.unwritten (refused.usable refl))
syncs-refused edit laws old new Memory leaves refused =
    syncs-read old.seen.name old.store new.store (refused.unwritten (refused.usable refl))
