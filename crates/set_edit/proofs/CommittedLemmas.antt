-- What an edit of an opened file commits, behind calls that only looked something up and committed nothing.
use Rattle.std.proofs.Common.{ℕ, List, [], ◌++◌, Result, sym, subst}
use Rattle.std.specs.Prelude.{IsOkAnd, IsSomeAnd}
use Rattle.quota_types.specs.declared.field.Field.{Field}
use Rattle.quota_types.specs.declared.file_kind.Format.{Format}
use Rattle.outside.specs.World.{World}
use Rattle.opened_file.specs.Changes.{FileAt}
use Rattle.opened_file.specs.Committed.{CommitsOnce}
use Rattle.opened_file.specs.FileSeen.{FileSeen}
use Rattle.opened_file.specs.ValueEdits.{ValueEdit}
use Rattle.opened_file.proofs.CommittedLemmas.{once_behind}
use Rattle.opened_file.proofs.LookupLemmas.{IsLookedUp, IsSameAt}
use Rattle.quota_value.specs.QuotaValue.{QuotaValue}

-- The named file stands for what an edit makes of each value that an opened file holds.
abbrev StandsSo : (Format → List ℕ → QuotaValue → Type 0) → ValueEdit → FileAt → World → Type 0
StandsSo stands edit at files =
    (value : QuotaValue) → at.holds value
    → IsSomeAnd (files at.seen.name) (λ bytes. IsOkAnd (edit.edited value) (stands at.seen.format bytes))

-- what stands for what an edit makes of the values that were looked up stands for what another one makes of them that
-- is the same
stands_so-after : (stands : Format → List ℕ → QuotaValue → Type 0) (edit next : ValueEdit) (old mid : FileAt)
    (files : World) → IsLookedUp old mid → IsSameAt edit next old
    → StandsSo stands next mid files → StandsSo stands edit old files
stands_so-after stands edit next old mid files up same whole value holds =
    subst (λ (edited : Result QuotaValue (Field × ℕ)). IsSomeAnd (files old.seen.name)
    (λ bytes. IsOkAnd edited (stands old.seen.format bytes))) (sym (same.edited value holds))
    (subst (λ (seen : FileSeen). IsSomeAnd (files seen.name)
    (λ bytes. IsOkAnd (next.edited value) (stands seen.format bytes))) up.same (whole value (up.stays value holds)))

module _ {T : Type 0} (commits : List World → T → T → Type 0)
    (on : (one two : List World) (first between last : T) → commits one first between → commits two between last
    → commits (one ++ two) first last) where
  -- an edit commits what another one does that is the same at the values which the file holds, or what the change does
  -- by which it is made
  pub once_edited : (stands : Format → List ℕ → QuotaValue → Type 0) (first between last : T) (edit next : ValueEdit)
      (old mid : FileAt) (files : World)
      → commits [] first between → IsLookedUp old mid → IsSameAt edit next old
      → CommitsOnce (λ worlds. commits worlds between last) (StandsSo stands next mid files) files
      → CommitsOnce (λ worlds. commits worlds first last) (StandsSo stands edit old files) files
  once_edited stands first between last edit next old mid files none up same once =
      once_behind commits on first between last _ _ files none once
      (stands_so-after stands edit next old mid files up same)
