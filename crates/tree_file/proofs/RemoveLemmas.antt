-- A record that is taken out of an opened tree file, which has no fewer blocks then and no more, or that is not there.
use Rattle.std.proofs.Common.{◌≡◌, ◌≢◌, ℕ, ◌+◌, ◌≤◌, Bool, cond, eq-eqb, ne_eqb, true, IsTrue, List, None, Some, Option}
use Rattle.std.proofs.Common.{Ok, inl, inr, refl, sym, ap, subst, ◌∙◌, arith}
use Rattle.std.specs.Prelude.{is_none}
use Rattle.std.proofs.lemmas.Bool.{false≢true}
use Rattle.std.proofs.lemmas.Bool.Decides.{eqb_tells}
use Rattle.std.specs.Cmp.{nat_cmp_total, unsigned_tied}
use Rattle.std.specs.FinMap.{get, get-remove, nat_cmp-IsAntisymmetric, remove, same_map}
use Rattle.quota_types.specs.declared.record.Rec.{Rec}
use Rattle.outside.specs.Frame.{OnlyReads}
use Rattle.outside.specs.Seen.{StoreSeen}
use Rattle.outside.specs.World.{World}
use Rattle.file_blocks.specs.Block.{bytes_of}
use Rattle.free_chains.specs.declared.heads.Heads.{Heads}
use Rattle.entry_codec.specs.Header.{header_of}
use Rattle.entry_codec.specs.Spelling.{AreOf}
use Rattle.entry_codec.specs.declared.header.Header.{Header}
use Rattle.opened_file.specs.Changes.{Changes}
use Rattle.opened_file.specs.FileChange.{Remove}
use Rattle.opened_file.specs.FileUse.{seen_in}
use Rattle.opened_file.specs.QuotaFile.{IfFull}
use Rattle.quota_value.specs.QuotaValue.{QuotaValue, Records, without_record}
use Rattle.opened_file.specs.declared.file_use.FileUse.{FileUse}
use Rattle.opened_file.proofs.ChangesLemmas.{changes-idle}
use Rattle.tree_meaning.specs.TreeFile.{TreeStandsFor}
use Rattle.tree_change.specs.ChangeFault.{IsChangeFault}
use Rattle.tree_change.specs.declared.change_fault.ChangeFault.{ChangeFault}
use Rattle.tree_change.specs.declared.change_fault.ChangeFault.TheVariants.{Store as NotChanged, Damage as Damaged}
use Rattle.tree_change.specs.declared.change_fault.ChangeFault.TheVariants.{Full as IsFull}
use Rattle.tree_file.specs.Faults.{file_fault}
use Rattle.tree_file.specs.InPlace.{EndsEarly, MayChange, WritesSo}
use Rattle.tree_file.specs.Opened.{HoldsTree}
use Rattle.tree_file.specs.TreeCalls.{tree_at, tree_laws}
use Rattle.tree_file.specs.declared.coming.Coming.{Coming}
use Rattle.tree_file.proofs.HeldLemmas.{held_file, held_header}

none_of : (found : Option Rec) → is_none found ≡ true → found ≡ None
none_of None is = refl
none_of (Some rec) is = absurd (false≢true is)

removed_other : (records : Records) (id k : ℕ) → k ≢ id → get (remove records id) k ≡ get records k
removed_other records id k other =
    get-remove nat_cmp_total records id k
    ∙ ap (λ (b : Bool). cond b None (get records k)) (unsigned_tied k id ∙ ne_eqb k id other)

removed_own : (records : Records) (id k : ℕ) → k ≡ id → get (remove records id) k ≡ None
removed_own records id k own =
    get-remove nat_cmp_total records id k
    ∙ ap (λ (b : Bool). cond b None (get records k)) (unsigned_tied k id ∙ eq-eqb k id own)

-- the records are the same where the one that is taken out is not there
absent_stays : (value : QuotaValue) (id : ℕ) → get value.records id ≡ None → value ≡ without_record value id
absent_stays value id none =
    let same : value.records ≡ remove value.records id =
    same_map nat_cmp_total nat_cmp-IsAntisymmetric value.records (remove value.records id)
    (λ k. elim (eqb_tells k id) [
      | inl own ↦ ap (get value.records) own.1 ∙ none ∙ sym (removed_own value.records id k own.1)
      | inr other ↦ sym (removed_other value.records id k other.1)
    ]) in
    λ i. record { kind = value.kind; format = value.format; grace = value.grace; flags = value.flags; records = same i }

within : (id limit : ℕ) (header : Header) (heads : Heads) (before after : List ℕ) → header.blocks ≤ limit
    → MayChange header.blocks (Remove id) header heads before after
    → MayChange limit (Remove id) header heads before after
within id limit header heads before after few may = λ of value stands.
    let changes = may of value stands in
    record {
      stands = changes.stands;
      heads_are = changes.heads_are;
      few = omega (arith, few, changes.few);
      changed = changes.changed;
      room = changes.room;
      busy = changes.busy;
    }

pub written_within : (id limit : ℕ) (header : Header) (heads : Heads) (name : List ℕ) (old new : World)
    → header.blocks ≤ limit
    → WritesSo (MayChange header.blocks (Remove id) header heads) name old new
    → WritesSo (MayChange limit (Remove id) header heads) name old new
written_within id limit header heads name old new few writes = record {
  there = writes.there;
  related = within id limit header heads (bytes_of (old name)) (bytes_of (new name)) few writes.related;
  others = writes.others;
}

pub ended_within : (id limit : ℕ) (header : Header) (tells : Bool) (name : List ℕ) (before now : StoreSeen)
    (fault : ChangeFault) → header.blocks ≤ limit
    → EndsEarly tells (MayChange header.blocks (Remove id) header) name before now fault
    → EndsEarly tells (MayChange limit (Remove id) header) name before now fault
ended_within id limit header tells name before now fault few ended = elim ended [
  | inl read ↦ inl read
  | inr torn ↦ inr (
    torn.0,
    λ told. let left = torn.1 told in record {
      heads = left.heads;
      after = left.after;
      made = written_within id limit header left.heads name before.files left.after few left.made;
      left = left.left;
    },
  )
]

-- a removal is never refused since the file is full
pub never_full : (before now : ℕ) (none : Type 0) (fault : ChangeFault)
    → IsChangeFault before now none (λ blocks most. ⊥) fault → IfFull (file_fault fault) (λ blocks most. ⊥)
never_full before now none NotChanged cause = tt
never_full before now none (Damaged damage) cause = tt
never_full before now none (IsFull blocks most) cause = cause

-- an identifier without a record: nothing was done
pub changes_absent : (id : ℕ) (tells : Bool) (name other : List ℕ) (before now : StoreSeen) (opened : FileUse)
    (header : Header) (coming : Coming) (limit : ℕ) → other ≡ name
    → (IsTrue tells → AreOf header (header_of (bytes_of (before.files name))) → (value : QuotaValue)
    → TreeStandsFor (bytes_of (before.files name)) value → is_none (get value.records id) ≡ true)
    → OnlyReads true name before now → now.reads ≤ before.reads + 12 → (told : Unit {0})
    → Changes (Remove id) (tree_laws tells) (tree_at tells name opened header coming limit before)
    (tree_at tells other opened header coming limit now) (Ok told)
changes_absent id tells name other before now opened header coming limit same none read few told =
    let absent : (value : QuotaValue) → HoldsTree tells (before.files name) header coming limit value
    → is_none (get value.records id) ≡ true = λ value holds.
    none holds.told (held_header tells (before.files name) header coming limit value holds) value
    (held_file tells (before.files name) header coming limit value holds) in
    changes-idle (Remove id) (tree_laws tells) (tree_at tells name opened header coming limit before)
    (tree_at tells other opened header coming limit now) told
    absent
    (λ value holds. subst (HoldsTree tells (now.files other) header coming limit)
    (absent_stays value id (none_of (get value.records id) (absent value holds)))
    (subst (λ (n : List ℕ). HoldsTree tells (now.files n) header coming limit value) (sym same)
    (subst (λ (f : World). HoldsTree tells (f name) header coming limit value) (sym read.files) holds)))
    read (ap (λ (n : List ℕ). seen_in opened n header.format limit) same)
    (record { reads = omega (arith, few); writes = omega (arith, read.writes) })
