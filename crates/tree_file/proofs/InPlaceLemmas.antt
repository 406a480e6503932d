-- Records that were put into an opened tree file or taken out of one, in place: what the file is then, and what it is
-- where that failed.
use Rattle.std.proofs.Common.{◌≡◌, ℕ, ◌+◌, ◌<◌, ◌≤◌, Bool, true, false, IsTrue, List, Option, None, Some, Result, Ok}
use Rattle.std.proofs.Common.{Err, inl, inr, refl, sym, ap, subst, ◌∙◌, arith}
use Rattle.std.specs.Prelude.{IsSome, IsSomeAnd, not}
use Rattle.std.proofs.lemmas.Bool.{false≢true}
use Rattle.quota_types.specs.declared.file_kind.Format.{Format}
use Rattle.quota_types.specs.declared.record.Grace.{Grace}
use Rattle.outside.specs.ManyCalls.{IsSynced}
use Rattle.opened_file.specs.EditsOne.{EditsOne}
use Rattle.outside.specs.Seen.{StoreSeen}
use Rattle.outside.specs.World.{World}
use Rattle.file_blocks.specs.Block.{bytes_of}
use Rattle.free_chains.specs.declared.heads.Heads.{Heads}
use Rattle.entry_codec.specs.Header.{header_of, magic_of}
use Rattle.entry_codec.specs.Spelling.{AreOf}
use Rattle.entry_codec.specs.declared.header.Header.{Header}
use Rattle.opened_file.specs.Changes.{Changes, FileAt, LacksRoomFor}
use Rattle.opened_file.specs.FileChange.{FileChange, changed_value}
use Rattle.opened_file.specs.ValueEdits.{edit_by, has_nothing_to_do}
use Rattle.opened_file.specs.FileUse.{seen_in}
use Rattle.opened_file.specs.QuotaFile.{CountsRefusal, is_store_fault}
use Rattle.quota_value.specs.QuotaValue.{QuotaValue, Records}
use Rattle.opened_file.specs.declared.file_use.FileUse.{FileUse}
use Rattle.opened_file.specs.declared.quota_file.FileFault.{FileFault}
use Rattle.opened_file.proofs.ChangesLemmas.{IsBounded, IsWanted, changes-done, changes-refused, changes-torn}
use Rattle.opened_file.proofs.ChangesLemmas.{changes-unwritten}
use Rattle.tree_meaning.specs.TreeHeads.{heads_of}
use Rattle.tree_meaning.specs.Ids.{ids_in}
use Rattle.tree_meaning.specs.TreeFile.{TreeStandsFor}
use Rattle.tree_meaning.proofs.MeaningLemmas.{header_flags, header_format, header_grace, header_kind}
use Rattle.tree_change.specs.ChangeFault.{IsChangeFault}
use Rattle.tree_change.specs.declared.change_fault.ChangeFault.{ChangeFault}
use Rattle.tree_change.specs.declared.change_fault.ChangeFault.TheVariants.{Store, Damage as Damaged, Full}
use Rattle.tree_file.specs.Coming.{HoldsComing}
use Rattle.tree_file.specs.Faults.{file_fault}
use Rattle.tree_file.specs.InPlace.{ChangesTree, EndsEarly, IsLeftSo, IsNoFileOf, MayChange, WritesSo}
use Rattle.tree_file.specs.Opened.{HoldsTree, with_heads}
use Rattle.tree_file.specs.BlocksWanted.{blocks_wanted}
use Rattle.tree_file.specs.TreeChange.{MakesFew, TreeChanged, TreeMakes}
use Rattle.tree_file.specs.TreeCalls.{tree_at, tree_done_writes, tree_laws}
use Rattle.tree_file.specs.declared.coming.Coming.{Coming}
use Rattle.tree_file.proofs.HeldLemmas.{held_file, held_header}

-- A changed value has the kind, the format, the grace periods and the flags of the one before.
pub record KeepsHead (value changed : QuotaValue) : Type 0 where
  pub kind : changed.kind ≡ value.kind
  pub format : changed.format ≡ value.format
  pub grace : changed.grace ≡ value.grace
  pub flags : changed.flags ≡ value.flags

-- a file that is there has its bytes
some_bytes : (file : Option (List ℕ)) → IsSome file → file ≡ Some (bytes_of file)
some_bytes None there = absurd (false≢true there)
some_bytes (Some bytes) there = refl

is_there : (file : Option (List ℕ)) (bytes : List ℕ) → file ≡ Some bytes → IsSome file
is_there file bytes is = subst IsSome (sym is) refl

both_some : (before after : Option (List ℕ)) (so : List ℕ → List ℕ → Type 0) → IsSome before → IsSome after
    → so (bytes_of before) (bytes_of after)
    → IsSomeAnd before (λ old. IsSomeAnd after (so old))
both_some None after so was is so_bytes = absurd (false≢true was)
both_some (Some before) None so was is so_bytes = absurd (false≢true is)
both_some (Some before) (Some after) so was is so_bytes = so_bytes

after_some : (after : Option (List ℕ)) (P : List ℕ → Type 0) → IsSome after → P (bytes_of after) → IsSomeAnd after P
after_some None P is stands = absurd (false≢true is)
after_some (Some bytes) P is stands = stands

module _ (tells : Bool) (change : FileChange) (limit : ℕ) (name : List ℕ) (before : StoreSeen) (opened : FileUse)
    (header : Header) (coming : Coming)
    (keeps : (value : QuotaValue) → KeepsHead value (changed_value change value)) where
  abbrev old : FileAt
  old = tree_at tells name opened header coming limit before

  abbrev held : QuotaValue → Type 0
  held = HoldsTree tells (before.files name) header coming limit

  -- the header with the heads that it has then is that of the changed file
  headed : (file after : List ℕ) (value : QuotaValue) (heads : Heads) → AreOf header (header_of file)
      → TreeStandsFor file value → TreeStandsFor after (changed_value change value)
      → heads ≡ heads_of (header_of after) → AreOf (with_heads header heads) (header_of after)
  headed file after value heads of stands now is = record {
    magic = now.magic ∙ ap magic_of ((keeps value).kind ∙ sym (header_kind file header value of stands));
    version = now.version
        ∙ ap (λ (f : Format). Some f) ((keeps value).format ∙ sym (header_format file header value of stands));
    block_grace = sym now.block_grace
        ∙ ap (λ (g : Grace). g.block) ((keeps value).grace ∙ sym (header_grace file header value of stands));
    inode_grace = sym now.inode_grace
        ∙ ap (λ (g : Grace). g.inode) ((keeps value).grace ∙ sym (header_grace file header value of stands));
    flags = sym now.flags ∙ (keeps value).flags ∙ sym (header_flags file header value of stands);
    blocks = sym (ap (λ (h : Heads). h.blocks) is);
    free = sym (ap (λ (h : Heads). h.free) is);
    first = sym (ap (λ (h : Heads). h.first) is);
  }

  module _ (heads : Heads) (new : World)
      (done : IsTrue tells → WritesSo (MayChange limit change header heads) name before.files new) where
    made : (value : QuotaValue) → held value
        → ChangesTree limit change value (bytes_of (before.files name)) (bytes_of (new name)) heads
    made value holds =
        (done holds.told).related (held_header tells (before.files name) header coming limit value holds) value
        (held_file tells (before.files name) header coming limit value holds)

    was_there : (value : QuotaValue) → held value → IsSome (before.files name)
    was_there value holds = is_there (before.files name) holds.file holds.there

    is_made : (value : QuotaValue) → held value → IsSome (new name)
    is_made value holds = (done holds.told).there (was_there value holds)

    few_made : (value : QuotaValue) → held value → (header_of (bytes_of (new name))).blocks ≤ limit
    few_made value holds =
        let changes = made value holds in omega (arith, ap (λ (h : Heads). h.blocks) changes.heads_are, changes.few)

    -- there was something to do, and there was room
    pub wanted : IsWanted change (tree_laws tells) old
    wanted = record {
      busy = λ value holds. (made value holds).busy;
      room = λ needs value blocks most holds lacks.
          let changes = made value holds in
          let same : blocks_wanted (changed_value change value).format (before.files name)
          (ids_in (changed_value change value).records) ≡ heads.blocks =
          ap (λ (f : Format). blocks_wanted f (before.files name) (ids_in (changed_value change value).records))
          (keeps value).format
          ∙ ap (λ (file : Option (List ℕ)). blocks_wanted value.format file
          (ids_in (changed_value change value).records)) (some_bytes (before.files name) (was_there value holds))
          ∙ changes.room in
          omega (arith, lacks.needs, lacks.may, lacks.passes, same, changes.few);
    }

    makes_so : (value : QuotaValue) → held value → TreeMakes limit change name before.files new
    makes_so value holds = record {
      named = both_some (before.files name) (new name) (MakesFew limit (TreeChanged change)) (was_there value holds)
          (is_made value holds) ((made value holds).changed, few_made value holds);
      others = (done holds.told).others;
    }

    -- and it stands for the changed value
    pub stands_so : (value : QuotaValue) → held value
        → IsSomeAnd (new name) (λ bytes. TreeStandsFor bytes (changed_value change value))
    stands_so value holds =
        after_some (new name) (λ bytes. TreeStandsFor bytes (changed_value change value)) (is_made value holds)
        (made value holds).stands

    pub holds_so : (none : Coming) → ((records : Records) → HoldsComing records none)
        → (value : QuotaValue) → held value
        → HoldsTree tells (new name) (with_heads header heads) none limit (changed_value change value)
    holds_so none nothing value holds = record {
      told = holds.told;
      file = bytes_of (new name);
      there = some_bytes (new name) (is_made value holds);
      stands = (made value holds).stands;
      few = few_made value holds;
      same =
          headed (bytes_of (before.files name)) (bytes_of (new name)) value heads
          (held_header tells (before.files name) header coming limit value holds)
          (held_file tells (before.files name) header coming limit value holds) (made value holds).stands
          (made value holds).heads_are;
      next = nothing (changed_value change value).records;
    }

  -- a record was put, or taken away
  pub changes_made : (heads : Heads) (now : StoreSeen) (other : List ℕ) (none : Coming) (told : Unit {0}) → other ≡ name
      → ((records : Records) → HoldsComing records none)
      → (IsTrue tells → WritesSo (MayChange limit change header heads) name before.files now.files)
      → ((value : QuotaValue) → held value → now.writes ≤ before.writes + tree_done_writes old.seen value change)
      → (IsTrue tells → IsSynced name before now) → EditsOne name before now
      → IsBounded change (tree_laws tells) old (tree_at tells other opened (with_heads header heads) none limit now)
      → Changes change (tree_laws tells) old
      (tree_at tells other opened (with_heads header heads) none limit now) (Ok told)
  changes_made heads now other none told same nothing done writes synced leaves bounded =
      changes-done change (tree_laws tells) old
      (tree_at tells other opened (with_heads header heads) none limit now) told
      (wanted heads now.files done)
      (λ value holds. subst
      (λ (n : List ℕ). HoldsTree tells (now.files n) (with_heads header heads) none limit (changed_value change value))
      (sym same) (holds_so heads now.files done none nothing value holds))
      (makes_so heads now.files done)
      writes
      synced (ap (λ (n : List ℕ). seen_in opened n header.format limit) same) leaves
      bounded

  -- what is left where the store failed while it was written
  module _ (left : World) (torn : IsTrue tells → IsLeftSo (MayChange limit change header) name before.files left) where
    wanted_torn : IsWanted change (tree_laws tells) old
    wanted_torn = record {
      busy = λ value holds. let so = torn holds.told in (wanted so.heads so.after (λ told. so.made)).busy value holds;
      room = λ needs value blocks most holds. let so = torn holds.told in
          (wanted so.heads so.after (λ told. so.made)).room needs value blocks most holds;
    }

  -- a change was refused
  pub changes_ended : (now : StoreSeen) (other : List ℕ) (then : FileUse) (full : ℕ → ℕ → Type 0) (fault : ChangeFault)
      → other ≡ name
      → IsChangeFault before.faults now.faults (IsNoFileOf tells header (bytes_of (before.files name))) full fault
      → ((blocks most : ℕ) → full blocks most
      → LacksRoomFor (edit_by change) (tree_laws tells) old blocks most × ((most ≡ limit) × (most < blocks)))
      → ((blocks most : ℕ) → full blocks most → (value : QuotaValue) → held value
      → has_nothing_to_do change value ≡ false)
      → EndsEarly tells (MayChange limit change header) name before now fault
      → ((n : List ℕ) → CountsRefusal (not (is_store_fault (file_fault fault))) (seen_in opened n header.format limit)
      (seen_in then n header.format limit))
      → EditsOne name before now
      → IsBounded change (tree_laws tells) old (tree_at tells other then header coming limit now)
      → Changes change (tree_laws tells) old (tree_at tells other then header coming limit now) (Err (file_fault fault))
  changes_ended now other then full Store same cause lacking busy (inl read) counted leaves bounded =
      changes-unwritten change (tree_laws tells) old (tree_at tells other then header coming limit now) cause tt
      (subst (λ (n : List ℕ). CountsRefusal false (seen_in opened name header.format limit)
      (seen_in then n header.format limit)) (sym same) (counted name))
      read bounded
  changes_ended now other then full Store same cause lacking busy (inr torn) counted leaves bounded =
      changes-torn change (tree_laws tells) old (tree_at tells other then header coming limit now)
      (wanted_torn now.files torn.1) cause tt
      (subst (λ (n : List ℕ). CountsRefusal false (seen_in opened name header.format limit)
      (seen_in then n header.format limit)) (sym same) (counted name))
      (record {
        left = λ value holds. let so = torn.1 holds.told in inr (record {
          after = so.after;
          made = makes_so so.heads so.after (λ told. so.made) value holds;
          stands = stands_so so.heads so.after (λ told. so.made) value holds;
          left = so.left;
        });
        between = λ told. let so = torn.1 told in inr (so.after name, so.left);
      })
      leaves bounded
  changes_ended now other then full (Damaged damage) same cause lacking busy ended counted leaves bounded =
      let none : (value : QuotaValue) → ¬ (held value) = λ value holds.
      cause.1 holds.told (held_header tells (before.files name) header coming limit value holds) value
      (held_file tells (before.files name) header coming limit value holds) in
      elim ended [
        | inl read ↦
            changes-refused change (tree_laws tells) old (tree_at tells other then header coming limit now)
            (file_fault (Damaged damage)) refl
            none cause.0 tt (λ value holds. absurd (none value holds))
            (subst (λ (n : List ℕ). CountsRefusal true (seen_in opened name header.format limit)
            (seen_in then n header.format limit)) (sym same) (counted name))
            (λ value holds. absurd (none value holds)) read bounded
        | inr torn ↦ absurd cc
      ]
  changes_ended now other then full (Full blocks most) same cause lacking busy ended counted leaves bounded =
      elim ended [
        | inl read ↦
            changes-refused change (tree_laws tells) old (tree_at tells other then header coming limit now)
            (file_fault (Full blocks most)) refl
            (lacking blocks most cause).0 tt (lacking blocks most cause).1 (busy blocks most cause)
            (subst (λ (n : List ℕ). CountsRefusal true (seen_in opened name header.format limit)
            (seen_in then n header.format limit)) (sym same) (counted name))
            (λ value holds. subst (λ (n : List ℕ). HoldsTree tells (now.files n) header coming limit value) (sym same)
            (subst (λ (f : World). HoldsTree tells (f name) header coming limit value) (sym read.files) holds))
            read bounded
        | inr torn ↦ absurd cc
      ]

-- a file that is seen so by the same parts
pub changed_as : (tells : Bool) (change : FileChange) (old : FileAt) (name name' : List ℕ) (opened opened' : FileUse)
    (header header' : Header) (coming : Coming) (limit limit' : ℕ) (store : StoreSeen)
    (result : Result (Unit {0}) FileFault) → name' ≡ name → opened' ≡ opened → header' ≡ header → limit' ≡ limit
    → Changes change (tree_laws tells) old (tree_at tells name opened header coming limit store) result
    → Changes change (tree_laws tells) old (tree_at tells name' opened' header' coming limit' store) result
changed_as tells change old name name' opened opened' header header' coming limit limit' store result n o h l changes =
    let same : tree_at tells name opened header coming limit store
    ≡ tree_at tells name' opened' header' coming limit' store =
    λ i. tree_at tells (sym n i) (sym o i) (sym h i) coming (sym l i) store in
    subst (λ (at : FileAt). Changes change (tree_laws tells) old at result) same changes
