-- What putting a record into a file, and taking one out of it, makes of the file.
use Rattle.std.proofs.Common.{◌≡◌, ℕ, ◌*◌, ◌^◌, ◌-◌, ◌<◌, ◌≤◌, false, List, length, refl, sym, ap, subst, ◌∙◌, arith}
use Rattle.std.specs.Prelude.{is_none, max}
use Rattle.std.specs.FinMap.{get}
use Rattle.quota_types.specs.KeptBytes.{KeepsOutside}
use Rattle.quota_types.specs.Times.{StandsIn}
use Rattle.quota_types.specs.declared.record.Rec.{Rec}
use Rattle.opened_file.specs.FileChange.{Put, Remove}
use Rattle.quota_value.specs.QuotaValue.{QuotaValue}
use Rattle.entry_codec.specs.Header.{header_of}
use Rattle.entry_codec.specs.Spelling.{AreOf}
use Rattle.entry_codec.specs.declared.header.Header.{Header}
use Rattle.free_chains.specs.declared.heads.Heads.{Heads}
use Rattle.quota_radix.specs.Tree.{data_blocks}
use Rattle.tree_meaning.specs.TreeHeads.{heads_of}
use Rattle.tree_meaning.specs.TreeFile.{TreeStandsFor}
use Rattle.tree_file.specs.InPlace.{ChangesTree, MayChange}
use Rattle.tree_change.specs.Freed.{FreesBlocks, free_blocks, freed_blocks}
use Rattle.tree_change.specs.Putting.{PutsRecord}
use Rattle.tree_change.specs.BlocksWanted.{blocks_taken}
use Rattle.tree_change.specs.Removal.{RemovesRecord}
use Rattle.tree_file.proofs.InPlaceLemmas.{KeepsHead}
use Rattle.tree_file.proofs.RoomLemmas.{wanted_put, wanted_removed}

pub put_changes : (limit id : ℕ) (rec : Rec) (value : QuotaValue) (old new : List ℕ) (heads : Heads) → id < 2 ^ 32
    → TreeStandsFor old value → heads.blocks ≤ limit
    → PutsRecord id rec value old new heads → ChangesTree limit (Put id rec) value old new heads
put_changes limit id rec value old new heads small stands few puts =
    let blocks : heads.blocks ≡ (header_of new).blocks = ap (λ (h : Heads). h.blocks) puts.heads_are in
    record {
      stands = puts.stands;
      heads_are = puts.heads_are;
      few = few;
      changed = record {
        header = puts.header;
        behind = subst (λ (n : ℕ). KeepsOutside 0 (1024 * n) old new) blocks puts.behind;
        long = puts.long ∙ ap (λ (n : ℕ). max (length old) (1024 * n)) blocks;
        at_least = omega (arith, puts.at_least, blocks);
        sum = sym blocks ∙ puts.sum;
        growth = λ more. sym (ap (λ (h : Heads). h.free) puts.heads_are) ∙ puts.growth (omega (arith, more, blocks));
        rest = subst (λ (h : Heads). length (free_blocks new h)
            ≡ length (free_blocks old (heads_of (header_of old))) - blocks_taken old (heads_of (header_of old)) id)
            puts.heads_are puts.rest;
        new_data = λ block stands none.
            puts.new_data block (subst (λ (n : ℕ). StandsIn (data_blocks new n) block) (sym blocks) stands) none;
      };
      room = wanted_put old value id rec small stands ∙ sym puts.sum;
      busy = refl;
    }

pub remove_changes : (id : ℕ) (value : QuotaValue) (old new : List ℕ) (heads : Heads) → TreeStandsFor old value
    → is_none (get value.records id) ≡ false
    → RemovesRecord id value old new heads → ChangesTree (header_of old).blocks (Remove id) value old new heads
remove_changes id value old new heads stands there removes =
    let blocks : heads.blocks ≡ (header_of new).blocks = ap (λ (h : Heads). h.blocks) removes.heads_are in
    record {
      stands = removes.stands;
      heads_are = removes.heads_are;
      few = omega (arith, removes.blocks);
      changed = record {
        header = removes.header;
        behind = subst (λ (n : ℕ). KeepsOutside 0 (1024 * n) old new) blocks removes.freed.behind.behind;
        long = removes.long;
        blocks = sym blocks ∙ removes.blocks;
        freed = subst (λ (h : Heads). FreesBlocks (freed_blocks old new h.blocks id) old new (heads_of (header_of old))
            h) removes.heads_are removes.freed;
        new_data = λ block stands.
            removes.new_data block (subst (λ (n : ℕ). StandsIn (data_blocks new n) block) (sym blocks) stands);
      };
      room = wanted_removed old value id stands ∙ sym removes.blocks;
      busy = there;
    }

-- neither changes what a header has of a value
pub put_keeps : (id : ℕ) (rec : Rec) (value : QuotaValue)
    → KeepsHead value (record value { records = Rattle.std.specs.FinMap.insert value.records id rec })
put_keeps id rec value = record { kind = refl; format = refl; grace = refl; flags = refl }

pub remove_keeps : (id : ℕ) (value : QuotaValue)
    → KeepsHead value (record value { records = Rattle.std.specs.FinMap.remove value.records id })
remove_keeps id value = record { kind = refl; format = refl; grace = refl; flags = refl }

-- a file out of which a record was taken, whatever value it stands for
pub removed_may : (header : Header) (id : ℕ) (old new : List ℕ) (heads : Heads)
    → (AreOf header (header_of old) → (value : QuotaValue) → TreeStandsFor old value
    → RemovesRecord id value old new heads)
    → (AreOf header (header_of old) → (value : QuotaValue) → TreeStandsFor old value
    → is_none (get value.records id) ≡ false)
    → MayChange header.blocks (Remove id) header heads old new
removed_may header id old new heads removes there = λ of value stands.
    subst (λ (blocks : ℕ). ChangesTree blocks (Remove id) value old new heads) of.blocks
    (remove_changes id value old new heads stands (there of value stands) (removes of value stands))
