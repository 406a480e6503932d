-- Why look-ups in an opened tree file are refused.
use Rattle.std.proofs.Common.{◌≡◌, ℕ, ◌≤◌, Bool, true, List, Some, sym, ap, subst, ◌∙◌, arith, length}
use Rattle.quota_types.specs.Damage.{NamesItsId}
use Rattle.quota_types.specs.declared.damage.Damage.{Damage}
use Rattle.quota_types.specs.declared.damage.DamageKind.{DamageKind}
use Rattle.quota_types.specs.declared.damage.DamageKind.TheVariants.{RefOut}
use Rattle.quota_types.specs.declared.file_kind.Format.{Format}
use Rattle.quota_types.specs.declared.record.Rec.{Rec}
use Rattle.outside.specs.Seen.{StoreSeen}
use Rattle.entry_codec.specs.Header.{header_of}
use Rattle.entry_codec.specs.Spelling.{AreOf}
use Rattle.entry_codec.specs.declared.header.Header.{Header}
use Rattle.file_blocks.specs.Block.{block_of}
use Rattle.quota_pages.specs.Page.{is_buffered, shown}
use Rattle.quota_pages.specs.Pages.{HoldsAsBuffered, pages_of}
use Rattle.quota_pages.specs.Used.{IsKnown, LooksAtSome, shown_over}
use Rattle.quota_pages.specs.declared.page_buffer.Pages.{Pages}
use Rattle.quota_pages.proofs.UsedLemmas.{shown_over-looks}
use Rattle.quota_radix.specs.Lookup.{IsWayFault, IsWayFaultOf}
use Rattle.quota_radix.specs.TreeDefect.{IsRefOut}
use Rattle.quota_radix.specs.WalkFault.{IfDamaged, IsWalkFault}
use Rattle.quota_radix.specs.Way.{IsOutOnWay}
use Rattle.quota_radix.specs.declared.tree_path.TreePath.{TreePath}
use Rattle.quota_radix.specs.declared.walk_fault.WalkFault.{WalkFault}
use Rattle.quota_radix.specs.declared.walk_fault.WalkFault.TheVariants.{Store, Damage as Damaged}
use Rattle.quota_radix.proofs.InsideLemmas.{out_on_way}
use Rattle.quota_radix.proofs.LeafLemmas.{IsLeaf}
use Rattle.quota_radix.proofs.WalkLemmas.{damaged_weaker}
use Rattle.tree_meaning.specs.Defect.{IsDefectOf, IsTreeDefect}
use Rattle.tree_meaning.specs.Entries.{stated_count}
use Rattle.tree_meaning.specs.TreeFile.{record_in}
use Rattle.tree_file.specs.Leaf.{IsLeafFault}
use Rattle.tree_file.proofs.LookupLemmas.{leaf_damage}

-- What a refused look-up says of a damage: its block was read, and it is one of the file, where that is told and has
-- this header.
abbrev pub SaysOf : (tells : Bool) (before : StoreSeen) (old new : Pages) (header : Header) → Damage → Type 0
SaysOf tells before old new header damage =
    (is_buffered (pages_of new) damage.block ≡ true)
    × (IsKnown tells before old → AreOf header (header_of (shown_over before old))
    → IsTreeDefect header.format (shown_over before old) (header_of (shown_over before old)) damage)

-- a refusal of a later call, which says as much of a damage
walk_with : (before between now : ℕ) (P Q : Damage → Type 0) → before ≤ between
    → ((damage : Damage) → NamesItsId damage.kind damage.id → P damage → Q damage) → (fault : WalkFault)
    → IsWalkFault between now P fault → IsWalkFault before now Q fault
walk_with before between now P Q later more Store rose = omega (arith, later, rose)
walk_with before between now P Q later more (Damaged damage) refused = (refused.0, more damage refused.0 refused.1)

-- a reference past the last block is a damage of the file
ref_damage : (header : Header) (file : List ℕ) (damage : Damage) → AreOf header (header_of file) → damage.kind ≡ RefOut
    → NamesItsId damage.kind damage.id → IsWayFault file header.blocks damage
    → IsTreeDefect header.format file (header_of file) damage
ref_damage header file damage of kind named fault = (
  subst (λ (k : DamageKind).
      IsDefectOf (stated_count file) (length file) header.format file (header_of file) k damage.block damage.id)
      (sym kind)
      (subst (λ (blocks : ℕ). IsRefOut file blocks damage.block) (sym of.blocks)
      (subst (λ (k : DamageKind). IsWayFaultOf file header.blocks k damage.block) kind fault.fault)),
  named,
)

-- what holds of the damage of a refusal by what is buffered, beside what else is said of it
named_with : (before now : ℕ) (P Q R : Damage → Type 0)
    → ((damage : Damage) → NamesItsId damage.kind damage.id → P damage → Q damage → R damage) → (fault : WalkFault)
    → IsWalkFault before now P fault → IfDamaged Q fault → IfDamaged R fault
named_with before now P Q R both Store refused holds = tt
named_with before now P Q R both (Damaged damage) refused holds = both damage refused.0 refused.1 holds

-- What is buffered shows a damage of the file, where that has this header.
abbrev pub ShowsDamage : Pages → Header → Damage → Type 0
ShowsDamage buffer header damage =
    HoldsAsBuffered buffer
    (λ shown. AreOf header (header_of shown) → IsTreeDefect header.format shown (header_of shown) damage)

-- a reference on the way leads past the last block
pub way_named : (tells : Bool) (before now : StoreSeen) (old new : Pages) (header : Header) (id : ℕ) (fault : WalkFault)
    → IsWalkFault before.faults now.faults
    (λ damage. (damage.kind ≡ RefOut) × (is_buffered (pages_of new) damage.block ≡ true)
    × (IsKnown tells before old → IsOutOnWay (shown_over before old) header.blocks id damage.block)) fault
    → IfDamaged (λ damage. HoldsAsBuffered new (λ shown. IsOutOnWay shown header.blocks id damage.block)) fault
    → IfDamaged (ShowsDamage new header) fault
way_named tells before now old new header id fault refused holds =
    named_with before.faults now.faults _ _ (ShowsDamage new header) (λ damage named is out file clean of.
    let seen : List ℕ = shown (pages_of new) file in
    ref_damage header seen damage of is.0 named (out_on_way seen header.blocks id damage is.0 named (out file clean)))
    fault refused holds

-- the block of a leaf has no entry of its identifier
pub leaf_named : (new : Pages) (header : Header) (leaf : TreePath) (fault : WalkFault)
    → HoldsAsBuffered new (λ shown. IsLeaf shown header.blocks leaf)
    → IfDamaged (λ damage. HoldsAsBuffered new (λ shown. IsLeafFault header.format shown leaf damage)) fault
    → IfDamaged (ShowsDamage new header) fault
leaf_named new header leaf fault is holds = damaged_weaker _ (ShowsDamage new header) (λ damage none file clean of.
    leaf_damage header (shown (pages_of new) file) leaf damage of (is file clean) (none file clean)) fault holds

module _ (tells : Bool) (before now : StoreSeen) (old new : Pages) (header : Header) where
  -- a reference on the way leads past the last block
  pub way_walk : (id : ℕ) (fault : WalkFault)
      → IsWalkFault before.faults now.faults
      (λ damage. (damage.kind ≡ RefOut) × (is_buffered (pages_of new) damage.block ≡ true)
      × (IsKnown tells before old → IsOutOnWay (shown_over before old) header.blocks id damage.block)) fault
      → IsWalkFault before.faults now.faults (SaysOf tells before old new header) fault
  way_walk id fault refused = walk_with before.faults before.faults now.faults _ (SaysOf tells before old new header)
      (omega arith) (λ damage named out. (
        out.1,
        λ known of. ref_damage header (shown_over before old) damage of out.0 named
            (out_on_way (shown_over before old) header.blocks id damage out.0 named (out.2 known)),
      )) fault refused

module _ (tells : Bool) (before between now : StoreSeen) (old middle new : Pages) (header : Header)
    (leaf : TreePath) where
  -- the block of a leaf has no entry of its identifier
  pub leaf_walk : {ok : Bool} {count : ℕ} (fault : WalkFault) → LooksAtSome tells ok count before between old middle
      → (IsKnown tells before old → IsLeaf (shown_over before old) header.blocks leaf)
      → IsWalkFault between.faults now.faults (λ damage. (is_buffered (pages_of new) damage.block ≡ true)
      × (IsKnown tells between middle → IsLeafFault header.format (shown_over between middle) leaf damage)) fault
      → IsWalkFault before.faults now.faults (SaysOf tells before old new header) fault
  leaf_walk fault looks is refused = walk_with before.faults between.faults now.faults _
      (SaysOf tells before old new header) looks.leaves.later (λ damage named out. (
        out.0,
        λ known of. leaf_damage header (shown_over before old) leaf damage of (is known)
            (subst (λ (file : List ℕ). IsLeafFault header.format file leaf damage) (shown_over-looks looks)
            (out.1 (looks.known known))),
      )) fault refused

-- what was found behind other look-ups was there before them
pub found_before : {tells : Bool} {ok : Bool} {count : ℕ} {before now : StoreSeen} {old new : Pages} (format : Format)
    (block id : ℕ) (rec : Rec) → LooksAtSome tells ok count before now old new
    → IsKnown tells before old
    → (IsKnown tells now new → record_in format (block_of (shown_over now new) block) id ≡ Some rec)
    → record_in format (block_of (shown_over before old) block) id ≡ Some rec
found_before format block id rec looks known found =
    ap (λ (file : List ℕ). record_in format (block_of file block) id) (sym (shown_over-looks looks))
    ∙ found (looks.known known)
