-- Look-ups in an opened tree file, whose buffer of pages is empty before and behind them.
use Rattle.std.proofs.Common.{◌≡◌, ℕ, ◌+◌, ◌≤◌, Bool, true, false, List, [], Some, Ok, Err, sym, ap, subst, ◌∙◌}
use Rattle.quota_types.specs.declared.damage.Damage.{Damage}
use Rattle.quota_types.specs.declared.file_kind.Format.{Format}
use Rattle.outside.specs.Frame.{OnlyReads}
use Rattle.outside.specs.Seen.{StoreSeen}
use Rattle.outside.specs.World.{World}
use Rattle.opened_file.specs.Changes.{FileAt}
use Rattle.opened_file.specs.FileUse.{seen_in}
use Rattle.opened_file.specs.LooksUp.{LooksUp}
use Rattle.opened_file.specs.QuotaFile.{CountsRefusal, IfDamage, IsLookupFault}
use Rattle.quota_value.specs.QuotaValue.{QuotaValue}
use Rattle.opened_file.specs.declared.file_use.FileUse.{FileUse}
use Rattle.entry_codec.specs.Header.{header_of}
use Rattle.entry_codec.specs.Spelling.{AreOf}
use Rattle.entry_codec.specs.declared.header.Header.{Header}
use Rattle.file_blocks.specs.Block.{bytes_of}
use Rattle.quota_pages.specs.Page.{Page, shown}
use Rattle.quota_pages.specs.Pages.{name_of, pages_of}
use Rattle.quota_pages.specs.Used.{IsKnown, file_under, shown_over}
use Rattle.quota_pages.specs.declared.page_buffer.Pages.{Pages}
use Rattle.quota_radix.specs.WalkFault.{IsWalkFault}
use Rattle.quota_radix.specs.declared.walk_fault.WalkFault.{WalkFault}
use Rattle.quota_radix.specs.declared.walk_fault.WalkFault.TheVariants.{Store, Damage as Damaged}
use Rattle.tree_meaning.specs.Defect.{IsTreeDefect}
use Rattle.tree_meaning.specs.TreeFile.{TreeStandsFor}
use Rattle.byte_order.specs.declared.order.Order.TheVariants.{Little}
use Rattle.tree_meaning.proofs.DefectLemmas.{no_defect_of_sound}
use Rattle.tree_meaning.proofs.MeaningLemmas.{header_format}
use Rattle.tree_file.specs.Coming.{HoldsComing}
use Rattle.tree_file.specs.Faults.{look_up_fault}
use Rattle.tree_file.specs.Opened.{HoldsTree, IsNamedDefect}
use Rattle.tree_file.specs.TreeCalls.{tree_at, tree_laws}
use Rattle.tree_file.specs.declared.coming.Coming.{Coming}
use Rattle.tree_file.proofs.GraceChangeLemmas.{known_empty}
use Rattle.tree_file.proofs.HeldLemmas.{held_file, held_header}
use Rattle.tree_file.proofs.WalkFaultLemmas.{SaysOf}

-- an empty buffer shows the named file
pub shown_empty : (seen : StoreSeen) (pages : Pages) → pages_of pages ≡ []
    → bytes_of (seen.files (name_of pages)) ≡ shown_over seen pages
unfolding shown
shown_empty seen pages empty = sym (ap (λ (ps : List Page). shown ps (file_under seen pages)) empty)

module _ (tells : Bool) (seen : StoreSeen) (pages : Pages) (header : Header) (coming : Coming) (limit : ℕ)
    (value : QuotaValue) (empty : pages_of pages ≡ [])
    (held : HoldsTree tells (seen.files (name_of pages)) header coming limit value) where
  -- an empty buffer over the file of what is held shows a file that is known, has the header that is kept, and stands
  -- for the value
  pub held_known : IsKnown tells seen pages
  held_known = known_empty tells seen pages empty held.told

  pub held_of : AreOf header (header_of (shown_over seen pages))
  held_of =
      subst (λ (file : List ℕ). AreOf header (header_of file)) (shown_empty seen pages empty)
      (held_header tells (seen.files (name_of pages)) header coming limit value held)

  pub held_stands : TreeStandsFor (shown_over seen pages) value
  held_stands =
      subst (λ (file : List ℕ). TreeStandsFor file value) (shown_empty seen pages empty)
      (held_file tells (seen.files (name_of pages)) header coming limit value held)

-- a file that stands for a value has no damage
defect_refuted : (header : Header) (file : List ℕ) (value : QuotaValue) (damage : Damage)
    → AreOf header (header_of file) → TreeStandsFor file value
    → IsTreeDefect header.format file (header_of file) damage → ⊥
defect_refuted header file value damage of stands defect =
    no_defect_of_sound Little value.format file (header_of file) stands.sound damage
    (subst (λ (format : Format). IsTreeDefect format file (header_of file) damage)
    (header_format file header value of stands) defect)

module _ (tells : Bool) (store store' : StoreSeen) (pages behind : Pages) (opened now : FileUse) (header : Header)
    (coming left : Coming) (limit most : ℕ) (empty : pages_of pages ≡ [])
    (name : name_of behind ≡ name_of pages) (few : store'.reads ≤ store.reads + most)
    (next : (value : QuotaValue) → HoldsTree tells (store.files (name_of pages)) header coming limit value
    → HoldsComing value.records left) where
  abbrev before : FileAt
  before = tree_at tells (name_of pages) opened header coming limit store

  abbrev after : FileUse → FileAt
  after used = tree_at tells (name_of behind) used header left limit store'

  -- what was held is held
  pub still_held : {ok : Bool} → OnlyReads ok (name_of pages) store store' → (value : QuotaValue)
      → HoldsTree tells (store.files (name_of pages)) header coming limit value
      → HoldsTree tells (store'.files (name_of behind)) header left limit value
  still_held read value held = record {
    told = held.told;
    file = held.file;
    there = ap (λ (n : List ℕ). store'.files n) name ∙ ap (λ (f : World). f (name_of pages)) read.files ∙ held.there;
    stands = held.stands;
    few = held.few;
    same = held.same;
    next = next value held;
  }

  -- a look-up was done
  pub looks_up-done : {T : Type 0} (found : T) → OnlyReads true (name_of pages) store store'
      → LooksUp {T = T} Some (tree_laws tells) before (after opened) most (Ok found)
  looks_up-done found read = record {
    refused = tt;
    may = tt;
    stays = still_held read;
    leaves = read;
    same = ap (λ (n : List ℕ). seen_in opened n header.format limit) name;
    counted = tt;
    reads = few;
  }

-- it was refused, and the refusal was counted
module _ (tells : Bool) (store store' : StoreSeen) (pages last behind : Pages) (opened now : FileUse) (header : Header)
    (coming left : Coming) (limit most : ℕ) (empty : pages_of pages ≡ [])
    (name : name_of behind ≡ name_of pages) (few : store'.reads ≤ store.reads + most)
    (next : (value : QuotaValue) → HoldsTree tells (store.files (name_of pages)) header coming limit value
    → HoldsComing value.records left) where
  -- a damage is one that the file that is held does not have
  pub lookup_fault : (fault : WalkFault)
      → IsWalkFault store.faults store'.faults (SaysOf tells store pages last header) fault
      → IsLookupFault store.faults store'.faults (HoldsTree tells (store.files (name_of pages)) header coming limit)
      (look_up_fault fault)
  lookup_fault Store rose = rose
  lookup_fault (Damaged damage) refused = λ value held.
      defect_refuted header (shown_over store pages) value damage
      (held_of tells store pages header coming limit value empty held)
      (held_stands tells store pages header coming limit value empty held)
      (refused.1.1 (held_known tells store pages header coming limit value empty held)
      (held_of tells store pages header coming limit value empty held))

  may_fault : (fault : WalkFault) → IsWalkFault store.faults store'.faults (SaysOf tells store pages last header) fault
      → (tree_laws tells).may_refuse header.format (look_up_fault fault)
  may_fault Store rose = tt
  may_fault (Damaged damage) refused = refused.0

  pub looks_up-failed : {T : Type 0} (fault : WalkFault)
      → IsWalkFault store.faults store'.faults (SaysOf tells store pages last header) fault
      → OnlyReads false (name_of pages) store store'
      → CountsRefusal true (seen_in opened (name_of behind) header.format limit)
      (seen_in now (name_of behind) header.format limit)
      → LooksUp {T = T} Some (tree_laws tells) (tree_at tells (name_of pages) opened header coming limit store)
      (tree_at tells (name_of behind) now header left limit store') most (Err (look_up_fault fault))
  looks_up-failed fault refused read counted = record {
    refused = lookup_fault fault refused;
    may = may_fault fault refused;
    stays =
        still_held tells store store' pages behind opened now header coming left limit most empty name few next read;
    leaves = read;
    same = tt;
    counted = subst (λ (n : List ℕ). CountsRefusal true (seen_in opened n header.format limit)
        (seen_in now (name_of behind) header.format limit)) name counted;
    reads = few;
  }

-- a damage that was met is one of the named file
pub named_defect : (tells : Bool) (store store' : StoreSeen) (pages last : Pages) (header : Header)
    → pages_of pages ≡ [] → (fault : WalkFault)
    → IsWalkFault store.faults store'.faults (SaysOf tells store pages last header) fault
    → IfDamage (look_up_fault fault) (IsNamedDefect tells (store.files (name_of pages)) header)
named_defect tells store store' pages last header empty Store rose = tt
named_defect tells store store' pages last header empty (Damaged damage) refused = λ told of.
    subst (λ (file : List ℕ). IsTreeDefect header.format file (header_of file) damage)
    (sym (shown_empty store pages empty))
    (refused.1.1 (known_empty tells store pages empty told)
    (subst (λ (file : List ℕ). AreOf header (header_of file)) (shown_empty store pages empty) of))
