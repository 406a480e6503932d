-- A whole check, from what its parts found.
use Rattle.std.proofs.Common.{◌≡◌, ℕ, ◌*◌, ◌<◌, ◌≤◌, Bool, IsTrue, Some, Result, Ok, Err, List, length, sym, ap, subst}
use Rattle.std.proofs.Common.{◌∙◌, arith}
use Rattle.std.specs.Prelude.{IfErr}
use Rattle.entry_codec.specs.Header.{header_of}
use Rattle.entry_codec.specs.Spelling.{AreOf}
use Rattle.entry_codec.specs.declared.header.Header.{Header}
use Rattle.quota_value.specs.QuotaValue.{QuotaValue}
use Rattle.quota_types.specs.declared.damage.Damage.{Damage}
use Rattle.quota_types.specs.declared.file_kind.Format.{Format}
use Rattle.file_blocks.specs.declared.check_fault.CheckFault.{CheckFault}
use Rattle.file_blocks.specs.declared.check_fault.CheckFault.TheVariants.{Store, Damage as Damaged, Memory}
use Rattle.tree_check.specs.declared.roles.Roles.{Roles}
use Rattle.free_chains.specs.Chain.{IsChain}
use Rattle.file_blocks.specs.CheckFault.{IsCheckFault}
use Rattle.tree_check.specs.Check.{IsCheckedIn}
use Rattle.byte_order.specs.declared.order.Order.{Order}
use Rattle.byte_order.specs.Words.{in_order}
use Rattle.tree_meaning.specs.Defect.{IsTreeDefectIn}
use Rattle.tree_meaning.specs.Entries.{stated_in}
use Rattle.tree_check.specs.Found.{AreRoles, IsLengthDefect, IsListedDefect, IsRoleDefect}
use Rattle.tree_check.specs.Groups.{AreGroupsOf}
use Rattle.tree_meaning.specs.Loose.{nothing_loose}
use Rattle.tree_meaning.specs.Roles.{Chained, FilledBy, OneRole}
use Rattle.quota_radix.specs.Tree.{leaves}
use Rattle.tree_meaning.specs.TreeFile.{IsSoundIn, TreeStandsForIn}
use Rattle.tree_meaning.proofs.DefectLemmas.{no_defect_of_sound}
use Rattle.tree_meaning.proofs.ValueLemmas.{sound_value}

-- what the check of the length was refused for
pub length_refused : (before now : ℕ) (tells : Bool) (order : Order) (file : List ℕ) (header : Header)
    (fault : CheckFault)
    → IsCheckFault before now (λ damage. IsTrue tells → IsLengthDefect file header.blocks damage) fault
    → IsCheckFault before now
    (λ damage. IsTrue tells → AreOf header (header_of (in_order order file))
    → IsTreeDefectIn order header.format file (header_of (in_order order file)) damage)
    fault
length_refused before now tells order file header Store is = is
length_refused before now tells order file header (Damaged damage) is =
    (is.0, λ told are. is.1 told order header.format (header_of (in_order order file)) are.blocks)
length_refused before now tells order file header Memory is = tt

-- what the check of the roles was refused for
pub roles_refused : (before between now : ℕ) (tells : Bool) (order : Order) (file there : List ℕ) (header : Header)
    (fault : CheckFault)
    → before ≤ between → there ≡ file
    → IsCheckFault between now
    (λ damage. IsTrue tells → IsRoleDefect order there header.blocks header.free damage) fault
    → IsCheckFault before now
    (λ damage. IsTrue tells → AreOf header (header_of (in_order order file))
    → IsTreeDefectIn order header.format file (header_of (in_order order file)) damage)
    fault
roles_refused before between now tells order file there header Store later same_file is = omega (arith, is)
roles_refused before between now tells order file there header (Damaged damage) later same_file is = (
  is.0,
  λ told are.
      let found : IsRoleDefect order file header.blocks header.free damage =
      subst (λ (f : List ℕ). IsRoleDefect order f header.blocks header.free damage) same_file (is.1 told) in
      found header.format (header_of (in_order order file)) are.blocks are.free,
)
roles_refused before between now tells order file there header Memory later same_file is = tt

-- what the check of the lists was refused for
pub lists_refused : (before between now : ℕ) (tells : Bool) (order : Order) (file there : List ℕ) (header : Header)
    (groups : List (List ℕ)) (fault : CheckFault)
    → before ≤ between → there ≡ file
    → (IsTrue tells → AreGroupsOf header.blocks (leaves (in_order order file) header.blocks) groups)
    → IsCheckFault between now
    (λ damage. IsTrue tells → AreGroupsOf header.blocks (leaves (in_order order there) header.blocks) groups
    → IsListedDefect order header.format there header.blocks header.first damage) fault
    → IsCheckFault before now
    (λ damage. IsTrue tells → AreOf header (header_of (in_order order file))
    → IsTreeDefectIn order header.format file (header_of (in_order order file)) damage)
    fault
lists_refused before between now tells order file there header groups Store later same_file grouped is =
    omega (arith, is)
lists_refused before between now tells order file there header groups (Damaged damage) later same_file grouped is = (
  is.0,
  λ told are.
      let found : IsListedDefect order header.format file header.blocks header.first damage =
      subst (λ (f : List ℕ). AreGroupsOf header.blocks (leaves (in_order order f) header.blocks) groups
      → IsListedDefect order header.format f header.blocks header.first damage)
      same_file (is.1 told) (grouped told) in
      found (header_of (in_order order file)) are.blocks are.first,
)
lists_refused before between now tells order file there header groups Memory later same_file grouped is = tt

-- a file with a damage stands for no value
stands_for_none : (order : Order) (file : List ℕ) (header : Header) → AreOf header (header_of (in_order order file))
    → (damage : Damage) → IsTreeDefectIn order header.format file (header_of (in_order order file)) damage
    → (value : QuotaValue) → ¬ TreeStandsForIn order file value
stands_for_none order file header are damage defect value stands =
    let found : Some value.format ≡ Some header.format = sym stands.version ∙ are.version in
    let same : value.format ≡ header.format = cc in
    no_defect_of_sound order header.format file (header_of (in_order order file))
    (subst (λ (f : Format). IsSoundIn order f file (header_of (in_order order file))) same stands.sound) damage defect

-- a file for whose damage a check was refused stands for no value
pub only_damaged : {T : Type 0} (before now : ℕ) (tells : Bool) (order : Order) (file : List ℕ) (header : Header)
    (result : Result T CheckFault)
    → IfErr result (IsCheckFault before now
    (λ damage. IsTrue tells → AreOf header (header_of (in_order order file))
    → IsTreeDefectIn order header.format file (header_of (in_order order file)) damage))
    → IfErr result
    (λ fault. (damage : Damage) → fault ≡ Damaged damage → IsTrue tells → AreOf header (header_of (in_order order file))
    → (value : QuotaValue) → ¬ TreeStandsForIn order file value)
only_damaged before now tells order file header (Ok found) is = tt
only_damaged before now tells order file header (Err (Damaged damage)) is =
    λ named same told are value. stands_for_none order file header are damage (is.1 told are) value
only_damaged before now tells order file header (Err Store) is = λ named same. absurd cc
only_damaged before now tells order file header (Err Memory) is = λ named same. absurd cc

-- the parts of a sound file, by the numbers of its header
sound_parts : (order : Order) (file : List ℕ) (header : Header) → AreOf header (header_of (in_order order file))
    → 2 ≤ header.blocks → (2 < header.blocks → 1024 * header.blocks ≤ length file)
    → OneRole nothing_loose (in_order order file) header.blocks header.free
    → Chained nothing_loose header.format (in_order order file) header.blocks header.first
    → FilledBy (stated_in order file) nothing_loose header.format (in_order order file) header.blocks
    → IsSoundIn order header.format file (header_of (in_order order file))
sound_parts order file header are two long roles chained filled =
    let words : List ℕ = in_order order file in
    record {
      two = subst (λ (b : ℕ). 2 ≤ b) (sym are.blocks) two;
      long = subst (λ (b : ℕ). 2 < b → 1024 * b ≤ length file) (sym are.blocks) long;
      roles = subst (λ (b : ℕ). OneRole nothing_loose words b (header_of words).free) (sym are.blocks)
          (subst (λ (h : ℕ). OneRole nothing_loose words header.blocks h) (sym are.free) roles);
      chained = subst (λ (b : ℕ). Chained nothing_loose header.format words b (header_of words).first) (sym are.blocks)
          (subst (λ (h : ℕ). Chained nothing_loose header.format words header.blocks h) (sym are.first) chained);
      filled = subst (λ (b : ℕ). FilledBy (stated_in order file) nothing_loose header.format words b) (sym are.blocks)
          filled;
    }

-- a file whose length, roles and lists were checked
pub is_checked : (order : Order) (file : List ℕ) (header : Header) (roles : Roles)
    → AreOf header (header_of (in_order order file)) → 2 ≤ header.blocks
    → (2 < header.blocks → 1024 * header.blocks ≤ length file)
    → AreRoles (in_order order file) header.blocks header.free roles
    → Chained nothing_loose header.format (in_order order file) header.blocks header.first
    → FilledBy (stated_in order file) nothing_loose header.format (in_order order file) header.blocks
    → IsCheckedIn order file (record { used = roles.used; free = roles.free })
is_checked order file header roles are two long found chained filled =
    let words : List ℕ = in_order order file in
    let value = sound_value order file header.kind header.format are.magic are.version
    (sound_parts order file header are two long found.one_role chained filled) in record {
      value = value.0;
      stands = value.1;
      used = found.used ∙ sym (value.4 ∙ ap (λ (b : ℕ). length (leaves words b)) are.blocks);
      free = found.one_role.free;
      is_free = subst (λ (b : ℕ). IsChain words b (header_of words).free found.one_role.free 0) (sym are.blocks)
          (subst (λ (h : ℕ). IsChain words header.blocks h found.one_role.free 0) (sym are.free)
          found.one_role.is_free);
      free_count = found.free;
    }
