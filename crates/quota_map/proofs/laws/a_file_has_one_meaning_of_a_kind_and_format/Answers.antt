use Rattle.std.proofs.Common.{◌≡◌, ℕ, Bool, true, false, List, sym, subst}
use Rattle.std.specs.Prelude.{MatchBool}
use Rattle.quota_types.specs.Format.{is_flat}
use Rattle.quota_types.specs.declared.file_kind.Format.{Format}
use Rattle.quota_value.specs.QuotaValue.{QuotaValue}
use Rattle.byte_order.specs.declared.order.Order.TheVariants.{Little}
use Rattle.tree_meaning.specs.TreeFile.{TreeStandsFor}
use Rattle.quota_v1.specs.FlatFile.{FlatStandsFor}
use Rattle.quota_map.specs.StandsFor.{StandsForAs}
use Rattle.quota_map.proofs.laws.a_file_has_one_meaning_of_a_kind_and_format.Goals as goal

-- read as one of the same format
one_meaning : (flat : Bool) (file : List ℕ) (format : Format) (value other : QuotaValue)
    → (FlatStandsFor format file value → FlatStandsFor format file other → value ≡ other)
    → (TreeStandsFor file value → TreeStandsFor file other → value ≡ other)
    → MatchBool flat (FlatStandsFor format file value) (TreeStandsFor file value)
    → MatchBool flat (FlatStandsFor format file other) (TreeStandsFor file other) → value ≡ other
one_meaning true file format value other flat tree stands stands' = flat stands stands'
one_meaning false file format value other flat tree stands stands' = tree stands stands'

pub returns : goal.returns
returns c file value other stands stands' kind format =
    one_meaning (is_flat value.format) file value.format value other
    (λ s s'. c.a_file_has_one_meaning_of_a_kind.ensures value.format file value other s s' kind)
    (λ s s'. c.a_file_has_one_meaning.ensures Little file value other s s')
    stands (subst (λ (f : Format). StandsForAs f file other) (sym format) stands')
