-- Files that are seen alike.
use Rattle.std.proofs.Common.{◌≡◌, ℕ, List, ◌∷◌, Option}
use Rattle.std.proofs.Common.{Ok, Err, Result, sym, subst, ◌∙◌}
use Rattle.quota_types.specs.declared.file_kind.Kind.{Kind}
use Rattle.outside.specs.Seen.{Datagram}
use Rattle.quota_value.specs.QuotaValue.{QuotaValue}
use Rattle.opened_file.specs.declared.quota_file.OpenFault.{OpenFault}
use Rattle.quota_map.specs.Asked.{Asked}
use Rattle.quota_map.specs.View.{IsView}
use Rattle.run_steps.specs.SameViews.{IsSeenAlike}
use Rattle.quota_map.proofs.OneViewLemmas.{one_view}

-- Files that are seen alike.

-- what is seen of the one is seen of the other
pub seen_too : (kind : Kind) (asked : Asked) (one other : Option (List ℕ)) (view : Result QuotaValue OpenFault)
    → IsSeenAlike kind asked one other → IsView one kind asked view → IsView other kind asked view
seen_too kind asked one other view alike seen =
    subst (λ (v : Result QuotaValue OpenFault). IsView other kind asked v)
    (one_view one kind asked alike.view view alike.undamaged alike.in_one seen) alike.in_other

-- what is seen of the one and of the other is the same
pub seen_same : (kind : Kind) (asked : Asked) (one other : Option (List ℕ)) (view also : Result QuotaValue OpenFault)
    → IsSeenAlike kind asked one other
    → IsView one kind asked view → IsView other kind asked also → view ≡ also
seen_same kind asked one other view also alike seen in_other =
    sym (one_view one kind asked alike.view view alike.undamaged alike.in_one seen)
    ∙ one_view other kind asked alike.view also alike.undamaged alike.in_other in_other

abbrev as_value : QuotaValue → Result QuotaValue OpenFault
as_value value = Ok value

abbrev as_fault : OpenFault → Result QuotaValue OpenFault
as_fault fault = Err fault

pub same_value : (value other : QuotaValue) → as_value value ≡ as_value other → value ≡ other
same_value value other same = cc

pub same_fault : (fault other : OpenFault) → as_fault fault ≡ as_fault other → fault ≡ other
same_fault fault other same = cc

pub not_both : (value : QuotaValue) (fault : OpenFault) → as_value value ≡ as_fault fault → ⊥
not_both value fault same = cc

pub same_first : (datagram other : Datagram) (left rest : List Datagram) → (datagram ∷ left) ≡ (other ∷ rest)
    → (datagram ≡ other) × (left ≡ rest)
same_first datagram other left rest same = (cc, cc)
