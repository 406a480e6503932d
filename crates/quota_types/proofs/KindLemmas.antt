-- A kind is the one with its number.
use Rattle.std.proofs.Common.{◌≡◌, true, Some, refl, sym, ap, ◌∙◌, arith}
use Rattle.std.proofs.lemmas.Option.{same_Some}
use Rattle.quota_types.specs.declared.file_kind.Kind.{Kind}
use Rattle.quota_types.specs.declared.file_kind.Kind.TheVariants.{User, Group, Project}
use Rattle.quota_types.specs.Kind.{kind_number, kind_numbered, kinds_eq}

pub kind_numbered-number : (kind : Kind) → kind_numbered (kind_number kind) ≡ Some kind
kind_numbered-number User = refl
kind_numbered-number Group = refl
kind_numbered-number Project = refl

pub kind_number-injective : (kind other : Kind) → kind_number kind ≡ kind_number other → kind ≡ other
kind_number-injective kind other same =
    same_Some kind other (sym (kind_numbered-number kind) ∙ ap kind_numbered same ∙ kind_numbered-number other)

pub kinds_eq-true : (kind other : Kind) → kinds_eq kind other ≡ true → kind ≡ other
kinds_eq-true kind other is =
    let same : kind_number kind ≡ kind_number other = grind arith in
    kind_number-injective kind other same

pub kinds_eq-same : (kind : Kind) → kinds_eq kind kind ≡ true
kinds_eq-same User = refl
kinds_eq-same Group = refl
kinds_eq-same Project = refl
