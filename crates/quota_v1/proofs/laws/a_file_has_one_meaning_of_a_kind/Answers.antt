use Rattle.std.proofs.Common.{◌≡◌, sym, ◌∙◌}
use Rattle.std.specs.Cmp.{nat_cmp_total}
use Rattle.std.specs.FinMap.{nat_cmp-IsAntisymmetric, same_map}
use Rattle.quota_v1.proofs.laws.a_file_has_one_meaning_of_a_kind.Goals as goal

pub returns : goal.returns
returns c layout file value other stands stands' kind =
    let format : value.format ≡ other.format = stands.format ∙ sym stands'.format in
    let grace : value.grace ≡ other.grace = stands.grace ∙ sym stands'.grace in
    let flags : value.flags ≡ other.flags = stands.flags ∙ sym stands'.flags in
    let records : value.records ≡ other.records =
    same_map nat_cmp_total nat_cmp-IsAntisymmetric value.records other.records
    (λ id. stands.records id ∙ sym (stands'.records id)) in
    λ i. record { kind = kind i; format = format i; grace = grace i; flags = flags i; records = records i }
