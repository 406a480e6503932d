use Rattle.std.proofs.Common.{◌≤◌, length, arith}
use Rattle.quota_v1.specs.Place.{flat_limit}
use Rattle.quota_map.proofs.FlatLemmas.{flat_built, flat_built_seen, flat_case}
use Rattle.quota_map.proofs.replacing.built.Goals as goal

pub returns-in_ok-build_v1-in-V1-clause-stands : goal.returns-in_ok-build_v1-in-V1-clause-stands
returns-in_ok-build_v1-in-V1-clause-stands c =
    flat_built c.args.format c.args.kind c.args.grace c.args.flags c.args.list.now c.in_ok-build_v1-in-V1.field-0.items
    (flat_case c.args.format c.in-V1.is)
    (c.in_ok-build_v1-in-V1.ensures.stands c.args.kind)

pub returns-in_ok-build_v1-in-V1-clause-seen : goal.returns-in_ok-build_v1-in-V1-clause-seen
returns-in_ok-build_v1-in-V1-clause-seen c =
    let file = c.in_ok-build_v1-in-V1.field-0 in
    let few : length file.items ≤ flat_limit c.args.format =
    omega (arith, c.in_ok-build_v1-in-V1.ensures.limited, file.ok) in
    λ most. flat_built_seen c.args.format c.args.kind c.args.grace c.args.flags c.args.list.now file.items
    (flat_case c.args.format c.in-V1.is) few
    (c.in_ok-build_v1-in-V1.ensures.stands c.args.kind)
