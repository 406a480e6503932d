-- Kinds of damage of a quota file, as error lines name them.
use Rattle.std.specs.Prelude.{ℕ, Bool, true, false, List, codes, ◌≡◌, MatchBool, ⊤}
use Rattle.quota_types.specs.declared.damage.DamageKind.{DamageKind}
use Rattle.quota_types.specs.declared.damage.DamageKind.TheVariants.{Short, RefOut, TwoRoles, NoRole, EmptyTree}
use Rattle.quota_types.specs.declared.damage.DamageKind.TheVariants.{ChainOut, ChainLoop, ForeignInChain}
use Rattle.quota_types.specs.declared.damage.DamageKind.TheVariants.{MissingInChain, BadPrev, BadCount, MissingEntry}
use Rattle.quota_types.specs.declared.damage.DamageKind.TheVariants.{StrayEntry, DoubleEntry, PartialRecord}

-- the name of a kind of damage
abbrev pub damage_name : DamageKind → List ℕ
damage_name Short = codes "Short"
damage_name RefOut = codes "RefOut"
damage_name TwoRoles = codes "TwoRoles"
damage_name NoRole = codes "NoRole"
damage_name EmptyTree = codes "EmptyTree"
damage_name ChainOut = codes "ChainOut"
damage_name ChainLoop = codes "ChainLoop"
damage_name ForeignInChain = codes "ForeignInChain"
damage_name MissingInChain = codes "MissingInChain"
damage_name BadPrev = codes "BadPrev"
damage_name BadCount = codes "BadCount"
damage_name MissingEntry = codes "MissingEntry"
damage_name StrayEntry = codes "StrayEntry"
damage_name DoubleEntry = codes "DoubleEntry"
damage_name PartialRecord = codes "PartialRecord"

-- whether a damage is about one identifier
abbrev pub names_identifier : DamageKind → Bool
names_identifier MissingEntry = true
names_identifier StrayEntry = true
names_identifier DoubleEntry = true
names_identifier _ = false

-- A damage that is in an entry of an identifier names it, and any other damage of a tree file names 0. A record cut off
-- is no damage of a tree file.
abbrev pub NamesItsId : DamageKind → ℕ → Type 0
NamesItsId PartialRecord id = ⊥
NamesItsId kind id = MatchBool (names_identifier kind) ⊤ (id ≡ 0)
