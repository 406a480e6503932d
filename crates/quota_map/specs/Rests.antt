-- What an opened file of any format holds rests on the named file alone, which stands for it.
use Rattle.std.specs.Prelude.{◌≡◌, Bool, true, MatchBool, List, ℕ, Option, IsSomeAnd}
use Rattle.std.proofs.Common.{sym, subst}
use Rattle.std.specs.String.{string_bytes}
use Rattle.quota_value.specs.QuotaValue.{QuotaValue}
use Rattle.outside.specs.World.{World}
use Rattle.quota_types.specs.Format.{IsTreeFormat, is_flat}
use Rattle.quota_types.specs.declared.file_kind.Format.{Format}
use Rattle.tree_meaning.specs.TreeFile.{TreeStandsFor}
use Rattle.quota_pages.specs.Pages.{name_of}
use Rattle.tree_file.specs.Rests.{held_stands as tree_stands, rests_on_named as tree_rests}
use Rattle.quota_v1.specs.FlatFile.{FlatStandsFor}
use Rattle.quota_v1.specs.Rests.{held_stands as flat_stands, rests_on_named as flat_rests}
use Rattle.quota_map.specs.declared.any_file.AnyFile.{AnyFile}
use Rattle.quota_map.specs.declared.any_file.AnyFile.TheVariants.{V1, Tree}
use Rattle.quota_map.specs.AnyFile.{HoldsAny, any_seen}
use Rattle.quota_map.specs.StandsFor.{StandsForAs}

-- another store with the same named file
pub rests_on_named : (tells : Bool) (files files' : World) (file : AnyFile) (value : QuotaValue)
    → files' (any_seen file).name ≡ files (any_seen file).name
    → HoldsAny tells files file value → HoldsAny tells files' file value
rests_on_named tells files files' (V1 file) value named held =
    flat_rests tells (files (string_bytes file.name)) (files' (string_bytes file.name)) file.format file.len file.times
    file.window value named held
rests_on_named tells files files' (Tree file) value named held =
    tree_rests tells (files (name_of file.pages)) (files' (name_of file.pages)) file.header file.coming file.limit
    value named held

-- a tree file stands for a value as one of its format does
pub stands_as_tree : (format : Format) (file : Option (List ℕ)) (value : QuotaValue) → IsTreeFormat format
    → IsSomeAnd file (λ bytes. TreeStandsFor bytes value)
    → IsSomeAnd file (λ bytes. StandsForAs format bytes value)
stands_as_tree format file value other stands =
    subst (λ (b : Bool). IsSomeAnd file
    (λ bytes. MatchBool b (FlatStandsFor format bytes value) (TreeStandsFor bytes value))) (sym other) stands

-- and a flat file does
pub stands_as_flat : (format : Format) (file : Option (List ℕ)) (value : QuotaValue) → is_flat format ≡ true
    → IsSomeAnd file (λ bytes. FlatStandsFor format bytes value)
    → IsSomeAnd file (λ bytes. StandsForAs format bytes value)
stands_as_flat format file value flat stands =
    subst (λ (b : Bool). IsSomeAnd file
    (λ bytes. MatchBool b (FlatStandsFor format bytes value) (TreeStandsFor bytes value))) (sym flat) stands

-- the named file stands for what is held
pub held_stands : (tells : Bool) (files : World) (file : AnyFile) (value : QuotaValue) → HoldsAny tells files file value
    → IsSomeAnd (files (any_seen file).name) (λ bytes. StandsForAs (any_seen file).format bytes value)
held_stands tells files (V1 file) value held =
    stands_as_flat file.format (files (string_bytes file.name)) value file.flat
    (flat_stands tells (files (string_bytes file.name)) file.format file.len file.times file.window value held)
held_stands tells files (Tree file) value held =
    stands_as_tree file.header.format (files (name_of file.pages)) value file.tree
    (tree_stands tells (files (name_of file.pages)) file.header file.coming file.limit value held)
