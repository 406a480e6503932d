-- What is said of an opened file of one format is said of it as one of any.
use Rattle.quota_v1.specs.FlatFile.{FlatStandsFor}
use Rattle.tree_file.specs.Opened.{HoldsTree}
use Rattle.std.specs.Prelude.{IsSomeAnd, MatchBool}
use Rattle.std.proofs.lemmas.Bool.{false≢true}
use Rattle.opened_file.specs.Committed.{StandsChanged}
use Rattle.std.proofs.Common.{◌≡◌, ◌<◌, ◌≤◌, ℕ, Bool, true, false, if◌then◌else◌, Result, refl, sym, ap, subst, ◌∙◌}
use Rattle.std.proofs.Common.{arith, true≢false, List, Option, Some, None}
use Rattle.quota_types.specs.Format.{IsTreeFormat, is_flat}
use Rattle.quota_types.specs.declared.file_kind.Format.{Format}
use Rattle.quota_types.specs.declared.file_kind.Format.TheVariants.{V2R0, V2R1}
use Rattle.std.proofs.lemmas.Result.{IfErr-weaker}
use Rattle.opened_file.specs.Changes.{Changes}
use Rattle.opened_file.specs.LooksUp.{LooksUp}
use Rattle.opened_file.specs.FileChange.{FileChange, Put, Remove, SetGrace, changed_value}
use Rattle.opened_file.specs.QuotaFile.{StaysInPlace}
use Rattle.opened_file.specs.FileSeen.{FileSeen}
use Rattle.quota_value.specs.QuotaValue.{QuotaValue}
use Rattle.outside.specs.Seen.{StoreSeen}
use Rattle.outside.specs.World.{World}
use Rattle.opened_file.specs.declared.quota_file.FileFault.{FileFault}
use Rattle.opened_file.proofs.ChangesLemmas.{changes-wider}
use Rattle.tree_meaning.specs.Ids.{ids_in}
use Rattle.tree_meaning.specs.TreeFile.{TreeStandsFor}
use Rattle.quota_pages.specs.Pages.{name_of}
use Rattle.tree_file.specs.BlocksWanted.{blocks_wanted}
use Rattle.tree_file.specs.TreeChange.{TreeLeaves}
use Rattle.tree_file.specs.TreeCalls.{most_blocks, most_written, tree_at, tree_change_reads, tree_change_writes}
use Rattle.tree_file.specs.TreeCalls.{tree_done_writes, tree_laws}
use Rattle.tree_file.specs.declared.opened_tree.TreeFile.{TreeFile}
use Rattle.quota_v1.specs.Change.{FlatLeaves}
use Rattle.quota_v1.specs.Opened.{flat_at, flat_laws, most_next_reads, HoldsFlat}
use Rattle.quota_v1.specs.declared.flat_file.V1File.{V1File}
use Rattle.quota_map.specs.declared.any_file.AnyFile.{AnyFile}
use Rattle.quota_map.specs.declared.any_file.AnyFile.TheVariants.{V1, Tree}
use Rattle.quota_map.specs.AnyFile.{any_at, any_change_reads, any_change_writes, any_done_writes, any_get_reads}
use Rattle.quota_map.specs.AnyFile.{any_laws, any_next_reads, any_seen, reads_of_get, HoldsAny}
use Rattle.quota_map.specs.AnyChange.{AnyLeaves}
use Rattle.quota_map.specs.Rests.{stands_as_flat, stands_as_tree}
use Rattle.quota_map.specs.StandsFor.{StandsForAs}
use Rattle.std.specs.String.{string_bytes}

-- a change leaves the format
same_format : (change : FileChange) (value : QuotaValue) → (changed_value change value).format ≡ value.format
same_format (Put id rec) value = refl
same_format (Remove id) value = refl
same_format (SetGrace grace) value = refl

-- a flat file needs no blocks
no_blocks : (format : Format) (file : Option (List ℕ)) (ids : List ℕ) → is_flat format ≡ true
    → blocks_wanted format file ids ≡ 0
no_blocks V2R0 file ids flat = absurd (false≢true flat)
no_blocks V2R1 file ids flat = absurd (false≢true flat)
no_blocks _ file ids flat = refl

never_lacks : (file : Option (List ℕ)) (value : QuotaValue) (format : Format) (blocks limit : ℕ) → is_flat format ≡ true
    → blocks ≡ blocks_wanted format file (ids_in value.records) → ¬ (limit < blocks)
never_lacks file value format blocks limit is needs passes =
    omega (arith, needs, no_blocks format file (ids_in value.records) is, passes)

-- one of two numbers, by whether a format is flat
flat_number : (format : Format) (few many : ℕ) → is_flat format ≡ true → few ≤ (if is_flat format then few else many)
flat_number format few many is = subst (λ (b : Bool). few ≤ (if b then few else many)) (sym is) (omega arith)

tree_number : (format : Format) (few many : ℕ) → IsTreeFormat format → many ≤ (if is_flat format then few else many)
tree_number format few many other = subst (λ (b : Bool). many ≤ (if b then few else many)) (sym other) (omega arith)

either_number : (flat : Bool) (few many most : ℕ) → few ≤ most → many ≤ most → (if flat then few else many) ≤ most
either_number true few many most one other = one
either_number false few many most one other = other

-- a change of a flat file makes no more calls of `write` than one of any file may make
flat_writes : (seen : FileSeen) (change : FileChange) → is_flat seen.format ≡ true → 1 ≤ any_change_writes seen change
unfolding any_change_writes
flat_writes seen change is = flat_number seen.format 1 (tree_change_writes seen change) is

-- nor of `read`
flat_reads : (seen : FileSeen) (change : FileChange) → is_flat seen.format ≡ true → 1 ≤ any_change_reads seen change
unfolding any_change_reads
flat_reads seen change is = flat_number seen.format 1 (tree_change_reads seen change) is

-- a change of a tree file makes no more calls of `read` than one of any file may make
tree_reads : (seen : FileSeen) (change : FileChange) → IsTreeFormat seen.format
    → tree_change_reads seen change ≤ any_change_reads seen change
unfolding any_change_reads
tree_reads seen change other = tree_number seen.format 1 (tree_change_reads seen change) other

-- and no more calls of `write`
tree_writes : (seen : FileSeen) (change : FileChange) → IsTreeFormat seen.format
    → tree_change_writes seen change ≤ any_change_writes seen change
unfolding any_change_writes
tree_writes seen change other = tree_number seen.format 1 (tree_change_writes seen change) other

tree_few : (change : FileChange) → most_blocks change ≤ 12
tree_few (Put id rec) = omega arith
tree_few (Remove id) = omega arith
tree_few (SetGrace grace) = omega arith

tree_writes_few : (change : FileChange) → most_written change ≤ 12
tree_writes_few (Put id rec) = omega arith
tree_writes_few (Remove id) = omega arith
tree_writes_few (SetGrace grace) = omega arith

-- a change of any file makes twelve calls of `read` at most
pub any_few_reads : (seen : FileSeen) (change : FileChange) → any_change_reads seen change ≤ 12
unfolding any_change_reads
any_few_reads seen change =
    either_number (is_flat seen.format) 1 (tree_change_reads seen change) 12 (omega arith) (tree_few change)

-- one call of `get` makes five at most
pub any_few_gets : any_get_reads ≡ 5
unfolding any_get_reads
any_few_gets = refl

-- a change of any file makes twelve calls of `write` at most
pub any_few_writes : (seen : FileSeen) (change : FileChange) → any_change_writes seen change ≤ 12
unfolding any_change_writes
any_few_writes seen change =
    either_number (is_flat seen.format) 1 (tree_change_writes seen change) 12 (omega arith) (tree_writes_few change)

-- nor where it succeeds, whatever the format
flat_done_writes : (seen : FileSeen) (value : QuotaValue) (change : FileChange) → is_flat seen.format ≡ true
    → 1 ≤ any_done_writes seen value change
unfolding any_done_writes
flat_done_writes seen value change is = flat_number seen.format 1 (tree_done_writes seen value change) is

tree_done : (seen : FileSeen) (value : QuotaValue) (change : FileChange) → IsTreeFormat seen.format
    → tree_done_writes seen value change ≤ any_done_writes seen value change
unfolding any_done_writes
tree_done seen value change other = tree_number seen.format 1 (tree_done_writes seen value change) other

-- what a change of a tree file leaves is left as one of its format
tree_leaves : (format : Format) (old after left : Option (List ℕ)) → IsTreeFormat format → TreeLeaves old after left
    → AnyLeaves format old after left
tree_leaves format old after left other leaves =
    subst (λ (b : Bool). MatchBool b (FlatLeaves old after left) (TreeLeaves old after left)) (sym other) leaves

-- and of a flat file
flat_leaves : (format : Format) (old after left : Option (List ℕ)) → is_flat format ≡ true → FlatLeaves old after left
    → AnyLeaves format old after left
flat_leaves format old after left flat leaves =
    subst (λ (b : Bool). MatchBool b (FlatLeaves old after left) (TreeLeaves old after left)) (sym flat) leaves

-- a tree file stands for a value as one of its format does
stands_tree : (format : Format) (bytes : List ℕ) (value : QuotaValue) → IsTreeFormat format → TreeStandsFor bytes value
    → StandsForAs format bytes value
stands_tree format bytes value other stands = stands_as_tree format (Some bytes) value other stands

stands_flat : (format : Format) (bytes : List ℕ) (value : QuotaValue) → is_flat format ≡ true
    → FlatStandsFor format bytes value → StandsForAs format bytes value
stands_flat format bytes value flat stands = stands_as_flat format (Some bytes) value flat stands

-- a change of a flat file
pub flat_changes : (self : AnyFile) (file file' : V1File) (tells : Bool) (old new : StoreSeen) (change : FileChange)
    (result : Result (Unit {0}) FileFault) → self ≡ V1 file
    → Changes change (flat_laws tells)
    (flat_at tells old (string_bytes file.name) file.opened file.format file.len file.times file.window)
    (flat_at tells new (string_bytes file'.name) file'.opened file'.format file'.len file'.times file'.window) result
    → Changes change (any_laws tells) (any_at tells old self) (any_at tells new (V1 file')) result
flat_changes self file file' tells old new change result is changes =
    subst (λ (f : AnyFile).
    Changes change (any_laws tells) (any_at tells old f) (any_at tells new (V1 file')) result) (sym is)
    (changes-wider change (flat_laws tells) (any_laws tells) (any_at tells old (V1 file))
    (any_at tells new (V1 file')) result
    (record {
      tells = refl;
      stands_for = λ bytes value. stands_flat file.format bytes value file.flat;
      reads = flat_reads (any_seen (V1 file)) change file.flat;
      writes = flat_writes (any_seen (V1 file)) change file.flat;
      done_writes = λ value holds. flat_done_writes (any_seen (V1 file)) value change file.flat;
      makes =
          λ files makes. record { flat = λ same. makes; tree = λ other. absurd (true≢false (sym file.flat ∙ other)) };
      may_leave = λ any before after left. flat_leaves file.format before after left file.flat;
      may_refuse =
          λ fault may. record { flat = λ same. may; tree = λ other. absurd (true≢false (sym file.flat ∙ other)) };
      lacks = λ value blocks limit held lacks. absurd lacks;
      has = λ value blocks limit held lacks.
          absurd (never_lacks (old.files (string_bytes file.name)) (changed_value change value)
          (changed_value change value).format blocks limit
          (ap is_flat (same_format change value ∙ held.stands.format) ∙ file.flat) lacks.needs lacks.passes);
    })
    changes)

-- a change of a tree file
pub tree_changes : (self : AnyFile) (file file' : TreeFile) (tells : Bool) (old new : StoreSeen) (change : FileChange)
    (result : Result (Unit {0}) FileFault) → self ≡ Tree file
    → IsTreeFormat file.header.format
    → Changes change (tree_laws tells)
    (tree_at tells (name_of file.pages) file.opened file.header file.coming file.limit old)
    (tree_at tells (name_of file'.pages) file'.opened file'.header file'.coming file'.limit new) result
    → Changes change (any_laws tells) (any_at tells old self) (any_at tells new (Tree file')) result
tree_changes self file file' tells old new change result is other changes =
    subst (λ (f : AnyFile).
    Changes change (any_laws tells) (any_at tells old f) (any_at tells new (Tree file')) result) (sym is)
    (changes-wider change (tree_laws tells)
    (any_laws tells) (any_at tells old (Tree file)) (any_at tells new (Tree file')) result
    (record {
      tells = refl;
      stands_for = λ bytes value. stands_tree file.header.format bytes value other;
      reads = tree_reads (any_seen (Tree file)) change other;
      writes = tree_writes (any_seen (Tree file)) change other;
      done_writes = λ value holds. tree_done (any_seen (Tree file)) value change other;
      makes = λ files makes. record { flat = λ same. absurd (true≢false (sym same ∙ other)); tree = λ other. makes };
      may_leave = λ any before after left. tree_leaves file.header.format before after left other;
      may_refuse = λ fault may. record { flat = λ same. absurd (true≢false (sym same ∙ other)); tree = λ other. may };
      lacks = λ value blocks limit held lacks. lacks;
      has = λ value blocks limit held lacks. lacks;
    })
    changes)

-- a look-up in a tree file makes no more calls of `read` than one in any file of its format may make
pub tree_get_few : (format : Format) → IsTreeFormat format → 5 ≤ reads_of_get format
tree_get_few format other = tree_number format 1 5 other

-- whatever the format, there are no more than in any file
pub get_few : (format : Format) → reads_of_get format ≤ any_get_reads
unfolding any_get_reads
get_few format = either_number (is_flat format) 1 5 5 (omega arith) (omega arith)

pub tree_next_few : (seen : FileSeen) (file : Option (List ℕ)) → IsTreeFormat seen.format → 8 ≤ any_next_reads seen file
unfolding any_next_reads
tree_next_few seen file other = tree_number seen.format (most_next_reads seen.format) 8 other

-- nor does one in a flat file
pub flat_get_few : (format : Format) → is_flat format ≡ true → 1 ≤ reads_of_get format
flat_get_few format is = flat_number format 1 5 is

pub flat_next_few : (seen : FileSeen) (file : Option (List ℕ)) → is_flat seen.format ≡ true
    → most_next_reads seen.format ≤ any_next_reads seen file
unfolding any_next_reads
flat_next_few seen file is = flat_number seen.format (most_next_reads seen.format) 8 is

-- a look-up in a flat file
pub flat_looks : {T : Type 0} (self : AnyFile) (file file' : V1File) (tells : Bool) (old new : StoreSeen) (few most : ℕ)
    (result : Result T FileFault) → self ≡ V1 file → few ≤ most
    → LooksUp Some (flat_laws tells)
    (flat_at tells old (string_bytes file.name) file.opened file.format file.len file.times file.window)
    (flat_at tells new (string_bytes file'.name) file'.opened file'.format file'.len file'.times file'.window)
    few result
    → LooksUp Some (any_laws tells) (any_at tells old self) (any_at tells new (V1 file')) most result
flat_looks {T} self file file' tells old new few most result is within looks =
    subst (λ (f : AnyFile).
    LooksUp {T = T} Some (any_laws tells) (any_at tells old f) (any_at tells new (V1 file')) most result) (sym is)
    (record {
      refused = looks.refused;
      may = IfErr-weaker result _ _
          (λ fault may. record { flat = λ same. may; tree = λ other. absurd (true≢false (sym file.flat ∙ other)) })
          looks.may;
      stays = looks.stays;
      leaves = looks.leaves;
      same = looks.same;
      counted = looks.counted;
      reads = omega (arith, looks.reads, within);
    })

-- a look-up in a tree file
pub tree_looks : {T : Type 0} (self : AnyFile) (file file' : TreeFile) (tells : Bool) (old new : StoreSeen)
    (few most : ℕ) (result : Result T FileFault) → self ≡ Tree file → IsTreeFormat file.header.format
    → few ≤ most
    → LooksUp Some (tree_laws tells)
    (tree_at tells (name_of file.pages) file.opened file.header file.coming file.limit old)
    (tree_at tells (name_of file'.pages) file'.opened file'.header file'.coming file'.limit new) few result
    → LooksUp Some (any_laws tells) (any_at tells old self) (any_at tells new (Tree file')) most result
tree_looks {T} self file file' tells old new few most result is other within looks =
    subst (λ (f : AnyFile).
    LooksUp {T = T} Some (any_laws tells) (any_at tells old f) (any_at tells new (Tree file')) most result) (sym is)
    (record {
      refused = looks.refused;
      may = IfErr-weaker result _ _
          (λ fault may. record { flat = λ same. absurd (true≢false (sym same ∙ other)); tree = λ is_tree. may })
          looks.may;
      stays = looks.stays;
      leaves = looks.leaves;
      same = looks.same;
      counted = looks.counted;
      reads = omega (arith, looks.reads, within);
    })

-- a change of a flat file is made in place
pub flat_in_place : (self : AnyFile) (file : V1File) (tells : Bool) (old new : World)
    (result : Result (Unit {0}) FileFault) → self ≡ V1 file
    → StaysInPlace tells (string_bytes file.name) old new result
    → StaysInPlace tells (any_seen self).name old new result
flat_in_place self file tells old new result is stays =
    subst (λ (f : AnyFile). StaysInPlace tells (any_seen f).name old new result) (sym is) stays

-- one of a tree file is
pub tree_in_place : (self : AnyFile) (file : TreeFile) (tells : Bool) (old new : World)
    (result : Result (Unit {0}) FileFault) → self ≡ Tree file
    → StaysInPlace tells (name_of file.pages) old new result → StaysInPlace tells (any_seen self).name old new result
tree_in_place self file tells old new result is stays =
    subst (λ (f : AnyFile). StaysInPlace tells (any_seen f).name old new result) (sym is) stays

-- of a file that stands for something as one of its format does, as one of any
some_stands : (after : Option (List ℕ)) (one other : List ℕ → Type 0) → ((bytes : List ℕ) → one bytes → other bytes)
    → IsSomeAnd after one → IsSomeAnd after other
some_stands None one other so is = is
some_stands (Some bytes) one other so is = so bytes is

-- a flat file stands for what a change makes of what was held
pub flat_stands_changed : (self : AnyFile) (file : V1File) (tells : Bool) (old new : World) (change : FileChange)
    → self ≡ V1 file
    → StandsChanged change (HoldsFlat tells (old (string_bytes file.name)) file.format file.len file.times file.window)
    (FlatStandsFor file.format) (new (string_bytes file.name))
    → StandsChanged change (HoldsAny tells old self) (StandsForAs (any_seen self).format) (new (any_seen self).name)
flat_stands_changed self file tells old new change is stands =
    subst (λ (f : AnyFile).
    StandsChanged change (HoldsAny tells old f) (StandsForAs (any_seen f).format) (new (any_seen f).name)) (sym is)
    (λ value held. stands_as_flat file.format (new (string_bytes file.name)) (changed_value change value) file.flat
    (stands value held))

-- and a tree file
pub tree_stands_changed : (self : AnyFile) (file : TreeFile) (tells : Bool) (old new : World) (change : FileChange)
    → self ≡ Tree file → IsTreeFormat file.header.format
    → StandsChanged change (HoldsTree tells (old (name_of file.pages)) file.header file.coming file.limit) TreeStandsFor
    (new (name_of file.pages))
    → StandsChanged change (HoldsAny tells old self) (StandsForAs (any_seen self).format) (new (any_seen self).name)
tree_stands_changed self file tells old new change is other stands =
    subst (λ (f : AnyFile).
    StandsChanged change (HoldsAny tells old f) (StandsForAs (any_seen f).format) (new (any_seen f).name)) (sym is)
    (λ value held.
    some_stands (new (name_of file.pages)) (λ bytes. TreeStandsFor bytes (changed_value change value))
    (λ bytes. StandsForAs file.header.format bytes (changed_value change value))
    (λ bytes. stands_tree file.header.format bytes (changed_value change value) other) (stands value held))
