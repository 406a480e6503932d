-- What is wrong with a file in which a block has no entry of the identifier whose awaited leaf leads to it.
use Rattle.std.proofs.Common.{◌≡◌, ℕ, Bool, cond, List, ◌∷◌, map, Some, None, refl, sym, ap, subst, ◌∙◌, arith, eq-eqb}
use Rattle.std.specs.Prelude.{◌==◌}
use Rattle.std.specs.List.{filter}
use Rattle.quota_types.specs.Times.{StandsIn}
use Rattle.quota_types.proofs.TimesLemmas.{times-cons-same}
use Rattle.quota_types.specs.declared.file_kind.Format.{Format}
use Rattle.file_blocks.specs.Block.{block_of}
use Rattle.quota_value.specs.QuotaValue.{Records}
use Rattle.quota_radix.specs.Tree.{ids_at, leaves}
use Rattle.quota_radix.specs.declared.tree_path.TreePath.{TreePath}
use Rattle.free_chains.specs.declared.heads.Heads.{Heads}
use Rattle.tree_meaning.specs.Loose.{Loose, loose_of}
use Rattle.tree_meaning.specs.Roles.{counted_leaves}
use Rattle.tree_meaning.specs.TreeFile.{record_in}
use Rattle.tree_meaning.proofs.ValueLemmas.{found_used}
use Rattle.tree_change.specs.Shows.{IsWholeTree}

-- an identifier that leads to a block has a record there
entry_there : (loose : Loose) (format : Format) (file : List ℕ) (heads : Heads) (records : Records) (id block : ℕ)
    → IsWholeTree loose format file heads records
    → StandsIn (ids_at (counted_leaves loose file heads.blocks) block) id
    → ¬ (record_in format (block_of file block) id ≡ None)
entry_there loose format file heads records id block tree leads none =
    let found = found_used format (block_of file block) id (omega (arith, tree.filled.one_entry block id leads)) in
    let is : Some found.0 ≡ None = sym found.1 ∙ none in
    absurd cc

-- an awaited leaf leads to no block that has no entry of its identifier
pub awaited_no_tree : (held : List ℕ) (format : Format) (file : List ℕ) (heads : Heads) (records : Records)
    (id block : ℕ) → record_in format (block_of file block) id ≡ None
    → ¬ IsWholeTree (loose_of held (Some (record { number = id; block = block })) None) format file heads records
awaited_no_tree held format file heads records id block none tree =
    let leaf : TreePath = record { number = id; block = block } in
    let ps : List TreePath = leaves file heads.blocks in
    let own : ids_at (leaf ∷ ps) block ≡ id ∷ ids_at ps block =
    ap (λ (b : Bool). map (λ (path : TreePath). path.number)
    (cond b (leaf ∷ filter (λ (path : TreePath). path.block == block) ps)
    (filter (λ (path : TreePath). path.block == block) ps))) (eq-eqb block block refl) in
    entry_there (loose_of held (Some leaf) None) format file heads records id block tree
    (subst (λ (ids : List ℕ). StandsIn ids id) (sym own) (omega (arith, times-cons-same id (ids_at ps block))))
    none
