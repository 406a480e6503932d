-- Entries that come next are found one after another, by the references that follow in a block of the lowest level.
use Rattle.std.proofs.Common.{◌≡◌, ℕ, ◌*◌, ◌/◌, ◌%◌, ◌^◌, ◌<◌, Bool, true, cond, ◌==◌, List, [], ◌∷◌, ◌++◌, find}
use Rattle.std.proofs.Common.{Option, Some, None, option_and_then, option_map, unwrap_or, refl, sym, ap, subst, ◌∙◌}
use Rattle.std.proofs.Common.{inl, inr, arith}
use Rattle.std.proofs.lemmas.Bool.{cases_Bool}
use Rattle.quota_types.specs.Bytes.{number_at}
use Rattle.quota_types.specs.Kept.{IsKept}
use Rattle.quota_types.specs.declared.file_kind.Format.{Format}
use Rattle.quota_types.specs.declared.record.Rec.{Rec}
use Rattle.file_blocks.specs.Block.{block_of, leads, word_at}
use Rattle.quota_value.specs.QuotaValue.{QuotaValue, Records}
use Rattle.quota_value.specs.NextRecord.{IsNextAfter}
use Rattle.quota_radix.specs.Descent.{leaf_block, leaf_from}
use Rattle.quota_radix.specs.OnWay.{block_led_to, led_by}
use Rattle.quota_radix.specs.LeafAfter.{first_after, leaf_after}
use Rattle.quota_radix.specs.declared.tree_path.TreePath.{TreePath}
use Rattle.quota_radix.proofs.DescentLemmas.{leaf_led_to, option_cases}
use Rattle.quota_radix.proofs.LeafLemmas.{IsLeaf, leaf_of_block, no_leaf_of_block}
use Rattle.quota_radix.specs.Tree.{leaves}
use Rattle.tree_meaning.specs.EntryRecords.{IsRecordIn}
use Rattle.tree_file.specs.Coming.{AreFit, AreNext, StandsBy, entry_by}
use Rattle.tree_file.proofs.LookupLemmas.{near_record, next_leaf, no_record}

-- the last identifier of some, or that before them
abbrev pub last_of : ℕ → List (ℕ × Rec) → ℕ
last_of after [] = after
last_of after (found ∷ rest) = last_of found.0 rest

pub last_of-push : (after : ℕ) (xs : List (ℕ × Rec)) (x : ℕ × Rec) → last_of after (xs ++ x ∷ []) ≡ x.0
last_of-push after [] x = refl
last_of-push after (y ∷ ys) x = last_of-push y.0 ys x

-- one more entry comes next
pub AreNext-push : (records : Records) (after : ℕ) (xs : List (ℕ × Rec)) (x : ℕ × Rec) → AreNext records after xs
    → IsNextAfter (Some (last_of after xs)) records (Some (entry_by x)) → AreNext records after (xs ++ x ∷ [])
AreNext-push records after [] x all next = (next, tt)
AreNext-push records after (y ∷ ys) x all next = (all.0, AreNext-push records y.0 ys x all.1 next)

pub AreFit-push : (format : Format) (after : ℕ) (xs : List (ℕ × Rec)) (x : ℕ × Rec) → AreFit format after xs
    → last_of after xs < x.0 → x.0 < 2 ^ 32 → IsKept format x.0 x.1 → AreFit format after (xs ++ x ∷ [])
AreFit-push format after [] x all later narrow kept = (later, narrow, kept, tt)
AreFit-push format after (y ∷ ys) x all later narrow kept =
    (all.0, all.1, all.2, AreFit-push format y.0 ys x all.3 later narrow kept)

-- a block to which a digit leads is one of the file other than that of the header
led_inside : (file : List ℕ) (blocks digit : ℕ) (from : Option ℕ) (block : ℕ)
    → option_and_then (led_by file blocks digit) from ≡ Some block → leads blocks block ≡ true
led_inside file blocks digit None block is = absurd (let no : None ≡ Some block = is in cc)
led_inside file blocks digit (Some at) block is =
    let word : ℕ = word_at file at digit in
    elim (cases_Bool (leads blocks word)) [
      | inl leads_on ↦
          let led : Some word ≡ Some block = sym (ap (λ (b : Bool). cond b (Some word) None) leads_on) ∙ is in
          let same : word ≡ block = cc in
          ap (leads blocks) (sym same) ∙ leads_on
      | inr leads_off ↦
          absurd (let none : None ≡ Some block = sym (ap (λ (b : Bool). cond b (Some word) None) leads_off) ∙ is in cc)
    ]

-- and so is the data block of a leaf
pub leaf_inside : (file : List ℕ) (blocks id block : ℕ) → leaf_block file blocks id ≡ Some block
    → leads blocks block ≡ true
leaf_inside file blocks id block is = led_inside file blocks (id % 256) (block_led_to file blocks 3 (id / 256)) block is

-- an identifier whose reference is 0 has no leaf
none_by_reference : (file : List ℕ) (blocks id at : ℕ) → block_led_to file blocks 3 (id / 256) ≡ Some at
    → word_at file at (id % 256) ≡ 0 → None ≡ leaf_block file blocks id
none_by_reference file blocks id at led zero =
    sym (ap (option_and_then (led_by file blocks (id % 256))) led
    ∙ ap (λ (w : ℕ). cond (leads blocks w) (Some w) None) zero)

-- one whose reference names a block has its leaf there
leaf_by_reference : (file : List ℕ) (blocks id at block : ℕ) → block_led_to file blocks 3 (id / 256) ≡ Some at
    → block ≡ word_at file at (id % 256) → leads blocks block ≡ true → Some block ≡ leaf_block file blocks id
leaf_by_reference file blocks id at block led is inside =
    sym (ap (option_and_then (led_by file blocks (id % 256))) led
    ∙ ap (λ (w : ℕ). cond (leads blocks w) (Some w) None) (sym is) ∙ ap (λ (b : Bool). cond b (Some block) None) inside)

-- The next reference behind an identifier's is that of the next entry.
pub next_by_reference : (format : Format) (lowest data_block : List ℕ) (after block id : ℕ) (rec : Rec)
    (value : QuotaValue) → StandsBy format lowest data_block (after / 256) block value
    → after < id → id < 2 ^ 32 → id / 256 ≡ after / 256 → block ≡ number_at 4 lowest (4 * (id % 256))
    → ((other : ℕ) → after < other → other < id → number_at 4 lowest (4 * (other % 256)) ≡ 0)
    → IsRecordIn format data_block id rec
    → IsNextAfter (Some after) value.records (Some (record { id = id; rec = rec }))
next_by_reference format lowest data_block after block id rec value by later narrow beside reference between there =
    let file : List ℕ = by.file in
    let blocks : ℕ = by.header.blocks in
    let at : ℕ = by.leads_there.block in
    let word : (other : ℕ) → number_at 4 lowest (4 * (other % 256)) ≡ word_at file at (other % 256) =
    λ other. ap (λ (bytes : List ℕ). number_at 4 bytes (4 * (other % 256))) by.leads_there.is in
    let led : (other : ℕ) → other / 256 ≡ after / 256 → block_led_to file blocks 3 (other / 256) ≡ Some at =
    λ other same. ap (block_led_to file blocks 3) same ∙ by.leads_there.led in
    let leaf : TreePath = record { number = id; block = block } in
    let is_leaf : IsLeaf file blocks leaf = leaf_of_block file blocks id block narrow
    (leaf_by_reference file blocks id at block (led id beside) (reference ∙ word id) by.inside) in
    let here : IsRecordIn by.header.format (block_of file block) id rec =
    subst (λ (f : Format). IsRecordIn f (block_of file block) id rec) (sym by.format_is)
    (subst (λ (bytes : List ℕ). IsRecordIn format bytes id rec) by.data_is there) in (
      later,
      near_record by.header file leaf rec by.of is_leaf here value by.stands,
      λ other from to.
          let same : other / 256 ≡ after / 256 = omega (arith, beside, from, to) in
          no_record by.header file other by.of
          (no_leaf_of_block file blocks other (omega (arith, narrow, to))
          (none_by_reference file blocks other at (led other same) (sym (word other) ∙ between other from to)))
          value by.stands,
    )

-- the leaf that follows an identifier is where its own identifier leads
pub next_leads : (file : List ℕ) (blocks : ℕ) (after : Option ℕ) (id block : ℕ) → id < 2 ^ 32
    → Some (id, block) ≡ leaf_after file blocks after → leaf_block file blocks id ≡ Some block
next_leads file blocks after id block narrow is =
    let pair : TreePath → ℕ × ℕ = λ leaf. (leaf.number, leaf.block) in
    elim (option_cases (leaf_from file blocks (first_after after))) [
      | inl none ↦ absurd (let no : Some (id, block) ≡ None = is ∙ ap (option_map pair) none in cc)
      | inr there ↦
          let leaf : TreePath = there.0 in
          let same : Some (id, block) ≡ Some (leaf.number, leaf.block) = is ∙ ap (option_map pair) there.1 in
          let id_is : id ≡ leaf.number = ap (λ (o : Option (ℕ × ℕ)). (unwrap_or o (0, 0)).0) same in
          let block_is : block ≡ leaf.block = ap (λ (o : Option (ℕ × ℕ)). (unwrap_or o (0, 0)).1) same in
          let is_leaf : IsLeaf file blocks leaf = (next_leaf file blocks (first_after after) leaf (sym there.1)).0 in
          leaf_led_to file blocks id narrow
          ∙ ap (λ (number : ℕ). option_map (λ (found : TreePath). found.block)
          (find (λ (other : TreePath). other.number == number) (leaves file blocks))) id_is
          ∙ ap (option_map (λ (found : TreePath). found.block)) is_leaf
          ∙ ap Some (sym block_is)
    ]
