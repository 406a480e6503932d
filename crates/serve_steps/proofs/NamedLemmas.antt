-- Files that are named one after another, each with its path and kind: they may be exported so where no two have the
-- same ones.
use Rattle.std.proofs.Common.{◌≡◌, ◌∙◌, ℕ, ◌+◌, ◌<◌, Bool, true, false, not, ◌&&◌, if◌then◌else◌, nat_lt, IsTrue, List}
use Rattle.std.proofs.Common.{[], ◌∷◌, ◌++◌, length, None, Some, refl, sym, ap, subst, arith, length-append}
use Rattle.std.specs.Prelude.{codes}
use Rattle.std.specs.List.{list_any}
use Rattle.std.specs.Option.{option_map}
use Rattle.std.specs.Str.{bytes_eq}
use Rattle.std.proofs.lemmas.Bool.{or_from, or_parts}
use Rattle.std.proofs.lemmas.Bool.Decides.{nat_tests}
use Rattle.std.proofs.lemmas.List.Folds.{list_any-append}
use Rattle.std.proofs.lemmas.Slice.Eq.{bytes_eq-Decides}
use Rattle.quota_types.specs.Kind.{kinds_eq}
use Rattle.quota_types.proofs.KindLemmas.{kinds_eq-true}
use Rattle.quota_types.specs.declared.file_kind.Kind.{Kind}
use Rattle.quota_types.specs.declared.file_kind.Kind.TheVariants.{User, Group, Project}
use Rattle.opened_file.specs.FileSeen.{FileSeen}
use Rattle.outside.proofs.WorldLemmas.{bytes_eq-true}
use Rattle.rquota_serve.specs.ExportedValues.{names_eq}
use Rattle.rquota_serve.specs.ExportSeen.{ExportSeen, is_exported as is_served, is_named}
use Rattle.option_words.specs.Given.{is_exported, kind_word}
use Rattle.option_words.specs.Values.{kind_of}
use Rattle.option_words.specs.declared.export_option.ExportOption.{ExportOption}
use Rattle.serve_steps.specs.Exporting.{MayExport}

-- Paths and kinds.

-- one of these files has this path and kind
abbrev pub named_so : (path : List ℕ) → Kind → List ExportOption → Bool
named_so path kind list = list_any (λ (e : ExportOption). names_eq e.path e.kind path kind) list

-- the word of a kind that was read of a word
pub kind_words : (word : List ℕ) (kind : Kind) → kind_of word ≡ Some kind → kind_word kind ≡ word
kind_words word kind is =
    by (bytes_eq (codes "user") word) (bytes_eq (codes "group") word) (bytes_eq (codes "project") word)
    refl refl refl is
  where
    by : (user group project : Bool) → bytes_eq (codes "user") word ≡ user → bytes_eq (codes "group") word ≡ group
        → bytes_eq (codes "project") word ≡ project
        → option_map (λ (entry : List ℕ × Kind). entry.1)
        (if user then Some (codes "user", User) else if group then Some (codes "group", Group)
        else if project then Some (codes "project", Project) else None) ≡ Some kind → kind_word kind ≡ word
    by true group project there other third same =
        let kinds : User ≡ kind = cc in subst (λ (k : Kind). kind_word k ≡ word) kinds (bytes_eq-true _ _ there)
    by false true project here there third same =
        let kinds : Group ≡ kind = cc in subst (λ (k : Kind). kind_word k ≡ word) kinds (bytes_eq-true _ _ there)
    by false false true here other there same =
        let kinds : Project ≡ kind = cc in subst (λ (k : Kind). kind_word k ≡ word) kinds (bytes_eq-true _ _ there)
    by false false false here other third same = absurd (cc)

not_both : (words kinds : Bool) → (kinds ≡ true → words ≡ true) → words ≡ false → kinds ≡ false
not_both words true so unsaid = sym (so refl) ∙ unsaid
not_both words false so unsaid = refl

neither : (paths words kinds : Bool) → (kinds ≡ true → words ≡ true) → (paths && words) ≡ false
    → (paths && kinds) ≡ false
neither true words kinds so unsaid = not_both words kinds so unsaid
neither false words kinds so unsaid = refl

-- a path and a kind that did not stand before are those of no file
pub unnamed : (path word : List ℕ) (kind : Kind) (list : List ExportOption) → kind_word kind ≡ word
    → is_exported path word list ≡ false → named_so path kind list ≡ false
unnamed path word kind [] is none = refl
unnamed path word kind (export ∷ list) is none =
    let parts =
    or_parts (bytes_eq export.path path && bytes_eq (kind_word export.kind) word) (is_exported path word list) none in
    or_from (names_eq export.path export.kind path kind) (named_so path kind list)
    (neither (bytes_eq export.path path) (bytes_eq (kind_word export.kind) word) (kinds_eq export.kind kind)
    (λ same. (bytes_eq-Decides (kind_word export.kind) word).1
    (ap kind_word (kinds_eq-true export.kind kind same) ∙ is)) parts.0)
    (unnamed path word kind list is parts.1)

-- Files behind files.

may_now : (few free : Bool) → few ≡ true → free ≡ false → IsTrue (few && not free)
may_now true false one two = refl
may_now false free one two = absurd (cc)
may_now true true one two = absurd (cc)

few_now : (count : ℕ) → count < 16 → nat_lt count 16 ≡ true
few_now count less = grind (arith, nat_tests)

-- one more may be exported behind those that may, where they are few and none has its path and kind
pub may_behind : (before : List ExportSeen) (list : List ExportOption) (export : ExportOption) → MayExport before list
    → length before + length list < 16 → is_served before export.path export.kind ≡ false
    → named_so export.path export.kind list ≡ false → MayExport before (list ++ export ∷ [])
may_behind before [] export may few free others =
    (may_now _ _ (few_now (length before) (omega (arith, few))) free, λ file. tt)
may_behind before (first ∷ list) export may few free others = (
  may.0,
  λ (file : FileSeen).
      let seen : ExportSeen = record { path = first.path; kind = first.kind; file = file } in
      let mine : names_eq first.path first.kind export.path export.kind ≡ false = (or_parts _ _ others).0 in
      may_behind (before ++ seen ∷ []) list export (may.1 file) (omega (arith, few, length-append before (seen ∷ [])))
      (list_any-append (is_named export.path export.kind) before (seen ∷ []) ∙ or_from _ _ free (or_from _ _ mine refl))
      (or_parts _ _ others).1,
)
