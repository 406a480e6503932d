-- Files in memory, as a list of names and bytes.
use Rattle.std.proofs.Common.{◌≡◌, ◌≢◌, inl, inr, ℕ, zero, suc, ◌+◌, ◌<◌, take, add-one, length-take, Bool, true, false}
use Rattle.std.proofs.Common.{cond, not, List, [], ◌∷◌, ◌++◌, length, get_or, set, length-set, get_or-set_same}
use Rattle.std.proofs.Common.{get_or-set_other, Option, Some, None, refl, sym, ap, subst, ◌∙◌, arith, position, filter}
use Rattle.std.proofs.Common.{find, nat_lt, String, Vec}
use Rattle.std.specs.Option.{is_some, option_copied, option_map, option_map_or, unwrap_or}
use Rattle.std.specs.List.{position_or_len}
use Rattle.std.specs.declared.alloc.Global.{Global}
use Rattle.std.proofs.lemmas.List.Folds.{find_at}
use Rattle.std.specs.Str.{bytes_eq}
use Rattle.std.specs.String.{string_bytes}
use Rattle.std.proofs.lemmas.Bool.{cases_Bool, cond-true, cond-false, both_ways, false≢true, ltb-false, cases_eq}
use Rattle.std.proofs.lemmas.Option.{none-some, slice_get_past}
use Rattle.std.proofs.lemmas.List.Quantifiers.{position-Some, all_pairs_push}
use Rattle.std.proofs.lemmas.List.Kept.{AllPairs-filter}
use Rattle.std.proofs.lemmas.List.{get_or-take, get_or_default}
use Rattle.std.proofs.Math.Seq.{take-suc}
use denote.Ref.{Bor}
use Rattle.memory_objects.specs.MemStore.{NamedFile, file_named, HaveDistinctNames}
use Rattle.outside.specs.World.{overwritten, with_bytes, with_file, with_new_name}
use Rattle.outside.proofs.WorldLemmas.{same_world, bytes_eq-same, bytes_eq-true, bytes_eq-ne, with_file-same}
use Rattle.outside.proofs.WorldLemmas.{cond-again, cond_swap, apart_names}

-- the file of a name, by the first file of the list
pub file_named-cons : (file : NamedFile) (files : List NamedFile) (name : List ℕ)
    → file_named (file ∷ files) name
    ≡ cond (bytes_eq (string_bytes file.0) name) (Some file.1.items) (file_named files name)
file_named-cons file files name =
    elim (bytes_eq (string_bytes file.0) name) as
    (λ same. option_map (λ (f : NamedFile). f.1.items)
    (cond same (Some file) (find (λ (f : NamedFile). bytes_eq (string_bytes f.0) name) files))
    ≡ cond same (Some file.1.items) (file_named files name)) [ true ↦ refl | false ↦ refl ]

-- at this place stands the first file of the name
abbrev pub IsPlace : List ℕ → List NamedFile → ℕ → Type 0
IsPlace name [] place = ⊥
IsPlace name (file ∷ files) zero = string_bytes file.0 ≡ name
IsPlace name (file ∷ files) (suc place) = (string_bytes file.0 ≢ name) × IsPlace name files place

place_from : (name : List ℕ) (files : List NamedFile) (place : ℕ) (d : NamedFile) → place < length files
    → bytes_eq (string_bytes (get_or files place d).0) name ≡ true
    → ((k : ℕ) → k < place → bytes_eq (string_bytes (get_or files k d).0) name ≡ false) → IsPlace name files place
place_from name [] place d within here before = absurd (omega arith)
place_from name (file ∷ files) zero d within here before = bytes_eq-true _ _ here
place_from name (file ∷ files) (suc place) d within here before = (
  (λ e. both_ways _ (before 0 (omega arith))
      (subst (λ (n : List ℕ). bytes_eq n name ≡ true) (sym e) (bytes_eq-same name))),
  place_from name files place d (omega arith) here (λ k below. before (suc k) (omega arith)),
)

-- what a search by name found
pub place_from_position : (name : List ℕ) (files : List NamedFile) (place : ℕ) (d : NamedFile)
    → position (λ (file : NamedFile). bytes_eq (string_bytes file.0) name) files ≡ Some place → IsPlace name files place
place_from_position name files place d e =
    let found = position-Some _ files place d e in
    place_from name files place d found.0 found.1 found.2

-- where a name has no file, the first file has another name
absent_behind : (name : List ℕ) (first : NamedFile) (files : List NamedFile) → file_named (first ∷ files) name ≡ None
    → (string_bytes first.0 ≢ name) × (file_named files name ≡ None)
absent_behind name first files absent =
    elim (cases_Bool (bytes_eq (string_bytes first.0) name)) [
      | inl e ↦ absurd (none-some first.1.items (sym absent ∙ file_named-cons first files name ∙ cond-true _ _ _ e))
      | inr e ↦ (
        (λ same. both_ways _ e (subst (λ (n : List ℕ). bytes_eq n name ≡ true) (sym same) (bytes_eq-same name))),
        sym (cond-false _ _ _ e) ∙ sym (file_named-cons first files name) ∙ absent,
      )
    ]

cond_none : (test : Bool) → cond {A = Option (List ℕ)} test None None ≡ None
cond_none true = refl
cond_none false = refl

-- other bytes under the same name
pub file_named-set : (name : List ℕ) (files : List NamedFile) (place : ℕ) (file : NamedFile) → IsPlace name files place
    → string_bytes file.0 ≡ name → (other : List ℕ)
    → file_named (set files place file) other ≡ with_file (file_named files) name (Some file.1.items) other
file_named-set name [] place file at named other = absurd at
file_named-set name (first ∷ files) zero file at named other =
    file_named-cons file files other
    ∙ ap (λ (n : List ℕ). cond (bytes_eq n other) (Some file.1.items) (file_named files other)) named
    ∙ sym (cond-again (bytes_eq name other) (Some file.1.items) (Some first.1.items) (file_named files other))
    ∙ ap (λ (n : List ℕ). cond (bytes_eq name other) (Some file.1.items)
    (cond (bytes_eq n other) (Some first.1.items) (file_named files other))) (sym at)
    ∙ ap (λ (f : Option (List ℕ)). cond (bytes_eq name other) (Some file.1.items) f)
    (sym (file_named-cons first files other))
file_named-set name (first ∷ files) (suc place) file at named other =
    file_named-cons first (set files place file) other
    ∙ ap (λ (f : Option (List ℕ)). cond (bytes_eq (string_bytes first.0) other) (Some first.1.items) f)
    (file_named-set name files place file at.1 named other)
    ∙ cond_swap _ _ _ _ _ (apart_names _ _ other at.0)
    ∙ ap (λ (f : Option (List ℕ)). cond (bytes_eq name other) (Some file.1.items) f)
    (sym (file_named-cons first files other))

-- one more file, under a name that is new
pub file_named-push : (name : List ℕ) (files : List NamedFile) (file : NamedFile) → string_bytes file.0 ≡ name
    → file_named files name ≡ None → (other : List ℕ)
    → file_named (files ++ file ∷ []) other ≡ with_file (file_named files) name (Some file.1.items) other
file_named-push name [] file named absent other =
    file_named-cons file [] other ∙ ap (λ (n : List ℕ). cond (bytes_eq n other) (Some file.1.items) None) named
file_named-push name (first ∷ files) file named absent other =
    let behind = absent_behind name first files absent in
    file_named-cons first (files ++ file ∷ []) other
    ∙ ap (λ (f : Option (List ℕ)). cond (bytes_eq (string_bytes first.0) other) (Some first.1.items) f)
    (file_named-push name files file named behind.1 other)
    ∙ cond_swap _ _ _ _ _ (apart_names _ _ other behind.0)
    ∙ ap (λ (f : Option (List ℕ)). cond (bytes_eq name other) (Some file.1.items) f)
    (sym (file_named-cons first files other))

-- no file has a name under which there is none
pub absent_names : (name : List ℕ) (files : List NamedFile) → file_named files name ≡ None → (place : ℕ) (d : NamedFile)
    → place < length files → string_bytes (get_or files place d).0 ≢ name
absent_names name [] absent place d within = absurd (omega arith)
absent_names name (first ∷ files) absent zero d within = (absent_behind name first files absent).0
absent_names name (first ∷ files) absent (suc place) d within =
    absent_names name files (absent_behind name first files absent).1 place d (omega arith)

-- where no file has a name there is no file of it
absent_from_names : (name : List ℕ) (files : List NamedFile)
    → ((place : ℕ) (d : NamedFile) → place < length files → string_bytes (get_or files place d).0 ≢ name)
    → file_named files name ≡ None
absent_from_names name [] differ = refl
absent_from_names name (first ∷ files) differ =
    file_named-cons first files name
    ∙ cond-false _ _ _ (bytes_eq-ne _ _ (differ 0 first (omega arith)))
    ∙ absent_from_names name files (λ place d within. differ (suc place) d (omega arith))

-- a search by name that found nothing
pub absent_from_position : (name : List ℕ) (files : List NamedFile)
    → position (λ (file : NamedFile). bytes_eq (string_bytes file.0) name) files ≡ None → file_named files name ≡ None
absent_from_position name files e =
    let P : NamedFile → Bool = λ file. bytes_eq (string_bytes file.0) name in
    let place = position_or_len P files in
    elim (cases_Bool (nat_lt place (length files))) [
      | inl found ↦ absurd (none-some place (sym e ∙ cond-true _ _ _ found))
      | inr past ↦ ap (λ (file : Option NamedFile). option_map (λ (f : NamedFile). f.1.items) file)
          (find_at P files ∙ slice_get_past files place (ltb-false _ _ past))
    ]

-- all files but those of a name
pub file_named-filter : (name : List ℕ) (files : List NamedFile) (other : List ℕ)
    → file_named (filter (λ (file : NamedFile). not (bytes_eq (string_bytes file.0) name)) files) other
    ≡ with_file (file_named files) name None other
file_named-filter name [] other =
    sym (cond_none (bytes_eq name other))
file_named-filter name (first ∷ files) other =
    let kept : List NamedFile = filter (λ (file : NamedFile). not (bytes_eq (string_bytes file.0) name)) files in
    elim (cases_Bool (bytes_eq (string_bytes first.0) name)) [
      | inl e ↦ ap (λ (test : Bool). file_named (cond (not test) (first ∷ kept) kept) other) e
          ∙ file_named-filter name files other
          ∙ sym (cond-again (bytes_eq name other) None (Some first.1.items) (file_named files other))
          ∙ ap (λ (n : List ℕ). cond (bytes_eq name other) None
          (cond (bytes_eq n other) (Some first.1.items) (file_named files other))) (sym (bytes_eq-true _ _ e))
          ∙ ap (λ (f : Option (List ℕ)). cond (bytes_eq name other) None f) (sym (file_named-cons first files other))
      | inr e ↦ ap (λ (test : Bool). file_named (cond (not test) (first ∷ kept) kept) other) e
          ∙ file_named-cons first kept other
          ∙ ap (λ (f : Option (List ℕ)). cond (bytes_eq (string_bytes first.0) other) (Some first.1.items) f)
          (file_named-filter name files other)
          ∙ cond_swap _ _ _ _ _
          (apart_names _ _ other
          (λ same. both_ways _ e (subst (λ (n : List ℕ). bytes_eq n name ≡ true) (sym same) (bytes_eq-same name))))
          ∙ ap (λ (f : Option (List ℕ)). cond (bytes_eq name other) None f) (sym (file_named-cons first files other))
    ]

-- all files but those of a name, as a list
pub file_named-kept_others : (name : List ℕ) (files kept : List NamedFile)
    → kept ≡ filter (λ (file : NamedFile). not (bytes_eq (string_bytes file.0) name)) files
    → file_named kept ≡ with_file (file_named files) name None
file_named-kept_others name files kept is =
    ap (λ (f : List NamedFile). file_named f) is ∙ same_world _ _ (file_named-filter name files)

-- the names of all files but those of a name differ
pub distinct-kept_others : (name : List ℕ) (files kept : List NamedFile)
    → kept ≡ filter (λ (file : NamedFile). not (bytes_eq (string_bytes file.0) name)) files → HaveDistinctNames files
    → HaveDistinctNames kept
distinct-kept_others name files kept is distinct =
    subst (λ (f : List NamedFile). HaveDistinctNames f) (sym is)
    (AllPairs-filter (λ (one other : NamedFile). string_bytes one.0 ≢ string_bytes other.0)
    (λ (file : NamedFile). not (bytes_eq (string_bytes file.0) name)) files distinct)

-- the names of the files behind the first one differ
distinct_behind : (first : NamedFile) (files : List NamedFile) → HaveDistinctNames (first ∷ files)
    → HaveDistinctNames files
distinct_behind first files distinct i j d before within = distinct (suc i) (suc j) d (omega arith) (omega arith)

-- the file that stands at the place of its name
file_named-place : (name : List ℕ) (files : List NamedFile) (place : ℕ) (d : NamedFile) → IsPlace name files place
    → file_named files name ≡ Some (get_or files place d).1.items
file_named-place name [] place d at = absurd at
file_named-place name (first ∷ files) zero d at =
    file_named-cons first files name
    ∙ cond-true _ _ _ (subst (λ (n : List ℕ). bytes_eq n name ≡ true) (sym at) (bytes_eq-same name))
file_named-place name (first ∷ files) (suc place) d at =
    file_named-cons first files name ∙ cond-false _ _ _ (bytes_eq-ne _ _ at.0)
    ∙ file_named-place name files place d at.1

-- a file that took the place of one of another name
file_named-moved : (from to : List ℕ) (files : List NamedFile) (place : ℕ) (file : NamedFile) → HaveDistinctNames files
    → IsPlace from files place → string_bytes file.0 ≡ to → file_named files to ≡ None → (other : List ℕ)
    → file_named (set files place file) other
    ≡ with_file (with_file (file_named files) from None) to (Some file.1.items) other
file_named-moved from to [] place file distinct at named absent other = absurd at
file_named-moved from to (first ∷ files) zero file distinct at named absent other =
    let gone : file_named files from ≡ None = absent_from_names from files
    (λ place d within same. distinct 0 (suc place) d (omega arith) (omega arith) (at ∙ sym same)) in
    let rest : file_named files other ≡ cond (bytes_eq from other) None (file_named (first ∷ files) other) =
    elim (cases_Bool (bytes_eq from other)) [
      | inl e ↦ ap (λ (n : List ℕ). file_named files n) (sym (bytes_eq-true _ _ e)) ∙ gone ∙ sym (cond-true _ _ _ e)
      | inr e ↦ sym (cond-false _ (Some first.1.items) (file_named files other) e)
          ∙ ap (λ (n : List ℕ). cond (bytes_eq n other) (Some first.1.items) (file_named files other)) (sym at)
          ∙ sym (file_named-cons first files other)
          ∙ sym (cond-false _ None (file_named (first ∷ files) other) e)
    ] in
    file_named-cons file files other
    ∙ ap (λ (n : List ℕ). cond (bytes_eq n other) (Some file.1.items) (file_named files other)) named
    ∙ ap (λ (f : Option (List ℕ)). cond (bytes_eq to other) (Some file.1.items) f) rest
file_named-moved from to (first ∷ files) (suc place) file distinct at named absent other =
    let behind = absent_behind to first files absent in
    let other_file = file_named files other in
    file_named-cons first (set files place file) other
    ∙ ap (λ (f : Option (List ℕ)). cond (bytes_eq (string_bytes first.0) other) (Some first.1.items) f)
    (file_named-moved from to files place file (distinct_behind first files distinct) at.1 named behind.1 other)
    ∙ cond_swap (bytes_eq (string_bytes first.0) other) (bytes_eq to other) (Some first.1.items) (Some file.1.items)
    (cond (bytes_eq from other) None other_file) (apart_names _ _ other behind.0)
    ∙ ap (λ (f : Option (List ℕ)). cond (bytes_eq to other) (Some file.1.items) f)
    (cond_swap (bytes_eq (string_bytes first.0) other) (bytes_eq from other) (Some first.1.items) None other_file
    (apart_names _ _ other at.0)
    ∙ ap (λ (f : Option (List ℕ)). cond (bytes_eq from other) None f) (sym (file_named-cons first files other)))

-- a new name for a file, where no file has it yet
pub file_named-renamed : (from to : List ℕ) (files : List NamedFile) (place : ℕ) (file d : NamedFile)
    → HaveDistinctNames files → IsPlace from files place → string_bytes file.0 ≡ to → file.1 ≡ (get_or files place d).1
    → file_named files to ≡ None → (other : List ℕ)
    → file_named (set files place file) other ≡ with_new_name (file_named files) from to other
file_named-renamed from to files place file d distinct at named same absent other =
    file_named-moved from to files place file distinct at named absent other
    ∙ ap (λ (file : Option (List ℕ)). option_map_or
    (λ (bytes : List ℕ). with_file (with_file (file_named files) from None) to (Some bytes)) file
    (file_named files) other)
    (ap (λ (v : Vec ℕ Global). Some v.items) same ∙ sym (file_named-place from files place d at))

set_here : (files : List NamedFile) (place at : ℕ) (file d : NamedFile) → at ≡ place → at < length files
    → get_or (set files place file) at d ≡ file
set_here files place at file d here inside =
    subst (λ (p : ℕ). get_or (set files p file) at d ≡ file) here (get_or-set_same files at file d inside)

-- names stay distinct where a file gets a name that none has
pub distinct-set : (to : List ℕ) (files : List NamedFile) (place : ℕ) (file : NamedFile) → HaveDistinctNames files
    → string_bytes file.0 ≡ to → file_named files to ≡ None → HaveDistinctNames (set files place file)
distinct-set to files place file distinct named absent i j d before within same =
    let inside : j < length files = omega (arith, length-set files place file) in
    let name_of : NamedFile → List ℕ = λ f. string_bytes f.0 in
    elim (cases_eq i place) [
      | inl here ↦ absent_names to files absent j d inside
          (sym (ap name_of (get_or-set_other files place j file d (λ there. omega (arith, here, there)))) ∙ sym same
          ∙ ap name_of (set_here files place i file d here (omega arith)) ∙ named)
      | inr not_here ↦ elim (cases_eq j place) [
        | inl here ↦ absent_names to files absent i d (omega arith)
            (sym (ap name_of (get_or-set_other files place i file d not_here)) ∙ same
            ∙ ap name_of (set_here files place j file d here inside) ∙ named)
        | inr nor_there ↦ distinct i j d before inside
            (sym (ap name_of (get_or-set_other files place i file d not_here)) ∙ same
            ∙ ap name_of (get_or-set_other files place j file d nor_there))
      ]
    ]

-- names stay distinct where a file is added under a name that none has
pub distinct-push : (to : List ℕ) (files : List NamedFile) (file : NamedFile) → HaveDistinctNames files
    → string_bytes file.0 ≡ to → file_named files to ≡ None → HaveDistinctNames (files ++ file ∷ [])
distinct-push to files file distinct named absent =
    all_pairs_push (λ (one other : NamedFile). string_bytes one.0 ≢ string_bytes other.0) files file distinct
    (λ place d within same. absent_names to files absent place d within (same ∙ named))

-- the file that a search by name found
pub file_named-found : (name : List ℕ) (files : List NamedFile) (place : ℕ) (was : NamedFile)
    → position (λ (file : NamedFile). bytes_eq (string_bytes file.0) name) files ≡ Some place
    → was ≡ get_or files place was → file_named files name ≡ Some was.1.items
file_named-found name files place was e read =
    file_named-place name files place was (place_from_position name files place was e)
    ∙ ap (λ (file : NamedFile). Some file.1.items) (sym read)

-- other bytes for the file that a search by name found
pub file_named-changed : (name : List ℕ) (files : List NamedFile) (place : ℕ) (was file : NamedFile)
    → position (λ (file : NamedFile). bytes_eq (string_bytes file.0) name) files ≡ Some place
    → was ≡ get_or files place was → file.0 ≡ was.0
    → file_named (set files place file) ≡ with_file (file_named files) name (Some file.1.items)
file_named-changed name files place was file e read same =
    let named : string_bytes was.0 ≡ name =
    ap (λ (f : NamedFile). string_bytes f.0) read ∙ bytes_eq-true _ _ (position-Some _ files place was e).1 in
    same_world _ _ (file_named-set name files place file (place_from_position name files place was e)
    (ap (λ (s : String Global). string_bytes s) same ∙ named))

-- the same bytes for the file that a search by name found
pub file_named-kept : (name : List ℕ) (files : List NamedFile) (place : ℕ) (was file : NamedFile)
    → position (λ (file : NamedFile). bytes_eq (string_bytes file.0) name) files ≡ Some place
    → was ≡ get_or files place was → file.0 ≡ was.0 → file.1.items ≡ was.1.items
    → file_named (set files place file) ≡ file_named files
file_named-kept name files place was file e read same bytes =
    file_named-changed name files place was file e read same
    ∙ ap (λ (b : List ℕ). with_file (file_named files) name (Some b)) bytes
    ∙ with_file-same (file_named files) name (Some was.1.items) (file_named-found name files place was e read)

-- bytes written into the file that a search by name found
pub file_named-written : (name : List ℕ) (files : List NamedFile) (place : ℕ) (was file : NamedFile) (at : ℕ)
    (bytes : List ℕ) → position (λ (file : NamedFile). bytes_eq (string_bytes file.0) name) files ≡ Some place
    → was ≡ get_or files place was → file.0 ≡ was.0 → file.1.items ≡ overwritten was.1.items at bytes
    → file_named (set files place file) ≡ with_bytes (file_named files) name at bytes
file_named-written name files place was file at bytes e read same written =
    file_named-changed name files place was file e read same
    ∙ ap (λ (b : List ℕ). with_file (file_named files) name (Some b)) written
    ∙ ap (λ (f : Option (List ℕ)). with_file (file_named files) name (Some (overwritten (unwrap_or f []) at bytes)))
    (sym (file_named-found name files place was e read))

-- names stay distinct where a file was to be added under a name that none has
pub distinct-pushed : (done : Bool) (to : List ℕ) (files : List NamedFile) (file : NamedFile) → HaveDistinctNames files
    → string_bytes file.0 ≡ to → file_named files to ≡ None → HaveDistinctNames (cond done (files ++ file ∷ []) files)
distinct-pushed true to files file distinct named absent = distinct-push to files file distinct named absent
distinct-pushed false to files file distinct named absent = distinct

-- one more file, under a name that is new
pub file_named-added : (name : List ℕ) (files : List NamedFile) (file : NamedFile) → string_bytes file.0 ≡ name
    → file_named files name ≡ None
    → file_named (files ++ file ∷ []) ≡ with_file (file_named files) name (Some file.1.items)
file_named-added name files file named absent = same_world _ _ (file_named-push name files file named absent)

-- the file of a name that a search found
pub file_named-renamed_found : (from to : List ℕ) (files : List NamedFile) (place : ℕ) (was file : NamedFile)
    → HaveDistinctNames files → position (λ (file : NamedFile). bytes_eq (string_bytes file.0) from) files ≡ Some place
    → was ≡ get_or files place was → string_bytes file.0 ≡ to → file.1 ≡ was.1 → file_named files to ≡ None
    → file_named (set files place file) ≡ with_new_name (file_named files) from to
file_named-renamed_found from to files place was file distinct e read named same absent =
    same_world _ _ (file_named-renamed from to files place file was distinct
    (place_from_position from files place was e) named (same ∙ ap (λ (f : NamedFile). f.1) read) absent)

-- what a look-up found, by what it did not find
pub found_from_some : (found : Option (Bor (List ℕ))) (file : Option (List ℕ)) → is_some found ≡ true
    → option_copied found ≡ file → (bytes : List ℕ) × (file ≡ Some bytes)
found_from_some None file some is = absurd (false≢true some)
found_from_some (Some bytes) file some is = (bytes.now, sym is)

-- the files in front of one, where the names differ, have none of its name
pub file_named-front : (files : List NamedFile) (place : ℕ) (file : NamedFile) → HaveDistinctNames files
    → place < length files → file ≡ get_or files place file → file_named (take place files) (string_bytes file.0) ≡ None
file_named-front files place file distinct within is =
    absent_from_names (string_bytes file.0) (take place files) (λ k d inside same.
    let before : k < place = omega (arith, length-take place files, inside) in
    let short : get_or (take place files) k d ≡ get_or files k d = get_or-take place files k d before in
    let here : get_or files place d ≡ file = get_or_default files place d file within ∙ sym is in
    distinct k place d before within
    (ap (λ (f : NamedFile). string_bytes f.0) (sym short) ∙ same ∙ ap (λ (f : NamedFile). string_bytes f.0) (sym here)))

-- the files up to one, and that one
pub file_named-next : (files : List NamedFile) (place : ℕ) (file : NamedFile) → HaveDistinctNames files
    → place < length files → file ≡ get_or files place file
    → file_named (take (place + 1) files)
    ≡ with_file (file_named (take place files)) (string_bytes file.0) (Some file.1.items)
file_named-next files place file distinct within is =
    ap (λ (k : ℕ). file_named (take k files)) (add-one place)
    ∙ ap (λ (f : List NamedFile). file_named f) (take-suc files place file within)
    ∙ ap (λ (f : NamedFile). file_named (take place files ++ f ∷ [])) (sym is)
    ∙ file_named-added (string_bytes file.0) (take place files) file refl
    (file_named-front files place file distinct within is)
