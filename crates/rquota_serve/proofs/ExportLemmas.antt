-- Exports in a list: their paths, what they stand for, and look-ups in one of them.
use Rattle.std.proofs.Common.{◌≡◌, ◌<◌, ◌+◌, ◌||◌, ◌&&◌, ℕ, suc, Bool, true, false, cond, not, nat_lt, IsTrue}
use Rattle.std.proofs.Common.{if◌then◌else◌, List, [], ◌∷◌, ◌++◌, length, map, get_or, Option, None, Some, IfSome}
use Rattle.std.proofs.Common.{Result, Ok, Err, OnErr, refl, sym, ap, subst, ◌∙◌, arith}
use Rattle.std.proofs.Math.ListN.{get_or-map, set}
use Rattle.std.proofs.lemmas.List.{length-map, map-append, map-set, set-get_or}
use Rattle.std.proofs.lemmas.List.Elements.{All-cons, All-get_or, All-nil, All-push, All-set, All-weaker}
use Rattle.std.proofs.lemmas.List.Folds.{list_any-append}
use Rattle.std.proofs.lemmas.List.Quantifiers.{position-Some}
use Rattle.std.proofs.lemmas.Option.{get_or_from_slice_get, slice_get-get_or, slice_get-map, slice_get_within}
use Rattle.std.proofs.lemmas.Bool.{true≢false, and_parts, or_parts}
use Rattle.std.proofs.lemmas.Bool.Decides.{nat_tests}
use Rattle.std.proofs.lemmas.Slice.Eq.{bytes_eq-Decides}
use Rattle.std.specs.List.{All, list_any, position, position_or_len, slice_get}
use Rattle.std.specs.Option.{is_some, option_map}
use Rattle.std.specs.Str.{bytes_eq}
use Rattle.std.specs.String.{string_bytes}
use Rattle.quota_types.specs.declared.file_kind.Kind.{Kind}
use Rattle.quota_types.specs.Kind.{kinds_eq}
use Rattle.quota_types.proofs.KindLemmas.{kinds_eq-same, kinds_eq-true}
use Rattle.quota_types.specs.declared.record.Rec.{Rec}
use Rattle.outside.specs.Frame.{OnlyReads}
use Rattle.opened_file.specs.QuotaFile.{CountsRefusal, IsLookupFault}
use Rattle.opened_file.specs.FileSeen.{FileSeen}
use Rattle.opened_file.specs.declared.quota_file.FileFault.{FileFault}
use Rattle.opened_file.specs.declared.quota_file.FileFault.TheVariants.{Store as CallFailed, Damage as Damaged, Full}
use Rattle.opened_file.specs.declared.quota_file.FileFault.TheVariants.{Memory as NoMemory}
use Rattle.quota_value.specs.QuotaValue.{QuotaValue}
use Rattle.outside.specs.Seen.{StoreSeen}
use Rattle.outside.specs.World.{World}
use Rattle.quota_map.specs.AnyFile.{HoldsAny, any_seen, MayRefuse}
use Rattle.rquota_serve.specs.ExportedValues.{ExportedValues, names_eq, nothing_exported, with_export}
use Rattle.rquota_serve.specs.Exports.{CountsOne, IsServed, OnlyLooksUp, Serves, export_seen, exports_seen, kept_in}
use Rattle.rquota_serve.specs.ExportSeen.{ExportSeen, is_exported, is_named, may_add}
use Rattle.rquota_serve.specs.Refusal.{IsAnswerFault, MayRefuseOne}
use Rattle.rquota_serve.specs.Reply.{record_of, record_under}
use Rattle.rquota_serve.specs.declared.export.Export.{Export}
use Rattle.rquota_serve.specs.declared.exports.Exports.{Exports}

-- Frames.

-- no look-up was made
pub looks-none : (seen : List ExportSeen) (store : StoreSeen) → OnlyLooksUp seen store store
looks-none seen store = record { files = refl; unsynced = λ name other. refl; later = omega arith; writes = refl }

pub looks-then : (seen : List ExportSeen) (old between new : StoreSeen) → OnlyLooksUp seen old between
    → OnlyLooksUp seen between new → OnlyLooksUp seen old new
looks-then seen old between new first second = record {
  files = second.files ∙ first.files;
  unsynced = λ name other. second.unsynced name other ∙ first.unsynced name other;
  later = omega (arith, first.later, second.later);
  writes = second.writes ∙ first.writes;
}

-- one file was read
pub looks-one : {done : Bool} (seen : List ExportSeen) (place : ℕ) (export : ExportSeen) (old new : StoreSeen)
    → slice_get seen place ≡ Some export → OnlyReads done export.file.name old new
    → OnlyLooksUp seen old new
looks-one seen place export old new at leaves = record {
  files = leaves.files;
  unsynced = λ name other. leaves.unsynced name (λ is. other (place, export, at, sym is));
  later = leaves.later;
  writes = leaves.writes;
}

-- Names.

path-is : (path : List ℕ) (kind : Kind) (path' : List ℕ) (kind' : Kind)
    → names_eq path kind path' kind' ≡ true → path ≡ path'
path-is path kind path' kind' is =
    (bytes_eq-Decides path path').0 (and_parts (bytes_eq path path') (kinds_eq kind kind') is).0

-- what is exported under one name is exported under an equal one
pub under-same : {T : Type 0} (exported : List ℕ → Kind → T) (path : List ℕ) (kind : Kind) (path' : List ℕ)
    (kind' : Kind) → names_eq path kind path' kind' ≡ true
    → exported path kind ≡ exported path' kind'
under-same exported path kind path' kind' is =
    ap (λ (p : List ℕ). exported p kind) (path-is path kind path' kind' is)
    ∙ ap (exported path') (kinds_eq-true kind kind' (and_parts (bytes_eq path path') (kinds_eq kind kind') is).1)

-- a name and what is under it
abbrev key : Export → List ℕ × Kind
key export = (string_bytes export.path, export.kind)

any-keys : (path : List ℕ) (kind : Kind) (list : List Export)
    → is_exported (map export_seen list) path kind
    ≡ list_any (λ (k : List ℕ × Kind). names_eq k.0 k.1 path kind) (map key list)
any-keys path kind [] = refl
any-keys path kind (export ∷ list) =
    ap (λ (b : Bool). names_eq (string_bytes export.path) export.kind path kind || b) (any-keys path kind list)

-- the exports have the same names where one of them is another one of its name
pub exported-set : (list : List Export) (place : ℕ) (was export : Export) (path : List ℕ) (kind : Kind)
    → slice_get list place ≡ Some was → string_bytes export.path ≡ string_bytes was.path
    → export.kind ≡ was.kind
    → is_exported (map export_seen (set list place export)) path kind ≡ is_exported (map export_seen list) path kind
exported-set list place was export path kind at same_path same_kind =
    let same : key export ≡ key was =
    ap (λ (p : List ℕ). (p, export.kind)) same_path ∙ ap (λ (k : Kind). (string_bytes was.path, k)) same_kind in
    let there : key was ≡ get_or (map key list) place (key export) =
    sym (get_or-map key list place export ∙ ap key (get_or_from_slice_get list place was export at)) in
    any-keys path kind (set list place export)
    ∙ ap (list_any (λ (k : List ℕ × Kind). names_eq k.0 k.1 path kind))
    (map-set key list place export ∙ ap (set (map key list) place) (same ∙ there)
    ∙ set-get_or (map key list) place (key export))
    ∙ sym (any-keys path kind list)

names-same : (path : List ℕ) (kind : Kind) → names_eq path kind path kind ≡ true
names-same path kind =
    ap (λ (b : Bool). b && kinds_eq kind kind) ((bytes_eq-Decides path path).1 refl) ∙ kinds_eq-same kind

names-flip : (path : List ℕ) (kind : Kind) (path' : List ℕ) (kind' : Kind) → names_eq path kind path' kind' ≡ false
    → names_eq path' kind' path kind ≡ false
names-flip path kind path' kind' other = by (names_eq path' kind' path kind) refl
  where
    by : (b : Bool) → names_eq path' kind' path kind ≡ b → b ≡ false
    by false is = refl
    by true is =
        let swapped : names_eq path kind path kind ≡ names_eq path kind path' kind' =
        sym (under-same (names_eq path kind) path' kind' path kind is) in
        absurd (true≢false (sym (names-same path kind) ∙ swapped ∙ other))

-- Values that are served.

value-under : (exported : ExportedValues) (path : List ℕ) (kind : Kind) (path' : List ℕ) (kind' : Kind)
    (value : QuotaValue) → names_eq path kind path' kind' ≡ false
    → with_export exported path kind value path' kind' ≡ exported path' kind'
value-under exported path kind path' kind' value other =
    ap (λ (b : Bool). if b then Some value else exported path' kind') other

value-here : (exported : ExportedValues) (path : List ℕ) (kind : Kind) (value : QuotaValue)
    → with_export exported path kind value path kind ≡ Some value
value-here exported path kind value =
    ap (λ (b : Bool). if b then Some value else exported path kind) (names-same path kind)

-- no exports serve nothing
pub serves-none : (tells : Bool) (files : World) (exports : Exports) → kept_in exports ≡ []
    → Serves tells files exports nothing_exported
serves-none tells files exports empty = record {
  each =
      subst (All (IsServed tells files nothing_exported)) (sym empty) (All-nil (IsServed tells files nothing_exported));
  others = λ path kind none. refl;
}

-- the files are the same ones
served-files : (tells : Bool) (files files' : World) (exported : ExportedValues) (export : Export) → files' ≡ files
    → IsServed tells files exported export → IsServed tells files' exported export
served-files tells files files' exported export same served = record {
  value = served.value;
  there = served.there;
  held = subst (λ (f : World). HoldsAny tells f export.file served.value) (sym same) served.held;
}

-- what is served at a place
pub served-at : (tells : Bool) (files : World) (exports : Exports) (exported : ExportedValues) (place : ℕ)
    (export : Export) → slice_get (kept_in exports) place ≡ Some export → Serves tells files exports exported
    → IsServed tells files exported export
served-at tells files exports exported place export at serves =
    subst (IsServed tells files exported) (get_or_from_slice_get (kept_in exports) place export export at)
    (All-get_or (IsServed tells files exported) (kept_in exports) place export
    (slice_get_within (kept_in exports) place export at) serves.each)

-- the exports serve the same values where one of them holds what it held
pub serves-set : (tells : Bool) (files files' : World) (old new : Exports) (exported : ExportedValues) (place : ℕ)
    (was export : Export) → slice_get (kept_in old) place ≡ Some was
    → kept_in new ≡ set (kept_in old) place export → files' ≡ files → string_bytes export.path ≡ string_bytes was.path
    → export.kind ≡ was.kind
    → ((value : QuotaValue) → HoldsAny tells files was.file value → HoldsAny tells files' export.file value)
    → Serves tells files old exported → Serves tells files' new exported
serves-set tells files files' old new exported place was export at is same same_path same_kind stays serves =
    let before = served-at tells files old exported place was at serves in
    record {
      each = subst (All (IsServed tells files' exported)) (sym is)
          (All-set (IsServed tells files' exported) (kept_in old) place export
          (record {
            value = before.value;
            there = ap (λ (p : List ℕ). exported p export.kind) same_path
                ∙ ap (exported (string_bytes was.path)) same_kind ∙ before.there;
            held = stays before.value before.held;
          })
          (All-weaker (IsServed tells files exported) (IsServed tells files' exported)
          (λ e. served-files tells files files' exported e same) (kept_in old) serves.each));
      others = λ path kind none. serves.others path kind
          (sym (exported-set (kept_in old) place was export path kind at same_path same_kind)
          ∙ ap (λ (l : List Export). is_exported (map export_seen l) path kind) (sym is) ∙ none);
    }

none-named : (path : List ℕ) (kind : Kind) (list : List Export) → is_exported (map export_seen list) path kind ≡ false
    → All (λ (e : Export). names_eq path kind (string_bytes e.path) e.kind ≡ false) list
none-named path kind [] none = All-nil (λ (e : Export). names_eq path kind (string_bytes e.path) e.kind ≡ false)
none-named path kind (export ∷ list) none =
    let here : Bool = names_eq (string_bytes export.path) export.kind path kind in
    let rest : Bool = is_exported (map export_seen list) path kind in
    All-cons (λ (e : Export). names_eq path kind (string_bytes e.path) e.kind ≡ false) export list
    (names-flip (string_bytes export.path) export.kind path kind (or_parts here rest none).0)
    (none-named path kind list (or_parts here rest none).1)

served-beside : (tells : Bool) (files files' : World) (exported : ExportedValues) (path : List ℕ) (kind : Kind)
    (value : QuotaValue) (export : Export) → files' ≡ files
    → names_eq path kind (string_bytes export.path) export.kind ≡ false → IsServed tells files exported export
    → IsServed tells files' (with_export exported path kind value) export
served-beside tells files files' exported path kind value export same other served = record {
  value = served.value;
  there = value-under exported path kind (string_bytes export.path) export.kind value other ∙ served.there;
  held = subst (λ (f : World). HoldsAny tells f export.file served.value) (sym same) served.held;
}

-- two facts of each element
all_of_both : (P Q R : Export → Type 0) (list : List Export) → ((e : Export) → P e → Q e → R e) → All P list
    → All Q list → All R list
all_of_both P Q R list joins one other k d lt = joins (get_or list k d) (one k d lt) (other k d lt)

-- one more value is served where one more file is exported
pub serves-push : (tells : Bool) (files files' : World) (old new : Exports) (exported : ExportedValues) (path : List ℕ)
    (kind : Kind) (value : QuotaValue) (export : Export)
    → kept_in new ≡ kept_in old ++ export ∷ [] → files' ≡ files → string_bytes export.path ≡ path → export.kind ≡ kind
    → is_exported (exports_seen old) path kind ≡ false
    → HoldsAny tells files' export.file value → Serves tells files old exported
    → Serves tells files' new (with_export exported path kind value)
serves-push tells files files' old new exported path kind value export is same same_path same_kind none held serves =
    record {
      each = subst (All (IsServed tells files' (with_export exported path kind value))) (sym is)
          (All-push (IsServed tells files' (with_export exported path kind value)) (kept_in old) export
          (all_of_both (λ (e : Export). names_eq path kind (string_bytes e.path) e.kind ≡ false)
          (IsServed tells files exported) (IsServed tells files' (with_export exported path kind value)) (kept_in old)
          (λ e. served-beside tells files files' exported path kind value e same)
          (none-named path kind (kept_in old) none) serves.each)
          (record {
            value = value;
            there = ap (λ (p : List ℕ). with_export exported path kind value p export.kind) same_path
                ∙ ap (with_export exported path kind value path) same_kind ∙ value-here exported path kind value;
            held = held;
          }));
      others = λ path' kind' no.
          let all : is_exported (map export_seen (kept_in old ++ export ∷ [])) path' kind' ≡ false =
          ap (λ (l : List Export). is_exported (map export_seen l) path' kind') (sym is) ∙ no in
          let parted = sym
          (ap (list_any (is_named path' kind')) (map-append export_seen (kept_in old) (export ∷ []))
          ∙ list_any-append (is_named path' kind') (map export_seen (kept_in old)) (export_seen export ∷ [])) ∙ all in
          let last = (or_parts (is_named path' kind' (export_seen export)) false
          (or_parts (is_exported (exports_seen old) path' kind')
          (list_any (is_named path' kind') (export_seen export ∷ [])) parted).1).0 in
          let named : names_eq path kind path' kind' ≡ false = sym
          (ap (λ (p : List ℕ). names_eq p export.kind path' kind') same_path
          ∙ ap (λ (k : Kind). names_eq path k path' kind') same_kind) ∙ last in
          value-under exported path kind path' kind' value named
          ∙ serves.others path' kind'
          (or_parts (is_exported (exports_seen old) path' kind')
          (list_any (is_named path' kind') (export_seen export ∷ [])) parted).0;
    }

-- Places.

pub seen-at : (exports : Exports) (place : ℕ) (export : Export) → slice_get (kept_in exports) place ≡ Some export
    → slice_get (exports_seen exports) place ≡ Some (export_seen export)
seen-at exports place export at = slice_get-map export_seen (kept_in exports) place ∙ ap (option_map export_seen) at

-- the one that is read at a place at which something is seen
pub item-at : (exports : Exports) (place : ℕ) (seen : ExportSeen) (export : Export)
    → slice_get (exports_seen exports) place ≡ Some seen → export ≡ get_or (kept_in exports) place export
    → slice_get (kept_in exports) place ≡ Some export
item-at exports place seen export there is =
    let within : place < length (kept_in exports) =
    subst (λ (n : ℕ). place < n) (length-map (kept_in exports) export_seen)
    (slice_get_within (map export_seen (kept_in exports)) place seen there) in
    slice_get-get_or (kept_in exports) place export within ∙ ap (λ (e : Export). Some e) (sym is)

-- its name is the one that was sought
named-at : (exports : Exports) (place : ℕ) (seen : ExportSeen) (export : Export) (path : List ℕ) (kind : Kind)
    → slice_get (exports_seen exports) place ≡ Some seen → is_named path kind seen ≡ true
    → slice_get (kept_in exports) place ≡ Some export → names_eq (string_bytes export.path) export.kind path kind ≡ true
named-at exports place seen export path kind there named at =
    let same : Some seen ≡ Some (export_seen export) = sym there ∙ seen-at exports place export at in
    let is : seen ≡ export_seen export = cc in
    sym (ap (is_named path kind) is) ∙ named

-- the record that was looked up in its file
pub found-at : (tells : Bool) (files : World) (exports : Exports) (exported : ExportedValues) (place : ℕ)
    (seen : ExportSeen) (export : Export) (path : List ℕ) (kind : Kind) (id : ℕ) (rec : Rec)
    → slice_get (exports_seen exports) place ≡ Some seen → is_named path kind seen ≡ true
    → slice_get (kept_in exports) place ≡ Some export
    → ((value : QuotaValue) → HoldsAny tells files export.file value → rec ≡ record_of id value)
    → Serves tells files exports exported → Some rec ≡ record_under exported path kind id
found-at tells files exports exported place seen export path kind id rec there named at found serves =
    let served = served-at tells files exports exported place export at serves in
    ap (λ (r : Rec). Some r) (found served.value served.held)
    ∙ sym (ap (option_map (record_of id))
    (sym (under-same exported (string_bytes export.path) export.kind path kind
    (named-at exports place seen export path kind there named at)) ∙ served.there))

-- a look-up in one of the files is refused since the exports stand for nothing, or the store failed
pub refused-at : (tells : Bool) (before now : ℕ) (files : World) (exports : Exports) (place : ℕ) (export : Export)
    (fault : FileFault) → slice_get (kept_in exports) place ≡ Some export
    → IsLookupFault before now (HoldsAny tells files export.file) fault
    → IsAnswerFault before now (Serves tells files exports) fault
refused-at tells before now files exports place export CallFailed at cause = cause
refused-at tells before now files exports place export (Damaged damage) at cause = λ exported serves.
    let served = served-at tells files exports exported place export at serves in cause served.value served.held
refused-at tells before now files exports place export (Full blocks limit) at cause = cause
refused-at tells before now files exports place export NoMemory at cause = cause

pub may-at : (exports : Exports) (place : ℕ) (export : Export) (fault : FileFault)
    → slice_get (kept_in exports) place ≡ Some export → MayRefuse (any_seen export.file).format fault
    → MayRefuseOne (exports_seen exports) fault
may-at exports place export fault at may = (place, export_seen export, seen-at exports place export at, may)

-- one look-up
pub looks-at : {done : Bool} (exports : Exports) (place : ℕ) (export : Export) (old new : StoreSeen)
    → slice_get (kept_in exports) place ≡ Some export → OnlyReads done (any_seen export.file).name old new
    → OnlyLooksUp (exports_seen exports) old new
looks-at exports place export old new at leaves =
    looks-one (exports_seen exports) place (export_seen export) old new (seen-at exports place export at) leaves

seen-is : (was export : Export) → any_seen export.file ≡ any_seen was.file
    → string_bytes export.path ≡ string_bytes was.path → export.kind ≡ was.kind → export_seen export ≡ export_seen was
seen-is was export file path kind =
    ap (λ (f : FileSeen). record { path = string_bytes export.path; kind = export.kind; file = f }) file
    ∙ ap (λ (p : List ℕ). record { path = p; kind = export.kind; file = any_seen was.file }) path
    ∙ ap (λ (k : Kind). record { path = string_bytes was.path; kind = k; file = any_seen was.file }) kind

-- nothing that is seen changes where one file is seen as it was
pub same-set : (old new : Exports) (place : ℕ) (was export : Export) → slice_get (kept_in old) place ≡ Some was
    → kept_in new ≡ set (kept_in old) place export → any_seen export.file ≡ any_seen was.file
    → string_bytes export.path ≡ string_bytes was.path → export.kind ≡ was.kind → exports_seen new ≡ exports_seen old
same-set old new place was export at is file path kind =
    let there : export_seen was ≡ get_or (exports_seen old) place (export_seen export) =
    sym (get_or_from_slice_get (exports_seen old) place (export_seen was) (export_seen export)
    (seen-at old place was at)) in
    ap (map export_seen) is ∙ map-set export_seen (kept_in old) place export
    ∙ ap (set (exports_seen old) place) (seen-is was export file path kind ∙ there)
    ∙ set-get_or (exports_seen old) place (export_seen export)

-- a refused look-up is counted
pub counts-set : (old new : Exports) (place : ℕ) (was export : Export) → slice_get (kept_in old) place ≡ Some was
    → kept_in new ≡ set (kept_in old) place export
    → CountsRefusal true (any_seen was.file) (any_seen export.file) → string_bytes export.path ≡ string_bytes was.path
    → export.kind ≡ was.kind → CountsOne (exports_seen old) (exports_seen new)
counts-set old new place was export at is counts path kind = record {
  place = place;
  export = export_seen was;
  file = any_seen export.file;
  was = seen-at old place was at;
  counts = counts;
  set =
      ap (map export_seen) is ∙ map-set export_seen (kept_in old) place export
      ∙ ap (set (exports_seen old) place)
      (ap (λ (p : List ℕ). record { path = p; kind = export.kind; file = any_seen export.file }) path
      ∙ ap (λ (k : Kind). record { path = string_bytes was.path; kind = k; file = any_seen export.file }) kind);
}

-- Searches.

lt-zero : (b : ℕ) → nat_lt 0 (suc b) ≡ true
lt-zero b = grind (arith, nat_tests)

lt-suc : (a b : ℕ) → nat_lt (1 + a) (suc b) ≡ nat_lt a b
lt-suc a b = grind (arith, nat_tests)

one-more : (here : Bool) (place len : ℕ) (rest : Bool) → nat_lt place len ≡ rest
    → nat_lt (cond (not here) (1 + place) 0) (suc len) ≡ (here || rest)
one-more true place len rest is = lt-zero len
one-more false place len rest is = lt-suc place len ∙ is

any-place : {X : Type 0} (p : X → Bool) (xs : List X) → nat_lt (position_or_len p xs) (length xs) ≡ list_any p xs
any-place p [] = refl
any-place p (x ∷ xs) = one-more (p x) (position_or_len p xs) (length xs) (list_any p xs) (any-place p xs)

any-map : {X Y : Type 0} (p : Y → Bool) (f : X → Y) (xs : List X)
    → list_any p (map f xs) ≡ list_any (λ (x : X). p (f x)) xs
any-map p f [] = refl
any-map p f (x ∷ xs) = ap (λ (b : Bool). p (f x) || b) (any-map p f xs)

some-cond : {X : Type 0} (b : Bool) (x : X) → is_some (cond b (Some x) None) ≡ b
some-cond true x = refl
some-cond false x = refl

-- there is a place exactly where something is exported
pub place-exported : (path : List ℕ) (kind : Kind) (exports : Exports)
    → is_some (position (λ (e : Export). is_named path kind (export_seen e)) (kept_in exports))
    ≡ is_exported (exports_seen exports) path kind
place-exported path kind exports =
    let p : Export → Bool = λ e. is_named path kind (export_seen e) in
    some-cond (nat_lt (position_or_len p (kept_in exports)) (length (kept_in exports)))
    (position_or_len p (kept_in exports))
    ∙ any-place p (kept_in exports) ∙ sym (any-map (is_named path kind) export_seen (kept_in exports))

place-in : (path : List ℕ) (kind : Kind) (list : List Export) (found : Option ℕ)
    → position (λ (e : Export). is_named path kind (export_seen e)) list ≡ found
    → IfSome found (λ place.
    (export : ExportSeen) × (slice_get (map export_seen list) place ≡ Some export) × IsTrue (is_named path kind export))
place-in path kind list None is = tt
place-in path kind [] (Some place) is = absurd (cc)
place-in path kind (first ∷ list) (Some place) is =
    let found = position-Some (λ (e : Export). is_named path kind (export_seen e)) (first ∷ list) place first is in (
      export_seen (get_or (first ∷ list) place first),
      slice_get-map export_seen (first ∷ list) place
          ∙ ap (option_map export_seen) (slice_get-get_or (first ∷ list) place first found.0),
      found.1,
    )

-- what stands at that place
pub place-found : (path : List ℕ) (kind : Kind) (exports : Exports) (found : Option ℕ)
    → found ≡ position (λ (e : Export). is_named path kind (export_seen e)) (kept_in exports)
    → IfSome found (λ place.
    (export : ExportSeen) × (slice_get (exports_seen exports) place ≡ Some export) × IsTrue (is_named path kind export))
place-found path kind exports found is = place-in path kind (kept_in exports) found (sym is)

free-and : (a b : Bool) → (a && not b) ≡ true → b ≡ false
free-and true true is = absurd (cc)
free-and true false is = refl
free-and false b is = absurd (cc)

-- nothing is exported under a path under which something may be exported
pub free-of : (seen : List ExportSeen) (path : List ℕ) (kind : Kind) → IsTrue (may_add seen path kind)
    → is_exported seen path kind ≡ false
free-of seen path kind may = free-and (nat_lt (length seen) 16) (is_exported seen path kind) may

-- what holds of a refusal
pub on-err : {T E : Type 0} (P : Type 0) (result : Result T E) → P → OnErr result P
on-err P (Ok value) is = tt
on-err P (Err fault) is = is
