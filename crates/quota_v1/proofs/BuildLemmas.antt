-- What has been built of a flat file, and how many records it has.
use Rattle.std.proofs.Common.{◌≡◌, ◌≢◌, ℕ, zero, suc, ◌+◌, ◌-◌, ◌%◌, ◌<◌, ◌≤◌, Bool, true, false, cond, List, [], ◌∷◌}
use Rattle.std.proofs.Common.{◌++◌, map, length, get_or, take, drop, replicate, Option, Some, None, ◌==◌, ne_eqb, refl}
use Rattle.std.proofs.Common.{sym, ap, subst, ◌∙◌, inl, inr, arith}
use Rattle.std.proofs.lemmas.Bool.{cases_lt}
use Rattle.std.proofs.Math.Seq.{take-append_seam}
use Rattle.std.proofs.lemmas.Grind.{get_or_default_zero}
use Rattle.std.proofs.lemmas.List.{get_or-map, get_or-replicate, get_or_append_left, get_or_past, length-map}
use Rattle.std.proofs.lemmas.List.{length-replicate, length-take-le, map-append, take-append-drop, take_all}
use Rattle.std.proofs.lemmas.List.Elements.{Contains-append_left, Contains-append_right}
use Rattle.std.proofs.lemmas.Option.{get_or_from_slice_get}
use Rattle.std.specs.Cmp.{nat_cmp_total, unsigned_tied}
use Rattle.std.specs.FinMap.{find, from_entries, from_entries_push, get, get-empty, get-insert, insert}
use Rattle.std.specs.FinMap.{nat_cmp-IsAntisymmetric}
use Rattle.std.specs.List.{All, Contains, slice_get}
use Rattle.std.specs.List.Sorted.{IsStrictlyIncreasing}
use Rattle.std.specs.Ordering.{nat_cmp}
use Rattle.quota_types.specs.Format.{is_flat, record_size}
use Rattle.quota_types.specs.declared.file_kind.Format.{Format}
use Rattle.quota_types.specs.declared.file_kind.Kind.{Kind}
use Rattle.quota_types.specs.declared.record.Entry.{Entry}
use Rattle.quota_types.specs.declared.record.Grace.{Grace}
use Rattle.quota_types.specs.declared.record.Rec.{Rec}
use Rattle.quota_types.specs.Bytes.{byte_at, number_at}
use Rattle.quota_types.specs.Range.{grace_unfit, unfit}
use Rattle.quota_types.specs.Rec.{is_zeros}
use Rattle.quota_value.specs.Listed.{ids_of, records_of, value_of}
use Rattle.quota_types.specs.KeptBytes.{KeepsOutside}
use Rattle.quota_v1.specs.Build.{IsZeroElsewhere, greatest}
use Rattle.quota_v1.specs.FlatFile.{FlatStandsFor, flat_record, timed_record, unless_zeros}
use Rattle.quota_v1.specs.Place.{block_time_start, inode_time_start, record_start, time_width}
use Rattle.quota_v1.proofs.PlaceLemmas.{id_fits, start_of_next, starts_apart, times_fill}
use Rattle.quota_v1.proofs.RecordLemmas.{flat_record-read, flat_record-written, stored_grace, stored_time-kept}
use Rattle.quota_v1.proofs.RecordLemmas.{timed_record-same, unless_zeros-past}

-- an entry, for the places past the end of a list
abbrev pub no_entry : Entry
no_entry = record {
  id = 0;
  rec = record { ihard = 0; isoft = 0; inodes = 0; bhard = 0; bsoft = 0; space = 0; btime = 0; itime = 0 };
}

-- the file has the grace periods and the records of some entries, and otherwise zeros
pub record IsBuiltOf (format : Format) (grace : Grace) (entries : List Entry) (count : ℕ) (file : List ℕ) : Type 0 where
  pub whole : count % record_size format ≡ 0
  pub long : length file ≡ count
  pub block_time : number_at (time_width format) file (block_time_start format 0) ≡ grace.block
  pub inode_time : number_at (time_width format) file (inode_time_start format 0) ≡ grace.inode
  pub records : (id : ℕ) → get (records_of entries) id ≡ flat_record format file id
  pub elsewhere : IsZeroElsewhere format (ids_of entries) file

-- a file of zeros reads as one of no bytes
zeros_outside : (from to count : ℕ) (file : List ℕ) → KeepsOutside from to (replicate count 0) file
    → KeepsOutside from to [] file
zeros_outside from to count file keeps =
    let zero_at : (at : ℕ) → byte_at (replicate count 0) at ≡ 0 = λ at. elim (cases_lt at count) [
      | inl low ↦ get_or-replicate count at 0 0 low
      | inr high ↦ get_or_past (replicate count 0) at 0 (omega (arith, length-replicate {A = ℕ} count 0))
    ] in
    record { before = λ at lt. keeps.before at lt ∙ zero_at at; behind = λ at le. keeps.behind at le ∙ zero_at at }

-- nothing but the grace periods
pub built_none : (format : Format) → is_flat format ≡ true → (grace : Grace) (count : ℕ) (file : List ℕ)
    → count % record_size format ≡ 0 → length file ≡ count
    → number_at (time_width format) file (block_time_start format 0) ≡ grace.block
    → number_at (time_width format) file (inode_time_start format 0) ≡ grace.inode
    → KeepsOutside (block_time_start format 0) (record_start format 1) (replicate count 0) file
    → IsBuiltOf format grace [] count file
built_none format flat grace count file whole long block inode keeps =
    let zeros : KeepsOutside (block_time_start format 0) (record_start format 1) [] file =
    zeros_outside (block_time_start format 0) (record_start format 1) count file keeps in
    let later : (id : ℕ) → 0 < id → record_start format 1 ≤ record_start format id =
    λ id some. omega (arith, start_of_next format 0, starts_apart format 0 id some) in
    record {
      whole = whole;
      long = long;
      block_time = block;
      inode_time = inode;
      records = λ id.
          let outside : (k : ℕ) → record_start format id ≤ k → k < block_time_start format id
          → byte_at file k ≡ byte_at [] k = λ k a b. elim (cases_lt 0 id) [
            | inl some ↦ zeros.behind k (omega (arith, later id some))
            | inr none ↦
                let is : id ≡ 0 = omega arith in
                let same : record_start format id ≡ record_start format 0 = ap (record_start format) is in
                zeros.before k (omega (arith, same))
          ] in
          get-empty nat_cmp id
          ∙ sym (unless_zeros-past format [] id (omega arith))
          ∙ sym (ap unless_zeros
          (timed_record-same format flat [] file id outside (λ some k a b. zeros.behind k (omega (
            arith,
            later id some,
          )))))
          ∙ sym (flat_record-read format file id (ap (λ (n : ℕ). n % record_size format) long ∙ whole));
      elsewhere = λ id none at lt first. elim (cases_lt 0 id) [
        | inl some ↦ zeros.behind (record_start format id + at) (omega (arith, later id some))
        | inr last ↦
            let is : id ≡ 0 = omega arith in
            let same : record_start format id ≡ record_start format 0 = ap (record_start format) is in
            zeros.before (record_start format id + at) (omega (arith, same, first is))
      ];
    }

-- an identifier that stands nowhere has no entry
find_unlisted : (entries : List Entry) (id : ℕ) → ¬ Contains (ids_of entries) id
    → find nat_cmp id (map (λ (entry : Entry). (entry.id, entry.rec)) entries) ≡ None
find_unlisted [] id none = refl
find_unlisted (entry ∷ entries) id none =
    let other : id ≢ entry.id = λ same. none (0, omega arith, sym same) in
    ap (λ (b : Bool). cond b (Some entry.rec) (find nat_cmp id (map (λ (e : Entry). (e.id, e.rec)) entries)))
    (unsigned_tied id entry.id ∙ ne_eqb id entry.id other)
    ∙ find_unlisted entries id (λ there. none (suc there.0, omega (arith, there.1), there.2))

-- one more record
pub built_more : (format : Format) → is_flat format ≡ true
    → (grace : Grace) (entries : List Entry) (count : ℕ) (entry : Entry) (old new : List ℕ)
    → IsBuiltOf format grace entries count old → length new ≡ length old
    → timed_record format new entry.id ≡ entry.rec
    → KeepsOutside (record_start format entry.id) (record_start format entry.id + record_size format) old new
    → (entry.id ≡ 0 → KeepsOutside (record_start format 0) (block_time_start format 0) old new)
    → is_zeros entry.rec ≡ false → ¬ Contains (ids_of entries) entry.id
    → IsBuiltOf format grace (entries ++ entry ∷ []) count new
built_more format flat grace entries count entry old new built same is keeps times some unlisted =
    let fill = times_fill format flat in
    let whole : length old % record_size format ≡ 0 = ap (λ (n : ℕ). n % record_size format) built.long ∙ built.whole in
    record {
      whole = built.whole;
      long = same ∙ built.long;
      block_time = stored_time-kept format old new entry.id (block_time_start format 0) (omega arith)
          (omega (arith, fill)) keeps times ∙ built.block_time;
      inode_time = stored_time-kept format old new entry.id (inode_time_start format 0) (omega arith)
          (omega (arith, fill)) keeps times ∙ built.inode_time;
      records = λ q.
          let pushed : records_of (entries ++ entry ∷ []) ≡ insert (records_of entries) entry.id entry.rec =
          ap (from_entries {R = nat_cmp}) (map-append (λ (e : Entry). (e.id, e.rec)) entries (entry ∷ []))
          ∙ from_entries_push nat_cmp_total nat_cmp-IsAntisymmetric (map (λ (e : Entry). (e.id, e.rec)) entries)
          entry.id entry.rec (find_unlisted entries entry.id unlisted) in
          let there : unless_zeros entry.rec ≡ Some entry.rec = ap (λ (b : Bool). cond b None (Some entry.rec)) some in
          ap (λ m. get m q) pushed
          ∙ get-insert nat_cmp_total (records_of entries) entry.id entry.rec q
          ∙ ap (λ (b : Bool). cond b (Some entry.rec) (get (records_of entries) q)) (unsigned_tied q entry.id)
          ∙ ap (λ (r : Option Rec). cond (q == entry.id) (Some entry.rec) r) (built.records q)
          ∙ ap (λ (r : Option Rec). cond (q == entry.id) r (flat_record format old q)) (sym there)
          ∙ sym (flat_record-written format flat old new entry.id q entry.rec whole
          (ap (λ (n : ℕ). n % record_size format) same ∙ whole) is keeps);
      elsewhere = λ q none at lt first.
          let ids : ids_of (entries ++ entry ∷ []) ≡ ids_of entries ++ entry.id ∷ [] =
          map-append (λ (e : Entry). e.id) entries (entry ∷ []) in
          let before : ¬ Contains (ids_of entries) q = λ there. none
          (subst (λ (ids : List ℕ). Contains ids q) (sym ids)
          (Contains-append_left (ids_of entries) (entry.id ∷ []) q there)) in
          let other : q ≢ entry.id = λ same. none
          (subst (λ (ids : List ℕ). Contains ids q) (sym ids)
          (Contains-append_right (ids_of entries) (entry.id ∷ []) q (0, omega arith, sym same))) in
          let stays : byte_at new (record_start format q + at) ≡ byte_at old (record_start format q + at) =
          elim (cases_lt q entry.id) [
            | inl low ↦
                keeps.before (record_start format q + at) (omega (arith, lt, starts_apart format q entry.id low))
            | inr high ↦ keeps.behind (record_start format q + at)
                (omega (arith, starts_apart format entry.id q (omega (arith, high, other))))
          ] in
          stays ∙ built.elsewhere q before at lt first;
    }

-- the file of all entries stands for the value that has them for its records
pub built_stands : (format : Format) → is_flat format ≡ true
    → (grace : Grace) (entries : List Entry) (count : ℕ) (file : List ℕ) (kind : Kind)
    → IsBuiltOf format grace entries count file → grace_unfit format grace ≡ None
    → FlatStandsFor format file (value_of kind format grace 0 entries)
built_stands format flat grace entries count file kind built fits = record {
  whole = ap (λ (n : ℕ). n % record_size format) built.long ∙ built.whole;
  format = refl;
  flags = refl;
  grace = stored_grace format flat file grace built.block_time built.inode_time fits;
  records = built.records;
}

-- the numbers of an ascending list, at two places
apart : (numbers : List ℕ) → IsStrictlyIncreasing numbers → (j k : ℕ) → j < k → k < length numbers
    → get_or numbers j 0 < get_or numbers k 0
apart numbers rises j zero lt within = absurd (omega arith)
apart numbers rises j (suc k) lt within =
    let next : get_or numbers k 0 < get_or numbers (suc k) 0 =
    subst (λ (n : ℕ). get_or numbers k 0 < get_or numbers n 0) (omega arith) (rises k (omega arith)) in
    elim (cases_lt j k) [
      | inl low ↦
          let rest : get_or numbers j 0 < get_or numbers k 0 = apart numbers rises j k low (omega arith) in
          omega arith
      | inr high ↦
          let same : j ≡ k = omega arith in
          subst (λ (n : ℕ). get_or numbers n 0 < get_or numbers (suc k) 0) (sym same) next
    ]

pub le_greatest : (numbers : List ℕ) (k : ℕ) → k < length numbers → get_or numbers k 0 ≤ greatest numbers
le_greatest [] k lt = absurd (omega arith)
le_greatest (number ∷ numbers) zero lt = omega arith
le_greatest (number ∷ numbers) (suc k) lt =
    let rest : get_or numbers k 0 ≤ greatest numbers = le_greatest numbers k (omega arith) in
    omega arith

greatest_le : (numbers : List ℕ) (bound : ℕ) → ((k : ℕ) → k < length numbers → get_or numbers k 0 ≤ bound)
    → greatest numbers ≤ bound
greatest_le [] bound below = omega arith
greatest_le (number ∷ numbers) bound below =
    let first : number ≤ bound = below 0 (omega arith) in
    let rest : greatest numbers ≤ bound = greatest_le numbers bound (λ k lt. below (suc k) (omega arith)) in
    omega arith

-- the last number of an ascending list is the greatest one
pub greatest_last : (numbers : List ℕ) (last : ℕ) → IsStrictlyIncreasing numbers → length numbers ≡ suc last
    → greatest numbers ≡ get_or numbers last 0
greatest_last numbers last rises long =
    let le : greatest numbers ≤ get_or numbers last 0 =
    greatest_le numbers (get_or numbers last 0) (λ k lt. elim (cases_lt k last) [
      | inl low ↦
          let below : get_or numbers k 0 < get_or numbers last 0 = apart numbers rises k last low (omega arith) in
          omega arith
      | inr high ↦
          let same : k ≡ last = omega arith in
          subst (λ (n : ℕ). get_or numbers n 0 ≤ get_or numbers last 0) (sym same) (omega arith)
    ]) in
    let ge : get_or numbers last 0 ≤ greatest numbers = le_greatest numbers last (omega arith) in
    omega arith

-- the identifier at a place
id_at : (entries : List Entry) (k : ℕ) → k < length entries
    → get_or (ids_of entries) k 0 ≡ (get_or entries k no_entry).id
id_at entries k lt = get_or-map (λ (e : Entry). e.id) entries k no_entry 0 lt

-- the identifier of an entry is at most the greatest one
pub id_le_greatest : (entries : List Entry) (k : ℕ) → k < length entries
    → (get_or entries k no_entry).id ≤ greatest (ids_of entries)
id_le_greatest entries k lt =
    let le : get_or (ids_of entries) k 0 ≤ greatest (ids_of entries) =
    le_greatest (ids_of entries) k (omega (arith, length-map entries (λ (e : Entry). e.id))) in
    omega (arith, le, id_at entries k lt)

-- a flat file has room for the greatest identifier
pub greatest_fits : (format : Format) → is_flat format ≡ true → (entries : List Entry)
    → All (λ (entry : Entry). unfit format entry.id entry.rec ≡ None) entries → greatest (ids_of entries) ≤ 1048575
greatest_fits format flat entries fits =
    let below : (k : ℕ) → k < length (ids_of entries) → get_or (ids_of entries) k 0 ≤ 1048575 = λ k lt.
    let within : k < length entries = omega (arith, lt, length-map entries (λ (e : Entry). e.id)) in
    let id : (get_or entries k no_entry).id ≤ 1048575 =
    id_fits format flat _ (get_or entries k no_entry).rec (fits k no_entry within) in
    omega (arith, id, id_at entries k within) in
    greatest_le (ids_of entries) 1048575 below

-- an identifier of an ascending list stands nowhere before its place
pub not_before : (entries : List Entry) (k : ℕ) → IsStrictlyIncreasing (ids_of entries) → k < length entries
    → ¬ Contains (ids_of (take k entries)) (get_or entries k no_entry).id
not_before entries k rises lt there =
    let id : ℕ = (get_or entries k no_entry).id in
    let before : ids_of entries ≡ ids_of (take k entries) ++ ids_of (drop k entries) =
    ap ids_of (sym (take-append-drop k entries)) ∙ map-append (λ (e : Entry). e.id) (take k entries) (drop k entries) in
    let long : length (ids_of (take k entries)) ≡ k =
    length-map (take k entries) (λ (e : Entry). e.id) ∙ length-take-le k entries (omega arith) in
    let at : get_or (ids_of (take k entries)) there.0 0 ≡ id =
    sym (get_or_default_zero (ids_of (take k entries)) there.0 id there.1) ∙ there.2 in
    let at_all : get_or (ids_of entries) there.0 0 ≡ id =
    ap (λ (ids : List ℕ). get_or ids there.0 0) before
    ∙ get_or_append_left (ids_of (take k entries)) (ids_of (drop k entries)) 0 there.0 there.1 ∙ at in
    let below : get_or (ids_of entries) there.0 0 < get_or (ids_of entries) k 0 =
    apart (ids_of entries) rises there.0 k (omega (arith, there.1, long))
    (omega (arith, lt, length-map entries (λ (e : Entry). e.id))) in
    omega (arith, below, at_all, id_at entries k lt)

-- the identifier of the last entry is the greatest one
pub greatest_of_last : (entries : List Entry) (entry : Entry) → slice_get entries (length entries - 1) ≡ Some entry
    → IsStrictlyIncreasing (ids_of entries) → greatest (ids_of entries) ≡ entry.id
greatest_of_last [] entry found rises = absurd cc
greatest_of_last (first ∷ rest) entry found rises =
    let k : ℕ = length (first ∷ rest) - 1 in
    let at : get_or (first ∷ rest) k no_entry ≡ entry = get_or_from_slice_get (first ∷ rest) k entry no_entry found in
    greatest_last (ids_of (first ∷ rest)) k rises (omega (arith, length-map (first ∷ rest) (λ (e : Entry). e.id)))
    ∙ id_at (first ∷ rest) k (omega arith)
    ∙ ap (λ (e : Entry). e.id) at

-- what was written over the whole of some bytes
pub written_whole : (count : ℕ) (new rest : List ℕ) → length new ≡ count → take count (new ++ rest) ≡ new
written_whole count new rest long = ap (λ (n : ℕ). take n (new ++ rest)) (sym long) ∙ take-append_seam new rest

-- all entries
pub built_all : (format : Format) (grace : Grace) (entries : List Entry) (place count : ℕ) (file : List ℕ)
    → length entries ≤ place → IsBuiltOf format grace (take place entries) count file
    → IsBuiltOf format grace entries count file
built_all format grace entries place count file le built =
    subst (λ (es : List Entry). IsBuiltOf format grace es count file) (take_all place entries le) built
