-- The used entries of a data block of which one was put, overwritten or cleared.
use Rattle.std.proofs.Common.{◌≡◌, ◌≢◌, ℕ, suc, ◌+◌, ◌-◌, ◌<◌, ◌≤◌, Bool, true, false, cond, ◌||◌, ◌==◌, nat_lt, List}
use Rattle.std.proofs.Common.{[], ◌∷◌, ◌++◌, length, map, find, Option, Some, None, option_map, refl, sym, ap, subst}
use Rattle.std.proofs.Common.{◌∙◌, inl, inr, arith, true≢false, length-append, ne_eqb, eq-eqb}
use Rattle.std.proofs.lemmas.Bool.{cases_Bool, cases_eq, cases_lt, le-ltb, lt-ltb}
use Rattle.std.proofs.lemmas.List.{map-append}
use Rattle.std.proofs.lemmas.List.Elements.{filter_map-append}
use Rattle.std.proofs.lemmas.List.FromFn.{length-map-range_with_len}
use Rattle.std.specs.List.{cons_option, filter_map, flat_map, list_any, range_with_len}
use Rattle.std.specs.Option.{option_or}
use Rattle.std.specs.Prelude.{◌↔◌}
use Rattle.quota_types.specs.Kept.{without_marker}
use Rattle.quota_types.specs.Times.{times}
use Rattle.quota_types.specs.declared.file_kind.Format.{Format}
use Rattle.quota_types.specs.declared.record.Entry.{Entry}
use Rattle.quota_types.specs.declared.record.Rec.{Rec}
use Rattle.quota_types.proofs.TimesLemmas.{range_with_len-add, times-append, times-cons, times-cons-same, times_cases}
use Rattle.entry_codec.specs.Entry.{entries_per_block, is_unused, stored_id}
use Rattle.tree_meaning.specs.Entries.{entry_bytes, entry_of, has_unused, id_in, stored_record, used_entries, used_ids}
use Rattle.tree_meaning.specs.EntryRecords.{used_by}
use Rattle.tree_meaning.specs.EntryPlaces.{ClearsEntry, HasOneMore, KeepsOtherEntries, OverwritesEntry, PutsEntry}
use Rattle.tree_meaning.specs.TreeFile.{record_in}
use Rattle.tree_meaning.proofs.EntryLemmas.{any_same, any_there, no_test, unused_none, used_ids-entries, used_one}
use Rattle.tree_meaning.proofs.EntryPlaceLemmas.{all_bytes, entries_are, ids_are, made_same, unused_are}
use Rattle.byte_order.specs.declared.order.Order.TheVariants.{Little}
use Rattle.tree_meaning.proofs.RecordLemmas.{found_or_later, spelled, used_there}

-- the record of an identifier among some entries
abbrev rec_of : ℕ → List Entry → Option Rec
rec_of id entries = option_map (λ (entry : Entry). entry.rec) (find (λ (entry : Entry). entry.id == id) entries)

-- the identifiers of some entries
abbrev ids_in : List Entry → List ℕ
ids_in entries = map (λ (entry : Entry). entry.id) entries

rec_of-append : (id : ℕ) (xs ys : List Entry) → rec_of id (xs ++ ys) ≡ option_or (rec_of id xs) (rec_of id ys)
rec_of-append id [] ys = refl
rec_of-append id (x ∷ xs) ys =
    found_or_later id (Some x) (xs ++ ys)
    ∙ ap (option_or (used_by id x)) (rec_of-append id xs ys)
    ∙ option_or_twice (used_by id x) (rec_of id xs) (rec_of id ys)
    ∙ sym (ap (λ (o : Option Rec). option_or o (rec_of id ys)) (found_or_later id (Some x) xs))
  where
    option_or_twice : (a b c : Option Rec) → option_or a (option_or b c) ≡ option_or (option_or a b) c
    option_or_twice None b c = refl
    option_or_twice (Some r) b c = refl

-- an identifier that no entry has gets no record
no_rec : (id : ℕ) (entries : List Entry) → times (ids_in entries) id ≡ 0 → rec_of id entries ≡ None
no_rec id [] none = refl
no_rec id (e ∷ entries) none = elim (times_cases e.id (ids_in entries) id) [
  | inl same ↦ absurd (omega (arith, same.1, none))
  | inr other ↦ found_or_later id (Some e) entries
      ∙ ap (λ (b : Bool). option_or (cond b (Some e.rec) None) (rec_of id entries)) (ne_eqb e.id id other.0)
      ∙ no_rec id entries (sym other.1 ∙ none)
]

-- the record of the first entry of an identifier
own_rec : (entry : Entry) (before behind : List Entry) → times (ids_in before) entry.id ≡ 0
    → rec_of entry.id (before ++ entry ∷ behind) ≡ Some entry.rec
own_rec entry before behind none =
    rec_of-append entry.id before (entry ∷ behind)
    ∙ ap (λ (o : Option Rec). option_or o (rec_of entry.id (entry ∷ behind))) (no_rec entry.id before none)
    ∙ found_or_later entry.id (Some entry) behind
    ∙ ap (λ (b : Bool). option_or (cond b (Some entry.rec) None) (rec_of entry.id behind))
    (eq-eqb entry.id entry.id refl)

-- the record of another identifier than that of an entry
other_rec : (id : ℕ) (entry : Entry) (before behind : List Entry) → id ≢ entry.id
    → rec_of id (before ++ entry ∷ behind) ≡ rec_of id (before ++ behind)
other_rec id entry before behind apart =
    rec_of-append id before (entry ∷ behind)
    ∙ ap (option_or (rec_of id before))
    (found_or_later id (Some entry) behind
    ∙ ap (λ (b : Bool). option_or (cond b (Some entry.rec) None) (rec_of id behind))
    (ne_eqb entry.id id (λ e. apart (sym e))))
    ∙ sym (rec_of-append id before behind)

-- the identifiers of a list with one entry more
module _ (entry : Entry) (old new : List Entry) (more : HasOneMore entry old new) where
  more_ids : ids_in new ≡ ids_in more.before ++ entry.id ∷ ids_in more.behind
  more_ids = ap ids_in more.is ∙ map-append (λ (entry : Entry). entry.id) more.before (entry ∷ more.behind)

  old_ids : ids_in old ≡ ids_in more.before ++ ids_in more.behind
  old_ids = ap ids_in more.was ∙ map-append (λ (entry : Entry). entry.id) more.before more.behind

  more_times : (id : ℕ) → times (ids_in new) id ≡ times (entry.id ∷ ids_in old) id
  more_times id = omega (
    arith,
    ap (λ (ids : List ℕ). times ids id) more_ids,
    ap (λ (ids : List ℕ). times ids id) old_ids,
    times-append (ids_in more.before) (entry.id ∷ ids_in more.behind) id,
    times-append (ids_in more.before) (ids_in more.behind) id,
    times-cons entry.id (ids_in more.behind) id,
    times-cons entry.id (ids_in old) id,
  )

  more_length : length (ids_in new) ≡ suc (length (ids_in old))
  more_length = omega (
    arith,
    ap length more_ids,
    ap length old_ids,
    length-append (ids_in more.before) (entry.id ∷ ids_in more.behind),
    length-append (ids_in more.before) (ids_in more.behind),
  )

  more_other : (id : ℕ) → id ≢ entry.id → rec_of id new ≡ rec_of id old
  more_other id apart =
      ap (rec_of id) more.is ∙ other_rec id entry more.before more.behind apart ∙ sym (ap (rec_of id) more.was)

  more_own : times (ids_in old) entry.id ≡ 0 → rec_of entry.id new ≡ Some entry.rec
  more_own none =
      ap (rec_of entry.id) more.is
      ∙ own_rec entry more.before more.behind (omega (
        arith,
        none,
        ap (λ (ids : List ℕ). times ids entry.id) old_ids,
        times-append (ids_in more.before) (ids_in more.behind) entry.id,
      ))

-- an identifier that uses no entry of a block has no record in it
pub no_record : (format : Format) (block : List ℕ) (id : ℕ) → times (used_ids format block) id ≡ 0
    → record_in format block id ≡ None
no_record format block id none =
    no_rec id (used_entries format block)
    (sym (ap (λ (ids : List ℕ). times ids id) (used_ids-entries format block)) ∙ none)

-- unused bytes spell no entry
none_spelled : (format : Format) (bytes : List ℕ) → is_unused bytes ≡ true → entry_of format bytes ≡ None
none_spelled format bytes unused =
    ap (λ (b : Bool). cond b None (Some (record {
      id = stored_id bytes;
      rec = without_marker (stored_id bytes) (stored_record format bytes);
    }))) unused

-- the entries of a block around one of them
parted : (format : Format) (block : List ℕ) (place : ℕ) → place < entries_per_block format
    → used_entries format block
    ≡ filter_map (entry_of format) (map (entry_bytes format block) (range_with_len 0 place))
    ++ cons_option (entry_of format (entry_bytes format block place))
    (filter_map (entry_of format)
    (map (entry_bytes format block) (range_with_len (place + 1) (entries_per_block format - (place + 1)))))
parted format block place low =
    let rest : ℕ = entries_per_block format - (place + 1) in
    let all : entries_per_block format ≡ place + suc rest = omega arith in
    let start : 0 + place ≡ place = omega arith in
    let parts : range_with_len 0 (entries_per_block format)
    ≡ range_with_len 0 place ++ place ∷ range_with_len (place + 1) rest =
    ap (range_with_len 0) all ∙ range_with_len-add 0 place (suc rest)
    ∙ ap (λ (k : ℕ). range_with_len 0 place ++ range_with_len k (suc rest)) start in
    entries_are format block
    ∙ ap (λ (places : List ℕ). filter_map (entry_of format) (map (entry_bytes format block) places)) parts
    ∙ ap (filter_map (entry_of format))
    (map-append (entry_bytes format block) (range_with_len 0 place) (place ∷ range_with_len (place + 1) rest))
    ∙ filter_map-append (entry_of format) (map (entry_bytes format block) (range_with_len 0 place))
    (map (entry_bytes format block) (place ∷ range_with_len (place + 1) rest))

-- two blocks that have the same entries at all places but one
module _ (format : Format) (place : ℕ) (old new : List ℕ) (keeps : KeepsOtherEntries format place old new) where
  abbrev front : List Entry
  front = filter_map (entry_of format) (map (entry_bytes format old) (range_with_len 0 place))

  abbrev back : List Entry
  back =
      filter_map (entry_of format)
      (map (entry_bytes format old) (range_with_len (place + 1) (entries_per_block format - (place + 1))))

  entries_were : (o : Option Entry) → entry_of format (entry_bytes format old place) ≡ o
      → used_entries format old ≡ front ++ cons_option o back
  entries_were o is = parted format old place keeps.low ∙ ap (λ (o : Option Entry). front ++ cons_option o back) is

  entries_now : (o : Option Entry) → entry_of format (entry_bytes format new place) ≡ o
      → used_entries format new ≡ front ++ cons_option o back
  entries_now o is =
      let first : map (entry_bytes format new) (range_with_len 0 place)
      ≡ map (entry_bytes format old) (range_with_len 0 place) =
      made_same (entry_bytes format new) (entry_bytes format old) 0 place
      (λ k from to. keeps.others k (omega (arith, to, keeps.low)) (λ e. omega (arith, e, to))) in
      let rest : map (entry_bytes format new) (range_with_len (place + 1) (entries_per_block format - (place + 1)))
      ≡ map (entry_bytes format old) (range_with_len (place + 1) (entries_per_block format - (place + 1))) =
      made_same (entry_bytes format new) (entry_bytes format old) (place + 1) (entries_per_block format - (place + 1))
      (λ k from to. keeps.others k (omega (arith, to, from)) (λ e. omega (arith, e, from))) in
      parted format new place keeps.low
      ∙ (λ i. filter_map (entry_of format) (first i) ++ cons_option (is i) (filter_map (entry_of format) (rest i)))

-- an entry that was put is one more
module _ (format : Format) (place : ℕ) (entry : Entry) (old new : List ℕ)
    (puts : PutsEntry format place entry old new) where
  pub put_entries : HasOneMore entry (used_entries format old) (used_entries format new)
  put_entries = record {
    before = front format place old new puts.others;
    behind = back format place old new puts.others;
    was = entries_were format place old new puts.others None
        (none_spelled format (entry_bytes format old place) puts.was);
    is = entries_now format place old new puts.others (Some entry) puts.is;
  }

  pub put_times : (id : ℕ) → times (used_ids format new) id ≡ times (entry.id ∷ used_ids format old) id
  put_times id =
      ap (λ (ids : List ℕ). times ids id) (used_ids-entries format new)
      ∙ more_times entry (used_entries format old) (used_entries format new) put_entries id
      ∙ sym (ap (λ (ids : List ℕ). times (entry.id ∷ ids) id) (used_ids-entries format old))

  pub put_length : length (used_ids format new) ≡ suc (length (used_ids format old))
  put_length =
      ap length (used_ids-entries format new)
      ∙ more_length entry (used_entries format old) (used_entries format new) put_entries
      ∙ sym (ap (λ (ids : List ℕ). suc (length ids)) (used_ids-entries format old))

  pub put_other : (id : ℕ) → id ≢ entry.id → record_in format new id ≡ record_in format old id
  put_other = more_other entry (used_entries format old) (used_entries format new) put_entries

  pub put_own : times (used_ids format old) entry.id ≡ 0 → record_in format new entry.id ≡ Some entry.rec
  put_own none =
      more_own entry (used_entries format old) (used_entries format new) put_entries
      (sym (ap (λ (ids : List ℕ). times ids entry.id) (used_ids-entries format old)) ∙ none)

  pub put_full : (has_unused format new ≡ false)
      ↔ ((at : ℕ) → at < entries_per_block format → at ≢ place → is_unused (entry_bytes format old at) ≡ false)
  unfolding has_unused
  put_full =
      let test : ℕ → Bool = λ at. is_unused (entry_bytes format new at) in (
        λ full at low other. elim (cases_Bool (is_unused (entry_bytes format old at))) [
          | inl unused ↦ absurd
              (true≢false (sym
              (any_there test 0 (entries_per_block format) at (omega arith) (omega (arith, low))
              (ap is_unused (puts.others.others at low other) ∙ unused)) ∙ full))
          | inr used ↦ used
        ],
        λ used. no_test test 0 (entries_per_block format) (λ at from to. elim (cases_eq at place) [
          | inl same ↦ ap test same ∙ (spelled Little format (entry_bytes format new place) entry puts.is).0
          | inr other ↦
              ap is_unused (puts.others.others at (omega (arith, to)) other) ∙ used at (omega (arith, to)) other
        ]),
      )

-- an entry that was cleared is one that is put in the block as it is now, so that it is as it was
cleared_back : (format : Format) (place id : ℕ) (old new : List ℕ) → ClearsEntry format place id old new
    → (rec : Rec) × PutsEntry format place (record { id = id; rec = rec }) new old
cleared_back format place id old new clears =
    let used = used_there format (entry_bytes format old place) id clears.was in (
      used.1.0,
      record {
        others = record { low = clears.others.low; others = λ at low other. sym (clears.others.others at low other) };
        was = clears.is;
        is = used.1.1;
      },
    )

module _ (format : Format) (place id : ℕ) (old new : List ℕ) (clears : ClearsEntry format place id old new) where
  pub cleared_entries : (rec : Rec)
      × HasOneMore (record { id = id; rec = rec }) (used_entries format new) (used_entries format old)
  cleared_entries =
      let back = cleared_back format place id old new clears in
      (back.0, put_entries format place (record { id = id; rec = back.0 }) new old back.1)

  pub cleared_times : (other : ℕ) → times (used_ids format old) other ≡ times (id ∷ used_ids format new) other
  cleared_times =
      let back = cleared_back format place id old new clears in
      put_times format place (record { id = id; rec = back.0 }) new old back.1

  pub cleared_length : length (used_ids format old) ≡ suc (length (used_ids format new))
  cleared_length =
      let back = cleared_back format place id old new clears in
      put_length format place (record { id = id; rec = back.0 }) new old back.1

  pub cleared_other : (other : ℕ) → other ≢ id → record_in format new other ≡ record_in format old other
  cleared_other other apart =
      let back = cleared_back format place id old new clears in
      sym (put_other format place (record { id = id; rec = back.0 }) new old back.1 other apart)

  pub cleared_own : times (used_ids format old) id ≡ 1 → record_in format new id ≡ None
  cleared_own once =
      no_record format new id (omega (arith, once, cleared_times id, times-cons-same id (used_ids format new)))

  pub cleared_room : has_unused format new ≡ true
  unfolding has_unused
  cleared_room =
      any_there (λ at. is_unused (entry_bytes format new at)) 0 (entries_per_block format) place (omega arith)
      (omega (arith, clears.others.low)) clears.is

-- an entry that was overwritten by one of its identifier
module _ (format : Format) (place : ℕ) (entry : Entry) (old new : List ℕ)
    (overwrites : OverwritesEntry format place entry old new) where
  abbrev front_ones : List Entry
  front_ones = front format place old new overwrites.others

  abbrev back_ones : List Entry
  back_ones = back format place old new overwrites.others

  over_entries_were : (rec : Rec)
      × (used_entries format old ≡ front_ones ++ record { id = entry.id; rec = rec } ∷ back_ones)
  over_entries_were =
      let used = used_there format (entry_bytes format old place) entry.id overwrites.was in (
        used.1.0,
        entries_were format place old new overwrites.others (Some (record { id = entry.id; rec = used.1.0 })) used.1.1,
      )

  over_entries_now : used_entries format new ≡ front_ones ++ entry ∷ back_ones
  over_entries_now = entries_now format place old new overwrites.others (Some entry) overwrites.is

  over_ids_were : used_ids format old ≡ ids_in front_ones ++ entry.id ∷ ids_in back_ones
  over_ids_were =
      used_ids-entries format old ∙ ap ids_in over_entries_were.1
      ∙ map-append (λ (entry : Entry). entry.id) front_ones
      (record { id = entry.id; rec = over_entries_were.0 } ∷ back_ones)

  pub overwritten_ids : used_ids format new ≡ used_ids format old
  overwritten_ids =
      used_ids-entries format new ∙ ap ids_in over_entries_now
      ∙ map-append (λ (entry : Entry). entry.id) front_ones (entry ∷ back_ones) ∙ sym over_ids_were

  pub overwritten_other : (id : ℕ) → id ≢ entry.id → record_in format new id ≡ record_in format old id
  overwritten_other id apart =
      ap (rec_of id) over_entries_now ∙ other_rec id entry front_ones back_ones apart
      ∙ sym (ap (rec_of id) over_entries_were.1
      ∙ other_rec id (record { id = entry.id; rec = over_entries_were.0 }) front_ones back_ones apart)

  pub overwritten_own : times (used_ids format old) entry.id ≡ 1 → record_in format new entry.id ≡ Some entry.rec
  overwritten_own once =
      ap (rec_of entry.id) over_entries_now
      ∙ own_rec entry front_ones back_ones (omega (
        arith,
        once,
        ap (λ (ids : List ℕ). times ids entry.id) over_ids_were,
        times-append (ids_in front_ones) (entry.id ∷ ids_in back_ones) entry.id,
        times-cons-same entry.id (ids_in back_ones),
      ))

  pub overwritten_room : has_unused format new ≡ has_unused format old
  unfolding has_unused
  overwritten_room =
      let used = used_there format (entry_bytes format old place) entry.id overwrites.was in
      any_same (λ at. is_unused (entry_bytes format new at)) (λ at. is_unused (entry_bytes format old at)) 0
      (entries_per_block format)
      (λ at from to. elim (cases_eq at place) [
        | inl same ↦ ap (λ (n : ℕ). is_unused (entry_bytes format new n)) same
            ∙ (spelled Little format (entry_bytes format new place) entry overwrites.is).0 ∙ sym used.0
            ∙ ap (λ (n : ℕ). is_unused (entry_bytes format old n)) (sym same)
        | inr other ↦ ap is_unused (overwrites.others.others at (omega (arith, to)) other)
      ])

both_more : (a b : ℕ) → nat_lt a b ≡ nat_lt (suc a) (suc b)
both_more a b = elim (cases_lt a b) [
  | inl low ↦ lt-ltb a b low ∙ sym (lt-ltb (suc a) (suc b) (omega arith))
  | inr high ↦ le-ltb a b high ∙ sym (le-ltb (suc a) (suc b) (omega arith))
]

-- an entry of a block is unused where fewer are used than there are
room_left : (format : Format) (parts : List (List ℕ))
    → (list_any is_unused parts ≡ nat_lt (length (flat_map (id_in format) parts)) (length parts))
    × (length (flat_map (id_in format) parts) ≤ length parts)
room_left format [] = (refl, omega arith)
room_left format (bytes ∷ parts) =
    let rest = room_left format parts in
    let ids : List ℕ = flat_map (id_in format) parts in
    elim (cases_Bool (is_unused bytes)) [
      | inl unused ↦
          let same : flat_map (id_in format) (bytes ∷ parts) ≡ ids =
          ap (λ (first : List ℕ). first ++ ids) (unused_none format bytes unused) in
          let few : length (flat_map (id_in format) (bytes ∷ parts)) ≤ length parts =
          subst (λ (ns : List ℕ). length ns ≤ length parts) (sym same) rest.1 in (
            ap (λ (b : Bool). b || list_any is_unused parts) unused
                ∙ sym (lt-ltb (length (flat_map (id_in format) (bytes ∷ parts))) (suc (length parts)) (omega arith)),
            omega arith,
          )
      | inr used ↦
          let more : flat_map (id_in format) (bytes ∷ parts) ≡ stored_id bytes ∷ ids =
          ap (λ (first : List ℕ). first ++ ids) (sym (used_one format bytes (stored_id bytes) used refl)) in
          let count : length (flat_map (id_in format) (bytes ∷ parts)) ≡ suc (length ids) = ap length more in (
            ap (λ (b : Bool). b || list_any is_unused parts) used ∙ rest.0
                ∙ both_more (length ids) (length parts)
                ∙ ap (λ (n : ℕ). nat_lt n (suc (length parts))) (sym count),
            omega (arith, count, rest.1),
          )
    ]

-- a block has an unused entry where it has fewer used ones than places
pub room_by_count : (format : Format) (block : List ℕ)
    → has_unused format block ≡ nat_lt (length (used_ids format block)) (entries_per_block format)
room_by_count format block =
    unused_are format block
    ∙ (room_left format (all_bytes format block)).0
    ∙ (λ i. nat_lt (length (sym (ids_are format block) i))
    (length-map-range_with_len (entry_bytes format block) 0 (entries_per_block format) i))

-- and no more used ones than places
pub few_used : (format : Format) (block : List ℕ) → length (used_ids format block) ≤ entries_per_block format
few_used format block =
    let few : length (flat_map (id_in format) (all_bytes format block)) ≤ length (all_bytes format block) =
    (room_left format (all_bytes format block)).1 in
    omega (
      arith,
      few,
      ap length (ids_are format block),
      length-map-range_with_len (entry_bytes format block) 0 (entries_per_block format),
    )
