-- The record of an identifier among the entries of a block.
use Rattle.std.proofs.Common.{◌≡◌, ◌≢◌, ℕ, suc, ◌+◌, ◌-◌, ◌*◌, ◌<◌, ◌≤◌, Bool, false, cond, ◌==◌, List, find, Option}
use Rattle.std.proofs.Common.{Some, None, option_and_then, option_map, refl, sym, ap, subst, ◌∙◌, inl, inr, arith}
use Rattle.std.proofs.Common.{ne_eqb, eq-eqb}
use Rattle.std.proofs.lemmas.Bool.{cases_Bool}
use Rattle.std.proofs.lemmas.Bool.Decides.{eqb_tells}
use Rattle.std.specs.List.{cons_option, filter_map, range_with_len}
use Rattle.std.specs.Option.{option_or}
use Rattle.std.specs.Prelude.{IsSome}
use Rattle.quota_types.specs.Bytes.{number_at}
use Rattle.quota_types.specs.Format.{IsTreeFormat, record_size}
use Rattle.quota_types.specs.Kept.{without_marker}
use Rattle.quota_types.specs.declared.file_kind.Format.{Format}
use Rattle.quota_types.proofs.FormatLemmas.{by_tree}
use Rattle.quota_types.specs.declared.record.Entry.{Entry}
use Rattle.quota_types.specs.declared.record.Rec.{Rec}
use Rattle.entry_codec.specs.Entry.{entries_per_block, is_unused, stored_id, stored_id_in}
use Rattle.byte_order.specs.declared.order.Order.{Order}
use Rattle.byte_order.specs.declared.order.Order.TheVariants.{Little}
use Rattle.entry_codec.specs.Spelling.{IsEntry, IsEntryIn, IsUsedBy}
use Rattle.entry_codec.proofs.TreeLemmas.{entry_tree}
use Rattle.tree_meaning.specs.Entries.{entries_in, entry_bytes, entry_in, entry_of, stored_record, stored_record_in}
use Rattle.tree_meaning.specs.Entries.{used_entries}
use Rattle.tree_meaning.specs.EntryRecords.{record_by, used_by}
use Rattle.tree_meaning.specs.TreeFile.{record_in}
use Rattle.file_blocks.proofs.WordLemmas.{number_in_part}

-- the bytes of an entry are used by its identifier, with the record that they store
entry_used : (order : Order) (format : Format) (bytes : List ℕ) (id : ℕ) (rec : Rec)
    → IsEntryIn order format bytes id rec
    → IsUsedBy bytes (stored_id_in order bytes) (stored_record_in order format bytes) id rec
entry_used order format bytes id rec entry =
    by_tree (λ (format : Format). IsEntryIn order format bytes id rec
    → IsUsedBy bytes (stored_id_in order bytes) (stored_record_in order format bytes) id rec)
    (λ e. e) (λ e. e) format (entry_tree order format bytes id rec entry) entry

pub used_is : (order : Order) (format : Format) (bytes : List ℕ) (id : ℕ) (rec : Rec)
    → IsEntryIn order format bytes id rec
    → (is_unused bytes ≡ false) × (entry_in order format bytes ≡ Some (record { id = id; rec = rec }))
used_is order format bytes id rec entry =
    let stored_id : ℕ = stored_id_in order bytes in
    let stored : Rec = stored_record_in order format bytes in
    let e : IsUsedBy bytes stored_id stored id rec = entry_used order format bytes id rec entry in
    let found : ℕ → Rec → Option Entry = λ i r. Some (record { id = i; rec = r }) in (
      e.used,
      ap (λ (b : Bool). cond b None (found stored_id (without_marker stored_id stored))) e.used
          ∙ ap (λ (i : ℕ). found i (without_marker stored_id stored)) (sym e.id_is) ∙ ap (found id) (sym e.rec_is),
    )

-- the bytes of an entry are used, and spell its identifier and its record
pub spelled : (order : Order) (format : Format) (bytes : List ℕ) (entry : Entry)
    → entry_in order format bytes ≡ Some entry
    → (is_unused bytes ≡ false) × (entry.id ≡ stored_id_in order bytes)
    × (entry.rec ≡ without_marker (stored_id_in order bytes) (stored_record_in order format bytes))
spelled order format bytes entry is =
    let made : Entry = record {
      id = stored_id_in order bytes;
      rec = without_marker (stored_id_in order bytes) (stored_record_in order format bytes);
    } in
    elim (cases_Bool (is_unused bytes)) [
      | inl unused ↦
          absurd (let none : None ≡ Some entry = sym (ap (λ (b : Bool). cond b None (Some made)) unused) ∙ is in cc)
      | inr used ↦
          let same : Some made ≡ Some entry = sym (ap (λ (b : Bool). cond b None (Some made)) used) ∙ is in
          let one : made ≡ entry = cc in
          (used, sym (ap (λ (e : Entry). e.id) one), sym (ap (λ (e : Entry). e.rec) one))
    ]

pub is_spelled : (order : Order) (format : Format) (bytes : List ℕ) (entry : Entry) → IsTreeFormat format
    → entry_in order format bytes ≡ Some entry → IsEntryIn order format bytes entry.id entry.rec
is_spelled order format bytes entry tree is =
    let parts = spelled order format bytes entry is in
    by_tree (λ (format : Format).
    IsUsedBy bytes (stored_id_in order bytes) (stored_record_in order format bytes) entry.id entry.rec
    → IsEntryIn order format bytes entry.id entry.rec)
    (λ e. e) (λ e. e) format tree (record { used = parts.0; id_is = parts.1; rec_is = parts.2 })

some_size : (format : Format) → IsTreeFormat format → 4 ≤ record_size format
some_size = by_tree _ (omega arith) (omega arith)

-- what the entry of some bytes gives to an identifier
abbrev given_by : Format → ℕ → List ℕ → Option Rec
given_by format id bytes = option_and_then (used_by id) (entry_of format bytes)

-- an entry that stores another identifier is not used by this one
pub other_entry : (format : Format) (block : List ℕ) (id place size stored : ℕ) → IsTreeFormat format
    → size ≡ record_size format → stored ≡ number_at 4 block (16 + size * place) → stored ≢ id
    → record_by format block id place ≡ None
other_entry format block id place size stored tree size_is stored_is other =
    let bytes : List ℕ = entry_bytes format block place in
    let here : stored_id bytes ≡ number_at 4 block (16 + record_size format * place) =
    number_in_part 4 (record_size format) (16 + record_size format * place) block (some_size format tree) in
    let same : stored_id bytes ≡ stored =
    here ∙ ap (λ (n : ℕ). number_at 4 block (16 + n * place)) (sym size_is) ∙ sym stored_is in
    go bytes (ne_eqb (stored_id bytes) id (λ e. other (sym same ∙ e)))
  where
    go : (bytes : List ℕ) → (stored_id bytes == id) ≡ false → given_by format id bytes ≡ None
    go bytes apart =
        let e : Entry =
        record { id = stored_id bytes; rec = without_marker (stored_id bytes) (stored_record format bytes) } in
        let on : Bool → Option Rec = λ u. option_and_then (used_by id) (cond u None (Some e)) in
        elim (cases_Bool (is_unused bytes)) [
          | inl unused ↦ ap on unused
          | inr used ↦ ap on used ∙ ap (λ (b : Bool). cond b (Some e.rec) None) apart
        ]

-- an entry that this identifier uses
pub same_entry : (format : Format) (block bytes : List ℕ) (id other place : ℕ) (rec : Rec)
    → bytes ≡ entry_bytes format block place → IsEntry format bytes other rec → other ≡ id
    → Some rec ≡ record_by format block id place
same_entry format block bytes id other place rec is entry same =
    sym (ap (given_by format id) (sym is)
    ∙ ap (option_and_then (used_by id)) (used_is Little format bytes other rec entry).1
    ∙ ap (λ (b : Bool). cond b (Some rec) None) (eq-eqb other id same))

entry_id : (format : Format) (bytes : List ℕ) (other : ℕ) (rec : Rec) → IsEntry format bytes other rec
    → other ≡ stored_id bytes
entry_id format bytes other rec entry = (entry_used Little format bytes other rec entry).id_is

-- the identifier that an entry stores is the one that uses it
pub stored_entry : (format : Format) (block bytes : List ℕ) (id other place size stored : ℕ) (rec : Rec)
    → IsTreeFormat format → size ≡ record_size format
    → stored ≡ number_at 4 block (16 + size * place) → stored ≡ id → bytes ≡ entry_bytes format block place
    → IsEntry format bytes other rec → other ≡ id
stored_entry format block bytes id other place size stored rec tree size_is stored_is same is entry =
    entry_id format bytes other rec entry
    ∙ ap stored_id is
    ∙ number_in_part 4 (record_size format) (16 + record_size format * place) block (some_size format tree)
    ∙ ap (λ (n : ℕ). number_at 4 block (16 + n * place)) (sym size_is)
    ∙ sym stored_is
    ∙ same

-- the record of the first entry from a place on that an identifier uses
abbrev pub record_from : Format → List ℕ → ℕ → ℕ → Option Rec
record_from format block id place =
    option_map (λ (entry : Entry). entry.rec)
    (find (λ (entry : Entry). entry.id == id)
    (filter_map (λ place. entry_of format (entry_bytes format block place))
    (range_with_len place (entries_per_block format - place))))

-- the record of an entry in front, or of the first one behind it
pub found_or_later : (id : ℕ) (o : Option Entry) (entries : List Entry)
    → option_map (λ (entry : Entry). entry.rec) (find (λ (entry : Entry). entry.id == id) (cons_option o entries))
    ≡ option_or (option_and_then (used_by id) o)
    (option_map (λ (entry : Entry). entry.rec) (find (λ (entry : Entry). entry.id == id) entries))
found_or_later id None entries = refl
found_or_later id (Some e) entries =
    let later : Option Entry = find (λ (entry : Entry). entry.id == id) entries in
    let one : Bool → Option Rec = λ b. option_map (λ (entry : Entry). entry.rec) (cond b (Some e) later) in
    let other : Bool → Option Rec =
    λ b. option_or (cond b (Some e.rec) None) (option_map (λ (entry : Entry). entry.rec) later) in
    elim (cases_Bool (e.id == id)) [
      | inl same ↦ ap one same ∙ sym (ap other same)
      | inr apart ↦ ap one apart ∙ sym (ap other apart)
    ]

-- the record among this many entries from a place on
abbrev record_among : Format → List ℕ → ℕ → ℕ → ℕ → Option Rec
record_among format block id place count =
    option_map (λ (entry : Entry). entry.rec)
    (find (λ (entry : Entry). entry.id == id)
    (filter_map (λ place. entry_of format (entry_bytes format block place)) (range_with_len place count)))

pub record_from-first : (format : Format) (block : List ℕ) (id : ℕ)
    → record_in format block id ≡ record_from format block id 0
unfolding entries_in
record_from-first format block id =
    let all : entries_per_block format ≡ entries_per_block format - 0 = omega arith in
    ap (record_among format block id 0) all

pub record_from-next : (format : Format) (block : List ℕ) (id place : ℕ) → place < entries_per_block format
    → record_from format block id place
    ≡ option_or (record_by format block id place) (record_from format block id (place + 1))
record_from-next format block id place low =
    let more : entries_per_block format - place ≡ suc (entries_per_block format - (place + 1)) = omega arith in
    ap (record_among format block id place) more
    ∙ found_or_later id (entry_of format (entry_bytes format block place))
    (filter_map (λ at. entry_of format (entry_bytes format block at))
    (range_with_len (place + 1) (entries_per_block format - (place + 1))))

-- the entry that an identifier uses
pub used_there : (format : Format) (bytes : List ℕ) (id : ℕ)
    → IsSome (option_and_then (used_by id) (entry_of format bytes))
    → (is_unused bytes ≡ false) × ((rec : Rec) × (entry_of format bytes ≡ Some (record { id = id; rec = rec })))
used_there format bytes id some =
    let e : Entry =
    record { id = stored_id bytes; rec = without_marker (stored_id bytes) (stored_record format bytes) } in
    elim (cases_Bool (is_unused bytes)) [
      | inl unused ↦ absurd
          (not_there (subst (λ (b : Bool). IsSome (option_and_then (used_by id) (cond b None (Some e)))) unused some))
      | inr used ↦
          let there : IsSome (cond (e.id == id) (Some e.rec) None) =
          subst (λ (b : Bool). IsSome (option_and_then (used_by id) (cond b None (Some e)))) used some in
          elim (eqb_tells e.id id) [
            | inl same ↦ (
              used,
              (
                e.rec,
                ap (λ (b : Bool). cond b None (Some e)) used
                    ∙ ap (λ (n : ℕ). Some (record { id = n; rec = e.rec })) same.1,
              ),
            )
            | inr other ↦ absurd (not_there (subst (λ (b : Bool). IsSome (cond b (Some e.rec) None)) other.0 there))
          ]
    ]
  where
    not_there : IsSome {T = Rec} None → ⊥
    not_there h = absurd cc
