-- Entries in use, by their stored identifier and record.
use Rattle.std.proofs.Common.{◌≡◌, ◌≢◌, ℕ, ◌==◌, ◌⊎◌, inl, inr, Bool, true, false, List, length, get_or, refl, sym, ap}
use Rattle.std.proofs.Common.{subst, ◌∙◌, arith}
use Rattle.std.proofs.lemmas.Bool.{cases_lt}
use Rattle.std.proofs.lemmas.List.{get_or_past}
use Rattle.std.proofs.lemmas.List.Folds.{list_all_at}
use Rattle.quota_types.specs.Bytes.{number_at}
use Rattle.quota_types.specs.Kept.{without_marker}
use Rattle.quota_types.specs.declared.file_kind.Format.{Format}
use Rattle.quota_types.specs.declared.file_kind.Format.TheVariants.{V2R0, V2R1}
use Rattle.quota_types.specs.declared.record.Rec.{Rec}
use Rattle.quota_types.proofs.BytesLemmas.{number_at-zeros}
use Rattle.entry_codec.specs.Entry.{is_unused, stored_id, stored_v2r0, stored_v2r1}
use Rattle.entry_codec.specs.Spelling.{IsEntry, IsUsedBy}

-- the record of zeros
abbrev pub zeros : Rec
zeros = record { ihard = 0; isoft = 0; inodes = 0; bhard = 0; bsoft = 0; space = 0; btime = 0; itime = 0 }

test_cases : (b : Bool) → (b ≡ true) ⊎ (b ≡ false)
test_cases true = inl refl
test_cases false = inr refl

-- a byte of unused bytes
unused_byte : (bytes : List ℕ) → is_unused bytes ≡ true → (k : ℕ) → get_or bytes k 0 ≡ 0
unused_byte bytes unused k = elim (cases_lt k (length bytes)) [
  | inl low ↦ elim (test_cases (get_or bytes k 0 == 0)) [
    | inl zero ↦ grind arith
    | inr other ↦ let used : is_unused bytes ≡ false = list_all_at (λ byte. byte == 0) bytes k 0 low other in cc
  ]
  | inr high ↦ get_or_past bytes k 0 high
]

unused_number : (bytes : List ℕ) → is_unused bytes ≡ true → (width at : ℕ) → number_at width bytes at ≡ 0
unused_number bytes unused width at = number_at-zeros width at bytes (λ k from to. unused_byte bytes unused k)

unused_v2r0 : (bytes : List ℕ) → is_unused bytes ≡ true → stored_v2r0 bytes ≡ zeros
unused_v2r0 bytes unused = simp (unused_number bytes unused)

unused_v2r1 : (bytes : List ℕ) → is_unused bytes ≡ true → stored_v2r1 bytes ≡ zeros
unused_v2r1 bytes unused = simp (unused_number bytes unused)

-- what was stored is an entry
used_by : (bytes : List ℕ) (id : ℕ) (found stored rec : Rec) → (is_unused bytes ≡ true → found ≡ zeros)
    → stored_id bytes ≡ id → found ≡ stored → (id ≡ 0 → stored ≢ zeros) → without_marker id stored ≡ rec
    → IsUsedBy bytes (stored_id bytes) found id rec
used_by bytes id found stored rec unused is_id is_stored not_zeros read = record {
  used = elim (test_cases (is_unused bytes)) [
    | inl none ↦ absurd (not_zeros (sym is_id ∙ unused_number bytes none 4 0) (sym is_stored ∙ unused none))
    | inr some ↦ some
  ];
  id_is = sym is_id;
  rec_is = sym read ∙ ap (λ (found_id : ℕ). without_marker found_id stored) (sym is_id)
      ∙ ap (without_marker (stored_id bytes)) (sym is_stored);
}

pub entry_v2r0 : (format : Format) (bytes : List ℕ) (id : ℕ) (stored rec : Rec) → format ≡ V2R0 → stored_id bytes ≡ id
    → stored_v2r0 bytes ≡ stored → (id ≡ 0 → stored ≢ zeros) → without_marker id stored ≡ rec
    → IsEntry format bytes id rec
entry_v2r0 format bytes id stored rec is is_id is_stored not_zeros read =
    subst (λ (f : Format). IsEntry f bytes id rec) (sym is)
    (used_by bytes id (stored_v2r0 bytes) stored rec (unused_v2r0 bytes) is_id is_stored not_zeros read)

pub entry_v2r1 : (format : Format) (bytes : List ℕ) (id : ℕ) (stored rec : Rec) → format ≡ V2R1 → stored_id bytes ≡ id
    → stored_v2r1 bytes ≡ stored → (id ≡ 0 → stored ≢ zeros) → without_marker id stored ≡ rec
    → IsEntry format bytes id rec
entry_v2r1 format bytes id stored rec is is_id is_stored not_zeros read =
    subst (λ (f : Format). IsEntry f bytes id rec) (sym is)
    (used_by bytes id (stored_v2r1 bytes) stored rec (unused_v2r1 bytes) is_id is_stored not_zeros read)
