-- Bytes are the same where the numbers that they spell are.
use Rattle.std.proofs.Common.{◌≡◌, ◌≢◌, ℕ, zero, suc, ◌+◌, ◌-◌, ◌*◌, ◌<◌, ◌⊎◌, inl, inr, true, List, [], ◌∷◌, length}
use Rattle.std.proofs.Common.{refl, sym, ap, subst, ◌∙◌, arith}
use Rattle.std.proofs.lemmas.Bool.{cases_lt}
use Rattle.std.proofs.lemmas.Grind.{same_number_lists}
use Rattle.quota_types.specs.Bytes.{byte_at, number_at}
use Rattle.quota_types.specs.Kept.{without_marker}
use Rattle.quota_types.specs.declared.file_kind.Format.{Format}
use Rattle.quota_types.specs.declared.file_kind.Format.TheVariants.{V2R0, V2R1}
use Rattle.quota_types.specs.declared.record.Rec.{Rec}
use Rattle.quota_types.proofs.BytesLemmas.{number_at-past}
use Rattle.quota_types.proofs.FormatLemmas.{by_tree}
use Rattle.entry_codec.specs.Entry.{is_unused, stored_id, stored_v2r0, stored_v2r1}
use Rattle.entry_codec.specs.Spelling.{AreBytes, IsSpelling, IsUsedBy}
use Rattle.entry_codec.specs.Header.{HeaderNumbers, header_of}
use Rattle.entry_codec.proofs.EntryLemmas.{zeros}
use Rattle.byte_order.specs.declared.order.Order.TheVariants.{Little}
use Rattle.entry_codec.proofs.TreeLemmas.{entry_tree}

same_byte : (x y rest rest' : ℕ) → x < 256 → y < 256 → x + 256 * rest ≡ y + 256 * rest' → (x ≡ y) × (rest ≡ rest')
same_byte x y rest rest' hx hy same = (omega arith, omega arith)

-- the bytes of one number
same_bytes : (width : ℕ) (xs ys : List ℕ) (at : ℕ) → AreBytes xs → AreBytes ys
    → number_at width xs at ≡ number_at width ys at → (k : ℕ) → k < width → byte_at xs (at + k) ≡ byte_at ys (at + k)
unfolding number_at
same_bytes zero xs ys at hx hy same k lt = absurd (omega arith)
same_bytes (suc width) xs ys at hx hy same zero lt =
    let e : at + 0 ≡ at = omega arith in
    rw e (same_byte _ _ _ _ (hx at) (hy at) same).0
same_bytes (suc width) xs ys at hx hy same (suc k) lt =
    let e : at + suc k ≡ suc at + k = omega arith in
    rw e (same_bytes width xs ys (suc at) hx hy (same_byte _ _ _ _ (hx at) (hy at) same).1 k (omega arith))

-- the bytes below a place are the same
abbrev SameBelow : List ℕ → List ℕ → ℕ → Type 0
SameBelow xs ys most = (k : ℕ) → k < most → byte_at xs k ≡ byte_at ys k

same_none : (xs ys : List ℕ) → SameBelow xs ys 0
same_none xs ys k lt = absurd (omega arith)

-- the same below the end of one number more, which starts at this place
same_more : (width at next : ℕ) (xs ys : List ℕ) → at + width ≡ next → AreBytes xs → AreBytes ys → SameBelow xs ys at
    → number_at width xs at ≡ number_at width ys at → SameBelow xs ys next
same_more width at next xs ys sum hx hy below same k lt = elim (cases_lt k at) [
  | inl low ↦ below k low
  | inr high ↦
      let e : at + (k - at) ≡ k = omega arith in
      subst (λ (j : ℕ). byte_at xs j ≡ byte_at ys j) e (same_bytes width xs ys at hx hy same (k - at) (omega arith))
]

-- the bytes of a header
pub same_header : (xs ys : List ℕ) → AreBytes xs → AreBytes ys → header_of xs ≡ header_of ys → SameBelow xs ys 32
same_header xs ys hx hy same =
    let more = λ (at : ℕ). same_more 4 at (at + 4) xs ys refl hx hy in
    more 28 (more 24 (more 20 (more 16 (more 12 (more 8 (more 4 (more 0 (same_none xs ys)
    (ap (λ (n : HeaderNumbers). n.magic) same))
    (ap (λ (n : HeaderNumbers). n.version) same))
    (ap (λ (n : HeaderNumbers). n.block_grace) same))
    (ap (λ (n : HeaderNumbers). n.inode_grace) same))
    (ap (λ (n : HeaderNumbers). n.flags) same))
    (ap (λ (n : HeaderNumbers). n.blocks) same))
    (ap (λ (n : HeaderNumbers). n.free) same))
    (ap (λ (n : HeaderNumbers). n.first) same)

-- the bytes of an entry of vfsv0
same_v2r0 : (xs ys : List ℕ) → AreBytes xs → AreBytes ys → stored_id xs ≡ stored_id ys → stored_v2r0 xs ≡ stored_v2r0 ys
    → SameBelow xs ys 48
same_v2r0 xs ys hx hy same_id same =
    let more4 = λ (at : ℕ). same_more 4 at (at + 4) xs ys refl hx hy in
    let more8 = λ (at : ℕ). same_more 8 at (at + 8) xs ys refl hx hy in
    more8 40 (more8 32 (more8 24 (more4 20 (more4 16 (more4 12 (more4 8 (more4 4 (more4 0 (same_none xs ys)
    same_id)
    (ap (λ (r : Rec). r.ihard) same))
    (ap (λ (r : Rec). r.isoft) same))
    (ap (λ (r : Rec). r.inodes) same))
    (ap (λ (r : Rec). r.bhard) same))
    (ap (λ (r : Rec). r.bsoft) same))
    (ap (λ (r : Rec). r.space) same))
    (ap (λ (r : Rec). r.btime) same))
    (ap (λ (r : Rec). r.itime) same)

-- the bytes of an entry of vfsv1
same_v2r1 : (xs ys : List ℕ) → AreBytes xs → AreBytes ys → stored_id xs ≡ stored_id ys
    → number_at 4 xs 4 ≡ number_at 4 ys 4 → stored_v2r1 xs ≡ stored_v2r1 ys → SameBelow xs ys 72
same_v2r1 xs ys hx hy same_id same_padding same =
    let more4 = λ (at : ℕ). same_more 4 at (at + 4) xs ys refl hx hy in
    let more8 = λ (at : ℕ). same_more 8 at (at + 8) xs ys refl hx hy in
    more8 64 (more8 56 (more8 48 (more8 40 (more8 32 (more8 24 (more8 16 (more8 8 (more4 4 (more4 0 (same_none xs ys)
    same_id)
    same_padding)
    (ap (λ (r : Rec). r.ihard) same))
    (ap (λ (r : Rec). r.isoft) same))
    (ap (λ (r : Rec). r.inodes) same))
    (ap (λ (r : Rec). r.bhard) same))
    (ap (λ (r : Rec). r.bsoft) same))
    (ap (λ (r : Rec). r.space) same))
    (ap (λ (r : Rec). r.btime) same))
    (ap (λ (r : Rec). r.itime) same)

-- bytes that are all 0 are unused
-- an entry of bytes that are 0 is unused
pub is_unused-zeros : (xs : List ℕ) → ((k : ℕ) → k < length xs → byte_at xs k ≡ 0) → is_unused xs ≡ true
is_unused-zeros [] h = refl
is_unused-zeros (x ∷ xs) h =
    let byte : x ≡ 0 = h 0 (omega arith) in
    let rest = is_unused-zeros xs (λ k lt. h (suc k) (omega arith)) in
    rw (byte, rest)

no_bytes : AreBytes []
no_bytes k = omega arith

no_number : (width at : ℕ) → number_at width [] at ≡ 0
no_number width at = number_at-past width at [] (omega arith)

-- the marker of identifier 0 is the one record that is read as another one
marker_cases : (id : ℕ) (stored : Rec)
    → (without_marker id stored ≡ stored)
    ⊎ ((id ≡ 0) × (stored ≡ record zeros { itime = 1 }) × (without_marker id stored ≡ zeros))
marker_cases id stored = grind arith

same_stored : (id : ℕ) (stored other : Rec) → without_marker id stored ≡ without_marker id other
    → (id ≡ 0 → stored ≢ zeros) → (id ≡ 0 → other ≢ zeros) → stored ≡ other
same_stored id stored other same used other_used = elim (marker_cases id stored) [
  | inl plain ↦ elim (marker_cases id other) [
    | inl other_plain ↦ sym plain ∙ same ∙ other_plain
    | inr marked ↦ absurd (used marked.0 (sym plain ∙ same ∙ marked.2))
  ]
  | inr marked ↦ elim (marker_cases id other) [
    | inl other_plain ↦ absurd (other_used marked.0 (sym other_plain ∙ sym same ∙ marked.2))
    | inr other_marked ↦ marked.1 ∙ sym other_marked.1
  ]
]

-- an entry in use whose padding is 0 has no stored record of zeros of identifier 0
not_zeros_v2r0 : (xs : List ℕ) → AreBytes xs → length xs ≡ 48 → is_unused xs ≢ true → stored_id xs ≡ 0
    → stored_v2r0 xs ≢ zeros
not_zeros_v2r0 xs hx size used is_zero same =
    let none : stored_v2r0 [] ≡ zeros = simp no_number in
    let below = same_v2r0 xs [] hx no_bytes (is_zero ∙ sym (no_number 4 0)) (same ∙ sym none) in
    used (is_unused-zeros xs (λ k lt. below k (omega arith)))

not_zeros_v2r1 : (xs : List ℕ) → AreBytes xs → length xs ≡ 72 → is_unused xs ≢ true → number_at 4 xs 4 ≡ 0
    → stored_id xs ≡ 0 → stored_v2r1 xs ≢ zeros
not_zeros_v2r1 xs hx size used padding is_zero same =
    let none : stored_v2r1 [] ≡ zeros = simp no_number in
    let below =
    same_v2r1 xs [] hx no_bytes (is_zero ∙ sym (no_number 4 0)) (padding ∙ sym (no_number 4 4)) (same ∙ sym none) in
    used (is_unused-zeros xs (λ k lt. below k (omega arith)))

-- the stored records of two entries of one identifier and record
same_used : (xs ys : List ℕ) (id : ℕ) (rec stored other : Rec) → IsUsedBy xs (stored_id xs) stored id rec
    → IsUsedBy ys (stored_id ys) other id rec
    → (stored_id xs ≡ 0 → stored ≢ zeros) → (stored_id ys ≡ 0 → other ≢ zeros) → stored ≡ other
same_used xs ys id rec stored other x y not_x not_y =
    same_stored id stored other
    (ap (λ (i : ℕ). without_marker i stored) x.id_is ∙ sym x.rec_is ∙ y.rec_is
    ∙ ap (λ (i : ℕ). without_marker i other) (sym y.id_is))
    (λ z. not_x (sym x.id_is ∙ z)) (λ z. not_y (sym y.id_is ∙ z))

used_not_true : (xs : List ℕ) (stored_id : ℕ) (stored : Rec) (id : ℕ) (rec : Rec) → IsUsedBy xs stored_id stored id rec
    → is_unused xs ≢ true
used_not_true xs stored_id stored id rec x unused = let used = x.used in cc

one_spelling_v2r0 : (xs ys : List ℕ) (id : ℕ) (rec : Rec) → IsSpelling V2R0 xs id rec
    → IsSpelling V2R0 ys id rec → xs ≡ ys
one_spelling_v2r0 xs ys id rec x y =
    let same = same_used xs ys id rec (stored_v2r0 xs) (stored_v2r0 ys) x.entry y.entry
    (not_zeros_v2r0 xs x.are_bytes x.size (used_not_true xs _ _ id rec x.entry))
    (not_zeros_v2r0 ys y.are_bytes y.size (used_not_true ys _ _ id rec y.entry)) in
    let below = same_v2r0 xs ys x.are_bytes y.are_bytes (sym x.entry.id_is ∙ y.entry.id_is) same in
    let size = x.size in
    same_number_lists xs ys (x.size ∙ sym y.size) (λ k lt. below k (omega arith))

one_spelling_v2r1 : (xs ys : List ℕ) (id : ℕ) (rec : Rec) → IsSpelling V2R1 xs id rec
    → IsSpelling V2R1 ys id rec → xs ≡ ys
one_spelling_v2r1 xs ys id rec x y =
    let same = same_used xs ys id rec (stored_v2r1 xs) (stored_v2r1 ys) x.entry y.entry
    (not_zeros_v2r1 xs x.are_bytes x.size (used_not_true xs _ _ id rec x.entry) x.padding)
    (not_zeros_v2r1 ys y.are_bytes y.size (used_not_true ys _ _ id rec y.entry) y.padding) in
    let below =
    same_v2r1 xs ys x.are_bytes y.are_bytes (sym x.entry.id_is ∙ y.entry.id_is) (x.padding ∙ sym y.padding) same in
    let size = x.size in
    same_number_lists xs ys (x.size ∙ sym y.size) (λ k lt. below k (omega arith))

-- an entry is spelled in one way
pub one_spelling : (format : Format) (xs ys : List ℕ) (id : ℕ) (rec : Rec) → IsSpelling format xs id rec
    → IsSpelling format ys id rec → xs ≡ ys
one_spelling format xs ys id rec x y =
    by_tree (λ (format : Format). IsSpelling format xs id rec → IsSpelling format ys id rec → xs ≡ ys)
    (one_spelling_v2r0 xs ys id rec) (one_spelling_v2r1 xs ys id rec) format
    (entry_tree Little format xs id rec x.entry) x y
