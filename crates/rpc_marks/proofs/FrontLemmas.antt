-- What stands at the front of bytes.
use Rattle.std.proofs.Common.{◌≡◌, ℕ, zero, suc, ◌+◌, ◌<◌, ◌≤◌, Bool, true, false, cond, inl, inr, List, [], ◌∷◌, ◌++◌}
use Rattle.std.proofs.Common.{length, get_or, drop, refl, sym, ap, ◌∙◌, length-append, length-drop, arith}
use Rattle.std.specs.Prelude.{nat_lt, if◌then◌else◌}
use Rattle.std.specs.Int.{w32, from_be_bytes}
use Rattle.std.proofs.lemmas.Bool.{cases_lt, le-ltb, lt-ltb}
use Rattle.std.proofs.lemmas.List.{drop-append-le, get_or-take, take-append-le}
use Rattle.std.proofs.Math.ListN.{drop_of_length-le}
use Rattle.rpc_marks.specs.Marker.{front_in_body}
use Rattle.rpc_marks.specs.Records.{Front, Part, Long, Record, behind_front, body_len, front_behind, front_body}
use Rattle.rpc_marks.specs.Records.{front_of, front_within, head_of, is_last, records_in, records_with, records_within}

-- behind the front fragment there are four bytes fewer at least
fewer : (bytes : List ℕ) → 4 ≤ length bytes → length (behind_front bytes) + 4 ≤ length bytes
fewer bytes long = omega (arith, length-drop (body_len bytes) (drop 4 bytes), length-drop 4 bytes, long)

-- as many fragments as may stand in the bytes are enough
pub enough : (most other : ℕ) (before bytes : List ℕ) → length bytes ≤ most → length bytes ≤ other
    → front_within most before bytes ≡ front_within other before bytes
unfolding front_within
enough zero zero before bytes few also = refl
enough zero (suc other) before bytes few also =
    let short : nat_lt (length bytes) 4 ≡ true = lt-ltb _ _ (omega (arith, few)) in
    rw short refl
enough (suc most) zero before bytes few also =
    let short : nat_lt (length bytes) 4 ≡ true = lt-ltb _ _ (omega (arith, also)) in
    rw short refl
enough (suc most) (suc other) before bytes few also =
    elim (cases_lt (length bytes) 4) [
      | inl less ↦
          let short : nat_lt (length bytes) 4 ≡ true = lt-ltb _ _ less in
          rw short refl
      | inr long ↦
          let behind = fewer bytes long in
          rw (enough most other (before ++ front_body bytes) (behind_front bytes) (omega (arith, few, behind))
          (omega (arith, also, behind))) refl
    ]

-- what stands at the front, by its first fragment
pub by_fragment : (before bytes : List ℕ) → (more : Front) → Front
by_fragment before bytes more =
    if nat_lt (length bytes) 4 then Part
    else if nat_lt 4096 (length before + body_len bytes) then Long (drop 4 bytes)
    else if nat_lt (length (drop 4 bytes)) (body_len bytes) then Part
    else if is_last bytes then Record (before ++ front_body bytes) (behind_front bytes)
    else more

pub front-fragment : (before bytes : List ℕ)
    → front_behind before bytes
    ≡ by_fragment before bytes (front_behind (before ++ front_body bytes) (behind_front bytes))
unfolding front_within by_fragment
front-fragment before [] = refl
front-fragment before (byte ∷ bytes) =
    elim (cases_lt (length (byte ∷ bytes)) 4) [
      | inl less ↦
          let short : nat_lt (length (byte ∷ bytes)) 4 ≡ true = lt-ltb _ _ less in
          rw short refl
      | inr long ↦
          let behind = fewer (byte ∷ bytes) long in
          rw (enough (length bytes) (length (behind_front (byte ∷ bytes))) (before ++ front_body (byte ∷ bytes))
          (behind_front (byte ∷ bytes)) (omega (arith, behind)) (omega arith)) refl
    ]

-- fewer bytes than a head has are a part of a record
pub front-short : (before bytes : List ℕ) → length bytes < 4 → front_behind before bytes ≡ Part
unfolding by_fragment
front-short before bytes less =
    let short : nat_lt (length bytes) 4 ≡ true = lt-ltb _ _ less in
    front-fragment before bytes ∙ rw short refl

-- a head is known by its own four bytes
pub same_head : (head bytes : List ℕ) → 4 ≤ length head → head_of (head ++ bytes) ≡ head_of head
unfolding head_of
same_head head bytes long = ap (from_be_bytes w32) (take-append-le 4 head bytes long)

-- what stands behind a head of four bytes
behind_head : (head bytes : List ℕ) → length head ≡ 4 → drop 4 (head ++ bytes) ≡ bytes
behind_head head bytes four =
    drop-append-le 4 head bytes (omega (arith, four))
    ∙ ap (λ (l : List ℕ). l ++ bytes) (drop_of_length-le head {i = 4} (omega (arith, four)))

-- what stands at the front of a whole head, and bytes behind it
pub front-head : (before head bytes : List ℕ) → length head ≡ 4
    → front_behind before (head ++ bytes)
    ≡ cond (nat_lt 4096 (length before + body_len head)) (Long bytes)
    (front_in_body before (is_last head) (body_len head) bytes)
unfolding by_fragment
front-head before head bytes four =
    let long : nat_lt (length (head ++ bytes)) 4 ≡ false = le-ltb _ _ (omega (arith, length-append head bytes, four)) in
    front-fragment before (head ++ bytes)
    ∙ rw (long, same_head head bytes (omega (arith, four)), behind_head head bytes four) refl

-- a record that stands at the front takes four bytes at least
pub shorter : (most : ℕ) (before bytes body behind : List ℕ) → front_within most before bytes ≡ Record body behind
    → length behind < length bytes
unfolding front_within
shorter zero before bytes body behind is = absurd cc
shorter (suc most) before bytes body behind is =
    elim (cases_lt (length bytes) 4) [
      | inl less ↦
          let short : nat_lt (length bytes) 4 ≡ true = lt-ltb _ _ less in
          absurd (let none : Part ≡ Record body behind = rw short at is in cc)
      | inr long ↦
          let some : nat_lt (length bytes) 4 ≡ false = le-ltb _ _ long in
          by (nat_lt 4096 (length before + body_len bytes)) (nat_lt (length (drop 4 bytes)) (body_len bytes))
          (is_last bytes) long
          (λ later. shorter most (before ++ front_body bytes) (behind_front bytes) body behind later) (rw some at is)
    ]
  where
    by : (large part last : Bool) → 4 ≤ length bytes
        → (front_within most (before ++ front_body bytes) (behind_front bytes) ≡ Record body behind
        → length behind < length (behind_front bytes))
        → cond large (Long (drop 4 bytes))
        (cond part Part (cond last (Record (before ++ front_body bytes) (behind_front bytes))
        (front_within most (before ++ front_body bytes) (behind_front bytes)))) ≡ Record body behind
        → length behind < length bytes
    by true part last long more is = absurd cc
    by false true last long more is = absurd cc
    by false false true long more is =
        let same : behind_front bytes ≡ behind = cc in
        omega (arith, fewer bytes long, ap length same)
    by false false false long more is = omega (arith, fewer bytes long, more is)

-- records that are found behind the front in two ways that agree
records_with-same : (front : Front) (found other : List ℕ → List (List ℕ))
    → ((body behind : List ℕ) → front ≡ Record body behind → found behind ≡ other behind)
    → records_with front found ≡ records_with front other
records_with-same Part found other same = refl
records_with-same (Long behind) found other same = refl
records_with-same (Record body behind) found other same = ap (λ (l : List (List ℕ)). body ∷ l) (same body behind refl)

-- as many records as may stand in the bytes are enough
records-enough : (most other : ℕ) (bytes : List ℕ) → length bytes ≤ most → length bytes ≤ other
    → records_within most bytes ≡ records_within other bytes
unfolding records_within
records-enough zero zero bytes few also = refl
records-enough zero (suc other) bytes few also = rw (front-short [] bytes (omega (arith, few))) refl
records-enough (suc most) zero bytes few also = rw (front-short [] bytes (omega (arith, also))) refl
records-enough (suc most) (suc other) bytes few also =
    records_with-same (front_of bytes) (records_within most) (records_within other) (λ body behind is.
    let less = shorter (length bytes) [] bytes body behind is in
    records-enough most other behind (omega (arith, few, less)) (omega (arith, also, less)))

-- the records at the front of bytes, by the first one
pub records-front : (bytes : List ℕ) → records_in bytes ≡ records_with (front_of bytes) records_in
unfolding records_within
records-front [] = sym (ap (λ (front : Front). records_with front records_in) (front-short [] [] (omega arith)))
records-front (byte ∷ bytes) =
    records_with-same (front_of (byte ∷ bytes)) (records_within (length bytes)) records_in (λ body behind is.
    let less = shorter (length (byte ∷ bytes)) [] (byte ∷ bytes) body behind is in
    records-enough (length bytes) (length behind) behind (omega (arith, less)) (omega arith))

-- the number that four bytes spell
pub head-bytes : (bytes : List ℕ)
    → from_be_bytes w32 (get_or bytes 0 0 ∷ get_or bytes 1 0 ∷ get_or bytes 2 0 ∷ get_or bytes 3 0 ∷ []) ≡ head_of bytes
unfolding head_of
head-bytes bytes =
    let byte = λ (i : ℕ) (lt : i < 4). get_or-take 4 bytes i 0 lt in
    rw (byte 0 (omega arith), byte 1 (omega arith), byte 2 (omega arith), byte 3 (omega arith)) refl
