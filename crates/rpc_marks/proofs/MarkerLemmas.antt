-- What a marker gives, byte by byte.
use Rattle.std.proofs.Common.{◌≡◌, ℕ, zero, suc, ◌+◌, ◌-◌, ◌<◌, ◌≤◌, Bool, true, false, cond, inl, inr, List, [], ◌∷◌}
use Rattle.std.proofs.Common.{◌++◌, length, get_or, take, drop, refl, sym, ap, ◌∙◌, append_assoc, length-append, arith}
use Rattle.std.specs.Prelude.{nat_lt, ◌==◌}
use Rattle.std.proofs.lemmas.Bool.{cases_lt, le-ltb, lt-ltb, ne_eqb}
use Rattle.std.proofs.lemmas.List.{append-nil, take-append-drop, take_more}
use Rattle.std.proofs.Math.Seq.{drop-length}
use Rattle.rpc_marks.specs.declared.marker.Marker.{Marker}
use Rattle.rpc_marks.specs.declared.step.Step.{Step}
use Rattle.rpc_marks.specs.declared.step.Step.TheVariants.{More, Whole, TooLong}
use Rattle.rpc_marks.specs.Marker.{IsFed, Leads, Takes, body_of, front_at, front_by, front_in_body, records_at}
use Rattle.rpc_marks.specs.Records.{Front, Part, Long, Record, body_len, front_behind, front_of, is_last, records_in}
use Rattle.rpc_marks.specs.Records.{records_with}
use Rattle.rpc_marks.proofs.FrontLemmas.{front-head, front-short, records-front}

-- the bytes go on with a head
pub at_head : (head before : List ℕ) (left : ℕ) (bytes : List ℕ) → length head < 4
    → front_by head before left bytes ≡ front_behind before (head ++ bytes)
unfolding front_by
at_head head before left bytes less =
    let short : nat_lt (length head) 4 ≡ true = lt-ltb _ _ less in
    rw short refl

-- they begin a record behind one that ended
pub at_end : (head before : List ℕ) (bytes : List ℕ) → 4 ≤ length head → front_by head before 0 bytes ≡ front_of bytes
unfolding front_by
at_end head before bytes long =
    let whole : nat_lt (length head) 4 ≡ false = le-ltb _ _ long in
    rw whole refl

-- they go on with the body of a fragment
pub at_body : (head before : List ℕ) (left : ℕ) (bytes : List ℕ) → 4 ≤ length head → 0 < left
    → front_by head before left bytes ≡ front_in_body before (is_last head) left bytes
unfolding front_by
at_body head before zero bytes long some = absurd (omega (arith, some))
at_body head before (suc left) bytes long some =
    let whole : nat_lt (length head) 4 ≡ false = le-ltb _ _ long in
    let more : (suc left == 0) ≡ false = ne_eqb (suc left) 0 (λ is. absurd (omega (arith, is))) in
    rw (whole, more) refl

-- nothing that comes next is a part of a record
pub at_nothing : (head before : List ℕ) (left : ℕ) → front_by head before left [] ≡ Part
at_nothing head before left =
    elim (cases_lt (length head) 4) [
      | inl less ↦ at_head head before left [] less
          ∙ front-short before (head ++ []) (omega (arith, less, length-append head []))
      | inr long ↦ behind left long
    ]
  where
    behind : (left : ℕ) → 4 ≤ length head → front_by head before left [] ≡ Part
    behind zero long = at_end head before [] long ∙ front-short [] [] (omega arith)
    behind (suc left) long =
        let some : nat_lt (length {A = ℕ} []) (suc left) ≡ true = lt-ltb _ _ (omega arith) in
        at_body head before (suc left) [] long (omega arith) ∙ rw some refl

-- one byte of the body of a fragment was taken
pub byte_of_body : (before : List ℕ) (last : Bool) (left : ℕ) (byte : ℕ) (bytes : List ℕ) → 0 < left
    → front_in_body before last left (byte ∷ bytes) ≡ front_in_body (before ++ byte ∷ []) last (left - 1) bytes
byte_of_body before last zero byte bytes some = absurd (omega (arith, some))
byte_of_body before last (suc left) byte bytes some =
    let one : suc left - 1 ≡ left = omega arith in
    elim (cases_lt (length bytes) left) [
      | inl less ↦
          let longer : nat_lt (length (byte ∷ bytes)) (suc left) ≡ true = lt-ltb _ _ (omega (arith, less)) in
          let shorter : nat_lt (length bytes) left ≡ true = lt-ltb _ _ less in
          rw (one, longer, shorter) refl
      | inr more ↦
          let longer : nat_lt (length (byte ∷ bytes)) (suc left) ≡ false = le-ltb _ _ (omega (arith, more)) in
          let shorter : nat_lt (length bytes) left ≡ false = le-ltb _ _ more in
          rw (one, longer, shorter, append_assoc before (byte ∷ []) (take left bytes)) refl
    ]

-- no byte of the body of a fragment is to come
pub none_left : (before : List ℕ) (last : Bool) (bytes : List ℕ)
    → front_in_body before last 0 bytes ≡ cond last (Record before bytes) (front_behind before bytes)
none_left before last bytes =
    let some : nat_lt (length bytes) 0 ≡ false = le-ltb _ _ (omega arith) in
    rw (some, append-nil before) refl

-- what leads to a step is known by what it stands for
pub leads-same : (front other : List ℕ → Front) (new : Marker) (step : Step)
    → ((behind : List ℕ) → other behind ≡ front behind) → Leads front new step → Leads other new step
leads-same front other new More same leads = λ behind. same behind ∙ leads behind
leads-same front other new Whole same leads = λ behind. same behind ∙ leads behind
leads-same front other new TooLong same leads = λ behind. same behind ∙ leads behind

-- a marker took bytes, and then one more
pub takes-more : (piece : List ℕ) (place byte : ℕ) (old between new : Marker) (step : Step) → place < length piece
    → byte ≡ get_or piece place 0
    → ((behind : List ℕ) → front_at old (take place piece ++ behind) ≡ front_at between behind)
    → Takes (byte ∷ []) between new step → Takes (take (place + 1) piece) old new step
takes-more piece place byte old between new step within is before takes =
    leads-same (λ behind. front_at between (byte ∷ behind))
    (λ behind. front_at old (take (place + 1) piece ++ behind)) new step
    (λ behind.
    ap (λ (l : List ℕ). front_at old (l ++ behind)) (take_more piece place 0 within)
    ∙ ap (λ (l : List ℕ). front_at old l) (append_assoc (take place piece) (get_or piece place 0 ∷ []) behind)
    ∙ before (get_or piece place 0 ∷ behind)
    ∙ ap (λ (b : ℕ). front_at between (b ∷ behind)) (sym is))
    takes

-- what was taken of a piece tells what stands at its front
pub fed-by : (piece : List ℕ) (count : ℕ) (old new : Marker) (step : Step) → (step ≡ More → count ≡ length piece)
    → Takes (take count piece) old new step → IsFed (front_at old piece) piece count (body_of new) step
fed-by piece count old new More all takes =
    let same : take count piece ++ [] ≡ piece =
    append-nil (take count piece) ∙ sym (append-nil (take count piece))
    ∙ ap (λ (l : List ℕ). take count piece ++ l)
    (sym (drop-length piece) ∙ ap (λ (n : ℕ). drop n piece) (sym (all refl))) ∙ take-append-drop count piece in
    (sym (ap (front_at old) same) ∙ takes [] ∙ at_nothing new.head.items new.body.items new.left, all refl)
fed-by piece count old new Whole all takes =
    sym (ap (front_at old) (take-append-drop count piece)) ∙ takes (drop count piece)
fed-by piece count old new TooLong all takes =
    sym (ap (front_at old) (take-append-drop count piece)) ∙ takes (drop count piece)

-- a marker at the start of a stream, or behind a record, gives the records of the bytes that come next
pub records-start : (marker : Marker) → ((bytes : List ℕ) → front_at marker bytes ≡ front_of bytes) → (bytes : List ℕ)
    → records_at marker bytes ≡ records_in bytes
records-start marker anew bytes =
    ap (λ (front : Front). records_with front records_in) (anew bytes) ∙ sym (records-front bytes)

-- it gives none of nothing
pub records-nothing : (marker : Marker) → records_at marker [] ≡ []
records-nothing marker =
    ap (λ (front : Front). records_with front records_in) (at_nothing marker.head.items marker.body.items marker.left)

-- bytes were taken that end a record
pub records-whole : (taken : List ℕ) (old new : Marker) → Takes taken old new Whole
    → ((bytes : List ℕ) → front_at new bytes ≡ front_of bytes) → (bytes : List ℕ)
    → records_at old (taken ++ bytes) ≡ body_of new ∷ records_at new bytes
records-whole taken old new takes anew bytes =
    ap (λ (front : Front). records_with front records_in) (takes bytes)
    ∙ ap (λ (l : List (List ℕ)). body_of new ∷ l) (sym (records-start new anew bytes))

-- bytes were taken by which a record is too long
pub records-long : (taken : List ℕ) (old new : Marker) → Takes taken old new TooLong → (bytes : List ℕ)
    → records_at old (taken ++ bytes) ≡ []
records-long taken old new takes bytes = ap (λ (front : Front). records_with front records_in) (takes bytes)

-- The steps of a marker.

-- a record begins behind one that ended
pub begins-anew : (head before next body : List ℕ) (left : ℕ) (bytes : List ℕ) → 4 ≤ length head → left ≡ 0 → next ≡ []
    → body ≡ [] → front_by next body left bytes ≡ front_by head before left bytes
begins-anew head before next body left bytes long none head_none body_none =
    ap (λ (l : List ℕ). front_by l body left bytes) head_none ∙ ap (λ (l : List ℕ). front_by [] l left bytes) body_none
    ∙ at_head [] [] left bytes (omega arith)
    ∙ sym (ap (λ (n : ℕ). front_by head before n bytes) none ∙ at_end head before bytes long)

-- the last fragment ends, and with it the record
pub ends-record : (before : List ℕ) (last : Bool) (left : ℕ) (bytes : List ℕ) → left ≡ 0 → last ≡ true
    → front_in_body before last left bytes ≡ Record before bytes
ends-record before last left bytes none is =
    ap (λ (n : ℕ). front_in_body before last n bytes) none ∙ none_left before last bytes ∙ rw is refl

-- another fragment ends
pub ends-fragment : (before next : List ℕ) (last : Bool) (left : ℕ) (bytes : List ℕ) → left ≡ 0 → last ≡ false
    → next ≡ [] → front_in_body before last left bytes ≡ front_by next before left bytes
ends-fragment before next last left bytes none is head_none =
    ap (λ (n : ℕ). front_in_body before last n bytes) none ∙ none_left before last bytes ∙ rw is refl
    ∙ sym (ap (λ (l : List ℕ). front_by l before left bytes) head_none ∙ at_head [] before left bytes (omega arith))

-- a byte of a head was taken, and the head goes on
pub head-more : (head next before : List ℕ) (left byte : ℕ) (bytes : List ℕ) → next ≡ head ++ byte ∷ []
    → length next < 4 → front_by head before left (byte ∷ bytes) ≡ front_by next before left bytes
head-more head next before left byte bytes is less =
    at_head head before left (byte ∷ bytes) (omega (arith, less, ap length is, length-append head (byte ∷ [])))
    ∙ ap (front_behind before) (sym (append_assoc head (byte ∷ []) bytes))
    ∙ sym (at_head next before left bytes less ∙ ap (λ (l : List ℕ). front_behind before (l ++ bytes)) is)

-- the last byte of a head was taken
pub head-whole : (head next before : List ℕ) (left byte : ℕ) (bytes : List ℕ) → next ≡ head ++ byte ∷ []
    → length head < 4 → 4 ≤ length next
    → front_by head before left (byte ∷ bytes)
    ≡ cond (nat_lt 4096 (length before + body_len next)) (Long bytes)
    (front_in_body before (is_last next) (body_len next) bytes)
head-whole head next before left byte bytes is less long =
    at_head head before left (byte ∷ bytes) less
    ∙ ap (front_behind before) (sym (append_assoc head (byte ∷ []) bytes) ∙ ap (λ (l : List ℕ). l ++ bytes) (sym is))
    ∙ front-head before next bytes (omega (arith, less, long, ap length is, length-append head (byte ∷ [])))

-- and by it the record is too long
pub head-long : (head next before : List ℕ) (left byte : ℕ) (bytes : List ℕ) → next ≡ head ++ byte ∷ []
    → length head < 4 → 4 ≤ length next → 4096 < length before + body_len next
    → front_by head before left (byte ∷ bytes) ≡ Long bytes
head-long head next before left byte bytes is less long much =
    let large : nat_lt 4096 (length before + body_len next) ≡ true = lt-ltb _ _ much in
    head-whole head next before left byte bytes is less long ∙ rw large refl

-- or it is not
pub head-fits : (head next before : List ℕ) (left byte : ℕ) (bytes : List ℕ) → next ≡ head ++ byte ∷ []
    → length head < 4 → 4 ≤ length next → length before + body_len next ≤ 4096
    → front_by head before left (byte ∷ bytes) ≡ front_in_body before (is_last next) (body_len next) bytes
head-fits head next before left byte bytes is less long few =
    let fits : nat_lt 4096 (length before + body_len next) ≡ false = le-ltb _ _ few in
    head-whole head next before left byte bytes is less long ∙ rw fits refl
