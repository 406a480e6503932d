-- Records that are sent are read.
use Rattle.std.proofs.Common.{◌≡◌, ℕ, ◌+◌, ◌%◌, ◌<◌, ◌≤◌, ◌^◌, Bool, true, false, cond, List, [], ◌∷◌, ◌++◌, length}
use Rattle.std.proofs.Common.{refl, ap, ◌∙◌, append_assoc, length-append, arith}
use Rattle.std.specs.Prelude.{nat_lt, nat_le}
use Rattle.std.specs.Int.{w32, to_be_bytes}
use Rattle.std.proofs.lemmas.Bool.{le-leb, le-ltb, lt-leb}
use Rattle.std.proofs.lemmas.Nat.{from_be_bytes-to_be_bytes_4}
use Rattle.std.proofs.Math.Seq.{drop-append_seam, take-append_seam}
use Rattle.rpc_marks.specs.Marked.{ReadsWhatIsSent, fragment, joined, sent_record}
use Rattle.rpc_marks.specs.Marker.{front_in_body}
use Rattle.rpc_marks.specs.Records.{Front, Long, Record, body_len, front_behind, head_of, is_last, records_in}
use Rattle.rpc_marks.specs.Records.{records_with}
use Rattle.rpc_marks.proofs.FrontLemmas.{front-head, records-front}

-- the number of a head that is sent
sent_head : (number : ℕ) → number < 2 ^ 32 → head_of (to_be_bytes w32 number) ≡ number
unfolding head_of
sent_head number fits = from_be_bytes-to_be_bytes_4 number fits

-- a body behind its head
body-behind : (before : List ℕ) (last : Bool) (body bytes : List ℕ)
    → front_in_body before last (length body) (body ++ bytes)
    ≡ cond last (Record (before ++ body) bytes) (front_behind (before ++ body) bytes)
body-behind before last body bytes =
    let whole : nat_lt (length (body ++ bytes)) (length body) ≡ false =
    le-ltb _ _ (omega (arith, length-append body bytes)) in
    rw (whole, take-append_seam body bytes, drop-append_seam body bytes) refl

-- what stands at the front of a fragment whose head is this number
front-number : (before body bytes : List ℕ) (number : ℕ) (last : Bool) → number < 2 ^ 32 → nat_le (2 ^ 31) number ≡ last
    → number % 2 ^ 31 ≡ length body → length (before ++ body) ≤ 4096
    → front_behind before ((to_be_bytes w32 number ++ body) ++ bytes)
    ≡ cond last (Record (before ++ body) bytes) (front_behind (before ++ body) bytes)
front-number before body bytes number last fits mark len few =
    let head = to_be_bytes w32 number in
    let size : body_len head ≡ length body = ap (λ (n : ℕ). n % 2 ^ 31) (sent_head number fits) ∙ len in
    let marked : is_last head ≡ last = ap (λ (n : ℕ). nat_le (2 ^ 31) n) (sent_head number fits) ∙ mark in
    let room : nat_lt 4096 (length before + length body) ≡ false =
    le-ltb _ _ (omega (arith, few, length-append before body)) in
    ap (front_behind before) (append_assoc head body bytes) ∙ front-head before head (body ++ bytes) refl
    ∙ ap (λ (n : ℕ). cond (nat_lt 4096 (length before + n)) (Long (body ++ bytes))
    (front_in_body before (is_last head) n (body ++ bytes))) size
    ∙ rw (room, marked) (body-behind before last body bytes)

front-fragment_sent : (before body bytes : List ℕ) (last : Bool) → length (before ++ body) ≤ 4096
    → front_behind before (fragment last body ++ bytes)
    ≡ cond last (Record (before ++ body) bytes) (front_behind (before ++ body) bytes)
front-fragment_sent before body bytes true few =
    let short : length body ≤ 4096 = omega (arith, few, length-append before body) in
    let rest : (length body + 2 ^ 31) % 2 ^ 31 ≡ length body = omega arith in
    front-number before body bytes (length body + 2 ^ 31) true (omega arith) (le-leb _ _ (omega arith)) rest few
front-fragment_sent before body bytes false few =
    let short : length body ≤ 4096 = omega (arith, few, length-append before body) in
    let rest : (length body + 0) % 2 ^ 31 ≡ length body = omega arith in
    front-number before body bytes (length body + 0) false (omega arith) (lt-leb _ _ (omega arith)) rest few

front-sent : (before : List ℕ) (bodies : List (List ℕ)) (last behind : List ℕ)
    → length (before ++ joined bodies last) ≤ 4096
    → front_behind before (sent_record bodies last ++ behind) ≡ Record (before ++ joined bodies last) behind
front-sent before [] last behind few = front-fragment_sent before last behind true few
front-sent before (body ∷ bodies) last behind few =
    let more : length ((before ++ body) ++ joined bodies last) ≤ 4096 =
    omega (arith, few, ap length (append_assoc before body (joined bodies last))) in
    ap (front_behind before) (append_assoc (fragment false body) (sent_record bodies last) behind)
    ∙ front-fragment_sent before body (sent_record bodies last ++ behind) false
    (omega (arith, more, length-append (before ++ body) (joined bodies last)))
    ∙ front-sent (before ++ body) bodies last behind more
    ∙ ap (λ (l : List ℕ). Record l behind) (append_assoc before body (joined bodies last))

pub reads_sent : (bodies : List (List ℕ)) (last behind : List ℕ) → ReadsWhatIsSent bodies last behind
reads_sent bodies last behind = λ few.
    records-front (sent_record bodies last ++ behind)
    ∙ ap (λ (front : Front). records_with front records_in) (front-sent [] bodies last behind few)
