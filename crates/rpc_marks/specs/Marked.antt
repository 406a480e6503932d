-- Records as they are sent. Source: RFC 5531, section 11.
use Rattle.std.specs.Prelude.{◌≡◌, ◌≤◌, ℕ, ◌+◌, ◌^◌, Bool, false, true, if◌then◌else◌, List, [], ◌∷◌, ◌++◌, length}
use Rattle.std.specs.Int.{w32, to_be_bytes}
use Rattle.rpc_marks.specs.Records.{records_in}

-- a fragment: a head of its length, with the top bit where it is the last one of its record, and its body
abbrev pub fragment : (last : Bool) → (body : List ℕ) → List ℕ
fragment last body = to_be_bytes w32 (length body + (if last then 2 ^ 31 else 0)) ++ body

-- a record, by the bodies of its fragments: those before the last one, and that one
abbrev pub sent_record : (bodies : List (List ℕ)) → (last : List ℕ) → List ℕ
sent_record [] last = fragment true last
sent_record (body ∷ bodies) last = fragment false body ++ sent_record bodies last

-- the bodies of its fragments, joined
abbrev pub joined : (bodies : List (List ℕ)) → (last : List ℕ) → List ℕ
joined [] last = last
joined (body ∷ bodies) last = body ++ joined bodies last

-- A record that is sent in fragments, and has 4,096 bytes at most, is the first record of a stream that begins with it,
-- and those of the bytes behind it come next.
abbrev pub ReadsWhatIsSent : (bodies : List (List ℕ)) → (last behind : List ℕ) → Type 0
ReadsWhatIsSent bodies last behind =
    length (joined bodies last) ≤ 4096
    → records_in (sent_record bodies last ++ behind) ≡ joined bodies last ∷ records_in behind
