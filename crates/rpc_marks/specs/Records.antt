-- The records of a stream, which are made of fragments. Source: RFC 5531, section 11, record marking. That a record has
-- at most 4,096 bytes is this project's own, as it is of a datagram.
use Rattle.std.specs.Prelude.{ℕ, zero, suc, ◌+◌, ◌%◌, ◌^◌, Bool, nat_le, nat_lt, if◌then◌else◌, List, [], ◌∷◌, ◌++◌}
use Rattle.std.specs.Prelude.{length, take, drop}
use Rattle.std.specs.Int.{w32, from_be_bytes}

-- the number of the head that begins a fragment: four bytes, the highest first
unfoldable pub head_of : List ℕ → ℕ
head_of fragment = from_be_bytes w32 (take 4 fragment)

-- the fragment is the last one of its record: the top bit of its head is set
abbrev pub is_last : List ℕ → Bool
is_last fragment = nat_le (2 ^ 31) (head_of fragment)

-- how many bytes the body of a fragment has: the other 31 bits of its head
abbrev pub body_len : List ℕ → ℕ
body_len fragment = head_of fragment % 2 ^ 31

-- the body of the fragment at the front
abbrev pub front_body : List ℕ → List ℕ
front_body bytes = take (body_len bytes) (drop 4 bytes)

-- what stands behind the fragment at the front
abbrev pub behind_front : List ℕ → List ℕ
behind_front bytes = drop (body_len bytes) (drop 4 bytes)

-- What stands at the front of bytes: no whole record, and none that a head makes too long; one that a head makes longer
-- than 4,096 bytes, and what stands behind that head; or a record, by the bodies of its fragments joined, and what
-- stands behind it.
pub data Front : Type 0 where
  Part : Front
  Long : (behind : List ℕ) → Front
  Record : (body behind : List ℕ) → Front

-- What stands at the front of bytes that go on with a record whose bodies so far are these; it has this many further
-- fragments at most.
unfoldable pub front_within : (most : ℕ) → (before : List ℕ) → List ℕ → Front
front_within zero before bytes = Part
front_within (suc most) before bytes =
    if nat_lt (length bytes) 4 then Part
    else if nat_lt 4096 (length before + body_len bytes) then Long (drop 4 bytes)
    else if nat_lt (length (drop 4 bytes)) (body_len bytes) then Part
    else if is_last bytes then Record (before ++ front_body bytes) (behind_front bytes)
    else front_within most (before ++ front_body bytes) (behind_front bytes)

-- the same, of as many fragments as may stand in the bytes
abbrev pub front_behind : (before : List ℕ) → List ℕ → Front
front_behind before bytes = front_within (length bytes) before bytes

-- what stands at the front of bytes that begin a record
abbrev pub front_of : List ℕ → Front
front_of bytes = front_behind [] bytes

-- a record at the front, and those that are found behind it; none where no whole record stands there
abbrev pub records_with : Front → (List ℕ → List (List ℕ)) → List (List ℕ)
records_with Part found = []
records_with (Long behind) found = []
records_with (Record body behind) found = body ∷ found behind

-- the records at the front of bytes, this many at most
unfoldable pub records_within : (most : ℕ) → List ℕ → List (List ℕ)
records_within zero bytes = []
records_within (suc most) bytes = records_with (front_of bytes) (records_within most)

-- the whole records at the front of bytes, in order, up to the first that is not whole or is too long
abbrev pub records_in : List ℕ → List (List ℕ)
records_in bytes = records_within (length bytes) bytes

-- The records of a stream: those of its first 16,777,216 bytes.
abbrev pub records_of : List ℕ → List (List ℕ)
records_of stream = records_in (take 16777216 stream)
