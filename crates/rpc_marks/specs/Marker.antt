-- What a marker gives of the bytes that come next.
use Rattle.std.specs.Prelude.{◌≡◌, ℕ, ◌==◌, Bool, nat_lt, if◌then◌else◌, List, ◌++◌, length, take, drop}
use Rattle.rpc_marks.specs.Records.{Front, Part, Long, Record, front_behind, front_of, is_last, records_in}
use Rattle.rpc_marks.specs.Records.{records_with}
use Rattle.rpc_marks.specs.declared.marker.Marker.{Marker}
use Rattle.rpc_marks.specs.declared.step.Step.{Step}
use Rattle.rpc_marks.specs.declared.step.Step.TheVariants.{More, Whole, TooLong}

-- What stands at the front of bytes that go on with a record whose bodies so far are these, where this many bytes of
-- the body of a fragment are to come, which is the last one or is not.
abbrev pub front_in_body : (before : List ℕ) → (last : Bool) → (left : ℕ) → List ℕ → Front
front_in_body before last left bytes =
    if nat_lt (length bytes) left then Part
    else if last then Record (before ++ take left bytes) (drop left bytes)
    else front_behind (before ++ take left bytes) (drop left bytes)

-- What stands at the front of bytes behind those of a head, as far as it was taken, and of bodies, where this many
-- bytes of the body of the fragment are to come. They go on with the head, begin a record behind one that ended, or go
-- on with the body.
unfoldable pub front_by : (head before : List ℕ) → (left : ℕ) → List ℕ → Front
front_by head before left bytes =
    if nat_lt (length head) 4 then front_behind before (head ++ bytes)
    else if left == 0 then front_of bytes
    else front_in_body before (is_last head) left bytes

-- what stands at the front of the bytes that come next, where a marker has taken the ones before
abbrev pub front_at : Marker → List ℕ → Front
front_at marker bytes = front_by marker.head.items marker.body.items marker.left bytes

-- the records that a marker gives of the bytes that come next
abbrev pub records_at : Marker → List ℕ → List (List ℕ)
records_at marker bytes = records_with (front_at marker bytes) records_in

-- the bodies of the fragments that were taken, joined
abbrev pub body_of : Marker → List ℕ
body_of marker = marker.body.items

-- What stands at the front of whatever comes next leads to a step of a marker: a record ends here, or is too long, or
-- goes on as the marker has it.
abbrev pub Leads : (List ℕ → Front) → (new : Marker) → Step → Type 0
Leads front new More = (behind : List ℕ) → front behind ≡ front_at new behind
Leads front new Whole = (behind : List ℕ) → front behind ≡ Record (body_of new) behind
Leads front new TooLong = (behind : List ℕ) → front behind ≡ Long behind

-- A marker took these bytes. Whatever comes behind them, a record ends with them, or is too long by them, or goes on.
abbrev pub Takes : (taken : List ℕ) → (old new : Marker) → Step → Type 0
Takes taken old new step = Leads (λ behind. front_at old (taken ++ behind)) new step

-- The step, the body and the count are those of what stands at the front of a piece: a record ends behind so many
-- bytes, or one is too long behind so many, or else all of it was taken.
abbrev pub IsFed : Front → (piece : List ℕ) → (count : ℕ) → (body : List ℕ) → Step → Type 0
IsFed front piece count body More = (front ≡ Part) × (count ≡ length piece)
IsFed front piece count body Whole = front ≡ Record body (drop count piece)
IsFed front piece count body TooLong = front ≡ Long (drop count piece)
