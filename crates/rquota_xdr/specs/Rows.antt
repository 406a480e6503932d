-- Tables of what must hold, in order, each row with the answer that is given where it is the first that does not.
use Rattle.std.specs.Prelude.{Bool, if◌then◌else◌, List, [], ◌∷◌, Option, Some, None}
use Rattle.rquota_xdr.specs.declared.call.Call.{Call}

-- a test, and the answer where it fails
pub record Row : Type 0 where
  pub holds : Bool
  pub answer : Call

infix 4 ◌otherwise◌
abbrev pub ◌otherwise◌ : Bool → Call → Row
holds otherwise answer = record { holds = holds; answer = answer }

-- the answer of the first row that fails
abbrev pub first_failing : List Row → Option Call
first_failing [] = None
first_failing (row ∷ rows) = if row.holds then first_failing rows else Some row.answer
