-- The call for limits, as it is written piece by piece.
use Rattle.std.proofs.Common.{◌≡◌, ℕ, ◌+◌, ◌-◌, ◌*◌, ◌^◌, ◌<◌, ◌≤◌, List, [], ◌∷◌, ◌++◌, length, take, refl, ap, ◌∙◌}
use Rattle.std.proofs.Common.{arith, length-append}
use Rattle.std.specs.Prelude.{replicate}
use Rattle.std.proofs.lemmas.List.{length-replicate, length-take}
use Rattle.rquota_xdr.specs.Units.{padded}
use Rattle.rquota_xdr.specs.Reply.{bytes_of}
use Rattle.rquota_xdr.specs.Question.{Asks, IsPadded}
use Rattle.rquota_xdr.proofs.SpellingLemmas.{length-bytes_of}
use Rattle.rquota_xdr.proofs.QuestionLemmas.{question_asks}
use Rattle.quota_client.specs.Asking.{limits_call, limits_question, no_bytes, path_field}

-- its units, the path, the padding, and the identifier
pub call_pieces : (xid uid gid : ℕ) (path zeros : List ℕ) (id : ℕ)
    → zeros ≡ replicate (padded (length path) - length path) 0
    → ((bytes_of (xid ∷ 0 ∷ 2 ∷ 100011 ∷ 1 ∷ 1 ∷ 1 ∷ 20 ∷ 0 ∷ 0 ∷ uid ∷ gid ∷ 0 ∷ 0 ∷ 0 ∷ length path ∷ []) ++ path)
    ++ zeros) ++ bytes_of (id ∷ []) ≡ limits_call xid uid gid path id
call_pieces xid uid gid path zeros id is = rw is refl

-- no bytes are padded
none_padded : (most : ℕ) → IsPadded most no_bytes
none_padded most = record { few = omega arith; whole = refl }

length-zeros : (count : ℕ) → length {A = ℕ} (replicate count 0) ≡ count
length-zeros count = length-replicate count 0

-- a path is padded
path_padded : (path : List ℕ) → length path ≤ 1024 → IsPadded 1024 (path_field path)
path_padded path few = record {
  few = few;
  whole = let zeros = length-zeros (padded (length path) - length path) in omega arith;
}

pub call_asks : (xid uid gid : ℕ) (path : List ℕ) (id : ℕ) → xid < 2 ^ 32 → uid < 2 ^ 32 → gid < 2 ^ 32 → id < 2 ^ 32
    → length path ≤ 1024
    → Asks (limits_call xid uid gid path id) (limits_question xid uid gid path id)
call_asks xid uid gid path id xid_fits uid_fits gid_fits id_fits few =
    question_asks (limits_question xid uid gid path id) (record {
      head = (xid_fits, (omega arith, (omega arith, (uid_fits, (gid_fits, (omega arith, tt))))));
      get = (omega arith, omega arith);
      machine = none_padded 255;
      few_groups = omega arith;
      groups = tt;
      credential = record { few = omega arith; whole = refl };
      verifier = none_padded 400;
      path = path_padded path few;
      last = (id_fits, tt);
    })

-- the first units have few bytes
pub units_fit : (before units call : List ℕ) (count : ℕ) → count < length units
    → call ≡ before ++ bytes_of (take count units) → length call + 4 ≤ length before + 4 * length units
units_fit before units call count some is =
    let one = ap length is ∙ length-append before (bytes_of (take count units)) in
    let two = length-bytes_of (take count units) in
    let three = length-take count units in
    omega arith
