-- What a command does to what is outside, act by act, and how the files follow.
use Rattle.std.specs.Prelude.{◌≡◌, ◌⊎◌, ℕ, List, [], ◌∷◌, ◌++◌, Option, Ok, ⊤}
use Rattle.outside.specs.Replacement.{ReplacesOnly}
use Rattle.outside.specs.Seen.{Datagram, Started, started_at}
use Rattle.outside.specs.World.{KeepsOthers, World}
use Rattle.quota_value.specs.QuotaValue.{QuotaValue}
use Rattle.quota_map.specs.Asked.{InFormat}
use Rattle.quota_map.specs.AnyChange.{AnyLeaves}
use Rattle.quota_map.specs.View.{IsView}

-- How an opened file is edited: in its place; as the first change of edits that are made together, with this many
-- others, either in its place or, for all of them, by one replacement of the file; or behind that first one, which is
-- made where it was made.
pub data Way : Type 0 where
  InPlace : Way
  Together : (others : ℕ) → Way
  Behind : Way

-- One act: bytes to the output, bytes to the error output, a link that is started at a port when these datagrams are
-- left, an answer to a datagram, a file that from then on stands for another value: an opened one that is edited, or
-- one that is replaced as a whole; or an edit, together with others, that has nothing to do.
pub data Act : Type 0 where
  ToOut : List ℕ → Act
  ToErr : List ℕ → Act
  Start : ℕ → List Datagram → Act
  Answer : List ℕ → Act
  Change : Way → List ℕ → QuotaValue → Act
  Replace : List ℕ → QuotaValue → Act
  Idle : Act

-- the bytes that go to the output, joined
abbrev pub out_bytes : List Act → List ℕ
out_bytes [] = []
out_bytes (ToOut bytes ∷ acts) = bytes ++ out_bytes acts
out_bytes (_ ∷ acts) = out_bytes acts

-- the bytes that go to the error output, joined
abbrev pub err_bytes : List Act → List ℕ
err_bytes [] = []
err_bytes (ToErr bytes ∷ acts) = bytes ++ err_bytes acts
err_bytes (_ ∷ acts) = err_bytes acts

-- the answers, in order
abbrev pub answers : List Act → List (List ℕ)
answers [] = []
answers (Answer bytes ∷ acts) = bytes ∷ answers acts
answers (_ ∷ acts) = answers acts

-- how a link was started after acts: once more for each start
abbrev pub started_by : List Act → Started → Started
started_by [] before = before
started_by (Start port left ∷ acts) before = started_by acts (started_at before port left)
started_by (_ ∷ acts) before = started_by acts before

-- no file is changed
abbrev pub ChangesNone : List Act → Type 0
ChangesNone [] = ⊤
ChangesNone (Change way name value ∷ acts) = ⊥
ChangesNone (Replace name value ∷ acts) = ⊥
ChangesNone (_ ∷ acts) = ChangesNone acts

-- the named file is seen as the value
abbrev pub IsSeenAs : List ℕ → QuotaValue → World → Type 0
IsSeenAs name value files = IsView (files name) value.kind (InFormat value.format) (Ok value)

-- Files follow one act. After an edit and after a replacement the named file stands for the new value; an edit leaves
-- all other files, and a replacement all others but the one with `.new` added to the name. The other acts leave all
-- files.
abbrev pub FollowsAct : Act → World → World → Type 0
FollowsAct (Change way name value) old new = IsSeenAs name value new × KeepsOthers name old new
FollowsAct (Replace name value) old new = IsSeenAs name value new × ReplacesOnly name old new
FollowsAct _ old new = new ≡ old

-- files follow acts, one after another
abbrev pub Follows : List Act → World → World → Type 0
Follows [] old new = new ≡ old
Follows (act ∷ acts) old new = (middle : World) × FollowsAct act old middle × Follows acts middle new

-- What an edit of a file to this value that failed may leave of it: what was there, or what lies between that and a
-- file that stands for the value, as the format allows.
abbrev pub MayBeLeft : QuotaValue → (old left : Option (List ℕ)) → Type 0
MayBeLeft value old left =
    (left ≡ old)
    ⊎ ((after : Option (List ℕ)) × IsView after value.kind (InFormat value.format) (Ok value)
    × AnyLeaves value.format old after left)

-- what an edit that failed leaves of other files than the named one: all; or, where it may be made by a replacement,
-- all but the one with `.new` added to the name, and then the named file is as it was
abbrev pub LeavesOthers : Way → List ℕ → World → World → Type 0
LeavesOthers (Together others) name old new =
    KeepsOthers name old new ⊎ ((new name ≡ old name) × ReplacesOnly name old new)
LeavesOthers _ name old new = KeepsOthers name old new

-- Files after acts of which at most the first was begun. An edit leaves what an edit that failed may leave of the named
-- file, and of all other files what its way leaves; a replacement leaves the named file as it was, and all others but
-- the one with `.new` added to the name.
abbrev pub FollowsInPart : List Act → World → World → Type 0
FollowsInPart [] old new = new ≡ old
FollowsInPart (Change way name value ∷ _) old new =
    MayBeLeft value (old name) (new name) × LeavesOthers way name old new
FollowsInPart (Replace name value ∷ _) old new = (new name ≡ old name) × ReplacesOnly name old new
FollowsInPart (_ ∷ _) old new = new ≡ old
