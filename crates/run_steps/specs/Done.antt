-- What a run of the program has done to what is outside, as far as it is told.
use Rattle.std.specs.Prelude.{◌≡◌, ◌≤◌, ℕ, Bool, IsTrue, List, ◌++◌}
use Rattle.outside.specs.Count.{Rose}
use Rattle.outside.specs.Seen.{Datagram, LinkSeen, SinkSeen, SourceSeen, StoreSeen}
use Rattle.outside.specs.World.{World}
use Rattle.run_steps.specs.Act.{Act, Follows, answers, err_bytes, out_bytes, started_by}
use Rattle.run_steps.specs.Writes.{WritesFor}

-- whether the store, the input, the output, the error output and the link tell
pub record RunTells : Type 0 where
  pub store : Bool
  pub input : Bool
  pub out : Bool
  pub err : Bool
  pub link : Bool

-- what is seen of the store, the input, the output, the error output and the link
pub record RunSeen : Type 0 where
  pub store : StoreSeen
  pub input : SourceSeen
  pub out : SinkSeen
  pub err : SinkSeen
  pub link : LinkSeen

-- what is seen of these five
abbrev pub seen_of : StoreSeen → SourceSeen → SinkSeen → SinkSeen → LinkSeen → RunSeen
seen_of store input out err link = record { store = store; input = input; out = out; err = err; link = link }

-- whether these five tell
abbrev pub tells_of : (store input out err link : Bool) → RunTells
tells_of store input out err link = record { store = store; input = input; out = out; err = err; link = link }

-- what a command reads from is told: the files, the input and the datagrams
pub record IsWorldTold (tells : RunTells) : Type 0 where
  pub store : IsTrue tells.store
  pub input : IsTrue tells.input
  pub link : IsTrue tells.link

-- all is told
pub record IsAllTold (tells : RunTells) : Type 0 where
  pub world : IsWorldTold tells
  pub out : IsTrue tells.out
  pub err : IsTrue tells.err

-- no count of faults rose
pub record NoFault (old new : RunSeen) : Type 0 where
  pub store : ¬ Rose old.store.faults new.store.faults
  pub input : ¬ Rose old.input.faults new.input.faults
  pub out : ¬ Rose old.out.faults new.out.faults
  pub err : ¬ Rose old.err.faults new.err.faults
  pub link : ¬ Rose old.link.faults new.link.faults

-- no count of faults fell
pub record IsLater (old new : RunSeen) : Type 0 where
  pub store : old.store.faults ≤ new.store.faults
  pub input : old.input.faults ≤ new.input.faults
  pub out : old.out.faults ≤ new.out.faults
  pub err : old.err.faults ≤ new.err.faults
  pub link : old.link.faults ≤ new.link.faults

-- what steps of a command meet outside: the files, what is left of the input, and the datagrams that are left
pub record Outside : Type 0 where
  pub files : World
  pub input : List ℕ
  pub datagrams : List Datagram

-- what is met outside, as it is seen
abbrev pub outside_of : RunSeen → Outside
outside_of seen = record { files = seen.store.files; input = seen.input.left; datagrams = seen.link.left }

-- Acts were done: the files follow, the sinks got exactly their bytes and the link exactly their answers, the link was
-- started exactly as they say, and there were no more calls of `write` to the store than they take.
pub record AreDone (tells : RunTells) (acts : List Act) (old new : RunSeen) : Type 0 where
  pub files : Follows acts old.store.files new.store.files
  pub out : IsTrue tells.out → new.out.written ≡ old.out.written ++ out_bytes acts
  pub err : IsTrue tells.err → new.err.written ≡ old.err.written ++ err_bytes acts
  pub answered : new.link.answers ≡ old.link.answers ++ answers acts
  pub started : new.link.started ≡ started_by acts old.link.started
  pub writes : WritesFor acts old.store.writes new.store.writes

-- no file was changed, and nothing was written
pub record IsUnwritten (old new : StoreSeen) : Type 0 where
  pub files : new.files ≡ old.files
  pub writes : new.writes ≡ old.writes
