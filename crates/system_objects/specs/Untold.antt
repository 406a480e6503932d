-- What is seen of a disk that tells nothing of its files.
use Rattle.std.specs.Prelude.{ℕ, None, false, ⊤}
use Rattle.disk.specs.DiskSeen.{DiskSeen}

-- this many calls have failed; no file is read, and a stop may leave anything
abbrev pub untold : ℕ → DiskSeen
untold faults = record {
  files = λ _. None;
  images = λ _. ⊤;
  moment = 0;
  since = λ _ _. ⊤;
  unsynced = λ _. false;
  faults = faults;
}
