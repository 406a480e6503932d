use Rattle.std.proofs.Common.{◌≡◌, ◌-◌, ◌≤◌, ◌++◌, max, replicate, vec_capacity, vec_len}
use Rattle.file_in_memory.proofs.growing.fill_up.Given as goal

abbrev pub invariant-loop-file : goal.invariant-loop-file
invariant-loop-file l = record {
  filled : l.file.items ≡ l.initial.file.items ++ replicate (vec_len l.file - vec_len l.initial.file) 0;
  longer : vec_len l.initial.file ≤ vec_len l.file;
  within : vec_len l.file ≤ max l.len (vec_len l.initial.file);
  room : vec_capacity l.file ≡ vec_capacity l.initial.file;
}

abbrev pub decreases-loop-file : goal.decreases-loop-file
decreases-loop-file l = l.len - vec_len l.file
