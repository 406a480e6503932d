-- What sending and receiving leave, for no call and for two in a row.
use Rattle.std.proofs.Common.{◌∙◌, arith}
use Rattle.network.specs.Events.{KeepsStart, PeerSeen}

pub keeps_start-then : (old between new : PeerSeen) → KeepsStart old between → KeepsStart between new
    → KeepsStart old new
keeps_start-then old between new first second = record {
  started = second.started ∙ first.started;
  later = omega (arith, first.later, second.later);
}
