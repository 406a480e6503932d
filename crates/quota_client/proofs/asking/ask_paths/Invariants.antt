use Rattle.std.proofs.Common.{◌≡◌, IsTrue}
use Rattle.option_words.specs.Items.{texts_of}
use Rattle.quota_client.specs.Run.{asking_of, asking_tells}
use Rattle.quota_client.specs.Steps.{AreLater, PrintsFirst}
use Rattle.quota_client.specs.Words.{Asked}
use Rattle.quota_client.proofs.asking.ask_paths.Given as goal

abbrev pub invariant-loop-place : goal.invariant-loop-place
invariant-loop-place g l =
    let P = g.P.Peer in
    let O = g.O.Sink in
    let asked : Asked = record { client = l.client; paths = texts_of l.paths } in
    record {
      prints : IsTrue P.tells
          → PrintsFirst asked l.xid (asking_tells P.tells O.tells) (asking_of (P.seen l.fn.peer) (O.seen l.fn.out))
          (asking_of (P.seen l.peer) (O.seen l.out)) l.place l.answered;
      steady : (P.seen l.peer).faults ≡ (P.seen l.fn.peer).faults;
      later : AreLater (asking_of (P.seen l.fn.peer) (O.seen l.fn.out)) (asking_of (P.seen l.peer) (O.seen l.out));
    }
