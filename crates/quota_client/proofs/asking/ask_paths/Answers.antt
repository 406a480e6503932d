use Rattle.std.proofs.Common.{◌≡◌, ◌+◌, ◌%◌, ◌^◌, ◌<◌, ◌≤◌, Bool, length, refl, sym, subst, ◌∙◌, arith}
use Rattle.std.specs.Prelude.{◌&&◌}
use Rattle.std.proofs.lemmas.Result.{err_from_is_err_and}
use Rattle.option_words.specs.Items.{texts_of}
use Rattle.option_words.proofs.ItemLemmas.{text_at}
use Rattle.quota_client.specs.Paths.{PathCall}
use Rattle.quota_client.specs.Run.{asking_of, asking_tells}
use Rattle.quota_client.specs.Steps.{PrintsFirst}
use Rattle.quota_client.specs.Words.{Asked}
use Rattle.quota_client.proofs.PathLemmas.{both_false, both_true, length-texts, next_call, path_here, prints-more}
use Rattle.quota_client.proofs.PathLemmas.{prints-none, stops_at}
use Rattle.quota_client.proofs.asking.ask_paths.Goals as goal
use Rattle.quota_client.proofs.asking.ask_paths.Goals.{else-answered, then-answered}

pub loop-place-init : goal.loop-place-init
loop-place-init g c =
    let P = g.P.Peer in
    let O = g.O.Sink in
    let asked : Asked = record { client = c.args.client.now; paths = texts_of c.args.paths.now } in
    record {
      prints =
          λ told. prints-none asked c.args.xid (asking_tells P.tells O.tells)
          (asking_of (P.seen c.args.peer.now) (O.seen c.args.out.now))
          (asking_of (P.seen c.start.new.self) (O.seen c.args.out.now))
          (c.in_ok-start.ensures.started told) c.start.ensures.left c.start.ensures.sent refl;
      steady = c.in_ok-start.ensures.steady;
      later = record { peer = c.start.ensures.later; out = omega arith };
    }

pub print_path-requires : goal.print_path-requires
print_path-requires g c =
    let text = text_at c.args.paths.now c.loop-place.place c.index-paths-place.result c.as_str.result.now
    c.loop-place-test.true c.index-paths-place.is c.as_str.ensures.value in
    path_here c.args.paths.now c.loop-place.place c.as_str.result.now c.loop-place-test.true c.requires.paths text

pub returns-in_err-is_answered-clause-stopped : goal.returns-in_err-is_answered-clause-stopped
returns-in_err-is_answered-clause-stopped g c =
    let P = g.P.Peer in
    let O = g.O.Sink in
    let asked : Asked = record { client = c.args.client.now; paths = texts_of c.args.paths.now } in
    let size = length-texts c.args.paths.now in
    let some : c.loop-place.place < length asked.paths = let test = c.loop-place-test.true in omega arith in
    let few : length asked.paths ≤ 16 = let most = c.requires.few in omega arith in
    let text = text_at c.args.paths.now c.loop-place.place c.index-paths-place.result c.as_str.result.now
    c.loop-place-test.true c.index-paths-place.is c.as_str.ensures.value in
    let call : PathCall = record { xid = (c.args.xid + c.loop-place.place) % 2 ^ 32; path = c.as_str.result.now } in
    let here = next_call c.args.xid asked.paths c.loop-place.place call.xid call.path call some refl text in
    let p =
    err_from_is_err_and c.from_residual-in_err-is_answered.result c.from_residual-in_err-is_answered.ensures.1 in
    rw (p.1, p.2)
    (stops_at asked c.args.xid (asking_tells P.tells O.tells)
    (asking_of (P.seen c.args.peer.now) (O.seen c.args.out.now))
    (asking_of (P.seen c.loop-place.peer) (O.seen c.loop-place.out))
    (asking_of (P.seen c.print_path.new.peer) (O.seen c.print_path.new.out)) c.loop-place.place call
    c.loop-place.answered c.in_err-is_answered.field-0.0 few some here c.loop-place.invariant.later
    c.loop-place.invariant.steady c.loop-place.invariant.prints c.print_path.ensures.leaves.started
    c.in_err-is_answered.ensures.stopped)

pub loop-place-preserved : goal.loop-place-preserved
loop-place-preserved g c =
    let P = g.P.Peer in
    let O = g.O.Sink in
    let asked : Asked = record { client = c.args.client.now; paths = texts_of c.args.paths.now } in
    let size = length-texts c.args.paths.now in
    let some : c.loop-place.place < length asked.paths = let test = c.loop-place-test.true in omega arith in
    let few : length asked.paths ≤ 16 = let most = c.requires.few in omega arith in
    let text = text_at c.args.paths.now c.loop-place.place c.index-paths-place.result c.as_str.result.now
    c.loop-place-test.true c.index-paths-place.is c.as_str.ensures.value in
    let call : PathCall = record { xid = (c.args.xid + c.loop-place.place) % 2 ^ 32; path = c.as_str.result.now } in
    let here = next_call c.args.xid asked.paths c.loop-place.place call.xid call.path call some refl text in
    let before = asking_of (P.seen c.args.peer.now) (O.seen c.args.out.now) in
    let between = asking_of (P.seen c.loop-place.peer) (O.seen c.loop-place.out) in
    let after = asking_of (P.seen c.print_path.new.peer) (O.seen c.print_path.new.out) in
    let both : c.if-answered.answered ≡ (c.loop-place.answered && c.in_ok-is_answered.is_answered) =
    elim c.if-answered.branch [
      | then-answered w ↦ both_true _ _ _ w.if-answered.true w.answered-is
      | else-answered w ↦ both_false _ _ _ w.if-answered.false w.answered-is
    ] in
    record {
      prints = λ told.
          subst (λ (b : Bool). PrintsFirst asked c.args.xid (asking_tells P.tells O.tells) before after
          (c.loop-place.place + 1) b) (sym both)
          (prints-more asked c.args.xid (asking_tells P.tells O.tells) before between after c.loop-place.place call
          c.loop-place.answered c.in_ok-is_answered.is_answered few some here
          (c.loop-place.invariant.prints told) (c.in_ok-is_answered.ensures.done told)
          c.print_path.ensures.leaves.started);
      steady = c.in_ok-is_answered.ensures.steady ∙ c.loop-place.invariant.steady;
      later = let one = c.loop-place.invariant.later in let two = c.print_path.ensures.later in
          record { peer = omega (arith, one.peer, two.peer); out = omega (arith, one.out, two.out) };
    }
