-- Paths that are asked for, one after another.
use Rattle.std.proofs.Common.{◌≡◌, ℕ, suc, ◌+◌, ◌%◌, ◌^◌, ◌<◌, ◌≤◌, Bool, true, false, IsTrue, List, [], ◌∷◌, ◌++◌}
use Rattle.std.proofs.Common.{length, map, take, drop, get_or, Option, refl, sym, ap, subst, inr, ◌∙◌, append_assoc}
use Rattle.std.proofs.Common.{length-append, add-one, drop-cons, arith}
use Rattle.std.specs.Prelude.{String, replicate, ◌&&◌}
use Rattle.std.specs.List.{AllPass, flat_map, list_all}
use Rattle.std.proofs.lemmas.List.{append-nil, length-map, map-append, take-append-drop, take_at, take_more}
use Rattle.std.proofs.lemmas.List.Concat.{flat_map-append}
use Rattle.std.proofs.lemmas.List.Elements.{All-nil, All-push}
use Rattle.std.proofs.lemmas.List.Folds.{list_all-append}
use Rattle.std.specs.String.{string_bytes}
use Rattle.std.specs.declared.alloc.Global.{Global}
use Rattle.outside.specs.Seen.{SinkSeen}
use Rattle.outside.specs.Text.{AppendsPrefix}
use Rattle.outside.proofs.CountLemmas.{Rose-since}
use Rattle.option_words.specs.Items.{texts_of}
use Rattle.network.specs.Events.{Event, PeerSeen, peer_started_at}
use Rattle.rquota_xdr.specs.declared.reply.Reply.{Reply}
use Rattle.quota_client.specs.declared.client.Client.{Client}
use Rattle.quota_client.specs.declared.fault.ClientFault.{ClientFault}
use Rattle.quota_client.specs.declared.fault.ClientFault.TheVariants.{Asking, Printing}
use Rattle.quota_client.specs.Exchange.{Begins, Exchanges}
use Rattle.quota_client.specs.Line.{is_answered, lines_of}
use Rattle.quota_client.specs.Paths.{AreAsked, IsExchanged, PathAsked, PathCall, call_bytes, events_taken, path_calls}
use Rattle.quota_client.specs.Paths.{printed_of, sent_for}
use Rattle.quota_client.specs.Run.{AskingSeen, AskingTells, AsksPaths, StopsAsking, StopsPrinting}
use Rattle.quota_client.specs.Steps.{AreLater, AsksPath, PrintsFirst, PrintsPath, PrintsPathInPart, StopsAtPath}
use Rattle.quota_client.specs.Steps.{StopsAtPaths}
use Rattle.quota_client.specs.Words.{Asked, is_path}
use Rattle.quota_client.proofs.OwnLemmas.{length-path_calls, own_replies, path_calls-at}

-- the bytes in front of a buffer that were written
pub written_bytes : (call out old : List ℕ) (len : ℕ) → len ≡ length call → out ≡ call ++ drop len old
    → take len out ≡ call
written_bytes call out old len is written =
    ap (λ (b : List ℕ). take len b) written ∙ take_at call (drop len old) len (sym is)

-- ---- one path

pub prints_path : (client : Client) (call : PathCall) (bytes : List ℕ) (tells : AskingTells) (old new : AskingSeen)
    (reply : Option Reply) (answered : Bool) → bytes ≡ call_bytes client call
    → Exchanges call.xid bytes old.peer new.peer reply
    → (IsTrue tells.out → new.out.written ≡ old.out.written ++ lines_of client.mode call.path reply)
    → answered ≡ is_answered reply
    → PrintsPath client call tells old new answered
prints_path client call bytes tells old new reply answered is exchanges printed by = record {
  one = record { call = call; taken = exchanges.taken; calls = exchanges.calls; reply = reply };
  asks = record {
    is = refl;
    exchanged = exchanges.exchange;
    left = exchanges.takes.left;
    sent = exchanges.takes.sent ∙ ap (λ (b : List ℕ). old.peer.sent ++ replicate exchanges.calls b) is;
  };
  out = printed;
  is_answered = by;
}

pub prints_part : (client : Client) (call : PathCall) (bytes : List ℕ) (tells : AskingTells) (old new : AskingSeen)
    (reply : Option Reply) → bytes ≡ call_bytes client call
    → Exchanges call.xid bytes old.peer new.peer reply
    → (IsTrue tells.out → AppendsPrefix old.out.written new.out.written (lines_of client.mode call.path reply))
    → PrintsPathInPart client call tells old new
prints_part client call bytes tells old new reply is exchanges printed = record {
  one = record { call = call; taken = exchanges.taken; calls = exchanges.calls; reply = reply };
  asks = record {
    is = refl;
    exchanged = exchanges.exchange;
    left = exchanges.takes.left;
    sent = exchanges.takes.sent ∙ ap (λ (b : List ℕ). old.peer.sent ++ replicate exchanges.calls b) is;
  };
  out = printed;
}

-- ---- one path more

-- the calls behind those of the first paths
calls_split : (calls : List PathCall) (done : List PathAsked) (call : PathCall) → length done < length calls
    → get_or calls (length done) call ≡ call
    → map (λ (one : PathAsked). one.call) done ≡ take (length done) calls
    → calls ≡ map (λ (one : PathAsked). one.call) done ++ call ∷ drop (length done + 1) calls
calls_split calls done call more is in_order =
    let next : drop (length done) calls ≡ call ∷ drop (length done + 1) calls =
    rw (add-one, drop-cons calls (length done) call) (ap (λ (c : PathCall). c ∷ drop (suc (length done)) calls) is) in
    sym (take-append-drop (length done) calls)
    ∙ ap (λ (l : List PathCall). l ++ drop (length done) calls) (sym in_order)
    ∙ ap (λ (l : List PathCall). map (λ (one : PathAsked). one.call) done ++ l) next

in_order-more : (calls : List PathCall) (done : List PathAsked) (one : PathAsked) → length done < length calls
    → get_or calls (length done) one.call ≡ one.call
    → map (λ (one : PathAsked). one.call) done ≡ take (length done) calls
    → map (λ (one : PathAsked). one.call) (done ++ one ∷ []) ≡ take (length (done ++ one ∷ [])) calls
in_order-more calls done one more is in_order =
    map-append (λ (o : PathAsked). o.call) done (one ∷ [])
    ∙ ap (λ (l : List PathCall). l ++ one.call ∷ []) in_order
    ∙ ap (λ (c : PathCall). take (length done) calls ++ c ∷ []) (sym is)
    ∙ sym (take_more calls (length done) one.call more)
    ∙ ap (λ (n : ℕ). take n calls) (sym (length-append done (one ∷ [])))

flat_map-push : {X A : Type 0} (f : X → List A) (xs : List X) (x : X) → flat_map f (xs ++ x ∷ []) ≡ flat_map f xs ++ f x
flat_map-push f xs x = flat_map-append f xs (x ∷ []) ∙ ap (λ l. flat_map f xs ++ l) (append-nil (f x))

are_asked-none : (client : Client) (calls : List PathCall) (old new : PeerSeen) → new.left ≡ old.left
    → new.sent ≡ old.sent → AreAsked client calls [] old new
are_asked-none client calls old new left sent = record {
  in_order = refl;
  each = All-nil IsExchanged;
  left = sym left;
  sent = sent ∙ sym (append-nil old.sent);
}

are_asked-more : (client : Client) (calls : List PathCall) (done : List PathAsked) (one : PathAsked)
    (old between new : PeerSeen) → length done < length calls
    → get_or calls (length done) one.call ≡ one.call → AreAsked client calls done old between
    → AsksPath client one.call one between new → AreAsked client calls (done ++ one ∷ []) old new
are_asked-more client calls done one old between new more is so_far asks = record {
  in_order = in_order-more calls done one more is so_far.in_order;
  each = All-push IsExchanged done one so_far.each asks.exchanged;
  left =
      so_far.left ∙ ap (λ (l : List Event). events_taken done ++ l) asks.left
      ∙ sym (append_assoc (events_taken done) one.taken new.left)
      ∙ ap (λ (l : List Event). l ++ new.left) (sym (flat_map-push (λ (o : PathAsked). o.taken) done one));
  sent = asks.sent ∙ ap (λ (l : List (List ℕ)). l ++ replicate one.calls (call_bytes client one.call)) so_far.sent
      ∙ append_assoc old.sent (sent_for client done) (replicate one.calls (call_bytes client one.call))
      ∙ ap (λ (l : List (List ℕ)). old.sent ++ l)
      (sym (flat_map-push (λ (o : PathAsked). replicate o.calls (call_bytes client o.call)) done one));
}

-- ---- the run so far

-- the path at hand
pub next_call : (first : ℕ) (paths : List (List ℕ)) (place xid : ℕ) (path : List ℕ) (d : PathCall)
    → place < length paths → xid ≡ (first + place) % 2 ^ 32 → path ≡ get_or paths place []
    → get_or (path_calls first paths) place d ≡ record { xid = xid; path = path }
next_call first paths place xid path d some is_xid is_path =
    path_calls-at first paths place d some ∙ sym (rw (is_xid, is_path) refl)

-- the peer was started
pub prints-none : (asked : Asked) (first : ℕ) (tells : AskingTells) (old new : AskingSeen)
    → new.peer.started ≡ peer_started_at old.peer asked.client.port → new.peer.left ≡ old.peer.left
    → new.peer.sent ≡ old.peer.sent
    → new.out ≡ old.out → PrintsFirst asked first tells old new 0 true
prints-none asked first tells old new started left sent out = record {
  done = [];
  number = refl;
  asks = record {
    started = started;
    are_asked = are_asked-none asked.client (path_calls first asked.paths) old.peer new.peer left sent;
    own = λ server keeps from. All-nil _;
  };
  out = λ told. ap (λ (s : SinkSeen). s.written) out ∙ sym (append-nil old.out.written);
  is_answered = refl;
}

-- one path more was asked for
asks-more : (asked : Asked) (first : ℕ) (done : List PathAsked) (one : PathAsked) (call : PathCall)
    (old between new : PeerSeen) → length asked.paths ≤ 16 → length done < length asked.paths
    → get_or (path_calls first asked.paths) (length done) call ≡ call → AsksPaths asked first done old between
    → AsksPath asked.client call one between new → new.started ≡ between.started
    → AsksPaths asked first (done ++ one ∷ []) old new
asks-more asked first done one call old between new few some is so_far asks kept =
    let calls = path_calls first asked.paths in
    let count = length-path_calls first asked.paths in
    let here : get_or calls (length done) one.call ≡ one.call =
    subst (λ (c : PathCall). get_or calls (length done) c ≡ c) (sym asks.is) is in
    let own : AsksPath asked.client one.call one between new =
    subst (λ (c : PathCall). AsksPath asked.client c one between new) (sym asks.is) asks in
    let more = are_asked-more asked.client calls done one old between new (omega arith) here so_far.are_asked own in
    record {
      started = kept ∙ so_far.started;
      are_asked = more;
      own = own_replies asked.client first asked.paths (done ++ one ∷ []) few more.in_order more.each;
    }

and_true : (test : Bool) → test ≡ (test && true)
and_true true = refl
and_true false = refl

-- one path more was asked for and printed
pub prints-more : (asked : Asked) (first : ℕ) (tells : AskingTells) (old between new : AskingSeen) (count : ℕ)
    (call : PathCall) (answered one_answered : Bool) → length asked.paths ≤ 16
    → count < length asked.paths → get_or (path_calls first asked.paths) count call ≡ call
    → PrintsFirst asked first tells old between count answered
    → PrintsPath asked.client call tells between new one_answered → new.peer.started ≡ between.peer.started
    → PrintsFirst asked first tells old new (count + 1) (answered && one_answered)
prints-more asked first tells old between new count call answered one_answered few some is so_far prints kept =
    let one = prints.one in
    let place : length so_far.done ≡ count = so_far.number in
    let here = subst (λ (n : ℕ). get_or (path_calls first asked.paths) n call ≡ call) (sym place) is in
    let mode = asked.client.mode in
    let lines = lines_of mode one.call.path one.reply in
    let path : lines_of mode call.path one.reply ≡ lines =
    ap (λ (c : PathCall). lines_of mode c.path one.reply) (sym prints.asks.is) in
    record {
      done = so_far.done ++ one ∷ [];
      number = omega (arith, length-append so_far.done (one ∷ []), place);
      asks = asks-more asked first so_far.done one call old.peer between.peer new.peer few (omega arith) here
          so_far.asks prints.asks kept;
      out = λ told.
          prints.out told ∙ ap (λ (l : List ℕ). between.out.written ++ l) path
          ∙ ap (λ (w : List ℕ). w ++ lines) (so_far.out told)
          ∙ append_assoc old.out.written (printed_of mode so_far.done) lines
          ∙ ap (λ (l : List ℕ). old.out.written ++ l)
          (sym (flat_map-push (λ (o : PathAsked). lines_of mode o.call.path o.reply) so_far.done one));
      is_answered = rw (so_far.is_answered, prints.is_answered)
          (ap (λ (b : Bool). list_all (λ (o : PathAsked). is_answered o.reply) so_far.done && b)
          (and_true (is_answered one.reply))
          ∙ sym (list_all-append (λ (o : PathAsked). is_answered o.reply) so_far.done (one ∷ [])));
    }

-- the peer failed in the exchange of a path
pub stops-asking : (asked : Asked) (first : ℕ) (tells : AskingTells) (old between new : AskingSeen) (count : ℕ)
    (call : PathCall) (answered : Bool) → count < length asked.paths
    → get_or (path_calls first asked.paths) count call ≡ call → PrintsFirst asked first tells old between count answered
    → Begins call.xid (call_bytes asked.client call) between.peer new.peer → new.out ≡ between.out
    → new.peer.started ≡ between.peer.started → StopsAsking asked first tells old new
stops-asking asked first tells old between new count call answered some is so_far begins out kept =
    let calls = path_calls first asked.paths in
    let size = length-path_calls first asked.paths in
    let place : length so_far.done ≡ count = so_far.number in
    let here = subst (λ (n : ℕ). get_or calls n call ≡ call) (sym place) is in
    record {
      done = so_far.done;
      between = between.peer;
      asks = so_far.asks;
      call = call;
      more = drop (length so_far.done + 1) calls;
      at_hand = calls_split calls so_far.done call (omega arith) here so_far.asks.are_asked.in_order;
      begins = begins;
      kept = kept;
      out = λ told. ap (λ (s : SinkSeen). s.written) out ∙ so_far.out told;
    }

-- the output failed behind the exchange of a path
pub stops-printing : (asked : Asked) (first : ℕ) (tells : AskingTells) (old between new : AskingSeen) (count : ℕ)
    (call : PathCall) (answered : Bool) → length asked.paths ≤ 16 → count < length asked.paths
    → get_or (path_calls first asked.paths) count call ≡ call → PrintsFirst asked first tells old between count answered
    → PrintsPathInPart asked.client call tells between new
    → new.peer.started ≡ between.peer.started → StopsPrinting asked first tells old new
stops-printing asked first tells old between new count call answered few some is so_far prints kept =
    let one = prints.one in
    let place : length so_far.done ≡ count = so_far.number in
    let here = subst (λ (n : ℕ). get_or (path_calls first asked.paths) n call ≡ call) (sym place) is in
    let path = ap (λ (c : PathCall). lines_of asked.client.mode c.path one.reply) (sym prints.asks.is) in
    record {
      printed = so_far.done;
      last = one;
      asks = asks-more asked first so_far.done one call old.peer between.peer new.peer few (omega arith) here
          so_far.asks prints.asks kept;
      out = λ told.
          subst (λ (w : List ℕ). AppendsPrefix w new.out.written (lines_of asked.client.mode one.call.path one.reply))
          (so_far.out told)
          (subst (λ (l : List ℕ). AppendsPrefix between.out.written new.out.written l) path (prints.out told));
    }

-- why not all paths were asked for and printed, by what happened at one
pub stops_at : (asked : Asked) (first : ℕ) (tells : AskingTells) (old between new : AskingSeen) (count : ℕ)
    (call : PathCall) (answered : Bool) (fault : ClientFault) → length asked.paths ≤ 16
    → count < length asked.paths → get_or (path_calls first asked.paths) count call ≡ call → AreLater old between
    → between.peer.faults ≡ old.peer.faults
    → (IsTrue tells.peer → PrintsFirst asked first tells old between count answered)
    → new.peer.started ≡ between.peer.started → StopsAtPath asked.client call tells between new fault
    → StopsAtPaths asked first tells old new fault
stops_at asked first tells old between new count call answered Asking few some is later steady so_far kept stops =
    record {
      failed = Rose-since old.peer.faults between.peer.faults new.peer.faults later.peer stops.failed;
      stops = λ told. inr
          (stops-asking asked first tells old between new count call answered some is (so_far told) (stops.begins told)
          stops.out kept);
    }
stops_at asked first tells old between new count call answered Printing few some is later steady so_far kept stops =
    record {
      failed = Rose-since old.out.faults between.out.faults new.out.faults later.out stops.failed;
      steady = stops.steady ∙ steady;
      stops = λ told. stops-printing asked first tells old between new count call answered few some is (so_far told)
          (stops.prints told) kept;
    }

-- both tests of a step
pub both_true : (before one both : Bool) → before ≡ true → both ≡ one → both ≡ (before && one)
both_true before one both is by = rw (is, by) refl

pub both_false : (before one both : Bool) → before ≡ false → both ≡ before → both ≡ (before && one)
both_false before one both is by = by ∙ rw is refl

-- a text among others is that of its place, and so a path where all are
pub path_here : (words : List (String Global)) (place : ℕ) (text : List ℕ) → place < length words
    → AllPass is_path (texts_of words) → text ≡ get_or (texts_of words) place [] → IsTrue (is_path text)
path_here words place text some all is =
    let size : length (texts_of words) ≡ length words = length-map words (λ (w : String Global). string_bytes w) in
    subst (λ (t : List ℕ). IsTrue (is_path t)) (sym is) (all place [] (omega (arith, size, some)))

pub length-texts : (words : List (String Global)) → length (texts_of words) ≡ length words
length-texts words = length-map words (λ (w : String Global). string_bytes w)
