-- Events that are received, attempts that are made, and exchanges.
use Rattle.std.proofs.Common.{◌≡◌, ℕ, ◌+◌, ◌<◌, List, [], ◌∷◌, ◌++◌, None, Some, refl, sym, ap, subst, ◌∙◌, inl}
use Rattle.std.proofs.Common.{append_assoc, length-append, arith}
use Rattle.std.specs.Prelude.{replicate}
use Rattle.std.proofs.lemmas.List.{append-nil, replicate_more}
use Rattle.std.proofs.lemmas.List.Concat.{flat_map-append}
use Rattle.std.proofs.lemmas.List.Elements.{All-push}
use Rattle.network.specs.Events.{Event, PeerSeen}
use Rattle.rquota_xdr.specs.declared.reply.Reply.{Reply}
use Rattle.quota_client.specs.declared.exchange.Received.TheVariants.{Quiet, Other, Answer}
use Rattle.quota_client.specs.Exchange.{Begins, Exchanges, IsAttempt, IsOther, Takes, events_joined}
use Rattle.quota_client.specs.Receiving.{Attempts, HasNoAnswer, PassesOver, Receives, StopsBehind}

behind : (others : List Event) (event : Event) (first middle last : List Event) → first ≡ others ++ middle
    → middle ≡ event ∷ last → first ≡ (others ++ event ∷ []) ++ last
behind others event first middle last one two =
    one ∙ ap (λ (l : List Event). others ++ l) two ∙ sym (append_assoc others (event ∷ []) last)

-- one more was passed over
pub passes-more : (xid count : ℕ) (old between new : PeerSeen) → PassesOver xid count old between
    → Receives xid between new Other → new.sent ≡ between.sent → PassesOver xid (count + 1) old new
passes-more xid count old between new so_far one sent = record {
  others = so_far.others ++ one.event ∷ [];
  each = All-push (IsOther xid) so_far.others one.event so_far.each one.is;
  number = omega (arith, length-append so_far.others (one.event ∷ []), so_far.number);
  left = behind so_far.others one.event old.left between.left new.left so_far.left one.left;
  sent = sent ∙ so_far.sent;
}

-- an attempt ends with a quiet
pub attempts-quiet : (xid count : ℕ) (old between new : PeerSeen) → count < 64 → PassesOver xid count old between
    → Receives xid between new Quiet → new.sent ≡ between.sent → Attempts xid old new None
attempts-quiet xid count old between new few so_far one sent = record {
  taken = so_far.others ++ one.event ∷ [];
  attempt = record {
    others = so_far.others;
    each = so_far.each;
    ends = inl (record { few = omega (arith, few, so_far.number); last = one.event; is = one.is; all = refl });
  };
  left = behind so_far.others one.event old.left between.left new.left so_far.left one.left;
  sent = sent ∙ so_far.sent;
}

-- an attempt ends with a reply
pub attempts-answer : (xid count : ℕ) (old between new : PeerSeen) (reply : Reply) → count < 64
    → PassesOver xid count old between → Receives xid between new (Answer reply) → new.sent ≡ between.sent
    → Attempts xid old new (Some reply)
attempts-answer xid count old between new reply few so_far one sent = record {
  taken = so_far.others ++ one.event ∷ [];
  attempt = record {
    others = so_far.others;
    each = so_far.each;
    ends = record { few = omega (arith, few, so_far.number); last = one.event; is = one.is; all = refl };
  };
  left = behind so_far.others one.event old.left between.left new.left so_far.left one.left;
  sent = sent ∙ so_far.sent;
}

-- ---- a call, and what an attempt takes behind it

events_joined-push : (attempts : List (List Event)) (last : List Event)
    → events_joined (attempts ++ last ∷ []) ≡ events_joined attempts ++ last
events_joined-push attempts last =
    flat_map-append (λ (attempt : List Event). attempt) attempts (last ∷ [])
    ∙ ap (λ (l : List Event). events_joined attempts ++ l) (append-nil last)

replicate-push : (count : ℕ) (call : List ℕ) → replicate (count + 1) call ≡ replicate count call ++ call ∷ []
replicate-push count call = sym (replicate_more count call)

left_behind : (taken more first middle last : List Event) → first ≡ taken ++ middle → middle ≡ more ++ last
    → first ≡ (taken ++ more) ++ last
left_behind taken more first middle last one two =
    one ∙ ap (λ (l : List Event). taken ++ l) two ∙ sym (append_assoc taken more last)

-- one more call was sent, and then more was taken
takes-more : (call : List ℕ) (taken more : List Event) (calls : ℕ) (old between asked new : PeerSeen)
    → Takes call taken calls old between → asked.left ≡ between.left → asked.sent ≡ between.sent ++ call ∷ []
    → asked.left ≡ more ++ new.left → new.sent ≡ asked.sent → Takes call (taken ++ more) (calls + 1) old new
takes-more call taken more calls old between asked new so_far kept sent left same = record {
  left = left_behind taken more old.left between.left new.left so_far.left (sym kept ∙ left);
  sent =
      same ∙ sent ∙ ap (λ (l : List (List ℕ)). l ++ call ∷ []) so_far.sent
      ∙ append_assoc old.sent (replicate calls call) (call ∷ [])
      ∙ ap (λ (l : List (List ℕ)). old.sent ++ l) (sym (replicate-push calls call));
}

-- one more attempt had no answer
pub unanswered-more : (xid count : ℕ) (call : List ℕ) (old between asked new : PeerSeen)
    → HasNoAnswer xid count call old between → asked.left ≡ between.left → asked.sent ≡ between.sent ++ call ∷ []
    → Attempts xid asked new None → HasNoAnswer xid (count + 1) call old new
unanswered-more xid count call old between asked new so_far kept sent one = record {
  attempts = so_far.attempts ++ one.taken ∷ [];
  each =
      All-push (λ (attempt : List Event). IsAttempt xid attempt None) so_far.attempts one.taken so_far.each one.attempt;
  number = omega (arith, length-append so_far.attempts (one.taken ∷ []), so_far.number);
  takes =
      subst (λ (taken : List Event). Takes call taken (count + 1) old new)
      (sym (events_joined-push so_far.attempts one.taken))
      (takes-more call (events_joined so_far.attempts) one.taken count old between asked new so_far.takes kept sent
      one.left one.sent);
}

-- the exchange ends with an answer
pub exchanges-answer : (xid count : ℕ) (call : List ℕ) (old between asked new : PeerSeen) (reply : Reply) → count < 3
    → HasNoAnswer xid count call old between → asked.left ≡ between.left
    → asked.sent ≡ between.sent ++ call ∷ [] → Attempts xid asked new (Some reply)
    → Exchanges xid call old new (Some reply)
exchanges-answer xid count call old between asked new reply few so_far kept sent one = record {
  taken = events_joined so_far.attempts ++ one.taken;
  calls = count + 1;
  takes = takes-more call (events_joined so_far.attempts) one.taken count old between asked new so_far.takes kept sent
      one.left one.sent;
  exchange = record {
    unanswered = so_far.attempts;
    each = so_far.each;
    ends = record {
      few = omega (arith, few, so_far.number);
      last = one.taken;
      attempt = one.attempt;
      all = refl;
      calls_sent = omega (arith, so_far.number);
    };
  };
}

-- nothing more was received
pub begins-stopped : (xid count : ℕ) (call : List ℕ) (old between asked new : PeerSeen) → count < 3
    → HasNoAnswer xid count call old between → asked.left ≡ between.left → asked.sent ≡ between.sent ++ call ∷ []
    → StopsBehind xid asked new → Begins xid call old new
begins-stopped xid count call old between asked new few so_far kept sent one = record {
  taken = events_joined so_far.attempts ++ one.passes.others;
  calls = count + 1;
  takes = takes-more call (events_joined so_far.attempts) one.passes.others count old between asked new so_far.takes
      kept sent one.passes.left one.passes.sent;
  begun = record {
    unanswered = so_far.attempts;
    each = so_far.each;
    few = omega (arith, few, so_far.number);
    others = one.passes.others;
    other = one.passes.each;
    few_others = omega (arith, one.few, one.passes.number);
    all = refl;
    calls_sent = inl (omega (arith, so_far.number));
  };
}
