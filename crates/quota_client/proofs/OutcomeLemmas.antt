-- An exchange has one outcome, and one that was begun is not over.
use Rattle.std.proofs.Common.{◌≡◌, ℕ, zero, suc, ◌+◌, ◌<◌, List, [], ◌∷◌, ◌++◌, length, Option, None, Some, refl, sym}
use Rattle.std.proofs.Common.{ap, subst, ◌∙◌, inl, inr, append_assoc, arith}
use Rattle.std.specs.Prelude.{◌⊎◌}
use Rattle.std.specs.List.{All}
use Rattle.std.proofs.lemmas.List.{append_cancel_left}
use Rattle.std.proofs.lemmas.List.Elements.{All-head, All-tail}
use Rattle.network.specs.Events.{Event}
use Rattle.rquota_xdr.specs.declared.reply.Reply.{Reply}
use Rattle.rquota_xdr.proofs.ReplyLemmas.{one_meaning}
use Rattle.quota_client.specs.Exchange.{Answers, AreUnanswered, EndsBy, IsAttempt, IsBegun, IsExchange, IsOther}
use Rattle.quota_client.specs.Exchange.{events_joined}

-- ---- an attempt, event by event

-- an event ends an attempt
Closes : ℕ → Event → Option Reply → Type 0
Closes xid event None = event ≡ None
Closes xid event (Some reply) = Answers xid event reply

-- at most so many other events, and then one that ends the attempt
abbrev Walk : ℕ → ℕ → List Event → Option Reply → Type 0
Walk xid zero taken reply = (taken ≡ []) × (reply ≡ None)
Walk xid (suc count) [] reply = ⊥
Walk xid (suc count) (event ∷ rest) reply =
    (IsOther xid event × Walk xid count rest reply) ⊎ ((rest ≡ []) × Closes xid event reply)

-- no other event ends an attempt
other_goes_on : (xid : ℕ) (event : Event) (reply : Option Reply) → IsOther xid event → Closes xid event reply → ⊥
unfolding Closes
other_goes_on xid None reply other closes = other
other_goes_on xid (Some datagram) None other closes = absurd cc
other_goes_on xid (Some datagram) (Some reply) other closes = other reply closes

-- an event ends an attempt in one way
one_close : (xid : ℕ) (event : Event) (one two : Option Reply) → Closes xid event one → Closes xid event two → one ≡ two
unfolding Closes
one_close xid event None None first second = refl
one_close xid None None (Some reply) first second = absurd second
one_close xid (Some datagram) None (Some reply) first second = absurd cc
one_close xid None (Some reply) None first second = absurd first
one_close xid (Some datagram) (Some reply) None first second = absurd cc
one_close xid None (Some one) (Some two) first second = absurd first
one_close xid (Some datagram) (Some one) (Some two) first second =
    ap found (one_meaning one two first.fits second.fits (sym first.spelled ∙ second.spelled))
  where
    found : Reply → Option Reply
    found reply = Some reply

walk-last : (xid count : ℕ) (others : List Event) (last : Event) (reply : Option Reply) → All (IsOther xid) others
    → length others < count → Closes xid last reply → Walk xid count (others ++ last ∷ []) reply
walk-last xid zero others last reply each few closes = absurd (omega (arith, few))
walk-last xid (suc count) [] last reply each few closes = inr (refl, closes)
walk-last xid (suc count) (event ∷ others) last reply each few closes =
    inl (
      All-head (IsOther xid) event others each,
      walk-last xid count others last reply (All-tail (IsOther xid) event others each) (omega (arith, few)) closes,
    )

walk-all : (xid count : ℕ) (others : List Event) → All (IsOther xid) others → length others ≡ count
    → Walk xid count others None
walk-all xid zero [] each all = (refl, refl)
walk-all xid zero (event ∷ others) each all = absurd (omega (arith, all))
walk-all xid (suc count) [] each all = absurd (omega (arith, all))
walk-all xid (suc count) (event ∷ others) each all =
    inl (
      All-head (IsOther xid) event others each,
      walk-all xid count others (All-tail (IsOther xid) event others each) (omega (arith, all)),
    )

walk-by : (xid : ℕ) (others taken : List Event) (reply : Option Reply) (holds : Event → Type 0)
    → All (IsOther xid) others → ((event : Event) → holds event → Closes xid event reply) → EndsBy holds others taken
    → Walk xid 64 taken reply
walk-by xid others taken reply holds each closes ends =
    subst (λ (l : List Event). Walk xid 64 l reply) (sym ends.all)
    (walk-last xid 64 others ends.last reply each ends.few (closes ends.last ends.is))

walk_of : (xid : ℕ) (taken : List Event) (reply : Option Reply) → IsAttempt xid taken reply → Walk xid 64 taken reply
unfolding Closes
walk_of xid taken (Some reply) attempt =
    walk-by xid attempt.others taken (Some reply) (λ event. Answers xid event reply) attempt.each
    (λ event is. is) attempt.ends
walk_of xid taken None attempt =
    elim attempt.ends [
      | inl quiet ↦ walk-by xid attempt.others taken None (λ event. event ≡ None) attempt.each (λ event is. is) quiet
      | inr all ↦
          subst (λ (l : List Event). Walk xid 64 l None) (sym all.1) (walk-all xid 64 attempt.others attempt.each all.0)
    ]

-- of two attempts on the same events both take the same, and have the same reply
one_walk : (xid count : ℕ) (one two behind_one behind_two : List Event) (reply other : Option Reply)
    → Walk xid count one reply → Walk xid count two other → one ++ behind_one ≡ two ++ behind_two
    → (one ≡ two) × (reply ≡ other)
one_walk xid zero one two behind_one behind_two reply other first second same =
    (first.0 ∙ sym second.0, first.1 ∙ sym second.1)
one_walk xid (suc count) [] two behind_one behind_two reply other first second same = absurd first
one_walk xid (suc count) (event ∷ one) [] behind_one behind_two reply other first second same = absurd second
one_walk xid (suc count) (event ∷ one) (event' ∷ two) behind_one behind_two reply other (inl first) (inl second) same =
    let rest : one ++ behind_one ≡ two ++ behind_two = cc in
    let events : event ≡ event' = cc in
    let more = one_walk xid count one two behind_one behind_two reply other first.1 second.1 rest in
    (rw (events, more.0) refl, more.1)
one_walk xid (suc count) (event ∷ one) (event' ∷ two) behind_one behind_two reply other (inl first) (inr second) same =
    let events : event ≡ event' = cc in
    absurd (other_goes_on xid event' other (subst (IsOther xid) events first.0) second.1)
one_walk xid (suc count) (event ∷ one) (event' ∷ two) behind_one behind_two reply other (inr first) (inl second) same =
    let events : event ≡ event' = cc in
    absurd (other_goes_on xid event reply (subst (IsOther xid) (sym events) second.0) first.1)
one_walk xid (suc count) (event ∷ one) (event' ∷ two) behind_one behind_two reply other (inr first) (inr second) same =
    let events : event ≡ event' = cc in (
      rw (events, first.0, second.0) refl,
      one_close xid event reply other first.1 (subst (λ (e : Event). Closes xid e other) (sym events) second.1),
    )

-- other datagrams alone are not all that an attempt takes
walk_on : (xid count : ℕ) (others taken behind : List Event) (reply : Option Reply) → All (IsOther xid) others
    → length others < count → Walk xid count taken reply → others ≡ taken ++ behind → ⊥
walk_on xid zero others taken behind reply each few walk same = omega (arith, few)
walk_on xid (suc count) others [] behind reply each few walk same = walk
walk_on xid (suc count) [] (event ∷ taken) behind reply each few walk same = cc
walk_on xid (suc count) (first ∷ others) (event ∷ taken) behind reply each few (inl walk) same =
    let rest : others ≡ taken ++ behind = cc in
    walk_on xid count others taken behind reply (All-tail (IsOther xid) first others each)
    (omega (arith, few)) walk.1 rest
walk_on xid (suc count) (first ∷ others) (event ∷ taken) behind reply each few (inr walk) same =
    let events : first ≡ event = cc in
    other_goes_on xid event reply (subst (IsOther xid) events (All-head (IsOther xid) first others each)) walk.1

-- ---- an exchange, attempt by attempt

-- an attempt without an answer, and more of the exchange behind it
record GoesOn (xid : ℕ) (rest_is : List Event → ℕ → Type 0) (taken : List Event) (calls : ℕ) : Type 0 where
  first : List Event
  rest : List Event
  more : ℕ
  all : taken ≡ first ++ rest
  calls_sent : calls ≡ more + 1
  walk : Walk xid 64 first None
  others : rest_is rest more

-- an attempt with an answer
record IsAnswered (xid : ℕ) (taken : List Event) (calls : ℕ) (reply : Option Reply) : Type 0 where
  answer : Reply
  is : reply ≡ Some answer
  walk : Walk xid 64 taken (Some answer)
  once : calls ≡ 1

-- at most so many attempts, up to the first one with an answer
abbrev Chain : ℕ → ℕ → List Event → ℕ → Option Reply → Type 0
Chain xid zero taken calls reply = (taken ≡ []) × (calls ≡ 0) × (reply ≡ None)
Chain xid (suc count) taken calls reply =
    GoesOn xid (λ rest more. Chain xid count rest more reply) taken calls ⊎ IsAnswered xid taken calls reply

chain-answered : (xid count : ℕ) (unanswered : List (List Event)) (last : List Event) (reply : Reply)
    → AreUnanswered xid unanswered → length unanswered < count → IsAttempt xid last (Some reply)
    → Chain xid count (events_joined unanswered ++ last) (length unanswered + 1) (Some reply)
chain-answered xid zero unanswered last reply each few attempt = absurd (omega (arith, few))
chain-answered xid (suc count) [] last reply each few attempt =
    inr (record { answer = reply; is = refl; walk = walk_of xid last (Some reply) attempt; once = refl })
chain-answered xid (suc count) (first ∷ unanswered) last reply each few attempt =
    inl (record {
      first = first;
      rest = events_joined unanswered ++ last;
      more = length unanswered + 1;
      all = append_assoc first (events_joined unanswered) last;
      calls_sent = omega arith;
      walk = walk_of xid first None (All-head (λ (a : List Event). IsAttempt xid a None) first unanswered each);
      others = chain-answered xid count unanswered last reply
          (All-tail (λ (a : List Event). IsAttempt xid a None) first unanswered each) (omega (arith, few)) attempt;
    })

chain-unanswered : (xid count : ℕ) (unanswered : List (List Event)) → AreUnanswered xid unanswered
    → length unanswered ≡ count → Chain xid count (events_joined unanswered) count None
chain-unanswered xid zero [] each all = (refl, refl, refl)
chain-unanswered xid zero (first ∷ unanswered) each all = absurd (omega (arith, all))
chain-unanswered xid (suc count) [] each all = absurd (omega (arith, all))
chain-unanswered xid (suc count) (first ∷ unanswered) each all =
    inl (record {
      first = first;
      rest = events_joined unanswered;
      more = count;
      all = refl;
      calls_sent = omega arith;
      walk = walk_of xid first None (All-head (λ (a : List Event). IsAttempt xid a None) first unanswered each);
      others = chain-unanswered xid count unanswered
          (All-tail (λ (a : List Event). IsAttempt xid a None) first unanswered each) (omega (arith, all));
    })

chain_of : (xid : ℕ) (taken : List Event) (calls : ℕ) (reply : Option Reply) → IsExchange xid taken calls reply
    → Chain xid 3 taken calls reply
chain_of xid taken calls (Some reply) exchange =
    let ends = exchange.ends in
    rw (ends.all, ends.calls_sent)
    (chain-answered xid 3 exchange.unanswered ends.last reply exchange.each ends.few ends.attempt)
chain_of xid taken calls None exchange =
    let ends = exchange.ends in
    rw (ends.all, ends.calls_sent) (chain-unanswered xid 3 exchange.unanswered exchange.each ends.three)

-- what stands behind the same attempt is the same
behind_first : (first first' rest rest' behind behind' : List Event) → first ≡ first'
    → (first ++ rest) ++ behind ≡ (first' ++ rest') ++ behind' → rest ++ behind ≡ rest' ++ behind'
behind_first first first' rest rest' behind behind' is same =
    append_cancel_left first (rest ++ behind) (rest' ++ behind')
    (sym (append_assoc first rest behind) ∙ same ∙ append_assoc first' rest' behind'
    ∙ ap (λ (l : List Event). l ++ (rest' ++ behind')) (sym is))

one_chain : (xid count : ℕ) (one two behind_one behind_two : List Event) (calls calls' : ℕ) (reply other : Option Reply)
    → Chain xid count one calls reply → Chain xid count two calls' other
    → one ++ behind_one ≡ two ++ behind_two → (one ≡ two) × (calls ≡ calls') × (reply ≡ other)
one_chain xid zero one two behind_one behind_two calls calls' reply other first second same =
    (first.0 ∙ sym second.0, first.1 ∙ sym second.1, first.2 ∙ sym second.2)
one_chain xid (suc count) one two behind_one behind_two calls calls' reply other (inl first) (inl second) same =
    let whole : (first.first ++ first.rest) ++ behind_one ≡ (second.first ++ second.rest) ++ behind_two =
    rw (first.all, second.all) at same in
    let walks = one_walk xid 64 first.first second.first (first.rest ++ behind_one) (second.rest ++ behind_two) None
    None first.walk second.walk
    (sym (append_assoc first.first first.rest behind_one) ∙ whole ∙ append_assoc second.first second.rest behind_two) in
    let more = one_chain xid count first.rest second.rest behind_one behind_two first.more second.more reply other
    first.others second.others
    (behind_first first.first second.first first.rest second.rest behind_one behind_two walks.0 whole) in (
      first.all ∙ rw (walks.0, more.0) (sym second.all),
      first.calls_sent ∙ ap (λ (n : ℕ). n + 1) more.1 ∙ sym second.calls_sent,
      more.2,
    )
one_chain xid (suc count) one two behind_one behind_two calls calls' reply other (inl first) (inr second) same =
    let whole : (first.first ++ first.rest) ++ behind_one ≡ two ++ behind_two = rw first.all at same in
    let walks = one_walk xid 64 first.first two (first.rest ++ behind_one) behind_two None (Some second.answer)
    first.walk second.walk (sym (append_assoc first.first first.rest behind_one) ∙ whole) in
    let none : None ≡ Some second.answer = walks.1 in
    absurd cc
one_chain xid (suc count) one two behind_one behind_two calls calls' reply other (inr first) (inl second) same =
    let whole : one ++ behind_one ≡ (second.first ++ second.rest) ++ behind_two = rw second.all at same in
    let walks = one_walk xid 64 one second.first behind_one (second.rest ++ behind_two) (Some first.answer) None
    first.walk second.walk (whole ∙ append_assoc second.first second.rest behind_two) in
    let none : Some first.answer ≡ None = walks.1 in
    absurd cc
one_chain xid (suc count) one two behind_one behind_two calls calls' reply other (inr first) (inr second) same =
    let walks = one_walk xid 64 one two behind_one behind_two (Some first.answer) (Some second.answer) first.walk
    second.walk same in
    (walks.0, first.once ∙ sym second.once, first.is ∙ walks.1 ∙ sym second.is)

-- two exchanges on the same events take the same, send as many calls, and have the same reply
pub one_outcome : (xid : ℕ) (one two behind_one behind_two : List Event) (calls calls' : ℕ) (reply other : Option Reply)
    → IsExchange xid one calls reply → IsExchange xid two calls' other
    → one ++ behind_one ≡ two ++ behind_two → (one ≡ two) × (calls ≡ calls') × (reply ≡ other)
one_outcome xid one two behind_one behind_two calls calls' reply other first second same =
    one_chain xid 3 one two behind_one behind_two calls calls' reply other (chain_of xid one calls reply first)
    (chain_of xid two calls' other second) same

begun_on : (xid count : ℕ) (unanswered : List (List Event)) (others two behind : List Event) (calls : ℕ)
    (reply : Option Reply) → AreUnanswered xid unanswered → length unanswered < count → All (IsOther xid) others
    → length others < 64 → Chain xid count two calls reply → events_joined unanswered ++ others ≡ two ++ behind → ⊥
begun_on xid zero unanswered others two behind calls reply each few other few_others chain same = omega (arith, few)
begun_on xid (suc count) [] others two behind calls reply each few other few_others (inl chain) same =
    let whole : others ≡ (chain.first ++ chain.rest) ++ behind = rw chain.all at same in
    walk_on xid 64 others chain.first (chain.rest ++ behind) None other few_others chain.walk
    (whole ∙ append_assoc chain.first chain.rest behind)
begun_on xid (suc count) [] others two behind calls reply each few other few_others (inr chain) same =
    walk_on xid 64 others two behind (Some chain.answer) other few_others chain.walk same
begun_on xid (suc count) (first ∷ unanswered) others two behind calls reply each few other few_others (inl chain) same =
    let whole : (first ++ events_joined unanswered) ++ others ≡ (chain.first ++ chain.rest) ++ behind =
    rw chain.all at same in
    let walk = walk_of xid first None (All-head (λ (a : List Event). IsAttempt xid a None) first unanswered each) in
    let walks = one_walk xid 64 first chain.first (events_joined unanswered ++ others) (chain.rest ++ behind) None
    None walk chain.walk
    (sym (append_assoc first (events_joined unanswered) others) ∙ whole ∙ append_assoc chain.first chain.rest behind) in
    begun_on xid count unanswered others chain.rest behind chain.more reply
    (All-tail (λ (a : List Event). IsAttempt xid a None) first unanswered each) (omega (arith, few)) other
    few_others chain.others
    (behind_first first chain.first (events_joined unanswered) chain.rest others behind walks.0 whole)
begun_on xid (suc count) (first ∷ unanswered) others two behind calls reply each few other few_others (inr chain) same =
    let walk = walk_of xid first None (All-head (λ (a : List Event). IsAttempt xid a None) first unanswered each) in
    let whole : first ++ (events_joined unanswered ++ others) ≡ two ++ behind =
    sym (append_assoc first (events_joined unanswered) others) ∙ same in
    let walks = one_walk xid 64 first two (events_joined unanswered ++ others) behind None (Some chain.answer) walk
    chain.walk whole in
    let none : None ≡ Some chain.answer = walks.1 in
    cc

-- what was taken of an exchange that was begun is not all that one takes
pub begun_is_unfinished : (xid : ℕ) (one two behind : List Event) (calls calls' : ℕ) (reply : Option Reply)
    → IsBegun xid one calls → IsExchange xid two calls' reply → one ≡ two ++ behind → ⊥
begun_is_unfinished xid one two behind calls calls' reply begun exchange same =
    begun_on xid 3 begun.unanswered begun.others two behind calls' reply begun.each begun.few begun.other
    begun.few_others (chain_of xid two calls' reply exchange) (sym begun.all ∙ same)
