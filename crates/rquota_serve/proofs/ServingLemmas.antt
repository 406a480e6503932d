-- Datagrams that are served in a row.
use Rattle.std.proofs.Common.{◌≡◌, ℕ, ◌+◌, ◌<◌, ◌≤◌, List, [], ◌∷◌, ◌++◌, map, Option, None, Some, refl, sym, ap, ◌∙◌}
use Rattle.std.proofs.Common.{append_assoc, length-append, arith}
use Rattle.std.proofs.lemmas.List.{append-nil, map-append}
use Rattle.std.proofs.lemmas.List.Elements.{filter_map-append}
use Rattle.std.specs.List.{cons_option, filter_map}
use Rattle.std.specs.Option.{option_to_list}
use Rattle.outside.specs.Seen.{Datagram, LinkSeen}
use Rattle.rquota_xdr.specs.Reply.{spelling_of}
use Rattle.rquota_xdr.specs.declared.reply.Reply.{Reply}
use Rattle.rquota_serve.specs.ExportedValues.{ExportedValues}
use Rattle.rquota_serve.specs.Serving.{HasReply, Stopped, answers_of, datagram_reply}
use Rattle.rquota_serve.specs.Served.{ReadsForTaken, Served}

-- no datagrams have no answers
answers-none : (exported : ExportedValues) → answers_of exported [] ≡ []
unfolding answers_of
answers-none exported = refl

answers-append : (exported : ExportedValues) (one more : List Datagram)
    → answers_of exported (one ++ more) ≡ answers_of exported one ++ answers_of exported more
unfolding answers_of
answers-append exported one more =
    ap (map spelling_of) (filter_map-append (datagram_reply exported) one more)
    ∙ map-append spelling_of (filter_map (datagram_reply exported) one) (filter_map (datagram_reply exported) more)

-- one datagram has the answer that its reply is spelled as
pub answers-one : (exported : ExportedValues) (datagram : Datagram) (reply : Option Reply)
    → reply ≡ datagram_reply exported datagram
    → map spelling_of (option_to_list reply) ≡ answers_of exported (datagram ∷ [])
unfolding answers_of
answers-one exported datagram reply is = ap (map spelling_of) (listed (datagram_reply exported datagram) reply is)
  where
    listed : (found reply : Option Reply) → reply ≡ found → option_to_list reply ≡ cons_option found []
    listed None reply is = ap option_to_list is
    listed (Some found) reply is = ap option_to_list is

-- nothing was served
pub served-none : (serves : ExportedValues → Type 0) (link : LinkSeen) → Served serves 0 link link
served-none serves link = record {
  taken = [];
  left = refl;
  number = refl;
  answers = λ exported is.
      sym (ap (λ (l : List (List ℕ)). link.answers ++ l) (answers-none exported) ∙ append-nil link.answers);
}

-- what is served of later exports is served of those before
pub served-before : (before after : ExportedValues → Type 0) (calls : ℕ) (old new : LinkSeen)
    → ((exported : ExportedValues) → before exported → after exported) → Served after calls old new
    → Served before calls old new
served-before before after calls old new stays served = record {
  taken = served.taken;
  left = served.left;
  number = served.number;
  answers = λ exported is. served.answers exported (stays exported is);
}

pub stopped-before : (before after : ExportedValues → Type 0) (calls : ℕ) (old new : LinkSeen)
    → ((exported : ExportedValues) → before exported → after exported) → Stopped after calls old new
    → Stopped before calls old new
stopped-before before after calls old new stays stopped = record {
  done = stopped.done;
  at_hand = stopped.at_hand;
  left = stopped.left;
  few = stopped.few;
  answers = λ exported is. stopped.answers exported (stays exported is);
  unsent = stopped.unsent;
}

-- answers behind answers are those of the datagrams behind datagrams
joined : (exported : ExportedValues) (first second : List Datagram) (old between new : List (List ℕ))
    → between ≡ old ++ answers_of exported first → new ≡ between ++ answers_of exported second
    → new ≡ old ++ answers_of exported (first ++ second)
joined exported first second old between new one two =
    two
    ∙ ap (λ (l : List (List ℕ)). l ++ answers_of exported second) one
    ∙ append_assoc old (answers_of exported first) (answers_of exported second)
    ∙ ap (λ (l : List (List ℕ)). old ++ l) (sym (answers-append exported first second))

pub served-then : (serves : ExportedValues → Type 0) (calls : ℕ) (old between new : LinkSeen)
    → Served serves calls old between → Served serves 1 between new → Served serves (calls + 1) old new
served-then serves calls old between new first second = record {
  taken = first.taken ++ second.taken;
  left = first.left ∙ ap (λ (l : List Datagram). first.taken ++ l) second.left
      ∙ sym (append_assoc first.taken second.taken new.left);
  number = omega (arith, length-append first.taken second.taken, first.number, second.number);
  answers = λ exported is.
      joined exported first.taken second.taken old.answers between.answers new.answers (first.answers exported is)
      (second.answers exported is);
}

pub stopped-then : (serves : ExportedValues → Type 0) (calls most : ℕ) (old between new : LinkSeen) → calls < most
    → Served serves calls old between → Stopped serves 1 between new → Stopped serves most old new
stopped-then serves calls most old between new fewer first second = record {
  done = first.taken ++ second.done;
  at_hand = second.at_hand;
  left =
      first.left ∙ ap (λ (l : List Datagram). first.taken ++ l) second.left
      ∙ sym (append_assoc first.taken second.done (option_to_list second.at_hand ++ new.left));
  few = omega (arith, length-append first.taken second.done, first.number, second.few, fewer);
  answers = λ exported is.
      joined exported first.taken second.done old.answers between.answers new.answers (first.answers exported is)
      (second.answers exported is);
  unsent = second.unsent;
}

-- no datagram was taken
pub stopped-none : (serves : ExportedValues → Type 0) (old new : LinkSeen) → new.left ≡ old.left
    → new.answers ≡ old.answers → Stopped serves 1 old new
stopped-none serves old new left answers = record {
  done = [];
  at_hand = None;
  left = sym left;
  few = omega arith;
  answers = λ exported is.
      answers ∙ sym (ap (λ (l : List (List ℕ)). old.answers ++ l) (answers-none exported) ∙ append-nil old.answers);
  unsent = tt;
}

-- one datagram was taken, and its reply was not sent
pub stopped-one : (serves : ExportedValues → Type 0) (datagram : Datagram) (old new : LinkSeen)
    → old.left ≡ datagram ∷ new.left → new.answers ≡ old.answers → HasReply datagram → Stopped serves 1 old new
stopped-one serves datagram old new left answers unsent = record {
  done = [];
  at_hand = Some datagram;
  left = left;
  few = omega arith;
  answers = λ exported is.
      answers ∙ sym (ap (λ (l : List (List ℕ)). old.answers ++ l) (answers-none exported) ∙ append-nil old.answers);
  unsent = unsent;
}

-- one datagram was taken, and its reply was sent
pub served-one : (serves : ExportedValues → Type 0) (datagram : Datagram) (reply : Option Reply) (old new : LinkSeen)
    → old.left ≡ datagram ∷ new.left
    → new.answers ≡ old.answers ++ map spelling_of (option_to_list reply)
    → ((exported : ExportedValues) → serves exported → reply ≡ datagram_reply exported datagram)
    → Served serves 1 old new
served-one serves datagram reply old new left sent is = record {
  taken = datagram ∷ [];
  left = left;
  number = refl;
  answers = λ exported serve.
      sent ∙ ap (λ (l : List (List ℕ)). old.answers ++ l) (answers-one exported datagram reply (is exported serve));
}

-- Reads for datagrams that are taken.

-- no datagram was taken, and nothing was read
pub reads-none : (most : ℕ) (link : LinkSeen) (reads : ℕ) → ReadsForTaken most link link reads reads
reads-none most link reads = record { taken = []; left = refl; few = omega arith }

-- no datagram was taken by a call that failed
pub reads-untaken : (most : ℕ) (old new : LinkSeen) (reads : ℕ) → new.left ≡ old.left
    → ReadsForTaken most old new reads reads
reads-untaken most old new reads left = record { taken = []; left = sym left; few = omega arith }

-- one datagram was taken
pub reads-one : (most : ℕ) (datagram : Datagram) (old new : LinkSeen) (before now : ℕ) → old.left ≡ datagram ∷ new.left
    → now ≤ before + most → ReadsForTaken most old new before now
reads-one most datagram old new before now left few =
    record { taken = datagram ∷ []; left = left; few = omega (arith, few) }

-- datagrams, and more of them
pub reads-then : (most : ℕ) (old between new : LinkSeen) (before mid now : ℕ)
    → ReadsForTaken most old between before mid → ReadsForTaken most between new mid now
    → ReadsForTaken most old new before now
reads-then most old between new before mid now first second = record {
  taken = first.taken ++ second.taken;
  left = first.left ∙ ap (λ (l : List Datagram). first.taken ++ l) second.left
      ∙ sym (append_assoc first.taken second.taken new.left);
  few = rw (length-append first.taken second.taken) (omega (arith, first.few, second.few));
}
