-- Connections that are served one after another.
use Rattle.std.proofs.Common.{◌≡◌, ℕ, ◌+◌, ◌*◌, ◌≤◌, false, IfSome, List, [], ◌∷◌, ◌++◌, map, Option, None, Some}
use Rattle.std.proofs.Common.{Result, Ok, Err, refl, sym, ap, subst, ◌∙◌, append_assoc, length-append, arith}
use Rattle.std.specs.Option.{is_some, option_to_list}
use Rattle.std.proofs.Math.Nat.{mul-le-mul_left}
use Rattle.std.proofs.lemmas.Bool.{false≢true}
use Rattle.std.proofs.lemmas.List.{append-nil, map-append}
use Rattle.std.proofs.lemmas.List.Elements.{All-append, All-cons, All-nil}
use Rattle.network.specs.Connections.{AcceptsNext, Arrival, ChangesCurrent, ClosesCurrent, Connection, ConnsSeen}
use Rattle.network.specs.Connections.{KeepsListening}
use Rattle.opened_file.specs.declared.quota_file.FileFault.{FileFault}
use Rattle.rquota_serve.specs.ExportedValues.{ExportedValues}
use Rattle.rquota_serve.specs.Looking.{ExportsAt, LooksUpIn}
use Rattle.rpc_record.specs.Serving.{IsAnswered, IsAnsweredInPart, IsBegun, IsServed, ServesConns, StopsServing}
use Rattle.rpc_record.specs.Serving.{TakesFew, arrival_of}

-- connections were served, and then more of them
pub serves-then : (serves : ExportedValues → Type 0) (one two : ℕ) (old mid new : ConnsSeen)
    → ServesConns serves one old mid → ServesConns serves two mid new → ServesConns serves (one + two) old new
serves-then serves one two old mid new first second = record {
  served = first.served ++ second.served;
  number = omega (arith, length-append first.served second.served, first.number, second.number);
  taken = All-append TakesFew first.served second.served first.taken second.taken;
  arrived =
      first.arrived ∙ ap (λ (l : List Arrival). map arrival_of first.served ++ l) second.arrived
      ∙ sym (append_assoc (map arrival_of first.served) (map arrival_of second.served) new.left)
      ∙ ap (λ (l : List Arrival). l ++ new.left) (sym (map-append arrival_of first.served second.served));
  closed = second.closed ∙ ap (λ (l : List Connection). l ++ second.served) first.closed
      ∙ append_assoc old.closed first.served second.served;
  answered = λ exported is. All-append (IsAnswered exported) first.served second.served (first.answered exported is)
      (second.answered exported is);
}

-- connections were served, and then serving stopped
pub stops-then : (serves : ExportedValues → Type 0) (one two most : ℕ) (old mid new : ConnsSeen) → one + two ≤ most
    → ServesConns serves one old mid → StopsServing serves two mid new → StopsServing serves most old new
stops-then serves one two most old mid new within first second = record {
  served = first.served ++ second.served;
  few = omega (arith, length-append first.served second.served, first.number, second.few, within);
  taken = All-append TakesFew first.served second.served first.taken second.taken;
  at_hand = second.at_hand;
  arrived =
      first.arrived ∙ ap (λ (l : List Arrival). map arrival_of first.served ++ l) second.arrived
      ∙ sym (append_assoc (map arrival_of first.served) (map arrival_of second.served)
      (map arrival_of (option_to_list new.current) ++ new.left))
      ∙ ap (λ (l : List Arrival). l ++ (map arrival_of (option_to_list new.current) ++ new.left))
      (sym (map-append arrival_of first.served second.served));
  closed = second.closed ∙ ap (λ (l : List Connection). l ++ second.served) first.closed
      ∙ append_assoc old.closed first.served second.served;
  answered = λ exported is. All-append (IsAnswered exported) first.served second.served (first.answered exported is)
      (second.answered exported is);
  begun = second.begun;
}

-- what is served behind a look-up is served before it
pub serves-before : (before after : ExportedValues → Type 0) (count : ℕ) (old new : ConnsSeen)
    → ((exported : ExportedValues) → before exported → after exported) → ServesConns after count old new
    → ServesConns before count old new
serves-before before after count old new stays served = record {
  served = served.served;
  number = served.number;
  taken = served.taken;
  arrived = served.arrived;
  closed = served.closed;
  answered = λ exported is. served.answered exported (stays exported is);
}

pub stops-before : (before after : ExportedValues → Type 0) (count : ℕ) (old new : ConnsSeen)
    → ((exported : ExportedValues) → before exported → after exported) → StopsServing after count old new
    → StopsServing before count old new
stops-before before after count old new stays stopped = record {
  served = stopped.served;
  few = stopped.few;
  taken = stopped.taken;
  at_hand = stopped.at_hand;
  arrived = stopped.arrived;
  closed = stopped.closed;
  answered = λ exported is. stopped.answered exported (stays exported is);
  begun = λ exported is. stopped.begun exported (stays exported is);
}

-- One connection.

-- where none is open there is none
pub none_open : (current : Option Connection) → is_some current ≡ false → current ≡ None
none_open None is = refl
none_open (Some connection) is = absurd (false≢true (sym is))

-- it was not accepted
pub unaccepted : (serves : ExportedValues → Type 0) (old new : ConnsSeen) → new.left ≡ old.left
    → new.closed ≡ old.closed → is_some new.current ≡ false → StopsServing serves 1 old new
unaccepted serves old new left closed shut =
    let none = none_open new.current shut in
    record {
      served = [];
      few = omega arith;
      taken = All-nil TakesFew;
      at_hand = subst (λ (c : Option Connection). IfSome c TakesFew) (sym none) tt;
      arrived = sym left ∙ ap (λ (c : Option Connection). map arrival_of (option_to_list c) ++ new.left) (sym none);
      closed = closed ∙ sym (append-nil old.closed);
      answered = λ exported is. All-nil (IsAnswered exported);
      begun = λ exported is. subst (λ (c : Option Connection). IfSome c (IsAnsweredInPart exported)) (sym none) tt;
    }

-- it was accepted, served and closed
pub served-one : (serves : ExportedValues → Type 0) (moment : ℕ) (old begun done new : ConnsSeen)
    → (accepts : AcceptsNext moment old begun) → begun.closed ≡ old.closed
    → IsServed serves accepts.arrival done.current → ChangesCurrent begun done → ClosesCurrent done new
    → new.left ≡ done.left → ServesConns serves 1 old new
served-one serves moment old begun done new accepts closed served changes closes left = record {
  served = served.connection ∷ [];
  number = refl;
  taken = All-cons TakesFew served.connection [] served.few (All-nil TakesFew);
  arrived = accepts.next ∙ ap (λ (l : List Arrival). accepts.arrival ∷ l) (sym (left ∙ changes.left))
      ∙ ap (λ (a : Arrival). a ∷ new.left) (sym served.came);
  closed = closes.closed ∙ ap (λ (c : Option Connection). done.closed ++ option_to_list c) served.is
      ∙ ap (λ (l : List Connection). l ++ served.connection ∷ []) (changes.closed ∙ closed);
  answered = λ exported is.
      All-cons (IsAnswered exported) served.connection [] (served.answered exported is) (All-nil (IsAnswered exported));
}

-- it was accepted, and served in part
pub begun-one : (serves : ExportedValues → Type 0) (moment : ℕ) (old begun new : ConnsSeen)
    → (accepts : AcceptsNext moment old begun) → begun.closed ≡ old.closed
    → IsBegun serves accepts.arrival new.current → ChangesCurrent begun new → StopsServing serves 1 old new
begun-one serves moment old begun new accepts closed part changes = record {
  served = [];
  few = omega arith;
  taken = All-nil TakesFew;
  at_hand = subst (λ (c : Option Connection). IfSome c TakesFew) (sym part.is) part.few;
  arrived =
      accepts.next ∙ ap (λ (l : List Arrival). accepts.arrival ∷ l) (sym changes.left)
      ∙ ap (λ (a : Arrival). a ∷ new.left) (sym part.came)
      ∙ ap (λ (c : Option Connection). map arrival_of (option_to_list c) ++ new.left) (sym part.is);
  closed = changes.closed ∙ closed ∙ sym (append-nil old.closed);
  answered = λ exported is. All-nil (IsAnswered exported);
  begun = λ exported is.
      subst (λ (c : Option Connection). IfSome c (IsAnsweredInPart exported)) (sym part.is) (part.answered exported is);
}

-- Frames.

pub keeps_listening-then : (old mid new : ConnsSeen) → KeepsListening old mid → KeepsListening mid new
    → KeepsListening old new
keeps_listening-then old mid new first second = record {
  listened = second.listened ∙ first.listened;
  listener_later = omega (arith, first.listener_later, second.listener_later);
  connection_later = omega (arith, first.connection_later, second.connection_later);
}

pub changes-none : (conns : ConnsSeen) → ChangesCurrent conns conns
changes-none conns = record { left = refl; closed = refl; listened = refl; listener_faults = refl; later = omega arith }

pub changes-then : (old mid new : ConnsSeen) → ChangesCurrent old mid → ChangesCurrent mid new → ChangesCurrent old new
changes-then old mid new first second = record {
  left = second.left ∙ first.left;
  closed = second.closed ∙ first.closed;
  listened = second.listened ∙ first.listened;
  listener_faults = second.listener_faults ∙ first.listener_faults;
  later = omega (arith, first.later, second.later);
}

-- Look-ups.

-- no more calls were made than a greater number
pub looks-within : {T E : Type 0} (fault_of : E → Option FileFault) (old new : ExportsAt) (few most : ℕ)
    (result : Result T E) → few ≤ most
    → LooksUpIn fault_of old new few result → LooksUpIn fault_of old new most result
looks-within fault_of old new few most result within looks = record {
  refused = looks.refused;
  may = looks.may;
  stays = looks.stays;
  leaves = looks.leaves;
  synced = looks.synced;
  same = looks.same;
  counted = looks.counted;
  reads = omega (arith, looks.reads, within);
}

-- the same of another value
pub looks-ok : {T U E : Type 0} (fault_of : E → Option FileFault) (old new : ExportsAt) (most : ℕ) (told : T)
    (other : U) → LooksUpIn {T = T} {E = E} fault_of old new most (Ok told)
    → LooksUpIn {T = U} {E = E} fault_of old new most (Ok other)
looks-ok fault_of old new most told other looks = record {
  refused = tt;
  may = tt;
  stays = looks.stays;
  leaves = looks.leaves;
  synced = looks.synced;
  same = looks.same;
  counted = tt;
  reads = looks.reads;
}

-- the same of a fault, where another value might have been
pub looks-err : {T U E : Type 0} (fault_of : E → Option FileFault) (old new : ExportsAt) (most : ℕ) (fault : E)
    → LooksUpIn {T = T} {E = E} fault_of old new most (Err fault)
    → LooksUpIn {T = U} {E = E} fault_of old new most (Err fault)
looks-err fault_of old new most fault looks = record {
  refused = looks.refused;
  may = looks.may;
  stays = looks.stays;
  leaves = looks.leaves;
  synced = looks.synced;
  same = tt;
  counted = looks.counted;
  reads = looks.reads;
}

-- as many calls of `read` as so many bytes may take, and as more of them may
pub reads-both : (each one two most : ℕ) → one + two ≤ most → each * one + each * two ≤ each * most
reads-both each one two most within = omega (arith, mul-le-mul_left each within)
