-- What steps take from the standard input and from the link.
use Rattle.std.proofs.Common.{◌≡◌, ◌⊎◌, inl, inr, ℕ, suc, ◌+◌, Bool, IsTrue, List, [], ◌∷◌, ◌++◌, length}
use Rattle.std.proofs.Common.{length-append, Option, None, Some, sym, ap, subst, ◌∙◌, append_assoc}
use Rattle.std.proofs.lemmas.Option.{none-some}
use Rattle.outside.specs.Seen.{Datagram}
use Rattle.refusals.specs.declared.reason.Refusal.{Refusal}
use Rattle.run_steps.specs.Act.{Act}
use Rattle.run_steps.specs.Done.{Outside}
use Rattle.run_steps.specs.Meaning.{EndsBy}
use Rattle.run_steps.specs.OneCommand.{ReadsToEnd}
use Rattle.run_steps.specs.Received.{AreReceived, Receives}
use Rattle.run_steps.specs.Steps.{Steps, Ending, Doing, Looking, Opening, Reading, Starting, Receiving, Before, InLine}
use Rattle.run_steps.proofs.MeaningLemmas.{none_in_line}

-- The standard input.

-- where nothing is left of it, nothing is left later on
none_left : (steps : Steps) (old : Outside) (acts : List Act) (new : Outside) (refusal : Option Refusal)
    → EndsBy steps old acts new refusal → old.input ≡ [] → new.input ≡ []
none_left (Ending stated) old acts new refusal is none = ap (λ (o : Outside). o.input) is.same ∙ none
none_left (Doing act next) old acts new refusal by none =
    none_left next (record old { files = by.1 }) by.0 new refusal by.4 none
none_left (Looking next) old acts new refusal by none = none_left (next old.files) old acts new refusal by none
none_left (Opening kind asked name next) old acts new refusal (inl seen) none =
    none_left (next seen.0) old acts new refusal seen.2 none
none_left (Opening kind asked name next) old acts new refusal (inr bad) none =
    ap (λ (o : Outside). o.input) bad.2.same ∙ none
none_left (Reading whole next) old acts new refusal by none =
    none_left (next old.input) (record old { input = by.0 }) acts new refusal by.2
    (nothing_behind by.1.taken by.0 (sym by.1.behind ∙ none))
  where
    nothing_behind : (taken left : List ℕ) → taken ++ left ≡ [] → left ≡ []
    nothing_behind [] left is = is
    nothing_behind (b ∷ taken) left is = absurd (cc)
none_left (Starting port next) old acts new refusal by none = none_left next old by.0 new refusal by.2 none
none_left (Receiving next) old acts new refusal by none =
    none_left (next by.0) (record old { datagrams = by.1 }) acts new refusal by.3 none
none_left (Before one others) old acts new refusal (inl stopped) none =
    none_left one old acts new (Some stopped.0) stopped.2 none
none_left (Before one others) old acts new refusal (inr passed) none =
    none_left others passed.1 passed.2 new refusal passed.5 (none_left one old passed.0 passed.1 None passed.4 none)
none_left (InLine line steps) old acts new refusal by none = none_left steps old acts new by.0 by.2 none

taken_to_end : (whole : Bool) (next : Steps) (old : Outside) (acts : List Act) (left : List ℕ) (new : Outside)
    → (IsTrue whole → left ≡ []) → EndsBy next (record old { input = left }) acts new None
    → (ReadsToEnd next → new.input ≡ []) → IsTrue whole ⊎ ReadsToEnd next → new.input ≡ []
taken_to_end whole next old acts left new all by later (inl is) =
    none_left next (record old { input = left }) acts new None by (all is)
taken_to_end whole next old acts left new all by later (inr reads) = later reads

-- steps that read the input to its end leave nothing of it where they pass
pub to_end : (steps : Steps) (old : Outside) (acts : List Act) (new : Outside) → ReadsToEnd steps
    → EndsBy steps old acts new None → new.input ≡ []
to_end (Ending None) old acts new reads is = absurd reads
to_end (Ending (Some refusal)) old acts new reads is = absurd (none-some refusal is.ends)
to_end (Doing act next) old acts new reads by = to_end next (record old { files = by.1 }) by.0 new reads by.4
to_end (Looking next) old acts new reads by = to_end (next old.files) old acts new (reads old.files) by
to_end (Opening kind asked name next) old acts new reads (inl seen) =
    to_end (next seen.0) old acts new (reads seen.0) seen.2
to_end (Opening kind asked name next) old acts new reads (inr bad) = absurd (none-some _ bad.2.ends)
to_end (Reading whole next) old acts new reads by =
    taken_to_end (whole old.input) (next old.input) old acts by.0 new by.1.all by.2
    (λ later. to_end (next old.input) (record old { input = by.0 }) acts new later by.2) (reads old.input)
to_end (Starting port next) old acts new reads by = to_end next old by.0 new reads by.2
to_end (Receiving next) old acts new reads by =
    to_end (next by.0) (record old { datagrams = by.1 }) acts new (reads by.0) by.3
to_end (Before one others) old acts new reads (inl stopped) = absurd (none-some stopped.0 stopped.1)
to_end (Before one others) old acts new (inl reads) (inr passed) =
    none_left others passed.1 passed.2 new None passed.5 (to_end one old passed.0 passed.1 reads passed.4)
to_end (Before one others) old acts new (inr reads) (inr passed) = to_end others passed.1 passed.2 new reads passed.5
to_end (InLine line steps) old acts new reads by =
    to_end steps old acts new reads
    (subst (λ (r : Option Refusal). EndsBy steps old acts new r) (none_in_line line by.0 by.1) by.2)

-- Datagrams.

none_received : (old new : Outside) (count : ℕ) → new ≡ old → count ≡ 0 → AreReceived count old.datagrams new.datagrams
none_received old new count same none =
    record { taken = []; behind = ap (λ (o : Outside). o.datagrams) (sym same); counted = sym none }

-- steps that pass have received as many datagrams as they say
pub received : (count : ℕ) (steps : Steps) (old : Outside) (acts : List Act) (new : Outside) → Receives count steps
    → EndsBy steps old acts new None → AreReceived count old.datagrams new.datagrams
received count (Ending None) old acts new receives is = none_received old new count is.same receives
received count (Ending (Some refusal)) old acts new receives is = absurd (none-some refusal is.ends)
received count (Doing act next) old acts new receives by =
    received count next (record old { files = by.1 }) by.0 new receives by.4
received count (Looking next) old acts new receives by =
    received count (next old.files) old acts new (receives old.files) by
received count (Opening kind asked name next) old acts new receives (inl seen) =
    received count (next seen.0) old acts new (receives seen.0) seen.2
received count (Opening kind asked name next) old acts new receives (inr bad) = absurd (none-some _ bad.2.ends)
received count (Reading whole next) old acts new receives by =
    received count (next old.input) (record old { input = by.0 }) acts new (receives old.input) by.2
received count (Starting port next) old acts new receives by = received count next old by.0 new receives by.2
received count (Receiving next) old acts new receives by =
    let more = received receives.0 (next by.0) (record old { datagrams = by.1 }) acts new (receives.2 by.0) by.3 in
    record {
      taken = by.0 ∷ more.taken;
      behind = by.2 ∙ ap (λ (d : List Datagram). by.0 ∷ d) more.behind;
      counted = ap suc more.counted ∙ sym receives.1;
    }
received count (Before one others) old acts new receives (inl stopped) = absurd (none-some stopped.0 stopped.1)
received count (Before one others) old acts new receives (inr passed) =
    let first = received receives.0 one old passed.0 passed.1 receives.3 passed.4 in
    let more = received receives.1 others passed.1 passed.2 new receives.4 passed.5 in
    record {
      taken = first.taken ++ more.taken;
      behind = first.behind ∙ ap (λ (d : List Datagram). first.taken ++ d) more.behind
          ∙ sym (append_assoc first.taken more.taken new.datagrams);
      counted = length-append first.taken more.taken ∙ ap (λ (n : ℕ). n + length more.taken) first.counted
          ∙ ap (λ (n : ℕ). receives.0 + n) more.counted ∙ sym receives.2;
    }
received count (InLine line steps) old acts new receives by =
    received count steps old acts new receives
    (subst (λ (r : Option Refusal). EndsBy steps old acts new r) (none_in_line line by.0 by.1) by.2)
