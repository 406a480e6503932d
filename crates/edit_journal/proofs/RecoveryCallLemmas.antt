-- What a recovery leaves.
use Rattle.std.proofs.Common.{◌≡◌, ◌≢◌, ◌⊎◌, inl, inr, ⊎_elim, ℕ, Bool, true, List, [], length, drop, replicate, Option}
use Rattle.std.proofs.Common.{Some, None, Result, Ok, Err, OnOk, unwrap_or, refl, sym, ap, ◌∙◌, subst, arith}
use Rattle.std.proofs.lemmas.Bool.{false≢true}
use Rattle.std.proofs.lemmas.List.{get_or-replicate}
use Rattle.outside.specs.Unsynced.{UnsyncedNames}
use Rattle.outside.specs.World.{KeepsOtherTwo, KeepsOthers, World}
use Rattle.outside.proofs.FrameLemmas.{keeps_other_two-then, keeps_others-then}
use Rattle.disk.specs.DiskSeen.{DiskSeen, IsDurable, OnlyLeaves, Passes}
use Rattle.disk.specs.DiskCalls.{IsOutside, TearsRange, Torn}
use Rattle.disk.proofs.StepLemmas.{torn-same, torn-then}
use Rattle.disk.proofs.StopLemmas.{kept-on, only_leaves-passes, passes-then, passes-wider}
use Rattle.quota_types.specs.Bytes.{byte_at, number_at}
use Rattle.edit_journal.specs.Keeps.{InPlace}
use Rattle.edit_journal.specs.Recovery.{BeginsSo, ClosesGate, IsRead, StatesSaved, IsSame, MendsFile, RecoversInPlace}
use Rattle.edit_journal.specs.Recovery.{Restores, is_mended}
use Rattle.edit_journal.specs.Recovered.{RecoversAsBefore, RecoversSame, IsRecovered}
use Rattle.edit_journal.specs.Undo.{recovered, saved_ranges, ranges_fit}
use Rattle.edit_journal.specs.UndoSaves.{HoldsItsRanges}
use Rattle.edit_journal.proofs.InPlaceLemmas.{recovered-torn}
use Rattle.edit_journal.proofs.MendedFileLemmas.{recovered-mended, usable-parts}
use Rattle.edit_journal.proofs.ReadLemmas.{looks-kept}
use Rattle.edit_journal.proofs.RecoveryResultLemmas.{recovered-closed}

-- what holds whatever the result is, holds where it is Ok
pub on_ok : {T E P : Type 0} (result : Result T E) → P → OnOk result P
on_ok (Ok value) is = is
on_ok (Err fault) is = tt

-- what follows where it is Ok
pub on_ok-then : {T E P Q : Type 0} (result : Result T E) → OnOk result P → (P → Q) → OnOk result Q
on_ok-then (Ok value) is so = so is
on_ok-then (Err fault) is so = tt

-- the same of a call that was not done where its caller was not
pub in_place-undone : {T E F G : Type 0} {step : World → World → Type 0}
    {Names : UnsyncedNames → UnsyncedNames → Type 0} {undo : List ℕ} {a b : DiskSeen} {other : Result F G}
    (result : Result T E)
    → InPlace step Names undo a b other
    → OnOk result (drop 1 (unwrap_or (b.files undo) []) ≡ drop 1 (unwrap_or (a.files undo) []))
    → InPlace step Names undo a b result
in_place-undone result closed rest = record { passes = closed.passes; names = closed.names; rest = rest }

-- a wider step, where it is taken from each image
pub passes-within : (step wider : World → World → Type 0) (a b : DiskSeen)
    → ((before after : World) → a.images before → step before after → wider before after) → a.images a.files
    → Passes step a b → Passes wider a b
passes-within step wider a b sub is passes = record {
  follows = record {
    left = λ image left. let from = passes.follows.left image left in (from.0, from.1, sub from.0 image from.1 from.2);
    read = sub a.files b.files is passes.follows.read;
  };
  later = passes.later;
  known = λ moment image early was.
      ⊎_elim (λ before. inl before) (λ by. inr (by.0, by.1, sub by.0 image by.1 by.2))
      (passes.known moment image early was);
}

-- so does one whose gate is closed
pub recovered-unopened : (file undo : Option (List ℕ)) → byte_at (unwrap_or undo []) 0 ≢ 1 → recovered file undo ≡ file
recovered-unopened None undo closed = refl
recovered-unopened (Some file) undo closed = recovered-closed file undo closed

-- the head of an undo file that says how its file was
pub heads-mended : (file undo : Option (List ℕ)) (gate old_length count : ℕ) → is_mended file undo ≡ true
    → BeginsSo gate old_length count (unwrap_or undo []) → StatesSaved old_length count (unwrap_or undo [])
heads-mended None undo gate old_length count mended begins = absurd (false≢true mended)
heads-mended (Some file) None gate old_length count mended begins = absurd (false≢true mended)
heads-mended (Some file) (Some undo) gate old_length count mended begins = record {
  long = sym begins.long;
  many = sym begins.many;
  fit = ap (λ (n : ℕ). ranges_fit n (saved_ranges undo 0 count)) begins.long
      ∙ ap (λ (n : ℕ). ranges_fit (number_at 8 undo 8) (saved_ranges undo 0 n)) begins.many
      ∙ (usable-parts file undo mended).3;
}

restores-then : (name undo : List ℕ) (a b c : DiskSeen) → Passes (Restores name undo) a b
    → Passes (Restores name undo) b c → Passes (Restores name undo) a c
restores-then name undo a b c first second =
    passes-then (Restores name undo) a b c
    (λ x y z one two. (two.0 ∙ one.0, keeps_others-then name x y z one.1 two.1)) first second

-- nothing changed
pub restores-looks : (name undo : List ℕ) (a b : DiskSeen) → Passes IsSame a b → Passes (Restores name undo) a b
restores-looks name undo a b looks =
    passes-wider IsSame (Restores name undo) a b
    (λ x y same.
    (ap (λ (f : World). recovered (f name) (f undo)) same, λ other differ. ap (λ (f : World). f other) same)) looks

-- where a file and its undo file are kept, the file recovers to the same while it is mended
pub restores-mended : (name undo : List ℕ) (a b c : DiskSeen) → name ≢ undo → b.images b.files → IsDurable name b
    → IsDurable undo b → Passes IsSame a b → is_mended (b.files name) (b.files undo) ≡ true
    → Passes (MendsFile name (unwrap_or (b.files undo) [])) b c → Passes (Restores name undo) a c
restores-mended name undo a b c apart is kept saved looks mended passes =
    restores-then name undo a b c (restores-looks name undo a b looks)
    (passes-within (MendsFile name (unwrap_or (b.files undo) [])) (Restores name undo) b c
    (λ before after left step.
    let stays : after undo ≡ b.files undo = step.1 undo (λ same. apart (sym same)) ∙ saved before left in (
      ap (λ (u : Option (List ℕ)). recovered (after name) u) stays
          ∙ recovered-mended (before name) (after name) (b.files undo)
          (ap (λ (f : Option (List ℕ)). is_mended f (b.files undo)) (kept before left) ∙ mended) step.0
          ∙ sym (ap (λ (u : Option (List ℕ)). recovered (before name) u) (saved before left)),
      step.1,
    ))
    is passes)

-- the same where it was asked whether the undo file says how the file was
pub restores-checked : (name undo : List ℕ) (gate old_length count : ℕ) (can : Bool) (a b c : DiskSeen) → name ≢ undo
    → b.images b.files → IsDurable name a → IsDurable undo a → Passes IsSame a b
    → can ≡ is_mended (a.files name) (a.files undo) → can ≡ true
    → BeginsSo gate old_length count (unwrap_or (a.files undo) [])
    → (StatesSaved old_length count (unwrap_or (b.files undo) [])
    → Passes (MendsFile name (unwrap_or (b.files undo) [])) b c) → Passes (Restores name undo) a c
restores-checked name undo gate old_length count can a b c apart is kept saved looks asked can_mend begins mends =
    let same = looks.follows.read in
    let mended : is_mended (b.files name) (b.files undo) ≡ true =
    ap (λ (f : World). is_mended (f name) (f undo)) same ∙ sym asked ∙ can_mend in
    let begins_there : BeginsSo gate old_length count (unwrap_or (b.files undo) []) =
    subst (λ (f : World). BeginsSo gate old_length count (unwrap_or (f undo) [])) (sym same) begins in
    restores-mended name undo a b c apart is (looks-kept name a b kept looks) (looks-kept undo a b saved looks) looks
    mended (mends (heads-mended (b.files name) (b.files undo) gate old_length count mended begins_there))

-- the gate of a new undo file
closed-made : byte_at (replicate 1024 0) 0 ≢ 1
closed-made is = absurd (omega (arith, is, get_or-replicate {A = ℕ} 1024 0 0 0 (omega arith)))

module _ (name undo und : List ℕ) (apart : name ≢ undo) (unmade : name ≢ und) where
  -- a recovery, and then another one
  pub recovers-then : (a b c : DiskSeen) → Passes (RecoversSame name undo und) a b
      → Passes (RecoversSame name undo und) b c → Passes (RecoversSame name undo und) a c
  recovers-then a b c first second =
      passes-then (RecoversSame name undo und) a b c
      (λ x y z one two. (
        two.0 ∙ one.0,
        λ other one_differs two_differs three_differs.
            two.1 other one_differs two_differs three_differs ∙ one.1 other one_differs two_differs three_differs,
      )) first second

  -- a restoring recovers to the same
  pub recovers-restores : (a b : DiskSeen) → Passes (Restores name undo) a b → Passes (RecoversSame name undo und) a b
  recovers-restores a b passes =
      passes-wider (Restores name undo) (RecoversSame name undo und) a b
      (λ x y step. (step.0, λ other differ two_differs three_differs. step.1 other differ)) passes

  pub recovers-looks : (a b c : DiskSeen) → Passes IsSame a b → Passes (RecoversSame name undo und) b c
      → Passes (RecoversSame name undo und) a c
  recovers-looks a b c looks passes =
      recovers-then a b c (recovers-restores a b (restores-looks name undo a b looks)) passes

  in_place-then : (a b c : DiskSeen) → Passes (RecoversInPlace name undo) a b → Passes (RecoversInPlace name undo) b c
      → Passes (RecoversInPlace name undo) a c
  in_place-then a b c first second =
      passes-then (RecoversInPlace name undo) a b c
      (λ x y z one two. (
        two.0 ∙ one.0,
        torn-then (IsOutside 0 1) (x undo) (y undo) (z undo) one.1 two.1,
        keeps_other_two-then name undo x y z one.2 two.2,
      )) first second

  -- a restoring is one in place
  pub in_place-restores : (a b : DiskSeen) → Passes (Restores name undo) a b → Passes (RecoversInPlace name undo) a b
  in_place-restores a b passes =
      passes-wider (Restores name undo) (RecoversInPlace name undo) a b
      (λ x y step. (
        step.0,
        subst (λ (u : Option (List ℕ)). Torn (IsOutside 0 1) (x undo) u) (sym (step.1 undo (λ same. apart (sym same))))
            (torn-same (IsOutside 0 1) (x undo)),
        λ other differ two_differs. step.1 other differ,
      ))
      passes

  -- where nothing but the file itself changes
  pub in_place-restored : {T E : Type 0} (result : Result T E) (a b : DiskSeen) → Passes (Restores name undo) a b
      → KeepsOtherTwo name undo a.unsynced b.unsynced
      → InPlace (RecoversInPlace name undo) (KeepsOtherTwo name undo) undo a b result
  in_place-restored result a b restores names = record {
    passes = in_place-restores a b restores;
    names = names;
    rest = on_ok result
        (ap (λ (u : Option (List ℕ)). drop 1 (unwrap_or u []))
        (restores.follows.read.1 undo (λ same. apart (sym same))));
  }

  -- a file that recovers to itself does so beside a new undo file
  recovered-remade : (file old new : Option (List ℕ)) → recovered file old ≡ file
      → (new ≡ old) ⊎ (new ≡ Some (replicate 1024 0)) → recovered file new ≡ recovered file old
  recovered-remade file old new itself (inl same) = ap (λ (u : Option (List ℕ)). recovered file u) same
  recovered-remade file old new itself (inr made) =
      ap (λ (u : Option (List ℕ)). recovered file u) made
      ∙ recovered-unopened file (Some (replicate 1024 0)) closed-made ∙ sym itself

  -- so does one whose gate is being closed
  recovers-while_closing : (before after : World) → byte_at (unwrap_or (before undo) []) 0 ≡ 1
      → recovered (before name) (before undo) ≡ before name → ClosesGate und undo before after
      → RecoversSame name undo und before after
  recovers-while_closing before after opened itself (inl makes) = (
    ap (λ (f : Option (List ℕ)). recovered f (after undo)) (makes.0 name unmade apart)
        ∙ recovered-remade (before name) (before undo) (after undo) itself makes.1,
    λ other one_differs two_differs three_differs. makes.0 other three_differs two_differs,
  )
  recovers-while_closing before after opened itself (inr in_place) = (
    ap (λ (f : Option (List ℕ)). recovered f (after undo)) (in_place.1.1 name apart)
        ∙ recovered-torn (before name) (before undo) (after undo) opened in_place.0 in_place.1.0 itself
        ∙ sym itself,
    λ other one_differs two_differs three_differs. in_place.1.1 other two_differs,
  )

  -- a file is mended, and its undo file still names as many ranges, and has an open gate
  module _ (a b c : DiskSeen) (count : ℕ) (start : a.images a.files) (is : b.images b.files) (kept : IsDurable name b)
      (saved : IsDurable undo a) (done : b.files name ≡ recovered (a.files name) (a.files undo))
      (opened : byte_at (unwrap_or (a.files undo) []) 0 ≡ 1)
      (many : count ≡ number_at 4 (unwrap_or (a.files undo) []) 16) (restores : Passes (Restores name undo) a b) where
    -- the undo file stays while the file is restored
    undo_there : b.files undo ≡ a.files undo
    undo_there = restores.follows.read.1 undo (λ same. apart (sym same))

    undo_kept : IsDurable undo b
    undo_kept =
        kept-on undo (Restores name undo) a b (λ x y step. step.1 undo (λ same. apart (sym same))) saved
        restores.follows

    many_there : count ≡ number_at 4 (unwrap_or (b.files undo) []) 16
    many_there = many ∙ ap (λ (u : Option (List ℕ)). number_at 4 (unwrap_or u []) 16) (sym undo_there)

    open_still : (before : World) → b.images before → byte_at (unwrap_or (before undo) []) 0 ≡ 1
    open_still before left =
        ap (λ (u : Option (List ℕ)). byte_at (unwrap_or u []) 0) (undo_kept before left ∙ undo_there) ∙ opened

    -- the restored file recovers to itself
    recovers_itself : (before : World) → b.images before → recovered (before name) (before undo) ≡ before name
    recovers_itself before left =
        ap (λ (f : Option (List ℕ)). recovered f (before undo)) (kept before left)
        ∙ ap (λ (u : Option (List ℕ)). recovered (b.files name) u) (undo_kept before left)
        ∙ restores.follows.read.0 ∙ sym done ∙ sym (kept before left)

    -- then the gate is closed
    pub recovers-closed : (count ≡ number_at 4 (unwrap_or (b.files undo) []) 16 → IsDurable undo b
        → Passes (ClosesGate und undo) b c) → Passes (RecoversSame name undo und) a c
    recovers-closed closes =
        recovers-then a b c (recovers-restores a b restores)
        (passes-within (ClosesGate und undo) (RecoversSame name undo und) b c
        (λ before after left step. recovers-while_closing before after (open_still before left)
        (recovers_itself before left) step) is (closes many_there undo_kept))

    -- in place, where the undo file holds its ranges
    pub recovers-in_place : {T E : Type 0} (result : Result T E) → KeepsOthers name a.unsynced b.unsynced
        → HoldsItsRanges (unwrap_or (a.files undo) [])
        → (count ≡ number_at 4 (unwrap_or (b.files undo) []) 16 → HoldsItsRanges (unwrap_or (b.files undo) [])
        → InPlace (TearsRange undo 0 1) (KeepsOthers undo) undo b c result)
        → InPlace (RecoversInPlace name undo) (KeepsOtherTwo name undo) undo a c result
    recovers-in_place result names holds closes =
        let there : HoldsItsRanges (unwrap_or (b.files undo) []) =
        subst (λ (u : Option (List ℕ)). HoldsItsRanges (unwrap_or u [])) (sym undo_there) holds in
        let closed : InPlace (TearsRange undo 0 1) (KeepsOthers undo) undo b c result = closes many_there there in
        record {
          passes = in_place-then a b c (in_place-restores a b restores)
              (passes-within (TearsRange undo 0 1) (RecoversInPlace name undo) b c
              (λ before after left step.
              let holds_still : HoldsItsRanges (unwrap_or (before undo) []) = subst
              (λ (u : Option (List ℕ)). HoldsItsRanges (unwrap_or u [])) (sym (undo_kept before left)) there in
              let same = recovers-while_closing before after (open_still before left) (recovers_itself before left)
              (inr (holds_still, step)) in
              (same.0, step.0, λ other differs two_differs. step.1 other two_differs))
              is closed.passes);
          names = λ other differs two_differs. closed.names other two_differs ∙ names other differs;
          rest = on_ok-then result closed.rest
              (λ rest. rest ∙ ap (λ (u : Option (List ℕ)). drop 1 (unwrap_or u [])) undo_there);
        }

-- a file whose gate is closed is recovered where it and its undo file are kept
pub is_recovered-closed : (name undo : List ℕ) (file : Option (List ℕ)) (disk : DiskSeen) → IsDurable name disk
    → IsDurable undo disk → disk.files name ≡ file → byte_at (unwrap_or (disk.files undo) []) 0 ≢ 1
    → IsRecovered name undo file disk
is_recovered-closed name undo file disk kept saved is closed = record {
  whole = λ image left. kept image left ∙ is;
  closed = λ image left opened.
      closed (ap (λ (u : Option (List ℕ)). byte_at (unwrap_or u []) 0) (sym (saved image left)) ∙ opened);
  room =
      λ long image left. omega (arith, long, ap (λ (u : Option (List ℕ)). length (unwrap_or u [])) (saved image left));
}

-- each image recovers to what an image before recovers to
pub as_before : (name undo und : List ℕ) (a b : DiskSeen) → a.images a.files
    → ((image : World) → a.since a.moment image → a.images image) → Passes (RecoversSame name undo und) a b
    → OnlyLeaves (RecoversAsBefore name undo a) a b
as_before name undo und a b is now passes =
    only_leaves-passes (RecoversSame name undo und) (RecoversAsBefore name undo a) a b passes
    (λ image was. (image, now image was, refl))
    (λ before after left step. (before, left, step.0))
    passes.follows.read
    is

-- files that are kept are so once the head of the undo file was read
pub is_read : (name undo : List ℕ) (gate old_length count : ℕ) (a b : DiskSeen) → IsDurable name a → IsDurable undo a
    → Passes IsSame a b → BeginsSo gate old_length count (unwrap_or (a.files undo) [])
    → IsRead name undo gate old_length count b
is_read name undo gate old_length count a b kept saved looks begins = record {
  file = looks-kept name a b kept looks;
  saved = looks-kept undo a b saved looks;
  begins =
      subst (λ (f : World). BeginsSo gate old_length count (unwrap_or (f undo) [])) (sym looks.follows.read) begins;
}

-- a file whose gate was read, and is closed, is recovered
pub is_recovered-read : (name undo : List ℕ) (gate : ℕ) (a b c : DiskSeen) → Passes IsSame a b → Passes IsSame b c
    → IsDurable name b → IsDurable undo b → gate ≡ byte_at (unwrap_or (b.files undo) []) 0 → gate ≢ 1
    → IsRecovered name undo (recovered (a.files name) (a.files undo)) c
is_recovered-read name undo gate a b c first second kept saved read closed =
    let same : c.files ≡ a.files = second.follows.read ∙ first.follows.read in
    let shut : byte_at (unwrap_or (c.files undo) []) 0 ≢ 1 = λ opened.
    closed (read ∙ ap (λ (f : World). byte_at (unwrap_or (f undo) []) 0) (sym second.follows.read) ∙ opened) in
    is_recovered-closed name undo (recovered (a.files name) (a.files undo)) c (looks-kept name b c kept second)
    (looks-kept undo b c saved second)
    (sym (recovered-unopened (c.files name) (c.files undo) shut) ∙ ap (λ (f : World). recovered (f name) (f undo)) same)
    shut

-- a file that is recovered from the same files
pub is_recovered-same : (name undo : List ℕ) (a b c : DiskSeen) → Passes IsSame a b
    → IsRecovered name undo (recovered (b.files name) (b.files undo)) c
    → IsRecovered name undo (recovered (a.files name) (a.files undo)) c
is_recovered-same name undo a b c looks is =
    subst (λ (f : World). IsRecovered name undo (recovered (f name) (f undo)) c) looks.follows.read is
