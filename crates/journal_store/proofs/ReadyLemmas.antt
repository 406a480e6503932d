-- A recovered file stays so, a file that is there stays there, and a closed gate stays closed.
use Rattle.std.proofs.Common.{◌≡◌, ◌≢◌, ℕ, List, [], length, Option, Some, None, IsSome, unwrap_or, refl, sym, ap, ◌∙◌}
use Rattle.std.proofs.Common.{subst, arith}
use Rattle.outside.specs.World.{World}
use Rattle.outside.proofs.WorldLemmas.{with_new_name-others}
use Rattle.disk.specs.DiskSeen.{DiskSeen, DiskFollows}
use Rattle.disk.specs.DiskCalls.{ChangesFile, IsRenamed}
use Rattle.quota_types.specs.Bytes.{byte_at}
use Rattle.edit_journal.specs.Recovered.{IsRecovered}
use Rattle.edit_journal.specs.Undo.{recovered}
use Rattle.edit_journal.specs.UndoName.{undo_name}
use Rattle.edit_journal.proofs.NameLemmas.{undo-own}
use Rattle.journal_store.specs.Replaced.{HasClosedGate}
use Rattle.journal_store.proofs.KindLemmas.{IsNew, IsPlain, undo-apart}

-- a step that keeps a file and its undo file keeps it recovered
pub recovered-on : (name undo : List ℕ) (step : World → World → Type 0) (a b : DiskSeen)
    → ((x y : World) → step x y → (y name ≡ x name) × (y undo ≡ x undo)) → DiskFollows step a b
    → IsRecovered name undo (a.files name) a → IsRecovered name undo (b.files name) b
recovered-on name undo step a b keeps follows is = record {
  whole = λ image left.
      let from = follows.left image left in
      (keeps from.0 image from.2).0 ∙ is.whole from.0 from.1 ∙ sym (keeps a.files b.files follows.read).0;
  closed = λ image left opened.
      let from = follows.left image left in
      is.closed from.0 from.1
      (ap (λ (u : Option (List ℕ)). byte_at (unwrap_or u []) 0) (sym (keeps from.0 image from.2).1) ∙ opened);
  room = λ long image left.
      let from = follows.left image left in
      let read = ap (λ (u : Option (List ℕ)). length (unwrap_or u [])) (keeps a.files b.files follows.read).1 in
      let here = ap (λ (u : Option (List ℕ)). length (unwrap_or u [])) (keeps from.0 image from.2).1 in
      omega (arith, here, is.room (omega (arith, long, read)) from.0 from.1);
}

-- a file that recovers to what one does that is there, is there
pub recovered-there : (file undo new new_undo : Option (List ℕ)) → recovered new new_undo ≡ recovered file undo
    → IsSome file → IsSome new
recovered-there file undo (Some new) new_undo same there = refl
recovered-there None undo None new_undo same there = there
recovered-there (Some file) None None new_undo same there = absurd (cc)
recovered-there (Some file) (Some undo) None new_undo same there = absurd (cc)

-- the gate of the undo file stays closed where a file takes the place of another one
pub closed-renamed : (from to : List ℕ) → IsNew from → IsPlain to → (a b : DiskSeen) → HasClosedGate to a
    → DiskFollows (IsRenamed from to) a b → HasClosedGate to b
closed-renamed from to new plain a b closed follows image is =
    let by = follows.left image is in
    subst (λ (undo : Option (List ℕ)). byte_at (unwrap_or undo []) 0 ≢ 1)
    (sym (ap (λ (w : World). w (undo_name to)) by.2
    ∙ with_new_name-others by.0 from to (undo_name to) (λ same. undo-apart from to new.undo (sym same))
    (λ same. undo-apart to to plain.undo (sym same))))
    (closed by.0 by.1)

-- and so it does where the file itself changes
pub closed-made : (Changes : Option (List ℕ) → Option (List ℕ) → Type 0) (name : List ℕ) (a b : DiskSeen)
    → HasClosedGate name a → DiskFollows (ChangesFile Changes name) a b → HasClosedGate name b
closed-made Changes name a b closed follows image is =
    let by = follows.left image is in
    subst (λ (undo : Option (List ℕ)). byte_at (unwrap_or undo []) 0 ≢ 1)
    (sym (by.2.1 (undo_name name) (λ same. undo-own name (sym same)))) (closed by.0 by.1)
