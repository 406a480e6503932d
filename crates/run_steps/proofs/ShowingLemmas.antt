-- From a text about an opened file to what a command does that shows it.
use Rattle.std.proofs.Common.{None, Some, ◌≡◌, ℕ, ◌≤◌, IsTrue, List, [], ◌∷◌, ◌++◌, Option, Ok, Err, inl, inr, refl}
use Rattle.std.proofs.Common.{sym, ap, subst, ◌∙◌, arith, append-nil, false}
use Rattle.quota_types.specs.declared.damage.Damage.{Damage}
use Rattle.quota_types.specs.declared.file_kind.Kind.{Kind}
use Rattle.quota_types.specs.Format.{is_flat}
use Rattle.quota_types.specs.declared.file_kind.Format.{Format}
use Rattle.quota_types.specs.declared.file_kind.Format.TheVariants.{V1, V1R32, V2R0, V2R1}
use Rattle.outside.specs.Frame.{OnlyReads}
use Rattle.quota_value.specs.QuotaValue.{QuotaValue}
use Rattle.opened_file.specs.QuotaFile.{IsLookupFault}
use Rattle.outside.specs.Seen.{SinkSeen, StoreSeen}
use Rattle.outside.specs.Text.{AppendsPrefix}
use Rattle.opened_file.specs.declared.quota_file.FileFault.{FileFault}
use Rattle.opened_file.specs.declared.quota_file.FileFault.TheVariants.{Store as StoreFailed, Damage as FileDamaged}
use Rattle.opened_file.specs.declared.quota_file.FileFault.TheVariants.{Full as NoBlocks, Memory as NoMemory}
use Rattle.quota_map.specs.Asked.{AnyTree, Asked, InFormat}
use Rattle.quota_map.specs.AnyFile.{MayRefuse}
use Rattle.quota_map.specs.View.{IsOpenedAs, IsView, IsDamageAs}
use Rattle.std.proofs.lemmas.Bool.{false≢true}
use Rattle.outside.specs.Count.{Rose}
use Rattle.refusals.specs.declared.cause.Cause.{Cause}
use Rattle.refusals.specs.declared.cause.Cause.TheVariants.{SinkFault}
use Rattle.refusals.specs.Refusals.{refusal_of}
use Rattle.run_steps.specs.Act.{ToOut}
use Rattle.run_steps.specs.Done.{IsUnwritten, IsWorldTold, RunSeen, RunTells, outside_of}
use Rattle.run_steps.specs.Opening.{MayRefuseOpening, file_cause}
use Rattle.run_steps.specs.Run.{HasReason, HasSteps, IsDoneInPart, Uses}
use Rattle.run_steps.specs.Carrying.{CarriesOut}
use Rattle.run_steps.specs.Showing.{ShowingMayRefuse, ShowingSteps, showing_uses}
use Rattle.run_steps.proofs.ActLemmas.{appends_nothing}
use Rattle.run_steps.specs.Steps.{Doing, Finish}
use Rattle.run_steps.proofs.OpeningLemmas.{outside_same, refused_so, unwritten, with_out}
use Rattle.run_steps.proofs.WritesLemmas.{writes_for-same, writes_in_part}
use Rattle.run_steps.proofs.PartLemmas.{carried_whole, part_from}

-- What was done while a text was shown: the store was only read, and the output got the text about each value that the
-- file is seen as, or a prefix of it.
pub record IsShowing (kind : Kind) (asked : Asked) (name : List ℕ) (text : QuotaValue → List ℕ) (tells : RunTells)
    (old : RunSeen) (store : StoreSeen) (out : SinkSeen) : Type 0 where
  pub seen : IsTrue tells.store → (value : QuotaValue) × IsView (old.store.files name) kind asked (Ok value)
  pub reads : OnlyReads false name old.store store
  pub prefix : IsTrue tells.store → IsTrue tells.out → (value : QuotaValue)
      → IsView (old.store.files name) kind asked (Ok value)
      → AppendsPrefix old.out.written out.written (text value)
  pub later : old.out.faults ≤ out.faults

-- an output that is said to have failed is the standard output, where nothing is warned of
pub out_failed : (old new : RunSeen) (stated : Type 0) (cause : Cause) → HasReason showing_uses old new stated cause
    → Some cause ≡ Some SinkFault → Rose old.out.faults new.out.faults
out_failed old new stated cause reason is =
    let sink : cause ≡ SinkFault = cc in
    elim (subst (λ (c : Cause). HasReason showing_uses old new stated c) sink reason) [
      | inl rose ↦ rose
      | inr warned ↦ absurd (false≢true warned.0)
    ]

-- a text was written, or a prefix of it, once the store was only read
pub told_begun : {why : Option Cause} (text : List ℕ) (tells : RunTells) (old : RunSeen) (store : StoreSeen)
    (out : SinkSeen) → (why ≡ Some SinkFault → Rose old.out.faults out.faults) → IsUnwritten old.store store
    → (IsTrue tells.out → AppendsPrefix old.out.written out.written text)
    → IsDoneInPart (Doing (ToOut text) Finish) tells why old (with_out old store out)
told_begun text tells old store out rose same prefix = record {
  done = [];
  hand = ToOut text ∷ [];
  now = outside_of old;
  begun = inl (record { done_none = refl; at_hand = refl; same = refl });
  files = same.files;
  out = λ told.
      subst (λ (b : List ℕ). AppendsPrefix b out.written (text ++ [])) (sym (append-nil old.out.written))
      (subst (λ (b : List ℕ). AppendsPrefix old.out.written out.written b) (sym (append-nil text)) (prefix told));
  err = λ told. appends_nothing (old.err.written ++ []) old.err.written [] (sym (append-nil old.err.written));
  answered = sym (append-nil old.link.answers);
  started = refl;
  datagrams = refl;
  writes = writes_in_part (ToOut text ∷ []) (ToOut text ∷ []) old.store.writes store.writes
      (writes_for-same (ToOut text ∷ []) old.store.writes store.writes same.writes);
  failed = λ is told. rose is;
}

-- a text was written whole
pub told_steps : (text : List ℕ) (tells : RunTells) (old : RunSeen) (store : StoreSeen) (out : SinkSeen)
    → IsUnwritten old.store store
    → (IsTrue tells.out → out.written ≡ old.out.written ++ text) → HasSteps (Doing (ToOut text) Finish) tells None old
    (with_out old store out)
told_steps text tells old store out same whole = record {
  acts = ToOut text ∷ [];
  by_steps = (
    [],
    old.store.files,
    refl,
    refl,
    record { acts_none = refl; same = outside_same old store same.files; ends = refl },
  );
  done = record {
    files = (old.store.files, refl, same.files);
    out = λ told. whole told ∙ ap (λ (b : List ℕ). old.out.written ++ b) (sym (append-nil text));
    err = λ told. sym (append-nil old.err.written);
    answered = sym (append-nil old.link.answers);
    started = refl;
    writes = writes_for-same (ToOut text ∷ []) old.store.writes store.writes same.writes;
  };
}

-- a text that is shown, or a prefix of it
text_begun : {why : Option Cause} (kind : Kind) (asked : Asked) (name : List ℕ) (text : QuotaValue → List ℕ)
    (tells : RunTells) (old : RunSeen) (store : StoreSeen) (out : SinkSeen)
    → IsShowing kind asked name text tells old store out → (why ≡ Some SinkFault → Rose old.out.faults out.faults)
    → IsTrue tells.store
    → IsDoneInPart (ShowingSteps kind asked name text) tells why old (with_out old store out)
text_begun kind asked name text tells old store out showing rose told =
    let good = showing.seen told in
    part_from (Doing (ToOut (text good.0)) Finish) (ShowingSteps kind asked name text) tells old old.store old.input
    (with_out old store out) refl (λ done hand now by. inr (good.0, good.1, by))
    (told_begun (text good.0) tells old store out rose (unwritten name old.store store showing.reads)
    (λ out_told. showing.prefix told out_told good.0 good.1))

-- a text was shown whole
pub shown_whole : (kind : Kind) (asked : Asked) (name : List ℕ) (text : QuotaValue → List ℕ)
    (may : Cause → List ℕ → Type 0) (tells : RunTells) (old : RunSeen) (store : StoreSeen) (out : SinkSeen)
    → IsShowing kind asked name text tells old store out
    → (IsTrue tells.store → IsTrue tells.out → (value : QuotaValue)
    → IsView (old.store.files name) kind asked (Ok value)
    → out.written ≡ old.out.written ++ text value)
    → CarriesOut (ShowingSteps kind asked name text) showing_uses may tells old (with_out old store out) (Ok tt)
shown_whole kind asked name text may tells old store out showing written =
    let same = unwritten name old.store store showing.reads in
    carried_whole (ShowingSteps kind asked name text) showing_uses may tells old (with_out old store out) tt
    (λ told.
    let good = showing.seen told.store in
    let has =
    told_steps (text good.0) tells old store out same (λ out_told. written told.store out_told good.0 good.1) in
    record { acts = has.acts; by_steps = inl (good.0, good.1, has.by_steps); done = has.done })
    (λ only. same) (λ no. refl)
    (record {
      store = showing.reads.later;
      input = omega arith;
      out = showing.later;
      err = omega arith;
      link = omega arith;
    })

-- Why a text was not shown whole: its cause is no fault of the effect, and it is one that may be.
pub record IsUnshown (asked : Asked) (name : List ℕ) (tells : RunTells) (old : RunSeen) (store : StoreSeen)
    (out : SinkSeen) (cause : Cause) : Type 1 where
  pub reason : (stated : Type 0)
      → HasReason showing_uses old (with_out old store out) (IsWorldTold tells → stated) cause
  pub may : ShowingMayRefuse asked name cause name

-- a text was not shown whole
pub shown_in_part : (kind : Kind) (asked : Asked) (name : List ℕ) (text : QuotaValue → List ℕ) (tells : RunTells)
    (old : RunSeen) (store : StoreSeen) (out : SinkSeen) (cause : Cause)
    → IsShowing kind asked name text tells old store out → IsUnshown asked name tells old store out cause
    → CarriesOut (ShowingSteps kind asked name text) showing_uses (ShowingMayRefuse asked name) tells old
    (with_out old store out) (Err (refusal_of cause name))
shown_in_part kind asked name text tells old store out cause showing unshown =
    refused_so (ShowingSteps kind asked name text) showing_uses (ShowingMayRefuse asked name) tells old
    (with_out old store out)
    (refusal_of cause name)
    (unwritten name old.store store showing.reads) refl
    (record {
      store = showing.reads.later;
      input = omega arith;
      out = showing.later;
      err = omega arith;
      link = omega arith;
    })
    (λ told. text_begun kind asked name text tells old store out showing
    (out_failed old (with_out old store out) (IsWorldTold tells → ⊥) cause (unshown.reason ⊥)) told.store)
    (unshown.reason _) unshown.may
    (record { line = λ no. refl; input_line = λ no. refl })

-- a damage that a call on an opened file answers is one of the format that was asked for
pub damage_may : (asked : Asked) (format : Format) (damage : Damage) → IsOpenedAs asked format
    → MayRefuse format (FileDamaged damage) → IsDamageAs asked damage
damage_may AnyTree format damage asks may = may.tree asks
damage_may (InFormat V1) format damage asks may = may.flat (ap is_flat asks)
damage_may (InFormat V1R32) format damage asks may = may.flat (ap is_flat asks)
damage_may (InFormat V2R0) format damage asks may = may.tree (ap is_flat asks)
damage_may (InFormat V2R1) format damage asks may = may.tree (ap is_flat asks)

-- the reason for which a look-up was refused
pub lookup_reason : (uses : Uses) (old new : RunSeen) (tells : RunTells) (stated : Type 0) (before : ℕ)
    (holds : QuotaValue → Type 0) (fault : FileFault)
    → old.store.faults ≤ before → (IsTrue tells.store → ((value : QuotaValue) → holds value → ⊥) → ⊥)
    → IsLookupFault before new.store.faults holds fault
    → HasReason uses old new (IsWorldTold tells → stated) (file_cause fault)
lookup_reason uses old new tells stated before holds StoreFailed le seen cause = omega (arith, le, cause)
lookup_reason uses old new tells stated before holds (FileDamaged damage) le seen cause =
    λ told. absurd (seen told.store cause)
lookup_reason uses old new tells stated before holds (NoBlocks blocks limit) le seen cause = absurd cause
lookup_reason uses old new tells stated before holds NoMemory le seen cause = absurd cause

-- a look-up may be refused as the opening of the file may be
pub lookup_may : (asked : Asked) (name : List ℕ) (format : Format) (before now : ℕ) (holds : QuotaValue → Type 0)
    (fault : FileFault) → IsOpenedAs asked format
    → IsLookupFault before now holds fault → MayRefuse format fault
    → MayRefuseOpening asked name (file_cause fault) name
lookup_may asked name format before now holds StoreFailed asks cause may = tt
lookup_may asked name format before now holds (FileDamaged damage) asks cause may =
    (damage_may asked format damage asks may, refl)
lookup_may asked name format before now holds (NoBlocks blocks limit) asks cause may = absurd cause
lookup_may asked name format before now holds NoMemory asks cause may = tt
