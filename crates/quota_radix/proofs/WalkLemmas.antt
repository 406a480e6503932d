-- Walks over the blocks of a buffer: what is known after some of it was known before, and what a refusal says.
use Rattle.std.proofs.Common.{◌≡◌, ℕ, ◌+◌, ◌≤◌, Bool, ◌&&◌, List, Option, Some, None, Result, Ok, Err, subst, arith}
use Rattle.std.specs.Prelude.{IfErr, IfNone, IfOk, IfSome}
use Rattle.std.proofs.lemmas.Result.{IfErr-weaker}
use Rattle.quota_types.specs.declared.damage.Damage.{Damage}
use Rattle.outside.specs.Seen.{StoreSeen}
use Rattle.quota_pages.specs.Used.{IsKnown, LooksAtSome, shown_over}
use Rattle.quota_pages.specs.declared.page_buffer.Pages.{Pages}
use Rattle.quota_pages.proofs.UsedLemmas.{looks_both, looks_more, shown_over-looks}
use Rattle.quota_radix.specs.declared.walk_fault.WalkFault.{WalkFault}
use Rattle.quota_radix.specs.declared.walk_fault.WalkFault.TheVariants.{Store, Damage as Damaged}
use Rattle.quota_radix.specs.WalkFault.{IfDamaged, IsWalkFault}

-- looks leave what is known and shown
pub pages_stay : {tells ok : Bool} {count : ℕ} {before now : StoreSeen} {old new : Pages}
    → LooksAtSome tells ok count before now old new → IsKnown tells before old
    → (IsKnown tells now new) × (shown_over now new ≡ shown_over before old)
pages_stay looks known = (looks.known known, shown_over-looks looks)

-- looks one after another are no more than both
pub looks_within : {tells done ok : Bool} {one two both : ℕ} {before between now : StoreSeen} {old middle new : Pages}
    → LooksAtSome tells done one before between old middle
    → LooksAtSome tells ok two between now middle new → one + two ≤ both
    → LooksAtSome tells (done && ok) both before now old new
looks_within first second all = looks_more _ all (looks_both first second)

-- what is known once blocks were looked at was known before, where what is known and shown stays
pub since : {known still : Type 0} {old new : List ℕ} → (known → still × (new ≡ old)) → (P : List ℕ → Type 0)
    → (still → P new) → known → P old
since stays P later known = let now = stays known in subst P now.1 (later now.0)

-- a refusal of a later call is one of an earlier call, which says as much of a damage
pub walk_refused : (before between now : ℕ) (P Q : Damage → Type 0) → before ≤ between
    → ((damage : Damage) → P damage → Q damage) → (fault : WalkFault)
    → IsWalkFault between now P fault → IsWalkFault before now Q fault
walk_refused before between now P Q later more Store rose = omega (arith, later, rose)
walk_refused before between now P Q later more (Damaged damage) refused = (refused.0, more damage refused.1)

pub walk_refused_at : {T : Type 0} (before between now : ℕ) (P Q : Damage → Type 0) → before ≤ between
    → ((damage : Damage) → P damage → Q damage) → (result : Result T WalkFault)
    → IfErr result (IsWalkFault between now P) → IfErr result (IsWalkFault before now Q)
walk_refused_at before between now P Q later more result refused =
    IfErr-weaker result (IsWalkFault between now P) (IsWalkFault before now Q)
    (λ fault. walk_refused before between now P Q later more fault) refused

-- what holds of the damage of a refusal, by what else does
pub damaged_weaker : (P Q : Damage → Type 0) → ((damage : Damage) → P damage → Q damage) → (fault : WalkFault)
    → IfDamaged P fault → IfDamaged Q fault
damaged_weaker P Q more Store holds = tt
damaged_weaker P Q more (Damaged damage) holds = more damage holds

-- what is known of an answer, where there is one
pub some_weaker : {X E : Type 0} (P Q : X → Type 0) (result : Result (Option X) E) → ((x : X) → P x → Q x)
    → IfOk result (λ found. IfSome found P) → IfOk result (λ found. IfSome found Q)
some_weaker P Q (Ok None) weaker holds = tt
some_weaker P Q (Ok (Some x)) weaker holds = weaker x holds
some_weaker P Q (Err e) weaker holds = tt

-- and what is known where there is none
pub none_weaker : {X E P Q : Type 0} (result : Result (Option X) E) → (P → Q) → IfOk result (λ found. IfNone found P)
    → IfOk result (λ found. IfNone found Q)
none_weaker (Ok None) weaker holds = weaker holds
none_weaker (Ok (Some x)) weaker holds = tt
none_weaker (Err e) weaker holds = tt
