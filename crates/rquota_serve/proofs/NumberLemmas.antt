-- The size of a block, found by trying one power of two after another.
use Rattle.std.proofs.Common.{◌≡◌, ◌≤◌, ◌+◌, ℕ, zero, suc, Bool, true, false, cond, Some, refl, sym, ap, subst, ◌∙◌}
use Rattle.std.proofs.Common.{arith}
use Rattle.std.specs.List.{find, range_with_len}
use Rattle.std.specs.Option.{unwrap_or}
use Rattle.quota_types.specs.declared.record.Rec.{Rec}
use Rattle.rquota_serve.specs.Quota.{block_power, fit_blocks}

-- the power is sought among those from this one on
pub record IsSought (rec : Rec) (power : ℕ) : Type 0 where
  pub more : ℕ
  pub up_to : power + more ≡ 31
  pub sought : block_power rec ≡ unwrap_or (find (fit_blocks rec) (range_with_len power more)) 30

pub sought-first : (rec : Rec) → IsSought rec 10
unfolding block_power
sought-first rec = record { more = 21; up_to = refl; sought = refl }

next_power : (rec : Rec) (power more : ℕ) (fits : Bool) → fit_blocks rec power ≡ fits
    → unwrap_or (find (fit_blocks rec) (range_with_len power (suc more))) 30
    ≡ cond fits power (unwrap_or (find (fit_blocks rec) (range_with_len (power + 1) more)) 30)
next_power rec power more true is =
    ap (λ (b : Bool). unwrap_or (cond b (Some power) (find (fit_blocks rec) (range_with_len (power + 1) more))) 30) is
next_power rec power more false is =
    ap (λ (b : Bool). unwrap_or (cond b (Some power) (find (fit_blocks rec) (range_with_len (power + 1) more))) 30) is

-- there is a power to try below 31
one-more : (power more : ℕ) → power + more ≡ 31 → power + 1 ≤ 31 → (less : ℕ) × (more ≡ suc less)
one-more power zero is below = absurd (omega (arith, is, below))
one-more power (suc less) is below = (less, refl)

pub sought-here : (rec : Rec) (power : ℕ) → power + 1 ≤ 31 → fit_blocks rec power ≡ true → IsSought rec power
    → power ≡ block_power rec
sought-here rec power below fits so_far =
    let found = one-more power so_far.more so_far.up_to below in
    sym (so_far.sought ∙ ap (λ (m : ℕ). unwrap_or (find (fit_blocks rec) (range_with_len power m)) 30) found.1
    ∙ next_power rec power found.0 true fits)

pub sought-next : (rec : Rec) (power : ℕ) → power + 1 ≤ 31 → fit_blocks rec power ≡ false → IsSought rec power
    → IsSought rec (power + 1)
sought-next rec power below fits so_far =
    let found = one-more power so_far.more so_far.up_to below in
    record {
      more = found.0;
      up_to = omega (arith, so_far.up_to, found.1);
      sought = so_far.sought ∙ ap (λ (m : ℕ). unwrap_or (find (fit_blocks rec) (range_with_len power m)) 30) found.1
          ∙ next_power rec power found.0 false fits;
    }

pub sought-last : (rec : Rec) (power : ℕ) → 31 ≤ power → IsSought rec power → 30 ≡ block_power rec
sought-last rec power past so_far =
    let none : so_far.more ≡ 0 = omega (arith, past, so_far.up_to) in
    sym (so_far.sought ∙ ap (λ (m : ℕ). unwrap_or (find (fit_blocks rec) (range_with_len power m)) 30) none)

chosen_within : (test : Bool) (one two : ℕ) → one ≤ 30 → two ≤ 30 → cond test one two ≤ 30
chosen_within true one two first second = first
chosen_within false one two first second = second

tried_within : (rec : Rec) (power more : ℕ) → power + more ≡ 31
    → unwrap_or (find (fit_blocks rec) (range_with_len power more)) 30 ≤ 30
tried_within rec power zero is = omega arith
tried_within rec power (suc more) is =
    let rest = tried_within rec (power + 1) more (omega (arith, is)) in
    let chosen = chosen_within (fit_blocks rec power) power _ (omega (arith, is)) rest in
    subst (λ (n : ℕ). n ≤ 30) (sym (next_power rec power more (fit_blocks rec power) refl)) chosen

-- the greatest power is 30
pub block_power-within : (rec : Rec) → block_power rec ≤ 30
block_power-within rec =
    let first = sought-first rec in
    subst (λ (n : ℕ). n ≤ 30) (sym first.sought) (tried_within rec 10 first.more first.up_to)
