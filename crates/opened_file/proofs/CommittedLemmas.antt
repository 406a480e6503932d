-- What is committed once, and what holds then, along further calls.
use Rattle.std.proofs.Common.{inl, inr, ⊎_elim, List, [], ◌++◌}
use Rattle.std.specs.Prelude.{◌∷◌}
use Rattle.outside.specs.World.{World}
use Rattle.opened_file.specs.Committed.{CommitsOnce}

module _ {T : Type 0} (commits : List World → T → T → Type 0) where
  -- what follows from what holds of it
  pub once_then : (first last : T) (whole wider : Type 0) (now : World)
      → CommitsOnce (λ worlds. commits worlds first last) whole now → (whole → wider)
      → CommitsOnce (λ worlds. commits worlds first last) wider now
  once_then first last whole wider now once then = ⊎_elim (λ none. inl none) (λ one. inr (one.0, then one.1)) once

  -- behind calls that committed nothing
  pub once_behind : ((one two : List World) (first between last : T) → commits one first between
      → commits two between last → commits (one ++ two) first last)
      → (first between last : T) (whole wider : Type 0) (now : World) → commits [] first between
      → CommitsOnce (λ worlds. commits worlds between last) whole now → (whole → wider)
      → CommitsOnce (λ worlds. commits worlds first last) wider now
  once_behind on first between last whole wider now none once then =
      ⊎_elim
      (λ nothing. inl (on [] [] first between last none nothing))
      (λ one. inr (on [] (now ∷ []) first between last none one.0, then one.1))
      once
