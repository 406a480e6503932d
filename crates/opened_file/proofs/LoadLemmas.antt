-- A file that is read block by block.
use Rattle.std.proofs.Common.{◌≡◌, ℕ, ◌+◌, ◌-◌, ◌≤◌, min, List, [], ◌++◌, length, take, drop, Option, Some, refl, sym}
use Rattle.std.proofs.Common.{ap, subst, ◌∙◌, arith, length-append, length-take, length-drop}
use Rattle.std.proofs.Math.Seq.{take-add}
use Rattle.std.specs.Option.{unwrap_or}
use Rattle.outside.specs.World.{bytes_from}
use Rattle.outside.proofs.WorldLemmas.{take-length-take}

-- the file has this size, and begins with the bytes that were read
pub record IsBegun (file : Option (List ℕ)) (size : ℕ) (bytes : List ℕ) : Type 0 where
  pub whole : List ℕ
  pub there : file ≡ Some whole
  pub long : length whole ≡ size
  pub front : take (length bytes) whole ≡ bytes

more_of : (whole bytes : List ℕ) (wanted : ℕ) → take (length bytes) whole ≡ bytes
    → take (length (bytes ++ take wanted (drop (length bytes) whole))) whole
    ≡ bytes ++ take wanted (drop (length bytes) whole)
more_of whole bytes wanted front =
    let rest = drop (length bytes) whole in
    ap (λ (n : ℕ). take n whole) (length-append bytes (take wanted rest))
    ∙ take-add (length bytes) (length (take wanted rest)) whole
    ∙ ap (λ (f : List ℕ). f ++ take (length (take wanted rest)) rest) front
    ∙ ap (λ (t : List ℕ). bytes ++ t) (take-length-take wanted rest)

-- one more read
pub begun_more : (file : Option (List ℕ)) (size : ℕ) (bytes : List ℕ) (wanted : ℕ) (got : List ℕ)
    → IsBegun file size bytes → got ≡ bytes_from file (length bytes) wanted → IsBegun file size (bytes ++ got)
begun_more file size bytes wanted got b e =
    let is : got ≡ take wanted (drop (length bytes) b.whole) =
    e ∙ ap (λ (f : Option (List ℕ)). take wanted (drop (length bytes) (unwrap_or f []))) b.there in
    record {
      whole = b.whole;
      there = b.there;
      long = b.long;
      front = subst (λ (t : List ℕ). take (length (bytes ++ t)) b.whole ≡ bytes ++ t) (sym is)
          (more_of b.whole bytes wanted b.front);
    }

-- one more read of a store whose files stay
pub begun_step : (file now : Option (List ℕ)) (size : ℕ) (bytes more : List ℕ) (at wanted : ℕ) → IsBegun file size bytes
    → now ≡ file → at ≡ length bytes → more ≡ bytes ++ bytes_from now at wanted → IsBegun file size more
begun_step file now size bytes more at wanted b same place e =
    let is : more ≡ bytes ++ bytes_from file (length bytes) wanted = e
    ∙ ap (λ (f : Option (List ℕ)). bytes ++ bytes_from f at wanted) same
    ∙ ap (λ (n : ℕ). bytes ++ bytes_from file n wanted) place in
    subst (λ (t : List ℕ). IsBegun file size t) (sym is)
    (begun_more file size bytes wanted (bytes_from file (length bytes) wanted) b refl)

-- how far one more read of a store whose files stay comes
pub begun_ends : (file now : Option (List ℕ)) (size : ℕ) (bytes more : List ℕ) (at wanted : ℕ) → IsBegun file size bytes
    → now ≡ file → at ≡ length bytes → more ≡ bytes ++ bytes_from now at wanted
    → wanted ≡ min (size - at) 1024 → at ≤ size → length more ≡ min size (at + 1024)
begun_ends file now size bytes more at wanted b same place e asked within =
    let rest : bytes_from now at wanted ≡ take wanted (drop at b.whole) =
    ap (λ (f : Option (List ℕ)). bytes_from f at wanted) (same ∙ b.there) in
    let long : length more ≡ length bytes + length (take wanted (drop at b.whole)) =
    ap length e ∙ length-append bytes (bytes_from now at wanted) ∙ ap (λ (r : List ℕ). length bytes + length r) rest in
    omega (arith, long, length-take wanted (drop at b.whole), length-drop at b.whole, b.long, place, asked, within)
