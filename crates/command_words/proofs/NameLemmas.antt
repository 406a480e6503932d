-- The names of the files of a conversion: the one that is converted has no name under which a new file is written
-- first.
use Rattle.std.proofs.Common.{◌≡◌, ◌≢◌, ◌∙◌, ℕ, ◌-◌, Bool, true, false, not, ◌&&◌, List, ◌++◌, length, drop, refl, ap}
use Rattle.std.proofs.Common.{arith, length-append}
use Rattle.std.specs.Prelude.{codes, nat_le}
use Rattle.std.specs.List.{list_all}
use Rattle.std.specs.Str.{bytes_eq}
use Rattle.std.proofs.Math.Seq.{drop-append_seam}
use Rattle.outside.proofs.WorldLemmas.{bytes_eq-same}
use Rattle.outside.specs.Replacement.{replacement_name}
use Rattle.option_words.specs.FileName.{ends_so, is_file_name, is_graphic}

-- of some tests that all hold the fourth one holds
fourth : (a b c d e f : Bool) → (a && b && c && not d && e && f) ≡ true → d ≡ false
fourth true true true false e f all = refl
fourth _ _ _ _ e f all = absurd (cc)

-- a name with an ending added ends so
ends_added : (name ending : List ℕ) → ends_so (name ++ ending) ending ≡ true
ends_added name ending =
    let long : length (name ++ ending) - length ending ≡ length name = omega (arith, length-append name ending) in
    ap (λ (n : ℕ). bytes_eq (drop n (name ++ ending)) ending) long
    ∙ ap (λ (rest : List ℕ). bytes_eq rest ending) (drop-append_seam name ending)
    ∙ bytes_eq-same ending

-- what has the name of a file has none under which a new file is written first
pub never_new : (source target : List ℕ) → is_file_name source ≡ true → source ≢ replacement_name target
unfolding replacement_name
never_new source target named same =
    let ends : ends_so source (codes ".new") ≡ true =
    ap (λ (name : List ℕ). ends_so name (codes ".new")) same ∙ ends_added target (codes ".new") in
    let not_so : ends_so source (codes ".new") ≡ false =
    fourth (nat_le 1 (length source)) (nat_le (length source) 250) (list_all is_graphic source)
    (ends_so source (codes ".new")) (not (ends_so source (codes ".undo")))
    (not (ends_so source (codes ".und"))) named in
    absurd (cc)
