use Rattle.std.proofs.Common.{◌≢◌, ◌<◌, ◌∷◌, ◌++◌, ◌∙◌, List, ℕ, arith, ap, drop, get_or, inl, inr, length, refl, subst}
use Rattle.std.proofs.Common.{sym, take, take-append-drop}
use Rattle.std.proofs.lemmas.Str.Pattern.{NoCharPasses-char, drop_at_char}
use Rattle.program_start.proofs.reason.name_in.Goals as goal

pub returns-in-Some : goal.returns-in-Some
returns-in-Some c =
    let path = c.args.path.now in
    let found = c.in-Some.ensures.cases in
    let front = take found.0 path in
    record {
      part = inr (
        front,
        sym (take-append-drop found.0 path)
            ∙ ap (λ l. front ++ l)
            (drop_at_char 47 path found.0 found.1 found.2.1 (omega arith) ∙ ap (λ l. 47 ∷ l) (sym found.4)),
      );
      last = λ at. subst (λ (n : List ℕ). at < length n → get_or n at 0 ≢ 47) (sym found.4)
          (NoCharPasses-char 47 (drop found.1 path) at found.2.0 (omega arith));
    }

pub returns-in-None : goal.returns-in-None
returns-in-None c = record {
  part = inl refl;
  last = λ at. NoCharPasses-char 47 c.args.path.now at c.in-None.ensures.cases (omega arith);
}
