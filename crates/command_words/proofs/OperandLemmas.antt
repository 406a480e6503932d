-- Operands of which the first seven are kept, and modes that have no more than six.
use Rattle.std.proofs.Common.{◌≡◌, ◌∙◌, ℕ, ◌+◌, Bool, true, false, List, [], ◌∷◌, length, get_or, take, Result, Ok}
use Rattle.std.proofs.Common.{IsOk, refl, sym, ap, arith}
use Rattle.command_words.specs.declared.mode.Mode.{Mode}
use Rattle.command_words.specs.declared.mode.Mode.TheVariants.{Reporting, Limiting}
use Rattle.option_words.specs.declared.scan.OperandWord.{OperandWord}
use Rattle.command_words.specs.declared.command.Command.TheVariants.{SetLimits}
use Rattle.refusals.specs.declared.cause.UsageKind.TheVariants.{Excludes, MissingOption}
use Rattle.option_words.specs.declared.word_fault.Fault.{Fault}
use Rattle.option_words.specs.declared.tool.Tool.{Tool}
use Rattle.command_words.specs.Asked.{asked_of, settled}
use Rattle.option_words.specs.Fault.{fault, unless, ◌>>=◌}
use Rattle.option_words.specs.FileName.{is_file_name}
use Rattle.option_words.specs.Items.{AnyWord, Operand, items_of, operands_in}
use Rattle.command_words.specs.Modes.{common_of, excludes, mode_of, formed, lacks}
use Rattle.option_words.specs.Given.{GivenOptions, nothing_given, with_items}
use Rattle.option_words.specs.Reads.{operands_seen}

-- seven operands are too many for each mode
too_many : (mode : Mode) (told : GivenOptions) (words : ℕ) (a b c d e f g : Operand) (more other : List Operand)
    → formed mode told words (a ∷ b ∷ c ∷ d ∷ e ∷ f ∷ g ∷ more)
    ≡ formed mode told words (a ∷ b ∷ c ∷ d ∷ e ∷ f ∷ g ∷ other)
too_many Reporting told words a b c d e f g more other = refl
too_many _ told words a b c d e f g more other = refl

-- the first seven operands are enough to tell what a mode asks for
pub formed-take : (mode : Mode) (told : GivenOptions) (words : ℕ) (operands : List Operand)
    → formed mode told words (take 7 operands) ≡ formed mode told words operands
formed-take mode told words (a ∷ b ∷ c ∷ d ∷ e ∷ f ∷ g ∷ more) = too_many mode told words a b c d e f g [] more
formed-take mode told words _ = refl

-- what six operands ask for as new limits, each by its place
pub limits_formed : (told : GivenOptions) (words : ℕ) (operands : List OperandWord) (any : OperandWord)
    → length operands ≡ 6
    → is_file_name (get_or operands 5 any).text.now ≡ true
    → formed Limiting told words (operands_seen operands)
    ≡ Ok (SetLimits (common_of told) (get_or operands 0 any).text.now
    ((get_or operands 1 any).text.now ∷ (get_or operands 2 any).text.now ∷ (get_or operands 3 any).text.now
    ∷ (get_or operands 4 any).text.now ∷ [])
    (get_or operands 5 any).text.now)
limits_formed told words (a ∷ b ∷ c ∷ d ∷ e ∷ f ∷ []) any six named = rw named refl
limits_formed told words (a ∷ b ∷ c ∷ d ∷ e ∷ f ∷ g ∷ more) any six named = absurd (omega arith)
limits_formed told words _ any six named = cc

-- they ask for a command
pub limits_ok : (told : GivenOptions) (words : ℕ) (operands : List OperandWord) (any : OperandWord)
    → length operands ≡ 6
    → is_file_name (get_or operands 5 any).text.now ≡ true → IsOk (formed Limiting told words (operands_seen operands))
limits_ok told words operands any six named = rw (limits_formed told words operands any six named) refl

-- what is asked for where the options have no fault: what their mode asks for by the operands that were kept
pub asked_formed : (in_script : Bool) (tool : Tool) (texts : List (List ℕ)) (told : GivenOptions) (mode : Mode)
    (words : ℕ) (kept : List Operand)
    → with_items (items_of tool AnyWord 1 texts) nothing_given ≡ Ok told
    → take 7 kept ≡ take 7 (operands_in (items_of tool AnyWord 1 texts))
    → excludes tool told ≡ false → lacks in_script tool told ≡ false → mode ≡ mode_of tool told
    → words ≡ length texts + 1
    → asked_of in_script tool texts ≡ formed mode told words kept
asked_formed in_script tool texts told mode words kept given operands none complete is count =
    let items = items_of tool AnyWord 1 texts in
    ap (λ (r : Result GivenOptions Fault).
    r >>= λ (t : GivenOptions). settled in_script tool t (length texts + 1) items) given
    ∙ ap (λ (b : Bool). unless b (fault Excludes (length texts + 1))
    (unless (lacks in_script tool told) (fault MissingOption (length texts + 1))
    (formed (mode_of tool told) told (length texts + 1) (operands_in items)))) none
    ∙ ap (λ (b : Bool). unless b (fault MissingOption (length texts + 1))
    (formed (mode_of tool told) told (length texts + 1) (operands_in items))) complete
    ∙ sym (formed-take (mode_of tool told) told (length texts + 1) (operands_in items))
    ∙ ap (formed (mode_of tool told) told (length texts + 1)) (sym operands)
    ∙ formed-take (mode_of tool told) told (length texts + 1) kept
    ∙ ap (λ (n : ℕ). formed (mode_of tool told) told n kept) (sym count)
    ∙ ap (λ (f : Mode). formed f told words kept) (sym is)
