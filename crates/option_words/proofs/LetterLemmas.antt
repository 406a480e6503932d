-- What the letters of a word say, read letter by letter from the left.
use Rattle.std.proofs.Common.{◌≡◌, ◌∙◌, ℕ, ◌+◌, ◌<◌, List, ◌∷◌, length, get_or, drop, Option, Some, Result, Ok, Err}
use Rattle.std.proofs.Common.{sym, ap, arith, add-one, drop-cons}
use Rattle.option_words.specs.declared.word_fault.Fault.{Fault}
use Rattle.option_words.specs.declared.scan.NextWord.{NextWord}
use Rattle.option_words.specs.declared.switch.Setting.{Setting as SettingName}
use Rattle.option_words.specs.declared.switch.Switch.{Switch}
use Rattle.option_words.specs.declared.switch.Switch.TheVariants.{Setting}
use Rattle.option_words.specs.declared.tool.Tool.{Tool}
use Rattle.option_words.specs.Given.{GivenOptions, with_items}
use Rattle.option_words.specs.Items.{Said, letter_says, letters_say}
use Rattle.option_words.specs.Reads.{Reads}
use Rattle.option_words.specs.Switches.{letter_switch}

-- The letters before a place were flags, and with those from there on the word says the same.
pub record IsReadTo (tool : Tool) (word : ℕ) (letters : List ℕ) (before : GivenOptions) (at : ℕ)
    (now : GivenOptions) : Type 0 where
  pub items : with_items (letters_say tool word letters).items before
      ≡ with_items (letters_say tool word (drop at letters)).items now
  pub next : (letters_say tool word letters).next ≡ (letters_say tool word (drop at letters)).next

-- what the letters from a place on say, of which the first stands for this
says_here : (tool : Tool) (word : ℕ) (letters : List ℕ) (at : ℕ) (switch : Option Switch) → at < length letters
    → letter_switch tool (get_or letters at 0) ≡ switch
    → letters_say tool word (drop at letters)
    ≡ letter_says switch word (drop (at + 1) letters) (letters_say tool word (drop (at + 1) letters))
says_here tool word letters at switch inside stands =
    let here : drop at letters ≡ get_or letters at 0 ∷ drop (at + 1) letters =
    grind (arith, drop-cons letters at 0 inside, add-one at) in
    ap (letters_say tool word) here
    ∙ ap (λ (s : Option Switch).
    letter_says s word (drop (at + 1) letters) (letters_say tool word (drop (at + 1) letters))) stands

-- what is read from a place on is read of the whole word
pub reads_whole : (tool : Tool) (word : ℕ) (letters : List ℕ) (before : GivenOptions) (at : ℕ)
    (now after : GivenOptions) (result : Result NextWord Fault)
    → IsReadTo tool word letters before at now → Reads (letters_say tool word (drop at letters)) now after result
    → Reads (letters_say tool word letters) before after result
reads_whole tool word letters before at now after (Ok wanted) so reads = (so.items ∙ reads.0, reads.1 ∙ sym so.next)
reads_whole tool word letters before at now after (Err met) so reads = so.items ∙ reads

-- a letter stands for a setting
pub read_setting : (tool : Tool) (word : ℕ) (letters : List ℕ) (before : GivenOptions) (at : ℕ) (now : GivenOptions)
    (setting : SettingName)
    (after : GivenOptions) (result : Result NextWord Fault)
    → IsReadTo tool word letters before at now → at < length letters
    → letter_switch tool (get_or letters at 0) ≡ Some (Setting setting)
    → ((more : Said) → Reads (letter_says (Some (Setting setting)) word (drop (at + 1) letters) more) now after result)
    → Reads (letters_say tool word letters) before after result
read_setting tool word letters before at now setting after result so inside stands reads =
    reads_whole tool word letters before at now after result so
    (rw (says_here tool word letters at (Some (Setting setting)) inside stands)
    (reads (letters_say tool word (drop (at + 1) letters))))
