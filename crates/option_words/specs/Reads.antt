-- What reading words makes of what they say.
use Rattle.std.specs.Prelude.{◌≡◌, List, ◌++◌, map, take, Result, Ok, Err}
use Rattle.option_words.specs.declared.word_fault.Fault.{Fault}
use Rattle.option_words.specs.declared.scan.OperandWord.{OperandWord}
use Rattle.option_words.specs.declared.scan.NextWord.{NextWord}
use Rattle.option_words.specs.declared.scan.NextWord.TheVariants.{AnyWord as WantsAny, Operand as WantsOperand, Value}
use Rattle.option_words.specs.declared.scan.NextWord.TheVariants.{Path, KindWord, File}
use Rattle.option_words.specs.Items.{AnyWord, FileOf, Item, KindOf, Next, Operand, Operands, PathOf, Said, ValueOf}
use Rattle.option_words.specs.Items.{operands_in}
use Rattle.option_words.specs.Given.{GivenOptions, with_items}

-- what the next word is, without where texts stand
abbrev pub next_of : NextWord → Next
next_of WantsAny = AnyWord
next_of WantsOperand = Operands
next_of (Value setting began) = ValueOf setting began
next_of (Path began) = PathOf began
next_of (KindWord path began) = KindOf path.now began
next_of (File path kind began) = FileOf path.now kind.now began

-- an operand, without where its text stands
abbrev pub operand_seen : OperandWord → Operand
operand_seen operand = record { text = operand.text.now; word = operand.word }

-- operands, without where their texts stand
abbrev pub operands_seen : List OperandWord → List Operand
operands_seen operands = map operand_seen operands

-- What was given before has become what is given with the items that were said, and what the next word is was found; or
-- one of the items is a fault.
abbrev pub Reads : Said → (before after : GivenOptions) → Result NextWord Fault → Type 0
Reads said before after (Ok wanted) = (with_items said.items before ≡ Ok after) × (next_of wanted ≡ said.next)
Reads said before after (Err met) = with_items said.items before ≡ Err met

-- The first seven operands are kept, which is more than any form has: with any that follow, the kept ones have become
-- those with the operands that were said.
abbrev pub KeepsOperands : List Item → (before after : List Operand) → Type 0
KeepsOperands items before after =
    (behind : List Operand) → take 7 (after ++ behind) ≡ take 7 (before ++ (operands_in items ++ behind))
