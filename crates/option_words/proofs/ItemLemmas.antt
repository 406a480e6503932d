-- What words say, read word by word from the left.
use Rattle.std.proofs.Common.{◌≡◌, ◌∙◌, ℕ, Bool, true, false, ◌==◌, if◌then◌else◌, Option, Some, None, String}
use Rattle.std.proofs.Common.{slice_index, ◌+◌, ◌<◌, List, [], ◌∷◌, ◌++◌, length, get_or, take, drop, Result, Ok, Err}
use Rattle.std.proofs.Common.{refl, sym, ap, arith, add-one, drop-cons}
use Rattle.std.specs.String.{string_bytes}
use Rattle.std.specs.declared.alloc.Global.{Global}
use Rattle.std.proofs.lemmas.List.{get_or-map}
use Rattle.option_words.specs.declared.word_fault.Fault.{Fault}
use Rattle.option_words.specs.declared.scan.NextWord.{NextWord}
use Rattle.option_words.specs.declared.tool.Tool.{Tool}
use Rattle.option_words.specs.declared.switch.Switch.{Switch}
use Rattle.option_words.specs.declared.switch.Switch.TheVariants.{Flagged, Setting, Export}
use Rattle.option_words.specs.Items.{AnyWord, Item, Next, Operand, Plain, Said, items_of, letter_says, letters_say}
use Rattle.option_words.specs.Items.{long_says, long_word_says, operands_in, options_say, texts_of, word_says}
use Rattle.option_words.specs.Fault.{◌>>=◌}
use Rattle.option_words.specs.Parts.{parted}
use Rattle.option_words.specs.Switches.{letter_switch, long_switch}
use Rattle.option_words.specs.Given.{GivenOptions, nothing_given, with_item, with_items}
use Rattle.option_words.specs.Reads.{KeepsOperands, Reads, next_of}

-- items in two parts say, behind one item, what both parts say one after the other
after_item : (r : Result GivenOptions Fault) (some more : List Item)
    → ((told : GivenOptions)
    → with_items (some ++ more) told ≡ (with_items some told >>= λ (t : GivenOptions). with_items more t))
    → (r >>= λ (t : GivenOptions). with_items (some ++ more) t)
    ≡ ((r >>= λ (t : GivenOptions). with_items some t) >>= λ (t : GivenOptions). with_items more t)
after_item (Ok told) some more same = same told
after_item (Err met) some more same = refl

-- what is given with two lists of items in a row
pub with_items-append : (some more : List Item) (told : GivenOptions)
    → with_items (some ++ more) told ≡ (with_items some told >>= λ (t : GivenOptions). with_items more t)
with_items-append [] more told = refl
with_items-append (item ∷ some) more told =
    after_item (with_item item told) some more (λ t. with_items-append some more t)

-- the operands in two lists of items in a row
pub operands_in-append : (some more : List Item) → operands_in (some ++ more) ≡ operands_in some ++ operands_in more
operands_in-append [] more = refl
operands_in-append (Plain text word ∷ some) more =
    ap (λ (os : List Operand). record { text = text; word = word } ∷ os) (operands_in-append some more)
operands_in-append (_ ∷ some) more = operands_in-append some more

-- no operand is said by a letter, if none is by those behind it
no_operand-letter : (switch : Option Switch) (word : ℕ) (behind : List ℕ) (more : Said) → operands_in more.items ≡ []
    → operands_in (letter_says switch word behind more).items ≡ []
no_operand-letter (Some (Flagged flag)) word behind more none = none
no_operand-letter (Some (Setting setting)) word [] more none = refl
no_operand-letter _ word behind more none = refl

-- letters say no operand
pub no_operand-letters : (tool : Tool) (word : ℕ) (letters : List ℕ)
    → operands_in (letters_say tool word letters).items ≡ []
no_operand-letters tool word [] = refl
no_operand-letters tool word (letter ∷ behind) =
    no_operand-letter (letter_switch tool letter) word behind (letters_say tool word behind)
    (no_operand-letters tool word behind)

-- a long option says no operand
no_operand-option : (switch : Option Switch) (word : ℕ) (value : Option (List ℕ))
    → operands_in (long_says switch word value).items ≡ []
no_operand-option None word None = refl
no_operand-option None word (Some value) = refl
no_operand-option (Some (Flagged flag)) word None = refl
no_operand-option (Some (Flagged flag)) word (Some value) = refl
no_operand-option (Some (Setting setting)) word None = refl
no_operand-option (Some (Setting setting)) word (Some value) = refl
no_operand-option (Some Export) word None = refl
no_operand-option (Some Export) word (Some value) = refl

-- a word with two hyphens says no operand
no_operand-long : (tool : Tool) (word : ℕ) (text : List ℕ) (parts : Option (List ℕ × List ℕ))
    → operands_in (long_word_says tool word text parts).items ≡ []
no_operand-long tool word text (Some parts) = no_operand-option (long_switch tool parts.0) word (Some parts.1)
no_operand-long tool word text None = no_operand-option (long_switch tool text) word None

-- a word with options says no operand
pub no_operand-options : (tool : Tool) (word : ℕ) (text : List ℕ) → operands_in (options_say tool word text).items ≡ []
no_operand-options tool word text = by_second (slice_index text 1 == 45)
  where
    by_second : (b : Bool)
        → operands_in
        (if b then long_word_says tool word text (parted 61 text) else letters_say tool word (drop 1 text)).items ≡ []
    by_second true = no_operand-long tool word text (parted 61 text)
    by_second false = no_operand-letters tool word (drop 1 text)

-- the text of a word is that of its place
pub text_at : (words : List (String Global)) (at : ℕ) (word : String Global) (text : List ℕ) → at < length words
    → word ≡ get_or words at word → text ≡ string_bytes word → text ≡ get_or (texts_of words) at []
text_at words at word text inside found is = is ∙ ap string_bytes found ∙ sym (get_or-map _ words at word [] inside)

-- The words before a place were read: with those from there on, the same is given as by all of them, and the same
-- operands are kept.
pub record IsScanned (tool : Tool) (texts : List (List ℕ)) (at : ℕ) (next : Next) (told : GivenOptions)
    (kept : List Operand) : Type 0 where
  pub given : with_items (items_of tool AnyWord 1 texts) nothing_given
      ≡ with_items (items_of tool next (at + 1) (drop at texts)) told
  pub operands : take 7 (operands_in (items_of tool AnyWord 1 texts))
      ≡ take 7 (kept ++ operands_in (items_of tool next (at + 1) (drop at texts)))

-- the items from a place on are those of the word there, and those behind it
items_here : (tool : Tool) (texts : List (List ℕ)) (at : ℕ) (next : Next) (text : List ℕ) → at < length texts
    → text ≡ get_or texts at []
    → items_of tool next (at + 1) (drop at texts)
    ≡ (word_says tool next (at + 1) text).items
    ++ items_of tool (word_says tool next (at + 1) text).next (at + 1 + 1) (drop (at + 1) texts)
items_here tool texts at next text inside is =
    let here : drop at texts ≡ text ∷ drop (at + 1) texts = grind (arith, drop-cons texts at [] inside, add-one at) in
    ap (items_of tool next (at + 1)) here

-- one more word was read
pub scanned_more : (tool : Tool) (texts : List (List ℕ)) (at : ℕ) (next : Next) (told : GivenOptions)
    (kept : List Operand) (text : List ℕ)
    (wanted : NextWord) (told' : GivenOptions) (kept' : List Operand)
    → IsScanned tool texts at next told kept → at < length texts → text ≡ get_or texts at []
    → Reads (word_says tool next (at + 1) text) told told' (Ok wanted)
    → KeepsOperands (word_says tool next (at + 1) text).items kept kept'
    → IsScanned tool texts (at + 1) (next_of wanted) told' kept'
scanned_more tool texts at next told kept text wanted told' kept' so inside is reads keeps =
    let said = word_says tool next (at + 1) text in
    let rest = items_of tool (next_of wanted) (at + 1 + 1) (drop (at + 1) texts) in
    let here : items_of tool next (at + 1) (drop at texts) ≡ said.items ++ rest =
    rw reads.1 (items_here tool texts at next text inside is) in
    record {
      given = so.given ∙ ap (λ (items : List Item). with_items items told) here ∙ with_items-append said.items rest told
          ∙ ap (λ (r : Result GivenOptions Fault). r >>= λ (t : GivenOptions). with_items rest t) reads.0;
      operands = so.operands ∙ ap (λ (items : List Item). take 7 (kept ++ operands_in items)) here
          ∙ ap (λ (os : List Operand). take 7 (kept ++ os)) (operands_in-append said.items rest)
          ∙ sym (keeps (operands_in rest));
    }

-- a word has a fault
pub scanned_fault : (tool : Tool) (texts : List (List ℕ)) (at : ℕ) (next : Next) (told : GivenOptions)
    (kept : List Operand) (text : List ℕ)
    (met : Fault) (told' : GivenOptions)
    → IsScanned tool texts at next told kept → at < length texts → text ≡ get_or texts at []
    → Reads (word_says tool next (at + 1) text) told told' (Err met)
    → with_items (items_of tool AnyWord 1 texts) nothing_given ≡ Err met
scanned_fault tool texts at next told kept text met told' so inside is reads =
    let said = word_says tool next (at + 1) text in
    let rest = items_of tool said.next (at + 1 + 1) (drop (at + 1) texts) in
    so.given ∙ ap (λ (items : List Item). with_items items told) (items_here tool texts at next text inside is)
    ∙ with_items-append said.items rest told
    ∙ ap (λ (r : Result GivenOptions Fault). r >>= λ (t : GivenOptions). with_items rest t) reads
