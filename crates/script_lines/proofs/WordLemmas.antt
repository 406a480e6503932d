-- The words of a text are texts.
use Rattle.std.proofs.Common.{◌≡◌, ℕ, zero, suc, ◌+◌, ◌<◌, ◌≤◌, true, false, List, [], ◌∷◌, ◌++◌, length, get_or}
use Rattle.std.proofs.Common.{string_bytes, String, ◌⊎◌, inl, inr, sym, ap, ◌∙◌, arith, append_assoc, length-drop}
use Rattle.std.specs.declared.alloc.Global.{Global}
use Rattle.std.specs.List.{All, after_first, before_first, position_or_len, slice_split}
use Rattle.std.specs.Str.{IsUtf8}
use Rattle.std.proofs.lemmas.Bool.{cases_lt}
use Rattle.std.proofs.lemmas.Bool.Decides.{nat_tests}
use Rattle.std.proofs.lemmas.List.{map-append}
use Rattle.std.proofs.lemmas.List.Elements.{All-cons, All-filter, All-from_get_or, All-nil, All-same}
use Rattle.std.proofs.lemmas.List.Splits.{slice_split_first, slice_split_none}
use Rattle.std.proofs.lemmas.List.Sums.{fails_before_first, passes_at_first}
use Rattle.std.proofs.lemmas.Str.{IsCharBoundary-after_ascii, IsCharBoundary-before_ascii, IsUtf8-drop, IsUtf8-take}
use Rattle.option_words.specs.Items.{texts_of}
use Rattle.input_text.specs.Words.{is_blank, is_word, words_of}

-- a blank is ASCII
blank_ascii : (byte : ℕ) → is_blank byte ≡ true → byte < 128
blank_ascii byte blank = grind (arith, nat_tests)

-- the place of the first blank
abbrev blank_at : List ℕ → ℕ
blank_at text = position_or_len is_blank text

at_blank : (text : List ℕ) → blank_at text < length text → get_or text (blank_at text) 0 < 128
at_blank text within = blank_ascii (get_or text (blank_at text) 0) (passes_at_first is_blank text 0 within)

parts_by : (text : List ℕ) → IsUtf8 text
    → (blank_at text < length text → All IsUtf8 (slice_split is_blank (after_first is_blank text)))
    → (blank_at text < length text) ⊎ (length text ≤ blank_at text) → All IsUtf8 (slice_split is_blank text)
parts_by text utf8 behind (inl within) =
    All-same IsUtf8 _ _ (slice_split_first is_blank text 0 within)
    (All-cons IsUtf8 (before_first is_blank text) _
    (IsUtf8-take text (blank_at text) utf8
    (IsCharBoundary-before_ascii text (blank_at text) within (at_blank text within))) (behind within))
parts_by text utf8 behind (inr all) =
    All-same IsUtf8 _ _
    (slice_split_none is_blank text
    (All-from_get_or (λ (byte : ℕ). is_blank byte ≡ false) text 0
    (λ at within. fails_before_first is_blank text at 0 (omega arith))))
    (All-cons IsUtf8 text [] utf8 (All-nil IsUtf8))

-- the parts of a text between blanks are texts
parts_utf8 : (more : ℕ) (text : List ℕ) → length text < more → IsUtf8 text → All IsUtf8 (slice_split is_blank text)
parts_utf8 zero text few utf8 = absurd (omega arith)
parts_utf8 (suc more) text few utf8 =
    parts_by text utf8
    (λ within. parts_utf8 more (after_first is_blank text) (omega (arith, length-drop (blank_at text + 1) text))
    (IsUtf8-drop text (blank_at text + 1) utf8
    (IsCharBoundary-after_ascii text (blank_at text) utf8 within (at_blank text within))))
    (cases_lt (blank_at text) (length text))

-- and so are its words
pub words_utf8 : (text : List ℕ) → IsUtf8 text → All IsUtf8 (words_of text)
unfolding words_of
words_utf8 text utf8 =
    All-filter is_word IsUtf8 (slice_split is_blank text) (parts_utf8 (suc (length text)) text (omega arith) utf8)

-- One more word was copied.
pub words_more : (words : List (String Global)) (word : String Global) (bytes : List ℕ)
    (all rest behind : List (List ℕ)) → all ≡ texts_of words ++ rest → rest ≡ bytes ∷ behind → string_bytes word ≡ bytes
    → all ≡ texts_of (words ++ (word ∷ [])) ++ behind
words_more words word bytes all rest behind is next same =
    is ∙ ap (λ (r : List (List ℕ)). texts_of words ++ r) (next ∙ ap (λ (b : List ℕ). b ∷ behind) (sym same))
    ∙ sym (append_assoc (texts_of words) (string_bytes word ∷ []) behind)
    ∙ ap (λ (t : List (List ℕ)). t ++ behind)
    (sym (map-append (λ (w : String Global). string_bytes w) words (word ∷ [])))
