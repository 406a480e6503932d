use Rattle.std.proofs.Common.{List, ℕ, ap, sym, ◌∙◌}
use Rattle.input_text.specs.Words.{words_behind, words_eq, words_of}
use Rattle.set_edit.proofs.FormReadingLemmas.{title-end, title-front, title-name}
use Rattle.set_edit.proofs.form_reading.is_title.Goals as goal

pub returns-in_default : goal.returns-in_default
returns-in_default c =
    let a = c.args in
    sym (title-front a.kind a.name.now a.id a.line.now
    (ap (λ (front : List ℕ). words_behind (words_of front) (words_of a.line.now)) (sym c.name_front.ensures)
    ∙ sym c.in_default.ensures))

pub returns-in_default-after_words : goal.returns-in_default-after_words
returns-in_default-after_words c =
    let a = c.args in
    sym (title-name a.kind a.name.now a.id a.line.now c.in-Some.rest.now
    (ap (λ (front : List ℕ). words_behind (words_of front) (words_of a.line.now)) (sym c.name_front.ensures)
    ∙ sym c.in-Some.ensures)
    (sym c.in_default-after_words.ensures))

pub returns : goal.returns
returns c =
    let a = c.args in
    let rest = c.in-Some-after_words.rest.now in
    c.has_words.ensures
    ∙ ap (λ (text : List ℕ). words_eq (words_of rest) (words_of text))
    (c.as_slice.ensures.value ∙ c.title_end.ensures.text)
    ∙ sym (title-end a.kind a.name.now a.id a.line.now c.in-Some.rest.now rest
    (ap (λ (front : List ℕ). words_behind (words_of front) (words_of a.line.now)) (sym c.name_front.ensures)
    ∙ sym c.in-Some.ensures)
    (sym c.in-Some-after_words.ensures))
