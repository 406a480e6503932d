-- A form that is read, line by line.
use Rattle.std.proofs.Common.{◌≡◌, ℕ, ◌+◌, ◌-◌, ◌≤◌, Bool, true, false, if◌then◌else◌, List, [], ◌∷◌, ◌++◌, length}
use Rattle.std.proofs.Common.{get_or, map, Some, None, Result, Ok, Err, Bor, IsTrue, codes, decimal, refl, sym, ap, ◌∙◌}
use Rattle.std.proofs.Common.{arith, append_assoc, append-nil}
use Rattle.std.specs.Prelude.{◌&&◌, is_some, IfOk, IfErr, OnOk}
use Rattle.std.specs.Str.{bytes_eq}
use Rattle.quota_types.specs.declared.file_kind.Kind.{Kind}
use Rattle.quota_types.specs.declared.file_kind.Kind.TheVariants.{User, Group, Project}
use Rattle.input_text.specs.LineReading.{line_then, IsLineFault, LinesSeen, NamesLine, line_given}
use Rattle.input_text.specs.Lines.{next_line_of}
use Rattle.input_text.specs.Numeral.{number_of}
use Rattle.input_text.specs.Words.{words_behind, words_eq, words_of}
use Rattle.input_text.specs.declared.line_reader.LineFault.{LineFault}
use Rattle.input_text.specs.declared.line_reader.LineFault.TheVariants.{Source, Long, TooLarge}
use Rattle.input_text.proofs.InputLinesLemmas.{input_lines-long, input_lines-past, lines_left-next}
use Rattle.input_text.proofs.WordsLemmas.{words_eq_front, words_eq_front_none, words_of-append, words_of-blank}
use Rattle.input_text.proofs.WordsLemmas.{words_of-nil}
use Rattle.set_edit.specs.Form.{form_title, id_front, name_front}
use Rattle.set_edit.specs.FormReading.{all_limits, form_in, form_read, limits_in, then_read}
use Rattle.set_edit.specs.FormFaults.{IsFormFault, IsLinesFault, form_lines}
use Rattle.set_edit.specs.declared.form_reading.FormFault.{FormFault}
use Rattle.set_edit.specs.declared.form_reading.FormFault.TheVariants.{Lines, BadForm}
use Rattle.set_edit.specs.Number.{limit_of}

-- The words of the third line.

-- other than seven words have no limits
pub limits_in-other : (file : List ℕ) (words : List (List ℕ)) → (length words ≡ 7 → ⊥) → limits_in file words ≡ None
unfolding limits_in
limits_in-other file [] other = refl
limits_in-other file (a ∷ []) other = refl
limits_in-other file (a ∷ b ∷ []) other = refl
limits_in-other file (a ∷ b ∷ c ∷ []) other = refl
limits_in-other file (a ∷ b ∷ c ∷ d ∷ []) other = refl
limits_in-other file (a ∷ b ∷ c ∷ d ∷ e ∷ []) other = refl
limits_in-other file (a ∷ b ∷ c ∷ d ∷ e ∷ f ∷ []) other = refl
limits_in-other file (a ∷ b ∷ c ∷ d ∷ e ∷ f ∷ g ∷ []) other = absurd (other refl)
limits_in-other file (a ∷ b ∷ c ∷ d ∷ e ∷ f ∷ g ∷ h ∷ words) other = refl

-- seven words, each by its place
record IsSeven (words : List (Bor (List ℕ))) (none : Bor (List ℕ)) : Type 0 where
  are : map (λ (word : Bor (List ℕ)). word.now) words
      ≡ (get_or words 0 none).now ∷ (get_or words 1 none).now ∷ (get_or words 2 none).now ∷ (get_or words 3 none).now
      ∷ (get_or words 4 none).now ∷ (get_or words 5 none).now ∷ (get_or words 6 none).now ∷ []

is_seven : (words : List (Bor (List ℕ))) (none : Bor (List ℕ)) → length words ≡ 7 → IsSeven words none
is_seven (a ∷ b ∷ c ∷ d ∷ e ∷ f ∷ g ∷ []) none seven = record { are = refl }
is_seven [] none seven = absurd (omega arith)
is_seven (a ∷ []) none seven = absurd (omega arith)
is_seven (a ∷ b ∷ []) none seven = absurd (omega arith)
is_seven (a ∷ b ∷ c ∷ []) none seven = absurd (omega arith)
is_seven (a ∷ b ∷ c ∷ d ∷ []) none seven = absurd (omega arith)
is_seven (a ∷ b ∷ c ∷ d ∷ e ∷ []) none seven = absurd (omega arith)
is_seven (a ∷ b ∷ c ∷ d ∷ e ∷ f ∷ []) none seven = absurd (omega arith)
is_seven (a ∷ b ∷ c ∷ d ∷ e ∷ f ∷ g ∷ h ∷ words) none seven = absurd (omega arith)

limits_by : (file name used bsoft bhard inodes isoft ihard : List ℕ) (usage : Bool)
    → (bytes_eq name file && is_some (number_of used) && is_some (number_of inodes)) ≡ usage
    → limits_in file (name ∷ used ∷ bsoft ∷ bhard ∷ inodes ∷ isoft ∷ ihard ∷ [])
    ≡ (if usage
    then all_limits (limit_of true bsoft) (limit_of true bhard) (limit_of false isoft) (limit_of false ihard) else None)
unfolding limits_in
limits_by file name used bsoft bhard inodes isoft ihard usage is =
    ap (λ (usage : Bool). if usage
    then all_limits (limit_of true bsoft) (limit_of true bhard) (limit_of false isoft) (limit_of false ihard) else None)
    is

limits_in-seven : (file : List ℕ) (words : List (Bor (List ℕ))) (none : Bor (List ℕ)) (usage : Bool) → length words ≡ 7
    → usage ≡ (bytes_eq (get_or words 0 none).now file && is_some (number_of (get_or words 1 none).now)
    && is_some (number_of (get_or words 4 none).now))
    → limits_in file (map (λ (word : Bor (List ℕ)). word.now) words)
    ≡ (if usage then all_limits (limit_of true (get_or words 2 none).now) (limit_of true (get_or words 3 none).now)
    (limit_of false (get_or words 5 none).now) (limit_of false (get_or words 6 none).now) else None)
limits_in-seven file words none usage seven is =
    let s = is_seven words none seven in
    ap (limits_in file) s.are ∙ limits_by file _ _ _ _ _ _ _ usage (sym is)

-- the limits are those of the other four words, where the first is the file's name and two are numbers
pub limits_in-usage : (file : List ℕ) (words : List (Bor (List ℕ))) (none : Bor (List ℕ)) (usage : Bool)
    → length words ≡ 7
    → usage ≡ (bytes_eq (get_or words 0 none).now file && is_some (number_of (get_or words 1 none).now)
    && is_some (number_of (get_or words 4 none).now))
    → usage ≡ true
    → limits_in file (map (λ (word : Bor (List ℕ)). word.now) words)
    ≡ all_limits (limit_of true (get_or words 2 none).now) (limit_of true (get_or words 3 none).now)
    (limit_of false (get_or words 5 none).now) (limit_of false (get_or words 6 none).now)
limits_in-usage file words none usage seven is good = limits_in-seven file words none true seven (sym good ∙ is)

pub limits_in-no_usage : (file : List ℕ) (words : List (Bor (List ℕ))) (none : Bor (List ℕ)) (usage : Bool)
    → length words ≡ 7
    → usage ≡ (bytes_eq (get_or words 0 none).now file && is_some (number_of (get_or words 1 none).now)
    && is_some (number_of (get_or words 4 none).now))
    → usage ≡ false
    → limits_in file (map (λ (word : Bor (List ℕ)). word.now) words) ≡ None
limits_in-no_usage file words none usage seven is bad = limits_in-seven file words none false seven (sym bad ∙ is)

-- The title.

middle_words : (front name back : List ℕ)
    → words_of ((front ++ 32 ∷ []) ++ name ++ (32 ∷ back))
    ≡ words_of (front ++ 32 ∷ []) ++ (words_of name ++ words_of (32 ∷ back))
middle_words front name back =
    ap words_of (append_assoc (front ++ 32 ∷ []) name (32 ∷ back) ∙ append_assoc front (32 ∷ []) (name ++ 32 ∷ back))
    ∙ words_of-append front 32 (name ++ 32 ∷ back) refl
    ∙ ap (λ (words : List (List ℕ)). words_of front ++ words) (words_of-append name 32 back refl)
    ∙ ap (λ (words : List (List ℕ)). words ++ (words_of name ++ words_of back))
    (sym (append-nil (words_of front)) ∙ ap (λ (words : List (List ℕ)). words_of front ++ words) (sym words_of-nil)
    ∙ sym (words_of-append front 32 [] refl))
    ∙ ap (λ (words : List (List ℕ)). words_of (front ++ 32 ∷ []) ++ (words_of name ++ words))
    (sym (words_of-blank 32 back refl))

-- the words of the title are those in front of the name, those of the name, and those behind it
pub title_words : (kind : Kind) (name : List ℕ) (id : ℕ)
    → words_of (form_title kind name id)
    ≡ words_of (name_front kind) ++ (words_of name ++ words_of (id_front kind ++ decimal id ++ codes "):"))
unfolding name_front id_front
title_words User name id =
    ap words_of (simp append_assoc)
    ∙ middle_words (codes "Disk quotas for user") name (codes "(uid " ++ decimal id ++ codes "):")
title_words Group name id =
    ap words_of (simp append_assoc)
    ∙ middle_words (codes "Disk quotas for group") name (codes "(gid " ++ decimal id ++ codes "):")
title_words Project name id =
    ap words_of (simp append_assoc)
    ∙ middle_words (codes "Disk quotas for project") name (codes "(pid " ++ decimal id ++ codes "):")

-- The lines of a form.

-- what a reader gives next is the next line that the form has
pub next-of : (result : Result Bool LineFault) (tells : Bool) (old new : LinesSeen) (left left_now line : List ℕ)
    → IfOk result (λ more. IsTrue tells
    → next_line_of 1024 (16777216 - old.given) (old.held ++ left) ≡ line_given more line (new.held ++ left_now))
    → OnOk result (IsTrue tells → new.given + length (new.held ++ left_now) ≡ old.given + length (old.held ++ left))
    → IfOk result (λ more. IsTrue tells → form_lines old left ≡ line_then more line (form_lines new left_now))
next-of (Ok more) tells old new left left_now line next given =
    λ told. lines_left-next 1024 16777216 old new left left_now more line (next told) (given told)
next-of (Err fault) tells old new left left_now line next given = tt

fault_by : (fault : LineFault) (before now : ℕ) (tells : Bool) (old : LinesSeen) (left : List ℕ)
    → IsLineFault before now tells (next_line_of 1024 (16777216 - old.given) (old.held ++ left)) fault
    → NamesLine old.number fault
    → IsLinesFault before now tells old.number (form_lines old left) fault
fault_by Source before now tells old left cause named = cause
fault_by (Long number) before now tells old left cause named =
    (named, λ told. input_lines-long 1024 (16777216 - old.given) (old.held ++ left) (cause told))
fault_by TooLarge before now tells old left cause named =
    λ told. input_lines-past 1024 (16777216 - old.given) (old.held ++ left) (cause told)

-- why a reader gives none is why the form has none
pub fault-of : (result : Result Bool LineFault) (before now : ℕ) (tells : Bool) (old : LinesSeen) (left : List ℕ)
    → IfErr result (IsLineFault before now tells (next_line_of 1024 (16777216 - old.given) (old.held ++ left)))
    → IfErr result (NamesLine old.number)
    → IfErr result (IsLinesFault before now tells old.number (form_lines old left))
fault-of (Ok more) before now tells old left cause named = tt
fault-of (Err fault) before now tells old left cause named = fault_by fault before now tells old left cause named

-- a title whose front is another
pub title-front : (kind : Kind) (name : List ℕ) (id : ℕ) (line : List ℕ)
    → words_behind (words_of (name_front kind)) (words_of line) ≡ None
    → words_eq (words_of line) (words_of (form_title kind name id)) ≡ false
title-front kind name id line none =
    ap (words_eq (words_of line)) (title_words kind name id)
    ∙ words_eq_front_none (words_of (name_front kind)) _ (words_of line) none

-- a title whose name is another
pub title-name : (kind : Kind) (name : List ℕ) (id : ℕ) (line rest : List ℕ)
    → words_behind (words_of (name_front kind)) (words_of line) ≡ Some (words_of rest)
    → words_behind (words_of name) (words_of rest) ≡ None
    → words_eq (words_of line) (words_of (form_title kind name id)) ≡ false
title-name kind name id line rest front none =
    ap (words_eq (words_of line)) (title_words kind name id)
    ∙ words_eq_front (words_of (name_front kind)) _ (words_of line) (words_of rest) front
    ∙ words_eq_front_none (words_of name) _ (words_of rest) none

-- a title with the name is told by what is behind it
pub title-end : (kind : Kind) (name : List ℕ) (id : ℕ) (line rest behind : List ℕ)
    → words_behind (words_of (name_front kind)) (words_of line) ≡ Some (words_of rest)
    → words_behind (words_of name) (words_of rest) ≡ Some (words_of behind)
    → words_eq (words_of line) (words_of (form_title kind name id))
    ≡ words_eq (words_of behind) (words_of (id_front kind ++ decimal id ++ codes "):"))
title-end kind name id line rest behind front named =
    ap (words_eq (words_of line)) (title_words kind name id)
    ∙ words_eq_front (words_of (name_front kind)) _ (words_of line) (words_of rest) front
    ∙ words_eq_front (words_of name) _ (words_of rest) (words_of behind) named

-- Step by step.

-- a reader that has given nothing has all lines to give
pub form_read-start : (kind : Kind) (name : List ℕ) (id : ℕ) (file left : List ℕ) (reader : LinesSeen)
    → reader ≡ record { held = []; number = 1; given = 0 }
    → form_read kind name id file left ≡ form_in kind name id file (form_lines reader left)
unfolding form_read
form_read-start kind name id file left reader is =
    ap (λ (seen : LinesSeen). form_in kind name id file (form_lines seen left)) (sym is)

-- a step gave a value
pub step_on : {A B : Type 0} (read : Result B FormFault) (first : Result A FormFault)
    (next : A → Result B FormFault) (value : A)
    → read ≡ then_read first next → first ≡ Ok value → read ≡ next value
step_on read first next value is e = is ∙ ap (λ r. then_read r next) e

-- a step ended in a fault
pub step_stops : {A B : Type 0} (read : Result B FormFault) (first : Result A FormFault) (next : A → Result B FormFault)
    (fault : FormFault)
    → read ≡ then_read first next → first ≡ Err fault → read ≡ Err fault
step_stops read first next fault is e = is ∙ ap (λ r. then_read r next) e

-- a fault of a step is one of the whole
pub fault-then : {A B : Type 0} (fault : FormFault) (before between now : ℕ) (tells : Bool) (first : Result A FormFault)
    (read : Result B FormFault)
    → before ≤ between → (IsTrue tells → (next : A → Result B FormFault) × (read ≡ then_read first next))
    → IsFormFault between now tells first fault → IsFormFault before now tells read fault
fault-then (Lines Source) before between now tells first read later steps cause = omega arith
fault-then (Lines (Long number)) before between now tells first read later steps cause =
    λ told. let step = steps told in step_stops read first step.0 (Lines (Long number)) step.1 (cause told)
fault-then (Lines TooLarge) before between now tells first read later steps cause =
    λ told. let step = steps told in step_stops read first step.0 (Lines TooLarge) step.1 (cause told)
fault-then (BadForm number) before between now tells first read later steps cause =
    λ told. let step = steps told in step_stops read first step.0 (BadForm number) step.1 (cause told)
