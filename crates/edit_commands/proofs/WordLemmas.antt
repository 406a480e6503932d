-- Words that stand for identifiers, limits and times, of which one is faulty.
use Rattle.std.proofs.Common.{◌≡◌, ℕ, true, false, if◌then◌else◌, nat_lt, ◌^◌, List, [], ◌∷◌, length, Option, None}
use Rattle.std.proofs.Common.{Some, Err, ◌⊎◌, inl, inr, refl, sym, ap, subst, ◌∙◌, ◌≢◌}
use Rattle.std.specs.Prelude.{◌&&◌, codes, is_none}
use Rattle.std.proofs.lemmas.Option.{none-some}
use Rattle.std.specs.Str.{all_ascii_digits, bytes_eq}
use Rattle.id_names.specs.FirstMatch.{first_id}
use Rattle.id_names.specs.NamesFile.{NameLine}
use Rattle.input_text.specs.Numeral.{number_of, value_of}
use Rattle.set_edit.specs.Number.{limit_of}
use Rattle.set_edit.specs.declared.time_word.TimeWord.TheVariants.{Seconds, Unset}
use Rattle.refusals.specs.declared.cause.Cause.{Cause}
use Rattle.refusals.specs.declared.cause.Cause.TheVariants.{UnknownName, BadNumber, SinkFault}
use Rattle.refusals.specs.declared.reason.Place.{Place}
use Rattle.refusals.specs.declared.reason.Refusal.{Refusal}
use Rattle.edit_commands.specs.declared.edit.EditWords.{EditWords}
use Rattle.edit_commands.specs.declared.edit.EditWords.TheVariants.{Limits, Copy, Grace, Times}
use Rattle.edit_commands.specs.declared.edit.FileEdit.{FileEdit}
use Rattle.refusals.specs.Refusals.{nowhere, refusal_of}
use Rattle.refusals.specs.Status.{status_of}
use Rattle.run_steps.specs.Done.{RunSeen, RunTells}
use Rattle.refusals.specs.Outcome.{Outcome, Passed, Refused, and_then, refusal_in}
use Rattle.run_steps.specs.Run.{HasReason, Uses}
use Rattle.run_steps.specs.Carrying.{CarriesOut}
use Rattle.run_steps.specs.Steps.{Steps, Then}
use Rattle.run_steps.specs.Naming.{MayBeNames}
use Rattle.edit_commands.specs.EditWords.{edit_read, edit_warns, words_warn}
use Rattle.run_steps.specs.Numbers.{grace_read, identifier_of, known, limit_read, limits_read, number_or_refused}
use Rattle.run_steps.specs.Numbers.{seconds_read, time_read}
use Rattle.run_steps.proofs.PhaseLemmas.{stop_carried}
use Rattle.edit_steps.proofs.OutcomeLemmas.{OnlyRefused, only_then, only_if}

-- a refusal of a word that names nothing or is no number, which stands in no line
abbrev pub IsOfWord : Refusal → Type 0
IsOfWord refusal = ((refusal.cause ≡ UnknownName) ⊎ (refusal.cause ≡ BadNumber)) × (refusal.place ≡ nowhere)

known_word : (found : Option ℕ) (word : List ℕ) → OnlyRefused IsOfWord (known found word)
known_word (Some id) word = tt
known_word None word = (inl refl, refl)

identifier_word : (names : List NameLine) (word : List ℕ) → OnlyRefused IsOfWord (identifier_of names word)
identifier_word names word =
    let named : Outcome ℕ =
    if nat_lt (value_of word) (2 ^ 32) then Passed (value_of word) else Refused (refusal_of BadNumber word) in
    only_if IsOfWord (nat_lt 0 (length word) && all_ascii_digits word) named (known (first_id names word) word)
    (only_if IsOfWord (nat_lt (value_of word) (2 ^ 32)) (Passed (value_of word)) (Refused (refusal_of BadNumber word))
    tt (inr refl, refl)) (known_word (first_id names word) word)

number_word : (word : List ℕ) (number : Option ℕ) → OnlyRefused IsOfWord (number_or_refused word number)
number_word word (Some number) = tt
number_word word None = (inr refl, refl)

limits_words : (words : List (List ℕ)) → OnlyRefused IsOfWord (limits_read words)
limits_words (a ∷ b ∷ c ∷ d ∷ []) =
    only_then IsOfWord (limit_read true a) _ (number_word a (limit_of true a)) (λ bs.
    only_then IsOfWord (limit_read true b) _ (number_word b (limit_of true b)) (λ bh.
    only_then IsOfWord (limit_read false c) _ (number_word c (limit_of false c)) (λ is.
    only_then IsOfWord (limit_read false d) _ (number_word d (limit_of false d)) (λ ih. tt))))
limits_words _ = (inr refl, refl)

grace_words : (block inode : List ℕ) → OnlyRefused IsOfWord (grace_read block inode)
grace_words block inode =
    only_then IsOfWord (seconds_read block) _ (number_word block (number_of block)) (λ b.
    only_then IsOfWord (seconds_read inode) _ (number_word inode (number_of inode)) (λ i. tt))

time_word : (word : List ℕ) → OnlyRefused IsOfWord (time_read word)
time_word word =
    only_if IsOfWord (bytes_eq word (codes "unset")) (Passed Unset)
    (and_then (seconds_read word) (λ (seconds : ℕ). Passed (Seconds seconds))) tt
    (only_then IsOfWord (seconds_read word) _ (number_word word (number_of word)) (λ s. tt))

edit_words : (names : List NameLine) (words : EditWords) → OnlyRefused IsOfWord (edit_read names words)
edit_words names (Limits name limits) =
    only_then IsOfWord (identifier_of names name) _ (identifier_word names name)
    (λ id. only_then IsOfWord (limits_read limits) _ (limits_words limits) (λ four. tt))
edit_words names (Copy proto name) =
    only_then IsOfWord (identifier_of names proto) _ (identifier_word names proto)
    (λ from. only_then IsOfWord (identifier_of names name) _ (identifier_word names name) (λ to. tt))
edit_words names (Grace block inode) =
    only_then IsOfWord (grace_read block inode) _ (grace_words block inode) (λ grace. tt)
edit_words names (Times name block inode) =
    only_then IsOfWord (identifier_of names name) _ (identifier_word names name) (λ id.
    only_then IsOfWord (time_read block) _ (time_word block) (λ b.
    only_then IsOfWord (time_read inode) _ (time_word inode) (λ i. tt)))

-- the refusal of the words of an edit is one of a word
pub edit_refusal : (names : List NameLine) (words : EditWords) (refusal : Refusal)
    → edit_read names words ≡ Refused refusal → IsOfWord refusal
edit_refusal names words refusal read =
    subst (λ (o : Outcome FileEdit). OnlyRefused IsOfWord o) read (edit_words names words)

-- the refusal of a word belongs to the effect
word_reason : (uses : Uses) (old : RunSeen) (refusal : Refusal)
    → (refusal.cause ≡ UnknownName) ⊎ (refusal.cause ≡ BadNumber) → (stated : Type 0) → stated
    → HasReason uses old old stated refusal.cause
word_reason uses old refusal (inl is) stated fact = subst (λ (c : Cause). HasReason uses old old stated c) (sym is) fact
word_reason uses old refusal (inr is) stated fact = subst (λ (c : Cause). HasReason uses old old stated c) (sym is) fact

-- no output failed for it
word_no_output : (refusal : Refusal) → (refusal.cause ≡ UnknownName) ⊎ (refusal.cause ≡ BadNumber)
    → Some refusal.cause ≢ Some SinkFault
word_no_output refusal (inl is) same = cc
word_no_output refusal (inr is) same = cc

-- the status of such a refusal is 1
pub word_status : (refusal : Refusal) → IsOfWord refusal → status_of refusal.cause ≡ 1
word_status refusal (inl is, place) = ap status_of is
word_status refusal (inr is, place) = ap status_of is

-- a refusal that stands in no line, by its cause and what it is about
pub refusal_nowhere : (refusal : Refusal) → refusal.place ≡ nowhere → refusal ≡ refusal_of refusal.cause refusal.name
refusal_nowhere refusal is = ap (λ (p : Place). record { cause = refusal.cause; name = refusal.name; place = p }) is

-- a word that is refused
pub word_refused : {V : Type 0} (outcome : Outcome V) (next : V → Steps) (uses : Uses) (more : Cause → List ℕ → Type 0)
    (tells : RunTells) (old : RunSeen) (refusal : Refusal) → outcome ≡ Refused refusal → IsOfWord refusal
    → (outcome ≡ Refused (refusal_of refusal.cause refusal.name) → more refusal.cause refusal.name)
    → CarriesOut (Then outcome next) uses more tells old old (Err refusal)
word_refused outcome next uses more tells old refusal read word allows =
    subst (λ (o : Outcome _). CarriesOut (Then o next) uses more tells old old (Err refusal)) (sym read)
    (stop_carried uses more tells old refusal (word_no_output refusal word.0) (word_reason uses old refusal word.0)
    (allows (read ∙ ap (λ (r : Refusal). Refused r) (refusal_nowhere refusal word.1)))
    (record {
      line = λ no. ap (λ (p : Place). p.line) word.1;
      input_line = λ no. ap (λ (p : Place). p.input_line) word.1;
    }))

-- the refusal of the word for an identifier is one of a word
pub identifier_refusal : (names : List NameLine) (word : List ℕ) (refusal : Refusal)
    → identifier_of names word ≡ Refused refusal → IsOfWord refusal
identifier_refusal names word refusal read =
    subst (λ (o : Outcome ℕ). OnlyRefused IsOfWord o) read (identifier_word names word)

-- words of an edit that are refused
pub words_refused : (names : List NameLine) (words : EditWords) (next : FileEdit → Steps) (uses : Uses)
    (more : Cause → List ℕ → Type 0) (tells : RunTells) (old : RunSeen) (refusal : Refusal)
    → edit_read names words ≡ Refused refusal
    → (edit_read names words ≡ Refused (refusal_of refusal.cause refusal.name) → more refusal.cause refusal.name)
    → CarriesOut (Then (edit_read names words) next) uses more tells old old (Err refusal)
words_refused names words next uses more tells old refusal read allows =
    word_refused (edit_read names words) next uses more tells old refusal read
    (edit_refusal names words refusal read) allows

-- an outcome that is refused so
pub refused_as : {V : Type 0} (outcome : Outcome V) (refusal other : Refusal) → refusal_in outcome ≡ Some refusal
    → outcome ≡ Refused other → other ≡ refusal
refused_as (Passed value) refusal other is read = absurd (cc)
refused_as (Refused this) refusal other is read = cc

-- an outcome that passed is not refused
pub passed_not : {V : Type 0} {F : Type 0} (outcome : Outcome V) (value : V) (refusal : Refusal)
    → refusal_in outcome ≡ Some refusal → outcome ≡ Passed value → F
passed_not outcome value refusal is read =
    absurd (none-some refusal (sym (ap (λ (o : Outcome _). refusal_in o) read) ∙ is))

-- an outcome that passed by a step and then another one
then_passed : {V W : Type 0} (outcome : Outcome V) (next : V → Outcome W) (value : W)
    → and_then outcome next ≡ Passed value → (first : V) × (next first ≡ Passed value)
then_passed (Passed first) next value is = (first, is)
then_passed (Refused refusal) next value is = absurd (cc)

warns_as : (edit other : FileEdit) → ◌≡◌ {A = Outcome FileEdit} (Passed other) (Passed edit)
    → edit_warns edit ≡ edit_warns other
warns_as edit other is = let same : other ≡ edit = cc in ap edit_warns (sym same)

-- an edit that was read warns where its words do
pub warns_read : (names : List NameLine) (words : EditWords) (edit : FileEdit) → edit_read names words ≡ Passed edit
    → edit_warns edit ≡ words_warn words
warns_read names (Limits name limits) edit is =
    let one = then_passed (identifier_of names name) _ edit is in
    let two = then_passed (limits_read limits) _ edit one.1 in
    warns_as edit _ two.1
warns_read names (Copy proto name) edit is =
    let one = then_passed (identifier_of names proto) _ edit is in
    let two = then_passed (identifier_of names name) _ edit one.1 in
    warns_as edit _ two.1
warns_read names (Grace block inode) edit is =
    let one = then_passed (grace_read block inode) _ edit is in
    warns_as edit _ one.1
warns_read names (Times name block inode) edit is =
    let one = then_passed (identifier_of names name) _ edit is in
    let two = then_passed (time_read block) _ edit one.1 in
    let three = then_passed (time_read inode) _ edit two.1 in
    warns_as edit _ three.1

-- a faulty word whose refusal rests on no file of names is refused with the names that are given
pub faulty_given : (words : EditWords) (wanted : Option (List ℕ)) (names : List NameLine) (refusal : Refusal)
    → MayBeNames wanted names
    → (if is_none wanted then refusal_in (edit_read [] words) else None) ≡ Some refusal
    → refusal_in (edit_read names words) ≡ Some refusal
faulty_given words None names refusal given is =
    subst (λ (n : List NameLine). refusal_in (edit_read n words) ≡ Some refusal) (sym given) is
faulty_given words (Some name) names refusal given is = absurd (cc)

-- such a word comes with no file of names
pub faulty_none : (words : EditWords) (wanted : Option (List ℕ)) (refusal : Refusal)
    → (if is_none wanted then refusal_in (edit_read [] words) else None) ≡ Some refusal → wanted ≡ None
faulty_none words None refusal is = refl
faulty_none words (Some name) refusal is = absurd (cc)

-- a faulty word for an identifier, which is refused whatever the names, is refused with these
pub faulty_word_given : (word : List ℕ) (wanted : Option (List ℕ)) (names : List NameLine) (refusal : Refusal)
    → MayBeNames wanted names
    → (if is_none wanted then refusal_in (identifier_of [] word) else None) ≡ Some refusal
    → refusal_in (identifier_of names word) ≡ Some refusal
faulty_word_given word None names refusal given is =
    subst (λ (n : List NameLine). refusal_in (identifier_of n word) ≡ Some refusal) (sym given) is
faulty_word_given word (Some name) names refusal given is = absurd (cc)

pub faulty_word_none : (word : List ℕ) (wanted : Option (List ℕ)) (refusal : Refusal)
    → (if is_none wanted then refusal_in (identifier_of [] word) else None) ≡ Some refusal → wanted ≡ None
faulty_word_none word None refusal is = refl
faulty_word_none word (Some name) refusal is = absurd (cc)
