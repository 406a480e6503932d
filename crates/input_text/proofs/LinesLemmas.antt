-- The next line of an input, from the place of its first newline, and step by step as pieces of the input are taken.
use Rattle.std.proofs.Common.{◌≡◌, ℕ, zero, suc, ◌+◌, ◌-◌, ◌<◌, ◌≤◌, min, ◌==◌, ◌&&◌, ◌||◌, ◌⊎◌, inl, inr, Bool, true}
use Rattle.std.proofs.Common.{false, not, cond, nat_lt, IsTrue, List, [], ◌∷◌, ◌++◌, length, take, drop, None, refl}
use Rattle.std.proofs.Common.{sym, ap, subst, ◌∙◌, arith, length-take, length-append}
use Rattle.std.specs.List.{list_any, position, position_or_len, prefix_len, slice_range}
use Rattle.std.proofs.lemmas.Bool.{cases_Bool, cond-true, cond-false, lt-ltb, le-ltb, ltb-true, ltb-false, ne_eqb}
use Rattle.std.proofs.lemmas.Bool.Decides.{nat_tests}
use Rattle.std.proofs.lemmas.List.{take_all, drop_all, drop_at, append-nil, drop-drop, drop-take, drop-append-le}
use Rattle.std.proofs.lemmas.List.{take-append-le}
use Rattle.std.proofs.lemmas.List.Folds.{list_any-append}
use Rattle.std.proofs.lemmas.Option.{none-some}
use Rattle.std.proofs.Math.Seq.{take-add}
use Rattle.std.proofs.lemmas.List.Sums.{prefix_len-le-length}
use Rattle.input_text.specs.declared.line_reader.LineFault.{LineFault}
use Rattle.input_text.specs.declared.line_reader.LineFault.TheVariants.{Source, Long, TooLarge}
use Rattle.input_text.specs.Lines.{NextLine, AtEnd, Line, LongLine, PastTotal, behind_line, is_newline, line_front}
use Rattle.input_text.specs.Lines.{next_line_of}
use Rattle.input_text.specs.LineReading.{IsLineFault, IsOver, RefusesLine, line_given}

module _ {X : Type 0} (q : X → Bool) where
  -- as many pass from the front as stand there and may be taken
  prefix_len-take : (n : ℕ) (xs : List X) → prefix_len q (take n xs) ≡ min n (prefix_len q xs)
  prefix_len-take zero xs = omega arith
  prefix_len-take (suc n) [] = omega arith
  prefix_len-take (suc n) (x ∷ xs) =
      elim (q x) as (λ b. cond b (1 + prefix_len q (take n xs)) 0 ≡ min (suc n) (cond b (1 + prefix_len q xs) 0)) [
        | true ↦ omega (arith, prefix_len-take n xs)
        | false ↦ omega arith
      ]

  -- no fewer pass where more stands behind
  prefix_len-grows : (xs ys : List X) → prefix_len q xs ≤ prefix_len q (xs ++ ys)
  prefix_len-grows [] ys = omega arith
  prefix_len-grows (x ∷ xs) ys =
      elim (q x) as (λ b. cond b (1 + prefix_len q xs) 0 ≤ cond b (1 + prefix_len q (xs ++ ys)) 0) [
        | true ↦ omega (arith, prefix_len-grows xs ys)
        | false ↦ omega arith
      ]

  -- where one does not pass, what stands behind counts for nothing
  prefix_len-front : (xs ys : List X) → prefix_len q xs < length xs → prefix_len q (xs ++ ys) ≡ prefix_len q xs
  prefix_len-front [] ys less = omega arith
  prefix_len-front (x ∷ xs) ys less =
      elim (q x) as (λ b. cond b (1 + prefix_len q xs) 0 < suc (length xs)
      → cond b (1 + prefix_len q (xs ++ ys)) 0 ≡ cond b (1 + prefix_len q xs) 0) [
        | true ↦ λ (less : 1 + prefix_len q xs < suc (length xs)).
            let inside : prefix_len q xs < length xs = omega arith in
            ap (λ (n : ℕ). 1 + n) (prefix_len-front xs ys inside)
        | false ↦ λ (less : 0 < suc (length xs)). refl
      ] less

  -- where all pass, as many more do as pass behind them
  prefix_len-append : (xs ys : List X) → prefix_len q xs ≡ length xs
      → prefix_len q (xs ++ ys) ≡ length xs + prefix_len q ys
  prefix_len-append [] ys all = omega arith
  prefix_len-append (x ∷ xs) ys all =
      elim (q x) as (λ b. cond b (1 + prefix_len q xs) 0 ≡ suc (length xs)
      → cond b (1 + prefix_len q (xs ++ ys)) 0 ≡ suc (length xs) + prefix_len q ys) [
        | true ↦ λ (all : 1 + prefix_len q xs ≡ suc (length xs)).
            let inside : prefix_len q xs ≡ length xs = omega arith in
            let rest : prefix_len q (xs ++ ys) ≡ length xs + prefix_len q ys = prefix_len-append xs ys inside in
            omega arith
        | false ↦ λ (none : 0 ≡ suc (length xs)). omega arith
      ] all

-- the tests of two numbers and of those one greater
both_more : (a b : ℕ) → nat_lt a b ≡ nat_lt (1 + a) (suc b)
both_more a b = grind (arith, nat_tests)

none_before_and_past : (any past : Bool) → any ≡ false → past ≡ true → (not any && past) ≡ true
none_before_and_past any past none more = ap (λ (b : Bool). not b && past) none ∙ more

neither : (any past : Bool) → past ≡ false → (not any && past) ≡ false
neither true past less = refl
neither false past less = less

some_before : (any past : Bool) → any ≡ true → (not any && past) ≡ false
some_before any past some = ap (λ (b : Bool). not b && past) some

-- a newline stands among the bytes that may be read, or all may be read
ended : (newline room len : ℕ) → newline ≤ len → (newline < room) ⊎ (len ≤ room)
    → (not (nat_lt (min room newline) (min room len)) && nat_lt room len) ≡ false
ended newline room len within (inl inside) =
    elim (cases_Bool (nat_lt room len)) [
      | inl more ↦
          let less : room < len = ltb-true _ _ more in
          some_before _ _ (lt-ltb (min room newline) (min room len) (omega arith))
      | inr less ↦ neither _ _ less
    ]
ended newline room len within (inr all) = neither _ _ (le-ltb _ _ all)

-- some element passes where the first that does stands within
list_any-position : {X : Type 0} (p : X → Bool) (xs : List X)
    → list_any p xs ≡ nat_lt (position_or_len p xs) (length xs)
list_any-position p [] = sym (le-ltb 0 0 (omega arith))
list_any-position {X} p (x ∷ xs) =
    elim (p x) as (λ b. (b || list_any p xs) ≡ nat_lt (cond (not b) (1 + position_or_len p xs) 0) (suc (length xs))) [
      | true ↦ sym (lt-ltb 0 (suc (length xs)) (omega arith))
      | false ↦ list_any-position p xs ∙ both_more (position_or_len p xs) (length xs)
    ]

-- the place of the first newline, or the length where there is none
abbrev pub newline_at : List ℕ → ℕ
newline_at bytes = position_or_len is_newline bytes

newline_at-le : (bytes : List ℕ) → newline_at bytes ≤ length bytes
newline_at-le bytes = prefix_len-le-length (λ byte. not (is_newline byte)) bytes

newline_at-take : (n : ℕ) (bytes : List ℕ) → newline_at (take n bytes) ≡ min n (newline_at bytes)
newline_at-take n bytes = prefix_len-take (λ byte. not (is_newline byte)) n bytes

pub newline_within : (bytes : List ℕ) → position_or_len is_newline bytes ≤ length bytes
newline_within bytes = newline_at-le bytes

-- where no place of a newline was found
pub position_none : (bytes : List ℕ) → None ≡ position is_newline bytes
    → length bytes ≡ position_or_len is_newline bytes
position_none bytes none =
    elim (cases_Bool (nat_lt (newline_at bytes) (length bytes))) [
      | inl some_before ↦ absurd (none-some (newline_at bytes) (none ∙ cond-true _ _ _ some_before))
      | inr past ↦ omega (arith, ltb-false _ _ past, newline_at-le bytes)
    ]

-- where there is no newline, its place is the length
newline_at-none : (bytes : List ℕ) → list_any is_newline bytes ≡ false → newline_at bytes ≡ length bytes
newline_at-none bytes none =
    let past : length bytes ≤ newline_at bytes = ltb-false _ _ (sym (list_any-position is_newline bytes) ∙ none) in
    omega (arith, newline_at-le bytes)

-- and the other way round
pub no_newline : (bytes : List ℕ) → length bytes ≤ newline_at bytes → list_any is_newline bytes ≡ false
no_newline bytes past = list_any-position is_newline bytes ∙ le-ltb _ _ past

-- what comes next, by the four tests
abbrev picked : (long any past empty : Bool) → NextLine → NextLine
picked long any past empty line = cond long LongLine (cond (not any && past) PastTotal (cond empty AtEnd line))

-- what comes next, by the place of the first newline
next_picked : (most room : ℕ) (rest : List ℕ) → next_line_of most room rest
    ≡ picked (nat_lt most (min room (newline_at rest))) (nat_lt (min room (newline_at rest)) (min room (length rest)))
    (nat_lt room (length rest)) (length rest == 0) (Line (line_front rest) (behind_line rest))
unfolding next_line_of
next_picked most room rest =
    let line : NextLine = Line (line_front rest) (behind_line rest) in
    let readable : List ℕ = take room rest in
    let past : Bool = nat_lt room (length rest) in
    let empty : Bool = length rest == 0 in
    let front : length (line_front readable) ≡ min room (newline_at rest) =
    length-take (newline_at readable) readable ∙ omega (arith, newline_at-le readable, newline_at-take room rest) in
    ap (λ (n : ℕ). picked (nat_lt most n) (list_any is_newline readable) past empty line) front
    ∙ ap (λ (any : Bool). picked (nat_lt most (min room (newline_at rest))) any past empty line)
    (list_any-position is_newline readable)
    ∙ ap (λ (n : ℕ). picked (nat_lt most (min room (newline_at rest))) (nat_lt n (length readable)) past empty line)
    (newline_at-take room rest)
    ∙ ap (λ (n : ℕ). picked (nat_lt most (min room (newline_at rest))) (nat_lt (min room (newline_at rest)) n) past
    empty line) (length-take room rest)

-- more bytes than a line may have stand in front of the newline, and may be read
pub next-long : (most room : ℕ) (rest : List ℕ) → most < min room (newline_at rest)
    → next_line_of most room rest ≡ LongLine
next-long most room rest over = next_picked most room rest ∙ cond-true _ _ _ (lt-ltb _ _ over)

-- the newline does not stand among the bytes that may be read, and there are more
pub next-past : (most room : ℕ) (rest : List ℕ) → min room (newline_at rest) ≤ most → room ≤ newline_at rest
    → room < length rest → next_line_of most room rest ≡ PastTotal
next-past most room rest within none more =
    next_picked most room rest
    ∙ cond-false _ _ _ (le-ltb _ _ within)
    ∙ cond-true _ _ _
    (none_before_and_past _ _ (le-ltb (min room (newline_at rest)) (min room (length rest)) (omega arith))
    (lt-ltb _ _ more))

-- the line ends with its newline, or with the input
pub next-line : (most room : ℕ) (rest : List ℕ) → newline_at rest ≤ most → newline_at rest ≤ room
    → (newline_at rest < room) ⊎ (length rest ≤ room) → 0 < length rest
    → next_line_of most room rest ≡ Line (line_front rest) (behind_line rest)
next-line most room rest within fits ends some =
    next_picked most room rest
    ∙ cond-false _ _ _ (le-ltb most (min room (newline_at rest)) (omega arith))
    ∙ cond-false _ _ _ (ended (newline_at rest) room (length rest) (newline_at-le rest) ends)
    ∙ cond-false _ _ _ (ne_eqb (length rest) 0 (omega arith))

-- nothing is left
pub next-end : (most room : ℕ) → next_line_of most room [] ≡ AtEnd
next-end most room =
    next_picked most room []
    ∙ cond-false _ _ _ (le-ltb most (min room 0) (omega arith))
    ∙ cond-false _ _ _ (neither (nat_lt (min room 0) (min room 0)) (nat_lt room 0) (le-ltb room 0 (omega arith)))

-- the held bytes of a piece once some were taken from their front
pub held_later : (piece : List ℕ) (start taken end : ℕ) → start + taken ≤ end
    → slice_range piece (start + taken) end ≡ drop taken (slice_range piece start end)
held_later piece start taken end within =
    let less : end - start ≡ taken + (end - (start + taken)) = omega arith in
    sym (ap (λ (n : ℕ). drop taken (take n (drop start piece))) less
    ∙ drop-take taken (end - (start + taken)) (drop start piece)
    ∙ ap (λ (bytes : List ℕ). take (end - (start + taken)) bytes) (drop-drop taken start piece))

module _ (line held left : List ℕ) (open_line : list_any is_newline line ≡ false) where
  -- the place of the first newline of a line at hand and what is held and left
  newline_at-line : newline_at (line ++ (held ++ left)) ≡ length line + newline_at (held ++ left)
  newline_at-line =
      prefix_len-append (λ byte. not (is_newline byte)) line (held ++ left) (newline_at-none line open_line)

  newline_at-grows : newline_at held ≤ newline_at (held ++ left)
  newline_at-grows = prefix_len-grows (λ byte. not (is_newline byte)) held left

  newline_at-front : newline_at held < length held → newline_at (held ++ left) ≡ newline_at held
  newline_at-front = prefix_len-front (λ byte. not (is_newline byte)) held left

  length-whole : length (line ++ (held ++ left)) ≡ length line + (length held + length left)
  length-whole = length-append line (held ++ left) ∙ ap (λ (n : ℕ). length line + n) (length-append held left)

  -- what is over the bounds with the held bytes is over them with the rest
  long_with : (most room : ℕ) → most < min room (length line + newline_at held)
      → next_line_of most room (line ++ (held ++ left)) ≡ LongLine
  long_with most room over = next-long most room _ (omega (arith, newline_at-line, newline_at-grows))

  past_with : (most room : ℕ) → min room (length line + newline_at held) ≤ most
      → room < length line + newline_at held + (cond (nat_lt (newline_at held) (length held)) 1 0)
      → next_line_of most room (line ++ (held ++ left)) ≡ PastTotal
  past_with most room within over =
      elim (cases_Bool (nat_lt (newline_at held) (length held))) [
        | inl some_before ↦
            let inside : newline_at held < length held = ltb-true _ _ some_before in
            let over' : room < length line + newline_at held + 1 =
            subst (λ (b : Bool). room < length line + newline_at held + (cond b 1 0)) some_before over in
            let same : newline_at (line ++ (held ++ left)) ≡ length line + newline_at held =
            newline_at-line ∙ ap (λ (n : ℕ). length line + n) (newline_at-front inside) in
            next-past most room _ (omega (arith, same)) (omega (arith, same)) (omega (arith, length-whole))
        | inr past ↦
            let over' : room < length line + newline_at held + 0 =
            subst (λ (b : Bool). room < length line + newline_at held + (cond b 1 0)) past over in
            let all : length held ≤ newline_at held = ltb-false _ _ past in
            next-past most room _
            (omega (arith, newline_at-line, newline_at-grows))
            (omega (arith, newline_at-line, newline_at-grows))
            (omega (arith, length-whole, newline_at-le held))
      ]

  -- a line that is refused with the held bytes is refused with the rest
  pub refuses : (fault : LineFault) (most room len : ℕ) (ended : Bool) → len ≡ length line + newline_at held
      → ended ≡ nat_lt (newline_at held) (length held)
      → IsOver len ended most room fault → RefusesLine (next_line_of most room (line ++ (held ++ left))) fault
  refuses Source most room len ended is ends over = over
  refuses (Long number) most room len ended is ends over =
      long_with most room (subst (λ (n : ℕ). most < min room n) is over)
  refuses TooLarge most room len ended is ends over =
      past_with most room (subst (λ (n : ℕ). min room n ≤ most) is over.0)
      (subst (λ (n : ℕ). room < n + (cond (nat_lt (newline_at held) (length held)) 1 0)) is
      (subst (λ (b : Bool). room < len + (cond b 1 0)) ends over.1))

  -- a line that ended with a held newline
  pub ended_line : (most room front : ℕ) (line_now held_now : List ℕ) → front ≡ newline_at held
      → nat_lt front (length held) ≡ true → length line + front ≤ most → length line + front + 1 ≤ room
      → line_now ≡ line ++ take front held → held_now ≡ drop 1 (drop front held)
      → next_line_of most room (line ++ (held ++ left)) ≡ Line line_now (held_now ++ left)
  ended_line most room front line_now held_now is some_before within fits line_is held_is =
      let inside : front < length held = ltb-true _ _ some_before in
      let place : newline_at (line ++ (held ++ left)) ≡ length line + front =
      newline_at-line ∙ ap (λ (n : ℕ). length line + n)
      (newline_at-front (let less : newline_at held < length held = omega arith in less) ∙ sym is) in
      let bytes : line_front (line ++ (held ++ left)) ≡ line_now =
      ap (λ (n : ℕ). take n (line ++ (held ++ left))) place
      ∙ take-add (length line) front (line ++ (held ++ left))
      ∙ ap (λ (xs : List ℕ). xs ++ take front (drop (length line) (line ++ (held ++ left))))
      (take-append-le (length line) line (held ++ left) (omega arith) ∙ take_all (length line) line (omega arith))
      ∙ ap (λ (xs : List ℕ). line ++ take front xs) (drop_at line (held ++ left) (length line) refl)
      ∙ ap (λ (xs : List ℕ). line ++ xs) (take-append-le front held left (omega arith))
      ∙ sym line_is in
      let behind : behind_line (line ++ (held ++ left)) ≡ held_now ++ left =
      ap (λ (n : ℕ). drop n (line ++ (held ++ left)))
      (let more : newline_at (line ++ (held ++ left)) + 1 ≡ length line + (front + 1) = omega (arith, place) in more)
      ∙ sym (drop-drop (front + 1) (length line) (line ++ (held ++ left)))
      ∙ ap (λ (xs : List ℕ). drop (front + 1) xs) (drop_at line (held ++ left) (length line) refl)
      ∙ drop-append-le (front + 1) held left (omega arith)
      ∙ ap (λ (xs : List ℕ). xs ++ left) (sym (drop-drop 1 front held) ∙ sym held_is) in
      next-line most room _ (omega (arith, place)) (omega (arith, place)) (inl (omega (arith, place)))
      (omega (arith, length-whole))
      ∙ ap (λ (xs : List ℕ). Line xs (behind_line (line ++ (held ++ left)))) bytes
      ∙ ap (λ (xs : List ℕ). Line line_now xs) behind

-- a line that no held newline ended has none yet
pub still_open : (line held line_now : List ℕ) (front : ℕ) → list_any is_newline line ≡ false → front ≡ newline_at held
    → nat_lt front (length held) ≡ false → line_now ≡ line ++ take front held → list_any is_newline line_now ≡ false
still_open line held line_now front open_line is past line_is =
    let all : length held ≤ front = ltb-false _ _ past in
    ap (λ (xs : List ℕ). list_any is_newline xs) (line_is ∙ ap (λ (xs : List ℕ). line ++ xs) (take_all front held all))
    ∙ list_any-append is_newline line held
    ∙ ap (λ (b : Bool). b || list_any is_newline held) open_line
    ∙ no_newline held (omega arith)

-- the input ended with the line at hand, or with none
pub at_end : (most room : ℕ) (line : List ℕ) → list_any is_newline line ≡ false → length line ≤ most
    → length line ≤ room → next_line_of most room line ≡ line_given (nat_lt 0 (length line)) line []
at_end most room [] open_line within fits =
    next-end most room ∙ ap (λ (b : Bool). line_given b [] []) (sym (le-ltb 0 0 (omega arith)))
at_end most room (byte ∷ bytes) open_line within fits =
    let line : List ℕ = byte ∷ bytes in
    let place : newline_at line ≡ length line = newline_at-none line open_line in
    next-line most room line (omega (arith, place)) (omega (arith, place)) (inr fits) (omega arith)
    ∙ ap (λ (xs : List ℕ). Line xs (behind_line line))
    (ap (λ (n : ℕ). take n line) place ∙ take_all (length line) line (omega arith))
    ∙ ap (λ (xs : List ℕ). Line line xs) (drop_all (newline_at line + 1) line (omega (arith, place)))
    ∙ ap (λ (b : Bool). line_given b line []) (sym (lt-ltb 0 (length line) (omega arith)))

-- the input ended, and what stands in the line is all that was left
pub last_line : (most room : ℕ) (start rest line now behind : List ℕ) (more : Bool) → line ++ rest ≡ start → now ≡ rest
    → now ≡ [] → behind ≡ now → list_any is_newline line ≡ false
    → length line ≤ most → length line ≤ room → more ≡ nat_lt 0 (length line)
    → next_line_of most room start ≡ line_given more line behind
last_line most room start rest line now behind more whole same none left open_line within fits some =
    let all : start ≡ line = sym whole ∙ ap (λ (xs : List ℕ). line ++ xs) (sym same ∙ none) ∙ append-nil line in
    ap (λ (xs : List ℕ). next_line_of most room xs) all
    ∙ at_end most room line open_line within fits
    ∙ ap (λ (b : Bool). line_given b line []) (sym some)
    ∙ ap (λ (xs : List ℕ). line_given more line xs) (sym (left ∙ none))

-- a line that is refused
pub refused_so : (before now : ℕ) (tells : Bool) (next next_too : NextLine) (fault : LineFault)
    → (IsTrue tells → next ≡ next_too) → RefusesLine next fault → IsLineFault before now tells next_too fault
refused_so before now tells next next_too Source same is = absurd is
refused_so before now tells next next_too (Long number) same is = λ told. sym (same told) ∙ is
refused_so before now tells next next_too TooLarge same is = λ told. sym (same told) ∙ is

-- what was given and what is left are as many bytes as before, once a line ended
pub given_so : (before now : ℕ) (line line_now held held_now left start : List ℕ)
    → length line_now + 1 + length held_now ≡ length line + length held → now ≡ before + (length line_now + 1)
    → line ++ (held ++ left) ≡ start → now + length (held_now ++ left) ≡ before + length start
given_so before now line line_now held held_now left start taken given whole =
    omega (
      arith,
      length-append held_now left,
      length-append line (held ++ left),
      length-append held left,
      sym (ap (λ (xs : List ℕ). length xs) whole),
    )
