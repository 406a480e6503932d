-- Texts that are written over spaces.
use Rattle.std.proofs.Common.{◌≡◌, ℕ, suc, ◌+◌, ◌-◌, ◌≤◌, List, [], ◌∷◌, ◌++◌, length, max, take, drop, replicate, refl}
use Rattle.std.proofs.Common.{sym, ap, ◌∙◌, arith, append_assoc, take-take, length-take-le}
use Rattle.std.proofs.lemmas.List.{take-append-drop, drop-take, drop-drop, drop-replicate, take-replicate}
use Rattle.std.proofs.lemmas.List.{replicate-append-replicate, take_at, drop_at}
use Rattle.report_text.specs.Report.{column, left_in}

-- the first n + m elements are the first n, and m behind them
take_both : (n m : ℕ) (xs : List ℕ) → take (n + m) xs ≡ take n xs ++ take m (drop n xs)
take_both n m xs =
    sym (take-append-drop n (take (n + m) xs))
    ∙ ap (λ (front : List ℕ). front ++ drop n (take (n + m) xs)) (take-take n (n + m) xs (omega arith))
    ∙ ap (λ (rest : List ℕ). take n xs ++ rest) (drop-take n m xs)

-- the elements of a list, and of another one behind it
take_past : (xs : List ℕ) (n : ℕ) (ys : List ℕ) → take (length xs + n) (xs ++ ys) ≡ xs ++ take n ys
take_past [] n ys = let none : 0 + n ≡ n = omega arith in ap (λ (k : ℕ). take k ys) none
take_past (x ∷ xs) n ys =
    let more : suc (length xs) + n ≡ suc (length xs + n) = omega arith in
    ap (λ (k : ℕ). take k (x ∷ (xs ++ ys))) more ∙ ap (λ (rest : List ℕ). x ∷ rest) (take_past xs n ys)

drop_past : (xs : List ℕ) (n : ℕ) (ys : List ℕ) → drop (length xs + n) (xs ++ ys) ≡ drop n ys
drop_past [] n ys = let none : 0 + n ≡ n = omega arith in ap (λ (k : ℕ). drop k ys) none
drop_past (x ∷ xs) n ys =
    let more : suc (length xs) + n ≡ suc (length xs + n) = omega arith in
    ap (λ (k : ℕ). drop k (x ∷ (xs ++ ys))) more ∙ drop_past xs n ys

-- Bytes of which the first ones are a text, and the others are spaces.
module _ (capacity len : ℕ) (bytes text : List ℕ) (whole : length bytes ≡ capacity) (within : len ≤ capacity)
    (is : take len bytes ≡ text) (spaces : drop len bytes ≡ replicate (capacity - len) 32) where
  -- how long the text is
  pub text_length : length text ≡ len
  text_length = sym (ap (λ (xs : List ℕ). length xs) is) ∙ length-take-le len bytes (omega arith)

  -- there are spaces from a later place on, too
  pub spaces_past : (n : ℕ) → drop (len + n) bytes ≡ replicate (capacity - (len + n)) 32
  spaces_past n =
      let fewer : capacity - len - n ≡ capacity - (len + n) = omega arith in
      let rest : drop n (drop len bytes) ≡ replicate (capacity - len - n) 32 =
      ap (λ (xs : List ℕ). drop n xs) spaces ∙ drop-replicate n (capacity - len) 32 in
      sym (drop-drop n len bytes) ∙ rest ∙ ap (λ (k : ℕ). replicate k 32) fewer

  -- what stands before a later place is the text, and spaces
  pub take_spaces : (n : ℕ) → len + n ≤ capacity → take (len + n) bytes ≡ text ++ replicate n 32
  take_spaces n fits =
      take_both len n bytes
      ∙ ap (λ (front : List ℕ). front ++ take n (drop len bytes)) is
      ∙ ap (λ (rest : List ℕ). text ++ take n rest) spaces
      ∙ ap (λ (rest : List ℕ). text ++ rest) (take-replicate n (capacity - len) 32 (omega arith))

  -- spaces are written over the text
  pub all_spaces : replicate (length (take len bytes)) 32 ++ drop len bytes ≡ replicate capacity 32
  all_spaces =
      let all : len + (capacity - len) ≡ capacity = omega arith in
      ap (λ (k : ℕ). replicate k 32 ++ drop len bytes) (length-take-le len bytes (omega arith))
      ∙ ap (λ (rest : List ℕ). replicate len 32 ++ rest) spaces ∙ replicate-append-replicate len (capacity - len) 32
      ∙ ap (λ (k : ℕ). replicate k 32) all

  -- Digits are written over spaces, so that they end where a column ends.
  module _ (width start : ℕ) (digits now : List ℕ) (narrow : length digits ≤ width)
      (room : length text + 1 + width ≤ capacity)
      (ends : start + length digits ≡ len + 1 + width) (before : take start now ≡ take start bytes)
      (written : drop start now ≡ digits ++ drop (len + 1 + width) bytes) where
    -- the text, and the spaces of the column
    front : take start now ≡ text ++ replicate (suc (width - length digits)) 32
    front =
        let long = text_length in
        let at : start ≡ len + suc (width - length digits) = omega arith in
        before ∙ ap (λ (k : ℕ). take k bytes) at ∙ take_spaces (suc (width - length digits)) (omega arith)

    -- what stands there then is the text, and the column
    pub narrow_text : take (len + 1 + width) now ≡ text ++ column width digits
    narrow_text =
        ap (λ (k : ℕ). take k now) (sym ends) ∙ take_both start (length digits) now
        ∙ ap (λ (xs : List ℕ). xs ++ take (length digits) (drop start now)) front
        ∙ ap (λ (xs : List ℕ). (text ++ replicate (suc (width - length digits)) 32) ++ take (length digits) xs) written
        ∙ ap (λ (xs : List ℕ). (text ++ replicate (suc (width - length digits)) 32) ++ xs) (take_at digits _ _ refl)
        ∙ append_assoc text _ digits

    -- the bytes behind it are spaces still
    pub narrow_spaces : drop (len + 1 + width) now ≡ replicate (capacity - (len + 1 + width)) 32
    narrow_spaces =
        let end : len + (1 + width) ≡ len + 1 + width = omega arith in
        ap (λ (k : ℕ). drop k now) (sym ends) ∙ sym (drop-drop (length digits) start now)
        ∙ ap (λ (xs : List ℕ). drop (length digits) xs) written ∙ drop_at digits _ _ refl
        ∙ ap (λ (k : ℕ). drop k bytes) (sym end) ∙ spaces_past (1 + width)
        ∙ ap (λ (k : ℕ). replicate (capacity - k) 32) end

  -- Digits are written over spaces, behind the text.
  module _ (width start : ℕ) (digits now : List ℕ) (room : len + length digits ≤ capacity) (most : ℕ)
      (most_is : most ≡ max (length digits) width) (fits : len + most ≤ capacity)
      (ends : start + length digits ≡ len + length digits) (before : take start now ≡ take start bytes)
      (written : drop start now ≡ digits ++ drop (len + length digits) bytes) where
    behind : drop len now ≡ digits ++ drop (len + length digits) bytes
    behind = let same : start ≡ len = omega (arith, ends) in ap (λ (k : ℕ). drop k now) (sym same) ∙ written

    -- what stands there then is the text, and the digits at the left of their places
    pub left_text : take (len + most) now ≡ text ++ left_in width digits
    left_text =
        let same : start ≡ len = omega (arith, ends) in
        let places : most ≡ length digits + (width - length digits) = omega (arith, most_is) in
        take_both len most now
        ∙ ap (λ (xs : List ℕ). xs ++ take most (drop len now))
        (ap (λ (k : ℕ). take k now) (sym same) ∙ before ∙ ap (λ (k : ℕ). take k bytes) same ∙ is)
        ∙ ap (λ (xs : List ℕ). text ++ take most xs) behind
        ∙ ap (λ (k : ℕ). text ++ take k (digits ++ drop (len + length digits) bytes)) places
        ∙ ap (λ (xs : List ℕ). text ++ xs) (take_past digits (width - length digits) (drop (len + length digits) bytes)
        ∙ ap (λ (xs : List ℕ). digits ++ take (width - length digits) xs) (spaces_past (length digits))
        ∙ ap (λ (xs : List ℕ). digits ++ xs)
        (take-replicate (width - length digits) (capacity - (len + length digits)) 32 (omega (arith, places, fits))))

    -- the bytes behind it are spaces still
    pub left_spaces : drop (len + most) now ≡ replicate (capacity - (len + most)) 32
    left_spaces =
        let places : most ≡ length digits + (width - length digits) = omega (arith, most_is) in
        let all : len + length digits + (width - length digits) ≡ len + most = omega (arith, places) in
        let still : len + (length digits + (width - length digits)) ≡ len + most = omega (arith, places) in
        sym (drop-drop most len now)
        ∙ ap (λ (xs : List ℕ). drop most xs) behind
        ∙ ap (λ (k : ℕ). drop k (digits ++ drop (len + length digits) bytes)) places
        ∙ drop_past digits (width - length digits) (drop (len + length digits) bytes)
        ∙ drop-drop (width - length digits) (len + length digits) bytes
        ∙ ap (λ (k : ℕ). drop k bytes) (all ∙ sym still) ∙ spaces_past (length digits + (width - length digits))
        ∙ ap (λ (k : ℕ). replicate (capacity - k) 32) still
