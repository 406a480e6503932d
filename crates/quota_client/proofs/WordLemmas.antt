-- The words of a client.
use Rattle.std.proofs.Common.{◌≡◌, ℕ, zero, suc, ◌+◌, ◌-◌, ◌<◌, ◌≤◌, Bool, true, false, cond, List, [], ◌∷◌, length}
use Rattle.std.proofs.Common.{map, get_or, take, drop, None, Some, Result, Ok, Err, refl, sym, ap, ◌∙◌, ⊎_elim, arith}
use Rattle.std.specs.Prelude.{String, ◌==◌, nat_lt, not}
use Rattle.std.specs.String.{string_bytes}
use Rattle.std.specs.declared.alloc.Global.{Global}
use Rattle.std.specs.List.{AllPass, position, position_or_len, prefix_len}
use Rattle.std.proofs.lemmas.Bool.{cases_lt, le-ltb, lt-ltb}
use Rattle.std.proofs.lemmas.List.{length-map, take_all}
use Rattle.std.proofs.lemmas.List.Elements.{All-cons, All-nil}
use Rattle.option_words.specs.Fault.{◌>>=◌}
use Rattle.option_words.specs.Items.{texts_of}
use Rattle.option_words.specs.declared.word_fault.Fault.{Fault}
use Rattle.quota_client.specs.declared.client.Client.{Client}
use Rattle.quota_client.specs.Words.{Asked, asked_of, client_of, is_path, with_paths}

prefix_len-map : {X Y : Type 0} (p : Y → Bool) (f : X → Y) (xs : List X)
    → prefix_len p (map f xs) ≡ prefix_len (λ x. p (f x)) xs
prefix_len-map p f [] = refl
prefix_len-map p f (x ∷ xs) = rw (prefix_len-map p f xs) refl

-- the first place of a test among what was made of each element
pub position-map : {X Y : Type 0} (p : Y → Bool) (f : X → Y) (xs : List X)
    → position p (map f xs) ≡ position (λ x. p (f x)) xs
position-map p f xs = rw (prefix_len-map (λ y. not (p y)) f xs, length-map xs f) refl

-- what is asked for by a client and paths
pub asked_with : (mode port uid gid : List ℕ) → (paths : List (List ℕ)) → Result Asked Fault
asked_with mode port uid gid paths =
    client_of mode port uid gid >>= λ client. with_paths client paths (position (λ word. not (is_path word)) paths)

asked_of-paths : (mode port uid gid : List ℕ) (paths : List (List ℕ)) → 0 < length paths → length paths ≤ 16
    → asked_of (mode ∷ port ∷ uid ∷ gid ∷ paths) ≡ asked_with mode port uid gid paths
unfolding asked_with
asked_of-paths mode port uid gid [] some few = absurd (omega (arith, some))
asked_of-paths mode port uid gid (path ∷ paths) some few =
    let fits : nat_lt 16 (1 + length paths) ≡ false = le-ltb _ _ (omega (arith, few)) in
    rw fits refl

-- a list by its first four elements
four_words : {X : Type 0} (xs : List X) (a b c d : X) → 4 ≤ length xs → a ≡ get_or xs 0 a → b ≡ get_or xs 1 b
    → c ≡ get_or xs 2 c → d ≡ get_or xs 3 d
    → xs ≡ a ∷ b ∷ c ∷ d ∷ take (length xs - 4) (drop 4 xs)
four_words [] a b c d long is_a is_b is_c is_d = absurd (omega (arith, long))
four_words (x ∷ []) a b c d long is_a is_b is_c is_d = absurd (omega (arith, long))
four_words (x ∷ y ∷ []) a b c d long is_a is_b is_c is_d = absurd (omega (arith, long))
four_words (x ∷ y ∷ z ∷ []) a b c d long is_a is_b is_c is_d = absurd (omega (arith, long))
four_words (x ∷ y ∷ z ∷ w ∷ rest) a b c d long is_a is_b is_c is_d =
    let count : suc (suc (suc (suc (length rest)))) - 4 ≡ length rest = omega arith in
    let fits : length rest ≤ length rest = omega arith in
    rw (is_a, is_b, is_c, is_d, count, take_all (length rest) rest fits) refl

-- what words of the right number ask for
pub asked_of-words : (words : List (String Global)) (mode port uid gid : String Global) → 4 ≤ length words
    → mode ≡ get_or words 0 mode → port ≡ get_or words 1 port → uid ≡ get_or words 2 uid → gid ≡ get_or words 3 gid
    → 0 < length (take (length words - 4) (drop 4 words)) → length (take (length words - 4) (drop 4 words)) ≤ 16
    → asked_of (texts_of words)
    ≡ asked_with (string_bytes mode) (string_bytes port) (string_bytes uid) (string_bytes gid)
    (texts_of (take (length words - 4) (drop 4 words)))
asked_of-words words mode port uid gid long is_mode is_port is_uid is_gid some few =
    let paths = take (length words - 4) (drop 4 words) in
    let size : length (texts_of paths) ≡ length paths = length-map paths (λ (w : String Global). string_bytes w) in
    ap (λ (ws : List (String Global)). asked_of (texts_of ws))
    (four_words words mode port uid gid long is_mode is_port is_uid is_gid)
    ∙ asked_of-paths (string_bytes mode) (string_bytes port) (string_bytes uid) (string_bytes gid) (texts_of paths)
    (omega (arith, some, size)) (omega (arith, few, size))

-- a fault in the words in front of the paths
pub asked_with-fault : (mode port uid gid : List ℕ) (paths : List (List ℕ)) (met : Fault)
    → client_of mode port uid gid ≡ Err met → asked_with mode port uid gid paths ≡ Err met
unfolding asked_with
asked_with-fault mode port uid gid paths met is = rw is refl

-- a client, and paths each of which is one
pub asked_with-paths : (mode port uid gid : List ℕ) (paths : List (List ℕ)) (client : Client)
    → client_of mode port uid gid ≡ Ok client → None ≡ position (λ word. not (is_path word)) paths
    → asked_with mode port uid gid paths ≡ Ok (record { client = client; paths = paths })
unfolding asked_with
asked_with-paths mode port uid gid paths client is all = rw (is, ← all) refl

-- a client, and a path that is none
pub asked_with-other : (mode port uid gid : List ℕ) (paths : List (List ℕ)) (client : Client) (place : ℕ)
    → client_of mode port uid gid ≡ Ok client → Some place ≡ position (λ word. not (is_path word)) paths
    → asked_with mode port uid gid paths ≡ with_paths client paths (Some place)
unfolding asked_with
asked_with-other mode port uid gid paths client place is other = rw (is, ← other) refl

-- the place of the first word that is no path
pub other_place : (words : List (String Global))
    → position (λ (w : String Global). not (is_path (string_bytes w))) words
    ≡ position (λ word. not (is_path word)) (texts_of words)
other_place words = sym (position-map (λ word. not (is_path word)) (λ (w : String Global). string_bytes w) words)

-- a list that is told not to be empty
pub some_paths : (count : ℕ) (empty : Bool) → empty ≡ (count == 0) → empty ≡ false → 0 < count
some_paths zero empty is other = absurd cc
some_paths (suc count) empty is other = omega arith

not_not : (test : Bool) → not (not test) ≡ true → test ≡ true
not_not true is = refl
not_not false is = absurd cc

one_more : (test : Bool) (rest count : ℕ) → suc count ≤ cond test (1 + rest) 0 → (test ≡ true) × (count ≤ rest)
one_more true rest count long = (refl, omega arith)
one_more false rest count long = absurd (omega arith)

all_pass : (words : List (List ℕ)) → length words ≤ prefix_len (λ word. not (not (is_path word))) words
    → AllPass is_path words
all_pass [] long = All-nil (λ (word : List ℕ). is_path word ≡ true)
all_pass (word ∷ words) long =
    let first =
    one_more (not (not (is_path word))) (prefix_len (λ word. not (not (is_path word))) words) (length words) long in
    All-cons (λ (w : List ℕ). is_path w ≡ true) word words (not_not (is_path word) first.0) (all_pass words first.1)

found_none : (place count : ℕ) → None ≡ cond (nat_lt place count) (Some place) None → count ≤ place
found_none place count none = ⊎_elim (λ less. absurd (some_at less)) (λ most. most) (cases_lt place count)
  where
    some_at : place < count → ⊥
    some_at less = let found : None ≡ Some place = rw (lt-ltb place count less) at none in cc

-- where no place of one that is no path is found all are paths
pub all_paths : (words : List (List ℕ)) → None ≡ position (λ word. not (is_path word)) words → AllPass is_path words
all_paths words none =
    all_pass words (found_none (position_or_len (λ word. not (is_path word)) words) (length words) none)
