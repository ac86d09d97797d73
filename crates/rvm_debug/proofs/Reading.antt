-- How the bytes of a line are read as words, and those of a script as lines.
use Rattle.std.proofs.Common.{◌≡◌, ℕ, zero, suc, ◌+◌, ◌<◌, ◌≤◌, List, [], ◌∷◌, ◌++◌, length, get_or, take, drop, refl, ap, sym, ◌∙◌, arith, Bool, true, false, cond, eqb, length-drop, length-take, Option, Some, None, ◌-◌, ◌⊎◌, ◌==◌, inl, inr}
use Rattle.std.proofs.lemmas.List.{take_more, drop_more, drop_all, take_all}
use Rattle.std.proofs.lemmas.Bool.Decides.{nat_tests}
use Rattle.std.specs.Prelude.{IsTrue, IfSome, option_map}
use Rattle.std.proofs.lemmas.Grind.{common_steps}
use Rattle.rvm_text.specs.Bytes.{is_space}
use Rattle.rvm_debug.specs.Words.{piece, without_return, words, words_from, lines, lines_from, begins_blank}

-- what is open has a byte
piece_some : (w : List ℕ) → 0 < length w → piece w ≡ w ∷ []
piece_some [] some = absurd (omega arith)
piece_some (b ∷ w) some = refl

-- a byte of a word, and one after it
word_more : (b : ℕ) (bs w : List ℕ) → is_space b ≡ false → words_from (b ∷ bs) w ≡ words_from bs (w ++ b ∷ [])
unfolding words_from
word_more b bs w e = ap (λ t. cond t (piece w ++ words_from bs []) (words_from bs (w ++ b ∷ []))) e

word_end : (b : ℕ) (bs w : List ℕ) → is_space b ≡ true → words_from (b ∷ bs) w ≡ piece w ++ words_from bs []
unfolding words_from
word_end b bs w e = ap (λ t. cond t (piece w ++ words_from bs []) (words_from bs (w ++ b ∷ []))) e

word_close : (w : List ℕ) → words_from [] w ≡ piece w
unfolding words_from
word_close w = refl

-- a blank before the words
pub blank_skipped : (xs ys : List ℕ) (b : ℕ) → xs ≡ b ∷ ys → is_space b ≡ true → words xs ≡ words ys
blank_skipped xs ys b e blank = ap (λ l. words_from l []) e ∙ word_end b ys [] blank

pub no_words : words [] ≡ []
no_words = word_close []

pub word_grows : (xs : List ℕ) (at : ℕ) → at < length xs → is_space (get_or xs at 0) ≡ false → words_from (drop (at + 1) xs) (take (at + 1) xs) ≡ words_from (drop at xs) (take at xs)
word_grows xs at inside e =
    ap (λ w. words_from (drop (at + 1) xs) w) (take_more xs at 0 inside)
    ∙ sym (word_more (get_or xs at 0) (drop (at + 1) xs) (take at xs) e)
    ∙ ap (λ l. words_from l (take at xs)) (sym (drop_more xs at 0 inside))

-- a word that does not begin with a blank has a byte
behind_first : (xs : List ℕ) (at : ℕ) → begins_blank xs ≡ false → at < length xs → is_space (get_or xs at 0) ≡ true → 0 < at
behind_first [] at begins inside e = absurd (omega arith)
behind_first (x ∷ xs) zero begins inside e = let no : true ≡ false = sym e ∙ begins in cc
behind_first (x ∷ xs) (suc at) begins inside e = omega arith

pub word_ends : (xs : List ℕ) (at : ℕ) → begins_blank xs ≡ false → at < length xs → is_space (get_or xs at 0) ≡ true → words_from (drop at xs) (take at xs) ≡ words xs → words xs ≡ take at xs ∷ words (drop at xs)
word_ends xs at begins inside e so_far =
    let some = behind_first xs at begins inside e in
    let here = drop_more xs at 0 inside in
    let size : length (take at xs) ≡ at = grind (arith, common_steps) in
    let left = words_from (drop (at + 1) xs) [] in
    sym so_far
    ∙ ap (λ l. words_from l (take at xs)) here
    ∙ word_end (get_or xs at 0) (drop (at + 1) xs) (take at xs) e
    ∙ ap (λ p. p ++ left) (piece_some (take at xs) (omega (arith, size, some)))
    ∙ ap (λ l. take at xs ∷ l) (sym (blank_skipped (drop at xs) (drop (at + 1) xs) (get_or xs at 0) here e))

pub word_last : (xs : List ℕ) (at : ℕ) → 0 < length xs → at ≡ length xs → words_from (drop at xs) (take at xs) ≡ words xs → words xs ≡ take at xs ∷ words (drop at xs)
word_last xs at some end so_far =
    let none : drop at xs ≡ [] = drop_all at xs (omega arith) in
    let size : length (take at xs) ≡ at = grind (arith, common_steps) in
    sym so_far
    ∙ ap (λ l. words_from l (take at xs)) none
    ∙ word_close (take at xs)
    ∙ piece_some (take at xs) (omega (arith, size, some, end))
    ∙ ap (λ l. take at xs ∷ l) (sym no_words ∙ ap (λ l. words_from l []) (sym none))

-- a slice without its first byte, as code takes it
behind_one : (xs : List ℕ) (b : ℕ) → take (length (b ∷ xs) - 1) (drop 1 (b ∷ xs)) ≡ xs
behind_one xs b =
    let size : length (b ∷ xs) - 1 ≡ length xs = omega arith in
    ap (λ n. take n xs) size ∙ take_all (length xs) xs (omega arith)

pub blank_dropped : (xs : List ℕ) → 1 ≤ length xs → is_space (get_or xs 0 0) ≡ true → words (take (length xs - 1) (drop 1 xs)) ≡ words xs
blank_dropped [] some e = absurd (omega arith)
blank_dropped (b ∷ xs) some e = ap words (behind_one xs b) ∙ sym (blank_skipped (b ∷ xs) xs b refl e)

-- a word that is open is one
open_word : (xs w : List ℕ) (b : ℕ) → words_from xs (b ∷ w) ≡ [] → ⊥
open_word [] w b e = let no : (b ∷ w) ∷ [] ≡ [] = sym (word_close (b ∷ w)) ∙ e in cc
open_word (x ∷ xs) w b e =
    elim (bool_cases (is_space x)) [
      | inl blank ↦ let no : (b ∷ w) ∷ words_from xs [] ≡ [] = sym (word_end x xs (b ∷ w) blank) ∙ e in cc
      | inr more ↦ open_word xs (w ++ x ∷ []) b (sym (word_more x xs (b ∷ w) more) ∙ e)
    ]
  where
    bool_cases : (t : Bool) → (t ≡ true) ⊎ (t ≡ false)
    bool_cases true = inl refl
    bool_cases false = inr refl

pub none_left : (xs : List ℕ) → begins_blank xs ≡ false → words xs ≡ [] → length xs ≡ 0
none_left [] begins none = refl
none_left (b ∷ xs) begins none = absurd (open_word xs [] b (sym (word_more b xs [] begins) ∙ none))

pub words_of_none : (xs : List ℕ) → length xs ≡ 0 → words xs ≡ []
words_of_none [] e = no_words
words_of_none (b ∷ xs) e = absurd (omega arith)

-- no word is left if nothing is left after the blanks
pub is_done : (rest xs : List ℕ) (ws : List (List ℕ)) (r : Bool) → begins_blank rest ≡ false → words rest ≡ words xs → words xs ≡ ws → r ≡ (length rest == 0) → (IsTrue r → ws ≡ []) × (ws ≡ [] → IsTrue r)
is_done rest xs ws r begins same seen test = (
  λ t. sym seen ∙ sym same ∙ words_of_none rest (empty_if r (length rest) test t),
  λ none. empty_then r (length rest) test (none_left rest begins (same ∙ seen ∙ none)),
)
  where
    empty_if : (t : Bool) (n : ℕ) → t ≡ (n == 0) → IsTrue t → n ≡ 0
    empty_if t n e h = grind (arith, nat_tests)

    empty_then : (t : Bool) (n : ℕ) → t ≡ (n == 0) → n ≡ 0 → IsTrue t
    empty_then t n e h = grind (arith, nat_tests)

-- a byte of a line, and a line feed after it
line_more : (b : ℕ) (bs l : List ℕ) → eqb b 10 ≡ false → lines_from (b ∷ bs) l ≡ lines_from bs (l ++ b ∷ [])
unfolding lines_from
line_more b bs l e = ap (λ t. cond t (l ∷ lines_from bs []) (lines_from bs (l ++ b ∷ []))) e

line_end : (b : ℕ) (bs l : List ℕ) → eqb b 10 ≡ true → lines_from (b ∷ bs) l ≡ l ∷ lines_from bs []
unfolding lines_from
line_end b bs l e = ap (λ t. cond t (l ∷ lines_from bs []) (lines_from bs (l ++ b ∷ []))) e

line_close : (l : List ℕ) → lines_from [] l ≡ piece l
unfolding lines_from
line_close l = refl

pub no_lines : lines [] ≡ []
no_lines = line_close []

pub line_grows : (xs : List ℕ) (at : ℕ) → at < length xs → eqb (get_or xs at 0) 10 ≡ false → lines_from (drop (at + 1) xs) (take (at + 1) xs) ≡ lines_from (drop at xs) (take at xs)
line_grows xs at inside e =
    ap (λ l. lines_from (drop (at + 1) xs) l) (take_more xs at 0 inside)
    ∙ sym (line_more (get_or xs at 0) (drop (at + 1) xs) (take at xs) e)
    ∙ ap (λ l. lines_from l (take at xs)) (sym (drop_more xs at 0 inside))

pub line_ends : (xs : List ℕ) (at : ℕ) → at < length xs → eqb (get_or xs at 0) 10 ≡ true → lines_from (drop at xs) (take at xs) ≡ lines xs → lines xs ≡ take at xs ∷ lines (drop (at + 1) xs)
line_ends xs at inside e so_far =
    sym so_far
    ∙ ap (λ l. lines_from l (take at xs)) (drop_more xs at 0 inside)
    ∙ line_end (get_or xs at 0) (drop (at + 1) xs) (take at xs) e

pub line_last : (xs : List ℕ) → 0 < length xs → lines_from (drop (length xs) xs) (take (length xs) xs) ≡ lines xs → lines xs ≡ xs ∷ []
line_last xs some so_far =
    let none : drop (length xs) xs ≡ [] = drop_all (length xs) xs (omega arith) in
    let all : take (length xs) xs ≡ xs = grind (arith, common_steps) in
    sym so_far
    ∙ ap (λ l. lines_from l (take (length xs) xs)) none
    ∙ line_close (take (length xs) xs)
    ∙ ap piece all
    ∙ piece_some xs some

pub ruleset reading = (blank_dropped, none_left, words_of_none, word_grows, word_ends, word_last)

-- a line of no byte has no carriage return
pub short_line : (xs : List ℕ) → length xs < 1 → xs ≡ without_return xs
short_line [] short = refl
short_line (b ∷ xs) short = absurd (omega arith)

-- a slice after some bytes, as code takes it
pub behind_whole : (xs : List ℕ) (n : ℕ) → take (length xs - n) (drop n xs) ≡ drop n xs
behind_whole xs n = take_all (length xs - n) (drop n xs) (omega (arith, length-drop n xs))

-- what a reader gave, up to a byte more than is allowed
pub taken : (known : Option (List ℕ)) (old items : List ℕ) (limit n : ℕ) → old ≡ [] → limit ≡ n + 1 → length items ≤ n → IfSome (option_map (take limit) known) (λ xs. items ≡ old ++ xs) → IfSome known (λ s. (items ≡ s) × (length s ≤ n))
taken None old items limit n none more few given = tt
taken (Some s) old items limit n none more few given =
    let here : items ≡ take limit s = given ∙ ap (λ l. l ++ take limit s) none in
    let size = length-take limit s in
    let same = ap length here in
    let all : length s ≤ n = omega (arith, size, same, few, more) in
    (here ∙ take_all limit s (omega (arith, all, more)), all)

-- no line is left
pub lines_of_none : (xs : List ℕ) (r : Bool) → r ≡ (length xs == 0) → r ≡ true → lines xs ≡ []
lines_of_none [] r test e = no_lines
lines_of_none (b ∷ xs) r test e = absurd (never (length xs) (sym test ∙ e))
  where
    never : (n : ℕ) → (suc n == 0) ≡ true → ⊥
    never n e = grind (arith, nat_tests)

pub ruleset line_reading = (line_grows, line_ends, line_last, no_lines)
