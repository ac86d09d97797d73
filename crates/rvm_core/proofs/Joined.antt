-- Words with a space between any two, read as words and as a line.
use Rattle.std.proofs.Common.{◌≡◌, ℕ, zero, suc, ◌-◌, Bool, true, false, not, cond, ◌||◌, eqb, List, [], ◌∷◌, ◌++◌, length, get_or, take, refl, sym, ap, subst, ◌∙◌, append_assoc, arith, inl, inr}
use Rattle.std.specs.List.{list_all}
use Rattle.std.proofs.lemmas.Bool.{cases_eq}
use Rattle.std.proofs.lemmas.Bool.Decides.{nat_tests}
use Rattle.std.proofs.lemmas.List.{append-nil}
use Rattle.std.proofs.lemmas.List.Folds.{list_all-append}
use Rattle.rvm_dis.proofs.Reading.{is_one_word, is_plain, first_of, second_of, both}
use Rattle.rvm_debug.specs.Words.{piece, lines, lines_from, without_return, words, words_from}
use Rattle.rvm_text.specs.Bytes.{is_space, is_word}

-- words with a space between any two
abbrev pub joined : List (List ℕ) → List ℕ
joined [] = []
joined (w ∷ []) = w
joined (w ∷ v ∷ ws) = w ++ 32 ∷ joined (v ∷ ws)

-- a byte of a word is no space and ends no line
is_none_of : (b c : ℕ) → is_word b ≡ true → is_word c ≡ false → eqb b c ≡ false
is_none_of b c is none =
    elim (cases_eq b c) [
      | inl e ↦ let no : false ≡ true = sym none ∙ subst (λ n. is_word n ≡ true) e is in cc
      | inr ne ↦ grind (arith, nat_tests)
    ]

neither : (a b : Bool) → a ≡ false → b ≡ false → (a || b) ≡ false
neither a b p q = simp (p, q) refl

no_space : (b : ℕ) → is_word b ≡ true → is_space b ≡ false
no_space b is = neither (eqb b 32) (eqb b 9) (is_none_of b 32 is refl) (is_none_of b 9 is refl)

is_no_end : (b : ℕ) → is_word b ≡ true → is_plain b ≡ true
is_no_end b is = ap not (neither (eqb b 10) (eqb b 13) (is_none_of b 10 is refl) (is_none_of b 13 is refl))

-- each byte of a word is one that a word may have
all_word : (w : List ℕ) → is_one_word w ≡ true → list_all is_word w ≡ true
all_word [] one = cc
all_word (b ∷ w) one = one

plain_word : (w : List ℕ) → list_all is_word w ≡ true → list_all is_plain w ≡ true
plain_word [] all = refl
plain_word (b ∷ w) all =
    both (is_plain b) (list_all is_plain w) (is_no_end b (first_of (is_word b) (list_all is_word w) all))
    (plain_word w (second_of (is_word b) (list_all is_word w) all))

-- a word is read up to its end
word_more : (b : ℕ) (bs begun : List ℕ) → is_space b ≡ false → words_from (b ∷ bs) begun ≡ words_from bs (begun ++ b ∷ [])
unfolding words_from
word_more b bs begun e = ap (λ t. cond t (piece begun ++ words_from bs []) (words_from bs (begun ++ b ∷ []))) e

word_read : (w rest begun : List ℕ) → list_all is_word w ≡ true
    → words_from (w ++ rest) begun ≡ words_from rest (begun ++ w)
word_read [] rest begun all = ap (words_from rest) (sym (append-nil begun))
word_read (b ∷ w) rest begun all =
    word_more b (w ++ rest) begun (no_space b (first_of (is_word b) (list_all is_word w) all))
    ∙ word_read w rest (begun ++ b ∷ []) (second_of (is_word b) (list_all is_word w) all)
    ∙ ap (words_from rest) (append_assoc begun (b ∷ []) w)

one_piece : (w : List ℕ) → is_one_word w ≡ true → piece w ≡ w ∷ []
one_piece [] one = cc
one_piece (b ∷ w) one = refl

no_word : words [] ≡ []
unfolding words_from
no_word = refl

last_read : (w : List ℕ) → words_from [] w ≡ piece w
unfolding words_from
last_read w = refl

blank_read : (bs w : List ℕ) → words_from (32 ∷ bs) w ≡ piece w ++ words bs
unfolding words_from
blank_read bs w = refl

-- joined words are read as these words
pub words_joined : (ws : List (List ℕ)) → list_all is_one_word ws ≡ true → words (joined ws) ≡ ws
words_joined [] all = no_word
words_joined (w ∷ []) all =
    let one = first_of (is_one_word w) true all in
    ap words (sym (append-nil w)) ∙ word_read w [] [] (all_word w one) ∙ last_read w ∙ one_piece w one
words_joined (w ∷ v ∷ ws) all =
    let one = first_of (is_one_word w) (list_all is_one_word (v ∷ ws)) all in
    let others = second_of (is_one_word w) (list_all is_one_word (v ∷ ws)) all in
    let rest = joined (v ∷ ws) in
    word_read w (32 ∷ rest) [] (all_word w one) ∙ blank_read rest w ∙ ap (λ p. p ++ words rest) (one_piece w one)
    ∙ ap (λ p. w ∷ p) (words_joined (v ∷ ws) others)

-- joined words have no byte that ends a line
plain_joined : (ws : List (List ℕ)) → list_all is_one_word ws ≡ true → list_all is_plain (joined ws) ≡ true
plain_joined [] all = refl
plain_joined (w ∷ []) all = plain_word w (all_word w (first_of (is_one_word w) true all))
plain_joined (w ∷ v ∷ ws) all =
    let one = first_of (is_one_word w) (list_all is_one_word (v ∷ ws)) all in
    let others = second_of (is_one_word w) (list_all is_one_word (v ∷ ws)) all in
    let rest = joined (v ∷ ws) in
    list_all-append is_plain w (32 ∷ rest)
    ∙ both (list_all is_plain w) (list_all is_plain rest) (plain_word w (all_word w one)) (plain_joined (v ∷ ws) others)

-- a line is read up to its line feed
no_feed : (b : ℕ) → is_plain b ≡ true → eqb b 10 ≡ false
no_feed b plain = grind (arith, nat_tests)

no_return : (b : ℕ) → is_plain b ≡ true → eqb b 13 ≡ false
no_return b plain = grind (arith, nat_tests)

line_more : (b : ℕ) (bs begun : List ℕ) → eqb b 10 ≡ false → lines_from (b ∷ bs) begun ≡ lines_from bs (begun ++ b ∷ [])
unfolding lines_from
line_more b bs begun e = ap (λ t. cond t (begun ∷ lines_from bs []) (lines_from bs (begun ++ b ∷ []))) e

line_read : (bs rest begun : List ℕ) → list_all is_plain bs ≡ true
    → lines_from (bs ++ rest) begun ≡ lines_from rest (begun ++ bs)
line_read [] rest begun all = ap (lines_from rest) (sym (append-nil begun))
line_read (b ∷ bs) rest begun all =
    line_more b (bs ++ rest) begun (no_feed b (first_of (is_plain b) (list_all is_plain bs) all))
    ∙ line_read bs rest (begun ++ b ∷ []) (second_of (is_plain b) (list_all is_plain bs) all)
    ∙ ap (lines_from rest) (append_assoc begun (b ∷ []) bs)

feed_read : (bs line : List ℕ) → lines_from (10 ∷ bs) line ≡ line ∷ lines bs
unfolding lines_from
feed_read bs line = refl

pub no_lines : lines [] ≡ []
unfolding lines_from
no_lines = refl

-- joined words and a line feed are one line
pub lines_joined : (ws : List (List ℕ)) (rest : List ℕ) → list_all is_one_word ws ≡ true
    → lines (joined ws ++ 10 ∷ rest) ≡ joined ws ∷ lines rest
lines_joined ws rest all =
    line_read (joined ws) (10 ∷ rest) [] (plain_joined ws all) ∙ feed_read rest (joined ws)

-- joined words have no carriage return
plain_at : (bs : List ℕ) (i : ℕ) → list_all is_plain bs ≡ true → eqb (get_or bs i 0) 13 ≡ false
plain_at [] i all = refl
plain_at (b ∷ bs) zero all = no_return b (first_of (is_plain b) (list_all is_plain bs) all)
plain_at (b ∷ bs) (suc i) all = plain_at bs i (second_of (is_plain b) (list_all is_plain bs) all)

pub whole_joined : (ws : List (List ℕ)) → list_all is_one_word ws ≡ true → without_return (joined ws) ≡ joined ws
whole_joined ws all =
    let line = joined ws in
    ap (λ t. cond t (take (length line - 1) line) line) (plain_at line (length line - 1) (plain_joined ws all))
