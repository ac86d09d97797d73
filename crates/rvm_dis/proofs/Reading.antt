-- The lexemes of a text that is put together from words, blanks and marks, and that it is one line.
use Rattle.std.proofs.Common.{◌≡◌, ℕ, ◌-◌, ◌<◌, Bool, true, false, not, cond, ◌&&◌, ◌||◌, eqb, List, [], ◌∷◌, ◌++◌, length, get_or, Option, Some, None, option_map, refl, sym, ap, subst, ◌∙◌, append_assoc, arith, inl, inr}
use Rattle.std.specs.List.{list_all, slice_split}
use Rattle.std.specs.Prelude.{All, codes}
use Rattle.std.specs.Str.Lines.{lines, lines_of_parts, strip_carriage_return}
use Rattle.std.proofs.lemmas.Bool.{cases_eq}
use Rattle.std.proofs.lemmas.Bool.Decides.{nat_tests}
use Rattle.std.proofs.lemmas.List.{append-nil}
use Rattle.std.proofs.lemmas.List.Folds.{list_all-append}
use Rattle.std.proofs.lemmas.List.Sums.{AllPass-from_list_all}
use Rattle.std.proofs.lemmas.List.Splits.{slice_split_at, length-slice_split}
use Rattle.rvm_text.specs.Bytes.{is_word}
use Rattle.rvm_text.specs.Lexemes.{Lexeme, Word, Mark, Mode, Between, InWord, open_at, followed_by, lexemes_from, lexemes}
use Rattle.rvm_text.proofs.Lexing.{map_empty}

-- a byte that is no line feed and no carriage return
abbrev pub is_plain : ℕ → Bool
is_plain b = not (eqb b 10 || eqb b 13)

-- a text is read as these lexemes, and nothing in it ends a line
pub record Reads (text : List ℕ) (ts : List Lexeme) : Type 0 where
  pub from_between : lexemes_from text Between ≡ Some ts
  pub plain : list_all is_plain text ≡ true

-- as the grammar says it
pub read_all : {text : List ℕ} {ts : List Lexeme} → Reads text ts → lexemes text ≡ Some ts
unfolding lexemes
read_all reads = reads.from_between

-- whether bytes make one word
abbrev pub is_one_word : List ℕ → Bool
is_one_word [] = false
is_one_word (b ∷ bs) = is_word b && list_all is_word bs

-- a word can't go on into these bytes
abbrev pub Stops : List ℕ → Type 0
Stops [] = Unit {0}
Stops (b ∷ bs) = is_word b ≡ false

pub first_of : (a b : Bool) → a && b ≡ true → a ≡ true
first_of true b e = refl
first_of false b e = e

pub second_of : (a b : Bool) → a && b ≡ true → b ≡ true
second_of true b e = e
second_of false b e = cc

pub both : (a b : Bool) → a ≡ true → b ≡ true → (a && b) ≡ true
both a b p q = simp (p, q) refl

-- a byte that begins a word
opens : (b : ℕ) → is_word b ≡ true → open_at b ≡ Some ([], InWord (b ∷ []))
opens b is = simp is refl

-- a byte that begins anything ends no line
opening_is_plain : (b : ℕ) (a : List Lexeme × Mode) → open_at b ≡ Some a → is_plain b ≡ true
opening_is_plain b a is =
    elim (cases_eq b 10) [
      | inl e ↦ let none : None ≡ Some a = subst (λ n. open_at n ≡ Some a) e is in cc
      | inr feed ↦
          elim (cases_eq b 13) [
            | inl e ↦ let none : None ≡ Some a = subst (λ n. open_at n ≡ Some a) e is in cc
            | inr return ↦ grind (arith, nat_tests)
          ]
    ]

-- nor does a word
word_is_plain : (w : List ℕ) → list_all is_word w ≡ true → list_all is_plain w ≡ true
word_is_plain [] all = refl
word_is_plain (b ∷ w) all =
    let here = first_of (is_word b) (list_all is_word w) all in
    let there = second_of (is_word b) (list_all is_word w) all in
    both (is_plain b) (list_all is_plain w)
    (opening_is_plain b ([], InWord (b ∷ [])) (opens b here)) (word_is_plain w there)

one_is_plain : (w : List ℕ) → is_one_word w ≡ true → list_all is_plain w ≡ true
one_is_plain [] one = cc
one_is_plain (b ∷ w) one = word_is_plain (b ∷ w) one

-- bytes that a word takes
in_word : (w v rest : List ℕ) → list_all is_word v ≡ true →
    lexemes_from (v ++ rest) (InWord w) ≡ lexemes_from rest (InWord (w ++ v))
in_word w [] rest all = ap (λ l. lexemes_from rest (InWord l)) (sym (append-nil w))
in_word w (b ∷ v) rest all =
    let here = first_of (is_word b) (list_all is_word v) all in
    let there = second_of (is_word b) (list_all is_word v) all in
    ap (λ t. followed_by (cond t (Some ([], InWord (w ++ b ∷ [])))
    (option_map (λ a. (Word w ∷ a.0, a.1)) (open_at b))) (lexemes_from (v ++ rest))) here
    ∙ map_empty (lexemes_from (v ++ rest) (InWord (w ++ b ∷ [])))
    ∙ in_word (w ++ b ∷ []) v rest there
    ∙ ap (λ l. lexemes_from rest (InWord l)) (append_assoc w (b ∷ []) v)

put_before : (w : List ℕ) (xs : List Lexeme) (o : Option (List Lexeme)) →
    option_map (λ ts. (Word w ∷ xs) ++ ts) o
    ≡ option_map (λ ts. Word w ∷ ts) (option_map (λ ts. xs ++ ts) o)
put_before w xs None = refl
put_before w xs (Some ts) = refl

ended : (w : List ℕ) (s : Option (List Lexeme × Mode)) (bs : List ℕ) →
    followed_by (option_map (λ a. (Word w ∷ a.0, a.1)) s) (lexemes_from bs)
    ≡ option_map (λ ts. Word w ∷ ts) (followed_by s (lexemes_from bs))
ended w None bs = refl
ended w (Some a) bs = put_before w a.0 (lexemes_from bs a.1)

word_ends : (w rest : List ℕ) (ts : List Lexeme) → Stops rest → Reads rest ts →
    lexemes_from rest (InWord w) ≡ Some (Word w ∷ ts)
word_ends w [] ts stops reads = ap (option_map (λ (l : List Lexeme). Word w ∷ l)) reads.from_between
word_ends w (b ∷ bs) ts stops reads =
    ap (λ t. followed_by (cond t (Some ([], InWord (w ++ b ∷ [])))
    (option_map (λ a. (Word w ∷ a.0, a.1)) (open_at b))) (lexemes_from bs)) stops
    ∙ ended w (open_at b) bs
    ∙ ap (option_map (λ (l : List Lexeme). Word w ∷ l)) reads.from_between

word_first : (w rest : List ℕ) (ts : List Lexeme) → is_one_word w ≡ true → Stops rest →
    Reads rest ts → lexemes_from (w ++ rest) Between ≡ Some (Word w ∷ ts)
word_first [] rest ts one stops reads = cc
word_first (b ∷ v) rest ts one stops reads =
    let here = first_of (is_word b) (list_all is_word v) one in
    let there = second_of (is_word b) (list_all is_word v) one in
    ap (λ s. followed_by s (lexemes_from (v ++ rest))) (opens b here)
    ∙ map_empty (lexemes_from (v ++ rest) (InWord (b ∷ [])))
    ∙ in_word (b ∷ []) v rest there
    ∙ word_ends (b ∷ v) rest ts stops reads

-- a word before what is read so
pub word : {rest : List ℕ} {ts : List Lexeme} (w : List ℕ) → is_one_word w ≡ true →
    Reads rest ts → Stops rest → Reads (w ++ rest) (Word w ∷ ts)
word {rest} {ts} w one reads stops = record {
  from_between = word_first w rest ts one stops reads;
  plain = list_all-append is_plain w rest
      ∙ both (list_all is_plain w) (list_all is_plain rest) (one_is_plain w one) reads.plain;
}

-- nothing
pub nothing : Reads [] []
nothing = record { from_between = refl; plain = refl }

-- a word alone
pub last_word : (w : List ℕ) → is_one_word w ≡ true → Reads w (Word w ∷ [])
last_word w one = record {
  from_between = ap (λ l. lexemes_from l Between) (sym (append-nil w))
      ∙ word_first w [] [] one tt nothing;
  plain = one_is_plain w one;
}

-- a blank before it
pub blank : {text : List ℕ} {ts : List Lexeme} → Reads text ts → Reads (32 ∷ text) ts
blank reads = record {
  from_between = ap (option_map (λ (l : List Lexeme). [] ++ l)) reads.from_between;
  plain = reads.plain;
}

-- a mark before it: a comma, a minus or a parenthesis
pub mark : {text : List ℕ} {ts : List Lexeme} (m : ℕ) → open_at m ≡ Some (Mark m ∷ [], Between) →
    Reads text ts → Reads (m ∷ text) (Mark m ∷ ts)
mark {text} m is reads = record {
  from_between =
      ap (λ s. followed_by s (lexemes_from text)) is
      ∙ ap (option_map (λ (l : List Lexeme). Mark m ∷ l)) reads.from_between;
  plain = both (is_plain m) (list_all is_plain text)
      (opening_is_plain m (Mark m ∷ [], Between) is) reads.plain;
}

-- a comma and a blank before it
pub comma : {text : List ℕ} {ts : List Lexeme} → Reads text ts →
    Reads (44 ∷ 32 ∷ text) (Mark 44 ∷ ts)
comma reads = mark 44 refl (blank reads)

-- a word in parentheses
pub bracketed : (w : List ℕ) → is_one_word w ≡ true →
    Reads (40 ∷ (w ++ 41 ∷ [])) (Mark 40 ∷ Word w ∷ Mark 41 ∷ [])
bracketed w one = mark 40 refl (word w one (mark 41 refl nothing) refl)

-- lines

each_plain : (bs : List ℕ) → list_all is_plain bs ≡ true → (k d : ℕ) → k < length bs →
    is_plain (get_or bs k d) ≡ true
each_plain bs all k d inside = AllPass-from_list_all is_plain bs all k d inside

no_feed : (bs : List ℕ) → list_all is_plain bs ≡ true → All (λ b. eqb b 10 ≡ false) bs
no_feed bs all k d inside = let e = each_plain bs all k d inside in grind (arith, nat_tests)

no_return : (bs : List ℕ) → list_all is_plain bs ≡ true → eqb (get_or bs (length bs - 1) 0) 13 ≡ false
no_return [] all = refl
no_return (b ∷ bs) all =
    let e = each_plain (b ∷ bs) all (length (b ∷ bs) - 1) 0 (omega arith) in
    grind (arith, nat_tests)

kept : (bs : List ℕ) → list_all is_plain bs ≡ true → strip_carriage_return bs ≡ bs
kept bs all = rw (no_return bs all) refl

-- a part before others is a line
first_line : (bs : List ℕ) (parts : List (List ℕ)) → 0 < length parts →
    lines_of_parts (bs ∷ parts) ≡ strip_carriage_return bs ∷ lines_of_parts parts
first_line bs [] some = absurd (omega arith)
first_line bs (p ∷ parts) some = refl

-- what is read is one line, whatever follows it
pub one_line : {text : List ℕ} {ts : List Lexeme} → Reads text ts → (rest : List ℕ) →
    lines (text ++ codes "\n" ++ rest) ≡ text ∷ lines rest
one_line {text} reads rest =
    let feed = λ (b : ℕ). eqb b 10 in
    let parts = slice_split feed rest in
    let parted : lines (text ++ codes "\n" ++ rest) ≡ lines_of_parts (text ∷ parts) =
    ap lines (append_assoc text (codes "\n") rest)
    ∙ ap lines_of_parts (slice_split_at feed text 10 rest (no_feed text reads.plain) refl) in
    let some : 0 < length parts = let e = length-slice_split feed rest in omega (arith, e) in
    let first : lines_of_parts (text ∷ parts) ≡ strip_carriage_return text ∷ lines rest =
    first_line text parts some in
    parted ∙ first ∙ ap (λ l. l ∷ lines rest) (kept text reads.plain)
