-- What a step of the reading keeps, and how steps make the tokens of a line.
use Rattle.std.proofs.Common.{◌≡◌, ℕ, ◌+◌, ◌-◌, ◌<◌, ◌≤◌, List, [], ◌∷◌, ◌++◌, length, get_or, take, drop, refl, ap, sym, ◌∙◌, arith, Option, Some, None, true, false, cond, length-drop, get_or-drop, append_assoc}
use Rattle.std.specs.Prelude.{slice_range, option_map, eqb, nat_lt}
use Rattle.std.proofs.lemmas.List.{take_more, drop_more, drop_all, map_push, append-nil}
use Rattle.rvm_text.specs.declared.token.Token.{Token}
use Rattle.rvm_text.specs.declared.token.Mode.{Mode}
use Rattle.rvm_text.specs.declared.token.Mode.TheVariants as mode
use Rattle.rvm_text.specs.Lexemes as g
use Rattle.rvm_text.specs.Bytes.{is_word, is_escape}
use Rattle.rvm_text.specs.Tokens.{lexeme_of, lexemes_of, mode_of, IsBegun, Moves, behind, Adds}

-- one byte more
pub range_more : (xs : List ℕ) (i j : ℕ) → i ≤ j → j < length xs → slice_range xs i (j + 1) ≡ slice_range xs i j ++ (get_or xs j 0 ∷ [])
range_more xs i j below inside =
    let e : j + 1 - i ≡ j - i + 1 = omega arith in
    let k : i + (j - i) ≡ j = omega arith in
    ap (λ n. take n (drop i xs)) e
    ∙ take_more (drop i xs) (j - i) 0 (omega (arith, length-drop i xs))
    ∙ ap (λ y. take (j - i) (drop i xs) ++ y ∷ []) (get_or-drop i xs (j - i) 0 ∙ ap (λ n. get_or xs n 0) k)

-- none yet
pub range_none : (xs : List ℕ) (i : ℕ) → slice_range xs i i ≡ []
range_none xs i = let e : i - i ≡ 0 = omega arith in ap (λ n. take n (drop i xs)) e

-- the byte at a place
pub range_one : (xs : List ℕ) (i : ℕ) → i < length xs → slice_range xs i (i + 1) ≡ get_or xs i 0 ∷ []
range_one xs i inside = range_more xs i i (omega arith) inside ∙ ap (λ l. l ++ (get_or xs i 0 ∷ [])) (range_none xs i)

-- a token joins
pub lexes_push : (ts : List Token) (t : Token) → lexemes_of (ts ++ t ∷ []) ≡ lexemes_of ts ++ lexeme_of t ∷ []
lexes_push ts t = map_push lexeme_of ts t

-- a step that makes no token
pub stays : (line : List ℕ) (at : ℕ) (step : Option (List g.Lexeme × g.Mode)) (ts : List Token) (m : Mode) → step ≡ Some ([], mode_of line (at + 1) m) → IsBegun (at + 1) m → Moves line at step ts ts m
stays line at step ts m e begun = record {
  lexemes = ap (option_map (behind ts)) e ∙ ap (λ l. Some (l, mode_of line (at + 1) m)) (append-nil (lexemes_of ts));
  begun = begun;
}

-- a step that makes one
pub joins : (line : List ℕ) (at : ℕ) (step : Option (List g.Lexeme × g.Mode)) (old new : List Token) (t : Token) (m : Mode) → new ≡ old ++ t ∷ [] → step ≡ Some (lexeme_of t ∷ [], mode_of line (at + 1) m) → IsBegun (at + 1) m → Moves line at step old new m
joins line at step old new t m is e begun = record {
  lexemes = ap (option_map (behind old)) e ∙ ap (λ l. Some (l, mode_of line (at + 1) m)) (sym (lexes_push old t) ∙ ap lexemes_of (sym is));
  begun = begun;
}

-- a token joins
pub adds : (old new : List Token) (t : Token) → new ≡ old ++ t ∷ [] → Adds (lexeme_of t) old new
adds old new t is = ap lexemes_of is ∙ lexes_push old t

pub ruleset steps = (range_more, range_none, range_one, lexes_push, stays, joins, adds)

ends_eq : (old mid : List Token) (x : g.Lexeme) → lexemes_of mid ≡ lexemes_of old ++ x ∷ [] → (step : Option (List g.Lexeme × g.Mode)) → option_map (behind old) (option_map (λ a. (x ∷ a.0, a.1)) step) ≡ option_map (behind mid) step
ends_eq old mid x e None = refl
ends_eq old mid x e (Some a) = ap (λ l. Some (l, a.1)) (sym (append_assoc (lexemes_of old) (x ∷ []) a.0) ∙ ap (λ l. l ++ a.0) (sym e))

after_ended : (w : List ℕ) (b : ℕ) → is_word b ≡ false → g.after (g.InWord w) b ≡ option_map (λ a. (g.Word w ∷ a.0, a.1)) (g.open_at b)
after_ended w b e = ap (λ t. cond t (Some ([], g.InWord (w ++ b ∷ []))) (option_map (λ a. (g.Word w ∷ a.0, a.1)) (g.open_at b))) e

-- a byte that ends a word
pub word_ends : (line : List ℕ) (at : ℕ) (w : List ℕ) (b : ℕ) (old mid new : List Token) (m : Mode) → is_word b ≡ false → Adds (g.Word w) old mid → Moves line at (g.open_at b) mid new m → Moves line at (g.after (g.InWord w) b) old new m
word_ends line at w b old mid new m ended added moves = record {
  lexemes = ap (option_map (behind old)) (after_ended w b ended) ∙ ends_eq old mid (g.Word w) added (g.open_at b) ∙ moves.lexemes;
  begun = moves.begun;
}

-- a byte that a word takes
pub word_more : (line : List ℕ) (at from : ℕ) (ts : List Token) → from ≤ at → at < length line → is_word (get_or line at 0) ≡ true → Moves line at (g.after (g.InWord (slice_range line from at)) (get_or line at 0)) ts ts (mode.Word from)
word_more line at from ts begun inside is = stays line at _ ts (mode.Word from) (simp is (ap (λ w. Some ([], g.InWord w)) (sym (range_more line from at begun inside)))) (omega arith)

-- a byte that a string takes
pub string_more : (line : List ℕ) (at from : ℕ) (ts : List Token) → from ≤ at → at < length line → eqb (get_or line at 0) 34 ≡ false → eqb (get_or line at 0) 92 ≡ false → nat_lt (get_or line at 0) 128 ≡ true → Moves line at (g.after (g.InString (slice_range line from at)) (get_or line at 0)) ts ts (mode.Quoted from)
string_more line at from ts begun inside q b low = stays line at _ ts (mode.Quoted from) (simp (q, b, low) (ap (λ w. Some ([], g.InString w)) (sym (range_more line from at begun inside)))) (omega arith)

-- the escape's first byte
pub escape_begins : (line : List ℕ) (at from : ℕ) (ts : List Token) → from ≤ at → at < length line → eqb (get_or line at 0) 34 ≡ false → eqb (get_or line at 0) 92 ≡ true → Moves line at (g.after (g.InString (slice_range line from at)) (get_or line at 0)) ts ts (mode.Escaped from)
escape_begins line at from ts begun inside q b = stays line at _ ts (mode.Escaped from) (simp (q, b) (ap (λ w. Some ([], g.Escaped w)) (sym (range_more line from at begun inside)))) (omega arith)

-- and its second
pub escape_ends : (line : List ℕ) (at from : ℕ) (ts : List Token) → from ≤ at → at < length line → is_escape (get_or line at 0) ≡ true → Moves line at (g.after (g.Escaped (slice_range line from at)) (get_or line at 0)) ts ts (mode.Quoted from)
escape_ends line at from ts begun inside is = stays line at _ ts (mode.Quoted from) (simp is (ap (λ w. Some ([], g.InString w)) (sym (range_more line from at begun inside)))) (omega arith)

some_injective : {x y : List g.Lexeme × g.Mode} → Some x ≡ Some y → x ≡ y
some_injective e = cc

twice : (xs ys : List g.Lexeme) (o : Option (List g.Lexeme)) → option_map (λ ts. xs ++ ts) (option_map (λ ts. ys ++ ts) o) ≡ option_map (λ ts. (xs ++ ys) ++ ts) o
twice xs ys None = refl
twice xs ys (Some ts) = ap Some (sym (append_assoc xs ys ts))

moved : (old : List Token) (step : Option (List g.Lexeme × g.Mode)) (x : List g.Lexeme × g.Mode) (bytes : List ℕ) → option_map (behind old) step ≡ Some x → option_map (λ ts. lexemes_of old ++ ts) (g.followed_by step (g.lexemes_from bytes)) ≡ option_map (λ ts. x.0 ++ ts) (g.lexemes_from bytes x.1)
moved old None x bytes h = cc
moved old (Some a) x bytes h =
    twice (lexemes_of old) a.0 (g.lexemes_from bytes a.1) ∙ ap (λ (p : List g.Lexeme × g.Mode). option_map (λ ts. p.0 ++ ts) (g.lexemes_from bytes p.1)) (some_injective h)

-- one step, and the rest
pub goes_on : (line : List ℕ) (at : ℕ) (old new : List Token) (before : g.Mode) (m : Mode) → at < length line → Moves line at (g.after before (get_or line at 0)) old new m → option_map (λ ts. lexemes_of new ++ ts) (g.lexemes_from (drop (at + 1) line) (mode_of line (at + 1) m)) ≡ option_map (λ ts. lexemes_of old ++ ts) (g.lexemes_from (drop at line) before)
goes_on line at old new before m inside moves =
    sym (ap (λ bs. option_map (λ ts. lexemes_of old ++ ts) (g.lexemes_from bs before)) (drop_more line at 0 inside) ∙ moved old (g.after before (get_or line at 0)) (lexemes_of new, mode_of line (at + 1) m) (drop (at + 1) line) moves.lexemes)

-- nothing can follow
pub stops : (line : List ℕ) (at : ℕ) (old : List Token) (before : g.Mode) → at < length line → g.after before (get_or line at 0) ≡ None → option_map (λ ts. lexemes_of old ++ ts) (g.lexemes_from (drop at line) before) ≡ None
stops line at old before inside none = ap (λ bs. option_map (λ ts. lexemes_of old ++ ts) (g.lexemes_from bs before)) (drop_more line at 0 inside) ∙ ap (λ s. option_map (λ ts. lexemes_of old ++ ts) (g.followed_by s (g.lexemes_from (drop (at + 1) line)))) none

-- in front of nothing
pub map_empty : (o : Option (List g.Lexeme)) → option_map (λ ts. [] ++ ts) o ≡ o
map_empty None = refl
map_empty (Some x) = refl

-- so the line can't be read
pub stops_at : (line : List ℕ) (at : ℕ) (old : List Token) (before : g.Mode) (whole : Option (List g.Lexeme)) → option_map (λ ts. lexemes_of old ++ ts) (g.lexemes_from (drop at line) before) ≡ whole → at < length line → g.after before (get_or line at 0) ≡ None → whole ≡ None
stops_at line at old before whole so_far inside none = sym so_far ∙ stops line at old before inside none

-- at the end of the line
pub ends_with : (line : List ℕ) (at : ℕ) (old : List Token) (m : Mode) (whole : Option (List g.Lexeme)) → option_map (λ ts. lexemes_of old ++ ts) (g.lexemes_from (drop at line) (mode_of line at m)) ≡ whole → at ≡ length line → whole ≡ option_map (λ ts. lexemes_of old ++ ts) (g.at_end (mode_of line (length line) m))
ends_with line at old m whole so_far past =
    sym so_far
    ∙ ap (λ bs. option_map (λ ts. lexemes_of old ++ ts) (g.lexemes_from bs (mode_of line at m))) (drop_all at line (omega (arith, past)))
    ∙ ap (λ n. option_map (λ ts. lexemes_of old ++ ts) (g.at_end (mode_of line n m))) past

pub ends_with_none : (line : List ℕ) (at : ℕ) (old : List Token) (m : Mode) (whole : Option (List g.Lexeme)) → option_map (λ ts. lexemes_of old ++ ts) (g.lexemes_from (drop at line) (mode_of line at m)) ≡ whole → at ≡ length line → g.at_end (mode_of line (length line) m) ≡ None → whole ≡ None
ends_with_none line at old m whole so_far past none = ends_with line at old m whole so_far past ∙ ap (option_map (λ ts. lexemes_of old ++ ts)) none
