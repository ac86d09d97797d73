-- Bytes that have no line feed are one line, if one comes after them.
use Rattle.std.proofs.Common.{◌≡◌, ◌∙◌, ℕ, Bool, true, false, not, cond, ◌&&◌, eqb, List, [], ◌∷◌, ◌++◌, refl, sym, ap, append_assoc}
use Rattle.std.specs.List.{list_all}
use Rattle.std.specs.Prelude.{codes}
use Rattle.std.proofs.lemmas.List.{append-nil}
use Rattle.rvm_debug.specs.Words.{lines, lines_from}
use Rattle.rvm_journal.specs.Written.{is_no_feed}

first_of : (a b : Bool) → (a && b) ≡ true → a ≡ true
first_of true b e = refl
first_of false b e = e

second_of : (a b : Bool) → (a && b) ≡ true → b ≡ true
second_of true b e = e
second_of false b e = cc

no_feed : (t : Bool) → not t ≡ true → t ≡ false
no_feed true e = cc
no_feed false e = refl

line_more : (b : ℕ) (bs begun : List ℕ) → eqb b 10 ≡ false → lines_from (b ∷ bs) begun ≡ lines_from bs (begun ++ b ∷ [])
unfolding lines_from
line_more b bs begun e = ap (λ t. cond t (begun ∷ lines_from bs []) (lines_from bs (begun ++ b ∷ []))) e

line_read : (bs rest begun : List ℕ) → list_all is_no_feed bs ≡ true
    → lines_from (bs ++ rest) begun ≡ lines_from rest (begun ++ bs)
line_read [] rest begun all = ap (lines_from rest) (sym (append-nil begun))
line_read (b ∷ bs) rest begun all =
    line_more b (bs ++ rest) begun (no_feed (eqb b 10) (first_of (is_no_feed b) (list_all is_no_feed bs) all))
    ∙ line_read bs rest (begun ++ b ∷ []) (second_of (is_no_feed b) (list_all is_no_feed bs) all)
    ∙ ap (lines_from rest) (append_assoc begun (b ∷ []) bs)

feed_read : (bs line : List ℕ) → lines_from (10 ∷ bs) line ≡ line ∷ lines bs
unfolding lines_from
feed_read bs line = refl

pub no_lines : lines [] ≡ []
unfolding lines_from
no_lines = refl

-- the first line, and the lines after it
pub one_line : (line rest : List ℕ) → list_all is_no_feed line ≡ true
    → lines (line ++ (codes "\n" ++ rest)) ≡ line ∷ lines rest
one_line line rest all = line_read line (10 ∷ rest) [] all ∙ feed_read rest line

-- a line alone
pub alone : (line : List ℕ) → list_all is_no_feed line ≡ true → lines (line ++ codes "\n") ≡ line ∷ []
alone line all = line_read line (10 ∷ []) [] all ∙ feed_read [] line ∙ ap (λ l. line ∷ l) no_lines
