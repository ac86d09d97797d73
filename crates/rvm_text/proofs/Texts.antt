-- The length of a string's text, a byte at a time.
use Rattle.std.proofs.Common.{◌≡◌, ℕ, ◌+◌, ◌<◌, Bool, true, false, List, length, get_or, drop, refl, arith}
use Rattle.std.proofs.lemmas.List.{drop_more}
use Rattle.rvm_text.specs.Strings.{text_behind}

-- the text's length so far and that of what is left stay in sum, when a byte is taken
pub taken_escaped : (n m at : ℕ) (bs : List ℕ) (before after : Bool) → at < length bs → before ≡ true → m ≡ n + 1 → after ≡ false →
    m + length (text_behind after (drop (at + 1) bs)) ≡ n + length (text_behind before (drop at bs))
taken_escaped n m at bs before after inside b e f = rw (b, e, f, drop_more bs at 0 inside) (omega arith)

pub taken_plain : (n m at : ℕ) (bs : List ℕ) (before after : Bool) (x : ℕ) → at < length bs → before ≡ false → x ≡ get_or bs at 0 → (x ≡ 92 → ⊥) → m ≡ n + 1 → after ≡ before →
    m + length (text_behind after (drop (at + 1) bs)) ≡ n + length (text_behind before (drop at bs))
taken_plain n m at bs before after x inside b g h e f = rw (f, b, e, drop_more bs at 0 inside) (grind (arith))

pub taken_escape : (n m at : ℕ) (bs : List ℕ) (before after : Bool) (x : ℕ) → at < length bs → before ≡ false → x ≡ get_or bs at 0 → x ≡ 92 → m ≡ n → after ≡ true →
    m + length (text_behind after (drop (at + 1) bs)) ≡ n + length (text_behind before (drop at bs))
taken_escape n m at bs before after x inside b g h e f = rw (f, b, e, drop_more bs at 0 inside, ← g, h) refl
