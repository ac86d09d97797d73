-- The lines of words, in order.
use Rattle.std.proofs.Common.{◌≡◌, ℕ, ◌+◌, ◌%◌, ◌^◌, ◌<◌, ◌≤◌, List, [], ◌∷◌, ◌++◌, length, take, drop, get_or, refl, ap, sym, ◌∙◌, arith}
use Rattle.std.specs.Prelude.{codes}
use Rattle.byteorder.specs.Endian.{little_number}
use Rattle.rvm_dis.specs.Disassembly.{line_at}
use Rattle.std.proofs.lemmas.List.{drop_all, drop_more}
use Rattle.rvm_asm.specs.declared.image.Segment.{Segment}
use Rattle.rvm_asm.specs.Images.{pieces_of}
use Rattle.rvm_command.specs.Command.{before_word, listing, word_lines}

-- one more word
pub lines_more : (a : ℕ) (bs : List ℕ) → 4 ≤ length bs
    → word_lines a bs ≡ (line_at a (little_number 4 (take 4 bs)) ++ codes "\n") ++ word_lines ((a + 4) % 2 ^ 32) (drop 4 bs)
unfolding word_lines
lines_more a [] h = absurd (omega (arith, h))
lines_more a (b0 ∷ []) h = absurd (omega (arith, h))
lines_more a (b0 ∷ b1 ∷ []) h = absurd (omega (arith, h))
lines_more a (b0 ∷ b1 ∷ b2 ∷ []) h = absurd (omega (arith, h))
lines_more a (b0 ∷ b1 ∷ b2 ∷ b3 ∷ bs) h = refl

-- no whole word is left
pub lines_none : (a : ℕ) (bs : List ℕ) → length bs < 4 → word_lines a bs ≡ []
unfolding word_lines
lines_none a [] h = refl
lines_none a (b0 ∷ []) h = refl
lines_none a (b0 ∷ b1 ∷ []) h = refl
lines_none a (b0 ∷ b1 ∷ b2 ∷ []) h = refl
lines_none a (b0 ∷ b1 ∷ b2 ∷ b3 ∷ bs) h = absurd (omega (arith, h))

-- all bytes stand before the first aligned word
pub no_lines : (a n : ℕ) (bs : List ℕ) → length bs < n → word_lines a (drop n bs) ≡ []
unfolding word_lines
no_lines a n bs h = ap (word_lines a) (drop_all n bs (omega (arith, h)))

-- the lines of a segment
abbrev pub segment_lines : Segment → List ℕ
segment_lines s =
    word_lines ((s.address + before_word s.address) % 2 ^ 32) (drop (before_word s.address) s.bytes.items)

-- one more segment
pub listing_more : (segments : List Segment) (i : ℕ) (s : Segment) → i < length segments → s ≡ get_or segments i s
    → listing (pieces_of (drop i segments)) ≡ segment_lines s ++ listing (pieces_of (drop (i + 1) segments))
unfolding listing
listing_more segments i s more is =
    ap (λ ss. listing (pieces_of ss)) (drop_more segments i s more ∙ ap (λ t. t ∷ drop (i + 1) segments) (sym is))

-- no segment is left
pub listing_none : (segments : List Segment) (i : ℕ) → length segments ≤ i → listing (pieces_of (drop i segments)) ≡ []
unfolding listing
listing_none segments i none = ap (λ ss. listing (pieces_of ss)) (drop_all i segments none)
