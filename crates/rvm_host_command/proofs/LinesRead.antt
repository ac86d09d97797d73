-- A line is read byte by byte.
use Rattle.std.proofs.Common.{◌≡◌, ◌≢◌, ◌∙◌, ◌≤◌, ◌<◌, ◌+◌, ◌==◌, ℕ, List, [], ◌∷◌, ◌++◌, append-nil, length, Option, None, Some, false, ap, arith, refl, subst, sym}
use Rattle.std.proofs.lemmas.List.{append_assoc, length-append}
use Rattle.std.specs.Io.BufRead.{drop_through}
use Rattle.std.specs.Io.KnownBytes.{IsAtEnd}
use Rattle.std.specs.Prelude.{IfSome, ⊤}
use Rattle.rvm_host_command.specs.Lines.{GivesByte, IsLongLine, IsToldLine, line_size}

-- no byte is a line feed
abbrev pub IsPlain : List ℕ → Type 0
IsPlain [] = ⊤
IsPlain (b ∷ bytes) = ((b == 10) ≡ false) × IsPlain bytes

plain_more : (line : List ℕ) (b : ℕ) → IsPlain line → (b == 10) ≡ false → IsPlain (line ++ b ∷ [])
plain_more [] b plain other = (other, tt)
plain_more (x ∷ line) b (first, plain) other = (first, plain_more line b plain other)

-- a line of plain bytes is as long as it is, and what comes after it
size_of : (line rest : List ℕ) → IsPlain line → line_size (line ++ rest) ≡ length line + line_size rest
size_of [] rest plain = omega arith
size_of (x ∷ line) rest (first, plain) = let more = size_of line rest plain in rw first (omega (arith, more))

after_plain : (line rest : List ℕ) → IsPlain line → drop_through 10 (line ++ rest) ≡ drop_through 10 rest
after_plain [] rest plain = refl
after_plain (x ∷ line) rest (first, plain) = rw first (after_plain line rest plain)

-- these plain bytes were read of those that were there
pub record AreRead (old left : Option (List ℕ)) (line : List ℕ) : Type 0 where
  pub plain : IsPlain line
  pub whole : IfSome old (λ bytes. (rest : List ℕ) × (left ≡ Some rest) × (bytes ≡ line ++ rest))

pub none_read : (old : Option (List ℕ)) (line : List ℕ) → line ≡ [] → AreRead old old line
none_read None line empty = record { plain = subst IsPlain (sym empty) tt; whole = tt }
none_read (Some bytes) line empty = record {
  plain = subst IsPlain (sym empty) tt;
  whole = (bytes, refl, subst (λ l. bytes ≡ l ++ bytes) (sym empty) refl);
}

-- what is known to be left is what was read and what comes after it
module _ (old mid new : Option (List ℕ)) (line : List ℕ) where
  -- one more plain byte was read
  pub byte_more : (b : ℕ) → AreRead old mid line → IfSome mid (GivesByte (Some b) new) → (b == 10) ≡ false
      → AreRead old new (line ++ b ∷ [])
  byte_more b so_far byte other = record {
    plain = plain_more line b so_far.plain other;
    whole = go old so_far.whole;
  } where
    go : (o : Option (List ℕ)) → IfSome o (λ bytes. (rest : List ℕ) × (mid ≡ Some rest) × (bytes ≡ line ++ rest))
        → IfSome o (λ bytes. (rest : List ℕ) × (new ≡ Some rest) × (bytes ≡ (line ++ b ∷ []) ++ rest))
    go None whole = tt
    go (Some bytes) (rest, known, whole) =
        let (after, first, left) = subst (λ o. IfSome o (GivesByte (Some b) new)) known byte in
        (after, left, whole ∙ ap (λ l. line ++ l) first ∙ sym (append_assoc line (b ∷ []) after))

  -- a line feed was read
  pub line_ended : (b : ℕ) → AreRead old mid line → IfSome mid (GivesByte (Some b) new) → b ≡ 10 → length line ≤ 4096
      → IfSome old (λ bytes. IsToldLine bytes × (new ≡ Some (drop_through 10 bytes)))
  line_ended b so_far byte feed few = go old so_far.whole where
    go : (o : Option (List ℕ)) → IfSome o (λ bytes. (rest : List ℕ) × (mid ≡ Some rest) × (bytes ≡ line ++ rest))
        → IfSome o (λ bytes. IsToldLine bytes × (new ≡ Some (drop_through 10 bytes)))
    go None whole = tt
    go (Some bytes) (rest, known, whole) =
        let (after, first, left) = subst (λ o. IfSome o (GivesByte (Some b) new)) known byte in
        let is : bytes ≡ line ++ 10 ∷ after = whole ∙ ap (λ l. line ++ l) (first ∙ ap (λ c. c ∷ after) feed) in
        let size : line_size bytes ≡ length line + 0 = ap line_size is ∙ size_of line (10 ∷ after) so_far.plain in
        let long : length bytes ≡ length line + length (10 ∷ after) = ap length is ∙ length-append line (10 ∷ after) in
        let some : bytes ≢ [] = λ e. let none : length bytes ≡ 0 = ap length e in absurd (omega (arith, long, none)) in
        ((some, omega (arith, size, few)), left ∙ ap Some (sym (ap (drop_through 10) is ∙ after_plain line (10 ∷ after) so_far.plain)))

  -- the last line ended with the bytes
  pub last_ended : AreRead old mid line → IfSome mid (GivesByte None new) → line ≢ [] → length line ≤ 4096
      → IfSome old (λ bytes. IsToldLine bytes × (new ≡ Some (drop_through 10 bytes)))
  last_ended so_far none some few = go old so_far.whole where
    go : (o : Option (List ℕ)) → IfSome o (λ bytes. (rest : List ℕ) × (mid ≡ Some rest) × (bytes ≡ line ++ rest))
        → IfSome o (λ bytes. IsToldLine bytes × (new ≡ Some (drop_through 10 bytes)))
    go None whole = tt
    go (Some bytes) (rest, known, whole) =
        let (empty, left) = subst (λ o. IfSome o (GivesByte None new)) known none in
        let is : bytes ≡ line ++ [] = whole ∙ ap (λ l. line ++ l) empty in
        let size : line_size bytes ≡ length line + 0 = ap line_size is ∙ size_of line [] so_far.plain in (
          (λ e. some (sym (append-nil line) ∙ sym is ∙ e), omega (arith, size, few)),
          left ∙ ap Some (sym (ap (drop_through 10) is ∙ after_plain line [] so_far.plain)),
        )

  -- no line is left
  pub none_left : AreRead old mid line → IfSome mid (GivesByte None new) → line ≡ [] → IsAtEnd old
  none_left so_far none empty = go old so_far.whole where
    go : (o : Option (List ℕ)) → IfSome o (λ bytes. (rest : List ℕ) × (mid ≡ Some rest) × (bytes ≡ line ++ rest)) → IsAtEnd o
    go None whole = tt
    go (Some bytes) (rest, known, whole) =
        let (ended, left) = subst (λ o. IfSome o (GivesByte None new)) known none in
        whole ∙ ap (λ l. line ++ l) ended ∙ ap (λ l. l ++ []) empty

-- more bytes without a line feed than a line may have
pub too_long : (old mid : Option (List ℕ)) (line : List ℕ) → AreRead old mid line → 4096 < length line → IfSome old IsLongLine
too_long old mid line so_far many = go old so_far.whole where
  go : (o : Option (List ℕ)) → IfSome o (λ bytes. (rest : List ℕ) × (mid ≡ Some rest) × (bytes ≡ line ++ rest)) → IfSome o IsLongLine
  go None whole = tt
  go (Some bytes) (rest, known, whole) =
      let size : line_size bytes ≡ length line + line_size rest = ap line_size whole ∙ size_of line rest so_far.plain in
      omega (arith, size, many)
