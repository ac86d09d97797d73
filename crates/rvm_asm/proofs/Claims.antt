-- What one line's extent adds to those of the lines before it.
use Rattle.std.proofs.Common.{◌≡◌, ℕ, ◌+◌, ◌^◌, ◌<◌, ◌≤◌, List, [], length, get_or, refl, ap, sym, subst, ◌∙◌, Ok, Err, None, Some, Option, Result, arith, rules, inl, inr, ⊎_elim}
use Rattle.std.specs.Prelude.{◌⊎◌, false}
use Rattle.std.specs.Option.{is_some}
use denote.Ref.{Bor}
use Rattle.rvm_text.specs.Lexemes.{Lexeme}
use Rattle.rvm_asm.specs.declared.faults.Fault.{Fault}
use Rattle.rvm_asm.specs.declared.faults.LineError.{LineError}
use Rattle.rvm_asm.specs.declared.faults.LineError.TheVariants.{OutOfMemory, Faulty}
use Rattle.rvm_asm.specs.Contents.{bytes_at}
use Rattle.rvm_asm.specs.Values.{Names}
use Rattle.rvm_asm.specs.LineViews.{Gives}
use Rattle.rvm_asm.specs.declared.error.AsmError.{AsmError}
use Rattle.rvm_asm.specs.declared.error.AsmError.TheVariants as asm_error
use Rattle.rvm_asm.specs.Assembly.{BytesOf, IsLaid, line_at, statement_of}
use Rattle.rvm_asm.specs.Refusals.{count_at, count_to, length_of, error_at, IsErrorOf, IsSizeError}
use Rattle.rvm_asm.specs.Views.{extent_pieces, bytes_or_none, line_bytes, line_of, lines_of, texts_of, AreExtents, ArePlaced, Extents, Holds, IsClaim, IsRoom, Puts}
use Rattle.rvm_asm.proofs.Bytes.{count_more, fits, image_more, image_none, image_same}
use Rattle.rvm_asm.proofs.Lines.{lines_count, text_at}
use Rattle.rvm_asm.proofs.Order.{none_ordered}
use Rattle.rvm_asm.proofs.Placed.{pieces}

module _ (lines : List (List Lexeme)) (names : Names) (places : List ℕ) where
  -- a line with these bytes has no others
  pub bytes_are : (i : ℕ) (bs : List ℕ) → BytesOf lines names places i bs → line_bytes lines names places i ≡ bs
  unfolding line_bytes
  bytes_are i bs is = ap bytes_or_none is

  pub its_bytes : (i : ℕ) (bs : List ℕ) → BytesOf lines names places i bs → BytesOf lines names places i (line_bytes lines names places i)
  its_bytes i bs is = is ∙ ap (λ b. Ok b) (sym (bytes_are i bs is))

  pub placed_more : (i : ℕ) (bs : List ℕ) (old new : Extents) (done : Unit {0}) → ArePlaced lines names places i old → BytesOf lines names places i bs → IsClaim (line_bytes lines names places) i (get_or places i 0) old new (Ok done) → ArePlaced lines names places (i + 1) new
  placed_more i bs old new done placed is claim =
      let puts : Puts (extent_pieces (line_bytes lines names places) old) (extent_pieces (line_bytes lines names places) new) names (get_or places i 0) (line_at lines i) = record {
        bytes = line_bytes lines names places i;
        of_line = its_bytes i bs is;
        free = claim.0;
        joined = claim.1;
      } in
      record {
        image = image_more lines i names places (extent_pieces (line_bytes lines names places) old) (extent_pieces (line_bytes lines names places) new) (get_or places i 0) (line_at lines i) placed.image refl refl puts;
        held = claim.2;
      }

  -- a line whose bytes stand where others do
  pub claim_error : (i : ℕ) (bs : List ℕ) (old new : Extents) (e : LineError) → i < length lines → IsLaid lines names places → ArePlaced lines names places i old → BytesOf lines names places i bs → IsClaim (line_bytes lines names places) i (get_or places i 0) old new (Err e) → IsErrorOf lines (error_at (i + 1) e)
  claim_error i bs old new OutOfMemory inside laid placed is claim = tt
  claim_error i bs old new (Faulty f) inside laid placed is claim =
      (i, refl, (inside, inr (names, places, extent_pieces (line_bytes lines names places) old, laid, placed.image, inr (claim.0, (line_bytes lines names places i, its_bytes i bs is, claim.1)))))

  -- a line whose bytes have a fault
  pub bytes_error : (i : ℕ) (m : Extents) (e : LineError) → i < length lines → IsLaid lines names places → ArePlaced lines names places i m → Gives (Err e) (bytes_at names (get_or places i 0) (statement_of (get_or places i 0) (line_at lines i))) → IsErrorOf lines (error_at (i + 1) e)
  bytes_error i m OutOfMemory inside laid placed fault = tt
  bytes_error i m (Faulty f) inside laid placed fault =
      (i, refl, (inside, inr (names, places, extent_pieces (line_bytes lines names places) m, laid, placed.image, inl fault)))

-- the same of texts
pub text_bytes : (texts : List (Bor (List ℕ))) (d : Bor (List ℕ)) (names : Names) (place i : ℕ) (r : Result (List ℕ) Fault) → i < length texts → bytes_at names place (statement_of place (line_of (get_or texts i d).now)) ≡ r → bytes_at names place (statement_of place (line_at (lines_of (texts_of texts)) i)) ≡ r
text_bytes texts d names place i r inside is = ap (λ l. bytes_at names place (statement_of place l)) (sym (text_at texts d i inside)) ∙ is

text_gives : (texts : List (Bor (List ℕ))) (d : Bor (List ℕ)) (names : Names) (place i : ℕ) (e : LineError) → i < length texts → Gives (Err e) (bytes_at names place (statement_of place (line_of (get_or texts i d).now))) → Gives (Err e) (bytes_at names place (statement_of place (line_at (lines_of (texts_of texts)) i)))
text_gives texts d names place i OutOfMemory inside h = tt
text_gives texts d names place i (Faulty f) inside h = text_bytes texts d names place i (Err f) inside h

pub text_fault : (texts : List (Bor (List ℕ))) (d : Bor (List ℕ)) (names : Names) (places : List ℕ) (i : ℕ) (m : Extents) (e : LineError) → i < length texts → IsLaid (lines_of (texts_of texts)) names places → ArePlaced (lines_of (texts_of texts)) names places i m → Gives (Err e) (bytes_at names (get_or places i 0) (statement_of (get_or places i 0) (line_of (get_or texts i d).now))) → IsErrorOf (lines_of (texts_of texts)) (error_at (i + 1) e)
text_fault texts d names places i m e inside laid placed h =
    bytes_error (lines_of (texts_of texts)) names places i m e (omega (arith, inside, lines_count texts)) laid placed (text_gives texts d names (get_or places i 0) i e inside h)

pub text_taken : (texts : List (Bor (List ℕ))) (d : Bor (List ℕ)) (names : Names) (places : List ℕ) (i count : ℕ) (bs : List ℕ) (old new : Extents) (e : LineError) → i < length texts → IsLaid (lines_of (texts_of texts)) names places → ArePlaced (lines_of (texts_of texts)) names places i old → bytes_at names (get_or places i 0) (statement_of (get_or places i 0) (line_of (get_or texts i d).now)) ≡ Ok bs → count ≡ length bs → ((bytes : ℕ → List ℕ) → Holds bytes i old → length (bytes i) ≡ count → IsClaim bytes i (get_or places i 0) old new (Err e)) → IsErrorOf (lines_of (texts_of texts)) (error_at (i + 1) e)
text_taken texts d names places i count bs old new e inside laid placed is counted claim =
    let lines = lines_of (texts_of texts) in
    let mine : BytesOf lines names places i bs = text_bytes texts d names (get_or places i 0) i (Ok bs) inside is in
    claim_error lines names places i bs old new e (omega (arith, inside, lines_count texts)) laid placed mine
    (claim (line_bytes lines names places) placed.held (ap length (bytes_are lines names places i bs mine) ∙ sym counted))

pub text_placed : (texts : List (Bor (List ℕ))) (d : Bor (List ℕ)) (names : Names) (places : List ℕ) (i count : ℕ) (bs : List ℕ) (old new : Extents) (done : Unit {0}) → i < length texts → ArePlaced (lines_of (texts_of texts)) names places i old → bytes_at names (get_or places i 0) (statement_of (get_or places i 0) (line_of (get_or texts i d).now)) ≡ Ok bs → count ≡ length bs → ((bytes : ℕ → List ℕ) → Holds bytes i old → length (bytes i) ≡ count → IsClaim bytes i (get_or places i 0) old new (Ok done)) → ArePlaced (lines_of (texts_of texts)) names places (i + 1) new
text_placed texts d names places i count bs old new done inside placed is counted claim =
    let lines = lines_of (texts_of texts) in
    let mine : BytesOf lines names places i bs = text_bytes texts d names (get_or places i 0) i (Ok bs) inside is in
    placed_more lines names places i bs old new done placed mine
    (claim (line_bytes lines names places) placed.held (ap length (bytes_are lines names places i bs mine) ∙ sym counted))

pub text_fits : (texts : List (Bor (List ℕ))) (d : Bor (List ℕ)) (names : Names) (places : List ℕ) (i count : ℕ) (bs : List ℕ) → i < length texts → IsLaid (lines_of (texts_of texts)) names places → bytes_at names (get_or places i 0) (statement_of (get_or places i 0) (line_of (get_or texts i d).now)) ≡ Ok bs → count ≡ length bs → (count ≡ 0) ⊎ (get_or places i 0 + count ≤ 2 ^ 32)
text_fits texts d names places i count bs inside laid is counted =
    ⊎_elim (λ none. inl (counted ∙ ap length none)) (λ below. inr (omega (arith, counted, below)))
    (fits (lines_of (texts_of texts)) names places i (get_or places i 0) (line_of (get_or texts i d).now) (omega (arith, inside, lines_count texts)) laid refl (text_at texts d i inside) bs is)

pub text_count : (texts : List (Bor (List ℕ))) (d : Bor (List ℕ)) (names : Names) (place i count : ℕ) (bs : List ℕ) → i < length texts → bytes_at names place (statement_of place (line_of (get_or texts i d).now)) ≡ Ok bs → count ≡ length bs → count ≡ count_at names place (line_at (lines_of (texts_of texts)) i)
text_count texts d names place i count bs inside is counted = counted ∙ sym (ap length_of (text_bytes texts d names place i (Ok bs) inside is))

-- before the first line
pub placed_none : (lines : List (List Lexeme)) (names : Names) (places : List ℕ) (m : Extents) → m.entries ≡ [] → ArePlaced lines names places 0 m
unfolding AreExtents
placed_none lines names places m none = record {
  image = image_none lines names places (extent_pieces (line_bytes lines names places) m) (ap (pieces (line_bytes lines names places)) none);
  held = record {
    each = subst (AreExtents (line_bytes lines names places) 0) (sym none) tt;
    ordered = none_ordered 0 (extent_pieces (line_bytes lines names places) m) (ap (pieces (line_bytes lines names places)) none);
  };
}

pub room_none : (lines : List (List Lexeme)) (names : Names) (places : List ℕ) → 2 ^ 24 + count_to lines names places 0 ≡ 2 ^ 24
unfolding count_to
room_none lines names places = omega arith

pub room_more : (lines : List (List Lexeme)) (names : Names) (places : List ℕ) (i count : ℕ) (room : Option ℕ) → IsRoom room (count_to lines names places i + count) → count ≡ count_at names (get_or places i 0) (line_at lines i) → IsRoom room (count_to lines names places (i + 1))
room_more lines names places i count room is counted =
    subst (IsRoom room) (ap (λ n. count_to lines names places i + n) counted ∙ sym (count_more lines i names places (get_or places i 0) (line_at lines i) refl refl)) is

pub no_room : (room : Option ℕ) (count : ℕ) → is_some room ≡ false → IsRoom room count → 2 ^ 24 < count
no_room None count is more = more
no_room (Some left) count is more = cc

-- lines of which none has a fault, with too many bytes
pub oversized : (lines : List (List Lexeme)) (names : Names) (places : List ℕ) (m : Extents) (e : AsmError) → IsLaid lines names places → ArePlaced lines names places (length lines) m → 2 ^ 24 < count_to lines names places (length lines) → IsSizeError (extent_pieces (line_bytes lines names places) m) e → IsErrorOf lines e
oversized lines names places m asm_error.OutOfMemory laid placed more is = absurd is
oversized lines names places m (asm_error.Line n f) laid placed more is = absurd is
oversized lines names places m asm_error.TooLarge laid placed more is =
    (is.0, (names, places, laid, image_same lines names places (extent_pieces (line_bytes lines names places) m) is.0 placed.image is.1, is.2, more), is.4 (search rules))
oversized lines names places m asm_error.TooMany laid placed more is =
    (is.0, (names, places, laid, image_same lines names places (extent_pieces (line_bytes lines names places) m) is.0 placed.image is.1, is.2, more), is.3 (search rules))
