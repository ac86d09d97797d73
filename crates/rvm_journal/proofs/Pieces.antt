-- A line that is read in pieces.
use Rattle.std.proofs.Common.{◌≡◌, ◌≢◌, ◌∙◌, ℕ, zero, suc, ◌<◌, ◌≤◌, ◌==◌, Bool, true, false, not, ◌&&◌, List, [], ◌∷◌, ◌++◌, length, take, Option, Some, None, refl, sym, ap, subst, append_assoc, arith}
use Rattle.std.proofs.KnownBytes.{Consumes-nil, Consumes-trans}
use Rattle.std.proofs.BufReadLemmas.{Consumes_shown}
use Rattle.std.proofs.lemmas.Bool.{eqb-true}
use Rattle.std.proofs.lemmas.List.{append-nil, take_more}
use Rattle.std.specs.Io.{StartsWith}
use Rattle.std.specs.Io.BufRead.{DropsConsumable}
use Rattle.std.specs.Io.KnownBytes.{Consumes, Keeps}
use Rattle.std.specs.List.{list_all}
use Rattle.std.specs.Prelude.{IfSome, codes, get_or}
use Rattle.memchr.specs.Find.{IsFirstByte, is_byte}
use Rattle.rvm_journal.specs.declared.reader.Piece.TheVariants as piece
use Rattle.rvm_journal.specs.declared.replay.JournalFault.{JournalFault}
use Rattle.rvm_journal.specs.declared.replay.JournalFault.TheVariants as fault
use Rattle.rvm_journal.specs.Reading.{IsAtLastLine, IsPiece, IsReadFault, IsSizeOfLine, IsSystemFault, most_of_line}
use Rattle.rvm_journal.specs.Written.{is_no_feed}

both : (a b : Bool) → a ≡ true → b ≡ true → (a && b) ≡ true
both true b e f = f
both false b e f = cc

first_of : (a b : Bool) → (a && b) ≡ true → a ≡ true
first_of true b e = refl
first_of false b e = e

second_of : (a b : Bool) → (a && b) ≡ true → b ≡ true
second_of true b e = e
second_of false b e = cc

-- bytes without a line feed, and more of them
pub none_both : (xs ys : List ℕ) → list_all is_no_feed xs ≡ true → list_all is_no_feed ys ≡ true
    → list_all is_no_feed (xs ++ ys) ≡ true
none_both [] ys first then = then
none_both (x ∷ xs) ys first then =
    both (is_no_feed x) (list_all is_no_feed (xs ++ ys)) (first_of (is_no_feed x) (list_all is_no_feed xs) first)
    (none_both xs ys (second_of (is_no_feed x) (list_all is_no_feed xs) first) then)

not_byte : (t : Bool) → t ≢ true → not t ≡ true
not_byte true other = absurd (other refl)
not_byte false other = refl

-- the first bytes, of which none is a line feed
none_before : (bytes : List ℕ) (n : ℕ) → ((k : ℕ) → k < n → is_no_feed (get_or bytes k 0) ≡ true)
    → list_all is_no_feed (take n bytes) ≡ true
none_before bytes zero all = refl
none_before [] (suc n) all = refl
none_before (b ∷ bytes) (suc n) all =
    both (is_no_feed b) (list_all is_no_feed (take n bytes)) (all 0 (omega arith))
    (none_before bytes n (λ k less. all (suc k) (omega (arith, less))))

not_found : (b : Bool) → (b ≡ true → ⊥) → not b ≡ true
not_found true never = absurd (never refl)
not_found false never = refl

pub size_found : (bytes : List ℕ) (i : ℕ) → IsFirstByte (is_byte 10) bytes (Some i) → IsSizeOfLine bytes i
size_found bytes i found =
    let below = found.0.high in
    let is : get_or bytes i 0 ≡ 10 = eqb-true (get_or bytes i 0) 10 found.1 in
    record {
      within = omega (arith, below);
      one = none_before bytes i (λ k less. not_found (get_or bytes k 0 == 10) (found.0.before k (omega arith) less));
      feed = λ less. take_more bytes i 0 below ∙ ap (λ b. take i bytes ++ b ∷ []) is;
    }

pub size_of_all : (bytes : List ℕ) (n : ℕ) → IsFirstByte (is_byte 10) bytes None → n ≡ length bytes → IsSizeOfLine bytes n
size_of_all bytes n none is = record {
  within = omega (arith, is);
  one = none_before bytes n (λ k less. not_found (get_or bytes k 0 == 10) (none k (omega arith) (omega (arith, less, is))));
  feed = λ less. absurd (omega (arith, less, is));
}

-- what was shown of known bytes was taken
pub taken : (a b c : Option (List ℕ)) (buffered : Option ℕ) (bytes : List ℕ) (n : ℕ) → n ≤ length bytes
    → IfSome a (λ xs. StartsWith xs bytes) → IfSome a (λ xs. length bytes ≡ 0 → xs ≡ []) → Keeps a b
    → IfSome a (λ xs. IfSome buffered (λ k. length bytes ≤ k)) → DropsConsumable b c buffered n
    → Consumes a c (take n bytes)
taken a b c buffered bytes n within front end kept fits drops =
    (Consumes_shown a b c buffered bytes n within front end kept fits drops).0

-- the bytes of a line so far: they have no line feed, and were all that was read
pub record IsBegun (old now : Option (List ℕ)) (line : List ℕ) : Type 0 where
  pub consumed : Consumes old now line
  pub one : list_all is_no_feed line ≡ true

pub nothing_read : (known : Option (List ℕ)) (line : List ℕ) → line ≡ [] → IsBegun known known line
nothing_read known line none = record {
  consumed = subst (Consumes known known) (sym none) (Consumes-nil known);
  one = ap (list_all is_no_feed) none;
}

pub part_read : (old now next : Option (List ℕ)) (line after : List ℕ) → IsBegun old now line
    → IsPiece piece.Part now next line after → IsBegun old next after
part_read old now next line after so more = record {
  consumed = subst (Consumes old next) (sym more.1) (Consumes-trans old now next line more.0 so.consumed more.3);
  one = ap (list_all is_no_feed) more.1 ∙ none_both line more.0 so.one more.2;
}

pub line_read : (old now next : Option (List ℕ)) (line after : List ℕ) → IsBegun old now line
    → IsPiece piece.Line now next line after → Consumes old next (after ++ codes "\n")
line_read old now next line after so more =
    subst (Consumes old next)
    (sym (append_assoc line more.0 (codes "\n")) ∙ ap (λ l. l ++ codes "\n") (sym more.1))
    (Consumes-trans old now next line (more.0 ++ codes "\n") so.consumed more.3)

pub line_one : (old now next : Option (List ℕ)) (line after : List ℕ) → IsBegun old now line
    → IsPiece piece.Line now next line after → list_all is_no_feed after ≡ true
line_one old now next line after so more =
    ap (list_all is_no_feed) more.1 ∙ none_both line more.0 so.one more.2

pub none_left : (old now next : Option (List ℕ)) (line after : List ℕ) → IsBegun old now line
    → IsPiece piece.End now next line after → IsAtLastLine old
none_left None now next line after so end = tt
none_left (Some all) None next line after so end = absurd so.consumed
none_left (Some all) (Some left) next line after so end =
    ap (list_all is_no_feed) (so.consumed ∙ ap (λ l. line ++ l) end ∙ append-nil line) ∙ so.one

pub too_long : (old now : Option (List ℕ)) (line : List ℕ) (number : ℕ) → IsBegun old now line → most_of_line < length line
    → IsReadFault old number (fault.LongLine number)
too_long None now line number so long = (refl, tt)
too_long (Some all) None line number so long = absurd so.consumed
too_long (Some all) (Some left) line number so long =
    (refl, record { line = line; rest = left; all = so.consumed; one = so.one; long = long })

-- what the system refuses is refused of any line
pub system_fault : (why : JournalFault) (known : Option (List ℕ)) (number : ℕ) → IsSystemFault why → IsReadFault known number why
system_fault (fault.BadLine k) known number is = absurd is
system_fault (fault.LongLine k) known number is = absurd is
system_fault (fault.TooLong m) known number is = absurd is
system_fault fault.OutOfMemory known number is = tt
system_fault fault.LinkFault known number is = tt
