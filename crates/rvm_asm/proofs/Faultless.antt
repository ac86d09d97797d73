-- Lines that have an image have no fault.
use Rattle.std.proofs.Common.{◌≡◌, ℕ, ◌+◌, ◌<◌, List, [], length, slice_index, slice_index_or, ap, sym, ◌∙◌, Option, Some, None, Ok, Err, arith, subst, ⊎_elim}
use Rattle.std.specs.Prelude.{◌⊎◌, IsSome}
use Rattle.std.specs.Str.Lines.{lines}
use Rattle.rvm_text.specs.Lexemes.{Lexeme, lexemes}
use Rattle.rvm_asm.specs.declared.faults.Fault.{Fault}
use Rattle.rvm_asm.specs.Contents.{bytes_at}
use Rattle.rvm_asm.specs.Reading.{◌>>=◌}
use Rattle.rvm_asm.specs.Statements.{Definition, label_of, next_place, equ_at}
use Rattle.rvm_asm.specs.Values.{Names}
use Rattle.rvm_asm.specs.Images.{Piece}
use Rattle.rvm_asm.specs.Assembly.{line_at, statement_of, Takes, Lays, AreRead, BytesOf, IsLaid, IsLaidTo, IsImage, IsImageTo}
use Rattle.rvm_asm.specs.Pieces.{IsWithin}
use Rattle.rvm_asm.specs.Refusals.{defined_at, HasFault, HasNoFault, ImagesHaveNoFault, IsErrorOf, IsOversized, IsTwice, IsUnplaced, IsUnput, IsUnread, SizesHaveNoFault}
use Rattle.rvm_asm.proofs.Lines.{each_read}
use Rattle.rvm_asm.proofs.Unique.{same_lines, same_names, same_to, taken, with_definition}

none_some : (o : Option ℕ) → o ≡ None → IsSome o → ⊥
none_some None e h = cc
none_some (Some x) e h = cc

-- what joins the names had no value
not_twice : (old new : Names) (d : Option Definition) → Takes old new d → IsTwice old d → ⊥
not_twice old new None t twice = absurd twice
not_twice old new (Some d) t twice = none_some (old d.0) t.0 twice

-- a line that is laid out has no fault in it
laid_faultless : (old new : Names) (place after : ℕ) (line : List Lexeme) (fault : Fault) → Lays old new place after line → IsUnplaced old place line fault → ⊥
laid_faultless old new place after line fault l bad =
    let defined : defined_at old place (statement_of place line) ≡ Ok l.definition = ap (λ r. r >>= λ x. equ_at old (statement_of place line)) l.next ∙ l.read in
    ⊎_elim
    (λ wrong. let e : Ok l.definition ≡ Err fault = sym defined ∙ wrong in cc)
    (λ twice.
    let d = twice.1 in
    let same : d.0 ≡ l.definition = (let e : Ok d.0 ≡ Ok l.definition = sym d.1 ∙ defined in cc) in
    ⊎_elim
    (λ labelled. not_twice old l.labelled (label_of place line).0 l.label labelled)
    (λ both.
    let mid : both.0 ≡ l.labelled = taken old both.0 (label_of place line).0 both.1 ∙ sym (taken old l.labelled (label_of place line).0 l.label) in
    not_twice l.labelled new l.definition l.defined (subst (λ x. IsTwice l.labelled x) same (subst (λ n. IsTwice n d.0) mid both.2)))
    d.2)
    bad

-- a line that can be laid out after those before it has no fault in its layout
placing_faultless : (all : List (List Lexeme)) (names : Names) (places : List ℕ) (i : ℕ) (fault : Fault) (names' : Names) (places' : List ℕ) → IsLaid all names places → i < length all → IsLaidTo all i names' places' → IsUnplaced names' (slice_index places' i) (line_at all i) fault → ⊥
placing_faultless all names places i fault names' places' laid inside other bad =
    let same = same_to all (length all) i names names' places places' laid other i (omega (arith, inside)) (omega arith) in
    let called : names' ≡ laid.known i = sym (same.names ∙ other.all) in
    let here : IsUnplaced (laid.known i) (slice_index places i) (line_at all i) fault =
    subst (λ p. IsUnplaced (laid.known i) p (line_at all i) fault) (sym same.place) (subst (λ n. IsUnplaced n (slice_index places' i) (line_at all i) fault) called bad) in
    laid_faultless (laid.known i) (laid.known (i + 1)) (slice_index places i) (slice_index places (i + 1)) (line_at all i) fault (laid.each i inside) here

-- nor in its bytes, if all have an image
bytes_faultless : (all : List (List Lexeme)) (names : Names) (places : List ℕ) (image : List Piece) (i : ℕ) (fault : Fault) (names' : Names) (places' : List ℕ) (image' : List Piece) → IsLaid all names places → IsImage all names places image → i < length all → IsLaid all names' places' → IsImageTo all i names' places' image' → IsUnput image' names' (slice_index places' i) (line_at all i) fault → ⊥
bytes_faultless all names places image i fault names' places' image' laid is inside other so_far bad =
    let called : names' ≡ names = same_names all (length all) names' names places' places other laid in
    let place_of : (j : ℕ) → j < length all → slice_index places' j ≡ slice_index places j = λ j h. (same_to all (length all) (length all) names' names places' places other laid j (omega (arith, h)) (omega (arith, h))).place in
    let bytes_of : (j : ℕ) → j < length all → (cs : List ℕ) → BytesOf all names' places' j cs → BytesOf all names places j cs = λ j h cs b.
    subst (λ p. bytes_at names p (statement_of p (line_at all j)) ≡ Ok cs) (place_of j h)
    (subst (λ n. bytes_at n (slice_index places' j) (statement_of (slice_index places' j) (line_at all j)) ≡ Ok cs) called b) in
    ⊎_elim
    (λ wrong.
    let b = is.bytes i inside in
    let w : bytes_at names (slice_index places i) (statement_of (slice_index places i) (line_at all i)) ≡ Err fault =
    subst (λ p. bytes_at names p (statement_of p (line_at all i)) ≡ Err fault) (place_of i inside)
    (subst (λ n. bytes_at n (slice_index places' i) (statement_of (slice_index places' i) (line_at all i)) ≡ Err fault) called wrong) in
    let e : Ok b.0 ≡ Err fault = sym b.1 ∙ w in
    cc)
    (λ overlap.
    let bs = overlap.1.0 in
    let t = overlap.1.2 in
    let o = so_far.others t.0 t.3 in
    let before : o.0 < length all = omega (arith, inside, o.1) in
    is.apart o.0 i o.1 inside o.2 bs (bytes_of o.0 before o.2 o.3) (bytes_of i inside bs overlap.1.1) t.0
    (subst (λ p. IsWithin t.0 p o.2) (place_of o.0 before) o.4)
    (subst (λ p. IsWithin t.0 p bs) (place_of i inside) (t.1, t.2)))
    bad

pub lines_faultless : (all : List (List Lexeme)) (names : Names) (places : List ℕ) (image : List Piece) (i : ℕ) (fault : Fault) → IsLaid all names places → IsImage all names places image → HasFault all i fault → ⊥
lines_faultless all names places image i fault laid is bad =
    ⊎_elim
    (λ p. placing_faultless all names places i fault p.0 p.1 laid bad.0 p.2 p.3)
    (λ b. bytes_faultless all names places image i fault b.0 b.1 b.2 laid is bad.0 b.3 b.4 b.5)
    bad.1

-- a line that is read is no line that can't be
unread_faultless : (texts : List (List ℕ)) (all : List (List Lexeme)) (i : ℕ) (fault : Fault) → AreRead texts all → IsUnread texts i fault → ⊥
unread_faultless texts all i fault read bad = none_line (lexemes (slice_index_or texts i [])) bad.2 (each_read texts all read i bad.0)
  where
    none_line : (o : Option (List Lexeme)) → o ≡ None → IsSome o → ⊥
    none_line None e h = cc
    none_line (Some x) e h = cc

text_faultless : (text : List ℕ) (all : List (List Lexeme)) (names : Names) (places : List ℕ) (image : List Piece) → AreRead (lines text) all → IsLaid all names places → IsImage all names places image → HasNoFault text
text_faultless text all names places image read laid is = λ number fault bad.
    ⊎_elim
    (λ unread. unread_faultless (lines text) all unread.0 fault read unread.2)
    (λ there.
    let same : there.0 ≡ all = same_lines there.0 all (sym there.1 ∙ read) in
    let here = subst (λ ls. HasFault ls there.2.0 fault) same there.2.2 in
    lines_faultless all names places image there.2.0 fault laid is here)
    bad

pub image_faultless : (text : List ℕ) → ImagesHaveNoFault text
image_faultless text = λ entry image a. text_faultless text a.0 a.2.0 a.2.1 image a.1 a.2.2 a.2.3

oversized_faultless : (text : List ℕ) (all : List (List Lexeme)) (image : List Piece) → AreRead (lines text) all → IsOversized all image → HasNoFault text
oversized_faultless text all image read o = text_faultless text all o.0 o.1 image read o.2 o.3

pub size_faultless : (text : List ℕ) → SizesHaveNoFault text
size_faultless text = λ big. ⊎_elim
    (λ large. ⊎_elim (λ never. absurd never) (λ a. oversized_faultless text a.0 a.2.0 a.1 a.2.1) large)
    (λ many. ⊎_elim (λ never. absurd never) (λ a. oversized_faultless text a.0 a.2.0 a.1 a.2.1) many)
    big
