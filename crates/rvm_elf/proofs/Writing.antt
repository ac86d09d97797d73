-- One segment more of a file that is written.
use Rattle.std.proofs.Common.{◌≡◌, ℕ, ◌+◌, ◌<◌, ◌≤◌, true, ◌&&◌, nat_le, if◌then◌else◌, List, [], ◌++◌, Some, None, length, drop, get_or, refl, sym, ap, ◌∙◌, arith, append_assoc, append-nil, length-append}
use Rattle.std.proofs.lemmas.Bool.{le-leb, lt-leb}
use Rattle.std.proofs.lemmas.List.{drop_all}
use Rattle.rvm_asm.specs.declared.image.Segment.{Segment}
use Rattle.rvm_asm.specs.Images.{piece_of, pieces_of}
use Rattle.rvm_elf.specs.Spelling.{all_bytes, is_small, are_small, program_header, program_headers}
use Rattle.rvm_elf.proofs.Placing.{first_left}

pub bytes_more : (segments : List Segment) (i : ℕ) (s : Segment) → i < length segments → s ≡ get_or segments i s
    → all_bytes (pieces_of (drop i segments)) ≡ s.bytes.items ++ all_bytes (pieces_of (drop (i + 1) segments))
unfolding all_bytes
bytes_more segments i s more is = ap (λ xs. all_bytes (pieces_of xs)) (first_left segments i s more is)

pub bytes_none : (segments : List Segment) (i : ℕ) → length segments ≤ i → all_bytes (pieces_of (drop i segments)) ≡ []
unfolding all_bytes
bytes_none segments i done = ap (λ xs. all_bytes (pieces_of xs)) (drop_all i segments done)

pub count_more : (segments : List Segment) (i : ℕ) (s : Segment) → i < length segments → s ≡ get_or segments i s
    → length (all_bytes (pieces_of (drop i segments))) ≡ length s.bytes.items + length (all_bytes (pieces_of (drop (i + 1) segments)))
count_more segments i s more is = ap (λ xs. length xs) (bytes_more segments i s more is) ∙ length-append s.bytes.items (all_bytes (pieces_of (drop (i + 1) segments)))

pub small_more : (segments : List Segment) (i : ℕ) (s : Segment) → i < length segments → s ≡ get_or segments i s
    → are_small (pieces_of (drop i segments)) ≡ (is_small (piece_of s) && are_small (pieces_of (drop (i + 1) segments)))
unfolding are_small
small_more segments i s more is = ap (λ xs. are_small (pieces_of xs)) (first_left segments i s more is)

pub small_none : (segments : List Segment) (i : ℕ) → length segments ≤ i → are_small (pieces_of (drop i segments)) ≡ true
unfolding are_small
small_none segments i done = ap (λ xs. are_small (pieces_of xs)) (drop_all i segments done)

pub headers_more : (segments : List Segment) (i offset : ℕ) (s : Segment) → i < length segments → s ≡ get_or segments i s
    → program_headers offset (pieces_of (drop i segments)) ≡ program_header offset (piece_of s) ++ program_headers (offset + length s.bytes.items) (pieces_of (drop (i + 1) segments))
unfolding program_headers
headers_more segments i offset s more is = ap (λ xs. program_headers offset (pieces_of xs)) (first_left segments i s more is)

pub headers_none : (segments : List Segment) (i offset : ℕ) → length segments ≤ i → program_headers offset (pieces_of (drop i segments)) ≡ []
unfolding program_headers
headers_none segments i offset done = ap (λ xs. program_headers offset (pieces_of xs)) (drop_all i segments done)

-- more of what is to be appended was
pub appended_more : (new old one rest left whole : List ℕ) → new ≡ old ++ one → left ≡ one ++ rest → old ++ left ≡ whole → new ++ rest ≡ whole
appended_more new old one rest left whole step parts so_far =
    ap (λ xs. xs ++ rest) step ∙ append_assoc old one rest ∙ ap (λ xs. old ++ xs) (sym parts) ∙ so_far

-- all of it was
pub appended_all : (new left whole : List ℕ) → left ≡ [] → new ++ left ≡ whole → new ≡ whole
appended_all new left whole none so_far = sym (append-nil new) ∙ ap (λ xs. new ++ xs) (sym none) ∙ so_far

-- the count, if it is within the limit
pub within_limit : (count all limit : ℕ) → count ≡ all → count ≤ limit → Some count ≡ (if nat_le all limit then Some all else None)
within_limit count all limit same most = rw (le-leb all limit (omega arith)) (ap (λ n. Some n) same)

pub above_limit : (all limit : ℕ) → limit < all → None ≡ (if nat_le all limit then Some all else None)
above_limit all limit more = rw (lt-leb all limit more) refl
