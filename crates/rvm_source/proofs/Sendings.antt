-- Each frame that a source makes can be sent, and its body is no longer than its bound.
use Rattle.std.proofs.Common.{◌≡◌, ℕ, suc, ◌-◌, ◌*◌, ◌^◌, ◌<◌, ◌≤◌, Bool, true, false, not, ◌&&◌, if◌then◌else◌, nat_lt, List, [], ◌∷◌, length, get_or, drop, min, Option, Some, None, refl, sym, ap, ◌∙◌, subst, arith}
use Rattle.std.specs.List.{list_all}
use Rattle.std.specs.Option.{is_some}
use Rattle.std.specs.Int.{div_ceil}
use Rattle.std.proofs.lemmas.Bool.{le-ltb}
use Rattle.std.proofs.lemmas.Bool.Decides.{nat_tests}
use Rattle.std.proofs.lemmas.List.{length-drop, length-take}
use Rattle.rvm_codec.specs.Numbers.{within}
use Rattle.rvm_codec.proofs.Steps.{and_so}
use Rattle.rvm_board.specs.Guest.{GuestState}
use Rattle.rvm_frame.specs.Bodies as body
use Rattle.rvm_frame.specs.Bodies.{is_piece}
use Rattle.rvm_frame.specs.declared.frame.Frame.{Frame}
use Rattle.rvm_frame.specs.declared.frame.Frame.TheVariants as frame
use Rattle.rvm_frame.proofs.Lengths.{length_state}
use Rattle.rvm_guest.specs.Pieces.{cut}
use Rattle.rvm_guest.proofs.Pieces.{count_of_cut, cut_at}
use Rattle.rvm_message.specs.Sendable.{CanBeSent}
use Rattle.rvm_precopy.specs.Coverage.{CoversLast}
use Rattle.rvm_precopy.specs.Plans.{IsPlanOf, Plan, last_found}
use Rattle.rvm_precopy.proofs.Coverage.{all_copied}
use Rattle.rvm_state.specs.Spelling.{longest}
use Rattle.rvm_source.specs.Bounds.{body_bound, is_copied, state_bound, state_frame_bound}
use Rattle.rvm_source.specs.Sources.{PlainSource}
use Rattle.rvm_source.specs.declared.phase.Phase.TheVariants as phases

-- a number is within its limits
in_limits : (low high n : ℕ) → low ≤ n → n ≤ high → within low high n ≡ true
in_limits low high n a b = grind (arith, nat_tests)

from_2 : (version : ℕ) → 2 ≤ version → within 1 3 version ≡ true → within 2 3 version ≡ true
from_2 version new known = grind (arith, nat_tests)

move_fits : (m : ℕ) → 0 < m → m < 2 ^ 64 → within 1 (2 ^ 64 - 1) m ≡ true
move_fits m some small = grind (arith, nat_tests)

copy_fits : (n : ℕ) → 0 < n → n < 2 ^ 32 → within 1 (2 ^ 32 - 1) n ≡ true
copy_fits n some small = grind (arith, nat_tests)

-- each number of a list can be a copy number
abbrev pub AreCopies : List ℕ → Type 0
AreCopies numbers = (p : ℕ) → p < length numbers → (0 < get_or numbers p 0) × (get_or numbers p 0 < 2 ^ 32)

copies_fit : (ns : List ℕ) → AreCopies ns → list_all (within 1 (2 ^ 32 - 1)) ns ≡ true
copies_fit [] each = refl
copies_fit (n ∷ ns) each =
    let first = each 0 (omega arith) in
    rw (copy_fits n first.0 first.1) (copies_fit ns (λ p lt. each (suc p) (omega (arith, lt))))

-- AN OFFER

pub offer_can_be_sent : (version m pages harts : ℕ) → 0 < m → m < 2 ^ 64 → 0 < pages → pages ≤ 4096 → 0 < harts
    → harts ≤ 8 → CanBeSent version (Some 3) (Some (frame.Offer m pages harts))
offer_can_be_sent version m pages harts some_move small_move some_page few_pages some_hart few_harts = λ known.
    record {
      stands = known;
      move_number = move_fits m some_move small_move;
      body = and_so (within 1 4096 pages) (within 1 8 harts) (in_limits 1 4096 pages some_page few_pages)
          (in_limits 1 8 harts some_hart few_harts);
      body_length = omega arith;
    }

-- A STATE AND ITS PIECES

state_can_be_sent : (m : ℕ) (numbers state : List ℕ) → 0 < m → m < 2 ^ 64 → 0 < length numbers
    → length numbers ≤ 4096 → AreCopies numbers → length state ≤ longest
    → CanBeSent 1 (Some (state_bound (length numbers))) (Some (frame.State m numbers state))
state_can_be_sent m numbers state some_move small_move some_page few_pages each short = λ known.
    record {
      stands = refl;
      move_number = move_fits m some_move small_move;
      body = and_so (within 1 4096 (length numbers)) _ (in_limits 1 4096 (length numbers) some_page few_pages)
          (copies_fit numbers each);
      body_length = omega (arith, length_state numbers state, short);
    }

-- a piece that is cut has bytes, and 4096 of them if another piece follows
piece_numbers : (turn parts long whole : ℕ) → turn < parts → parts ≡ div_ceil whole 4096
    → long ≡ min 4096 (whole - 4096 * turn) → is_piece turn parts long ≡ true
piece_numbers turn parts long whole there count size = grind (arith, nat_tests)

piece_fits : (numbers state : List ℕ) (turn : ℕ) → turn < length (cut numbers state)
    → is_piece turn (length (cut numbers state)) (length (get_or (cut numbers state) turn [])) ≡ true
piece_fits numbers state turn there =
    let whole : List ℕ = body.state.write (numbers, state) in
    let rest = length-drop (4096 * turn) whole in
    let size = ap length (cut_at numbers state turn there) ∙ length-take 4096 (drop (4096 * turn) whole) in
    piece_numbers turn (length (cut numbers state)) (length (get_or (cut numbers state) turn [])) (length whole) there
    (count_of_cut numbers state) (size ∙ ap (λ n. min 4096 n) rest)

part_can_be_sent : (version m stamp turn parts : ℕ) (bytes : List ℕ) → 2 ≤ version → 0 < m → m < 2 ^ 64 → 0 < stamp
    → stamp < 2 ^ 32 → turn < parts → parts ≤ 6 → is_piece turn parts (length bytes) ≡ true
    → CanBeSent version (Some 4102) (Some (frame.Part m stamp turn parts bytes))
part_can_be_sent version m stamp turn parts bytes new some_move small_move some_stamp small_stamp there few piece =
    let short : length bytes ≤ 4096 = grind (arith, nat_tests, piece) in
    let place = and_so (within 0 5 turn) (within 1 6 parts)
    (in_limits 0 5 turn (omega arith) (omega (arith, there, few)))
    (in_limits 1 6 parts (omega (arith, there)) few) in
    λ known. record {
      stands = from_2 version new known;
      move_number = move_fits m some_move small_move;
      body = and_so _ (is_piece turn parts (length bytes))
          (and_so (within 1 (2 ^ 32 - 1) stamp) _ (copy_fits stamp some_stamp small_stamp) place) piece;
      body_length = omega (arith, short);
    }

-- a guest has at least one page
pub some_page : (g : GuestState) (r : Plan) (size : ℕ) → 0 < length g.guest.board.shared.bytes
    → size ≡ length g.guest.board.shared.bytes → size ≡ 4096 * length g.dirty → length g.dirty ≡ length r.to_send
    → 0 < length r.to_send
some_page g r size some bytes pages same = omega (arith, some, bytes, pages, same)

-- if no page of a paused guest is left to be copied
module _ (r : Plan) (c : CoversLast r) (copied : last_found r ≡ None) (some : 0 < length r.to_send) where
  -- a copy was made
  some_copies : 0 < r.copies
  some_copies =
      let first = all_copied r c copied 0 some in
      let number = c.numbers 0 in
      omega (arith, first, number)

  each_copy : (numbers : List ℕ) → numbers ≡ r.newest → IsPlanOf (length r.to_send) r → r.copies < 2 ^ 32
      → AreCopies numbers
  each_copy numbers same is few p inside =
      let size : length numbers ≡ length r.to_send = ap length same ∙ is.newest in
      let here : get_or numbers p 0 ≡ get_or r.newest p 0 = ap (λ ns. get_or ns p 0) same in
      let copy = all_copied r c copied p (omega (arith, inside, size)) in
      let number = c.numbers p in
      (omega (arith, here, copy), omega (arith, here, number, few))

-- in version 1 its state is sent whole
pub state_is_sent : (version m : ℕ) (numbers state : List ℕ) (f : Frame) (r : Plan) → version < 2 → 0 < m
    → m < 2 ^ 64 → f ≡ frame.State m numbers state → length state ≤ longest → numbers ≡ r.newest
    → IsPlanOf (length r.to_send) r → 0 < length r.to_send → r.copies < 2 ^ 32 → CoversLast r → last_found r ≡ None
    → CanBeSent version (Some (state_frame_bound version (length r.to_send))) (Some f)
state_is_sent version m numbers state f r old some_move small_move is short same plan some few c copied = λ known.
    let one : version ≡ 1 = grind (arith, nat_tests, known) in
    let size : length numbers ≡ length r.to_send = ap length same ∙ plan.newest in
    let pages : length r.to_send ≤ 4096 = plan.few in
    let sent = state_can_be_sent m numbers state some_move small_move (omega (arith, size, some))
    (omega (arith, size, pages)) (each_copy r c copied some numbers same plan few) short in
    subst (λ v. CanBeSent v (Some (state_frame_bound v (length r.to_send))) (Some f)) (sym one)
    (subst (λ x. CanBeSent 1 (Some (state_bound (length r.to_send))) (Some x)) (sym is)
    (subst (λ n. CanBeSent 1 (Some (state_bound n)) (Some (frame.State m numbers state))) size sent))
    known

-- from version 2 on a piece of it is sent
pub piece_is_sent : (version m stamp turn parts : ℕ) (numbers state bytes : List ℕ) (r : Plan) → 2 ≤ version → 0 < m
    → m < 2 ^ 64 → stamp < 2 ^ 32 → stamp ≡ r.copies → numbers ≡ r.newest → 0 < length r.to_send → CoversLast r
    → last_found r ≡ None → turn < length (cut r.newest state) → parts ≡ length (cut numbers state)
    → bytes ≡ get_or (cut numbers state) turn [] → parts ≤ 6
    → CanBeSent version (Some (state_frame_bound version (length r.to_send)))
    (Some (frame.Part m stamp turn parts bytes))
piece_is_sent version m stamp turn parts numbers state bytes r new some_move small_move small_stamp stamped same some c
    copied there count is few =
    let whole : length (cut numbers state) ≡ length (cut r.newest state) = ap (λ ns. length (cut ns state)) same in
    let piece : is_piece turn parts (length bytes) ≡ true =
    rw (count, is) (piece_fits numbers state turn (omega (arith, there, whole))) in
    let bound : state_frame_bound version (length r.to_send) ≡ 4102 = rw (le-ltb version 2 new) refl in
    subst (λ n. CanBeSent version (Some n) (Some (frame.Part m stamp turn parts bytes))) (sym bound)
    (part_can_be_sent version m stamp turn parts bytes new some_move small_move
    (omega (arith, stamped, some_copies r c copied some)) small_stamp (omega (arith, there, whole, count)) few piece)

-- THE BOUND OF A SOURCE

and_true : (b : Bool) → (b && true) ≡ b
and_true true = refl
and_true false = refl

-- if its guest is paused and no page is left
pub state_in_bound : (version turn : ℕ) (s : PlainSource) (plan : Plan) (f : Frame) (made : Option Frame)
    → s.phase ≡ phases.Stopped turn → last_found s.plan ≡ None → plan ≡ s.plan → made ≡ Some f
    → CanBeSent version (Some (state_frame_bound version (length plan.to_send))) (Some f)
    → CanBeSent version (Some (body_bound version s)) made
state_in_bound version turn s plan f made phase copied same is can =
    let pages : ℕ = length s.plan.to_send in
    let over : is_copied s.phase s.plan ≡ true =
    ap (λ x. is_copied x s.plan) phase ∙ ap (λ o. not (is_some o)) copied in
    let test : (nat_lt version 2 && is_copied s.phase s.plan) ≡ nat_lt version 2 =
    ap (λ b. nat_lt version 2 && b) over ∙ and_true (nat_lt version 2) in
    let bound : state_frame_bound version (length plan.to_send) ≡ body_bound version s =
    ap (λ (r : Plan). state_frame_bound version (length r.to_send)) same
    ∙ ap (λ b. if b then state_bound pages else 4102) (sym test) in
    subst (λ n. CanBeSent version (Some n) made) bound
    (subst (CanBeSent version (Some (state_frame_bound version (length plan.to_send)))) (sym is) can)
