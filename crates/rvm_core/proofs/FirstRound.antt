-- The first round of a move, copy by copy.
use Rattle.std.proofs.Common.{◌≡◌, ℕ, zero, suc, ◌+◌, ◌≤◌, true, false, List, [], ◌∷◌, ◌++◌, refl, sym, ap, ◌∙◌, subst, arith}
use Rattle.rvm_board.specs.declared.event.BoardEvent.{BoardEvent}
use Rattle.rvm_board.specs.declared.event.BoardReply.{BoardReply}
use Rattle.rvm_guest.specs.TheGuest.{board}
use Rattle.rvm_protocol.specs.Commands.{Copy}
use Rattle.rvm_protocol.specs.Pages.{listed}
use Rattle.rvm_protocol.specs.Replies.{Copied, Reply, RoundEnded}
use Rattle.rvm_protocol.specs.World.{At, Event, replies, reply_to, run, step}
use Rattle.rvm_core.specs.Phases.{IsRound, IsRoundLeft, copies, is_copied, round_replies}
use Rattle.rvm_core.specs.Worlds.{BoardWorld}
use Rattle.rvm_core.proofs.Drives.{listed_first, listed_none, one_further, part_of_listed, replies_next, run_first, run_none}

abbrev pub copies_at : (from i n : ℕ) → List (Event BoardEvent)
copies_at from i n = listed (λ p. At from Copy) i n

abbrev pub told_at : (n i ahead : ℕ) → List (Reply BoardReply)
told_at n i ahead = listed (λ p. Copied p (suc p)) i ahead ++ RoundEnded 1 n 0 0 ∷ []

-- i of the n copies were made
pub record Ahead (from : ℕ) (w0 w : BoardWorld) (i n : ℕ) : Type 0 where
  pub ahead : ℕ
  pub is : n ≡ i + ahead
  pub told : replies board w (copies_at from i (suc ahead)) ≡ told_at n i ahead
  pub leads : run board w (copies_at from i (suc ahead)) ≡ run board w0 (copies from (n + 1))

-- i copies were made; if the replies are those of a first round, these are the first i of its copies
pub record Rounding (from : ℕ) (w0 w : BoardWorld) (i : ℕ) : Type 0 where
  pub counted : (n : ℕ) → n ≤ 4096 → replies board w0 (copies from (n + 1)) ≡ round_replies n → Ahead from w0 w i n
  pub so_far : w ≡ run board w0 (copies from i)

pub begins : (from : ℕ) (w : BoardWorld) → Rounding from w w 0
begins from w =
    record {
      counted = λ n most told.
          let one : n + 1 ≡ suc n = omega arith in
          record {
            ahead = n;
            is = omega arith;
            told = ap (λ z. replies board w (copies from z)) (sym one) ∙ told;
            leads = ap (λ z. run board w (copies from z)) (sym one);
          };
      so_far = sym (ap (run board w) (listed_none (λ p. At from Copy) 0) ∙ run_none w);
    }

not_copied : (r s : Reply BoardReply) → is_copied r ≡ true → r ≡ s → is_copied s ≡ false → ⊥
not_copied r s copied is other = let z : is_copied s ≡ true = ap is_copied (sym is) ∙ copied in cc

-- one copy more
copied_one : (from : ℕ) (w0 w w' : BoardWorld) (i n ahead : ℕ) (r : Reply BoardReply) → n ≡ i + ahead
    → replies board w (copies_at from i (suc ahead)) ≡ told_at n i ahead
    → run board w (copies_at from i (suc ahead)) ≡ run board w0 (copies from (n + 1))
    → is_copied r ≡ true → r ≡ reply_to board w (At from Copy) → w' ≡ step board w (At from Copy)
    → Ahead from w0 w' (i + 1) n
copied_one from w0 w w' i n zero r is told leads copied reply next =
    let here =
    ap (replies board w) (sym (listed_first (λ p. At from Copy) i 0)) ∙ told
    ∙ ap (λ z. z ++ RoundEnded 1 n 0 0 ∷ []) (listed_none (λ p. Copied p (suc p)) i)
    in
    let both = replies_next w w' (At from Copy) (copies_at from (suc i) 0) (RoundEnded 1 n 0 0) [] here in
    absurd (not_copied r (RoundEnded 1 n 0 0) copied (reply ∙ both.0) refl)
copied_one from w0 w w' i n (suc k) r is told leads copied reply next =
    let one : suc i ≡ i + 1 = omega arith in
    let first = listed_first (λ p. At from Copy) i (suc k) in
    let here =
    ap (replies board w) (sym first) ∙ told
    ∙ ap (λ z. z ++ RoundEnded 1 n 0 0 ∷ []) (listed_first (λ p. Copied p (suc p)) i k)
    in
    let both =
    replies_next w w' (At from Copy) (copies_at from (suc i) (suc k)) (Copied i (suc i)) (told_at n (suc i) k) here
    in
    record {
      ahead = k;
      is = omega (arith, is);
      told = subst (λ z. replies board w' (copies_at from z (suc k)) ≡ told_at n z k) one (both.1 next);
      leads =
          ap (λ z. run board w' (copies_at from z (suc k))) (sym one)
          ∙ ap (λ z. run board z (copies_at from (suc i) (suc k))) next
          ∙ sym (run_first w (At from Copy) (copies_at from (suc i) (suc k)))
          ∙ ap (run board w) (sym first) ∙ leads;
    }

pub goes_on : (from : ℕ) (w0 w w' : BoardWorld) (i : ℕ) (r : Reply BoardReply) → Rounding from w0 w i
    → is_copied r ≡ true → r ≡ reply_to board w (At from Copy) → w' ≡ step board w (At from Copy)
    → Rounding from w0 w' (i + 1)
goes_on from w0 w w' i r rounding copied reply next =
    record {
      counted = λ n most told.
          let a = rounding.counted n most told in
          copied_one from w0 w w' i n a.ahead r a.is a.told a.leads copied reply next;
      so_far = one_further (λ p. At from Copy) w0 w w' i rounding.so_far next;
    }

-- the round is over
over : (from : ℕ) (w0 w w' : BoardWorld) (i n ahead : ℕ) (r : Reply BoardReply) → n ≡ i + ahead
    → replies board w (copies_at from i (suc ahead)) ≡ told_at n i ahead
    → run board w (copies_at from i (suc ahead)) ≡ run board w0 (copies from (n + 1))
    → is_copied r ≡ false → r ≡ reply_to board w (At from Copy) → w' ≡ step board w (At from Copy)
    → (i ≡ n) × (w' ≡ run board w0 (copies from (n + 1)))
over from w0 w w' i n zero r is told leads copied reply next =
    let here : copies_at from i 1 ≡ At from Copy ∷ [] =
    listed_first (λ p. At from Copy) i 0 ∙ ap (λ z. At from Copy ∷ z) (listed_none (λ p. At from Copy) (suc i))
    in
    let once = run_first w (At from Copy) [] ∙ run_none (step board w (At from Copy)) in
    (omega (arith, is), next ∙ sym once ∙ ap (run board w) (sym here) ∙ leads)
over from w0 w w' i n (suc k) r is told leads copied reply next =
    let here =
    ap (replies board w) (sym (listed_first (λ p. At from Copy) i (suc k))) ∙ told
    ∙ ap (λ z. z ++ RoundEnded 1 n 0 0 ∷ []) (listed_first (λ p. Copied p (suc p)) i k)
    in
    let both =
    replies_next w w' (At from Copy) (copies_at from (suc i) (suc k)) (Copied i (suc i)) (told_at n (suc i) k) here
    in
    absurd (not_copied (Copied i (suc i)) r refl (sym (reply ∙ both.0)) copied)

pub ends : (from : ℕ) (w0 w w' : BoardWorld) (i : ℕ) (r : Reply BoardReply) → Rounding from w0 w i
    → is_copied r ≡ false → r ≡ reply_to board w (At from Copy) → w' ≡ step board w (At from Copy)
    → IsRound (i + 1) w0 w' from
ends from w0 w w' i r rounding copied reply next =
    λ n most told.
    let a = rounding.counted n most told in
    let made = over from w0 w w' i n a.ahead r a.is a.told a.leads copied reply next in
    (ap (λ z. z + 1) made.0, made.1)

-- no round has more pages than a guest may have
pub too_many : (from : ℕ) (w0 w : BoardWorld) (i : ℕ) → Rounding from w0 w i → 4097 ≤ i → IsRound 4097 w0 w from
too_many from w0 w i rounding many =
    λ n most told.
    let a = rounding.counted n most told in
    let e = a.is in
    absurd (omega (arith, e, most, many))

-- memory ran out before the end of the round
pub stopped : (from : ℕ) (w0 w w' : BoardWorld) (i : ℕ) → Rounding from w0 w i → w' ≡ w → IsRoundLeft w0 w' from
stopped from w0 w w' i rounding is =
    λ n most told.
    let e = (rounding.counted n most told).is in
    part_of_listed (λ p. At from Copy) w0 w' i (n + 1) (omega (arith, e)) (is ∙ rounding.so_far)
