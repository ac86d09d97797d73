-- Rows: the harts of a board that take their turns one after the other, after those that took theirs.
use Rattle.std.proofs.Common.{◌≡◌, ℕ, suc, ◌+◌, ◌-◌, ◌%◌, ◌<◌, ◌≤◌, true, List, [], ◌∷◌, ◌++◌, All, append_assoc, length, length-append, get_or, set, refl, sym, ap, ◌∙◌, subst, arith}
use Rattle.std.proofs.lemmas.List.{get_or-append-add, get_or_default, length-set, set-append_right}
use Rattle.rvm_hart.specs.Machine.{BusState, HartState, machine}
use Rattle.rvm_hart.specs.Step.{execute}
use Rattle.rvm_hart.specs.Straight.{is_straight}
use Rattle.rvm_hart.specs.Straight as straight
use Rattle.rvm_hart.proofs.Strides.{Strides, strides}
use Rattle.rvm_board.specs.Board.{Board, BoardState, IsBoard, hart_at, machine_at, new_hart}
use Rattle.rvm_board.specs.Rounds.{GoOn, Row, Striding, board_of}
use Rattle.rvm_board.proofs.Boards.{kept, machine_is_board}
use Rattle.rvm_board.proofs.Striding.{row_begins, row_goes_on}

-- each hart of a board has a place among the reservations
pub harts_reserve : (b : Board) → IsBoard b → All (λ x. x.csrs.hart < length b.shared.reservations) b.harts
harts_reserve b board = λ k blank within.
    let number : (get_or b.harts k blank).csrs.hart ≡ k =
    ap (λ (x : HartState). x.csrs.hart) (get_or_default b.harts k blank (new_hart 0 0) within) ∙ board.numbers k within in
    omega (arith, number, within, board.reservations)

-- so has each hart after one that took its turn
pub rest_reserves : (x y : HartState) (hs others : List HartState) (b c : BusState) → hs ≡ x ∷ others
    → All (λ z. z.csrs.hart < length b.shared.reservations) hs → straight.Goes execute x.pc x b y.pc y c
    → is_straight (machine x b) ≡ true → All (λ z. z.csrs.hart < length c.shared.reservations) others
rest_reserves x y hs others b c are reserve goes stays =
    let made : Strides (machine x b) (machine y c) b.dirty c.dirty = strides x y b c goes stays in
    let same : length c.shared.reservations ≡ length b.shared.reservations = (kept (machine y c) (machine x b) made.sizes).reservations in
    let all : All (λ z. z.csrs.hart < length b.shared.reservations) (x ∷ others) =
    subst (λ (l : List HartState). All (λ z. z.csrs.hart < length b.shared.reservations) l) are reserve in
    λ k blank within. omega (arith, all (suc k) blank (omega (arith, within)), same)

-- the next hart took its turn
row_takes : (front rest : List HartState) (x y : HartState) (old : BoardState) (b c : BusState)
    → Row (length front) old (front ++ (x ∷ rest)) b → Strides (machine x b) (machine y c) b.dirty c.dirty
    → Row (length front + 1) old (front ++ (y ∷ rest)) c
row_takes front rest x y old b c so made =
    let h : ℕ = length front in
    let harts : List HartState = front ++ (x ∷ rest) in
    let now : BoardState = board_of harts b in
    let first : h + 0 ≡ h = omega arith in
    let none : h - h ≡ 0 = omega arith in
    let below : h < length harts = omega (arith, length-append front (x ∷ rest)) in
    let is : x ≡ hart_at h now.plain =
    sym (get_or-append-add front (x ∷ rest) 0 (new_hart 0 0)) ∙ ap (λ k. get_or harts k (new_hart 0 0)) first in
    let put : set harts h y ≡ front ++ (y ∷ rest) =
    set-append_right front (x ∷ rest) h h y refl (omega arith) ∙ ap (λ k. front ++ set (x ∷ rest) k y) none in
    let strode : Strides (machine_at h now.plain) (machine y c) b.dirty c.dirty =
    subst (λ (z : HartState). Strides (machine z b) (machine y c) b.dirty c.dirty) is made in
    record {
      size = ap (λ (hs : List HartState). length hs) (sym put) ∙ length-set harts h y ∙ so.size;
      board = subst (λ (hs : List HartState). IsBoard (board_of hs c).plain) put (machine_is_board now.plain h (machine y c) strode.sizes so.board below);
      turns = subst (λ (hs : List HartState). GoOn (h + 1) old (board_of hs c)) put
          (row_goes_on h old now (board_of (set harts h y) c) (machine y c) so.turns below so.size strode refl);
    }

-- of these harts all but the last `behind` take their turns
abbrev pub Goes : (hs new : List HartState) (b c : BusState) (behind : ℕ) → Type 0
Goes hs new b c behind =
    (front : List HartState) → (old : BoardState) → Row (length front) old (front ++ hs) b
    → Row (length front + (length hs - behind)) old (front ++ new) c

-- one hart, and those after it
one_and_rest : (front others new : List HartState) (x y : HartState) (behind : ℕ) (old : BoardState) (b c d : BusState)
    → behind ≤ length others → Goes others new c d behind → Row (length front) old (front ++ (x ∷ others)) b
    → Strides (machine x b) (machine y c) b.dirty c.dirty → Row (length front + (suc (length others) - behind)) old (front ++ (y ∷ new)) d
one_and_rest front others new x y behind old b c d few go so made =
    let before : List HartState = front ++ (y ∷ []) in
    let long : length before ≡ length front + 1 = length-append front (y ∷ []) in
    let all : length before + (length others - behind) ≡ length front + (suc (length others) - behind) = omega (arith, long, few) in
    let now : Row (length before) old (before ++ others) c =
    subst (λ (hs : List HartState). Row (length before) old hs c) (sym (append_assoc front (y ∷ []) others))
    (subst (λ n. Row n old (front ++ (y ∷ others)) c) (sym long) (row_takes front others x y old b c so made)) in
    subst (λ n. Row n old (front ++ (y ∷ new)) d) all
    (subst (λ (hs : List HartState). Row (length before + (length others - behind)) old hs d) (append_assoc front (y ∷ []) new) (go before old now))

-- the harts of a row, of which the first took its turn
pub row_goes : (hs others new : List HartState) (x y : HartState) (behind : ℕ) (b c d : BusState) → hs ≡ x ∷ others
    → behind ≤ length others → straight.Goes execute x.pc x b y.pc y c → is_straight (machine x b) ≡ true → Goes others new c d behind
    → Goes hs (y ∷ new) b d behind
row_goes hs others new x y behind b c d are few goes stays go =
    subst (λ (l : List HartState). Goes l (y ∷ new) b d behind) (sym are)
    (λ front old so. one_and_rest front others new x y behind old b c d few go so (strides x y b c goes stays))

-- a row of n harts, and the turns before it
pub after_row : (n count from left hart behind : ℕ) (begun : BoardState) (hs new : List HartState) (b c : BusState) → length hs ≡ n
    → Goes hs new b c behind → Striding count from begun left 0 (board_of hs b) → n ≤ left → hart ≡ (n - behind) % n
    → Striding count from begun (left - (n - behind)) hart (board_of new c)
after_row n count from left hart behind begun hs new b c size go so enough place =
    let old : BoardState = board_of hs b in
    let all : 0 + (length hs - behind) ≡ n - behind = omega (arith, size) in
    let row : Row (n - behind) old new c =
    subst (λ k. Row k old new c) all (go [] old (record { size = refl; board = so.board; turns = row_begins old })) in
    let at : (n - behind) % length hs ≡ hart = ap (λ l. (n - behind) % l) size ∙ sym place in
    subst (λ i. Striding count from begun (left - (n - behind)) i (board_of new c)) at
    (row.turns count from left begun (omega (arith, enough)) so)
