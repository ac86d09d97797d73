-- Pieces that touch, made one.
use Rattle.std.proofs.Common.{◌≡◌, ℕ, ◌+◌, ◌<◌, ◌≤◌, List, [], ◌∷◌, ◌++◌, length, refl, ap, sym, ◌∙◌, Option, Some, None, arith, subst, rules, ⊎_elim, length-append}
use Rattle.std.specs.Prelude.{Bool, true, false, nat_lt, if◌then◌else◌, IsTrue, IsFalse}
use Rattle.std.proofs.lemmas.Bool.Decides.{nat_tests}
use Rattle.std.proofs.str.Laws.{order}
use Rattle.rvm_asm.specs.Images.{Piece, piece, in_piece, byte_at, or_else}
use Rattle.rvm_asm.specs.Pieces.{AreOrdered, HasSameBytes}
use Rattle.rvm_asm.specs.Views.{extent_piece, extent_pieces, is_apart, AreExtents, Extents, Holds}
use Rattle.rvm_asm.specs.Refusals.{AreSeparate}
use Rattle.rvm_asm.proofs.Bytes.{longer_bytes, or_assoc}
use Rattle.rvm_asm.proofs.Order.{rising}
use Rattle.rvm_asm.proofs.Placed.{Entry, pieces}

-- a piece before others: one with the first, if it ends where that begins
unfoldable pub put : Piece → List Piece → List Piece
put p [] = p ∷ []
put p (q ∷ qs) =
    if nat_lt (p.address + length p.bytes) q.address then p ∷ q ∷ qs
    else piece p.address (p.bytes ++ q.bytes) ∷ qs

-- each piece before those after it
unfoldable pub joined : List Piece → List Piece
joined [] = []
joined (p ∷ ps) = put p (joined ps)

chosen : (b c : Bool) (x y : List Piece) → b ≡ c → (if b then x else y) ≡ (if c then x else y)
chosen b c x y e = ap (λ (d : Bool). if d then x else y) e

put_apart : (p q : Piece) (qs : List Piece) → p.address + length p.bytes < q.address → put p (q ∷ qs) ≡ p ∷ q ∷ qs
unfolding put
put_apart p q qs h = chosen (nat_lt (p.address + length p.bytes) q.address) true (p ∷ q ∷ qs) (piece p.address (p.bytes ++ q.bytes) ∷ qs) (grind (arith, nat_tests))

put_touching : (p q : Piece) (qs : List Piece) → q.address ≤ p.address + length p.bytes → put p (q ∷ qs) ≡ piece p.address (p.bytes ++ q.bytes) ∷ qs
unfolding put
put_touching p q qs h = chosen (nat_lt (p.address + length p.bytes) q.address) false (p ∷ q ∷ qs) (piece p.address (p.bytes ++ q.bytes) ∷ qs) (grind (arith, nat_tests))

put_ordered : (lo : ℕ) (p : Piece) (qs : List Piece) → lo ≤ p.address → 0 < length p.bytes → p.zeros ≡ 0 → AreOrdered 1 (p.address + length p.bytes + 0) qs → AreOrdered 1 lo (put p qs)
unfolding AreOrdered put
put_ordered lo p [] low some none o = (low, some, none, tt)
put_ordered lo p (q ∷ qs) low some none o =
    ⊎_elim
    (λ apart. subst (AreOrdered 1 lo) (sym (put_apart p q qs apart)) (low, some, none, (omega (arith, apart), o.1, o.2, o.3)))
    (λ touching.
    let long : length (p.bytes ++ q.bytes) ≡ length p.bytes + length q.bytes = length-append p.bytes q.bytes in
    let end : q.address + length q.bytes + 1 ≡ p.address + length (p.bytes ++ q.bytes) + 1 = omega (arith, long, touching, o.0) in
    subst (AreOrdered 1 lo) (sym (put_touching p q qs touching))
    (low, omega (arith, long, some), refl, subst (λ n. AreOrdered 1 n qs) end o.3))
    (order (p.address + length p.bytes) q.address)

pub joined_ordered : (lo : ℕ) (ps : List Piece) → AreOrdered 0 lo ps → AreOrdered 1 lo (joined ps)
unfolding AreOrdered joined
joined_ordered lo [] o = tt
joined_ordered lo (p ∷ ps) o = put_ordered lo p (joined ps) o.0 o.1 o.2 (joined_ordered (p.address + length p.bytes + 0) ps o.3)

plain : (p : Piece) → p.zeros ≡ 0 → p ≡ piece p.address p.bytes
plain p e = ap (λ z. record { address = p.address; bytes = p.bytes; zeros = z }) e

put_same : (p : Piece) (qs : List Piece) → p.zeros ≡ 0 → AreOrdered 1 (p.address + length p.bytes + 0) qs → HasSameBytes (p ∷ qs) (put p qs)
unfolding AreOrdered put
put_same p [] none o = λ a. refl
put_same p (q ∷ qs) none o =
    ⊎_elim
    (λ apart. λ a. ap (λ l. byte_at l a) (sym (put_apart p q qs apart)))
    (λ touching. λ a.
    let there : p.address + length p.bytes ≡ q.address = omega (arith, touching, o.0) in
    let x = byte_at qs a in
    sym (or_assoc x (in_piece q a) (in_piece p a))
    ∙ ap (λ r. or_else x (or_else (in_piece r a) (in_piece p a))) (plain q o.2 ∙ ap (λ n. piece n q.bytes) (sym there))
    ∙ ap (λ r. or_else x (or_else (in_piece (piece (p.address + length p.bytes) q.bytes) a) (in_piece r a))) (plain p none)
    ∙ ap (or_else x) (sym (longer_bytes p.address p.bytes q.bytes a))
    ∙ ap (λ l. byte_at l a) (sym (put_touching p q qs touching)))
    (order (p.address + length p.bytes) q.address)

pub joined_same : (lo : ℕ) (ps : List Piece) → AreOrdered 0 lo ps → HasSameBytes ps (joined ps)
unfolding AreOrdered joined
joined_same lo [] o = λ a. refl
joined_same lo (p ∷ ps) o = λ a.
    ap (λ x. or_else x (in_piece p a)) (joined_same (p.address + length p.bytes + 0) ps o.3 a)
    ∙ put_same p (joined ps) o.2 (joined_ordered (p.address + length p.bytes + 0) ps o.3) a

-- how many separate pieces extents make after one whose last address is given
unfoldable pub pieces_behind : (before : Option ℕ) → List Entry → ℕ
pieces_behind before [] = 0
pieces_behind before (e ∷ es) =
    (if is_apart before e.0 then 1 else 0) + pieces_behind (Some e.1.last) es

put_length : (p q : Piece) (qs : List Piece) → length (put p (q ∷ qs)) ≡ (if nat_lt (p.address + length p.bytes) q.address then 1 else 0) + length (q ∷ qs)
unfolding put
put_length p q qs = by_test (nat_lt (p.address + length p.bytes) q.address)
  where
    by_test : (b : Bool) → length (if b then p ∷ q ∷ qs else piece p.address (p.bytes ++ q.bytes) ∷ qs) ≡ (if b then 1 else 0) + length (q ∷ qs)
    by_test true = omega arith
    by_test false = omega arith

-- the first of pieces with one before them
put_first : (p : Piece) (qs : List Piece) → (q : Piece) × (rs : List Piece) × (put p qs ≡ q ∷ rs) × (q.address ≡ p.address)
unfolding put
put_first p [] = (p, [], refl, refl)
put_first p (q ∷ qs) =
    ⊎_elim
    (λ apart. (p, q ∷ qs, put_apart p q qs apart, refl))
    (λ touching. (piece p.address (p.bytes ++ q.bytes), qs, put_touching p q qs touching, refl))
    (order (p.address + length p.bytes) q.address)

module _ (bytes : ℕ → List ℕ) where
  -- one extent before others, which are separate pieces or fewer
  joined_one : (lines : ℕ) (e : Entry) (es : List Entry) → AreExtents bytes lines (e ∷ es) → length (joined (pieces bytes es)) ≡ pieces_behind None es → length (put (extent_piece bytes e) (joined (pieces bytes es))) ≡ 1 + pieces_behind (Some e.1.last) es
  unfolding AreExtents joined put pieces_behind
  joined_one lines e [] x so_far = refl
  joined_one lines e (f ∷ fs) x so_far =
      let first = put_first (extent_piece bytes f) (joined (pieces bytes fs)) in
      let p = extent_piece bytes e in
      let end : p.address + length p.bytes ≡ e.1.last + 1 = x.0.1 in
      let test : nat_lt (p.address + length p.bytes) first.0.address ≡ nat_lt (e.1.last + 1) f.0 = ap (λ n. nat_lt n first.0.address) end ∙ ap (λ n. nat_lt (e.1.last + 1) n) first.3 in
      let long : length (first.0 ∷ first.1) ≡ 1 + pieces_behind (Some f.1.last) fs = ap length (sym first.2) ∙ so_far in
      ap (λ l. length (put p l)) first.2
      ∙ put_length p first.0 first.1
      ∙ ap (λ (b : Bool). (if b then 1 else 0) + length (first.0 ∷ first.1)) test
      ∙ ap (λ n. (if nat_lt (e.1.last + 1) f.0 then 1 else 0) + n) long
      ∙ swapped (if nat_lt (e.1.last + 1) f.0 then 1 else 0) (pieces_behind (Some f.1.last) fs)
    where
      swapped : (x y : ℕ) → x + (1 + y) ≡ 1 + (x + y)
      swapped x y = omega arith

  -- the pieces of extents, joined if they touch, are this many
  pub joined_length : (lines : ℕ) (es : List Entry) → AreExtents bytes lines es → length (joined (pieces bytes es)) ≡ pieces_behind None es
  unfolding AreExtents joined pieces_behind
  joined_length lines [] x = refl
  joined_length lines (e ∷ es) x = joined_one lines e es x (joined_length lines es x.1)

  pub separate : (lines : ℕ) (m : Extents) (b : Bool) → Holds bytes lines m → (IsTrue b → 16 < pieces_behind None m.entries) → (IsFalse b → pieces_behind None m.entries ≤ 16) → AreSeparate (extent_pieces bytes m) b
  separate lines m b held more less =
      let long = joined_length lines m.entries held.each in (
        joined (extent_pieces bytes m),
        joined_same 0 (extent_pieces bytes m) held.ordered,
        rising 0 (joined (extent_pieces bytes m)) (joined_ordered 0 (extent_pieces bytes m) held.ordered),
        λ yes. subst (λ n. 16 < n) (sym long) (more yes),
        λ no. subst (λ n. n ≤ 16) (sym long) (less no),
      )

  pub many : (lines : ℕ) (m : Extents) → Holds bytes lines m → 16 < pieces_behind None m.entries → AreSeparate (extent_pieces bytes m) true
  many lines m held more = separate lines m true held (λ yes. more) (λ no. absurd (search (rules, no)))

  pub few : (lines : ℕ) (m : Extents) → Holds bytes lines m → pieces_behind None m.entries ≤ 16 → AreSeparate (extent_pieces bytes m) false
  few lines m held less = separate lines m false held (λ yes. absurd (search (rules, yes))) (λ no. less)

-- one extent more
pub behind_more : (before : Option ℕ) (es fs : List Entry) (e : Entry) → es ≡ e ∷ fs → pieces_behind before es ≡ (if is_apart before e.0 then 1 else 0) + pieces_behind (Some e.1.last) fs
unfolding pieces_behind
behind_more before es fs e is = ap (pieces_behind before) is

pub behind_none : (before : Option ℕ) (es : List Entry) → es ≡ [] → pieces_behind before es ≡ 0
unfolding pieces_behind
behind_none before es is = ap (pieces_behind before) is

-- it begins a piece of its own, or is part of the one before it
pub counted_apart : (count total : ℕ) (before : Option ℕ) (es fs : List Entry) (e : Entry) → count + pieces_behind before es ≡ total → es ≡ e ∷ fs → is_apart before e.0 ≡ true → count + (1 + pieces_behind (Some e.1.last) fs) ≡ total
counted_apart count total before es fs e sum is apart =
    ap (λ (b : Bool). count + ((if b then 1 else 0) + pieces_behind (Some e.1.last) fs)) (sym apart)
    ∙ ap (λ n. count + n) (sym (behind_more before es fs e is)) ∙ sum

pub counted_touching : (count total : ℕ) (before : Option ℕ) (es fs : List Entry) (e : Entry) → count + pieces_behind before es ≡ total → es ≡ e ∷ fs → is_apart before e.0 ≡ false → count + (0 + pieces_behind (Some e.1.last) fs) ≡ total
counted_touching count total before es fs e sum is touching =
    ap (λ (b : Bool). count + ((if b then 1 else 0) + pieces_behind (Some e.1.last) fs)) (sym touching)
    ∙ ap (λ n. count + n) (sym (behind_more before es fs e is)) ∙ sum
