-- One write more, one segment more, one hart more.
use Rattle.std.proofs.Common.{◌≡◌, ℕ, nat_le, ◌+◌, ◌-◌, ◌<◌, ◌≤◌, Bool, true, false, ◌&&◌, List, [], ◌∷◌, ◌++◌, length, map, take, drop, get_or, set, refl, sym, ap, ◌∙◌, arith, append_assoc}
use Rattle.std.proofs.lemmas.List.{drop_more, drop_all, take_more, length-map, length-take-le, map-append, get_or_at, set_at}
use Rattle.std.proofs.lemmas.Bool.{leb-true}
use Rattle.rvm_mem.specs.Bytes.{replaced}
use Rattle.rvm_hart.specs.Machine.{HartState}
use Rattle.rvm_hart.specs.Bus.{ram_base, in_ram}
use Rattle.rvm_board.specs.Board.{BoardState}
use Rattle.rvm_asm.specs.declared.image.Segment.{Segment}
use Rattle.rvm_asm.specs.Images.{piece_of, pieces_of}
use Rattle.rvm_elf.specs.Load.{piece_fits, pieces_fit}
use Rattle.rvm_elf.specs.Placing.{with_ram, placed, placed_all}
use Rattle.rvm_elf.proofs.Ranges.{replaced_more}

-- a write after another
pub then_written : (a here : ℕ) (front next both : List ℕ) (old mid new : BoardState) → ram_base ≤ a → here ≡ a + length front → here + length next ≤ ram_base + length old.plain.shared.bytes → both ≡ front ++ next
    → mid ≡ with_ram (replaced (a - ram_base) front old.plain.shared.bytes) old → new ≡ with_ram (replaced (here - ram_base) next mid.plain.shared.bytes) mid
    → new ≡ with_ram (replaced (a - ram_base) both old.plain.shared.bytes) old
then_written a here front next both old mid new low is inside whole first second =
    second
    ∙ ap (λ b. with_ram (replaced (here - ram_base) next b.plain.shared.bytes) b) first
    ∙ ap (λ ram. with_ram ram old) (replaced_more (a - ram_base) (here - ram_base) front next old.plain.shared.bytes (omega arith) (omega arith))
    ∙ ap (λ bytes. with_ram (replaced (a - ram_base) bytes old.plain.shared.bytes) old) (sym whole)

-- what is left of a list whose item at an index was read
pub first_left : {X : Type 0} (xs : List X) (i : ℕ) (x : X) → i < length xs → x ≡ get_or xs i x → drop i xs ≡ x ∷ drop (i + 1) xs
first_left xs i x more is = drop_more xs i x more ∙ ap (λ y. y ∷ drop (i + 1) xs) (sym is)

pub fit_more : (segments : List Segment) (i count : ℕ) (s : Segment) → i < length segments → s ≡ get_or segments i s
    → pieces_fit (pieces_of (drop i segments)) count ≡ (piece_fits (piece_of s) count && pieces_fit (pieces_of (drop (i + 1) segments)) count)
unfolding pieces_fit
fit_more segments i count s more is = ap (λ xs. pieces_fit (pieces_of xs) count) (first_left segments i s more is)

pub place_more : (segments : List Segment) (i : ℕ) (s : Segment) (ram : List ℕ) → i < length segments → s ≡ get_or segments i s
    → placed_all (pieces_of (drop i segments)) ram ≡ placed_all (pieces_of (drop (i + 1) segments)) (placed (piece_of s) ram)
unfolding placed_all
place_more segments i s ram more is = ap (λ xs. placed_all (pieces_of xs) ram) (first_left segments i s more is)

pub and_first : (a b : Bool) → (a && b) ≡ true → a ≡ true
and_first true b e = refl
and_first false b e = cc

pub and_second : (a b : Bool) → (a && b) ≡ true → b ≡ true
and_second true b e = e
and_second false b e = cc

-- nothing left to fit
pub fit_none : (segments : List Segment) (i count : ℕ) → length segments ≤ i → pieces_fit (pieces_of (drop i segments)) count ≡ true
unfolding pieces_fit
fit_none segments i count done = ap (λ xs. pieces_fit (pieces_of xs) count) (drop_all i segments done)

-- nothing left to place
pub place_none : (segments : List Segment) (i : ℕ) (ram : List ℕ) → length segments ≤ i → placed_all (pieces_of (drop i segments)) ram ≡ ram
unfolding placed_all
place_none segments i ram done = ap (λ xs. placed_all (pieces_of xs) ram) (drop_all i segments done)

-- only RAM has changed, also after one write more
pub ram_alone : (old mid new : BoardState) (ram : List ℕ) → mid ≡ with_ram mid.plain.shared.bytes old → new ≡ with_ram ram mid → new ≡ with_ram new.plain.shared.bytes old
ram_alone old mid new ram first second =
    second ∙ ap (with_ram ram) first ∙ ap (λ r. with_ram r old) (sym (ap (λ (b : BoardState). b.plain.shared.bytes) second))

-- one hart more goes on at the entry
pub entries_more : (f : HartState → HartState) (harts : List HartState) (h : ℕ) (blank : HartState) → h < length harts
    → set (map f (take h harts) ++ drop h harts) h (f (get_or (map f (take h harts) ++ drop h harts) h blank)) ≡ map f (take (h + 1) harts) ++ drop (h + 1) harts
entries_more f harts h blank more =
    let front : List HartState = map f (take h harts) in
    let x : HartState = get_or harts h blank in
    let rest : List HartState = drop (h + 1) harts in
    let size : length front ≡ h = length-map (take h harts) f ∙ length-take-le h harts (omega arith) in
    ap (λ xs. set (front ++ xs) h (f (get_or (front ++ xs) h blank))) (drop_more harts h blank more)
    ∙ ap (λ y. set (front ++ x ∷ rest) h (f y)) (get_or_at front x rest blank h size)
    ∙ set_at front x rest (f x) h size
    ∙ sym (append_assoc front (f x ∷ []) rest)
    ∙ ap (λ xs. xs ++ rest) (sym (ap (map f) (take_more harts h blank more) ∙ map-append f (take h harts) (x ∷ [])))

-- bytes that lie in RAM, as numbers
pub record InRam (n a : ℕ) (ram : List ℕ) : Type 0 where
  pub low : ram_base ≤ a
  pub high : a + n ≤ ram_base + length ram

pub lies_in_ram : (n a : ℕ) (ram : List ℕ) → in_ram n a ram ≡ true → InRam n a ram
lies_in_ram n a ram is =
    record {
      low = leb-true ram_base a (and_first _ _ is);
      high = leb-true (a + n) (ram_base + length ram) (and_second (nat_le ram_base a) _ is);
    }
