-- What a snapshot holds of a guest, and that the guest is made of it.
use Rattle.std.proofs.Common.{◌≡◌, ℕ, zero, suc, ◌+◌, ◌<◌, false, List, [], ◌∷◌, ◌++◌, None, length, length-append, map, get_or, refl, sym, ap, subst, ◌∙◌, arith, below_more}
use Rattle.std.specs.List.{range_with_len}
use Rattle.std.proofs.lemmas.List.{same_lists, get_or-map, get_or_default, length-map}
use Rattle.std.proofs.lemmas.List.FromFn.{get_or-map-range_with_len, length-map-range_with_len, map-range_with_len_more}
use Rattle.rvm_dev.specs.Devices.{DeviceState}
use Rattle.rvm_hart.specs.Machine.{HartState}
use Rattle.rvm_hart.specs.Fields.{fields_of, with_number}
use Rattle.rvm_board.specs.Board.{hart_at, new_hart}
use Rattle.rvm_board.specs.declared.part.HartPart.{HartPart}
use Rattle.rvm_board.specs.Guest.{Guest}
use Rattle.rvm_board.specs.Parts.{CanBeHeld, part_of}
use Rattle.rvm_board.specs.State.{guest_of, numbered, parts_of, state_of}
use Rattle.rvm_board.specs.Restoring.{AreHeld, IsOf}
use Rattle.rvm_board.proofs.Guests.{length-numbered}
use Rattle.rvm_board.proofs.Restoring.{same_lists_of}

-- HARTS

-- what is kept of the first harts, which each hart is told by
pub record FirstParts (count : ℕ) (ps : List HartPart) (g : Guest) : Type 0 where
  pub parts : ps ≡ map (λ h. part_of h g) (range_with_len 0 count)
  pub size : length ps ≡ count
  pub held : AreHeld (length g.board.shared.bytes) ps
  pub whole : (k : ℕ) → k < count → with_number k (fields_of (hart_at k g.board)) ≡ hart_at k g.board

pub no_parts : (g : Guest) → FirstParts 0 [] g
no_parts g = record { parts = refl; size = refl; held = tt; whole = λ k lt. absurd (omega (arith, lt)) }

held_pushed : (size : ℕ) (ps : List HartPart) (p : HartPart) → AreHeld size ps → CanBeHeld size p → AreHeld size (ps ++ p ∷ [])
held_pushed size [] p all one = (one, tt)
held_pushed size (q ∷ ps) p all one = (all.0, held_pushed size ps p all.1 one)

pub one_part_more : (g : Guest) (i : ℕ) (p : HartPart) (old new : List HartPart) → p ≡ part_of i g → CanBeHeld (length g.board.shared.bytes) p → with_number i p.fields ≡ hart_at i g.board
    → new ≡ old ++ p ∷ [] → FirstParts i old g → FirstParts (i + 1) new g
one_part_more g i p old new is held whole pushed so_far =
    let f : ℕ → HartPart = λ h. part_of h g in
    let at_i : with_number i (fields_of (hart_at i g.board)) ≡ hart_at i g.board = ap (λ (q : HartPart). with_number i q.fields) (sym is) ∙ whole in
    record {
      parts = pushed ∙ ap (λ ps. ps ++ p ∷ []) so_far.parts ∙ ap (λ q. map f (range_with_len 0 i) ++ q ∷ []) is ∙ sym (map-range_with_len_more f 0 i i (omega arith));
      size = omega (arith, ap length pushed, length-append old (p ∷ []), so_far.size);
      held = subst (AreHeld (length g.board.shared.bytes)) (sym pushed) (held_pushed (length g.board.shared.bytes) old p so_far.held held);
      whole = below_more (λ k. with_number k (fields_of (hart_at k g.board)) ≡ hart_at k g.board) i so_far.whole at_i;
    }

-- A GUEST IS MADE OF ITS VALUES

pub numbered_at : (h : ℕ) (ps : List HartPart) (k : ℕ) (d : HartPart) (blank : HartState) → k < length ps → get_or (numbered h ps) k blank ≡ with_number (h + k) (get_or ps k d).fields
numbered_at h [] k d blank lt = absurd (omega (arith, lt))
numbered_at h (p ∷ ps) zero d blank lt =
    let same : h ≡ h + 0 = omega arith in
    ap (λ n. with_number n p.fields) same
numbered_at h (p ∷ ps) (suc k) d blank lt =
    let next : h + 1 + k ≡ h + suc k = omega arith in
    numbered_at (h + 1) ps k d blank (omega (arith, lt)) ∙ ap (λ n. with_number n (get_or ps k d).fields) next

column : {X : Type 0} (q : HartPart → X) (f : ℕ → HartPart) (n : ℕ) (xs : List X) (blank : X) → length xs ≡ n → ((k : ℕ) → q (f k) ≡ get_or xs k blank) → map q (map f (range_with_len 0 n)) ≡ xs
column {X} q f n xs blank size each =
    let ps : List HartPart = map f (range_with_len 0 n) in
    let long : length ps ≡ n = length-map-range_with_len f 0 n in
    let mapped : length (map q ps) ≡ length ps = length-map ps q in
    same_lists (map q ps) xs (mapped ∙ long ∙ sym size)
    (λ k d lt.
    let below : k < n = omega (arith, lt, mapped, long) in
    get_or-map q ps k (f 0) d (omega (arith, lt, mapped))
    ∙ ap q (get_or-map-range_with_len f 0 n k k (f 0) below (omega arith))
    ∙ each k
    ∙ get_or_default xs k blank d (omega (arith, below, size)))

harts_column : (g : Guest) → ((k : ℕ) → k < length g.board.harts → with_number k (fields_of (hart_at k g.board)) ≡ hart_at k g.board) → numbered 0 (parts_of g) ≡ g.board.harts
harts_column g whole =
    let f : ℕ → HartPart = λ h. part_of h g in
    let n : ℕ = length g.board.harts in
    let long : length (numbered 0 (parts_of g)) ≡ n = length-numbered 0 (parts_of g) ∙ length-map-range_with_len f 0 n in
    same_lists (numbered 0 (parts_of g)) g.board.harts long
    (λ k d lt.
    let below : k < n = omega (arith, lt, long) in
    let zero_and : 0 + k ≡ k = omega arith in
    numbered_at 0 (parts_of g) k (f 0) d (omega (arith, below, length-map-range_with_len f 0 n))
    ∙ ap (λ i. with_number i (get_or (parts_of g) k (f 0)).fields) zero_and
    ∙ ap (λ (p : HartPart). with_number k p.fields) (get_or-map-range_with_len f 0 n k k (f 0) below (omega arith))
    ∙ whole k below
    ∙ get_or_default g.board.harts k (new_hart 0 0) d below)

pub made : (g : Guest) → IsOf (length g.board.harts) g → ((k : ℕ) → k < length g.board.harts → with_number k (fields_of (hart_at k g.board)) ≡ hart_at k g.board) → guest_of g.board.shared.bytes (state_of g) ≡ g
made g is whole =
    let f : ℕ → HartPart = λ h. part_of h g in
    let n : ℕ = length g.board.harts in
    let d : DeviceState = g.board.shared.devices in
    same_lists_of (numbered 0 (parts_of g)) g.board.harts (map (λ p. p.msip) (parts_of g)) d.msip (map (λ p. p.mtimecmp) (parts_of g)) d.mtimecmp (map (λ p. p.reserved) (parts_of g)) g.board.shared.reservations (map (λ p. p.stopped) (parts_of g)) g.stopped g
    (harts_column g whole)
    (column (λ (p : HartPart). p.msip) f n d.msip false is.msip (λ k. refl))
    (column (λ (p : HartPart). p.mtimecmp) f n d.mtimecmp 0 is.mtimecmp (λ k. refl))
    (column (λ (p : HartPart). p.reserved) f n g.board.shared.reservations None is.reservations (λ k. refl))
    (column (λ (p : HartPart). p.stopped) f n g.stopped false is.stopped (λ k. refl))
