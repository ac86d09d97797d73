-- What a guest is after each of its harts was given its values.
use Rattle.std.proofs.Common.{◌≡◌, ℕ, zero, suc, ◌+◌, ◌<◌, ◌≤◌, Bool, List, [], ◌∷◌, ◌++◌, Option, length, take, drop, map, set, get_or, refl, sym, ap, subst, ◌∙◌, append-nil, arith}
use Rattle.std.proofs.lemmas.List.{take_all, drop_all, drop_more, length-set}
use Rattle.rvm_dev.specs.Devices.{DeviceState}
use Rattle.rvm_hart.specs.Machine.{HartState}
use Rattle.rvm_hart.specs.Fields.{with_number}
use Rattle.rvm_board.specs.declared.part.HartPart.{HartPart}
use Rattle.rvm_board.specs.Board.{Board}
use Rattle.rvm_board.specs.Guest.{Guest, GuestState, fresh}
use Rattle.rvm_board.specs.Parts.{CanBeHeld, hart_restored, restored}
use Rattle.rvm_board.specs.State.{State, guest_of, numbered}
use Rattle.rvm_board.specs.Restoring.{AreHeld, IsOf, harts_restored}

-- ONE HART

-- the first harts have their values, and the others can have them
pub record SoFar (harts : List HartPart) (i : ℕ) (g old : GuestState) : Type 0 where
  pub all : harts_restored i (drop i harts) g.guest ≡ harts_restored 0 harts old.guest
  pub dirty : g.dirty ≡ old.dirty
  pub bytes : g.guest.board.shared.bytes ≡ old.guest.board.shared.bytes
  pub count : length g.guest.board.harts ≡ length harts
  pub held : AreHeld (length g.guest.board.shared.bytes) (drop i harts)

one_more : (harts : List HartPart) (i : ℕ) (d : HartPart) (g : Guest) → i < length harts → harts_restored (i + 1) (drop (i + 1) harts) (hart_restored i (get_or harts i d) g) ≡ harts_restored i (drop i harts) g
unfolding harts_restored
one_more harts i d g lt = sym (ap (λ ps. harts_restored i ps g) (drop_more harts i d lt))

pub goes_on : (harts : List HartPart) (i : ℕ) (d : HartPart) (g new old : GuestState) → i < length harts → new ≡ record g { guest = hart_restored i (get_or harts i d) g.guest } → SoFar harts i g old → SoFar harts (i + 1) new old
goes_on harts i d g new old lt e so_far =
    let p : HartPart = get_or harts i d in
    let held : AreHeld (length g.guest.board.shared.bytes) (p ∷ drop (i + 1) harts) = subst (AreHeld (length g.guest.board.shared.bytes)) (drop_more harts i d lt) so_far.held in
    subst (λ (x : GuestState). SoFar harts (i + 1) x old) (sym e) (record {
      all = one_more harts i d g.guest lt ∙ so_far.all;
      dirty = so_far.dirty;
      bytes = so_far.bytes;
      count = length-set g.guest.board.harts i (with_number i p.fields) ∙ so_far.count;
      held = held.1;
    })

pub next_held : (size i : ℕ) (d : HartPart) (harts : List HartPart) → i < length harts → AreHeld size (drop i harts) → CanBeHeld size (get_or harts i d)
next_held size i d harts lt held =
    let all : AreHeld size (get_or harts i d ∷ drop (i + 1) harts) = subst (AreHeld size) (drop_more harts i d lt) held in
    all.0

no_more : (harts : List HartPart) (i : ℕ) (g : Guest) → length harts ≤ i → harts_restored i (drop i harts) g ≡ g
unfolding harts_restored
no_more harts i g le = ap (λ ps. harts_restored i ps g) (drop_all i harts le)

pub ends : (harts : List HartPart) (i : ℕ) (g old : GuestState) → length harts ≤ i → SoFar harts i g old → g ≡ record old { guest = harts_restored 0 harts old.guest }
ends harts i g old le so_far =
    let all : Guest = harts_restored 0 harts old.guest in
    ap (λ (x : Guest). record g { guest = x }) (sym (no_more harts i g.guest le) ∙ so_far.all)
    ∙ ap (λ (d : List Bool). record old { guest = all; dirty = d }) so_far.dirty

-- ALL HARTS

-- the values of a list before a place, and others after them
abbrev filled : {X : Type 0} → ℕ → List X → List X → List X
filled h xs ys = take h xs ++ ys

fills_next : {X : Type 0} (h : ℕ) (xs ys : List X) (v : X) → h < length xs → filled (suc h) (set xs h v) ys ≡ filled h xs (v ∷ ys)
fills_next h [] ys v lt = absurd (omega (arith, lt))
fills_next zero (x ∷ xs) ys v lt = refl
fills_next (suc h) (x ∷ xs) ys v lt = ap (λ zs. x ∷ zs) (fills_next h xs ys v (omega (arith, lt)))

fills_more : {X : Type 0} (h : ℕ) (xs ys : List X) (v : X) → h < length xs → filled (h + 1) (set xs h v) ys ≡ filled h xs (v ∷ ys)
fills_more h xs ys v lt =
    let one : h + 1 ≡ suc h = omega arith in
    ap (λ n. filled n (set xs h v) ys) one ∙ fills_next h xs ys v lt

filled_all : {X : Type 0} (h : ℕ) (xs : List X) → length xs ≡ h → xs ≡ filled h xs []
filled_all h xs e = sym (append-nil (take h xs) ∙ take_all h xs (omega (arith, e)))

-- a guest with other harts, other words of theirs, other reservations and flags
abbrev pub with_lists : List HartState → List Bool → List ℕ → List (Option ℕ) → List Bool → Guest → Guest
with_lists harts msip mtimecmp reservations stopped g =
    record {
      board = record {
        harts = harts;
        shared = record {
          bytes = g.board.shared.bytes;
          devices = record g.board.shared.devices { msip = msip; mtimecmp = mtimecmp };
          reservations = reservations;
        };
      };
      breakpoints = g.breakpoints;
      stopped = stopped;
    }

pub same_lists_of : (a b : List HartState) (c d : List Bool) (e f : List ℕ) (k l : List (Option ℕ)) (m n : List Bool) (g : Guest) → a ≡ b → c ≡ d → e ≡ f → k ≡ l → m ≡ n → with_lists a c e k m g ≡ with_lists b d f l n g
same_lists_of a b c d e f k l m n g p q r s t =
    ap (λ x. with_lists x c e k m g) p ∙ ap (λ x. with_lists b x e k m g) q ∙ ap (λ x. with_lists b d x k m g) r ∙ ap (λ x. with_lists b d f x m g) s ∙ ap (λ x. with_lists b d f l x g) t

restored_from : (ps : List HartPart) (h : ℕ) (g : Guest) → IsOf (h + length ps) g → harts_restored h ps g
    ≡ with_lists (filled h g.board.harts (numbered h ps)) (filled h g.board.shared.devices.msip (map (λ p. p.msip) ps)) (filled h g.board.shared.devices.mtimecmp (map (λ p. p.mtimecmp) ps)) (filled h g.board.shared.reservations (map (λ p. p.reserved) ps)) (filled h g.stopped (map (λ p. p.stopped) ps)) g
unfolding harts_restored
restored_from [] h g is =
    same_lists_of g.board.harts (filled h g.board.harts []) g.board.shared.devices.msip (filled h g.board.shared.devices.msip []) g.board.shared.devices.mtimecmp (filled h g.board.shared.devices.mtimecmp []) g.board.shared.reservations (filled h g.board.shared.reservations []) g.stopped (filled h g.stopped []) g
    (filled_all h g.board.harts (omega (arith, is.harts)))
    (filled_all h g.board.shared.devices.msip (omega (arith, is.msip)))
    (filled_all h g.board.shared.devices.mtimecmp (omega (arith, is.mtimecmp)))
    (filled_all h g.board.shared.reservations (omega (arith, is.reservations)))
    (filled_all h g.stopped (omega (arith, is.stopped)))
restored_from (p ∷ ps) h g is =
    let next : Guest = hart_restored h p g in
    let d : DeviceState = g.board.shared.devices in
    let still : IsOf (h + 1 + length ps) next = record {
      harts = omega (arith, length-set g.board.harts h (with_number h p.fields), is.harts);
      msip = omega (arith, length-set d.msip h p.msip, is.msip);
      mtimecmp = omega (arith, length-set d.mtimecmp h p.mtimecmp, is.mtimecmp);
      reservations = omega (arith, length-set g.board.shared.reservations h p.reserved, is.reservations);
      stopped = omega (arith, length-set g.stopped h p.stopped, is.stopped);
    } in
    restored_from ps (h + 1) next still
    ∙ same_lists_of (filled (h + 1) next.board.harts (numbered (h + 1) ps)) (filled h g.board.harts (numbered h (p ∷ ps)))
    (filled (h + 1) next.board.shared.devices.msip (map (λ p. p.msip) ps)) (filled h d.msip (map (λ p. p.msip) (p ∷ ps)))
    (filled (h + 1) next.board.shared.devices.mtimecmp (map (λ p. p.mtimecmp) ps)) (filled h d.mtimecmp (map (λ p. p.mtimecmp) (p ∷ ps)))
    (filled (h + 1) next.board.shared.reservations (map (λ p. p.reserved) ps)) (filled h g.board.shared.reservations (map (λ p. p.reserved) (p ∷ ps)))
    (filled (h + 1) next.stopped (map (λ p. p.stopped) ps)) (filled h g.stopped (map (λ p. p.stopped) (p ∷ ps))) g
    (fills_more h g.board.harts (numbered (h + 1) ps) (with_number h p.fields) (omega (arith, is.harts)))
    (fills_more h d.msip (map (λ p. p.msip) ps) p.msip (omega (arith, is.msip)))
    (fills_more h d.mtimecmp (map (λ p. p.mtimecmp) ps) p.mtimecmp (omega (arith, is.mtimecmp)))
    (fills_more h g.board.shared.reservations (map (λ p. p.reserved) ps) p.reserved (omega (arith, is.reservations)))
    (fills_more h g.stopped (map (λ p. p.stopped) ps) p.stopped (omega (arith, is.stopped)))

-- all is replaced but the RAM, what the devices keep for all, and the breakpoints
pub restored_is : (ps : List HartPart) (g : Guest) → IsOf (length ps) g → harts_restored 0 ps g
    ≡ with_lists (numbered 0 ps) (map (λ p. p.msip) ps) (map (λ p. p.mtimecmp) ps) (map (λ p. p.reserved) ps) (map (λ p. p.stopped) ps) g
restored_is ps g is = restored_from ps 0 g (record { harts = omega (arith, is.harts); msip = omega (arith, is.msip); mtimecmp = omega (arith, is.mtimecmp); reservations = omega (arith, is.reservations); stopped = omega (arith, is.stopped) })

-- the guest of a board whose values are all replaced
pub all_restored : (b : Board) (s : State) (harts : List HartPart) (input output addresses : List ℕ) (g0 g1 g2 g3 : Guest) → IsOf (length s.harts) (fresh b) → harts ≡ s.harts → input ≡ s.input → output ≡ s.output → addresses ≡ s.breakpoints
    → g0 ≡ fresh b → g1 ≡ harts_restored 0 harts g0 → g2 ≡ restored s.shared input output g1 → g3 ≡ record g2 { breakpoints = addresses } → g3 ≡ guest_of b.shared.bytes s
all_restored b s harts input output addresses g0 g1 g2 g3 is of_harts of_input of_output of_addresses e0 e1 e2 e3 =
    let with_all : Guest = with_lists (numbered 0 s.harts) (map (λ p. p.msip) s.harts) (map (λ p. p.mtimecmp) s.harts) (map (λ p. p.reserved) s.harts) (map (λ p. p.stopped) s.harts) (fresh b) in
    let lists : g1 ≡ with_all =
    e1 ∙ ap (λ hs. harts_restored 0 hs g0) of_harts ∙ ap (λ g. harts_restored 0 s.harts g) e0 ∙ restored_is s.harts (fresh b) is in
    let queues : g2 ≡ restored s.shared s.input s.output with_all =
    e2 ∙ ap (λ bytes. restored s.shared bytes output g1) of_input ∙ ap (λ bytes. restored s.shared s.input bytes g1) of_output ∙ ap (λ g. restored s.shared s.input s.output g) lists in
    e3
    ∙ ap (λ (g : Guest). record g { breakpoints = addresses }) queues
    ∙ ap (λ (bs : List ℕ). record (restored s.shared s.input s.output with_all) { breakpoints = bs }) of_addresses
