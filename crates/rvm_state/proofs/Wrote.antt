-- The bytes that were written are the guest's spelling.
use Rattle.std.proofs.Common.{◌≡◌, ℕ, zero, suc, ◌+◌, ◌<◌, List, [], ◌∷◌, length, take, get_or, refl, sym, ap, subst, arith}
use Rattle.std.proofs.lemmas.List.{take_more}
use Rattle.rvm_dev.specs.declared.fields.DeviceFields.{DeviceFields}
use Rattle.rvm_codec.specs.Numbers.{within}
use Rattle.rvm_codec.specs.Codec.{Codec, counted_bytes}
use Rattle.rvm_board.specs.declared.part.HartPart.{HartPart}
use Rattle.rvm_board.specs.Guest.{Guest}
use Rattle.rvm_board.specs.Parts.{CanBeHeld}
use Rattle.rvm_board.specs.Restoring.{AreHeld}
use Rattle.rvm_board.specs.State.{State, guest_of, state_of}
use Rattle.rvm_state.specs.Formats.{breakpoints, hart, head, parts, state, whole_parts}
use Rattle.rvm_state.specs.Spelling.{HasSpelling, spelling}
use Rattle.rvm_state.specs.Writing.{Writes, WritesEach}
use Rattle.rvm_state.proofs.Writing.{behind, one_more, then_written}

-- a value that was written in place of an equal one
same_written : {A : Type 0} {c : Codec A} {a b : A} {old new : List ℕ} → a ≡ b → Writes c a old new → Writes c b old new
same_written {A} {c} {a} {b} {old} {new} e p = subst (λ x. Writes c x old new) e p

-- HARTS

held_at : (size i : ℕ) (d : HartPart) (ps : List HartPart) → i < length ps → AreHeld size ps → CanBeHeld size (get_or ps i d)
held_at size i d [] lt held = absurd (omega (arith, lt))
held_at size zero d (p ∷ ps) lt held = held.0
held_at size (suc i) d (p ∷ ps) lt held = held_at size i d ps (omega (arith, lt)) held.1

pub one_hart_more : (harts : List HartPart) (i : ℕ) (d : HartPart) (old mid new : List ℕ) → i < length harts → ((size : ℕ) → AreHeld size harts → WritesEach (hart size) (take i harts) old mid)
    → ((size : ℕ) → CanBeHeld size (get_or harts i d) → Writes (hart size) (get_or harts i d) mid new) → (size : ℕ) → AreHeld size harts → WritesEach (hart size) (take (i + 1) harts) old new
one_hart_more harts i d old mid new lt so_far one size held =
    subst (λ xs. WritesEach (hart size) xs old new) (sym (take_more harts i d lt)) (one_more (so_far size held) (one size (held_at size i d harts lt held)))

-- ALL

pub wrote : (size : ℕ) (s : State) (harts : List HartPart) (input output addresses m0 m1 m2 m3 m4 m5 : List ℕ) → harts ≡ s.harts → input ≡ s.input → output ≡ s.output → addresses ≡ s.breakpoints
    → Writes head (length harts, s.shared) m0 m1 → WritesEach (hart size) harts m1 m2 → Writes (counted_bytes 1 (within 0 16)) input m2 m3 → Writes (counted_bytes 2 (within 0 4096)) output m3 m4 → Writes breakpoints addresses m4 m5
    → Writes (parts size) (whole_parts s) m0 m5
unfolding parts
wrote size s harts input output addresses m0 m1 m2 m3 m4 m5 of_harts of_input of_output of_addresses heads each first second third =
    let start : Writes head (length s.harts, s.shared) m0 m1 = same_written (ap (λ (xs : List HartPart). (length xs, s.shared)) of_harts) heads in
    let told : WritesEach (hart size) s.harts m1 m2 = subst (λ xs. WritesEach (hart size) xs m1 m2) of_harts each in
    behind (then_written (λ (h : ℕ × DeviceFields). h.0) refl start told)
    (behind (same_written of_input first) (behind (same_written of_output second) (same_written of_addresses third)))

-- the values of a guest were written, and no bytes stood before them
pub guest_written : (g : Guest) (s : State) (front bytes : List ℕ) → front ≡ [] → s ≡ state_of g → Writes (parts (length g.board.shared.bytes)) (whole_parts s) front bytes → Writes (parts (length g.board.shared.bytes)) (whole_parts (state_of g)) [] bytes
guest_written g s front bytes empty is all =
    let size : ℕ = length g.board.shared.bytes in
    subst (λ (f : List ℕ). Writes (parts size) (whole_parts (state_of g)) f bytes) empty
    (same_written (ap whole_parts is) all)

pub spelled : (g : Guest) (bytes : List ℕ) → Writes (parts (length g.board.shared.bytes)) (whole_parts (state_of g)) [] bytes → bytes ≡ spelling g
unfolding state
spelled g bytes all = all.bytes

pub has_spelling : (g : Guest) (bytes : List ℕ) → Writes (parts (length g.board.shared.bytes)) (whole_parts (state_of g)) [] bytes → guest_of g.board.shared.bytes (state_of g) ≡ g → HasSpelling g
unfolding state
has_spelling g bytes all is = record { fits = all.fits; made = is }
