-- The guest that is read is one that the bytes spell, and the only one.
use Rattle.std.proofs.Common.{◌≡◌, ℕ, ◌<◌, List, Option, None, Some, length, refl, sym, ap, ◌∙◌, arith}
use Rattle.rvm_codec.specs.Exact.{IsBytes}
use Rattle.rvm_codec.proofs.Steps.{none_is, some_is}
use Rattle.rvm_board.specs.Guest.{Guest}
use Rattle.rvm_board.specs.State.{State, guest_of, state_of}
use Rattle.rvm_state.specs.Formats.{state}
use Rattle.rvm_state.specs.Spelling.{Spells}
use Rattle.rvm_state.proofs.Exact.{state_exact}
use Rattle.rvm_board.specs.Restoring.{CanBeRestored}
use Rattle.rvm_state.proofs.Fits.{can_be_restored}
use Rattle.rvm_board.proofs.Guests.{state_made}

-- the values that were read are those of a guest
pub found : (bytes ram : List ℕ) (s : State) → IsBytes bytes → 0 < length ram → (state (length ram)).read bytes ≡ Some s → Spells bytes ram (guest_of ram s)
found bytes ram s fits some e =
    let taken = (state_exact (length ram)).takes bytes s fits e in
    let made = state_made ram s in
    record {
      has_ram = refl;
      some_ram = some;
      has_spelling = record { fits = ap (λ t. (state (length ram)).fits t) made ∙ taken.1; made = ap (λ t. guest_of ram t) made };
      spelled = taken.0 ∙ ap (λ t. (state (length ram)).write t) (sym made);
    }

-- the values of a guest that the bytes spell are read
pub is_read : (bytes ram : List ℕ) (g : Guest) → Spells bytes ram g → (state (length ram)).read bytes ≡ Some (state_of g)
is_read bytes ram g spells =
    let own : List ℕ = g.board.shared.bytes in
    ap (λ (r : List ℕ). (state (length r)).read bytes) (sym spells.has_ram)
    ∙ ap (λ t. (state (length own)).read t) spells.spelled
    ∙ (state_exact (length own)).again (state_of g) spells.has_spelling.fits

pub none : (bytes ram : List ℕ) → (state (length ram)).read bytes ≡ None → (g : Guest) → Spells bytes ram g → ⊥
none bytes ram e g spells = none_is (sym (is_read bytes ram g spells) ∙ e)

pub only : (bytes ram : List ℕ) (g h : Guest) → Spells bytes ram g → Spells bytes ram h → g ≡ h
only bytes ram g h of_g of_h =
    let same : state_of g ≡ state_of h = some_is (state_of g) (state_of h) (sym (is_read bytes ram g of_g) ∙ is_read bytes ram h of_h) in
    sym of_g.has_spelling.made
    ∙ ap (λ r. guest_of r (state_of g)) (of_g.has_ram ∙ sym of_h.has_ram)
    ∙ ap (λ s. guest_of h.board.shared.bytes s) same
    ∙ of_h.has_spelling.made

-- THE CALL

at_size : (bytes ram : List ℕ) (size : ℕ) (o : Option State) → size ≡ length ram → o ≡ (state size).read bytes → (state (length ram)).read bytes ≡ o
at_size bytes ram size o e h = ap (λ n. (state n).read bytes) (sym e) ∙ sym h

pub can_restore : (bytes ram : List ℕ) (size : ℕ) (s : State) → IsBytes bytes → size ≡ length ram → Some s ≡ (state size).read bytes → CanBeRestored (length ram) s
can_restore bytes ram size s fits e h =
    can_be_restored (length ram) s ((state_exact (length ram)).takes bytes s fits (at_size bytes ram size (Some s) e h)).1

pub spells : (bytes ram : List ℕ) (size : ℕ) (s : State) → IsBytes bytes → 0 < size → size ≡ length ram → Some s ≡ (state size).read bytes → Spells bytes ram (guest_of ram s)
spells bytes ram size s fits some e h = found bytes ram s fits (omega (arith, some, e)) (at_size bytes ram size (Some s) e h)

pub spells_none : (bytes ram : List ℕ) (size : ℕ) → size ≡ length ram → None ≡ (state size).read bytes → (g : Guest) → Spells bytes ram g → ⊥
spells_none bytes ram size e h = none bytes ram (at_size bytes ram size None e h)
