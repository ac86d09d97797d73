-- The guest that the bytes of a state and the pages make.
use Rattle.std.proofs.Common.{◌≡◌, ◌<◌, ℕ, ◌%◌, Bool, if◌then◌else◌, List, length, get_or, Option, Some, None, refl, sym, ap, ◌∙◌, arith}
use Rattle.std.specs.Prelude.{◌↔◌, is_some}
use Rattle.std.proofs.lemmas.Bool.{eq-eqb, ne_eqb}
use Rattle.std.proofs.lemmas.List.FromFn.{length-map-range_with_len}
use Rattle.rvm_codec.specs.Exact.{IsBytes}
use Rattle.rvm_board.specs.Guest.{Guest}
use Rattle.rvm_state.specs.declared.fault.StateFault.{StateFault}
use Rattle.rvm_state.specs.declared.fault.StateFault.TheVariants.{BadState, OutOfMemory}
use Rattle.rvm_state.specs.Formats.{state}
use Rattle.rvm_state.specs.Spelling.{Spells}
use Rattle.rvm_board.specs.State.{State, guest_of, state_of}
use Rattle.rvm_state.proofs.Fits.{can_be_restored}
use Rattle.rvm_state.proofs.Reading.{found, none}
use Rattle.rvm_guest.specs.Body.{build}
use Rattle.rvm_guest.specs.Pages.{pages_in}
use Rattle.rvm_guest.proofs.Bodies.{built, first_byte, not_built}
use Rattle.rvm_handover.specs.Outcomes.{IsFault}

-- the first byte of the bytes of a guest is the number of its harts
harts_first : (bytes ram : List ℕ) (g : Guest) → Spells bytes ram g → get_or bytes 0 0 ≡ length g.board.harts
harts_first bytes ram g is =
    let spelled = ap (λ xs. get_or xs 0 0) is.spelled in
    let first = first_byte g in
    let count : length (state_of g).harts ≡ length g.board.harts = length-map-range_with_len _ 0 (length g.board.harts) in
    let few = (can_be_restored (length g.board.shared.bytes) (state_of g) is.has_spelling.fits).count in
    omega (arith, spelled, first, count, few)

pub made : (harts : ℕ) (bytes ram : List ℕ) (g : Guest) → length ram % 4096 ≡ 0 → get_or bytes 0 0 ≡ harts → Spells bytes ram g → build harts bytes (pages_in ram) ≡ Some g
made harts bytes ram g whole first is =
    built harts bytes ram g whole is
    ∙ ap (λ (b : Bool). if b then Some g else None) (eq-eqb (length g.board.harts) harts (sym (harts_first bytes ram g is) ∙ first))

-- if the first byte is another number of harts, no guest is built
other_read : (harts : ℕ) (bytes ram : List ℕ) (o : Option State) → (state (length ram)).read bytes ≡ o → length ram % 4096 ≡ 0 → 0 < length ram → IsBytes bytes → (get_or bytes 0 0 ≡ harts → ⊥) → build harts bytes (pages_in ram) ≡ None
other_read harts bytes ram None e whole some are other = not_built harts bytes ram whole some are (none bytes ram e)
other_read harts bytes ram (Some s) e whole some are other =
    let g : Guest = guest_of ram s in
    let is = found bytes ram s are some e in
    built harts bytes ram g whole is
    ∙ ap (λ (b : Bool). if b then Some g else None) (ne_eqb (length g.board.harts) harts (λ same. other (harts_first bytes ram g is ∙ same)))

pub other_harts : (harts : ℕ) (bytes ram : List ℕ) → length ram % 4096 ≡ 0 → 0 < length ram → IsBytes bytes → (get_or bytes 0 0 ≡ harts → ⊥) → build harts bytes (pages_in ram) ≡ None
other_harts harts bytes ram whole some are other = other_read harts bytes ram ((state (length ram)).read bytes) refl whole some are other

-- the fault of reading is right for the guest that is built, if any
pub fault_is : (fault : StateFault) (harts : ℕ) (bytes ram : List ℕ) → length ram % 4096 ≡ 0 → 0 < length ram → IsBytes bytes → get_or bytes 0 0 ≡ harts
    → ((fault ≡ BadState) ↔ ((g : Guest) → Spells bytes ram g → ⊥)) → (fault ≡ OutOfMemory → (g : Guest) × Spells bytes ram g)
    → IsFault fault (build harts bytes (pages_in ram))
fault_is BadState harts bytes ram whole some are first bad memory = not_built harts bytes ram whole some are (bad.0 refl)
fault_is OutOfMemory harts bytes ram whole some are first bad memory =
    let one = memory refl in ap (λ (o : Option Guest). is_some o) (made harts bytes ram one.0 whole first one.1)
