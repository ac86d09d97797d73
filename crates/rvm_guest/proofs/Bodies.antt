-- A guest is read back from its state and its pages.
use Rattle.std.proofs.Common.{◌≡◌, ℕ, ◌*◌, ◌/◌, ◌%◌, ◌<◌, Bool, true, false, ◌==◌, if◌then◌else◌, List, ◌∷◌, length, get_or, drop, Option, Some, None, refl, sym, ap, ◌∙◌, arith}
use Rattle.std.proofs.lemmas.Bool.{ne_eqb}
use Rattle.std.proofs.lemmas.List.FromFn.{length-map-range_with_len}
use Rattle.rvm_codec.specs.Exact.{IsBytes}
use Rattle.rvm_codec.specs.Codec.{◌>>=◌}
use Rattle.rvm_codec.proofs.Steps.{same_number}
use Rattle.rvm_csr.specs.Fields as csr
use Rattle.rvm_hart.specs.Machine.{HartState}
use Rattle.rvm_hart.specs.Fields.{fields_of, with_number}
use Rattle.rvm_hart.proofs.Whole.{whole}
use Rattle.rvm_board.specs.Board.{hart_at}
use Rattle.rvm_board.specs.Guest.{Guest}
use Rattle.rvm_state.specs.Formats.{head, parts, state}
use Rattle.rvm_board.specs.State.{State, guest_of, parts_of, state_of}
use Rattle.rvm_state.specs.Spelling.{HasSpelling, Spells, spelling}
use Rattle.rvm_state.proofs.Exact.{state_exact}
use Rattle.rvm_state.proofs.Reading.{found, is_read}
use Rattle.rvm_board.proofs.Made.{made}
use Rattle.rvm_guest.specs.Pages.{count_of, joined, pages_in, pages_of, size_of}
use Rattle.rvm_guest.specs.Valid.{is_valid}
use Rattle.rvm_guest.specs.Body.{body_of, build, guest_if, has_bytes, read_body}
use Rattle.rvm_guest.specs.Values.{values}
use Rattle.rvm_guest.proofs.Joined.{joined_pages}
use Rattle.rvm_guest.proofs.Staying.{IsHart, IsValid, valid_is}
use Rattle.rvm_guest.proofs.Values.{values_back}

-- THE VALUES ARE READ FROM THE STATE

-- the first byte of a guest's bytes is the number of its harts
pub first_byte : (g : Guest) → get_or (spelling g) 0 0 ≡ length (parts_of g) % 256
unfolding state parts head
first_byte g = refl

not_256 : (g : Guest) → (get_or (spelling g) 0 0 == 256) ≡ false
not_256 g = ne_eqb (get_or (spelling g) 0 0) 256 (λ e. let f = first_byte g in omega (arith, e, f))

-- the state of a guest as it is sent, by whether its values fit in its bytes
abbrev stated : Bool → Guest → List ℕ
stated b g = if b then spelling g else 256 ∷ values.write (state_of g)

body_back : (b : Bool) (g : Guest) → has_bytes g ≡ b → read_body (size_of g) (stated b g) ≡ Some (state_of g)
body_back true g fits =
    ap (λ (t : Bool). if t then values.read (drop 1 (spelling g)) else (state (size_of g)).read (spelling g)) (not_256 g)
    ∙ (state_exact (size_of g)).again (state_of g) fits
body_back false g none = values_back (state_of g)

pub body_is_read : (g : Guest) → read_body (size_of g) (body_of g) ≡ Some (state_of g)
unfolding body_of
body_is_read g = body_back (has_bytes g) g refl

-- THE VALUES MAKE THE GUEST

hart_made : (k : ℕ) (h : HartState) → IsHart k h → with_number k (fields_of h) ≡ h
hart_made k h is =
    ap (λ n. with_number n (fields_of h)) (sym is.number)
    ∙ whole h.regs (drop 1 h.regs) h.pc h.csrs (csr.fields_of h.csrs) is.registers.0 is.registers.1 refl refl

guest_made : (g : Guest) → IsValid g → guest_of g.board.shared.bytes (state_of g) ≡ g
guest_made g v =
    made g
    (record { harts = refl; msip = v.msip; mtimecmp = v.mtimecmp; reservations = v.reservations; stopped = v.stopped })
    (λ k lt. hart_made k (hart_at k g.board) (v.harts k lt))

pub read_back : (g : Guest) → is_valid g ≡ true → build (length g.board.harts) (body_of g) (pages_of g) ≡ Some g
unfolding build
read_back g h =
    let v : IsValid g = valid_is g h in
    let bytes : List ℕ = g.board.shared.bytes in
    let size : length bytes ≡ 4096 * count_of g = let z = v.whole in omega (arith, z) in
    let ram : joined (pages_of g) ≡ bytes = joined_pages (count_of g) bytes size in
    let count : length (state_of g).harts ≡ length g.board.harts = length-map-range_with_len _ 0 (length g.board.harts) in
    rw (ram, body_is_read g, same_number _ _ count) (ap (λ x. Some x) (guest_made g v))

-- WHAT A HOST HAS

-- the state of a guest that its bytes determine is its bytes
pub body_is : (g : Guest) → HasSpelling g → body_of g ≡ spelling g
unfolding body_of
body_is g has = ap (λ (b : Bool). if b then spelling g else 256 ∷ values.write (state_of g)) has.fits

joined_again : (ram : List ℕ) → length ram % 4096 ≡ 0 → joined (pages_in ram) ≡ ram
joined_again ram whole = joined_pages (length ram / 4096) ram (omega (arith, whole))

guest_if_is : (b : Bool) (ram : List ℕ) (g : Guest) → guest_of ram (state_of g) ≡ g → (if b then Some (guest_of ram (state_of g)) else None) ≡ (if b then Some g else None)
guest_if_is true ram g is = ap (λ x. Some x) is
guest_if_is false ram g is = refl

pub built : (harts : ℕ) (bytes ram : List ℕ) (g : Guest) → length ram % 4096 ≡ 0 → Spells bytes ram g → build harts bytes (pages_in ram) ≡ (if length g.board.harts == harts then Some g else None)
unfolding build
built harts bytes ram g whole is =
    let first : (get_or bytes 0 0 == 256) ≡ false = ap (λ xs. get_or xs 0 0 == 256) is.spelled ∙ not_256 g in
    let count : length (state_of g).harts ≡ length g.board.harts = length-map-range_with_len _ 0 (length g.board.harts) in
    rw (joined_again ram whole, first, is_read bytes ram g is, count)
    (guest_if_is (length g.board.harts == harts) ram g (ap (λ xs. guest_of xs (state_of g)) (sym is.has_ram) ∙ is.has_spelling.made))

not_read : (harts : ℕ) (bytes ram : List ℕ) (o : Option State) → (state (length ram)).read bytes ≡ o → 0 < length ram → IsBytes bytes → ((g : Guest) → Spells bytes ram g → ⊥) → (o >>= λ s. guest_if harts ram s) ≡ None
not_read harts bytes ram None is some are no_guest = refl
not_read harts bytes ram (Some s) is some are no_guest = absurd (no_guest (guest_of ram s) (found bytes ram s are some is))

pub not_built : (harts : ℕ) (bytes ram : List ℕ) → length ram % 4096 ≡ 0 → 0 < length ram → IsBytes bytes → ((g : Guest) → Spells bytes ram g → ⊥) → build harts bytes (pages_in ram) ≡ None
unfolding build
not_built harts bytes ram whole some are no_guest =
    let first : (get_or bytes 0 0 == 256) ≡ false = ne_eqb (get_or bytes 0 0) 256 (λ e. let b = are 0 in omega (arith, e, b)) in
    rw (joined_again ram whole, first) (not_read harts bytes ram ((state (length ram)).read bytes) refl some are no_guest)
