-- The length of the bytes of a guest.
use Rattle.std.proofs.Common.{◌≡◌, ℕ, ◌+◌, ◌*◌, ◌≤◌, true, eqb, List, [], ◌∷◌, ◌++◌, length, length-append, refl, sym, subst, ◌∙◌, arith}
use Rattle.std.specs.List.{flat_map, list_all}
use Rattle.std.proofs.lemmas.Bool.{eqb-true}
use Rattle.byteorder.specs.Endian.{little_bytes}
use Rattle.rvm_hart.specs.Fields.{is_ram_word}
use Rattle.rvm_codec.specs.Codec.{any, flag, optional, then_each, times}
use Rattle.rvm_codec.proofs.Steps.{both_are}
use Rattle.rvm_codec.proofs.Writing.{length_numbers_4}
use Rattle.rvm_dev.specs.declared.fields.DeviceFields.{DeviceFields}
use Rattle.rvm_csr.specs.declared.fields.CsrFields.{CsrFields}
use Rattle.rvm_board.specs.declared.part.HartPart.{HartPart}
use Rattle.rvm_board.specs.State.{State}
use Rattle.rvm_state.specs.Formats.{aligned, breakpoints, csrs, hart, head, mie, mstatus, parts, shared, state, whole_parts}
use Rattle.rvm_board.specs.Restoring.{CanBeRestored}
use Rattle.rvm_state.specs.Spelling.{longest}
use Rattle.rvm_state.specs.Writing.{Writes}
use Rattle.rvm_state.proofs.Fits.{can_be_restored}

length_csrs : (c : CsrFields) → length (csrs.write c) ≡ 44
unfolding csrs mstatus mie
length_csrs c = refl

length_head : (n : ℕ) (f : DeviceFields) → length (head.write (n, f)) ≡ 13
unfolding head shared
length_head n f = refl

registers_and : (xs rest : List ℕ) → length xs ≡ 31 → length (flat_map (little_bytes 4) xs ++ rest) ≡ 124 + length rest
registers_and xs rest n = omega (arith, n, length_numbers_4 xs, length-append (flat_map (little_bytes 4) xs) rest)

length_hart : (size : ℕ) (p : HartPart) → (hart size).fits p ≡ true → length ((hart size).write p) ≡ 187
unfolding hart csrs mstatus mie
length_hart size p h =
    let a = both_are (aligned.fits p.fields.pc) _ h in
    let b = both_are ((times 31 (any 4)).fits p.fields.registers) _ a.1 in
    let n : length p.fields.registers ≡ 31 = eqb-true _ _ (both_are (eqb (length p.fields.registers) 31) _ b.0).0 in
    let rest : List ℕ =
    csrs.write p.fields.csrs ++ (flag.write p.msip ++ ((any 8).write p.mtimecmp ++ ((optional (any 4) (is_ram_word size)).write p.reserved ++ flag.write p.stopped))) in
    omega (arith, registers_and p.fields.registers rest n)

length_harts : (size : ℕ) (ps : List HartPart) → list_all (hart size).fits ps ≡ true → length (flat_map (hart size).write ps) ≡ 187 * length ps
length_harts size [] h = refl
length_harts size (p ∷ ps) h =
    let a = both_are ((hart size).fits p) (list_all (hart size).fits ps) h in
    omega (arith, length_hart size p a.0, length_harts size ps a.1, length-append ((hart size).write p) (flat_map (hart size).write ps))

length_five : (a b c d e : List ℕ) → length ((a ++ b) ++ (c ++ (d ++ e))) ≡ length a + length b + (length c + (length d + length e))
length_five a b c d e =
    omega (arith, length-append (a ++ b) (c ++ (d ++ e)), length-append a b, length-append c (d ++ e), length-append d e)

length_parts : (size : ℕ) (s : State) → list_all (hart size).fits s.harts ≡ true
    → length ((parts size).write (whole_parts s)) ≡ 13 + 187 * length s.harts + (1 + length s.input) + (2 + length s.output) + (1 + 4 * length s.breakpoints)
unfolding parts breakpoints
length_parts size s h =
    let first : List ℕ = head.write (length s.harts, s.shared) in
    let harts : List ℕ = flat_map (hart size).write s.harts in
    let addresses : List ℕ = flat_map (little_bytes 4) s.breakpoints in
    length_five first harts (little_bytes 1 (length s.input) ++ s.input) (little_bytes 2 (length s.output) ++ s.output) (little_bytes 1 (length s.breakpoints) ++ addresses)
    ∙ omega (arith, length_head (length s.harts) s.shared, length_harts size s.harts h, length_numbers_4 s.breakpoints)

harts_fit : (size : ℕ) (s : State) → (state size).fits s ≡ true → list_all (hart size).fits s.harts ≡ true
unfolding state parts
harts_fit size s h =
    let a = both_are ((then_each head (λ h. h.0) (hart size)).fits ((length s.harts, s.shared), s.harts)) _ h in
    let front = both_are (head.fits (length s.harts, s.shared)) _ a.0 in
    (both_are (eqb (length s.harts) (length s.harts)) (list_all (hart size).fits s.harts) front.1).1

-- a state that fits has at most `longest` bytes
at_most : (size : ℕ) (s : State) → (state size).fits s ≡ true → length ((state size).write s) ≤ longest
unfolding state
at_most size s h =
    let can : CanBeRestored size s = can_be_restored size s h in
    omega (arith, length_parts size s (harts_fit size s h), can.count, can.input, can.output, can.few)

pub not_longer : (size : ℕ) (s : State) (bytes : List ℕ) → Writes (parts size) (whole_parts s) [] bytes → length bytes ≤ longest
unfolding state
not_longer size s bytes all = subst (λ xs. length xs ≤ longest) (sym all.bytes) (at_most size s all.fits)
