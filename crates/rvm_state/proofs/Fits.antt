-- Values that fit can be restored.
use Rattle.std.proofs.Common.{◌≡◌, ℕ, ◌+◌, ◌%◌, ◌<◌, ◌≤◌, true, eqb, List, [], ◌∷◌, Option, None, Some, length, refl, arith}
use Rattle.std.specs.Prelude.{nat_le}
use Rattle.std.specs.List.{list_all}
use Rattle.std.proofs.lemmas.Bool.{eqb-true}
use Rattle.std.proofs.lemmas.Bool.Decides.{nat_tests}
use Rattle.rvm_csr.specs.declared.fields.CsrFields.{CsrFields}
use Rattle.rvm_csr.specs.Fields as csr
use Rattle.rvm_hart.specs.Fields.{is_in_ram, is_ram_word}
use Rattle.rvm_codec.specs.Numbers.{rise_from, within}
use Rattle.rvm_codec.specs.Codec.{any, both, counted_bytes, counted_each, flag, optional, then_each, times}
use Rattle.rvm_codec.proofs.Steps.{both_are}
use Rattle.rvm_board.specs.declared.part.HartPart.{HartPart}
use Rattle.rvm_board.specs.Guest.{AreAbove, AreRising}
use Rattle.rvm_board.specs.Parts.{CanBeHeld}
use Rattle.rvm_board.specs.State.{State}
use Rattle.rvm_state.specs.Formats.{aligned, mstatus, mie, mtvec, csrs, hart, shared, head, breakpoints, parts, state}
use Rattle.rvm_board.specs.Restoring.{AreHeld, CanBeRestored}

aligned_is : (n : ℕ) → aligned.fits n ≡ true → n % 4 ≡ 0
aligned_is n h = eqb-true _ _ (both_are ((any 4).fits n) (eqb (n % 4) 0) h).1

csrs_held : (c : CsrFields) → csrs.fits c ≡ true → csr.CanBeHeld c
unfolding csrs
csrs_held c h =
    let a = both_are (mstatus.fits (c.interrupts_enabled, c.enabled_before)) _ h in
    let b = both_are (mie.fits c.mie) _ a.1 in
    let t = both_are (mtvec.fits c.mtvec) _ b.1 in
    let s = both_are ((any 4).fits c.mscratch) _ t.1 in
    let e = both_are (aligned.fits c.mepc) _ s.1 in
    record { mtvec = eqb-true _ _ (both_are ((any 4).fits c.mtvec) _ t.0).1; mepc = aligned_is c.mepc e.0 }

reserved_held : (size : ℕ) (o : Option ℕ) → (optional (any 4) (is_ram_word size)).fits o ≡ true → is_in_ram size o ≡ true
reserved_held size None h = refl
reserved_held size (Some a) h = (both_are ((both flag (any 4)).fits (true, a)) (is_ram_word size a) h).1

hart_held : (size : ℕ) (p : HartPart) → (hart size).fits p ≡ true → CanBeHeld size p
unfolding hart
hart_held size p h =
    let a = both_are (aligned.fits p.fields.pc) _ h in
    let b = both_are ((times 31 (any 4)).fits p.fields.registers) _ a.1 in
    let c = both_are (csrs.fits p.fields.csrs) _ b.1 in
    let m = both_are (flag.fits p.msip) _ c.1 in
    let t = both_are ((any 8).fits p.mtimecmp) _ m.1 in
    let r = both_are ((optional (any 4) (is_ram_word size)).fits p.reserved) _ t.1 in
    record {
      fields = record { pc = aligned_is p.fields.pc a.0; csrs = csrs_held p.fields.csrs c.0 };
      reserved = reserved_held size p.reserved r.0;
    }

harts_held : (size : ℕ) (ps : List HartPart) → list_all (hart size).fits ps ≡ true → AreHeld size ps
harts_held size [] h = tt
harts_held size (p ∷ ps) h =
    let a = both_are ((hart size).fits p) (list_all (hart size).fits ps) h in
    (hart_held size p a.0, harts_held size ps a.1)

within_is : (low high n : ℕ) → within low high n ≡ true → (low ≤ n) × (n ≤ high)
within_is low high n h = (grind (arith, nat_tests), grind (arith, nat_tests))

above : (a low : ℕ) (bs : List ℕ) → a < low → rise_from low bs ≡ true → AreAbove a bs
above a low [] lt h = tt
above a low (b ∷ bs) lt h =
    let t = both_are (nat_le low b) (rise_from (b + 1) bs) h in
    let le : low ≤ b = grind (arith, nat_tests) in
    (omega (arith, lt, le), above a (b + 1) bs (omega (arith, lt, le)) t.1)

rising : (low : ℕ) (bs : List ℕ) → rise_from low bs ≡ true → AreRising bs
rising low [] h = tt
rising low (b ∷ bs) h =
    let t = both_are (nat_le low b) (rise_from (b + 1) bs) h in
    (above b (b + 1) bs (omega arith) t.1, rising (b + 1) bs t.1)

pub can_be_restored : (size : ℕ) (s : State) → (state size).fits s ≡ true → CanBeRestored size s
unfolding state parts head breakpoints
can_be_restored size s h =
    let a = both_are ((then_each head (λ h. h.0) (hart size)).fits ((length s.harts, s.shared), s.harts)) _ h in
    let front = both_are (head.fits (length s.harts, s.shared)) _ a.0 in
    let count = within_is 1 8 (length s.harts) (both_are (within 1 8 (length s.harts)) (shared.fits s.shared) front.0).0 in
    let harts = both_are (eqb (length s.harts) (length s.harts)) (list_all (hart size).fits s.harts) front.1 in
    let input = both_are ((counted_bytes 1 (within 0 16)).fits s.input) _ a.1 in
    let output = both_are ((counted_bytes 2 (within 0 4096)).fits s.output) (breakpoints.fits s.breakpoints) input.1 in
    let some = both_are ((counted_each 1 (within 0 64) (any 4)).fits s.breakpoints) (rise_from 0 s.breakpoints) output.1 in
    let few = both_are (within 0 64 (length s.breakpoints)) _ some.0 in
    record {
      held = harts_held size s.harts harts.1;
      count = count.1;
      some = count.0;
      input = (within_is 0 16 (length s.input) input.0).1;
      output = (within_is 0 4096 (length s.output) output.0).1;
      few = (within_is 0 64 (length s.breakpoints) few.0).1;
      rising = rising 0 s.breakpoints some.1;
    }
