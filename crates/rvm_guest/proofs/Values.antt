-- All values are read back from their numbers, whatever their size.
use Rattle.std.proofs.Common.{◌≡◌, ℕ, Bool, true, false, ◌&&◌, eqb, List, [], ◌∷◌, ◌++◌, Option, Some, None, length, refl, sym, ap, subst}
use Rattle.std.specs.List.{list_all}
use Rattle.std.proofs.lemmas.Bool.{eqb-true}
use Rattle.rvm_csr.specs.declared.fields.CsrFields.{CsrFields}
use Rattle.rvm_csr.specs.declared.interrupts.Interrupts.{Interrupts}
use Rattle.rvm_dev.specs.declared.fields.DeviceFields.{DeviceFields}
use Rattle.rvm_codec.specs.Codec.{Codec, both, flag, optional, then_each}
use Rattle.rvm_codec.specs.Exact.{IsExact, IsExactFormat, IsBytes, Takes}
use Rattle.rvm_codec.proofs.Steps.{IsBytes-drop, and_so, both_are, none_is, same_number, some_is}
use Rattle.rvm_codec.proofs.Exact.{alone_exact, as_exact, both_exact, flag_exact, optional_exact, then_each_exact}
use Rattle.rvm_board.specs.declared.part.HartPart.{HartPart}
use Rattle.rvm_state.specs.Formats.{anything, csrs_of, csr_parts, hart_of, hart_parts, shared_of, shared_parts}
use Rattle.rvm_board.specs.State.{State}
use Rattle.rvm_guest.specs.Values.{one, many, interrupts, interrupts_in, flags_of, csrs, hart, shared, values, values_in, value_parts}

-- EXACT

one_takes : (bytes : List ℕ) (x : ℕ × List ℕ) → IsBytes bytes → one.read bytes ≡ Some x → Takes bytes (one.write x.0) x.1 × (one.fits x.0 ≡ true)
unfolding one
one_takes [] x is h = absurd (none_is (sym h))
one_takes (n ∷ rest) x is h =
    subst (λ (y : ℕ × List ℕ). Takes (n ∷ rest) (y.0 ∷ []) y.1 × (true ≡ true)) (some_is (n, rest) x h)
    (record { parts = refl; rest_fits = IsBytes-drop 1 (n ∷ rest) is }, refl)

one_again : (n : ℕ) (rest : List ℕ) → one.fits n ≡ true → one.read (one.write n ++ rest) ≡ Some (n, rest)
unfolding one
one_again n rest h = refl

one_exact : IsExact one
one_exact = record { takes = one_takes; again = one_again }

many_there : {A : Type 0} (c : Codec A) (t : ℕ × List A) → (then_each one (λ n. n) c).fits t ≡ true → (length t.1, t.1) ≡ t
many_there c t h =
    let a = both_are (one.fits t.0) (eqb (length t.1) t.0 && list_all c.fits t.1) h in
    ap (λ (n : ℕ). (n, t.1)) (eqb-true _ _ (both_are (eqb (length t.1) t.0) (list_all c.fits t.1) a.1).0)

many_exact : {A : Type 0} (c : Codec A) → IsExact c → IsExact (many c)
many_exact c ec =
    as_exact (then_each one (λ n. n) c) (λ t. t.1) (λ xs. (length xs, xs)) (then_each_exact one (λ n. n) c one_exact ec)
    (λ t h. many_there c t h) (λ xs. refl)

interrupts_exact : IsExact interrupts
unfolding interrupts
interrupts_exact = as_exact _ interrupts_in flags_of (both_exact _ _ flag_exact (both_exact _ _ flag_exact flag_exact)) (λ t h. refl) (λ i. refl)

csrs_exact : IsExact csrs
unfolding csrs
csrs_exact =
    as_exact _ csrs_of csr_parts
    (both_exact _ _ (both_exact _ _ flag_exact flag_exact) (both_exact _ _ interrupts_exact (both_exact _ _ one_exact (both_exact _ _ one_exact (both_exact _ _ one_exact (both_exact _ _ one_exact (both_exact _ _ one_exact (both_exact _ _ one_exact one_exact))))))))
    (λ t h. refl) (λ c. refl)

hart_exact : IsExact hart
unfolding hart
hart_exact =
    as_exact _ hart_of hart_parts
    (both_exact _ _ one_exact (both_exact _ _ (many_exact _ one_exact) (both_exact _ _ csrs_exact (both_exact _ _ flag_exact (both_exact _ _ one_exact (both_exact _ _ (optional_exact _ anything one_exact) flag_exact))))))
    (λ t h. refl) (λ p. refl)

shared_exact : IsExact shared
unfolding shared
shared_exact =
    as_exact _ shared_of shared_parts
    (both_exact _ _ (optional_exact _ anything one_exact) (both_exact _ _ flag_exact (both_exact _ _ flag_exact one_exact)))
    (λ t h. refl) (λ f. refl)

values_exact : IsExactFormat values
unfolding values
values_exact =
    alone_exact _
    (as_exact _ values_in value_parts
    (both_exact _ _ (many_exact _ hart_exact) (both_exact _ _ shared_exact (both_exact _ _ (many_exact _ one_exact) (both_exact _ _ (many_exact _ one_exact) (many_exact _ one_exact)))))
    (λ t h. refl) (λ s. refl))

-- EACH VALUE FITS

one_fits : (n : ℕ) → one.fits n ≡ true
unfolding one
one_fits n = refl

flag_fits : (b : Bool) → flag.fits b ≡ true
flag_fits true = refl
flag_fits false = refl

optional_fits : (o : Option ℕ) → (optional one anything).fits o ≡ true
unfolding one
optional_fits None = refl
optional_fits (Some n) = refl

all_fit : {A : Type 0} (test : A → Bool) → ((a : A) → test a ≡ true) → (xs : List A) → list_all test xs ≡ true
all_fit test each [] = refl
all_fit test each (x ∷ xs) = and_so (test x) (list_all test xs) (each x) (all_fit test each xs)

many_fits : {A : Type 0} (c : Codec A) → ((a : A) → c.fits a ≡ true) → (xs : List A) → (many c).fits xs ≡ true
many_fits c each xs =
    and_so (one.fits (length xs)) _ (one_fits (length xs))
    (and_so (eqb (length xs) (length xs)) _ (same_number _ _ refl) (all_fit c.fits each xs))

interrupts_fit : (i : Interrupts) → interrupts.fits i ≡ true
unfolding interrupts
interrupts_fit i =
    and_so (flag.fits i.software) _ (flag_fits i.software) (and_so (flag.fits i.timer) _ (flag_fits i.timer) (flag_fits i.external))

csrs_fit : (c : CsrFields) → csrs.fits c ≡ true
unfolding csrs
csrs_fit c =
    and_so ((both flag flag).fits (c.interrupts_enabled, c.enabled_before)) _ (and_so (flag.fits c.interrupts_enabled) _ (flag_fits c.interrupts_enabled) (flag_fits c.enabled_before))
    (and_so (interrupts.fits c.mie) _ (interrupts_fit c.mie)
    (and_so (one.fits c.mtvec) _ (one_fits c.mtvec)
    (and_so (one.fits c.mscratch) _ (one_fits c.mscratch)
    (and_so (one.fits c.mepc) _ (one_fits c.mepc)
    (and_so (one.fits c.mcause) _ (one_fits c.mcause)
    (and_so (one.fits c.mtval) _ (one_fits c.mtval)
    (and_so (one.fits c.mcycle) _ (one_fits c.mcycle) (one_fits c.minstret))))))))

hart_fits : (p : HartPart) → hart.fits p ≡ true
unfolding hart
hart_fits p =
    and_so (one.fits p.fields.pc) _ (one_fits p.fields.pc)
    (and_so ((many one).fits p.fields.registers) _ (many_fits one one_fits p.fields.registers)
    (and_so (csrs.fits p.fields.csrs) _ (csrs_fit p.fields.csrs)
    (and_so (flag.fits p.msip) _ (flag_fits p.msip)
    (and_so (one.fits p.mtimecmp) _ (one_fits p.mtimecmp)
    (and_so ((optional one anything).fits p.reserved) _ (optional_fits p.reserved) (flag_fits p.stopped))))))

shared_fits : (f : DeviceFields) → shared.fits f ≡ true
unfolding shared
shared_fits f =
    and_so ((optional one anything).fits f.halted) _ (optional_fits f.halted)
    (and_so (flag.fits f.overrun) _ (flag_fits f.overrun)
    (and_so (flag.fits f.interrupt_enable) _ (flag_fits f.interrupt_enable) (one_fits f.mtime)))

values_fit : (s : State) → values.fits s ≡ true
unfolding values
values_fit s =
    and_so ((many hart).fits s.harts) _ (many_fits hart hart_fits s.harts)
    (and_so (shared.fits s.shared) _ (shared_fits s.shared)
    (and_so ((many one).fits s.input) _ (many_fits one one_fits s.input)
    (and_so ((many one).fits s.output) _ (many_fits one one_fits s.output) (many_fits one one_fits s.breakpoints))))

pub values_back : (s : State) → values.read (values.write s) ≡ Some s
values_back s = values_exact.again s (values_fit s)
