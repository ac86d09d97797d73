-- The format of state bytes is exact.
use Rattle.std.proofs.Common.{◌≡◌, ℕ, ◌^◌, Bool, true, false, ◌&&◌, eqb, length, refl, ap, arith}
use Rattle.std.specs.List.{list_all}
use Rattle.std.proofs.lemmas.Bool.{eqb-true}
use Rattle.rvm_csr.specs.Registers.{interrupt_bits, interrupts_of}
use Rattle.rvm_hart.specs.Fields.{is_ram_word}
use Rattle.rvm_codec.specs.Numbers.{rise_from, within}
use Rattle.rvm_codec.specs.Codec.{any, both, counted_bytes, then_each}
use Rattle.rvm_codec.specs.Exact.{IsExact, IsExactFormat}
use Rattle.rvm_codec.proofs.Steps.{both_are}
use Rattle.rvm_codec.proofs.Exact.{any_exact, within_exact, within_below, both_exact, only_exact, as_exact, times_exact, then_each_exact, counted_each_exact, counted_bytes_exact, flag_exact, optional_exact, alone_exact}
use Rattle.rvm_state.specs.Formats.{aligned, mstatus, enables_of, enable_bits, mie, csrs, csrs_of, csr_parts, hart, hart_of, hart_parts, anything, shared, shared_of, shared_parts, head, breakpoints, parts, StateParts, whole_of, whole_parts, state}

word_exact : IsExact (any 4)
word_exact = any_exact 4

long_exact : IsExact (any 8)
long_exact = any_exact 8

aligned_exact : IsExact aligned
aligned_exact = only_exact _ _ word_exact

pub enables_back : (x : Bool × Bool) → enables_of (enable_bits x) ≡ x
enables_back (true, true) = refl
enables_back (true, false) = refl
enables_back (false, true) = refl
enables_back (false, false) = refl

mstatus_exact : IsExact mstatus
unfolding mstatus
mstatus_exact =
    as_exact _ enables_of enable_bits (only_exact _ _ word_exact)
    (λ n h. eqb-true _ _ (both_are ((any 4).fits n) (eqb (enable_bits (enables_of n)) n) h).1) enables_back

pub interrupts_back : (s t e : Bool) → interrupts_of (interrupt_bits (record { software = s; timer = t; external = e })) ≡ record { software = s; timer = t; external = e }
interrupts_back true true true = refl
interrupts_back true true false = refl
interrupts_back true false true = refl
interrupts_back true false false = refl
interrupts_back false true true = refl
interrupts_back false true false = refl
interrupts_back false false true = refl
interrupts_back false false false = refl

mie_exact : IsExact mie
unfolding mie
mie_exact =
    as_exact _ interrupts_of interrupt_bits (only_exact _ _ word_exact)
    (λ n h. eqb-true _ _ (both_are ((any 4).fits n) (eqb (interrupt_bits (interrupts_of n)) n) h).1)
    (λ i. interrupts_back i.software i.timer i.external)

csrs_exact : IsExact csrs
unfolding csrs
csrs_exact =
    as_exact _ csrs_of csr_parts
    (both_exact _ _ mstatus_exact (both_exact _ _ mie_exact (both_exact _ _ (only_exact _ _ word_exact) (both_exact _ _ word_exact (both_exact _ _ aligned_exact (both_exact _ _ word_exact (both_exact _ _ word_exact (both_exact _ _ long_exact long_exact))))))))
    (λ t h. refl) (λ c. refl)

pub hart_exact : (size : ℕ) → IsExact (hart size)
unfolding hart
hart_exact size =
    as_exact _ hart_of hart_parts
    (both_exact _ _ aligned_exact (both_exact _ _ (times_exact 31 _ word_exact) (both_exact _ _ csrs_exact (both_exact _ _ flag_exact (both_exact _ _ long_exact (both_exact _ _ (optional_exact _ (is_ram_word size) word_exact) flag_exact))))))
    (λ t h. refl) (λ p. refl)

shared_exact : IsExact shared
unfolding shared
shared_exact =
    as_exact _ shared_of shared_parts
    (both_exact _ _ (optional_exact _ anything (any_exact 1)) (both_exact _ _ flag_exact (both_exact _ _ flag_exact long_exact)))
    (λ t h. refl) (λ f. refl)

head_exact : IsExact head
unfolding head
head_exact = both_exact _ _ (within_exact 1 1 8 (omega arith)) shared_exact

breakpoints_exact : IsExact breakpoints
unfolding breakpoints
breakpoints_exact =
    only_exact _ (rise_from 0) (counted_each_exact 1 (within 0 64) _ (within_below (256 ^ 1) 0 64 (omega arith)) word_exact)

parts_exact : (size : ℕ) → IsExact (parts size)
unfolding parts
parts_exact size =
    both_exact _ _ (then_each_exact head (λ h. h.0) (hart size) head_exact (hart_exact size))
    (both_exact _ _ (counted_bytes_exact 1 (within 0 16) (within_below (256 ^ 1) 0 16 (omega arith)))
    (both_exact _ _ (counted_bytes_exact 2 (within 0 4096) (within_below (256 ^ 2) 0 4096 (omega arith))) breakpoints_exact))

-- there are as many harts as the head says
count_is : (size : ℕ) (t : StateParts) → (parts size).fits t ≡ true → length t.0.1 ≡ t.0.0.0
unfolding parts
count_is size t h =
    let pair = both_are ((then_each head (λ h. h.0) (hart size)).fits t.0) ((both (counted_bytes 1 (within 0 16)) (both (counted_bytes 2 (within 0 4096)) breakpoints)).fits t.1) h in
    let front = both_are (head.fits t.0.0) (eqb (length t.0.1) t.0.0.0 && list_all (hart size).fits t.0.1) pair.0 in
    eqb-true _ _ (both_are (eqb (length t.0.1) t.0.0.0) (list_all (hart size).fits t.0.1) front.1).0

whole_there : (t : StateParts) → length t.0.1 ≡ t.0.0.0 → whole_parts (whole_of t) ≡ t
whole_there t e = ap (λ (n : ℕ). (((n, t.0.0.1), t.0.1), t.1)) e

pub state_exact : (size : ℕ) → IsExactFormat (state size)
unfolding state
state_exact size =
    alone_exact _ (as_exact (parts size) whole_of whole_parts (parts_exact size) (λ t h. whole_there t (count_is size t h)) (λ s. refl))
