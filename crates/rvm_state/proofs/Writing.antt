-- Values written by consecutive codecs.
use Rattle.std.proofs.Common.{◌≡◌, ℕ, ◌+◌, ◌/◌, ◌%◌, ◌<◌, ◌≤◌, Bool, true, false, ◌&&◌, eqb, List, [], ◌∷◌, ◌++◌, length, refl, sym, ap, ◌∙◌, append_assoc, append-nil, arith}
use Rattle.std.specs.Prelude.{◌==◌, nat_le}
use Rattle.std.specs.List.{flat_map, list_all}
use Rattle.std.proofs.lemmas.Bool.Decides.{nat_tests}
use Rattle.byteorder.specs.Endian.{little_bytes}
use Rattle.rvm_csr.specs.declared.interrupts.Interrupts.{Interrupts}
use Rattle.rvm_csr.specs.Registers.{interrupt_bits, interrupts_of}
use Rattle.rvm_codec.specs.Numbers.{rise_from, within}
use Rattle.rvm_codec.specs.Codec.{Codec, any, both, counted_bytes, number, only, then_each, times}
use Rattle.rvm_codec.proofs.Steps.{and_so, same_number}
use Rattle.rvm_board.specs.Guest.{AreAbove, AreRising}
use Rattle.rvm_state.specs.Formats.{aligned, breakpoints, enable_bits, enables_of, mie, mstatus, mtvec}
use Rattle.rvm_state.specs.Writing.{Writes, WritesEach}
use Rattle.rvm_state.proofs.Exact.{enables_back, interrupts_back}

pub behind : {A B : Type 0} {c : Codec A} {d : Codec B} {a : A} {b : B} {old mid new : List ℕ} → Writes c a old mid → Writes d b mid new → Writes (both c d) (a, b) old new
behind {A} {B} {c} {d} {a} {b} {old} {mid} {new} p q = record {
  bytes = q.bytes ∙ ap (λ (t : List ℕ). t ++ d.write b) p.bytes ∙ append_assoc old (c.write a) (d.write b);
  fits = and_so (c.fits a) (d.fits b) p.fits q.fits;
}

pub tested : {A : Type 0} {c : Codec A} {a : A} {old new : List ℕ} (test : A → Bool) → test a ≡ true → Writes c a old new → Writes (only c test) a old new
tested {A} {c} {a} {old} {new} test h p = record { bytes = p.bytes; fits = and_so (c.fits a) (test a) p.fits h }

pub aligned_written : {n : ℕ} {old new : List ℕ} → n % 4 ≡ 0 → Writes (any 4) n old new → Writes aligned n old new
aligned_written {n} h p = tested (λ n. n % 4 == 0) (same_number (n % 4) 0 h) p

pub mtvec_written : {n : ℕ} {old new : List ℕ} → n / 2 % 2 ≡ 0 → Writes (any 4) n old new → Writes mtvec n old new
mtvec_written {n} h p = tested (λ n. n / 2 % 2 == 0) (same_number (n / 2 % 2) 0 h) p

pub mstatus_written : {x : Bool × Bool} {old new : List ℕ} → Writes (any 4) (enable_bits x) old new → Writes mstatus x old new
unfolding mstatus
mstatus_written {x} p = record {
  bytes = p.bytes;
  fits = and_so ((any 4).fits (enable_bits x)) _ p.fits (same_number (enable_bits (enables_of (enable_bits x))) (enable_bits x) (ap enable_bits (enables_back x)));
}

pub mie_written : {i : Interrupts} {old new : List ℕ} → Writes (any 4) (interrupt_bits i) old new → Writes mie i old new
unfolding mie
mie_written {i} p = record {
  bytes = p.bytes;
  fits = and_so ((any 4).fits (interrupt_bits i)) _ p.fits (same_number (interrupt_bits (interrupts_of (interrupt_bits i))) (interrupt_bits i) (ap interrupt_bits (interrupts_back i.software i.timer i.external)));
}

pub within_written : (size low high n : ℕ) (old new : List ℕ) → low ≤ n → n ≤ high → Writes (any size) n old new → Writes (number size (within low high)) n old new
within_written size low high n old new le ge p = record { bytes = p.bytes; fits = grind (arith, nat_tests) }

pub times_written : {A : Type 0} {c : Codec A} {xs : List A} {old new : List ℕ} (n : ℕ) → length xs ≡ n → WritesEach c xs old new → Writes (times n c) xs old new
times_written {A} {c} {xs} n e p = record { bytes = p.bytes; fits = and_so (eqb (length xs) n) (list_all c.fits xs) (same_number (length xs) n e) p.fits }

pub then_written : {A B : Type 0} {c : Codec A} {d : Codec B} {a : A} {xs : List B} {old mid new : List ℕ} (count : A → ℕ) → length xs ≡ count a → Writes c a old mid → WritesEach d xs mid new → Writes (then_each c count d) (a, xs) old new
then_written {A} {B} {c} {d} {a} {xs} {old} {mid} {new} count e p q = record {
  bytes = q.bytes ∙ ap (λ (t : List ℕ). t ++ flat_map d.write xs) p.bytes ∙ append_assoc old (c.write a) (flat_map d.write xs);
  fits = and_so (c.fits a) (eqb (length xs) (count a) && list_all d.fits xs) p.fits (and_so (eqb (length xs) (count a)) (list_all d.fits xs) (same_number (length xs) (count a) e) q.fits);
}

-- LISTS

pushed_more : (a b d : Bool) → a && b ≡ true → (b ≡ true → d ≡ true) → a && d ≡ true
pushed_more true b d h more = more h
pushed_more false b d h more = absurd cc

all_pushed : {A : Type 0} (test : A → Bool) (xs : List A) (x : A) → list_all test xs ≡ true → test x ≡ true → list_all test (xs ++ x ∷ []) ≡ true
all_pushed test [] x all one = and_so (test x) true one refl
all_pushed test (y ∷ xs) x all one = pushed_more (test y) (list_all test xs) (list_all test (xs ++ x ∷ [])) all (λ h. all_pushed test xs x h one)

flat_pushed : {A : Type 0} (write : A → List ℕ) (xs : List A) (x : A) → flat_map write (xs ++ x ∷ []) ≡ flat_map write xs ++ write x
flat_pushed write [] x = append-nil (write x)
flat_pushed write (y ∷ xs) x = ap (λ t. write y ++ t) (flat_pushed write xs x) ∙ sym (append_assoc (write y) (flat_map write xs) (write x))

pub no_more : {A : Type 0} (c : Codec A) (old : List ℕ) → WritesEach c [] old old
no_more c old = record { bytes = sym (append-nil old); fits = refl }

pub one_more : {A : Type 0} {c : Codec A} {xs : List A} {x : A} {old mid new : List ℕ} → WritesEach c xs old mid → Writes c x mid new → WritesEach c (xs ++ x ∷ []) old new
one_more {A} {c} {xs} {x} {old} {mid} {new} p q = record {
  bytes = q.bytes ∙ ap (λ (t : List ℕ). t ++ c.write x) p.bytes ∙ append_assoc old (flat_map c.write xs) (c.write x) ∙ ap (λ t. old ++ t) (sym (flat_pushed c.write xs x));
  fits = all_pushed c.fits xs x p.fits q.fits;
}

-- BREAKPOINTS

rises_above : (a : ℕ) (bs : List ℕ) → AreAbove a bs → AreRising bs → rise_from (a + 1) bs ≡ true
rises_above a [] above rising = refl
rises_above a (b ∷ bs) above rising =
    let lt : a < b = above.0 in
    and_so (nat_le (a + 1) b) (rise_from (b + 1) bs) (grind (arith, nat_tests)) (rises_above b bs rising.0 rising.1)

pub rises : (bs : List ℕ) → AreRising bs → rise_from 0 bs ≡ true
rises [] rising = refl
rises (b ∷ bs) rising = and_so (nat_le 0 b) (rise_from (b + 1) bs) (grind (arith, nat_tests)) (rises_above b bs rising.0 rising.1)

pub is_within : (high n : ℕ) → n ≤ high → within 0 high n ≡ true
is_within high n h = grind (arith, nat_tests)

pub breakpoints_written : {xs : List ℕ} {old mid new : List ℕ} → length xs ≤ 64 → AreRising xs → Writes (any 1) (length xs) old mid → WritesEach (any 4) xs mid new → Writes breakpoints xs old new
unfolding breakpoints
breakpoints_written {xs} {old} {mid} {new} few rising p q = record {
  bytes = q.bytes ∙ ap (λ (t : List ℕ). t ++ flat_map (any 4).write xs) p.bytes ∙ append_assoc old (little_bytes 1 (length xs)) (flat_map (any 4).write xs);
  fits = and_so _ (rise_from 0 xs) (and_so (within 0 64 (length xs)) (list_all (any 4).fits xs) (is_within 64 (length xs) few) q.fits) (rises xs rising);
}

-- a queue's count, and its bytes in two pieces
pub queue_written : (size high : ℕ) (front back queue old mid most new : List ℕ) → front ++ back ≡ queue → length queue ≤ high → Writes (any size) (length queue) old mid → most ≡ mid ++ front → new ≡ most ++ back → Writes (counted_bytes size (within 0 high)) queue old new
queue_written size high front back queue old mid most new whole few p q r = record {
  bytes = r ∙ ap (λ (t : List ℕ). t ++ back) q ∙ append_assoc mid front back ∙ ap (λ (t : List ℕ). mid ++ t) whole ∙ ap (λ (t : List ℕ). t ++ queue) p.bytes ∙ append_assoc old (little_bytes size (length queue)) queue;
  fits = is_within high (length queue) few;
}
