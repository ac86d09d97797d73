-- Places in RAM, and the addresses that they stand for.
use Rattle.std.proofs.Common.{◌≡◌, ℕ, ◌+◌, ◌%◌, ◌^◌, ℤ, pos, negsuc, ◌+ℤ◌, arith}
use Rattle.rvm_word.specs.Word.{modulo}
use Rattle.rvm_word.proofs.Signed.{modulo-add}
use Rattle.rvm_hart.specs.Straight.{based}

-- a number reduced modulo 2 ^ 64 is the number, modulo 2 ^ 32
narrowed : (i : ℤ) → modulo 64 i % 2 ^ 32 ≡ modulo 32 i
narrowed (pos n) = omega arith
narrowed (negsuc n) = omega arith

-- the place at an offset from another has the address at that offset from the other's
pub moved : (at by : ℕ) (i : ℤ) → by ≡ modulo 64 i → based ((at + by) % 2 ^ 64) ≡ modulo 32 (pos (based at) +ℤ i)
unfolding based
moved at by i e =
    let narrow = narrowed i in
    let there : modulo 32 (pos ((at + 0x80000000) % 2 ^ 32) +ℤ i) ≡ ((at + 0x80000000) % 2 ^ 32 + modulo 32 i) % 2 ^ 32 = modulo-add ((at + 0x80000000) % 2 ^ 32) i in
    omega (arith, e, narrow, there)

-- which is a multiple of four if the offset is one
pub moved_to_four : (at by : ℕ) (i : ℤ) → by ≡ modulo 64 i → by % 4 ≡ 0 → at % 4 ≡ 0 → modulo 32 (pos (based at) +ℤ i) % 4 ≡ 0
unfolding based
moved_to_four at by i e four whole =
    let narrow = narrowed i in
    let there : modulo 32 (pos ((at + 0x80000000) % 2 ^ 32) +ℤ i) ≡ ((at + 0x80000000) % 2 ^ 32 + modulo 32 i) % 2 ^ 32 = modulo-add ((at + 0x80000000) % 2 ^ 32) i in
    omega (arith, e, narrow, there, four, whole)
