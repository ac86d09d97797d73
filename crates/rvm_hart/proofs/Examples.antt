-- Known values of what the instructions are made of.
use Rattle.std.proofs.Common.{◌≡◌, pos, negsuc, true, false, None, Some, replicate, refl}
use Rattle.rvm_word.specs.Word.{signed_value}
use Rattle.rvm_dev.specs.declared.register.Register.TheVariants as register
use Rattle.rvm_hart.specs.declared.arithmetic.Operation.TheVariants as op
use Rattle.rvm_hart.specs.declared.jumps.Comparison.TheVariants as test
use Rattle.rvm_hart.specs.declared.csrs.CsrChange.TheVariants as change
use Rattle.rvm_hart.specs.declared.outcome.Written.TheVariants.{Halt, Mtime, Other}
use Rattle.rvm_hart.specs.Bus.{in_ram, wrote_of}
use Rattle.rvm_hart.specs.Fields.{is_in_ram, is_ram_word}
use Rattle.rvm_hart.specs.Kinds.{even, holds, sum, value_of, writes}
use Rattle.rvm_hart.specs.Rows.{sign_extended_byte, sign_extended_half}

-- a sum with a signed number goes past 0 and 2 ^ 32
below_zero : sum 1 (negsuc 1) ≡ 0xFFFFFFFF
below_zero = refl

past_the_last_word : sum 0xFFFFFFFF (pos 2) ≡ 1
past_the_last_word = refl

bit_0_is_cleared : even 0x80000003 ≡ 0x80000002
bit_0_is_cleared = refl

-- 0xFFFFFFFF is -1 or the greatest number
signed_comparison : holds test.Lt 0xFFFFFFFF 1 ≡ true
unfolding signed_value
signed_comparison = refl

unsigned_comparison : holds test.Ltu 0xFFFFFFFF 1 ≡ false
unsigned_comparison = refl

equal_is_not_less : holds test.Lt 5 5 ≡ false
unfolding signed_value
equal_is_not_less = refl

equal_is_at_least : holds test.Geu 5 5 ≡ true
equal_is_at_least = refl

-- a shift takes the low five bits of its amount
a_shift_by_33_is_one_by_1 : value_of op.Sll 1 33 ≡ 2
a_shift_by_33_is_one_by_1 = refl

a_sign_is_kept : value_of op.Sra 0x80000000 4 ≡ 0xF8000000
unfolding signed_value
a_sign_is_kept = refl

-- loads extend by the sign
byte_80_is_negative : sign_extended_byte 0x80 ≡ 0xFFFFFF80
unfolding signed_value
byte_80_is_negative = refl

byte_7f_is_positive : sign_extended_byte 0x7F ≡ 0x7F
unfolding signed_value
byte_7f_is_positive = refl

half_8000_is_negative : sign_extended_half 0x8000 ≡ 0xFFFF8000
unfolding signed_value
half_8000_is_negative = refl

-- a set or a clear with x0, or with an immediate of 0, writes nothing; a write always does
a_set_with_x0_writes_nothing : writes change.Set 0 ≡ false
a_set_with_x0_writes_nothing = refl

a_write_with_x0_writes : writes change.Write 0 ≡ true
a_write_with_x0_writes = refl

-- the edges of a RAM of 8 bytes
the_last_word_is_in_ram : in_ram 4 0x80000004 (replicate 8 0) ≡ true
the_last_word_is_in_ram = refl

a_word_past_the_end_is_not : in_ram 4 0x80000005 (replicate 8 0) ≡ false
a_word_past_the_end_is_not = refl

a_byte_before_the_beginning_is_not : in_ram 1 0x7FFFFFFF (replicate 8 0) ≡ false
a_byte_before_the_beginning_is_not = refl

a_word_at_the_last_address_is_not : in_ram 4 0xFFFFFFFF (replicate 8 0) ≡ false
a_word_at_the_last_address_is_not = refl

-- words that can be reserved there
the_last_word_can_be_reserved : is_ram_word 8 0x80000004 ≡ true
the_last_word_can_be_reserved = refl

half_a_word_cannot : is_ram_word 8 0x80000002 ≡ false
half_a_word_cannot = refl

the_word_behind_cannot : is_in_ram 8 (Some 0x80000008) ≡ false
the_word_behind_cannot = refl

no_reservation_can : is_in_ram 8 None ≡ true
no_reservation_can = refl

-- what the end of a step looks at after a store to a device
a_store_to_the_finisher_halts : wrote_of register.Halt 0x107 ≡ Halt 7
a_store_to_the_finisher_halts = refl

half_of_mtime_is_mtime : wrote_of register.MtimeHigh 1 ≡ Mtime
half_of_mtime_is_mtime = refl

half_of_mtimecmp_is_not : wrote_of (register.MtimecmpHigh 0) 1 ≡ Other
half_of_mtimecmp_is_not = refl
