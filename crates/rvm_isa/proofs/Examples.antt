-- Words that the manual and assemblers give, decoded by the table.
use Rattle.std.proofs.Common.{◌≡◌, pos, negsuc, true, false, Some, None, length, refl}
use Rattle.rvm_word.specs.Word.{signed_value}
use Rattle.rvm_isa.specs.declared.ins.Ins.TheVariants.{Addi, AmomaxuW, Beq, Bne, Csrrwi, Fence, FenceI, Jal, LrW, Lui, Sb, ScW, Slli, Sw}
use Rattle.rvm_isa.specs.Table.{table, row_of, decoded}

the_table_has_68_rows : length table ≡ 68
unfolding table
the_table_has_68_rows = refl

-- addi x1, x0, 5
addi : decoded 0x00500093 ≡ Some (Addi 1 0 (pos 5))
unfolding decoded row_of table signed_value
addi = refl

-- addi x10, x10, -2048
addi_least : decoded 0x80050513 ≡ Some (Addi 10 10 (negsuc 2047))
unfolding decoded row_of table signed_value
addi_least = refl

-- lui x5, 0x80000
lui : decoded 0x800002B7 ≡ Some (Lui 5 0x80000)
unfolding decoded row_of table signed_value
lui = refl

-- jal x0, -4
jal_back : decoded 0xFFDFF06F ≡ Some (Jal 0 (negsuc 3))
unfolding decoded row_of table signed_value
jal_back = refl

no_zeros : decoded 0 ≡ None
unfolding decoded row_of table
no_zeros = refl

no_ones : decoded 0xFFFFFFFF ≡ None
unfolding decoded row_of table
no_ones = refl

-- Immediates at their ends, as LLVM's assembler encodes them.

-- bne a0, a1, -4096 and beq t0, t1, 4094
branch_farthest_back : decoded 0x80B51063 ≡ Some (Bne 10 11 (negsuc 4095))
unfolding decoded row_of table signed_value
branch_farthest_back = refl

branch_farthest_on : decoded 0x7E628FE3 ≡ Some (Beq 5 6 (pos 4094))
unfolding decoded row_of table signed_value
branch_farthest_on = refl

-- sb t6, -2048(s0) and sw a1, 2047(sp)
store_farthest_below : decoded 0x81F40023 ≡ Some (Sb 8 31 (negsuc 2047))
unfolding decoded row_of table signed_value
store_farthest_below = refl

store_farthest_above : decoded 0x7EB12FA3 ≡ Some (Sw 2 11 (pos 2047))
unfolding decoded row_of table signed_value
store_farthest_above = refl

-- jal ra, 1048574 and jal ra, -1048576
jump_farthest_on : decoded 0x7FFFF0EF ≡ Some (Jal 1 (pos 1048574))
unfolding decoded row_of table signed_value
jump_farthest_on = refl

jump_farthest_back : decoded 0x800000EF ≡ Some (Jal 1 (negsuc 1048575))
unfolding decoded row_of table signed_value
jump_farthest_back = refl

-- slli a0, a1, 31; with any bit of funct7 set there is no row, as for an amount of 32
shift_by_31 : decoded 0x01F59513 ≡ Some (Slli 10 11 31)
unfolding decoded row_of table signed_value
shift_by_31 = refl

no_shift_by_32 : decoded 0x03F59513 ≡ None
unfolding decoded row_of table signed_value
no_shift_by_32 = refl

-- lr.w.aqrl t0, (a0); with rs2 set there is no row
load_reserved : decoded 0x160522AF ≡ Some (LrW 5 10 true true)
unfolding decoded row_of table signed_value
load_reserved = refl

no_load_reserved_with_rs2 : decoded 0x161522AF ≡ None
unfolding decoded row_of table signed_value
no_load_reserved_with_rs2 = refl

-- sc.w.rl t0, t1, (a0) and amomaxu.w.aq t0, t1, (a0)
store_conditional_releases : decoded 0x1A6522AF ≡ Some (ScW 5 10 6 false true)
unfolding decoded row_of table signed_value
store_conditional_releases = refl

maximum_acquires : decoded 0xE46522AF ≡ Some (AmomaxuW 5 10 6 true false)
unfolding decoded row_of table signed_value
maximum_acquires = refl

-- csrrwi zero, mstatus, 31
csr_immediate : decoded 0x300FD073 ≡ Some (Csrrwi 0 31 0x300)
unfolding decoded row_of table signed_value
csr_immediate = refl

-- fence and fence.i with registers and bits of an immediate, as GNU's assembler encodes them: their rows take any
fence_with_registers : decoded 0x9B56898F ≡ Some (Fence 19 13 (negsuc 1610))
unfolding decoded row_of table signed_value
fence_with_registers = refl

fence_i_with_registers : decoded 0x9B56998F ≡ Some (FenceI 19 13 (negsuc 1610))
unfolding decoded row_of table signed_value
fence_i_with_registers = refl
