-- Words at addresses, and their texts as an independent disassembler and the manual give them.
use Rattle.std.proofs.Common.{◌≡◌, refl}
use Rattle.std.specs.Prelude.{codes}
use Rattle.std.specs.Fmt.{digits}
use Rattle.rvm_word.specs.Word.{signed_value}
use Rattle.rvm_text.specs.Registers.{name_of, abi_names}
use Rattle.rvm_isa.specs.Table.{table, row_of, decoded}
use Rattle.rvm_isa.specs.Words.{word_of}
use Rattle.rvm_dis.specs.Pieces.{hex_digits}
use Rattle.rvm_dis.specs.Disassembly.{text_at, text_of}

upper : text_at 0x80000000 0x100002B7 ≡ codes "lui t0, 0x10000"
unfolding decoded row_of table signed_value name_of abi_names digits hex_digits word_of text_of
upper = refl

jump : text_at 0x80000000 0xFFDFF06F ≡ codes "jal zero, 0x7ffffffc"
unfolding decoded row_of table signed_value name_of abi_names digits hex_digits word_of text_of
jump = refl

jump_over_the_top : text_at 0xFFFFFFFC 0x008000EF ≡ codes "jal ra, 0x00000004"
unfolding decoded row_of table signed_value name_of abi_names digits hex_digits word_of text_of
jump_over_the_top = refl

branch : text_at 0x80000000 0x00050463 ≡ codes "beq a0, zero, 0x80000008"
unfolding decoded row_of table signed_value name_of abi_names digits hex_digits word_of text_of
branch = refl

load : text_at 0 0xFFC12503 ≡ codes "lw a0, -4(sp)"
unfolding decoded row_of table signed_value name_of abi_names digits hex_digits word_of text_of
load = refl

store : text_at 0 0x0062A023 ≡ codes "sw t1, 0(t0)"
unfolding decoded row_of table signed_value name_of abi_names digits hex_digits word_of text_of
store = refl

register_jump : text_at 0 0x00008067 ≡ codes "jalr zero, 0(ra)"
unfolding decoded row_of table signed_value name_of abi_names digits hex_digits word_of text_of
register_jump = refl

immediate : text_at 0 0x80050513 ≡ codes "addi a0, a0, -2048"
unfolding decoded row_of table signed_value name_of abi_names digits hex_digits word_of text_of
immediate = refl

shift : text_at 0 0x40315093 ≡ codes "srai ra, sp, 3"
unfolding decoded row_of table signed_value name_of abi_names digits hex_digits word_of text_of
shift = refl

registers : text_at 0 0x40628333 ≡ codes "sub t1, t0, t1"
unfolding decoded row_of table signed_value name_of abi_names digits hex_digits word_of text_of
registers = refl

csr_register : text_at 0 0x30529073 ≡ codes "csrrw zero, 0x305, t0"
unfolding decoded row_of table signed_value name_of abi_names digits hex_digits word_of text_of
csr_register = refl

csr_immediate : text_at 0 0x3003E073 ≡ codes "csrrsi zero, 0x300, 7"
unfolding decoded row_of table signed_value name_of abi_names digits hex_digits word_of text_of
csr_immediate = refl

load_reserved : text_at 0 0x1005252F ≡ codes "lr.w a0, (a0)"
unfolding decoded row_of table signed_value name_of abi_names digits hex_digits word_of text_of
load_reserved = refl

atomic : text_at 0 0x06B5252F ≡ codes "amoadd.w.aqrl a0, a1, (a0)"
unfolding decoded row_of table signed_value name_of abi_names digits hex_digits word_of text_of
atomic = refl

ecall : text_at 0 0x00000073 ≡ codes "ecall"
unfolding decoded row_of table signed_value name_of abi_names digits hex_digits word_of text_of
ecall = refl

fence : text_at 0 0x0FF0000F ≡ codes "fence"
unfolding decoded row_of table signed_value name_of abi_names digits hex_digits word_of text_of
fence = refl

fence_of_writes : text_at 0 0x0110000F ≡ codes ".word 0x0110000f"
unfolding decoded row_of table signed_value name_of abi_names digits hex_digits word_of text_of
fence_of_writes = refl

no_instruction : text_at 0 0x00000000 ≡ codes ".word 0x00000000"
unfolding decoded row_of table signed_value name_of abi_names digits hex_digits word_of text_of
no_instruction = refl
