-- Lines, computed: their bytes at 0x80000000, the places after them, and their faults.
use Rattle.std.proofs.Common.{◌≡◌, ℕ, List, [], ◌∷◌, Option, Some, Result, Ok, Err, refl}
use Rattle.std.specs.Prelude.{codes, option_map}
use Rattle.rvm_text.specs.Lexemes.{lexemes}
use Rattle.rvm_text.specs.Registers.{register_of, abi_names, numbered_names}
use Rattle.rvm_text.specs.Strings.{text_of}
use Rattle.rvm_isa.specs.Words.{word_of}
use Rattle.rvm_word.specs.Word.{signed_value}
use Rattle.rvm_asm.specs.declared.faults.Fault.{Fault}
use Rattle.rvm_asm.specs.declared.faults.Fault.TheVariants.{BadToken, UnknownName, OutOfReach}
use Rattle.rvm_asm.specs.Contents.{bytes_at, value_of_width, list_bytes, words_at}
use Rattle.rvm_asm.specs.Csrs.{csr_of, csr_numbers, csr_comma, last_csr}
use Rattle.rvm_asm.specs.Instructions.{no_names, li_at}
use Rattle.rvm_asm.specs.Operands.{last_target, last_immediate, last_below}
use Rattle.rvm_asm.specs.Operations.{operations, atomics, operation_of}
use Rattle.rvm_asm.specs.Grammar.{grammar_at, behind, more_operands_at, expressions_at}
use Rattle.rvm_asm.specs.Reading.{parts, register_comma, last_register, last_address}
use Rattle.rvm_asm.specs.Statements.{label_of, next_place, directives, pseudo_instructions, keyword_of, balign_at, space_at}
use Rattle.rvm_asm.specs.Values.{value_at, last_value}

-- the bytes of a line
abbrev line_bytes : List ℕ → Option (Result (List ℕ) Fault)
line_bytes text = option_map (λ ts. bytes_at no_names 0x80000000 (label_of 0x80000000 ts).1) (lexemes text)

-- the place after a line
abbrev behind_line : List ℕ → Option (Result ℕ Fault)
behind_line text = option_map (λ ts. next_place no_names 0x80000000 (label_of 0x80000000 ts).1) (lexemes text)

li_of_two_words : line_bytes (codes "li a0, 0x800") ≡ Some (Ok (0x37 ∷ 0x15 ∷ 0x00 ∷ 0x00 ∷ 0x13 ∷ 0x05 ∷ 0x05 ∷ 0x80 ∷ []))
unfolding lexemes grammar_at behind more_operands_at expressions_at register_of abi_names numbered_names word_of signed_value parts value_of_width list_bytes words_at csr_of csr_numbers csr_comma last_csr li_at last_target last_immediate last_below operations atomics operation_of register_comma last_register last_address directives pseudo_instructions keyword_of balign_at space_at value_at last_value text_of
li_of_two_words = refl

li_of_one_word : line_bytes (codes "here: li a0, 2047 # small") ≡ Some (Ok (0x13 ∷ 0x05 ∷ 0xF0 ∷ 0x7F ∷ []))
unfolding lexemes grammar_at behind more_operands_at expressions_at register_of abi_names numbered_names word_of signed_value parts value_of_width list_bytes words_at csr_of csr_numbers csr_comma last_csr li_at last_target last_immediate last_below operations atomics operation_of register_comma last_register last_address directives pseudo_instructions keyword_of balign_at space_at value_at last_value text_of
li_of_one_word = refl

li_without_low_bits : line_bytes (codes "li a0, 0x10000") ≡ Some (Ok (0x37 ∷ 0x05 ∷ 0x01 ∷ 0x00 ∷ []))
unfolding lexemes grammar_at behind more_operands_at expressions_at register_of abi_names numbered_names word_of signed_value parts value_of_width list_bytes words_at csr_of csr_numbers csr_comma last_csr li_at last_target last_immediate last_below operations atomics operation_of register_comma last_register last_address directives pseudo_instructions keyword_of balign_at space_at value_at last_value text_of
li_without_low_bits = refl

lui : line_bytes (codes "lui t0, 0x10000") ≡ Some (Ok (0xB7 ∷ 0x02 ∷ 0x00 ∷ 0x10 ∷ []))
unfolding lexemes grammar_at behind more_operands_at expressions_at register_of abi_names numbered_names word_of signed_value parts value_of_width list_bytes words_at csr_of csr_numbers csr_comma last_csr li_at last_target last_immediate last_below operations atomics operation_of register_comma last_register last_address directives pseudo_instructions keyword_of balign_at space_at value_at last_value text_of
lui = refl

load : line_bytes (codes "lw a0, -4(sp)") ≡ Some (Ok (0x03 ∷ 0x25 ∷ 0xC1 ∷ 0xFF ∷ []))
unfolding lexemes grammar_at behind more_operands_at expressions_at register_of abi_names numbered_names word_of signed_value parts value_of_width list_bytes words_at csr_of csr_numbers csr_comma last_csr li_at last_target last_immediate last_below operations atomics operation_of register_comma last_register last_address directives pseudo_instructions keyword_of balign_at space_at value_at last_value text_of
load = refl

store : line_bytes (codes "sw t1, 0(t0)") ≡ Some (Ok (0x23 ∷ 0xA0 ∷ 0x62 ∷ 0x00 ∷ []))
unfolding lexemes grammar_at behind more_operands_at expressions_at register_of abi_names numbered_names word_of signed_value parts value_of_width list_bytes words_at csr_of csr_numbers csr_comma last_csr li_at last_target last_immediate last_below operations atomics operation_of register_comma last_register last_address directives pseudo_instructions keyword_of balign_at space_at value_at last_value text_of
store = refl

branch : line_bytes (codes "beq a0, zero, 0x80000008") ≡ Some (Ok (0x63 ∷ 0x04 ∷ 0x05 ∷ 0x00 ∷ []))
unfolding lexemes grammar_at behind more_operands_at expressions_at register_of abi_names numbered_names word_of signed_value parts value_of_width list_bytes words_at csr_of csr_numbers csr_comma last_csr li_at last_target last_immediate last_below operations atomics operation_of register_comma last_register last_address directives pseudo_instructions keyword_of balign_at space_at value_at last_value text_of
branch = refl

jump_to_itself : line_bytes (codes "j 0x80000000") ≡ Some (Ok (0x6F ∷ 0x00 ∷ 0x00 ∷ 0x00 ∷ []))
unfolding lexemes grammar_at behind more_operands_at expressions_at register_of abi_names numbered_names word_of signed_value parts value_of_width list_bytes words_at csr_of csr_numbers csr_comma last_csr li_at last_target last_immediate last_below operations atomics operation_of register_comma last_register last_address directives pseudo_instructions keyword_of balign_at space_at value_at last_value text_of
jump_to_itself = refl

csr_by_name : line_bytes (codes "csrw mtvec, t0") ≡ Some (Ok (0x73 ∷ 0x90 ∷ 0x52 ∷ 0x30 ∷ []))
unfolding lexemes grammar_at behind more_operands_at expressions_at register_of abi_names numbered_names word_of signed_value parts value_of_width list_bytes words_at csr_of csr_numbers csr_comma last_csr li_at last_target last_immediate last_below operations atomics operation_of register_comma last_register last_address directives pseudo_instructions keyword_of balign_at space_at value_at last_value text_of
csr_by_name = refl

csr_by_range : line_bytes (codes "csrr a0, mhpmcounter31h") ≡ Some (Ok (0x73 ∷ 0x25 ∷ 0xF0 ∷ 0xB9 ∷ []))
unfolding lexemes grammar_at behind more_operands_at expressions_at register_of abi_names numbered_names word_of signed_value parts value_of_width list_bytes words_at csr_of csr_numbers csr_comma last_csr li_at last_target last_immediate last_below operations atomics operation_of register_comma last_register last_address directives pseudo_instructions keyword_of balign_at space_at value_at last_value text_of
csr_by_range = refl

atomic : line_bytes (codes "amoadd.w.aqrl a0, a1, (a2)") ≡ Some (Ok (0x2F ∷ 0x25 ∷ 0xB6 ∷ 0x06 ∷ []))
unfolding lexemes grammar_at behind more_operands_at expressions_at register_of abi_names numbered_names word_of signed_value parts value_of_width list_bytes words_at csr_of csr_numbers csr_comma last_csr li_at last_target last_immediate last_below operations atomics operation_of register_comma last_register last_address directives pseudo_instructions keyword_of balign_at space_at value_at last_value text_of
atomic = refl

fence : line_bytes (codes "fence") ≡ Some (Ok (0x0F ∷ 0x00 ∷ 0xF0 ∷ 0x0F ∷ []))
unfolding lexemes grammar_at behind more_operands_at expressions_at register_of abi_names numbered_names word_of signed_value parts value_of_width list_bytes words_at csr_of csr_numbers csr_comma last_csr li_at last_target last_immediate last_below operations atomics operation_of register_comma last_register last_address directives pseudo_instructions keyword_of balign_at space_at value_at last_value text_of
fence = refl

halves : line_bytes (codes ".half -1, 0x1234") ≡ Some (Ok (0xFF ∷ 0xFF ∷ 0x34 ∷ 0x12 ∷ []))
unfolding lexemes grammar_at behind more_operands_at expressions_at register_of abi_names numbered_names word_of signed_value parts value_of_width list_bytes words_at csr_of csr_numbers csr_comma last_csr li_at last_target last_immediate last_below operations atomics operation_of register_comma last_register last_address directives pseudo_instructions keyword_of balign_at space_at value_at last_value text_of
halves = refl

high_half : line_bytes (codes "lui a0, %hi(0x12345FFF)") ≡ Some (Ok (0x37 ∷ 0x65 ∷ 0x34 ∷ 0x12 ∷ []))
unfolding lexemes grammar_at behind more_operands_at expressions_at register_of abi_names numbered_names word_of signed_value parts value_of_width list_bytes words_at csr_of csr_numbers csr_comma last_csr li_at last_target last_immediate last_below operations atomics operation_of register_comma last_register last_address directives pseudo_instructions keyword_of balign_at space_at value_at last_value text_of
high_half = refl

byte_256 : line_bytes (codes ".byte 256") ≡ Some (Err OutOfReach)
unfolding lexemes grammar_at behind more_operands_at expressions_at register_of abi_names numbered_names word_of signed_value parts value_of_width list_bytes words_at csr_of csr_numbers csr_comma last_csr li_at last_target last_immediate last_below operations atomics operation_of register_comma last_register last_address directives pseudo_instructions keyword_of balign_at space_at value_at last_value text_of
byte_256 = refl

unknown_name : line_bytes (codes "j nowhere") ≡ Some (Err UnknownName)
unfolding lexemes grammar_at behind more_operands_at expressions_at register_of abi_names numbered_names word_of signed_value parts value_of_width list_bytes words_at csr_of csr_numbers csr_comma last_csr li_at last_target last_immediate last_below operations atomics operation_of register_comma last_register last_address directives pseudo_instructions keyword_of balign_at space_at value_at last_value text_of
unknown_name = refl

two_operands : line_bytes (codes "addi a0, a0") ≡ Some (Err BadToken)
unfolding lexemes grammar_at behind more_operands_at expressions_at register_of abi_names numbered_names word_of signed_value parts value_of_width list_bytes words_at csr_of csr_numbers csr_comma last_csr li_at last_target last_immediate last_below operations atomics operation_of register_comma last_register last_address directives pseudo_instructions keyword_of balign_at space_at value_at last_value text_of
two_operands = refl

far_branch : line_bytes (codes "beq a0, a1, 0x80001000") ≡ Some (Err OutOfReach)
unfolding lexemes grammar_at behind more_operands_at expressions_at register_of abi_names numbered_names word_of signed_value parts value_of_width list_bytes words_at csr_of csr_numbers csr_comma last_csr li_at last_target last_immediate last_below operations atomics operation_of register_comma last_register last_address directives pseudo_instructions keyword_of balign_at space_at value_at last_value text_of
far_branch = refl

text_ended : line_bytes (codes ".asciz \"a\"") ≡ Some (Ok (97 ∷ 0 ∷ []))
unfolding lexemes grammar_at behind more_operands_at expressions_at register_of abi_names numbered_names word_of signed_value parts value_of_width list_bytes words_at csr_of csr_numbers csr_comma last_csr li_at last_target last_immediate last_below operations atomics operation_of register_comma last_register last_address directives pseudo_instructions keyword_of balign_at space_at value_at last_value text_of
text_ended = refl

aligned_place : behind_line (codes ".balign 16") ≡ Some (Ok 0x80000000)
unfolding lexemes grammar_at behind more_operands_at expressions_at register_of abi_names numbered_names word_of signed_value parts value_of_width list_bytes words_at csr_of csr_numbers csr_comma last_csr li_at last_target last_immediate last_below operations atomics operation_of register_comma last_register last_address directives pseudo_instructions keyword_of balign_at space_at value_at last_value text_of
aligned_place = refl

place_behind_two_words : behind_line (codes "la a0, x") ≡ Some (Ok 0x80000008)
unfolding lexemes grammar_at behind more_operands_at expressions_at register_of abi_names numbered_names word_of signed_value parts value_of_width list_bytes words_at csr_of csr_numbers csr_comma last_csr li_at last_target last_immediate last_below operations atomics operation_of register_comma last_register last_address directives pseudo_instructions keyword_of balign_at space_at value_at last_value text_of
place_behind_two_words = refl

place_behind_a_list : behind_line (codes ".word 1, 2, 3") ≡ Some (Ok 0x8000000C)
unfolding lexemes grammar_at behind more_operands_at expressions_at register_of abi_names numbered_names word_of signed_value parts value_of_width list_bytes words_at csr_of csr_numbers csr_comma last_csr li_at last_target last_immediate last_below operations atomics operation_of register_comma last_register last_address directives pseudo_instructions keyword_of balign_at space_at value_at last_value text_of
place_behind_a_list = refl

place_of_org : behind_line (codes ".org 0x80000100") ≡ Some (Ok 0x80000100)
unfolding lexemes grammar_at behind more_operands_at expressions_at register_of abi_names numbered_names word_of signed_value parts value_of_width list_bytes words_at csr_of csr_numbers csr_comma last_csr li_at last_target last_immediate last_below operations atomics operation_of register_comma last_register last_address directives pseudo_instructions keyword_of balign_at space_at value_at last_value text_of
place_of_org = refl

-- lines that are not in the grammar, whatever their names and values
abbrev is_bad_token : List ℕ → Type 0
is_bad_token text = (line_bytes text ≡ Some (Err BadToken)) × (behind_line text ≡ Some (Err BadToken))

jump_without_a_base : is_bad_token (codes "jalr a0, a1, 4")
unfolding lexemes grammar_at behind more_operands_at expressions_at register_of abi_names numbered_names word_of signed_value parts value_of_width list_bytes words_at csr_of csr_numbers csr_comma last_csr li_at last_target last_immediate last_below operations atomics operation_of register_comma last_register last_address directives pseudo_instructions keyword_of balign_at space_at value_at last_value text_of
jump_without_a_base = (refl, refl)

base_that_is_no_register : is_bad_token (codes "lw a0, 5000(q1)")
unfolding lexemes grammar_at behind more_operands_at expressions_at register_of abi_names numbered_names word_of signed_value parts value_of_width list_bytes words_at csr_of csr_numbers csr_comma last_csr li_at last_target last_immediate last_below operations atomics operation_of register_comma last_register last_address directives pseudo_instructions keyword_of balign_at space_at value_at last_value text_of
base_that_is_no_register = (refl, refl)

two_words_in_a_list : is_bad_token (codes ".word nosuch 5")
unfolding lexemes grammar_at behind more_operands_at expressions_at register_of abi_names numbered_names word_of signed_value parts value_of_width list_bytes words_at csr_of csr_numbers csr_comma last_csr li_at last_target last_immediate last_below operations atomics operation_of register_comma last_register last_address directives pseudo_instructions keyword_of balign_at space_at value_at last_value text_of
two_words_in_a_list = (refl, refl)

two_words_behind_a_value : is_bad_token (codes ".byte 300, x y")
unfolding lexemes grammar_at behind more_operands_at expressions_at register_of abi_names numbered_names word_of signed_value parts value_of_width list_bytes words_at csr_of csr_numbers csr_comma last_csr li_at last_target last_immediate last_below operations atomics operation_of register_comma last_register last_address directives pseudo_instructions keyword_of balign_at space_at value_at last_value text_of
two_words_behind_a_value = (refl, refl)

no_register_behind_a_csr : is_bad_token (codes "csrrw a0, 5000, q1")
unfolding lexemes grammar_at behind more_operands_at expressions_at register_of abi_names numbered_names word_of signed_value parts value_of_width list_bytes words_at csr_of csr_numbers csr_comma last_csr li_at last_target last_immediate last_below operations atomics operation_of register_comma last_register last_address directives pseudo_instructions keyword_of balign_at space_at value_at last_value text_of
no_register_behind_a_csr = (refl, refl)

value_behind_a_size : is_bad_token (codes ".space 0x2000000 1")
unfolding lexemes grammar_at behind more_operands_at expressions_at register_of abi_names numbered_names word_of signed_value parts value_of_width list_bytes words_at csr_of csr_numbers csr_comma last_csr li_at last_target last_immediate last_below operations atomics operation_of register_comma last_register last_address directives pseudo_instructions keyword_of balign_at space_at value_at last_value text_of
value_behind_a_size = (refl, refl)
