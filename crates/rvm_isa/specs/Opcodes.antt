-- The decoder's short cut: the table again, for a word whose opcode is known. The other fixed parts
-- of the word tell the few rows of that opcode apart.
use Rattle.std.specs.Prelude.{ℕ, ◌%◌, ◌^◌, Bool, ◌&&◌, ◌==◌, if◌then◌else◌, Option, find, option_map}
use Rattle.rvm_isa.specs.declared.ins.Ins.{Ins}
use Rattle.rvm_isa.specs.Fields.{opcode, funct3, funct5, funct7, rs2}
use Rattle.rvm_isa.specs.Table.{table, ins_of}

-- whether a word with opcode o agrees with the bits b of a row under the row's mask m
abbrev pub agrees : (o w m b : ℕ) → Bool
agrees o w m b =
    if m == 0x7F then o == opcode b
    else (if m == 0x707F then o == opcode b && funct3 w == funct3 b
    else (if m == 0xFE00707F then o == opcode b && funct3 w == funct3 b && funct7 w == funct7 b
    else (if m == 0xF800707F then o == opcode b && funct3 w == funct3 b && funct5 w == funct5 b
    else (if m == 0xF9F0707F then
    o == opcode b && funct3 w == funct3 b && funct5 w == funct5 b && rs2 w == rs2 b
    else o == opcode b && funct3 w == funct3 b && w % 2 ^ 32 == b))))

-- the instruction of a word with opcode o
unfoldable pub with_opcode : (o w : ℕ) → Option Ins
with_opcode o w = option_map (λ r. ins_of r.shape w) (find (λ r. agrees o w r.mask r.bits) table)
