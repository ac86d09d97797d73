-- A line of a trace: a step of a hart, what its instruction wrote, and what became of it.
use Rattle.std.specs.Prelude.{ℕ, ◌==◌, if◌then◌else◌, List, [], ◌∷◌, ◌++◌, Option, Some, None, option_map, slice_index, codes}
use Rattle.std.specs.Fmt.{decimal}
use Rattle.rvm_isa.specs.declared.ins.Ins.{Ins}
use Rattle.rvm_isa.specs.declared.ins.Ins.TheVariants.{Lui, Auipc, Jal, Jalr, Beq, Bne, Blt, Bge}
use Rattle.rvm_isa.specs.declared.ins.Ins.TheVariants.{Bltu, Bgeu, Lb, Lh, Lw, Lbu, Lhu, Sb, Sh, Sw}
use Rattle.rvm_isa.specs.declared.ins.Ins.TheVariants.{Addi, Slti, Sltiu, Xori, Ori, Andi, Slli}
use Rattle.rvm_isa.specs.declared.ins.Ins.TheVariants.{Srli, Srai, Add, Sub, Sll, Slt, Sltu, Xor}
use Rattle.rvm_isa.specs.declared.ins.Ins.TheVariants.{Srl, Sra, Or, And, Mul, Mulh, Mulhsu, Mulhu}
use Rattle.rvm_isa.specs.declared.ins.Ins.TheVariants.{Div, Divu, Rem, Remu, Fence, FenceI, Ecall}
use Rattle.rvm_isa.specs.declared.ins.Ins.TheVariants.{Ebreak, Mret, Wfi, Csrrw, Csrrs, Csrrc}
use Rattle.rvm_isa.specs.declared.ins.Ins.TheVariants.{Csrrwi, Csrrsi, Csrrci, LrW, ScW, AmoswapW}
use Rattle.rvm_isa.specs.declared.ins.Ins.TheVariants.{AmoaddW, AmoxorW, AmoandW, AmoorW, AmominW}
use Rattle.rvm_isa.specs.declared.ins.Ins.TheVariants.{AmomaxW, AmominuW, AmomaxuW}
use Rattle.rvm_isa.specs.Table.{decoded}
use Rattle.rvm_hart.specs.Kinds.{sum}
use Rattle.rvm_board.specs.declared.event.BoardReply.{BoardReply}
use Rattle.rvm_board.specs.declared.event.BoardReply.TheVariants.{Retired}
use Rattle.rvm_board.specs.Board.{hart_at}
use Rattle.rvm_board.specs.Events.{pc_of}
use Rattle.rvm_board.specs.Guest.{Guest}
use Rattle.rvm_dis.specs.Pieces.{hex_digits}
use Rattle.rvm_dis.specs.Disassembly.{line_at}
use Rattle.rvm_debug.specs.Answers.{numbered_text, reply_word}
use Rattle.rvm_command.specs.declared.trace.Before.{Before}
use Rattle.rvm_command.specs.WordAt.{word_at}
use Rattle.rvm_command.specs.declared.trace.Size.{Size}
use Rattle.rvm_command.specs.declared.trace.Size.TheVariants as size
use Rattle.rvm_command.specs.declared.trace.Stored.{Stored}
use Rattle.rvm_command.specs.declared.trace.Writes.{Writes}
use Rattle.rvm_command.specs.declared.trace.Writes.TheVariants as writes

-- BEFORE THE STEP

-- registers x0 to x31 of a hart, then pc
abbrev pub registers_of : (hart : ℕ) → Guest → List ℕ
registers_of h g = (hart_at h g.board).regs ++ pc_of h g ∷ []

-- what a trace shows of a hart before its step
unfoldable pub before_of : (hart : ℕ) → Guest → Before
before_of h g = record { registers = registers_of h g; word = word_at (pc_of h g) g }

-- WHAT AN INSTRUCTION WRITES

-- what each instruction writes if it retires: a table (Unprivileged ISA, "RV32/64G Instruction Set Listings";
-- Privileged ISA, "RISC-V Privileged Instruction Set Listings")
unfoldable pub writes_of : Ins → Writes
writes_of (Lui rd imm) = writes.Register rd
writes_of (Auipc rd imm) = writes.Register rd
writes_of (Jal rd offset) = writes.Register rd
writes_of (Jalr rd rs1 imm) = writes.Register rd
writes_of (Beq rs1 rs2 offset) = writes.Nothing
writes_of (Bne rs1 rs2 offset) = writes.Nothing
writes_of (Blt rs1 rs2 offset) = writes.Nothing
writes_of (Bge rs1 rs2 offset) = writes.Nothing
writes_of (Bltu rs1 rs2 offset) = writes.Nothing
writes_of (Bgeu rs1 rs2 offset) = writes.Nothing
writes_of (Lb rd rs1 imm) = writes.Register rd
writes_of (Lh rd rs1 imm) = writes.Register rd
writes_of (Lw rd rs1 imm) = writes.Register rd
writes_of (Lbu rd rs1 imm) = writes.Register rd
writes_of (Lhu rd rs1 imm) = writes.Register rd
writes_of (Sb rs1 rs2 imm) = writes.Store size.Byte rs1 rs2 imm
writes_of (Sh rs1 rs2 imm) = writes.Store size.Half rs1 rs2 imm
writes_of (Sw rs1 rs2 imm) = writes.Store size.Word rs1 rs2 imm
writes_of (Addi rd rs1 imm) = writes.Register rd
writes_of (Slti rd rs1 imm) = writes.Register rd
writes_of (Sltiu rd rs1 imm) = writes.Register rd
writes_of (Xori rd rs1 imm) = writes.Register rd
writes_of (Ori rd rs1 imm) = writes.Register rd
writes_of (Andi rd rs1 imm) = writes.Register rd
writes_of (Slli rd rs1 amount) = writes.Register rd
writes_of (Srli rd rs1 amount) = writes.Register rd
writes_of (Srai rd rs1 amount) = writes.Register rd
writes_of (Add rd rs1 rs2) = writes.Register rd
writes_of (Sub rd rs1 rs2) = writes.Register rd
writes_of (Sll rd rs1 rs2) = writes.Register rd
writes_of (Slt rd rs1 rs2) = writes.Register rd
writes_of (Sltu rd rs1 rs2) = writes.Register rd
writes_of (Xor rd rs1 rs2) = writes.Register rd
writes_of (Srl rd rs1 rs2) = writes.Register rd
writes_of (Sra rd rs1 rs2) = writes.Register rd
writes_of (Or rd rs1 rs2) = writes.Register rd
writes_of (And rd rs1 rs2) = writes.Register rd
writes_of (Mul rd rs1 rs2) = writes.Register rd
writes_of (Mulh rd rs1 rs2) = writes.Register rd
writes_of (Mulhsu rd rs1 rs2) = writes.Register rd
writes_of (Mulhu rd rs1 rs2) = writes.Register rd
writes_of (Div rd rs1 rs2) = writes.Register rd
writes_of (Divu rd rs1 rs2) = writes.Register rd
writes_of (Rem rd rs1 rs2) = writes.Register rd
writes_of (Remu rd rs1 rs2) = writes.Register rd
writes_of (Fence rd rs1 imm) = writes.Nothing
writes_of (FenceI rd rs1 imm) = writes.Nothing
writes_of Ecall = writes.Nothing
writes_of Ebreak = writes.Nothing
writes_of Mret = writes.Nothing
writes_of Wfi = writes.Nothing
writes_of (Csrrw rd rs1 csr) = writes.Register rd
writes_of (Csrrs rd rs1 csr) = writes.Register rd
writes_of (Csrrc rd rs1 csr) = writes.Register rd
writes_of (Csrrwi rd imm csr) = writes.Register rd
writes_of (Csrrsi rd imm csr) = writes.Register rd
writes_of (Csrrci rd imm csr) = writes.Register rd
writes_of (LrW rd rs1 aq rl) = writes.Register rd
writes_of (ScW rd rs1 rs2 aq rl) = writes.Conditional rd rs1 rs2
writes_of (AmoswapW rd rs1 rs2 aq rl) = writes.Exchange rd rs1
writes_of (AmoaddW rd rs1 rs2 aq rl) = writes.Exchange rd rs1
writes_of (AmoxorW rd rs1 rs2 aq rl) = writes.Exchange rd rs1
writes_of (AmoandW rd rs1 rs2 aq rl) = writes.Exchange rd rs1
writes_of (AmoorW rd rs1 rs2 aq rl) = writes.Exchange rd rs1
writes_of (AmominW rd rs1 rs2 aq rl) = writes.Exchange rd rs1
writes_of (AmomaxW rd rs1 rs2 aq rl) = writes.Exchange rd rs1
writes_of (AmominuW rd rs1 rs2 aq rl) = writes.Exchange rd rs1
writes_of (AmomaxuW rd rs1 rs2 aq rl) = writes.Exchange rd rs1

-- the same of the instruction, if there is one, that a word is
abbrev pub writes_of_decoded : Option Ins → Writes
writes_of_decoded None = writes.Nothing
writes_of_decoded (Some ins) = writes_of ins

-- the same of a word, if there is one
unfoldable pub writes_of_word : Option ℕ → Writes
writes_of_word None = writes.Nothing
writes_of_word (Some word) = writes_of_decoded (decoded word)

-- the destination register, or x0 if there is none
unfoldable pub destination : Writes → ℕ
destination writes.Nothing = 0
destination (writes.Register rd) = rd
destination (writes.Store size rs1 rs2 imm) = 0
destination (writes.Conditional rd rs1 rs2) = rd
destination (writes.Exchange rd rs1) = rd

-- a word that was stored
abbrev pub word_stored : (address value : ℕ) → Stored
word_stored a v = record { address = a; size = size.Word; value = v }

-- the word at an address, if there is one, as stored there
abbrev pub stored_part : (address : ℕ) → Option ℕ → Option Stored
stored_part a word = option_map (word_stored a) word

-- the word of an SC, which was stored if rd, unless it is x0, became 0
abbrev pub stored_conditional : (rd became address value : ℕ) → Option Stored
stored_conditional rd became a v =
    if rd == 0 then None else (if became == 0 then Some (word_stored a v) else None)

-- what a retired instruction stored, by the registers before its step and after it: addresses and values are those
-- before it, but for an AMO's word, which is the one in RAM after it
unfoldable pub stored_by : Writes → (before now : List ℕ) → (after : Guest) → Option Stored
stored_by writes.Nothing before now g = None
stored_by (writes.Register rd) before now g = None
stored_by (writes.Store size rs1 rs2 imm) before now g =
    Some (record { address = sum (slice_index before rs1) imm; size = size; value = slice_index before rs2 })
stored_by (writes.Conditional rd rs1 rs2) before now g =
    stored_conditional rd (slice_index now rd) (slice_index before rs1) (slice_index before rs2)
stored_by (writes.Exchange rd rs1) before now g = stored_part (slice_index before rs1) (word_at (slice_index before rs1) g)

-- TEXTS

-- the lowest bytes of a value, two digits for each
abbrev pub digits_of : Size → (value : ℕ) → List ℕ
digits_of size.Byte v = hex_digits 2 v
digits_of size.Half v = hex_digits 4 v
digits_of size.Word v = hex_digits 8 v

-- `[AAAAAAAA]=VV`
abbrev pub stored_text : Stored → List ℕ
stored_text s = codes "[" ++ hex_digits 8 s.address ++ codes "]=" ++ digits_of s.size s.value

-- the same after two spaces, if anything was stored
unfoldable pub shown : Option Stored → List ℕ
shown None = []
shown (Some s) = codes "  " ++ stored_text s

-- `NAME=VVVVVVVV` after two spaces, unless the register is x0
unfoldable pub register_text : (rd : ℕ) → (now : List ℕ) → List ℕ
register_text rd now = if rd == 0 then [] else codes "  " ++ numbered_text now rd

-- what a retired instruction of a hart wrote: its register, then what it stored
unfoldable pub written_text : Writes → (before : List ℕ) → (hart : ℕ) → (after : Guest) → List ℕ
written_text w before h g =
    register_text (destination w) (registers_of h g) ++ shown (stored_by w before (registers_of h g) g)

-- what a retired instruction wrote, or what became of the step in place of that
unfoldable pub outcome_text : (hart : ℕ) → Before → (after : Guest) → BoardReply → List ℕ
outcome_text h before g Retired = written_text (writes_of_word before.word) before.registers h g
outcome_text h before g reply = codes "  " ++ reply_word reply

-- the address, the word there and its text, or `AAAAAAAA: --------` if there is no word
unfoldable pub instruction_text : (pc : ℕ) → Option ℕ → List ℕ
instruction_text pc None = hex_digits 8 pc ++ codes ": --------"
instruction_text pc (Some word) = line_at pc word

-- the turn, the hart, and the instruction at pc
unfoldable pub turn_text : (turn hart pc : ℕ) → Option ℕ → List ℕ
turn_text turn h pc word = decimal turn ++ codes " " ++ decimal h ++ codes " " ++ instruction_text pc word

-- the line of a step: the turn, the hart and the instruction at pc before it, then what that wrote or what became of it
unfoldable pub line_of : (turn hart : ℕ) → Before → (after : Guest) → BoardReply → List ℕ
line_of turn h before g reply =
    turn_text turn h (slice_index before.registers 32) before.word ++ outcome_text h before g reply ++ codes "\n"
