-- The names of the control and status registers (Privileged ISA, "CSR Listing").
use Rattle.std.specs.Prelude.{ℕ, nat_lt, List, [], ◌∷◌, Option, Some, None, Result, Ok, codes}
use Rattle.rvm_text.specs.Lexemes.{Lexeme, Word}
use Rattle.rvm_asm.specs.declared.faults.Fault.{Fault}
use Rattle.rvm_asm.specs.declared.faults.Fault.TheVariants.{OutOfReach}
use Rattle.rvm_asm.specs.Words.{named}
use Rattle.rvm_asm.specs.Reading.{◌>>=◌, only_if, mark_at, ended}
use Rattle.rvm_asm.specs.Values.{number_at}

-- the registers and their numbers
unfoldable pub csr_numbers : List (List ℕ × ℕ)
csr_numbers =
    (codes "mstatus", 0x300) ∷
    (codes "misa", 0x301) ∷
    (codes "mie", 0x304) ∷
    (codes "mtvec", 0x305) ∷
    (codes "mstatush", 0x310) ∷
    (codes "mcountinhibit", 0x320) ∷
    (codes "mscratch", 0x340) ∷
    (codes "mepc", 0x341) ∷
    (codes "mcause", 0x342) ∷
    (codes "mtval", 0x343) ∷
    (codes "mip", 0x344) ∷
    (codes "mcycle", 0xB00) ∷
    (codes "minstret", 0xB02) ∷
    (codes "mcycleh", 0xB80) ∷
    (codes "minstreth", 0xB82) ∷
    (codes "mvendorid", 0xF11) ∷
    (codes "marchid", 0xF12) ∷
    (codes "mimpid", 0xF13) ∷
    (codes "mhartid", 0xF14) ∷
    (codes "mconfigptr", 0xF15) ∷
    (codes "mhpmevent3", 0x323) ∷
    (codes "mhpmevent4", 0x324) ∷
    (codes "mhpmevent5", 0x325) ∷
    (codes "mhpmevent6", 0x326) ∷
    (codes "mhpmevent7", 0x327) ∷
    (codes "mhpmevent8", 0x328) ∷
    (codes "mhpmevent9", 0x329) ∷
    (codes "mhpmevent10", 0x32A) ∷
    (codes "mhpmevent11", 0x32B) ∷
    (codes "mhpmevent12", 0x32C) ∷
    (codes "mhpmevent13", 0x32D) ∷
    (codes "mhpmevent14", 0x32E) ∷
    (codes "mhpmevent15", 0x32F) ∷
    (codes "mhpmevent16", 0x330) ∷
    (codes "mhpmevent17", 0x331) ∷
    (codes "mhpmevent18", 0x332) ∷
    (codes "mhpmevent19", 0x333) ∷
    (codes "mhpmevent20", 0x334) ∷
    (codes "mhpmevent21", 0x335) ∷
    (codes "mhpmevent22", 0x336) ∷
    (codes "mhpmevent23", 0x337) ∷
    (codes "mhpmevent24", 0x338) ∷
    (codes "mhpmevent25", 0x339) ∷
    (codes "mhpmevent26", 0x33A) ∷
    (codes "mhpmevent27", 0x33B) ∷
    (codes "mhpmevent28", 0x33C) ∷
    (codes "mhpmevent29", 0x33D) ∷
    (codes "mhpmevent30", 0x33E) ∷
    (codes "mhpmevent31", 0x33F) ∷
    (codes "mhpmcounter3", 0xB03) ∷
    (codes "mhpmcounter4", 0xB04) ∷
    (codes "mhpmcounter5", 0xB05) ∷
    (codes "mhpmcounter6", 0xB06) ∷
    (codes "mhpmcounter7", 0xB07) ∷
    (codes "mhpmcounter8", 0xB08) ∷
    (codes "mhpmcounter9", 0xB09) ∷
    (codes "mhpmcounter10", 0xB0A) ∷
    (codes "mhpmcounter11", 0xB0B) ∷
    (codes "mhpmcounter12", 0xB0C) ∷
    (codes "mhpmcounter13", 0xB0D) ∷
    (codes "mhpmcounter14", 0xB0E) ∷
    (codes "mhpmcounter15", 0xB0F) ∷
    (codes "mhpmcounter16", 0xB10) ∷
    (codes "mhpmcounter17", 0xB11) ∷
    (codes "mhpmcounter18", 0xB12) ∷
    (codes "mhpmcounter19", 0xB13) ∷
    (codes "mhpmcounter20", 0xB14) ∷
    (codes "mhpmcounter21", 0xB15) ∷
    (codes "mhpmcounter22", 0xB16) ∷
    (codes "mhpmcounter23", 0xB17) ∷
    (codes "mhpmcounter24", 0xB18) ∷
    (codes "mhpmcounter25", 0xB19) ∷
    (codes "mhpmcounter26", 0xB1A) ∷
    (codes "mhpmcounter27", 0xB1B) ∷
    (codes "mhpmcounter28", 0xB1C) ∷
    (codes "mhpmcounter29", 0xB1D) ∷
    (codes "mhpmcounter30", 0xB1E) ∷
    (codes "mhpmcounter31", 0xB1F) ∷
    (codes "mhpmcounter3h", 0xB83) ∷
    (codes "mhpmcounter4h", 0xB84) ∷
    (codes "mhpmcounter5h", 0xB85) ∷
    (codes "mhpmcounter6h", 0xB86) ∷
    (codes "mhpmcounter7h", 0xB87) ∷
    (codes "mhpmcounter8h", 0xB88) ∷
    (codes "mhpmcounter9h", 0xB89) ∷
    (codes "mhpmcounter10h", 0xB8A) ∷
    (codes "mhpmcounter11h", 0xB8B) ∷
    (codes "mhpmcounter12h", 0xB8C) ∷
    (codes "mhpmcounter13h", 0xB8D) ∷
    (codes "mhpmcounter14h", 0xB8E) ∷
    (codes "mhpmcounter15h", 0xB8F) ∷
    (codes "mhpmcounter16h", 0xB90) ∷
    (codes "mhpmcounter17h", 0xB91) ∷
    (codes "mhpmcounter18h", 0xB92) ∷
    (codes "mhpmcounter19h", 0xB93) ∷
    (codes "mhpmcounter20h", 0xB94) ∷
    (codes "mhpmcounter21h", 0xB95) ∷
    (codes "mhpmcounter22h", 0xB96) ∷
    (codes "mhpmcounter23h", 0xB97) ∷
    (codes "mhpmcounter24h", 0xB98) ∷
    (codes "mhpmcounter25h", 0xB99) ∷
    (codes "mhpmcounter26h", 0xB9A) ∷
    (codes "mhpmcounter27h", 0xB9B) ∷
    (codes "mhpmcounter28h", 0xB9C) ∷
    (codes "mhpmcounter29h", 0xB9D) ∷
    (codes "mhpmcounter30h", 0xB9E) ∷
    (codes "mhpmcounter31h", 0xB9F) ∷
    []

-- the number of the register that a word names
unfoldable pub csr_of : List ℕ → Option ℕ
csr_of word = named csr_numbers word

-- a number below 2 ^ 12
abbrev pub csr_number : ℕ → Result ℕ Fault
csr_number n = only_if OutOfReach (nat_lt n 4096) n

-- this number, or the one that is written
abbrev pub csr_or_number : Option ℕ → Lexeme → List Lexeme → Result (ℕ × List Lexeme) Fault
csr_or_number (Some n) t ts = Ok (n, ts)
csr_or_number None t ts = number_at (t ∷ ts)

-- a name of a control and status register, or a number
abbrev pub csr_word_at : List Lexeme → Result (ℕ × List Lexeme) Fault
csr_word_at (Word w ∷ ts) = csr_or_number (csr_of w) (Word w) ts
csr_word_at ts = number_at ts

-- a control and status register: a name, or a number below 2 ^ 12
abbrev pub csr_at : List Lexeme → Result (ℕ × List Lexeme) Fault
csr_at ts = csr_word_at ts >>= λ c. csr_number c.0 >>= λ n. Ok (n, c.1)

-- a control and status register and a comma
unfoldable pub csr_comma : List Lexeme → Result (ℕ × List Lexeme) Fault
csr_comma ts = csr_at ts >>= λ c. mark_at 44 c.1 >>= λ rest. Ok (c.0, rest)

-- a control and status register, and nothing after it
unfoldable pub last_csr : List Lexeme → Result ℕ Fault
last_csr ts = csr_at ts >>= ended
