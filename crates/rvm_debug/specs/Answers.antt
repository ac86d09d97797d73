-- The texts of answers. Each of their lines ends with a line feed.
use Rattle.std.specs.Prelude.{ℕ, zero, suc, ◌+◌, ◌*◌, ◌/◌, ◌%◌, ◌^◌, Bool, true, false, if◌then◌else◌, List, [], ◌∷◌, ◌++◌, length, take, drop, codes, slice_index, Option, Some, None}
use Rattle.std.specs.Fmt.{decimal}
use Rattle.hex.specs.Hex.{encode_lower}
use Rattle.rvm_csr.specs.Cause.{exception_code, interrupt_code}
use Rattle.rvm_text.specs.Registers.{name_of}
use Rattle.rvm_dis.specs.Pieces.{hex_digits}
use Rattle.rvm_dis.specs.Disassembly.{line_at}
use Rattle.rvm_refusal.specs.Refusal.{text_of}
use Rattle.rvm_board.specs.EventRefusals.{refusal_of}
use Rattle.rvm_board.specs.declared.event.BoardEvent.{BoardEvent}
use Rattle.rvm_board.specs.declared.event.BoardEvent.TheVariants as event
use Rattle.rvm_board.specs.declared.event.BoardReply.{BoardReply}
use Rattle.rvm_board.specs.declared.event.BoardReply.TheVariants as reply

-- an answer in words, but for bytes, registers and words of RAM
abbrev pub reply_word : BoardReply → List ℕ
reply_word reply.Retired = codes "retired"
reply_word (reply.Trapped e) = codes "trapped " ++ decimal (exception_code e)
reply_word (reply.Interrupted i) = codes "interrupted " ++ decimal (interrupt_code i)
reply_word (reply.Halted s) = codes "halted " ++ decimal s
reply_word (reply.Break a) = codes "break " ++ hex_digits 8 a
reply_word reply.Done = codes "done"
reply_word (reply.Bytes bs) = []
reply_word (reply.Regs rs) = []
reply_word (reply.Line a w) = []
reply_word (reply.Refused r) = text_of (refusal_of r)

-- whether an answer is a refusal
abbrev pub is_refused : BoardReply → Bool
is_refused reply.Retired = false
is_refused (reply.Trapped e) = false
is_refused (reply.Interrupted i) = false
is_refused (reply.Halted s) = false
is_refused (reply.Break a) = false
is_refused reply.Done = false
is_refused (reply.Bytes bs) = false
is_refused (reply.Regs rs) = false
is_refused (reply.Line a w) = false
is_refused (reply.Refused r) = true

-- `step H N: WORD`, or the refusal alone
abbrev pub step_text : (hart count : ℕ) → BoardReply → List ℕ
step_text h n r =
    if is_refused r then reply_word r ++ codes "\n"
    else codes "step " ++ decimal h ++ codes " " ++ decimal n ++ codes ": " ++ reply_word r
    ++ codes "\n"

-- `out N HEX`, without HEX if there are no bytes
abbrev pub output_text : List ℕ → List ℕ
output_text [] = codes "out 0\n"
output_text (b ∷ bs) =
    codes "out " ++ decimal (length (b ∷ bs)) ++ codes " " ++ encode_lower (b ∷ bs) ++ codes "\n"

-- `AAAAAAAA: HEX`: row n of 16 bytes each, the last of which may be shorter
abbrev pub row_text : (address : ℕ) → List ℕ → (n : ℕ) → List ℕ
row_text a bs n =
    hex_digits 8 ((a + 16 * n) % 2 ^ 32) ++ codes ": " ++ encode_lower (take 16 (drop (16 * n) bs))
    ++ codes "\n"

-- the first n rows
unfoldable pub rows_text : (address : ℕ) → List ℕ → (n : ℕ) → List ℕ
rows_text a bs zero = []
rows_text a bs (suc n) = rows_text a bs n ++ row_text a bs n

-- bytes of RAM from an address on
abbrev pub memory_text : (address : ℕ) → List ℕ → List ℕ
memory_text a bs = rows_text a bs ((length bs + 15) / 16)

-- `NAME=VVVVVVVV`
abbrev pub register_text : (name : List ℕ) → (value : ℕ) → List ℕ
register_text name value = name ++ codes "=" ++ hex_digits 8 value

-- the same of a register by its number
abbrev pub numbered_text : List ℕ → ℕ → List ℕ
numbered_text rs n = register_text (name_of n) (slice_index rs n)

-- two registers from one on
abbrev pub two_text : List ℕ → ℕ → List ℕ
two_text rs n = numbered_text rs n ++ codes " " ++ numbered_text rs (n + 1)

-- four registers from one on
abbrev pub four_text : List ℕ → ℕ → List ℕ
four_text rs n = two_text rs n ++ codes " " ++ two_text rs (n + 2) ++ codes "\n"

-- the first n rows of four registers
unfoldable pub fours_text : List ℕ → (n : ℕ) → List ℕ
fours_text rs zero = []
fours_text rs (suc n) = fours_text rs n ++ four_text rs (4 * n)

-- x0 to x31 and pc
abbrev pub registers_text : List ℕ → List ℕ
registers_text rs = fours_text rs 8 ++ codes "pc=" ++ hex_digits 8 (slice_index rs 32) ++ codes "\n"

-- the address of the bytes that an event asks for, if they are of RAM
abbrev pub address_of : BoardEvent → Option ℕ
address_of (event.Mem a n) = Some a
address_of (event.Step h) = None
address_of (event.Input b) = None
address_of (event.Drain n) = None
address_of (event.Break a) = None
address_of (event.Clear a) = None
address_of (event.Regs h) = None
address_of (event.Dis a) = None
address_of (event.PokeReg h r v) = None
address_of (event.PokeMem a bs) = None

-- bytes of RAM from an address on, or bytes that the guest sent
abbrev pub bytes_text : (address : Option ℕ) → List ℕ → List ℕ
bytes_text None bs = output_text bs
bytes_text (Some a) bs = memory_text a bs

-- the answer to an event that is no step; its bytes are RAM from an address on if one is given, else what the guest
-- sent
abbrev pub reply_text : (address : Option ℕ) → BoardReply → List ℕ
reply_text a reply.Done = reply_word reply.Done ++ codes "\n"
reply_text a (reply.Bytes bs) = bytes_text a bs
reply_text a (reply.Regs rs) = registers_text rs
reply_text a (reply.Line at w) = line_at at w ++ codes "\n"
reply_text a (reply.Refused r) = reply_word (reply.Refused r) ++ codes "\n"
reply_text a reply.Retired = reply_word reply.Retired ++ codes "\n"
reply_text a (reply.Trapped e) = reply_word (reply.Trapped e) ++ codes "\n"
reply_text a (reply.Interrupted i) = reply_word (reply.Interrupted i) ++ codes "\n"
reply_text a (reply.Halted s) = reply_word (reply.Halted s) ++ codes "\n"
reply_text a (reply.Break b) = reply_word (reply.Break b) ++ codes "\n"
