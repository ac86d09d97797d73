-- The coverage of a run: how often each word of its image ran.
use Rattle.std.specs.Prelude.{ℕ, ◌+◌, ◌-◌, ◌/◌, ◌%◌, ◌*◌, ◌^◌, ◌==◌, ◌&&◌, ◌<◌, ◌≡◌, Bool, true, false, nat_le, nat_lt, if◌then◌else◌, List, [], ◌∷◌, ◌++◌, length, replicate, count_by, drop, get_or, slice_set, codes}
use Rattle.std.specs.Fmt.{decimal}
use Rattle.byteorder.specs.Endian.{little_number}
use Rattle.rvm_asm.specs.Images.{Piece}
use Rattle.rvm_board.specs.declared.event.BoardReply.{BoardReply}
use Rattle.rvm_board.specs.declared.event.BoardReply.TheVariants.{Retired, Trapped, Halted}
use Rattle.rvm_board.specs.Events.{pc_of}
use Rattle.rvm_dis.specs.Disassembly.{line_at}
use Rattle.rvm_command.specs.Command.{before_word}
use Rattle.rvm_command.specs.Taken.{Taken}

-- whether the instruction at pc ran in a step with this answer: not if the hart stopped at a breakpoint before it, or an
-- interrupt came before it
abbrev pub has_run : BoardReply → Bool
has_run Retired = true
has_run (Trapped e) = true
has_run (Halted s) = true
has_run reply = false

-- whether a step ran the instruction at an address
abbrev pub ran_at : (address : ℕ) → Taken → Bool
ran_at a t = pc_of t.hart t.before == a && has_run t.reply

-- how often the instruction at an address ran in these steps
unfoldable pub runs_at : List Taken → (address : ℕ) → ℕ
runs_at ts a = count_by (ran_at a) ts

-- a number in decimal, with spaces before it up to ten columns
abbrev pub in_ten : ℕ → List ℕ
in_ten n = replicate (10 - length (decimal n)) 32 ++ decimal n

-- the line that `dis` lists of a word, after a number and two spaces
abbrev pub counted_line : (count address word : ℕ) → List ℕ
counted_line n a word = in_ten n ++ codes "  " ++ line_at a word ++ codes "\n"

-- the lines of the words of bytes that stand from this address on, each with the number of its address
unfoldable pub counted_lines : (number : ℕ → ℕ) → (address : ℕ) → List ℕ → List ℕ
counted_lines number a (b0 ∷ b1 ∷ b2 ∷ b3 ∷ rest) =
    counted_line (number a) a (little_number 4 (b0 ∷ b1 ∷ b2 ∷ b3 ∷ [])) ++ counted_lines number ((a + 4) % 2 ^ 32) rest
counted_lines number a bytes = []

-- the lines of the whole aligned words of pieces, in order, each with the number of its address
unfoldable pub counted_listing : (number : ℕ → ℕ) → List Piece → List ℕ
counted_listing number [] = []
counted_listing number (p ∷ ps) =
    counted_lines number ((p.address + before_word p.address) % 2 ^ 32) (drop (before_word p.address) p.bytes)
    ++ counted_listing number ps

-- the coverage of a run of an image with these pieces that made these steps: how often each word ran
abbrev pub coverage : List Piece → List Taken → List ℕ
coverage pieces ts = counted_listing (runs_at ts) pieces
