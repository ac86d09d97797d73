-- The assembly text of one word at an address, and the image of that word.
use Rattle.std.specs.Prelude.{ℕ, List, [], ◌∷◌, ◌++◌, codes}
use Rattle.std.specs.Int.{to_le_bytes, w32}
use Rattle.rvm_asm.specs.Images.{Piece, piece}
use Rattle.rvm_dis.specs.Disassembly.{text_at}
use Rattle.rvm_dis.specs.Pieces.{hex}

-- the line after which the next one stands at an address
abbrev pub org_line : (address : ℕ) → List ℕ
org_line address = codes ".org " ++ hex 8 address

-- two lines, each with a line feed after it: the first sets the place to the address, and the second is the word there
abbrev pub text_behind_org : (address word : ℕ) → List ℕ
text_behind_org address word = org_line address ++ codes "\n" ++ text_at address word ++ codes "\n"

-- the four bytes of a word at an address, the lowest first
abbrev pub image_of_word : (address word : ℕ) → List Piece
image_of_word address word = piece address (to_le_bytes w32 word) ∷ []
