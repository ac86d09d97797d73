-- The definitions computed on small cases, against values worked out by hand from the format.
use Rattle.std.proofs.Common.{◌≡◌, ℕ, List, [], ◌∷◌, ◌++◌, Ok, Err, false, length, replicate, refl}
use Rattle.rvm_asm.specs.Images.{Piece, piece}
use Rattle.rvm_elf.specs.declared.error.ReadError.TheVariants.{BadMagic, NotRiscV32, TooMany, Truncated}
use Rattle.rvm_elf.specs.File.{checked, headers_checked, pieces_from, meaning}
use Rattle.rvm_elf.specs.Load.{fits, pieces_fit, ram_of}
use Rattle.rvm_elf.specs.Spelling.{all_bytes, program_headers, file_of}

-- nothing, and the magic bytes alone
an_empty_file_is_no_elf_file : meaning [] ≡ Err BadMagic
unfolding meaning checked
an_empty_file_is_no_elf_file = refl

the_magic_bytes_alone_are_cut_short : meaning (0x7F ∷ 0x45 ∷ 0x4C ∷ 0x46 ∷ []) ≡ Err Truncated
unfolding meaning checked
the_magic_bytes_alone_are_cut_short = refl

-- nine words of code
code : List Piece
code = piece 0x80000000 (replicate 36 7) ∷ []

a_file_of_nine_words_has_120_bytes : length (file_of 0x80000000 code) ≡ 120
unfolding code file_of program_headers all_bytes
a_file_of_nine_words_has_120_bytes = refl

it_is_read_back : meaning (file_of 0x80000000 code) ≡ Ok (0x80000000, code)
unfolding code file_of program_headers all_bytes meaning checked headers_checked pieces_from
it_is_read_back = refl

-- a byte and a zero over four bytes
overlapping : List Piece
overlapping = piece 0x80000000 (1 ∷ 2 ∷ 3 ∷ 4 ∷ []) ∷ record { address = 0x80000001; bytes = 9 ∷ []; zeros = 1 } ∷ []

the_later_piece_decides : ram_of 6 overlapping ≡ 1 ∷ 9 ∷ 0 ∷ 4 ∷ 0 ∷ 0 ∷ []
unfolding overlapping
the_later_piece_decides = refl

-- the address and the size of a piece do not wrap
a_piece_past_the_last_address_does_not_fit : fits 0x80000000 (record { address = 0xFFFFFFFF; bytes = []; zeros = 0xFFFFFFFF } ∷ []) 4096 ≡ false
unfolding pieces_fit
a_piece_past_the_last_address_does_not_fit = refl

-- the 52 bytes of an ELF header that counts this many program headers
abbrev header : (class machine count : ℕ) → List ℕ
header class machine count =
    0x7F ∷ 0x45 ∷ 0x4C ∷ 0x46 ∷ class ∷ 1 ∷ 1 ∷ replicate 9 0 ++ (2 ∷ 0 ∷ machine ∷ 0 ∷ 1 ∷ 0 ∷ 0 ∷ 0 ∷ [])
    ++ (0 ∷ 0 ∷ 0 ∷ 0x80 ∷ 52 ∷ 0 ∷ 0 ∷ 0 ∷ []) ++ replicate 8 0
    ++ (52 ∷ 0 ∷ 32 ∷ 0 ∷ count ∷ 0 ∷ []) ++ replicate 6 0

a_header_without_program_headers_is_an_image : meaning (header 1 243 0) ≡ Ok (0x80000000, [])
unfolding meaning checked headers_checked pieces_from
a_header_without_program_headers_is_an_image = refl

class_64_is_refused : meaning (header 2 243 0) ≡ Err NotRiscV32
unfolding meaning checked
class_64_is_refused = refl

another_machine_is_refused : meaning (header 1 62 0) ≡ Err NotRiscV32
unfolding meaning checked
another_machine_is_refused = refl

seventeen_program_headers_are_too_many : meaning (header 1 243 17) ≡ Err TooMany
unfolding meaning checked
seventeen_program_headers_are_too_many = refl

sixteen_are_looked_for : meaning (header 1 243 16) ≡ Err Truncated
unfolding meaning checked
sixteen_are_looked_for = refl
