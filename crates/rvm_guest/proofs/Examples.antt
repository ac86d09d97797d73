-- Known guests, and the pieces of known states.
use Rattle.std.proofs.Common.{◌≡◌, ℕ, ◌^◌, true, false, [], ◌∷◌, ◌++◌, Some, get_or, replicate, refl}
use Rattle.rvm_mem.specs.Pages.{byte_pages}
use Rattle.rvm_codec.specs.Codec.{read_each}
use Rattle.rvm_codec.specs.Numbers.{number_at}
use Rattle.rvm_board.specs.Board.{at_reset}
use Rattle.rvm_board.specs.declared.event.BoardEvent.TheVariants.{Break, PokeMem}
use Rattle.rvm_board.specs.Guest.{Guest, fresh}
use Rattle.rvm_state.specs.Formats.{csrs, hart, head, mie, mstatus, parts, shared, state, breakpoints}
use Rattle.rvm_guest.specs.Body.{body_of}
use Rattle.rvm_guest.specs.Pages.{is_zeros, joined, pages_at, writes}
use Rattle.rvm_guest.specs.Pieces.{cut, join, pieces}
use Rattle.rvm_guest.specs.Valid.{are_harts, is_valid}

-- this many harts at reset, with this many bytes of zeros
abbrev guest : (harts size : ℕ) → Guest
guest harts size = fresh (at_reset harts 0x80000000 (replicate size 0))

a_guest_at_reset_is_valid : is_valid (guest 2 4096) ≡ true
unfolding is_valid
a_guest_at_reset_is_valid = refl

half_a_page_is_none : is_valid (guest 2 6144) ≡ false
unfolding is_valid
half_a_page_is_none = refl

a_hart_has_its_place_as_its_number : are_harts 1 (guest 2 0).board.harts ≡ false
a_hart_has_its_place_as_its_number = refl

two_bytes_in_two_pages_write_both : writes (guest 1 8192) (PokeMem 0x80000fff (1 ∷ 2 ∷ [])) 0 ≡ true
unfolding writes byte_pages
two_bytes_in_two_pages_write_both = refl

a_breakpoint_writes_none : writes (guest 1 8192) (Break 0x80000000) 0 ≡ false
unfolding writes
a_breakpoint_writes_none = refl

pages_follow_one_another : pages_at 2 (replicate 4096 1 ++ replicate 4096 2) ≡ replicate 4096 1 ∷ replicate 4096 2 ∷ []
unfolding pages_at
pages_follow_one_another = refl

a_page_with_a_1_is_not_of_zeros : is_zeros (replicate 4095 0 ++ 1 ∷ []) ≡ false
a_page_with_a_1_is_not_of_zeros = refl

too_few_zeros_are_no_page : is_zeros (replicate 4095 0) ≡ false
too_few_zeros_are_no_page = refl

-- the bytes of a guest begin with the number of its harts
a_state_begins_with_the_harts : get_or (body_of (guest 2 4096)) 0 0 ≡ 2
unfolding body_of state parts head shared hart csrs mstatus mie breakpoints
a_state_begins_with_the_harts = refl

-- a guest whose mtime is too large for its eight bytes
abbrev late : Guest
late =
    let g = guest 2 4096 in
    record g { board = record g.board { shared = record g.board.shared { devices = record g.board.shared.devices { mtime = 2 ^ 64 } } } }

a_number_too_large_is_no_bytes : get_or (body_of late) 0 0 ≡ 256
unfolding body_of state parts head shared
a_number_too_large_is_no_bytes = refl

-- the count of the numbers in two bytes, each number in four, and the state
one_piece : cut (3 ∷ 258 ∷ []) (9 ∷ 8 ∷ []) ≡ (2 ∷ 0 ∷ 3 ∷ 0 ∷ 0 ∷ 0 ∷ 2 ∷ 1 ∷ 0 ∷ 0 ∷ 9 ∷ 8 ∷ []) ∷ []
unfolding cut pieces
one_piece = refl

it_is_joined_again : join ((2 ∷ 0 ∷ 3 ∷ 0 ∷ 0 ∷ []) ∷ (0 ∷ 2 ∷ 1 ∷ 0 ∷ 0 ∷ 9 ∷ 8 ∷ []) ∷ []) ≡ Some (3 ∷ 258 ∷ [], 9 ∷ 8 ∷ [])
unfolding join joined number_at read_each
it_is_joined_again = refl

a_piece_has_at_most_4096_bytes : pieces 5000 (replicate 4097 7) ≡ replicate 4096 7 ∷ (7 ∷ []) ∷ []
unfolding pieces
a_piece_has_at_most_4096_bytes = refl
