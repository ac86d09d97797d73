-- Known values.
use Rattle.std.proofs.Common.{◌≡◌, [], ◌∷◌, true, false, Some, None, replicate, refl, ◌++◌}
use Rattle.rvm_mem.specs.Bytes.{load, replaced, slice, store}
use Rattle.rvm_mem.specs.Pages.{bits, byte_pages, count, first, has, mark_all, union, unmark, window}

flags_are_bits : bits (true ∷ false ∷ true ∷ true ∷ []) ≡ 13
unfolding bits
flags_are_bits = refl

-- page 64 and page 66 of 67 pages
some_pages_of_the_last_word : bits (window 64 (replicate 64 false ++ true ∷ false ∷ true ∷ [])) ≡ 5
unfolding bits
some_pages_of_the_last_word = refl

lowest_page : first (false ∷ true ∷ true ∷ []) ≡ Some 1
lowest_page = refl

no_page : first (false ∷ false ∷ []) ≡ None
no_page = refl

two_pages : count (false ∷ true ∷ true ∷ []) ≡ 2
two_pages = refl

past_the_end : has 2 (true ∷ true ∷ []) ≡ false
past_the_end = refl

both_sets : union (true ∷ false ∷ true ∷ []) (true ∷ true ∷ false ∷ []) ≡ true ∷ true ∷ true ∷ []
unfolding union
both_sets = refl

lowest_byte_first : load 4 1 (9 ∷ 4 ∷ 3 ∷ 2 ∷ 1 ∷ 9 ∷ []) ≡ 0x01020304
lowest_byte_first = refl

half_word_is_stored : store 2 1 0x0102 (9 ∷ 9 ∷ 9 ∷ 9 ∷ []) ≡ 9 ∷ 2 ∷ 1 ∷ 9 ∷ []
half_word_is_stored = refl

bytes_are_replaced : replaced 1 (5 ∷ 6 ∷ []) (9 ∷ 9 ∷ 9 ∷ 9 ∷ []) ≡ 9 ∷ 5 ∷ 6 ∷ 9 ∷ []
bytes_are_replaced = refl

two_bytes : slice 2 1 (1 ∷ 2 ∷ 3 ∷ 4 ∷ []) ≡ 2 ∷ 3 ∷ []
two_bytes = refl

bytes_in_two_pages : byte_pages 4095 2 ≡ 0 ∷ 1 ∷ []
unfolding byte_pages
bytes_in_two_pages = refl

pages_are_marked : mark_all (2 ∷ 0 ∷ []) (false ∷ false ∷ false ∷ []) ≡ true ∷ false ∷ true ∷ []
pages_are_marked = refl

page_is_removed : unmark 1 (true ∷ true ∷ []) ≡ true ∷ false ∷ []
page_is_removed = refl
