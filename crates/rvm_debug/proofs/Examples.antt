-- Words and lines of scripts, and texts of answers, by the grammar.
use Rattle.std.proofs.Common.{◌≡◌, [], ◌∷◌, None, Some, codes, replicate, refl}
use Rattle.hex.specs.Hex.{encode_with}
use Rattle.rvm_dis.specs.Pieces.{hex_digits}
use Rattle.rvm_debug.specs.declared.line.Line.TheVariants as line
use Rattle.rvm_debug.specs.Answers.{output_text, row_text}
use Rattle.rvm_debug.specs.HexBytes.{bytes_in, hex_of}
use Rattle.rvm_debug.specs.Lines.{command_of, line_of, numeral}
use Rattle.rvm_debug.specs.Words.{lines, lines_from, words_from}

-- numbers are decimal, also with leading zeros, or hexadecimal after 0x with a small x
leading_zeros_are_allowed : numeral (codes "007") ≡ Some 7
leading_zeros_are_allowed = refl

hexadecimal_is_behind_0x : numeral (codes "0x1F") ≡ Some 31
hexadecimal_is_behind_0x = refl

binary_is_none : numeral (codes "0b1") ≡ None
binary_is_none = refl

-- the last line may lack its line feed
two_lines : lines (codes "a\nb") ≡ codes "a" ∷ codes "b" ∷ []
unfolding lines_from
two_lines = refl

an_empty_line_is_one : lines (codes "\na\n") ≡ [] ∷ codes "a" ∷ []
unfolding lines_from
an_empty_line_is_one = refl

-- a step is one, if its number is not said
one_step : line_of (codes "step 0") ≡ Some (line.Steps 0 1)
unfolding line_of words_from command_of
one_step = refl

a_carriage_return_ends_a_line : line_of (codes "step 1 2\r") ≡ Some (line.Steps 1 2)
unfolding line_of words_from command_of
a_carriage_return_ends_a_line = refl

no_steps_are_no_line : line_of (codes "step 0 0") ≡ None
unfolding line_of words_from command_of
no_steps_are_no_line = refl

a_comment_answers_nothing : line_of (codes "  #step 0") ≡ Some line.Empty
unfolding line_of words_from
a_comment_answers_nothing = refl

too_many_words_are_no_line : line_of (codes "drain 1 2") ≡ None
unfolding line_of words_from command_of
too_many_words_are_no_line = refl

capital_digits_are_hexadecimal : line_of (codes "input 4A") ≡ Some (line.Input (0x4A ∷ []))
unfolding line_of words_from command_of hex_of bytes_in
capital_digits_are_hexadecimal = refl

an_odd_number_of_digits_is_none : line_of (codes "input 4A4") ≡ None
unfolding line_of words_from command_of hex_of bytes_in
an_odd_number_of_digits_is_none = refl

-- the second row of 18 bytes has two
the_second_row : row_text 0x80000000 (replicate 18 0xAB) 1 ≡ codes "80000010: abab\n"
unfolding hex_digits encode_with
the_second_row = refl

no_bytes_are_told_as_0 : output_text [] ≡ codes "out 0\n"
no_bytes_are_told_as_0 = refl
