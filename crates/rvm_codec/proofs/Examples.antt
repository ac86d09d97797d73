-- Known values.
use Rattle.std.proofs.Common.{◌≡◌, [], ◌∷◌, Some, None, true, false, refl}
use Rattle.rvm_codec.specs.Numbers.{number_at, rise_from, within}
use Rattle.rvm_codec.specs.Codec.{any, bytes_at, counted_bytes, flag, number, optional, read_each, times}
use Rattle.rvm_codec.specs.Format.{alone}

the_lowest_byte_is_first : (any 4).write 0x01020304 ≡ 4 ∷ 3 ∷ 2 ∷ 1 ∷ []
the_lowest_byte_is_first = refl

a_number_and_what_is_behind : (any 2).read (0x34 ∷ 0x12 ∷ 7 ∷ []) ≡ Some (0x1234, 7 ∷ [])
unfolding number_at
a_number_and_what_is_behind = refl

too_few_bytes : (any 4).read (1 ∷ 2 ∷ 3 ∷ []) ≡ None
unfolding number_at
too_few_bytes = refl

two_is_no_flag : flag.read (2 ∷ []) ≡ None
unfolding number_at
two_is_no_flag = refl

a_value_that_is_missing_is_0 : (optional (any 1) (λ n. true)).read (0 ∷ 9 ∷ []) ≡ None
unfolding number_at
a_value_that_is_missing_is_0 = refl

a_byte_too_many : (alone (any 1)).read (1 ∷ 2 ∷ []) ≡ None
unfolding number_at
a_byte_too_many = refl

equal_numbers_do_not_rise : rise_from 0 (3 ∷ 3 ∷ []) ≡ false
equal_numbers_do_not_rise = refl

numbers_rise : rise_from 0 (3 ∷ 4 ∷ []) ≡ true
numbers_rise = refl

the_highest_is_within : (number 1 (within 2 3)).read (3 ∷ 9 ∷ []) ≡ Some (3, 9 ∷ [])
unfolding number_at
the_highest_is_within = refl

one_below_is_not_within : (number 1 (within 2 3)).read (1 ∷ 9 ∷ []) ≡ None
unfolding number_at
one_below_is_not_within = refl

all_bytes_that_there_are : bytes_at 2 (1 ∷ 2 ∷ []) ≡ Some (1 ∷ 2 ∷ [], [])
all_bytes_that_there_are = refl

two_numbers : (times 2 (any 2)).read (1 ∷ 0 ∷ 0 ∷ 1 ∷ 7 ∷ []) ≡ Some (1 ∷ 256 ∷ [], 7 ∷ [])
unfolding number_at read_each
two_numbers = refl

as_many_bytes_as_counted : (counted_bytes 1 (within 0 2)).read (2 ∷ 5 ∷ 6 ∷ 7 ∷ []) ≡ Some (5 ∷ 6 ∷ [], 7 ∷ [])
unfolding number_at
as_many_bytes_as_counted = refl

more_than_may_be_counted : (counted_bytes 1 (within 0 2)).read (3 ∷ 5 ∷ 6 ∷ 7 ∷ []) ≡ None
unfolding number_at
more_than_may_be_counted = refl

a_flag_is_a_byte : flag.write true ≡ 1 ∷ []
a_flag_is_a_byte = refl
