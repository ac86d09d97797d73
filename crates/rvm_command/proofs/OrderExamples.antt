-- Numbers that are drawn.
use Rattle.std.proofs.Common.{◌≡◌, refl}
use Rattle.rvm_command.specs.Order.{number_drawn}

-- the numbers that are published for SplitMix64 with the seed 1234567
first_number : number_drawn 1234567 0 ≡ 6457827717110365317
unfolding number_drawn
first_number = refl

second_number : number_drawn 1234567 1 ≡ 3203168211198807973
unfolding number_drawn
second_number = refl

third_number : number_drawn 1234567 2 ≡ 9817491932198370423
unfolding number_drawn
third_number = refl

-- and with the seed 0
first_of_none : number_drawn 0 0 ≡ 0xe220a8397b1dcdaf
unfolding number_drawn
first_of_none = refl
