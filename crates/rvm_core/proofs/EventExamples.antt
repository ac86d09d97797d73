-- Lines of events, worked out by hand.
use Rattle.std.proofs.Common.{◌≡◌, codes, refl}
use Rattle.std.specs.Fmt.{digits}
use Rattle.hex.specs.Hex.{encode_with}
use Rattle.rvm_board.specs.declared.event.BoardEvent.TheVariants as asked
use Rattle.rvm_message.specs.declared.event.Command.TheVariants as command
use Rattle.rvm_core.specs.declared.event.Event.TheVariants as event
use Rattle.rvm_core.specs.EventLines.{event_line}

of_two_hosts_a_move_goes_to_the_other : event_line 2 (event.At 0 (command.Begin 1 (record { max_rounds = 29; min_left = 50; factor = 3 })))
    ≡ codes "A begin 29 50 3\n"
unfolding digits
of_two_hosts_a_move_goes_to_the_other = refl

a_move_to_its_own_host_names_it : event_line 2 (event.At 1 (command.Begin 1 (record { max_rounds = 3; min_left = 1; factor = 3 })))
    ≡ codes "B begin B 3 1 3\n"
unfolding digits
a_move_to_its_own_host_names_it = refl

of_three_hosts_a_move_names_its_target : event_line 3 (event.At 0 (command.Begin 1 (record { max_rounds = 29; min_left = 50; factor = 3 })))
    ≡ codes "A begin B 29 50 3\n"
unfolding digits
of_three_hosts_a_move_names_its_target = refl

a_byte_has_two_digits : event_line 3 (event.At 2 (command.Board (asked.Input 0x0A))) ≡ codes "C input 0a\n"
unfolding encode_with
a_byte_has_two_digits = refl

register_32_is_pc : event_line 2 (event.At 0 (command.Board (asked.PokeReg 1 32 7))) ≡ codes "A reg 1 pc 7\n"
unfolding digits
register_32_is_pc = refl

a_frame_is_delivered_by_its_place : event_line 2 (event.Deliver 4) ≡ codes "deliver 4\n"
unfolding digits
a_frame_is_delivered_by_its_place = refl
