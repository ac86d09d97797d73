-- Lines of a world's script, and texts of its replies, by the grammar.
use Rattle.std.proofs.Common.{◌≡◌, None, Some, codes, refl}
use Rattle.std.specs.Fmt.{digits}
use Rattle.rvm_board.specs.declared.event.BoardReply.TheVariants as answer
use Rattle.rvm_protocol.specs.Replies as reply
use Rattle.rvm_debug.specs.declared.line.Line.TheVariants as guest
use Rattle.rvm_debug.specs.Lines.{command_of}
use Rattle.rvm_debug.specs.Words.{words_from}
use Rattle.rvm_core.specs.Replies.{guest_text, move_text, steps_text}
use Rattle.rvm_core.specs.WorldLines.{world_command_of, world_line_of}
use Rattle.rvm_core.specs.declared.world_line.Asked.TheVariants as asked
use Rattle.rvm_core.specs.declared.world_line.WorldLine.TheVariants as line

-- a letter names the host, and if there are two hosts, the target may be left out
a_move_begins_at_a_host : world_line_of 2 (codes "A begin 3 1 3")
    ≡ Some (line.Host (Some 0) (asked.Begin None (record { max_rounds = 3; min_left = 1; factor = 3 })))
unfolding world_line_of words_from world_command_of
a_move_begins_at_a_host = refl

-- the policy may be left out too
a_policy_may_be_left_out : world_line_of 2 (codes "begin")
    ≡ Some (line.Host None (asked.Begin None (record { max_rounds = 29; min_left = 50; factor = 3 })))
unfolding world_line_of words_from world_command_of
a_policy_may_be_left_out = refl

a_target_may_stand_alone : world_line_of 8 (codes "H begin G")
    ≡ Some (line.Host (Some 7) (asked.Begin (Some 6) (record { max_rounds = 29; min_left = 50; factor = 3 })))
unfolding world_line_of words_from world_command_of
a_target_may_stand_alone = refl

of_three_hosts_one_is_named : world_line_of 3 (codes "move C 3 1 3")
    ≡ Some (line.Host None (asked.Move (Some 2) (record { max_rounds = 3; min_left = 1; factor = 3 })))
unfolding world_line_of words_from world_command_of
of_three_hosts_one_is_named = refl

of_three_hosts_one_has_to_be_named : world_line_of 3 (codes "move 3 1 3") ≡ None
unfolding world_line_of words_from world_command_of
of_three_hosts_one_has_to_be_named = refl

two_numbers_are_no_policy : world_line_of 2 (codes "move 3 1") ≡ None
unfolding world_line_of words_from world_command_of
two_numbers_are_no_policy = refl

a_host_that_is_not_there_is_no_line : world_line_of 2 (codes "C move") ≡ None
unfolding world_line_of words_from
a_host_that_is_not_there_is_no_line = refl

a_letter_alone_is_no_line : world_line_of 2 (codes "A") ≡ None
unfolding world_line_of words_from
a_letter_alone_is_no_line = refl

no_comment_stands_behind_a_letter : world_line_of 2 (codes "A # x") ≡ None
unfolding world_line_of words_from world_command_of command_of
no_comment_stands_behind_a_letter = refl

a_comment_asks_nothing : world_line_of 2 (codes "# A") ≡ Some line.Empty
unfolding world_line_of words_from
a_comment_asks_nothing = refl

a_frame_comes_to_its_own_host : world_line_of 2 (codes "B deliver 3") ≡ None
unfolding world_line_of words_from world_command_of command_of
a_frame_comes_to_its_own_host = refl

a_place_may_be_hexadecimal : world_line_of 2 (codes "deliver 0x10") ≡ Some (line.Deliver 16)
unfolding world_line_of words_from
a_place_may_be_hexadecimal = refl

a_line_of_the_guest_is_one : world_line_of 2 (codes "step 0")
    ≡ Some (line.Host None (asked.Guest (guest.Steps 0 1)))
unfolding world_line_of words_from world_command_of command_of
a_line_of_the_guest_is_one = refl

-- a reply, and the place of its frame
a_round_and_its_frame : move_text (reply.RoundEnded 1 3 1 1) (Some 5)
    ≡ codes "round 1 sent 3 skipped 1 left 1 -> 5\n"
unfolding digits
a_round_and_its_frame = refl

a_refusal_has_its_number : move_text (reply.Refused reply.Ignored) None ≡ codes "refused 27 Ignored\n"
unfolding digits
a_refusal_has_its_number = refl

a_part_and_its_frame : move_text (reply.PartSent 0 1) (Some 7) ≡ codes "part 0 of 1 sent -> 7\n"
unfolding digits
a_part_and_its_frame = refl

a_limit_is_told : move_text (reply.MoveDeclined 3) None ≡ codes "move declined 3\n"
unfolding digits
a_limit_is_told = refl

a_limit_of_the_target_is_told : move_text (reply.Declined 3) (Some 1) ≡ codes "declined 3 -> 1\n"
unfolding digits
a_limit_of_the_target_is_told = refl

a_part_that_is_kept : move_text (reply.Kept 1 2) None ≡ codes "kept 1 of 2\n"
unfolding digits
a_part_that_is_kept = refl

a_move_and_its_frame : move_text (reply.Begun 1) (Some 0) ≡ codes "begun 1 -> 0\n"
unfolding digits
a_move_and_its_frame = refl

steps_of_the_guest_are_told : steps_text 0 5 (reply.Answered answer.Retired) ≡ codes "step 0 5: retired\n"
unfolding digits
steps_of_the_guest_are_told = refl

steps_of_no_guest_are_refused : steps_text 0 1 (reply.Refused reply.NotHere) ≡ codes "refused 22 NotHere\n"
unfolding digits
steps_of_no_guest_are_refused = refl

bytes_of_no_guest_are_refused : guest_text (Some 0) (reply.Refused reply.NotHere)
    ≡ codes "refused 22 NotHere\n"
unfolding digits
bytes_of_no_guest_are_refused = refl
