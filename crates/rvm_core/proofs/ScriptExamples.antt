-- Scripts that make no event, the target of moves that name none, and lines that take memory.
use Rattle.std.proofs.Common.{◌≡◌, ℕ, List, [], Option, None, Some, codes, refl, arith}
use Rattle.rvm_board.specs.Guest.{Guest}
use Rattle.rvm_guest.specs.TheGuest.{board}
use Rattle.rvm_protocol.specs.Told.{at_start}
use Rattle.rvm_protocol.specs.World.{new_world}
use Rattle.rvm_debug.specs.Lines.{command_of}
use Rattle.rvm_debug.specs.Words.{lines, lines_from, words_from}
use Rattle.rvm_core.specs.Worlds.{BoardWorld}
use Rattle.rvm_core.specs.WorldLines.{world_command_of, world_line_of}
use Rattle.rvm_core.specs.Runs.{AsksMemoryIn, IsSpent, standing}
use Rattle.rvm_core.specs.WorldScript.{Standing, host_in, target, world_script_of}
use Rattle.rvm_core.proofs.Spending.{spent_before_the_end}

-- two hosts, the first of which has the guest
start : Guest → Standing
start g = standing (new_world board 1 0 g 2 (λ x. 1)) (at_start 0 g)

of_two_hosts_the_other_is_the_target : target 0 None ≡ 1
of_two_hosts_the_other_is_the_target = refl

and_back : target 1 None ≡ 0
and_back = refl

the_first_host_has_the_guest : (g : Guest) → host_in None (start g) ≡ 0
unfolding start
the_first_host_has_the_guest g = refl

comments_and_empty_lines_do_nothing : (g : Guest)
    → world_script_of (lines (codes "# a\n\n")) 1 (start g) ≡ record { standing = start g; text = []; end = None }
unfolding start world_script_of world_line_of lines_from words_from
comments_and_empty_lines_do_nothing g = refl

-- there is no host C if there are two hosts
the_third_line_is_none : (g : Guest)
    → world_script_of (lines (codes "# a\n\nC copy\n")) 1 (start g)
    ≡ record { standing = start g; text = []; end = Some 3 }
unfolding start world_script_of world_line_of lines_from words_from
the_third_line_is_none g = refl

a_comment_asks_for_no_memory : (g : Guest) → AsksMemoryIn (codes "# a") (start g) → ⊥
unfolding start world_line_of words_from
a_comment_asks_for_no_memory g asks = asks

a_step_of_the_guest_asks_for_none : (g : Guest) → AsksMemoryIn (codes "B step 0") (start g) → ⊥
unfolding start world_line_of words_from world_command_of command_of
a_step_of_the_guest_asks_for_none g asks = asks

a_frame_that_comes_asks_for_memory : (g : Guest) → AsksMemoryIn (codes "deliver 0") (start g)
unfolding start world_line_of words_from
a_frame_that_comes_asks_for_memory g = tt

-- the first line is not in the grammar, so memory does not run out in the second
nothing_runs_out_behind_a_line_that_is_none : (g : Guest) (new : BoardWorld) (before after : Option (List ℕ))
    → IsSpent 2 (lines (codes "C copy\ncopy\n")) (start g) new before after → ⊥
unfolding start world_script_of world_line_of lines_from words_from
nothing_runs_out_behind_a_line_that_is_none g new before after spent =
    let far = spent_before_the_end 2 1 (lines (codes "C copy\ncopy\n")) (start g) new before after spent refl in
    absurd (omega (arith, far))
