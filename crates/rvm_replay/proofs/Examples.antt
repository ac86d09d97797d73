-- Charts, worked out.
use Rattle.std.proofs.Common.{◌≡◌, List, [], ◌∷◌, ◌++◌, codes, refl}
use Rattle.rvm_board.specs.declared.event.BoardEvent.TheVariants.{Drain, Step}
use Rattle.rvm_message.specs.declared.event.Command.TheVariants.{Board, Copy, Resend}
use Rattle.rvm_core.specs.declared.event.Event.{Event}
use Rattle.rvm_core.specs.declared.event.Event.TheVariants.{At, Deliver}
use Rattle.rvm_replay.specs.Charts.{after_all, all_drawn, bar_title, box_text, copies_title, mark_at, rest_drawn, start}

-- host 0 is asked for two turns, and for a copy after each; then host 1 is asked for a turn
abbrev one_move : List Event
one_move =
    At 0 (Board (Step 0)) ∷ At 0 Copy ∷ At 0 (Board (Step 1)) ∷ At 0 (Board (Drain 256)) ∷ At 0 Copy ∷ Deliver 3
    ∷ At 1 (Board (Step 0)) ∷ []

-- with the turn of host 1 the bar of host 0 ends, and its copies, of which the first came before turn 1
pub a_move_ends_a_bar : all_drawn start one_move
    ≡ box_text 0 2 16 16 ++ bar_title 0 2 ++ (box_text 1 2 8 8 ++ copies_title 2) ++ []
a_move_ends_a_bar = refl

-- after it there is the bar of host 1, and nothing of copies
pub a_bar_is_left : rest_drawn (after_all start one_move) ≡ box_text 2 3 56 16 ++ bar_title 2 3 ++ []
a_bar_is_left = refl

-- what was sent again is marked, at the turn before which that was asked
pub a_mark_has_its_turn : all_drawn start (At 0 (Board (Step 0)) ∷ At 0 Resend ∷ [])
    ≡ mark_at 1 4 (codes "#aa3377") (codes "resend") ++ []
a_mark_has_its_turn = refl
