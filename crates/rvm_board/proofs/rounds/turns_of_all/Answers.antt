use Rattle.std.proofs.Common.{ℕ, ◌-◌, length, arith}
use Rattle.rvm_board.specs.Rounds.{board_of, guest_on}
use Rattle.rvm_board.proofs.Computes.{compute_none}
use Rattle.rvm_board.proofs.Striding.{counted_is_board, then_counted}
use Rattle.rvm_board.proofs.rounds.turns_of_all.Goals as goal

-- a halted board
pub returns-then-is_some-clause-computes : goal.returns-then-is_some-clause-computes
returns-then-is_some-clause-computes g c =
    compute_none (length c.args.harts.now) (c.args.count - c.args.count) c.args.first (guest_on (board_of c.args.harts.now c.args.bus.now)) (omega arith)

-- all turns that were made
pub returns-clause-computes : goal.returns-clause-computes
returns-clause-computes g c =
    let k : ℕ = c.quiet_turns-quiet.result - c.rows_in_turn-rows.result.left in
    then_counted c.args.first k (c.args.count - (c.args.count - k)) (record { plain = record { harts = c.args.harts.now; shared = c.args.bus.now.shared }; dirty = c.args.bus.now.dirty })
    c.rows_in_turn-rows.new.harts c.count_turns.new.harts c.rows_in_turn-rows.new.bus c.count_turns.new.bus
    c.rows_in_turn-rows.ensures.computes c.count_turns.ensures.harts c.count_turns.ensures.bus (omega (arith, c.quiet_turns-quiet.ensures.within, c.min.ensures))

pub returns-clause-board : goal.returns-clause-board
returns-clause-board g c =
    let k : ℕ = c.quiet_turns-quiet.result - c.rows_in_turn-rows.result.left in
    counted_is_board c.args.first k c.rows_in_turn-rows.new.harts c.count_turns.new.harts c.rows_in_turn-rows.new.bus c.count_turns.new.bus c.rows_in_turn-rows.ensures.board c.count_turns.ensures.harts c.count_turns.ensures.bus
