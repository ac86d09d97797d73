use Rattle.std.proofs.Common.{rules}
use Rattle.rvm_board.proofs.Rows.{rest_reserves, row_goes}
use Rattle.rvm_board.proofs.rounds.+row_of_harts.Goals as goal

pub row_of_harts-requires : goal.row_of_harts-requires
row_of_harts-requires g t c κs within = (
  search rules,
  (
    search rules,
    (
      search rules,
      rest_reserves c.in-Some.hart.now c.row_straight.new.self c.args.harts.now c.in-Some.others.now c.args.bus.now c.row_straight.new.bus
          c.in-Some.ensures.cases.0 c.requires.reservations (c.row_straight.ensures.goes c.if-not-row_straight.false) (c.row_straight.ensures.stays c.if-not-row_straight.false),
    ),
  ),
)

pub returns-clause-turns : goal.returns-clause-turns
returns-clause-turns g t c =
    row_goes c.args.harts.now c.in-Some.others.now c.row_of_harts.new.harts c.in-Some.hart.now c.row_straight.new.self c.row_of_harts.result c.args.bus.now c.row_straight.new.bus c.row_of_harts.new.bus
    c.in-Some.ensures.cases.0 c.row_of_harts.ensures.behind (c.row_straight.ensures.goes c.if-not-row_straight.false) (c.row_straight.ensures.stays c.if-not-row_straight.false) c.row_of_harts.ensures.turns
