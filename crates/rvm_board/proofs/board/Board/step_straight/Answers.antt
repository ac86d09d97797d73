use Rattle.std.proofs.Common.{◌<◌, length, ap, sym, ◌∙◌, arith, subst}
use Rattle.std.proofs.lemmas.List.{get_or_default}
use Rattle.rvm_hart.specs.Machine.{Machine}
use Rattle.rvm_hart.specs.Step.{step}
use Rattle.rvm_board.specs.Board.{Board, BoardState, IsBoard, new_hart, with_machine, stepped}
use Rattle.rvm_board.proofs.Boards.{step_is_board}
use Rattle.rvm_board.proofs.board.Board.step_straight.Goals as goal

pub invariant_of-self : goal.invariant_of-self
invariant_of-self g c =
    let b : Board = record { harts = c.self.inside.harts.items; shared = c.self.inside.bus.shared } in
    let inside : c.args.hart < length b.harts = omega (arith, ap (λ (v : BoardState). length v.plain.harts) c.self.view_is) in
    let stepping = c.index_mut-stepping.ensures.value ∙ get_or_default b.harts c.args.hart c.index_mut-stepping.result.now (new_hart 0 0) inside in
    let after : Board = (stepped c.args.hart b).board in
    let left =
    ap (λ (m : Machine). with_machine c.args.hart m b)
    (c.step_straight.ensures.machine ∙ ap (λ hart. (step (record { hart = hart; shared = b.shared })).machine) stepping) in
    subst IsBoard (sym left) (step_is_board b c.args.hart c.self.invariant inside)
