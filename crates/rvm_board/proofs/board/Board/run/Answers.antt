use Rattle.std.proofs.Common.{◌<◌, ◌-◌, length, ap, sym, ◌∙◌, arith, subst}
use Rattle.std.proofs.lemmas.List.{get_or_default}
use Rattle.rvm_hart.specs.Machine.{Machine}
use Rattle.rvm_hart.specs.Straight.{steps}
use Rattle.rvm_hart.proofs.Made.{steps_keep}
use Rattle.rvm_board.specs.Board.{Board, BoardState, IsBoard, new_hart, machine_at, with_machine}
use Rattle.rvm_board.proofs.Boards.{machine_is_board}
use Rattle.rvm_board.proofs.board.Board.run.Goals as goal

pub invariant_of-self : goal.invariant_of-self
invariant_of-self g c =
    let b : Board = record { harts = c.self.inside.harts.items; shared = c.self.inside.bus.shared } in
    let n = c.args.count - c.run.result.left in
    let inside : c.args.hart < length b.harts = omega (arith, ap (λ (v : BoardState). length v.plain.harts) c.self.view_is) in
    let stepping = c.index_mut-stepping.ensures.value ∙ get_or_default b.harts c.args.hart c.index_mut-stepping.result.now (new_hart 0 0) inside in
    let left =
    ap (λ (m : Machine). with_machine c.args.hart m b)
    (c.run.ensures.machine ∙ ap (λ hart. (steps n (record { hart = hart; shared = b.shared })).machine) stepping) in
    subst IsBoard (sym left) (machine_is_board b c.args.hart (steps n (machine_at c.args.hart b)).machine (steps_keep n (machine_at c.args.hart b)) c.self.invariant inside)
