use Rattle.std.proofs.Common.{◌∙◌, arith}
use Rattle.std.proofs.lemmas.List.{get_or_default}
use Rattle.rvm_board.specs.Board.{new_hart}
use Rattle.rvm_board.proofs.Striding.{quiet_more}
use Rattle.rvm_board.proofs.rounds.quiet_turns.Goals as goal

pub loop-hart-preserved : goal.loop-hart-preserved
loop-hart-preserved g c =
    record {
      within = omega (arith, c.quiet_steps-quiet.ensures.within, c.loop-hart.invariant.within);
      quiet = quiet_more c.loop-hart.quiet c.quiet_steps-quiet.result c.loop-hart.hart c.index-harts-hart.result (record { harts = c.args.harts.now; shared = c.args.bus.now.shared }) c.quiet_steps-quiet.ensures.within
          (c.index-harts-hart.is ∙ get_or_default c.args.harts.now c.loop-hart.hart c.index-harts-hart.result (new_hart 0 0) (omega (arith, c.loop-hart-test.true))) c.loop-hart.invariant.quiet c.quiet_steps-quiet.ensures.quiet;
    }
