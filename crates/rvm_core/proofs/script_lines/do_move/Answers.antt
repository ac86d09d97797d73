use Rattle.std.proofs.Common.{subst}
use Rattle.std.specs.Io.KnownBytes.{Appends}
use Rattle.rvm_core.specs.Worlds.{world_of}
use Rattle.rvm_core.specs.Runs.{standing}
use Rattle.rvm_core.proofs.Faults.{link_failed, memory_ran_out}
use Rattle.rvm_core.proofs.Moving.{moved_as}
use Rattle.rvm_core.specs.WorldScript.{moved}
use Rattle.rvm_core.proofs.script_lines.do_move.Goals as goal

pub returns : goal.returns
returns g c = λ t.
    let m =
    moved_as c.in_ok-driven.driven (world_of c.args.world.now) (world_of c.drive_move.new.world) c.args.from c.args.to
    c.args.policy t c.reached.ensures c.in_ok-driven.ensures.ends
    in (
      m.world,
      subst (Appends (g.W.Write.contents c.args.writer.now) (g.W.Write.contents c.write_driven.new.writer)) m.text
          c.in_ok-write_driven.ensures,
    )

pub returns-in_err-write_driven : goal.returns-in_err-write_driven
returns-in_err-write_driven g c = λ t.
    link_failed c.from_residual-in_err-write_driven.result
    (moved c.args.from c.args.to c.args.policy (standing (world_of c.args.world.now) t)) _
    (world_of c.drive_move.new.world) (g.W.Write.contents c.args.writer.now) (g.W.Write.contents c.write_driven.new.writer)
    c.from_residual-in_err-write_driven.ensures.1
    (moved_as c.in_ok-driven.driven (world_of c.args.world.now) (world_of c.drive_move.new.world) c.args.from c.args.to
    c.args.policy t c.reached.ensures c.in_ok-driven.ensures.ends).world

pub returns-in_err-driven : goal.returns-in_err-driven
returns-in_err-driven g c = λ t.
    memory_ran_out c.from_residual.result
    (moved c.args.from c.args.to c.args.policy (standing (world_of c.args.world.now) t)) _
    (world_of c.drive_move.new.world) (g.W.Write.contents c.args.writer.now) c.from_residual.ensures.1
    c.in_err-driven.ensures.err
