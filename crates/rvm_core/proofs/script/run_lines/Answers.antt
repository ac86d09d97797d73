use Rattle.std.proofs.Common.{◌+◌, refl, arith}
use Rattle.rvm_debug.proofs.Reading.{lines_of_none}
use Rattle.rvm_debug.specs.Words.{lines}
use Rattle.rvm_core.specs.Worlds.{world_of}
use Rattle.rvm_core.specs.Runs.{standing}
use Rattle.rvm_core.proofs.Running.{line_done, line_refused, lines_none, lines_over}
use Rattle.rvm_core.proofs.script.run_lines.Goals as goal

pub loop-rest-init : goal.loop-rest-init
loop-rest-init g c =
    record {
      count = omega arith;
      lines = λ t shown.
          lines_none (lines c.args.script.now) (standing (world_of c.args.world.now) t)
          (g.W.Write.contents c.args.writer.now);
    }

pub loop-rest-preserved : goal.loop-rest-preserved
loop-rest-preserved g c =
    record {
      count = omega arith;
      lines = λ t shown.
          line_done (c.loop-rest.number + 1 + 1) (c.loop-rest.number + 1) (lines c.split_line.result.1.now)
          c.split_line.result.0.now (world_of c.run_line.new.world) (g.W.Write.contents c.run_line.new.writer)
          c.in_default.field-0 (c.loop-rest.invariant.lines t shown) c.reached.ensures shown c.split_line.ensures.lines
          refl c.in_default.ensures.run;
    }

pub returns-in-Err-clause-run : goal.returns-in-Err-clause-run
returns-in-Err-clause-run g c = λ t shown.
    line_refused (lines c.args.script.now) (lines c.loop-rest.rest.now) (lines c.split_line.result.1.now)
    c.split_line.result.0.now (c.loop-rest.number + 1) (c.loop-rest.number + 1)
    (standing (world_of c.args.world.now) t) (world_of c.loop-rest.world) (world_of c.run_line.new.world)
    (g.W.Write.contents c.args.writer.now) (g.W.Write.contents c.loop-rest.writer)
    (g.W.Write.contents c.run_line.new.writer) c.in-Err.error (c.loop-rest.invariant.lines t shown) c.reached.ensures
    shown refl c.split_line.ensures.lines c.in-Err.ensures.run

pub returns-clause-run : goal.returns-clause-run
returns-clause-run g c = λ t shown.
    lines_over (lines c.args.script.now) (lines c.loop-rest.rest.now) (c.loop-rest.number + 1)
    (standing (world_of c.args.world.now) t) (world_of c.loop-rest.world)
    (g.W.Write.contents c.args.writer.now) (g.W.Write.contents c.loop-rest.writer) tt
    (lines_of_none c.loop-rest.rest.now c.is_empty.result c.is_empty.ensures c.loop-rest-test.false)
    (c.loop-rest.invariant.lines t shown)
