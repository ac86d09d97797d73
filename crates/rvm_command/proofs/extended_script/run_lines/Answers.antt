use Rattle.std.proofs.Common.{◌+◌, refl, arith}
use Rattle.rvm_debug.specs.Words.{lines}
use Rattle.rvm_debug.proofs.Reading.{lines_of_none}
use Rattle.rvm_command.specs.ExtendedLines.{extended_line_of}
use Rattle.rvm_command.proofs.Sessions.{lines_none, line_done, line_refused, lines_over}
use Rattle.rvm_command.proofs.extended_script.run_lines.Goals as goal

pub loop-rest-init : goal.loop-rest-init
loop-rest-init g c = record {
  count = omega arith;
  few = omega arith;
  lines = lines_none (lines c.args.script.now) c.args.board.now (g.W.Write.contents c.args.writer.now);
}

pub loop-rest-preserved : goal.loop-rest-preserved
loop-rest-preserved g c = record {
  count = omega arith;
  few = omega (arith, c.in-Ok.ensures.within);
  lines =
      line_done (c.loop-rest.number + 1 + 1) (c.loop-rest.number + 1) c.in-Ok.after (lines c.split_line.result.1.now) c.split_line.result.0.now
      c.run_line.new.board (g.W.Write.contents c.run_line.new.writer)
      (extended_line_of c.split_line.result.0.now) refl c.loop-rest.invariant.lines c.split_line.ensures.lines refl c.in-Ok.ensures.run;
}

pub returns-in-Err-clause-run : goal.returns-in-Err-clause-run
returns-in-Err-clause-run g c =
    line_refused (lines c.args.script.now) (lines c.loop-rest.rest.now) (lines c.split_line.result.1.now)
    c.split_line.result.0.now (c.loop-rest.number + 1) (c.loop-rest.number + 1) c.loop-rest.turns c.args.board.now c.loop-rest.board c.run_line.new.board (g.W.Write.contents c.args.writer.now) (g.W.Write.contents c.loop-rest.writer)
    (g.W.Write.contents c.run_line.new.writer) c.in-Err.error (extended_line_of c.split_line.result.0.now) refl c.loop-rest.invariant.lines refl c.split_line.ensures.lines
    c.in-Err.ensures.run

pub returns-clause-run : goal.returns-clause-run
returns-clause-run g c =
    lines_over (lines c.args.script.now) (lines c.loop-rest.rest.now) (c.loop-rest.number + 1) c.loop-rest.turns c.args.board.now c.loop-rest.board
    (g.W.Write.contents c.args.writer.now) (g.W.Write.contents c.loop-rest.writer) tt
    (lines_of_none c.loop-rest.rest.now c.is_empty.result c.is_empty.ensures c.loop-rest-test.false) c.loop-rest.invariant.lines
