use Rattle.std.proofs.Common.{sym, subst, arith}
use Rattle.std.specs.Io.KnownBytes.{Appends}
use Rattle.rvm_command.specs.Command.{before_word}
use Rattle.rvm_command.specs.Counting.{number_at}
use Rattle.rvm_command.proofs.Covering.{no_counted_lines}
use Rattle.rvm_command.proofs.Runs.{appends_none}
use Rattle.rvm_command.proofs.coverage.write_segment.Goals as goal

pub returns-then-len-skipped : goal.returns-then-len-skipped
returns-then-len-skipped g c =
    let s = c.args.segment.now in
    subst (Appends (g.O.Write.contents c.args.output.now) (g.O.Write.contents c.args.output.now))
    (sym (no_counted_lines (number_at c.args.counts.now) _ (before_word s.address) s.bytes.items (omega (arith, c.len.ensures, c.if-len-skipped.true)))) (appends_none _)
