use Rattle.std.proofs.Common.{◌≡◌, rules, true}
use Rattle.rvm_program.specs.Ended.{written}
use Rattle.rvm_program.proofs.Explained.{ended_so, failed_so}
use Rattle.rvm_program.proofs.do_line.Goals as goal

pub returns-in_default : goal.returns-in_default
returns-in_default g c =
    let files = g.F.NamedFiles.bytes_of c.args.files.now in
    let created = g.F.NamedFiles.created_of c.args.files.now in
    let script = g.I.Read.remaining c.args.input.now in
    let output = written (g.O.Write.contents c.args.output.now) (g.O.Write.contents c.do_explained.new.output) in
    let errors = written (g.E.Write.contents c.args.errors.now) (g.E.Write.contents c.do_explained.new.errors) in
    let explain : c.args.line.now.explain ≡ true = search rules in
    record {
      status = c.do_explained.ensures.status;
      lost = c.do_explained.ensures.lost;
      passed = c.do_explained.ensures.passed;
      others = λ more.
          ended_so files created c.args.line.now c.do_explained.result script output errors explain
          (c.do_explained.ensures.others more);
      done = λ none.
          ended_so files created c.args.line.now 0 script output errors explain (c.do_explained.ensures.done none);
      refused = λ one.
          failed_so files created c.args.line.now script output errors explain (c.do_explained.ensures.refused one);
    }
