use Rattle.std.proofs.Common.{rules, ◌∙◌, subst, sym}
use Rattle.rvm_host_command.proofs.Answered.{grows_on, kept, one_gone, says_so}
use Rattle.rvm_host_command.specs.Answered.{GoesOn}
use Rattle.rvm_host_command.proofs.tell_command.read_answer.Goals as goal

pub returns-in-Some-clause-says : goal.returns-in-Some-clause-says
returns-in-Some-clause-says g c =
    let up = says_so (g.I.Read.remaining c.args.answers.now) (g.I.Read.remaining c.loop-line.answers)
    (g.I.Read.remaining c.read_until.new.self) c.clear.new.self.items c.read_until.new.buf.items c.in-Some.told c.loop-line.invariant.gone
    c.clear.ensures.items c.in_ok-read_until.ensures.bytes c.in_ok-read_until.ensures.rest
    (sym c.deref.ensures.value ∙ c.in-Some.ensures.says) in
    search (up, rules)

pub returns-in-Some-clause-shown : goal.returns-in-Some-clause-shown
returns-in-Some-clause-shown g c =
    grows_on (g.O.Write.contents c.args.output.now) (g.O.Write.contents c.loop-line.output) (g.O.Write.contents c.flush.new.self)
    c.loop-line.invariant.shown
    (kept (g.O.Write.contents c.loop-line.output) (g.O.Write.contents c.flush.new.self) (search rules))

pub loop-line-preserved : goal.loop-line-preserved
loop-line-preserved g c =
    let goes : GoesOn c.deref.result.now = search rules in record {
      gone =
          one_gone (g.I.Read.remaining c.args.answers.now) (g.I.Read.remaining c.loop-line.answers)
          (g.I.Read.remaining c.read_until.new.self) c.clear.new.self.items c.read_until.new.buf.items c.loop-line.invariant.gone
          c.clear.ensures.items c.in_ok-read_until.ensures.bytes c.in_ok-read_until.ensures.rest
          (subst GoesOn c.deref.ensures.value goes);
      shown =
          grows_on (g.O.Write.contents c.args.output.now) (g.O.Write.contents c.loop-line.output)
          (g.O.Write.contents c.show_line.new.output) c.loop-line.invariant.shown (search rules);
    }
