use Rattle.std.proofs.Common.{rules, ap, subst, sym}
use Rattle.std.specs.Io.Buffered.{reader_buffer, reader_capacity, reader_inner, reader_remaining}
use Rattle.rvm_host_command.proofs.Answered.{SoFar, all_told, cut_short, fresh, grows_not, grows_on, none_yet, one_more}
use Rattle.rvm_host_command.specs.declared.tell_command.Told.TheVariants.{Done}
use Rattle.rvm_host_command.proofs.tell_command.tell_lines.Goals as goal

pub loop-line-init : goal.loop-line-init
loop-line-init g c =
    let lines = g.I.Read.remaining c.args.lines.now in
    let stream = g.S.Read.remaining c.args.stream in
    let r = c.in_ok-answers.answers in record {
      so_far =
          subst (λ o. SoFar lines lines stream o Done)
          (sym (fresh (reader_capacity r) (reader_buffer r) (g.S.Read.remaining (reader_inner r)) stream c.in_ok-answers.ensures.capacity
          c.in_ok-answers.ensures.empty (ap g.S.Read.remaining c.in_ok-answers.ensures.inner)))
          (none_yet lines stream);
      shown = grows_not (g.O.Write.contents c.args.output.now);
    }

pub returns-in-End : goal.returns-in-End
returns-in-End g c =
    all_told (g.I.Read.remaining c.args.lines.now) (g.I.Read.remaining c.loop-line.lines) (g.S.Read.remaining c.args.stream)
    (reader_remaining g.S.Read.remaining c.loop-line.answers) (g.O.Write.contents c.args.output.now)
    (g.O.Write.contents c.loop-line.output) c.loop-line.told c.loop-line.invariant.so_far (search rules)

pub returns-in-TooLong : goal.returns-in-TooLong
returns-in-TooLong g c =
    cut_short (g.I.Read.remaining c.args.lines.now) (g.I.Read.remaining c.loop-line.lines) (g.S.Read.remaining c.args.stream)
    (reader_remaining g.S.Read.remaining c.loop-line.answers) (g.O.Write.contents c.args.output.now)
    (g.O.Write.contents c.loop-line.output) (g.O.Write.contents c.refuse_line.new.output) c.loop-line.told
    c.loop-line.invariant.so_far (search rules) c.loop-line.invariant.shown (search rules)

pub loop-line-preserved : goal.loop-line-preserved
loop-line-preserved g c =
    let up = one_more (g.I.Read.remaining c.args.lines.now) (g.I.Read.remaining c.loop-line.lines)
    (g.I.Read.remaining c.read_line.new.lines) (g.S.Read.remaining c.args.stream)
    (reader_remaining g.S.Read.remaining c.loop-line.answers) (reader_remaining g.S.Read.remaining c.read_answer.new.answers)
    c.loop-line.told c.in_ok-answer.answer c.loop-line.invariant.so_far (search rules) c.in_ok-answer.ensures.says in
    let shown = grows_on (g.O.Write.contents c.args.output.now) (g.O.Write.contents c.loop-line.output)
    (g.O.Write.contents c.read_answer.new.output) c.loop-line.invariant.shown c.in_ok-answer.ensures.shown in
    search (up, shown, rules)
