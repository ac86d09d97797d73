use Rattle.std.proofs.Common.{rules, ◌≡◌, ◌+◌, ◌∙◌, ap, sym, subst, arith}
use Rattle.rvm_recorder.specs.Items.{replies_of_all}
use Rattle.rvm_recorder.proofs.Slices.{IsGoing, all_made, run_ends, run_goes_on}
use Rattle.rvm_recorder.proofs.recorded.Recorded.record_steps.Goals as goal

pub returns-then-ends_steps : goal.returns-then-ends_steps
returns-then-ends_steps g c =
    let run = c.record_run-run in
    let at : c.from.result + c.from-in-loop-made.result ≡ c.args.turn + c.loop-made.made = omega (arith, c.from.ensures, c.from-in-loop-made.ensures) in
    run_ends c.args.self.now c.loop-made.self run.new.self c.args.turn c.args.harts c.loop-made.made (c.from.result + c.from-in-loop-made.result) c.args.most
    c.loop-made.replies.items c.push_reserved.new.self.items run.result c.loop-made.invariant.going c.push_reserved.ensures.items
    at run.ensures.recorded (sym c.ends_steps.ensures ∙ search rules) (omega (arith, run.ensures.few, c.loop-made-test.true))

pub loop-made-preserved : goal.loop-made-preserved
loop-made-preserved g c =
    let run = c.record_run-run in
    let so = c.loop-made.invariant in
    let at : c.from.result + c.from-in-loop-made.result ≡ c.args.turn + c.loop-made.made = omega (arith, c.from.ensures, c.from-in-loop-made.ensures) in
    let made = c.count-made.ensures in
    record {
      going = subst (λ k. IsGoing c.args.self.now c.args.turn c.args.harts k (replies_of_all c.push_reserved.new.self.items) run.new.self)
          (ap (λ k. c.loop-made.made + k) (sym made))
          (run_goes_on c.args.self.now c.loop-made.self run.new.self c.args.turn c.args.harts c.loop-made.made (c.from.result + c.from-in-loop-made.result)
          c.loop-made.replies.items c.push_reserved.new.self.items run.result so.going c.push_reserved.ensures.items
          at run.ensures.recorded (sym c.ends_steps.ensures ∙ search rules));
      few = omega (arith, run.ensures.few, c.loop-made-test.true, made);
      runs = omega (arith, run.ensures.some, so.runs, made, c.push_reserved.ensures.len);
      room = omega (arith, so.room, c.push_reserved.ensures.capacity);
    }

pub returns : goal.returns
returns g c =
    let so = c.loop-made.invariant in
    all_made c.args.self.now c.loop-made.self c.args.turn c.args.harts c.loop-made.made c.args.most _ so.going
    (omega (arith, so.few, c.loop-made-test.false)) c.requires.some
