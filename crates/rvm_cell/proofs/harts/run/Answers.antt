use Rattle.std.proofs.Common.{rules, ◌≡◌, ◌≢◌, ◌+◌, ◌-◌, ◌%◌, ◌≤◌, [], false, arith}
use Rattle.std.specs.Prelude.{IfErr}
use Rattle.rvm_cell.specs.declared.end.WorkEnd.TheVariants.{LinkFault}
use Rattle.rvm_cell.specs.Calls.{Written}
use Rattle.rvm_cell.proofs.Calls.{all_spent, drain_failed, goes_after, goes_on, goes_on_drained, has_halted, last_drain_failed, slice_failed}
use Rattle.rvm_cell.proofs.harts.run.Goals as goal

pub returns-in_err-slice-clause-err : goal.returns-in_err-slice-clause-err
returns-in_err-slice-clause-err g c =
    slice_failed (c.args.pair.now.at_a, c.args.pair.now.at_b)
    (c.loop-turn.pair.at_a, c.loop-turn.pair.at_b) (g.W.Write.contents c.args.writer.now) (g.W.Write.contents c.loop-turn.writer)
    c.args.harts c.loop-turn.turn c.args.steps c.loop-turn.invariant.within c.loop-turn.invariant.come
    c.from_residual.result (c.turns.new.self.at_a, c.turns.new.self.at_b) c.in_err-slice.ensures.err

pub returns-in_err-drain-clause-err : goal.returns-in_err-drain-clause-err
returns-in_err-drain-clause-err g c =
    let room : c.loop-turn.turn + c.in_ok-slice.slice.made ≤ c.args.steps =
    (let a = c.until_drain-n.ensures.within in let b = c.in_ok-slice.ensures.within in omega (arith, a, b)) in
    let short : c.in_ok-slice.slice.made ≤ 64 - c.loop-turn.turn % 64 =
    (let a = c.until_drain-n.ensures.count in let b = c.in_ok-slice.ensures.within in omega (arith, a, b)) in
    let failed : IfErr c.from_residual-in_err-drain.result (λ e. Written (c.turns.new.self.at_a, c.turns.new.self.at_b) (c.drain.new.pair.at_a, c.drain.new.pair.at_b)
    (g.W.Write.contents c.loop-turn.writer) (g.W.Write.contents c.drain.new.writer) (e ≢ LinkFault) [] false) = search rules in
    drain_failed (c.args.pair.now.at_a, c.args.pair.now.at_b)
    (c.loop-turn.pair.at_a, c.loop-turn.pair.at_b) (g.W.Write.contents c.args.writer.now) (g.W.Write.contents c.loop-turn.writer)
    c.args.harts c.loop-turn.turn c.args.steps c.loop-turn.invariant.within c.loop-turn.invariant.come
    (c.turns.new.self.at_a, c.turns.new.self.at_b) c.in_ok-slice.slice.made c.in_ok-slice.slice.then c.in_ok-slice.ensures.some room short c.in_ok-slice.ensures.made
    c.from_residual-in_err-drain.result (c.drain.new.pair.at_a, c.drain.new.pair.at_b) (g.W.Write.contents c.drain.new.writer) failed

pub returns-in-Halted-clause-run : goal.returns-in-Halted-clause-run
returns-in-Halted-clause-run g c =
    let room : c.loop-turn.turn + c.in_ok-slice.slice.made ≤ c.args.steps =
    (let a = c.until_drain-n.ensures.within in let b = c.in_ok-slice.ensures.within in omega (arith, a, b)) in
    let short : c.in_ok-slice.slice.made ≤ 64 - c.loop-turn.turn % 64 =
    (let a = c.until_drain-n.ensures.count in let b = c.in_ok-slice.ensures.within in omega (arith, a, b)) in
    has_halted (c.args.pair.now.at_a, c.args.pair.now.at_b)
    (c.loop-turn.pair.at_a, c.loop-turn.pair.at_b) (g.W.Write.contents c.args.writer.now) (g.W.Write.contents c.loop-turn.writer)
    c.args.harts c.loop-turn.turn c.args.steps c.loop-turn.invariant.within c.loop-turn.invariant.come
    (c.turns.new.self.at_a, c.turns.new.self.at_b) c.in_ok-slice.slice.made c.in_ok-slice.slice.then c.in_ok-slice.ensures.some room short c.in_ok-slice.ensures.made
    c.in-Halted.status (c.drain.new.pair.at_a, c.drain.new.pair.at_b) (g.W.Write.contents c.drain.new.writer) c.in-Halted.is c.in_ok-drain.ensures.written

pub loop-turn-preserved-in-Continue-branch-3 : goal.loop-turn-preserved-in-Continue-branch-3
loop-turn-preserved-in-Continue-branch-3 g c =
    let room : c.loop-turn.turn + c.in_ok-slice.slice.made ≤ c.args.steps =
    (let a = c.until_drain-n.ensures.within in let b = c.in_ok-slice.ensures.within in omega (arith, a, b)) in
    let short : c.in_ok-slice.slice.made ≤ 64 - c.loop-turn.turn % 64 =
    (let a = c.until_drain-n.ensures.count in let b = c.in_ok-slice.ensures.within in omega (arith, a, b)) in
    let drains : (c.loop-turn.turn + c.in_ok-slice.slice.made) % 64 ≡ 0 = omega arith in
    record {
      come = goes_on_drained (c.args.pair.now.at_a, c.args.pair.now.at_b)
          (c.loop-turn.pair.at_a, c.loop-turn.pair.at_b) (g.W.Write.contents c.args.writer.now) (g.W.Write.contents c.loop-turn.writer)
          c.args.harts c.loop-turn.turn c.args.steps c.loop-turn.invariant.within c.loop-turn.invariant.come
          (c.turns.new.self.at_a, c.turns.new.self.at_b) c.in_ok-slice.slice.made c.in_ok-slice.slice.then c.in_ok-slice.ensures.some room short c.in_ok-slice.ensures.made
          (c.drain-then-turn-eq0.new.pair.at_a, c.drain-then-turn-eq0.new.pair.at_b) (g.W.Write.contents c.drain-then-turn-eq0.new.writer) (goes_after c.in_ok-slice.slice.then c.in_default.not-Halted)
          drains c.in_ok-drain-2.ensures.written;
      within = room;
    }

pub returns-in_err-drain-2 : goal.returns-in_err-drain-2
returns-in_err-drain-2 g c =
    let room : c.loop-turn.turn + c.in_ok-slice.slice.made ≤ c.args.steps =
    (let a = c.until_drain-n.ensures.within in let b = c.in_ok-slice.ensures.within in omega (arith, a, b)) in
    let short : c.in_ok-slice.slice.made ≤ 64 - c.loop-turn.turn % 64 =
    (let a = c.until_drain-n.ensures.count in let b = c.in_ok-slice.ensures.within in omega (arith, a, b)) in
    let failed : IfErr c.from_residual-in_err-drain-2.result (λ e. Written (c.turns.new.self.at_a, c.turns.new.self.at_b) (c.drain-then-turn-eq0.new.pair.at_a, c.drain-then-turn-eq0.new.pair.at_b)
    (g.W.Write.contents c.loop-turn.writer) (g.W.Write.contents c.drain-then-turn-eq0.new.writer) (e ≢ LinkFault) [] false) = search rules in
    record {
      run = search rules;
      err = drain_failed (c.args.pair.now.at_a, c.args.pair.now.at_b)
          (c.loop-turn.pair.at_a, c.loop-turn.pair.at_b) (g.W.Write.contents c.args.writer.now) (g.W.Write.contents c.loop-turn.writer)
          c.args.harts c.loop-turn.turn c.args.steps c.loop-turn.invariant.within c.loop-turn.invariant.come
          (c.turns.new.self.at_a, c.turns.new.self.at_b) c.in_ok-slice.slice.made c.in_ok-slice.slice.then c.in_ok-slice.ensures.some room short c.in_ok-slice.ensures.made
          c.from_residual-in_err-drain-2.result (c.drain-then-turn-eq0.new.pair.at_a, c.drain-then-turn-eq0.new.pair.at_b) (g.W.Write.contents c.drain-then-turn-eq0.new.writer) failed;
      fails = search rules;
    }

pub loop-turn-preserved : goal.loop-turn-preserved
loop-turn-preserved g c =
    let room : c.loop-turn.turn + c.in_ok-slice.slice.made ≤ c.args.steps =
    (let a = c.until_drain-n.ensures.within in let b = c.in_ok-slice.ensures.within in omega (arith, a, b)) in
    let short : c.in_ok-slice.slice.made ≤ 64 - c.loop-turn.turn % 64 =
    (let a = c.until_drain-n.ensures.count in let b = c.in_ok-slice.ensures.within in omega (arith, a, b)) in
    let not_yet : (c.loop-turn.turn + c.in_ok-slice.slice.made) % 64 ≢ 0 = omega arith in
    record {
      come = goes_on (c.args.pair.now.at_a, c.args.pair.now.at_b)
          (c.loop-turn.pair.at_a, c.loop-turn.pair.at_b) (g.W.Write.contents c.args.writer.now) (g.W.Write.contents c.loop-turn.writer)
          c.args.harts c.loop-turn.turn c.args.steps c.loop-turn.invariant.within c.loop-turn.invariant.come
          (c.turns.new.self.at_a, c.turns.new.self.at_b) c.in_ok-slice.slice.made c.in_ok-slice.slice.then c.in_ok-slice.ensures.some room short c.in_ok-slice.ensures.made
          (goes_after c.in_ok-slice.slice.then c.in_default.not-Halted) not_yet;
      within = room;
    }

pub returns-in_err-drain-3-clause-err : goal.returns-in_err-drain-3-clause-err
returns-in_err-drain-3-clause-err g c =
    let failed : IfErr c.from_residual-in_err-drain-3.result (λ e. Written (c.loop-turn.pair.at_a, c.loop-turn.pair.at_b) (c.drain-2.new.pair.at_a, c.drain-2.new.pair.at_b)
    (g.W.Write.contents c.loop-turn.writer) (g.W.Write.contents c.drain-2.new.writer) (e ≢ LinkFault) [] false) = search rules in
    last_drain_failed (c.args.pair.now.at_a, c.args.pair.now.at_b)
    (c.loop-turn.pair.at_a, c.loop-turn.pair.at_b) (g.W.Write.contents c.args.writer.now) (g.W.Write.contents c.loop-turn.writer)
    c.args.harts c.loop-turn.turn c.args.steps c.loop-turn.invariant.within c.loop-turn.invariant.come
    c.from_residual-in_err-drain-3.result (c.drain-2.new.pair.at_a, c.drain-2.new.pair.at_b) (g.W.Write.contents c.drain-2.new.writer) failed

pub returns-clause-run : goal.returns-clause-run
returns-clause-run g c =
    all_spent (c.args.pair.now.at_a, c.args.pair.now.at_b)
    (c.loop-turn.pair.at_a, c.loop-turn.pair.at_b) (g.W.Write.contents c.args.writer.now) (g.W.Write.contents c.loop-turn.writer)
    c.args.harts c.loop-turn.turn c.args.steps c.loop-turn.invariant.within c.loop-turn.invariant.come
    (c.drain-2.new.pair.at_a, c.drain-2.new.pair.at_b) (g.W.Write.contents c.drain-2.new.writer) (let done = c.loop-turn-test.false in omega (arith, done)) c.in_ok-drain-3.ensures.written
