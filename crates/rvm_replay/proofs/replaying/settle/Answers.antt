use Rattle.std.proofs.Common.{◌≡◌, ◌∙◌, ◌+◌, ◌++◌, List, ap, arith, subst, sym}
use Rattle.rvm_recorder.specs.Entries.{PlainEntry}
use Rattle.rvm_recorder.specs.History.{History}
use Rattle.rvm_replay.specs.Behind.{IsBehind}
use Rattle.rvm_replay.proofs.Behind.{behind_more}
use Rattle.rvm_replay.proofs.replaying.settle.Goals as goal
use Rattle.rvm_replay.proofs.replaying.settle.Goals.{then-count-gt0+in_ok-observe, else-count-gt0}

pub returns-clause-behind : goal.returns-clause-behind
returns-clause-behind g c = λ o behind.
    let old = c.args.recorded.now in
    let past = c.args.past.now in
    let count = c.args.count.now in
    elim c.if-count-gt0.branch [
      | then-count-gt0+in_ok-observe w ↦
          (let shown = w.items-then-count-gt0.ensures.items ∙ ap (λ (j : History). j.entries) w.journal-then-count-gt0.ensures in
          let more : w.extend.new.self ≡ past ++ old.journal.entries =
          w.extend.ensures ∙ ap (λ (xs : List PlainEntry). past ++ xs) shown in
          let next = behind_more o past w.extend.new.self count (count + w.from.result) old w.reopen.new.self behind
          c.know_answers.ensures more (omega (arith, w.from.ensures, w.count-then-count-gt0.ensures.count)) w.reopen.ensures in
          subst (λ r. IsBehind o c.if-count-gt0.past c.if-count-gt0.count r) (sym w.recorded-is)
          (subst (λ xs. IsBehind o xs c.if-count-gt0.count w.reopen.new.self) (sym w.past-is)
          (subst (λ n. IsBehind o w.extend.new.self n w.reopen.new.self) (sym w.count-is) next)))
      | else-count-gt0 w ↦
          subst (λ r. IsBehind o c.if-count-gt0.past c.if-count-gt0.count r) (sym w.recorded-is)
          (subst (λ xs. IsBehind o xs c.if-count-gt0.count old) (sym w.past-is)
          (subst (λ n. IsBehind o past n old) (sym w.count-is) behind))
    ]
