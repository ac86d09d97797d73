use Rattle.std.proofs.Common.{◌≡◌, ◌∙◌, ◌+◌, ◌-◌, ◌∷◌, ◌++◌, length, drop, get_or, ap, sym, subst, arith}
use Rattle.std.proofs.lemmas.List.{drop_more}
use Rattle.rvm_hart.specs.declared.outcome.Stepped.TheVariants.{Retired}
use Rattle.rvm_recorder.specs.declared.left.Left.TheInside.{Inside}
use Rattle.rvm_recorder.proofs.InRounds.{rounds_length}
use Rattle.rvm_recorder.proofs.Spans.{drop_past, entry_next, step_next}
use Rattle.rvm_recorder.proofs.left.Left.next.Goals as goal
use Rattle.rvm_recorder.proofs.left.Left.next.Goals.{in-Entry+else-self-eq0, in-Rounds+else-self-len, in-Steps+else-self-steps}
use Rattle.rvm_recorder.specs.Entries.{silent}
use Rattle.rvm_recorder.specs.Items.{all_of, entries_at, rounds_of, steps_in_turn}
use Rattle.rvm_recorder.specs.Told.{told_entry}
use Rattle.rvm_recorder.proofs.StepRuns.{steps_length}
use Rattle.rvm_message.specs.declared.step.StepReply.TheVariants.{Stepped}
use Rattle.rvm_message.specs.Exchanges.{step_of_hart}
use Rattle.rvm_message.specs.Steps.{reply_to_step}

pub returns-then-self-steps : goal.returns-then-self-steps
returns-then-self-steps c =
    let l = c.loop-self.self-inside in
    let s = c.in-Steps.steps in
    let x = get_or l.items.now l.passed c.index-self-self.result in
    let rest = all_of (drop (l.passed + 1) l.items.now) in
    let first : x ≡ steps_in_turn s.turn s.harts s.count = sym c.look.ensures ∙ ap entries_at c.in-Steps.is in
    let split : all_of (drop l.passed l.items.now) ≡ steps_in_turn s.turn s.harts s.count ++ rest =
    ap all_of (drop_more l.items.now l.passed c.index-self-self.result c.loop-self-test.true)
    ∙ ap (λ z. z ++ rest) first in
    sym c.loop-self.invariant ∙ ap (drop l.skipped) split ∙ step_next s.turn s.harts s.count l.skipped rest c.if-self-steps.true
    ∙ (λ i. silent (step_of_hart (sym c.hart_behind-hart.ensures i)) (reply_to_step (Stepped Retired)) ∷ drop (l.skipped + 1) (sym split i))

pub returns-then-self-len : goal.returns-then-self-len
returns-then-self-len c =
    let l = c.loop-self.self-inside in
    let r = c.in-Rounds.rounds in
    let x = get_or l.items.now l.passed c.index-self-self.result in
    let rest = all_of (drop (l.passed + 1) l.items.now) in
    let first : x ≡ rounds_of r = sym c.look.ensures ∙ ap entries_at c.in-Rounds.is in
    let split : all_of (drop l.passed l.items.now) ≡ rounds_of r ++ rest =
    ap all_of (drop_more l.items.now l.passed c.index-self-self.result c.loop-self-test.true)
    ∙ ap (λ z. z ++ rest) first in
    sym c.loop-self.invariant ∙ ap (drop l.skipped) split
    ∙ entry_next (rounds_of r) rest l.skipped (told_entry c.told_in-told.result) c.told_in-told.ensures
    ∙ ap (λ z. told_entry c.told_in-told.result ∷ drop (l.skipped + 1) z) (sym split)

pub loop-self-preserved : goal.loop-self-preserved
loop-self-preserved c =
    let l = c.loop-self.self-inside in
    let x = get_or l.items.now l.passed c.index-self-self.result in
    let rest = all_of (drop (l.passed + 1) l.items.now) in
    let split : all_of (drop l.passed l.items.now) ≡ x ++ rest =
    ap all_of (drop_more l.items.now l.passed c.index-self-self.result c.loop-self-test.true) in
    let so : drop l.skipped (x ++ rest) ≡ c.args.self.now = ap (drop l.skipped) (sym split) ∙ c.loop-self.invariant in
    (elim c.match-look.branch [
      | in-Entry+else-self-eq0 w ↦
          let first : length x ≡ 1 = ap length (sym c.look.ensures ∙ ap entries_at w.in-Entry.is) in
          let past = drop_past x rest l.skipped (omega (arith, first, w.if-self-eq0.false)) in
          subst (λ (s : Inside). drop s.skipped (all_of (drop (s.passed + 1) s.items.now)) ≡ c.args.self.now) (sym w.self-inside-is)
          (ap (λ n. drop (l.skipped - n) rest) (sym first) ∙ sym past ∙ so)
      | in-Steps+else-self-steps w ↦
          let s = w.in-Steps.steps in
          let first : length x ≡ s.count = ap length (sym c.look.ensures ∙ ap entries_at w.in-Steps.is) ∙ steps_length s.turn s.harts s.count in
          let past = drop_past x rest l.skipped (omega (arith, first, w.if-self-steps.false)) in
          subst (λ (s : Inside). drop s.skipped (all_of (drop (s.passed + 1) s.items.now)) ≡ c.args.self.now) (sym w.self-inside-is)
          (ap (λ n. drop (l.skipped - n) rest) (sym first) ∙ sym past ∙ so)
      | in-Rounds+else-self-len w ↦
          let r = w.in-Rounds.rounds in
          let first : length x ≡ w.len-in-Rounds.result = ap length (sym c.look.ensures ∙ ap entries_at w.in-Rounds.is)
          ∙ rounds_length r.turn r.harts r.steps r.drain r.count ∙ sym w.len-in-Rounds.ensures in
          let past = drop_past x rest l.skipped (omega (arith, first, w.if-self-len.false, w.len.ensures, w.len-in-Rounds.ensures)) in
          subst (λ (s : Inside). drop s.skipped (all_of (drop (s.passed + 1) s.items.now)) ≡ c.args.self.now) (sym w.self-inside-is)
          (ap (λ n. drop (l.skipped - n) rest) (sym first) ∙ sym past ∙ so)
    ])
