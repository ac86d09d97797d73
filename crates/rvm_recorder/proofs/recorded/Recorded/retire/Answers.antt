use Rattle.std.proofs.Common.{◌≡◌, ◌∙◌, ◌-◌, ◌≤◌, ◌++◌, length, length-append, ap, sym, subst, arith}
use Rattle.rvm_recorder.specs.History.{History, IsKept, Recording}
use Rattle.rvm_recorder.specs.Items.{all_of, entries_in, run_of, steps_of}
use Rattle.rvm_recorder.specs.Replay.{IsReplay}
use Rattle.rvm_recorder.proofs.StepRuns.{run_length}
use Rattle.rvm_recorder.proofs.Retired.{run_sound}
use Rattle.rvm_recorder.proofs.recorded.Recorded.retire.Goals as goal

pub invariant_of-journal : goal.invariant_of-journal
invariant_of-journal g c =
    let j = c.journal.inside in
    let a = c.args in
    let run = run_of c.retire.result in
    let before : History = record { opening = j.opening.value; entries = all_of j.items.items; reserved = j.reserved } in
    let kept : IsKept c.self.inside.host before c.self.inside.capacity =
    subst (λ h. IsKept c.self.inside.host h c.self.inside.capacity) (sym c.journal.view_is) c.self.invariant in
    let room : a.most ≤ before.reserved =
    (let journal = ap (λ (h : History). h.reserved) c.journal.view_is in
    let self = ap (λ (r : Recording). r.journal.reserved) c.self.view_is in
    omega (arith, journal, self, c.requires.room)) in
    let sound = run_sound c.self.inside.host c.retire.new.self before c.self.inside.capacity a.turn a.harts a.most c.retire.result
    (record { kept = kept; replay = c.journal.invariant.0 }) c.retire.ensures room in
    let items : all_of c.push_run.new.items.items ≡ before.entries ++ entries_in a.turn a.harts run =
    c.push_run.ensures.items ∙ ap (λ r. before.entries ++ entries_in a.turn a.harts r) c.of-made.ensures in
    let many : steps_of c.of-made.result ≡ steps_of run = ap steps_of c.of-made.ensures in (
      subst (IsReplay j.opening.value) (sym items) sound.replay,
      c.journal.invariant.1,
      omega (arith, c.push_run.ensures.few, c.push_run.ensures.capacity, c.journal.invariant.2, c.count-2.ensures),
      omega (arith, c.journal.invariant.3),
      omega (arith, c.journal.invariant.4, c.count.ensures, many, ap length items, length-append before.entries (entries_in a.turn a.harts run), run_length a.turn a.harts run),
    )

pub invariant_of-self : goal.invariant_of-self
invariant_of-self g c =
    let j = c.journal.inside in
    let a = c.args in
    let run = run_of c.retire.result in
    let before : History = record { opening = j.opening.value; entries = all_of j.items.items; reserved = j.reserved } in
    let kept : IsKept c.self.inside.host before c.self.inside.capacity =
    subst (λ h. IsKept c.self.inside.host h c.self.inside.capacity) (sym c.journal.view_is) c.self.invariant in
    let room : a.most ≤ before.reserved =
    (let journal = ap (λ (h : History). h.reserved) c.journal.view_is in
    let self = ap (λ (r : Recording). r.journal.reserved) c.self.view_is in
    omega (arith, journal, self, c.requires.room)) in
    let sound = run_sound c.self.inside.host c.retire.new.self before c.self.inside.capacity a.turn a.harts a.most c.retire.result
    (record { kept = kept; replay = c.journal.invariant.0 }) c.retire.ensures room in
    let items : before.entries ++ entries_in a.turn a.harts run ≡ all_of c.push_run.new.items.items =
    sym (c.push_run.ensures.items ∙ ap (λ r. before.entries ++ entries_in a.turn a.harts r) c.of-made.ensures) in
    let left : j.reserved - steps_of run ≡ j.reserved - c.count-2.result =
    ap (λ n. j.reserved - n) (sym (c.count-2.ensures ∙ ap steps_of c.of-made.ensures)) in
    subst (λ (h : History). IsKept c.retire.new.self h c.self.inside.capacity)
    (λ i. record { opening = j.opening.value; entries = items i; reserved = left i }) sound.kept
