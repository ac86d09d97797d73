use Rattle.std.proofs.Common.{◌≡◌, ◌∙◌, [], ◌∷◌, ◌++◌, length, length-append, sym, ap, subst, arith, List, ℕ}
use Rattle.rvm_host.specs.Bounds.{frame_bound}
use Rattle.rvm_recorder.specs.Entries.{PlainEntry}
use Rattle.rvm_recorder.specs.History.{History, IsKept, IsRecorded}
use Rattle.rvm_recorder.specs.Items.{all_of}
use Rattle.rvm_recorder.proofs.StepRuns.{all_push}
use Rattle.rvm_recorder.proofs.Replays.{entry_of, is_recorded, replays, still_kept}
use Rattle.rvm_recorder.proofs.recorded.Recorded.record_into.Given.{Over}
use Rattle.rvm_recorder.proofs.recorded.Recorded.record_into.Goals as goal
use Rattle.rvm_message.specs.Events.{event_of}

module _ (g : Over) (c : goal.After-journal-3-1 g) where
  abbrev before : History
  before =
      let j = c.journal.inside in
      record { opening = j.opening.value; entries = all_of j.items.items; reserved = j.reserved }

  kept : IsKept c.self.inside.host before c.self.inside.capacity
  kept = subst (λ h. IsKept c.self.inside.host h c.self.inside.capacity) (sym c.journal.view_is) c.self.invariant

  new_is : all_of c.push_reserved.new.self.items
      ≡ before.entries ++ entry_of before.opening.version c.args.event c.in-Ok-apply.reply c.in-Ok-apply.frame ∷ []
  new_is =
      ap all_of (c.push_reserved.ensures.items ∙ ap (λ (xs : List (List PlainEntry)). xs ++ c.of_entry.result ∷ []) c.make_room.ensures.same)
      ∙ all_push c.journal.inside.items.items c.of_entry.result
      ∙ ap (λ (xs : List PlainEntry). before.entries ++ xs) (c.of_entry.ensures
      ∙ ap (λ (x : PlainEntry). x ∷ []) (c.keep-entry.ensures.entry
      ∙ ap (λ v. entry_of v c.args.event c.in-Ok-apply.reply c.in-Ok-apply.frame) c.journal.invariant.1))

  abbrev most : ℕ
  most = frame_bound c.self.inside.host (event_of c.args.event)

pub invariant_of-journal-2 : goal.invariant_of-journal-2
invariant_of-journal-2 g c =
    let a = c.in-Ok-apply in (
      replays c.self.inside.host c.apply.new.self (before g c) c.self.inside.capacity c.args.event a.reply a.frame (kept g c) a.ensures.steps (all_of c.push_reserved.new.self.items) (new_is g c)
          (most g c) a.ensures.sent c.journal.invariant.0,
      c.journal.invariant.1,
      omega (arith, ap length c.make_room.ensures.same),
      omega (arith, c.keep-entry.ensures.rooms),
      omega (arith, c.journal.invariant.4, ap length (new_is g c), length-append (before g c).entries (entry_of (before g c).opening.version c.args.event a.reply a.frame ∷ [])),
    )

pub invariant_of-self-2 : goal.invariant_of-self-2
invariant_of-self-2 g c =
    let a = c.in-Ok-apply in
    still_kept c.self.inside.host c.apply.new.self (before g c) c.self.inside.capacity c.args.event a.reply a.frame (kept g c) a.ensures.steps (all_of c.push_reserved.new.self.items) (new_is g c)
    c.saturating_sub-left.result (omega arith) (omega arith)

pub returns-clause-recorded : goal.returns-clause-recorded
returns-clause-recorded g c =
    let a = c.in-Ok-apply in
    let capacity = c.self.inside.capacity in
    let new = all_of c.push_reserved.new.self.items in
    let left = c.saturating_sub-left.result in
    subst (λ old. IsRecorded old c.args.event (c.journal.inside.count, a.reply, a.frame)
    (record { journal = record { opening = c.journal.inside.opening.value; entries = new; reserved = left }; capacity = capacity }))
    (ap (λ (j : History). record { journal = j; capacity = capacity }) c.journal.view_is ∙ c.self.view_is)
    (is_recorded c.self.inside.host c.apply.new.self (before g c) capacity c.args.event a.reply a.frame (kept g c) a.ensures.steps new (new_is g c)
    c.journal.inside.count left (omega arith) (omega arith) (omega arith))
