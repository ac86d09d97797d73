use Rattle.std.proofs.Common.{◌≡◌, ◌∙◌, ◌-◌, ◌<◌, [], ◌∷◌, ◌++◌, List, length, length-append, None, sym, ap, subst, arith}
use Rattle.rvm_recorder.specs.Entries.{PlainEntry, silent}
use Rattle.rvm_recorder.specs.History.{History, IsKept, Recording, with_entries}
use Rattle.rvm_recorder.specs.Items.{all_of}
use Rattle.rvm_recorder.proofs.StepRuns.{all_push}
use Rattle.rvm_recorder.proofs.Replays.{replays, still_kept}
use Rattle.rvm_recorder.proofs.recorded.Recorded.record_step.Given.{Over}
use Rattle.rvm_recorder.proofs.recorded.Recorded.record_step.Goals as goal
use Rattle.rvm_message.specs.declared.event.HostEvent.{HostEvent}
use Rattle.rvm_message.specs.declared.reply.HostReply.{HostReply}
use Rattle.rvm_message.specs.Exchanges.{step_of_hart}
use Rattle.rvm_message.specs.Steps.{reply_to_step}

module _ (g : Over) (c : goal.After-journal-3-1 g) where
  abbrev before : History
  before =
      let j = c.journal.inside in
      record { opening = j.opening.value; entries = all_of j.items.items; reserved = j.reserved }

  abbrev event : HostEvent
  event = step_of_hart c.args.hart

  abbrev reply : HostReply
  reply = reply_to_step c.step-reply.result

  kept : IsKept c.self.inside.host before c.self.inside.capacity
  kept = subst (λ h. IsKept c.self.inside.host h c.self.inside.capacity) (sym c.journal.view_is) c.self.invariant

  there_is_room : 0 < c.journal.inside.reserved
  there_is_room =
      let journal = ap (λ (h : History). h.reserved) c.journal.view_is in
      let self = ap (λ (r : Recording). r.journal.reserved) c.self.view_is in
      omega (arith, journal, self, c.requires)

  new_is : all_of c.push_reserved.new.self.items ≡ before.entries ++ silent event reply ∷ []
  new_is =
      ap all_of c.push_reserved.ensures.items ∙ all_push c.journal.inside.items.items c.of_entry.result
      ∙ ap (λ (xs : List PlainEntry). before.entries ++ xs) (c.of_entry.ensures ∙ ap (λ (x : PlainEntry). x ∷ []) c.of_step.ensures)

pub invariant_of-journal : goal.invariant_of-journal
invariant_of-journal g c = (
  replays c.self.inside.host c.step-reply.new.self (before g c) c.self.inside.capacity (event g c) (reply g c) None (kept g c) c.step-reply.ensures (all_of c.push_reserved.new.self.items) (new_is g c)
      0 tt c.journal.invariant.0,
  c.journal.invariant.1,
  omega arith,
  omega arith,
  omega (arith, c.journal.invariant.4, ap length (new_is g c), length-append (before g c).entries (silent (event g c) (reply g c) ∷ [])),
)

pub invariant_of-self : goal.invariant_of-self
invariant_of-self g c =
    still_kept c.self.inside.host c.step-reply.new.self (before g c) c.self.inside.capacity (event g c) (reply g c) None (kept g c) c.step-reply.ensures (all_of c.push_reserved.new.self.items) (new_is g c)
    (c.journal.inside.reserved - 1) (omega arith) (let f = (kept g c).fits in let h = there_is_room g c in omega (arith, f, h))

pub returns : goal.returns
returns g c =
    let capacity = c.self.inside.capacity in
    let xs = silent (event g c) (reply g c) ∷ [] in
    let is : record { journal = before g c; capacity = capacity } ≡ c.args.self.now =
    ap (λ (j : History). record { journal = j; capacity = capacity }) c.journal.view_is ∙ c.self.view_is in
    (λ i. record { journal = record { opening = c.journal.inside.opening.value; entries = new_is g c i; reserved = c.journal.inside.reserved - 1 }; capacity = capacity })
    ∙ ap (λ (r : Recording). with_entries r xs (r.journal.reserved - 1)) is
