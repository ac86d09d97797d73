use Rattle.std.proofs.Common.{◌≡◌, ◌∙◌, [], ◌∷◌, ◌++◌, length, length-append, refl, sym, ap, subst, arith, List, None}
use Rattle.rvm_host.specs.Hosts.{Steps}
use Rattle.rvm_recorder.specs.Entries.{PlainEntry, silent}
use Rattle.rvm_recorder.specs.History.{History, IsKept, IsRecorded}
use Rattle.rvm_recorder.specs.Items.{all_of}
use Rattle.rvm_recorder.proofs.Replays.{is_recorded, replays, still_kept}
use Rattle.rvm_recorder.proofs.recorded.Recorded.record_dry.Given.{Over}
use Rattle.rvm_recorder.proofs.recorded.Recorded.record_dry.Goals as goal
use Rattle.rvm_message.specs.Events.{event_of}
use Rattle.rvm_message.specs.Exchanges.{PlainExchange, dry_exchange}

module _ (g : Over) (c : goal.After-journal-3-1 g) where
  abbrev before : History
  before =
      let j = c.journal.inside in
      record { opening = j.opening.value; entries = all_of j.items.items; reserved = j.reserved }

  abbrev x : PlainExchange
  x = dry_exchange c.args.count

  kept : IsKept c.self.inside.host before c.self.inside.capacity
  kept = subst (λ h. IsKept c.self.inside.host h c.self.inside.capacity) (sym c.journal.view_is) c.self.invariant

  steps : Steps c.self.inside.host (event_of x.event) (x.reply, None) c.self.inside.host
  steps = c.if-not-finds_nothing.ensures refl

  new_is : all_of c.push_dry.new.items.items ≡ before.entries ++ silent x.event x.reply ∷ []
  new_is = c.push_dry.ensures.items ∙ ap (λ (xs : List (List PlainEntry)). all_of xs ++ silent x.event x.reply ∷ []) c.reserve.ensures.items

pub invariant_of-journal-2 : goal.invariant_of-journal-2
invariant_of-journal-2 g c = (
  replays c.self.inside.host c.self.inside.host (before g c) c.self.inside.capacity (x g c).event (x g c).reply None (kept g c) (steps g c) (all_of c.push_dry.new.items.items) (new_is g c)
      0 tt c.journal.invariant.0,
  c.journal.invariant.1,
  omega (arith, ap length c.reserve.ensures.items, c.push_dry.ensures.few, c.push_dry.ensures.capacity),
  omega arith,
  omega (arith, c.journal.invariant.4, ap length (new_is g c), length-append (before g c).entries (silent (x g c).event (x g c).reply ∷ [])),
)

pub invariant_of-self-2 : goal.invariant_of-self-2
invariant_of-self-2 g c =
    still_kept c.self.inside.host c.self.inside.host (before g c) c.self.inside.capacity (x g c).event (x g c).reply None (kept g c) (steps g c) (all_of c.push_dry.new.items.items) (new_is g c)
    c.saturating_sub-left.result (omega arith) (omega arith)

pub returns-clause-recorded : goal.returns-clause-recorded
returns-clause-recorded g c =
    let capacity = c.self.inside.capacity in
    let new = all_of c.push_dry.new.items.items in
    let left = c.saturating_sub-left.result in
    subst (λ old. IsRecorded old (x g c).event (c.journal.inside.count, (x g c).reply, None)
    (record { journal = record { opening = c.journal.inside.opening.value; entries = new; reserved = left }; capacity = capacity }))
    (ap (λ (j : History). record { journal = j; capacity = capacity }) c.journal.view_is ∙ c.self.view_is)
    (is_recorded c.self.inside.host c.self.inside.host (before g c) capacity (x g c).event (x g c).reply None (kept g c) (steps g c) new (new_is g c)
    c.journal.inside.count left (omega arith) (omega arith) (omega arith))
