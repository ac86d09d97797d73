use Rattle.std.proofs.Common.{rules, ◌≡◌, ◌∙◌, ℕ, List, [], ap, sym, subst}
use Rattle.std.specs.Io.KnownBytes.{Appends}
use Rattle.rvm_recorder.specs.Items.{entries_at}
use Rattle.rvm_replay.specs.Consoles.{console_of}
use Rattle.rvm_replay.proofs.Showing.{none_in_steps, none_in_rounds}
use Rattle.rvm_replay.proofs.console_of_journal.write_item.Goals as goal

pub returns-in-Steps : goal.returns-in-Steps
returns-in-Steps g c =
    let s = c.in-Steps._steps in
    let at = g.O.Write.contents c.args.output.now in
    let text : console_of c.args.item.now ≡ [] =
    ap console_of (sym c.look.ensures ∙ ap entries_at c.in-Steps.is) ∙ none_in_steps s.turn s.harts s.count in
    let none : Appends at at [] = search rules in
    subst (λ (t : List ℕ). Appends at at t) (sym text) none

pub returns-in-Rounds : goal.returns-in-Rounds
returns-in-Rounds g c =
    let r = c.in-Rounds._rounds in
    let at = g.O.Write.contents c.args.output.now in
    let text : console_of c.args.item.now ≡ [] =
    ap console_of (sym c.look.ensures ∙ ap entries_at c.in-Rounds.is) ∙ none_in_rounds r.count r.turn r.harts r.steps r.drain in
    let none : Appends at at [] = search rules in
    subst (λ (t : List ℕ). Appends at at t) (sym text) none
