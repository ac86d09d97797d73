use Rattle.std.proofs.Common.{ℕ, ◌-◌, length, refl, ap, ◌∙◌, subst}
use Rattle.std.specs.List.{list_any}
use Rattle.rvm_board.specs.Guest.{GuestState}
use Rattle.rvm_board.specs.Computing.{Compute}
use Rattle.rvm_board.proofs.Striding.{on_guest}
use Rattle.rvm_board.proofs.debugged.Debugged.straight_rounds.Goals as goal

pub returns-clause-computes : goal.returns-clause-computes
returns-clause-computes g c =
    let k : ℕ = c.args.count - c.run_rounds.result.left in
    let old : GuestState = record {
      guest = record { board = c.self.inside.board.plain; breakpoints = c.self.inside.breakpoints; stopped = c.self.inside.stopped.items };
      dirty = c.self.inside.board.dirty;
    } in
    let new : GuestState = record {
      guest = record { board = c.run_rounds.new.self.plain; breakpoints = c.self.inside.breakpoints; stopped = c.self.inside.stopped.items };
      dirty = c.run_rounds.new.self.dirty;
    } in
    subst (λ (s : GuestState). Compute (length s.guest.board.harts) k c.args.first s new) c.self.view_is
    (on_guest k c.args.first old new (ap (λ (s : GuestState). s.guest.breakpoints) c.self.view_is ∙ c.requires.breakpoints) (ap (λ (s : GuestState). list_any (λ flag. flag) s.guest.stopped) c.self.view_is ∙ c.requires.stopped) c.self.invariant refl refl c.run_rounds.ensures.computes)
