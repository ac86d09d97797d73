-- The laws in each state of a run: its first events are a run themselves.
use Rattle.std.proofs.Common.{ℕ, List, subst}
use Rattle.rvm_protocol.specs.Course.{FramesAreTrue, NeverMoves, RunsNeverMove, RunsNeverMoveFromAnyWorld, RunsTellTheirPast}
use Rattle.rvm_protocol.specs.FewCopies.{CopiesAreTold}
use Rattle.rvm_protocol.specs.FrameCauses.{FramesFollowTheirCauses}
use Rattle.rvm_protocol.specs.FrameContents.{Carries}
use Rattle.rvm_protocol.specs.Guest.{Guest, IsGuest}
use Rattle.rvm_protocol.specs.Told.{Told, at_start, told}
use Rattle.rvm_protocol.specs.World.{World, Event, history, mode_at, new_world, run}
use Rattle.rvm_protocol.proofs.Bounds.{Bounded, few, new_bound, run_bound}
use Rattle.rvm_protocol.proofs.CausesOfRuns.{follow_law}
use Rattle.rvm_protocol.proofs.Contents.{carry_at}
use Rattle.rvm_protocol.proofs.CopiesTold.{told_law}
use Rattle.rvm_protocol.proofs.NoStalePages.{stale_at}
use Rattle.rvm_protocol.proofs.OneGuestHolds.{one_guest, shown_sound, told_guest}
use Rattle.rvm_protocol.proofs.Runs.{SoundAt, new_sound, run_sound}

module _ {S P E A B : Type 0} (m : Guest S P E A B) (laws : IsGuest m) where
  true_frames : (w : World S P B) (t : Told S) (events : List (Event E)) → SoundAt m laws w t
      → ((x : ℕ) → Bounded m laws (w.hosts x).mode)
      → FramesAreTrue m t (run m w events) (history m w events)
  true_frames w t events start bound =
      let past = history m w events in
      let s = run_sound m laws events w t start in
      record {
        carries = λ ev x e a means made.
            subst (λ z. Carries m z a.frame) (told_guest m laws past t)
            (carry_at m laws (run m w events) (told m t past) s ev x e a means made);
        fresh = stale_at m laws (run m w events) (told m t past) s;
        few = λ x. few m laws (mode_at m (run m w events) x) (run_bound m laws events w bound x);
      }

  never_moves : (w : World S P B) (t : Told S) (events : List (Event E)) → SoundAt m laws w t
      → ((x : ℕ) → Bounded m laws (w.hosts x).mode) → NeverMoves m t w events
  never_moves w t events s bound =
      record {
        guest = λ before after parts. one_guest m laws w t before s;
        frames = λ before after parts. true_frames w t before s bound;
      }

  pub course_law : RunsNeverMove m
  unfolding RunsNeverMove
  course_law = λ g version origin count limits events v.
      never_moves (new_world m version origin g count limits) (at_start origin g) events
      (new_sound m laws version origin g count limits v) (new_bound m laws origin g)

  pub course_law_from_any_world : RunsNeverMoveFromAnyWorld m
  unfolding RunsNeverMoveFromAnyWorld
  course_law_from_any_world = λ g version origin count limits before events t v h.
      let new = new_world m version origin g count limits in
      never_moves (run m new before) t events
      (shown_sound m laws (run m new before) (told m (at_start origin g) (history m new before)) t
      (run_sound m laws before new (at_start origin g) (new_sound m laws version origin g count limits v)) h)
      (run_bound m laws before new (new_bound m laws origin g))

  pub past_law : RunsTellTheirPast m
  unfolding RunsTellTheirPast FramesFollowTheirCauses CopiesAreTold
  past_law = λ g version origin count limits events v before after parts.
      record {
        causes = λ a sent. follow_law m laws g version origin count limits before a v sent;
        copies = λ x. told_law m g version origin count limits before x;
      }
