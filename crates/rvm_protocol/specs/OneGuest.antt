-- The law of whole runs: the guest is the one that never moves.
use Rattle.std.specs.Prelude.{◌≡◌, ◌≢◌, ℕ, true, false, ◌&&◌, List}
use Rattle.std.specs.declared.option.Option.TheVariants.{Some}
use Rattle.rvm_protocol.specs.Guest.{Guest}
use Rattle.rvm_protocol.specs.Commands.{Board}
use Rattle.rvm_protocol.specs.Replies.{Committed}
use Rattle.rvm_protocol.specs.Modes.{guest_in}
use Rattle.rvm_protocol.specs.World.{World, Event, At, Entry, mode_at, run, history, step, reply_to, new_world}
use Rattle.rvm_protocol.specs.Told.{Told, told, at_start, due}
use Rattle.rvm_protocol.specs.Shown.{Shown}
use Rattle.rvm_protocol.specs.NeverMoving.{is_answer, accepted, answered, fold, fold_answers}

module _ {S P E A B : Type 0} (m : Guest S P E A B) where
  -- the law of one state of a run: t is what is known at the beginning, w the world in that state, and past what was
  -- seen until then
  pub record OneGuest (t : Told S) (w : World S P B) (past : List (Entry P E A B)) : Type 0 where
    -- the guest at the current host, which the replies alone name, is the one that never moves
    pub board : guest_in (mode_at m w (told m t past).current)
        ≡ Some (fold m t.guest (accepted past))
    -- each answer that it gave is the one of that guest
    pub answers : answered past ≡ fold_answers m t.guest (accepted past)
    -- any further event of the guest gets its answer, or the refusal that the replies tell
    pub replies : (x : ℕ) (e : E)
        → reply_to m w (At x (Board e)) ≡ due m w.count (told m t past) x e
    -- no two hosts would answer an event of the guest
    pub one_host : (x y : ℕ) (e f : E) → x ≢ y
        → (is_answer (reply_to m w (At x (Board e)))
        && is_answer (reply_to m w (At y (Board f)))) ≡ false
    -- if the next event commits, the target of that move holds that guest
    pub hands_over : (ev : Event E) (n : ℕ) → reply_to m w ev ≡ Committed n
        → guest_in (mode_at m (step m w ev) ((told m t past).targets n))
        ≡ Some (fold m t.guest (accepted past))
    -- the modes show what the replies tell
    pub shown : Shown w.hosts (told m t past)

  -- the law holds after any events from a new world
  unfoldable pub AlwaysOneGuest : Type 0
  AlwaysOneGuest =
      (g : S) (version origin count : ℕ) (limits : ℕ → ℕ) (events : List (Event E)) → m.valid g ≡ true
      → OneGuest (at_start origin g) (run m (new_world m version origin g count limits) events)
      (history m (new_world m version origin g count limits) events)

  -- the law holds after any events from any world of a run, if t is what that world's modes show
  unfoldable pub OneGuestFromAnyWorld : Type 0
  OneGuestFromAnyWorld =
      (g : S) (version origin count : ℕ) (limits : ℕ → ℕ) (before events : List (Event E)) (t : Told S)
      → m.valid g ≡ true
      → Shown (run m (new_world m version origin g count limits) before).hosts t
      → OneGuest t (run m (run m (new_world m version origin g count limits) before) events)
      (history m (run m (new_world m version origin g count limits) before) events)
