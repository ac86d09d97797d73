-- The host that has the guest, in worlds of boards.
use Rattle.std.proofs.Common.{◌≡◌, ℕ, Some, refl, sym, ap, ◌∙◌, subst}
use Rattle.rvm_board.specs.declared.event.BoardEvent.{BoardEvent}
use Rattle.rvm_board.specs.Guest.{Guest as BoardGuest}
use Rattle.rvm_guest.proofs.TheGuest.{board_laws}
use Rattle.rvm_guest.specs.TheGuest.{board}
use Rattle.rvm_message.specs.Events.{BoardHostEvent}
use Rattle.rvm_protocol.proofs.OneGuestHolds.{the_law}
use Rattle.rvm_protocol.proofs.Runs.{SoundAt, event_allowed, new_sound, run_sound, step_sound}
use Rattle.rvm_protocol.specs.Commands.{Came, Do}
use Rattle.rvm_protocol.specs.Frames.{plain}
use Rattle.rvm_protocol.specs.OneGuest.{AlwaysOneGuest}
use Rattle.rvm_protocol.specs.Replies.{Committed}
use Rattle.rvm_protocol.specs.Shown.{Shown}
use Rattle.rvm_protocol.specs.Told.{Told, at_start, reply_current, told, told_reply}
use Rattle.rvm_protocol.specs.World.{Event, history, meaning, new_world, result_at, world_at}
use Rattle.rvm_core.specs.Worlds.{BoardWorld, IsReached, current_after}
use Rattle.rvm_core.proofs.NeverMoving.{allowed}
use Rattle.rvm_protocol.proofs.OneCurrent.{came_lands, moved, obeyed, one_current}

-- WORLDS OF BOARDS

-- what the replies of a world that was reached told, and its modes show
record Known (w : BoardWorld) : Type 0 where
  pub t : Told BoardGuest
  pub sound : SoundAt board board_laws w t
  pub shown : Shown w.hosts t

known : (w : BoardWorld) → IsReached w → Known w
unfolding AlwaysOneGuest
known w r =
    let valid = allowed r.start r.valid in
    let first = new_world board w.version 0 r.start w.count r.limits in
    subst Known (sym r.reached)
    (record {
      t = told board (at_start 0 r.start) (history board first r.before);
      sound = run_sound board board_laws r.before first (at_start 0 r.start)
          (new_sound board board_laws w.version 0 r.start w.count r.limits valid);
      shown = (the_law board board_laws r.start w.version 0 w.count r.limits r.before valid).shown;
    })

pub same_current : (w : BoardWorld) → IsReached w → (t t' : Told BoardGuest) → Shown w.hosts t → Shown w.hosts t'
    → t.current ≡ t'.current
same_current w r t t' h h' =
    let k = known w r in
    one_current board board_laws w k.t t k.sound h ∙ sym (one_current board board_laws w k.t t' k.sound h')

same_move : (r : _) (y : ℕ) (f : _) (c : ℕ) → moved r y c ≡ current_after (Came y f) r c
same_move (Committed n) y f c = refl
same_move r y f c = refl

told_here : (w : BoardWorld) (t : Told BoardGuest) → SoundAt board board_laws w t → (x : ℕ) (e : BoardHostEvent)
    → reply_current (result_at board w x e).reply t.targets t.current
    ≡ current_after e (result_at board w x e).reply t.current
told_here w t s x (Do k) = obeyed board board_laws w.version x w.count k (w.hosts x).mode t.targets t.current
told_here w t s x (Came y f) =
    came_lands board board_laws w t s x y (plain board f)
    ∙ same_move (result_at board w x (Came y f)).reply y f t.current

-- the current host after an event
pub moves_on : (w new : BoardWorld) (ev : Event BoardEvent) (x : ℕ) (e : BoardHostEvent) (current : ℕ) → IsReached w
    → ((t : Told BoardGuest) → Shown w.hosts t → current ≡ t.current) → meaning board w ev ≡ Some (x, e)
    → new ≡ world_at board w x e → (t : Told BoardGuest) → Shown new.hosts t
    → current_after e (result_at board w x e).reply current ≡ t.current
moves_on w new ev x e current r is means turned t shown =
    let k = known w r in
    let answer = (result_at board w x e).reply in
    ap (current_after e answer) (is k.t k.shown) ∙ sym (told_here w k.t k.sound x e)
    ∙ sym (one_current board board_laws (world_at board w x e) (told_reply board x e answer k.t) t
    (step_sound board board_laws w x e k.t (event_allowed board board_laws w ev x e means) k.sound)
    (subst (λ (z : BoardWorld). Shown z.hosts t) turned shown))
