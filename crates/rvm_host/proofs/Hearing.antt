-- A frame as a host hears it.
use Rattle.std.proofs.Common.{◌≡◌, ℕ, true, false, if◌then◌else◌, Option, None, Result, sym, ap, subst}
use Rattle.std.specs.Prelude.{IfOk, OnErr}
use Rattle.std.specs.declared.alloc.AllocError.{AllocError}
use Rattle.rvm_frame.specs.declared.frame.Frame.{Frame}
use Rattle.rvm_guest.specs.TheGuest.{board}
use Rattle.rvm_message.specs.Answers.{Answers, BoardMode, BoardOutcome}
use Rattle.rvm_message.specs.Frames.{BoardFrame, can_come, frame_heard, frame_of, no_frame}
use Rattle.rvm_message.specs.Replies.{is_refused_outright}
use Rattle.rvm_message.specs.declared.reply.HostReply.{HostReply}
use Rattle.rvm_protocol.specs.Frames.{plain}
use Rattle.rvm_protocol.specs.Receiving.{came}
use Rattle.rvm_host.proofs.Sendings.{frame_is}
use Rattle.rvm_host.proofs.Targets.{alone, if_err, if_ok}

-- a frame as a host hears it
abbrev pub heard : Frame → BoardFrame
heard f = plain board (frame_heard f)

-- the outcome is no outright refusal
abbrev pub Heeds : BoardOutcome → Type 0
Heeds o = is_refused_outright o.reply ≡ false

module _ (limit : ℕ) (f : Frame) (h : BoardFrame) (mode next : BoardMode) (is : heard f ≡ h) where
  pub so_heard : (version : ℕ) (a : HostReply × Option Frame) → Answers version (came board limit h mode) a next → Answers version (came board limit (heard f) mode) a next
  so_heard version a so = subst (λ (x : BoardFrame). Answers version (came board limit x mode) a next) (sym is) so

  pub heard_alone : (version : ℕ) (a : HostReply × Option Frame) (r : HostReply) → a.0 ≡ r → a.1 ≡ None
      → Answers version (came board limit h mode) (r, None) next → Answers version (came board limit (heard f) mode) a next
  heard_alone version a r first second so = so_heard version a (alone version (came board limit h mode) a r next first second so)

  pub if_heard : (r : Result (HostReply × Option Frame) AllocError)
      → IfOk r (λ a. (version : ℕ) → Answers version (came board limit h mode) a next)
      → IfOk r (λ a. (version : ℕ) → Answers version (came board limit (heard f) mode) a next)
  if_heard r = if_ok r (λ a. (version : ℕ) → Answers version (came board limit h mode) a next) (λ a. (version : ℕ) → Answers version (came board limit (heard f) mode) a next)
      (λ a so version. so_heard version a (so version))

  pub so_heeded : Heeds (came board limit h mode) → Heeds (came board limit (heard f) mode)
  so_heeded so = subst (λ (x : BoardFrame). Heeds (came board limit x mode)) (sym is) so

  -- what holds for every limit holds for this one
  pub err_heeded : (r : Result (HostReply × Option Frame) AllocError)
      → OnErr r ((most : ℕ) → Heeds (came board most h mode)) → OnErr r (Heeds (came board limit (heard f) mode))
  err_heeded r = if_err r ((most : ℕ) → Heeds (came board most h mode)) (Heeds (came board limit (heard f) mode)) (λ so. so_heeded (so limit))

-- FRAMES THAT COME, AND OTHERS

pub as_it_is : {f x : Frame} → f ≡ x → true ≡ can_come f → heard f ≡ plain board (frame_of x)
as_it_is is come = ap (plain board) (frame_is is come)

pub as_none : (f : Frame) → false ≡ can_come f → heard f ≡ no_frame
as_none f is = ap (λ b. plain board (if b then frame_of f else no_frame)) (sym is)
