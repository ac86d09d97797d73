-- Frames that can be sent.
use Rattle.std.proofs.Common.{◌≡◌, ℕ, ◌-◌, ◌^◌, ◌<◌, ◌≤◌, true, if◌then◌else◌, List, length, Option, Some, Result, ap, sym, subst, ◌∙◌, arith}
use Rattle.std.specs.Prelude.{IfOk}
use Rattle.std.specs.declared.alloc.AllocError.{AllocError}
use Rattle.std.proofs.lemmas.Bool.Decides.{nat_tests}
use Rattle.rvm_codec.specs.Numbers.{within}
use Rattle.rvm_frame.specs.Bodies.{lost}
use Rattle.rvm_frame.specs.Grammar.{body_of}
use Rattle.rvm_frame.specs.Kinds.{may_have}
use Rattle.rvm_frame.specs.declared.frame.Frame.{Frame}
use Rattle.rvm_frame.specs.declared.frame.Frame.TheVariants as frame
use Rattle.rvm_frame.specs.declared.kind.Kind.TheVariants as kind
use Rattle.rvm_frame.proofs.Bodies.{length_fits}
use Rattle.rvm_message.specs.Frames.{BoardFrame, can_come, frame_heard, frame_of, no_frame}
use Rattle.rvm_message.specs.Sendable.{CanBeSent}
use Rattle.rvm_message.specs.declared.reply.HostReply.{HostReply}
use Rattle.rvm_host.specs.Bounds.{came_body}
use Rattle.rvm_host.proofs.Targets.{if_ok}

number_fits : (n : ℕ) → 0 < n → n < 2 ^ 64 → within 1 (2 ^ 64 - 1) n ≡ true
number_fits n some below = grind (arith, nat_tests)

lost_short : (n : ℕ) → may_have kind.Lost n ≡ true → n ≤ 8194
lost_short n is = grind (arith, nat_tests)

-- a Lost of pages that fit in one can be sent
pub lost_sent : (n : ℕ) (pages : List ℕ) (a : Option Frame) → 0 < n → n < 2 ^ 64 → lost.fits pages ≡ true
    → a ≡ Some (frame.Lost n pages) → (version : ℕ) → CanBeSent version (Some 8194) a
lost_sent n pages a some below fits is version =
    subst (λ (x : Option Frame). CanBeSent version (Some 8194) x) (sym is) (λ v. record {
      stands = v;
      move_number = number_fits n some below;
      body = fits;
      body_length = lost_short (length (body_of (frame.Lost n pages))) (length_fits (frame.Lost n pages) fits);
    })

-- a frame that came, as it is heard
pub frame_is : {f x : Frame} → f ≡ x → true ≡ can_come f → frame_heard f ≡ frame_of x
frame_is {f = f} is come = ap (λ b. if b then frame_of f else no_frame) (sym come) ∙ ap frame_of is

-- an answer to a frame can be sent
module _ {f x : Frame} (is : f ≡ x) (come : true ≡ can_come f) where
  pub answer_sent : (version : ℕ) (a : Option Frame) → CanBeSent version (came_body (frame_of x)) a
      → CanBeSent version (came_body (frame_heard f)) a
  answer_sent version a so = subst (λ (h : BoardFrame). CanBeSent version (came_body h) a) (sym (frame_is is come)) so

  pub if_answer_sent : (r : Result (HostReply × Option Frame) AllocError)
      → IfOk r (λ a. (version : ℕ) → CanBeSent version (came_body (frame_of x)) a.1)
      → IfOk r (λ a. (version : ℕ) → CanBeSent version (came_body (frame_heard f)) a.1)
  if_answer_sent r = if_ok r _ _ (λ a so version. answer_sent version a.1 (so version))
