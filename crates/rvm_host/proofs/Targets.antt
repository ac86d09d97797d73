-- The outcome of a frame at the target of a move.
use Rattle.std.proofs.Common.{◌≡◌, ℕ, ◌==◌, Bool, true, if◌then◌else◌, List, Option, None, Result, Ok, Err, sym, ap, subst, ◌∙◌}
use Rattle.std.specs.Prelude.{IfOk, OnErr}
use Rattle.std.specs.declared.alloc.AllocError.{AllocError}
use Rattle.std.proofs.lemmas.Bool.{eq-eqb, eqb-true, ne_eqb}
use Rattle.rvm_codec.proofs.Steps.{both_are}
use Rattle.rvm_frame.specs.declared.frame.Frame.{Frame}
use Rattle.rvm_guest.specs.TheGuest.{board}
use Rattle.rvm_handover.specs.Outcomes.{IsLeft}
use Rattle.rvm_handover.specs.Pieces.{IsPartLeft}
use Rattle.rvm_handover.specs.Stages.{PlainStage, stage_of}
use Rattle.rvm_handover.specs.declared.not_joined.NotJoined.{NotJoined}
use Rattle.rvm_handover.specs.declared.not_ready.NotReady.{NotReady}
use Rattle.rvm_message.specs.Answers.{Answers, BoardMode, BoardOutcome}
use Rattle.rvm_message.specs.Frames.{frame_made}
use Rattle.rvm_message.specs.Replies.{reply_of}
use Rattle.rvm_message.specs.declared.reply.HostReply.{HostReply}
use Rattle.rvm_protocol.specs.Frames.{Accept, Offer, State, Part}
use Rattle.rvm_protocol.specs.Modes as protocol
use Rattle.rvm_protocol.specs.Modes.{ignores, move_of, sends}
use Rattle.rvm_protocol.specs.Receiving.{came, of_this_move, offer_above, part_came, state_came}
use Rattle.rvm_protocol.specs.Replies.{Accepted}
use Rattle.rvm_protocol.specs.Staging as staging
use Rattle.rvm_host.specs.Modes.{PlainMode, Staging, mode_of, takes_part}

-- what follows from what holds if a result is Ok
pub if_ok : {X E : Type 0} (r : Result X E) (P Q : X → Type 0) → ((x : X) → P x → Q x) → IfOk r P → IfOk r Q
if_ok (Ok x) P Q so is = so x is
if_ok (Err e) P Q so is = tt

-- what follows from what holds if a result is an error
pub if_err : {X E : Type 0} (r : Result X E) (P Q : Type 0) → (P → Q) → OnErr r P → OnErr r Q
if_err (Ok x) P Q so is = tt
if_err (Err e) P Q so is = so is

-- what holds anyway holds if a result is an error
pub on_err : {X E : Type 0} (r : Result X E) (P : Type 0) → P → OnErr r P
on_err (Ok x) P so = tt
on_err (Err e) P so = so

-- a reply without a frame
pub alone : (version : ℕ) (o : BoardOutcome) (a : HostReply × Option Frame) (r : HostReply) (next : BoardMode)
    → a.0 ≡ r → a.1 ≡ None → Answers version o (r, None) next → Answers version o a next
alone version o a r next first second is = record { reply = ap reply_of first ∙ is.reply; made = ap frame_made second ∙ is.made; mode = is.mode }

this_move : (n k : ℕ) (o : BoardOutcome) (mode : BoardMode) → n ≡ k → of_this_move board n k o mode ≡ o
this_move n k o mode same = ap (λ (b : Bool). if b then o else ignores mode) (eq-eqb n k same)

-- a piece that is taken is of the move that is staged
pub of_staged : (k stamp part parts n : ℕ) (mode : PlainMode) (s : PlainStage) → mode ≡ Staging n s → takes_part k stamp part parts mode ≡ true → n ≡ k
of_staged k stamp part parts n mode s here takes =
    let is : takes_part k stamp part parts (Staging n s) ≡ true = sym (ap (λ (m : PlainMode). takes_part k stamp part parts m) here) ∙ takes in
    eqb-true n k (both_are (n == k) (staging.takes_part (stage_of s) stamp part parts) is).0

module _ (limit version n k : ℕ) (mode last : PlainMode) (before after : PlainStage) (a : HostReply × Option Frame) (here : mode ≡ Staging n before) (there : last ≡ Staging k after) (same : n ≡ k) where
  pub state_left : (numbers body : List ℕ) (reason : NotReady)
      → ((s : PlainStage) (o : BoardOutcome) → IsLeft k reason s o → Answers version o a (protocol.Staging k (stage_of s)))
      → IsLeft k reason after (state_came board k (stage_of before) (stage_of before) numbers body)
      → Answers version (came board limit (State k numbers body) (mode_of mode)) a (mode_of last)
  state_left numbers body reason so left =
      let o : ℕ → BoardOutcome = λ m. state_came board m (stage_of before) (stage_of before) numbers body in
      let is = ap (λ (m : PlainMode). came board limit (State k numbers body) (mode_of m)) here
      ∙ this_move n k (o n) (protocol.Staging n (stage_of before)) same ∙ ap o same in
      subst (λ (m : PlainMode). Answers version (came board limit (State k numbers body) (mode_of mode)) a (mode_of m)) (sym there)
      (subst (λ (x : BoardOutcome). Answers version x a (mode_of (Staging k after))) (sym is) (so after (o k) left))

  pub part_left : (stamp part parts : ℕ) (bytes copy : List ℕ) (reason : NotJoined) → copy ≡ bytes
      → ((s : PlainStage) (o : BoardOutcome) → IsPartLeft k part parts reason s o → Answers version o a (protocol.Staging k (stage_of s)))
      → IsPartLeft k part parts reason after (part_came board k (stage_of before) stamp part parts copy)
      → Answers version (came board limit (Part k stamp part parts bytes) (mode_of mode)) a (mode_of last)
  part_left stamp part parts bytes copy reason same_bytes so left =
      let o : ℕ → List ℕ → BoardOutcome = λ m xs. part_came board m (stage_of before) stamp part parts xs in
      let is = ap (λ (m : PlainMode). came board limit (Part k stamp part parts bytes) (mode_of m)) here
      ∙ this_move n k (o n bytes) (protocol.Staging n (stage_of before)) same ∙ ap (λ m. o m bytes) same ∙ ap (λ (xs : List ℕ). o k xs) (sym same_bytes) in
      subst (λ (m : PlainMode). Answers version (came board limit (Part k stamp part parts bytes) (mode_of mode)) a (mode_of m)) (sym there)
      (subst (λ (x : BoardOutcome). Answers version x a (mode_of (Staging k after))) (sym is) (so after (o k copy) left))

-- an offer whose outcome is decided by its move number alone
module _ (limit k pages harts : ℕ) (mode here : PlainMode) (is : mode ≡ here) where
  abbrev by_number : PlainMode → BoardOutcome
  by_number m = offer_above board (move_of (mode_of m)) limit k pages harts (mode_of m)

  pub offer_counts : (r : Result (HostReply × Option Frame) AllocError) (next : BoardMode)
      → came board limit (Offer k pages harts) (mode_of here) ≡ by_number here
      → IfOk r (λ a. (version : ℕ) → Answers version (by_number here) a next)
      → IfOk r (λ a. (version : ℕ) → Answers version (came board limit (Offer k pages harts) (mode_of mode)) a next)
  offer_counts r next so =
      let same : came board limit (Offer k pages harts) (mode_of mode) ≡ by_number here =
      ap (λ (m : PlainMode). came board limit (Offer k pages harts) (mode_of m)) is ∙ so in
      subst (λ (o : BoardOutcome). IfOk r (λ a. (version : ℕ) → Answers version o a next)) (sym same)

  pub offer_counts_too : (r : Result (HostReply × Option Frame) AllocError) (next : BoardMode)
      → came board limit (Offer k pages harts) (mode_of here) ≡ by_number here
      → IfOk r (λ a. (version : ℕ) → Answers version (by_number mode) a next)
      → IfOk r (λ a. (version : ℕ) → Answers version (came board limit (Offer k pages harts) (mode_of mode)) a next)
  offer_counts_too r next so is_so =
      offer_counts r next so (subst (λ (m : PlainMode). IfOk r (λ a. (version : ℕ) → Answers version (by_number m) a next)) is is_so)

-- an offer of another move than the staged one is decided by its move number alone
pub other_offer : (limit k pages harts n : ℕ) (s : PlainStage) → (n ≡ k → ⊥)
    → came board limit (Offer k pages harts) (mode_of (Staging n s)) ≡ offer_above board n limit k pages harts (mode_of (Staging n s))
other_offer limit k pages harts n s other =
    ap (λ (b : Bool). if b then sends Accepted (Accept n) (mode_of (Staging n s)) else offer_above board n limit k pages harts (mode_of (Staging n s))) (ne_eqb n k other)
