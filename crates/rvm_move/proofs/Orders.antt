-- What an audit leaves.
use Rattle.std.proofs.Common.{refl, subst, sym}
use Rattle.std.specs.Prelude.{◌≡◌, ◌↔◌, true, List, [], Option, None, Some, Result, Ok, Err, ℕ, IfOk, IfSome, IsSome}
use Rattle.std.specs.Io.KnownBytes.{Appends}
use Rattle.rvm_arguments.specs.declared.arguments.MoveArguments.{MoveArguments}
use Rattle.rvm_audit.specs.ListOrders.{IsMerge, IsOrder}
use Rattle.rvm_audit.specs.PairRuns.{AreNew, IsWorldRun}
use Rattle.rvm_command.specs.Command.{image_of}
use Rattle.rvm_host.specs.Modes.{Run}
use Rattle.rvm_board.specs.Guest.{GuestState}
use Rattle.rvm_guest.specs.TheGuest.{board}
use Rattle.rvm_guest.specs.Valid.{is_valid}
use Rattle.rvm_recorder.specs.History.{History, Recording}
use Rattle.rvm_core.specs.EventLines.{event_lines}
use Rattle.rvm_move.specs.Ended.{IsMade}
use Rattle.rvm_move.specs.Opening.{AreOpened, guest_in, host_before}
use Rattle.rvm_move.specs.Orders.{IsAudited, IsWritten, NeverMoves}
use Rattle.rvm_protocol.specs.World.{new_world}
use Rattle.rvm_core.specs.declared.event.Event.{Event}

-- the lines of a merge are an order that was written
pub written : (first second : History) (events : List Event) (before after : Option (List ℕ))
    → IsMerge first second events → Appends before after (event_lines 2 events) → IsWritten first second before after
written first second events before after merge lines = record { events = events; merge = merge; written = lines }

of_image : {X E : Type 0} (r : Result X E) (P Q R : X → Type 0) → ((x : X) → P x → Q x → R x) → IfOk r P → IfOk r Q → IfOk r R
of_image (Ok x) P Q R f p q = f x p q
of_image (Err e) P Q R f p q = tt

nothing : (T : Type 0) → IsSome {T = T} None → ⊥
nothing T some = cc

-- an order of the journals of a move's hosts, by the law of the audit
never_moves : (a : MoveArguments) (file : List ℕ) (first second : History) (events : List Event) → AreOpened a file first.opening second.opening
    → IsOrder first second events → ((version : ℕ) (g : GuestState) (limits : ℕ → ℕ) (a b : History) (events : List Event)
    → is_valid g.guest ≡ true → AreNew version g limits a.opening b.opening → IsOrder a b events
    → IsWorldRun (new_world board version 0 g.guest 2 limits) g.guest a b events)
    → NeverMoves a file first second events
never_moves a file first second events opened order law =
    of_image (image_of a.guest.raw file) (λ i. is_valid (guest_in a i) ≡ true) (λ i. first.opening ≡ host_before 0 a.stream (Run 0 (guest_in a i)))
    (λ i. IsWorldRun (new_world board a.stream 0 (guest_in a i) 2 (λ k. 4096)) (guest_in a i) first second events)
    (λ i valid is. law a.stream (record { guest = guest_in a i; dirty = [] }) (λ k. 4096) first second events valid
    (record { first = is; second = opened.has_none }) order)
    opened.valid opened.has_guest

-- an audit, if both hosts were closed
pub audited : (a : MoveArguments) (file : List ℕ) (status : ℕ) (hosts : Option (Recording × Recording))
    (before after : Option (List ℕ)) → status ≡ 0 ↔ IsSome hosts
    → IfSome hosts (λ h. AreOpened a file h.0.journal.opening h.1.journal.opening)
    → IfSome hosts (λ h. IsMade a h.0.journal.entries h.1.journal.entries None None)
    → IfSome hosts (λ h. IsWritten h.0.journal h.1.journal before after)
    → ((version : ℕ) (g : GuestState) (limits : ℕ → ℕ) (a b : History) (events : List Event)
    → is_valid g.guest ≡ true → AreNew version g limits a.opening b.opening → IsOrder a b events
    → IsWorldRun (new_world board version 0 g.guest 2 limits) g.guest a b events)
    → status ≡ 0 → IsAudited a file before after
audited a file status None before after are opened made order law is = absurd (nothing (Recording × Recording) (are.0 is))
audited a file status (Some h) before after are opened made order law is = record {
  first = h.0.journal;
  second = h.1.journal;
  opened = opened;
  made = made;
  order = order;
  never_moves = never_moves a file h.0.journal h.1.journal order.events opened order.merge.order law;
}

-- what holds of two hosts holds of those that are handed out, if any are
pub of_hosts : (P : Recording → Recording → Type 0) (first second : Recording) (hosts : Option (Recording × Recording))
    → (IsSome hosts → P first second) → IfSome hosts (λ h. (h.0 ≡ first) × (h.1 ≡ second)) → IfSome hosts (λ h. P h.0 h.1)
of_hosts P first second None so same = tt
of_hosts P first second (Some h) so same =
    subst (λ x. P x h.1) (sym same.0) (subst (λ y. P first y) (sym same.1) (so refl))

-- the same of what a call returns, if that has hosts exactly when its status is 0
pub of_answer : {X F : Type 0} (r : Result X F) (status : X → ℕ) (hosts : X → Option (Recording × Recording)) (sound : Type 0)
    (P : Recording → Recording → Type 0) (first second : Recording) → (sound → P first second)
    → IfOk r (λ x. status x ≡ 0 ↔ IsSome (hosts x)) → IfOk r (λ x. status x ≡ 0 → sound)
    → IfOk r (λ x. IfSome (hosts x) (λ h. (h.0 ≡ first) × (h.1 ≡ second))) → IfOk r (λ x. IfSome (hosts x) (λ h. P h.0 h.1))
of_answer (Ok x) status hosts sound P first second so are is same =
    of_hosts P first second (hosts x) (λ some. so (is (are.1 some))) same
of_answer (Err e) status hosts sound P first second so are is same = tt
