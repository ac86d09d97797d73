-- Turns on the straight path, one by one.
use Rattle.std.proofs.Common.{◌≡◌, ◌∙◌, ℕ, zero, suc, ◌+◌, ◌%◌, ◌<◌, length, None, refl, sym, ap, subst, arith}
use Rattle.std.proofs.Math.Nat.{mod-add-mod, mod-mod}
use Rattle.rvm_mem.specs.Pages.{mark_all}
use Rattle.rvm_board.specs.declared.event.BoardReply.{BoardReply}
use Rattle.rvm_board.specs.declared.event.BoardReply.TheVariants as reply
use Rattle.rvm_board.specs.declared.turns.Order.TheVariants.{RoundRobin}
use Rattle.rvm_board.specs.Guest.{Guest, GuestState}
use Rattle.rvm_board.specs.Events.{Answered, steps}
use Rattle.rvm_board.specs.Turns.{AfterTurns, TakesTurns, after_turns, behind, next_hart, stop_in, unless_stopped}
use Rattle.rvm_board.specs.Retiring.{Retire, stepped}
use Rattle.rvm_board.specs.Computing.{Compute, HaveSameConsole}
use Rattle.rvm_board.proofs.Turning.{mark_more, one_more, steps_count}

-- one more
pub compute_more : (harts n turn h : ℕ) (old between new : GuestState) → Compute harts n turn old between → h ≡ (turn + n) % harts
    → h < length between.guest.board.harts → (steps h between.guest).reply ≡ reply.Retired
    → HaveSameConsole between.guest (steps h between.guest).guest → new ≡ stepped h between → Compute harts (suc n) turn old new
compute_more harts zero turn h old between new are at there said still to =
    let same : h ≡ turn % harts = at ∙ ap (λ t. t % harts) (omega arith) in
    subst (λ k. (k < length old.guest.board.harts) × ((steps k old.guest).reply ≡ reply.Retired) × HaveSameConsole old.guest (steps k old.guest).guest × (new ≡ stepped k old)) same
    (subst (λ (g : GuestState). (h < length g.guest.board.harts) × ((steps h g.guest).reply ≡ reply.Retired) × HaveSameConsole g.guest (steps h g.guest).guest × (new ≡ stepped h g)) are (there, said, still, to))
compute_more harts (suc n) turn h old between new are at there said still to =
    (are.0, are.1, are.2, compute_more harts n (turn + 1) h (stepped (turn % harts) old) between new are.3 (at ∙ ap (λ t. t % harts) (omega arith)) there said still to)

-- none
pub compute_none : (harts n turn : ℕ) (g : GuestState) → n ≡ 0 → Compute harts n turn g g
compute_none harts n turn g none = subst (λ k. Compute harts k turn g g) (sym none) refl

-- the number of harts stays
pub compute_count : (harts n turn : ℕ) (old new : GuestState) → Compute harts n turn old new → length new.guest.board.harts ≡ length old.guest.board.harts
compute_count harts zero turn old new are = ap (λ (g : GuestState). length g.guest.board.harts) are
compute_count harts (suc n) turn old new are =
    compute_count harts n (turn + 1) (stepped (turn % harts) old) new are.3 ∙ steps_count (turn % harts) old.guest

-- the console stays
pub compute_console : (harts n turn : ℕ) (old new : GuestState) → Compute harts n turn old new → HaveSameConsole old.guest new.guest
compute_console harts zero turn old new are = subst (λ (g : GuestState). HaveSameConsole old.guest g.guest) (sym are) (record { input = refl; output = refl })
compute_console harts (suc n) turn old new are =
    let rest : HaveSameConsole (stepped (turn % harts) old).guest new.guest = compute_console harts n (turn + 1) (stepped (turn % harts) old) new are.3 in
    record { input = rest.input ∙ are.2.input; output = rest.output ∙ are.2.output }

-- the hart of the first turn tells those of all others
pub compute_at : (harts n t u : ℕ) (old new : GuestState) → t % harts ≡ u % harts → Compute harts n t old new → Compute harts n u old new
compute_at harts zero t u old new same are = are
compute_at harts (suc n) t u old new same are =
    let next : (t + 1) % harts ≡ (u + 1) % harts = sym (mod-add-mod t harts 1) ∙ ap (λ k. (k + 1) % harts) same ∙ mod-add-mod u harts 1 in
    subst (λ k. (k < length old.guest.board.harts) × ((steps k old.guest).reply ≡ reply.Retired) × HaveSameConsole old.guest (steps k old.guest).guest × Compute harts n (u + 1) (stepped k old) new) same
    (are.0, are.1, are.2, compute_at harts n (t + 1) (u + 1) (stepped (t % harts) old) new next are.3)

-- they are steps that retire
pub computes_retire : (harts n turn : ℕ) (old new : GuestState) → Compute harts n turn old new → Retire harts n turn old new
computes_retire harts zero turn old new are = are
computes_retire harts (suc n) turn old new are =
    (are.0, are.1, computes_retire harts n (turn + 1) (stepped (turn % harts) old) new are.3)

-- they are turns in the order of the harts
pub computes_take : (harts n turn h : ℕ) (old new : GuestState) → Compute harts n turn old new → length old.guest.board.harts ≡ harts → h ≡ turn % harts
    → TakesTurns (after_turns RoundRobin n h old.guest) old new (record { made = n; stop = None })
unfolding after_turns
computes_take harts zero turn h old new are size at =
    record {
      guest = ap (λ (g : GuestState). g.guest) are;
      dirty = ap (λ (g : GuestState). g.dirty) are;
      made = refl;
      stop = refl;
    }
computes_take harts (suc n) turn h old new are size at =
    let g : Guest = old.guest in
    let s : Answered = steps (turn % harts) g in
    let next : ℕ = next_hart RoundRobin (length g.board.harts) h in
    let t : AfterTurns = after_turns RoundRobin n next s.guest in
    let one : suc n ≡ 1 + n = omega arith in
    let place : next ≡ (turn + 1) % harts = ap (λ l. (h + 1) % l) size ∙ ap (λ i. (i + 1) % harts) at ∙ mod-add-mod turn harts 1 in
    let rest : TakesTurns t (stepped (turn % harts) old) new (record { made = n; stop = None }) =
    computes_take harts n (turn + 1) next (stepped (turn % harts) old) new are.3 (steps_count (turn % harts) g ∙ size) place in
    let turned : after_turns RoundRobin (suc n) h g ≡ behind s.pages 1 t =
    one_more RoundRobin (suc n) n h g refl
    ∙ ap (λ i. unless_stopped (stop_in (steps i g).reply) (steps i g) (after_turns RoundRobin n next (steps i g).guest)) at
    ∙ ap (λ (r : BoardReply). unless_stopped (stop_in r) s t) are.1 in
    record {
      guest = rest.guest ∙ sym (ap (λ (a : AfterTurns). a.guest) turned);
      dirty = rest.dirty ∙ sym (mark_more s.pages t.pages old.dirty) ∙ sym (ap (λ (a : AfterTurns). mark_all a.pages old.dirty) turned);
      made = one ∙ ap (λ (i : ℕ). 1 + i) rest.made ∙ sym (ap (λ (a : AfterTurns). a.made) turned);
      stop = rest.stop ∙ sym (ap (λ (a : AfterTurns). a.stop) turned);
    }

-- steps that retire, and others after them
pub retire_on : (harts n k turn : ℕ) (old between new : GuestState) → Retire harts n turn old between → Retire harts k (turn + n) between new → Retire harts (n + k) turn old new
retire_on harts zero k turn old between new are then =
    let same : turn + 0 ≡ turn = omega arith in
    let all : k ≡ 0 + k = omega arith in
    subst (λ i. Retire harts i turn old new) all
    (subst (λ t. Retire harts k t old new) same (subst (λ (g : GuestState). Retire harts k (turn + 0) g new) are then))
retire_on harts (suc n) k turn old between new are then =
    let same : turn + suc n ≡ turn + 1 + n = omega arith in
    let all : suc (n + k) ≡ suc n + k = omega arith in
    subst (λ i. Retire harts i turn old new) all
    (are.0, are.1, retire_on harts n k (turn + 1) (stepped (turn % harts) old) between new are.2 (subst (λ t. Retire harts k t between new) same then))

-- steps that retire, and turns on the path after them
pub record RetiredSo (harts n turn hart : ℕ) (old new : GuestState) : Type 0 where
  pub are : Retire harts n turn old new
  pub place : hart ≡ (turn + n) % harts

pub retire_after : (harts n k m turn h h' : ℕ) (old between new : GuestState) → Retire harts n turn old between → length between.guest.board.harts ≡ harts → h ≡ (turn + n) % harts
    → Compute (length between.guest.board.harts) k h between new → h' ≡ (h + k) % length between.guest.board.harts → n + k ≡ m → RetiredSo harts m turn h' old new
retire_after harts n k m turn h h' old between new are size at go next all =
    let same : h % harts ≡ (turn + n) % harts = ap (λ i. i % harts) at ∙ mod-mod (turn + n) harts in
    let on : Compute harts k (turn + n) between new = compute_at harts k h (turn + n) between new same (subst (λ l. Compute l k h between new) size go) in
    subst (λ i. RetiredSo harts i turn h' old new) all (record {
      are = retire_on harts n k turn old between new are (computes_retire harts k (turn + n) between new on);
      place = next ∙ ap (λ l. (h + k) % l) size ∙ ap (λ i. (i + k) % harts) at ∙ mod-add-mod (turn + n) harts k ∙ ap (λ i. i % harts) (omega arith);
    })
