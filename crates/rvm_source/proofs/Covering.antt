-- No page of a guest that is being moved is forgotten, by what the calls of its rounds returned.
use Rattle.std.proofs.Common.{◌≡◌, ◌⊎◌, inl, inr, ℕ, ◌-◌, ◌^◌, ◌<◌, ◌==◌, true, false, ◌||◌, List, Bool, length, replicate, Option, Some, None, refl, sym, ap, ◌∙◌, subst, arith}
use Rattle.std.proofs.lemmas.Bool.{cond_both}
use Rattle.rvm_mem.specs.Pages.{has, mark_all}
use Rattle.rvm_board.specs.declared.turns.Turns.{Turns}
use Rattle.rvm_board.specs.Guest.{GuestState}
use Rattle.rvm_board.specs.Turns.{AfterTurns, TakesTurns}
use Rattle.rvm_board.specs.declared.retiring.Retired.{Retired}
use Rattle.rvm_board.specs.Retiring.{RetiresThen}
use Rattle.rvm_board.proofs.Retirings.{logged}
use Rattle.rvm_message.proofs.Logs.{has_marked, length_marked}
use Rattle.rvm_precopy.specs.Coverage.{Covers, CoversLast}
use Rattle.rvm_precopy.specs.Plans.{IsPlanOf, LastTurn, Plan, Turn, copied_if, found, last_copied, last_found, last_next_of, next_of, peek, stopping, with_found, with_last}
use Rattle.rvm_precopy.specs.declared.rounds.Next.{Next}
use Rattle.rvm_precopy.specs.declared.rounds.Next.TheVariants as next
use Rattle.rvm_precopy.specs.declared.rounds.LastNext.{LastNext}
use Rattle.rvm_precopy.specs.declared.rounds.LastNext.TheVariants as last
use Rattle.rvm_precopy.proofs.Coverage.{turned, paused, last_turned}
use Rattle.rvm_source.specs.declared.phase.Phase.{Phase}
use Rattle.rvm_source.specs.declared.phase.Phase.TheVariants as phases
use Rattle.rvm_source.specs.Sources.{HasPages, HasTurn, IsCovered, PlainSource}

-- THE GUEST RUNS

-- an action by its answer: it ends pre-copy if and only if the stop rule said so, and a copy's number is at least 1
abbrev pub IsTurn : Plan → Next → Type 0
IsTurn r (next.Copied p k) = (r.stop ≡ false) × (0 < k)
IsTurn r (next.RoundEnded round sent skipped left) = r.stop ≡ false
IsTurn r next.Stopping = r.stop ≡ true
IsTurn r next.SeqSpent = r.stop ≡ false

copied_turn : (peeked : ℕ) (r : Plan) (p : ℕ) → r.stop ≡ false → IsTurn r (copied_if peeked r p).0
copied_turn peeked r p goes =
    cond_both (r.copies == 2 ^ 32 - 1) _ _ (λ (t : Next × Plan). IsTurn r t.0) (λ spent. goes)
    (λ more. (goes, omega arith))

found_turn : (log : List Bool) (r : Plan) (o : Option ℕ) → r.stop ≡ false → IsTurn r (with_found log r o).answer
found_turn log r (Some p) goes = copied_turn (peek log r p) r p goes
found_turn log r None goes = goes

next_turn : (log : List Bool) (r : Plan) → IsTurn r (next_of log r).answer
unfolding next_of
next_turn log r =
    cond_both r.stop (stopping log r) (with_found log r (found log r)) (λ (t : Turn). IsTurn r t.answer)
    (λ stops. stops) (found_turn log r (found log r))

pub turn_is : (log : List Bool) (r : Plan) (a : Next) → a ≡ (next_of log r).answer → IsTurn r a
turn_is log r a e = subst (IsTurn r) (sym e) (next_turn log r)

-- after an action with this answer no page is forgotten
abbrev pub IsCoveredBy : Next → (log : List Bool) → Plan → Type 0
IsCoveredBy next.Stopping log r = CoversLast r
IsCoveredBy a log r = Covers log r

answered : (log : List Bool) (r : Plan) (a : Next) → IsPlanOf (length log) r → Covers log r → IsTurn r a
    → IsCoveredBy a (next_of log r).log (next_of log r).plan
answered log r (next.Copied p k) is c t = turned log r is c t.0
answered log r (next.RoundEnded round sent skipped left) is c t = turned log r is c t
answered log r next.Stopping is c t = paused log r is c t
answered log r next.SeqSpent is c t = turned log r is c t

plan_of_log : (pages : ℕ) (s : PlainSource) → HasPages pages s → IsPlanOf (length s.guest.dirty) s.plan
plan_of_log pages s h = subst (λ n. IsPlanOf n s.plan) (sym h.log) h.plan

pub next_covered : (pages : ℕ) (s : PlainSource) (log : List Bool) (plan : Plan) (a : Next) → HasPages pages s
    → s.phase ≡ phases.Copying → IsCovered s.phase s.guest.dirty s.plan → a ≡ (next_of s.guest.dirty s.plan).answer
    → plan ≡ (next_of s.guest.dirty s.plan).plan → log ≡ (next_of s.guest.dirty s.plan).log → IsCoveredBy a log plan
next_covered pages s log plan a h phase c ea er el =
    let covers = subst (λ f. IsCovered f s.guest.dirty s.plan) phase c in
    let turn = turn_is s.guest.dirty s.plan a ea in
    subst (λ x. IsCoveredBy a x plan) (sym el)
    (subst (IsCoveredBy a (next_of s.guest.dirty s.plan).log) (sym er)
    (answered s.guest.dirty s.plan a (plan_of_log pages s h) covers turn))

-- in the same phase as before
pub still_covered : (f : Phase) (log : List Bool) (plan : Plan) → f ≡ phases.Copying → Covers log plan
    → IsCovered f log plan
still_covered f log plan phase c = subst (λ x. IsCovered x log plan) (sym phase) c

-- no page is forgotten if the dirty log has more pages
covers_more : (log more : List Bool) (r : Plan) → ((p : ℕ) → has p log ≡ true → has p more ≡ true) → Covers log r
    → Covers more r
covers_more log more r grows c =
    record {
      page = λ p lt.
          elim (c.page p lt) [
            | inl copied ↦ inl copied
            | inr (inl due) ↦ inr (inl due)
            | inr (inr dirty) ↦ inr (inr (grows p dirty))
          ];
      peeked = λ p near set. grows p (c.peeked p near set);
      numbers = c.numbers;
      over = c.over;
    }

marked_covered : (ps : List ℕ) (log : List Bool) (r : Plan) → Covers log r → Covers (mark_all ps log) r
marked_covered ps log r c =
    covers_more log (mark_all ps log) r
    (λ p here. has_marked ps log p ∙ ap (λ b. b || has p (mark_all ps (replicate (length log) false))) here) c

-- turns of a guest that runs, with the pages that they write added to the log, preserve the invariant of its source
pub turns_keep : (f : Phase) {t : AfterTurns} {g new : GuestState} {told : Turns} (r : Plan)
    → (f ≡ phases.Offering) ⊎ (f ≡ phases.Copying) → TakesTurns t g new told
    → length g.dirty ≡ length r.to_send → IsCovered f g.dirty r
    → (length new.dirty ≡ length r.to_send) × (HasTurn f new r × IsCovered f new.dirty r)
turns_keep phases.Offering {t} {g} r runs took size c =
    (ap length took.dirty ∙ length_marked t.pages g.dirty ∙ size, (tt, tt))
turns_keep phases.Copying {t} {g} r runs took size c = (
  ap length took.dirty ∙ length_marked t.pages g.dirty ∙ size,
  (tt, subst (λ d. Covers d r) (sym took.dirty) (marked_covered t.pages g.dirty r c)),
)
turns_keep (phases.Stopped turn) r (inl e) took size c = absurd cc
turns_keep (phases.Stopped turn) r (inr e) took size c = absurd cc

-- steps that retire preserve it, too
pub retire_keeps : (f : Phase) {harts turn count : ℕ} {g new : GuestState} {told : Retired} (r : Plan)
    → (f ≡ phases.Offering) ⊎ (f ≡ phases.Copying) → RetiresThen harts turn count g new told
    → length g.dirty ≡ length r.to_send → IsCovered f g.dirty r
    → (length new.dirty ≡ length r.to_send) × (HasTurn f new r × IsCovered f new.dirty r)
retire_keeps phases.Offering {harts} {turn} {count} {g} {new} {told} r runs all size c =
    let l = logged harts turn count g new told all in
    (ap length l.log ∙ length_marked l.pages g.dirty ∙ size, (tt, tt))
retire_keeps phases.Copying {harts} {turn} {count} {g} {new} {told} r runs all size c =
    let l = logged harts turn count g new told all in (
      ap length l.log ∙ length_marked l.pages g.dirty ∙ size,
      (tt, subst (λ d. Covers d r) (sym l.log) (marked_covered l.pages g.dirty r c)),
    )
retire_keeps (phases.Stopped turn') r (inl e) all size c = absurd cc
retire_keeps (phases.Stopped turn') r (inr e) all size c = absurd cc

-- THE GUEST IS PAUSED

-- an action by its answer: a copy's number is at least 1, and if nothing is left, no page is found
abbrev pub IsLastTurn : Plan → LastNext → Type 0
IsLastTurn r (last.Copied p k) = 0 < k
IsLastTurn r last.NothingLeft = last_found r ≡ None
IsLastTurn r last.SeqSpent = Unit {0}

found_last_turn : (r : Plan) (o : Option ℕ) → last_found r ≡ o → IsLastTurn r (with_last r o).answer
found_last_turn r (Some p) e =
    cond_both (r.copies == 2 ^ 32 - 1) (record { answer = last.SeqSpent; plan = r }) (last_copied r p)
    (λ (t : LastTurn). IsLastTurn r t.answer) (λ spent. tt) (λ more. omega arith)
found_last_turn r None e = e

last_turn : (r : Plan) → IsLastTurn r (last_next_of r).answer
unfolding last_next_of
last_turn r = found_last_turn r (last_found r) refl

pub last_turn_is : (r : Plan) (a : LastNext) → a ≡ (last_next_of r).answer → IsLastTurn r a
last_turn_is r a e = subst (IsLastTurn r) (sym e) (last_turn r)

plan_of_send : (pages : ℕ) (s : PlainSource) → HasPages pages s → IsPlanOf (length s.plan.to_send) s.plan
plan_of_send pages s h =
    let send : length s.plan.to_send ≡ pages = h.plan.send in subst (λ n. IsPlanOf n s.plan) (sym send) h.plan

pub next_last_covered : (pages turn : ℕ) (s : PlainSource) (plan : Plan) → HasPages pages s
    → s.phase ≡ phases.Stopped turn → IsCovered s.phase s.guest.dirty s.plan → plan ≡ (last_next_of s.plan).plan
    → CoversLast plan
next_last_covered pages turn s plan h phase c e =
    let covers = subst (λ f. IsCovered f s.guest.dirty s.plan) phase c in
    subst CoversLast (sym e) (last_turned s.plan (plan_of_send pages s h) covers)
