-- Copy at a source is the protocol's, by what the calls of its rounds returned.
use Rattle.std.proofs.Common.{◌≡◌, ℕ, ◌^◌, ◌<◌, ◌≤◌, length, Option, Result, Ok, Err, OnErr, sym, ap, ◌∙◌, subst, arith}
use Rattle.rvm_board.specs.Guest.{GuestState}
use Rattle.rvm_protocol.specs.Obeying.{copy}
use Rattle.rvm_protocol.specs.Rounds.{page_count}
use Rattle.rvm_precopy.specs.declared.rounds.Next.{Next}
use Rattle.rvm_precopy.specs.declared.rounds.Next.TheVariants as next
use Rattle.rvm_precopy.specs.declared.rounds.LastNext.{LastNext}
use Rattle.rvm_precopy.specs.Plans.{Plan, IsPlanOf, next_of, last_next_of}
use Rattle.rvm_guest.specs.Body.{body_of}
use Rattle.rvm_guest.proofs.Pieces.{some_piece}
use Rattle.rvm_guest.specs.TheGuest.{board}
use Rattle.rvm_frame.specs.declared.frame.Frame.{Frame}
use Rattle.rvm_message.specs.declared.reply.HostReply.{HostReply}
use Rattle.rvm_message.specs.Answers.{Answers, BoardMode}
use Rattle.rvm_source.specs.declared.phase.Phase.{Phase}
use Rattle.rvm_source.specs.declared.phase.Phase.TheVariants as phases
use Rattle.rvm_source.specs.Sources.{HasPages, HasTurn, PlainSource, mode_in, mode_of}
use Rattle.rvm_source.proofs.Copies.{turned, turn_is, next_fits, next_range, log_kept, InRange, last_turned, last_turn_is, last_fits, last_range, LastInRange}

plan_is : (pages : ℕ) (s : PlainSource) → HasPages pages s → IsPlanOf (page_count board s.guest.guest) s.plan
plan_is pages s h = subst (λ n. IsPlanOf n s.plan) (sym h.count) h.plan

pub running : (version pages : ℕ) (s : PlainSource) (guest : GuestState) (plan : Plan) (a : Next) (answer : HostReply × Option Frame) (after : BoardMode)
    → HasPages pages s → s.phase ≡ phases.Copying → a ≡ (next_of s.guest.dirty s.plan).answer → plan ≡ (next_of s.guest.dirty s.plan).plan
    → guest.dirty ≡ (next_of s.guest.dirty s.plan).log → guest.guest ≡ s.guest.guest
    → Answers version (turned board s.move_number guest.guest a plan guest.dirty) answer after
    → Answers version (copy board version (mode_of s)) answer after
running version pages s guest plan a answer after h phase ea er el eg does =
    subst (λ o. Answers version o answer after)
    (sym (ap (λ f. copy board version (mode_in s.move_number s.guest s.plan f)) phase
    ∙ turn_is board version s.move_number s.guest.guest guest.guest s.guest.dirty guest.dirty s.plan plan a (plan_is pages s h) h.copies (h.log ∙ sym h.count) ea er el eg)) does

pub paused : (version pages turn : ℕ) (s : PlainSource) (plan : Plan) (a : LastNext) (answer : HostReply × Option Frame) (after : BoardMode)
    → HasPages pages s → s.phase ≡ phases.Stopped turn → a ≡ (last_next_of s.plan).answer → plan ≡ (last_next_of s.plan).plan
    → Answers version (last_turned board version s.move_number turn s.guest.guest a plan) answer after
    → Answers version (copy board version (mode_of s)) answer after
paused version pages turn s plan a answer after h phase ea er does =
    subst (λ o. Answers version o answer after)
    (sym (ap (λ f. copy board version (mode_in s.move_number s.guest s.plan f)) phase
    ∙ last_turn_is board version s.move_number turn s.guest.guest s.plan plan a (plan_is pages s h) h.copies ea er)) does

-- a page's number and a count of pages fit in 16 bits
pub below : (pages p : ℕ) (s : PlainSource) → HasPages pages s → p < pages → p < 2 ^ 16
below pages p s h lt = let few : pages ≤ 4096 = h.plan.few in omega (arith, few, lt)

pub within : (pages n : ℕ) (s : PlainSource) → HasPages pages s → n ≤ pages → n < 2 ^ 16
within pages n s h le = let few : pages ≤ 4096 = h.plan.few in omega (arith, few, le)

pub few_rounds : (n : ℕ) → n ≤ 1000 → n < 2 ^ 16
few_rounds n le = omega (arith, le)

-- a state has a first piece
pub first_turn : (g : GuestState) (r : Plan) → HasTurn (phases.Stopped 0) g r
first_turn g r = some_piece r.newest (body_of g.guest)

pub no_turn : (f : Phase) (g : GuestState) (r : Plan) → f ≡ phases.Copying → HasTurn f g r
no_turn f g r e = subst (λ f. HasTurn f g r) (sym e) tt

pub fits_next : (pages : ℕ) (s : PlainSource) (guest : GuestState) (plan : Plan) → HasPages pages s → plan ≡ (next_of s.guest.dirty s.plan).plan
    → guest.dirty ≡ (next_of s.guest.dirty s.plan).log → length guest.dirty ≡ length plan.to_send
fits_next pages s guest plan h er el = next_fits pages s.guest.dirty guest.dirty s.plan plan h.plan h.log er el

pub range_next : (pages : ℕ) (s : PlainSource) (a : Next) → HasPages pages s → a ≡ (next_of s.guest.dirty s.plan).answer → InRange pages a
range_next pages s a h ea = next_range pages s.guest.dirty s.plan a h.plan h.log ea

pub inside_next : (pages p k : ℕ) (s : PlainSource) (guest : GuestState) → HasPages pages s → next.Copied p k ≡ (next_of s.guest.dirty s.plan).answer
    → guest.dirty ≡ (next_of s.guest.dirty s.plan).log → p < length guest.dirty
inside_next pages p k s guest h ea el =
    let size = log_kept pages s.guest.dirty guest.dirty s.plan h.plan h.log el in
    let lt : p < pages = range_next pages s (next.Copied p k) h ea in
    omega (arith, size, lt)

pub fits_last : (pages : ℕ) (s : PlainSource) (plan : Plan) → HasPages pages s → plan ≡ (last_next_of s.plan).plan → length s.guest.dirty ≡ length plan.to_send
fits_last pages s plan h er = h.log ∙ sym (last_fits pages s.plan plan h.plan er)

pub range_last : (pages : ℕ) (s : PlainSource) (plan : Plan) (a : LastNext) → HasPages pages s → a ≡ (last_next_of s.plan).answer
    → plan ≡ (last_next_of s.plan).plan → LastInRange pages s.plan a plan
range_last pages s plan a h ea er = last_range pages s.plan plan a h.plan ea er

pub on_err : {X E : Type 0} (r : Result X E) (P : Type 0) → P → OnErr r P
on_err (Ok x) P p = tt
on_err (Err e) P p = p
