-- Turns that are broken off after a multiple of 64 and of the number of harts go on as if they had not been.
use Rattle.std.proofs.Common.{◌≡◌, ◌∙◌, inl, inr, ℕ, zero, suc, ◌+◌, ◌-◌, ◌*◌, ◌/◌, ◌%◌, ◌==◌, ◌≤◌, if◌then◌else◌, List, [], ◌∷◌, ◌++◌, length, None, refl, sym, ap, subst, arith, append_assoc}
use Rattle.std.proofs.lemmas.Bool.{cases_lt}
use Rattle.std.proofs.lemmas.List.{length-drop}
use Rattle.std.proofs.Math.Nat.{mod-add-div, add-mul-mod_self_left}
use Rattle.rvm_board.specs.declared.event.BoardEvent.{BoardEvent}
use Rattle.rvm_board.specs.declared.event.BoardEvent.TheVariants.{Step, Drain}
use Rattle.rvm_board.specs.declared.event.BoardReply.{BoardReply}
use Rattle.rvm_board.specs.declared.event.BoardReply.TheVariants as reply
use Rattle.rvm_board.specs.Guest.{Guest}
use Rattle.rvm_board.specs.Events.{Answered, answered}
use Rattle.rvm_guest.proofs.TheGuest.{board_laws}
use Rattle.rvm_guest.specs.TheGuest.{board}
use Rattle.rvm_command.specs.declared.run.Ended.TheVariants.{StepsSpent}
use Rattle.rvm_command.specs.Run.{After, Ran, Run, after, drains, first, run_by, step_of, unless_halted}
use Rattle.rvm_command.specs.RunsJoined.{RunsJoin}
use Rattle.rvm_command.proofs.Runs.{after_both, drains_more, drains_none}

-- ---- as many harts

same_harts : (e : BoardEvent) (g : Guest) → length (answered e g).guest.board.harts ≡ length g.board.harts
unfolding board
same_harts e g = board_laws.same_processors g e

after_harts : (es : List BoardEvent) (g : Guest) → length (after es g).guest.board.harts ≡ length g.board.harts
unfolding after
after_harts [] g = refl
after_harts (e ∷ es) g = after_harts es (answered e g).guest ∙ same_harts e g

-- ---- nothing waits after drains

drained_none : (g : Guest) → length g.board.shared.devices.output ≡ 0 → drains (after (drains g) g).guest ≡ []
unfolding after
drained_none g none = ap (λ (ds : List BoardEvent). drains (after ds g).guest) (drains_none g none) ∙ drains_none g none

one_drain : (ds : List BoardEvent) (g : Guest) → drains (after (Drain 256 ∷ ds) g).guest ≡ drains (after ds (answered (Drain 256) g).guest).guest
unfolding after
one_drain ds g = refl

drained_by : (fuel : ℕ) (g : Guest) → length g.board.shared.devices.output ≤ fuel → drains (after (drains g) g).guest ≡ []
drained_by zero g few = drained_none g (omega (arith, few))
drained_by (suc fuel) g few =
    elim (cases_lt 0 (length g.board.shared.devices.output)) [
      | inl some ↦
          let sent = g.board.shared.devices.output in
          let x = (answered (Drain 256) g).guest in
          let size : length x.board.shared.devices.output ≡ length sent - 256 = length-drop 256 sent in
          ap (λ (ds : List BoardEvent). drains (after ds g).guest) (drains_more g some) ∙ one_drain (drains x) g
          ∙ drained_by fuel x (omega (arith, size, few, some))
      | inr none ↦ drained_none g (omega (arith, none))
    ]

drained : (g : Guest) → drains (after (drains g) g).guest ≡ []
drained g = drained_by (length g.board.shared.devices.output) g (omega arith)

-- ---- a turn without input

-- what is taken after turn t
abbrev taken_at : (t : ℕ) → Guest → List BoardEvent
taken_at t g = if t % 64 == 63 then drains g else []

-- the rest of a run after the step of turn t
abbrev behind : (n t : ℕ) → Answered → Run
behind n t a =
    unless_halted a.reply a.guest
    (first (taken_at t a.guest) (run_by None n (t + 1) [] (after (taken_at t a.guest) a.guest).guest))

turn_is : (n t : ℕ) (g : Guest) → run_by None (suc n) t [] g ≡ first (step_of t g ∷ []) (behind n t (answered (step_of t g) g))
unfolding run_by after
turn_is n t g = refl

spent_is : (t : ℕ) (g : Guest) → run_by None 0 t [] g ≡ record { events = drains g; ended = StepsSpent }
unfolding run_by
spent_is t g = refl

zero_mod : (n : ℕ) → 0 % n ≡ 0
zero_mod n = omega arith

-- ---- turn numbers matter by their remainders

turn_after : (t n : ℕ) → (t % n + 1) % n ≡ (t + 1) % n
turn_after t n =
    let sum : t % n + 1 + n * (t / n) ≡ t + 1 = omega (arith, mod-add-div t n) in
    sym (add-mul-mod_self_left (t % n + 1) n (t / n)) ∙ ap (λ k. k % n) sum

next_same : (t u n : ℕ) → t % n ≡ u % n → (t + 1) % n ≡ (u + 1) % n
next_same t u n e = sym (turn_after t n) ∙ ap (λ k. (k + 1) % n) e ∙ turn_after u n

same_run : (n t u : ℕ) (g : Guest) → t % 64 ≡ u % 64 → t % length g.board.harts ≡ u % length g.board.harts
    → run_by None n t [] g ≡ run_by None n u [] g
same_run zero t u g drain hart = spent_is t g ∙ sym (spent_is u g)
same_run (suc n) t u g drain hart =
    let a = answered (step_of u g) g in
    let next = (after (taken_at u a.guest) a.guest).guest in
    let step : step_of t g ≡ step_of u g = ap (λ (h : ℕ). Step h) hart in
    let taken : taken_at t a.guest ≡ taken_at u a.guest = ap (λ (k : ℕ). if k == 63 then drains a.guest else []) drain in
    let harts : length next.board.harts ≡ length g.board.harts = after_harts (taken_at u a.guest) a.guest ∙ same_harts (step_of u g) g in
    turn_is n t g
    ∙ ap (λ (e : BoardEvent). first (e ∷ []) (behind n t (answered e g))) step
    ∙ ap (λ (ds : List BoardEvent). first (step_of u g ∷ []) (unless_halted a.reply a.guest
    (first ds (run_by None n (t + 1) [] (after ds a.guest).guest)))) taken
    ∙ ap (λ (r : Run). first (step_of u g ∷ []) (unless_halted a.reply a.guest (first (taken_at u a.guest) r)))
    (same_run n (t + 1) (u + 1) next (next_same t u 64 drain)
    (subst (λ (k : ℕ). (t + 1) % k ≡ (u + 1) % k) (sym harts) (next_same t u (length g.board.harts) hart)))
    ∙ sym (turn_is n u g)

-- ---- a run goes on

record WentOn (r : BoardReply) (x : Guest) : Type 0 where
  same : (run : Run) → unless_halted r x run ≡ run

went_on : (r : BoardReply) (x : Guest) (run : Run) → (unless_halted r x run).ended ≡ StepsSpent → WentOn r x
went_on reply.Retired x run is = record { same = λ run. refl }
went_on (reply.Trapped e) x run is = record { same = λ run. refl }
went_on (reply.Interrupted i) x run is = record { same = λ run. refl }
went_on (reply.Halted s) x run is = absurd (cc)
went_on (reply.Break a) x run is = record { same = λ run. refl }
went_on reply.Done x run is = record { same = λ run. refl }
went_on (reply.Bytes b) x run is = record { same = λ run. refl }
went_on (reply.Regs rs) x run is = record { same = λ run. refl }
went_on (reply.Line a w) x run is = record { same = λ run. refl }
went_on (reply.Refused why) x run is = record { same = λ run. refl }

first_none : (r : Run) → first [] r ≡ r
first_none r = refl

first_both : (es fs : List BoardEvent) (r : Run) → first es (first fs r) ≡ first (es ++ fs) r
first_both es fs r = ap (λ (l : List BoardEvent). record r { events = l }) (sym (append_assoc es fs r.events))

guest_both : (es fs : List BoardEvent) (g : Guest) → (after (es ++ fs) g).guest ≡ (after fs (after es g).guest).guest
guest_both es fs g = ap (λ (x : After). x.guest) (after_both es fs g)

guest_one : (e : BoardEvent) (g : Guest) → (after (e ∷ []) g).guest ≡ (answered e g).guest
unfolding after
guest_one e g = refl

guest_none : (g : Guest) → (after [] g).guest ≡ g
unfolding after
guest_none g = refl

-- what a run of k turns from turn t on, which ends with its turns, leaves for n more
abbrev Joins : (k n t : ℕ) (g : Guest) → Type 0
Joins k n t g =
    run_by None (k + n) t [] g
    ≡ first (run_by None k t [] g).events (run_by None n (t + k) [] (after (run_by None k t [] g).events g).guest)

joins_none : (n t : ℕ) (g : Guest) → drains g ≡ [] → Joins 0 n t g
joins_none n t g none =
    let a : 0 + n ≡ n = omega arith in
    let b : t ≡ t + 0 = omega arith in
    let events : (run_by None 0 t [] g).events ≡ [] = ap (λ (r : Run). r.events) (spent_is t g) ∙ none in
    ap (λ (j : ℕ). run_by None j t [] g) a ∙ ap (λ (j : ℕ). run_by None n j [] g) b
    ∙ ap (λ (x : Guest). run_by None n (t + 0) [] x) (sym (guest_none g))
    ∙ sym (first_none (run_by None n (t + 0) [] (after [] g).guest))
    ∙ ap (λ (es : List BoardEvent). first es (run_by None n (t + 0) [] (after es g).guest)) (sym events)

joins : (k n t : ℕ) (g : Guest) → (k ≡ 0 → drains g ≡ []) → (t + k) % 64 ≡ 0 → (run_by None k t [] g).ended ≡ StepsSpent
    → Joins k n t g
joins zero n t g none slice spent = joins_none n t g (none refl)
joins (suc k) n t g none slice spent =
    let e = step_of t g in
    let a = answered e g in
    let ds = taken_at t a.guest in
    let next = (after ds a.guest).guest in
    let r = run_by None k (t + 1) [] next in
    let on = went_on a.reply a.guest (first ds r) (ap (λ (x : Run). x.ended) (sym (turn_is k t g)) ∙ spent) in
    let here : run_by None (suc k) t [] g ≡ first (e ∷ ds) r =
    turn_is k t g ∙ ap (first (e ∷ [])) (on.same (first ds r)) in
    let far = run_by None n (t + 1 + k) [] (after r.events next).guest in
    let empty : k ≡ 0 → drains next ≡ [] = λ last.
    let full : t % 64 ≡ 63 = omega (arith, slice, last) in
    let taken : ds ≡ drains a.guest = ap (λ (q : ℕ). if q == 63 then drains a.guest else []) full in
    ap (λ (es : List BoardEvent). drains (after es a.guest).guest) taken ∙ drained a.guest in
    let rest : Joins k n (t + 1) next =
    joins k n (t + 1) next empty (let z : t + 1 + k ≡ t + suc k = omega arith in ap (λ (q : ℕ). q % 64) z ∙ slice)
    (ap (λ (x : Run). x.ended) (sym here) ∙ spent) in
    let there : (after (e ∷ (ds ++ r.events)) g).guest ≡ (after r.events next).guest =
    guest_both (e ∷ []) (ds ++ r.events) g
    ∙ ap (λ (x : Guest). (after (ds ++ r.events) x).guest) (guest_one e g)
    ∙ guest_both ds r.events a.guest in
    let count : suc k + n ≡ suc (k + n) = omega arith in
    let turns : t + 1 + k ≡ t + suc k = omega arith in
    ap (λ (j : ℕ). run_by None j t [] g) count
    ∙ turn_is (k + n) t g
    ∙ ap (first (e ∷ [])) (on.same (first ds (run_by None (k + n) (t + 1) [] next)))
    ∙ ap (λ (x : Run). first (e ∷ []) (first ds x)) rest
    ∙ ap (first (e ∷ [])) (first_both ds r.events far)
    ∙ ap (λ (j : ℕ). first (e ∷ (ds ++ r.events)) (run_by None n j [] (after r.events next).guest)) turns
    ∙ ap (λ (x : Guest). first (e ∷ (ds ++ r.events)) (run_by None n (t + suc k) [] x)) (sym there)
    ∙ ap (λ (x : Run). first x.events (run_by None n (t + suc k) [] (after x.events g).guest)) (sym here)

-- ---- a run from its first turn on

left_by : (run rest : Run) (g : Guest) → let all = after (first run.events rest).events g in
    ◌≡◌ {A = Ran} (record { guest = all.guest; pages = all.pages; written = all.bytes; ended = rest.ended })
    (let a = after run.events g in let b = after rest.events a.guest in
    record { guest = b.guest; pages = a.pages ++ b.pages; written = a.bytes ++ b.bytes; ended = rest.ended })
left_by run rest g =
    ap (λ (x : After). record { guest = x.guest; pages = x.pages; written = x.bytes; ended = rest.ended })
    (after_both run.events rest.events g)

-- a run of these turns leaves what it leaves
abbrev ran_as : Run → Guest → Ran
ran_as run g =
    let all = after run.events g in
    record { guest = all.guest; pages = all.pages; written = all.bytes; ended = run.ended }

pub runs_join : RunsJoin
unfolding RunsJoin
runs_join zero n g some slice harts spent = absurd (omega (arith, some))
runs_join (suc m) n g some slice harts spent =
    let run = run_by None (suc m) 0 [] g in
    let a = after run.events g in
    let whole = joins (suc m) n 0 g (λ e. absurd (omega (arith, e))) (let z : 0 + suc m ≡ suc m = omega arith in ap (λ (q : ℕ). q % 64) z ∙ slice) spent in
    let same_count : length a.guest.board.harts ≡ length g.board.harts = after_harts run.events g in
    let back : run_by None n (0 + suc m) [] a.guest ≡ run_by None n 0 [] a.guest =
    same_run n (0 + suc m) 0 a.guest (omega (arith, slice))
    (subst (λ (k : ℕ). (0 + suc m) % k ≡ 0 % k) (sym same_count)
    (let z : 0 + suc m ≡ suc m = omega arith in ap (λ (q : ℕ). q % length g.board.harts) z ∙ harts ∙ sym (zero_mod (length g.board.harts)))) in
    ap (λ (r : Run). ran_as r g) (whole ∙ ap (first run.events) back)
    ∙ left_by run (run_by None n 0 [] a.guest) g
