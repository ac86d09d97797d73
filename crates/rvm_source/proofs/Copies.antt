-- An action of the source is the protocol's Copy.
use Rattle.std.proofs.Common.{◌≡◌, inl, inr, ℕ, ◌+◌, ◌-◌, ◌^◌, ◌<◌, ◌≤◌, ◌==◌, Bool, true, false, nat_le, if◌then◌else◌, List, length, Option, Some, None, refl, sym, ap, ◌∙◌, subst, arith, add-one}
use Rattle.std.proofs.lemmas.Bool.{cases_Bool}
use Rattle.std.proofs.lemmas.Bool.Decides.{nat_tests}
use Rattle.std.proofs.lemmas.List.{length-replicate, length-set}
use Rattle.std.proofs.lemmas.List.Sums.{count_by-le-length}
use Rattle.rvm_mem.specs.Pages.{IsLowest, has, count}
use Rattle.rvm_protocol.specs.Guest.{Guest}
use Rattle.rvm_protocol.specs.Frames.{Page, RoundEnd}
use Rattle.rvm_protocol.specs.Replies as replies
use Rattle.rvm_protocol.specs.Pages.{least, size}
use Rattle.rvm_protocol.specs.Rounds as protocol
use Rattle.rvm_protocol.specs.Rounds.{page_count, page_of}
use Rattle.rvm_protocol.specs.Modes.{Copying, Stopped, Outcome, says, sends, refuses}
use Rattle.rvm_protocol.specs.Obeying.{copy, copy_page, copy_last, sends_page, sends_last}
use Rattle.rvm_precopy.specs.declared.rounds.Next.{Next}
use Rattle.rvm_precopy.specs.declared.rounds.Next.TheVariants as next
use Rattle.rvm_precopy.specs.declared.rounds.LastNext.{LastNext}
use Rattle.rvm_precopy.specs.declared.rounds.LastNext.TheVariants as last
use Rattle.rvm_precopy.specs.Plans.{Plan, IsPlanOf, Turn, LastTurn, rounds_of, last_of, next_of, last_next_of, stopping, with_found, with_last, found, last_found, last_copied, copied_if, peek, stops, after_round}
use Rattle.rvm_precopy.proofs.Ties.{found_is, copied_is, stopped_is, stops_is, after_is, size_is_count, last_found_is, last_copied_is}
use Rattle.rvm_precopy.proofs.Scans.{least_is_lowest}
use Rattle.rvm_source.proofs.Frames.{if_true, if_false}

least_below : (f : ℕ → Bool) (from n end p : ℕ) → from + n ≡ end → least f from n ≡ Some p → p < end
least_below f from n end p e is = (subst (IsLowest f from end) is (least_is_lowest f from n end e)).1

spent_is : (copies : ℕ) → copies < 2 ^ 32 → nat_le (2 ^ 32 - 1) copies ≡ (copies == 2 ^ 32 - 1)
spent_is copies lt = grind (arith, nat_tests)

-- THE GUEST RUNS

module _ {S P E A B : Type 0} (m : Guest S P E A B) where
  -- the outcome of an action of the source
  abbrev pub turned : ℕ → S → Next → Plan → List Bool → Outcome S P A B
  turned n g (next.Copied p k) r log =
      sends (replies.Copied p k) (Page n p k (page_of m g p)) (Copying n (rounds_of g log r))
  turned n g (next.RoundEnded a b c d) r log =
      sends (replies.RoundEnded a b c d) (RoundEnd n a b c d) (Copying n (rounds_of g log r))
  turned n g next.Stopping r log = says replies.Stopping (Stopped n (last_of g 0 r))
  turned n g next.SeqSpent r log = refuses replies.SeqSpent (Copying n (rounds_of g log r))

  abbrev pub turn_of : ℕ → S → Turn → Outcome S P A B
  turn_of n g t = turned n g t.answer t.plan t.log

  page_is : (n : ℕ) (g : S) (log : List Bool) (r : Plan) (p : ℕ) → IsPlanOf (page_count m g) r → r.copies < 2 ^ 32
      → p < page_count m g
      → copy_page m n (rounds_of g log r) (Some p) ≡ turn_of n g (with_found log r (Some p))
  page_is n g log r p is few lt =
      let R = rounds_of g log r in
      let inside : p < length r.newest = (let z = is.newest in omega (arith, z, lt)) in
      ap (λ b. if b then refuses replies.SeqSpent (Copying n R) else sends_page m n R p) (spent_is r.copies few)
      ∙ elim (cases_Bool (r.copies == 2 ^ 32 - 1)) [
        | inl h ↦
            if_true (r.copies == 2 ^ 32 - 1) (refuses replies.SeqSpent (Copying n R)) (sends_page m n R p) h
            ∙ ap (λ (t : Next × Plan). turned n g t.0 t.1 log) (sym (if_true (r.copies == 2 ^ 32 - 1) (next.SeqSpent, r) _ h))
        | inr h ↦
            if_false (r.copies == 2 ^ 32 - 1) (refuses replies.SeqSpent (Copying n R)) (sends_page m n R p) h
            ∙ (λ i. sends (replies.Copied p (sym (add-one r.copies) i)) (Page n p (sym (add-one r.copies) i) (page_of m g p))
            (Copying n (sym (copied_is m g log r p inside) i)))
            ∙ ap (λ (t : Next × Plan). turned n g t.0 t.1 log) (sym (if_false (r.copies == 2 ^ 32 - 1) (next.SeqSpent, r) _ h))
      ]

  round_is : (n : ℕ) (g : S) (log : List Bool) (r : Plan) → IsPlanOf (page_count m g) r → length log ≡ page_count m g
      → copy_page m n (rounds_of g log r) None ≡ turn_of n g (with_found log r None)
  round_is n g log r is l =
      let R = rounds_of g log r in
      let total : size (λ p. has p r.to_send) (page_count m g) ≡ count r.to_send = ap (size (λ p. has p r.to_send)) (sym is.send) ∙ size_is_count r.to_send in
      let left : size (λ p. has p log) (page_count m g) ≡ count log = ap (size (λ p. has p log)) (sym l) ∙ size_is_count log in
      let after : (if protocol.stops m R then protocol.round_over m R else protocol.next_round m R)
      ≡ rounds_of g (after_round log r (stops (count log) r)).1 (after_round log r (stops (count log) r)).0 =
      ap (λ b. if b then protocol.round_over m R else protocol.next_round m R) (sym (stops_is m g log r (sym is.send) (l ∙ sym is.send)))
      ∙ sym (after_is m g log r (stops (count log) r) (sym is.send)) in
      λ i. sends
      (replies.RoundEnded r.round r.sent (total i - r.sent) (left i))
      (RoundEnd n r.round r.sent (total i - r.sent) (left i))
      (Copying n (after i))

  found_or : (n : ℕ) (g : S) (log : List Bool) (r : Plan) (o : Option ℕ) → found log r ≡ o → IsPlanOf (page_count m g) r
      → r.copies < 2 ^ 32 → length log ≡ page_count m g
      → copy_page m n (rounds_of g log r) o ≡ turn_of n g (with_found log r o)
  found_or n g log r None e is few l = round_is n g log r is l
  found_or n g log r (Some p) e is few l =
      page_is n g log r p is few
      (let b = is.send in let s = is.scan in least_below _ r.scan (length r.to_send - r.scan) _ p (omega (arith, b, s)) e)

  pub copy_is : (version n : ℕ) (g : S) (log : List Bool) (r : Plan) → IsPlanOf (page_count m g) r → r.copies < 2 ^ 32
      → length log ≡ page_count m g
      → copy m version (Copying n (rounds_of g log r)) ≡ turn_of n g (next_of log r)
  unfolding next_of
  copy_is version n g log r is few l =
      let R = rounds_of g log r in
      elim (cases_Bool r.stop) [
        | inl h ↦
            if_true r.stop (says replies.Stopping (Stopped n (protocol.stopped m R))) (copy_page m n R (protocol.next_page m R)) h
            ∙ ap (λ z. says replies.Stopping (Stopped n z)) (sym (stopped_is m g log r))
            ∙ ap (λ (t : Turn). turn_of n g t) (sym (if_true r.stop (stopping log r) (with_found log r (found log r)) h))
        | inr h ↦
            if_false r.stop (says replies.Stopping (Stopped n (protocol.stopped m R))) (copy_page m n R (protocol.next_page m R)) h
            ∙ ap (copy_page m n R) (found_is m g log r (sym is.send))
            ∙ found_or n g log r (found log r) refl is few l
            ∙ ap (λ (t : Turn). turn_of n g t) (sym (if_false r.stop (stopping log r) (with_found log r (found log r)) h))
      ]

  -- the outcome of the protocol's Copy, by what the call of the rounds returned
  pub turn_is : (version n : ℕ) (g g' : S) (log log' : List Bool) (r r' : Plan) (a : Next) → IsPlanOf (page_count m g) r → r.copies < 2 ^ 32
      → length log ≡ page_count m g → a ≡ (next_of log r).answer → r' ≡ (next_of log r).plan → log' ≡ (next_of log r).log → g' ≡ g
      → copy m version (Copying n (rounds_of g log r)) ≡ turned n g' a r' log'
  turn_is version n g g' log log' r r' a is few l ea er el eg =
      copy_is version n g log r is few l
      ∙ (λ i. turned n (sym eg i) (sym ea i) (sym er i) (sym el i))

-- an answer's numbers are in range for this many pages
abbrev pub InRange : ℕ → Next → Type 0
InRange n (next.Copied p k) = p < n
InRange n (next.RoundEnded round sent skipped left) = (round ≤ 1000) × ((sent ≤ n) × ((skipped ≤ n) × (left ≤ n)))
InRange n next.Stopping = Unit {0}
InRange n next.SeqSpent = Unit {0}

-- an action leaves a log and a plan for n pages, and its answer's numbers are in range
record Whole (n : ℕ) (t : Turn) : Type 0 where
  log : length t.log ≡ n
  send : length t.plan.to_send ≡ n
  range : InRange n t.answer

either_turn : (n : ℕ) (b : Bool) (x y : Turn) → Whole n x → Whole n y → Whole n (if b then x else y)
either_turn n true x y h k = h
either_turn n false x y h k = k

stopping_whole : (n : ℕ) (log : List Bool) (r : Plan) → length log ≡ n → Whole n (stopping log r)
stopping_whole n log r l = record { log = length-replicate (length log) false ∙ l; send = l; range = tt }

round_whole : (n : ℕ) (log : List Bool) (r : Plan) (b : Bool) (a x y z : ℕ) → length log ≡ n → length r.to_send ≡ n
    → (a ≤ 1000) × ((x ≤ n) × ((y ≤ n) × (z ≤ n)))
    → Whole n (record { answer = next.RoundEnded a x y z; plan = (after_round log r b).0; log = (after_round log r b).1 })
round_whole n log r true a x y z l s few = record { log = l; send = s; range = few }
round_whole n log r false a x y z l s few = record { log = length-replicate (length log) false ∙ l; send = l; range = few }

copied_whole : (n : ℕ) (log : List Bool) (r : Plan) (p peeked : ℕ) (b : Bool) → length log ≡ n → length r.to_send ≡ n → p < n
    → (t : Next × Plan) → t ≡ copied_if peeked r p → Whole n (record { answer = t.0; plan = t.1; log = log })
copied_whole n log r p peeked b l s lt t e =
    elim (cases_Bool (r.copies == 2 ^ 32 - 1)) [
      | inl h ↦
          subst (λ (t : Next × Plan). Whole n (record { answer = t.0; plan = t.1; log = log }))
          (sym (e ∙ if_true (r.copies == 2 ^ 32 - 1) _ _ h)) (record { log = l; send = s; range = tt })
      | inr h ↦
          subst (λ (t : Next × Plan). Whole n (record { answer = t.0; plan = t.1; log = log }))
          (sym (e ∙ if_false (r.copies == 2 ^ 32 - 1) _ _ h)) (record { log = l; send = s; range = lt })
    ]

found_whole : (n : ℕ) (log : List Bool) (r : Plan) (o : Option ℕ) → found log r ≡ o → IsPlanOf n r → length log ≡ n → Whole n (with_found log r o)
found_whole n log r None e is l =
    let total = count_by-le-length (λ (b : Bool). b) r.to_send in
    let left = count_by-le-length (λ (b : Bool). b) log in
    let send = is.send in
    let sent : r.sent ≤ r.scan = is.sent in
    let scan : r.scan ≤ n = is.scan in
    round_whole n log r (stops (count log) r) r.round r.sent (count r.to_send - r.sent) (count log) l is.send
    (is.rounds, (omega (arith, sent, scan), (omega (arith, total, send), omega (arith, left, l))))
found_whole n log r (Some p) e is l =
    copied_whole n log r p (peek log r p) true l is.send
    (let b = is.send in let s = is.scan in least_below _ r.scan (length r.to_send - r.scan) _ p (omega (arith, b, s)) e)
    (copied_if (peek log r p) r p) refl

whole_turn : (n : ℕ) (log : List Bool) (r : Plan) → IsPlanOf n r → length log ≡ n → Whole n (next_of log r)
unfolding next_of
whole_turn n log r is l = either_turn n r.stop (stopping log r) (with_found log r (found log r)) (stopping_whole n log r l) (found_whole n log r (found log r) refl is l)

pub next_fits : (n : ℕ) (log log' : List Bool) (r r' : Plan) → IsPlanOf n r → length log ≡ n → r' ≡ (next_of log r).plan → log' ≡ (next_of log r).log
    → length log' ≡ length r'.to_send
next_fits n log log' r r' is l er el =
    let w = whole_turn n log r is l in
    ap length el ∙ w.log ∙ sym w.send ∙ ap (λ (x : Plan). length x.to_send) (sym er)

pub next_range : (n : ℕ) (log : List Bool) (r : Plan) (a : Next) → IsPlanOf n r → length log ≡ n → a ≡ (next_of log r).answer → InRange n a
next_range n log r a is l e = subst (InRange n) (sym e) (whole_turn n log r is l).range

pub log_kept : (n : ℕ) (log log' : List Bool) (r : Plan) → IsPlanOf n r → length log ≡ n → log' ≡ (next_of log r).log → length log' ≡ n
log_kept n log log' r is l e = ap length e ∙ (whole_turn n log r is l).log

-- THE GUEST IS PAUSED

module _ {S P E A B : Type 0} (m : Guest S P E A B) where
  -- the outcome of an action of the source once its guest is paused
  abbrev pub last_turned : (version n turn : ℕ) → S → LastNext → Plan → Outcome S P A B
  last_turned version n turn g (last.Copied p k) r =
      sends (replies.Copied p k) (Page n p k (page_of m g p)) (Stopped n (last_of g 0 r))
  last_turned version n turn g last.NothingLeft r = copy_last m version n (last_of g turn r) None
  last_turned version n turn g last.SeqSpent r = refuses replies.SeqSpent (Stopped n (last_of g turn r))

  last_page_is : (version n turn : ℕ) (g : S) (r : Plan) (p : ℕ) → IsPlanOf (page_count m g) r → r.copies < 2 ^ 32 → p < page_count m g
      → copy_last m version n (last_of g turn r) (Some p)
      ≡ last_turned version n turn g (with_last r (Some p)).answer (with_last r (Some p)).plan
  last_page_is version n turn g r p is few lt =
      let L = last_of g turn r in
      let inside : p < length r.to_send = (let z = is.send in omega (arith, z, lt)) in
      ap (λ b. if b then refuses replies.SeqSpent (Stopped n L) else sends_last m n L p) (spent_is r.copies few)
      ∙ elim (cases_Bool (r.copies == 2 ^ 32 - 1)) [
        | inl h ↦
            if_true (r.copies == 2 ^ 32 - 1) (refuses replies.SeqSpent (Stopped n L)) (sends_last m n L p) h
            ∙ ap (λ (t : LastTurn). last_turned version n turn g t.answer t.plan) (sym (if_true (r.copies == 2 ^ 32 - 1) (record { answer = last.SeqSpent; plan = r }) (last_copied r p) h))
        | inr h ↦
            if_false (r.copies == 2 ^ 32 - 1) (refuses replies.SeqSpent (Stopped n L)) (sends_last m n L p) h
            ∙ (λ i. sends (replies.Copied p (sym (add-one r.copies) i)) (Page n p (sym (add-one r.copies) i) (page_of m g p))
            (Stopped n (sym (last_copied_is m g turn r p is inside) i)))
            ∙ ap (λ (t : LastTurn). last_turned version n turn g t.answer t.plan) (sym (if_false (r.copies == 2 ^ 32 - 1) (record { answer = last.SeqSpent; plan = r }) (last_copied r p) h))
      ]

  last_found_or : (version n turn : ℕ) (g : S) (r : Plan) (o : Option ℕ) → last_found r ≡ o → IsPlanOf (page_count m g) r → r.copies < 2 ^ 32
      → copy_last m version n (last_of g turn r) o ≡ last_turned version n turn g (with_last r o).answer (with_last r o).plan
  last_found_or version n turn g r None e is few = refl
  last_found_or version n turn g r (Some p) e is few =
      last_page_is version n turn g r p is few
      (let b = is.send in least_below _ 0 (length r.to_send) _ p (omega (arith, b)) e)

  -- the outcome of the protocol's Copy, by what the call of the rounds returned
  pub last_turn_is : (version n turn : ℕ) (g : S) (r r' : Plan) (a : LastNext) → IsPlanOf (page_count m g) r → r.copies < 2 ^ 32
      → a ≡ (last_next_of r).answer → r' ≡ (last_next_of r).plan
      → copy m version (Stopped n (last_of g turn r)) ≡ last_turned version n turn g a r'
  unfolding last_next_of
  last_turn_is version n turn g r r' a is few ea er =
      ap (copy_last m version n (last_of g turn r)) (last_found_is m g turn r (sym is.send))
      ∙ last_found_or version n turn g r (last_found r) refl is few
      ∙ (λ i. last_turned version n turn g (sym ea i) (sym er i))

-- an answer's page is one of this many; if no page is copied, the plan is unchanged
abbrev pub LastInRange : ℕ → Plan → LastNext → Plan → Type 0
LastInRange n r (last.Copied p k) r' = p < n
LastInRange n r last.NothingLeft r' = r' ≡ r
LastInRange n r last.SeqSpent r' = r' ≡ r

record LastWhole (n : ℕ) (r : Plan) (t : LastTurn) : Type 0 where
  send : length t.plan.to_send ≡ n
  range : LastInRange n r t.answer t.plan

last_found_whole : (n : ℕ) (r : Plan) (o : Option ℕ) → last_found r ≡ o → IsPlanOf n r → LastWhole n r (with_last r o)
last_found_whole n r None e is = record { send = is.send; range = refl }
last_found_whole n r (Some p) e is =
    let lt : p < n = (let b = is.send in least_below _ 0 (length r.to_send) _ p (omega (arith, b)) e) in
    elim (cases_Bool (r.copies == 2 ^ 32 - 1)) [
      | inl h ↦
          subst (LastWhole n r) (sym (if_true (r.copies == 2 ^ 32 - 1) (record { answer = last.SeqSpent; plan = r }) (last_copied r p) h))
          (record { send = is.send; range = refl })
      | inr h ↦
          subst (LastWhole n r) (sym (if_false (r.copies == 2 ^ 32 - 1) (record { answer = last.SeqSpent; plan = r }) (last_copied r p) h))
          (record { send = length-set r.to_send p false ∙ is.send; range = lt })
    ]

last_whole : (n : ℕ) (r : Plan) → IsPlanOf n r → LastWhole n r (last_next_of r)
unfolding last_next_of
last_whole n r is = last_found_whole n r (last_found r) refl is

pub last_range : (n : ℕ) (r r' : Plan) (a : LastNext) → IsPlanOf n r → a ≡ (last_next_of r).answer → r' ≡ (last_next_of r).plan → LastInRange n r a r'
last_range n r r' a is ea er =
    subst (LastInRange n r a) (sym er) (subst (λ x. LastInRange n r x (last_next_of r).plan) (sym ea) (last_whole n r is).range)

pub last_fits : (n : ℕ) (r r' : Plan) → IsPlanOf n r → r' ≡ (last_next_of r).plan → length r'.to_send ≡ n
last_fits n r r' is er = ap (λ (x : Plan). length x.to_send) er ∙ (last_whole n r is).send
