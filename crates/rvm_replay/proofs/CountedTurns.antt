-- Which of the turns of an order are of which host.
use Rattle.std.proofs.Common.{◌≡◌, ◌∙◌, ℕ, zero, suc, ◌+◌, ◌-◌, ◌<◌, ◌≤◌, ◌==◌, min, Bool, true, false, if◌then◌else◌, List, [], ◌∷◌, ◌++◌, Option, Some, None, ap, append-nil, append_assoc, arith, length, length-append, map, refl, replicate, subst, sym, take}
use Rattle.std.specs.Prelude.{slice_get}
use Rattle.std.proofs.lemmas.Bool.{eq-eqb, eqb-true}
use Rattle.std.proofs.lemmas.Grind.{flat_map-append}
use Rattle.std.proofs.lemmas.List.Sums.{sum_by-append, sum_by-cons}
use Rattle.rvm_audit.specs.Placed.{IsPiece, asked_at, turns_in}
use Rattle.rvm_audit.specs.declared.placed.HostTurns.{HostTurns}
use Rattle.rvm_audit.specs.declared.placed.Piece.{Piece}
use Rattle.rvm_audit.specs.declared.placed.Piece.TheVariants as piece
use Rattle.rvm_core.specs.declared.event.Event.{Event}
use Rattle.rvm_recorder.proofs.Spans.{get_right}
use Rattle.rvm_replay.specs.Turns.{count_at, hosts_in, hosts_of, turn_at, turn_hosts}

-- PIECES

-- the turns of a run are those of its host
run_hosts : (h drain : ℕ) (asked : List (Option ℕ)) → turn_hosts (map (asked_at h drain) asked) ≡ replicate (turns_in asked) h
run_hosts h drain [] = refl
run_hosts h drain (Some hart ∷ asked) = ap (λ hs. h ∷ hs) (run_hosts h drain asked)
run_hosts h drain (None ∷ asked) = run_hosts h drain asked

-- the turns of events that begin with a piece
piece_hosts : (p : Piece) (events rest : List Event) → IsPiece p events rest → turn_hosts events ≡ hosts_in p ++ turn_hosts rest
piece_hosts (piece.Event e) events rest is = ap turn_hosts is
piece_hosts (piece.Turns t) events rest begun =
    ap turn_hosts begun.split ∙ flat_map-append turn_at begun.run rest
    ∙ ap (λ hs. hs ++ turn_hosts rest)
    (ap turn_hosts begun.are.events_are ∙ run_hosts t.host begun.are.drain begun.are.asked
    ∙ ap (λ n. replicate n t.host) begun.are.turns_are)

same_length : (n h : ℕ) → length (replicate n h) ≡ n
same_length zero h = refl
same_length (suc n) h = ap suc (same_length n h)

same_at : (n h i : ℕ) → i < n → slice_get (replicate n h) i ≡ Some h
same_at zero h i less = absurd (omega (arith, less))
same_at (suc n) h zero less = refl
same_at (suc n) h (suc i) less = same_at n h i (omega (arith, less))

left_at : {X : Type 0} (xs ys : List X) (i : ℕ) (x : X) → slice_get xs i ≡ Some x → slice_get (xs ++ ys) i ≡ Some x
left_at [] ys i x is = cc
left_at (z ∷ xs) ys zero x is = is
left_at (z ∷ xs) ys (suc i) x is = left_at xs ys i x is

-- THE HOST OF A TURN

-- of the turns of an order those of the last events, `rest`, have not been passed; the wanted one is the one with the
-- number n among these
pub record Passing (order rest : List Event) (turn n : ℕ) : Type 0 where
  pub before : List ℕ
  pub split : turn_hosts order ≡ before ++ turn_hosts rest
  pub sum : length before + n ≡ turn
  pub some : 1 ≤ n

pub none_passed : (order rest : List Event) (turn : ℕ) → rest ≡ order → 1 ≤ turn → Passing order rest turn turn
none_passed order rest turn is some = record { before = []; split = ap turn_hosts (sym is); sum = omega arith; some = some }

pub more_passed : (order rest left : List Event) (turn n : ℕ) (p : Piece) (t : HostTurns) → Passing order rest turn n
    → IsPiece p rest left → hosts_of t ≡ hosts_in p → t.turns < n → Passing order left turn (n - t.turns)
more_passed order rest left turn n p t so is own few = record {
  before = so.before ++ hosts_of t;
  split = so.split ∙ ap (λ hs. so.before ++ hs) (piece_hosts p rest left is ∙ ap (λ hs. hs ++ turn_hosts left) (sym own))
      ∙ sym (append_assoc so.before (hosts_of t) (turn_hosts left));
  sum = (let all = so.sum in omega (arith, all, few, length-append so.before (hosts_of t), same_length t.turns t.host));
  some = omega (arith, few);
}

pub host_found : (order rest left : List Event) (turn n : ℕ) (p : Piece) (t : HostTurns) → Passing order rest turn n
    → IsPiece p rest left → hosts_of t ≡ hosts_in p → n ≤ t.turns → slice_get (turn_hosts order) (turn - 1) ≡ Some t.host
host_found order rest left turn n p t so is own enough =
    let some = so.some in let all = so.sum in
    let here : slice_get (hosts_of t ++ turn_hosts left) (n - 1) ≡ Some t.host =
    left_at (hosts_of t) (turn_hosts left) (n - 1) t.host (same_at t.turns t.host (n - 1) (omega (arith, some, enough))) in
    let at : turn - 1 ≡ length so.before + (n - 1) = omega (arith, some, all) in
    ap (λ i. slice_get (turn_hosts order) i) at ∙ ap (λ hs. slice_get hs (length so.before + (n - 1))) so.split
    ∙ get_right so.before (turn_hosts rest) (n - 1)
    ∙ ap (λ hs. slice_get hs (n - 1)) (piece_hosts p rest left is ∙ ap (λ hs. hs ++ turn_hosts left) (sym own)) ∙ here

pub few_turns : (order rest : List Event) (turn n : ℕ) → Passing order rest turn n → rest ≡ []
    → (length (turn_hosts order) ≡ turn - n) × (turn - n < turn)
few_turns order rest turn n so none =
    let some = so.some in let all = so.sum in
    let long = ap length (so.split ∙ ap (λ es. so.before ++ turn_hosts es) none ∙ append-nil so.before) in
    (omega (arith, all, long), omega (arith, some, all))

-- THE TURNS OF A HOST

-- 1 for this host, 0 for another
abbrev pub one_if : (x h : ℕ) → ℕ
one_if x h = if x == h then 1 else 0

count_cons : (x h : ℕ) (hs : List ℕ) → count_at x (h ∷ hs) ≡ one_if x h + count_at x hs
count_cons x h hs = sum_by-cons (one_if x) h hs

pub count_append : (x : ℕ) (hs ks : List ℕ) → count_at x (hs ++ ks) ≡ count_at x hs + count_at x ks
count_append x hs ks = sum_by-append (one_if x) hs ks

-- the first n of k turns of a host
take_same : (x n k h : ℕ) → count_at x (take n (replicate k h)) ≡ (if x == h then min k n else 0)
take_same x zero k h = none (x == h) where
  none : (b : Bool) → 0 ≡ (if b then min k 0 else 0)
  none true = omega arith
  none false = refl
take_same x (suc n) zero h = none (x == h) where
  none : (b : Bool) → 0 ≡ (if b then min 0 (suc n) else 0)
  none true = omega arith
  none false = refl
take_same x (suc n) (suc k) h =
    count_cons x h (take n (replicate k h)) ∙ one_more (x == h) (count_at x (take n (replicate k h))) (take_same x n k h) where
      one_more : (b : Bool) (c : ℕ) → c ≡ (if b then min k n else 0)
          → (if b then 1 else 0) + c ≡ (if b then min (suc k) (suc n) else 0)
      one_more true c is = omega (arith, is)
      one_more false c is = omega (arith, is)

take_append : (n : ℕ) (hs ks : List ℕ) → take n (hs ++ ks) ≡ take n hs ++ take (n - length hs) ks
take_append zero [] ks = refl
take_append (suc n) [] ks = let is : suc n ≡ suc n - 0 = omega arith in ap (λ k. take k ks) is
take_append zero (h ∷ hs) ks = let is : 0 ≡ 0 - suc (length hs) = omega arith in ap (λ k. take k ks) is
take_append (suc n) (h ∷ hs) ks =
    let is : n - length hs ≡ suc n - suc (length hs) = omega arith in
    ap (λ zs. h ∷ zs) (take_append n hs ks ∙ ap (λ k. take n hs ++ take k ks) is)

-- of the turns of an order those of the last events, `rest`, have not been passed; n of those that are wanted are left, and
-- `count` of the others are of host x
pub record Counting (order rest : List Event) (turns n x count : ℕ) : Type 0 where
  pub before : List ℕ
  pub split : turn_hosts order ≡ before ++ turn_hosts rest
  pub left_is : n ≡ turns - length before
  pub count_is : count ≡ count_at x (take turns before)

pub none_counted : (order rest : List Event) (turns x : ℕ) → rest ≡ order → Counting order rest turns turns x 0
none_counted order rest turns x is = record {
  before = [];
  split = ap turn_hosts (sym is);
  left_is = omega arith;
  count_is = none turns;
} where
  none : (n : ℕ) → 0 ≡ count_at x (take n [])
  none zero = refl
  none (suc n) = refl

pub more_counted : (order rest left : List Event) (turns n x count first : ℕ) (p : Piece) (t : HostTurns)
    → Counting order rest turns n x count → IsPiece p rest left → hosts_of t ≡ hosts_in p → first ≡ min t.turns n
    → Counting order left turns (n - first) x (if x == t.host then count + first else count)
more_counted order rest left turns n x count first p t so is own first_is = record {
  before = so.before ++ hosts_of t;
  split = so.split ∙ ap (λ hs. so.before ++ hs) (piece_hosts p rest left is ∙ ap (λ hs. hs ++ turn_hosts left) (sym own))
      ∙ sym (append_assoc so.before (hosts_of t) (turn_hosts left));
  left_is = (let here = so.left_is in omega (arith, here, first_is, length-append so.before (hosts_of t), same_length t.turns t.host));
  count_is = all (x == t.host) (take_same x n t.turns t.host);
} where
  sum : count_at x (take turns (so.before ++ hosts_of t)) ≡ count_at x (take turns so.before) + count_at x (take n (hosts_of t))
  sum = ap (count_at x) (take_append turns so.before (hosts_of t))
      ∙ count_append x (take turns so.before) (take (turns - length so.before) (hosts_of t))
      ∙ ap (λ k. count_at x (take turns so.before) + count_at x (take k (hosts_of t))) (sym so.left_is)

  all : (b : Bool) → count_at x (take n (hosts_of t)) ≡ (if b then min t.turns n else 0)
      → (if b then count + first else count) ≡ count_at x (take turns (so.before ++ hosts_of t))
  all true here = let before = so.count_is in omega (arith, sum, here, before, first_is)
  all false here = let before = so.count_is in omega (arith, sum, here, before)

-- hosts that are not the same
apart : (x y : ℕ) → (x ≡ y → ⊥) → (x == y) ≡ false
apart x y never = by_test (x == y) refl where
  by_test : (b : Bool) → (x == y) ≡ b → b ≡ false
  by_test true is = absurd (never (eqb-true x y is))
  by_test false is = refl

pub own_counted : (order rest left : List Event) (turns n x count first : ℕ) (p : Piece) (t : HostTurns)
    → Counting order rest turns n x count → IsPiece p rest left → hosts_of t ≡ hosts_in p → first ≡ min t.turns n
    → x ≡ t.host → Counting order left turns (n - first) x (count + first)
own_counted order rest left turns n x count first p t so is own first_is same =
    subst (λ b. Counting order left turns (n - first) x (if b then count + first else count)) (eq-eqb x t.host same)
    (more_counted order rest left turns n x count first p t so is own first_is)

pub others_counted : (order rest left : List Event) (turns n x count first : ℕ) (p : Piece) (t : HostTurns)
    → Counting order rest turns n x count → IsPiece p rest left → hosts_of t ≡ hosts_in p → first ≡ min t.turns n
    → (x ≡ t.host → ⊥) → Counting order left turns (n - first) x count
others_counted order rest left turns n x count first p t so is own first_is other =
    subst (λ b. Counting order left turns (n - first) x (if b then count + first else count)) (apart x t.host other)
    (more_counted order rest left turns n x count first p t so is own first_is)

pub all_counted : (order rest : List Event) (turns n x count : ℕ) → Counting order rest turns n x count → rest ≡ []
    → count ≡ count_at x (take turns (turn_hosts order))
all_counted order rest turns n x count so none =
    so.count_is
    ∙ ap (λ hs. count_at x (take turns hs)) (sym (so.split ∙ ap (λ es. so.before ++ turn_hosts es) none ∙ append-nil so.before))
