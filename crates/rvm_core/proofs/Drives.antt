-- Consecutive events of one kind, and the parts of a list of events.
use Rattle.std.proofs.Common.{◌≡◌, ℕ, zero, suc, ◌+◌, ◌-◌, ◌<◌, ◌≤◌, List, [], ◌∷◌, ◌++◌, length, take, refl, sym, ap, ◌∙◌, subst, arith, OnErr, Result, Ok, Err}
use Rattle.std.proofs.lemmas.List.{length-append, take-append-le}
use Rattle.rvm_board.specs.declared.event.BoardEvent.{BoardEvent}
use Rattle.rvm_board.specs.declared.event.BoardReply.{BoardReply}
use Rattle.rvm_guest.specs.TheGuest.{board}
use Rattle.rvm_protocol.specs.Pages.{listed}
use Rattle.rvm_protocol.specs.Replies.{Reply}
use Rattle.rvm_protocol.specs.World.{Event, replies, reply_to, run, step}
use Rattle.rvm_core.specs.Worlds.{BoardWorld, IsPartOf}

-- lists by a function of the place
pub listed_none : {V : Type 0} (f : ℕ → V) (i : ℕ) → listed f i 0 ≡ []
unfolding listed
listed_none f i = refl

pub listed_first : {V : Type 0} (f : ℕ → V) (i n : ℕ) → listed f i (suc n) ≡ f i ∷ listed f (suc i) n
unfolding listed
listed_first f i n = refl

pub listed_length : {V : Type 0} (f : ℕ → V) (i n : ℕ) → length (listed f i n) ≡ n
unfolding listed
listed_length f i zero = refl
listed_length f i (suc n) = ap suc (listed_length f (suc i) n)

pub listed_last : {V : Type 0} (f : ℕ → V) (i n : ℕ) → listed f i (suc n) ≡ listed f i n ++ f (i + n) ∷ []
unfolding listed
listed_last f i zero = ap (λ z. f z ∷ []) (omega arith)
listed_last f i (suc n) =
    let e : suc i + n ≡ i + suc n = omega arith in
    ap (λ z. f i ∷ z) (listed_last f (suc i) n) ∙ ap (λ z. f i ∷ listed f (suc i) n ++ f z ∷ []) e

pub listed_same : {V : Type 0} (f h : ℕ → V) (i n : ℕ) → ((p : ℕ) → f p ≡ h p) → listed f i n ≡ listed h i n
unfolding listed
listed_same f h i zero same = refl
listed_same f h i (suc n) same = λ j. same i j ∷ listed_same f h (suc i) n same j

-- runs and replies of lists of events
pub run_none : (w : BoardWorld) → run board w [] ≡ w
unfolding run
run_none w = refl

pub run_first : (w : BoardWorld) (x : Event BoardEvent) (rest : List (Event BoardEvent))
    → run board w (x ∷ rest) ≡ run board (step board w x) rest
unfolding run
run_first w x rest = refl

pub replies_first : (w : BoardWorld) (x : Event BoardEvent) (rest : List (Event BoardEvent))
    → replies board w (x ∷ rest) ≡ reply_to board w x ∷ replies board (step board w x) rest
unfolding replies
replies_first w x rest = refl

pub run_append : (xs ys : List (Event BoardEvent)) (w : BoardWorld)
    → run board w (xs ++ ys) ≡ run board (run board w xs) ys
unfolding run
run_append [] ys w = refl
run_append (x ∷ xs) ys w = run_append xs ys (step board w x)

replies_append : (xs ys : List (Event BoardEvent)) (w : BoardWorld)
    → replies board w (xs ++ ys) ≡ replies board w xs ++ replies board (run board w xs) ys
unfolding run replies
replies_append [] ys w = refl
replies_append (x ∷ xs) ys w = ap (λ z. reply_to board w x ∷ z) (replies_append xs ys (step board w x))

pub replies_length : (xs : List (Event BoardEvent)) (w : BoardWorld) → length (replies board w xs) ≡ length xs
unfolding replies
replies_length [] w = refl
replies_length (x ∷ xs) w = ap suc (replies_length xs (step board w x))

pub cons_is : {X : Type 0} (x y : X) (xs ys : List X) → x ∷ xs ≡ y ∷ ys → (x ≡ y) × (xs ≡ ys)
cons_is x y xs ys h = (cc, cc)

-- equal lists, in two parts of the same lengths
parts_are : {X : Type 0} (a b c d : List X) → a ++ b ≡ c ++ d → length a ≡ length c → (a ≡ c) × (b ≡ d)
parts_are [] b [] d h same = (refl, h)
parts_are [] b (y ∷ c) d h same = absurd (omega (arith, same))
parts_are (x ∷ a) b [] d h same = absurd (omega (arith, same))
parts_are (x ∷ a) b (y ∷ c) d h same =
    let here = cons_is x y (a ++ b) (c ++ d) h in
    let shorter : length a ≡ length c = omega (arith, same) in
    let rest = parts_are a b c d here.1 shorter in
    (λ j. here.0 j ∷ rest.0 j, rest.1)

-- the replies to the first events and to the rest, in the world that the first ones leave
pub replies_split : (w w' : BoardWorld) (xs ys : List (Event BoardEvent)) (rs qs : List (Reply BoardReply))
    → replies board w (xs ++ ys) ≡ rs ++ qs → length rs ≡ length xs
    → (replies board w xs ≡ rs) × (w' ≡ run board w xs → replies board w' ys ≡ qs)
replies_split w w' xs ys rs qs h same =
    let both =
    parts_are (replies board w xs) (replies board (run board w xs) ys) rs qs (sym (replies_append xs ys w) ∙ h)
    (replies_length xs w ∙ sym same)
    in
    (both.0, λ is. ap (λ z. replies board z ys) is ∙ both.1)

pub replies_next : (w w' : BoardWorld) (x : Event BoardEvent) (ys : List (Event BoardEvent)) (r : Reply BoardReply)
    (qs : List (Reply BoardReply)) → replies board w (x ∷ ys) ≡ r ∷ qs
    → (reply_to board w x ≡ r) × (w' ≡ step board w x → replies board w' ys ≡ qs)
replies_next w w' x ys r qs h =
    let both =
    cons_is (reply_to board w x) r (replies board (step board w x) ys) qs (sym (replies_first w x ys) ∙ h)
    in
    (both.0, λ is. ap (λ z. replies board z ys) is ∙ both.1)

-- the first k of a list by a function of the place
pub take_listed : {V : Type 0} (f : ℕ → V) (i k n : ℕ) → k ≤ n → take k (listed f i n) ≡ listed f i k
unfolding listed
take_listed f i zero n le = refl
take_listed f i (suc k) zero le = absurd (omega (arith, le))
take_listed f i (suc k) (suc n) le = ap (λ z. f i ∷ z) (take_listed f (suc i) k n (omega (arith, le)))

-- what holds anyway holds if a result is an error
pub on_err : {X F : Type 0} (r : Result X F) (P : Type 0) → P → OnErr r P
on_err (Ok x) P p = tt
on_err (Err e) P p = p

-- the events made so far, and those that are left, are all
pub record Going (f : ℕ → Event BoardEvent) (w0 w : BoardWorld) (i n : ℕ) : Type 0 where
  pub left : run board w (listed f i (n - i)) ≡ run board w0 (listed f 0 n)
  pub so_far : w ≡ run board w0 (listed f 0 i)

-- before the first event
pub begins : (f : ℕ → Event BoardEvent) (w : BoardWorld) (n : ℕ) → Going f w w 0 n
begins f w n =
    record {
      left = ap (λ z. run board w (listed f 0 z)) (omega arith);
      so_far = sym (ap (run board w) (listed_none f 0) ∙ run_none w);
    }

-- one event more
pub one_further : (f : ℕ → Event BoardEvent) (w0 w w' : BoardWorld) (i : ℕ) → w ≡ run board w0 (listed f 0 i)
    → w' ≡ step board w (f i) → w' ≡ run board w0 (listed f 0 (i + 1))
one_further f w0 w w' i so_far next =
    let xs = listed f 0 i in
    let here : 0 + i ≡ i = omega arith in
    let one : suc i ≡ i + 1 = omega arith in
    let all : listed f 0 (i + 1) ≡ xs ++ f i ∷ [] =
    ap (listed f 0) (sym one) ∙ listed_last f 0 i ∙ ap (λ z. xs ++ f z ∷ []) here
    in
    next ∙ ap (λ z. step board z (f i)) so_far
    ∙ sym (ap (run board w0) all ∙ run_append xs (f i ∷ []) w0 ∙ run_first (run board w0 xs) (f i) []
    ∙ run_none (step board (run board w0 xs) (f i)))

-- the same after one event more
pub goes_on : (f : ℕ → Event BoardEvent) (w0 w w' : BoardWorld) (i n : ℕ) → Going f w0 w i n → i < n
    → w' ≡ step board w (f i) → Going f w0 w' (i + 1) n
goes_on f w0 w w' i n going lt next =
    let k = n - (i + 1) in
    let e : n - i ≡ suc k = omega (arith, lt) in
    let s : suc i ≡ i + 1 = omega arith in
    let here : listed f i (n - i) ≡ f i ∷ listed f (i + 1) k =
    ap (listed f i) e ∙ listed_first f i k ∙ ap (λ z. f i ∷ listed f z k) s
    in
    record {
      left =
          ap (λ z. run board z (listed f (i + 1) k)) next ∙ sym (run_first w (f i) (listed f (i + 1) k))
          ∙ ap (run board w) (sym here) ∙ going.left;
      so_far = one_further f w0 w w' i going.so_far next;
    }

-- after the last event
pub ends : (f : ℕ → Event BoardEvent) (w0 w : BoardWorld) (i n : ℕ) → Going f w0 w i n → n ≤ i
    → w ≡ run board w0 (listed f 0 n)
ends f w0 w i n going le =
    let e : n - i ≡ 0 = omega (arith, le) in
    sym (ap (λ z. run board w (listed f i z)) e ∙ ap (run board w) (listed_none f i) ∙ run_none w) ∙ going.left

-- THE FIRST EVENTS OF A LIST

-- no event was made
pub part_none : (x : Event BoardEvent) (xs : List (Event BoardEvent)) (w new : BoardWorld) → new ≡ w
    → IsPartOf (x ∷ xs) w new
part_none x xs w new is = record { made = 0; there = omega arith; leaves = is ∙ sym (run_none w) }

-- the first event was made, and some of those after it
pub part_first : (x : Event BoardEvent) (xs : List (Event BoardEvent)) (w mid new : BoardWorld) → mid ≡ step board w x
    → IsPartOf xs mid new → IsPartOf (x ∷ xs) w new
part_first x xs w mid new is part =
    let some = take part.made xs in
    let fewer = part.there in
    record {
      made = suc part.made;
      there = omega (arith, fewer);
      leaves = part.leaves ∙ ap (λ z. run board z some) is ∙ sym (run_first w x some);
    }

-- some events of the first of two parts were made
pub part_before : (xs ys : List (Event BoardEvent)) (w new : BoardWorld) → IsPartOf xs w new → IsPartOf (xs ++ ys) w new
part_before xs ys w new part =
    let fewer = part.there in
    let all = length-append xs ys in
    record {
      made = part.made;
      there = omega (arith, fewer, all);
      leaves = part.leaves ∙ ap (run board w) (sym (take-append-le part.made xs ys (omega (arith, fewer))));
    }

-- the first of two parts was made, and some events of the second
pub part_behind : (xs ys : List (Event BoardEvent)) (w mid new : BoardWorld) → mid ≡ run board w xs
    → IsPartOf ys mid new → IsPartOf (xs ++ ys) w new
part_behind [] ys w mid new is part = subst (λ z. IsPartOf ys z new) (is ∙ run_none w) part
part_behind (x ∷ xs) ys w mid new is part =
    part_first x (xs ++ ys) w (step board w x) new refl
    (part_behind xs ys (step board w x) mid new (is ∙ run_first w x xs) part)

-- some of several events of one kind were made
pub part_of_listed : (f : ℕ → Event BoardEvent) (w new : BoardWorld) (i n : ℕ) → i < n
    → new ≡ run board w (listed f 0 i) → IsPartOf (listed f 0 n) w new
part_of_listed f w new i n lt is =
    let all = listed_length f 0 n in
    record {
      made = i;
      there = omega (arith, lt, all);
      leaves = is ∙ ap (run board w) (sym (take_listed f 0 i n (omega (arith, lt))));
    }
