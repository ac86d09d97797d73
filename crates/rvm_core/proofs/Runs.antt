-- A run, event by event.
use Rattle.std.proofs.Common.{◌≡◌, ℕ, zero, suc, ◌+◌, ◌<◌, ◌≤◌, List, [], ◌∷◌, ◌++◌, length, map, drop, take, get_or, refl, sym, ap, ◌∙◌, arith, append_assoc, append-nil, OnErr, Result, Ok, Err}
use Rattle.std.proofs.lemmas.List.{drop_more}
use Rattle.rvm_board.specs.declared.event.BoardEvent.{BoardEvent}
use Rattle.rvm_guest.specs.TheGuest.{board}
use Rattle.rvm_protocol.specs.Guest.{Guest}
use Rattle.rvm_protocol.specs.Replies.{Reply}
use Rattle.rvm_protocol.specs.World as protocol
use Rattle.rvm_protocol.specs.World.{replies, reply_to, run, step}
use Rattle.rvm_core.specs.Worlds.{BoardWorld, IsPartOf}

-- lists
drop_nil : {V : Type 0} (i : ℕ) → drop {A = V} i [] ≡ []
drop_nil zero = refl
drop_nil (suc i) = refl

pub drop_all : {V : Type 0} (xs : List V) (i : ℕ) → length xs ≤ i → drop i xs ≡ []
drop_all [] i le = drop_nil i
drop_all (x ∷ xs) zero le = absurd (omega (arith, le))
drop_all (x ∷ xs) (suc i) le = drop_all xs i (omega (arith, le))

pub map_pushed : {X Y : Type 0} (f : X → Y) (xs : List X) (y : X) → map f (xs ++ y ∷ []) ≡ map f xs ++ f y ∷ []
map_pushed f [] y = refl
map_pushed f (x ∷ xs) y = ap (λ z. f x ∷ z) (map_pushed f xs y)

pub map_length : {X Y : Type 0} (f : X → Y) (xs : List X) → length (map f xs) ≡ length xs
map_length f [] = refl
map_length f (x ∷ xs) = ap suc (map_length f xs)

-- consecutive events
module _ {S P E A B V R : Type 0} (m : Guest S P E A B) (event : V → protocol.Event E) (reply : R → Reply A) where
  -- the events before i were made, with these replies
  pub record Running (w0 w : protocol.World S P B) (all : List V) (i : ℕ) (said : List R) : Type 0 where
    pub replied : map reply said ++ replies m w (map event (drop i all)) ≡ replies m w0 (map event all)
    pub left : run m w (map event (drop i all)) ≡ run m w0 (map event all)
    pub made : w ≡ run m w0 (take i (map event all))

  step_replies : (w : protocol.World S P B) (x : V) (rest : List V)
      → replies m w (map event (x ∷ rest)) ≡ reply_to m w (event x) ∷ replies m (step m w (event x)) (map event rest)
  unfolding replies
  step_replies w x rest = refl

  step_run : (w : protocol.World S P B) (x : V) (rest : List V)
      → run m w (map event (x ∷ rest)) ≡ run m (step m w (event x)) (map event rest)
  unfolding run
  step_run w x rest = refl

  nothing : (w : protocol.World S P B) → replies m w [] ≡ []
  unfolding replies
  nothing w = refl

  nowhere : (w : protocol.World S P B) → run m w [] ≡ w
  unfolding run
  nowhere w = refl

  -- the first i + 1 events are the first i and one more
  run_more : (w : protocol.World S P B) (all : List V) (i : ℕ) (x : V) → i < length all → x ≡ get_or all i x
      → run m w (take (suc i) (map event all)) ≡ step m (run m w (take i (map event all))) (event x)
  unfolding run
  run_more w [] i x lt is = absurd (omega (arith, lt))
  run_more w (y ∷ all) zero x lt is = ap (λ z. step m w (event z)) (sym is)
  run_more w (y ∷ all) (suc i) x lt is = run_more (step m w (event y)) all i x (omega (arith, lt)) is

  pub begins : (w : protocol.World S P B) (all : List V) → Running w w all 0 []
  begins w all = record { replied = refl; left = refl; made = sym (nowhere w) }

  pub one_more : (w0 w w' : protocol.World S P B) (all : List V) (i : ℕ) (said said' : List R) (x : V) (r : R)
      → Running w0 w all i said → i < length all → x ≡ get_or all i x
      → reply r ≡ reply_to m w (event x) → w' ≡ step m w (event x) → said' ≡ said ++ r ∷ []
      → Running w0 w' all (i + 1) said'
  one_more w0 w w' all i said said' x r so_far lt is told next more =
      let rest = drop (i + 1) all in
      let next_place : suc i ≡ i + 1 = omega arith in
      let here : drop i all ≡ x ∷ rest = drop_more all i x lt ∙ ap (λ z. z ∷ rest) (sym is) in
      let whole : replies m w (map event (drop i all)) ≡ reply r ∷ replies m w' (map event rest) =
      ap (λ z. replies m w (map event z)) here ∙ step_replies w x rest
      ∙ (λ j. sym told j ∷ replies m (sym next j) (map event rest))
      in
      record {
        replied =
            ap (λ z. map reply z ++ replies m w' (map event rest)) more
            ∙ ap (λ z. z ++ replies m w' (map event rest)) (map_pushed reply said r)
            ∙ append_assoc (map reply said) (reply r ∷ []) (replies m w' (map event rest))
            ∙ ap (λ z. map reply said ++ z) (sym whole)
            ∙ so_far.replied;
        left =
            ap (λ z. run m z (map event rest)) next ∙ sym (step_run w x rest)
            ∙ ap (λ z. run m w (map event z)) (sym here) ∙ so_far.left;
        made = next ∙ ap (λ z. step m z (event x)) so_far.made ∙ sym (run_more w0 all i x lt is)
            ∙ ap (λ z. run m w0 (take z (map event all))) next_place;
      }

  pub all_said : (w0 w : protocol.World S P B) (all : List V) (i : ℕ) (said : List R) → Running w0 w all i said
      → length all ≤ i → map reply said ≡ replies m w0 (map event all)
  all_said w0 w all i said so_far le =
      sym (append-nil (map reply said))
      ∙ ap (λ z. map reply said ++ z) (sym (ap (λ z. replies m w (map event z)) (drop_all all i le) ∙ nothing w))
      ∙ so_far.replied

  pub all_run : (w0 w : protocol.World S P B) (all : List V) (i : ℕ) (said : List R) → Running w0 w all i said
      → length all ≤ i → w ≡ run m w0 (map event all)
  all_run w0 w all i said so_far le =
      sym (ap (λ z. run m w (map event z)) (drop_all all i le) ∙ nowhere w) ∙ so_far.left

-- a run that stopped before its end made the first of its events
part_of : {V : Type 0} (event : V → protocol.Event BoardEvent) (w0 w : BoardWorld) (all : List V) (i : ℕ)
    → i < length all → w ≡ run board w0 (take i (map event all)) → IsPartOf (map event all) w0 w
part_of event w0 w all i lt made =
    let e = map_length event all in
    record { made = i; there = omega (arith, lt, e); leaves = made }

pub err_part : {X F V : Type 0} (r : Result X F) (event : V → protocol.Event BoardEvent) (w0 w : BoardWorld)
    (all : List V) (i : ℕ) → i < length all → w ≡ run board w0 (take i (map event all)) → OnErr r (IsPartOf (map event all) w0 w)
err_part (Ok x) event w0 w all i lt made = tt
err_part (Err e) event w0 w all i lt made = part_of event w0 w all i lt made
