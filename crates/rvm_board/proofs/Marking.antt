-- Marks of breakpoints, and steps that begin at none.
use Rattle.std.proofs.Common.{◌≡◌, ℕ, zero, suc, ◌%◌, ◌<◌, Bool, true, false, ◌&&◌, ◌||◌, ◌==◌, not, List, [], ◌∷◌, length, get_or, replicate, refl, sym, ap, ◌∙◌, subst, arith, inl, inr}
use Rattle.std.proofs.lemmas.Bool.{cases_eq, eqb-true}
use Rattle.std.proofs.lemmas.List.{get_or-set_same, get_or-set_other, length-set, length-replicate}
use Rattle.std.proofs.Math.Nat.{mod-lt}
use Rattle.rvm_hart.specs.Marks.{is_marked, marked, passes}
use Rattle.rvm_hart.specs.Machine.{Machine}
use Rattle.rvm_hart.specs.Straight.{all_pass}
use Rattle.rvm_hart.specs.Straight as straight
use Rattle.rvm_board.specs.Guest.{is_in}
use Rattle.rvm_board.specs.Marks.{marks_of, none_stops, with_marks}

-- the place of an address's mark
abbrev place : ℕ → ℕ
place a = a % 4096

inside : (a : ℕ) (marks : List Bool) → length marks ≡ 4096 → place a < length marks
inside a marks size = let below = mod-lt a {m = 4096} (omega arith) in omega (arith, size, below)

-- one mark more
there : (a : ℕ) (marks : List Bool) → length marks ≡ 4096 → is_marked a (marked a marks) ≡ true
there a marks size = get_or-set_same marks (place a) true false (inside a marks size)

still : (a i : ℕ) (marks : List Bool) → length marks ≡ 4096 → get_or marks i false ≡ true → get_or (marked a marks) i false ≡ true
still a i marks size e =
    elim (cases_eq i (place a)) [
      | inl same ↦ subst (λ k. get_or (marked a marks) k false ≡ true) (sym same) (there a marks size)
      | inr other ↦ get_or-set_other marks (place a) i true false other ∙ e
    ]

kept : (xs : List ℕ) (i : ℕ) (marks : List Bool) → length marks ≡ 4096 → get_or marks i false ≡ true → get_or (with_marks xs marks) i false ≡ true
kept [] i marks size e = e
kept (a ∷ xs) i marks size e = kept xs i (marked a marks) (length-set marks (place a) true ∙ size) (still a i marks size e)

either : (p q : Bool) {G : Type 0} → (p || q) ≡ true → (p ≡ true → G) → (q ≡ true → G) → G
either true q e first second = first refl
either false q e first second = second e

all_marked : (xs : List ℕ) (a : ℕ) (marks : List Bool) → length marks ≡ 4096 → is_in a xs ≡ true → is_marked a (with_marks xs marks) ≡ true
all_marked [] a marks size e = absurd cc
all_marked (b ∷ bs) a marks size e =
    let more : length (marked b marks) ≡ 4096 = length-set marks (place b) true ∙ size in
    either (b == a) (is_in a bs) e
    (λ same. kept bs (place a) (marked b marks) more (subst (λ x. is_marked x (marked b marks) ≡ true) (eqb-true b a same) (there b marks size)))
    (λ later. all_marked bs a (marked b marks) more later)

contrary : (p q : Bool) → (p ≡ true → q ≡ true) → q ≡ false → p ≡ false
contrary false q implies never = refl
contrary true q implies never = sym (implies refl) ∙ never

-- an address with no mark is none of those
pub not_in : (a : ℕ) (xs : List ℕ) → is_marked a (marks_of xs) ≡ false → is_in a xs ≡ false
unfolding marks_of
not_in a xs unmarked =
    contrary (is_in a xs) (is_marked a (marks_of xs)) (λ is. all_marked xs a (replicate 4096 false) (length-replicate 4096 false) is) unmarked

not_so : (b : Bool) → not b ≡ true → b ≡ false
not_so false e = refl
not_so true e = absurd cc

-- both are true
pub record Both (a b : Bool) : Type 0 where
  pub first : a ≡ true
  pub second : b ≡ true

pub both : (a b : Bool) → (a && b) ≡ true → Both a b
both true true e = record { first = refl; second = refl }
both true false e = absurd cc
both false b e = absurd cc

passes_by : (watched : Bool) (bs : List ℕ) (pc : ℕ) → (watched ≡ false → bs ≡ []) → passes watched (marks_of bs) pc ≡ true → not (is_in pc bs) ≡ true
passes_by false bs pc none e = ap (λ x. not (is_in pc x)) (none refl)
passes_by true bs pc none e = ap not (not_in pc bs (not_so (is_marked pc (marks_of bs)) e))

-- steps that begin at no mark that is watched begin at no breakpoint
pub none_at_a_mark : (watched : Bool) (bs : List ℕ) (n : ℕ) (m : Machine) → (watched ≡ false → bs ≡ []) → all_pass watched (marks_of bs) n m ≡ true → none_stops bs n m ≡ true
unfolding all_pass none_stops
none_at_a_mark watched bs zero m none e = refl
none_at_a_mark watched bs (suc n) m none e =
    let all : Both (all_pass watched (marks_of bs) n m) (passes watched (marks_of bs) (straight.steps n m).machine.hart.pc) = both (all_pass watched (marks_of bs) n m) (passes watched (marks_of bs) (straight.steps n m).machine.hart.pc) e in
    ap (λ x. x && not (is_in (straight.steps n m).machine.hart.pc bs)) (none_at_a_mark watched bs n m none all.first)
    ∙ passes_by watched bs (straight.steps n m).machine.hart.pc none all.second

pub none_stop_of_none : (bs : List ℕ) (n : ℕ) (m : Machine) → n ≡ 0 → none_stops bs n m ≡ true
unfolding none_stops
none_stop_of_none bs n m e = rw e refl
