-- What one line adds to the layout.
use Rattle.std.proofs.Common.{◌≡◌, ℕ, zero, suc, ◌+◌, ◌<◌, ◌≤◌, List, [], ◌∷◌, ◌++◌, length, get_or, refl, ap, sym, ◌∙◌, Option, None, Result, Ok, Err, Bool, true, false, arith, subst, inl, inr, ⊎_elim, length-append}
use Rattle.std.specs.Prelude.{◌⊎◌, ◌-◌, nat_le, if◌then◌else◌}
use Rattle.std.proofs.lemmas.Bool.Decides.{nat_tests}
use Rattle.std.proofs.lemmas.List.{get_or_append_left, get_or_at}
use Rattle.std.proofs.str.Laws.{order}
use Rattle.rvm_text.specs.Lexemes.{Lexeme}
use Rattle.rvm_asm.specs.declared.faults.Fault.{Fault}
use Rattle.rvm_asm.specs.Reading.{◌>>=◌}
use Rattle.rvm_asm.specs.Values.{Names}
use Rattle.rvm_asm.specs.Statements.{Definition, label_of, next_place, equ_at}
use Rattle.rvm_asm.specs.Assembly.{Takes, Lays, IsLaidTo, line_at}
use Rattle.rvm_asm.specs.Views.{IsDefining, IsLaying}
use Rattle.rvm_asm.specs.Refusals.{IsTwice, IsUnplaced, IsErrorOf, error_at, defined_at}
use Rattle.rvm_asm.specs.declared.faults.LineError.{LineError}
use Rattle.rvm_asm.specs.declared.faults.LineError.TheVariants.{OutOfMemory, Faulty}
use Rattle.rvm_asm.specs.LineViews.{names_of}
use Rattle.std.specs.BTreeMap.{BTreeMap, IsEmpty, is_at}
use Rattle.std.specs.Map.{lookup}
use Rattle.std.specs.Cmp.Lexicographic.{slice_cmp}
use Rattle.std.specs.Ordering.{nat_cmp}
use denote.Ref.{Bor}
use Rattle.rvm_asm.proofs.Names.{Kept, kept_by, next_kept}

-- a line's two definitions, from what `label` returns
pub lays_from : (old mid new : Names) (place after : ℕ) (line : List Lexeme) (e : Option Definition) (q : Option Definition × List Lexeme) → q ≡ label_of place line → Ok after ≡ next_place old place q.1 → Ok e ≡ equ_at old q.1 → Takes old mid q.0 → Takes mid new e → Lays old new place after line
lays_from old mid new place after line e q p next equ first second = record {
  next = ap (λ (x : Option Definition × List Lexeme). next_place old place x.1) (sym p) ∙ sym next;
  labelled = mid;
  label = subst (λ (x : Option Definition × List Lexeme). Takes old mid x.0) p first;
  definition = e;
  read = ap (λ (x : Option Definition × List Lexeme). equ_at old x.1) (sym p) ∙ sym equ;
  defined = second;
}

-- each name that had a value keeps it
lays_kept : (old new : Names) (place after : ℕ) (line : List Lexeme) → Lays old new place after line → Kept old new
lays_kept old new place after line l = λ n v h. kept_by l.labelled new l.definition l.defined n v (kept_by old l.labelled (label_of place line).0 l.label n v h)

known_kept : (lines : List (List Lexeme)) (count : ℕ) (names : Names) (places : List ℕ) (laid : IsLaidTo lines count names places) (i d j : ℕ) → j ≡ i + d → j ≤ count → Kept (laid.known i) (laid.known j)
known_kept lines count names places laid i zero j e h = subst (λ k. Kept (laid.known i) (laid.known k)) (let f : i ≡ j = omega (arith, e) in f) (λ n v g. g)
known_kept lines count names places laid i (suc d) j e h =
    let before = known_kept lines count names places laid i d (i + d) refl (omega (arith, e)) in
    let last = lays_kept (laid.known (i + d)) (laid.known (i + d + 1)) (get_or places (i + d) 0) (get_or places (i + d + 1) 0) (line_at lines (i + d)) (laid.each (i + d) (omega (arith, e))) in
    subst (λ k. Kept (laid.known i) (laid.known k)) (let f : i + d + 1 ≡ j = omega (arith, e) in f) (λ n v g. last n v (before n v g))

-- the place after a line is the same under the names of all lines
pub next_known : (lines : List (List Lexeme)) (count : ℕ) (names : Names) (places : List ℕ) → IsLaidTo lines count names places → (i : ℕ) → i < count → next_place names (get_or places i 0) (label_of (get_or places i 0) (line_at lines i)).1 ≡ Ok (get_or places (i + 1) 0)
next_known lines count names places laid i h =
    let kept : Kept (laid.known i) names = subst (λ all. Kept (laid.known i) all) laid.all (known_kept lines count names places laid i (count - i) count (omega (arith, h)) (omega arith)) in
    next_kept (laid.known i) names kept (get_or places i 0) (label_of (get_or places i 0) (line_at lines i)).1 (get_or places (i + 1) 0) (laid.each i h).next

-- below a place, or at it
pub below_or_at : (k i : ℕ) → k < i + 1 → (k < i) ⊎ (k ≡ i)
below_or_at k i h = ⊎_elim inl (λ e. inr (omega (arith, e))) (order k i)

-- the names after each number of lines, with one line more
unfoldable grown : (ℕ → Names) → ℕ → Names → ℕ → Names
grown known i new k = if nat_le k i then known k else new

chosen_true : (b : Bool) (x y : Names) → b ≡ true → (if b then x else y) ≡ x
chosen_true true x y e = refl
chosen_true false x y e = cc

chosen_false : (b : Bool) (x y : Names) → b ≡ false → (if b then x else y) ≡ y
chosen_false true x y e = cc
chosen_false false x y e = refl

le_true : (k i : ℕ) → k ≤ i → nat_le k i ≡ true
le_true k i h = grind (arith, nat_tests)

le_false : (k i : ℕ) → i < k → nat_le k i ≡ false
le_false k i h = grind (arith, nat_tests)

before_it : (known : ℕ → Names) (i : ℕ) (new : Names) (k : ℕ) → k ≤ i → grown known i new k ≡ known k
unfolding grown
before_it known i new k h = chosen_true (nat_le k i) (known k) new (le_true k i h)

behind_it : (known : ℕ → Names) (i : ℕ) (new : Names) → grown known i new (i + 1) ≡ new
unfolding grown
behind_it known i new = chosen_false (nat_le (i + 1) i) (known (i + 1)) new (le_false (i + 1) i (omega arith))

lays_same : (old new : Names) (place after : ℕ) (line : List Lexeme) (old' new' : Names) (place' after' : ℕ) (line' : List Lexeme) → old' ≡ old → new' ≡ new → place' ≡ place → after' ≡ after → line' ≡ line → Lays old new place after line → Lays old' new' place' after' line'
lays_same old new place after line old' new' place' after' line' e f g h i l = rw (e, f, g, h, i) l

-- one line more
pub laid_more : (lines : List (List Lexeme)) (i : ℕ) (old new : Names) (places : List ℕ) (place after : ℕ) (line : List Lexeme) → IsLaidTo lines i old places → place ≡ get_or places i 0 → line ≡ line_at lines i → Lays old new place after line → IsLaidTo lines (i + 1) new (places ++ after ∷ [])
laid_more lines i old new places place after line laid at is lays =
    let size : length places ≡ i + 1 = laid.many in
    let more : List ℕ = places ++ after ∷ [] in
    let here : (k : ℕ) → k ≤ i → get_or more k 0 ≡ get_or places k 0 = λ k h. get_or_append_left places (after ∷ []) 0 k (omega arith) in
    let end : get_or more (i + 1) 0 ≡ after = get_or_at places after [] 0 (i + 1) size in
    let last = lays_same old new place after line (grown laid.known i new i) (grown laid.known i new (i + 1)) (get_or more i 0) (get_or more (i + 1) 0) (line_at lines i) (before_it laid.known i new i (omega arith) ∙ laid.all) (behind_it laid.known i new) (here i (omega arith) ∙ sym at) end (sym is) lays in
    record {
      many = length-append places (after ∷ []) ∙ omega (arith, size);
      first = here 0 (omega arith) ∙ laid.first;
      known = grown laid.known i new;
      none = λ n. ap (λ (f : Names). f n) (before_it laid.known i new 0 (omega arith)) ∙ laid.none n;
      each = λ k h. ⊎_elim
          (λ below. lays_same (laid.known k) (laid.known (k + 1)) (get_or places k 0) (get_or places (k + 1) 0) (line_at lines k) (grown laid.known i new k) (grown laid.known i new (k + 1)) (get_or more k 0) (get_or more (k + 1) 0) (line_at lines k) (before_it laid.known i new k (omega arith)) (before_it laid.known i new (k + 1) (omega arith)) (here k (omega arith)) (here (k + 1) (omega arith)) refl (laid.each k below))
          (λ same. rw same last)
          (below_or_at k i h);
      all = behind_it laid.known i new;
    }

-- no symbol, no name
none_named : (ss : BTreeMap (Bor (List ℕ)) ℕ) → IsEmpty ss → (n : List ℕ) → names_of ss n ≡ None
unfolding names_of
none_named ss e n = ap (lookup (is_at (λ (key : Bor (List ℕ)). slice_cmp nat_cmp n key.now))) e

-- before the first line
pub laid_none : (lines : List (List Lexeme)) (ss : BTreeMap (Bor (List ℕ)) ℕ) (places : List ℕ) → IsEmpty ss → places ≡ 2147483648 ∷ [] → IsLaidTo lines 0 (names_of ss) places
laid_none lines ss places e p = record {
  many = ap length p;
  first = ap (λ l. get_or l 0 0) p;
  known = λ k. names_of ss;
  none = none_named ss e;
  each = λ i h. absurd (omega (arith, h));
  all = refl;
}

-- what a line defines, from what `label` returns
defined : {r : Result (Option Definition) Fault} (old : Names) (place after : ℕ) (line : List Lexeme) (q : Option Definition × List Lexeme) → q ≡ label_of place line → Ok after ≡ next_place old place q.1 → r ≡ equ_at old q.1 → defined_at old place (label_of place line).1 ≡ r
defined old place after line q p next equ =
    ap (λ (x : Option Definition × List Lexeme). next_place old place x.1 >>= λ y. equ_at old x.1) (sym p)
    ∙ ap (λ x. x >>= λ y. equ_at old q.1) (sym next) ∙ sym equ

-- the place after a line has a fault
pub next_fault : (old new : Names) (place : ℕ) (line : List Lexeme) (q : Option Definition × List Lexeme) (f : Fault) → q ≡ label_of place line → Err f ≡ next_place old place q.1 → IsLaying old new place line (Err (Faulty f))
next_fault old new place line q f p next =
    inl (ap (λ (x : Option Definition × List Lexeme). next_place old place x.1 >>= λ y. equ_at old x.1) (sym p)
    ∙ ap (λ x. x >>= λ y. equ_at old q.1) (sym next))

-- what a line's statement defines has a fault
pub equ_fault : (old new : Names) (place after : ℕ) (line : List Lexeme) (q : Option Definition × List Lexeme) (f : Fault) → q ≡ label_of place line → Ok after ≡ next_place old place q.1 → Err f ≡ equ_at old q.1 → IsLaying old new place line (Err (Faulty f))
equ_fault old new place after line q f p next equ = inl (defined old place after line q p next equ)

-- a line's label had a value
pub label_twice : (old mid new : Names) (place after : ℕ) (line : List Lexeme) (d : Option Definition) (q : Option Definition × List Lexeme) (e : LineError) → q ≡ label_of place line → Ok after ≡ next_place old place q.1 → Ok d ≡ equ_at old q.1 → IsDefining old mid q.0 (Err e) → IsLaying old new place line (Err e)
label_twice old mid new place after line d q OutOfMemory p next equ h = tt
label_twice old mid new place after line d q (Faulty f) p next equ h =
    inr (h.0, (d, defined old place after line q p next equ, inl (subst (λ (x : Option Definition × List Lexeme). IsTwice old x.0) p h.1)))

-- what a line's statement defines had a value
pub twice : (old mid new : Names) (place after : ℕ) (line : List Lexeme) (d : Option Definition) (q : Option Definition × List Lexeme) (e : LineError) → q ≡ label_of place line → Ok after ≡ next_place old place q.1 → Ok d ≡ equ_at old q.1 → Takes old mid q.0 → IsDefining mid new d (Err e) → IsLaying old new place line (Err e)
twice old mid new place after line d q OutOfMemory p next equ first h = tt
twice old mid new place after line d q (Faulty f) p next equ first h =
    inr (h.0, (d, defined old place after line q p next equ, inr (mid, subst (λ (x : Option Definition × List Lexeme). Takes old mid x.0) p first, h.1)))

pub ruleset layings = (lays_from, next_fault, equ_fault, label_twice, twice)

-- a line that can't be placed after those that are
pub placing_error : (lines : List (List Lexeme)) (i : ℕ) (names new : Names) (places : List ℕ) (place : ℕ) (line : List Lexeme) (e : LineError) → i < length lines → IsLaidTo lines i names places → place ≡ get_or places i 0 → line ≡ line_at lines i → IsLaying names new place line (Err e) → IsErrorOf lines (error_at (i + 1) e)
placing_error lines i names new places place line OutOfMemory inside laid at is h = tt
placing_error lines i names new places place line (Faulty f) inside laid at is h =
    (i, refl, (inside, inl (names, places, laid, subst (λ p. IsUnplaced names p (line_at lines i) f) at (subst (λ l. IsUnplaced names place l f) is h))))
