-- Sets of page numbers, as their tests, and tables by page number.
use Rattle.std.specs.Prelude.{ℕ, zero, suc, ◌+◌, Bool, true, false, ◌||◌, ◌==◌, if◌then◌else◌, List, [], ◌∷◌}
use Rattle.std.specs.declared.option.Option.{Option}
use Rattle.std.specs.declared.option.Option.TheVariants.{Some, None}

-- a set of page numbers
abbrev pub Pages : Type 0
Pages = ℕ → Bool

-- no page
abbrev pub none : Pages
none p = false

-- every page
abbrev pub all : Pages
all p = true

-- the table f, with value v at p
abbrev pub put : {V : Type 0} → (ℕ → V) → ℕ → V → ℕ → V
put f p v q = if q == p then v else f q

-- the lowest member among the count numbers from first
unfoldable pub least : Pages → ℕ → ℕ → Option ℕ
least s first zero = None
least s first (suc count) = if s first then Some first else least s (suc first) count

-- a first value and the rest, if both are there
abbrev pub with_first : {V : Type 0} → Option V → Option (List V) → Option (List V)
with_first (Some x) (Some xs) = Some (x ∷ xs)
with_first None xs = None
with_first x xs = None

-- the number of members below n
unfoldable pub size : Pages → ℕ → ℕ
size s zero = zero
size s (suc n) = (if s n then 1 else 0) + size s n

-- the values of f at the count numbers from first
unfoldable pub listed : {V : Type 0} → (ℕ → V) → ℕ → ℕ → List V
listed f first zero = []
listed f first (suc count) = f first ∷ listed f (suc first) count

-- the members among the count numbers from first, in rising order
unfoldable pub members : Pages → ℕ → ℕ → List ℕ
members s first zero = []
members s first (suc count) =
    if s first then first ∷ members s (suc first) count else members s (suc first) count

-- the values of f at the count numbers from first, if it has all of them
unfoldable pub gathered : {V : Type 0} → (ℕ → Option V) → ℕ → ℕ → Option (List V)
gathered f first zero = Some []
gathered f first (suc count) = with_first (f first) (gathered f (suc first) count)

-- the set of a list's numbers
unfoldable pub is_in : List ℕ → Pages
is_in [] p = false
is_in (q ∷ qs) p = (p == q) || is_in qs p
