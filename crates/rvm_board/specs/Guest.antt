-- A guest as its debugger sees it: a board, breakpoints, and which harts stand at one.
use Rattle.std.specs.Prelude.{ℕ, ◌<◌, Bool, false, not, ◌==◌, nat_lt, List, [], ◌∷◌, ◌++◌, length, filter, replicate}
use Rattle.std.specs.List.{list_any}
use Rattle.rvm_board.specs.Board.{Board}

-- the board, the breakpoints in rising order, and for each hart whether it stopped at pc and has not stepped since
pub record Guest : Type 0 where
  pub board : Board
  pub breakpoints : List ℕ
  pub stopped : List Bool

-- a guest, and for each page of its RAM whether it is in the dirty log
pub record GuestState : Type 0 where
  pub guest : Guest
  pub dirty : List Bool

-- an address is in a list
abbrev pub is_in : ℕ → List ℕ → Bool
is_in a bs = list_any (λ b. b == a) bs

-- a rising list with one more address
abbrev pub with : ℕ → List ℕ → List ℕ
with a bs = filter (λ b. nat_lt b a) bs ++ (a ∷ filter (λ b. nat_lt a b) bs)

-- a rising list without an address
abbrev pub without : ℕ → List ℕ → List ℕ
without a bs = filter (λ b. not (b == a)) bs

-- all numbers of a list are above a number
abbrev pub AreAbove : ℕ → List ℕ → Type 0
AreAbove a [] = Unit {0}
AreAbove a (b ∷ bs) = (a < b) × AreAbove a bs

-- each number of a list is below all that follow
abbrev pub AreRising : List ℕ → Type 0
AreRising [] = Unit {0}
AreRising (b ∷ bs) = AreAbove b bs × AreRising bs

-- a guest without breakpoints
abbrev pub fresh : Board → Guest
fresh b = record { board = b; breakpoints = []; stopped = replicate (length b.harts) false }
