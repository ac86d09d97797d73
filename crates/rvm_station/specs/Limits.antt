-- The most turns that are made of a guest's harts, if there is a limit.
use Rattle.std.specs.Prelude.{⊤, ℕ, ◌≤◌, Option, None, Some}

-- this number of turns is within the limit, if there is one
abbrev pub MayBeMade : (most : Option ℕ) → (turns : ℕ) → Type 0
MayBeMade None turns = ⊤
MayBeMade (Some n) turns = turns ≤ n

-- there is a limit, and this number of turns reaches it
abbrev pub AreSpent : (most : Option ℕ) → (turns : ℕ) → Type 0
AreSpent None turns = ⊥
AreSpent (Some n) turns = n ≤ turns
