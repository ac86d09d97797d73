-- The pieces in which versions 2 and 3 of the stream send a state.
use Rattle.std.specs.Prelude.{ℕ, zero, suc, List, [], ◌∷◌, length, take, drop, Option}
use Rattle.rvm_frame.specs.Bodies as frame
use Rattle.rvm_guest.specs.Pages.{joined}

-- bytes in pieces of 4096, the last of which may be shorter; at most this many pieces
unfoldable pub pieces : (most : ℕ) → List ℕ → List (List ℕ)
pieces zero bytes = []
pieces (suc n) [] = []
pieces (suc n) (b ∷ bytes) = take 4096 (b ∷ bytes) ∷ pieces n (drop 4096 (b ∷ bytes))

-- the pieces of the newest copies' numbers and a state: those of the body of a State frame
unfoldable pub cut : List ℕ → List ℕ → List (List ℕ)
cut numbers body =
    let bytes = frame.state.write (numbers, body) in pieces (length bytes) bytes

-- the numbers and the state that pieces join to, if they join to any
unfoldable pub join : List (List ℕ) → Option (List ℕ × List ℕ)
join ps = frame.state.read (joined ps)
