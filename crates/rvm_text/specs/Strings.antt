-- The text of a string, as it is written between its quotes.
use Rattle.std.specs.Prelude.{ℕ, ◌==◌, Bool, true, false, if◌then◌else◌, List, [], ◌∷◌}

-- the byte that an escape stands for: \n a line feed, \t a tab, \0 a zero, any other itself
abbrev pub escaped_byte : ℕ → ℕ
escaped_byte b = if b == 110 then 10 else (if b == 116 then 9 else (if b == 48 then 0 else b))

-- the text of what is left of a string, after a '\' or not
abbrev pub text_behind : (escaped : Bool) → List ℕ → List ℕ
text_behind escaped [] = []
text_behind true (b ∷ bs) = escaped_byte b ∷ text_behind false bs
text_behind false (b ∷ bs) =
    if b == 92 then text_behind true bs else b ∷ text_behind false bs

-- the text of a string
unfoldable pub text_of : List ℕ → List ℕ
text_of written = text_behind false written
