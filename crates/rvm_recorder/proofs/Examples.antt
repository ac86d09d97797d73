-- Worked values.
use Rattle.std.proofs.Common.{◌≡◌, [], ◌∷◌, refl}
use Rattle.rvm_frame.specs.Pages.{zeros}
use Rattle.rvm_recorder.specs.Keeping.{told}

-- after a 0 stand all bytes, zeros among them
three_bytes : told (0 ∷ 7 ∷ 0 ∷ 1 ∷ []) ≡ 7 ∷ 0 ∷ 1 ∷ []
three_bytes = refl

-- after a 1 stand the bytes before a page of zeros
a_page_behind_two : told (1 ∷ 7 ∷ 8 ∷ []) ≡ 7 ∷ 8 ∷ zeros
a_page_behind_two = refl
