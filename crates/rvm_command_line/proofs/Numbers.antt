-- A number without a sign.
use Rattle.std.proofs.Common.{◌≡◌, ◌==◌, ℕ, List, false, ap}
use Rattle.std.specs.Prelude.{cond, drop, slice_index}
use Rattle.std.specs.Str.Parse.{without_leading_plus}

-- a text that begins with no plus is read whole
pub unsigned : (text : List ℕ) → (slice_index text 0 == 43) ≡ false → without_leading_plus text ≡ text
unsigned text h = ap (λ plus. drop (cond plus 1 0) text) h
