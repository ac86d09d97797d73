-- The bytes of frames are a stream of these frames.
use Rattle.std.proofs.Common.{◌≡◌, ℕ, zero, suc, true, List, [], ◌∷◌, ◌++◌, map, Some, None, refl, sym, subst}
use Rattle.rvm_frame.specs.declared.frame.Frame.{Frame}
use Rattle.rvm_frame.specs.declared.frame.Frame.TheVariants as frame
use Rattle.rvm_frame.specs.Grammar.{Received}
use Rattle.rvm_frame.specs.Kinds.{kind_of, stands, version_after}
use Rattle.rvm_frame.specs.Stream.{Splits}
use Rattle.rvm_protocol.specs.Pages.{listed}
use Rattle.rvm_command.specs.Streams.{AreSpelled, bytes_of}

-- frames as they are read from a stream whose headers name no hosts
abbrev pub received : List Frame → List Received
received fs = map (λ f. (None, f)) fs

-- these frames are the rest of a stream of version 1
abbrev pub IsRest : List Frame → Type 0
IsRest fs = AreSpelled fs → Splits (Some 1) (bytes_of fs) (received fs) []

pub no_more : IsRest []
unfolding bytes_of
no_more s = (refl, refl)

pub one_more : (f : Frame) (fs : List Frame) → stands (Some 1) (kind_of f) ≡ true → version_after (Some 1) f ≡ Some 1
    → IsRest fs → IsRest (f ∷ fs)
unfolding bytes_of AreSpelled
one_more f fs stands same rest s = (
  s.0,
  (stands, refl),
  (
    bytes_of fs,
    refl,
    subst (λ v. Splits v (bytes_of fs) (received fs) []) (sym same) (rest s.1),
  ),
)

pub pages_more : (bytes : ℕ → List ℕ) (count first : ℕ) (fs : List Frame) → IsRest fs
    → IsRest (listed (λ p. frame.Page 1 p (suc p) (bytes p)) first count ++ fs)
unfolding listed
pages_more bytes zero first fs rest = rest
pages_more bytes (suc count) first fs rest =
    one_more (frame.Page 1 first (suc first) (bytes first))
    (listed (λ p. frame.Page 1 p (suc p) (bytes p)) (suc first) count ++ fs) refl refl
    (pages_more bytes count (suc first) fs rest)

-- after Hello the version is 1
pub begins : (fs : List Frame) → IsRest fs → AreSpelled (frame.Hello 1 ∷ fs)
    → Splits None (bytes_of (frame.Hello 1 ∷ fs)) (received (frame.Hello 1 ∷ fs)) []
unfolding bytes_of AreSpelled
begins fs rest s = (s.0, (refl, refl), (bytes_of fs, refl, rest s.1))
