-- What buffers hold.
use Rattle.std.proofs.Common.{◌≡◌, ◌∙◌, ℕ, List, [], Option, None, Some, ap, ap₂, append-nil, refl}
use Rattle.std.specs.Io.KnownBytes.{append_known}

-- with no bytes more, known bytes stay as they are
nothing_more : (known : Option (List ℕ)) → append_known known [] ≡ known
nothing_more None = refl
nothing_more (Some bytes) = ap Some (append-nil bytes)

-- a buffer that holds nothing has the bytes of its writer
pub nothing_held : (inner known : Option (List ℕ)) (held : List ℕ) → inner ≡ known → held ≡ []
    → append_known inner held ≡ known
nothing_held inner known held same empty = ap₂ append_known same empty ∙ nothing_more known
