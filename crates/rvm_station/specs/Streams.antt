-- Which frames of a stream come to a host.
use Rattle.std.specs.List.{flat_map}
use Rattle.std.specs.Prelude.{ℕ, Bool, true, ◌==◌, ◌&&◌, List, [], ◌∷◌, Option, None, Some, if◌then◌else◌}
use Rattle.rvm_frame.specs.declared.frame.Frame.{Frame}
use Rattle.rvm_frame.specs.declared.frame.Frame.TheVariants.{Hello}
use Rattle.rvm_frame.specs.Grammar.{Received}

-- a frame may go from one host to the other: it names these two, or none
abbrev pub is_between : (from to : ℕ) → Option (ℕ × ℕ) → Bool
is_between from to None = true
is_between from to (Some h) = (h.0 == from) && (h.1 == to)

-- a frame of a stream as it comes to a host: none if it is Hello
abbrev pub for_host : Frame → List Frame
for_host (Hello version) = []
for_host frame = frame ∷ []

-- a frame of a stream as it comes to host `to` from host `from`: none if it is Hello, or names other hosts
abbrev pub comes : (from to : ℕ) → Received → List Frame
comes from to x = if is_between from to x.0 then for_host x.1 else []

-- the frames of a stream that come to host `to` from host `from`, in order
abbrev pub all_for_host : (from to : ℕ) → List Received → List Frame
all_for_host from to frames = flat_map (λ x. comes from to x) frames
