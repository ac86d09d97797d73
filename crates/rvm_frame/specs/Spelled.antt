-- Whether a frame has a spelling, as a test.
use Rattle.std.specs.Prelude.{ℕ, ◌+◌, ◌*◌, Bool, true, ◌&&◌, nat_le, length}
use Rattle.rvm_frame.specs.declared.addressed.Addressed.{Addressed}
use Rattle.rvm_frame.specs.declared.frame.Frame.{Frame}
use Rattle.rvm_frame.specs.declared.frame.Frame.TheVariants.{State}
use Rattle.rvm_frame.specs.Grammar.{body_fits, sent}
use Rattle.rvm_frame.specs.Kinds.{hosts_fit, kind_of, move_fits, move_of}

-- a body whose values are within their limits is not too long: only a State's can be
abbrev pub is_short : Frame → Bool
is_short (State m numbers bytes) = nat_le (2 + 4 * length numbers + length bytes) 32768
is_short f = true

-- the frame, from one host to another, has a spelling in streams of a version
abbrev pub is_spelled : ℕ → Addressed → Bool
is_spelled version a =
    hosts_fit (sent version a).0
    && (move_fits (kind_of a.frame) (move_of a.frame) && (body_fits a.frame && is_short a.frame))
