-- The state of a guest as it is sent, and the guest that a state and pages make.
--
-- Each guest that a host has is determined by its bytes (`HasSpelling` of `rvm_state`). The protocol of live migration
-- speaks of any guest, even of one with a number that its bytes have no room for, so no event needs a range. The values
-- of such a guest are sent as they are, after 256, which is no byte.
use Rattle.std.specs.Prelude.{ℕ, Bool, ◌==◌, if◌then◌else◌, List, ◌∷◌, length, drop, get_or, Option, Some, None}
use Rattle.rvm_codec.specs.Codec.{◌>>=◌}
use Rattle.rvm_board.specs.Guest.{Guest}
use Rattle.rvm_state.specs.Formats.{state}
use Rattle.rvm_state.specs.Spelling.{spelling}
use Rattle.rvm_board.specs.State.{State, state_of, guest_of}
use Rattle.rvm_guest.specs.Pages.{joined, size_of}
use Rattle.rvm_guest.specs.Values.{values}

-- whether the values of a guest fit in its bytes
abbrev pub has_bytes : Guest → Bool
has_bytes g = (state (size_of g)).fits (state_of g)

-- the state of a guest as it is sent: its bytes if its values fit in them, else 256 and the values
unfoldable pub body_of : Guest → List ℕ
body_of g = if has_bytes g then spelling g else 256 ∷ values.write (state_of g)

-- the values that are read from a state as it is sent, for a RAM of this many bytes
abbrev pub read_body : (size : ℕ) → List ℕ → Option State
read_body size body = if get_or body 0 0 == 256 then values.read (drop 1 body) else (state size).read body

-- the guest that a RAM and these values make, if it has this many harts
abbrev pub guest_if : (harts : ℕ) → (ram : List ℕ) → State → Option Guest
guest_if harts ram s = if length s.harts == harts then Some (guest_of ram s) else None

-- the guest of this many harts that pages and a state, as it is sent, make, if they make one
unfoldable pub build : (harts : ℕ) → List ℕ → List (List ℕ) → Option Guest
build harts body pages =
    let ram = joined pages in
    read_body (length ram) body >>= λ s. guest_if harts ram s
