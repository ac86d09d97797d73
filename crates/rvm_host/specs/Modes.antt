-- The modes of a host, as plain values and as the protocol of live migration has them.
use Rattle.std.specs.Prelude.{ℕ, ◌==◌, ◌&&◌, Bool, true, false}
use Rattle.rvm_board.specs.Guest.{Guest}
use Rattle.rvm_handover.specs.Stages.{PlainStage, stage_of}
use Rattle.rvm_message.specs.Answers.{BoardMode}
use Rattle.rvm_protocol.specs.Modes as protocol
use Rattle.rvm_protocol.specs.Staging as staging
use Rattle.rvm_source.specs.Sources as source
use Rattle.rvm_source.specs.Sources.{PlainSource}
use Rattle.rvm_host.specs.declared.mode.Mode.{Mode}
use Rattle.rvm_host.specs.declared.mode.Mode.TheVariants as code

-- what a host has of a guest, and how far the highest move is that it has begun or staged
pub data PlainMode : Type 0 where
  Empty : (move : ℕ) → PlainMode
  Run : (move : ℕ) → (guest : Guest) → PlainMode
  Leaving : (source : PlainSource) → PlainMode
  Given : (move : ℕ) → (kept : Guest) → PlainMode
  Staging : (move : ℕ) → (stage : PlainStage) → PlainMode
  Held : (move : ℕ) → (guest : Guest) → PlainMode

-- a mode of the code, as plain values
abbrev pub plain_of : {M : Type 0} → Mode M → PlainMode
plain_of (code.Empty n) = Empty n
plain_of (code.Run n g) = Run n g.guest
plain_of (code.Leaving s) = Leaving s
plain_of (code.Given n s) = Given n s.guest.guest
plain_of (code.Staging n s) = Staging n s
plain_of (code.Held n g) = Held n g.guest

-- a mode, as the protocol has it
abbrev pub mode_of : PlainMode → BoardMode
mode_of (Empty n) = protocol.Empty n
mode_of (Run n g) = protocol.Run n g
mode_of (Leaving s) = source.mode_of s
mode_of (Given n g) = protocol.Given n g
mode_of (Staging n s) = protocol.Staging n (stage_of s)
mode_of (Held n g) = protocol.Held n g

-- whether the whole guest of this move is held here
abbrev pub is_held : (move : ℕ) → PlainMode → Bool
is_held k (Held n g) = n == k
is_held k mode = false

-- whether the guest of this move is staged here and its stage takes this piece of its state
abbrev pub takes_part : (move stamp part parts : ℕ) → PlainMode → Bool
takes_part k stamp part parts (Staging n s) = (n == k) && staging.takes_part (stage_of s) stamp part parts
takes_part k stamp part parts mode = false

-- whether the guest runs here and no move is going on
abbrev pub runs : PlainMode → Bool
runs (Run n g) = true
runs mode = false
