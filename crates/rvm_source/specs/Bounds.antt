-- The most body bytes of the next frame of a source.
use Rattle.std.specs.Prelude.{ℕ, ◌+◌, ◌*◌, Bool, false, ◌&&◌, if◌then◌else◌, is_some, length, nat_lt, not}
use Rattle.rvm_precopy.specs.Plans.{Plan, last_found}
use Rattle.rvm_state.specs.Spelling.{longest}
use Rattle.rvm_source.specs.declared.phase.Phase.{Phase}
use Rattle.rvm_source.specs.declared.phase.Phase.TheVariants as phases
use Rattle.rvm_source.specs.Sources.{PlainSource}

-- the guest is paused, and no page is left to be copied
abbrev pub is_copied : Phase → Plan → Bool
is_copied (phases.Stopped turn) r = not (is_some (last_found r))
is_copied phase r = false

-- the most body bytes of a State frame of a guest of this many pages
abbrev pub state_bound : (pages : ℕ) → ℕ
state_bound pages = 2 + 4 * pages + longest

-- the most body bytes of a source's next frame: a copy of a page or a piece of the state, with its numbers; in version
-- 1 the state is sent whole
abbrev pub body_bound : (version : ℕ) → PlainSource → ℕ
body_bound version s =
    if nat_lt version 2 && is_copied s.phase s.plan then state_bound (length s.plan.to_send) else 4102

-- the most body bytes of a frame of the state of a guest of this many pages: the whole state in version 1, and from
-- version 2 on a piece of it
abbrev pub state_frame_bound : (version pages : ℕ) → ℕ
state_frame_bound version pages = if nat_lt version 2 then state_bound pages else 4102
