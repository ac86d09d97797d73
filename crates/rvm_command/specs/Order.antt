-- Which hart takes a turn.
use Rattle.std.specs.Prelude.{ℕ, ◌+◌, ◌*◌, ◌%◌, ◌^◌, Option, Some, None}
use Rattle.rand_xoshiro.specs.SplitMix64.{mix_u64}

-- the number that the generator SplitMix64 (Steele, Lea, Flood 2014) draws by a seed for turn t, counted from 0: its state
-- is the seed at first, and grows by this constant with each number
unfoldable pub number_drawn : (seed t : ℕ) → ℕ
number_drawn seed t = (mix_u64 ((seed + t * 0x9e3779b97f4a7c15) % 2 ^ 64)).0

-- the number whose remainder by the number of harts is the hart of turn t: without a seed that of the turn itself, so that
-- the harts take turns in the order of their numbers
abbrev pub drawn : (seed : Option ℕ) → (t : ℕ) → ℕ
drawn None t = t
drawn (Some seed) t = number_drawn seed t
