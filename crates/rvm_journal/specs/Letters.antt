-- The letters of hosts.
use Rattle.std.specs.Prelude.{ℕ, ◌+◌, min}

-- the letter of a host
abbrev pub letter_of : (host : ℕ) → ℕ
letter_of host = min (65 + host) 255
