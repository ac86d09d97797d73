-- Kinds of bytes of a line, which is ASCII.
use Rattle.std.specs.Prelude.{ℕ, Bool, ◌&&◌, ◌||◌, ◌==◌, nat_le}

-- a decimal digit
abbrev pub is_digit : ℕ → Bool
is_digit b = nat_le 48 b && nat_le b 57

-- a byte of a name or a number: a letter, a digit, '_' or '.'
abbrev pub is_word : ℕ → Bool
is_word b =
    (nat_le 97 b && nat_le b 122) || (nat_le 65 b && nat_le b 90) || is_digit b
    || b == 95 || b == 46

-- a space or a tab
abbrev pub is_space : ℕ → Bool
is_space b = b == 32 || b == 9

-- one of , : ( ) + - %
abbrev pub is_mark : ℕ → Bool
is_mark b = b == 44 || b == 58 || b == 40 || b == 41 || b == 43 || b == 45 || b == 37

-- what may stand after '\' in a string: n, t, 0, '"' or '\'
abbrev pub is_escape : ℕ → Bool
is_escape b = b == 110 || b == 116 || b == 48 || b == 34 || b == 92
