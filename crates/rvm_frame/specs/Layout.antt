-- The parts of a body.
use Rattle.std.specs.Prelude.{ℕ, List, ◌++◌}
use Rattle.std.specs.List.{flat_map}
use Rattle.byteorder.specs.Endian.{little_bytes}

-- the bytes of fields, then of numbers of two bytes, then of numbers of four bytes, then other
-- bytes
abbrev pub joined : List ℕ → List ℕ → List ℕ → List ℕ → List ℕ
joined fields shorts longs bytes =
    fields ++ (flat_map (little_bytes 2) shorts ++ (flat_map (little_bytes 4) longs ++ bytes))
