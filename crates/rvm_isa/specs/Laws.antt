-- What holds of the table as a whole.
use Rattle.std.specs.Prelude.{◌≡◌, ℕ, Some, bit_and, Contains, AllPairs, ◌↔◌}
use Rattle.rvm_isa.specs.declared.ins.Ins.{Ins}
use Rattle.rvm_isa.specs.Table.{Row, table, decoded, ins_of}

-- a word's bits under the mask equal the row's
abbrev pub HasRow : ℕ → Row → Type 0
HasRow w r = bit_and w r.mask ≡ r.bits

-- no word has two rows
abbrev pub NoWordHasTwoRows : Type 0
NoWordHasTwoRows = AllPairs (λ r s. (w : ℕ) → HasRow w r → HasRow w s → ⊥) table

-- a word is decoded if and only if the table has a row for it, as that row's instruction with the
-- word's fields
abbrev pub IsDecodedByItsRow : Type 0
IsDecodedByItsRow =
    (w : ℕ) (i : Ins) →
    (decoded w ≡ Some i) ↔ ((r : Row) × Contains table r × HasRow w r × (ins_of r.shape w ≡ i))
