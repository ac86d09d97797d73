-- A hart is the one of its number that keeps its values.
use Rattle.std.proofs.Common.{◌≡◌, ℕ, ◌<◌, List, [], ◌∷◌, length, take, drop, get_or, sym, ap, ◌∙◌, arith}
use Rattle.std.proofs.lemmas.List.{length-drop, take_all}
use Rattle.rvm_csr.specs.declared.fields.CsrFields.{CsrFields}
use Rattle.rvm_csr.specs.Registers.{CsrState}
use Rattle.rvm_csr.specs.Fields as csr
use Rattle.rvm_hart.specs.Machine.{HartState}
use Rattle.rvm_hart.specs.Fields.{with_number}

-- 31 of 32 registers are those after the first
pub all_behind : (regs others : List ℕ) → length regs ≡ 32 → others ≡ take 31 (drop 1 regs) → others ≡ drop 1 regs
all_behind regs others size e = e ∙ take_all 31 (drop 1 regs) (omega (arith, length-drop 1 regs))

-- the registers are x0, which is 0, and the others
registers_are : (regs : List ℕ) → 0 < length regs → get_or regs 0 0 ≡ 0 → 0 ∷ drop 1 regs ≡ regs
registers_are [] some none = absurd (omega (arith, some))
registers_are (x ∷ regs) some none = ap (λ y. y ∷ regs) (sym none)

pub whole : (regs others : List ℕ) (pc : ℕ) (s : CsrState) (f : CsrFields) → length regs ≡ 32 → get_or regs 0 0 ≡ 0 → others ≡ drop 1 regs → f ≡ csr.fields_of s
    → with_number s.hart (record { registers = others; pc = pc; csrs = f }) ≡ record { regs = regs; pc = pc; csrs = s }
whole regs others pc s f size none behind fields =
    let Made : List ℕ → CsrState → HartState = λ xs t. record { regs = xs; pc = pc; csrs = t } in
    ap (λ xs. Made (0 ∷ xs) (csr.with_number s.hart f)) behind
    ∙ ap (λ xs. Made xs (csr.with_number s.hart f)) (registers_are regs (omega (arith, size)) none)
    ∙ ap (λ (g : CsrFields). Made regs (csr.with_number s.hart g)) fields
