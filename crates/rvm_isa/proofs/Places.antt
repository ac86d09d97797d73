-- The place of a word's kind, and what lies there.
use Rattle.std.proofs.Common.{◌≡◌, ℕ, zero, suc, ◌+◌, ◌*◌, ◌/◌, ◌%◌, ◌^◌, Bool, true, ◌&&◌, eqb, List, [], ◌∷◌, get_or, length, bit_and, refl, subst, arith}
use Rattle.std.proofs.lemmas.Bool.Decides.{nat_tests}
use Rattle.rvm_isa.proofs.Rows.{mask_707F}
use Rattle.rvm_isa.specs.Fields.{opcode, funct3}
use Rattle.rvm_isa.specs.declared.straight.Kind.{Kind}
use Rattle.rvm_isa.specs.declared.straight.Kind.TheVariants as kind
use Rattle.rvm_isa.specs.Straight.{Fits, kinds}

-- one product moves the opcode and funct3 to the top
pub moved : (w : ℕ) →
    bit_and w 0x707F * 0x2000480 % 2 ^ 32 / 2 ^ 22 ≡ 8 * (w % 2 ^ 7) + w / 2 ^ 12 % 2 ^ 3
moved w =
    let e = mask_707F w in
    omega (arith, e)

-- whether a kind is that of an opcode and a funct3
abbrev fits : Kind → (op f : ℕ) → Bool
fits kind.Other op f = true
fits kind.Lui op f = eqb op 0x37
fits kind.Auipc op f = eqb op 0x17
fits kind.Jal op f = eqb op 0x6F
fits kind.Jalr op f = eqb op 0x67 && eqb f 0
fits kind.Beq op f = eqb op 0x63 && eqb f 0
fits kind.Bne op f = eqb op 0x63 && eqb f 1
fits kind.Blt op f = eqb op 0x63 && eqb f 4
fits kind.Bge op f = eqb op 0x63 && eqb f 5
fits kind.Bltu op f = eqb op 0x63 && eqb f 6
fits kind.Bgeu op f = eqb op 0x63 && eqb f 7
fits kind.Lb op f = eqb op 0x03 && eqb f 0
fits kind.Lh op f = eqb op 0x03 && eqb f 1
fits kind.Lw op f = eqb op 0x03 && eqb f 2
fits kind.Lbu op f = eqb op 0x03 && eqb f 4
fits kind.Lhu op f = eqb op 0x03 && eqb f 5
fits kind.Sb op f = eqb op 0x23 && eqb f 0
fits kind.Sh op f = eqb op 0x23 && eqb f 1
fits kind.Sw op f = eqb op 0x23 && eqb f 2
fits kind.Addi op f = eqb op 0x13 && eqb f 0
fits kind.Slli op f = eqb op 0x13 && eqb f 1
fits kind.Slti op f = eqb op 0x13 && eqb f 2
fits kind.Sltiu op f = eqb op 0x13 && eqb f 3
fits kind.Xori op f = eqb op 0x13 && eqb f 4
fits kind.ShiftRightI op f = eqb op 0x13 && eqb f 5
fits kind.Ori op f = eqb op 0x13 && eqb f 6
fits kind.Andi op f = eqb op 0x13 && eqb f 7
fits kind.Add op f = eqb op 0x33 && eqb f 0
fits kind.Sll op f = eqb op 0x33 && eqb f 1
fits kind.Slt op f = eqb op 0x33 && eqb f 2
fits kind.Sltu op f = eqb op 0x33 && eqb f 3
fits kind.Xor op f = eqb op 0x33 && eqb f 4
fits kind.ShiftRight op f = eqb op 0x33 && eqb f 5
fits kind.Or op f = eqb op 0x33 && eqb f 6
fits kind.And op f = eqb op 0x33 && eqb f 7
fits kind.Fence op f = eqb op 0x0F && eqb f 0
fits kind.FenceI op f = eqb op 0x0F && eqb f 1
fits kind.Amo op f = eqb op 0x2F && eqb f 2
fits kind.System op f = eqb op 0x73 && eqb f 0

fits_holds : (k : Kind) (op f : ℕ) → fits k op f ≡ true → Fits k op f
fits_holds kind.Other op f e = refl
fits_holds kind.Lui op f e = grind (arith, nat_tests)
fits_holds kind.Auipc op f e = grind (arith, nat_tests)
fits_holds kind.Jal op f e = grind (arith, nat_tests)
fits_holds kind.Jalr op f e = grind (arith, nat_tests)
fits_holds kind.Beq op f e = grind (arith, nat_tests)
fits_holds kind.Bne op f e = grind (arith, nat_tests)
fits_holds kind.Blt op f e = grind (arith, nat_tests)
fits_holds kind.Bge op f e = grind (arith, nat_tests)
fits_holds kind.Bltu op f e = grind (arith, nat_tests)
fits_holds kind.Bgeu op f e = grind (arith, nat_tests)
fits_holds kind.Lb op f e = grind (arith, nat_tests)
fits_holds kind.Lh op f e = grind (arith, nat_tests)
fits_holds kind.Lw op f e = grind (arith, nat_tests)
fits_holds kind.Lbu op f e = grind (arith, nat_tests)
fits_holds kind.Lhu op f e = grind (arith, nat_tests)
fits_holds kind.Sb op f e = grind (arith, nat_tests)
fits_holds kind.Sh op f e = grind (arith, nat_tests)
fits_holds kind.Sw op f e = grind (arith, nat_tests)
fits_holds kind.Addi op f e = grind (arith, nat_tests)
fits_holds kind.Slli op f e = grind (arith, nat_tests)
fits_holds kind.Slti op f e = grind (arith, nat_tests)
fits_holds kind.Sltiu op f e = grind (arith, nat_tests)
fits_holds kind.Xori op f e = grind (arith, nat_tests)
fits_holds kind.ShiftRightI op f e = grind (arith, nat_tests)
fits_holds kind.Ori op f e = grind (arith, nat_tests)
fits_holds kind.Andi op f e = grind (arith, nat_tests)
fits_holds kind.Add op f e = grind (arith, nat_tests)
fits_holds kind.Sll op f e = grind (arith, nat_tests)
fits_holds kind.Slt op f e = grind (arith, nat_tests)
fits_holds kind.Sltu op f e = grind (arith, nat_tests)
fits_holds kind.Xor op f e = grind (arith, nat_tests)
fits_holds kind.ShiftRight op f e = grind (arith, nat_tests)
fits_holds kind.Or op f e = grind (arith, nat_tests)
fits_holds kind.And op f e = grind (arith, nat_tests)
fits_holds kind.Fence op f e = grind (arith, nat_tests)
fits_holds kind.FenceI op f e = grind (arith, nat_tests)
fits_holds kind.Amo op f e = grind (arith, nat_tests)
fits_holds kind.System op f e = grind (arith, nat_tests)

abbrev all_fit : (p : ℕ) → List Kind → Bool
all_fit p [] = true
all_fit p (k ∷ ks) = fits k (p / 8) (p % 8) && all_fit (suc p) ks

in_place : (p i : ℕ) (ks : List Kind) → all_fit p ks ≡ true →
    fits (get_or ks i kind.Other) ((i + p) / 8) ((i + p) % 8) ≡ true
in_place p i [] e = refl
in_place p zero (k ∷ ks) e =
    let o : p ≡ 0 + p = omega arith in
    let first : fits k (p / 8) (p % 8) ≡ true = grind arith in
    subst (λ n. fits k (n / 8) (n % 8) ≡ true) o first
in_place p (suc i) (k ∷ ks) e =
    let rest : all_fit (suc p) ks ≡ true = grind arith in
    let o : i + suc p ≡ suc i + p = omega arith in
    subst (λ n. fits (get_or ks i kind.Other) (n / 8) (n % 8) ≡ true) o (in_place (suc p) i ks rest)

kinds_fit : all_fit 0 kinds ≡ true
unfolding kinds
kinds_fit = refl

pub kinds_length : length kinds ≡ 1024
unfolding kinds
kinds_length = refl

-- the kind in the place of a word
pub kind_at : (w p : ℕ) → p ≡ 8 * opcode w + funct3 w → Fits (get_or kinds p kind.Other) (opcode w) (funct3 w)
kind_at w p e =
    let o : (p + 0) / 8 ≡ opcode w = omega (arith, e) in
    let f : (p + 0) % 8 ≡ funct3 w = omega (arith, e) in
    fits_holds _ (opcode w) (funct3 w)
    (subst (λ n. fits (get_or kinds p kind.Other) n (funct3 w) ≡ true) o
    (subst (λ n. fits (get_or kinds p kind.Other) ((p + 0) / 8) n ≡ true) f (in_place 0 p kinds kinds_fit)))
