-- What the masks of the registers leave of a word.
use Rattle.std.proofs.Common.{◌≡◌, ℕ, ◌+◌, ◌-◌, ◌*◌, ◌/◌, ◌%◌, ◌^◌, ◌<◌, bit_and, ap, sym, ◌∙◌, arith}
use Rattle.std.proofs.lemmas.Nat.{and_mask, and_block, div-add-mod'}

-- all bits but bit 1
pub and_not_2 : (word : ℕ) → word < 2 ^ 32 → bit_and word 0xFFFF_FFFD ≡ word - 2 * (word / 2 % 2)
and_not_2 word within =
    let split :
    bit_and word 0xFFFF_FFFD ≡
    bit_and (word / 2 ^ 2) 0x3FFF_FFFF * 2 ^ 2 + bit_and (word % 2 ^ 2) 1 =
    ap (λ n. bit_and n 0xFFFF_FFFD) (sym (div-add-mod' word (2 ^ 2))) ∙
    and_block 2 (word / 2 ^ 2) 0x3FFF_FFFF (word % 2 ^ 2) 1 (omega arith) (omega arith) in
    omega (arith, split, and_mask (word / 2 ^ 2) 30, and_mask (word % 2 ^ 2) 1)
