-- Flags as a number, from the last to the first, and 64 of them cut out.
use Rattle.std.proofs.Common.{◌≡◌, ℕ, ◌+◌, ◌-◌, ◌*◌, ◌<◌, ◌≤◌, List, Bool, true, false, length, get_or, drop, sym, ap, ◌∙◌, arith, if◌then◌else◌, min, take}
use mir.Val.{bool_byte}
use Rattle.std.proofs.lemmas.List.{at_drop_more, at_drop_all, take_min, drop_min, length-drop}
use Rattle.rvm_mem.specs.Pages.{bits, window}

-- no flag is left above the highest
pub bits_none : (flags : List Bool) (n : ℕ) → length flags ≤ n → 0 ≡ bits (drop n flags)
unfolding bits
bits_none flags n short = sym (at_drop_all bits flags n short)

-- one flag lower
low_bit : (here : Bool) (rest v : ℕ) → v ≡ bool_byte here → 2 * rest + v ≡ (if here then 1 else 0) + 2 * rest
low_bit true rest v is = omega arith
low_bit false rest v is = omega arith

pub bits_more : (flags : List Bool) (i v : ℕ) → i < length flags → v ≡ bool_byte (get_or flags i false) → 2 * bits (drop (i + 1) flags) + v ≡ bits (drop i flags)
unfolding bits
bits_more flags i v inside is =
    low_bit (get_or flags i false) (bits (drop (i + 1) flags)) v is ∙ sym (at_drop_more bits flags i false inside)

-- 64 flags, cut at the end
pub windowed : (flags : List Bool) (page start end : ℕ) → start ≡ min page (length flags) → end ≡ min (start + 64) (length flags) → take (end - start) (drop start flags) ≡ window page flags
windowed flags page start end start_is end_is =
    let few : end - start ≡ min 64 (length (drop start flags)) = omega (arith, length-drop start flags) in
    ap (λ n. take n (drop start flags)) few ∙ take_min 64 (drop start flags) ∙ ap (λ n. take 64 (drop n flags)) start_is ∙ ap (take 64) (drop_min page flags)
