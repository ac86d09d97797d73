-- The state of the generator by which harts are drawn.
use Rattle.std.proofs.Common.{◌≡◌, ◌∙◌, ℕ, ◌+◌, ◌*◌, ◌%◌, ◌^◌, ap₂}
use Rattle.std.proofs.Math.Nat.{add-mod-mod}

-- the state for turn t, by what is computed of it
pub state_is : (seed t s n : ℕ) → s ≡ seed → n ≡ t
    → (s + n * 0x9e3779b97f4a7c15 % 2 ^ 64) % 2 ^ 64 ≡ (seed + t * 0x9e3779b97f4a7c15) % 2 ^ 64
state_is seed t s n same_seed same_turn =
    ap₂ (λ x y. (x + y * 0x9e3779b97f4a7c15 % 2 ^ 64) % 2 ^ 64) same_seed same_turn
    ∙ add-mod-mod seed (t * 0x9e3779b97f4a7c15) (2 ^ 64)
