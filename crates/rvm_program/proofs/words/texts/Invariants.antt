use Rattle.std.proofs.Common.{length, ◌-◌, ◌≡◌, ◌≤◌, map, take, vec_items}
use Rattle.rvm_program.proofs.words.texts.Given as goal

-- the words before this place were read
abbrev pub invariant-loop-place : goal.invariant-loop-place
invariant-loop-place l = (map (λ s. s.now) l.texts.items ≡ take l.place (map vec_items l.words))
    × (l.place ≤ length l.words)

abbrev pub decreases-loop-place : goal.decreases-loop-place
decreases-loop-place l = length l.words - l.place
