-- Rounds that continue others, and what is left of a round.
use Rattle.std.specs.Prelude.{◌≡◌, ℕ, ◌+◌, ◌-◌, ◌*◌, ◌/◌, ◌%◌, ◌<◌}
use Rattle.rvm_recorder.specs.declared.rounds.Rounds.{Rounds}
use Rattle.rvm_recorder.specs.declared.steps.Steps.{Steps}

-- the rounds `more` continue others, and there are n in all
pub record GoesOn (rounds more : Rounds) (n : ℕ) : Type 0 where
  pub turn : more.turn ≡ rounds.turn + rounds.count * rounds.steps
  pub harts : more.harts ≡ rounds.harts
  pub steps : more.steps ≡ rounds.steps
  pub drain : more.drain ≡ rounds.drain
  pub count : n ≡ rounds.count + more.count

-- after the first k entries of rounds, these steps are left of the round in which the next entry stands
pub record IsRowAt (r : Rounds) (k : ℕ) (s : Steps) : Type 0 where
  pub inside : k < r.count * (r.steps + 1)
  pub turn : s.turn ≡ r.turn + (k - k / (r.steps + 1))
  pub harts : s.harts ≡ r.harts
  pub count : s.count ≡ r.steps - k % (r.steps + 1)
