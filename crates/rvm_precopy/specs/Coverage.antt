-- No page is forgotten: what the source owes each page, while its guest runs and once it is paused.
use Rattle.std.specs.Prelude.{◌≡◌, ◌⊎◌, ℕ, ◌-◌, ◌/◌, ◌%◌, ◌<◌, ◌≤◌, true, List, Bool, length, get_or}
use Rattle.rvm_mem.specs.Pages.{bit, has}
use Rattle.rvm_precopy.specs.Plans.{Plan}

-- each page has a copy, or is still to be looked at in this round, or is in the dirty log; the dirty log still has the
-- pages that it had when it was peeked at; no copy has a number that was not given; and after the last round no page is
-- left to be looked at
pub record Covers (log : List Bool) (r : Plan) : Type 0 where
  pub page : (p : ℕ) → p < length r.to_send
      → (0 < get_or r.newest p 0) ⊎ (((has p r.to_send ≡ true) × (r.scan ≤ p)) ⊎ (has p log ≡ true))
  pub peeked : (p : ℕ) → p / 64 ≡ (r.scan - 1) / 64 → bit (p % 64) r.peeked ≡ true → has p log ≡ true
  pub numbers : (p : ℕ) → get_or r.newest p 0 ≤ r.copies
  pub over : r.stop ≡ true → length r.to_send ≤ r.scan

-- each page of the paused guest has a copy, or is still to be sent
pub record CoversLast (r : Plan) : Type 0 where
  pub page : (p : ℕ) → p < length r.to_send → (0 < get_or r.newest p 0) ⊎ (has p r.to_send ≡ true)
  pub numbers : (p : ℕ) → get_or r.newest p 0 ≤ r.copies
