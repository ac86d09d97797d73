-- Consecutive rows that are written.
use Rattle.std.proofs.Common.{ℕ, ◌+◌, ◌*◌, List, Option, add-one}
use Rattle.std.specs.Io.KnownBytes.{Appends}
use Rattle.rvm_debug.specs.Answers.{row_text, rows_text, four_text, fours_text}
use Rattle.rvm_debug.proofs.Running.{appends_more, appends_none}

pub rows_none : (a : ℕ) (bs : List ℕ) (w : Option (List ℕ)) → Appends w w (rows_text a bs 0)
unfolding rows_text
rows_none a bs w = appends_none w

pub rows_more : (a : ℕ) (bs : List ℕ) (n : ℕ) (u v w : Option (List ℕ)) → Appends u v (rows_text a bs n) → Appends v w (row_text a bs n) → Appends u w (rows_text a bs (n + 1))
unfolding rows_text
rows_more a bs n u v w p q = rw add-one (appends_more u v w (rows_text a bs n) (row_text a bs n) p q)

pub fours_none : (rs : List ℕ) (w : Option (List ℕ)) → Appends w w (fours_text rs 0)
unfolding fours_text
fours_none rs w = appends_none w

pub fours_more : (rs : List ℕ) (n : ℕ) (u v w : Option (List ℕ)) → Appends u v (fours_text rs n) → Appends v w (four_text rs (4 * n)) → Appends u w (fours_text rs (n + 1))
unfolding fours_text
fours_more rs n u v w p q = rw add-one (appends_more u v w (fours_text rs n) (four_text rs (4 * n)) p q)

pub ruleset rows = (rows_none, rows_more, fours_none, fours_more)
