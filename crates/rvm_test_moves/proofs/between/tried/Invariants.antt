use Rattle.rvm_test_moves.proofs.between.tried.Given as goal

-- the ledgers of the blanks that were just made
abbrev pub ghosts-tried_at-L-Ledger : goal.ghosts-tried_at-L-Ledger
ghosts-tried_at-L-Ledger g a = record { name = a.blanks.0.name; parts = a.blanks.0.parts }

abbrev pub ghosts-tried_at-N-Ledger : goal.ghosts-tried_at-N-Ledger
ghosts-tried_at-N-Ledger g a = record { name = a.blanks.1.name; parts = a.blanks.1.parts }

-- a seat for each of their parts, and the hosts that are shared
abbrev pub ghosts-tried_at-L-Seating : goal.ghosts-tried_at-L-Seating
ghosts-tried_at-L-Seating g a = record { seats = a.blanks.0.parts; opening = a.a.journal.opening; capacity = a.a.capacity }

abbrev pub ghosts-tried_at-N-Seating : goal.ghosts-tried_at-N-Seating
ghosts-tried_at-N-Seating g a = record { seats = a.blanks.1.parts; opening = a.b.journal.opening; capacity = a.b.capacity }
