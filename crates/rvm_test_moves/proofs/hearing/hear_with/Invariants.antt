use Rattle.rvm_test_moves.proofs.hearing.hear_with.Given as goal

-- the ledger of the blank that was just made
abbrev pub ghosts-hear_at-L-Ledger : goal.ghosts-hear_at-L-Ledger
ghosts-hear_at-L-Ledger g a = record { name = a.blank.name; parts = a.blank.parts }

-- a seat for each of its parts, and the host that is shared
abbrev pub ghosts-hear_at-L-Seating : goal.ghosts-hear_at-L-Seating
ghosts-hear_at-L-Seating g a = record { seats = a.blank.parts; opening = a.recorded.journal.opening; capacity = a.recorded.capacity }
