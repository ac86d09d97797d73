use Rattle.rvm_test_memory.proofs.shared.close_new.Given as goal

-- the ledger of the blank that was just made
abbrev pub ghosts-closed_in-L-Ledger : goal.ghosts-closed_in-L-Ledger
ghosts-closed_in-L-Ledger g a = record { name = a.blank.name; parts = a.blank.parts }

-- a seat for each of its parts, and the host that is shared
abbrev pub ghosts-closed_in-L-Seating : goal.ghosts-closed_in-L-Seating
ghosts-closed_in-L-Seating g a = record { seats = a.blank.parts; opening = a.recorded.journal.opening; capacity = a.recorded.capacity }
