use Rattle.rvm_test_memory.proofs.shared.share_new.Given as goal

-- the ledger of the blank that was just made
abbrev pub ghosts-shared_in-L-Ledger : goal.ghosts-shared_in-L-Ledger
ghosts-shared_in-L-Ledger a = record { name = a.blank.name; parts = a.blank.parts }

-- a seat for each of its parts, and the host that is shared
abbrev pub ghosts-shared_in-L-Seating : goal.ghosts-shared_in-L-Seating
ghosts-shared_in-L-Seating a = record { seats = a.blank.parts; opening = a.recorded.journal.opening; capacity = a.recorded.capacity }
