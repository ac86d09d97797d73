use Rattle.rvm_test_memory.proofs.shared.call_new.Given as goal

-- the ledger of the blank that was just made
abbrev pub ghosts-called_in-L-Ledger : goal.ghosts-called_in-L-Ledger
ghosts-called_in-L-Ledger g a = record { name = a.blank.name; parts = a.blank.parts }

-- a seat for each of its parts, and the host that is shared
abbrev pub ghosts-called_in-L-Seating : goal.ghosts-called_in-L-Seating
ghosts-called_in-L-Seating g a = record { seats = a.blank.parts; opening = a.recorded.journal.opening; capacity = a.recorded.capacity }
