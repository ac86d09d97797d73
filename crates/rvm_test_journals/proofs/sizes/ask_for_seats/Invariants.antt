use Rattle.rvm_test_journals.proofs.sizes.ask_for_seats.Given as goal

-- the ledger of the blank that was just made
abbrev pub ghosts-tell_seats-L-Ledger : goal.ghosts-tell_seats-L-Ledger
ghosts-tell_seats-L-Ledger g a = record { name = a.blank.name; parts = a.blank.parts }

-- a seat for each of its parts, and the host that is shared
abbrev pub ghosts-tell_seats-L-Seating : goal.ghosts-tell_seats-L-Seating
ghosts-tell_seats-L-Seating g a = record { seats = a.blank.parts; opening = a.host.journal.opening; capacity = a.host.capacity }
