use Rattle.rvm_test_journals.proofs.sizes.refuse_seats.Given as goal

-- the ledger of the blank that was just made
abbrev pub ghosts-refuse_share-L-Ledger : goal.ghosts-refuse_share-L-Ledger
ghosts-refuse_share-L-Ledger a = record { name = a.blank.name; parts = a.blank.parts }

-- a seat for each of its parts, and the host that is shared
abbrev pub ghosts-refuse_share-L-Seating : goal.ghosts-refuse_share-L-Seating
ghosts-refuse_share-L-Seating a = record { seats = a.blank.parts; opening = a.host.journal.opening; capacity = a.host.capacity }
