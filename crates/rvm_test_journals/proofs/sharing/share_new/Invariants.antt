use Rattle.rvm_test_journals.proofs.sharing.share_new.Given as goal

-- the ledger of the blank that was just made
abbrev pub ghosts-share_and_try-L-Ledger : goal.ghosts-share_and_try-L-Ledger
ghosts-share_and_try-L-Ledger g a = record { name = a.blank.name; parts = a.blank.parts }

-- a seat for each of its parts, and the host that is shared
abbrev pub ghosts-share_and_try-L-Seating : goal.ghosts-share_and_try-L-Seating
ghosts-share_and_try-L-Seating g a = record { seats = a.blank.parts; opening = a.recorded.journal.opening; capacity = a.recorded.capacity }
