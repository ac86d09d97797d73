use Rattle.rvm_move.proofs.move_over.move_recorded.Given as goal

-- the ledgers of the blanks that were just made
abbrev pub ghosts-move_guest-L-Ledger : goal.ghosts-move_guest-L-Ledger
ghosts-move_guest-L-Ledger g a = record { name = a.blanks.0.name; parts = a.blanks.0.parts }

abbrev pub ghosts-move_guest-N-Ledger : goal.ghosts-move_guest-N-Ledger
ghosts-move_guest-N-Ledger g a = record { name = a.blanks.1.name; parts = a.blanks.1.parts }

-- a seat for each of their parts, and the hosts that are shared
abbrev pub ghosts-move_guest-L-Seating : goal.ghosts-move_guest-L-Seating
ghosts-move_guest-L-Seating g a = record { seats = a.blanks.0.parts; opening = a.recorded.0.journal.opening; capacity = a.recorded.0.capacity }

abbrev pub ghosts-move_guest-N-Seating : goal.ghosts-move_guest-N-Seating
ghosts-move_guest-N-Seating g a = record { seats = a.blanks.1.parts; opening = a.recorded.1.journal.opening; capacity = a.recorded.1.capacity }
