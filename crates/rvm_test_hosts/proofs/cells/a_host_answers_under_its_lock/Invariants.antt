use Rattle.rvm_test_hosts.proofs.cells.a_host_answers_under_its_lock.Given as goal

-- the host that was just made
abbrev pub ghosts-play : goal.ghosts-play
ghosts-play g a = record { opening = a.host }
