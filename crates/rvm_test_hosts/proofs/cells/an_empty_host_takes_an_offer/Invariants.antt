use Rattle.rvm_test_hosts.proofs.cells.an_empty_host_takes_an_offer.Given as goal

-- the host that was just made
abbrev pub ghosts-play_empty : goal.ghosts-play_empty
ghosts-play_empty g a = record { opening = a.host }
