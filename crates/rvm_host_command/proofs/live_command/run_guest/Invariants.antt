use Rattle.rvm_host_command.proofs.live_command.run_guest.Given as goal

-- the host that was just made
abbrev pub ghosts-run_at : goal.ghosts-run_at
ghosts-run_at g a = record { opening = a.host }
