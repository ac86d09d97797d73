use Rattle.rvm_host_command.proofs.hosting.work_at.Given as goal

-- the host that was just made
abbrev pub ghosts-host_over : goal.ghosts-host_over
ghosts-host_over g a = record { opening = a.host }
