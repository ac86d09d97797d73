-- Worked values.
use Rattle.std.proofs.Common.{◌≡◌, true, false, refl}
use Rattle.rvm_frame.specs.Pages.{zeros}
use Rattle.rvm_frame.specs.declared.frame.Frame.TheVariants.{Page, Zero, RoundEnd, Go, Abort}
use Rattle.rvm_link.specs.Waiting.{may_wait}

-- the copy of page 2 waits, with its bytes or without
a_copy_waits : may_wait (Page 1 2 3 zeros) ≡ true
a_copy_waits = refl

a_copy_of_zeros_waits : may_wait (Zero 1 2 3) ≡ true
a_copy_of_zeros_waits = refl

-- the end of a round, the commit and the end of a move do not
the_end_of_a_round_goes_out : may_wait (RoundEnd 1 1 4 0 2) ≡ false
the_end_of_a_round_goes_out = refl

the_commit_goes_out : may_wait (Go 1) ≡ false
the_commit_goes_out = refl

an_abort_goes_out : may_wait (Abort 1) ≡ false
an_abort_goes_out = refl
