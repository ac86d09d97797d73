-- Frames that may wait until more is sent.
use Rattle.std.specs.Prelude.{Bool, true, false}
use Rattle.rvm_frame.specs.declared.frame.Frame.{Frame}
use Rattle.rvm_frame.specs.declared.frame.Frame.TheVariants.{Page, Zero}

-- the copy of a page: another frame of its move always follows it
abbrev pub may_wait : Frame → Bool
may_wait (Page move_number page copy_number bytes) = true
may_wait (Zero move_number page copy_number) = true
may_wait frame = false
