-- How workers end.
use Rattle.std.proofs.Common.{◌≡◌, true, Option, inl, inr, refl}
use Rattle.std.specs.Prelude.{◌⊎◌}
use Rattle.rvm_frame.specs.declared.fault.FrameFault.{FrameFault}
use Rattle.rvm_frame.specs.declared.fault.FrameFault.TheVariants as fault
use Rattle.rvm_recorder.specs.declared.error.SliceError.{SliceError}
use Rattle.rvm_recorder.specs.declared.error.SliceError.TheVariants as slice_error
use Rattle.rvm_link.specs.declared.error.SendError.{SendError}
use Rattle.rvm_link.specs.declared.error.SendError.TheVariants as send_error
use Rattle.rvm_message.specs.Exchanges.{PlainExchange}
use Rattle.rvm_cell.specs.declared.end.WorkEnd.{WorkEnd}
use Rattle.rvm_cell.specs.declared.end.WorkEnd.TheVariants.{BadFrame, Done, Failed, GivenUp, GuestStopped, LinkEnded, LinkFault, NoThread, OutOfMemory, OutOfRange, RecorderFull, Stopped, TooLong}
use Rattle.rvm_cell.specs.Endings.{IsCopierEnd, is_uncalled}
use Rattle.rvm_cell.specs.Ends.{is_unsliced, of_frame, of_send, of_slice}
use Rattle.rvm_cell.specs.Heard.{IsFrameEnd}

-- no worker is done whose call was not made
pub uncalled_is_undone : (end : WorkEnd) → is_uncalled end ≡ true → end ≡ Done → ⊥
uncalled_is_undone Done is same = absurd cc
uncalled_is_undone LinkEnded is same = absurd cc
uncalled_is_undone GivenUp is same = absurd cc
uncalled_is_undone Stopped is same = absurd cc
uncalled_is_undone GuestStopped is same = absurd cc
uncalled_is_undone NoThread is same = absurd cc
uncalled_is_undone OutOfMemory is same = absurd cc
uncalled_is_undone (RecorderFull n) is same = absurd cc
uncalled_is_undone OutOfRange is same = absurd cc
uncalled_is_undone LinkFault is same = absurd cc
uncalled_is_undone BadFrame is same = absurd cc
uncalled_is_undone TooLong is same = absurd cc
uncalled_is_undone Failed is same = absurd cc

-- a copier may end without its call, whatever its last call was
pub uncalled_copier : (end : WorkEnd) (last : Option PlainExchange) → is_uncalled end ≡ true → IsCopierEnd end last
uncalled_copier Done last is = absurd cc
uncalled_copier LinkEnded last is = absurd cc
uncalled_copier GivenUp last is = absurd cc
uncalled_copier Stopped last is = is
uncalled_copier GuestStopped last is = absurd cc
uncalled_copier NoThread last is = absurd cc
uncalled_copier OutOfMemory last is = is
uncalled_copier (RecorderFull n) last is = is
uncalled_copier OutOfRange last is = absurd cc
uncalled_copier LinkFault last is = absurd cc
uncalled_copier BadFrame last is = absurd cc
uncalled_copier TooLong last is = absurd cc
uncalled_copier Failed last is = absurd cc

-- a receiver may end without its call, whatever its last call was
pub uncalled_end : (end : WorkEnd) (last : Option PlainExchange) → is_uncalled end ≡ true → IsFrameEnd end last
uncalled_end Done last is = absurd cc
uncalled_end LinkEnded last is = absurd cc
uncalled_end GivenUp last is = absurd cc
uncalled_end Stopped last is = is
uncalled_end GuestStopped last is = absurd cc
uncalled_end NoThread last is = absurd cc
uncalled_end OutOfMemory last is = is
uncalled_end (RecorderFull n) last is = is
uncalled_end OutOfRange last is = absurd cc
uncalled_end LinkFault last is = absurd cc
uncalled_end BadFrame last is = absurd cc
uncalled_end TooLong last is = absurd cc
uncalled_end Failed last is = absurd cc

-- a receiver that ends at a frame does not end with its link
pub not_the_links : (end : WorkEnd) (last : Option PlainExchange) → IsFrameEnd end last → end ≡ LinkEnded → ⊥
not_the_links Done last is same = absurd cc
not_the_links LinkEnded last is same = is
not_the_links GivenUp last is same = absurd cc
not_the_links Stopped last is same = absurd cc
not_the_links GuestStopped last is same = absurd cc
not_the_links NoThread last is same = absurd cc
not_the_links OutOfMemory last is same = absurd cc
not_the_links (RecorderFull n) last is same = absurd cc
not_the_links OutOfRange last is same = absurd cc
not_the_links LinkFault last is same = absurd cc
not_the_links BadFrame last is same = absurd cc
not_the_links TooLong last is same = absurd cc
not_the_links Failed last is same = absurd cc

-- how a receiver ends that could not read its link
pub read_end : (end : WorkEnd) (last : Option PlainExchange) → (end ≡ LinkFault) ⊎ (end ≡ LinkEnded)
    → IsFrameEnd end last ⊎ (end ≡ LinkEnded)
read_end Done last (inl is) = absurd cc
read_end Done last (inr is) = absurd cc
read_end LinkEnded last is = inr refl
read_end GivenUp last (inl is) = absurd cc
read_end GivenUp last (inr is) = absurd cc
read_end Stopped last (inl is) = absurd cc
read_end Stopped last (inr is) = absurd cc
read_end GuestStopped last (inl is) = absurd cc
read_end GuestStopped last (inr is) = absurd cc
read_end NoThread last (inl is) = absurd cc
read_end NoThread last (inr is) = absurd cc
read_end OutOfMemory last (inl is) = absurd cc
read_end OutOfMemory last (inr is) = absurd cc
read_end (RecorderFull n) last (inl is) = absurd cc
read_end (RecorderFull n) last (inr is) = absurd cc
read_end OutOfRange last (inl is) = absurd cc
read_end OutOfRange last (inr is) = absurd cc
read_end LinkFault last is = inl refl
read_end BadFrame last (inl is) = absurd cc
read_end BadFrame last (inr is) = absurd cc
read_end TooLong last (inl is) = absurd cc
read_end TooLong last (inr is) = absurd cc
read_end Failed last (inl is) = absurd cc
read_end Failed last (inr is) = absurd cc

-- a receiver that could not read a frame is not done
pub unread_is_undone : (why : FrameFault) → of_frame why ≡ Done → ⊥
unread_is_undone fault.OutOfMemory is = absurd cc
unread_is_undone fault.BadFrame is = absurd cc
unread_is_undone fault.TooLong is = absurd cc
unread_is_undone fault.Failed is = absurd cc

-- nor is one that could not send a frame
pub unsent_is_undone : (why : SendError) → of_send why ≡ Done → ⊥
unsent_is_undone send_error.OutOfMemory is = absurd cc
unsent_is_undone send_error.LinkFault is = absurd cc
unsent_is_undone send_error.BadFrame is = absurd cc

-- a receiver ends so at a frame that it could not read
pub unread_end : (why : FrameFault) (last : Option PlainExchange) → IsFrameEnd (of_frame why) last
unread_end fault.OutOfMemory last = refl
unread_end fault.BadFrame last = refl
unread_end fault.TooLong last = refl
unread_end fault.Failed last = refl

-- a receiver ends so at a frame that it could not send
pub unsent_end : (why : SendError) (last : Option PlainExchange) → IsFrameEnd (of_send why) last
unsent_end send_error.OutOfMemory last = refl
unsent_end send_error.LinkFault last = refl
unsent_end send_error.BadFrame last = refl

-- a worker whose slice was refused
pub unsliced : (why : SliceError) → is_unsliced (of_slice why) ≡ true
unsliced slice_error.OutOfRange = refl
unsliced slice_error.OutOfMemory = refl
unsliced (slice_error.RecorderFull n) = refl
