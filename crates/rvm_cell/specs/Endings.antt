-- What the last call of a worker tells of how it ended.
use Rattle.std.specs.Prelude.{◌≡◌, ℕ, ◌-◌, Bool, true, false, not, ◌&&◌, List, length, Option, option_map, slice_get, IsSomeAnd}
use Rattle.rvm_recorder.specs.Receipts.{PlainReceipt}
use Rattle.rvm_message.specs.declared.event.Command.TheVariants as command
use Rattle.rvm_message.specs.declared.event.HostEvent.{HostEvent}
use Rattle.rvm_message.specs.declared.event.HostEvent.TheVariants as event
use Rattle.rvm_message.specs.Exchanges.{PlainExchange, exchange}
use Rattle.rvm_cell.specs.declared.end.WorkEnd.{WorkEnd}
use Rattle.rvm_cell.specs.declared.end.WorkEnd.TheVariants.{Done, GivenUp, LinkFault, Stopped}
use Rattle.rvm_cell.specs.Ends.{is_short_of_room}
use Rattle.rvm_cell.specs.Next.{ends_hearing, is_gone, says_no_move}

-- the last of some calls and the reply to it, if there is a call
abbrev pub last_of : List PlainReceipt → Option PlainExchange
last_of receipts = option_map (λ r. exchange r.event r.reply) (slice_get receipts (length receipts - 1))

-- a worker ends so without its call: stopped at its gate, out of memory, or with a full journal
abbrev pub is_uncalled : WorkEnd → Bool
is_uncalled Stopped = true
is_uncalled end = is_short_of_room end

-- the host was asked to give up its move
abbrev pub gives_up : HostEvent → Bool
gives_up (event.Do command.Abort) = true
gives_up e = false

-- the host was asked to send its last frame again
abbrev pub asks_again : HostEvent → Bool
asks_again (event.Do command.Resend) = true
asks_again e = false

-- the host replied that it has no move
abbrev pub tells_done : PlainExchange → Bool
tells_done x = says_no_move x.reply

-- the host was asked to give up its move, and its guest was not gone
abbrev pub tells_given_up : PlainExchange → Bool
tells_given_up x = gives_up x.event && not (is_gone x.reply)

-- the host was asked to send its last frame again, and has a move still
abbrev pub tells_left : PlainExchange → Bool
tells_left x = asks_again x.event && not (says_no_move x.reply)

-- how a copier may end, by its last call: done, or with the move given up, only if the reply says so; with a failed
-- link only if the host still has a move after it was asked to send its last frame again; else without a call, stopped
-- at its gate, out of memory, or with a full journal
abbrev pub IsCopierEnd : WorkEnd → (last : Option PlainExchange) → Type 0
IsCopierEnd Done last = IsSomeAnd last (λ x. tells_done x ≡ true)
IsCopierEnd GivenUp last = IsSomeAnd last (λ x. tells_given_up x ≡ true)
IsCopierEnd LinkFault last = IsSomeAnd last (λ x. tells_left x ≡ true)
IsCopierEnd end last = is_uncalled end ≡ true

-- the last call of a receiver tells that the move is over for it
abbrev pub TellsOver : (last : Option PlainExchange) → Type 0
TellsOver last = IsSomeAnd last (λ x. ends_hearing x.reply ≡ true)
