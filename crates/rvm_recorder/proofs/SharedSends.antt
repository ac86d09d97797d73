-- What lies under the lock may go to any thread if its memory may.
use denote.RattleType.{RattleType}
use denote.Enum.Declared.{shape}
use denote.Enum.Enum.{Enum}
use denote.Struct.Declared as struct
use denote.Struct.Struct.{Struct}
use denote.Param.Send.{IsSend, IsSync, sendable}
use Rattle.std.proofs.Crossing.{crosses}
use Rattle.std.specs.declared.sync.ledger.Ledger as Ledger
use Rattle.std.proofs.sync.ledger.Book.TheSendSync.{the_send as book_send}
use Rattle.std.proofs.sync.ledger.Share.TheSendSync.{the_send as share_send}
use Rattle.rvm_mem.specs.declared.memory.Memory as Memory
use Rattle.rvm_recorder.specs.declared.seat.Seating as Seating
use Rattle.rvm_recorder.specs.contracts.items.ReceiptItem as ReceiptItem
use Rattle.rvm_recorder.specs.contracts.locked.Locked as Locked
use Rattle.rvm_recorder.specs.contracts.receipt.Receipt as Receipt
use Rattle.rvm_recorder.specs.contracts.round_receipts.RoundReceipts as RoundReceipts
use Rattle.rvm_recorder.specs.contracts.step_receipts.StepReceipts as StepReceipts
use Rattle.rvm_recorder.specs.contracts.seat.Seat as Seat
use Rattle.rvm_recorder.specs.contracts.shared.SharedHost as SharedHost
use Rattle.rvm_recorder.proofs.Sends.{exchange_send, recorded_send, room_send}

receipt_send : IsSend Receipt.the_row
receipt_send = search (exchange_send, sendable, crosses) depth 40 fits 10000

steps_send : IsSend (Struct (struct.shape StepReceipts.the_type))
steps_send = search (sendable, crosses) depth 40 fits 10000

rounds_send : IsSend (Struct (struct.shape RoundReceipts.the_type))
rounds_send = search (sendable, crosses) depth 40 fits 10000

pub item_send : IsSend (Enum (shape ReceiptItem.the_type))
item_send = search (receipt_send, rounds_send, steps_send, sendable, crosses) depth 40 fits 10000

pub seat_send : (L : RattleType) (g : Seating.Ghosts L.Denot) (h : Ledger.Ghosts L.Denot) → IsSend (Seat.the_row L g h)
seat_send L g h = search (share_send, room_send, item_send, sendable, crosses) depth 40 fits 10000

pub locked_send : (L M : RattleType) (g : Seating.Ghosts L.Denot) (h : Ledger.Ghosts L.Denot)
    (m : Memory.Ghosts M.Denot) → IsSend M → IsSend (Locked.the_row L M g h m)
locked_send L M g h m s = search (recorded_send, book_send, share_send, sendable, crosses) depth 40 fits 10000

pub shared_sync : (L M : RattleType) (g : Seating.Ghosts L.Denot) (h : Ledger.Ghosts L.Denot)
    (m : Memory.Ghosts M.Denot) → IsSend M → IsSync (SharedHost.the_row L M g h m)
shared_sync L M g h m s = search (locked_send, sendable, crosses) depth 40 fits 10000
