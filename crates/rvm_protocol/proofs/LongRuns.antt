-- Longer runs, whose replies were computed by another program, written from the rules in words.
use Rattle.std.proofs.Common.{◌≡◌, ℕ, ◌==◌, if◌then◌else◌, [], ◌∷◌, refl}
use Rattle.rvm_protocol.specs.Commands.{Board, Begin, Copy, Resend, AbortMove}
use Rattle.rvm_protocol.specs.Pages.{least, size, listed, members, gathered, is_in}
use Rattle.rvm_protocol.specs.Replies.{Busy, NotHere, Paused, Ignored, BadHost, BadSize, NoFrame, NoMove, Answered, Begun, Copied, RoundEnded, Stopping, StateSent, PartSent, Resent, Aborted, Accepted, Declined, Open, MoveDeclined, Stored, Noted, Kept, Lacking, ReadySent, Fixing, Committed, StartedHere, Dropped, Refused}
use Rattle.rvm_protocol.specs.World.{Event, At, Deliver, replies, new_world}
use Rattle.rvm_protocol.proofs.Counter.{CounterEvent, Tick, Write, counter, split_counter, fresh, policy}

abbrev d : ℕ → Event CounterEvent
d k = Deliver k

late_offers : replies counter (new_world counter 3 0 (fresh 2) 3 (λ x. 4096))
    (At 0 (Begin 1 (policy 3 1 3)) ∷ d 0 ∷ d 1 ∷ At 0 Copy ∷ At 0 AbortMove
    ∷ At 0 (Begin 2 (policy 3 1 3)) ∷ d 4 ∷ d 0 ∷ d 4 ∷ d 5 ∷ At 0 Copy ∷ At 0 Copy ∷ At 0 AbortMove
    ∷ At 0 (Begin 1 (policy 3 1 3)) ∷ d 0 ∷ d 4 ∷ d 9 ∷ d 0 ∷ d 3 ∷ d 4 ∷ d 10 ∷ At 0 Copy
    ∷ At 0 Copy ∷ At 0 Copy ∷ d 10 ∷ d 11 ∷ d 12 ∷ d 13 ∷ At 0 Copy ∷ At 0 Copy ∷ d 14 ∷ d 4 ∷ d 8
    ∷ d 3 ∷ At 0 (Board Tick) ∷ At 1 (Board Tick) ∷ At 2 (Board Tick) ∷ d 15 ∷ d 16 ∷ d 17
    ∷ At 0 (Board Tick) ∷ At 1 (Board Tick) ∷ At 2 (Board Tick) ∷ d 0 ∷ d 4 ∷ d 9 ∷ d 8 ∷ d 3 ∷ [])
    ≡ Begun 1 ∷ Accepted ∷ Open ∷ Copied 0 1 ∷ Aborted ∷ Begun 2 ∷ Accepted ∷ Accepted ∷ Accepted
    ∷ Open ∷ Copied 0 1 ∷ Copied 1 2 ∷ Aborted ∷ Begun 3 ∷ Accepted ∷ Accepted ∷ Stored 1 2
    ∷ Accepted ∷ Dropped ∷ Accepted ∷ Dropped ∷ Refused Busy ∷ Refused Busy ∷ Refused Busy
    ∷ Refused Ignored ∷ Accepted ∷ Refused Ignored ∷ Refused Ignored ∷ Refused Busy ∷ Refused Busy
    ∷ Refused Ignored ∷ Refused Ignored ∷ Refused Ignored ∷ Refused Ignored ∷ Answered 0
    ∷ Refused NotHere ∷ Refused NotHere ∷ Refused Ignored ∷ Open ∷ Refused NoFrame ∷ Answered 1
    ∷ Refused NotHere ∷ Refused NotHere ∷ Refused Ignored ∷ Refused Ignored ∷ Refused Ignored
    ∷ Refused Ignored ∷ Refused Ignored ∷ []
unfolding replies least size listed members gathered is_in
late_offers = refl

resends : replies counter (new_world counter 1 0 (fresh 2) 2 (λ x. 4096))
    (At 0 Resend ∷ At 1 Resend ∷ At 0 (Begin 1 (policy 3 1 3)) ∷ At 0 Resend ∷ At 1 Resend ∷ d 0
    ∷ At 1 Resend ∷ At 0 Resend ∷ d 1 ∷ d 0 ∷ d 2 ∷ d 4 ∷ At 0 Resend ∷ At 0 Copy ∷ At 0 Resend
    ∷ At 0 Copy ∷ At 0 Copy ∷ At 0 Resend ∷ At 0 Copy ∷ At 0 Resend ∷ d 7 ∷ d 8 ∷ At 1 Resend ∷ [])
    ≡ Refused NoMove ∷ Refused NoMove ∷ Begun 1 ∷ Resent ∷ Refused NoMove ∷ Accepted
    ∷ Refused NoMove ∷ Resent ∷ Accepted ∷ Accepted ∷ Open ∷ Refused Ignored ∷ Refused NoMove
    ∷ Copied 0 1 ∷ Refused NoMove ∷ Copied 1 2 ∷ RoundEnded 1 2 0 0 ∷ Refused NoMove ∷ Stopping
    ∷ Resent ∷ Stored 1 2 ∷ Noted ∷ Refused NoMove ∷ []
unfolding replies least size listed members gathered is_in
resends = refl

abort_at_each_point : replies counter (new_world counter 1 0 (fresh 2) 2 (λ x. 4096))
    (At 0 (Begin 1 (policy 3 1 3)) ∷ At 0 AbortMove ∷ At 0 (Board Tick) ∷ At 1 (Board Tick)
    ∷ At 0 AbortMove ∷ At 1 AbortMove ∷ At 0 (Begin 1 (policy 3 1 3)) ∷ d 2 ∷ At 0 AbortMove
    ∷ At 0 (Board Tick) ∷ At 1 (Board Tick) ∷ At 0 AbortMove ∷ At 1 AbortMove
    ∷ At 0 (Begin 1 (policy 3 1 3)) ∷ d 5 ∷ d 6 ∷ At 0 AbortMove ∷ At 0 (Board Tick)
    ∷ At 1 (Board Tick) ∷ At 0 AbortMove ∷ At 1 AbortMove ∷ At 0 (Begin 1 (policy 3 1 3)) ∷ d 8
    ∷ d 9 ∷ At 0 Copy ∷ At 0 AbortMove ∷ At 0 (Board Tick) ∷ At 1 (Board Tick) ∷ At 0 AbortMove
    ∷ At 1 AbortMove ∷ At 0 (Begin 1 (policy 3 1 3)) ∷ d 12 ∷ d 13 ∷ At 0 Copy ∷ At 0 Copy
    ∷ At 0 AbortMove ∷ At 0 (Board Tick) ∷ At 1 (Board Tick) ∷ At 0 AbortMove ∷ At 1 AbortMove
    ∷ At 0 (Begin 1 (policy 3 1 3)) ∷ d 17 ∷ d 18 ∷ At 0 Copy ∷ At 0 Copy ∷ At 0 Copy
    ∷ At 0 AbortMove ∷ At 0 (Board Tick) ∷ At 1 (Board Tick) ∷ At 0 AbortMove ∷ At 1 AbortMove
    ∷ At 0 (Begin 1 (policy 3 1 3)) ∷ d 23 ∷ d 24 ∷ At 0 Copy ∷ At 0 Copy ∷ At 0 Copy ∷ d 25
    ∷ At 0 AbortMove ∷ At 0 (Board Tick) ∷ At 1 (Board Tick) ∷ At 0 AbortMove ∷ At 1 AbortMove
    ∷ At 0 (Begin 1 (policy 3 1 3)) ∷ d 29 ∷ d 30 ∷ At 0 Copy ∷ At 0 Copy ∷ At 0 Copy ∷ d 31 ∷ d 32
    ∷ At 0 AbortMove ∷ At 0 (Board Tick) ∷ At 1 (Board Tick) ∷ At 0 AbortMove ∷ At 1 AbortMove
    ∷ At 0 (Begin 1 (policy 3 1 3)) ∷ d 35 ∷ d 36 ∷ At 0 Copy ∷ At 0 Copy ∷ At 0 Copy ∷ d 37 ∷ d 38
    ∷ d 39 ∷ At 0 AbortMove ∷ At 0 (Board Tick) ∷ At 1 (Board Tick) ∷ At 0 AbortMove
    ∷ At 1 AbortMove ∷ At 0 (Begin 1 (policy 3 1 3)) ∷ d 41 ∷ d 42 ∷ At 0 Copy ∷ At 0 Copy
    ∷ At 0 Copy ∷ d 43 ∷ d 44 ∷ d 45 ∷ At 0 Copy ∷ At 0 AbortMove ∷ At 0 (Board Tick)
    ∷ At 1 (Board Tick) ∷ At 0 AbortMove ∷ At 1 AbortMove ∷ At 0 (Begin 1 (policy 3 1 3)) ∷ d 47
    ∷ d 48 ∷ At 0 Copy ∷ At 0 Copy ∷ At 0 Copy ∷ d 49 ∷ d 50 ∷ d 51 ∷ At 0 Copy ∷ At 0 Copy
    ∷ At 0 AbortMove ∷ At 0 (Board Tick) ∷ At 1 (Board Tick) ∷ At 0 AbortMove ∷ At 1 AbortMove
    ∷ At 0 (Begin 1 (policy 3 1 3)) ∷ d 54 ∷ d 55 ∷ At 0 Copy ∷ At 0 Copy ∷ At 0 Copy ∷ d 56 ∷ d 57
    ∷ d 58 ∷ At 0 Copy ∷ At 0 Copy ∷ d 59 ∷ At 0 AbortMove ∷ At 0 (Board Tick) ∷ At 1 (Board Tick)
    ∷ At 0 AbortMove ∷ At 1 AbortMove ∷ d 61 ∷ d 60 ∷ At 0 (Begin 1 (policy 3 1 3)) ∷ d 62 ∷ d 61
    ∷ [])
    ≡ Begun 1 ∷ Aborted ∷ Answered 0 ∷ Refused NotHere ∷ Refused NoMove ∷ Refused NotHere ∷ Begun 2
    ∷ Accepted ∷ Aborted ∷ Answered 1 ∷ Refused NotHere ∷ Refused NoMove ∷ Refused NotHere ∷ Begun 3
    ∷ Accepted ∷ Open ∷ Aborted ∷ Answered 2 ∷ Refused NotHere ∷ Refused NoMove ∷ Refused NotHere
    ∷ Begun 4 ∷ Accepted ∷ Open ∷ Copied 0 1 ∷ Aborted ∷ Answered 3 ∷ Refused NotHere
    ∷ Refused NoMove ∷ Refused NotHere ∷ Begun 5 ∷ Accepted ∷ Open ∷ Copied 0 1 ∷ Copied 1 2
    ∷ Aborted ∷ Answered 4 ∷ Refused NotHere ∷ Refused NoMove ∷ Refused NotHere ∷ Begun 6 ∷ Accepted
    ∷ Open ∷ Copied 0 1 ∷ Copied 1 2 ∷ RoundEnded 1 2 0 0 ∷ Aborted ∷ Answered 5 ∷ Refused NotHere
    ∷ Refused NoMove ∷ Refused NotHere ∷ Begun 7 ∷ Accepted ∷ Open ∷ Copied 0 1 ∷ Copied 1 2
    ∷ RoundEnded 1 2 0 0 ∷ Stored 0 1 ∷ Aborted ∷ Answered 6 ∷ Refused NotHere ∷ Refused NoMove
    ∷ Refused NotHere ∷ Begun 8 ∷ Accepted ∷ Open ∷ Copied 0 1 ∷ Copied 1 2 ∷ RoundEnded 1 2 0 0
    ∷ Stored 0 1 ∷ Stored 1 2 ∷ Aborted ∷ Answered 7 ∷ Refused NotHere ∷ Refused NoMove
    ∷ Refused NotHere ∷ Begun 9 ∷ Accepted ∷ Open ∷ Copied 0 1 ∷ Copied 1 2 ∷ RoundEnded 1 2 0 0
    ∷ Stored 0 1 ∷ Stored 1 2 ∷ Noted ∷ Aborted ∷ Answered 8 ∷ Refused NotHere ∷ Refused NoMove
    ∷ Refused NotHere ∷ Begun 10 ∷ Accepted ∷ Open ∷ Copied 0 1 ∷ Copied 1 2 ∷ RoundEnded 1 2 0 0
    ∷ Stored 0 1 ∷ Stored 1 2 ∷ Noted ∷ Stopping ∷ Aborted ∷ Answered 9 ∷ Refused NotHere
    ∷ Refused NoMove ∷ Refused NotHere ∷ Begun 11 ∷ Accepted ∷ Open ∷ Copied 0 1 ∷ Copied 1 2
    ∷ RoundEnded 1 2 0 0 ∷ Stored 0 1 ∷ Stored 1 2 ∷ Noted ∷ Stopping ∷ StateSent ∷ Aborted
    ∷ Answered 10 ∷ Refused NotHere ∷ Refused NoMove ∷ Refused NotHere ∷ Begun 12 ∷ Accepted ∷ Open
    ∷ Copied 0 1 ∷ Copied 1 2 ∷ RoundEnded 1 2 0 0 ∷ Stored 0 1 ∷ Stored 1 2 ∷ Noted ∷ Stopping
    ∷ StateSent ∷ ReadySent ∷ Aborted ∷ Answered 11 ∷ Refused Paused ∷ Refused NoMove
    ∷ Refused NotHere ∷ Dropped ∷ Refused Ignored ∷ Begun 13 ∷ Accepted ∷ Refused Ignored ∷ []
unfolding replies least size listed members gathered is_in
abort_at_each_point = refl

peeks : replies counter (new_world counter 1 0 (fresh 130) 2 (λ x. 4096))
    (At 0 (Begin 1 (policy 5 1 3)) ∷ d 0 ∷ d 1 ∷ At 0 (Board (Write 70 1))
    ∷ At 0 (Board (Write 129 1)) ∷ At 0 Copy ∷ At 0 Copy ∷ At 0 Copy ∷ At 0 Copy ∷ At 0 Copy
    ∷ At 0 Copy ∷ At 0 Copy ∷ At 0 Copy ∷ At 0 Copy ∷ At 0 Copy ∷ At 0 Copy ∷ At 0 Copy ∷ At 0 Copy
    ∷ At 0 Copy ∷ At 0 Copy ∷ At 0 Copy ∷ At 0 Copy ∷ At 0 Copy ∷ At 0 Copy ∷ At 0 Copy ∷ At 0 Copy
    ∷ At 0 Copy ∷ At 0 Copy ∷ At 0 Copy ∷ At 0 Copy ∷ At 0 Copy ∷ At 0 Copy ∷ At 0 Copy ∷ At 0 Copy
    ∷ At 0 Copy ∷ At 0 Copy ∷ At 0 Copy ∷ At 0 Copy ∷ At 0 Copy ∷ At 0 Copy ∷ At 0 Copy ∷ At 0 Copy
    ∷ At 0 Copy ∷ At 0 Copy ∷ At 0 Copy ∷ At 0 Copy ∷ At 0 Copy ∷ At 0 Copy ∷ At 0 Copy ∷ At 0 Copy
    ∷ At 0 Copy ∷ At 0 Copy ∷ At 0 Copy ∷ At 0 Copy ∷ At 0 Copy ∷ At 0 Copy ∷ At 0 Copy ∷ At 0 Copy
    ∷ At 0 Copy ∷ At 0 Copy ∷ At 0 Copy ∷ At 0 Copy ∷ At 0 Copy ∷ At 0 Copy ∷ At 0 Copy ∷ At 0 Copy
    ∷ At 0 Copy ∷ At 0 Copy ∷ At 0 Copy ∷ At 0 (Board (Write 64 1)) ∷ At 0 (Board (Write 65 0))
    ∷ At 0 (Board (Write 3 2)) ∷ At 0 Copy ∷ At 0 (Board (Write 66 1)) ∷ At 0 (Board (Write 128 1))
    ∷ At 0 (Board (Write 67 3)) ∷ At 0 Copy ∷ At 0 Copy ∷ At 0 Copy ∷ At 0 Copy ∷ At 0 Copy
    ∷ At 0 Copy ∷ At 0 Copy ∷ At 0 Copy ∷ At 0 Copy ∷ At 0 Copy ∷ At 0 Copy ∷ At 0 Copy ∷ At 0 Copy
    ∷ At 0 Copy ∷ At 0 Copy ∷ At 0 Copy ∷ At 0 Copy ∷ At 0 Copy ∷ At 0 Copy ∷ At 0 Copy ∷ At 0 Copy
    ∷ At 0 Copy ∷ At 0 Copy ∷ At 0 Copy ∷ At 0 Copy ∷ At 0 Copy ∷ At 0 Copy ∷ At 0 Copy ∷ At 0 Copy
    ∷ At 0 Copy ∷ At 0 Copy ∷ At 0 Copy ∷ At 0 Copy ∷ At 0 Copy ∷ At 0 Copy ∷ At 0 Copy ∷ At 0 Copy
    ∷ At 0 Copy ∷ At 0 Copy ∷ At 0 Copy ∷ At 0 Copy ∷ At 0 Copy ∷ At 0 Copy ∷ At 0 Copy ∷ At 0 Copy
    ∷ At 0 Copy ∷ At 0 Copy ∷ At 0 Copy ∷ At 0 Copy ∷ At 0 Copy ∷ At 0 Copy ∷ At 0 Copy ∷ At 0 Copy
    ∷ At 0 Copy ∷ At 0 Copy ∷ At 0 Copy ∷ At 0 Copy ∷ At 0 Copy ∷ At 0 Copy ∷ At 0 Copy
    ∷ At 0 (Board (Write 127 1)) ∷ At 0 Copy ∷ At 0 Copy ∷ At 0 Copy ∷ At 0 Copy ∷ At 0 Copy
    ∷ At 0 Copy ∷ At 0 Copy ∷ At 0 Copy ∷ At 0 Copy ∷ At 0 Copy ∷ At 0 Copy ∷ At 0 Copy ∷ At 0 Copy
    ∷ At 0 (Board (Write 64 1)) ∷ At 0 Copy ∷ At 0 Copy ∷ At 0 Copy ∷ At 0 Copy ∷ At 0 Copy
    ∷ At 0 Copy ∷ At 0 Copy ∷ At 0 Copy ∷ [])
    ≡ Begun 1 ∷ Accepted ∷ Open ∷ Answered 0 ∷ Answered 1 ∷ Copied 0 1 ∷ Copied 1 2 ∷ Copied 2 3
    ∷ Copied 3 4 ∷ Copied 4 5 ∷ Copied 5 6 ∷ Copied 6 7 ∷ Copied 7 8 ∷ Copied 8 9 ∷ Copied 9 10
    ∷ Copied 10 11 ∷ Copied 11 12 ∷ Copied 12 13 ∷ Copied 13 14 ∷ Copied 14 15 ∷ Copied 15 16
    ∷ Copied 16 17 ∷ Copied 17 18 ∷ Copied 18 19 ∷ Copied 19 20 ∷ Copied 20 21 ∷ Copied 21 22
    ∷ Copied 22 23 ∷ Copied 23 24 ∷ Copied 24 25 ∷ Copied 25 26 ∷ Copied 26 27 ∷ Copied 27 28
    ∷ Copied 28 29 ∷ Copied 29 30 ∷ Copied 30 31 ∷ Copied 31 32 ∷ Copied 32 33 ∷ Copied 33 34
    ∷ Copied 34 35 ∷ Copied 35 36 ∷ Copied 36 37 ∷ Copied 37 38 ∷ Copied 38 39 ∷ Copied 39 40
    ∷ Copied 40 41 ∷ Copied 41 42 ∷ Copied 42 43 ∷ Copied 43 44 ∷ Copied 44 45 ∷ Copied 45 46
    ∷ Copied 46 47 ∷ Copied 47 48 ∷ Copied 48 49 ∷ Copied 49 50 ∷ Copied 50 51 ∷ Copied 51 52
    ∷ Copied 52 53 ∷ Copied 53 54 ∷ Copied 54 55 ∷ Copied 55 56 ∷ Copied 56 57 ∷ Copied 57 58
    ∷ Copied 58 59 ∷ Copied 59 60 ∷ Copied 60 61 ∷ Copied 61 62 ∷ Copied 62 63 ∷ Copied 63 64
    ∷ Answered 2 ∷ Answered 3 ∷ Answered 4 ∷ Copied 66 65 ∷ Answered 5 ∷ Answered 6 ∷ Answered 7
    ∷ Copied 67 66 ∷ Copied 68 67 ∷ Copied 69 68 ∷ Copied 71 69 ∷ Copied 72 70 ∷ Copied 73 71
    ∷ Copied 74 72 ∷ Copied 75 73 ∷ Copied 76 74 ∷ Copied 77 75 ∷ Copied 78 76 ∷ Copied 79 77
    ∷ Copied 80 78 ∷ Copied 81 79 ∷ Copied 82 80 ∷ Copied 83 81 ∷ Copied 84 82 ∷ Copied 85 83
    ∷ Copied 86 84 ∷ Copied 87 85 ∷ Copied 88 86 ∷ Copied 89 87 ∷ Copied 90 88 ∷ Copied 91 89
    ∷ Copied 92 90 ∷ Copied 93 91 ∷ Copied 94 92 ∷ Copied 95 93 ∷ Copied 96 94 ∷ Copied 97 95
    ∷ Copied 98 96 ∷ Copied 99 97 ∷ Copied 100 98 ∷ Copied 101 99 ∷ Copied 102 100 ∷ Copied 103 101
    ∷ Copied 104 102 ∷ Copied 105 103 ∷ Copied 106 104 ∷ Copied 107 105 ∷ Copied 108 106
    ∷ Copied 109 107 ∷ Copied 110 108 ∷ Copied 111 109 ∷ Copied 112 110 ∷ Copied 113 111
    ∷ Copied 114 112 ∷ Copied 115 113 ∷ Copied 116 114 ∷ Copied 117 115 ∷ Copied 118 116
    ∷ Copied 119 117 ∷ Copied 120 118 ∷ Copied 121 119 ∷ Copied 122 120 ∷ Copied 123 121
    ∷ Copied 124 122 ∷ Copied 125 123 ∷ Copied 126 124 ∷ Copied 127 125 ∷ Answered 8
    ∷ RoundEnded 1 125 5 9 ∷ Copied 3 126 ∷ Copied 64 127 ∷ Copied 65 128 ∷ Copied 66 129
    ∷ Copied 67 130 ∷ Copied 70 131 ∷ Copied 127 132 ∷ Copied 128 133 ∷ Copied 129 134
    ∷ RoundEnded 2 9 0 0 ∷ Stopping ∷ StateSent ∷ Refused Paused ∷ StateSent ∷ StateSent ∷ StateSent
    ∷ StateSent ∷ StateSent ∷ StateSent ∷ StateSent ∷ StateSent ∷ []
unfolding replies least size listed members gathered is_in
peeks = refl

factor : replies counter (new_world counter 1 0 (fresh 2) 2 (λ x. 4096))
    (At 0 (Begin 1 (policy 1000 1 1)) ∷ d 0 ∷ d 1 ∷ At 0 Copy ∷ At 0 Copy ∷ At 0 (Board (Write 0 1))
    ∷ At 0 (Board (Write 1 1)) ∷ At 0 Copy ∷ At 0 Copy ∷ At 0 Copy ∷ At 0 (Board (Write 0 1))
    ∷ At 0 Copy ∷ At 0 (Board (Write 1 4)) ∷ At 0 Copy ∷ At 0 Copy ∷ At 0 Copy ∷ At 0 Copy ∷ d 2
    ∷ d 3 ∷ d 6 ∷ At 0 Copy ∷ At 0 Copy ∷ [])
    ≡ Begun 1 ∷ Accepted ∷ Open ∷ Copied 0 1 ∷ Copied 1 2 ∷ Answered 0 ∷ Answered 1
    ∷ RoundEnded 1 2 0 2 ∷ Copied 0 3 ∷ Copied 1 4 ∷ Answered 2 ∷ RoundEnded 2 2 0 1 ∷ Answered 3
    ∷ Stopping ∷ Copied 0 5 ∷ Copied 1 6 ∷ StateSent ∷ Stored 0 1 ∷ Stored 1 2 ∷ Stored 1 4
    ∷ StateSent ∷ StateSent ∷ []
unfolding replies least size listed members gathered is_in
factor = refl

small_third_host : replies counter (new_world counter 3 0 (fresh 3) 3 (λ x. if x == 0 then 3 else if x == 1 then 3 else 2))
    (At 0 (Begin 2 (policy 3 1 3)) ∷ d 0 ∷ d 1 ∷ At 0 (Begin 1 (policy 3 1 3)) ∷ d 2 ∷ d 3
    ∷ At 0 Copy ∷ At 0 Copy ∷ At 0 Copy ∷ At 0 Copy ∷ At 0 Copy ∷ d 4 ∷ d 5 ∷ d 6 ∷ At 0 Copy ∷ d 8
    ∷ At 0 Copy ∷ d 8 ∷ d 7 ∷ d 9 ∷ At 0 AbortMove ∷ At 0 (Begin 2 (policy 3 1 3)) ∷ d 9 ∷ d 8
    ∷ d 10 ∷ d 11 ∷ At 0 (Begin 1 (policy 3 1 3)) ∷ d 12 ∷ d 9 ∷ d 13 ∷ d 10 ∷ [])
    ≡ Begun 1 ∷ Declined 2 ∷ MoveDeclined 2 ∷ Begun 2 ∷ Accepted ∷ Open ∷ Copied 0 1 ∷ Copied 1 2
    ∷ Copied 2 3 ∷ RoundEnded 1 3 0 0 ∷ Stopping ∷ Stored 0 1 ∷ Stored 1 2 ∷ Stored 2 3
    ∷ PartSent 0 1 ∷ ReadySent ∷ PartSent 0 1 ∷ ReadySent ∷ Refused Ignored ∷ Committed 2
    ∷ Refused NotHere ∷ Refused NotHere ∷ Refused Ignored ∷ ReadySent ∷ ReadySent ∷ Refused Ignored
    ∷ Refused NotHere ∷ StartedHere ∷ Refused Ignored ∷ Refused Ignored ∷ Refused Ignored ∷ []
unfolding replies least size listed members gathered is_in
small_third_host = refl

parts : replies split_counter (new_world split_counter 2 0 (fresh 2) 2 (λ x. 4096))
    (At 0 (Begin 1 (policy 3 1 3)) ∷ d 0 ∷ d 1 ∷ At 0 (Board (Write 0 1)) ∷ At 0 Copy ∷ At 0 Copy
    ∷ At 0 Copy ∷ At 0 Copy ∷ At 0 Resend ∷ At 0 Copy ∷ At 0 Copy ∷ At 0 Copy ∷ At 0 Resend
    ∷ At 0 Resend ∷ d 2 ∷ d 9 ∷ d 8 ∷ d 7 ∷ d 9 ∷ At 0 (Board (Write 1 1)) ∷ d 10 ∷ d 5 ∷ d 6
    ∷ At 0 Copy ∷ At 0 Copy ∷ At 0 Copy ∷ d 12 ∷ d 13 ∷ At 0 Copy ∷ At 0 Copy ∷ At 0 Resend ∷ d 14
    ∷ d 13 ∷ d 3 ∷ d 14 ∷ d 13 ∷ d 16 ∷ d 11 ∷ d 15 ∷ d 16 ∷ [])
    ≡ Begun 1 ∷ Accepted ∷ Open ∷ Answered 0 ∷ Copied 1 1 ∷ RoundEnded 1 1 1 1 ∷ Copied 0 2
    ∷ RoundEnded 2 1 0 0 ∷ Refused NoMove ∷ Stopping ∷ PartSent 0 2 ∷ PartSent 1 2 ∷ Resent ∷ Resent
    ∷ Stored 1 1 ∷ Kept 1 2 ∷ Lacking 1 ∷ Lacking 1 ∷ Lacking 1 ∷ Refused Paused ∷ Fixing 1 ∷ Noted
    ∷ Lacking 1 ∷ Copied 0 3 ∷ PartSent 0 2 ∷ PartSent 1 2 ∷ Fixing 1 ∷ Fixing 1 ∷ Copied 0 4
    ∷ PartSent 0 2 ∷ Resent ∷ Stored 0 3 ∷ Fixing 1 ∷ Noted ∷ Refused Ignored ∷ Fixing 1 ∷ Kept 1 2
    ∷ Fixing 1 ∷ ReadySent ∷ ReadySent ∷ []
unfolding replies least size listed members gathered is_in
parts = refl

random_0 : replies counter (new_world counter 1 0 (fresh 2) 2 (λ x. 4096))
    (At 0 Copy ∷ At 0 (Begin 1 (policy 29 50 3)) ∷ At 0 Copy ∷ d 0 ∷ At 0 Copy ∷ d 0
    ∷ At 0 (Board (Write 0 0)) ∷ d 0 ∷ At 0 (Board (Write 0 1)) ∷ At 0 (Board (Write 1 1)) ∷ d 3
    ∷ d 0 ∷ At 0 Copy ∷ At 0 AbortMove ∷ At 0 (Board (Write 1 0)) ∷ At 0 Copy ∷ d 4
    ∷ At 1 (Board Tick) ∷ At 0 Copy ∷ At 0 Copy ∷ At 0 (Board (Write 1 1))
    ∷ At 1 (Begin 1 (policy 0 1 1)) ∷ d 6 ∷ At 0 (Begin 1 (policy 0 1 1)) ∷ d 2 ∷ d 1 ∷ At 0 Copy
    ∷ At 1 (Board Tick) ∷ At 0 Copy ∷ At 1 Resend ∷ d 6 ∷ d 3 ∷ d 0 ∷ d 4 ∷ At 0 Copy ∷ At 0 Copy
    ∷ d 0 ∷ At 0 (Board (Write 0 0)) ∷ d 4 ∷ d 0 ∷ d 5 ∷ d 6 ∷ At 0 Copy ∷ d 5
    ∷ At 0 (Board (Write 1 1)) ∷ At 0 AbortMove ∷ d 6 ∷ At 0 (Board (Write 0 1))
    ∷ At 0 (Begin 0 (policy 0 1 1)) ∷ d 6 ∷ d 4 ∷ At 1 AbortMove ∷ d 0
    ∷ At 0 (Begin 0 (policy 3 1 3)) ∷ At 0 Copy ∷ d 4 ∷ d 5 ∷ d 6 ∷ At 1 (Board Tick) ∷ d 3 ∷ d 1
    ∷ At 0 Copy ∷ d 6 ∷ At 1 Resend ∷ At 0 Copy ∷ d 6 ∷ d 6 ∷ d 6 ∷ At 0 Copy
    ∷ At 0 (Board (Write 0 0)) ∷ At 0 (Board (Write 1 2)) ∷ At 0 Copy
    ∷ At 0 (Begin 1 (policy 0 1 1)) ∷ d 7 ∷ At 1 (Board Tick) ∷ d 5 ∷ d 3 ∷ At 0 Copy ∷ d 6
    ∷ At 0 Copy ∷ d 1 ∷ At 1 AbortMove ∷ d 0 ∷ At 0 (Begin 0 (policy 1 1 1)) ∷ At 0 Copy ∷ d 6
    ∷ At 0 Copy ∷ d 7 ∷ At 0 (Board (Write 0 1)) ∷ d 3 ∷ At 1 Copy ∷ d 6 ∷ d 5
    ∷ At 0 (Begin 0 (policy 29 50 3)) ∷ At 0 (Begin 1 (policy 0 1 1)) ∷ d 5 ∷ d 6 ∷ d 6
    ∷ At 1 (Board Tick) ∷ d 6 ∷ At 0 AbortMove ∷ d 3 ∷ d 7 ∷ d 3 ∷ d 2 ∷ d 0
    ∷ At 0 (Begin 1 (policy 29 50 3)) ∷ At 0 Copy ∷ d 7 ∷ At 0 (Board Tick) ∷ [])
    ≡ Refused NoMove ∷ Begun 1 ∷ Refused Busy ∷ Accepted ∷ Refused Busy ∷ Accepted ∷ Answered 0
    ∷ Accepted ∷ Answered 1 ∷ Answered 2 ∷ Open ∷ Accepted ∷ Copied 0 1 ∷ Aborted ∷ Answered 3
    ∷ Refused NoMove ∷ Refused Ignored ∷ Refused NotHere ∷ Refused NoMove ∷ Refused NoMove
    ∷ Answered 4 ∷ Refused NotHere ∷ Dropped ∷ Refused BadSize ∷ Refused Ignored ∷ Refused Ignored
    ∷ Refused NoMove ∷ Refused NotHere ∷ Refused NoMove ∷ Refused NoMove ∷ Refused Ignored
    ∷ Refused Ignored ∷ Refused Ignored ∷ Refused Ignored ∷ Refused NoMove ∷ Refused NoMove
    ∷ Refused Ignored ∷ Answered 5 ∷ Refused Ignored ∷ Refused Ignored ∷ Refused Ignored
    ∷ Refused Ignored ∷ Refused NoMove ∷ Refused Ignored ∷ Answered 6 ∷ Refused NoMove
    ∷ Refused Ignored ∷ Answered 7 ∷ Refused BadHost ∷ Refused Ignored ∷ Refused Ignored
    ∷ Refused NotHere ∷ Refused Ignored ∷ Refused BadHost ∷ Refused NoMove ∷ Refused Ignored
    ∷ Refused Ignored ∷ Refused Ignored ∷ Refused NotHere ∷ Refused Ignored ∷ Refused Ignored
    ∷ Refused NoMove ∷ Refused Ignored ∷ Refused NoMove ∷ Refused NoMove ∷ Refused Ignored
    ∷ Refused Ignored ∷ Refused Ignored ∷ Refused NoMove ∷ Answered 8 ∷ Answered 9 ∷ Refused NoMove
    ∷ Refused BadSize ∷ Refused NoFrame ∷ Refused NotHere ∷ Refused Ignored ∷ Refused Ignored
    ∷ Refused NoMove ∷ Refused Ignored ∷ Refused NoMove ∷ Refused Ignored ∷ Refused NotHere
    ∷ Refused Ignored ∷ Refused BadHost ∷ Refused NoMove ∷ Refused Ignored ∷ Refused NoMove
    ∷ Refused NoFrame ∷ Answered 10 ∷ Refused Ignored ∷ Refused NotHere ∷ Refused Ignored
    ∷ Refused Ignored ∷ Refused BadHost ∷ Refused BadSize ∷ Refused Ignored ∷ Refused Ignored
    ∷ Refused Ignored ∷ Refused NotHere ∷ Refused Ignored ∷ Refused NoMove ∷ Refused Ignored
    ∷ Refused NoFrame ∷ Refused Ignored ∷ Refused Ignored ∷ Refused Ignored ∷ Begun 2 ∷ Refused Busy
    ∷ Accepted ∷ Answered 11 ∷ []
unfolding replies least size listed members gathered is_in
random_0 = refl

random_1 : replies counter (new_world counter 3 0 (fresh 2) 3 (λ x. 4096))
    (At 0 Copy ∷ At 0 (Board (Write 1 1)) ∷ At 0 Copy ∷ At 1 Copy ∷ At 0 Copy
    ∷ At 0 (Board (Write 0 1)) ∷ At 0 Copy ∷ At 0 (Begin 1 (policy 0 1 1)) ∷ At 0 Copy ∷ At 0 Copy
    ∷ At 0 Copy ∷ At 0 Copy ∷ At 1 Copy ∷ At 0 Copy ∷ At 0 Copy ∷ At 0 Copy ∷ At 0 Copy ∷ At 0 Copy
    ∷ At 0 Copy ∷ At 0 Copy ∷ At 0 Copy ∷ At 0 Copy ∷ At 0 Copy ∷ At 0 Copy ∷ At 0 Copy
    ∷ At 1 (Board Tick) ∷ At 0 (Board Tick) ∷ At 0 Copy ∷ At 0 Copy ∷ At 0 Copy
    ∷ At 0 (Board (Write 1 0)) ∷ At 0 Copy ∷ At 0 Copy ∷ At 0 Copy ∷ At 0 (Board Tick)
    ∷ At 1 (Begin 0 (policy 3 1 3)) ∷ At 0 (Board (Write 1 1)) ∷ At 0 Copy ∷ At 1 Copy ∷ At 0 Copy
    ∷ At 0 Resend ∷ At 0 Copy ∷ At 0 Copy ∷ At 0 Copy ∷ At 0 (Board (Write 0 0)) ∷ At 0 Copy
    ∷ At 0 Copy ∷ At 1 AbortMove ∷ At 0 Copy ∷ At 0 Copy ∷ At 0 Copy ∷ At 0 Copy ∷ At 0 Copy
    ∷ At 0 Copy ∷ At 0 Copy ∷ At 0 (Begin 0 (policy 1 1 1)) ∷ At 0 Copy ∷ At 0 Copy
    ∷ At 0 (Board Tick) ∷ At 0 Copy ∷ At 0 Copy ∷ At 0 Copy ∷ At 0 Copy ∷ At 0 Copy ∷ At 0 Copy
    ∷ At 0 Copy ∷ At 0 Copy ∷ At 0 (Board (Write 1 1)) ∷ At 0 Copy ∷ At 1 Copy
    ∷ At 0 (Board (Write 0 0)) ∷ At 0 Copy ∷ At 0 Copy ∷ At 0 Copy ∷ At 0 AbortMove ∷ At 2 Copy
    ∷ At 0 Copy ∷ At 0 (Board (Write 1 1)) ∷ At 0 Copy ∷ At 0 Copy ∷ At 0 Copy ∷ At 0 Copy
    ∷ At 0 Copy ∷ At 0 Copy ∷ At 0 (Begin 2 (policy 1 1 1)) ∷ d 0 ∷ At 0 Copy ∷ At 2 (Board Tick)
    ∷ At 0 (Board Tick) ∷ At 1 Copy ∷ At 2 (Board Tick) ∷ At 2 (Board Tick) ∷ At 0 Copy ∷ d 0
    ∷ At 2 Copy ∷ d 0 ∷ At 0 Copy ∷ At 0 Copy ∷ d 3 ∷ At 2 Resend ∷ At 0 Copy ∷ At 2 AbortMove
    ∷ At 1 (Begin 2 (policy 3 1 3)) ∷ d 4 ∷ d 2 ∷ At 0 Copy ∷ d 5 ∷ At 1 (Board Tick)
    ∷ At 0 (Begin 2 (policy 0 1 1)) ∷ d 1 ∷ [])
    ≡ Refused NoMove ∷ Answered 0 ∷ Refused NoMove ∷ Refused NotHere ∷ Refused NoMove ∷ Answered 1
    ∷ Refused NoMove ∷ Refused BadSize ∷ Refused NoMove ∷ Refused NoMove ∷ Refused NoMove
    ∷ Refused NoMove ∷ Refused NotHere ∷ Refused NoMove ∷ Refused NoMove ∷ Refused NoMove
    ∷ Refused NoMove ∷ Refused NoMove ∷ Refused NoMove ∷ Refused NoMove ∷ Refused NoMove
    ∷ Refused NoMove ∷ Refused NoMove ∷ Refused NoMove ∷ Refused NoMove ∷ Refused NotHere
    ∷ Answered 2 ∷ Refused NoMove ∷ Refused NoMove ∷ Refused NoMove ∷ Answered 3 ∷ Refused NoMove
    ∷ Refused NoMove ∷ Refused NoMove ∷ Answered 4 ∷ Refused NotHere ∷ Answered 5 ∷ Refused NoMove
    ∷ Refused NotHere ∷ Refused NoMove ∷ Refused NoMove ∷ Refused NoMove ∷ Refused NoMove
    ∷ Refused NoMove ∷ Answered 6 ∷ Refused NoMove ∷ Refused NoMove ∷ Refused NotHere
    ∷ Refused NoMove ∷ Refused NoMove ∷ Refused NoMove ∷ Refused NoMove ∷ Refused NoMove
    ∷ Refused NoMove ∷ Refused NoMove ∷ Refused BadHost ∷ Refused NoMove ∷ Refused NoMove
    ∷ Answered 7 ∷ Refused NoMove ∷ Refused NoMove ∷ Refused NoMove ∷ Refused NoMove
    ∷ Refused NoMove ∷ Refused NoMove ∷ Refused NoMove ∷ Refused NoMove ∷ Answered 8
    ∷ Refused NoMove ∷ Refused NotHere ∷ Answered 9 ∷ Refused NoMove ∷ Refused NoMove
    ∷ Refused NoMove ∷ Refused NoMove ∷ Refused NotHere ∷ Refused NoMove ∷ Answered 10
    ∷ Refused NoMove ∷ Refused NoMove ∷ Refused NoMove ∷ Refused NoMove ∷ Refused NoMove
    ∷ Refused NoMove ∷ Begun 1 ∷ Accepted ∷ Refused Busy ∷ Refused NotHere ∷ Answered 11
    ∷ Refused NotHere ∷ Refused NotHere ∷ Refused NotHere ∷ Refused Busy ∷ Accepted
    ∷ Refused NotHere ∷ Accepted ∷ Refused Busy ∷ Refused Busy ∷ Open ∷ Refused NoMove ∷ Copied 0 1
    ∷ Refused NotHere ∷ Refused NotHere ∷ Stored 0 1 ∷ Refused Ignored ∷ Copied 1 2 ∷ Stored 1 2
    ∷ Refused NotHere ∷ Refused Busy ∷ Refused Ignored ∷ []
unfolding replies least size listed members gathered is_in
random_1 = refl

random_2 : replies split_counter (new_world split_counter 2 0 (fresh 2) 2 (λ x. 4096))
    (At 0 Copy ∷ At 0 Copy ∷ At 0 Copy ∷ At 0 Copy ∷ At 0 Copy ∷ At 0 Copy ∷ At 1 (Board Tick)
    ∷ At 0 Copy ∷ At 0 Copy ∷ At 0 Copy ∷ At 0 (Board Tick) ∷ At 0 Copy ∷ At 0 Copy ∷ At 0 Copy
    ∷ At 0 Copy ∷ At 0 Copy ∷ At 0 Copy ∷ At 0 AbortMove ∷ At 0 (Board Tick) ∷ At 0 Copy ∷ At 0 Copy
    ∷ At 0 Copy ∷ At 0 (Board (Write 1 1)) ∷ At 0 Copy ∷ At 0 (Board (Write 1 2))
    ∷ At 0 (Board (Write 0 1)) ∷ At 0 Copy ∷ At 0 Copy ∷ At 0 Copy ∷ At 0 Copy ∷ At 0 Copy
    ∷ At 1 (Board Tick) ∷ At 1 Copy ∷ At 0 (Begin 0 (policy 1 1 1)) ∷ At 0 Copy ∷ At 0 Copy
    ∷ At 0 Copy ∷ At 0 Copy ∷ At 0 Copy ∷ At 0 Copy ∷ At 0 Copy ∷ At 0 Copy
    ∷ At 0 (Begin 1 (policy 1 1 1)) ∷ d 0 ∷ At 0 (Begin 0 (policy 1 1 1)) ∷ d 2 ∷ d 2 ∷ At 0 Copy
    ∷ d 0 ∷ At 0 Copy ∷ At 0 (Board (Write 0 1)) ∷ d 0 ∷ d 0 ∷ At 0 Copy ∷ At 0 (Board Tick)
    ∷ At 0 Copy ∷ At 1 Copy ∷ At 0 Copy ∷ At 0 (Begin 0 (policy 3 1 3)) ∷ d 4 ∷ d 1 ∷ d 1
    ∷ At 0 (Board (Write 0 1)) ∷ At 0 Copy ∷ At 0 Copy ∷ d 2 ∷ At 0 (Board (Write 0 2)) ∷ At 0 Copy
    ∷ At 0 Resend ∷ At 0 (Board Tick) ∷ At 1 Copy ∷ d 2 ∷ At 0 (Begin 1 (policy 0 1 1)) ∷ d 6
    ∷ At 0 Copy ∷ d 6 ∷ At 0 Copy ∷ At 0 Copy ∷ At 0 Copy ∷ At 0 (Board (Write 0 0)) ∷ At 1 Resend
    ∷ At 0 Copy ∷ At 1 (Board Tick) ∷ d 8 ∷ At 0 (Board (Write 0 1)) ∷ d 11
    ∷ At 0 (Board (Write 0 0)) ∷ At 0 Copy ∷ d 13 ∷ At 1 Resend ∷ d 14 ∷ d 13 ∷ d 15
    ∷ At 0 (Board Tick) ∷ At 0 (Board (Write 1 2)) ∷ At 0 (Board Tick) ∷ At 0 Copy
    ∷ At 0 (Begin 0 (policy 3 1 3)) ∷ d 16 ∷ At 0 Copy ∷ d 15 ∷ d 2 ∷ At 0 Copy
    ∷ At 0 (Board (Write 0 2)) ∷ At 0 (Begin 1 (policy 29 50 3)) ∷ At 0 Copy
    ∷ At 0 (Begin 1 (policy 1 1 1)) ∷ At 0 (Board (Write 1 2)) ∷ At 0 AbortMove ∷ At 0 Copy ∷ [])
    ≡ Refused NoMove ∷ Refused NoMove ∷ Refused NoMove ∷ Refused NoMove ∷ Refused NoMove
    ∷ Refused NoMove ∷ Refused NotHere ∷ Refused NoMove ∷ Refused NoMove ∷ Refused NoMove
    ∷ Answered 0 ∷ Refused NoMove ∷ Refused NoMove ∷ Refused NoMove ∷ Refused NoMove
    ∷ Refused NoMove ∷ Refused NoMove ∷ Refused NoMove ∷ Answered 1 ∷ Refused NoMove
    ∷ Refused NoMove ∷ Refused NoMove ∷ Answered 2 ∷ Refused NoMove ∷ Answered 3 ∷ Answered 4
    ∷ Refused NoMove ∷ Refused NoMove ∷ Refused NoMove ∷ Refused NoMove ∷ Refused NoMove
    ∷ Refused NotHere ∷ Refused NotHere ∷ Refused BadHost ∷ Refused NoMove ∷ Refused NoMove
    ∷ Refused NoMove ∷ Refused NoMove ∷ Refused NoMove ∷ Refused NoMove ∷ Refused NoMove
    ∷ Refused NoMove ∷ Begun 1 ∷ Accepted ∷ Refused Busy ∷ Refused NoFrame ∷ Refused NoFrame
    ∷ Refused Busy ∷ Accepted ∷ Refused Busy ∷ Answered 5 ∷ Accepted ∷ Accepted ∷ Refused Busy
    ∷ Answered 6 ∷ Refused Busy ∷ Refused NotHere ∷ Refused Busy ∷ Refused Busy ∷ Open
    ∷ Refused Ignored ∷ Refused Ignored ∷ Answered 7 ∷ Copied 1 1 ∷ RoundEnded 1 1 1 1
    ∷ Refused Ignored ∷ Answered 8 ∷ Stopping ∷ Refused NoMove ∷ Refused Paused ∷ Refused NotHere
    ∷ Refused Ignored ∷ Refused Busy ∷ Noted ∷ Copied 0 2 ∷ Noted ∷ PartSent 0 2 ∷ PartSent 1 2
    ∷ PartSent 0 2 ∷ Refused Paused ∷ Refused NoMove ∷ PartSent 1 2 ∷ Refused NotHere ∷ Kept 0 2
    ∷ Refused Paused ∷ Lacking 2 ∷ Refused Paused ∷ PartSent 0 2 ∷ Lacking 2 ∷ Refused NoMove
    ∷ Fixing 2 ∷ Lacking 2 ∷ Fixing 2 ∷ Refused Paused ∷ Refused Paused ∷ Refused Paused
    ∷ Copied 0 3 ∷ Refused Busy ∷ Stored 0 3 ∷ Copied 1 4 ∷ Fixing 2 ∷ Refused Ignored ∷ Copied 0 5
    ∷ Refused Paused ∷ Refused Busy ∷ Copied 1 6 ∷ Refused Busy ∷ Refused Paused ∷ Aborted
    ∷ Refused NoMove ∷ []
unfolding replies least size listed members gathered is_in
random_2 = refl

random_3 : replies split_counter (new_world split_counter 3 0 (fresh 1) 4 (λ x. 4096))
    (At 0 (Board (Write 0 2)) ∷ At 0 Copy ∷ At 0 Copy ∷ At 0 Copy ∷ At 0 Copy ∷ At 0 Copy
    ∷ At 0 Copy ∷ At 0 Copy ∷ At 0 Copy ∷ At 0 Copy ∷ At 0 (Begin 3 (policy 1 1 1))
    ∷ At 0 (Begin 1 (policy 3 1 3)) ∷ d 0 ∷ At 0 Copy ∷ d 1 ∷ At 0 (Board (Write 0 2)) ∷ d 1
    ∷ At 1 Resend ∷ d 1 ∷ At 0 (Board Tick) ∷ At 0 AbortMove ∷ d 2 ∷ At 0 (Board Tick) ∷ At 0 Copy
    ∷ At 0 Copy ∷ d 3 ∷ d 1 ∷ d 0 ∷ At 1 (Board Tick) ∷ At 0 Copy ∷ d 0 ∷ At 0 Copy ∷ At 0 Copy
    ∷ At 0 Copy ∷ d 0 ∷ At 2 Copy ∷ d 2 ∷ At 0 Copy ∷ At 0 Copy ∷ At 0 Copy ∷ At 0 Copy ∷ At 0 Copy
    ∷ At 3 AbortMove ∷ At 0 Copy ∷ d 0 ∷ d 0 ∷ d 1 ∷ d 2 ∷ At 0 (Begin 1 (policy 29 50 3))
    ∷ At 0 (Begin 0 (policy 29 50 3)) ∷ At 2 (Board Tick) ∷ d 0 ∷ d 1 ∷ At 0 Copy ∷ At 0 Copy
    ∷ At 0 Copy ∷ d 0 ∷ d 4 ∷ d 2 ∷ At 0 (Begin 3 (policy 29 50 3)) ∷ d 0 ∷ At 0 Copy ∷ At 0 Copy
    ∷ d 1 ∷ At 0 (Board (Write 0 0)) ∷ At 0 (Board (Write 0 1)) ∷ At 0 (Begin 2 (policy 29 50 3))
    ∷ d 4 ∷ At 0 (Begin 1 (policy 0 1 1)) ∷ d 3 ∷ d 0 ∷ At 2 (Begin 1 (policy 29 50 3))
    ∷ At 2 (Board Tick) ∷ At 0 Copy ∷ At 2 Copy ∷ At 0 Copy ∷ At 0 (Board (Write 0 1)) ∷ At 0 Copy
    ∷ At 2 Resend ∷ d 1 ∷ d 5 ∷ At 2 (Board Tick) ∷ At 0 (Board (Write 0 0)) ∷ d 4
    ∷ At 0 (Board Tick) ∷ At 0 Copy ∷ At 0 (Board (Write 0 1)) ∷ d 5 ∷ d 3 ∷ d 5 ∷ d 3 ∷ At 0 Copy
    ∷ At 0 (Board (Write 0 1)) ∷ At 1 (Board Tick) ∷ d 7 ∷ d 4 ∷ At 0 Copy
    ∷ At 1 (Begin 2 (policy 1 1 1)) ∷ At 0 Copy ∷ At 0 Copy ∷ At 0 (Begin 2 (policy 3 1 3)) ∷ d 10
    ∷ At 0 Copy ∷ At 0 Copy ∷ At 0 (Board (Write 0 0)) ∷ d 9 ∷ At 0 (Begin 1 (policy 3 1 3)) ∷ d 11
    ∷ At 0 Copy ∷ d 8 ∷ [])
    ≡ Answered 0 ∷ Refused NoMove ∷ Refused NoMove ∷ Refused NoMove ∷ Refused NoMove
    ∷ Refused NoMove ∷ Refused NoMove ∷ Refused NoMove ∷ Refused NoMove ∷ Refused NoMove ∷ Begun 1
    ∷ Refused Busy ∷ Accepted ∷ Refused Busy ∷ Open ∷ Answered 1 ∷ Refused Ignored ∷ Refused NoMove
    ∷ Refused Ignored ∷ Answered 2 ∷ Aborted ∷ Dropped ∷ Answered 3 ∷ Refused NoMove
    ∷ Refused NoMove ∷ Refused NoFrame ∷ Refused Ignored ∷ Refused Ignored ∷ Refused NotHere
    ∷ Refused NoMove ∷ Refused Ignored ∷ Refused NoMove ∷ Refused NoMove ∷ Refused NoMove
    ∷ Refused Ignored ∷ Refused NotHere ∷ Refused Ignored ∷ Refused NoMove ∷ Refused NoMove
    ∷ Refused NoMove ∷ Refused NoMove ∷ Refused NoMove ∷ Refused NotHere ∷ Refused NoMove
    ∷ Refused Ignored ∷ Refused Ignored ∷ Refused Ignored ∷ Refused Ignored ∷ Begun 2 ∷ Refused Busy
    ∷ Refused NotHere ∷ Refused Ignored ∷ Refused Ignored ∷ Refused Busy ∷ Refused Busy
    ∷ Refused Busy ∷ Refused Ignored ∷ Refused NoFrame ∷ Refused Ignored ∷ Refused Busy
    ∷ Refused Ignored ∷ Refused Busy ∷ Refused Busy ∷ Refused Ignored ∷ Answered 4 ∷ Answered 5
    ∷ Refused Busy ∷ Refused NoFrame ∷ Refused Busy ∷ Accepted ∷ Refused Ignored ∷ Refused NotHere
    ∷ Refused NotHere ∷ Refused Busy ∷ Refused NotHere ∷ Refused Busy ∷ Answered 6 ∷ Refused Busy
    ∷ Refused NoMove ∷ Refused Ignored ∷ Refused NoFrame ∷ Refused NotHere ∷ Answered 7 ∷ Open
    ∷ Answered 8 ∷ Copied 0 1 ∷ Answered 9 ∷ Stored 0 1 ∷ Accepted ∷ Refused Ignored ∷ Accepted
    ∷ RoundEnded 1 1 0 1 ∷ Answered 10 ∷ Refused NotHere ∷ Refused Ignored ∷ Refused Ignored
    ∷ Stopping ∷ Refused NotHere ∷ Copied 0 2 ∷ PartSent 0 2 ∷ Refused Busy ∷ Kept 0 2
    ∷ PartSent 1 2 ∷ PartSent 0 2 ∷ Refused Paused ∷ Stored 0 2 ∷ Refused Busy ∷ ReadySent
    ∷ PartSent 1 2 ∷ Refused Ignored ∷ []
unfolding replies least size listed members gathered is_in
random_3 = refl

random_4 : replies counter (new_world counter 2 0 (fresh 3) 2 (λ x. 4096))
    (At 0 (Board (Write 0 2)) ∷ At 0 (Begin 0 (policy 1 1 1)) ∷ At 0 Resend ∷ At 0 (Board Tick)
    ∷ At 0 (Board Tick) ∷ At 0 Copy ∷ At 0 Copy ∷ At 0 Copy ∷ At 0 (Board (Write 2 0)) ∷ At 0 Copy
    ∷ At 0 Copy ∷ At 0 Copy ∷ At 0 Copy ∷ At 0 Copy ∷ At 1 Resend ∷ At 0 Copy ∷ At 0 Copy
    ∷ At 0 Copy ∷ At 0 Copy ∷ At 0 Copy ∷ At 0 Copy ∷ At 0 Copy ∷ At 0 (Board Tick) ∷ At 0 Copy
    ∷ At 0 Copy ∷ At 0 Copy ∷ At 0 Copy ∷ At 0 Resend ∷ At 0 Copy ∷ At 0 Copy ∷ At 1 Resend
    ∷ At 0 Copy ∷ At 0 Copy ∷ At 1 Copy ∷ At 0 Copy ∷ At 0 (Begin 0 (policy 0 1 1))
    ∷ At 0 (Board Tick) ∷ At 0 (Begin 0 (policy 1 1 1)) ∷ At 0 Copy ∷ At 1 Resend ∷ At 0 Copy
    ∷ At 0 Copy ∷ At 0 Copy ∷ At 0 Resend ∷ At 0 Copy ∷ At 0 Copy ∷ At 0 AbortMove ∷ At 0 Copy
    ∷ At 0 (Begin 1 (policy 1 1 1)) ∷ At 1 Copy ∷ d 0 ∷ At 0 (Board Tick) ∷ d 0 ∷ At 0 Copy ∷ d 0
    ∷ At 0 Copy ∷ At 0 (Board Tick) ∷ At 0 Copy ∷ At 0 Copy ∷ At 0 (Board (Write 0 2)) ∷ d 2 ∷ d 0
    ∷ At 0 Copy ∷ At 0 Copy ∷ At 0 (Begin 1 (policy 3 1 3)) ∷ d 6 ∷ At 0 Copy ∷ d 3 ∷ d 5
    ∷ At 0 Copy ∷ At 0 Copy ∷ At 0 Copy ∷ At 0 Copy ∷ At 0 (Board (Write 1 2)) ∷ At 0 (Board Tick)
    ∷ At 0 Resend ∷ At 0 (Board Tick) ∷ At 1 Resend ∷ At 0 Copy ∷ d 6 ∷ d 12 ∷ d 13 ∷ d 4 ∷ d 4
    ∷ At 0 (Board (Write 2 2)) ∷ d 11 ∷ d 11 ∷ At 0 Copy ∷ At 0 (Board (Write 2 0))
    ∷ At 0 (Board (Write 0 2)) ∷ At 1 (Board Tick) ∷ At 1 (Board Tick) ∷ d 16 ∷ At 0 Copy
    ∷ At 0 (Begin 0 (policy 29 50 3)) ∷ d 5 ∷ d 8 ∷ At 0 Resend ∷ At 0 Copy ∷ At 0 Copy ∷ d 20
    ∷ At 0 (Board Tick) ∷ d 15 ∷ d 20 ∷ d 21 ∷ d 11 ∷ d 20 ∷ d 25 ∷ At 1 (Begin 0 (policy 3 1 3))
    ∷ d 23 ∷ [])
    ≡ Answered 0 ∷ Refused BadHost ∷ Refused NoMove ∷ Answered 1 ∷ Answered 2 ∷ Refused NoMove
    ∷ Refused NoMove ∷ Refused NoMove ∷ Answered 3 ∷ Refused NoMove ∷ Refused NoMove
    ∷ Refused NoMove ∷ Refused NoMove ∷ Refused NoMove ∷ Refused NoMove ∷ Refused NoMove
    ∷ Refused NoMove ∷ Refused NoMove ∷ Refused NoMove ∷ Refused NoMove ∷ Refused NoMove
    ∷ Refused NoMove ∷ Answered 4 ∷ Refused NoMove ∷ Refused NoMove ∷ Refused NoMove
    ∷ Refused NoMove ∷ Refused NoMove ∷ Refused NoMove ∷ Refused NoMove ∷ Refused NoMove
    ∷ Refused NoMove ∷ Refused NoMove ∷ Refused NotHere ∷ Refused NoMove ∷ Refused BadHost
    ∷ Answered 5 ∷ Refused BadHost ∷ Refused NoMove ∷ Refused NoMove ∷ Refused NoMove
    ∷ Refused NoMove ∷ Refused NoMove ∷ Refused NoMove ∷ Refused NoMove ∷ Refused NoMove
    ∷ Refused NoMove ∷ Refused NoMove ∷ Begun 1 ∷ Refused NotHere ∷ Accepted ∷ Answered 6 ∷ Accepted
    ∷ Refused Busy ∷ Accepted ∷ Refused Busy ∷ Answered 7 ∷ Refused Busy ∷ Refused Busy ∷ Answered 8
    ∷ Open ∷ Accepted ∷ Copied 0 1 ∷ Copied 1 2 ∷ Refused Busy ∷ Stored 1 2 ∷ Copied 2 3
    ∷ Refused Ignored ∷ Stored 0 1 ∷ RoundEnded 1 3 0 0 ∷ Stopping ∷ PartSent 0 1 ∷ PartSent 0 1
    ∷ Refused Paused ∷ Refused Paused ∷ Resent ∷ Refused Paused ∷ Refused NoMove ∷ PartSent 0 1
    ∷ Refused Ignored ∷ Lacking 1 ∷ Fixing 1 ∷ Refused Ignored ∷ Refused Ignored ∷ Refused Paused
    ∷ Lacking 1 ∷ Lacking 1 ∷ Copied 2 4 ∷ Refused Paused ∷ Refused Paused ∷ Refused NotHere
    ∷ Refused NotHere ∷ Stored 2 4 ∷ PartSent 0 1 ∷ Refused Busy ∷ Refused Ignored ∷ Noted ∷ Resent
    ∷ PartSent 0 1 ∷ PartSent 0 1 ∷ ReadySent ∷ Refused Paused ∷ Fixing 1 ∷ ReadySent ∷ Committed 1
    ∷ ReadySent ∷ ReadySent ∷ Refused Ignored ∷ Refused NotHere ∷ StartedHere ∷ []
unfolding replies least size listed members gathered is_in
random_4 = refl

random_5 : replies split_counter (new_world split_counter 3 0 (fresh 2) 8 (λ x. 4096))
    (At 5 (Board Tick) ∷ At 0 Copy ∷ At 0 Copy ∷ At 0 Copy ∷ At 2 AbortMove
    ∷ At 0 (Begin 6 (policy 0 1 1)) ∷ At 0 (Board (Write 1 2)) ∷ At 0 Copy ∷ At 3 (Board Tick)
    ∷ At 0 Copy ∷ At 4 Copy ∷ At 0 Copy ∷ At 1 Resend ∷ At 0 Copy ∷ At 0 Copy ∷ At 6 Resend
    ∷ At 0 (Board (Write 1 2)) ∷ At 0 Copy ∷ At 0 (Board (Write 0 2)) ∷ At 0 Copy ∷ At 0 Copy
    ∷ At 0 Copy ∷ At 0 (Begin 3 (policy 1 1 1)) ∷ d 1 ∷ At 0 (Begin 2 (policy 3 1 3)) ∷ d 0
    ∷ At 0 (Board (Write 1 2)) ∷ d 1 ∷ d 0 ∷ At 7 (Board Tick) ∷ At 0 (Begin 5 (policy 3 1 3)) ∷ d 0
    ∷ d 2 ∷ At 3 Copy ∷ At 4 (Board Tick) ∷ d 0 ∷ At 0 (Board (Write 1 0)) ∷ At 2 Copy
    ∷ At 0 (Begin 0 (policy 29 50 3)) ∷ At 5 AbortMove ∷ At 0 (Begin 5 (policy 0 1 1)) ∷ d 2 ∷ d 1
    ∷ d 2 ∷ d 4 ∷ At 0 (Board (Write 0 2)) ∷ d 4 ∷ At 7 Resend ∷ d 4 ∷ d 4 ∷ At 2 (Board Tick) ∷ d 1
    ∷ d 2 ∷ d 3 ∷ At 0 (Board (Write 1 2)) ∷ d 0 ∷ At 5 (Board Tick) ∷ At 0 Copy ∷ At 0 Copy
    ∷ At 0 Copy ∷ At 2 (Board Tick) ∷ At 0 Copy ∷ At 1 Copy ∷ At 0 Copy ∷ d 4 ∷ At 0 Copy
    ∷ At 0 Copy ∷ At 4 Copy ∷ At 0 Copy ∷ d 11 ∷ At 0 (Board (Write 1 2)) ∷ d 11 ∷ d 8 ∷ d 8
    ∷ At 0 (Begin 7 (policy 29 50 3)) ∷ At 0 (Begin 5 (policy 0 1 1)) ∷ At 0 (Board Tick) ∷ d 9
    ∷ At 0 (Board (Write 1 0)) ∷ At 7 Resend ∷ At 4 (Board Tick) ∷ d 11 ∷ At 0 (Board (Write 1 0))
    ∷ d 12 ∷ At 0 Copy ∷ d 13 ∷ At 5 (Board Tick) ∷ At 0 Copy ∷ d 5
    ∷ At 0 (Begin 7 (policy 29 50 3)) ∷ d 5 ∷ At 4 (Board Tick) ∷ d 14 ∷ d 15 ∷ d 16
    ∷ At 0 (Begin 1 (policy 29 50 3)) ∷ d 14 ∷ d 17 ∷ d 15 ∷ d 17 ∷ d 19 ∷ d 18 ∷ At 3 Copy
    ∷ At 3 (Begin 1 (policy 0 1 1)) ∷ d 2 ∷ d 10 ∷ At 7 Copy ∷ d 18 ∷ At 3 Copy ∷ At 3 Copy ∷ [])
    ≡ Refused NotHere ∷ Refused NoMove ∷ Refused NoMove ∷ Refused NoMove ∷ Refused NotHere
    ∷ Refused BadSize ∷ Answered 0 ∷ Refused NoMove ∷ Refused NotHere ∷ Refused NoMove
    ∷ Refused NotHere ∷ Refused NoMove ∷ Refused NoMove ∷ Refused NoMove ∷ Refused NoMove
    ∷ Refused NoMove ∷ Answered 1 ∷ Refused NoMove ∷ Answered 2 ∷ Refused NoMove ∷ Refused NoMove
    ∷ Refused NoMove ∷ Begun 1 ∷ Refused NoFrame ∷ Refused Busy ∷ Accepted ∷ Answered 3 ∷ Open
    ∷ Accepted ∷ Refused NotHere ∷ Refused Busy ∷ Accepted ∷ Refused Ignored ∷ Refused NotHere
    ∷ Refused NotHere ∷ Accepted ∷ Answered 4 ∷ Refused NotHere ∷ Refused Busy ∷ Refused NotHere
    ∷ Refused Busy ∷ Refused Ignored ∷ Refused Ignored ∷ Refused Ignored ∷ Refused Ignored
    ∷ Answered 5 ∷ Refused Ignored ∷ Refused NoMove ∷ Refused Ignored ∷ Refused Ignored
    ∷ Refused NotHere ∷ Refused Ignored ∷ Refused Ignored ∷ Refused Ignored ∷ Answered 6 ∷ Accepted
    ∷ Refused NotHere ∷ RoundEnded 1 0 2 2 ∷ Stopping ∷ Copied 0 1 ∷ Refused NotHere ∷ Copied 1 2
    ∷ Refused NotHere ∷ PartSent 0 2 ∷ Refused Ignored ∷ PartSent 1 2 ∷ PartSent 0 2
    ∷ Refused NotHere ∷ PartSent 1 2 ∷ Kept 0 2 ∷ Refused Paused ∷ Kept 0 2 ∷ Stored 1 2
    ∷ Refused Ignored ∷ Refused Busy ∷ Refused Busy ∷ Refused Paused ∷ Kept 0 2 ∷ Refused Paused
    ∷ Refused NoMove ∷ Refused NotHere ∷ Kept 0 2 ∷ Refused Paused ∷ Lacking 1 ∷ PartSent 0 2
    ∷ Fixing 1 ∷ Refused NotHere ∷ Copied 0 3 ∷ Refused Ignored ∷ Refused Busy ∷ Refused Ignored
    ∷ Refused NotHere ∷ Lacking 1 ∷ Stored 0 3 ∷ Fixing 1 ∷ Refused Busy ∷ ReadySent ∷ Committed 1
    ∷ Refused Ignored ∷ Refused Ignored ∷ Refused NoFrame ∷ StartedHere ∷ Refused NoMove
    ∷ Refused BadSize ∷ Refused Ignored ∷ Refused Ignored ∷ Refused NotHere ∷ Resent
    ∷ Refused NoMove ∷ Refused NoMove ∷ []
unfolding replies least size listed members gathered is_in
random_5 = refl
