-- The turns of a slice, and turns after turns.
use Rattle.std.proofs.Common.{◌≡◌, ◌∙◌, ℕ, zero, suc, ◌+◌, ◌-◌, ◌<◌, ◌≤◌, ◌%◌, ◌==◌, nat_eq, false, List, [], ◌∷◌, ◌++◌, append-nil, append_assoc, length, map, Some, refl, sym, ap, arith}
use Rattle.std.specs.List.{flat_map}
use Rattle.std.specs.Prelude.{slice_get}
use Rattle.rvm_recorder.specs.Receipts.{PlainReceipt}
use Rattle.rvm_board.specs.declared.event.BoardEvent.TheVariants as asked
use Rattle.rvm_board.specs.declared.event.BoardReply.TheVariants as answer
use Rattle.rvm_cell.specs.Calls.{AtA, AtB, marks_in}
use Rattle.rvm_cell.specs.Turns.{Dry, Mark, Turned, after_step, after_turns, drained, if_dry, mark_made, turn_of_step, turns, turns_of}
use Rattle.rvm_station.specs.declared.turn.Then.{Then}
use Rattle.rvm_station.specs.declared.turn.Then.TheVariants.{GoOn, Elsewhere, Halted}
use Rattle.rvm_message.specs.declared.event.Command.TheVariants as command
use Rattle.rvm_message.specs.declared.event.HostEvent.{HostEvent}
use Rattle.rvm_message.specs.declared.event.HostEvent.TheVariants as event
use Rattle.rvm_message.specs.declared.reply.HostReply.{HostReply}
use Rattle.rvm_message.specs.declared.reply.HostReply.TheVariants as reply
use Rattle.rvm_message.specs.Replies.{ends_steps, reply_of}

-- the first of some turns
first_turn : (harts from n : ℕ) → turns harts from (suc n) GoOn ≡ Turned (from % harts) GoOn ∷ turns harts (suc from) n GoOn
unfolding turns
first_turn harts from zero = refl
first_turn harts from (suc n) = refl

-- turns, and turns after them
turns_behind : (harts from m n k : ℕ) (last : Then) → k ≡ m + suc n
    → turns harts from m GoOn ++ turns harts (from + m) (suc n) last ≡ turns harts from k last
unfolding turns
turns_behind harts from zero n k last all =
    let here : from + 0 ≡ from = omega arith in
    let rest : suc n ≡ k = omega (arith, all) in
    ap (λ x. turns harts x (suc n) last) here ∙ ap (λ x. turns harts from x last) rest
turns_behind harts from (suc m) n zero last all = absurd (omega (arith, all))
turns_behind harts from (suc m) n (suc zero) last all = absurd (omega (arith, all))
turns_behind harts from (suc m) n (suc (suc j)) last all =
    let next : from + suc m ≡ suc from + m = omega arith in
    let rest : suc j ≡ m + suc n = omega (arith, all) in
    ap (λ l. l ++ turns harts (from + suc m) (suc n) last) (first_turn harts from m)
    ∙ ap (λ x. Turned (from % harts) GoOn ∷ (turns harts (suc from) m GoOn ++ turns harts x (suc n) last)) next
    ∙ ap (λ l. Turned (from % harts) GoOn ∷ l) (turns_behind harts (suc from) m n (suc j) last rest)

pub turns_on : (harts turn made : ℕ) (last : Then) → 1 ≤ made
    → turns harts 0 turn GoOn ++ turns harts turn made last ≡ turns harts 0 (turn + made) last
turns_on harts turn zero last some = absurd (omega (arith, some))
turns_on harts turn (suc n) last some =
    let here : turn ≡ 0 + turn = omega arith in
    ap (λ x. turns harts 0 turn GoOn ++ turns harts x (suc n) last) here
    ∙ turns_behind harts 0 turn n (turn + suc n) last refl

-- the number of turns
length_turns : (harts from n : ℕ) (last : Then) → length (turns harts from n last) ≡ n
unfolding turns
length_turns harts from zero last = refl
length_turns harts from (suc zero) last = refl
length_turns harts from (suc (suc n)) last = ap suc (length_turns harts (suc from) (suc n) last)

-- turns with their drains, and turns after them
drained_behind : (n : ℕ) (xs ys : List Mark) → drained n (xs ++ ys) ≡ drained n xs ++ drained (n + length xs) ys
unfolding drained
drained_behind n [] ys =
    let here : n ≡ n + length {A = Mark} [] = omega arith in ap (λ k. drained k ys) here
drained_behind n (x ∷ xs) ys =
    let at : suc n + length xs ≡ n + length (x ∷ xs) = omega arith in
    let dry = if_dry (n % 64 == 63) in
    ap (λ l. x ∷ (dry ++ l)) (drained_behind (suc n) xs ys ∙ ap (λ k. drained (suc n) xs ++ drained k ys) at)
    ∙ ap (λ l. x ∷ l) (sym (append_assoc dry (drained (suc n) xs) (drained (n + length (x ∷ xs)) ys)))

-- turns of one slice, up to the next drain
slice_drained : (harts turn n : ℕ) (last : Then) → suc n ≤ 64 - turn % 64
    → drained turn (turns harts turn (suc n) last) ≡ turns harts turn (suc n) last ++ if_dry ((turn + n) % 64 == 63)
unfolding drained turns
slice_drained harts turn zero last short =
    let here : turn ≡ turn + 0 = omega arith in
    ap (λ l. Turned (turn % harts) last ∷ l) (append-nil (if_dry (turn % 64 == 63)) ∙ ap (λ k. if_dry (k % 64 == 63)) here)
slice_drained harts turn (suc n) last short =
    let off : nat_eq (turn % 64) 63 ≡ false = grind (arith, short) in
    let next : suc n ≤ 64 - suc turn % 64 = omega (arith, short) in
    let at : suc turn + n ≡ turn + suc n = omega arith in
    ap (λ b. Turned (turn % harts) GoOn ∷ (if_dry b ++ drained (suc turn) (turns harts (suc turn) (suc n) last))) off
    ∙ ap (λ l. Turned (turn % harts) GoOn ∷ l) (slice_drained harts (suc turn) n last next
    ∙ ap (λ k. turns harts (suc turn) (suc n) last ++ if_dry (k % 64 == 63)) at)

-- a run, and the turns of one more slice
pub drained_on : (harts turn made : ℕ) (last : Then) → 1 ≤ made → made ≤ 64 - turn % 64
    → drained 0 (turns harts 0 turn GoOn) ++ (turns harts turn made last ++ if_dry ((turn + made) % 64 == 0))
    ≡ drained 0 (turns harts 0 (turn + made) last)
drained_on harts turn zero last some short = absurd (omega (arith, some))
drained_on harts turn (suc n) last some short =
    let before = turns harts 0 turn GoOn in
    let so = turns harts turn (suc n) last in
    let at : turn ≡ 0 + length before = omega (arith, length_turns harts 0 turn GoOn) in
    let same : nat_eq ((turn + suc n) % 64) 0 ≡ nat_eq ((turn + n) % 64) 63 = grind arith in
    ap (λ b. drained 0 before ++ (so ++ if_dry b)) same
    ∙ ap (λ l. drained 0 before ++ l) (sym (slice_drained harts turn n last short) ∙ ap (λ k. drained k so) at)
    ∙ sym (drained_behind 0 before so) ∙ ap (drained 0) (turns_on harts turn (suc n) last some)

-- the last of some turns
last_turn : (harts turn n : ℕ) (last : Then)
    → turns harts turn (suc n) last ≡ turns harts turn n GoOn ++ Turned ((turn + n) % harts) last ∷ []
unfolding turns
last_turn harts turn n last = sym (turns_behind harts turn n 0 (suc n) last (omega arith))

-- a run up to the last turn of a slice
pub drained_before : (harts turn n : ℕ) → suc n ≤ 64 - turn % 64
    → drained 0 (turns harts 0 turn GoOn) ++ turns harts turn n GoOn ≡ drained 0 (turns harts 0 (turn + n) GoOn)
unfolding turns
drained_before harts turn zero short =
    let here : turn ≡ turn + 0 = omega arith in
    append-nil (drained 0 (turns harts 0 turn GoOn)) ∙ ap (λ k. drained 0 (turns harts 0 k GoOn)) here
drained_before harts turn (suc n) short =
    let off : nat_eq ((turn + suc n) % 64) 0 ≡ false = grind (arith, short) in
    ap (λ l. drained 0 (turns harts 0 turn GoOn) ++ l) (sym (append-nil (turns harts turn (suc n) GoOn))
    ∙ ap (λ b. turns harts turn (suc n) GoOn ++ if_dry b) (sym off))
    ∙ drained_on harts turn (suc n) GoOn (omega arith) (omega (arith, short))

-- a run that ends with the last turn of a slice and a drain
pub drained_last : (harts turn n : ℕ) (last : Then) → suc n ≤ 64 - turn % 64
    → (drained 0 (turns harts 0 turn GoOn) ++ turns harts turn (suc n) last) ++ Dry ∷ []
    ≡ drained 0 (turns harts 0 (turn + n) GoOn) ++ Turned ((turn + n) % harts) last ∷ Dry ∷ []
drained_last harts turn n last short =
    let before = drained 0 (turns harts 0 turn GoOn) in
    let some = turns harts turn n GoOn in
    let end = Turned ((turn + n) % harts) last ∷ [] in
    ap (λ l. (before ++ l) ++ Dry ∷ []) (last_turn harts turn n last)
    ∙ ap (λ l. l ++ Dry ∷ []) (sym (append_assoc before some end))
    ∙ append_assoc (before ++ some) end (Dry ∷ [])
    ∙ ap (λ l. l ++ Turned ((turn + n) % harts) last ∷ Dry ∷ []) (drained_before harts turn n short)

-- a reply that does not end a slice was to a turn
after_going : (r : HostReply) → ends_steps (reply_of r) ≡ false → after_step r ≡ GoOn
after_going (reply.Board answer.Retired) goes = refl
after_going (reply.Board (answer.Trapped e)) goes = refl
after_going (reply.Board (answer.Interrupted i)) goes = refl
after_going (reply.Board (answer.Halted s)) goes = absurd cc
after_going (reply.Board (answer.Break a)) goes = absurd cc
after_going (reply.Board answer.Done) goes = refl
after_going (reply.Board (answer.Bytes bs)) goes = refl
after_going (reply.Board (answer.Regs rs)) goes = refl
after_going (reply.Board (answer.Line a w)) goes = refl
after_going (reply.Board (answer.Refused r)) goes = absurd cc
after_going (reply.Begun n) goes = absurd cc
after_going (reply.Copied page number) goes = absurd cc
after_going (reply.RoundEnded round sent skipped left) goes = absurd cc
after_going reply.Stopping goes = absurd cc
after_going reply.StateSent goes = absurd cc
after_going (reply.PartSent part parts) goes = absurd cc
after_going reply.Resent goes = absurd cc
after_going reply.Aborted goes = absurd cc
after_going reply.Open goes = absurd cc
after_going (reply.MoveDeclined limit) goes = absurd cc
after_going (reply.Fixing count) goes = absurd cc
after_going (reply.Committed n) goes = absurd cc
after_going reply.Finished goes = absurd cc
after_going reply.Accepted goes = absurd cc
after_going (reply.Declined limit) goes = absurd cc
after_going (reply.Stored page number) goes = absurd cc
after_going reply.Noted goes = absurd cc
after_going (reply.Kept part parts) goes = absurd cc
after_going (reply.Lacking count) goes = absurd cc
after_going reply.ReadySent goes = absurd cc
after_going reply.Started goes = absurd cc
after_going reply.Dropped goes = absurd cc
after_going (reply.Refused why) goes = absurd cc

-- the step of the hart whose turn it is
abbrev pub step_of : (turn harts : ℕ) → HostEvent
step_of turn harts = event.Do (command.Board (asked.Step (turn % harts)))

-- the turns that receipts tell
abbrev pub told : List PlainReceipt → List Mark
told rs = flat_map (λ (r : PlainReceipt). mark_made r.event r.reply) rs

-- one step
one_step : (harts turn : ℕ) (last : Then)
    → turn_of_step (turn % harts) last ++ [] ≡ turns harts turn (turns_of last 1) (after_turns last)
unfolding turns
one_step harts turn GoOn = refl
one_step harts turn Elsewhere = refl
one_step harts turn (Halted s) = refl

-- a step, and others after it
step_before : (harts turn n : ℕ) (last : Then)
    → Turned (turn % harts) GoOn ∷ turns harts (suc turn) (turns_of last (suc n)) (after_turns last)
    ≡ turns harts turn (turns_of last (suc (suc n))) (after_turns last)
unfolding turns
step_before harts turn n GoOn = refl
step_before harts turn n Elsewhere =
    let one : suc n - 1 ≡ n = omega arith in
    let two : suc n ≡ suc (suc n) - 1 = omega arith in
    ap (λ k. Turned (turn % harts) GoOn ∷ turns harts (suc turn) k GoOn) one
    ∙ sym (first_turn harts turn n) ∙ ap (λ k. turns harts turn k GoOn) two
step_before harts turn n (Halted s) = refl

no_steps : (harts turn : ℕ) (last : Then) → [] ≡ turns harts turn (turns_of last 0) (after_turns last)
unfolding turns
no_steps harts turn GoOn = refl
no_steps harts turn Elsewhere = refl
no_steps harts turn (Halted s) = refl

-- the steps of a slice are turns, except the last one if the other host is to make it
pub slice_turns : (rs : List PlainReceipt) (harts turn : ℕ) (last : Then)
    → ((k : ℕ) (r : PlainReceipt) → slice_get rs k ≡ Some r → r.event ≡ step_of (turn + k) harts)
    → ((k : ℕ) (r : PlainReceipt) → slice_get rs k ≡ Some r → suc k < length rs → ends_steps (reply_of r.reply) ≡ false)
    → ((k : ℕ) (r : PlainReceipt) → slice_get rs k ≡ Some r → suc k ≡ length rs → after_step r.reply ≡ last)
    → told rs ≡ turns harts turn (turns_of last (length rs)) (after_turns last)
slice_turns [] harts turn last steps goes ends = no_steps harts turn last
slice_turns (r ∷ []) harts turn last steps goes ends =
    ap (λ e. mark_made e r.reply ++ []) (steps zero r refl ∙ ap (λ n. step_of n harts) (omega arith))
    ∙ ap (λ t. turn_of_step (turn % harts) t ++ []) (ends zero r refl refl)
    ∙ one_step harts turn last
slice_turns (r ∷ s ∷ rs) harts turn last steps goes ends =
    ap (λ e. mark_made e r.reply ++ told (s ∷ rs)) (steps zero r refl ∙ ap (λ n. step_of n harts) (omega arith))
    ∙ ap (λ t. turn_of_step (turn % harts) t ++ told (s ∷ rs)) (after_going r.reply (goes zero r refl (omega arith)))
    ∙ ap (λ l. Turned (turn % harts) GoOn ∷ l)
    (slice_turns (s ∷ rs) harts (suc turn) last
    (λ k t here. steps (suc k) t here ∙ ap (λ n. step_of n harts) (omega arith))
    (λ k t here more. goes (suc k) t here (omega (arith, more)))
    (λ k t here is. ends (suc k) t here (ap suc is)))
    ∙ step_before harts turn (length rs) last

-- the turns that calls at the first host, or at the second, tell
pub told_a : (rs : List PlainReceipt) → flat_map marks_in (map AtA rs) ≡ told rs
told_a [] = refl
told_a (r ∷ rs) = ap (λ l. mark_made r.event r.reply ++ l) (told_a rs)

pub told_b : (rs : List PlainReceipt) → flat_map marks_in (map AtB rs) ≡ told rs
told_b [] = refl
told_b (r ∷ rs) = ap (λ l. mark_made r.event r.reply ++ l) (told_b rs)
