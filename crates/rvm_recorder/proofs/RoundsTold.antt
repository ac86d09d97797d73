-- Consecutive receipts of rounds.
use Rattle.std.proofs.Common.{◌≡◌, ◌∙◌, ℕ, zero, suc, ◌+◌, ◌-◌, ◌*◌, ◌≤◌, List, [], ◌∷◌, ◌++◌, length, length-append, refl, sym, ap, arith}
use Rattle.std.specs.Prelude.{slice_get, unwrap_or}
use Rattle.std.proofs.Math.Nat.{suc-mul}
use Rattle.std.proofs.lemmas.List.{append_assoc}
use Rattle.rvm_hart.specs.declared.outcome.Stepped.TheVariants.{Retired}
use Rattle.rvm_recorder.specs.declared.items.ReceiptItem.{ReceiptItem}
use Rattle.rvm_recorder.specs.declared.round_receipts.RoundReceipts.{RoundReceipts}
use Rattle.rvm_recorder.specs.Receipts.{PlainReceipt}
use Rattle.rvm_recorder.specs.Runs.{all_of, receipts_from, receipts_of, step_receipt, steps_receipts}
use Rattle.rvm_recorder.specs.Telling.{entry_in}
use Rattle.rvm_recorder.proofs.Runs.{all_push}
use Rattle.rvm_recorder.specs.declared.rounds.Rounds.{Rounds}
use Rattle.rvm_recorder.specs.Entries.{PlainEntry}
use Rattle.rvm_recorder.specs.Items.{dry_entry, rounds_in_turn, rounds_of, steps_in_turn}
use Rattle.rvm_recorder.proofs.InRounds.{drain_in, one_round, rounds_length}
use Rattle.rvm_recorder.proofs.StepRuns.{steps_length}
use Rattle.rvm_message.specs.declared.step.StepReply.TheVariants.{Stepped}
use Rattle.rvm_message.specs.Exchanges.{dry_exchange, exchange}

-- the receipts of entries after others
from_append : (xs ys : List PlainEntry) (place seat count : ℕ) → receipts_from place seat count (xs ++ ys)
    ≡ receipts_from place seat count xs ++ receipts_from (place + length xs) seat (count + length xs) ys
from_append [] ys place seat count =
    let p : place ≡ place + 0 = omega arith in
    let c : count ≡ count + 0 = omega arith in λ i. receipts_from (p i) seat (c i) ys
from_append (x ∷ xs) ys place seat count =
    let p : place + 1 + length xs ≡ place + suc (length xs) = omega arith in
    let c : count + 1 + length xs ≡ count + suc (length xs) = omega arith in
    let first : PlainReceipt = record { place = place; seat = seat; count = count; event = x.event; reply = x.reply } in
    ap (λ rs. first ∷ rs) (from_append xs ys (place + 1) seat (count + 1)
    ∙ (λ i. receipts_from (place + 1) seat (count + 1) xs ++ receipts_from (p i) seat (c i) ys))

-- the receipts of steps
from_steps : (n place seat count turn harts : ℕ) → receipts_from place seat count (steps_in_turn turn harts n) ≡ steps_receipts place seat count turn harts n
unfolding steps_in_turn steps_receipts
from_steps zero place seat count turn harts = refl
from_steps (suc n) place seat count turn harts =
    ap (λ rs. step_receipt place seat count turn harts (Stepped Retired) ∷ rs) (from_steps n (place + 1) seat (count + 1) (turn + 1) harts)

-- the receipt of a drain that found none
abbrev dry_receipt : (place seat count drain : ℕ) → PlainReceipt
dry_receipt place seat count drain = record { place = place; seat = seat; count = count; event = (dry_entry drain).event; reply = (dry_entry drain).reply }

-- the receipts of a round
pub round_receipts : (place seat count turn harts steps drain : ℕ) (r : PlainReceipt) → r.place ≡ place + steps → r.seat ≡ seat → r.count ≡ count + steps
    → exchange r.event r.reply ≡ dry_exchange drain
    → receipts_from place seat count (rounds_in_turn turn harts steps drain 1) ≡ steps_receipts place seat count turn harts steps ++ r ∷ []
round_receipts place seat count turn harts steps drain r at of counts dry =
    let long = steps_length turn harts steps in
    let p : place + length (steps_in_turn turn harts steps) ≡ r.place = omega (arith, long, at) in
    let c : count + length (steps_in_turn turn harts steps) ≡ r.count = omega (arith, long, counts) in
    ap (receipts_from place seat count) (one_round turn harts steps drain)
    ∙ from_append (steps_in_turn turn harts steps) (dry_entry drain ∷ []) place seat count
    ∙ (λ i. from_steps steps place seat count turn harts i ++ (record {
      place = p i;
      seat = sym of i;
      count = c i;
      event = (sym dry i).event;
      reply = (sym dry i).reply;
    }) ∷ [])

-- the receipts of rounds after those of others
pub both_receipts : (place seat count p s c : ℕ) (first more all : Rounds) (n : ℕ) → rounds_of all ≡ rounds_of first ++ rounds_of more
    → n ≡ first.count * (first.steps + 1) → p ≡ place + n → s ≡ seat → c ≡ count + n
    → receipts_from place seat count (rounds_of all) ≡ receipts_from place seat count (rounds_of first) ++ receipts_from p s c (rounds_of more)
both_receipts place seat count p s c first more all n is len at of counts =
    let long = rounds_length first.turn first.harts first.steps first.drain first.count in
    let pl : place + length (rounds_of first) ≡ p = omega (arith, long, len, at) in
    let co : count + length (rounds_of first) ≡ c = omega (arith, long, len, counts) in
    ap (receipts_from place seat count) is ∙ from_append (rounds_of first) (rounds_of more) place seat count
    ∙ (λ i. receipts_from place seat count (rounds_of first) ++ receipts_from (pl i) (sym of i) (co i) (rounds_of more))

-- there are receipts of all rounds, if there are some of the first
pub some_receipts : (first more all : Rounds) → rounds_of all ≡ rounds_of first ++ rounds_of more → 1 ≤ first.count * (first.steps + 1)
    → 1 ≤ all.count * (all.steps + 1)
some_receipts first more all is some =
    let long = rounds_length first.turn first.harts first.steps first.drain first.count in
    let whole = rounds_length all.turn all.harts all.steps all.drain all.count in
    omega (arith, long, whole, some, ap length is, length-append (rounds_of first) (rounds_of more))

last_of : (n turn harts steps drain : ℕ) → 1 ≤ n * (steps + 1)
    → unwrap_or (slice_get (rounds_in_turn turn harts steps drain n) (n * (steps + 1) - 1)) (dry_entry 0) ≡ dry_entry drain
last_of zero turn harts steps drain some = absurd (omega (arith, some))
last_of (suc q) turn harts steps drain some =
    let at : suc q * (steps + 1) - 1 ≡ q * (steps + 1) + steps = omega (arith, suc-mul q (steps + 1)) in
    ap (λ o. unwrap_or o (dry_entry 0)) (drain_in harts steps drain q turn (suc q) (suc q * (steps + 1) - 1) at (omega arith))

-- the last entry of rounds is a drain
pub last_dry : (r : RoundReceipts) → entry_in r.rounds (r.rounds.count * (r.rounds.steps + 1) - 1) ≡ dry_entry r.rounds.drain
last_dry r =
    let rs = r.rounds in
    last_of rs.count rs.turn rs.harts rs.steps rs.drain r.some

-- an item that is joined with more receipts
pub joined_in : (old rest new : List ReceiptItem) (last item : ReceiptItem) (more : List PlainReceipt) → old ≡ rest ++ last ∷ [] → new ≡ rest ++ item ∷ []
    → receipts_of item ≡ receipts_of last ++ more → all_of new ≡ all_of old ++ more
joined_in old rest new last item more old_is new_is item_is =
    ap all_of new_is ∙ all_push rest item ∙ ap (λ z. all_of rest ++ z) item_is ∙ sym (append_assoc (all_of rest) (receipts_of last) more)
    ∙ ap (λ z. z ++ more) (sym (ap all_of old_is ∙ all_push rest last))

-- an item and another one after it
pub both_in : (old rest between new : List ReceiptItem) (last item : ReceiptItem) → old ≡ rest ++ last ∷ [] → between ≡ rest ++ last ∷ []
    → new ≡ between ++ item ∷ [] → all_of new ≡ all_of old ++ receipts_of item
both_in old rest between new last item old_is between_is new_is =
    ap all_of new_is ∙ all_push between item ∙ ap (λ zs. all_of zs ++ receipts_of item) (between_is ∙ sym old_is)

-- rounds after the items before the last one
pub rounded_in : (old rest : List ReceiptItem) (new : List PlainReceipt) (last item : ReceiptItem) (more : List PlainReceipt) → old ≡ rest ++ last ∷ []
    → new ≡ all_of rest ++ receipts_of item → receipts_of item ≡ receipts_of last ++ more → new ≡ all_of old ++ more
rounded_in old rest new last item more old_is new_is item_is =
    new_is ∙ ap (λ z. all_of rest ++ z) item_is ∙ sym (append_assoc (all_of rest) (receipts_of last) more)
    ∙ ap (λ z. z ++ more) (sym (ap all_of old_is ∙ all_push rest last))
