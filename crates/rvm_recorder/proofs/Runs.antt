-- The receipts of a slice, one more run of them.
use Rattle.std.proofs.Common.{◌≡◌, ◌∙◌, ℕ, zero, suc, ◌+◌, List, [], ◌∷◌, ◌++◌, length, length-append, replicate, Option, Some, None, refl, sym, ap, subst, arith}
use Rattle.std.proofs.lemmas.List.{append_assoc, append-nil, map-append}
use Rattle.rvm_hart.specs.declared.outcome.Stepped.TheVariants.{Retired}
use Rattle.rvm_recorder.specs.Calls.{AreReceipts, replies_of}
use Rattle.rvm_recorder.specs.declared.items.ReceiptItem.{ReceiptItem}
use Rattle.rvm_recorder.specs.Receipts.{PlainReceipt}
use Rattle.rvm_recorder.specs.Runs.{all_of, last_receipt, receipts_of, run_receipts, step_receipt, steps_receipts}
use Rattle.rvm_recorder.specs.Seats.{PlainSeat}
use Rattle.rvm_recorder.proofs.Receipts.{more_receipts}
use Rattle.rvm_recorder.specs.declared.run.StepRun.{StepRun}
use Rattle.rvm_recorder.specs.Items.{last_reply, one_if, replies_in, steps_of}
use Rattle.rvm_recorder.specs.Slices.{replies_to, step_of}
use Rattle.rvm_message.specs.declared.step.StepReply.{StepReply}
use Rattle.rvm_message.specs.declared.step.StepReply.TheVariants.{Stepped}
use Rattle.rvm_message.specs.Steps.{reply_to_step}

-- items after items
pub all_append : (items more : List ReceiptItem) → all_of (items ++ more) ≡ all_of items ++ all_of more
all_append [] more = refl
all_append (x ∷ items) more = ap (λ zs. receipts_of x ++ zs) (all_append items more) ∙ sym (append_assoc (receipts_of x) (all_of items) (all_of more))

pub all_push : (items : List ReceiptItem) (x : ReceiptItem) → all_of (items ++ x ∷ []) ≡ all_of items ++ receipts_of x
all_push items x = all_append items (x ∷ []) ∙ ap (λ zs. all_of items ++ zs) (append-nil (receipts_of x))

pub none_retired : (place seat count turn harts : ℕ) → steps_receipts place seat count turn harts 0 ≡ []
unfolding steps_receipts
none_retired place seat count turn harts = refl

steps_first : (place seat count turn harts n : ℕ) → steps_receipts place seat count turn harts (suc n)
    ≡ step_receipt place seat count turn harts (Stepped Retired) ∷ steps_receipts (place + 1) seat (count + 1) (turn + 1) harts n
unfolding steps_receipts
steps_first place seat count turn harts n = refl

-- steps have one receipt each, with their replies
pub steps_length : (place seat count turn harts n : ℕ) → length (steps_receipts place seat count turn harts n) ≡ n
unfolding steps_receipts
steps_length place seat count turn harts zero = refl
steps_length place seat count turn harts (suc n) = ap suc (steps_length (place + 1) seat (count + 1) (turn + 1) harts n)

pub steps_replies : (place seat count turn harts n : ℕ) → replies_of (steps_receipts place seat count turn harts n) ≡ replies_to (replicate n (Stepped Retired))
unfolding steps_receipts
steps_replies place seat count turn harts zero = refl
steps_replies place seat count turn harts (suc n) =
    ap (λ rs. reply_to_step (Stepped Retired) ∷ rs) (steps_replies (place + 1) seat (count + 1) (turn + 1) harts n)

last_replies : (place seat count turn harts : ℕ) (o : Option StepReply) → replies_of (last_receipt place seat count turn harts o) ≡ replies_to (last_reply o)
last_replies place seat count turn harts None = refl
last_replies place seat count turn harts (Some r) = refl

last_length : (place seat count turn harts : ℕ) (o : Option StepReply) → length (last_receipt place seat count turn harts o) ≡ one_if o
last_length place seat count turn harts None = refl
last_length place seat count turn harts (Some r) = refl

pub run_replies : (place seat count turn harts : ℕ) (run : StepRun) → replies_of (run_receipts place seat count turn harts run) ≡ replies_to (replies_in run)
run_replies place seat count turn harts run =
    let n = run.retired in
    map-append (λ (r : PlainReceipt). r.reply) (steps_receipts place seat count turn harts n) (last_receipt (place + n) seat (count + n) (turn + n) harts run.last)
    ∙ ap (λ rs. rs ++ replies_of (last_receipt (place + n) seat (count + n) (turn + n) harts run.last)) (steps_replies place seat count turn harts n)
    ∙ ap (λ rs. replies_to (replicate n (Stepped Retired)) ++ rs) (last_replies (place + n) seat (count + n) (turn + n) harts run.last)
    ∙ sym (map-append (λ r. reply_to_step r) (replicate n (Stepped Retired)) (last_reply run.last))

pub run_length : (place seat count turn harts : ℕ) (run : StepRun) → length (run_receipts place seat count turn harts run) ≡ steps_of run
run_length place seat count turn harts run =
    let n = run.retired in
    let first = steps_length place seat count turn harts n in
    let last = last_length (place + n) seat (count + n) (turn + n) harts run.last in
    omega (arith, first, last, length-append (steps_receipts place seat count turn harts n) (last_receipt (place + n) seat (count + n) (turn + n) harts run.last))

-- receipts after those of a seat
module _ (seat : PlainSeat) (place turn harts : ℕ) where
  one_behind : (rs : List PlainReceipt) (k p c t : ℕ) (reply : StepReply) → AreReceipts seat place turn harts rs → length rs ≡ k
      → p ≡ place + k → c ≡ seat.count + k → t ≡ turn + k
      → AreReceipts seat place turn harts (rs ++ step_receipt p seat.id c t harts reply ∷ [])
  one_behind rs k p c t reply are many at counts turns =
      let r = step_receipt p seat.id c t harts reply in
      more_receipts seat place turn harts rs r are (at ∙ ap (λ n. place + n) (sym many)) (record {
        seat_is = refl;
        count = counts ∙ ap (λ n. seat.count + n) (sym many);
        event_is = ap (λ n. step_of n harts) (turns ∙ ap (λ n. turn + n) (sym many));
      })

  steps_behind : (n : ℕ) (rs : List PlainReceipt) (k p c t : ℕ) → AreReceipts seat place turn harts rs → length rs ≡ k
      → p ≡ place + k → c ≡ seat.count + k → t ≡ turn + k
      → AreReceipts seat place turn harts (rs ++ steps_receipts p seat.id c t harts n)
  steps_behind zero rs k p c t are many at counts turns =
      subst (AreReceipts seat place turn harts)
      (sym (ap (λ xs. rs ++ xs) (none_retired p seat.id c t harts) ∙ append-nil rs)) are
  steps_behind (suc n) rs k p c t are many at counts turns =
      let r = step_receipt p seat.id c t harts (Stepped Retired) in
      let more : AreReceipts seat place turn harts (rs ++ r ∷ []) = one_behind rs k p c t (Stepped Retired) are many at counts turns in
      let long : length (rs ++ r ∷ []) ≡ k + 1 = omega (arith, many, length-append rs (r ∷ [])) in
      subst (AreReceipts seat place turn harts)
      (append_assoc rs (r ∷ []) (steps_receipts (p + 1) seat.id (c + 1) (t + 1) harts n)
      ∙ ap (λ xs. rs ++ xs) (sym (steps_first p seat.id c t harts n)))
      (steps_behind n (rs ++ r ∷ []) (k + 1) (p + 1) (c + 1) (t + 1) more long (omega (arith, at)) (omega (arith, counts)) (omega (arith, turns)))

  last_behind : (o : Option StepReply) (rs : List PlainReceipt) (k p c t : ℕ) → AreReceipts seat place turn harts rs → length rs ≡ k
      → p ≡ place + k → c ≡ seat.count + k → t ≡ turn + k
      → AreReceipts seat place turn harts (rs ++ last_receipt p seat.id c t harts o)
  last_behind None rs k p c t are many at counts turns = subst (AreReceipts seat place turn harts) (sym (append-nil rs)) are
  last_behind (Some r) rs k p c t are many at counts turns = one_behind rs k p c t r are many at counts turns

  pub run_behind : (run : StepRun) (rs : List PlainReceipt) (k p c t : ℕ) → AreReceipts seat place turn harts rs → length rs ≡ k
      → p ≡ place + k → c ≡ seat.count + k → t ≡ turn + k
      → AreReceipts seat place turn harts (rs ++ run_receipts p seat.id c t harts run)
  run_behind run rs k p c t are many at counts turns =
      let n = run.retired in
      let first = steps_receipts p seat.id c t harts n in
      let on = steps_behind n rs k p c t are many at counts turns in
      let long : length (rs ++ first) ≡ k + n = omega (arith, many, length-append rs first, steps_length p seat.id c t harts n) in
      subst (AreReceipts seat place turn harts)
      (append_assoc rs first (last_receipt (p + n) seat.id (c + n) (t + n) harts run.last))
      (last_behind run.last (rs ++ first) (k + n) (p + n) (c + n) (t + n) on long (omega (arith, at)) (omega (arith, counts)) (omega (arith, turns)))
