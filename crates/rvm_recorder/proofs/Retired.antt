-- Steps that retired, as entries: a journal stays a replay, and its host is the one that it leads to.
use Rattle.std.proofs.Common.{◌≡◌, ◌∙◌, ℕ, zero, suc, ◌+◌, ◌-◌, ◌%◌, ◌<◌, ◌≤◌, List, [], ◌∷◌, ◌++◌, Option, Some, None, true, is_some, refl, sym, ap, subst, arith}
use Rattle.std.proofs.lemmas.List.{append_assoc, append-nil}
use Rattle.rvm_hart.specs.declared.outcome.Stepped as outcome
use Rattle.rvm_hart.specs.declared.outcome.Stepped.TheVariants.{Retired}
use Rattle.rvm_board.specs.declared.retiring.Retired as told
use Rattle.rvm_host.specs.Hosts.{PlainHost}
use Rattle.rvm_host.specs.Retiring.{AreRetired, HostRetires, IsLast, IsStep}
use Rattle.rvm_recorder.specs.Entries.{PlainEntry}
use Rattle.rvm_recorder.specs.History.{History, IsKept}
use Rattle.rvm_recorder.specs.Items.{entries_in, last_of, one_if, reply_of_last, run_of, step_entry, steps_in_turn, steps_of}
use Rattle.rvm_recorder.specs.Replay.{IsReplay}
use Rattle.rvm_recorder.proofs.StepRuns.{no_steps, steps_first}
use Rattle.rvm_recorder.proofs.Replays.{replays, still_kept}
use Rattle.rvm_message.specs.declared.step.StepReply.TheVariants.{Stepped}
use Rattle.rvm_message.specs.Exchanges.{step_of_hart}
use Rattle.rvm_message.specs.Steps.{reply_to_step}

-- the journal with these entries after its own, and room for this many more
abbrev pub grown : History → List PlainEntry → (reserved : ℕ) → History
grown h xs n = record h { entries = h.entries ++ xs; reserved = n }

-- a journal is a replay, and its host is the one that it leads to
pub record IsSound (host : PlainHost) (h : History) (capacity : ℕ) : Type 0 where
  pub kept : IsKept host h capacity
  pub replay : IsReplay h.opening h.entries

-- one step more
one_step : (host next : PlainHost) (h : History) (capacity turn harts : ℕ) (s : outcome.Stepped) → IsSound host h capacity
    → IsStep (turn % harts) s host next → 1 ≤ h.reserved
    → IsSound next (grown h (step_entry turn harts (Stepped s) ∷ []) (h.reserved - 1)) capacity
one_step host next h capacity turn harts s so step room =
    let event = step_of_hart (turn % harts) in
    let reply = reply_to_step (Stepped s) in
    let xs : List PlainEntry = h.entries ++ step_entry turn harts (Stepped s) ∷ [] in
    let fits = so.kept.fits in
    record {
      kept = still_kept host next h capacity event reply None so.kept step xs refl (h.reserved - 1) (omega arith) (omega (arith, fits, room));
      replay = replays host next h capacity event reply None so.kept step xs refl 0 tt so.replay;
    }

-- the journal after steps that retired
many_steps : (n : ℕ) (host next : PlainHost) (h : History) (capacity turn harts : ℕ) → IsSound host h capacity
    → AreRetired harts n turn host next → n ≤ h.reserved
    → IsSound next (grown h (steps_in_turn turn harts n) (h.reserved - n)) capacity
many_steps zero host next h capacity turn harts so are room =
    let same : grown h (steps_in_turn turn harts 0) (h.reserved - 0) ≡ h =
    (λ i. grown h (no_steps turn harts i) (h.reserved - 0))
    ∙ (λ i. record h { entries = append-nil h.entries i; reserved = h.reserved - 0 })
    ∙ ap (λ n. record h { reserved = n }) (omega arith) in
    subst (λ x. IsSound next x capacity) (sym same) (subst (λ x. IsSound x h capacity) (sym are) so)
many_steps (suc n) host next h capacity turn harts so are room =
    let x = step_entry turn harts (Stepped Retired) in
    let h' : History = grown h (x ∷ []) (h.reserved - 1) in
    let one = one_step host are.0 h capacity turn harts Retired so are.1 (omega (arith, room)) in
    let rest = many_steps n are.0 next h' capacity (turn + 1) harts one are.2 (omega (arith, room)) in
    let left : h.reserved - 1 - n ≡ h.reserved - suc n = omega arith in
    let all : grown h' (steps_in_turn (turn + 1) harts n) (h.reserved - 1 - n) ≡ grown h (steps_in_turn turn harts (suc n)) (h.reserved - suc n) =
    ap (λ xs. record h { entries = xs; reserved = h.reserved - 1 - n }) (append_assoc h.entries (x ∷ []) (steps_in_turn (turn + 1) harts n)
    ∙ ap (λ xs. h.entries ++ xs) (sym (steps_first turn harts n)))
    ∙ ap (λ k. grown h (steps_in_turn turn harts (suc n)) k) left in
    subst (λ z. IsSound next z capacity) all rest

a_last : (o : Option outcome.Stepped) (host next : PlainHost) (h : History) (capacity turn harts : ℕ) → IsSound host h capacity
    → IsLast (turn % harts) o host next → one_if (reply_of_last o) ≤ h.reserved
    → IsSound next (grown h (last_of turn harts (reply_of_last o)) (h.reserved - one_if (reply_of_last o))) capacity
a_last None host next h capacity turn harts so last room =
    let same : grown h [] (h.reserved - 0) ≡ h =
    (λ i. record h { entries = append-nil h.entries i; reserved = h.reserved - 0 })
    ∙ ap (λ n. record h { reserved = n }) (omega arith) in
    subst (λ x. IsSound next x capacity) (sym same) (subst (λ x. IsSound x h capacity) (sym last) so)
a_last (Some s) host next h capacity turn harts so last room = one_step host next h capacity turn harts s so last room

few_of : (o : Option outcome.Stepped) (n count : ℕ) → n ≤ count → (is_some o ≡ true → n < count) → n + one_if (reply_of_last o) ≤ count
few_of None n count few fewer = omega (arith, few)
few_of (Some s) n count few fewer = let less = fewer refl in omega (arith, less)

-- a run has no more steps than were asked for
pub run_few : (host next : PlainHost) (turn harts count : ℕ) (made : told.Retired) → HostRetires harts turn count host next made
    → steps_of (run_of made) ≤ count
run_few host next turn harts count made all = few_of made.last made.count count all.few all.fewer

-- the journal after all steps that a host made
pub run_sound : (host next : PlainHost) (h : History) (capacity turn harts count : ℕ) (made : told.Retired)
    → IsSound host h capacity → HostRetires harts turn count host next made → count ≤ h.reserved
    → IsSound next (grown h (entries_in turn harts (run_of made)) (h.reserved - steps_of (run_of made))) capacity
run_sound host next h capacity turn harts count made so all room =
    let few = run_few host next turn harts count made all in
    let first = many_steps made.count host all.between h capacity turn harts so all.retired (omega (arith, few, room)) in
    let h' = grown h (steps_in_turn turn harts made.count) (h.reserved - made.count) in
    let last = a_last made.last all.between next h' capacity (turn + made.count) harts first all.last (omega (arith, few, room)) in
    let n = one_if (reply_of_last made.last) in
    let left : h.reserved - made.count - n ≡ h.reserved - (made.count + n) = omega arith in
    let e : grown h' (last_of (turn + made.count) harts (reply_of_last made.last)) (h.reserved - made.count - n)
    ≡ grown h (entries_in turn harts (run_of made)) (h.reserved - steps_of (run_of made)) =
    ap (λ xs. record h { entries = xs; reserved = h.reserved - made.count - n }) (append_assoc h.entries (steps_in_turn turn harts made.count) (last_of (turn + made.count) harts (reply_of_last made.last)))
    ∙ ap (λ k. grown h (entries_in turn harts (run_of made)) k) left in
    subst (λ z. IsSound next z capacity) e last
