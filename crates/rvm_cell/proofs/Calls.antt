-- Calls after calls.
use Rattle.std.proofs.Common.{◌≡◌, ◌≢◌, ◌∙◌, ℕ, zero, suc, ◌+◌, ◌-◌, ◌≤◌, Bool, true, false, List, [], ◌∷◌, ◌++◌, append-nil, append_assoc, Option, Some, Result, Ok, Err, refl, sym, ap, map, subst, arith, length}
use Rattle.std.proofs.lemmas.List.Concat.{flat_map-append}
use Rattle.std.proofs.lemmas.List.Elements.{All-append, All-cons, All-map, All-nil}
use Rattle.std.proofs.KnownBytes.{Appends-nil, Appends-trans}
use Rattle.std.specs.Prelude.{slice_get, ◌%◌, ◌==◌, nat_eq, IfErr, IfOk, IfSome, OnErr, ⊤}
use Rattle.std.specs.Io.KnownBytes.{Appends}
use Rattle.std.specs.List.{All, flat_map}
use Rattle.rvm_recorder.specs.Receipts.{PlainReceipt}
use Rattle.rvm_board.specs.declared.event.BoardEvent.TheVariants as asked
use Rattle.rvm_message.specs.declared.event.Command.TheVariants as command
use Rattle.rvm_message.specs.declared.event.HostEvent.TheVariants as event
use Rattle.rvm_message.specs.declared.reply.HostReply.{HostReply}
use Rattle.rvm_message.specs.Exchanges.{dry_exchange}
use Rattle.rvm_cell.specs.declared.end.WorkEnd.{WorkEnd}
use Rattle.rvm_cell.specs.declared.end.WorkEnd.TheVariants.{LinkFault}
use Rattle.rvm_cell.specs.declared.steps.SliceSteps.{SliceSteps}
use Rattle.rvm_cell.specs.Work.{IsCall, IsSliceCall, PlainCaller}
use Rattle.rvm_cell.specs.Calls.{AtA, AtB, Call, EndsDry, HasRun, Made, Written, IsRun, bytes_in, drained_by, event_in, in_a, in_b, is_of_run, marks_in}
use Rattle.rvm_cell.specs.declared.pair.Drained.{Drained}
use Rattle.rvm_cell.specs.declared.pair.Drained.TheVariants as found
use Rattle.rvm_cell.specs.Drains.{bytes_of, bytes_told, found_nothing, is_nothing, told_by}
use Rattle.rvm_cell.specs.Turns.{AreTurns, Dry, Mark, after_step, after_turns, drained, if_dry, mark_made, turns, turns_of}
use Rattle.rvm_cell.specs.declared.harts.TurnsEnd.{TurnsEnd}
use Rattle.rvm_cell.specs.declared.harts.TurnsEnd.TheVariants as ended
use Rattle.rvm_cell.specs.declared.harts.TurnsEnd.TheVariants.{StepsSpent}
use Rattle.rvm_station.specs.declared.turn.Then.{Then}
use Rattle.rvm_station.specs.declared.turn.Then.TheVariants.{GoOn, Elsewhere, Halted}
use Rattle.rvm_cell.proofs.SliceTurns.{drained_last, drained_on, slice_turns, told_a, told_b}

-- a run goes on by this call
abbrev IsOfRun : Call → Type 0
IsOfRun c = is_of_run (event_in c) ≡ true

-- no call
pub made_none : (p : PlainCaller × PlainCaller) → Made p p [] [] false
made_none p = record {
  calls = [];
  start_a = refl;
  start_b = refl;
  at_a = sym (append-nil p.0.receipts);
  at_b = sym (append-nil p.1.receipts);
  only = All-nil IsOfRun;
  told = refl;
  turned = refl;
  ends = λ dry. absurd cc;
}

-- calls end dry if the last of them do
ends_behind : (xs ys : List Call) → EndsDry ys → EndsDry (xs ++ ys)
ends_behind xs ys e = record {
  before = xs ++ e.before;
  last = e.last;
  is_last = ap (λ l. xs ++ l) e.is_last ∙ sym (append_assoc xs e.before (e.last ∷ []));
  dry = e.dry;
}

-- calls, and others after them
pub made_both : (old mid new : PlainCaller × PlainCaller) (xs ys : List ℕ) (ts us : List Mark) (first dry : Bool)
    → Made old mid xs ts first → Made mid new ys us dry → Made old new (xs ++ ys) (ts ++ us) dry
made_both old mid new xs ys ts us first dry p q = record {
  calls = p.calls ++ q.calls;
  start_a = q.start_a ∙ p.start_a;
  start_b = q.start_b ∙ p.start_b;
  at_a = q.at_a ∙ ap (λ l. l ++ flat_map in_a q.calls) p.at_a
      ∙ append_assoc old.0.receipts (flat_map in_a p.calls) (flat_map in_a q.calls)
      ∙ ap (λ l. old.0.receipts ++ l) (sym (flat_map-append in_a p.calls q.calls));
  at_b = q.at_b ∙ ap (λ l. l ++ flat_map in_b q.calls) p.at_b
      ∙ append_assoc old.1.receipts (flat_map in_b p.calls) (flat_map in_b q.calls)
      ∙ ap (λ l. old.1.receipts ++ l) (sym (flat_map-append in_b p.calls q.calls));
  only = All-append IsOfRun p.calls q.calls p.only q.only;
  told = flat_map-append bytes_in p.calls q.calls ∙ ap (λ l. l ++ flat_map bytes_in q.calls) p.told
      ∙ ap (λ l. xs ++ l) q.told;
  turned = flat_map-append marks_in p.calls q.calls ∙ ap (λ l. l ++ flat_map marks_in q.calls) p.turned
      ∙ ap (λ l. ts ++ l) q.turned;
  ends = λ is. ends_behind p.calls q.calls (q.ends is);
}

-- calls that made no turn and told nothing, and others after them
pub made_behind : (old mid new : PlainCaller × PlainCaller) (bytes : List ℕ) (ts : List Mark) (dry : Bool)
    → Made old mid [] [] false → Made mid new bytes ts dry → Made old new bytes ts dry
made_behind old mid new bytes ts dry p q = made_both old mid new [] bytes [] ts false dry p q

-- a slice of no turn, and other calls after it
pub made_behind_none : (old mid new : PlainCaller × PlainCaller) (bytes : List ℕ) (ts : List Mark) (dry : Bool)
    (harts turn made : ℕ) (last : Then) → made ≡ 0 → Made old mid [] (turns harts turn made last) false
    → Made mid new bytes ts dry → Made old new bytes ts dry
unfolding turns
made_behind_none old mid new bytes ts dry harts turn made last none p q =
    made_behind old mid new bytes ts dry (subst (λ n. Made old mid [] (turns harts turn n last) false) none p) q

-- calls that made no turn and told nothing, and others after them that failed
pub made_behind_err : {T E : Type 0} (r : Result T E) (old mid new : PlainCaller × PlainCaller)
    → Made old mid [] [] false → Made mid new [] [] false → OnErr r (Made old new [] [] false)
made_behind_err (Ok x) old mid new p q = tt
made_behind_err (Err e) old mid new p q = made_behind old mid new [] [] false p q

-- calls that made no turn and told nothing, and a drain after them
pub made_behind_drain : {E : Type 0} (r : Result Drained E) (taken : List ℕ) (old mid new : PlainCaller × PlainCaller)
    → Made old mid [] [] false
    → IfOk r (λ d. Made mid new (bytes_of d taken) (if_dry (is_nothing d)) (is_nothing d))
    → IfOk r (λ d. Made old new (bytes_of d taken) (if_dry (is_nothing d)) (is_nothing d))
made_behind_drain (Ok d) taken old mid new p q =
    made_behind old mid new (bytes_of d taken) (if_dry (is_nothing d)) (is_nothing d) p q
made_behind_drain (Err e) taken old mid new p q = tt

-- calls that end with a drain that found nothing, and after which others may come
made_on : (old new : PlainCaller × PlainCaller) (bytes : List ℕ) (ts : List Mark) → Made old new bytes ts true
    → Made old new bytes ts false
made_on old new bytes ts p = record {
  calls = p.calls;
  start_a = p.start_a;
  start_b = p.start_b;
  at_a = p.at_a;
  at_b = p.at_b;
  only = p.only;
  told = p.told;
  turned = p.turned;
  ends = λ dry. absurd cc;
}

-- a drain
pub made_drain_at_a : (old new b : PlainCaller) (reply : HostReply) (d : Drained) (taken : List ℕ)
    → d ≡ told_by reply → bytes_of d taken ≡ bytes_told reply → new.start ≡ old.start
    → IsCall old.seat (event.Do (command.Board (asked.Drain 256))) old.receipts new.seat new.receipts reply
    → Made (old, b) (new, b) (bytes_of d taken) (if_dry (is_nothing d)) (is_nothing d)
made_drain_at_a old new b reply d taken d_is bytes_are same c = record {
  calls = AtA c.receipt ∷ [];
  start_a = same;
  start_b = refl;
  at_a = c.added;
  at_b = sym (append-nil b.receipts);
  only = All-cons IsOfRun (AtA c.receipt) [] (ap is_of_run c.of_event.event_is) (All-nil IsOfRun);
  told = append-nil (drained_by c.receipt.event c.receipt.reply)
      ∙ ap (λ e. drained_by e c.receipt.reply) c.of_event.event_is ∙ ap bytes_told c.answered ∙ sym bytes_are;
  turned = append-nil (mark_made c.receipt.event c.receipt.reply) ∙ ap (λ e. mark_made e c.receipt.reply) c.of_event.event_is
      ∙ ap (λ r. if_dry (is_nothing (told_by r))) c.answered ∙ ap (λ x. if_dry (is_nothing x)) (sym d_is);
  ends = λ is. record {
    before = [];
    last = AtA c.receipt;
    is_last = refl;
    dry = ap (λ e. found_nothing e c.receipt.reply) c.of_event.event_is ∙ ap (λ r. is_nothing (told_by r)) c.answered
        ∙ ap is_nothing (sym d_is) ∙ is;
  };
}

pub made_drain_at_b : (a old new : PlainCaller) (reply : HostReply) (d : Drained) (taken : List ℕ)
    → d ≡ told_by reply → bytes_of d taken ≡ bytes_told reply → new.start ≡ old.start
    → IsCall old.seat (event.Do (command.Board (asked.Drain 256))) old.receipts new.seat new.receipts reply
    → Made (a, old) (a, new) (bytes_of d taken) (if_dry (is_nothing d)) (is_nothing d)
made_drain_at_b a old new reply d taken d_is bytes_are same c = record {
  calls = AtB c.receipt ∷ [];
  start_a = refl;
  start_b = same;
  at_a = sym (append-nil a.receipts);
  at_b = c.added;
  only = All-cons IsOfRun (AtB c.receipt) [] (ap is_of_run c.of_event.event_is) (All-nil IsOfRun);
  told = append-nil (drained_by c.receipt.event c.receipt.reply)
      ∙ ap (λ e. drained_by e c.receipt.reply) c.of_event.event_is ∙ ap bytes_told c.answered ∙ sym bytes_are;
  turned = append-nil (mark_made c.receipt.event c.receipt.reply) ∙ ap (λ e. mark_made e c.receipt.reply) c.of_event.event_is
      ∙ ap (λ r. if_dry (is_nothing (told_by r))) c.answered ∙ ap (λ x. if_dry (is_nothing x)) (sym d_is);
  ends = λ is. record {
    before = [];
    last = AtB c.receipt;
    is_last = refl;
    dry = ap (λ e. found_nothing e c.receipt.reply) c.of_event.event_is ∙ ap (λ r. is_nothing (told_by r)) c.answered
        ∙ ap is_nothing (sym d_is) ∙ is;
  };
}

-- a drain that found nothing, if it was made
pub made_dry_at_a : (old new b : PlainCaller) (made : Bool) → new.start ≡ old.start
    → (made ≡ true → IsCall old.seat (dry_exchange 256).event old.receipts new.seat new.receipts (dry_exchange 256).reply)
    → made ≡ true → Made (old, b) (new, b) [] (Dry ∷ []) true
made_dry_at_a old new b made same call is =
    made_drain_at_a old new b (dry_exchange 256).reply found.Nothing [] refl refl same (call is)

pub made_dry_at_b : (a old new : PlainCaller) (made : Bool) → new.start ≡ old.start
    → (made ≡ true → IsCall old.seat (dry_exchange 256).event old.receipts new.seat new.receipts (dry_exchange 256).reply)
    → made ≡ true → Made (a, old) (a, new) [] (Dry ∷ []) true
made_dry_at_b a old new made same call is =
    made_drain_at_b a old new (dry_exchange 256).reply found.Nothing [] refl refl same (call is)

pub made_none_at_a : (old new b : PlainCaller) (made : Bool) → (made ≡ false → new ≡ old) → made ≡ false
    → Made (old, b) (new, b) [] [] false
made_none_at_a old new b made same is = subst (λ x. Made (old, b) (x, b) [] [] false) (sym (same is)) (made_none (old, b))

pub made_none_at_b : (a old new : PlainCaller) (made : Bool) → (made ≡ false → new ≡ old) → made ≡ false
    → Made (a, old) (a, new) [] [] false
made_none_at_b a old new made same is = subst (λ x. Made (a, old) (a, x) [] [] false) (sym (same is)) (made_none (a, old))

-- calls at one host
a_in_a : (rs : List PlainReceipt) → flat_map in_a (map AtA rs) ≡ rs
a_in_a [] = refl
a_in_a (r ∷ rs) = ap (λ l. r ∷ l) (a_in_a rs)

b_in_b : (rs : List PlainReceipt) → flat_map in_b (map AtB rs) ≡ rs
b_in_b [] = refl
b_in_b (r ∷ rs) = ap (λ l. r ∷ l) (b_in_b rs)

a_in_b : (rs : List PlainReceipt) → flat_map in_b (map AtA rs) ≡ []
a_in_b [] = refl
a_in_b (r ∷ rs) = a_in_b rs

b_in_a : (rs : List PlainReceipt) → flat_map in_a (map AtB rs) ≡ []
b_in_a [] = refl
b_in_a (r ∷ rs) = b_in_a rs

-- the steps of a slice tell no bytes
silent_a : (rs : List PlainReceipt)
    → ((k : ℕ) (r : PlainReceipt) → slice_get rs k ≡ Some r → (hart : ℕ) × (r.event ≡ event.Do (command.Board (asked.Step hart))))
    → flat_map bytes_in (map AtA rs) ≡ []
silent_a [] steps = refl
silent_a (r ∷ rs) steps =
    let here = steps zero r refl in
    ap (λ e. drained_by e r.reply ++ flat_map bytes_in (map AtA rs)) here.1
    ∙ silent_a rs (λ k s there. steps (suc k) s there)

silent_b : (rs : List PlainReceipt)
    → ((k : ℕ) (r : PlainReceipt) → slice_get rs k ≡ Some r → (hart : ℕ) × (r.event ≡ event.Do (command.Board (asked.Step hart))))
    → flat_map bytes_in (map AtB rs) ≡ []
silent_b [] steps = refl
silent_b (r ∷ rs) steps =
    let here = steps zero r refl in
    ap (λ e. drained_by e r.reply ++ flat_map bytes_in (map AtB rs)) here.1
    ∙ silent_b rs (λ k s there. steps (suc k) s there)

-- a run goes on by each step of a slice
of_run : (rs : List PlainReceipt)
    → ((k : ℕ) (r : PlainReceipt) → slice_get rs k ≡ Some r
    → (hart : ℕ) × (r.event ≡ event.Do (command.Board (asked.Step hart))))
    → All (λ (r : PlainReceipt). is_of_run r.event ≡ true) rs
of_run [] steps = All-nil (λ (r : PlainReceipt). is_of_run r.event ≡ true)
of_run (r ∷ rs) steps =
    let here = steps zero r refl in
    All-cons (λ (r : PlainReceipt). is_of_run r.event ≡ true) r rs (ap is_of_run here.1)
    (of_run rs (λ k s there. steps (suc k) s there))

-- a slice
module _ (old new : PlainCaller) (capacity turn harts n made : ℕ) (last : Then) (steps : SliceSteps)
    (last_is : last ≡ steps.then) (made_is : made ≡ turns_of last steps.count) (same : new.start ≡ old.start)
    (c : IsSliceCall old.seat capacity turn harts n old.receipts new.seat new.receipts steps) where
  of_step : (k : ℕ) (r : PlainReceipt) → slice_get c.receipts k ≡ Some r
      → (hart : ℕ) × (r.event ≡ event.Do (command.Board (asked.Step hart)))
  of_step k r there = ((turn + k) % harts, (c.of_seat.receipts.each k r there).event_is)

  is_last : (k : ℕ) (r : PlainReceipt) → slice_get c.receipts k ≡ Some r → suc k ≡ length c.receipts → after_step r.reply ≡ steps.then
  is_last k r there is =
      subst (λ o. IfSome o (λ (x : PlainReceipt). after_step x.reply ≡ steps.then)) there
      (subst (λ n. IfSome (slice_get c.receipts n) (λ (x : PlainReceipt). after_step x.reply ≡ steps.then)) (omega (arith, is)) c.told.last)

  turned_is : flat_map (λ (r : PlainReceipt). mark_made r.event r.reply) c.receipts ≡ turns harts turn made (after_turns last)
  turned_is =
      slice_turns c.receipts harts turn steps.then (λ k r there. (c.of_seat.receipts.each k r there).event_is)
      c.of_seat.goes_on is_last
      ∙ ap (λ t. turns harts turn (turns_of t (length c.receipts)) (after_turns t)) (sym last_is)
      ∙ ap (λ n. turns harts turn (turns_of last n) (after_turns last)) (sym c.told.count)
      ∙ ap (λ n. turns harts turn n (after_turns last)) (sym made_is)

  pub made_slice_at_a : (b : PlainCaller) → Made (old, b) (new, b) [] (turns harts turn made (after_turns last)) false
  made_slice_at_a b = record {
    calls = map AtA c.receipts;
    start_a = same;
    start_b = refl;
    at_a = c.added ∙ ap (λ l. old.receipts ++ l) (sym (a_in_a c.receipts));
    at_b = sym (append-nil b.receipts) ∙ ap (λ l. b.receipts ++ l) (sym (a_in_b c.receipts));
    only = All-map IsOfRun AtA c.receipts (of_run c.receipts of_step);
    told = silent_a c.receipts of_step;
    turned = told_a c.receipts ∙ turned_is;
    ends = λ dry. absurd cc;
  }

  pub made_slice_at_b : (a : PlainCaller) → Made (a, old) (a, new) [] (turns harts turn made (after_turns last)) false
  made_slice_at_b a = record {
    calls = map AtB c.receipts;
    start_a = refl;
    start_b = same;
    at_a = sym (append-nil a.receipts) ∙ ap (λ l. a.receipts ++ l) (sym (b_in_a c.receipts));
    at_b = c.added ∙ ap (λ l. old.receipts ++ l) (sym (b_in_b c.receipts));
    only = All-map IsOfRun AtB c.receipts (of_run c.receipts of_step);
    told = silent_b c.receipts of_step;
    turned = told_b c.receipts ∙ turned_is;
    ends = λ dry. absurd cc;
  }

-- nothing was written yet
pub written_none : (p : PlainCaller × PlainCaller) (w : Option (List ℕ)) → Written p p w w ⊤ [] false
written_none p w = record { bytes = []; made = made_none p; written = λ _. Appends-nil w }

-- what other calls told was written after the rest
pub written_then : (old mid new : PlainCaller × PlainCaller) (before between after : Option (List ℕ)) (works : Type 0)
    (ts us : List Mark) (first dry : Bool) → Written old mid before between ⊤ ts first
    → Written mid new between after works us dry → Written old new before after works (ts ++ us) dry
written_then old mid new before between after works ts us first dry p q = record {
  bytes = p.bytes ++ q.bytes;
  made = made_both old mid new p.bytes q.bytes ts us first dry p.made q.made;
  written = λ w. Appends-trans before between after p.bytes q.bytes (p.written tt) (q.written w);
}

-- what further calls told was written
pub written_next : (old mid new : PlainCaller × PlainCaller) (before between after : Option (List ℕ)) (bytes : List ℕ)
    → Written old mid before between ⊤ [] false → Made mid new bytes [] false → Appends between after bytes
    → Written old new before after ⊤ [] false
written_next old mid new before between after bytes p q more =
    written_then old mid new before between after ⊤ [] [] false false p (record { bytes = bytes; made = q; written = λ _. more })

-- further calls told nothing
pub written_still : (old mid new : PlainCaller × PlainCaller) (before after : Option (List ℕ)) (works : Type 0)
    (ts us : List Mark) (dry : Bool) → Written old mid before after ⊤ ts false → Made mid new [] us dry
    → Written old new before after works (ts ++ us) dry
written_still old mid new before after works ts us dry p q =
    written_then old mid new before after after works ts us false dry p
    (record { bytes = []; made = q; written = λ _. Appends-nil after })

-- further calls told nothing, none of them was a turn, and the last found nothing
pub written_dry : (old mid new : PlainCaller × PlainCaller) (before after : Option (List ℕ)) (works : Type 0) (dry : Bool)
    → Written old mid before after ⊤ [] false → Made mid new [] (if_dry dry) dry → Written old new before after works (if_dry dry) dry
written_dry old mid new before after works dry p q = written_still old mid new before after works [] (if_dry dry) dry p q

-- what further calls told could not be written
pub written_failed : (old mid new : PlainCaller × PlainCaller) (before between after : Option (List ℕ)) (bytes : List ℕ)
    (e : WorkEnd) → Written old mid before between ⊤ [] false → Made mid new bytes [] false → e ≡ LinkFault
    → Written old new before after (e ≢ LinkFault) [] false
written_failed old mid new before between after bytes e p q is =
    written_then old mid new before between after (e ≢ LinkFault) [] [] false false p
    (record { bytes = bytes; made = q; written = λ works. absurd (works is) })

-- the same if the further calls failed
pub written_still_err : {T : Type 0} (r : Result T WorkEnd) (old mid new : PlainCaller × PlainCaller)
    (before after : Option (List ℕ)) → Written old mid before after ⊤ [] false → Made mid new [] [] false
    → IfErr r (λ e. Written old new before after (e ≢ LinkFault) [] false)
written_still_err (Ok x) old mid new before after p q = tt
written_still_err (Err e) old mid new before after p q =
    written_still old mid new before after (e ≢ LinkFault) [] [] false p q

pub written_failed_err : {T : Type 0} (r : Result T WorkEnd) (old mid new : PlainCaller × PlainCaller)
    (before between after : Option (List ℕ)) (bytes : List ℕ) → Written old mid before between ⊤ [] false
    → Made mid new bytes [] false → IfErr r (λ e. e ≡ LinkFault)
    → IfErr r (λ e. Written old new before after (e ≢ LinkFault) [] false)
written_failed_err (Ok x) old mid new before between after bytes p q is = tt
written_failed_err (Err e) old mid new before between after bytes p q is =
    written_failed old mid new before between after bytes e p q is

-- calls whose bytes were written, and after which others may come
pub written_on : (old new : PlainCaller × PlainCaller) (before after : Option (List ℕ)) (ts : List Mark)
    → Written old new before after ⊤ ts true → Written old new before after ⊤ ts false
written_on old new before after ts p =
    record { bytes = p.bytes; made = made_on old new p.bytes ts p.made; written = p.written }

-- A RUN

-- how far a run has come: this many turns were made, each followed by the next, with drains between
abbrev pub HasCome : (old new : PlainCaller × PlainCaller) (before after : Option (List ℕ)) (harts turn : ℕ) → Type 0
HasCome old new before after harts turn = Written old new before after ⊤ (drained 0 (turns harts 0 turn GoOn)) false

-- before the first turn
pub has_begun : (p : PlainCaller × PlainCaller) (w : Option (List ℕ)) (harts : ℕ) → HasCome p p w w harts 0
unfolding drained turns
has_begun p w harts = written_none p w

-- after a turn that did not halt the board comes the next one
pub goes_after : (last : Then) → ((status : ℕ) → last ≡ Halted status → ⊥) → after_turns last ≡ GoOn
goes_after GoOn none = refl
goes_after Elsewhere none = refl
goes_after (Halted status) none = absurd (none status refl)

-- a run failed after calls that a longer run begins with
failed_behind : (old mid new : PlainCaller × PlainCaller) (before between after : Option (List ℕ)) (harts steps count : ℕ)
    (last : Then) (e : WorkEnd) (ts rest : List Mark) → count ≤ steps → ts ++ rest ≡ drained 0 (turns harts 0 count last)
    → Written old mid before between ⊤ ts false → Written mid new between after (e ≢ LinkFault) [] false
    → HasRun old new before after harts steps (Err e)
failed_behind old mid new before between after harts steps count last e ts rest within are so failed =
    let all = written_then old mid new before between after (e ≢ LinkFault) ts [] false false so failed in record {
      marks = ts ++ [];
      are = record {
        count = count;
        last = last;
        within = within;
        rest = rest;
        are = ap (λ l. l ++ rest) (append-nil ts) ∙ are;
      };
      written = record { bytes = all.bytes; made = all.made; written = λ works. all.written (λ is. works (ap Err is)) };
    }

-- a run that came to its end with a drain
ended_with : (old mid new : PlainCaller × PlainCaller) (before between after : Option (List ℕ)) (harts steps : ℕ)
    (ts : List Mark) (end : TurnsEnd) → AreTurns harts steps (Ok end) (ts ++ Dry ∷ [])
    → Written old mid before between ⊤ ts false → Written mid new between after ⊤ (Dry ∷ []) true
    → HasRun old new before after harts steps (Ok end)
ended_with old mid new before between after harts steps ts end are so dry =
    let all = written_then old mid new before between after ⊤ ts (Dry ∷ []) false true so dry in record {
      marks = ts ++ Dry ∷ [];
      are = are;
      written = record { bytes = all.bytes; made = all.made; written = λ _. all.written tt };
    }

module _ (old mid : PlainCaller × PlainCaller) (before between : Option (List ℕ)) (harts turn steps : ℕ) (within : turn ≤ steps)
    (so : HasCome old mid before between harts turn) where
  -- the next slice failed
  pub slice_failed : {T : Type 0} (r : Result T WorkEnd) (new : PlainCaller × PlainCaller) → Made mid new [] [] false
      → IfErr r (λ e. HasRun old new before between harts steps (Err e))
  slice_failed (Ok x) new made = tt
  slice_failed (Err e) new made =
      failed_behind old mid new before between between harts steps turn GoOn e (drained 0 (turns harts 0 turn GoOn)) [] within
      (append-nil (drained 0 (turns harts 0 turn GoOn))) so
      (record { bytes = []; made = made; written = λ _. Appends-nil between })

  -- all turns were made, and the drain failed
  pub last_drain_failed : {T : Type 0} (r : Result T WorkEnd) (new : PlainCaller × PlainCaller) (after : Option (List ℕ))
      → IfErr r (λ e. Written mid new between after (e ≢ LinkFault) [] false)
      → IfErr r (λ e. HasRun old new before after harts steps (Err e))
  last_drain_failed (Ok x) new after failed = tt
  last_drain_failed (Err e) new after failed =
      failed_behind old mid new before between after harts steps turn GoOn e (drained 0 (turns harts 0 turn GoOn)) [] within
      (append-nil (drained 0 (turns harts 0 turn GoOn))) so failed

  -- all turns were made, and the drain took all
  pub all_spent : (new : PlainCaller × PlainCaller) (after : Option (List ℕ)) → steps ≤ turn
      → Written mid new between after ⊤ (Dry ∷ []) true → HasRun old new before after harts steps (Ok StepsSpent)
  all_spent new after all dry =
      ended_with old mid new before between after harts steps (drained 0 (turns harts 0 turn GoOn)) StepsSpent
      (ap (λ n. drained 0 (turns harts 0 n GoOn) ++ Dry ∷ []) (omega (arith, within, all))) so dry

  module _ (next : PlainCaller × PlainCaller) (made : ℕ) (last : Then) (some : 1 ≤ made) (room : turn + made ≤ steps)
      (short : made ≤ 64 - turn % 64)
      (slice : Made mid next [] (turns harts turn made (after_turns last)) false) where
    -- the turns and drains before, and the turns of the next slice
    abbrev marks : List Mark
    marks = drained 0 (turns harts 0 turn GoOn) ++ turns harts turn made (after_turns last)

    with_slice : Written old next before between ⊤ marks false
    with_slice =
        written_still old mid next before between ⊤ (drained 0 (turns harts 0 turn GoOn))
        (turns harts turn made (after_turns last)) false so slice

    -- the turns and drains that come to this are those of the run so far, with a drain if one is due
    goes_so : marks ++ if_dry ((turn + made) % 64 == 0) ≡ drained 0 (turns harts 0 (turn + made) (after_turns last))
    goes_so =
        append_assoc (drained 0 (turns harts 0 turn GoOn)) (turns harts turn made (after_turns last))
        (if_dry ((turn + made) % 64 == 0))
        ∙ drained_on harts turn made (after_turns last) some short

    -- the run goes on, and no drain is due
    pub goes_on : after_turns last ≡ GoOn → (turn + made) % 64 ≢ 0 → HasCome old next before between harts (turn + made)
    goes_on is none =
        let here : nat_eq ((turn + made) % 64) 0 ≡ false = grind (arith, none) in
        subst (λ l. Written old next before between ⊤ l false)
        (sym (append-nil marks) ∙ ap (λ b. marks ++ if_dry b) (sym here) ∙ goes_so
        ∙ ap (λ t. drained 0 (turns harts 0 (turn + made) t)) is) with_slice

    -- the run goes on after a drain
    pub goes_on_drained : (new : PlainCaller × PlainCaller) (after : Option (List ℕ)) → after_turns last ≡ GoOn
        → (turn + made) % 64 ≡ 0 → Written next new between after ⊤ (Dry ∷ []) true
        → HasCome old new before after harts (turn + made)
    goes_on_drained new after is some dry =
        let yes : nat_eq ((turn + made) % 64) 0 ≡ true = grind (arith, some) in
        subst (λ l. Written old new before after ⊤ l false)
        (ap (λ b. marks ++ if_dry b) (sym yes) ∙ goes_so ∙ ap (λ t. drained 0 (turns harts 0 (turn + made) t)) is)
        (written_then old next new before between after ⊤ marks (Dry ∷ []) false false with_slice
        (written_on next new between after (Dry ∷ []) dry))

    -- the drain after the slice failed
    pub drain_failed : {T : Type 0} (r : Result T WorkEnd) (new : PlainCaller × PlainCaller) (after : Option (List ℕ))
        → IfErr r (λ e. Written next new between after (e ≢ LinkFault) [] false)
        → IfErr r (λ e. HasRun old new before after harts steps (Err e))
    drain_failed (Ok x) new after failed = tt
    drain_failed (Err e) new after failed =
        failed_behind old next new before between after harts steps (turn + made) (after_turns last) e marks
        (if_dry ((turn + made) % 64 == 0)) room goes_so with_slice failed

    -- the last turn halted the board
    pub has_halted : (status : ℕ) (new : PlainCaller × PlainCaller) (after : Option (List ℕ)) → last ≡ Halted status
        → Written next new between after ⊤ (Dry ∷ []) true → HasRun old new before after harts steps (Ok (ended.Halted status))
    has_halted status new after is dry =
        let one : made ≡ suc (made - 1) = omega (arith, some) in
        let near : suc (made - 1) ≤ 64 - turn % 64 = omega (arith, some, short) in
        ended_with old next new before between after harts steps marks (ended.Halted status)
        (record {
          before = turn + (made - 1);
          within = omega (arith, some, room);
          are = ap (λ t. (drained 0 (turns harts 0 turn GoOn) ++ turns harts turn made (after_turns t)) ++ Dry ∷ []) is
              ∙ ap (λ n. (drained 0 (turns harts 0 turn GoOn) ++ turns harts turn n (Halted status)) ++ Dry ∷ []) one
              ∙ drained_last harts turn (made - 1) (Halted status) near;
        }) with_slice dry

-- the calls of a run from the first one on
run_told : (old new : PlainCaller × PlainCaller) (before after : Option (List ℕ)) (harts steps : ℕ)
    (end : Result TurnsEnd WorkEnd) → old.0.receipts ≡ [] → old.1.receipts ≡ []
    → HasRun old new before after harts steps end
    → IsRun new.0.receipts new.1.receipts before after (end ≢ Err LinkFault) harts steps end
run_told old new before after harts steps end first second run =
    let p = run.written in record {
      calls = p.made.calls;
      first = p.made.at_a ∙ ap (λ l. l ++ flat_map in_a p.made.calls) first;
      second = p.made.at_b ∙ ap (λ l. l ++ flat_map in_b p.made.calls) second;
      only = p.made.only;
      turned = subst (AreTurns harts steps end) (sym p.made.turned) run.are;
      written = λ w. subst (λ l. Appends before after l) (sym p.made.told) (p.written w);
      ends = p.made.ends;
    }

pub is_run : (r : Result TurnsEnd WorkEnd) (old new : PlainCaller × PlainCaller) (before after : Option (List ℕ))
    (harts steps : ℕ) → old.0.receipts ≡ [] → old.1.receipts ≡ []
    → IfOk r (λ end. HasRun old new before after harts steps (Ok end))
    → IfErr r (λ e. HasRun old new before after harts steps (Err e))
    → IsRun new.0.receipts new.1.receipts before after (r ≢ Err LinkFault) harts steps r
is_run (Ok x) old new before after harts steps first second p q =
    run_told old new before after harts steps (Ok x) first second p
is_run (Err e) old new before after harts steps first second p q =
    run_told old new before after harts steps (Err e) first second q
