-- What the workers of a move told.
use Rattle.std.proofs.Common.{◌≡◌, ◌∙◌, ℕ, true, false, List, [], ◌∷◌, ◌++◌, append_assoc, None, Option, Result, ap, inl, inr, refl, subst, sym}
use Rattle.std.proofs.lemmas.List.Elements.{All-append, All-cons, All-head, All-nil, All-tail, All-weaker}
use Rattle.std.specs.List.{All, flat_map}
use Rattle.rvm_recorder.specs.declared.closing.CloseKind.{CloseKind}
use Rattle.rvm_recorder.specs.Receipts.{PlainReceipt}
use Rattle.rvm_recorder.specs.Seats.{PlainSeat}
use Rattle.rvm_cell.specs.Calls.{AtA, AtB, Call, IsRun, event_in, in_a, in_b, is_of_run}
use Rattle.rvm_cell.specs.declared.harts.TurnsEnd.{TurnsEnd}
use Rattle.rvm_recorder.specs.Entries.{PlainEntry}
use Rattle.rvm_recorder.specs.History.{is_board}
use Rattle.rvm_message.specs.declared.event.Command.TheVariants as command
use Rattle.rvm_message.specs.declared.event.HostEvent.{HostEvent}
use Rattle.rvm_message.specs.declared.event.HostEvent.TheVariants as event
use Rattle.rvm_move.proofs.Guests.{AreNoneOfGuest, all_asked, guest_of_one}
use Rattle.rvm_move.specs.Hosts.{AreAll, AreCarried, IsAskedOfFirst, IsAskedOfSecond, IsEnd, IsReceivedAtB}
use Rattle.rvm_move.specs.Runs.{AreOfOne, IsRunOf, called_of_guest}
use Rattle.rvm_precopy.specs.declared.policy.Policy.{Policy}
use Rattle.std.specs.Prelude.{IfSome}
use Rattle.rvm_cell.specs.Endings.{last_of}
use Rattle.rvm_cell.specs.Heard.{IsHeardOf, IsReceived, IsReceiverEnd, frames_in}
use Rattle.rvm_cell.specs.Work.{AreOfCopier, AreOfReceiver, IsOfReceiver, IsWork}
use Rattle.rvm_station.specs.Movers.{IsOfCopier}
use Rattle.rvm_cell.specs.declared.end.WorkEnd.{WorkEnd}

-- WHAT IS GIVEN BACK

-- the receipts of two workers in one list
pub all_of_two : (entries : List PlainEntry) (none own others one two : List PlainReceipt) → none ≡ []
    → one ≡ none ++ own → two ≡ one ++ others → AreAll entries two → AreAll entries (own ++ others)
all_of_two entries none own others one two is first second told =
    subst (λ l. AreAll entries l) (second ∙ ap (λ l. l ++ others) (first ∙ ap (λ l. l ++ own) is)) told

-- the receipts of three workers in one list
pub all_of_three : (entries : List PlainEntry) (none own second third one two three : List PlainReceipt) → none ≡ []
    → one ≡ none ++ own → two ≡ one ++ second → three ≡ two ++ third → AreAll entries three
    → AreAll entries (own ++ (second ++ third))
all_of_three entries none own second third one two three is a b c told =
    subst (λ l. AreAll entries l)
    (c ∙ ap (λ l. l ++ third) (b ∙ ap (λ l. l ++ second) (a ∙ ap (λ l. l ++ own) is)) ∙ append_assoc own second third) told

-- the receipts of a worker are of one seat
pub of_one : (first last : PlainSeat) (receipts : List PlainReceipt) → IsWork first last receipts → AreOfOne receipts
of_one first last receipts work = record { first = first; last = last; work = work }

-- WHAT EACH WORKER ASKS

copier_is_no_guest : (to : ℕ) (policy : Policy) (e : HostEvent) → IsOfCopier to policy e → is_board e ≡ false
copier_is_no_guest to policy (event.Do (command.Board x)) is = absurd is
copier_is_no_guest to policy (event.Do (command.Begin x p)) is = refl
copier_is_no_guest to policy (event.Do command.Copy) is = refl
copier_is_no_guest to policy (event.Do command.Resend) is = refl
copier_is_no_guest to policy (event.Do command.Abort) is = refl
copier_is_no_guest to policy (event.Came x f) is = refl

receiver_is_no_guest : (from : ℕ) (e : HostEvent) → IsOfReceiver from e → is_board e ≡ false
receiver_is_no_guest from (event.Do c) is = absurd is
receiver_is_no_guest from (event.Came x f) is = refl

none_of_copier : (to : ℕ) (policy : Policy) (rs : List PlainReceipt) → AreOfCopier to policy rs → AreNoneOfGuest rs
none_of_copier to policy rs all =
    All-weaker (λ r. IsOfCopier to policy r.event) (λ r. is_board r.event ≡ false) (λ r is. copier_is_no_guest to policy r.event is) rs all

none_of_receiver : (from : ℕ) (rs : List PlainReceipt) → AreOfReceiver from rs → AreNoneOfGuest rs
none_of_receiver from rs all =
    All-weaker (λ r. IsOfReceiver from r.event) (λ r. is_board r.event ≡ false) (λ r is. receiver_is_no_guest from r.event is) rs all

-- a receiver without a thread heard nothing
heard_at_b : (bytes : Option (List ℕ)) (end : WorkEnd) (rs : List PlainReceipt) → IsReceivedAtB bytes end rs → AreOfReceiver 0 rs
heard_at_b bytes end rs (inl none) = subst (AreOfReceiver 0) (sym none.1) (All-nil (λ r. IsOfReceiver 0 r.event))
heard_at_b bytes end rs (inr received) = received.told

-- what a receiver leaves
pub received : (from to : ℕ) (bytes : Option (List ℕ)) (end : WorkEnd) (rs : List PlainReceipt) → AreOfReceiver from rs
    → IfSome bytes (λ l. IsHeardOf from to l end (frames_in rs)) → IsReceiverEnd from to end (last_of rs) bytes (frames_in rs)
    → IsReceived from to bytes end rs
received from to bytes end rs told heard ended = record { told = told; heard = heard; ended = ended }

abbrev IsOfRun : PlainReceipt → Type 0
IsOfRun r = is_of_run r.event ≡ true

abbrev IsCall : Call → Type 0
IsCall c = is_of_run (event_in c) ≡ true

run_at_a : (calls : List Call) → All IsCall calls → All IsOfRun (flat_map in_a calls)
run_at_a [] all = All-nil IsOfRun
run_at_a (AtA r ∷ cs) all = All-cons IsOfRun r (flat_map in_a cs) (All-head IsCall (AtA r) cs all) (run_at_a cs (All-tail IsCall (AtA r) cs all))
run_at_a (AtB r ∷ cs) all = run_at_a cs (All-tail IsCall (AtB r) cs all)

run_at_b : (calls : List Call) → All IsCall calls → All IsOfRun (flat_map in_b calls)
run_at_b [] all = All-nil IsOfRun
run_at_b (AtA r ∷ cs) all = run_at_b cs (All-tail IsCall (AtA r) cs all)
run_at_b (AtB r ∷ cs) all = All-cons IsOfRun r (flat_map in_b cs) (All-head IsCall (AtB r) cs all) (run_at_b cs (All-tail IsCall (AtB r) cs all))

-- WHAT WAS ASKED OF EACH HOST

module _ (policy : Policy) (bytes_a bytes_b : Option (List ℕ)) (copied ended_a ended_b : WorkEnd)
    (copier heard_a heard_b : List PlainReceipt)
    (carried : AreCarried policy bytes_a bytes_b copied ended_a ended_b copier heard_a heard_b) (at_a at_b : List PlainReceipt)
    (before after : Option (List ℕ)) (works : Type 0) (harts steps : ℕ) (end : Result TurnsEnd WorkEnd) (run : IsRun at_a at_b before after works harts steps end) where
  pub asked_of_first : (fault : Option CloseKind) (entries : List PlainEntry)
      → (fault ≡ None → AreAll entries (at_a ++ (copier ++ heard_a))) → IsEnd (IsAskedOfFirst policy) fault entries
  asked_of_first fault entries told closed =
      let turns = subst (All IsOfRun) (sym run.first) (run_at_a run.calls run.only) in
      let P : PlainReceipt → Type 0 = λ r. IsAskedOfFirst policy r.event in
      all_asked (IsAskedOfFirst policy) entries (at_a ++ (copier ++ heard_a)) (told closed)
      (All-append P at_a (copier ++ heard_a) (All-weaker IsOfRun P (λ r is. inl is) at_a turns)
      (All-append P copier heard_a
      (All-weaker (λ r. IsOfCopier 1 policy r.event) P (λ r is. inr (inl is)) copier carried.of_copier.asked)
      (All-weaker (λ r. IsOfReceiver 1 r.event) P (λ r is. inr (inr is)) heard_a carried.of_first.told)))

  pub asked_of_second : (fault : Option CloseKind) (entries : List PlainEntry)
      → (fault ≡ None → AreAll entries (at_b ++ heard_b)) → IsEnd IsAskedOfSecond fault entries
  asked_of_second fault entries told closed =
      let turns = subst (All IsOfRun) (sym run.second) (run_at_b run.calls run.only) in
      let P : PlainReceipt → Type 0 = λ r. IsAskedOfSecond r.event in
      all_asked IsAskedOfSecond entries (at_b ++ heard_b) (told closed)
      (All-append P at_b heard_b (All-weaker IsOfRun P (λ r is. inl is) at_b turns)
      (All-weaker (λ r. IsOfReceiver 0 r.event) P (λ r is. inr is) heard_b (heard_at_b bytes_b ended_b heard_b carried.of_second)))

  -- at host 1 the hart worker asked for nothing but turns and drains
  pub turns_of_second : All IsOfRun at_b
  turns_of_second = subst (All IsOfRun) (sym run.second) (run_at_b run.calls run.only)

  -- the calls of the hart worker are the events of the guest
  pub run_of : (first second : List PlainEntry) → works → AreAll first (at_a ++ (copier ++ heard_a)) → AreAll second (at_b ++ heard_b)
      → AreOfOne at_a → AreOfOne at_b → IsRunOf first second before after harts steps end
  run_of first second w told_a told_b one_a one_b =
      let moved_a = All-append (λ r. is_board r.event ≡ false) copier heard_a
      (none_of_copier 1 policy copier carried.of_copier.asked) (none_of_receiver 1 heard_a carried.of_first.told) in
      let a = guest_of_one first at_a (copier ++ heard_a) told_a one_a moved_a in
      let b = guest_of_one second at_b heard_b told_b one_b (none_of_receiver 0 heard_b (heard_at_b bytes_b ended_b heard_b carried.of_second)) in
      record {
        calls = run.calls;
        of_first = a ∙ ap called_of_guest run.first;
        of_second = b ∙ ap called_of_guest run.second;
        only = run.only;
        turned = run.turned;
        written = run.written w;
        ends = run.ends;
      }
