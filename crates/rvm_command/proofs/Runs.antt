-- A run, event by event, and consecutive writes.
use Rattle.std.proofs.Common.{◌≡◌, ℕ, zero, suc, OnErr, Result, Ok, Err, ◌+◌, ◌-◌, ◌*◌, ◌/◌, ◌%◌, ◌<◌, ◌≤◌, List, [], ◌∷◌, ◌++◌, length, take, drop, min, replicate, Option, Some, None, Bool, true, false, refl, sym, ap, subst, ◌∙◌, arith, append_assoc, append-nil, cond, nat_eq, nat_lt}
use Rattle.std.proofs.lemmas.List.{drop_min, take_at, take_min, length-take, length-append, length-drop, drop_all}
use Rattle.std.proofs.lemmas.Bool.{eqb-true, lt-ltb}
use Rattle.std.proofs.lemmas.Bool.Decides.{nat_tests}
use Rattle.std.proofs.lemmas.Nat.{mod_below}
use Rattle.std.proofs.Math.Nat.{mod-add-div, mod-add-mod, mod-mod, add-mul-mod_self_left}
use Rattle.std.specs.Io.KnownBytes.{Appends}
use Rattle.rvm_mem.specs.Pages.{mark_all}
use Rattle.rvm_hart.specs.declared.outcome.Stepped.{Stepped}
use Rattle.rvm_hart.specs.declared.outcome.Stepped.TheVariants as outcome
use Rattle.rvm_board.specs.Board as board
use Rattle.rvm_board.specs.Board.{with_input, with_output}
use Rattle.rvm_board.specs.declared.event.BoardEvent.{BoardEvent}
use Rattle.rvm_board.specs.declared.event.BoardEvent.TheVariants.{Step, Input, Drain}
use Rattle.rvm_board.specs.declared.event.BoardReply.{BoardReply}
use Rattle.rvm_board.specs.declared.event.BoardReply.TheVariants as reply
use Rattle.rvm_board.specs.declared.event.BoardRefusal.TheVariants.{BadHart, InputFull}
use Rattle.rvm_board.specs.declared.turns.Order.TheVariants.{RoundRobin}
use Rattle.rvm_board.specs.declared.turns.Turns.{Turns}
use Rattle.rvm_board.specs.Guest.{Guest, GuestState}
use Rattle.rvm_board.specs.Events.{Answered, answered, leaves, pc_of, refuses, reply_of, steps, stops, takes_step, with_board, with_stopped}
use Rattle.rvm_board.specs.Events as events
use Rattle.rvm_board.specs.Retiring.{stepped}
use Rattle.rvm_board.specs.Computing.{Compute, HaveSameConsole}
use Rattle.rvm_board.specs.Turns.{AfterTurns, TakesTurns, after_turns, behind, stop_in, unless_stopped}
use Rattle.rvm_board.specs.WhileFull.{is_full, no_turns, turns_while}
use Rattle.rvm_board.proofs.Computes.{compute_console}
use Rattle.rvm_board.proofs.Turning.{mark_more, steps_count}
use Rattle.rvm_board.proofs.Waiting.{as_they_are, while_some, while_within}
use Rattle.rvm_command.specs.declared.run.Ended.{Ended}
use Rattle.rvm_command.specs.declared.run.Ended.TheVariants as ended
use Rattle.rvm_command.specs.Buffered.{GoesOut}
use Rattle.rvm_command.specs.Run.{After, IsAfter, IsPartWay, Run, after, bytes_in, drains, first, left, offers, run_by, run_from, step_of, unless_halted, unless_refused}
use Rattle.rvm_command.specs.Slices.{GoesOn, rest_of_run, status_of, takes_none}

pub appends_none : (a : Option (List ℕ)) → Appends a a []
appends_none None = tt
appends_none (Some xs) = sym (append-nil xs)

pub appends_more : (a b c : Option (List ℕ)) (xs ys : List ℕ) → Appends a b xs → Appends b c ys → Appends a c (xs ++ ys)
appends_more None b c xs ys p q = tt
appends_more (Some xs0) None c xs ys p q = absurd p
appends_more (Some xs0) (Some ys0) None xs ys p q = absurd q
appends_more (Some xs0) (Some ys0) (Some zs0) xs ys p q = q ∙ ap (λ (l : List ℕ). l ++ ys) p ∙ append_assoc xs0 xs ys

-- ---- bytes that wait in a buffer

-- no byte comes and none is written
pub stays : (held : List ℕ) (w : Option (List ℕ)) → GoesOut [] held held w w
stays held w = record { out = []; all = append-nil held; text = appends_none w }

-- bytes come, and none is written
pub is_held : (bytes held left : List ℕ) (w : Option (List ℕ)) → left ≡ held ++ bytes → GoesOut bytes held left w w
is_held bytes held left w e = record { out = []; all = sym e; text = appends_none w }

-- all that was held is written
pub all_out : (held left : List ℕ) (before after : Option (List ℕ)) → left ≡ [] → Appends before after held → GoesOut [] held left before after
all_out held left before after none text = record { out = held; all = ap (λ (l : List ℕ). held ++ l) (sym none); text = text }

-- bytes, and others after them
pub out_more : {b1 b2 h0 h1 h2 : List ℕ} {w0 w1 w2 : Option (List ℕ)} → GoesOut b1 h0 h1 w0 w1 → GoesOut b2 h1 h2 w1 w2 → GoesOut (b1 ++ b2) h0 h2 w0 w2
out_more {b1} {b2} {h0} {h1} {h2} {w0} {w1} {w2} p q =
    record {
      out = p.out ++ q.out;
      all = sym (append_assoc h0 b1 b2) ∙ ap (λ (l : List ℕ). l ++ b2) p.all ∙ append_assoc p.out h1 b2
          ∙ ap (λ (l : List ℕ). p.out ++ l) q.all ∙ sym (append_assoc p.out q.out h2);
      text = appends_more w0 w1 w2 p.out q.out p.text q.text;
    }

-- nothing was held before, and nothing is held now
pub went_out : (bytes held left : List ℕ) (before after : Option (List ℕ)) → held ≡ [] → left ≡ [] → GoesOut bytes held left before after → Appends before after bytes
went_out bytes held left before after none empty p =
    let same : bytes ≡ p.out = ap (λ (l : List ℕ). l ++ bytes) (sym none) ∙ p.all ∙ ap (λ (l : List ℕ). p.out ++ l) empty ∙ append-nil p.out in
    subst (Appends before after) (sym same) p.text

-- an error, and what holds there
pub on_err : {A E : Type 0} → (r : Result A E) → (P : Type 0) → P → OnErr r P
on_err (Ok a) P p = tt
on_err (Err e) P p = p

-- ---- events after others

-- what events leave, with other events after them
abbrev pub joined : After → After → After
joined a b = record { guest = b.guest; pages = a.pages ++ b.pages; bytes = a.bytes ++ b.bytes }

abbrev pub of_one : Answered → After
of_one a = record { guest = a.guest; pages = a.pages; bytes = bytes_in a.reply }

abbrev pub nothing : Guest → After
nothing g = record { guest = g; pages = []; bytes = [] }

pub after_none : (g : Guest) → after [] g ≡ nothing g
unfolding after
after_none g = refl

pub after_more : (e : BoardEvent) (es : List BoardEvent) (g : Guest) → after (e ∷ es) g ≡ joined (of_one (answered e g)) (after es (answered e g).guest)
unfolding after
after_more e es g = refl

pub after_one : (e : BoardEvent) (g : Guest) → after (e ∷ []) g ≡ of_one (answered e g)
after_one e g =
    let a = answered e g in
    after_more e [] g ∙ ap (λ (x : After). joined (of_one a) x) (after_none a.guest)
    ∙ ap (λ (l : List ℕ). record { guest = a.guest; pages = l; bytes = bytes_in a.reply ++ [] }) (append-nil a.pages)
    ∙ ap (λ (l : List ℕ). record { guest = a.guest; pages = a.pages; bytes = l }) (append-nil (bytes_in a.reply))

joined_assoc : (a b c : After) → joined a (joined b c) ≡ joined (joined a b) c
joined_assoc a b c =
    ap (λ (l : List ℕ). record { guest = c.guest; pages = l; bytes = a.bytes ++ (b.bytes ++ c.bytes) }) (sym (append_assoc a.pages b.pages c.pages))
    ∙ ap (λ (l : List ℕ). record { guest = c.guest; pages = (a.pages ++ b.pages) ++ c.pages; bytes = l }) (sym (append_assoc a.bytes b.bytes c.bytes))

pub after_both : (es fs : List BoardEvent) (g : Guest) → after (es ++ fs) g ≡ joined (after es g) (after fs (after es g).guest)
after_both [] fs g = ap (λ (x : After). joined x (after fs x.guest)) (sym (after_none g))
after_both (e ∷ es) fs g =
    let a = of_one (answered e g) in
    after_more e (es ++ fs) g
    ∙ ap (joined a) (after_both es fs a.guest)
    ∙ joined_assoc a (after es a.guest) (after fs (after es a.guest).guest)
    ∙ ap (λ (x : After). joined x (after fs x.guest)) (sym (after_more e es g))

pub is_after_none : (s : GuestState) → IsAfter [] s s
unfolding after
is_after_none s = record { guest = refl; dirty = refl }

pub is_after_both : (es fs : List BoardEvent) (old mid new : GuestState) → IsAfter es old mid → IsAfter fs mid new → IsAfter (es ++ fs) old new
is_after_both es fs old mid new before behind =
    let both = sym (after_both es fs old.guest) in
    let pages = ap (λ (g : Guest). (after fs g).pages) before.guest in
    record {
      guest = behind.guest ∙ ap (λ (g : Guest). (after fs g).guest) before.guest ∙ ap (λ (x : After). x.guest) both;
      dirty = behind.dirty ∙ ap (λ ps. mark_all ps mid.dirty) pages ∙ ap (mark_all (after fs (after es old.guest).guest).pages) before.dirty
          ∙ sym (mark_more (after es old.guest).pages (after fs (after es old.guest).guest).pages old.dirty)
          ∙ ap (λ (x : After). mark_all x.pages old.dirty) both;
    }

pub bytes_both : (es fs : List BoardEvent) (old mid : GuestState) → IsAfter es old mid → (after (es ++ fs) old.guest).bytes ≡ (after es old.guest).bytes ++ (after fs mid.guest).bytes
bytes_both es fs old mid before =
    ap (λ (x : After). x.bytes) (after_both es fs old.guest) ∙ ap (λ (g : Guest). (after es old.guest).bytes ++ (after fs g).bytes) (sym before.guest)

-- the events that were made, and those that are left, are all; what they were answered was written or is held
pub record Progress (all rest : List BoardEvent) (start now : GuestState) (held left : List ℕ) (before written : Option (List ℕ)) : Type 0 where
  pub made : List BoardEvent
  pub whole : made ++ rest ≡ all
  pub so_far : IsAfter made start now
  pub text : GoesOut (after made start.guest).bytes held left before written

pub begins : (all : List BoardEvent) (start : GuestState) (held : List ℕ) (before : Option (List ℕ)) → Progress all all start start held held before before
begins all start held before =
    record {
      made = [];
      whole = refl;
      so_far = is_after_none start;
      text = subst (λ (l : List ℕ). GoesOut l held held before before) (ap (λ (x : After). x.bytes) (sym (after_none start.guest))) (stays held before);
    }

pub goes_on : {all : List BoardEvent} {start : GuestState} {held : List ℕ} {before : Option (List ℕ)} (rest more es : List BoardEvent) (now new : GuestState) (left next : List ℕ) (mid written : Option (List ℕ)) → Progress all rest start now held left before mid → rest ≡ es ++ more → IsAfter es now new
    → GoesOut (after es now.guest).bytes left next mid written → Progress all more start new held next before written
goes_on {all} {start} {held} {before} rest more es now new left next mid written p parts made text =
    record {
      made = p.made ++ es;
      whole = append_assoc p.made es more ∙ ap (λ (l : List BoardEvent). p.made ++ l) (sym parts) ∙ p.whole;
      so_far = is_after_both p.made es start now new p.so_far made;
      text = subst (λ (l : List ℕ). GoesOut l held next before written) (sym (bytes_both p.made es start now p.so_far)) (out_more p.text text);
    }

-- events that are answered no bytes, with no write
pub goes_quietly : {all : List BoardEvent} {start : GuestState} {held : List ℕ} {before : Option (List ℕ)} (rest more es : List BoardEvent) (now new : GuestState) (left : List ℕ) (written : Option (List ℕ)) → Progress all rest start now held left before written → rest ≡ es ++ more → IsAfter es now new
    → (after es now.guest).bytes ≡ [] → Progress all more start new held left before written
goes_quietly {all} {start} {held} {before} rest more es now new left written p parts made quiet =
    goes_on rest more es now new left left written written p parts made (subst (λ (l : List ℕ). GoesOut l left left written written) (sym quiet) (stays left written))

-- no event, and a write of what was held
pub goes_out : {all rest : List BoardEvent} {start now : GuestState} {held left next : List ℕ} {before mid written : Option (List ℕ)} → Progress all rest start now held left before mid → GoesOut [] left next mid written → Progress all rest start now held next before written
goes_out {all} {rest} {start} {now} {held} {left} {next} {before} {mid} {written} p text =
    goes_on rest rest [] now now left next mid written p refl (is_after_none now) (subst (λ (l : List ℕ). GoesOut l left next mid written) (ap (λ (x : After). x.bytes) (sym (after_none now.guest))) text)

-- only some of the next events were made
pub part_way : {all : List BoardEvent} {start : GuestState} {held left : List ℕ} {before : Option (List ℕ)} (rest more es : List BoardEvent) (now new : GuestState) (mid : Option (List ℕ)) → Progress all rest start now held left before mid → rest ≡ es ++ more → IsPartWay es now new → IsPartWay all start new
part_way {all} {start} {held} {left} {before} rest more es now new mid p parts part =
    record {
      made = p.made ++ part.made;
      left = part.left ++ more;
      whole = append_assoc p.made part.made (part.left ++ more)
          ∙ ap (λ (l : List BoardEvent). p.made ++ l) (sym (append_assoc part.made part.left more) ∙ ap (λ (l : List BoardEvent). l ++ more) part.whole ∙ sym parts)
          ∙ p.whole;
      so_far = is_after_both p.made part.made start now new p.so_far part.so_far;
    }

-- none of the next events was made
pub none_made : {all rest : List BoardEvent} {start now : GuestState} {held left : List ℕ} {before mid : Option (List ℕ)} → Progress all rest start now held left before mid → IsPartWay all start now
none_made {all} {rest} {start} {now} {held} {left} {before} {mid} p = record { made = p.made; left = rest; whole = p.whole; so_far = p.so_far }

-- if bytes are held or the next events are answered some, there are some in all
pub some_bytes : {all : List BoardEvent} {start : GuestState} {held left : List ℕ} {before : Option (List ℕ)} (rest more es : List BoardEvent) (now : GuestState) (mid : Option (List ℕ)) → Progress all rest start now held left before mid → rest ≡ es ++ more
    → 0 < length (left ++ (after es now.guest).bytes) → 0 < length (held ++ (after all start.guest).bytes)
some_bytes {all} {start} {held} {left} {before} rest more es now mid p parts some =
    let b1 = (after p.made start.guest).bytes in
    let b2 = (after es now.guest).bytes in
    let b3 = (after more (after es now.guest).guest).bytes in
    let whole : (after all start.guest).bytes ≡ b1 ++ (b2 ++ b3) =
    ap (λ l. (after l start.guest).bytes) (sym p.whole) ∙ bytes_both p.made rest start now p.so_far
    ∙ ap (λ l. b1 ++ (after l now.guest).bytes) parts ∙ ap (λ (x : After). b1 ++ x.bytes) (after_both es more now.guest) in
    let sizes : length (held ++ b1) ≡ length (p.text.out ++ left) = ap length p.text.all in
    rw whole (omega (arith, length-append held (b1 ++ (b2 ++ b3)), length-append b1 (b2 ++ b3), length-append b2 b3, length-append held b1, length-append p.text.out left, length-append left b2, sizes, some))

-- the same if bytes are held
pub some_held : {all rest : List BoardEvent} {start now : GuestState} {held left : List ℕ} {before mid : Option (List ℕ)} → Progress all rest start now held left before mid → 0 < length left → 0 < length (held ++ (after all start.guest).bytes)
some_held {all} {rest} {start} {now} {held} {left} {before} {mid} p some =
    some_bytes rest rest [] now mid p refl (omega (arith, length-append left (after [] now.guest).bytes, some))

-- all events were made
pub record AllMade (all : List BoardEvent) (start now : GuestState) (held left : List ℕ) (before written : Option (List ℕ)) : Type 0 where
  pub made : IsAfter all start now
  pub text : GoesOut (after all start.guest).bytes held left before written

pub all_made : {all : List BoardEvent} {start : GuestState} {held left : List ℕ} {before : Option (List ℕ)} (rest : List BoardEvent) (now : GuestState) (written : Option (List ℕ)) → Progress all rest start now held left before written → rest ≡ [] → AllMade all start now held left before written
all_made {all} {start} {held} {left} {before} rest now written p none =
    let whole : p.made ≡ all = sym (append-nil p.made) ∙ ap (λ (l : List BoardEvent). p.made ++ l) (sym none) ∙ p.whole in
    record {
      made = subst (λ (es : List BoardEvent). IsAfter es start now) whole p.so_far;
      text = subst (λ (es : List BoardEvent). GoesOut (after es start.guest).bytes held left before written) whole p.text;
    }

-- ---- drains

-- how many drains leave nothing
drain_count : (n : ℕ) → 0 < n → (n + 255) / 256 ≡ suc ((n - 256 + 255) / 256)
drain_count n some = grind arith

pub drains_none : (g : Guest) → length g.board.shared.devices.output ≡ 0 → drains g ≡ []
drains_none g none = ap (λ (n : ℕ). replicate ((n + 255) / 256) (Drain 256)) none

pub drains_more : (g : Guest) → 0 < length g.board.shared.devices.output → drains g ≡ (Drain 256 ∷ []) ++ drains (answered (Drain 256) g).guest
drains_more g some =
    let sent = g.board.shared.devices.output in
    ap (λ (n : ℕ). replicate n (Drain 256)) (drain_count (length sent) some)
    ∙ ap (λ (n : ℕ). Drain 256 ∷ replicate ((n + 255) / 256) (Drain 256)) (sym (length-drop 256 sent))

-- what one drain took, at the front of the buffer
pub drained_piece : (count : ℕ) (sent old new : List ℕ) → count ≡ min (length old) (length sent) → new ≡ take count sent ++ drop count old → take count new ≡ take count sent
drained_piece count sent old new is_least made =
    let size : length (take count sent) ≡ count = omega (arith, length-take count sent, is_least) in
    ap (take count) made ∙ take_at (take count sent) (drop count old) count size

-- one event
pub is_after_one : (e : BoardEvent) (old new : GuestState) → new.guest ≡ (answered e old.guest).guest → new.dirty ≡ mark_all (answered e old.guest).pages old.dirty → IsAfter (e ∷ []) old new
is_after_one e old new left marked =
    let one = sym (after_one e old.guest) in
    record { guest = left ∙ ap (λ (x : After). x.guest) one; dirty = marked ∙ ap (λ (x : After). mark_all x.pages old.dirty) one }

-- a drain of 256 bytes, as it was made
pub drained : (count size : ℕ) (old new : GuestState) → size ≡ 256 → count ≡ min size (length old.guest.board.shared.devices.output)
    → new ≡ record old { guest = with_board (with_output (drop count old.guest.board.shared.devices.output) old.guest.board) old.guest } → IsAfter (Drain 256 ∷ []) old new
drained count size old new whole is_least made =
    let sent = old.guest.board.shared.devices.output in
    let same : drop count sent ≡ drop 256 sent = ap (λ n. drop n sent) (is_least ∙ ap (λ k. min k (length sent)) whole) ∙ drop_min 256 sent in
    let all = made ∙ ap (λ (l : List ℕ). record old { guest = with_board (with_output l old.guest.board) old.guest }) same in
    is_after_one (Drain 256) old new (ap (λ (s : GuestState). s.guest) all) (ap (λ (s : GuestState). s.dirty) all)

pub drained_bytes : (count size : ℕ) (old : GuestState) → size ≡ 256 → count ≡ min size (length old.guest.board.shared.devices.output)
    → take count old.guest.board.shared.devices.output ≡ (after (Drain 256 ∷ []) old.guest).bytes
drained_bytes count size old whole is_least =
    let sent = old.guest.board.shared.devices.output in
    ap (λ n. take n sent) (is_least ∙ ap (λ k. min k (length sent)) whole) ∙ take_min 256 sent ∙ ap (λ (x : After). x.bytes) (sym (after_one (Drain 256) old.guest))

-- a drain, and those after it
left_by : (old new : GuestState) → IsAfter (Drain 256 ∷ []) old new → new.guest ≡ (answered (Drain 256) old.guest).guest
left_by old new made = made.guest ∙ ap (λ (x : After). x.guest) (after_one (Drain 256) old.guest)

pub drain_first : (old new : GuestState) → 0 < length old.guest.board.shared.devices.output → IsAfter (Drain 256 ∷ []) old new → drains old.guest ≡ (Drain 256 ∷ []) ++ drains new.guest
drain_first old new some made = drains_more old.guest some ∙ ap (λ g. (Drain 256 ∷ []) ++ drains g) (sym (left_by old new made))

pub drain_fewer : (old new : GuestState) → IsAfter (Drain 256 ∷ []) old new → length new.guest.board.shared.devices.output ≡ length old.guest.board.shared.devices.output - 256
drain_fewer old new made = ap (λ (g : Guest). length g.board.shared.devices.output) (left_by old new made) ∙ length-drop 256 old.guest.board.shared.devices.output

-- ---- the byte that is offered

room_of : (n : ℕ) (b : Bool) → (n ≡ 16 → false ≡ true) → nat_eq n 16 ≡ b → b ≡ false
room_of n false room e = refl
room_of n true room e = sym (room (eqb-true n 16 e))

pub byte_taken : (input rest : List ℕ) (b : ℕ) (old new : GuestState) → input ≡ b ∷ rest → (length old.guest.board.shared.devices.input ≡ 16 → false ≡ true)
    → new ≡ record old { guest = with_board (with_input (old.guest.board.shared.devices.input ++ b ∷ []) old.guest.board) old.guest } → IsAfter (offers input) old new
byte_taken input rest b old new some room made =
    let waiting = old.guest.board.shared.devices.input in
    let comes = leaves (with_board (with_input (waiting ++ b ∷ []) old.guest.board) old.guest) reply.Done in
    let test : nat_eq (length waiting) 16 ≡ false = room_of (length waiting) (nat_eq (length waiting) 16) room refl in
    let said : comes ≡ answered (Input b) old.guest = ap (λ t. cond t (refuses InputFull old.guest) comes) (sym test) in
    rw some (is_after_one (Input b) old new (ap (λ (s : GuestState). s.guest) made ∙ ap (λ (a : Answered). a.guest) said) (ap (λ (s : GuestState). s.dirty) made ∙ ap (λ (a : Answered). mark_all a.pages old.dirty) said))

-- the answer to a byte that is offered to a full console
kept_back : (b : ℕ) (g : Guest) → is_full g ≡ true → answered (Input b) g ≡ refuses InputFull g
kept_back b g full = ap (λ t. cond t (refuses InputFull g) (leaves (with_board (with_input (g.board.shared.devices.input ++ b ∷ []) g.board) g) reply.Done)) full

pub byte_kept : (input rest : List ℕ) (b : ℕ) (old new : GuestState) → input ≡ b ∷ rest → length old.guest.board.shared.devices.input ≡ 16 → new ≡ old → IsAfter (offers input) old new
byte_kept input rest b old new some full same =
    let said = sym (kept_back b old.guest (ap (λ n. nat_eq n 16) full)) in
    rw some (is_after_one (Input b) old new (ap (λ (s : GuestState). s.guest) same ∙ ap (λ (a : Answered). a.guest) said) (ap (λ (s : GuestState). s.dirty) same ∙ ap (λ (a : Answered). mark_all a.pages old.dirty) said))

pub byte_none : (input : List ℕ) (s : GuestState) → input ≡ [] → IsAfter (offers input) s s
byte_none input s none = rw none (is_after_none s)

-- an offer is answered no bytes and changes no number of harts
offer_cases : (b : ℕ) (g : Guest) (full : Bool) → let a = cond full (refuses InputFull g) (leaves (with_board (with_input (g.board.shared.devices.input ++ b ∷ []) g.board) g) reply.Done) in (bytes_in a.reply ≡ []) × (length a.guest.board.harts ≡ length g.board.harts)
offer_cases b g true = (refl, refl)
offer_cases b g false = (refl, refl)

pub offer_quiet : (input : List ℕ) (g : Guest) → ((after (offers input) g).bytes ≡ []) × (length (after (offers input) g).guest.board.harts ≡ length g.board.harts)
offer_quiet [] g = rw (after_none g) (refl, refl)
offer_quiet (b ∷ rest) g = rw (after_one (Input b) g) (offer_cases b g (is_full g))

-- an offer that changes nothing
pub record IsIdle (input : List ℕ) (g : Guest) : Type 0 where
  pub made : after (offers input) g ≡ nothing g
  pub left : left input g ≡ input

idle_none : (g : Guest) → IsIdle [] g
idle_none g = record { made = after_none g; left = refl }

idle_full : (input : List ℕ) (g : Guest) → is_full g ≡ true → IsIdle input g
idle_full [] g full = idle_none g
idle_full (b ∷ rest) g full =
    let kept = kept_back b g full in
    record {
      made = after_one (Input b) g ∙ ap of_one kept;
      left = ap (λ (a : Answered). unless_refused a.reply (b ∷ rest) rest) kept;
    }

pub idle : (is_more : Bool) (input : List ℕ) → (is_more ≡ false → input ≡ []) → (g : Guest) → takes_none is_more g ≡ true → IsIdle input g
idle true input none g full = idle_full input g full
idle false input none g full = rw (none refl) (idle_none g)

-- ---- turns

-- the hart of the next turn
next_turn : (t hart n : ℕ) → hart ≡ t % n → (hart + 1) % n ≡ (t + 1) % n
next_turn t hart n e =
    let sum : t % n + 1 + n * (t / n) ≡ t + 1 = omega (arith, mod-add-div t n) in
    ap (λ h. (h + 1) % n) e ∙ sym (add-mul-mod_self_left (t % n + 1) n (t / n)) ∙ ap (λ k. k % n) sum

-- the last turn before a drain
pub ends_slice : (t : ℕ) → nat_eq (t % 64) 63 ≡ nat_eq ((t + 1) % 64) 0
ends_slice t = grind arith

-- a step of a hart that is there is answered no bytes
quiet_reply : (x : Stepped) → bytes_in (reply_of x) ≡ []
quiet_reply outcome.Retired = refl
quiet_reply (outcome.Trapped e) = refl
quiet_reply (outcome.Interrupted i) = refl
quiet_reply (outcome.Halted s) = refl

quiet_on : (b : Bool) (h : ℕ) (g : Guest) → bytes_in (cond b (leaves (with_stopped h true g) (reply.Break (pc_of h g))) (takes_step h g)).reply ≡ []
quiet_on true h g = refl
quiet_on false h g = quiet_reply (board.stepped h g.board).answer

pub quiet_halted : (o : Option ℕ) (h : ℕ) (g : Guest) → bytes_in (events.unless_halted o h g).reply ≡ []
quiet_halted None h g = quiet_on (stops h g) h g
quiet_halted (Some status) h g = refl

pub there_steps : (h : ℕ) (g : Guest) → h < length g.board.harts → answered (Step h) g ≡ steps h g
there_steps h g there = ap (λ b. cond b (steps h g) (refuses BadHart g)) (lt-ltb h (length g.board.harts) there)

-- what turns leave, as what events leave
abbrev of_turns : AfterTurns → After
of_turns t = record { guest = t.guest; pages = t.pages; bytes = [] }

after_step : (h : ℕ) (g : Guest) → h < length g.board.harts → after (Step h ∷ []) g ≡ record { guest = (steps h g).guest; pages = (steps h g).pages; bytes = [] }
after_step h g there =
    after_one (Step h) g ∙ ap of_one (there_steps h g there)
    ∙ ap (λ (l : List ℕ). record { guest = (steps h g).guest; pages = (steps h g).pages; bytes = l }) (quiet_halted g.board.shared.devices.halted h g)

-- n turns from turn t on, after a drain or not
abbrev pub behind_drain : Bool → (n t : ℕ) → (input : List ℕ) → Guest → Run
behind_drain drain n t input g = let taken = cond drain (drains g) [] in first taken (run_from n t input (after taken g).guest)

-- the run after the offer of turn t: hart h steps, and n turns follow
abbrev stepping : (n t h : ℕ) → (input : List ℕ) → Answered → Run
stepping n t h input s = first (Step h ∷ []) (unless_halted s.reply s.guest (behind_drain (nat_eq (t % 64) 63) n (t + 1) input s.guest))

turn_first : (n t : ℕ) (input : List ℕ) (g : Guest) → run_from (suc n) t input g ≡ first (offers input) (stepping n t (t % length g.board.harts) (left input g) (answered (step_of t g) (after (offers input) g).guest))
unfolding run_by
turn_first n t input g =
    let s = answered (step_of t g) (after (offers input) g).guest in
    let rest = unless_halted s.reply s.guest (behind_drain (nat_eq (t % 64) 63) n (t + 1) (left input g) s.guest) in
    ap (λ (l : List BoardEvent). record rest { events = l }) (append_assoc (offers input) (step_of t g ∷ []) rest.events)

-- turns are these events of a run, and the rest of the run is this
pub record IsSlice (run rest : Run) (g : Guest) (t : AfterTurns) : Type 0 where
  pub events : List BoardEvent
  pub whole : run ≡ first events rest
  pub made : after events g ≡ of_turns t

-- the rest of a run after turns
abbrev behind_turns : AfterTurns → (m t : ℕ) → (input : List ℕ) → Run
behind_turns r m t input = rest_of_run (status_of r.stop) m (t + r.made) input r.guest

no_more : (n m t : ℕ) (input : List ℕ) (g : Guest) → n ≡ m → behind_drain (nat_eq (t % 64) 63) n (t + 1) input g ≡ rest_of_run None m (t + 1) input g
no_more n m t input g e =
    ap (λ (b : Bool). behind_drain b n (t + 1) input g) (ends_slice t) ∙ ap (λ (k : ℕ). behind_drain (nat_eq ((t + 1) % 64) 0) k (t + 1) input g) e

no_slice : (n m t : ℕ) (input : List ℕ) (s : Answered) → n ≡ m → IsSlice (behind_drain (nat_eq (t % 64) 63) n (t + 1) input s.guest) (behind_turns (behind s.pages 1 (no_turns s.guest)) m t input) s.guest (no_turns s.guest)
no_slice n m t input s e = record { events = []; whole = no_more n m t input s.guest e; made = after_none s.guest }

-- a turn, and those after it
slice_more : (h n m t : ℕ) (input : List ℕ) (g : Guest) (s : Answered) (others : AfterTurns) → after (Step h ∷ []) g ≡ record { guest = s.guest; pages = s.pages; bytes = [] }
    → IsSlice (behind_drain (nat_eq (t % 64) 63) n (t + 1) input s.guest) (behind_turns (behind s.pages 1 others) m t input) s.guest others
    → IsSlice (first (Step h ∷ []) (behind_drain (nat_eq (t % 64) 63) n (t + 1) input s.guest)) (behind_turns (behind s.pages 1 others) m t input) g (behind s.pages 1 others)
slice_more h n m t input g s others one rest =
    record {
      events = Step h ∷ rest.events;
      whole = ap (first (Step h ∷ [])) rest.whole;
      made = after_both (Step h ∷ []) rest.events g ∙ ap (λ (x : After). joined x (after rest.events x.guest)) one ∙ ap (joined (record { guest = s.guest; pages = s.pages; bytes = [] })) rest.made;
    }

-- the same by what the turn was answered
slice_cases : (x : BoardReply) (h n m t : ℕ) (input : List ℕ) (g : Guest) (s : Answered) (others : AfterTurns) → after (Step h ∷ []) g ≡ record { guest = s.guest; pages = s.pages; bytes = [] }
    → suc n ≡ (unless_stopped (stop_in x) s others).made + m
    → (n ≡ others.made + m → IsSlice (behind_drain (nat_eq (t % 64) 63) n (t + 1) input s.guest) (behind_turns (behind s.pages 1 others) m t input) s.guest others)
    → IsSlice (first (Step h ∷ []) (unless_halted x s.guest (behind_drain (nat_eq (t % 64) 63) n (t + 1) input s.guest))) (behind_turns (unless_stopped (stop_in x) s others) m t input) g (unless_stopped (stop_in x) s others)
slice_cases (reply.Halted v) h n m t input g s others one e rest = record { events = Step h ∷ []; whole = refl; made = one }
slice_cases (reply.Break a) h n m t input g s others one e rest =
    record { events = Step h ∷ []; whole = ap (first (Step h ∷ [])) (no_more n m t input s.guest (omega (arith, e))); made = one }
slice_cases reply.Retired h n m t input g s others one e rest = slice_more h n m t input g s others one (rest (omega (arith, e)))
slice_cases (reply.Trapped x) h n m t input g s others one e rest = slice_more h n m t input g s others one (rest (omega (arith, e)))
slice_cases (reply.Interrupted i) h n m t input g s others one e rest = slice_more h n m t input g s others one (rest (omega (arith, e)))
slice_cases reply.Done h n m t input g s others one e rest = slice_more h n m t input g s others one (rest (omega (arith, e)))
slice_cases (reply.Bytes bytes) h n m t input g s others one e rest = slice_more h n m t input g s others one (rest (omega (arith, e)))
slice_cases (reply.Regs values) h n m t input g s others one e rest = slice_more h n m t input g s others one (rest (omega (arith, e)))
slice_cases (reply.Line a word) h n m t input g s others one e rest = slice_more h n m t input g s others one (rest (omega (arith, e)))
slice_cases (reply.Refused why) h n m t input g s others one e rest = slice_more h n m t input g s others one (rest (omega (arith, e)))

-- the turns after one that did not end them, of which more may be made
abbrev SlicesOf : (Guest → Bool) → ℕ → Type 0
SlicesOf is_so k =
    (n m t h : ℕ) (input : List ℕ) (g : Guest) → h < length g.board.harts → h ≡ t % length g.board.harts → t % 64 + suc k ≤ 64 → suc n ≡ (turns_while is_so (suc k) h g).made + m → ((g : Guest) → is_so g ≡ true → IsIdle input g)
    → IsSlice (stepping n t h input (answered (Step h) g)) (behind_turns (turns_while is_so (suc k) h g) m t input) g (turns_while is_so (suc k) h g)

-- the next turn, whose offer changes nothing
idle_turn : (p t : ℕ) (input : List ℕ) (g : Guest) → IsIdle input g → run_from (suc p) t input g ≡ first (offers input) (stepping p t (t % length g.board.harts) input (answered (step_of t g) g))
idle_turn p t input g none =
    turn_first p t input g
    ∙ ap (λ (x : After). first (offers input) (stepping p t (t % length g.board.harts) (left input g) (answered (step_of t g) x.guest))) none.made
    ∙ ap (λ (l : List ℕ). first (offers input) (stepping p t (t % length g.board.harts) l (answered (step_of t g) g))) none.left

turns_behind : (is_so : Guest → Bool) (k : ℕ) → SlicesOf is_so k → (n m t h : ℕ) (input : List ℕ) (g : Guest) → h < length g.board.harts → h ≡ t % length g.board.harts → t % 64 + suc (suc k) ≤ 64 → ((g : Guest) → is_so g ≡ true → IsIdle input g)
    → is_so (steps h g).guest ≡ true → let others = turns_while is_so (suc k) ((h + 1) % length g.board.harts) (steps h g).guest in n ≡ others.made + m
    → IsSlice (behind_drain (nat_eq (t % 64) 63) n (t + 1) input (steps h g).guest) (behind_turns (behind (steps h g).pages 1 others) m t input) (steps h g).guest others
turns_behind is_so k slices zero m t h input g there turn inside quiet so e = absurd (omega (arith, e, while_some is_so k ((h + 1) % length g.board.harts) (steps h g).guest))
turns_behind is_so k slices (suc p) m t h input g there turn inside quiet so e =
    let s : Answered = steps h g in
    let next : ℕ = (h + 1) % length g.board.harts in
    let others : AfterTurns = turns_while is_so (suc k) next s.guest in
    let same : length s.guest.board.harts ≡ length g.board.harts = steps_count h g in
    let following : next ≡ (t + 1) % length s.guest.board.harts = next_turn t h (length g.board.harts) turn ∙ ap (λ j. (t + 1) % j) (sym same) in
    let none : IsIdle input s.guest = quiet s.guest so in
    let not_last : nat_eq (t % 64) 63 ≡ false = grind arith in
    let next_there : next < length s.guest.board.harts = rw same (mod_below (h + 1) (length g.board.harts) (omega (arith, there))) in
    let rest = slices p m (t + 1) next input s.guest next_there following (omega (arith, inside)) e quiet in
    let sum : t + 1 + others.made ≡ t + (1 + others.made) = omega arith in
    record {
      events = offers input ++ rest.events;
      whole = ap (λ (b : Bool). behind_drain b (suc p) (t + 1) input s.guest) not_last
          ∙ ap (λ (x : After). first [] (run_from (suc p) (t + 1) input x.guest)) (after_none s.guest)
          ∙ idle_turn p (t + 1) input s.guest none
          ∙ ap (λ (j : ℕ). first (offers input) (stepping p (t + 1) j input (answered (Step j) s.guest))) (sym following)
          ∙ ap (first (offers input)) rest.whole
          ∙ ap (λ (l : List BoardEvent). record (rest_of_run (status_of others.stop) m (t + 1 + others.made) input others.guest) { events = l }) (sym (append_assoc (offers input) rest.events (rest_of_run (status_of others.stop) m (t + 1 + others.made) input others.guest).events))
          ∙ ap (λ (j : ℕ). first (offers input ++ rest.events) (rest_of_run (status_of others.stop) m j input others.guest)) sum;
      made = after_both (offers input) rest.events s.guest ∙ ap (λ (x : After). joined x (after rest.events x.guest)) none.made ∙ ap (joined (nothing s.guest)) rest.made;
    }

-- the same whether or not the guest is so
turns_or_none : (is_so : Guest → Bool) (k : ℕ) (so : Bool) (n m t h : ℕ) (input : List ℕ) (g : Guest) → SlicesOf is_so k → h < length g.board.harts → h ≡ t % length g.board.harts → t % 64 + suc (suc k) ≤ 64 → ((g : Guest) → is_so g ≡ true → IsIdle input g)
    → is_so (steps h g).guest ≡ so → let others = cond so (turns_while is_so (suc k) ((h + 1) % length g.board.harts) (steps h g).guest) (no_turns (steps h g).guest) in n ≡ others.made + m
    → IsSlice (behind_drain (nat_eq (t % 64) 63) n (t + 1) input (steps h g).guest) (behind_turns (behind (steps h g).pages 1 others) m t input) (steps h g).guest others
turns_or_none is_so k true n m t h input g slices there turn inside quiet so e = turns_behind is_so k slices n m t h input g there turn inside quiet so e
turns_or_none is_so k false n m t h input g slices there turn inside quiet so e = no_slice n m t input (steps h g) (omega (arith, e))

none_either : (so : Bool) (n m t : ℕ) (input : List ℕ) (s : Answered) → let others = cond so (no_turns s.guest) (no_turns s.guest) in n ≡ others.made + m
    → IsSlice (behind_drain (nat_eq (t % 64) 63) n (t + 1) input s.guest) (behind_turns (behind s.pages 1 others) m t input) s.guest others
none_either true n m t input s e = no_slice n m t input s (omega (arith, e))
none_either false n m t input s e = no_slice n m t input s (omega (arith, e))

slices_of : (is_so : Guest → Bool) (k : ℕ) → SlicesOf is_so k
unfolding turns_while
slices_of is_so zero n m t h input g there turn inside e quiet =
    let s : Answered = steps h g in
    let others : AfterTurns = cond (is_so s.guest) (no_turns s.guest) (no_turns s.guest) in
    rw (there_steps h g there) (slice_cases s.reply h n m t input g s others (after_step h g there) e (none_either (is_so s.guest) n m t input s))
slices_of is_so (suc k) n m t h input g there turn inside e quiet =
    let s : Answered = steps h g in
    let others : AfterTurns = cond (is_so s.guest) (turns_while is_so (suc k) ((h + 1) % length g.board.harts) s.guest) (no_turns s.guest) in
    rw (there_steps h g there) (slice_cases s.reply h n m t input g s others (after_step h g there) e (turns_or_none is_so k (is_so s.guest) n m t h input g (slices_of is_so k) there turn inside quiet refl))

-- a byte that is offered and turns, of which at most the last is one after which is drained
pub slice_from : (is_so : Guest → Bool) (count n t h made : ℕ) (input rest : List ℕ) (status : Option ℕ) (old mid new : GuestState) (told : Turns) → 0 < count → count ≤ n → t % 64 + count ≤ 64 → 0 < length mid.guest.board.harts → h ≡ t % length mid.guest.board.harts
    → IsAfter (offers input) old mid → rest ≡ left input old.guest → ((g : Guest) → is_so g ≡ true → IsIdle rest g) → TakesTurns (turns_while is_so count h mid.guest) mid new told → made ≡ told.made → status ≡ status_of told.stop
    → GoesOn (run_from n t input old.guest) (rest_of_run status (n - made) (t + made) rest new.guest) old new
slice_from is_so zero n t h made input rest status old mid new told some within inside there turn offered kept quiet taken counted said = absurd (omega (arith, some))
slice_from is_so (suc k) zero t h made input rest status old mid new told some within inside there turn offered kept quiet taken counted said = absurd (omega (arith, within))
slice_from is_so (suc k) (suc p) t h made input rest status old mid new told some within inside there turn offered kept quiet taken counted said =
    let r : AfterTurns = turns_while is_so (suc k) h mid.guest in
    let m : ℕ = suc p - r.made in
    let at : mid.guest ≡ (after (offers input) old.guest).guest = offered.guest in
    let harts : length mid.guest.board.harts ≡ length old.guest.board.harts = ap (λ (g : Guest). length g.board.harts) at ∙ (offer_quiet input old.guest).1 in
    let hart : t % length old.guest.board.harts ≡ h = ap (λ j. t % j) (sym harts) ∙ sym turn in
    let all : suc p ≡ r.made + m = omega (arith, within, while_within is_so (suc k) h mid.guest) in
    let part = slices_of is_so k p m t h rest mid.guest (rw turn (mod_below t (length mid.guest.board.harts) there)) turn inside all quiet in
    let same_made : made ≡ r.made = counted ∙ taken.made in
    let end : rest_of_run (status_of r.stop) m (t + r.made) rest r.guest ≡ rest_of_run status (suc p - made) (t + made) rest new.guest =
    ap (λ (o : Option ℕ). rest_of_run o m (t + r.made) rest r.guest) (sym (said ∙ ap status_of taken.stop))
    ∙ ap (λ (j : ℕ). rest_of_run status (suc p - j) (t + j) rest r.guest) (sym same_made)
    ∙ ap (λ (g : Guest). rest_of_run status (suc p - made) (t + made) rest g) (sym taken.guest) in
    let done : IsAfter part.events mid new =
    record {
      guest = taken.guest ∙ ap (λ (x : After). x.guest) (sym part.made);
      dirty = taken.dirty ∙ ap (λ (x : After). mark_all x.pages mid.dirty) (sym part.made);
    } in
    record {
      events = offers input ++ part.events;
      whole = turn_first p t input old.guest
          ∙ ap (λ (l : List ℕ). first (offers input) (stepping p t (t % length old.guest.board.harts) l (answered (step_of t old.guest) (after (offers input) old.guest).guest))) (sym kept)
          ∙ ap (λ (g : Guest). first (offers input) (stepping p t (t % length old.guest.board.harts) rest (answered (step_of t old.guest) g))) (sym at)
          ∙ ap (λ (j : ℕ). first (offers input) (stepping p t j rest (answered (Step j) mid.guest))) hart
          ∙ ap (first (offers input)) (part.whole ∙ ap (first part.events) end)
          ∙ ap (λ (l : List BoardEvent). record (rest_of_run status (suc p - made) (t + made) rest new.guest) { events = l }) (sym (append_assoc (offers input) part.events (rest_of_run status (suc p - made) (t + made) rest new.guest).events));
      so_far = is_after_both (offers input) part.events old mid new offered done;
      quiet = bytes_both (offers input) part.events old mid offered ∙ ap (λ (l : List ℕ). l ++ (after part.events mid.guest).bytes) (offer_quiet input old.guest).0 ∙ ap (λ (x : After). x.bytes) part.made;
    }

-- ---- turns on the straight path

-- a run goes on, and goes on again
goes_both : {run between rest : Run} {old mid new : GuestState} → GoesOn run between old mid → GoesOn between rest mid new → GoesOn run rest old new
goes_both {run} {between} {rest} {old} {mid} {new} a b =
    record {
      events = a.events ++ b.events;
      whole = a.whole ∙ ap (first a.events) b.whole ∙ ap (λ (l : List BoardEvent). record rest { events = l }) (sym (append_assoc a.events b.events rest.events));
      so_far = is_after_both a.events b.events old mid new a.so_far b.so_far;
      quiet = bytes_both a.events b.events old mid a.so_far ∙ ap (λ (l : List ℕ). l ++ (after b.events mid.guest).bytes) a.quiet ∙ b.quiet;
    }

-- an offer that changes nothing
goes_idle : (input : List ℕ) (rest : Run) (g : GuestState) → IsIdle input g.guest → GoesOn (first (offers input) rest) rest g g
goes_idle input rest g none =
    record {
      events = offers input;
      whole = refl;
      so_far = record { guest = ap (λ (x : After). x.guest) (sym none.made); dirty = ap (λ (x : After). mark_all x.pages g.dirty) (sym none.made) };
      quiet = ap (λ (x : After). x.bytes) none.made;
    }

-- a drain that finds nothing
drains_nothing : (drain : Bool) (n t : ℕ) (input : List ℕ) (g : Guest) → length g.board.shared.devices.output ≡ 0 → behind_drain drain n t input g ≡ run_from n t input g
drains_nothing false n t input g none = ap (λ (x : After). run_from n t input x.guest) (after_none g)
drains_nothing true n t input g none =
    ap (λ (l : List BoardEvent). first l (run_from n t input (after l g).guest)) (drains_none g none) ∙ ap (λ (x : After). run_from n t input x.guest) (after_none g)

-- a turn that retires and leaves nothing to take
goes_turn : (n t h : ℕ) (input : List ℕ) (g : GuestState) → h < length g.guest.board.harts → (steps h g.guest).reply ≡ reply.Retired → length (steps h g.guest).guest.board.shared.devices.output ≡ 0
    → GoesOn (stepping n t h input (answered (Step h) g.guest)) (run_from n (t + 1) input (steps h g.guest).guest) g (stepped h g)
goes_turn n t h input g there said none =
    let s : Answered = steps h g.guest in
    let one = after_step h g.guest there in
    record {
      events = Step h ∷ [];
      whole = ap (stepping n t h input) (there_steps h g.guest there)
          ∙ ap (λ (r : BoardReply). first (Step h ∷ []) (unless_halted r s.guest (behind_drain (nat_eq (t % 64) 63) n (t + 1) input s.guest))) said
          ∙ ap (first (Step h ∷ [])) (drains_nothing (nat_eq (t % 64) 63) n (t + 1) input s.guest none);
      so_far = record { guest = ap (λ (x : After). x.guest) (sym one); dirty = ap (λ (x : After). mark_all x.pages g.dirty) (sym one) };
      quiet = ap (λ (x : After). x.bytes) one;
    }

takes_still : (is_more : Bool) (g new : Guest) → HaveSameConsole g new → takes_none is_more g ≡ true → takes_none is_more new ≡ true
takes_still true g new still full = ap (λ (l : List ℕ). nat_eq (length l) 16) still.input ∙ full
takes_still false g new still full = refl

goes_computing : (k n t u harts : ℕ) (is_more : Bool) (input : List ℕ) (g new : GuestState) → (is_more ≡ false → input ≡ []) → takes_none is_more g.guest ≡ true → length g.guest.board.shared.devices.output ≡ 0
    → length g.guest.board.harts ≡ harts → u % harts ≡ t % harts → Compute harts (suc k) u g new
    → GoesOn (stepping (k + n) t (u % harts) input (answered (Step (u % harts)) g.guest)) (run_from n (t + suc k) input new.guest) g new
goes_computing zero n t u harts is_more input g new none full sent size same are =
    let h : ℕ = u % harts in
    let one : t + 1 ≡ t + suc zero = omega arith in
    let all : n ≡ 0 + n = omega arith in
    subst (λ i. GoesOn (stepping i t h input (answered (Step h) g.guest)) (run_from n (t + suc zero) input new.guest) g new) all
    (subst (λ (x : GuestState). GoesOn (stepping n t h input (answered (Step h) g.guest)) (run_from n (t + suc zero) input x.guest) g x) (sym are.3)
    (subst (λ i. GoesOn (stepping n t h input (answered (Step h) g.guest)) (run_from n i input (steps h g.guest).guest) g (stepped h g)) one
    (goes_turn n t h input g are.0 are.1 (ap length are.2.output ∙ sent))))
goes_computing (suc k) n t u harts is_more input g new none full sent size same are =
    let h : ℕ = u % harts in
    let mid : GuestState = stepped h g in
    let still : HaveSameConsole g.guest mid.guest = are.2 in
    let so : takes_none is_more mid.guest ≡ true = takes_still is_more g.guest mid.guest still full in
    let empty : length mid.guest.board.shared.devices.output ≡ 0 = ap length still.output ∙ sent in
    let long : length mid.guest.board.harts ≡ harts = steps_count h g.guest ∙ size in
    let next : (u + 1) % harts ≡ (t + 1) % harts = sym (mod-add-mod u harts 1) ∙ ap (λ i. (i + 1) % harts) same ∙ mod-add-mod t harts 1 in
    let hart : (t + 1) % length mid.guest.board.harts ≡ (u + 1) % harts = ap (λ l. (t + 1) % l) long ∙ sym next in
    let quiet : IsIdle input mid.guest = idle is_more input none mid.guest so in
    let sum : t + 1 + suc k ≡ t + suc (suc k) = omega arith in
    let turns : GoesOn (stepping (k + n) (t + 1) ((u + 1) % harts) input (answered (Step ((u + 1) % harts)) mid.guest)) (run_from n (t + suc (suc k)) input new.guest) mid new =
    subst (λ i. GoesOn (stepping (k + n) (t + 1) ((u + 1) % harts) input (answered (Step ((u + 1) % harts)) mid.guest)) (run_from n i input new.guest) mid new) sum
    (goes_computing k n (t + 1) (u + 1) harts is_more input mid new none so empty long next are.3) in
    let whole : run_from (suc (k + n)) (t + 1) input mid.guest ≡ first (offers input) (stepping (k + n) (t + 1) ((u + 1) % harts) input (answered (Step ((u + 1) % harts)) mid.guest)) =
    idle_turn (k + n) (t + 1) input mid.guest quiet ∙ ap (λ (j : ℕ). first (offers input) (stepping (k + n) (t + 1) j input (answered (Step j) mid.guest))) hart in
    let all : suc (k + n) ≡ suc k + n = omega arith in
    subst (λ i. GoesOn (stepping i t h input (answered (Step h) g.guest)) (run_from n (t + suc (suc k)) input new.guest) g new) all
    (goes_both (goes_turn (suc (k + n)) t h input g are.0 are.1 empty)
    (subst (λ (r : Run). GoesOn r (run_from n (t + suc (suc k)) input new.guest) mid new) (sym whole)
    (goes_both (goes_idle input (stepping (k + n) (t + 1) ((u + 1) % harts) input (answered (Step ((u + 1) % harts)) mid.guest)) mid quiet) turns)))

-- a byte that is offered and turns on the straight path, between which a drain finds nothing
pub computed_from : (n t h made : ℕ) (is_more : Bool) (input rest : List ℕ) (old mid new : GuestState) → 0 < made → made ≤ n → h ≡ t % length mid.guest.board.harts
    → IsAfter (offers input) old mid → rest ≡ left input old.guest → (is_more ≡ false → rest ≡ []) → takes_none is_more mid.guest ≡ true → length mid.guest.board.shared.devices.output ≡ 0
    → Compute (length mid.guest.board.harts) made h mid new → GoesOn (run_from n t input old.guest) (rest_of_run None (n - made) (t + made) rest new.guest) old new
computed_from n t h zero is_more input rest old mid new some within turn offered kept none full sent are = absurd (omega (arith, some))
computed_from n t h (suc k) is_more input rest old mid new some within turn offered kept none full sent are =
    let harts : ℕ = length mid.guest.board.harts in
    let m : ℕ = n - suc k in
    let at : mid.guest ≡ (after (offers input) old.guest).guest = offered.guest in
    let size : harts ≡ length old.guest.board.harts = ap (λ (g : Guest). length g.board.harts) at ∙ (offer_quiet input old.guest).1 in
    let same : h % harts ≡ t % harts = ap (λ i. i % harts) turn ∙ mod-mod t harts in
    let hart : t % length old.guest.board.harts ≡ h % harts = ap (λ l. t % l) (sym size) ∙ sym same in
    let left_empty : length new.guest.board.shared.devices.output ≡ 0 = ap length (compute_console harts (suc k) h mid new are).output ∙ sent in
    let whole : run_from n t input old.guest ≡ first (offers input) (stepping (k + m) t (h % harts) rest (answered (Step (h % harts)) mid.guest)) =
    ap (λ i. run_from i t input old.guest) (omega (arith, within))
    ∙ turn_first (k + m) t input old.guest
    ∙ ap (λ (l : List ℕ). first (offers input) (stepping (k + m) t (t % length old.guest.board.harts) l (answered (step_of t old.guest) (after (offers input) old.guest).guest))) (sym kept)
    ∙ ap (λ (g : Guest). first (offers input) (stepping (k + m) t (t % length old.guest.board.harts) rest (answered (step_of t old.guest) g))) (sym at)
    ∙ ap (λ (j : ℕ). first (offers input) (stepping (k + m) t j rest (answered (Step j) mid.guest))) hart in
    let offer : GoesOn (first (offers input) (stepping (k + m) t (h % harts) rest (answered (Step (h % harts)) mid.guest))) (stepping (k + m) t (h % harts) rest (answered (Step (h % harts)) mid.guest)) old mid =
    record { events = offers input; whole = refl; so_far = offered; quiet = (offer_quiet input old.guest).0 } in
    let turns : GoesOn (stepping (k + m) t (h % harts) rest (answered (Step (h % harts)) mid.guest)) (rest_of_run None m (t + suc k) rest new.guest) mid new =
    subst (λ (r : Run). GoesOn (stepping (k + m) t (h % harts) rest (answered (Step (h % harts)) mid.guest)) r mid new) (sym (drains_nothing (nat_eq ((t + suc k) % 64) 0) m (t + suc k) rest new.guest left_empty))
    (goes_computing k m t h harts is_more rest mid new none full sent refl same are) in
    subst (λ (r : Run). GoesOn r (rest_of_run None m (t + suc k) rest new.guest) old new) (sym whole) (goes_both offer turns)

-- no turn was made
pub unmoved : (harts n turn : ℕ) (old new : GuestState) → n ≡ 0 → Compute harts n turn old new → new ≡ old
unmoved harts zero turn old new none are = are
unmoved harts (suc n) turn old new none are = absurd (omega (arith, none))

-- how many turns were made
pub some_made : (is_so : Guest → Bool) (count h : ℕ) (g : Guest) → 0 < count → 0 < (turns_while is_so count h g).made
some_made is_so zero h g some = absurd (omega (arith, some))
some_made is_so (suc k) h g some = while_some is_so k h g

-- ---- the rest of a run

-- the run that has no turn left
pub spent_run : (n t : ℕ) (input : List ℕ) (g : Guest) → n ≡ 0 → run_from n t input g ≡ record { events = drains g; ended = ended.StepsSpent }
unfolding run_by
spent_run n t input g e = rw e refl

-- it ended, it goes on, or what the guest sent is taken first
pub halted_rest : (s n t : ℕ) (input : List ℕ) (g : Guest) (said : Option ℕ) → said ≡ Some s → rest_of_run said n t input g ≡ record { events = drains g; ended = ended.HaltedWith s }
halted_rest s n t input g said e = ap (λ (o : Option ℕ). rest_of_run o n t input g) e

pub quiet_rest : (n left t : ℕ) (input : List ℕ) (g : Guest) (said : Option ℕ) → said ≡ None → nat_eq (t % 64) 0 ≡ false → left ≡ n → rest_of_run said n t input g ≡ run_from left t input g
quiet_rest n left t input g said e f same =
    ap (λ (o : Option ℕ). rest_of_run o n t input g) e ∙ ap (λ (b : Bool). behind_drain b n t input g) f
    ∙ ap (λ (x : After). run_from n t input x.guest) (after_none g) ∙ ap (λ (k : ℕ). run_from k t input g) (sym same)

pub drained_rest : (n left t : ℕ) (input : List ℕ) (g new : Guest) (said : Option ℕ) → said ≡ None → t % 64 ≡ 0 → left ≡ n → new ≡ (after (drains g) g).guest → rest_of_run said n t input g ≡ first (drains g) (run_from left t input new)
drained_rest n left t input g new said e f same taken =
    ap (λ (o : Option ℕ). rest_of_run o n t input g) e ∙ ap (λ (k : ℕ). behind_drain (nat_eq k 0) n t input g) f
    ∙ ap (λ (k : ℕ). first (drains g) (run_from k t input (after (drains g) g).guest)) (sym same) ∙ ap (λ (x : Guest). first (drains g) (run_from left t input x)) (sym taken)

-- ---- the loop of a run

-- a slice of turns was made
pub slice_behind : {all : List BoardEvent} {run rest : Run} {start old new : GuestState} {held left : List ℕ} {before written : Option (List ℕ)} → GoesOn run rest old new → Progress all run.events start old held left before written → Progress all rest.events start new held left before written
slice_behind {all} {run} {rest} {start} {old} {new} {held} {left} {before} {written} slice so_far =
    goes_quietly run.events rest.events slice.events old new left written so_far (ap (λ (r : Run). r.events) slice.whole) slice.so_far slice.quiet

pub slice_ended : {run rest : Run} {old new : GuestState} (whole : Ended) → GoesOn run rest old new → run.ended ≡ whole → rest.ended ≡ whole
slice_ended whole slice same = sym (ap (λ (r : Run). r.ended) slice.whole) ∙ same

-- the last drains, after which nothing is held
pub record Finished (all : List BoardEvent) (end whole : Ended) (start new : GuestState) (before written : Option (List ℕ)) : Type 0 where
  pub made : IsAfter all start new
  pub text : Appends before written (after all start.guest).bytes
  pub ended : end ≡ whole

pub finished : {all : List BoardEvent} {rest : Run} {end : Ended} {start now new : GuestState} {left next : List ℕ} {before mid : Option (List ℕ)} (whole : Ended) (written : Option (List ℕ)) → Progress all rest.events start now [] left before mid → rest.ended ≡ whole → rest ≡ record { events = drains now.guest; ended = end }
    → IsAfter (drains now.guest) now new → GoesOut (after (drains now.guest) now.guest).bytes left next mid written → next ≡ [] → Finished all end whole start new before written
finished {all} {rest} {end} {start} {now} {new} {left} {next} {before} {mid} whole written so_far same last taken text empty =
    let parts = ap (λ (r : Run). r.events) last ∙ sym (append-nil (drains now.guest)) in
    let made = all_made [] new written (goes_on rest.events [] (drains now.guest) now new left next mid written so_far parts taken text) refl in
    record { made = made.made; text = went_out (after all start.guest).bytes [] next before written refl empty made.text; ended = sym (ap (λ (r : Run). r.ended) last) ∙ same }

pub record BrokenOff (all : List BoardEvent) (start new : GuestState) : Type 0 where
  pub some : 0 < length (after all start.guest).bytes
  pub part : IsPartWay all start new

pub broken_off : {all : List BoardEvent} {rest : Run} {start now new : GuestState} {left : List ℕ} {before mid : Option (List ℕ)} (more : Run) → Progress all rest.events start now [] left before mid → rest ≡ first (drains now.guest) more
    → IsPartWay (drains now.guest) now new → 0 < length (left ++ (after (drains now.guest) now.guest).bytes) → BrokenOff all start new
broken_off {all} {rest} {start} {now} {new} {left} {before} {mid} more so_far parts part some =
    let events = ap (λ (r : Run). r.events) parts in
    record { some = some_bytes rest.events more.events (drains now.guest) now mid so_far events some; part = part_way rest.events more.events (drains now.guest) now new mid so_far events part }

-- nothing follows the last drains
pub last_drains : (g : Guest) (end : Ended) (rest : Run) → rest ≡ record { events = drains g; ended = end } → rest ≡ first (drains g) (record { events = []; ended = end })
last_drains g end rest e = e ∙ ap (λ (l : List BoardEvent). record { events = l; ended = end }) (sym (append-nil (drains g)))

-- nothing waits
pub drain_nothing : (s : GuestState) (held : List ℕ) (w : Option (List ℕ)) → length s.guest.board.shared.devices.output ≡ 0 → AllMade (drains s.guest) s s held held w w
drain_nothing s held w none = all_made (drains s.guest) s w (begins (drains s.guest) s held w) (drains_none s.guest none)

-- after all drains, what is held is written too
pub then_out : {bytes held left next : List ℕ} {before mid written : Option (List ℕ)} → GoesOut bytes held left before mid → next ≡ [] → Appends mid written left → GoesOut bytes held next before written
then_out {bytes} {held} {left} {next} {before} {mid} {written} p none text =
    subst (λ (l : List ℕ). GoesOut l held next before written) (append-nil bytes) (out_more p (all_out left next mid written none text))

-- if no input is left, all turns are made
pub any_turns : (is_more : Bool) (count h : ℕ) (old new : GuestState) (told : Turns) → is_more ≡ false → TakesTurns (after_turns RoundRobin count h old.guest) old new told → TakesTurns (turns_while (takes_none is_more) count h old.guest) old new told
any_turns true count h old new told none taken = absurd cc
any_turns false count h old new told none taken = subst (λ (t : AfterTurns). TakesTurns t old new told) (as_they_are count h old.guest) taken

-- no byte is left
pub none_left : (next : ℕ) (input : List ℕ) → nat_lt next (length input) ≡ false → drop next input ≡ []
none_left next input e = drop_all next input (grind (arith, nat_tests, e))
