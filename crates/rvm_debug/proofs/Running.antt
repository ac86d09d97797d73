-- Folds, one event or line at a time.
use Rattle.std.proofs.Common.{◌≡◌, inl, inr, ℕ, suc, zero, ◌+◌, List, [], ◌∷◌, ◌++◌, Ok, Err, Option, Some, None, Bool, true, false, cond, ◌<◌, ◌≤◌, length, refl, ap, sym, ◌∙◌, append_assoc, append-nil, arith, is_some, subst, IfSome}
use Rattle.std.proofs.lemmas.Bool.{lt-ltb, le-ltb}
use Rattle.std.proofs.lemmas.List.{length-append}
use Rattle.std.specs.Io.KnownBytes.{Appends}
use Rattle.rvm_mem.specs.Pages.{mark_all}
use Rattle.rvm_board.specs.declared.event.BoardEvent.TheVariants as event
use Rattle.rvm_board.specs.declared.event.BoardReply.{BoardReply}
use Rattle.rvm_board.specs.declared.event.BoardReply.TheVariants as reply
use Rattle.rvm_board.specs.Guest.{Guest, GuestState}
use Rattle.rvm_board.specs.declared.event.BoardRefusal.TheVariants.{BadHart}
use Rattle.rvm_board.specs.Events.{Answered, answered, ends_steps, leaves, pc_of, refuses, reply_of, steps, stops, takes_step, with_stopped}
use Rattle.rvm_board.specs.Events as events
use Rattle.rvm_board.specs.declared.turns.Order.TheVariants.{Alone}
use Rattle.rvm_board.specs.declared.turns.Stop.{Stop}
use Rattle.rvm_board.specs.declared.turns.Turns.{Turns}
use Rattle.rvm_board.specs.Turns.{AfterTurns, TakesTurns, after_turns, behind, reply_of_stop, stop_in, unless_stopped}
use Rattle.rvm_board.proofs.Turning.{mark_more, steps_count, turns_count}
use Rattle.rvm_hart.specs.declared.outcome.Stepped.{Stepped}
use Rattle.rvm_hart.specs.declared.outcome.Stepped.TheVariants as outcome
use Rattle.rvm_board.specs.Board as board
use Rattle.rvm_debug.specs.declared.line.Line.{Line}
use Rattle.rvm_debug.specs.declared.script.ScriptError.{ScriptError}
use Rattle.rvm_debug.specs.declared.script.ScriptError.TheVariants.{OutOfMemory, TooLong, BadToken, LinkFault}
use Rattle.rvm_debug.specs.Words.{lines}
use Rattle.rvm_debug.specs.Lines.{line_of}
use Rattle.rvm_debug.specs.Runs.{IsReadError, IsRun, IsLineRun}
use Rattle.rvm_debug.specs.Answers.{is_refused}
use Rattle.rvm_debug.specs.Script.{Stepping, stepping, stepping_after, inputs, answered_after, Answers, answers_behind, answers_by, ended, done_by, script_of, stepped}

pub appends_none : (a : Option (List ℕ)) → Appends a a []
appends_none None = tt
appends_none (Some xs) = sym (append-nil xs)

pub appends_more : (a b c : Option (List ℕ)) (xs ys : List ℕ) → Appends a b xs → Appends b c ys → Appends a c (xs ++ ys)
appends_more None b c xs ys p q = tt
appends_more (Some xs0) None c xs ys p q = absurd p
appends_more (Some xs0) (Some ys0) None xs ys p q = absurd q
appends_more (Some xs0) (Some ys0) (Some zs0) xs ys p q = q ∙ ap (λ (l : List ℕ). l ++ ys) p ∙ append_assoc xs0 xs ys

step_made : (h left made : ℕ) (last : BoardReply) (g : Guest) → ends_steps last ≡ false → stepping h (suc left) made last g ≡ stepping_after (answered (event.Step h) g).pages (stepping h left (made + 1) (answered (event.Step h) g).reply (answered (event.Step h) g).guest)
unfolding stepping
step_made h left made last g goes =
    let a = answered (event.Step h) g in
    ap (λ b. cond b (record { guest = g; pages = []; count = made; reply = last }) (stepping_after a.pages (stepping h left (made + 1) a.reply a.guest))) goes

-- after an answer that ends steps, no step follows
steps_stop : (h left made : ℕ) (last : BoardReply) (g : Guest) → ends_steps last ≡ true → stepping h left made last g ≡ record { guest = g; pages = []; count = made; reply = last }
unfolding stepping
steps_stop h zero made last g stops = refl
steps_stop h (suc left) made last g stops =
    let a = answered (event.Step h) g in
    ap (λ b. cond b (record { guest = g; pages = []; count = made; reply = last }) (stepping_after a.pages (stepping h left (made + 1) a.reply a.guest))) stops

steps_spent : (h made : ℕ) (last : BoardReply) (g : Guest) → stepping h 0 made last g ≡ record { guest = g; pages = []; count = made; reply = last }
unfolding stepping
steps_spent h made last g = refl

-- the answers that end steps are those that end turns
alike_reply : (x : Stepped) → ends_steps (reply_of x) ≡ is_some (stop_in (reply_of x))
alike_reply outcome.Retired = refl
alike_reply (outcome.Trapped e) = refl
alike_reply (outcome.Interrupted i) = refl
alike_reply (outcome.Halted s) = refl

alike_on : (b : Bool) (h : ℕ) (g : Guest) → ends_steps (cond b (leaves (with_stopped h true g) (reply.Break (pc_of h g))) (takes_step h g)).reply ≡ is_some (stop_in (cond b (leaves (with_stopped h true g) (reply.Break (pc_of h g))) (takes_step h g)).reply)
alike_on true h g = refl
alike_on false h g = alike_reply (board.stepped h g.board).answer

alike_halted : (o : Option ℕ) (h : ℕ) (g : Guest) → ends_steps (events.unless_halted o h g).reply ≡ is_some (stop_in (events.unless_halted o h g).reply)
alike_halted None h g = alike_on (stops h g) h g
alike_halted (Some status) h g = refl

alike : (h : ℕ) (g : Guest) → ends_steps (steps h g).reply ≡ is_some (stop_in (steps h g).reply)
alike h g = alike_halted g.board.shared.devices.halted h g

-- what ended turns is the answer
abbrev told_or : Option Stop → BoardReply → BoardReply
told_or (Some s) r = reply_of_stop s
told_or None r = r

told_same : (r : BoardReply) → told_or (stop_in r) r ≡ r
told_same reply.Retired = refl
told_same (reply.Trapped e) = refl
told_same (reply.Interrupted i) = refl
told_same (reply.Halted s) = refl
told_same (reply.Break a) = refl
told_same reply.Done = refl
told_same (reply.Bytes bytes) = refl
told_same (reply.Regs values) = refl
told_same (reply.Line a word) = refl
told_same (reply.Refused why) = refl

stop_told : (r : BoardReply) (s : Stop) → stop_in r ≡ Some s → r ≡ reply_of_stop s
stop_told r s e = sym (told_same r) ∙ ap (λ o. told_or o r) e

-- turns of one hart, and one step after them unless they ended early, as steps
abbrev last_step : Option Stop → (h m made : ℕ) → AfterTurns → Stepping
last_step (Some s) h m made t = record { guest = t.guest; pages = t.pages; count = made + t.made; reply = reply_of_stop s }
last_step None h m made t =
    let a = steps h t.guest in
    record { guest = a.guest; pages = t.pages ++ a.pages; count = made + suc m; reply = a.reply }

last_behind : (o : Option Stop) (ps : List ℕ) (h m made : ℕ) (t : AfterTurns) → stepping_after ps (last_step o h m (made + 1) t) ≡ last_step o h (suc m) made (behind ps 1 t)
last_behind (Some s) ps h m made t = ap (λ (k : ℕ). record { guest = t.guest; pages = ps ++ t.pages; count = k; reply = reply_of_stop s }) (omega arith)
last_behind None ps h m made t =
    let a : Answered = steps h t.guest in
    ap (λ (k : ℕ). record { guest = a.guest; pages = ps ++ (t.pages ++ a.pages); count = k; reply = a.reply }) (omega arith)
    ∙ ap (λ (l : List ℕ). record { guest = a.guest; pages = l; count = made + suc (suc m); reply = a.reply }) (sym (append_assoc ps t.pages a.pages))

-- this many steps of a hart, one more than this many turns
abbrev ByTurns : ℕ → Type 0
ByTurns m =
    (h made : ℕ) (last : BoardReply) (g : Guest) → ends_steps last ≡ false → h < length g.board.harts
    → stepping h (suc m) made last g ≡ last_step (after_turns Alone m h g).stop h m made (after_turns Alone m h g)

there_steps : (h : ℕ) (g : Guest) → h < length g.board.harts → answered (event.Step h) g ≡ steps h g
there_steps h g there = ap (λ b. cond b (steps h g) (refuses BadHart g)) (lt-ltb h (length g.board.harts) there)

turn_made : (m : ℕ) → ByTurns m → (o : Option Stop) (h made : ℕ) (g : Guest) → stop_in (steps h g).reply ≡ o → h < length g.board.harts
    → stepping_after (steps h g).pages (stepping h (suc m) (made + 1) (steps h g).reply (steps h g).guest)
    ≡ last_step (unless_stopped o (steps h g) (after_turns Alone m h (steps h g).guest)).stop h (suc m) made (unless_stopped o (steps h g) (after_turns Alone m h (steps h g).guest))
turn_made m others (Some s) h made g e there =
    let a : Answered = steps h g in
    ap (stepping_after a.pages) (steps_stop h (suc m) (made + 1) a.reply a.guest (alike h g ∙ ap is_some e))
    ∙ ap (λ (l : List ℕ). record { guest = a.guest; pages = l; count = made + 1; reply = a.reply }) (append-nil a.pages)
    ∙ ap (λ (r : BoardReply). record { guest = a.guest; pages = a.pages; count = made + 1; reply = r }) (stop_told a.reply s e)
turn_made m others None h made g e there =
    let a : Answered = steps h g in
    let rest : AfterTurns = after_turns Alone m h a.guest in
    ap (stepping_after a.pages) (others h (made + 1) a.reply a.guest (alike h g ∙ ap is_some e) (omega (arith, there, steps_count h g)))
    ∙ last_behind rest.stop a.pages h m made rest

by_turns : (m : ℕ) → ByTurns m
unfolding after_turns
by_turns zero h made last g goes there =
    let a : Answered = steps h g in
    step_made h 0 made last g goes
    ∙ ap (λ (x : Answered). stepping_after x.pages (stepping h 0 (made + 1) x.reply x.guest)) (there_steps h g there)
    ∙ ap (stepping_after a.pages) (steps_spent h (made + 1) a.reply a.guest)
    ∙ ap (λ (l : List ℕ). record { guest = a.guest; pages = l; count = made + 1; reply = a.reply }) (append-nil a.pages)
by_turns (suc m) h made last g goes there =
    step_made h (suc m) made last g goes
    ∙ ap (λ (x : Answered). stepping_after x.pages (stepping h (suc m) (made + 1) x.reply x.guest)) (there_steps h g there)
    ∙ turn_made m (by_turns m) (stop_in (steps h g).reply) h made g refl there

-- what all steps left
pub record AllSteps (all : Stepping) (g : Guest) (made : ℕ) (last : BoardReply) (first dirty : List Bool) : Type 0 where
  pub guest : g ≡ all.guest
  pub count : made ≡ all.count
  pub reply : last ≡ all.reply
  pub log : dirty ≡ mark_all all.pages first

-- no step is asked for
pub no_steps : (h n : ℕ) (g : Guest) (dirty : List Bool) → n ≡ 0 → AllSteps (stepped h n g) g 0 reply.Retired dirty dirty
no_steps h n g dirty none =
    let whole = ap (λ k. stepped h k g) none ∙ steps_spent h 0 reply.Retired g in
    record {
      guest = sym (ap (λ (s : Stepping). s.guest) whole);
      count = sym (ap (λ (s : Stepping). s.count) whole);
      reply = sym (ap (λ (s : Stepping). s.reply) whole);
      log = ap (λ ps. mark_all ps dirty) (sym (ap (λ (s : Stepping). s.pages) whole));
    }

-- there is no such hart
pub steps_refused : (h n m : ℕ) (g : Guest) (dirty : List Bool) → n ≡ suc m → length g.board.harts ≤ h → AllSteps (stepped h n g) g 1 (reply.Refused BadHart) dirty dirty
steps_refused h n m g dirty more absent =
    let refused : answered (event.Step h) g ≡ refuses BadHart g = ap (λ b. cond b (steps h g) (refuses BadHart g)) (le-ltb h (length g.board.harts) absent) in
    let whole = ap (λ k. stepped h k g) more ∙ step_made h m 0 reply.Retired g refl
    ∙ ap (λ (x : Answered). stepping_after x.pages (stepping h m 1 x.reply x.guest)) refused
    ∙ ap (stepping_after []) (steps_stop h m 1 (reply.Refused BadHart) g refl) in
    record {
      guest = sym (ap (λ (s : Stepping). s.guest) whole);
      count = sym (ap (λ (s : Stepping). s.count) whole);
      reply = sym (ap (λ (s : Stepping). s.reply) whole);
      log = ap (λ ps. mark_all ps dirty) (sym (ap (λ (s : Stepping). s.pages) whole));
    }

all_by_turns : (h n m : ℕ) (g : Guest) (o : Option Stop) → n ≡ suc m → h < length g.board.harts → o ≡ (after_turns Alone m h g).stop → stepped h n g ≡ last_step o h m 0 (after_turns Alone m h g)
all_by_turns h n m g o more there said =
    ap (λ k. stepped h k g) more ∙ by_turns m h 0 reply.Retired g refl there ∙ ap (λ (x : Option Stop). last_step x h m 0 (after_turns Alone m h g)) (sym said)

none_before : (k : ℕ) → k ≡ 0 + k
none_before k = omega arith

-- turns that ended early
pub steps_stopped : (h n m : ℕ) (s : Stop) (old new : GuestState) (told : Turns) → n ≡ suc m → h < length old.guest.board.harts → TakesTurns (after_turns Alone m h old.guest) old new told → told.stop ≡ Some s
    → AllSteps (stepped h n old.guest) new.guest told.made (reply_of_stop s) old.dirty new.dirty
steps_stopped h n m s old new told more there turns stopped =
    let whole = all_by_turns h n m old.guest (Some s) more there (sym stopped ∙ turns.stop) in
    record {
      guest = turns.guest ∙ sym (ap (λ (x : Stepping). x.guest) whole);
      count = turns.made ∙ none_before (after_turns Alone m h old.guest).made ∙ sym (ap (λ (x : Stepping). x.count) whole);
      reply = sym (ap (λ (x : Stepping). x.reply) whole);
      log = turns.dirty ∙ ap (λ ps. mark_all ps old.dirty) (sym (ap (λ (x : Stepping). x.pages) whole));
    }

-- turns, and one step more
pub steps_made : (h n m : ℕ) (old mid new : GuestState) (told : Turns) (last : BoardReply) → n ≡ suc m → h < length old.guest.board.harts → TakesTurns (after_turns Alone m h old.guest) old mid told → told.stop ≡ None
    → new.guest ≡ (answered (event.Step h) mid.guest).guest → new.dirty ≡ mark_all (answered (event.Step h) mid.guest).pages mid.dirty → last ≡ (answered (event.Step h) mid.guest).reply
    → AllSteps (stepped h n old.guest) new.guest n last old.dirty new.dirty
steps_made h n m old mid new told last more there turns on left marked said =
    let t : AfterTurns = after_turns Alone m h old.guest in
    let whole = all_by_turns h n m old.guest None more there (sym on ∙ turns.stop) in
    let same : answered (event.Step h) mid.guest ≡ steps h t.guest =
    ap (λ x. answered (event.Step h) x) turns.guest ∙ there_steps h t.guest (omega (arith, there, turns_count Alone m h old.guest)) in
    record {
      guest = left ∙ ap (λ (x : Answered). x.guest) same ∙ sym (ap (λ (x : Stepping). x.guest) whole);
      count = more ∙ none_before (suc m) ∙ sym (ap (λ (x : Stepping). x.count) whole);
      reply = said ∙ ap (λ (x : Answered). x.reply) same ∙ sym (ap (λ (x : Stepping). x.reply) whole);
      log = marked ∙ ap (λ (x : Answered). mark_all x.pages mid.dirty) same ∙ ap (mark_all (steps h t.guest).pages) turns.dirty
          ∙ sym (mark_more t.pages (steps h t.guest).pages old.dirty) ∙ ap (λ ps. mark_all ps old.dirty) (sym (ap (λ (x : Stepping). x.pages) whole));
    }

-- bytes that came, and those that are left, are all
pub record Inputs (all now : Answered) (first dirty : List Bool) : Type 0 where
  pub pages : List ℕ
  pub log : dirty ≡ mark_all pages first
  pub whole : answered_after pages now ≡ all

pub inputs_none : (all : Answered) (dirty : List Bool) → Inputs all all dirty dirty
inputs_none all dirty = record { pages = []; log = refl; whole = refl }

byte_in : (b : ℕ) (bs : List ℕ) (g : Guest) → inputs (b ∷ bs) g ≡ cond (is_refused (answered (event.Input b) g).reply) (answered (event.Input b) g) (answered_after (answered (event.Input b) g).pages (inputs bs (answered (event.Input b) g).guest))
unfolding inputs
byte_in b bs g = refl

pub inputs_more : {all : Answered} {first dirty dirty' : List Bool} (b : ℕ) (left bs : List ℕ) (r : BoardReply) (g g' : Guest) → Inputs all (inputs left g) first dirty → left ≡ b ∷ bs → is_refused r ≡ false → dirty' ≡ mark_all (answered (event.Input b) g).pages dirty → r ≡ (answered (event.Input b) g).reply → g' ≡ (answered (event.Input b) g).guest → Inputs all (inputs bs g') first dirty'
inputs_more {all} {first} {dirty} {dirty'} b left bs r g g' so_far more goes marked told left_guest =
    let a = answered (event.Input b) g in
    let rest = inputs bs a.guest in
    let on : is_refused a.reply ≡ false = ap is_refused (sym told) ∙ goes in
    record {
      pages = so_far.pages ++ a.pages;
      log = marked ∙ ap (mark_all a.pages) so_far.log ∙ sym (mark_more so_far.pages a.pages first);
      whole = ap (λ x. answered_after (so_far.pages ++ a.pages) (inputs bs x)) left_guest
          ∙ ap (λ ps. record rest { pages = ps }) (append_assoc so_far.pages a.pages rest.pages)
          ∙ ap (λ t. answered_after so_far.pages (cond t a (answered_after a.pages rest))) (sym on)
          ∙ ap (answered_after so_far.pages) (sym (byte_in b bs g) ∙ ap (λ l. inputs l g) (sym more))
          ∙ so_far.whole;
    }

-- what all bytes left
pub record AllInputs (all : Answered) (g : Guest) (last : BoardReply) (first dirty : List Bool) : Type 0 where
  pub guest : g ≡ all.guest
  pub reply : last ≡ all.reply
  pub log : dirty ≡ mark_all all.pages first

pub inputs_refused : {all : Answered} {first dirty dirty' : List Bool} (b : ℕ) (left bs : List ℕ) (r : BoardReply) (g g' : Guest) → Inputs all (inputs left g) first dirty → left ≡ b ∷ bs → is_refused r ≡ true → dirty' ≡ mark_all (answered (event.Input b) g).pages dirty → r ≡ (answered (event.Input b) g).reply → g' ≡ (answered (event.Input b) g).guest → AllInputs all g' r first dirty'
inputs_refused {all} {first} {dirty} {dirty'} b left bs r g g' so_far more stops marked told left_guest =
    let a = answered (event.Input b) g in
    let rest = inputs bs a.guest in
    let on : is_refused a.reply ≡ true = ap is_refused (sym told) ∙ stops in
    let whole = ap (λ t. answered_after so_far.pages (cond t a (answered_after a.pages rest))) (sym on)
    ∙ ap (answered_after so_far.pages) (sym (byte_in b bs g) ∙ ap (λ l. inputs l g) (sym more)) ∙ so_far.whole in
    record {
      guest = left_guest ∙ ap (λ (s : Answered). s.guest) whole;
      reply = told ∙ ap (λ (s : Answered). s.reply) whole;
      log = marked ∙ ap (mark_all a.pages) so_far.log ∙ sym (mark_more so_far.pages a.pages first)
          ∙ ap (λ ps. mark_all ps first) (ap (λ (s : Answered). s.pages) whole);
    }

no_bytes : (g : Guest) → inputs [] g ≡ leaves g reply.Done
unfolding inputs
no_bytes g = refl

pub inputs_over : {all : Answered} {first dirty : List Bool} (left : List ℕ) (g : Guest) → Inputs all (inputs left g) first dirty → left ≡ [] → AllInputs all g reply.Done first dirty
inputs_over {all} {first} {dirty} left g so_far none =
    let whole = ap (answered_after so_far.pages) (sym (no_bytes g) ∙ ap (λ l. inputs l g) (sym none)) ∙ so_far.whole in
    record {
      guest = ap (λ (s : Answered). s.guest) whole;
      reply = ap (λ (s : Answered). s.reply) whole;
      log = so_far.log ∙ ap (λ ps. mark_all ps first) (sym (append-nil so_far.pages) ∙ ap (λ (s : Answered). s.pages) whole);
    }

line_first : (b : List ℕ) (bs : List (List ℕ)) (n : ℕ) (g : Guest) → script_of (b ∷ bs) n g ≡ answers_by (line_of b) n g (script_of bs (n + 1))
unfolding script_of
line_first b bs n g = refl

no_line : (n : ℕ) (g : Guest) → script_of [] n g ≡ ended None g
unfolding script_of
no_line n g = refl

told_both : (ps qs ts us : List ℕ) (t : Answers) → answers_behind ps ts (answers_behind qs us t) ≡ answers_behind (ps ++ qs) (ts ++ us) t
told_both ps qs ts us t =
    ap (λ l. record t { pages = l; text = ts ++ (us ++ t.text) }) (sym (append_assoc ps qs t.pages))
    ∙ ap (λ l. record t { pages = (ps ++ qs) ++ t.pages; text = l }) (sym (append_assoc ts us t.text))

-- lines after others, none of which ended the script
line_both : (o : Option Line) (ls more : List (List ℕ)) (n : ℕ) (g : Guest) → ((h : Guest) → (script_of ls (n + 1) h).end ≡ None → script_of (ls ++ more) (n + 1) h ≡ answers_behind (script_of ls (n + 1) h).pages (script_of ls (n + 1) h).text (script_of more (n + 1 + length ls) (script_of ls (n + 1) h).guest))
    → let first = answers_by o n g (script_of ls (n + 1)) in first.end ≡ None → answers_by o n g (script_of (ls ++ more) (n + 1)) ≡ answers_behind first.pages first.text (script_of more (n + suc (length ls)) first.guest)
line_both None ls more n g others on = absurd cc
line_both (Some l) ls more n g others on =
    let r = done_by l g in
    let d : Answers = script_of ls (n + 1) r.guest in
    let count : n + 1 + length ls ≡ n + suc (length ls) = omega arith in
    ap (answers_behind r.pages r.text) (others r.guest on)
    ∙ told_both r.pages d.pages r.text d.text (script_of more (n + 1 + length ls) d.guest)
    ∙ ap (λ k. answers_behind (r.pages ++ d.pages) (r.text ++ d.text) (script_of more k d.guest)) count

script_both : (ls more : List (List ℕ)) (n : ℕ) (g : Guest) → (script_of ls n g).end ≡ None → script_of (ls ++ more) n g ≡ answers_behind (script_of ls n g).pages (script_of ls n g).text (script_of more (n + length ls) (script_of ls n g).guest)
unfolding script_of
script_both [] more n g on = let same : n ≡ n + 0 = omega arith in ap (λ k. script_of more k g) same
script_both (l ∷ ls) more n g on = line_both (line_of l) ls more n g (script_both ls more (n + 1)) on

-- one line more
one_line : (ls : List (List ℕ)) (b : List ℕ) (l : Line) (g : Guest) → (script_of ls 1 g).end ≡ None → line_of b ≡ Some l
    → let d = script_of ls 1 g in let r = done_by l d.guest in script_of (ls ++ b ∷ []) 1 g ≡ record { guest = r.guest; pages = d.pages ++ r.pages; text = d.text ++ r.text; end = None }
one_line ls b l g on is =
    let d : Answers = script_of ls 1 g in
    let n = 1 + length ls in
    let r = done_by l d.guest in
    script_both ls (b ∷ []) 1 g on
    ∙ ap (answers_behind d.pages d.text) (line_first b [] n d.guest ∙ ap (λ o. answers_by o n d.guest (script_of [] (n + 1))) is ∙ ap (answers_behind r.pages r.text) (no_line (n + 1) r.guest))
    ∙ ap (λ ps. record { guest = r.guest; pages = d.pages ++ ps; text = d.text ++ (r.text ++ []); end = None }) (append-nil r.pages)
    ∙ ap (λ ts. record { guest = r.guest; pages = d.pages ++ r.pages; text = d.text ++ ts; end = None }) (append-nil r.text)

-- lines that were done, and those that are left, the first of which has this number, are all
pub record Lines (all left : List (List ℕ)) (number : ℕ) (start now : GuestState) (before written : Option (List ℕ)) : Type 0 where
  pub done : List (List ℕ)
  pub whole : done ++ left ≡ all
  pub counted : number ≡ 1 + length done
  pub on : (script_of done 1 start.guest).end ≡ None
  pub guest : now.guest ≡ (script_of done 1 start.guest).guest
  pub dirty : now.dirty ≡ mark_all (script_of done 1 start.guest).pages start.dirty
  pub text : Appends before written (script_of done 1 start.guest).text

pub lines_none : (all : List (List ℕ)) (start : GuestState) (out : Option (List ℕ)) → Lines all all 1 start start out out
unfolding script_of
lines_none all start out = record { done = []; whole = refl; counted = refl; on = refl; guest = refl; dirty = refl; text = appends_none out }

-- a line that was done, and its guest
abbrev IsDone : Line → (old new : GuestState) → Type 0
IsDone l old new = (new.guest ≡ (done_by l old.guest).guest) × (new.dirty ≡ mark_all (done_by l old.guest).pages old.dirty)

line_left : {all left : List (List ℕ)} {number : ℕ} {start now : GuestState} {before written : Option (List ℕ)} (b : List ℕ) (l : Line) (new : GuestState) → (p : Lines all left number start now before written) → line_of b ≡ Some l → IsDone l now new
    → let told = script_of (p.done ++ b ∷ []) 1 start.guest in (new.guest ≡ told.guest) × (new.dirty ≡ mark_all told.pages start.dirty)
line_left {all} {left} {number} {start} {now} {before} {written} b l new p is made =
    let d : Answers = script_of p.done 1 start.guest in
    let r = done_by l d.guest in
    let told = sym (one_line p.done b l start.guest p.on is) in (
      made.0 ∙ ap (λ g. (done_by l g).guest) p.guest ∙ ap (λ (t : Answers). t.guest) told,
      made.1 ∙ ap (λ g. mark_all (done_by l g).pages now.dirty) p.guest ∙ ap (mark_all r.pages) p.dirty ∙ sym (mark_more d.pages r.pages start.dirty) ∙ ap (λ (t : Answers). mark_all t.pages start.dirty) told,
    )

line_next : (done bs : List (List ℕ)) (b : List ℕ) (left all : List (List ℕ)) → left ≡ b ∷ bs → done ++ left ≡ all → (done ++ b ∷ []) ++ bs ≡ all
line_next done bs b left all more whole = append_assoc done (b ∷ []) bs ∙ ap (λ l. done ++ l) (sym more) ∙ whole

pub line_done : {all left : List (List ℕ)} {number : ℕ} {start old : GuestState} {before mid : Option (List ℕ)} (next k : ℕ) (bs : List (List ℕ)) (b : List ℕ) (new : GuestState) (after : Option (List ℕ)) (u : Unit {0}) (o : Option Line) → line_of b ≡ o → Lines all left number start old before mid
    → left ≡ b ∷ bs → next ≡ number + 1 → IsLineRun (Ok u) k o old new mid after → Lines all bs next start new before after
line_done {all} {left} {number} {start} {old} {before} {mid} next k bs b new after u None is p more counted run = absurd run
line_done {all} {left} {number} {start} {old} {before} {mid} next k bs b new after u (Some l) is p more counted run =
    let d : Answers = script_of p.done 1 start.guest in
    let r = done_by l d.guest in
    let told = one_line p.done b l start.guest p.on is in
    let made = line_left b l new p is (run.0, run.1) in
    let text : Appends mid after r.text = subst (λ (g : Guest). Appends mid after (done_by l g).text) p.guest run.2 in
    record {
      done = p.done ++ b ∷ [];
      whole = line_next p.done bs b left all more p.whole;
      counted = omega (arith, counted, p.counted, length-append p.done (b ∷ []));
      on = ap (λ (t : Answers). t.end) told;
      guest = made.0;
      dirty = made.1;
      text = subst (Appends before after) (ap (λ (t : Answers). t.text) (sym told)) (appends_more before mid after d.text r.text p.text text);
    }

pub lines_over : (all left : List (List ℕ)) (number : ℕ) (start new : GuestState) (before after : Option (List ℕ)) (u : Unit {0}) → left ≡ [] → Lines all left number start new before after → IsRun (Ok u) all start new before after
lines_over all left number start new before after u none p =
    let whole : p.done ≡ all = sym (append-nil p.done) ∙ ap (λ l. p.done ++ l) (sym none) ∙ p.whole in
    rw (← whole) (p.on, record { guest = p.guest; dirty = p.dirty; text = p.text })

-- a line that is not in the grammar, or whose answer was not written
pub line_refused : (all left bs : List (List ℕ)) (b : List ℕ) (number k : ℕ) (start old new : GuestState) (before mid after : Option (List ℕ)) (e : ScriptError) (o : Option Line) → line_of b ≡ o → Lines all left number start old before mid → k ≡ number → left ≡ b ∷ bs
    → IsLineRun (Err e) k o old new mid after → IsRun (Err e) all start new before after
line_refused all left bs b number k start old new before mid after OutOfMemory o is p same more run = absurd run
line_refused all left bs b number k start old new before mid after TooLong o is p same more run = absurd run
line_refused all left bs b number k start old new before mid after LinkFault None is p same more run = absurd run
line_refused all left bs b number k start old new before mid after LinkFault (Some l) is p same more run =
    let made = line_left b l new p is (run.1, run.2) in
    record {
      done = p.done ++ b ∷ [];
      left = bs;
      whole = line_next p.done bs b left all more p.whole;
      on = ap (λ (t : Answers). t.end) (one_line p.done b l start.guest p.on is);
      last = inr (record { first = p.done; last = b; line = l; whole = refl; is_line = is; answered = run.0 });
      guest = made.0;
      dirty = made.1;
    }
line_refused all left bs b number k start old new before mid after (BadToken j) (Some l) is p same more run = absurd run
line_refused all left bs b number k start old new before mid after (BadToken j) None is p same more run =
    let d : Answers = script_of p.done 1 start.guest in
    let n = 1 + length p.done in
    let told : script_of all 1 start.guest ≡ answers_behind d.pages d.text (ended (Some n) d.guest) =
    ap (λ l. script_of l 1 start.guest) (sym p.whole ∙ ap (λ l. p.done ++ l) more)
    ∙ script_both p.done (b ∷ bs) 1 start.guest p.on
    ∙ ap (answers_behind d.pages d.text) (line_first b bs n d.guest ∙ ap (λ x. answers_by x n d.guest (script_of bs (n + 1))) is) in (
      ap (λ (t : Answers). t.end) told ∙ ap (λ (i : ℕ). Some i) (sym (run.0 ∙ same ∙ p.counted)),
      record {
        guest = ap (λ (s : GuestState). s.guest) run.1 ∙ p.guest ∙ ap (λ (t : Answers). t.guest) (sym told);
        dirty = ap (λ (s : GuestState). s.dirty) run.1 ∙ p.dirty ∙ ap (λ ps. mark_all ps start.dirty) (sym (append-nil d.pages)) ∙ ap (λ (t : Answers). mark_all t.pages start.dirty) (sym told);
        text = rw run.2 (subst (Appends before mid) (sym (append-nil d.text) ∙ ap (λ (t : Answers). t.text) (sym told)) p.text);
      },
    )

-- a script that can't be read
unread : (script : Option (List ℕ)) (lines : List (List ℕ)) (s : GuestState) (out : Option (List ℕ)) (e : ScriptError) → IsReadError script e → IsRun (Err e) lines s s out out
unfolding script_of
unread script lines s out OutOfMemory why = (refl, refl)
unread script lines s out TooLong why = (refl, refl)
unread script lines s out (BadToken n) why = absurd why
unread script lines s out LinkFault why = record { done = []; left = lines; whole = refl; on = refl; last = inl refl; guest = refl; dirty = refl }

pub unread_script : (script : Option (List ℕ)) (s : GuestState) (out : Option (List ℕ)) (e : ScriptError) → IsReadError script e → IfSome script (λ bytes. IsRun (Err e) (lines bytes) s s out out)
unread_script None s out e why = tt
unread_script (Some bytes) s out e why = unread (Some bytes) (lines bytes) s out e why
