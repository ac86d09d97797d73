-- The fold of an extended session, one line at a time.
use Rattle.std.proofs.Common.{◌≡◌, inl, inr, ℕ, suc, ◌+◌, List, [], ◌∷◌, ◌++◌, Ok, Err, Option, Some, None, ◌^◌, ◌<◌, ◌≤◌, length, refl, ap, sym, ◌∙◌, append_assoc, append-nil, arith, subst, IfSome}
use Rattle.std.proofs.lemmas.List.{length-append}
use Rattle.std.specs.Io.KnownBytes.{Appends}
use Rattle.rvm_mem.specs.Pages.{mark_all}
use Rattle.rvm_board.specs.Guest.{Guest, GuestState}
use Rattle.rvm_board.proofs.Turning.{mark_more}
use Rattle.rvm_debug.specs.declared.script.ScriptError.{ScriptError}
use Rattle.rvm_debug.specs.declared.script.ScriptError.TheVariants.{OutOfMemory, TooLong, BadToken, LinkFault}
use Rattle.rvm_debug.specs.Words.{lines}
use Rattle.rvm_debug.specs.Runs.{IsReadError}
use Rattle.rvm_debug.specs.Script.{Answers, answers_behind, ended}
use Rattle.rvm_debug.proofs.Running.{appends_more, appends_none}
use Rattle.rvm_command.specs.declared.extended_line.ExtendedLine.{ExtendedLine}
use Rattle.rvm_command.specs.ExtendedLines.{extended_line_of}
use Rattle.rvm_command.specs.ExtendedRuns.{IsLineOf, IsSession, session_told}
use Rattle.rvm_command.specs.ExtendedScript.{Extended, Session, extended_done_by, session_behind, session_by, session_of}

session_first : (b : List ℕ) (bs : List (List ℕ)) (n t : ℕ) (g : Guest) → session_of (b ∷ bs) n t g ≡ session_by (extended_line_of b) n t g (session_of bs (n + 1))
unfolding session_of
session_first b bs n t g = refl

no_line : (n t : ℕ) (g : Guest) → session_of [] n t g ≡ record { told = ended None g; turns = t }
unfolding session_of
no_line n t g = refl

told_both : (ps qs ts us : List ℕ) (a : Answers) → answers_behind ps ts (answers_behind qs us a) ≡ answers_behind (ps ++ qs) (ts ++ us) a
told_both ps qs ts us a =
    ap (λ l. record a { pages = l; text = ts ++ (us ++ a.text) }) (sym (append_assoc ps qs a.pages))
    ∙ ap (λ l. record a { pages = (ps ++ qs) ++ a.pages; text = l }) (sym (append_assoc ts us a.text))

-- a session after what others answered before it
abbrev after_told : Answers → Session → Session
after_told a s = record s { told = answers_behind a.pages a.text s.told }

-- lines after others, none of which ended the session
abbrev Both : (ls more : List (List ℕ)) → (n t : ℕ) → Guest → Type 0
Both ls more n t g =
    let s = session_of ls n t g in
    s.told.end ≡ None → session_of (ls ++ more) n t g ≡ after_told s.told (session_of more (n + length ls) s.turns s.told.guest)

line_both : (o : Option ExtendedLine) (ls more : List (List ℕ)) (n t : ℕ) (g : Guest) → ((u : ℕ) (h : Guest) → Both ls more (n + 1) u h)
    → let first = session_by o n t g (session_of ls (n + 1)) in first.told.end ≡ None
    → session_by o n t g (session_of (ls ++ more) (n + 1)) ≡ after_told first.told (session_of more (n + suc (length ls)) first.turns first.told.guest)
line_both None ls more n t g others on = absurd cc
line_both (Some l) ls more n t g others on =
    let d : Extended = extended_done_by l t g in
    let r = d.replied in
    let s : Session = session_of ls (n + 1) d.turns r.guest in
    let rest : Session = session_of more (n + 1 + length ls) s.turns s.told.guest in
    let count : n + 1 + length ls ≡ n + suc (length ls) = omega arith in
    ap (session_behind d) (others d.turns r.guest on)
    ∙ ap (λ a. record rest { told = a }) (told_both r.pages s.told.pages r.text s.told.text rest.told)
    ∙ ap (λ k. after_told (session_behind d s).told (session_of more k s.turns s.told.guest)) count

session_both : (ls more : List (List ℕ)) (n t : ℕ) (g : Guest) → Both ls more n t g
unfolding session_of
session_both [] more n t g on = let same : n ≡ n + 0 = omega arith in ap (λ k. session_of more k t g) same
session_both (l ∷ ls) more n t g on = line_both (extended_line_of l) ls more n t g (session_both ls more (n + 1)) on

-- one line more
one_line : (ls : List (List ℕ)) (b : List ℕ) (l : ExtendedLine) (g : Guest) → (session_told ls g).end ≡ None → extended_line_of b ≡ Some l
    → let s = session_of ls 1 0 g in let d = extended_done_by l s.turns s.told.guest in
    session_of (ls ++ b ∷ []) 1 0 g
    ≡ record {
      told = record { guest = d.replied.guest; pages = s.told.pages ++ d.replied.pages; text = s.told.text ++ d.replied.text; end = None };
      turns = d.turns;
    }
one_line ls b l g on is =
    let s : Session = session_of ls 1 0 g in
    let n = 1 + length ls in
    let d : Extended = extended_done_by l s.turns s.told.guest in
    let r = d.replied in
    session_both ls (b ∷ []) 1 0 g on
    ∙ ap (after_told s.told) (session_first b [] n s.turns s.told.guest ∙ ap (λ o. session_by o n s.turns s.told.guest (session_of [] (n + 1))) is ∙ ap (session_behind d) (no_line (n + 1) d.turns r.guest))
    ∙ ap (λ ps. record { told = record { guest = r.guest; pages = s.told.pages ++ ps; text = s.told.text ++ (r.text ++ []); end = None }; turns = d.turns }) (append-nil r.pages)
    ∙ ap (λ ts. record { told = record { guest = r.guest; pages = s.told.pages ++ r.pages; text = s.told.text ++ ts; end = None }; turns = d.turns }) (append-nil r.text)

-- lines that were done, and those that are left, the first of which has this number, are all
pub record Lines (all left : List (List ℕ)) (number turns : ℕ) (start now : GuestState) (before written : Option (List ℕ)) : Type 0 where
  pub done : List (List ℕ)
  pub whole : done ++ left ≡ all
  pub counted : number ≡ 1 + length done
  pub on : (session_told done start.guest).end ≡ None
  pub made : turns ≡ (session_of done 1 0 start.guest).turns
  pub guest : now.guest ≡ (session_told done start.guest).guest
  pub dirty : now.dirty ≡ mark_all (session_told done start.guest).pages start.dirty
  pub text : Appends before written (session_told done start.guest).text

pub lines_none : (all : List (List ℕ)) (start : GuestState) (out : Option (List ℕ)) → Lines all all 1 0 start start out out
unfolding session_of
lines_none all start out = record { done = []; whole = refl; counted = refl; on = refl; made = refl; guest = refl; dirty = refl; text = appends_none out }

-- a line that was done after t turns, and its guest
abbrev IsDone : ExtendedLine → (t : ℕ) → (old new : GuestState) → Type 0
IsDone l t old new =
    let r = (extended_done_by l t old.guest).replied in (new.guest ≡ r.guest) × (new.dirty ≡ mark_all r.pages old.dirty)

-- what a line does after as many turns, to a guest that is the same
same_done : (l : ExtendedLine) (t u : ℕ) (g h : Guest) → t ≡ u → g ≡ h → extended_done_by l t g ≡ extended_done_by l u h
same_done l t u g h p q = ap (λ x. extended_done_by l x g) p ∙ ap (extended_done_by l u) q

line_left : {all left : List (List ℕ)} {number turns : ℕ} {start now : GuestState} {before written : Option (List ℕ)} (b : List ℕ) (l : ExtendedLine) (new : GuestState) → (p : Lines all left number turns start now before written) → extended_line_of b ≡ Some l → IsDone l turns now new
    → let told = session_told (p.done ++ b ∷ []) start.guest in (new.guest ≡ told.guest) × (new.dirty ≡ mark_all told.pages start.dirty)
line_left {all} {left} {number} {turns} {start} {now} {before} {written} b l new p is made =
    let s : Session = session_of p.done 1 0 start.guest in
    let d : Extended = extended_done_by l s.turns s.told.guest in
    let same = same_done l turns s.turns now.guest s.told.guest p.made p.guest in
    let told = sym (one_line p.done b l start.guest p.on is) in (
      made.0 ∙ ap (λ (e : Extended). e.replied.guest) same ∙ ap (λ (x : Session). x.told.guest) told,
      made.1 ∙ ap (λ (e : Extended). mark_all e.replied.pages now.dirty) same ∙ ap (mark_all d.replied.pages) p.dirty ∙ sym (mark_more s.told.pages d.replied.pages start.dirty) ∙ ap (λ (x : Session). mark_all x.told.pages start.dirty) told,
    )

line_next : (done bs : List (List ℕ)) (b : List ℕ) (left all : List (List ℕ)) → left ≡ b ∷ bs → done ++ left ≡ all → (done ++ b ∷ []) ++ bs ≡ all
line_next done bs b left all more whole = append_assoc done (b ∷ []) bs ∙ ap (λ l. done ++ l) (sym more) ∙ whole

pub line_done : {all left : List (List ℕ)} {number turns : ℕ} {start old : GuestState} {before mid : Option (List ℕ)} (next k t : ℕ) (bs : List (List ℕ)) (b : List ℕ) (new : GuestState) (after : Option (List ℕ)) (o : Option ExtendedLine) → extended_line_of b ≡ o → Lines all left number turns start old before mid
    → left ≡ b ∷ bs → next ≡ number + 1 → IsLineOf (Ok t) k turns o old new mid after → Lines all bs next t start new before after
line_done {all} {left} {number} {turns} {start} {old} {before} {mid} next k t bs b new after None is p more counted run = absurd run
line_done {all} {left} {number} {turns} {start} {old} {before} {mid} next k t bs b new after (Some l) is p more counted run =
    let s : Session = session_of p.done 1 0 start.guest in
    let d : Extended = extended_done_by l s.turns s.told.guest in
    let same = same_done l turns s.turns old.guest s.told.guest p.made p.guest in
    let told = one_line p.done b l start.guest p.on is in
    let made = line_left b l new p is (run.1, run.2) in
    let text : Appends mid after d.replied.text = subst (λ (e : Extended). Appends mid after e.replied.text) same run.3 in
    record {
      done = p.done ++ b ∷ [];
      whole = line_next p.done bs b left all more p.whole;
      counted = omega (arith, counted, p.counted, length-append p.done (b ∷ []));
      on = ap (λ (x : Session). x.told.end) told;
      made = run.0 ∙ ap (λ (e : Extended). e.turns) same ∙ ap (λ (x : Session). x.turns) (sym told);
      guest = made.0;
      dirty = made.1;
      text = subst (Appends before after) (ap (λ (x : Session). x.told.text) (sym told)) (appends_more before mid after s.told.text d.replied.text p.text text);
    }

pub lines_over : (all left : List (List ℕ)) (number turns : ℕ) (start new : GuestState) (before after : Option (List ℕ)) (u : Unit {0}) → left ≡ [] → Lines all left number turns start new before after → IsSession (Ok u) all start new before after
lines_over all left number turns start new before after u none p =
    let whole : p.done ≡ all = sym (append-nil p.done) ∙ ap (λ l. p.done ++ l) (sym none) ∙ p.whole in
    rw (← whole) (p.on, record { guest = p.guest; dirty = p.dirty; text = p.text })

-- a line that is not in the grammar, or whose answer was not written
pub line_refused : (all left bs : List (List ℕ)) (b : List ℕ) (number k turns : ℕ) (start old new : GuestState) (before mid after : Option (List ℕ)) (e : ScriptError) (o : Option ExtendedLine) → extended_line_of b ≡ o → Lines all left number turns start old before mid → k ≡ number → left ≡ b ∷ bs
    → IsLineOf (Err e) k turns o old new mid after → IsSession (Err e) all start new before after
line_refused all left bs b number k turns start old new before mid after OutOfMemory o is p same more run = absurd run
line_refused all left bs b number k turns start old new before mid after TooLong o is p same more run = absurd run
line_refused all left bs b number k turns start old new before mid after LinkFault None is p same more run = absurd run
line_refused all left bs b number k turns start old new before mid after LinkFault (Some l) is p same more run =
    let made = line_left b l new p is (run.1, run.2) in
    record {
      done = p.done ++ b ∷ [];
      left = bs;
      whole = line_next p.done bs b left all more p.whole;
      on = ap (λ (x : Session). x.told.end) (one_line p.done b l start.guest p.on is);
      last = inr (record { first = p.done; last = b; line = l; whole = refl; is_line = is; answered = run.0 });
      guest = made.0;
      dirty = made.1;
    }
line_refused all left bs b number k turns start old new before mid after (BadToken j) (Some l) is p same more run = absurd run
line_refused all left bs b number k turns start old new before mid after (BadToken j) None is p same more run =
    let s : Session = session_of p.done 1 0 start.guest in
    let d = s.told in
    let n = 1 + length p.done in
    let told : session_told all start.guest ≡ answers_behind d.pages d.text (ended (Some n) d.guest) =
    ap (λ l. session_told l start.guest) (sym p.whole ∙ ap (λ l. p.done ++ l) more)
    ∙ ap (λ (x : Session). x.told) (session_both p.done (b ∷ bs) 1 0 start.guest p.on)
    ∙ ap (λ (x : Session). answers_behind d.pages d.text x.told) (session_first b bs n s.turns d.guest ∙ ap (λ o. session_by o n s.turns d.guest (session_of bs (n + 1))) is) in (
      ap (λ (t : Answers). t.end) told ∙ ap (λ (i : ℕ). Some i) (sym (run.0 ∙ same ∙ p.counted)),
      record {
        guest = ap (λ (s : GuestState). s.guest) run.1 ∙ p.guest ∙ ap (λ (t : Answers). t.guest) (sym told);
        dirty = ap (λ (s : GuestState). s.dirty) run.1 ∙ p.dirty ∙ ap (λ ps. mark_all ps start.dirty) (sym (append-nil d.pages)) ∙ ap (λ (t : Answers). mark_all t.pages start.dirty) (sym told);
        text = rw run.2 (subst (Appends before mid) (sym (append-nil d.text) ∙ ap (λ (t : Answers). t.text) (sym told)) p.text);
      },
    )

-- a session that can't be read
unread : (session : Option (List ℕ)) (lines : List (List ℕ)) (s : GuestState) (out : Option (List ℕ)) (e : ScriptError) → IsReadError session e → IsSession (Err e) lines s s out out
unfolding session_of
unread session lines s out OutOfMemory why = (refl, refl)
unread session lines s out TooLong why = (refl, refl)
unread session lines s out (BadToken n) why = absurd why
unread session lines s out LinkFault why = record { done = []; left = lines; whole = refl; on = refl; last = inl refl; guest = refl; dirty = refl }

pub unread_session : (session : Option (List ℕ)) (s : GuestState) (out : Option (List ℕ)) (e : ScriptError) → IsReadError session e → IfSome session (λ bytes. IsSession (Err e) (lines bytes) s s out out)
unread_session None s out e why = tt
unread_session (Some bytes) s out e why = unread (Some bytes) (lines bytes) s out e why

-- a reader that gave more than a session may have
pub gave_too_many : (session : Option (List ℕ)) (bytes : List ℕ) → IfSome session (λ s. (bytes ≡ s) × (length s ≤ 2 ^ 26)) → 2 ^ 26 < length bytes → IfSome session (λ s. 2 ^ 26 < length s)
gave_too_many None bytes read more = tt
gave_too_many (Some s) bytes read more = subst (λ (l : List ℕ). 2 ^ 26 < length l) read.0 more
