-- The lines of a script, line by line.
use Rattle.std.proofs.Common.{◌≡◌, inl, inr, ℕ, suc, ◌+◌, List, [], ◌∷◌, ◌++◌, length, Option, Some, None, Result, Ok, Err, IfSome, refl, ap, sym, ◌∙◌, subst, arith, append_assoc, append-nil}
use Rattle.std.proofs.lemmas.List.{length-append}
use Rattle.std.specs.Io.KnownBytes.{Appends}
use Rattle.rvm_board.specs.Guest.{Guest}
use Rattle.rvm_protocol.specs.Shown.{Shown}
use Rattle.rvm_protocol.specs.Told.{Told}
use Rattle.rvm_debug.proofs.Running.{appends_more, appends_none}
use Rattle.rvm_debug.specs.Words.{lines}
use Rattle.rvm_core.specs.Worlds.{BoardWorld, IsReached}
use Rattle.rvm_core.specs.declared.world_line.WorldLine.{WorldLine}
use Rattle.rvm_core.specs.declared.world_line.WorldLine.TheVariants.{Empty}
use Rattle.rvm_core.specs.WorldLines.{world_line_of}
use Rattle.rvm_core.specs.declared.script.WorldScriptError.{WorldScriptError}
use Rattle.rvm_core.specs.declared.script.WorldScriptError.TheVariants.{OutOfMemory, LineOutOfMemory, TooLong, BadToken, LinkFault}
use Rattle.rvm_core.specs.Runs.{IsAnswered, IsLineRun, IsPartWay, IsSpentIn, IsWorldRun, standing}
use Rattle.rvm_core.specs.WorldScript.{Answers, Standing, answers_by, behind, done_by, world_script_of}
use Rattle.rvm_core.proofs.Making.{made_shown, script_made}

pub line_first : (b : List ℕ) (bs : List (List ℕ)) (n : ℕ) (s : Standing)
    → world_script_of (b ∷ bs) n s ≡ answers_by (world_line_of s.world.count b) n s (world_script_of bs (n + 1))
unfolding world_script_of
line_first b bs n s = refl

no_line : (n : ℕ) (s : Standing) → world_script_of [] n s ≡ record { standing = s; text = []; end = None }
unfolding world_script_of
no_line n s = refl

behind_both : (xs ys : List ℕ) (a : Answers) → behind xs (behind ys a) ≡ behind (xs ++ ys) a
behind_both xs ys a = ap (λ l. record a { text = l }) (sym (append_assoc xs ys a.text))

-- the answers of lines after others that did not end the script
line_both : (o : Option WorldLine) (ls more : List (List ℕ)) (n : ℕ) (s : Standing)
    → ((t : Standing) → (world_script_of ls (n + 1) t).end ≡ None
    → world_script_of (ls ++ more) (n + 1) t
    ≡ behind (world_script_of ls (n + 1) t).text
    (world_script_of more (n + 1 + length ls) (world_script_of ls (n + 1) t).standing))
    → let first = answers_by o n s (world_script_of ls (n + 1)) in first.end ≡ None
    → answers_by o n s (world_script_of (ls ++ more) (n + 1))
    ≡ behind first.text (world_script_of more (n + suc (length ls)) first.standing)
line_both None ls more n s others on = absurd cc
line_both (Some l) ls more n s others on =
    let r = done_by l s in
    let d : Answers = world_script_of ls (n + 1) r.standing in
    let count : n + 1 + length ls ≡ n + suc (length ls) = omega arith in
    ap (behind r.text) (others r.standing on)
    ∙ behind_both r.text d.text (world_script_of more (n + 1 + length ls) d.standing)
    ∙ ap (λ k. behind (r.text ++ d.text) (world_script_of more k d.standing)) count

pub script_both : (ls more : List (List ℕ)) (n : ℕ) (s : Standing) → (world_script_of ls n s).end ≡ None
    → world_script_of (ls ++ more) n s
    ≡ behind (world_script_of ls n s).text (world_script_of more (n + length ls) (world_script_of ls n s).standing)
unfolding world_script_of
script_both [] more n s on = let same : n ≡ n + 0 = omega arith in ap (λ k. world_script_of more k s) same
script_both (l ∷ ls) more n s on =
    line_both (world_line_of s.world.count l) ls more n s (script_both ls more (n + 1)) on

-- one line more
one_line : (ls : List (List ℕ)) (b : List ℕ) (l : WorldLine) (s : Standing) → (world_script_of ls 1 s).end ≡ None
    → world_line_of (world_script_of ls 1 s).standing.world.count b ≡ Some l
    → let d = world_script_of ls 1 s in let r = done_by l d.standing in
    world_script_of (ls ++ b ∷ []) 1 s ≡ record { standing = r.standing; text = d.text ++ r.text; end = None }
one_line ls b l s on is =
    let d : Answers = world_script_of ls 1 s in
    let n = 1 + length ls in
    let r = done_by l d.standing in
    script_both ls (b ∷ []) 1 s on
    ∙ ap (behind d.text)
    (line_first b [] n d.standing ∙ ap (λ o. answers_by o n d.standing (world_script_of [] (n + 1))) is
    ∙ ap (behind r.text) (no_line (n + 1) r.standing))
    ∙ ap (λ ts. record { standing = r.standing; text = d.text ++ ts; end = None }) (append-nil r.text)

-- the line that is not in the grammar
end_line : (ls bs : List (List ℕ)) (b : List ℕ) (s : Standing) → (world_script_of ls 1 s).end ≡ None
    → world_line_of (world_script_of ls 1 s).standing.world.count b ≡ None
    → let d = world_script_of ls 1 s in
    world_script_of (ls ++ b ∷ bs) 1 s
    ≡ record { standing = d.standing; text = d.text ++ []; end = Some (1 + length ls) }
end_line ls bs b s on is =
    let d : Answers = world_script_of ls 1 s in
    let n = 1 + length ls in
    script_both ls (b ∷ bs) 1 s on
    ∙ ap (behind d.text)
    (line_first b bs n d.standing ∙ ap (λ o. answers_by o n d.standing (world_script_of bs (n + 1))) is)

-- the lines that were done, and those that are left, of which the first has this number, are all
pub record Lines (all left : List (List ℕ)) (number : ℕ) (start : Standing) (now : BoardWorld)
    (before written : Option (List ℕ)) : Type 0 where
  pub done : List (List ℕ)
  pub whole : done ++ left ≡ all
  pub counted : number ≡ 1 + length done
  pub on : (world_script_of done 1 start).end ≡ None
  pub world : now ≡ (world_script_of done 1 start).standing.world
  pub text : Appends before written (world_script_of done 1 start).text

pub lines_none : (all : List (List ℕ)) (start : Standing) (out : Option (List ℕ))
    → Lines all all 1 start start.world out out
unfolding world_script_of
lines_none all start out =
    record { done = []; whole = refl; counted = refl; on = refl; world = refl; text = appends_none out }

run_here : {all left : List (List ℕ)} {number : ℕ} {start : Standing} {old : BoardWorld} {before mid : Option (List ℕ)}
    (r : Result (Unit {0}) WorldScriptError) (k : ℕ) (b : List ℕ) (new : BoardWorld) (after : Option (List ℕ))
    → (p : Lines all left number start old before mid) → IsReached start.world → Shown start.world.hosts start.told
    → ((t : Told Guest) → Shown old.hosts t → IsLineRun r k (world_line_of old.count b) (standing old t) new mid after)
    → let d = (world_script_of p.done 1 start).standing in
    IsLineRun r k (world_line_of d.world.count b) d new mid after
run_here {all} {left} {number} {start} {old} {before} {mid} r k b new after p reached shown run =
    let d = (world_script_of p.done 1 start).standing in
    let here = made_shown start d (script_made p.done 1 start) reached shown in
    subst (λ (w : BoardWorld). IsLineRun r k (world_line_of w.count b) (standing w d.told) new mid after) p.world
    (run d.told (subst (λ (w : BoardWorld). Shown w.hosts d.told) (sym p.world) here))

line_next : (done bs : List (List ℕ)) (b : List ℕ) (left all : List (List ℕ)) → left ≡ b ∷ bs → done ++ left ≡ all
    → (done ++ b ∷ []) ++ bs ≡ all
line_next done bs b left all more whole = append_assoc done (b ∷ []) bs ∙ ap (λ l. done ++ l) (sym more) ∙ whole

one_done : {all left : List (List ℕ)} {number : ℕ} {start : Standing} {old : BoardWorld} {before mid : Option (List ℕ)}
    (next k : ℕ) (bs : List (List ℕ)) (b : List ℕ) (new : BoardWorld) (after : Option (List ℕ)) (u : Unit {0})
    (o : Option WorldLine) (p : Lines all left number start old before mid)
    → world_line_of (world_script_of p.done 1 start).standing.world.count b ≡ o → left ≡ b ∷ bs → next ≡ number + 1
    → IsLineRun (Ok u) k o (world_script_of p.done 1 start).standing new mid after
    → Lines all bs next start new before after
one_done next k bs b new after u None p is more counted run = absurd run
one_done {all} {left} {number} {start} {old} {before} {mid} next k bs b new after u (Some l) p is more counted run =
    let d : Answers = world_script_of p.done 1 start in
    let r = done_by l d.standing in
    let told = one_line p.done b l start p.on is in
    record {
      done = p.done ++ b ∷ [];
      whole = line_next p.done bs b left all more p.whole;
      counted = omega (arith, counted, p.counted, length-append p.done (b ∷ []));
      on = ap (λ (a : Answers). a.end) told;
      world = run.0 ∙ ap (λ (a : Answers). a.standing.world) (sym told);
      text =
          subst (Appends before after) (ap (λ (a : Answers). a.text) (sym told))
          (appends_more before mid after d.text r.text p.text run.1);
    }

pub line_done : {all left : List (List ℕ)} {number : ℕ} {start : Standing} {old : BoardWorld}
    {before mid : Option (List ℕ)} (next k : ℕ) (bs : List (List ℕ)) (b : List ℕ) (new : BoardWorld)
    (after : Option (List ℕ)) (u : Unit {0})
    → Lines all left number start old before mid → IsReached start.world → Shown start.world.hosts start.told
    → left ≡ b ∷ bs → next ≡ number + 1
    → ((t : Told Guest) → Shown old.hosts t
    → IsLineRun (Ok u) k (world_line_of old.count b) (standing old t) new mid after)
    → Lines all bs next start new before after
line_done {all} {left} {number} {start} {old} {before} {mid} next k bs b new after u p reached shown more counted run =
    let d = (world_script_of p.done 1 start).standing in
    one_done next k bs b new after u (world_line_of d.world.count b) p refl more counted
    (run_here (Ok u) k b new after p reached shown run)

pub lines_over : (all left : List (List ℕ)) (number : ℕ) (start : Standing) (new : BoardWorld)
    (before after : Option (List ℕ)) (u : Unit {0}) → left ≡ [] → Lines all left number start new before after
    → IsWorldRun (Ok u) all start new before after
lines_over all left number start new before after u none p =
    let whole : p.done ≡ all = sym (append-nil p.done) ∙ ap (λ l. p.done ++ l) (sym none) ∙ p.whole in
    rw (← whole) (p.on, p.world, p.text)

one_refused : (all left bs : List (List ℕ)) (b : List ℕ) (number k : ℕ) (start : Standing) (old new : BoardWorld)
    (before mid after : Option (List ℕ)) (e : WorldScriptError) (o : Option WorldLine)
    (p : Lines all left number start old before mid)
    → world_line_of (world_script_of p.done 1 start).standing.world.count b ≡ o → k ≡ number → left ≡ b ∷ bs
    → IsLineRun (Err e) k o (world_script_of p.done 1 start).standing new mid after
    → IsWorldRun (Err e) all start new before after
one_refused all left bs b number k start old new before mid after OutOfMemory o p is same more run = absurd run
one_refused all left bs b number k start old new before mid after TooLong o p is same more run = absurd run
one_refused all left bs b number k start old new before mid after LinkFault None p is same more run = absurd run
one_refused all left bs b number k start old new before mid after LinkFault (Some l) p is same more run =
    let told = one_line p.done b l start p.on is in
    record {
      done = p.done ++ b ∷ [];
      left = bs;
      whole = line_next p.done bs b left all more p.whole;
      on = ap (λ (a : Answers). a.end) told;
      world = run.1 ∙ ap (λ (a : Answers). a.standing.world) (sym told);
      last = inr (record { first = p.done; last = b; whole = refl; answered = subst IsAnswered (sym is) run.0 });
    }
one_refused all left bs b number k start old new before mid after (LineOutOfMemory j) None p is same more run =
    absurd run
one_refused all left bs b number k start old new before mid after (LineOutOfMemory j) (Some l) p is same more run =
    let d : Answers = world_script_of p.done 1 start in
    record {
      done = p.done;
      line = b;
      left = bs;
      whole = ap (λ ls. p.done ++ ls) (sym more) ∙ p.whole;
      number = omega (arith, run.0, same, p.counted);
      on = p.on;
      spent = subst (λ o. IsSpentIn o d.standing new) (sym is) run.1.0;
      text = subst (λ out. Appends before out d.text) (sym run.1.1) p.text;
    }
one_refused all left bs b number k start old new before mid after (BadToken j) (Some l) p is same more run = absurd run
one_refused all left bs b number k start old new before mid after (BadToken j) None p is same more run =
    let d : Answers = world_script_of p.done 1 start in
    let told =
    ap (λ l. world_script_of l 1 start) (sym p.whole ∙ ap (λ l. p.done ++ l) more)
    ∙ end_line p.done bs b start p.on is
    in (
      ap (λ (a : Answers). a.end) told ∙ ap (λ (i : ℕ). Some i) (sym (run.0 ∙ same ∙ p.counted)),
      run.1 ∙ ap (λ (a : Answers). a.standing.world) (sym told),
      subst (λ out. Appends before out (world_script_of all 1 start).text) (sym run.2)
          (subst (Appends before mid) (sym (append-nil d.text) ∙ ap (λ (a : Answers). a.text) (sym told)) p.text),
    )

-- a line that is not in the grammar, in which memory ran out, or whose answer was not written
pub line_refused : (all left bs : List (List ℕ)) (b : List ℕ) (number k : ℕ) (start : Standing) (old new : BoardWorld)
    (before mid after : Option (List ℕ)) (e : WorldScriptError) → Lines all left number start old before mid
    → IsReached start.world → Shown start.world.hosts start.told → k ≡ number → left ≡ b ∷ bs
    → ((t : Told Guest) → Shown old.hosts t
    → IsLineRun (Err e) k (world_line_of old.count b) (standing old t) new mid after)
    → IsWorldRun (Err e) all start new before after
line_refused all left bs b number k start old new before mid after e p reached shown same more run =
    let d = (world_script_of p.done 1 start).standing in
    one_refused all left bs b number k start old new before mid after e (world_line_of d.world.count b) p refl same more
    (run_here (Err e) k b new after p reached shown run)

-- an empty line
pub empty_done : (l : WorldLine) (s : Standing) (out : Option (List ℕ)) → l ≡ Empty
    → (s.world ≡ (done_by l s).standing.world) × Appends out out (done_by l s).text
empty_done l s out is = rw is (refl, appends_none out)

-- a script that cannot be read
unread : (lines : List (List ℕ)) (s : Standing) → IsPartWay lines s s.world
unfolding world_script_of
unread lines s = record { done = []; left = lines; whole = refl; on = refl; world = refl; last = inl refl }

pub unread_script : (script : Option (List ℕ)) (w : BoardWorld)
    → IfSome script (λ bytes. (t : Told Guest) → Shown w.hosts t → IsPartWay (lines bytes) (standing w t) w)
unread_script None w = tt
unread_script (Some bytes) w = λ t shown. unread (lines bytes) (standing w t)
