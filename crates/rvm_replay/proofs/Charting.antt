-- What was drawn of an order, piece by piece.
use Rattle.std.proofs.Common.{◌≡◌, ◌∙◌, ℕ, zero, suc, ◌+◌, ◌<◌, ◌==◌, Bool, true, false, if◌then◌else◌, List, [], ◌∷◌, ◌++◌, Option, None, Some, ap, append-nil, append_assoc, arith, length, length-append, map, refl, subst, sym}
use Rattle.std.proofs.lemmas.Bool.{eq-eqb}
use Rattle.std.proofs.KnownBytes.{Appends-nil, Appends-trans}
use Rattle.std.specs.Io.KnownBytes.{Appends}
use Rattle.rvm_core.specs.declared.event.Event.{Event}
use Rattle.rvm_audit.specs.Placed.{AreTurns, IsPiece, asked_at, turns_in}
use Rattle.rvm_audit.specs.declared.placed.Piece.{Piece}
use Rattle.rvm_audit.specs.declared.placed.Piece.TheVariants as piece
use Rattle.rvm_replay.specs.Charts.{after_all, after_piece, after_turns, all_drawn, bar_at, bar_left, bar_text, copies_left, copies_of, copies_text, piece_drawn, start, turns_drawn}
use Rattle.rvm_replay.specs.Counts.{capped}
use Rattle.rvm_replay.specs.declared.drawing.Bar.{Bar}
use Rattle.rvm_replay.specs.declared.drawing.Copies.{Copies}
use Rattle.rvm_replay.specs.declared.drawing.Drawing.{Drawing}

same_number : (n : ℕ) → (n == n) ≡ true
same_number n = eq-eqb n n refl

-- a bar to which a host's turn was added is of that host
bar_is : (h t : ℕ) (b : Option Bar) → ((bar_at h t b).host == h) ≡ true
bar_is h t None = same_number h
bar_is h t (Some b) = by_host (b.host == h) refl where
  by_host : (x : Bool) → (b.host == h) ≡ x → ((if x then b else (record { host = h; from = t })).host == h) ≡ true
  by_host true is = is
  by_host false is = same_number h

-- so it goes on with the next turn of that host
bar_same : (h t u : ℕ) (b : Option Bar) → bar_at h u (Some (bar_at h t b)) ≡ bar_at h t b
bar_same h t u b = ap (λ x. if x then bar_at h t b else (record { host = h; from = u })) (bar_is h t b)

bar_kept : (h t u : ℕ) (b : Option Bar) → bar_left h u (Some (bar_at h t b)) ≡ []
bar_kept h t u b = ap (λ x. if x then [] else bar_text u (bar_at h t b)) (bar_is h t b)

-- copies that a host keeps are kept again
copies_same : (h : ℕ) (c : Option Copies) → copies_of h (copies_of h c) ≡ copies_of h c
copies_same h None = refl
copies_same h (Some c) = by_host (c.host == h) refl where
  by_host : (x : Bool) → (c.host == h) ≡ x → copies_of h (if x then Some c else None) ≡ (if x then Some c else None)
  by_host true is = ap (λ x. if x then Some c else None) is
  by_host false is = refl

copies_kept : (h : ℕ) (c : Option Copies) → copies_left h (copies_of h c) ≡ []
copies_kept h None = refl
copies_kept h (Some c) = by_host (c.host == h) refl where
  by_host : (x : Bool) → (c.host == h) ≡ x → copies_left h (if x then Some c else None) ≡ []
  by_host true is = ap (λ x. if x then [] else copies_text c) is
  by_host false is = refl

-- a drawing after n turns, which may be none, and what is drawn of them
after_some : Drawing → (h n : ℕ) → Drawing
after_some d h zero = d
after_some d h (suc n) = after_turns d h (suc n)

some_drawn : Drawing → (h n : ℕ) → List ℕ
some_drawn d h zero = []
some_drawn d h (suc n) = turns_drawn d h

-- one turn and then n more are n + 1, of which the first alone draws something
one_first : (d : Drawing) (h n : ℕ) → after_some (after_turns d h 1) h n ≡ after_turns d h (suc n)
unfolding after_some
one_first d h zero = refl
one_first d h (suc n) =
    let turns : capped (capped (d.turn + 1) + suc n) ≡ capped (d.turn + suc (suc n)) = omega arith in
    λ i. record {
      turn = turns i;
      bar = Some (bar_same h d.turn (capped (d.turn + 1)) d.bar i);
      copies = copies_same h d.copies i;
    }

none_more : (d : Drawing) (h n : ℕ) → some_drawn (after_turns d h 1) h n ≡ []
unfolding some_drawn
none_more d h zero = refl
none_more d h (suc n) =
    (λ i. bar_kept h d.turn (capped (d.turn + 1)) d.bar i ++ copies_kept h d.copies i)

-- what a host was asked for in a run, in a drawing
go_after : (h b : ℕ) (asked : List (Option ℕ)) (d : Drawing) (rest : List Event)
    → after_all d (map (asked_at h b) asked ++ rest) ≡ after_all (after_some d h (turns_in asked)) rest
unfolding after_some
go_after h b [] d rest = refl
go_after h b (Some hart ∷ asked) d rest =
    go_after h b asked (after_turns d h 1) rest ∙ ap (λ e. after_all e rest) (one_first d h (turns_in asked))
go_after h b (None ∷ asked) d rest = go_after h b asked d rest

go_drawn : (h b : ℕ) (asked : List (Option ℕ)) (d : Drawing) (rest : List Event)
    → all_drawn d (map (asked_at h b) asked ++ rest)
    ≡ some_drawn d h (turns_in asked) ++ all_drawn (after_some d h (turns_in asked)) rest
unfolding after_some some_drawn
go_drawn h b [] d rest = refl
go_drawn h b (Some hart ∷ asked) d rest =
    let n = turns_in asked in
    ap (λ es. turns_drawn d h ++ es) (
    go_drawn h b asked (after_turns d h 1) rest
    ∙ (λ i. none_more d h n i ++ all_drawn (one_first d h n i) rest)
    )
go_drawn h b (None ∷ asked) d rest = go_drawn h b asked d rest

after_one : (d : Drawing) (h n : ℕ) → 0 < n → after_some d h n ≡ after_turns d h n
unfolding after_some
after_one d h zero some = absurd (omega (arith, some))
after_one d h (suc n) some = refl

drawn_one : (d : Drawing) (h n : ℕ) → 0 < n → some_drawn d h n ≡ turns_drawn d h
unfolding some_drawn
drawn_one d h zero some = absurd (omega (arith, some))
drawn_one d h (suc n) some = refl

-- turns may be drawn at once
turns_after : (d : Drawing) (h n : ℕ) (run rest : List Event) → AreTurns h n run
    → after_all d (run ++ rest) ≡ after_all (after_turns d h n) rest
turns_after d h n run rest are =
    ap (λ es. after_all d (es ++ rest)) are.events_are ∙ go_after h are.drain are.asked d rest
    ∙ ap (λ k. after_all (after_some d h k) rest) are.turns_are ∙ ap (λ e. after_all e rest) (after_one d h n are.some)

turns_all_drawn : (d : Drawing) (h n : ℕ) (run rest : List Event) → AreTurns h n run
    → all_drawn d (run ++ rest) ≡ turns_drawn d h ++ all_drawn (after_turns d h n) rest
turns_all_drawn d h n run rest are =
    ap (λ es. all_drawn d (es ++ rest)) are.events_are ∙ go_drawn h are.drain are.asked d rest
    ∙ ap (λ k. some_drawn d h k ++ all_drawn (after_some d h k) rest) are.turns_are
    ∙ (λ i. drawn_one d h n are.some i ++ all_drawn (after_one d h n are.some i) rest)

-- a piece may be drawn at once
piece_after : (d : Drawing) (p : Piece) (events rest : List Event) → IsPiece p events rest
    → after_all d events ≡ after_all (after_piece d p) rest
piece_after d (piece.Event e) events rest is = ap (after_all d) is
piece_after d (piece.Turns t) events rest begun =
    ap (after_all d) begun.split ∙ turns_after d t.host t.turns begun.run rest begun.are

all_piece_drawn : (d : Drawing) (p : Piece) (events rest : List Event) → IsPiece p events rest
    → all_drawn d events ≡ piece_drawn d p ++ all_drawn (after_piece d p) rest
all_piece_drawn d (piece.Event e) events rest is = ap (all_drawn d) is
all_piece_drawn d (piece.Turns t) events rest begun =
    ap (all_drawn d) begun.split ∙ turns_all_drawn d t.host t.turns begun.run rest begun.are

-- of the events of an order all but the last ones, `left`, were drawn
pub record Drawn (before now : Option (List ℕ)) (all left : List Event) (d : Drawing) : Type 0 where
  pub text : List ℕ
  pub split : all_drawn start all ≡ text ++ all_drawn d left
  pub written : Appends before now text

-- nothing is drawn yet
pub none_drawn : (before : Option (List ℕ)) (all : List Event) (d : Drawing) → d ≡ start → Drawn before before all all d
none_drawn before all d is = record {
  text = [];
  split = ap (λ s. all_drawn s all) (sym is);
  written = Appends-nil before;
}

-- one more piece is drawn
pub drawn_more : (before mid end : Option (List ℕ)) (all rest left : List Event) (d next : Drawing) (p : Piece)
    → Drawn before mid all rest d → IsPiece p rest left → Appends mid end (piece_drawn d p) → next ≡ after_piece d p
    → Drawn before end all left next
drawn_more before mid end all rest left d next p so is text goes = record {
  text = so.text ++ piece_drawn d p;
  split = so.split ∙ ap (λ es. so.text ++ es) (all_piece_drawn d p rest left is)
      ∙ ap (λ n. so.text ++ (piece_drawn d p ++ all_drawn n left)) (sym goes)
      ∙ sym (append_assoc so.text (piece_drawn d p) (all_drawn next left));
  written = Appends-trans before mid end so.text (piece_drawn d p) so.written text;
}

-- all events are drawn
pub all_are_drawn : (before now : Option (List ℕ)) (all left : List Event) (d : Drawing) → Drawn before now all left d → left ≡ []
    → Appends before now (all_drawn start all)
all_are_drawn before now all left d so is =
    subst (Appends before now) (sym (so.split ∙ ap (λ es. so.text ++ all_drawn d es) is ∙ append-nil so.text)) so.written

-- one more piece has come
pub one_more : (all rest left : List Event) (d next : Drawing) (p : Piece) → after_all d rest ≡ after_all start all
    → IsPiece p rest left → next ≡ after_piece d p → after_all next left ≡ after_all start all
one_more all rest left d next p so is goes =
    ap (λ n. after_all n left) goes ∙ sym (piece_after d p rest left is) ∙ so

-- and fewer are left
run_length : (h n : ℕ) (run : List Event) → AreTurns h n run → 0 < length run
run_length h n [] are = absurd (none are.asked are.events_are are.turns_are) where
  none : (asked : List (Option ℕ)) → [] ≡ map (asked_at h are.drain) asked → turns_in asked ≡ n → ⊥
  none [] is turns = let some = are.some in omega (arith, turns, some)
  none (Some hart ∷ asked) is turns = let it = ap length is in omega (arith, it)
  none (None ∷ asked) is turns = let it = ap length is in omega (arith, it)
run_length h n (e ∷ run) are = omega arith

pub fewer_left : (p : Piece) (events rest : List Event) → IsPiece p events rest → length rest < length events
fewer_left (piece.Event e) events rest is = let it = ap length is in omega (arith, it)
fewer_left (piece.Turns t) events rest begun =
    let some = run_length t.host t.turns begun.run begun.are in
    let all = ap length begun.split in
    omega (arith, some, all, length-append begun.run rest)
