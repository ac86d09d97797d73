-- Runs of a reader of frames, one after the other.
use Rattle.std.proofs.Common.{◌≡◌, ◌∙◌, ℕ, List, [], ◌∷◌, ◌++◌, ◌-◌, append_assoc, length, length-drop, take, drop, Option, None, Some, Ok, ap, refl, sym, subst, arith}
use Rattle.std.proofs.lemmas.List.{take_all, take-append-drop}
use Rattle.rvm_frame.specs.Grammar.{Received}
use Rattle.rvm_frame.specs.Reader.{Gathered, next_of}
use Rattle.rvm_frame.specs.Stream.{Feed, Run, bytes_taken, frames_given, with_frame}
use Rattle.rvm_frame.specs.Verdict.{Decides, verdict}

-- the reader waits for more
abbrev pub Waits : Gathered → Type 0
Waits g = verdict g.version g.bytes ≡ Ok None

pub run_join : (cs ds : List Feed) (a b c : Gathered) → Run a cs b → Run b ds c → Run a (cs ++ ds) c
run_join [] ds a b c one two = subst (λ g. Run g ds c) one two
run_join (f ∷ cs) ds a b c one two = (one.0, one.1, run_join cs ds (next_of a f.piece f.frame) b c one.2 two)

pub taken_join : (cs ds : List Feed) → bytes_taken (cs ++ ds) ≡ bytes_taken cs ++ bytes_taken ds
taken_join [] ds = refl
taken_join (f ∷ cs) ds =
    ap (λ l. take f.taken f.piece ++ l) (taken_join cs ds)
    ∙ sym (append_assoc (take f.taken f.piece) (bytes_taken cs) (bytes_taken ds))

with_join : (o : Option Received) (xs ys : List Received) → with_frame o (xs ++ ys) ≡ with_frame o xs ++ ys
with_join None xs ys = refl
with_join (Some x) xs ys = refl

pub given_join : (cs ds : List Feed) → frames_given (cs ++ ds) ≡ frames_given cs ++ frames_given ds
given_join [] ds = refl
given_join (f ∷ cs) ds =
    ap (with_frame f.frame) (given_join cs ds) ∙ with_join f.frame (frames_given cs) (frames_given ds)

waits_next : (old : Gathered) (piece : List ℕ) (n : ℕ) (o : Option Received) → Decides old.version old.bytes piece n (Ok o)
    → Waits (next_of old piece o)
waits_next old piece n None d =
    let all : take n piece ≡ piece = let len = d.all_taken refl in take_all n piece (omega arith) in
    ap (λ (x : List ℕ). verdict old.version (old.bytes ++ x)) (sym all) ∙ d.decided
waits_next old piece n (Some x) d = refl

-- a reader that waits for more does so after any run
pub waits_run : (cs : List Feed) (old new : Gathered) → Waits old → Run old cs new → Waits new
waits_run [] old new waits run = subst Waits (sym run) waits
waits_run (f ∷ cs) old new waits run =
    waits_run cs (next_of old f.piece f.frame) new (waits_next old f.piece f.taken f.frame run.1) run.2

-- what is left of a piece after n more bytes were taken
pub goes_on : (piece read rest : List ℕ) (n : ℕ) → piece ≡ read ++ rest
    → piece ≡ (read ++ take n rest) ++ take (length rest - n) (drop n rest)
goes_on piece read rest n is =
    let left : take (length rest - n) (drop n rest) ≡ drop n rest = take_all (length rest - n) (drop n rest) (omega (arith, length-drop n rest)) in
    is ∙ ap (λ l. read ++ l) (sym (take-append-drop n rest)) ∙ sym (append_assoc read (take n rest) (drop n rest))
    ∙ ap (λ l. (read ++ take n rest) ++ l) (sym left)
