-- Entries of which only the frames are kept.
use Rattle.std.proofs.Common.{◌≡◌, ◌∙◌, ℕ, zero, suc, ◌+◌, List, [], ◌∷◌, ◌++◌, append_assoc, ap, refl, sym}
use Rattle.std.specs.Prelude.{Err, Ok, OnOk, Result}
use Rattle.rvm_recorder.specs.Entries.{PlainEntry}
use Rattle.rvm_recorder.specs.Items.{all_of, dry_entry, rounds_in_turn, steps_in_turn}
use Rattle.rvm_recorder.proofs.StepRuns.{all_push}
use Rattle.rvm_audit.specs.Quiet.{AreQuiet, IsQuiet}

-- commands after others
pub quiet_both : (xs ys : List PlainEntry) → AreQuiet xs → AreQuiet ys → AreQuiet (xs ++ ys)
quiet_both [] ys first more = more
quiet_both (x ∷ xs) ys first more = (first.0, quiet_both xs ys first.1 more)

pub quiet_one : (x : PlainEntry) → IsQuiet x → AreQuiet (x ∷ [])
quiet_one x is = (is, tt)

-- steps and rounds are commands that made no frame
pub quiet_steps : (turn harts n : ℕ) → AreQuiet (steps_in_turn turn harts n)
unfolding steps_in_turn
quiet_steps turn harts zero = tt
quiet_steps turn harts (suc n) = ((tt, refl), quiet_steps (turn + 1) harts n)

pub quiet_rounds : (turn harts steps drain n : ℕ) → AreQuiet (rounds_in_turn turn harts steps drain n)
unfolding rounds_in_turn
quiet_rounds turn harts steps drain zero = tt
quiet_rounds turn harts steps drain (suc n) =
    quiet_both (steps_in_turn turn harts steps) (dry_entry drain ∷ rounds_in_turn (turn + steps) harts steps drain n)
    (quiet_steps turn harts steps) ((tt, refl), quiet_rounds (turn + steps) harts steps drain n)

-- one stretch more
pub one_stretched : (stretches new : List (List PlainEntry)) (stretch : List PlainEntry) → new ≡ stretches ++ stretch ∷ []
    → all_of new ≡ all_of stretches ++ stretch
one_stretched stretches new stretch is = ap all_of is ∙ all_push stretches stretch

-- the last stretch has more commands
pub joined_stretched : {E : Type 0} (r : Result Unit E) (old rest : List (List PlainEntry)) (last stretch item new now : List PlainEntry)
    → all_of old ≡ now → old ≡ rest ++ last ∷ [] → stretch ≡ last ++ item → OnOk r (new ≡ all_of rest ++ stretch)
    → OnOk r (new ≡ now ++ item)
joined_stretched (Err e) old rest last stretch item new now now_is old_is mark_is added = tt
joined_stretched (Ok done) old rest last stretch item new now now_is old_is mark_is added =
    added ∙ ap (λ xs. all_of rest ++ xs) mark_is ∙ sym (append_assoc (all_of rest) last item)
    ∙ ap (λ xs. xs ++ item) (sym (ap all_of old_is ∙ all_push rest last) ∙ now_is)

-- a stretch comes after the last one
pub both_stretched : {E : Type 0} (r : Result Unit E) (old rest : List (List PlainEntry)) (last same stretch item mid new now : List PlainEntry)
    → all_of old ≡ now → old ≡ rest ++ last ∷ [] → same ≡ last → mid ≡ all_of rest ++ same → stretch ≡ item
    → OnOk r (new ≡ mid ++ stretch) → OnOk r (new ≡ now ++ item)
both_stretched (Err e) old rest last same stretch item mid new now now_is old_is same_is mid_is mark_is added = tt
both_stretched (Ok done) old rest last same stretch item mid new now now_is old_is same_is mid_is mark_is added =
    added ∙ ap (λ xs. mid ++ xs) mark_is
    ∙ ap (λ xs. xs ++ item)
    (mid_is ∙ ap (λ xs. all_of rest ++ xs) same_is ∙ sym (ap all_of old_is ∙ all_push rest last) ∙ now_is)
