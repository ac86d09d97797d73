-- When a source refuses Copy and Resend.
use Rattle.std.proofs.Common.{◌≡◌, ℕ, ◌==◌, Bool, true, false, if◌then◌else◌, List, length, Option, Some, None, refl, sym, ap, ◌∙◌, subst}
use Rattle.std.proofs.lemmas.Bool.{eq-eqb, eqb-true}
use Rattle.std.specs.Option.{is_some}
use Rattle.rvm_board.specs.Guest.{Guest, GuestState}
use Rattle.rvm_guest.specs.TheGuest.{board}
use Rattle.rvm_message.specs.Answers.{BoardOutcome}
use Rattle.rvm_message.specs.Replies.{is_refused_outright, is_seq_spent}
use Rattle.rvm_message.proofs.Refusing.{copying_only, stopped_only}
use Rattle.rvm_precopy.specs.declared.rounds.Next.{Next}
use Rattle.rvm_precopy.specs.declared.rounds.Next.TheVariants as next
use Rattle.rvm_precopy.specs.declared.rounds.LastNext.{LastNext}
use Rattle.rvm_precopy.specs.declared.rounds.LastNext.TheVariants as last
use Rattle.rvm_precopy.specs.Plans.{Plan, IsPlanOf, is_last_spent, is_spent, last_found, last_next_of, last_of, next_of, rounds_of}
use Rattle.rvm_protocol.specs.Frames.{Lost, is_compact}
use Rattle.rvm_protocol.specs.Modes.{Stopped, refuses, sends}
use Rattle.rvm_protocol.specs.Obeying.{copy, part_frame, resend, resend_last, state_frame}
use Rattle.rvm_protocol.specs.Receiving.{came, lost_came}
use Rattle.rvm_protocol.specs.Replies.{Ignored, PartSent, Resent, StateSent}
use Rattle.rvm_protocol.specs.Rounds.{Last, next_turn, page_count, pieces_of}
use Rattle.rvm_source.specs.declared.phase.Phase.{Phase}
use Rattle.rvm_source.specs.declared.phase.Phase.TheVariants as phases
use Rattle.rvm_source.specs.Sources.{HasPages, PlainSource, is_stopped, mode_in, mode_of}
use Rattle.rvm_source.proofs.Copies.{last_turn_is, last_turned, turn_is, turned}
use Rattle.rvm_source.proofs.Losses.{resend_is}

either : (P : BoardOutcome → Type 0) (b : Bool) (x y : BoardOutcome) → P x → P y → P (if b then x else y)
either P true x y px py = px
either P false x y px py = py

abbrev refused : BoardOutcome → Bool
refused o = is_refused_outright o.reply

abbrev spent : BoardOutcome → Bool
spent o = is_seq_spent o.reply

-- an action's answer says whether no copy number is left
turned_spent : (n : ℕ) (g : Guest) (a : Next) (r : Plan) (log : List Bool) → spent (turned board n g a r log) ≡ is_spent a
turned_spent n g (next.Copied p k) r log = refl
turned_spent n g (next.RoundEnded a b c d) r log = refl
turned_spent n g next.Stopping r log = refl
turned_spent n g next.SeqSpent r log = refl

last_turned_spent : (version n turn : ℕ) (g : Guest) (a : LastNext) (r : Plan) → spent (last_turned board version n turn g a r) ≡ is_last_spent a
last_turned_spent version n turn g (last.Copied p k) r = refl
last_turned_spent version n turn g last.NothingLeft r =
    let l = last_of g turn r in
    either (λ o. spent o ≡ false) (is_compact version) (sends (PartSent l.turn (length (pieces_of board l))) (part_frame board n l) (Stopped n (next_turn board l)))
    (sends StateSent (state_frame board n l) (Stopped n l)) refl refl
last_turned_spent version n turn g last.SeqSpent r = refl

plan_is : (pages : ℕ) (s : PlainSource) → HasPages pages s → IsPlanOf (page_count board s.guest.guest) s.plan
plan_is pages s h = subst (λ n. IsPlanOf n s.plan) (sym h.count) h.plan

pub spent_running : (version pages : ℕ) (s : PlainSource) → HasPages pages s → s.phase ≡ phases.Copying
    → spent (copy board version (mode_of s)) ≡ is_spent (next_of s.guest.dirty s.plan).answer
spent_running version pages s h phase =
    let t = next_of s.guest.dirty s.plan in
    ap (λ (f : Phase). spent (copy board version (mode_in s.move_number s.guest s.plan f))) phase
    ∙ ap spent (turn_is board version s.move_number s.guest.guest s.guest.guest s.guest.dirty t.log s.plan t.plan t.answer (plan_is pages s h) h.copies (h.log ∙ sym h.count) refl refl refl refl)
    ∙ turned_spent s.move_number s.guest.guest t.answer t.plan t.log

pub spent_paused : (version pages turn : ℕ) (s : PlainSource) → HasPages pages s → s.phase ≡ phases.Stopped turn
    → spent (copy board version (mode_of s)) ≡ is_last_spent (last_next_of s.plan).answer
spent_paused version pages turn s h phase =
    let t = last_next_of s.plan in
    ap (λ (f : Phase). spent (copy board version (mode_in s.move_number s.guest s.plan f))) phase
    ∙ ap spent (last_turn_is board version s.move_number turn s.guest.guest s.plan t.plan t.answer (plan_is pages s h) h.copies refl refl)
    ∙ last_turned_spent version s.move_number turn s.guest.guest t.answer t.plan

-- Copy is refused only if no copy number is left
pub running_refused : (version : ℕ) (s : PlainSource) → s.phase ≡ phases.Copying → refused (copy board version (mode_of s)) ≡ spent (copy board version (mode_of s))
running_refused version s phase =
    subst (λ (f : Phase). refused (copy board version (mode_in s.move_number s.guest s.plan f)) ≡ spent (copy board version (mode_in s.move_number s.guest s.plan f))) (sym phase)
    (copying_only version s.move_number (rounds_of s.guest.guest s.guest.dirty s.plan))

pub paused_refused : (version turn : ℕ) (s : PlainSource) → s.phase ≡ phases.Stopped turn → refused (copy board version (mode_of s)) ≡ spent (copy board version (mode_of s))
paused_refused version turn s phase =
    subst (λ (f : Phase). refused (copy board version (mode_in s.move_number s.guest s.plan f)) ≡ spent (copy board version (mode_in s.move_number s.guest s.plan f))) (sym phase)
    (stopped_only version s.move_number (last_of s.guest.guest turn s.plan))

-- Resend of a paused guest is refused if a page is left to be copied
again_refused : (version n : ℕ) (l : Last Guest) (o : Option ℕ) → refused (resend_last board version n l o) ≡ is_some o
again_refused version n l (Some p) = refl
again_refused version n l None =
    either (λ o. refused o ≡ false) (is_compact version) (sends Resent (part_frame board n l) (Stopped n (next_turn board l)))
    (sends Resent (state_frame board n l) (Stopped n l)) refl refl

pub resend_refused : (version pages turn : ℕ) (s : PlainSource) → HasPages pages s → s.phase ≡ phases.Stopped turn
    → refused (resend board version (mode_of s)) ≡ is_some (last_found s.plan)
resend_refused version pages turn s h phase =
    ap refused (resend_is version pages turn s h phase)
    ∙ again_refused version s.move_number (last_of s.guest.guest turn s.plan) (last_found s.plan)

-- Lost of the move of a paused guest is heard
lost_in : (limit k n : ℕ) (ps : List ℕ) (g : GuestState) (r : Plan) (f : Phase) → is_stopped k (mode_in n g r f) ≡ true
    → refused (came board limit (Lost k ps) (mode_in n g r f)) ≡ false
lost_in limit k n ps g r phases.Offering is = absurd (cc)
lost_in limit k n ps g r phases.Copying is = absurd (cc)
lost_in limit k n ps g r (phases.Stopped turn) is =
    let l = last_of g.guest turn r in
    let same : (n == k) ≡ true = eq-eqb n k (sym (eqb-true k n is)) in
    ap (λ (b : Bool). refused (if b then lost_came board n l ps else refuses Ignored (Stopped n l))) same

pub lost_heard : (limit k : ℕ) (ps : List ℕ) (s : PlainSource) → is_stopped k (mode_of s) ≡ true
    → refused (came board limit (Lost k ps) (mode_of s)) ≡ false
lost_heard limit k ps s is = lost_in limit k s.move_number ps s.guest s.plan s.phase is
