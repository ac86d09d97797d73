-- The pages that a target lacks are copied again, and the state is sent again.
use Rattle.std.proofs.Common.{◌≡◌, ℕ, zero, suc, ◌+◌, ◌≤◌, ◌==◌, ◌&&◌, ◌||◌, Bool, true, false, nat_lt, if◌then◌else◌, List, [], ◌∷◌, length, get_or, Option, Some, None, refl, sym, ap, ◌∙◌, subst, arith}
use Rattle.std.proofs.Math.Path.{fun_ext}
use Rattle.std.specs.Option.{is_some}
use Rattle.std.proofs.lemmas.Bool.{eq-eqb, eqb-true, lt-ltb}
use Rattle.rvm_mem.specs.Pages.{count, has, union}
use Rattle.rvm_board.specs.Guest.{Guest, GuestState}
use Rattle.rvm_protocol.specs.Pages.{Pages, is_in, size}
use Rattle.rvm_protocol.specs.Frames as frames
use Rattle.rvm_protocol.specs.Frames.{is_compact}
use Rattle.rvm_protocol.specs.Replies as replies
use Rattle.rvm_protocol.specs.Modes as protocol
use Rattle.rvm_protocol.specs.Modes.{sends, refuses}
use Rattle.rvm_protocol.specs.Obeying.{part_frame, resend, resend_last, sends_state, state_frame}
use Rattle.rvm_protocol.specs.Receiving.{came, lost_came}
use Rattle.rvm_protocol.specs.Rounds.{Last, next_turn, page_count, pieces_of}
use Rattle.rvm_precopy.specs.Plans.{Plan, last_found, last_of, lost}
use Rattle.rvm_precopy.proofs.Ties.{last_found_is, size_is_count}
use Rattle.rvm_guest.specs.TheGuest.{board}
use Rattle.rvm_frame.specs.declared.frame.Frame.{Frame}
use Rattle.rvm_message.specs.declared.reply.HostReply.{HostReply}
use Rattle.rvm_message.specs.declared.reply.HostReply.TheVariants as reply
use Rattle.rvm_message.specs.Answers.{Answers, BoardMode, BoardOutcome}
use Rattle.rvm_message.specs.Frames.{frame_made}
use Rattle.rvm_message.specs.Replies.{reply_of}
use Rattle.rvm_source.specs.declared.phase.Phase.{Phase}
use Rattle.rvm_source.specs.declared.phase.Phase.TheVariants as phases
use Rattle.rvm_source.specs.Sources.{HasPages, PlainSource, is_stopped, mode_in, mode_of}
use Rattle.rvm_source.specs.States.{sends_state_of}
use Rattle.rvm_source.proofs.Frames.{if_true}

-- PAGES THAT ARE MISSING

has_union : (xs ys : List Bool) (p : ℕ) → length ys ≡ length xs → has p (union xs ys) ≡ (has p xs || has p ys)
unfolding union
has_union [] [] p e = refl
has_union [] (y ∷ ys) p e = absurd (omega (arith, e))
has_union (x ∷ xs) [] p e = absurd (omega (arith, e))
has_union (x ∷ xs) (y ∷ ys) zero e = refl
has_union (x ∷ xs) (y ∷ ys) (suc p) e = has_union xs ys p (omega (arith, e))

and_true : (b : Bool) → (b && true) ≡ b
and_true true = refl
and_true false = refl

size_below : (s : Pages) (most n : ℕ) → n ≤ most → size (λ p. s p && nat_lt p most) n ≡ size s n
unfolding size
size_below s most zero le = refl
size_below s most (suc n) le =
    ap (λ b. (if b then 1 else 0) + size (λ p. s p && nat_lt p most) n) (ap (λ b. s n && b) (lt-ltb n most (omega (arith, le))) ∙ and_true (s n))
    ∙ ap (λ k. (if s n then 1 else 0) + k) (size_below s most n (omega (arith, le)))

-- the number of a list's numbers that are below a count
count_in : (ps : List ℕ) (pages : ℕ) (set : List Bool) → ((p : ℕ) → has p set ≡ (is_in ps p && nat_lt p pages)) → length set ≡ pages
    → count set ≡ size (is_in ps) pages
count_in ps pages set each long =
    sym (size_is_count set) ∙ ap (λ (f : Pages). size f (length set)) (fun_ext each) ∙ ap (size (λ p. is_in ps p && nat_lt p pages)) long
    ∙ size_below (is_in ps) pages pages (omega arith)

fixing : (pages : ℕ) (ps : List ℕ) (g : Guest) (turn : ℕ) (r : Plan) (set : List Bool) → page_count board g ≡ pages → length set ≡ length r.to_fix
    → ((p : ℕ) → has p set ≡ (is_in ps p && nat_lt p pages))
    → last_of g turn (lost set r)
    ≡ record (last_of g turn r) { to_fix = λ p. has p r.to_fix || (is_in ps p && nat_lt p (page_count board g)) }
fixing pages ps g turn r set n long each =
    let fix = fun_ext (λ p. has_union r.to_fix set p long ∙ ap (λ b. has p r.to_fix || b) (each p ∙ ap (λ k. is_in ps p && nat_lt p k) (sym n))) in
    λ i. record {
      guest = g;
      to_send = λ p. has p r.to_send;
      to_fix = fix i;
      newest = λ p. get_or r.newest p 0;
      copies = r.copies;
      turn = turn;
    }

lost_in : (limit version k pages n : ℕ) (ps : List ℕ) (g : GuestState) (r : Plan) (f : Phase) (set : List Bool) → page_count board g.guest ≡ pages
    → length r.to_fix ≡ pages → is_stopped k (mode_in n g r f) ≡ true → ((p : ℕ) → has p set ≡ (is_in ps p && nat_lt p pages)) → length set ≡ pages
    → Answers version (came board limit (frames.Lost k ps) (mode_in n g r f)) (reply.Fixing (count set), None) (mode_in n g (lost set r) f)
lost_in limit version k pages n ps g r phases.Offering set many fix is each long = absurd (cc)
lost_in limit version k pages n ps g r phases.Copying set many fix is each long = absurd (cc)
lost_in limit version k pages n ps g r (phases.Stopped turn) set many fix is each long =
    let L = last_of g.guest turn r in
    let same : (n == k) ≡ true = eq-eqb n k (sym (eqb-true k n is)) in
    subst (λ (o : BoardOutcome). Answers version o (reply.Fixing (count set), None) (protocol.Stopped n (last_of g.guest turn (lost set r))))
    (sym (if_true (n == k) (lost_came board n L ps) (refuses replies.Ignored (protocol.Stopped n L)) same))
    (record {
      reply = ap (λ c. replies.Fixing c) (count_in ps pages set each long ∙ ap (size (is_in ps)) (sym many));
      made = refl;
      mode = ap (λ l. protocol.Stopped n l) (fixing pages ps g.guest turn r set many (long ∙ sym fix) each);
    })

pub lost_is : (limit version k pages : ℕ) (ps : List ℕ) (s : PlainSource) (set : List Bool) (many : ℕ) (plan : Plan) → HasPages pages s
    → is_stopped k (mode_of s) ≡ true → ((p : ℕ) → has p set ≡ (is_in ps p && nat_lt p pages)) → length set ≡ pages → many ≡ count set
    → plan ≡ lost set s.plan
    → Answers version (came board limit (frames.Lost k ps) (mode_of s)) (reply.Fixing many, None) (mode_in s.move_number s.guest plan s.phase)
lost_is limit version k pages ps s set many plan h is each long counted after =
    subst (λ c. Answers version (came board limit (frames.Lost k ps) (mode_of s)) (reply.Fixing c, None) (mode_in s.move_number s.guest plan s.phase)) (sym counted)
    (subst (λ r. Answers version (came board limit (frames.Lost k ps) (mode_of s)) (reply.Fixing (count set), None) (mode_in s.move_number s.guest r s.phase)) (sym after)
    (lost_in limit version k pages s.move_number ps s.guest s.plan s.phase set h.count h.plan.fix is each long))

-- A STATE THAT IS SENT AGAIN

resent_by : (version n : ℕ) (l : Last Guest) (b : Bool) (a again : HostReply × Option Frame) (after : BoardMode)
    → Answers version
    (if b then sends (replies.PartSent l.turn (length (pieces_of board l))) (part_frame board n l) (protocol.Stopped n (next_turn board l))
    else sends replies.StateSent (state_frame board n l) (protocol.Stopped n l)) a after
    → reply_of again.0 ≡ replies.Resent → frame_made again.1 ≡ frame_made a.1
    → Answers version
    (if b then sends replies.Resent (part_frame board n l) (protocol.Stopped n (next_turn board l))
    else sends replies.Resent (state_frame board n l) (protocol.Stopped n l)) again after
resent_by version n l true a again after sent said made = record { reply = said; made = made ∙ sent.made; mode = sent.mode }
resent_by version n l false a again after sent said made = record { reply = said; made = made ∙ sent.made; mode = sent.mode }

left_or : (version n : ℕ) (l : Last Guest) (o : Option ℕ) → is_some o ≡ true → resend_last board version n l o ≡ refuses replies.NoMove (protocol.Stopped n l)
left_or version n l None h = absurd (cc)
left_or version n l (Some p) h = refl

none_or : (version n : ℕ) (l : Last Guest) (o : Option ℕ) → is_some o ≡ false → resend_last board version n l o ≡ sends_state board version replies.Resent replies.Resent n l
none_or version n l None h = refl
none_or version n l (Some p) h = absurd (cc)

pub resend_is : (version pages turn : ℕ) (s : PlainSource) → HasPages pages s → s.phase ≡ phases.Stopped turn
    → resend board version (mode_of s) ≡ resend_last board version s.move_number (last_of s.guest.guest turn s.plan) (last_found s.plan)
resend_is version pages turn s h phase =
    ap (λ f. resend board version (mode_in s.move_number s.guest s.plan f)) phase
    ∙ ap (resend_last board version s.move_number (last_of s.guest.guest turn s.plan)) (last_found_is board s.guest.guest turn s.plan (h.count ∙ sym h.plan.send))

pub not_resent : (version pages turn : ℕ) (s : PlainSource) (a : HostReply × Option Frame) → HasPages pages s → s.phase ≡ phases.Stopped turn
    → is_some (last_found s.plan) ≡ true → reply_of a.0 ≡ replies.Refused replies.NoMove → frame_made a.1 ≡ None
    → Answers version (resend board version (mode_of s)) a (mode_of s)
not_resent version pages turn s a h phase left said made =
    subst (λ (o : BoardOutcome). Answers version o a (mode_of s))
    (sym (resend_is version pages turn s h phase ∙ left_or version s.move_number (last_of s.guest.guest turn s.plan) (last_found s.plan) left))
    (record { reply = said; made = made; mode = ap (mode_in s.move_number s.guest s.plan) phase })

pub resent : (version pages turn : ℕ) (s : PlainSource) (a again : HostReply × Option Frame) (after : BoardMode) → HasPages pages s
    → s.phase ≡ phases.Stopped turn → is_some (last_found s.plan) ≡ false
    → Answers version (sends_state_of version s.move_number (last_of s.guest.guest turn s.plan)) a after
    → reply_of again.0 ≡ replies.Resent → frame_made again.1 ≡ frame_made a.1
    → Answers version (resend board version (mode_of s)) again after
resent version pages turn s a again after h phase left sent said made =
    let l = last_of s.guest.guest turn s.plan in
    subst (λ (o : BoardOutcome). Answers version o again after)
    (sym (resend_is version pages turn s h phase ∙ none_or version s.move_number l (last_found s.plan) left))
    (resent_by version s.move_number l (is_compact version) a again after sent said made)
