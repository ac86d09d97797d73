-- How a driven move ends.
use Rattle.std.proofs.Common.{◌≡◌, ℕ, suc, ◌+◌, ◌*◌, ◌<◌, ◌≤◌, List, [], ◌∷◌, length, Some, None, Result, Ok, Err, refl, sym, ap, ◌∙◌, subst, arith}
use Rattle.rvm_board.specs.declared.event.BoardEvent.{BoardEvent}
use Rattle.rvm_board.specs.declared.event.BoardReply.{BoardReply}
use Rattle.rvm_board.specs.Guest.{Guest}
use Rattle.rvm_guest.specs.TheGuest.{board}
use Rattle.rvm_message.specs.declared.reply.HostRefusal.{HostRefusal}
use Rattle.rvm_message.specs.Replies.{refusal_of}
use Rattle.rvm_protocol.specs.Commands.{Begin, Policy}
use Rattle.rvm_protocol.specs.DrivenMove.{drive, drive_opening, state_frames}
use Rattle.rvm_protocol.specs.Replies.{Accepted, Begun, Declined, MoveDeclined, Open, Refused, Reply}
use Rattle.rvm_protocol.specs.Rounds.{page_count}
use Rattle.rvm_protocol.specs.World.{At, Deliver, Event, replies, reply_to, run, step}
use Rattle.rvm_core.specs.declared.drive.Driven.TheVariants as driven
use Rattle.rvm_core.specs.Driving.{CanBegin, DrivesTo, WasLeft, drive_of}
use Rattle.rvm_core.specs.Phases.{IsSent, IsSentLeft, limit_told, sending, sending_replies}
use Rattle.rvm_core.specs.Worlds.{BoardWorld, IsPartOf, IsReached}
use Rattle.rvm_core.proofs.Drives.{part_first, part_none, replies_next, run_first, run_none}
use Rattle.rvm_core.proofs.Moves.{arrives, declines, drive_is, drive_length, has_pages, replies_are, runs_valid, some_frame, state_length}
use Rattle.rvm_core.proofs.Opening.{stays_if_refused}

not_both : (n : ℕ) (why : HostRefusal) (x : Result ℕ HostRefusal) → x ≡ Ok n → x ≡ Err why → ⊥
not_both n why x ok err = let same : Ok n ≡ Err why = sym ok ∙ err in cc

same_number : (n k : ℕ) (x : Result ℕ HostRefusal) → x ≡ Ok n → x ≡ Ok k → n ≡ k
same_number n k x one other = let same : ◌≡◌ {A = Result ℕ HostRefusal} (Ok n) (Ok k) = sym one ∙ other in cc

same_refusal : (a b : HostRefusal) (x : Result ℕ HostRefusal) → x ≡ Err a → x ≡ Err b → a ≡ b
same_refusal a b x one other = let same : ◌≡◌ {A = Result ℕ HostRefusal} (Err a) (Err b) = sym one ∙ other in cc

some_is : (a b : ℕ) → Some a ≡ Some b → a ≡ b
some_is a b h = cc

no_limit : (limit : ℕ) (r : Reply BoardReply) → limit_told r ≡ Some limit → r ≡ Accepted → ⊥
no_limit limit r told is = let none : None ≡ Some limit = sym (ap limit_told is) ∙ told in cc

limit_is : (limit most : ℕ) (r : Reply BoardReply) → limit_told r ≡ Some limit → r ≡ Declined most → limit ≡ most
limit_is limit most r told is = some_is limit most (sym told ∙ ap limit_told is)

-- a reply without a limit is not that the target declined
declines_not : (most : ℕ) (r : Reply BoardReply) → limit_told r ≡ None → r ≡ Declined most → ⊥
declines_not most r told is = let some : None ≡ Some most = sym told ∙ ap limit_told is in cc

-- how a move begins whose frames are those from k on
module _ (w0 : BoardWorld) (from to k : ℕ) (p : Policy) (reached : IsReached w0) (place : k ≡ length w0.sent) where
  abbrev first_event : Event BoardEvent
  first_event = At from (Begin to p)

  -- the number of the move, or why none began, as the reply to Begin tells it
  pub record IsBegun (r : Reply BoardReply) (x : Result ℕ HostRefusal) : Type 0 where
    pub reply : r ≡ reply_to board w0 first_event
    pub begun : (n : ℕ) → r ≡ Begun n → x ≡ Ok n
    pub refused : (why : HostRefusal) → r ≡ Refused (refusal_of why) → x ≡ Err why

  record Opens (w1 w3 : BoardWorld) (e : ℕ) (g : Guest) : Type 0 where
    begun : reply_to board w0 first_event ≡ Begun (suc e)
    accepted : reply_to board w1 (Deliver k) ≡ Accepted
    told : replies board w3 (sending from (k + 2) (page_count board g) (state_frames board w0.version g))
        ≡ sending_replies w0.version (suc e) (page_count board g) (state_frames board w0.version g)

  opens : (w1 w2 w3 : BoardWorld) (e : ℕ) (g : Guest) → CanBegin w0 from to p e g → page_count board g ≤ w0.limits to
      → w1 ≡ step board w0 first_event → w2 ≡ step board w1 (Deliver k) → w3 ≡ step board w2 (Deliver (k + 1))
      → Opens w1 w3 e g
  opens w1 w2 w3 e g can fits s1 s2 s3 =
      let n = page_count board g in
      let s = state_frames board w0.version g in
      let rest = sending from (k + 2) n s in
      let rs = sending_replies w0.version (suc e) n s in
      let all : replies board w0 (first_event ∷ Deliver k ∷ Deliver (k + 1) ∷ rest)
      ≡ Begun (suc e) ∷ Accepted ∷ Open ∷ rs =
      ap (replies board w0) (sym (drive_is from to p k n s))
      ∙ ap (λ z. replies board w0 (drive from to p z n s)) place
      ∙ (arrives w0 from to p e g reached can fits).replied ∙ replies_are w0.version (suc e) n s
      in
      let a =
      replies_next w0 w1 first_event (Deliver k ∷ Deliver (k + 1) ∷ rest) (Begun (suc e)) (Accepted ∷ Open ∷ rs) all
      in
      let b = replies_next w1 w2 (Deliver k) (Deliver (k + 1) ∷ rest) Accepted (Open ∷ rs) (a.1 s1) in
      let c = replies_next w2 w3 (Deliver (k + 1)) rest Open rs (b.1 s2) in
      record { begun = a.0; accepted = b.0; told = c.1 s3 }

  record Closes (w1 : BoardWorld) (e : ℕ) : Type 0 where
    begun : reply_to board w0 first_event ≡ Begun (suc e)
    declined : reply_to board w1 (Deliver k) ≡ Declined (w0.limits to)

  closes : (w1 : BoardWorld) (e : ℕ) (g : Guest) → CanBegin w0 from to p e g → w0.limits to < page_count board g
      → w1 ≡ step board w0 first_event → Closes w1 e
  closes w1 e g can large s1 =
      let limit = w0.limits to in
      let all : replies board w0 (drive_opening from to p k)
      ≡ Begun (suc e) ∷ Declined limit ∷ MoveDeclined limit ∷ [] =
      ap (λ z. replies board w0 (drive_opening from to p z)) place
      ∙ (declines w0 from to p e g reached can large).replied
      in
      let a =
      replies_next w0 w1 first_event (Deliver k ∷ Deliver (k + 1) ∷ []) (Begun (suc e))
      (Declined limit ∷ MoveDeclined limit ∷ []) all
      in
      let b =
      replies_next w1 w1 (Deliver k) (Deliver (k + 1) ∷ []) (Declined limit) (MoveDeclined limit ∷ []) (a.1 s1)
      in
      record { begun = a.0; declined = b.0 }

  -- the move did not begin
  pub refused : (w1 : BoardWorld) (r : Reply BoardReply) (x : Result ℕ HostRefusal) (why : HostRefusal) → IsBegun r x
      → x ≡ Err why → w1 ≡ step board w0 first_event → DrivesTo (driven.Refused why) w0 w1 from to p
  refused w1 r x why first is s1 =
      let w2 = step board w1 (Deliver k) in
      record {
        moved = λ e g can fits.
            let w3 = step board w2 (Deliver (k + 1)) in
            let o = opens w1 w2 w3 e g can fits s1 refl refl in
            absurd (not_both (suc e) why x (first.begun (suc e) (first.reply ∙ o.begun)) is);
        declined = λ e g can large.
            absurd (not_both (suc e) why x (first.begun (suc e) (first.reply ∙ (closes w1 e g can large s1).begun)) is);
        refused = λ other told.
            record {
              answer = ap driven.Refused (same_refusal why other x is (first.refused other (first.reply ∙ told)));
              stays = s1 ∙ stays_if_refused w0 from to p (refusal_of other) told;
            };
      }

  -- the target declined
  pub declined : (w1 w2 w3 : BoardWorld) (r r2 : Reply BoardReply) (x : Result ℕ HostRefusal) (number limit : ℕ)
      → IsBegun r x → x ≡ Ok number → r2 ≡ reply_to board w1 (Deliver k) → limit_told r2 ≡ Some limit
      → w1 ≡ step board w0 first_event → w2 ≡ step board w1 (Deliver k) → w3 ≡ step board w2 (Deliver (k + 1))
      → DrivesTo (driven.Declined limit) w0 w3 from to p
  declined w1 w2 w3 r r2 x number limit first is reply told s1 s2 s3 =
      record {
        moved = λ e g can fits.
            absurd (no_limit limit r2 told (reply ∙ (opens w1 w2 w3 e g can fits s1 s2 s3).accepted));
        declined = λ e g can large.
            record {
              answer =
                  ap driven.Declined
                  (limit_is limit (w0.limits to) r2 told (reply ∙ (closes w1 e g can large s1).declined));
              made = sym (ap (λ z. run board w0 (drive_opening from to p z)) (sym place)
                  ∙ run_first w0 first_event (Deliver k ∷ Deliver (k + 1) ∷ [])
                  ∙ ap (λ z. run board z (Deliver k ∷ Deliver (k + 1) ∷ [])) (sym s1)
                  ∙ run_first w1 (Deliver k) (Deliver (k + 1) ∷ [])
                  ∙ ap (λ z. run board z (Deliver (k + 1) ∷ [])) (sym s2)
                  ∙ run_first w2 (Deliver (k + 1)) []
                  ∙ run_none (step board w2 (Deliver (k + 1)))
                  ∙ sym s3);
              declined = declines w0 from to p e g reached can large;
            };
        refused = λ why told. absurd (not_both number why x is (first.refused why (first.reply ∙ told)));
      }

  -- the guest was moved
  pub moved : (w1 w2 w3 w4 : BoardWorld) (r r2 : Reply BoardReply) (x : Result ℕ HostRefusal) (number events : ℕ)
      → IsBegun r x → x ≡ Ok number → r2 ≡ reply_to board w1 (Deliver k) → limit_told r2 ≡ None
      → w1 ≡ step board w0 first_event → w2 ≡ step board w1 (Deliver k) → w3 ≡ step board w2 (Deliver (k + 1))
      → IsSent events w3 w4 from (k + 2) → DrivesTo (driven.Moved number (events + 3)) w0 w4 from to p
  moved w1 w2 w3 w4 r r2 x number events first is reply none s1 s2 s3 sent =
      record {
        moved = λ e g can fits.
            let n = page_count board g in
            let s = state_frames board w0.version g in
            let rest = sending from (k + 2) n s in
            let o = opens w1 w2 w3 e g can fits s1 s2 s3 in
            let most = (has_pages g (runs_valid w0 from e g reached can.here can.runs)).1 in
            let went = sent w0.version (suc e) n s most (some_frame w0.version g) (state_length w0.version g) o.told in
            let same = same_number number (suc e) x is (first.begun (suc e) (first.reply ∙ o.begun)) in
            let count = went.0 in
            let total : events + 3 ≡ 2 * n + 9 + 2 * s = omega (arith, count) in
            record {
              answer = λ j. driven.Moved (same j) (total j);
              events = drive_length from to p (length w0.sent) n s;
              made = sym (ap (λ z. run board w0 (drive from to p z n s)) (sym place)
                  ∙ ap (run board w0) (drive_is from to p k n s)
                  ∙ run_first w0 first_event (Deliver k ∷ Deliver (k + 1) ∷ rest)
                  ∙ ap (λ z. run board z (Deliver k ∷ Deliver (k + 1) ∷ rest)) (sym s1)
                  ∙ run_first w1 (Deliver k) (Deliver (k + 1) ∷ rest)
                  ∙ ap (λ z. run board z (Deliver (k + 1) ∷ rest)) (sym s2)
                  ∙ run_first w2 (Deliver (k + 1)) rest
                  ∙ ap (λ z. run board z rest) (sym s3)
                  ∙ sym went.1);
              arrives = arrives w0 from to p e g reached can fits;
            };
        declined = λ e g can large.
            absurd (declines_not (w0.limits to) r2 none (reply ∙ (closes w1 e g can large s1).declined));
        refused = λ why told. absurd (not_both number why x is (first.refused why (first.reply ∙ told)));
      }

  -- MEMORY RAN OUT

  -- the first events of a move are the first of the list that the protocol has
  first_moved : (g : Guest) (new : BoardWorld)
      → IsPartOf (first_event ∷ Deliver k ∷ Deliver (k + 1)
      ∷ sending from (k + 2) (page_count board g) (state_frames board w0.version g)) w0 new
      → IsPartOf (drive_of w0 from to p g) w0 new
  first_moved g new part =
      let n = page_count board g in
      let s = state_frames board w0.version g in
      subst (λ z. IsPartOf z w0 new) (sym (drive_is from to p k n s) ∙ ap (λ z. drive from to p z n s) place) part

  -- so are those of a move that is declined
  first_declined : (new : BoardWorld) → IsPartOf (drive_opening from to p k) w0 new
      → IsPartOf (drive_opening from to p (length w0.sent)) w0 new
  first_declined new part = subst (λ z. IsPartOf (drive_opening from to p z) w0 new) place part

  -- some events up to the target's answer were made, whatever comes after it; none if the move did not begin
  left_opening : (new : BoardWorld)
      → ((rest : List (Event BoardEvent)) → IsPartOf (first_event ∷ Deliver k ∷ Deliver (k + 1) ∷ rest) w0 new)
      → ((why : HostRefusal) → reply_to board w0 first_event ≡ Refused (refusal_of why) → new ≡ w0)
      → WasLeft w0 new from to p
  left_opening new part none =
      record {
        moved = λ e g can fits.
            first_moved g new (part (sending from (k + 2) (page_count board g) (state_frames board w0.version g)));
        declined = λ e g can large. first_declined new (part []);
        refused = none;
      }

  -- a move that began was not refused
  not_refused : (new : BoardWorld) (r : Reply BoardReply) (x : Result ℕ HostRefusal) (number : ℕ) → IsBegun r x
      → x ≡ Ok number → (why : HostRefusal) → reply_to board w0 first_event ≡ Refused (refusal_of why) → new ≡ w0
  not_refused new r x number first is why told =
      absurd (not_both number why x is (first.refused why (first.reply ∙ told)))

  -- memory ran out at the command to begin
  pub left_at_once : (w1 : BoardWorld) → w1 ≡ w0 → WasLeft w0 w1 from to p
  left_at_once w1 stays =
      left_opening w1 (λ rest. part_none first_event (Deliver k ∷ Deliver (k + 1) ∷ rest) w0 w1 stays)
      (λ why told. stays)

  -- memory ran out at the offer
  pub left_offering : (w1 w2 : BoardWorld) (r : Reply BoardReply) (x : Result ℕ HostRefusal) (number : ℕ) → IsBegun r x
      → x ≡ Ok number → w1 ≡ step board w0 first_event → w2 ≡ w1 → WasLeft w0 w2 from to p
  left_offering w1 w2 r x number first is s1 stays =
      left_opening w2
      (λ rest. part_first first_event (Deliver k ∷ Deliver (k + 1) ∷ rest) w0 w1 w2 s1
      (part_none (Deliver k) (Deliver (k + 1) ∷ rest) w1 w2 stays)) (not_refused w2 r x number first is)

  -- memory ran out at the answer to the offer
  pub left_answering : (w1 w2 w3 : BoardWorld) (r : Reply BoardReply) (x : Result ℕ HostRefusal) (number : ℕ)
      → IsBegun r x → x ≡ Ok number → w1 ≡ step board w0 first_event → w2 ≡ step board w1 (Deliver k) → w3 ≡ w2
      → WasLeft w0 w3 from to p
  left_answering w1 w2 w3 r x number first is s1 s2 stays =
      left_opening w3
      (λ rest. part_first first_event (Deliver k ∷ Deliver (k + 1) ∷ rest) w0 w1 w3 s1
      (part_first (Deliver k) (Deliver (k + 1) ∷ rest) w1 w2 w3 s2 (part_none (Deliver (k + 1)) rest w2 w3 stays)))
      (not_refused w3 r x number first is)

  -- memory ran out while the guest was sent
  pub left_sending : (w1 w2 w3 w4 : BoardWorld) (r r2 : Reply BoardReply) (x : Result ℕ HostRefusal) (number : ℕ)
      → IsBegun r x → x ≡ Ok number → r2 ≡ reply_to board w1 (Deliver k) → limit_told r2 ≡ None
      → w1 ≡ step board w0 first_event → w2 ≡ step board w1 (Deliver k) → w3 ≡ step board w2 (Deliver (k + 1))
      → IsSentLeft w3 w4 from (k + 2) → WasLeft w0 w4 from to p
  left_sending w1 w2 w3 w4 r r2 x number first is reply none s1 s2 s3 left =
      record {
        moved = λ e g can fits.
            let n = page_count board g in
            let s = state_frames board w0.version g in
            let rest = sending from (k + 2) n s in
            let o = opens w1 w2 w3 e g can fits s1 s2 s3 in
            let most = (has_pages g (runs_valid w0 from e g reached can.here can.runs)).1 in
            let part =
            left w0.version (suc e) n s most (some_frame w0.version g) (state_length w0.version g) o.told
            in
            first_moved g w4
            (part_first first_event (Deliver k ∷ Deliver (k + 1) ∷ rest) w0 w1 w4 s1
            (part_first (Deliver k) (Deliver (k + 1) ∷ rest) w1 w2 w4 s2
            (part_first (Deliver (k + 1)) rest w2 w3 w4 s3 part)));
        declined = λ e g can large.
            absurd (declines_not (w0.limits to) r2 none (reply ∙ (closes w1 e g can large s1).declined));
        refused = not_refused w4 r x number first is;
      }
