-- A driven move, phase by phase: the opening, a copy of each page, the round's end, the copies' and
-- its coming, the stop, the state and its coming, the close.
use Rattle.std.proofs.Common.{◌≡◌, ◌≢◌, ◌⊎◌, inl, inr, ℕ, zero, suc, ◌+◌, ◌-◌, ◌^◌, ◌/◌, ◌%◌, ◌<◌, ◌≤◌, ◌==◌, nat_lt, nat_le, not, ◌||◌, ◌&&◌, Bool, true, false, if◌then◌else◌, List, [], ◌∷◌, ◌++◌, length, get_or, set, Option, Some, None, refl, sym, ap, ◌∙◌, subst, arith, ext_get_or, add-zero, ne_eqb}
use Rattle.std.specs.Prelude.{slice_get}
use Rattle.std.proofs.lemmas.Bool.{eq-eqb, lt-ltb, le-ltb, ne_eqb, lt-leb, leb-true}
use Rattle.std.proofs.lemmas.List.{length-set, length-replicate, get_or-set_same, get_or-set_other}
use Rattle.rvm_protocol.specs.Guest.{Guest, IsGuest}
use Rattle.rvm_protocol.specs.Frames.{Frame, Offer, Accept, Refuse, Page, RoundEnd, State, Part, Ready, Go, Started, Addressed, is_compact, plain, written}
use Rattle.rvm_protocol.specs.Commands.{Policy, is_allowed, Begin, Copy, Do, Came}
use Rattle.rvm_protocol.specs.Replies.{Reply, Begun, Accepted, Declined, Open, Copied, RoundEnded, Stored, Noted, Kept, Stopping, StateSent, PartSent, ReadySent, Committed, StartedHere, Finished}
use Rattle.rvm_protocol.specs.Pages.{none, put, least, size, listed, gathered}
use Rattle.rvm_protocol.specs.Rounds.{Rounds, Last, page_count, page_of, is_skipped, opened, next_page, stops, page_copied, next_round, round_over, stopped, to_copy, newest_numbers, pieces_of, next_turn}
use Rattle.rvm_protocol.specs.Staging.{Stage, new_stage, with_page, lacks, takes_part, with_part}
use Rattle.rvm_protocol.specs.Modes.{Mode, Empty, Run, Offering, Copying, Stopped, Given, Staging, Held, Outcome, move_of, says, sends, ignores}
use Rattle.rvm_protocol.specs.Obeying.{begin, begin_allowed, begun, copy, copy_page, sends_page, copy_last, state_frame, part_frame}
use Rattle.rvm_protocol.specs.Receiving.{came, of_this_move, offered, offer_above, page_came, state_came, state_compared, guest_read, pieces_joined, part_kept, part_came}
use Rattle.rvm_protocol.specs.Host.{is_there, is_heard, host_step, settled}
use Rattle.rvm_protocol.specs.World.{At, Deliver, Event}
use Rattle.rvm_protocol.proofs.PairInvariant.{HoldsNone}
use Rattle.rvm_protocol.proofs.Basics.{same_or, or_left, put_same, put_other, listed_length, listed_at, or_right, is_either}
use Rattle.rvm_protocol.proofs.ReadFrames.{plain_written}
use Rattle.rvm_protocol.proofs.Phases.{Duo, Phase, if_true, if_false, nothing, after, same_replies, commands, to_source, to_target}
use Rattle.rvm_protocol.specs.DrivenMove.{drive, drive_replies, state_replies, arrival_replies, state_frames}
use Rattle.rvm_protocol.proofs.Lists.{got_new, got_old, length_more, and_true, least_here, least_nowhere, least_empty, size_of_all, size_of_none, listed_same, gathered_none, gathered_all}

module _ {S P E A B : Type 0} (m : Guest S P E A B) (version count : ℕ) (limits : ℕ → ℕ)
    (from to e : ℕ) (policy : Policy) (g : S) where
  -- what a driven move needs
  pub record Drivable : Type 0 where
    pub apart : to ≢ from
    pub here : nat_lt from count ≡ true
    pub to_is_there : is_there from count to ≡ true
    pub from_is_there : is_there to count from ≡ true
    pub below : e < 2 ^ 64 - 1
    pub allowed : is_allowed policy ≡ true
    pub room : length (m.pages g) ≤ limits to
    pub some : 0 < length (m.pages g)
    pub few : length (m.pages g) < 2 ^ 32
    pub valid : m.valid g ≡ true

module _ {S P E A B : Type 0} (m : Guest S P E A B) (laws : IsGuest m) (version count : ℕ) (limits : ℕ → ℕ)
    (from to e : ℕ) (policy : Policy) (g : S)
    (ok : Drivable m version count limits from to e policy g) where
  abbrev pub n : ℕ
  n = length (m.pages g)

  abbrev pub Goes : Duo S P B → List (Event E) → List (Reply A) → Duo S P B → Type 0
  Goes d es rs d' = Phase m version count limits from to d es rs d'

  abbrev pub duo : Mode S P → Mode S P → List (Addressed P B) → Duo S P B
  duo O T sent =
      record {
        source = record { mode = O; partner = to };
        target =
            record { mode = T; partner = from };
        sent = sent;
      }

  abbrev pub mail : ℕ → ℕ → Frame P B → Addressed P B
  mail x y f = record { from = x; to = y; frame = f }

  heard : (self other : ℕ) (f : Frame P B) (mode : Mode S P) → is_there self count other ≡ true
      → is_heard self count other f (record { mode = mode; partner = other }) ≡ true
  heard self other f mode there =
      and_true _ _ there (or_left (other == other) _ (eq-eqb other other refl))

  -- a frame of the partner, by its outcome
  hears : (self other limit : ℕ) (f : Frame P B) (mode : Mode S P) (o : Outcome S P A B)
      → is_there self count other ≡ true → came m limit (plain m f) mode ≡ o
      → host_step m version self count limit (Came other f)
      (record { mode = mode; partner = other }) ≡ settled m version self (Came other f) other o
  hears self other limit f mode o there is =
      ap (settled m version self (Came other f) other)
      (if_true _ _ (ignores mode) (heard self other (plain m f) mode there) ∙ is)

  copies : (O : Mode S P) (o : Outcome S P A B) → copy m version O ≡ o
      → host_step m version from count (limits from) (Do Copy)
      (record { mode = O; partner = to }) ≡ settled m version from (Do Copy) to o
  copies O o is = ap (settled m version from (Do Copy) to) is

  same_move : (o : Outcome S P A B) (mode : Mode S P) → of_this_move m (suc e) (suc e) o mode ≡ o
  same_move o mode = if_true (suc e == suc e) o (ignores mode) (eq-eqb (suc e) (suc e) refl)

  offer_above_taken : (seen : ℕ) (T : Mode S P) → seen ≤ e
      → offer_above m seen (limits to) (suc e) n (m.processors g) T ≡ sends Accepted
      (Accept (suc e)) (Staging (suc e) (new_stage m.zeros n (m.processors g)))
  offer_above_taken seen T le =
      if_true (nat_lt seen (suc e)) (offered m (limits to) (suc e) n (m.processors g) T) (ignores T)
      (lt-ltb seen (suc e) (omega arith))
      ∙ if_false (nat_lt (limits to) n)
      (sends (Declined (limits to)) (Refuse (suc e) (limits to)) T)
      (sends Accepted (Accept (suc e)) (Staging (suc e) (new_stage m.zeros n (m.processors g))))
      (le-ltb (limits to) n ok.room)

  offer_taken : (T : Mode S P) → HoldsNone T → move_of T ≤ e
      → came m (limits to) (Offer (suc e) n (m.processors g)) T ≡ sends Accepted (Accept (suc e))
      (Staging (suc e) (new_stage m.zeros n (m.processors g)))
  offer_taken (Empty k) h le = offer_above_taken k (Empty k) le
  offer_taken (Given k kept) h le = offer_above_taken k (Given k kept) le
  offer_taken (Held k q) h le = offer_above_taken k (Held k q) le
  offer_taken (Staging k s) h le =
      if_false (k == suc e) (sends Accepted (Accept k) (Staging k s))
      (offer_above m k (limits to) (suc e) n (m.processors g) (Staging k s))
      (ne_eqb k (suc e) (λ q. let z : k ≡ suc e = q in omega arith))
      ∙ offer_above_taken k (Staging k s) le
  offer_taken (Run k q) h le = absurd h
  offer_taken (Offering k q p) h le = absurd h
  offer_taken (Copying k r) h le = absurd h
  offer_taken (Stopped k l) h le = absurd h

  abbrev pub offer_mail : Addressed P B
  offer_mail = mail from to (Offer (suc e) n (m.processors g))

  -- the frames after the opening
  abbrev pub opened_sent : List (Addressed P B) → List (Addressed P B)
  opened_sent sent = (sent ++ offer_mail ∷ []) ++ mail to from (Accept (suc e)) ∷ []

  -- Begin, Offer, Accept
  opening : (p q : ℕ) (T : Mode S P) (sent : List (Addressed P B)) → HoldsNone T → move_of T ≤ e
      → Goes (record {
        source = record { mode = Run e g; partner = p };
        target =
            record { mode = T; partner = q };
        sent = sent;
      })
      (At from (Begin to policy) ∷ Deliver (length sent) ∷ Deliver (length sent + 1) ∷ [])
      (Begun (suc e) ∷ Accepted ∷ Open ∷ [])
      (duo (Copying (suc e) (opened m g policy))
      (Staging (suc e) (new_stage m.zeros n (m.processors g))) (opened_sent sent))
  opening p q T sent none le =
      let h = m.processors g in
      let offer : Frame P B = Offer (suc e) n h in
      let O : Mode S P = Offering (suc e) g policy in
      let st : Mode S P = Staging (suc e) (new_stage m.zeros n h) in
      let d0 : Duo S P B =
      record {
        source = record { mode = Run e g; partner = p };
        target =
            record { mode = T; partner = q };
        sent = sent;
      } in
      let d1 : Duo S P B =
      record {
        source = record { mode = O; partner = to };
        target =
            record { mode = T; partner = q };
        sent = sent ++ offer_mail ∷ [];
      } in
      let d2 : Duo S P B = duo O st (opened_sent sent) in
      let begins : host_step m version from count (limits from) (Do (Begin to policy))
      (record { mode = Run e g; partner = p }) ≡ settled m version from (Do (Begin to policy)) p
      (begun m policy e g) =
      ap (settled m version from (Do (Begin to policy)) p)
      (if_true (is_there from count to) (begin m policy (Run e g)) _ ok.to_is_there
      ∙ if_true (is_allowed policy) (begin_allowed m policy e g) _ ok.allowed
      ∙ if_false (e == 2 ^ 64 - 1) _ (begun m policy e g)
      (ne_eqb e (2 ^ 64 - 1)
      (λ z. let y : e ≡ 2 ^ 64 - 1 = z in let x : e < 2 ^ 64 - 1 = ok.below in omega arith))) in
      let hears_offer : is_heard to count from offer (record { mode = T; partner = q }) ≡ true =
      and_true _ _ ok.from_is_there
      (or_right (from == q) (nat_lt (move_of T) (suc e))
      (lt-ltb (move_of T) (suc e) (omega arith))) in
      let offers : host_step m version to count (limits to) (Came from offer)
      (record { mode = T; partner = q }) ≡ settled m version to (Came from offer) q
      (sends Accepted (Accept (suc e)) st) =
      ap (settled m version to (Came from offer) q)
      (if_true (is_heard to count from offer (record { mode = T; partner = q }))
      (came m (limits to) offer T) (ignores T) hears_offer ∙ offer_taken T none le) in
      let one : Goes d0 (At from (Begin to policy) ∷ []) (Begun (suc e) ∷ []) d1 =
      commands m version count limits from to (Begin to policy) d0
      (settled m version from (Do (Begin to policy)) p
      (begun m policy e g)) ok.apart ok.here begins in
      let two : Goes d1 (Deliver (length sent) ∷ []) (Accepted ∷ []) d2 =
      to_target m version count limits from to (length sent) from offer d1
      (settled m version to (Came from offer) q (sends Accepted (Accept (suc e)) st)) ok.apart
      (got_new sent offer_mail (length sent) refl) offers in
      let opens = hears from to (limits from) (Accept (suc e)) O
      (says Open (Copying (suc e) (opened m g policy))) ok.to_is_there (same_move _ O) in
      let place : length sent + 1 ≡ length (sent ++ offer_mail ∷ []) = let z =
      length_more sent offer_mail in omega (arith, z) in
      let three : Goes d2 (Deliver (length sent + 1) ∷ []) (Open ∷ [])
      (duo (Copying (suc e) (opened m g policy)) st (opened_sent sent)) =
      to_source m version count limits from to (length sent + 1) to
      (Accept (suc e)) d2 _ ok.apart
      (got_new (sent ++ offer_mail ∷ []) (mail to from (Accept (suc e)))
      (length sent + 1) place) opens in
      after m version count limits from to _ _ _ _ _ _ _
      (after m version count limits from to _ _ _ _ _ _ _ one two) three

  -- the rounds after p copies
  pub rounds_at : ℕ → Rounds S
  rounds_at zero = opened m g policy
  rounds_at (suc p) = page_copied m (rounds_at p) p

  -- every page before p was copied, and no other
  record Scanned (p : ℕ) (r : Rounds S) : Type 0 where
    guest : r.guest ≡ g
    policy_is : r.policy ≡ policy
    to_send : (q : ℕ) → q < n → r.to_send q ≡ true
    log : (q : ℕ) → r.log q ≡ false
    skip : (q : ℕ) → r.to_skip q ≡ false
    scan : r.scan ≡ p
    copies : r.copies ≡ p
    round : r.round ≡ 1
    sent : r.sent ≡ p
    stop : r.stop ≡ false
    newest : (q : ℕ) → q < p → r.newest q ≡ suc q

  not_skipped : (p : ℕ) (r : Rounds S) → Scanned p r → (q : ℕ) → is_skipped r q ≡ false
  not_skipped p r s q =
      elim (not (r.scan % 64 == 0) && (q / 64 == r.scan / 64)) as
      (λ t. (if t then r.to_skip q else r.log q) ≡ false) [ true ↦ s.skip q | false ↦ s.log q ]

  and_false : (a b : Bool) → b ≡ false → (a && b) ≡ false
  and_false true b h = h
  and_false false b h = refl

  scanned_more : (p : ℕ) (r : Rounds S) → Scanned p r → Scanned (suc p) (page_copied m r p)
  scanned_more p r s =
      record {
        guest = s.guest;
        policy_is = s.policy_is;
        to_send = s.to_send;
        log = s.log;
        skip = λ q. and_false (q / 64 == p / 64) (is_skipped r q) (not_skipped p r s q);
        scan = refl;
        copies = ap suc s.copies;
        round = s.round;
        sent = ap suc s.sent;
        stop = s.stop;
        newest = λ q lt. elim (same_or q p) [
          | inl z ↦
              ap (put r.newest p (suc r.copies)) z ∙ put_same r.newest p (suc r.copies)
              ∙ ap suc (s.copies ∙ sym z)
          | inr z ↦ put_other r.newest p q (suc r.copies) z ∙ s.newest q (omega (arith, z))
        ];
      }

  scanned : (p : ℕ) → Scanned p (rounds_at p)
  unfolding rounds_at
  scanned zero =
      record {
        guest = refl;
        policy_is = refl;
        to_send = λ q lt. lt-ltb q n lt;
        log = λ q. refl;
        skip = λ q. refl;
        scan = refl;
        copies = refl;
        round = refl;
        sent = refl;
        stop = refl;
        newest = λ q lt. absurd (omega arith);
      }
  scanned (suc p) = scanned_more p (rounds_at p) (scanned p)

  -- a copy of page p
  abbrev pub page_mail : ℕ → Addressed P B
  page_mail p = mail from to (written m version (Page (suc e) p (suc p) (page_of m g p)))

  -- the frames after p copies
  pub sent_at : List (Addressed P B) → ℕ → List (Addressed P B)
  sent_at sent zero = sent
  sent_at sent (suc p) = sent_at sent p ++ page_mail p ∷ []

  sent_length : (sent : List (Addressed P B)) (p : ℕ) → length (sent_at sent p) ≡ length sent + p
  unfolding sent_at
  sent_length sent zero = sym (add-zero (length sent))
  sent_length sent (suc p) =
      let a = length_more (sent_at sent p) (page_mail p) in let b = sent_length sent p in omega
      (arith, a, b)

  page_got : (sent : List (Addressed P B)) (p j : ℕ) → p < j
      → slice_get (sent_at sent j) (length sent + p) ≡ Some (page_mail p)
  unfolding sent_at
  page_got sent p zero lt = absurd (omega arith)
  page_got sent p (suc j) lt =
      elim (same_or p j) [
        | inl z ↦
            got_new (sent_at sent j) (page_mail j) (length sent + p)
            (let a = sent_length sent j in let b : p ≡ j = z in omega (arith, a))
            ∙ ap (λ q. Some (page_mail q)) (sym z)
        | inr z ↦
            got_old (sent_at sent j) (page_mail p) (page_mail j) (length sent + p)
            (page_got sent p j (omega (arith, z)))
      ]

  -- the outcome of one copy
  copied_as : (p : ℕ) → p < n
      → copy m version (Copying (suc e) (rounds_at p)) ≡ sends (Copied p (suc p))
      (Page (suc e) p (suc p) (page_of m g p)) (Copying (suc e) (page_copied m (rounds_at p) p))
  copied_as p lt =
      let r = rounds_at p in
      let s = scanned p in
      let M = suc e in
      let next : next_page m r ≡ Some p =
      ap (λ z. least (λ q. r.to_send q && not (is_skipped r q)) z (page_count m r.guest - z)) s.scan
      ∙ ap (λ z. least (λ q. r.to_send q && not (is_skipped r q)) p (page_count m z - p)) s.guest
      ∙ least_here (λ q. r.to_send q && not (is_skipped r q)) p (n - p) (omega arith)
      (and_true (r.to_send p) (not (is_skipped r p)) (s.to_send p lt)
      (ap not (not_skipped p r s p))) in
      let room : n < 2 ^ 32 = ok.few in
      if_false r.stop (says Stopping (Stopped M (stopped m r)))
      (copy_page m M r (next_page m r)) s.stop
      ∙ ap (copy_page m M r) next
      ∙ if_false (nat_le (2 ^ 32 - 1) r.copies) _ (sends_page m M r p)
      (lt-leb (2 ^ 32 - 1) r.copies (let z = s.copies in omega (arith, z)))
      ∙ ap (λ z. sends (Copied p (suc z)) (Page M p (suc z) (page_of m r.guest p))
      (Copying M (page_copied m r p))) s.copies
      ∙ ap (λ z. sends (Copied p (suc p)) (Page M p (suc p) (page_of m z p))
      (Copying M (page_copied m r p))) s.guest

  copy_one : (p : ℕ) (T : Mode S P) (sent : List (Addressed P B)) → p < n
      → Goes (duo (Copying (suc e) (rounds_at p)) T (sent_at sent p)) (At from Copy ∷ [])
      (Copied p (suc p) ∷ []) (duo (Copying (suc e) (rounds_at (suc p))) T (sent_at sent (suc p)))
  unfolding rounds_at sent_at
  copy_one p T sent lt =
      commands m version count limits from to Copy
      (duo (Copying (suc e) (rounds_at p)) T (sent_at sent p)) _ ok.apart ok.here
      (copies (Copying (suc e) (rounds_at p))
      (sends (Copied p (suc p)) (Page (suc e) p (suc p) (page_of m g p))
      (Copying (suc e) (page_copied m (rounds_at p) p))) (copied_as p lt))

  -- a copy of each page
  copying : (c p : ℕ) (T : Mode S P) (sent : List (Addressed P B)) → p + c ≡ n
      → Goes (duo (Copying (suc e) (rounds_at p)) T (sent_at sent p))
      (listed (λ q. At from Copy) p c) (listed (λ q. Copied q (suc q)) p c)
      (duo (Copying (suc e) (rounds_at n)) T (sent_at sent n))
  unfolding listed
  copying zero p T sent is =
      let z : p ≡ n = omega (arith, is) in subst
      (λ q. Goes (duo (Copying (suc e) (rounds_at p)) T (sent_at sent p)) [] []
      (duo (Copying (suc e) (rounds_at q)) T (sent_at sent q))) z
      (nothing m version count limits from to _)
  copying (suc c) p T sent is =
      after m version count limits from to _ _ _ _ _ _ _ (copy_one p T sent (omega (arith, is)))
      (copying c (suc p) T sent (omega (arith, is)))

  -- the round's end
  abbrev pub ended : Rounds S
  ended = round_over m (rounds_at n)

  ended_as : copy m version (Copying (suc e) (rounds_at n)) ≡ sends (RoundEnded 1 n 0 0)
      (RoundEnd (suc e) 1 n 0 0) (Copying (suc e) ended)
  ended_as =
      let r = rounds_at n in
      let s = scanned n in
      let M = suc e in
      let c = page_count m r.guest in
      let cn : c ≡ n = ap (page_count m) s.guest in
      let next : next_page m r ≡ None = least_empty
      (λ q. r.to_send q && not (is_skipped r q)) r.scan (c - r.scan)
      (let z = s.scan in omega (arith, z, cn)) in
      let total : size r.to_send c ≡ n = size_of_all r.to_send c (λ q lt. s.to_send q (omega (arith, lt, cn))) ∙ cn in
      let left : size r.log c ≡ 0 = size_of_none r.log c (λ q _. s.log q) in
      let skipped : size r.to_send c - r.sent ≡ 0 = let z = s.sent in omega (arith, total, z) in
      let few : nat_lt (size r.log c) r.policy.min_left ≡ true = lt-ltb
      (size r.log c) r.policy.min_left
      (let z : 1 ≤ r.policy.min_left = subst (λ (w : Policy). 1 ≤ w.min_left) (sym s.policy_is)
      (least_left policy ok.allowed) in omega (arith, left, z)) in
      let stop : stops m r ≡ true = or_left
      (nat_le r.policy.max_rounds r.round || nat_lt (size r.log c) r.policy.min_left) _
      (or_right (nat_le r.policy.max_rounds r.round) _ few) in
      let F : ℕ → ℕ → ℕ → ℕ → Rounds S
      → Outcome S P A B =
      λ w x y z v. sends (RoundEnded w x y z) (RoundEnd M w x y z) (Copying M v) in
      if_false r.stop (says Stopping (Stopped M (stopped m r)))
      (copy_page m M r (next_page m r)) s.stop
      ∙ ap (copy_page m M r) next
      ∙ ap (λ w. F w r.sent (size r.to_send c - r.sent) (size r.log c)
      (if stops m r then round_over m r else next_round m r)) s.round
      ∙ ap (λ x. F 1 x (size r.to_send c - r.sent) (size r.log c)
      (if stops m r then round_over m r else next_round m r)) s.sent
      ∙ ap
      (λ y. F 1 n y (size r.log c)
      (if stops m r then round_over m r else next_round m r)) skipped
      ∙ ap (λ z. F 1 n 0 z (if stops m r then round_over m r else next_round m r)) left
      ∙ ap (λ v. F 1 n 0 0 v) (if_true (stops m r) (round_over m r) (next_round m r) stop)
    where
      third : (a b c d e f : Bool) → (a && b && c && d && e && f) ≡ true → c ≡ true
      third true true true d e f h = refl
      third true true false d e f h = cc
      third true false c d e f h = cc
      third false b c d e f h = cc

      least_left : (p : Policy) → is_allowed p ≡ true → 1 ≤ p.min_left
      least_left p h =
          leb-true 1 p.min_left
          (third (nat_le 1 p.max_rounds) (nat_le p.max_rounds 1000) (nat_le 1 p.min_left)
          (nat_le p.min_left 4096) (nat_le 1 p.factor) (nat_le p.factor 100) h)

  abbrev pub end_mail : Addressed P B
  end_mail = mail from to (RoundEnd (suc e) 1 n 0 0)

  ending : (T : Mode S P) (sent : List (Addressed P B))
      → Goes (duo (Copying (suc e) (rounds_at n)) T sent) (At from Copy ∷ [])
      (RoundEnded 1 n 0 0 ∷ []) (duo (Copying (suc e) ended) T (sent ++ end_mail ∷ []))
  ending T sent =
      commands m version count limits from to Copy
      (duo (Copying (suc e) (rounds_at n)) T sent) _ ok.apart ok.here
      (copies (Copying (suc e) (rounds_at n)) _ ended_as)

  -- the stage after p copies came
  pub stage_at : ℕ → Stage P
  stage_at zero = new_stage m.zeros n (m.processors g)
  stage_at (suc p) = with_page (stage_at p) p (suc p) (page_of m g p)

  record Staged (p : ℕ) (s : Stage P) : Type 0 where
    count_is : length s.pages ≡ n
    have : (q : ℕ) → q < p → s.have q ≡ suc q
    have_not : (q : ℕ) → p ≤ q → s.have q ≡ 0
    page : (q : ℕ) → q < p → get_or s.pages q m.zeros ≡ page_of m g q
    processors : s.processors ≡ m.processors g
    stamp : s.stamp ≡ 0
    piece : (i : ℕ) → s.pieces i ≡ None

  staged_more : (p : ℕ) (s : Stage P) → p < n → Staged p s
      → Staged (suc p) (with_page s p (suc p) (page_of m g p))
  staged_more p s lt k =
      record {
        count_is = length-set s.pages p (page_of m g p) ∙ k.count_is;
        have = λ q before. elim (same_or q p) [
          | inl z ↦ ap (put s.have p (suc p)) z ∙ put_same s.have p (suc p) ∙ ap suc (sym z)
          | inr z ↦ put_other s.have p q (suc p) z ∙ k.have q (omega (arith, z))
        ];
        have_not =
            λ q le. put_other s.have p q (suc p) (λ z. let y : q ≡ p = z in omega arith)
            ∙ k.have_not q (omega arith);
        page = λ q before. elim (same_or q p) [
          | inl z ↦
              subst (λ w. get_or (set s.pages p (page_of m g p)) w m.zeros ≡ page_of m g w) (sym z)
              (get_or-set_same s.pages p (page_of m g p) m.zeros
              (let y = k.count_is in omega (arith, y)))
          | inr z ↦
              get_or-set_other s.pages p q (page_of m g p) m.zeros z ∙ k.page q (omega (arith, z))
        ];
        processors = k.processors;
        stamp = k.stamp;
        piece = k.piece;
      }

  staged : (p : ℕ) → p ≤ n → Staged p (stage_at p)
  unfolding stage_at
  staged zero le =
      record {
        count_is = length-replicate n m.zeros;
        have = λ q lt. absurd (omega arith);
        have_not = λ q le. refl;
        page = λ q lt. absurd (omega arith);
        processors = refl;
        stamp = refl;
        piece = λ i. refl;
      }
  staged (suc p) le = staged_more p (stage_at p) (omega arith) (staged p (omega arith))

  -- a copy comes
  page_taken : (p : ℕ) → p < n
      → came m (limits to) (plain m (page_mail p).frame) (Staging (suc e) (stage_at p)) ≡ says
      (Stored p (suc p)) (Staging (suc e) (with_page (stage_at p) p (suc p) (page_of m g p)))
  page_taken p lt =
      let s = stage_at p in
      let k = staged p (omega arith) in
      ap (λ f. came m (limits to) f (Staging (suc e) s))
      (plain_written m laws version (Page (suc e) p (suc p) (page_of m g p)) (λ a b c z. cc))
      ∙ same_move (page_came m (suc e) s p (suc p) (page_of m g p)) (Staging (suc e) s)
      ∙ if_true (nat_lt p (length s.pages) && nat_lt (s.have p) (suc p)) _ _
      (and_true _ _ (lt-ltb p (length s.pages) (let z = k.count_is in omega (arith, z)))
      (lt-ltb (s.have p) (suc p) (let z = k.have_not p (omega arith) in omega (arith, z))))

  page_one : (p k : ℕ) (O : Mode S P) (sent : List (Addressed P B)) → p < n
      → slice_get sent k ≡ Some (page_mail p)
      → Goes (duo O (Staging (suc e) (stage_at p)) sent) (Deliver k ∷ []) (Stored p (suc p) ∷ [])
      (duo O (Staging (suc e) (stage_at (suc p))) sent)
  unfolding stage_at
  page_one p k O sent lt got =
      to_target m version count limits from to k from (page_mail p).frame
      (duo O (Staging (suc e) (stage_at p)) sent) _ ok.apart got
      (hears to from (limits to) (page_mail p).frame (Staging (suc e) (stage_at p))
      (says (Stored p (suc p))
      (Staging (suc e) (with_page (stage_at p) p (suc p) (page_of m g p)))) ok.from_is_there
      (page_taken p lt))

  -- the copies come, each where `place` says
  delivering : (c p : ℕ) (place : ℕ → ℕ) (O : Mode S P) (sent : List (Addressed P B)) → p + c ≡ n
      → ((q : ℕ) → q < n → slice_get sent (place q) ≡ Some (page_mail q))
      → Goes (duo O (Staging (suc e) (stage_at p)) sent) (listed (λ q. Deliver (place q)) p c)
      (listed (λ q. Stored q (suc q)) p c) (duo O (Staging (suc e) (stage_at n)) sent)
  unfolding listed
  delivering zero p place O sent is got =
      let z : p ≡ n = omega (arith, is) in subst
      (λ q. Goes (duo O (Staging (suc e) (stage_at p)) sent) [] []
      (duo O (Staging (suc e) (stage_at q)) sent)) z (nothing m version count limits from to _)
  delivering (suc c) p place O sent is got =
      after m version count limits from to _ _ _ _ _ _ _
      (page_one p (place p) O sent (omega (arith, is)) (got p (omega (arith, is))))
      (delivering c (suc p) place O sent (omega (arith, is)) got)

  -- the paused source
  abbrev pub last : Last S
  last = stopped m ended

  -- the round's end comes, and the source stops
  stopping_phase : (k : ℕ) (sent : List (Addressed P B)) → slice_get sent k ≡ Some end_mail
      → Goes (duo (Copying (suc e) ended) (Staging (suc e) (stage_at n)) sent)
      (Deliver k ∷ At from Copy ∷ []) (Noted ∷ Stopping ∷ [])
      (duo (Stopped (suc e) last) (Staging (suc e) (stage_at n)) sent)
  stopping_phase k sent got =
      let T : Mode S P = Staging (suc e) (stage_at n) in
      let O : Mode S P = Copying (suc e) ended in
      let one : Goes (duo O T sent) (Deliver k ∷ []) (Noted ∷ []) (duo O T sent) =
      to_target m version count limits from to k from (RoundEnd (suc e) 1 n 0 0)
      (duo O T sent) _ ok.apart got
      (hears to from (limits to) (RoundEnd (suc e) 1 n 0 0) T (says Noted T) ok.from_is_there
      (same_move (says Noted T) T)) in
      let two : Goes (duo O T sent) (At from Copy ∷ []) (Stopping ∷ [])
      (duo (Stopped (suc e) last) T sent) =
      commands m version count limits from to Copy (duo O T sent) _ ok.apart ok.here
      (copies O (says Stopping (Stopped (suc e) last)) refl) in
      after m version count limits from to _ _ _ _ _ _ _ one two

  -- what the last copies' numbers and the stage are
  last_numbers : newest_numbers m last ≡ listed suc 0 n
  last_numbers =
      ap (λ z. listed (rounds_at n).newest 0 (page_count m z)) (scanned n).guest
      ∙ listed_same (rounds_at n).newest suc 0 n (λ q lt. (scanned n).newest q (omega (arith, lt)))

  nothing_left : to_copy m last ≡ None
  nothing_left =
      least_nowhere (λ p. last.to_send p || last.to_fix p) 0 (page_count m last.guest)
      (λ q. ap (λ z. z || false) ((scanned n).log q))

  -- a stage with the pages of the last one takes the state
  state_taken : (old t : Stage P) → t.pages ≡ (stage_at n).pages → t.have ≡ (stage_at n).have
      → t.processors ≡ (stage_at n).processors
      → state_came m (suc e) old t (listed suc 0 n) (m.body g) ≡ sends ReadySent (Ready (suc e))
      (Held (suc e) g)
  state_taken old t pages have processors =
      let k = staged n (omega arith) in
      let c : length t.pages ≡ n = ap length pages ∙ k.count_is in
      let same : t.pages ≡ m.pages g = pages
      ∙ ext_get_or m.zeros (stage_at n).pages (m.pages g) k.count_is
      (λ p lt. k.page p (let z = k.count_is in omega (arith, z, lt))) in
      let here : size (lacks t (listed suc 0 n)) (length t.pages) ≡ 0 = size_of_none
      (lacks t (listed suc 0 n)) (length t.pages) (λ q lt.
      let inside : q < n = omega (arith, c) in
      le-ltb (t.have q) (get_or (listed suc 0 n) q 0) (
      let a : t.have q ≡ suc q = ap (λ (z : ℕ → ℕ). z q) have ∙ k.have q inside in
      let b : get_or (listed suc 0 n) q 0 ≡ suc (0 + q) = listed_at suc 0 0 n q inside in
      omega (arith, a, b)
      )) in
      let count = size (lacks t (listed suc 0 n)) (length t.pages) in
      let build : m.build t.processors (m.body g) t.pages ≡ Some g = ap
      (λ z. m.build z (m.body g) t.pages) (processors ∙ k.processors)
      ∙ ap (m.build (m.processors g) (m.body g)) same ∙ laws.read_back g ok.valid in
      if_true (length (listed suc 0 n) == length t.pages)
      (state_compared m (suc e) old t (listed suc 0 n) (m.body g)) _
      (eq-eqb (length (listed suc 0 n)) (length t.pages) (listed_length suc 0 n ∙ sym c))
      ∙ if_false (nat_lt 0 count) _
      (guest_read m (suc e) old (m.build t.processors (m.body g) t.pages))
      (le-ltb 0 count (omega (arith, here)))
      ∙ ap (guest_read m (suc e) old) build

  -- the state in one frame
  abbrev pub state_mail : Addressed P B
  state_mail = mail from to (State (suc e) (listed suc 0 n) (m.body g))

  state_phase : (sent : List (Addressed P B)) (T : Mode S P) → is_compact version ≡ false
      → Goes (duo (Stopped (suc e) last) T sent) (At from Copy ∷ []) (StateSent ∷ [])
      (duo (Stopped (suc e) last) T (sent ++ state_mail ∷ []))
  state_phase sent T v =
      let O : Mode S P = Stopped (suc e) last in
      let o : Outcome S P A B = sends StateSent (State (suc e) (listed suc 0 n) (m.body g)) O in
      let is : copy m version O ≡ o =
      ap (copy_last m version (suc e) last) nothing_left
      ∙ if_false (is_compact version) _ (sends StateSent (state_frame m (suc e) last) O) v
      ∙ ap (λ z. sends StateSent (State (suc e) z (m.body last.guest)) O) last_numbers
      ∙ ap (λ z. sends StateSent (State (suc e) (listed suc 0 n) (m.body z)) O) (scanned n).guest in
      commands m version count limits from to Copy (duo O T sent) _ ok.apart ok.here (copies O o is)

  state_comes : (k : ℕ) (sent : List (Addressed P B)) (O : Mode S P)
      → slice_get sent k ≡ Some state_mail
      → Goes (duo O (Staging (suc e) (stage_at n)) sent) (Deliver k ∷ []) (ReadySent ∷ [])
      (duo O (Held (suc e) g) (sent ++ mail to from (Ready (suc e)) ∷ []))
  state_comes k sent O got =
      let T : Mode S P = Staging (suc e) (stage_at n) in
      let f : Frame P B = State (suc e) (listed suc 0 n) (m.body g) in
      to_target m version count limits from to k from f (duo O T sent) _ ok.apart got
      (hears to from (limits to) f T
      (sends ReadySent (Ready (suc e)) (Held (suc e) g)) ok.from_is_there
      (same_move (state_came m (suc e) (stage_at n) (stage_at n) (listed suc 0 n) (m.body g)) T
      ∙ state_taken (stage_at n) (stage_at n) refl refl refl))

  -- the pieces of the state
  abbrev pub pieces : List (List ℕ)
  pieces = m.cut (listed suc 0 n) (m.body g)

  abbrev pub part_mail : ℕ → Addressed P B
  part_mail i = mail from to (Part (suc e) n i (length pieces) (get_or pieces i []))

  abbrev pub last_at : ℕ → Last S
  last_at i = record last { turn = i }

  -- the frames after i pieces
  pub parts_at : List (Addressed P B) → ℕ → List (Addressed P B)
  parts_at sent zero = sent
  parts_at sent (suc i) = parts_at sent i ++ part_mail i ∷ []

  parts_length : (sent : List (Addressed P B)) (p : ℕ) → length (parts_at sent p) ≡ length sent + p
  unfolding parts_at
  parts_length sent zero = sym (add-zero (length sent))
  parts_length sent (suc p) =
      let a = length_more (parts_at sent p) (part_mail p) in let b = parts_length sent p in omega
      (arith, a, b)

  part_got : (sent : List (Addressed P B)) (p j : ℕ) → p < j
      → slice_get (parts_at sent j) (length sent + p) ≡ Some (part_mail p)
  unfolding parts_at
  part_got sent p zero lt = absurd (omega arith)
  part_got sent p (suc j) lt =
      elim (same_or p j) [
        | inl z ↦
            got_new (parts_at sent j) (part_mail j) (length sent + p)
            (let a = parts_length sent j in let b : p ≡ j = z in omega (arith, a))
            ∙ ap (λ q. Some (part_mail q)) (sym z)
        | inr z ↦
            got_old (parts_at sent j) (part_mail p) (part_mail j) (length sent + p)
            (part_got sent p j (omega (arith, z)))
      ]

  are_pieces : pieces_of m last ≡ pieces
  are_pieces =
      ap (λ z. m.cut z (m.body last.guest)) last_numbers
      ∙ ap (λ z. m.cut (listed suc 0 n) (m.body z)) (scanned n).guest

  part_as : (i : ℕ) → is_compact version ≡ true
      → copy m version (Stopped (suc e) (last_at i)) ≡ sends (PartSent i (length pieces))
      (part_mail i).frame
      (Stopped (suc e) (last_at (if nat_lt (suc i) (length pieces) then suc i else 0)))
  part_as i v =
      let M = suc e in
      let F : ℕ → List (List ℕ)
      → Outcome S P A B =
      λ c xs. sends (PartSent i (length xs)) (Part M c i (length xs) (get_or xs i []))
      (Stopped M (last_at (if nat_lt (suc i) (length xs) then suc i else 0))) in
      ap (copy_last m version M (last_at i)) nothing_left
      ∙ if_true (is_compact version)
      (sends (PartSent i (length (pieces_of m (last_at i)))) (part_frame m M (last_at i))
      (Stopped M (next_turn m (last_at i)))) _ v
      ∙ ap (λ c. F c (pieces_of m last)) (scanned n).copies
      ∙ ap (F n) are_pieces

  part_one : (i j : ℕ) (sent : List (Addressed P B)) (T : Mode S P) → is_compact version ≡ true
      → (if nat_lt (suc i) (length pieces) then suc i else 0) ≡ j
      → Goes (duo (Stopped (suc e) (last_at i)) T (parts_at sent i)) (At from Copy ∷ [])
      (PartSent i (length pieces) ∷ [])
      (duo (Stopped (suc e) (last_at j)) T (parts_at sent (suc i)))
  unfolding parts_at
  part_one i j sent T v is =
      let O : Mode S P = Stopped (suc e) (last_at i) in
      commands m version count limits from to Copy (duo O T (parts_at sent i)) _ ok.apart ok.here
      (copies O
      (sends (PartSent i (length pieces)) (part_mail i).frame (Stopped (suc e) (last_at j)))
      (part_as i v
      ∙ ap (λ z. sends (PartSent i (length pieces)) (part_mail i).frame
      (Stopped (suc e) (last_at z))) is))

  parts_phase : (c i : ℕ) (sent : List (Addressed P B)) (T : Mode S P) → is_compact version ≡ true
      → i + suc c ≡ length pieces
      → Goes (duo (Stopped (suc e) (last_at i)) T (parts_at sent i))
      (listed (λ q. At from Copy) i (suc c)) (listed (λ q. PartSent q (length pieces)) i (suc c))
      (duo (Stopped (suc e) last) T (parts_at sent (length pieces)))
  unfolding listed
  parts_phase zero i sent T v is =
      subst (λ q. Goes (duo (Stopped (suc e) (last_at i)) T (parts_at sent i)) (At from Copy ∷ [])
      (PartSent i (length pieces) ∷ []) (duo (Stopped (suc e) last) T (parts_at sent q)))
      (let z : suc i ≡ length pieces = omega (arith, is) in z)
      (part_one i 0 sent T v
      (if_false (nat_lt (suc i) (length pieces)) (suc i) 0
      (le-ltb (suc i) (length pieces) (omega (arith, is)))))
  parts_phase (suc c) i sent T v is =
      after m version count limits from to _ _ _ _ _ _ _
      (part_one i (suc i) sent T v
      (if_true (nat_lt (suc i) (length pieces)) (suc i) 0
      (lt-ltb (suc i) (length pieces) (omega (arith, is)))))
      (parts_phase c (suc i) sent T v (omega (arith, is)))

  -- the stage after i pieces came
  pub kept_at : ℕ → Stage P
  kept_at zero = stage_at n
  kept_at (suc i) = with_part (kept_at i) n i (length pieces) (get_or pieces i [])

  record KeptSo (i : ℕ) (s : Stage P) : Type 0 where
    pages_are : s.pages ≡ (stage_at n).pages
    have_is : s.have ≡ (stage_at n).have
    processors_are : s.processors ≡ (stage_at n).processors
    stamp_is : (s.stamp ≡ 0) ⊎ ((s.stamp ≡ n) × (s.parts ≡ length pieces))
    fresh : s.stamp ≡ 0 → (j : ℕ) → s.pieces j ≡ None
    kept : (j : ℕ) → j < i → s.pieces j ≡ Some (get_or pieces j [])
    missing : (j : ℕ) → i ≤ j → s.pieces j ≡ None

  before : (i : ℕ) (s : Stage P) → KeptSo i s → (j : ℕ)
      → (if nat_lt s.stamp n then (λ (j : ℕ). None) else s.pieces) j ≡ s.pieces j
  before i s k j =
      elim k.stamp_is [
        | inl z ↦
            ap (λ (b : Bool). (if b then (λ (j : ℕ). None) else s.pieces) j)
            (lt-ltb s.stamp n (let y : 0 < n = ok.some in omega (arith, z, y))) ∙ sym (k.fresh z j)
        | inr z ↦
            ap (λ (b : Bool). (if b then (λ (j : ℕ). None) else s.pieces) j)
            (le-ltb s.stamp n (let y = z.0 in omega (arith, y)))
      ]

  kept_more : (i : ℕ) (s : Stage P) → KeptSo i s
      → KeptSo (suc i) (with_part s n i (length pieces) (get_or pieces i []))
  kept_more i s k =
      let base : ℕ → Option (List ℕ) = if nat_lt s.stamp n then (λ (j : ℕ). None) else s.pieces in
      record {
        pages_are = k.pages_are;
        have_is = k.have_is;
        processors_are = k.processors_are;
        stamp_is = inr (refl, refl);
        fresh = λ z. let y : 0 < n = ok.some in absurd (omega (arith, z, y));
        kept = λ j lt. elim (same_or j i) [
          | inl z ↦
              ap (put base i (Some (get_or pieces i []))) z
              ∙ put_same base i (Some (get_or pieces i []))
              ∙ ap (λ q. Some (get_or pieces q [])) (sym z)
          | inr z ↦
              put_other base i j (Some (get_or pieces i [])) z ∙ before i s k j
              ∙ k.kept j (omega (arith, z))
        ];
        missing =
            λ j le. put_other base i j (Some (get_or pieces i []))
            (λ z. let y : j ≡ i = z in omega arith) ∙ before i s k j ∙ k.missing j (omega arith);
      }

  kept_so : (i : ℕ) → KeptSo i (kept_at i)
  unfolding kept_at
  kept_so zero =
      let k = staged n (omega arith) in
      record {
        pages_are = refl;
        have_is = refl;
        processors_are = refl;
        stamp_is = inl k.stamp;
        fresh = λ z j. k.piece j;
        kept = λ j lt. absurd (omega arith);
        missing = λ j le. k.piece j;
      }
  kept_so (suc i) = kept_more i (kept_at i) (kept_so i)

  takes : (i : ℕ) → i < length pieces → takes_part (kept_at i) n i (length pieces) ≡ true
  takes i lt =
      let s = kept_at i in
      and_true (nat_lt i (length pieces)) _ (lt-ltb i (length pieces) lt) (elim (kept_so i).stamp_is [
        | inl z ↦
            or_left (nat_lt s.stamp n) _
            (lt-ltb s.stamp n (let y : 0 < n = ok.some in omega (arith, z, y)))
        | inr z ↦
            or_right (nat_lt s.stamp n) _
            (and_true _ _ (eq-eqb n s.stamp (sym z.0)) (eq-eqb (length pieces) s.parts (sym z.1)))
      ])

  part_taken : (i : ℕ) → suc i < length pieces
      → came m (limits to) (part_mail i).frame (Staging (suc e) (kept_at i)) ≡ says
      (Kept i (length pieces)) (Staging (suc e) (kept_at (suc i)))
  unfolding kept_at
  part_taken i lt =
      let s = kept_at i in
      let t = with_part s n i (length pieces) (get_or pieces i []) in
      let k = kept_more i s (kept_so i) in
      same_move (part_came m (suc e) s n i (length pieces) (get_or pieces i [])) (Staging (suc e) s)
      ∙ if_true (takes_part s n i (length pieces))
      (part_kept m (suc e) s t i (length pieces) (gathered t.pieces 0 (length pieces)))
      (ignores (Staging (suc e) s)) (takes i (omega (arith, lt)))
      ∙ ap (part_kept m (suc e) s t i (length pieces))
      (gathered_none t.pieces 0 (length pieces) (suc i) (omega arith) (omega (arith, lt))
      (k.missing (suc i) (omega arith)))

  last_part_taken : (i : ℕ) → suc i ≡ length pieces
      → came m (limits to) (part_mail i).frame (Staging (suc e) (kept_at i)) ≡ sends ReadySent
      (Ready (suc e)) (Held (suc e) g)
  last_part_taken i is =
      let s = kept_at i in
      let t = with_part s n i (length pieces) (get_or pieces i []) in
      let k = kept_more i s (kept_so i) in
      let joins : m.join pieces ≡ Some (listed suc 0 n, m.body g) = laws.joined g
      (listed suc 0 n) ok.valid (listed_length suc 0 n) (λ p lt.
      let inside : p < n = let z = listed_length suc 0 n in omega (arith, z, lt) in
      let at : get_or (listed suc 0 n) p 0 ≡ suc (0 + p) = listed_at suc 0 0 n p inside in
      let few : n < 2 ^ 32 = ok.few in
      (omega (arith, at), omega (arith, at, few, inside))) in
      same_move (part_came m (suc e) s n i (length pieces) (get_or pieces i [])) (Staging (suc e) s)
      ∙ if_true (takes_part s n i (length pieces))
      (part_kept m (suc e) s t i (length pieces) (gathered t.pieces 0 (length pieces)))
      (ignores (Staging (suc e) s)) (takes i (omega (arith, is)))
      ∙ ap (part_kept m (suc e) s t i (length pieces))
      (gathered_all t.pieces [] 0 pieces
      (λ j lt. let z : 0 + j ≡ j = omega arith in ap t.pieces z
      ∙ k.kept j (omega (arith, is, lt))))
      ∙ ap (pieces_joined m (suc e) s t) joins
      ∙ state_taken s t k.pages_are k.have_is k.processors_are

  parts_come : (c i : ℕ) (place : ℕ → ℕ) (sent : List (Addressed P B)) (O : Mode S P)
      → i + suc c ≡ length pieces
      → ((q : ℕ) → q < length pieces → slice_get sent (place q) ≡ Some (part_mail q))
      → Goes (duo O (Staging (suc e) (kept_at i)) sent) (listed (λ q. Deliver (place q)) i (suc c))
      (listed (λ q. Kept q (length pieces)) i c ++ ReadySent ∷ [])
      (duo O (Held (suc e) g) (sent ++ mail to from (Ready (suc e)) ∷ []))
  unfolding listed
  parts_come zero i place sent O is got =
      to_target m version count limits from to (place i) from (part_mail i).frame
      (duo O (Staging (suc e) (kept_at i)) sent) _ ok.apart (got i (omega (arith, is)))
      (hears to from (limits to) (part_mail i).frame (Staging (suc e) (kept_at i))
      (sends ReadySent (Ready (suc e)) (Held (suc e) g)) ok.from_is_there
      (last_part_taken i (omega (arith, is))))
  parts_come (suc c) i place sent O is got =
      after m version count limits from to _ _ _ _ _ _ _
      (to_target m version count limits from to (place i) from (part_mail i).frame
      (duo O (Staging (suc e) (kept_at i)) sent) _ ok.apart (got i (omega (arith, is)))
      (hears to from (limits to) (part_mail i).frame (Staging (suc e) (kept_at i))
      (says (Kept i (length pieces)) (Staging (suc e) (kept_at (suc i)))) ok.from_is_there
      (part_taken i (omega (arith, is)))))
      (parts_come c (suc i) place sent O (omega (arith, is)) got)

  -- Ready, Go and Started
  closing : (k k2 k3 : ℕ) (sent : List (Addressed P B)) → k ≡ length sent → k2 ≡ suc k → k3 ≡ suc k2
      → Goes (duo (Stopped (suc e) last) (Held (suc e) g)
      (sent ++ mail to from (Ready (suc e)) ∷ [])) (Deliver k ∷ Deliver k2 ∷ Deliver k3 ∷ [])
      (Committed (suc e) ∷ StartedHere ∷ Finished ∷ [])
      (duo (Empty (suc e)) (Run (suc e) g)
      (((sent ++ mail to from (Ready (suc e)) ∷ []) ++ mail from to (Go (suc e)) ∷ [])
      ++ mail to from (Started (suc e)) ∷ []))
  closing k k2 k3 sent is is2 is3 =
      let M = suc e in
      let s1 = sent ++ mail to from (Ready M) ∷ [] in
      let s2 = s1 ++ mail from to (Go M) ∷ [] in
      let s3 = s2 ++ mail to from (Started M) ∷ [] in
      let l1 = length_more sent (mail to from (Ready M)) in
      let l2 = length_more s1 (mail from to (Go M)) in
      let O : Mode S P = Stopped M last in
      let T : Mode S P = Held M g in
      let one : Goes (duo O T s1) (Deliver k ∷ []) (Committed M ∷ []) (duo (Given M last.guest) T s2) =
      to_source m version count limits from to k to (Ready M) (duo O T s1) _ ok.apart
      (got_new sent (mail to from (Ready M)) k is)
      (hears from to (limits from) (Ready M) O
      (sends (Committed M) (Go M) (Given M last.guest)) ok.to_is_there
      (same_move (sends (Committed M) (Go M) (Given M last.guest)) O)) in
      let two : Goes (duo (Given M last.guest) T s2) (Deliver k2 ∷ []) (StartedHere ∷ [])
      (duo (Given M last.guest) (Run M g) s3) =
      to_target m version count limits from to k2 from (Go M) (duo (Given M last.guest) T s2) _ ok.apart
      (got_new s1 (mail from to (Go M)) k2 (omega (arith, is, is2, l1)))
      (hears to from (limits to) (Go M) T
      (sends StartedHere (Started M) (Run M g)) ok.from_is_there
      (same_move (sends StartedHere (Started M) (Run M g)) T)) in
      let three : Goes (duo (Given M last.guest) (Run M g) s3) (Deliver k3 ∷ []) (Finished ∷ [])
      (duo (Empty M) (Run M g) s3) =
      to_source m version count limits from to k3 to (Started M)
      (duo (Given M last.guest) (Run M g) s3) _ ok.apart
      (got_new s2 (mail to from (Started M)) k3 (omega (arith, is, is2, is3, l1, l2)))
      (hears from to (limits from) (Started M) (Given M last.guest)
      (says Finished (Empty M)) ok.to_is_there
      (same_move (says Finished (Empty M)) (Given M last.guest))) in
      after m version count limits from to _ _ _ _ _ _ _
      (after m version count limits from to _ _ _ _ _ _ _ one two) three

  abbrev pub frames : ℕ
  frames = state_frames m version g

  -- the state is sent in some frames, and these make the guest at the target
  record StateGoes (k s : ℕ) (sent : List (Addressed P B)) : Type 0 where
    after_it : List (Addressed P B)
    long : length after_it ≡ length sent + s
    copied : Goes (duo (Stopped (suc e) last) (Staging (suc e) (stage_at n)) sent)
        (listed (λ i. At from Copy) 0 s) (state_replies version s)
        (duo (Stopped (suc e) last) (Staging (suc e) (stage_at n)) after_it)
    arrived : Goes (duo (Stopped (suc e) last) (Staging (suc e) (stage_at n)) after_it)
        (listed (λ i. Deliver (k + i)) 0 s) (arrival_replies version s)
        (duo (Stopped (suc e) last) (Held (suc e) g)
        (after_it ++ mail to from (Ready (suc e)) ∷ []))

  state_goes : (k : ℕ) (sent : List (Addressed P B)) → k ≡ length sent → StateGoes k frames sent
  unfolding listed kept_at parts_at
  state_goes k sent is =
      elim (is_either (is_compact version)) [
        | inl v ↦
            let s = length pieces in
            let some : 0 < s = laws.some_piece (listed suc 0 n) (m.body g) in
            let less : suc (s - 1) ≡ s = omega (arith, some) in
            subst (λ z. StateGoes k z sent) (sym (if_true (is_compact version) s 1 v))
            (record {
              after_it = parts_at sent s;
              long = parts_length sent s;
              copied = same_replies m version count limits from to _ _ _ _ _
                  (sym (if_true (is_compact version) (listed (λ i. PartSent i s) 0 s)
                  (StateSent ∷ []) v))
                  (subst (λ z. Goes (duo (Stopped (suc e) last) (Staging (suc e) (stage_at n)) sent)
                  (listed (λ i. At from Copy) 0 z) (listed (λ i. PartSent i s) 0 z)
                  (duo (Stopped (suc e) last) (Staging (suc e) (stage_at n))
                  (parts_at sent s))) less
                  (parts_phase (s - 1) 0 sent (Staging (suc e) (stage_at n)) v
                  (omega (arith, less))));
              arrived =
                  same_replies m version count limits from to _ _ _ _ _
                  (sym (if_true (is_compact version)
                  (listed (λ i. Kept i s) 0 (s - 1) ++ ReadySent ∷ []) (ReadySent ∷ []) v))
                  (subst (λ z. Goes (duo (Stopped (suc e) last) (Staging (suc e) (stage_at n))
                  (parts_at sent s)) (listed (λ i. Deliver (k + i)) 0 z)
                  (listed (λ i. Kept i s) 0 (s - 1) ++ ReadySent ∷ [])
                  (duo (Stopped (suc e) last) (Held (suc e) g)
                  (parts_at sent s ++ mail to from (Ready (suc e)) ∷ []))) less
                  (parts_come (s - 1) 0 (λ i. k + i) (parts_at sent s) (Stopped (suc e) last)
                  (omega (arith, less))
                  (λ q lt. ap (λ z. slice_get (parts_at sent s) (z + q)) is
                  ∙ part_got sent q s lt)));
            })
        | inr v ↦
            subst (λ z. StateGoes k z sent)
            (sym (if_false (is_compact version) (length pieces) 1 v))
            (record {
              after_it = sent ++ state_mail ∷ [];
              long = (let z = length_more sent state_mail in omega (arith, z));
              copied = same_replies m version count limits from to _ _ _ _ _
                  (sym (if_false (is_compact version) (listed (λ i. PartSent i 1) 0 1)
                  (StateSent ∷ []) v)) (state_phase sent (Staging (suc e) (stage_at n)) v);
              arrived =
                  same_replies m version count limits from to _ _ _ _ _
                  (sym (if_false (is_compact version) (listed (λ i. Kept i 1) 0 0 ++ ReadySent ∷ [])
                  (ReadySent ∷ []) v))
                  (state_comes (k + 0) (sent ++ state_mail ∷ []) (Stopped (suc e) last)
                  (got_new sent state_mail (k + 0) (omega (arith, is))));
            })
      ]

  -- the whole move
  pub record DriveGoes (p q : ℕ) (T : Mode S P) (sent : List (Addressed P B)) : Type 0 where
    pub at_last : List (Addressed P B)
    pub goes : Goes
        (record {
          source = record { mode = Run e g; partner = p };
          target =
              record { mode = T; partner = q };
          sent = sent;
        })
        (drive from to policy (length sent) n frames) (drive_replies version (suc e) n frames)
        (duo (Empty (suc e)) (Run (suc e) g) at_last)

  pub drive_goes : (p q : ℕ) (T : Mode S P) (sent : List (Addressed P B)) → HoldsNone T
      → move_of T ≤ e
      → DriveGoes p q T sent
  unfolding rounds_at stage_at sent_at
  drive_goes p q T sent none le =
      let k = length sent in
      let M = suc e in
      let s2 = opened_sent sent in
      let a1 = length_more sent offer_mail in
      let a2 = length_more (sent ++ offer_mail ∷ []) (mail to from (Accept M)) in
      let long2 : length s2 ≡ k + 2 = omega (arith, a1, a2) in
      let pages = sent_at s2 n in
      let long3 = sent_length s2 n in
      let s3 = pages ++ end_mail ∷ [] in
      let a4 = length_more pages end_mail in
      let st : Mode S P = Staging M (stage_at n) in
      let g1 = opening p q T sent none le in
      let g2 = copying n 0 (Staging M (stage_at 0)) s2 (omega arith) in
      let g3 = ending (Staging M (stage_at 0)) pages in
      let g4 = delivering n 0 (λ p. k + 2 + p) (Copying M ended) s3 (omega arith)
      (λ i lt. got_old pages (page_mail i) end_mail (k + 2 + i)
      (ap (λ z. slice_get pages (z + i)) (sym long2) ∙ page_got s2 i n lt)) in
      let g5 = stopping_phase (k + 2 + n) s3
      (got_new pages end_mail (k + 2 + n) (omega (arith, long2, long3))) in
      let state = state_goes (k + 3 + n) s3 (omega (arith, long2, long3, a4)) in
      let g8 = closing (k + 3 + n + frames) (k + 4 + n + frames) (k + 5 + n + frames) state.after_it
      (let z = state.long in omega (arith, z, long2, long3, a4)) (omega arith) (omega arith) in
      let c2 = after m version count limits from to _ _ _ _ _ _ _ g1 g2 in
      let c3 = after m version count limits from to _ _ _ _ _ _ _ c2 g3 in
      let c4 = after m version count limits from to _ _ _ _ _ _ _ c3 g4 in
      let c5 = after m version count limits from to _ _ _ _ _ _ _ c4 g5 in
      let c6 = after m version count limits from to _ _ _ _ _ _ _ c5 state.copied in
      let c7 = after m version count limits from to _ _ _ _ _ _ _ c6 state.arrived in
      record { at_last = _; goes = after m version count limits from to _ _ _ _ _ _ _ c7 g8 }
