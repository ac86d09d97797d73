-- The third part of the invariant is kept by each event at the current host.
use Rattle.std.proofs.Common.{◌≡◌, ◌≢◌, ◌⊎◌, inl, inr, ⊎_elim, ℕ, suc, ◌+◌, ◌-◌, ◌/◌, ◌%◌, ◌^◌, ◌<◌, ◌≤◌, ◌==◌, true, false, not, ◌||◌, ◌&&◌, if◌then◌else◌, nat_lt, nat_le, List, length, get_or, Option, Some, None, refl, sym, ap, ◌∙◌, subst, arith, leb-false, [], Bool}
use Rattle.std.proofs.lemmas.Bool.{ltb-true, ltb-false, lt-ltb}
use Rattle.rvm_protocol.specs.Commands.{Policy, Command, Board, Begin, Copy, Resend, is_allowed}
use Rattle.rvm_protocol.specs.Frames.{Frame, Offer, Page, RoundEnd, State, Part, is_compact}
use Rattle.rvm_protocol.specs.Guest.{Guest, IsGuest}
use Rattle.rvm_protocol.specs.Modes.{Mode, Empty, Run, Offering, Copying, Stopped, Given, Staging, Held, Outcome, says, refuses}
use Rattle.rvm_protocol.specs.Obeying.{obey, begin_allowed, copy_page, copy_last, resend_last, state_frame, begun, sends_page, sends_last, part_frame, sends_state}
use Rattle.rvm_protocol.specs.Pages.{least, put, is_in}
use Rattle.rvm_protocol.specs.Replies.{BadSize, SeqSpent, EpochsSpent, Stopping, Reply}
use Rattle.rvm_protocol.specs.Rounds.{Rounds, Last, to_copy, stops, is_skipped, opened, page_copied, last_copied, next_round, round_over, stopped, newest_numbers, next_turn, pieces_of}
use Rattle.rvm_protocol.proofs.PairInvariant.{More, run_beside, copying_beside, Modes, CopiesOk, IsFresh, BesideOk, OfferOk, CopyingOk, TrueState, HeldOk, StoppedOk, Content, TruePiece}
use Rattle.rvm_protocol.proofs.CurrentModes.{either}
use Rattle.rvm_protocol.proofs.Basics.{page_is, state_is, round_no_page, page_no_state, offer_is, state_no_page, both_false, is_either, or_left, or_right, or_false, and_not_false, put_same, put_other, same_or, IsLeast, least_found, least_none, listed_length, listed_at, page_no_part, state_no_part, part_no_page, part_no_state, part_is}

module _ {S P E A B : Type 0} (m : Guest S P E A B) (laws : IsGuest m) where
  pub beside_more : (e c h : ℕ) (F F' : Frame P B → Type 0) (T : Mode S P)
      → ((f : Frame P B) → F f → F' f) → BesideOk m e c h F T → BesideOk m e c h F' T
  beside_more e c h F F' (Staging n s) up ok =
      λ same.
      let k = ok same in
      record {
        count = k.count;
        processors = k.processors;
        staged = λ p lt. ⊎_elim (λ z. inl z)
            (λ f. inr (up _ f)) (k.staged p lt);
        kept = λ i x q. up _ (k.kept i x q);
      }
  beside_more e c h F F' (Empty n) up ok = tt
  beside_more e c h F F' (Run n g) up ok = tt
  beside_more e c h F F' (Offering n g p) up ok = tt
  beside_more e c h F F' (Copying n r) up ok = tt
  beside_more e c h F F' (Stopped n l) up ok = tt
  beside_more e c h F F' (Given n kept) up ok = tt
  beside_more e c h F F' (Held n g) up ok = tt

  pub beside_same : (e c h c' h' : ℕ) (F : Frame P B → Type 0) (T : Mode S P) → c ≡ c' → h ≡ h'
      → BesideOk m e c h F T → BesideOk m e c' h' F T
  beside_same e c h c' h' F T p q ok =
      subst (λ x. BesideOk m e x h' F T) p (subst (λ y. BesideOk m e c y F T) q ok)

  -- a copy of page p with the next number
  abbrev pub with_copy : ℕ → (Frame P B → Type 0) → ℕ → ℕ → S → Frame P B → Type 0
  with_copy e F copies p g = More F (Some (Page e p (suc copies) (get_or (m.pages g) p m.zeros)))

  module _ (e : ℕ) (F : Frame P B → Type 0) (newest : ℕ → ℕ) (copies p : ℕ) (g : S)
      (ok : CopiesOk e F newest copies) where
    pub newest_up : (q : ℕ)
        → (newest q ≤ (put newest p (suc copies)) q) × ((put newest p (suc copies)) q ≤ suc copies)
    newest_up q =
        ⊎_elim
        (λ (s : q ≡ p). let a : (put newest p (suc copies)) q ≡ suc copies = ap
        (put newest p (suc copies)) s
        ∙ put_same newest p (suc copies) in let b : newest q ≤ copies = ok.given q in
        (omega arith, omega arith))
        (λ n. let a : (put newest p (suc copies)) q ≡ newest q = put_other newest p q
        (suc copies) n in let b : newest q ≤ copies = ok.given q in (omega arith, omega arith))
        (same_or q p)

    pub copies_then : nat_le (2 ^ 32 - 1) copies ≡ false
        → CopiesOk e (with_copy e F copies p g) (put newest p (suc copies)) (suc copies)
    copies_then below =
        record {
          number = λ q k b. elim [
            | inl h ↦
                let a : k ≤ newest q = ok.number q k b h in let u = newest_up q in omega
                (arith, u.0)
            | inr h ↦
                let w = page_is e e p q (suc copies) k _ b h in let a :
                (put newest p (suc copies)) p ≡ suc copies =
                put_same newest p (suc copies) in let s : (put newest p (suc copies)) p ≡
                (put newest p (suc copies)) q =
                ap (put newest p (suc copies)) w.1 in let t : suc copies ≡ k = w.2 in omega arith
          ];
          given = λ q. (newest_up q).1;
          fits = let z : copies < 2 ^ 32 - 1 = leb-false (2 ^ 32 - 1) copies below in omega arith;
        }

    pub fresh_now : IsFresh m e (with_copy e F copies p g) (put newest p (suc copies)) g p
    fresh_now =
        let a : (put newest p (suc copies)) p ≡ suc copies = put_same newest p (suc copies) in (
          omega arith,
          λ b. elim [
            | inl h ↦
                let k : (put newest p (suc copies)) p ≤ newest p = ok.number p
                ((put newest p (suc copies)) p) b h in let z : newest p ≤ copies =
                ok.given p in absurd (omega arith)
            | inr h ↦ sym (page_is e e p p (suc copies) ((put newest p (suc copies)) p) _ b h).3
          ],
          subst (λ z. (with_copy e F copies p g) (Page e p z (get_or (m.pages g) p m.zeros)))
              (sym a) (inr refl),
        )

    pub fresh_still : (q : ℕ) → q ≢ p → IsFresh m e F newest g q
        → IsFresh m e (with_copy e F copies p g) (put newest p (suc copies)) g q
    fresh_still q n fresh =
        let a : (put newest p (suc copies)) q ≡ newest q = put_other newest p q (suc copies) n in (
          subst (λ z. 0 < z) (sym a) fresh.0,
          λ b. elim [
            | inl h ↦ fresh.1 b (subst (λ z. F (Page e q z b)) a h)
            | inr h ↦
                absurd (n (sym (page_is e e p q (suc copies)
                ((put newest p (suc copies)) q) _ b h).1))
          ],
          subst (λ z. (with_copy e F copies p g) (Page e q z (get_or (m.pages g) q m.zeros)))
              (sym a) (inl fresh.2),
        )

  -- page tests of one scan
  pub skipped_logged : (r : Rounds S) (q : ℕ) → ((p : ℕ) → r.to_skip p ≡ true → r.log p ≡ true)
      → is_skipped r q ≡ true → r.log q ≡ true
  skipped_logged r q skip h =
      elim (not (r.scan % 64 == 0) && (q / 64 == r.scan / 64)) as
      (λ t. (if t then r.to_skip q else r.log q) ≡ true → r.log q ≡ true) [
        | true ↦
            λ h. skip q h
        | false ↦ λ h. h
      ] h

  pub board_copying : (ev : E) (e : ℕ) (r : Rounds S) (T : Mode S P) (F : Frame P B → Type 0)
      → CopyingOk m e r T F
      → CopyingOk m e
      (record r { guest = m.next r.guest ev; log = λ p. r.log p || m.wrote r.guest ev p }) T F
  board_copying ev e r T F ok =
      let g = r.guest in let c : length (m.pages (m.next g ev)) ≡ length (m.pages g) =
      laws.same_length g ev in
      record {
        beside = beside_same e _ _ _ _ F T (sym c) (sym (laws.same_processors g ev)) ok.beside;
        copies = ok.copies;
        stale = λ p lt.
            elim (ok.stale p (omega arith)) [
              | inl pending ↦ inl pending
              | inr rest ↦ inr (elim rest [
                | inl logged ↦ inl (or_left (r.log p) _ logged)
                | inr fresh ↦ elim (is_either (m.wrote g ev p)) [
                  | inl w ↦ inl (or_right (r.log p) _ w)
                  | inr u ↦
                      inr (
                        fresh.0,
                        λ b h. fresh.1 b h ∙ sym (laws.unwritten g ev p u),
                        subst
                            (λ y. F (Page e p (r.newest p) y)) (sym (laws.unwritten g ev p u)) fresh.2,
                      )
                ]
              ])
            ];
        skip = λ p h. or_left (r.log p) _ (ok.skip p h);
        over = λ h. let z = ok.over h in omega (arith, z);
      }

  -- what a page not copied is: it stays in a set, or fresh
  pub later_copied : (e : ℕ) (r : Rounds S) (p q : ℕ) (T : Mode S P) (F : Frame P B → Type 0)
      → CopyingOk m e r T F
      → IsLeast (λ x. r.to_send x && not (is_skipped r x)) r.scan p
      (length (m.pages r.guest) - r.scan) → q ≢ p → q < length (m.pages r.guest)
      → ((suc p ≤ q) × (r.to_send q ≡ true)) ⊎
      ((r.log q ≡ true) ⊎ IsFresh m e (with_copy e F r.copies p r.guest)
      (put r.newest p (suc r.copies)) r.guest q)
  later_copied e r p q T F ok l n lt =
      elim (ok.stale q lt) [
        | inl pending ↦ elim (before_or q p n) [
          | inl before ↦
              inr (inl (skipped_logged r q ok.skip (and_not_false (r.to_send q) (is_skipped r q)
              (l.below q pending.0 before) pending.1)))
          | inr after ↦ inl (after, pending.1)
        ]
        | inr rest ↦
            inr (elim rest [
              | inl logged ↦ inl logged
              | inr fresh ↦ inr
                  (fresh_still e F r.newest r.copies p r.guest ok.copies q n fresh)
            ])
      ]
    where
      before_or : (q p : ℕ) → q ≢ p → (q < p) ⊎ (suc p ≤ q)
      before_or q p n =
          elim (is_either (nat_lt q p)) [
            | inl a ↦ inl (ltb-true q p a)
            | inr b ↦ inr
                (let z : p ≤ q = ltb-false q p b in omega (arith, n))
          ]

  second : (a b : Bool) → (a && b) ≡ true → b ≡ true
  second true b h = h
  second false b h = absurd (both_false false h refl)

  pub copied_ok : (e : ℕ) (r : Rounds S) (p : ℕ) (T : Mode S P) (F : Frame P B → Type 0)
      → CopyingOk m e r T F → r.stop ≡ false → nat_le (2 ^ 32 - 1) r.copies ≡ false
      → IsLeast (λ x. r.to_send x && not (is_skipped r x)) r.scan p
      (length (m.pages r.guest) - r.scan)
      → CopyingOk m e (page_copied m r p) T (with_copy e F r.copies p r.guest)
  copied_ok e r p T F ok runs below l =
      record {
        beside = beside_more e _ _ F (with_copy e F r.copies p r.guest) T (λ f h. inl h) ok.beside;
        copies = copies_then e F r.newest r.copies p r.guest ok.copies below;
        stale = λ q lt.
            elim (same_or q p) [
              | inl s ↦
                  inr (inr (subst (λ z. IsFresh m e (with_copy e F r.copies p r.guest)
                  (put r.newest p (suc r.copies)) r.guest z) (sym s)
                  (fresh_now e F r.newest r.copies p r.guest ok.copies)))
              | inr n ↦ later_copied e r p q T F ok l n lt
            ];
        skip = λ q h. skipped_logged r q ok.skip (second (q / 64 == p / 64) (is_skipped r q) h);
        over = λ h. absurd (both_false r.stop h runs);
      }

  -- a frame that is neither a page nor a state
  module _ (e : ℕ) (F F' : Frame P B → Type 0) (up : (f : Frame P B) → F f → F' f)
      (down : (p k : ℕ) (b : P) → F' (Page e p k b) → F (Page e p k b)) where
    pub copies_same : (newest : ℕ → ℕ) (copies : ℕ) → CopiesOk e F newest copies
        → CopiesOk e F' newest copies
    copies_same newest copies ok =
        record {
          number = λ p k b h. ok.number p k b (down p k b h);
          given = ok.given;
          fits =
              ok.fits;
        }

    pub fresh_same : (newest : ℕ → ℕ) (g : S) (p : ℕ) → IsFresh m e F newest g p
        → IsFresh m e F' newest g p
    fresh_same newest g p fresh = (fresh.0, λ b h. fresh.1 b (down p (newest p) b h), up _ fresh.2)

    pub true_same : (g : S) (ns : List ℕ) (b : B) → TrueState m e F g ns b → TrueState m e F' g ns b
    true_same g ns b t =
        record {
          body = t.body;
          count = t.count;
          named = t.named;
          copies =
              λ p k y lt le h. t.copies p k y lt le (down p k y h);
        }

    pub piece_same : (g : S) (copies : ℕ) (ns : List ℕ) (st i u : ℕ) (x : List ℕ)
        → TruePiece m e F g copies ns st i u x → TruePiece m e F' g copies ns st i u x
    piece_same g copies ns st i u x t =
        record {
          stamp = t.stamp;
          state = true_same g ns (m.body g) t.state;
          fits = t.fits;
          count =
              t.count;
          piece = t.piece;
        }

  -- at the end of a round each page is in the log or fresh
  pub scanned : (e : ℕ) (r : Rounds S) (T : Mode S P) (F : Frame P B → Type 0) → CopyingOk m e r T F
      → least (λ x. r.to_send x && not (is_skipped r x)) r.scan
      (length (m.pages r.guest) - r.scan) ≡ None → (q : ℕ) → q < length (m.pages r.guest)
      → (r.log q ≡ true) ⊎ IsFresh m e F r.newest r.guest q
  scanned e r T F ok none q lt =
      elim (ok.stale q lt) [
        | inl pending ↦
            let a : r.scan ≤ q = pending.0 in let z = least_none
            (λ x. r.to_send x && not (is_skipped r x)) r.scan
            (length (m.pages r.guest) - r.scan) none q a (omega arith) in
            inl (skipped_logged r q ok.skip (and_not_false (r.to_send q)
            (is_skipped r q) z pending.1))
        | inr rest ↦ rest
      ]

  -- a round ends: the next one begins, or the stop rule said yes
  pub round_ended : (e a b c d : ℕ) (r : Rounds S) (T : Mode S P) (F : Frame P B → Type 0)
      → CopyingOk m e r T F
      → least (λ x. r.to_send x && not (is_skipped r x)) r.scan
      (length (m.pages r.guest) - r.scan) ≡ None → r.stop ≡ false
      → CopyingOk m e (if stops m r then round_over m r else next_round m r) T
      (More F (Some (RoundEnd e a b c d)))
  round_ended e a b c d r T F ok none runs =
      let F' = More F (Some (RoundEnd e a b c d)) in
      let down : (p k : ℕ) (y : P) → F' (Page e p k y)
      → F (Page e p k y) =
      λ p k y. elim [ inl h ↦ h | inr z ↦ absurd (round_no_page e e p k a b c d y z) ] in
      let settled = scanned e r T F ok none in
      let beside = beside_more e _ _ F F' T (λ f h. inl h) ok.beside in
      let copies = copies_same e F F' (λ f h. inl h) down r.newest r.copies ok.copies in
      let fresh = fresh_same e F F' (λ f h. inl h) down r.newest r.guest in
      either (λ x. CopyingOk m e x T F') (stops m r) (round_over m r) (next_round m r)
      (λ _. record {
        beside = beside;
        copies = copies;
        stale = λ q lt. elim (settled q lt) [
          | inl logged ↦ inr (inl logged)
          | inr f ↦ inr
              (inr (fresh q f))
        ];
        skip = λ q h. absurd (both_false false h refl);
        over = λ h. omega arith;
      })
      (λ _. record {
        beside = beside;
        copies = copies;
        stale = λ q lt. elim (settled q lt) [
          | inl logged ↦ inl (omega arith, logged)
          | inr f ↦ inr
              (inr (fresh q f))
        ];
        skip = λ q h. absurd (both_false false h refl);
        over = λ h. absurd (both_false r.stop h runs);
      })

  pub held_none : (e : ℕ) (g : S) (T : Mode S P) → copying_beside e T → HeldOk m g T
  held_none e g (Staging n s) h = tt
  held_none e g (Empty n) h = tt
  held_none e g (Run n q) h = tt
  held_none e g (Offering n q p) h = tt
  held_none e g (Copying n r) h = tt
  held_none e g (Stopped n l) h = tt
  held_none e g (Given n kept) h = tt
  held_none e g (Held n q) h = absurd h

  pub stopping : (e : ℕ) (r : Rounds S) (T : Mode S P) (F : Frame P B → Type 0)
      → CopyingOk m e r T F → copying_beside e T → ((ns : List ℕ) (b : B) → F (State e ns b) → ⊥)
      → ((st i u : ℕ) (x : List ℕ) → F (Part e st i u x) → ⊥) → r.stop ≡ true
      → StoppedOk m e (stopped m r) T F
  stopping e r T F ok beside fresh_state fresh_part stop =
      record {
        beside = ok.beside;
        copies = ok.copies;
        stale = λ q lt. elim (ok.stale q lt) [
          | inl pending ↦
              let a : r.scan ≤ q = pending.0 in let b = ok.over stop in absurd (omega (arith, b))
          | inr rest ↦ elim rest [ inl logged ↦ inl logged | inr f ↦ inr (inr f) ]
        ];
        states = λ ns b h. absurd (fresh_state ns b h);
        turn = laws.some_piece (newest_numbers m (stopped m r)) (m.body r.guest);
        numbers = λ st. newest_numbers m (stopped m r);
        now = refl;
        parts = λ st i u x h. absurd (fresh_part st i u x h);
        held = held_none e r.guest T beside;
      }

  true_copied : (e : ℕ) (F : Frame P B → Type 0) (copies p : ℕ) (g : S) (ns : List ℕ) (b : B)
      → TrueState m e F g ns b → TrueState m e (with_copy e F copies p g) g ns b
  true_copied e F copies p g ns b t =
      record {
        body = t.body;
        count = t.count;
        named = t.named;
        copies = λ q k y lt le. elim [
          | inl h ↦ t.copies q k y lt le h
          | inr z ↦
              let w = page_is e e p q (suc copies) k _ y z in sym w.3
              ∙ ap (λ x. get_or (m.pages g) x m.zeros) w.1
        ];
      }

  pub last_copied_ok : (e : ℕ) (l : Last S) (p : ℕ) (T : Mode S P) (F : Frame P B → Type 0)
      → StoppedOk m e l T F → nat_le (2 ^ 32 - 1) l.copies ≡ false
      → StoppedOk m e (last_copied m l p) T (with_copy e F l.copies p l.guest)
  last_copied_ok e l p T F ok below =
      let F' = with_copy e F l.copies p l.guest in
      record {
        beside = beside_more e _ _ F F' T (λ f h. inl h) ok.beside;
        copies = copies_then e F l.newest l.copies p l.guest ok.copies below;
        stale = λ q lt.
            elim (same_or q p) [
              | inl s ↦
                  inr (inr (subst (λ z. IsFresh m e F' (put l.newest p (suc l.copies)) l.guest z)
                  (sym s) (fresh_now e F l.newest l.copies p l.guest ok.copies)))
              | inr n ↦ elim (ok.stale q lt) [
                | inl a ↦ inl (put_other l.to_send p q false n ∙ a)
                | inr rest ↦ inr (elim rest [
                  | inl a ↦ inl (put_other l.to_fix p q false n ∙ a)
                  | inr f ↦ inr (fresh_still e F l.newest l.copies p l.guest ok.copies q n f)
                ])
              ]
            ];
        states = λ ns b. elim [
          | inl h ↦ true_copied e F l.copies p l.guest ns b (ok.states ns b h)
          | inr z ↦ absurd (page_no_state e e p (suc l.copies) ns _ b z)
        ];
        turn = laws.some_piece (newest_numbers m (last_copied m l p)) (m.body l.guest);
        numbers = put ok.numbers (suc l.copies) (newest_numbers m (last_copied m l p));
        now = put_same ok.numbers (suc l.copies) (newest_numbers m (last_copied m l p));
        parts = λ st i u x. elim [
          | inl h ↦
              let t = ok.parts st i u x h in
              let z : st ≤ l.copies = t.stamp in
              subst (λ ns. TruePiece m e F' l.guest (suc l.copies) ns st i u x)
              (sym (put_other ok.numbers (suc l.copies) st
              (newest_numbers m (last_copied m l p))
              (λ q. let y : st ≡ suc l.copies = q in omega arith)))
              (record {
                stamp = omega arith;
                state = true_copied e F l.copies p l.guest
                    (ok.numbers st) (m.body l.guest) t.state;
                fits =
                    t.fits;
                count = t.count;
                piece = t.piece;
              })
          | inr z ↦ absurd (page_no_part e e p (suc l.copies) st i u x _ z)
        ];
        held = ok.held;
      }

  -- with nothing left each page is fresh
  pub all_fresh : (e : ℕ) (l : Last S) (T : Mode S P) (F : Frame P B → Type 0) → StoppedOk m e l T F
      → to_copy m l ≡ None → (q : ℕ) → q < length (m.pages l.guest)
      → IsFresh m e F l.newest l.guest q
  all_fresh e l T F ok none q lt =
      let z = or_false (l.to_send q) (l.to_fix q)
      (least_none (λ p. l.to_send p || l.to_fix p) 0 (length (m.pages l.guest)) none q
      (omega arith) (omega arith)) in
      elim (ok.stale q lt) [
        | inl a ↦ absurd (both_false (l.to_send q) a z.0)
        | inr rest ↦ elim rest [ inl a ↦ absurd (both_false (l.to_fix q) a z.1) | inr f ↦ f ]
      ]

  -- what the newest numbers name
  true_now : (e : ℕ) (l : Last S) (T : Mode S P) (F F' : Frame P B → Type 0) → StoppedOk m e l T F
      → to_copy m l ≡ None → ((p k : ℕ) (y : P) → F' (Page e p k y) → F (Page e p k y))
      → TrueState m e F' l.guest (newest_numbers m l) (m.body l.guest)
  true_now e l T F F' ok none down =
      let c = length (m.pages l.guest) in
      let numbers : (p : ℕ) → p < c
      → get_or (newest_numbers m l) p 0 ≡ l.newest p =
      λ p lt. listed_at l.newest 0 0 c p lt
      ∙ (let z : 0 + p ≡ p = omega arith in ap l.newest z) in
      record {
        body = refl;
        count = listed_length l.newest 0 c;
        named = λ p lt. subst (λ z. 0 < z) (sym (numbers p lt)) (all_fresh e l T F ok none p lt).0;
        copies = λ p k y lt le h.
            let a : l.newest p ≤ k = subst (λ z. z ≤ k) (numbers p lt) le in
            let b : k ≤ l.newest p = ok.copies.number p k y (down p k y h) in
            let s : k ≡ l.newest p = omega arith in
            (all_fresh e l T F ok none p lt).1 y (subst (λ z. F (Page e p z y)) s (down p k y h));
      }

  fits_now : (e : ℕ) (l : Last S) (T : Mode S P) (F : Frame P B → Type 0) → StoppedOk m e l T F
      → (p : ℕ) → p < length (newest_numbers m l) → get_or (newest_numbers m l) p 0 < 2 ^ 32
  fits_now e l T F ok p lt =
      let c = length (m.pages l.guest) in
      let n : length (newest_numbers m l) ≡ c = listed_length l.newest 0 c in
      let is : get_or (newest_numbers m l) p 0 ≡ l.newest p = listed_at l.newest 0 0 c p
      (omega arith) ∙ (let z : 0 + p ≡ p = omega arith in ap l.newest z) in
      let a : l.newest p ≤ l.copies = ok.copies.given p in
      let b : l.copies < 2 ^ 32 = ok.copies.fits in
      omega arith

  pub state_sent : (e : ℕ) (l : Last S) (T : Mode S P) (F : Frame P B → Type 0)
      → StoppedOk m e l T F → to_copy m l ≡ None
      → StoppedOk m e l T (More F (Some (state_frame m e l)))
  state_sent e l T F ok none =
      let F' = More F (Some (state_frame m e l)) in
      let down : (p k : ℕ) (y : P) → F' (Page e p k y)
      → F (Page e p k y) =
      λ p k y. elim [
        | inl h ↦
            h
        | inr z ↦ absurd (state_no_page e e p k (newest_numbers m l) y (m.body l.guest) z)
      ] in
      let mine : TrueState m e F' l.guest (newest_numbers m l) (m.body l.guest) =
      true_now e l T F F' ok none down in
      record {
        beside = beside_more e _ _ F F' T (λ f h. inl h) ok.beside;
        copies = copies_same e F F' (λ f h. inl h) down l.newest l.copies ok.copies;
        stale = λ q lt. inr (inr (fresh_same e F F' (λ f h. inl h) down l.newest l.guest q
            (all_fresh e l T F ok none q lt)));
        states = λ ns b. elim [
          | inl h ↦ true_same e F F' (λ f h. inl h) down l.guest ns b (ok.states ns b h)
          | inr z ↦ let w = state_is e e (newest_numbers m l) ns (m.body l.guest) b z in
              subst (λ (x : List ℕ). TrueState m e F' l.guest x b) w.1
              (subst (λ (x : B). TrueState m e F' l.guest (newest_numbers m l) x) w.2 mine)
        ];
        turn = ok.turn;
        numbers = ok.numbers;
        now = ok.now;
        parts = λ st i u x. elim [
          | inl h ↦
              piece_same e F F' (λ f h. inl h) down l.guest l.copies (ok.numbers st) st i u x
              (ok.parts st i u x h)
          | inr z ↦ absurd (state_no_part e e st i u (newest_numbers m l) x (m.body l.guest) z)
        ];
        held = ok.held;
      }

  next_inside : (t u : ℕ) → 0 < u → (if nat_lt t u then t else 0) < u
  next_inside t u some = elim (is_either (nat_lt t u)) [
    | inl h ↦ subst (λ (b : Bool). (if b then t else 0) < u) (sym h) (ltb-true t u h)
    | inr h ↦ subst (λ (b : Bool). (if b then t else 0) < u) (sym h) some
  ]

  pub part_sent : (e : ℕ) (l : Last S) (T : Mode S P) (F : Frame P B → Type 0) → StoppedOk m e l T F
      → to_copy m l ≡ None → StoppedOk m e (next_turn m l) T (More F (Some (part_frame m e l)))
  part_sent e l T F ok none =
      let xs = pieces_of m l in
      let F' = More F (Some (part_frame m e l)) in
      let down : (p k : ℕ) (y : P) → F' (Page e p k y)
      → F (Page e p k y) =
      λ p k y. elim [
        | inl h ↦
            h
        | inr z ↦
            absurd (part_no_page e e l.copies l.turn (length xs) p k (get_or xs l.turn []) y z)
      ] in
      let mine : TruePiece m e F' l.guest l.copies (newest_numbers m l) l.copies l.turn (length xs)
      (get_or xs l.turn []) =
      record {
        stamp = omega arith;
        state = true_now e l T F F' ok none down;
        fits =
            fits_now e l T F ok;
        count = refl;
        piece = refl;
      } in
      record {
        beside = beside_more e _ _ F F' T (λ f h. inl h) ok.beside;
        copies = copies_same e F F' (λ f h. inl h) down l.newest l.copies ok.copies;
        stale = λ q lt. inr (inr (fresh_same e F F' (λ f h. inl h) down l.newest l.guest q
            (all_fresh e l T F ok none q lt)));
        states = λ ns b. elim [
          | inl h ↦ true_same e F F' (λ f h. inl h) down l.guest ns b (ok.states ns b h)
          | inr z ↦
              absurd (part_no_state e e l.copies l.turn (length xs) (get_or xs l.turn []) ns b z)
        ];
        turn = next_inside (suc l.turn) (length xs)
            (laws.some_piece (newest_numbers m l) (m.body l.guest));
        numbers = ok.numbers;
        now = ok.now;
        parts = λ st i u x. elim [
          | inl h ↦
              piece_same e F F' (λ f h. inl h) down l.guest l.copies (ok.numbers st) st i u x
              (ok.parts st i u x h)
          | inr z ↦
              let w = part_is e e l.copies st l.turn i (length xs) u (get_or xs l.turn []) x z in
              subst (λ q. TruePiece m e F' l.guest l.copies (ok.numbers q) q i u x) w.0
              (subst (λ ns. TruePiece m e F' l.guest l.copies ns l.copies i u x) (sym ok.now)
              (subst (λ q. TruePiece m e F' l.guest l.copies
              (newest_numbers m l) l.copies q u x) w.1
              (subst (λ q. TruePiece m e F' l.guest l.copies
              (newest_numbers m l) l.copies l.turn q x) w.2
              (subst (λ (q : List ℕ). TruePiece m e F' l.guest l.copies
              (newest_numbers m l) l.copies l.turn (length xs) q) w.3 mine))))
        ];
        held = ok.held;
      }

  pub fixing : (e : ℕ) (l : Last S) (ps : List ℕ) (T : Mode S P) (F : Frame P B → Type 0)
      → StoppedOk m e l T F
      → StoppedOk m e (record l { to_fix = λ p. l.to_fix p || (is_in ps p && nat_lt p (length (m.pages l.guest))) }) T F
  fixing e l ps T F ok =
      record {
        beside = ok.beside;
        copies = ok.copies;
        stale = λ q lt. elim (ok.stale q lt) [
          | inl a ↦ inl a
          | inr rest ↦ inr
              (elim rest [ inl a ↦ inl (or_left (l.to_fix q) _ a) | inr f ↦ inr f ])
        ];
        states = ok.states;
        turn = ok.turn;
        numbers = ok.numbers;
        now = ok.now;
        parts = ok.parts;
        held = ok.held;
      }

  pub offer_again : (e : ℕ) (g : S) (F : Frame P B → Type 0) → OfferOk m e g F
      → OfferOk m e g (More F (Some (Offer e (length (m.pages g)) (m.processors g))))
  offer_again e g F ok a b =
      elim [ inl h ↦ ok a b h | inr z ↦ let w = offer_is e e _ a _ b z in (sym w.0, sym w.1) ]

  pub beside_none : (e c h : ℕ) (F : Frame P B → Type 0) (T : Mode S P) → run_beside e T
      → BesideOk m (suc e) c h F T
  beside_none e c h F (Staging n s) le = λ same. absurd (omega arith)
  beside_none e c h F (Empty n) le = tt
  beside_none e c h F (Run n g) le = tt
  beside_none e c h F (Offering n g p) le = tt
  beside_none e c h F (Copying n r) le = tt
  beside_none e c h F (Stopped n l) le = tt
  beside_none e c h F (Given n kept) le = tt
  beside_none e c h F (Held n g) le = tt

  pub open_ok : (e : ℕ) (g : S) (p : Policy) (T : Mode S P) (F R : Frame P B → Type 0)
      → Modes (Offering e g p) T F R → BesideOk m e (length (m.pages g)) (m.processors g) F T
      → CopyingOk m e (opened m g p) T F
  open_ok e g p T F R i beside =
      record {
        beside = beside;
        copies = record {
          number = λ q k b h. let z : e < e = i.own (Page e q k b) h in absurd
              (omega arith);
          given = λ q. omega arith;
          fits = omega arith;
        };
        stale = λ q lt. inl (omega arith, lt-ltb q (length (m.pages g)) lt);
        skip = λ q h. absurd (both_false false h refl);
        over = λ h. absurd (both_false false h refl);
      }

  -- what a command leaves at the current host
  abbrev pub KeptPages : Mode S P → (Frame P B → Type 0) → Outcome S P A B → Type 0
  KeptPages T F o = Content m o.next T (More F o.made)

  pub copy_page_pages : (n : ℕ) (r : Rounds S) (q : Option ℕ) (T : Mode S P)
      (F : Frame P B → Type 0) → CopyingOk m n r T F → r.stop ≡ false
      → least (λ x. r.to_send x && not (is_skipped r x)) r.scan
      (length (m.pages r.guest) - r.scan) ≡ q → KeptPages T F (copy_page m n r q)
  copy_page_pages n r (Some p) T F ok runs found =
      either (KeptPages T F) (nat_le (2 ^ 32 - 1) r.copies) (refuses SeqSpent (Copying n r))
      (sends_page m n r p) (λ _. ok)
      (λ below. copied_ok n r p T F ok runs below (least_found _ _ _ p found))
  copy_page_pages n r None T F ok runs found = round_ended n _ _ _ _ r T F ok found runs

  pub begin_pages : (p : Policy) (n : ℕ) (g : S) (T : Mode S P) (F R : Frame P B → Type 0)
      → Modes (Run n g) T F R → KeptPages T F (begin_allowed m p n g)
  begin_pages p n g T F R i =
      either (KeptPages T F) (n == 2 ^ 64 - 1) (refuses EpochsSpent (Run n g)) (begun m p n g)
      (λ _. tt) λ _. (
        λ a b. elim [
          | inl h ↦ let z : suc n < suc n = i.own (Offer (suc n) a b) h in absurd (omega arith)
          | inr z ↦ let w = offer_is (suc n) (suc n) _ a _ b z in (sym w.0, sym w.1)
        ],
        beside_none n _ _ _ T i.meet,
      )

module _ {S P E A B : Type 0} (m : Guest S P E A B) (laws : IsGuest m) (v : ℕ) where
  sends_state_pages : (a b : Reply A) (n : ℕ) (l : Last S) (T : Mode S P) (F : Frame P B → Type 0)
      → StoppedOk m n l T F → to_copy m l ≡ None → KeptPages m laws T F (sends_state m v a b n l)
  sends_state_pages a b n l T F ok found =
      either (KeptPages m laws T F) (is_compact v) _ _ (λ _. part_sent m laws n l T F ok found)
      (λ _. state_sent m laws n l T F ok found)

  pub copy_last_pages : (n : ℕ) (l : Last S) (q : Option ℕ) (T : Mode S P) (F : Frame P B → Type 0)
      → StoppedOk m n l T F → to_copy m l ≡ q → KeptPages m laws T F (copy_last m v n l q)
  copy_last_pages n l (Some p) T F ok found =
      either (KeptPages m laws T F) (nat_le (2 ^ 32 - 1) l.copies) (refuses SeqSpent (Stopped n l))
      (sends_last m n l p) (λ _. ok) (λ below. last_copied_ok m laws n l p T F ok below)
  copy_last_pages n l None T F ok found = sends_state_pages _ _ n l T F ok found

  pub resend_last_pages : (n : ℕ) (l : Last S) (q : Option ℕ) (T : Mode S P)
      (F : Frame P B → Type 0) → StoppedOk m n l T F → to_copy m l ≡ q
      → KeptPages m laws T F (resend_last m v n l q)
  resend_last_pages n l (Some p) T F ok found = ok
  resend_last_pages n l None T F ok found = sends_state_pages _ _ n l T F ok found

  pub owner_pages : (c : Command E) (O T : Mode S P) (F R : Frame P B → Type 0) → Modes O T F R
      → Content m O T F → KeptPages m laws T F (obey m v c O)
  owner_pages (Board e) (Offering n g p) T F R i ok =
      let c = laws.same_length g e in let h = laws.same_processors g e in (
        λ a b z. let w = ok.0 a b z in (w.0 ∙ sym c, w.1 ∙ sym h),
        beside_same m laws n _ _ _ _ F T
            (sym c) (sym h) ok.1,
      )
  owner_pages (Board e) (Copying n r) T F R i ok = board_copying m laws e n r T F ok
  owner_pages (Board e) (Stopped n l) T F R i ok = ok
  owner_pages (Begin to p) (Run n g) T F R i ok =
      either (KeptPages m laws T F) (is_allowed p) (begin_allowed m p n g) (refuses BadSize (Run n g))
      (λ _. begin_pages m laws p n g T F R i) (λ _. tt)
  owner_pages (Begin to p) (Offering n g q) T F R i ok = ok
  owner_pages (Begin to p) (Copying n r) T F R i ok = ok
  owner_pages (Begin to p) (Stopped n l) T F R i ok = ok
  owner_pages Copy (Offering n g p) T F R i ok = ok
  owner_pages Copy (Copying n r) T F R i ok =
      either (KeptPages m laws T F) r.stop (says Stopping (Stopped n (stopped m r)))
      (copy_page m n r
      (least (λ x. r.to_send x && not (is_skipped r x)) r.scan
      (length (m.pages r.guest) - r.scan)))
      (λ s. stopping m laws n r T F ok i.meet
      (λ ns b h. let z : n < n = i.own (State n ns b) h in omega arith)
      (λ st j u x h. let z : n < n = i.own (Part n st j u x) h in omega arith) s)
      (λ s. copy_page_pages m laws n r _ T F ok s refl)
  owner_pages Copy (Stopped n l) T F R i ok = copy_last_pages n l (to_copy m l) T F ok refl
  owner_pages Resend (Offering n g p) T F R i ok =
      (offer_again m laws n g F ok.0, beside_more m laws n _ _ F _ T (λ f h. inl h) ok.1)
  owner_pages Resend (Copying n r) T F R i ok = ok
  owner_pages Resend (Stopped n l) T F R i ok = resend_last_pages n l (to_copy m l) T F ok refl
  owner_pages c (Empty n) T F R i ok = absurd i.meet
  owner_pages c (Given n kept) T F R i ok = absurd i.meet
  owner_pages c (Staging n s) T F R i ok = absurd i.meet
  owner_pages c O T F R i ok = tt
