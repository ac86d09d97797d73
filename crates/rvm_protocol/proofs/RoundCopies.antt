-- A round copies those of its pages that were not in the dirty log at its first look at them.
use Rattle.std.proofs.Common.{◌≡◌, ◌⊎◌, ◌↔◌, inl, inr, ℕ, zero, suc, ◌-◌, ◌/◌, ◌%◌, ◌^◌, ◌<◌, ◌≤◌, ◌==◌, true, false, not, ◌&&◌, if◌then◌else◌, nat_le, Option, Some, None, refl, sym, ap, ◌∙◌, subst, arith, leb-true, leb-false}
use Rattle.std.proofs.lemmas.Bool.{eqb-true, eqb-false, eq-eqb}
use Rattle.rvm_protocol.specs.Commands.{Command, Board, Begin, Copy, Resend, AbortMove}
use Rattle.rvm_protocol.specs.Guest.{Guest, IsGuest}
use Rattle.rvm_protocol.specs.Modes.{Mode, Copying, Stopped, says, refuses}
use Rattle.rvm_protocol.specs.Obeying.{obey, copy_page, sends_page}
use Rattle.rvm_protocol.specs.Replies.{Reply, SeqSpent, Stopping, Copied}
use Rattle.rvm_protocol.specs.RoundCopies.{first_beside, IsRound, CopiesAt, IsFirstLook, IsCopied, RoundsCopyWhatIsNotWrittenAgain}
use Rattle.rvm_protocol.specs.Rounds.{Rounds, is_skipped, page_count, next_page, stops, page_copied, round_over, next_round, stopped}
use Rattle.rvm_protocol.proofs.Basics.{and_not, and_not_false, both_false, IsLeast, least_found, least_none, same_or}

-- pages of a block that the scan has not begun are skipped if the log has them now
skip_before : {S : Type 0} (r : Rounds S) (p : ℕ) → r.scan ≤ first_beside p
    → is_skipped r p ≡ r.log p
skip_before r p le =
    elim (r.scan % 64 == 0) as
    (λ t. (r.scan % 64 == 0) ≡ t
    → (if not t && (p / 64 == r.scan / 64) then r.to_skip p else r.log p) ≡ r.log p) [
      | true ↦ λ e. refl
      | false ↦
          λ e. elim (p / 64 == r.scan / 64) as
          (λ u. (p / 64 == r.scan / 64) ≡ u → (if u then r.to_skip p else r.log p) ≡ r.log p) [
            | true ↦ λ d. absurd (let ne = eqb-false (r.scan % 64) 0 e in
                let same = eqb-true (p / 64) (r.scan / 64) d in
                omega (arith, ne, same, le))
            | false ↦ λ d. refl
          ] refl
    ] refl

-- pages of the scan's block are skipped if the log had them at the peek
skip_beside : {S : Type 0} (r : Rounds S) (p : ℕ) → first_beside p < r.scan → r.scan ≤ p
    → is_skipped r p ≡ r.to_skip p
skip_beside r p lt le =
    elim (r.scan % 64 == 0) as
    (λ t. (r.scan % 64 == 0) ≡ t
    → (if not t && (p / 64 == r.scan / 64) then r.to_skip p else r.log p) ≡ r.to_skip p) [
      | true ↦ λ e. absurd (let zero_rest = eqb-true (r.scan % 64) 0 e in
          omega (arith, zero_rest, lt, le))
      | false ↦
          λ e. elim (p / 64 == r.scan / 64) as
          (λ u. (p / 64 == r.scan / 64) ≡ u → (if u then r.to_skip p else r.log p) ≡ r.to_skip p) [
            | true ↦ λ d. refl
            | false ↦ λ d. absurd (let ne = eqb-false (p / 64) (r.scan / 64) d in
                omega (arith, ne, lt, le))
          ] refl
    ] refl

before_or_now : (j i : ℕ) → j < suc i → (j < i) ⊎ (j ≡ i)
before_or_now j i lt = elim (same_or j i) [
  | inl e ↦ inr e
  | inr ne ↦ inl (omega (arith, ne, lt))
]

at_or_behind : (p q : ℕ) → (p < q) ⊎ ((p ≡ q) ⊎ (q < p))
at_or_behind p q = elim (same_or p q) [
  | inl e ↦ inr (inl e)
  | inr ne ↦ elim (nat_le p q) as (λ t. nat_le p q ≡ t → (p < q) ⊎ ((p ≡ q) ⊎ (q < p))) [
    | true ↦ λ e. inl (let le = leb-true p q e in omega (arith, ne, le))
    | false ↦ λ e. inr (inr (let gt = leb-false p q e in omega (arith, gt)))
  ] refl
]

module _ {S P E A B : Type 0} (m : Guest S P E A B) (laws : IsGuest m) where
  -- the scan stays where it is
  pub record Keeps (r s : Rounds S) : Type 0 where
    pub to_send : s.to_send ≡ r.to_send
    pub to_skip : s.to_skip ≡ r.to_skip
    pub scan : s.scan ≡ r.scan
    pub sent : s.sent ≡ r.sent
    pub pages : page_count m s.guest ≡ page_count m r.guest

  pub record CopiesOne (r s : Rounds S) (reply : Reply A) (q : ℕ) : Type 0 where
    pub found : next_page m r ≡ Some q
    pub next : s ≡ page_copied m r q
    pub number : ℕ
    pub told : reply ≡ Copied q number

  -- what a command does in a round
  abbrev pub Step : (r s : Rounds S) → Reply A → Type 0
  Step r s reply =
      (Keeps r s × ((q k : ℕ) → reply ≡ Copied q k → ⊥)) ⊎ ((q : ℕ) × CopiesOne r s reply q)

  copying_is : (n : ℕ) (r s : Rounds S) → ◌≡◌ {A = Mode S P} (Copying n r) (Copying n s) → r ≡ s
  copying_is n r s h = cc

  copied_is : (q p k l : ℕ) → ◌≡◌ {A = Reply A} (Copied q k) (Copied p l) → q ≡ p
  copied_is q p k l h = cc

  keeps_same : (r s : Rounds S) → r ≡ s → Keeps r s
  keeps_same r s e =
      record {
        to_send = ap (λ x. x.to_send) (sym e);
        to_skip = ap (λ x. x.to_skip) (sym e);
        scan = ap (λ x. x.scan) (sym e);
        sent = ap (λ x. x.sent) (sym e);
        pages = ap (λ x. page_count m x.guest) (sym e);
      }

  step_copy : (n : ℕ) (r s : Rounds S) (q : Option ℕ) → next_page m r ≡ q → s.stop ≡ false
      → s.round ≡ r.round → (copy_page m n r q).next ≡ Copying n s
      → Step r s (copy_page m n r q).reply
  step_copy n r s (Some q) found runs same =
      elim (nat_le (2 ^ 32 - 1) r.copies) as
      (λ t. (if t then refuses SeqSpent (Copying n r) else sends_page m n r q).next ≡ Copying n s
      → Step r s (if t then refuses SeqSpent (Copying n r) else sends_page m n r q).reply) [
        | true ↦ λ h. inl (keeps_same r s (copying_is n r s h), λ p k z. cc)
        | false ↦
            λ h. inr (
              q,
              record {
                found = found;
                next = sym (copying_is n (page_copied m r q) s h);
                number = suc r.copies;
                told = refl;
              },
            )
      ]
  step_copy n r s None found runs same =
      elim (stops m r) as
      (λ t. ◌≡◌ {A = Mode S P} (Copying n (if t then round_over m r else next_round m r)) (Copying n s)
      → Step r s (copy_page m n r None).reply) [
        | true ↦
            λ h. absurd (both_false s.stop
            (sym (ap (λ x. x.stop) (copying_is n (round_over m r) s h))) runs)
        | false ↦
            λ h. absurd (let e = ap (λ x. x.round) (copying_is n (next_round m r) s h) in
            omega (arith, e, same))
      ]

  pub step : (version n : ℕ) (c : Command E) (r s : Rounds S) → r.stop ≡ false → s.stop ≡ false
      → s.round ≡ r.round → (obey m version c (Copying n r)).next ≡ Copying n s
      → Step r s (obey m version c (Copying n r)).reply
  step version n (Board e) r s runs goes same h =
      let is = copying_is n _ s h in
      inl (
        record {
          to_send = ap (λ x. x.to_send) (sym is);
          to_skip = ap (λ x. x.to_skip) (sym is);
          scan = ap (λ x. x.scan) (sym is);
          sent = ap (λ x. x.sent) (sym is);
          pages = ap (λ x. page_count m x.guest) (sym is) ∙ laws.same_length r.guest e;
        },
        λ q k z. cc,
      )
  step version n (Begin to p) r s runs goes same h =
      inl (keeps_same r s (copying_is n r s h), λ q k z. cc)
  step version n Copy r s runs goes same h =
      subst (λ t. (if t then says Stopping (Stopped n (stopped m r))
      else copy_page m n r (next_page m r)).next ≡ Copying n s
      → Step r s (if t then says Stopping (Stopped n (stopped m r))
      else copy_page m n r (next_page m r)).reply) (sym runs)
      (step_copy n r s (next_page m r) refl goes same) h
  step version n Resend r s runs goes same h =
      inl (keeps_same r s (copying_is n r s h), λ q k z. cc)
  step version n AbortMove r s runs goes same h = cc

  module _ (version n : ℕ) (commands : ℕ → Command E) (at : ℕ → Rounds S) (count p : ℕ)
      (round : IsRound m version n commands at count) (here : p < page_count m (at 0).guest) where
    abbrev First : ℕ → Type 0
    First look = IsFirstLook m version n commands at count (first_beside p) look

    abbrev Copies : (i q : ℕ) → Type 0
    Copies i q = CopiesAt m version n commands at i q

    abbrev NotCopied : ℕ → Type 0
    NotCopied i = (j : ℕ) → j < i → Copies j p → ⊥

    record Sets (i : ℕ) : Type 0 where
      to_send : (at i).to_send ≡ (at 0).to_send
      pages : page_count m (at i).guest ≡ page_count m (at 0).guest

    -- the 64 pages were not looked at yet
    record Unlooked (i : ℕ) : Type 0 where
      scan : (at i).scan ≤ first_beside p
      before : (j q : ℕ) → j < i → Copies j q → q < first_beside p

    -- they were, and the scan has not passed the page
    record Looked (i : ℕ) : Type 0 where
      look : ℕ
      first : First look
      beside : first_beside p < (at i).scan
      scan : (at i).scan ≤ p
      skipped : is_skipped (at i) p ≡ (at look).log p
      not_yet : NotCopied i

    -- it has: the page was copied or not
    record Passed (i : ℕ) : Type 0 where
      look : ℕ
      first : First look
      scan : p < (at i).scan
      fate : (((j : ℕ) × (j < i) × Copies j p)
          × ((at 0).to_send p ≡ true) × ((at look).log p ≡ false))
          ⊎ (NotCopied i × ((at 0).to_send p ≡ true → (at look).log p ≡ true))

    abbrev Status : ℕ → Type 0
    Status i = Unlooked i ⊎ (Looked i ⊎ Passed i)

    step_at : (i : ℕ) → i < count
        → Step (at i) (at (suc i)) (obey m version (commands i) (Copying n (at i))).reply
    step_at i lt =
        step version n (commands i) (at i) (at (suc i)) (round.goes_on i (omega (arith, lt)))
        (round.goes_on (suc i) (omega (arith, lt)))
        (round.same (suc i) (omega (arith, lt)) ∙ sym (round.same i (omega (arith, lt))))
        (round.each i lt)

    sets : (i : ℕ) → i ≤ count → Sets i
    sets zero le = record { to_send = refl; pages = refl }
    sets (suc i) le =
        let old = sets i (omega (arith, le)) in
        elim (step_at i (omega (arith, le))) [
          | inl keeps ↦
              record {
                to_send = keeps.0.to_send ∙ old.to_send;
                pages = keeps.0.pages ∙ old.pages;
              }
          | inr copies ↦
              record {
                to_send = ap (λ x. x.to_send) copies.1.next ∙ old.to_send;
                pages = ap (λ x. page_count m x.guest) copies.1.next ∙ old.pages;
              }
        ]

    beside_is : first_beside p ≤ p
    beside_is = omega arith

    -- no copy is made by a command that leaves the scan where it is
    no_later : (i j q : ℕ) → Keeps (at i) (at (suc i))
        → ((q k : ℕ) → (obey m version (commands i) (Copying n (at i))).reply ≡ Copied q k → ⊥)
        → j < suc i → Copies j q → j < i
    no_later i j q keeps silent lt copies =
        elim (before_or_now j i lt) [
          | inl before ↦ before
          | inr now ↦
              absurd (silent q copies.number
              (subst (λ x. (obey m version (commands x) (Copying n (at x))).reply
              ≡ Copied q copies.number) now copies.reply))
        ]

    -- a command makes one copy
    one_copy : (i q r : ℕ) → CopiesOne (at i) (at (suc i))
        (obey m version (commands i) (Copying n (at i))).reply q → Copies i r → r ≡ q
    one_copy i q r one copies = copied_is r q copies.number one.number (sym copies.reply ∙ one.told)

    copies_now : (i q : ℕ) → CopiesOne (at i) (at (suc i))
        (obey m version (commands i) (Copying n (at i))).reply q → Copies i q
    copies_now i q one = record { number = one.number; reply = one.told }

    least_at : (i q : ℕ) → next_page m (at i) ≡ Some q
        → IsLeast (λ x. (at i).to_send x && not (is_skipped (at i) x)) (at i).scan q
        (page_count m (at i).guest - (at i).scan)
    least_at i q found =
        least_found (λ x. (at i).to_send x && not (is_skipped (at i) x)) (at i).scan
        (page_count m (at i).guest - (at i).scan) q found

    kept : (i : ℕ) → i < count → Keeps (at i) (at (suc i))
        → ((q k : ℕ) → (obey m version (commands i) (Copying n (at i))).reply ≡ Copied q k → ⊥)
        → Status i → Status (suc i)
    kept i lt keeps silent (inl un) =
        inl (record {
          scan = (let e = keeps.scan in let le = un.scan in omega (arith, e, le));
          before = λ j q less copies. un.before j q (no_later i j q keeps silent less copies) copies;
        })
    kept i lt keeps silent (inr (inl looked)) =
        let e = keeps.scan in
        let b = looked.beside in
        let le = looked.scan in
        inr (inl (record {
          look = looked.look;
          first = looked.first;
          beside = omega (arith, e, b);
          scan = omega (arith, e, le);
          skipped =
              skip_beside (at (suc i)) p (omega (arith, e, b)) (omega (arith, e, le))
              ∙ ap (λ t. t p) keeps.to_skip ∙ sym (skip_beside (at i) p b le) ∙ looked.skipped;
          not_yet = λ j less copies. looked.not_yet j (no_later i j p keeps silent less copies) copies;
        }))
    kept i lt keeps silent (inr (inr passed)) =
        let e = keeps.scan in
        let over = passed.scan in
        inr (inr (record {
          look = passed.look;
          first = passed.first;
          scan = omega (arith, e, over);
          fate = elim passed.fate [
            | inl was ↦
                inl ((was.0.0, (let less = was.0.1 in omega (arith, less)), was.0.2), was.1, was.2)
            | inr never ↦
                inr (
                  λ j less copies. never.0 j (no_later i j p keeps silent less copies) copies,
                  never.1,
                )
          ];
        }))

    -- a copy of a page after p: p is passed, and was not to be copied
    missed : (i look q : ℕ) → i < count → First look → CopiesOne (at i) (at (suc i))
        (obey m version (commands i) (Copying n (at i))).reply q → NotCopied i → (at i).scan ≤ p
        → is_skipped (at i) p ≡ (at look).log p → p < q → Status (suc i)
    missed i look q lt first one not_yet le skipped less =
        let l = least_at i q one.found in
        let scan : (at (suc i)).scan ≡ suc q = ap (λ x. x.scan) one.next in
        inr (inr (record {
          look = look;
          first = first;
          scan = omega (arith, scan, less);
          fate = inr (
            λ j before copies. elim (before_or_now j i before) [
              | inl earlier ↦ not_yet j earlier copies
              | inr now ↦
                  (let e = one_copy i q p one (subst (λ x. Copies x p) now copies) in
                  absurd (omega (arith, e, less)))
            ],
            λ send. sym skipped ∙ and_not_false ((at i).to_send p) (is_skipped (at i) p)
                (l.below p le less)
                (ap (λ t. t p) (sets i (omega (arith, lt))).to_send ∙ send),
          );
        }))

    -- a copy of p
    taken : (i look : ℕ) → i < count → First look → CopiesOne (at i) (at (suc i))
        (obey m version (commands i) (Copying n (at i))).reply p
        → is_skipped (at i) p ≡ (at look).log p → Status (suc i)
    taken i look lt first one skipped =
        let l = least_at i p one.found in
        let scan : (at (suc i)).scan ≡ suc p = ap (λ x. x.scan) one.next in
        let both = and_not ((at i).to_send p) (is_skipped (at i) p) l.holds in
        inr (inr (record {
          look = look;
          first = first;
          scan = omega (arith, scan);
          fate = inl (
            (i, omega arith, copies_now i p one),
            sym (ap (λ t. t p) (sets i (omega (arith, lt))).to_send) ∙ both.0,
            sym skipped ∙ both.1,
          );
        }))

    -- a copy of a page before p, one of the same 64
    nearer : (i look q : ℕ) → i < count → First look → CopiesOne (at i) (at (suc i))
        (obey m version (commands i) (Copying n (at i))).reply q → NotCopied i
        → is_skipped (at i) p ≡ (at look).log p → first_beside p ≤ q → q < p → Status (suc i)
    nearer i look q lt first one not_yet skipped from less =
        let scan : (at (suc i)).scan ≡ suc q = ap (λ x. x.scan) one.next in
        let same : p / 64 ≡ q / 64 = omega (arith, from, less) in
        inr (inl (record {
          look = look;
          first = first;
          beside = omega (arith, scan, from);
          scan = omega (arith, scan, less);
          skipped =
              skip_beside (at (suc i)) p (omega (arith, scan, from)) (omega (arith, scan, less))
              ∙ ap (λ x. x.to_skip p) one.next
              ∙ ap (λ t. t && is_skipped (at i) p) (eq-eqb (p / 64) (q / 64) same) ∙ skipped;
          not_yet = λ j before copies. elim (before_or_now j i before) [
            | inl earlier ↦ not_yet j earlier copies
            | inr now ↦
                (let e = one_copy i q p one (subst (λ x. Copies x p) now copies) in
                absurd (omega (arith, e, less)))
          ];
        }))

    -- a copy while p is looked at, for the first time or again
    copied_beside : (i look q : ℕ) → i < count → First look → CopiesOne (at i) (at (suc i))
        (obey m version (commands i) (Copying n (at i))).reply q → NotCopied i → (at i).scan ≤ p
        → is_skipped (at i) p ≡ (at look).log p → first_beside p ≤ q → Status (suc i)
    copied_beside i look q lt first one not_yet le skipped from =
        elim (at_or_behind p q) [
          | inl less ↦ missed i look q lt first one not_yet le skipped less
          | inr rest ↦ elim rest [
            | inl e ↦
                taken i look lt first (subst (λ x. CopiesOne (at i) (at (suc i))
                (obey m version (commands i) (Copying n (at i))).reply x) (sym e) one) skipped
            | inr less ↦ nearer i look q lt first one not_yet skipped from less
          ]
        ]

    copied : (i q : ℕ) → i < count → CopiesOne (at i) (at (suc i))
        (obey m version (commands i) (Copying n (at i))).reply q → Status i → Status (suc i)
    copied i q lt one (inl un) =
        let not_yet : NotCopied i = λ j less copies.
        (let before = un.before j p less copies in let b = beside_is in omega (arith, before)) in
        let scan : (at (suc i)).scan ≡ suc q = ap (λ x. x.scan) one.next in
        elim (nat_le (first_beside p) q) as (λ t. nat_le (first_beside p) q ≡ t → Status (suc i)) [
          | true ↦ λ e.
              let from = leb-true (first_beside p) q e in
              let first : First i = record {
                within = omega (arith, lt);
                looks = inr (q, from, copies_now i q one);
                not_before = un.before;
              } in
              let le = un.scan in
              copied_beside i i q lt first one not_yet (omega (arith, le))
              (skip_before (at i) p un.scan) from
          | false ↦ λ e.
              let less : q < first_beside p = (let z = leb-false (first_beside p) q e in omega (arith, z)) in
              inl (record {
                scan = omega (arith, scan, less);
                before = λ j r before copies. elim (before_or_now j i before) [
                  | inl earlier ↦ un.before j r earlier copies
                  | inr now ↦
                      (let e = one_copy i q r one (subst (λ x. Copies x r) now copies) in
                      omega (arith, e, less))
                ];
              })
        ] refl
    copied i q lt one (inr (inl looked)) =
        let l = least_at i q one.found in
        let b = looked.beside in
        let from = l.from in
        copied_beside i looked.look q lt looked.first one looked.not_yet looked.scan looked.skipped
        (omega (arith, b, from))
    copied i q lt one (inr (inr passed)) =
        let l = least_at i q one.found in
        let over = passed.scan in
        let from = l.from in
        let scan : (at (suc i)).scan ≡ suc q = ap (λ x. x.scan) one.next in
        inr (inr (record {
          look = passed.look;
          first = passed.first;
          scan = omega (arith, scan, over, from);
          fate = elim passed.fate [
            | inl was ↦
                inl ((was.0.0, (let less = was.0.1 in omega (arith, less)), was.0.2), was.1, was.2)
            | inr never ↦
                inr (
                  λ j before copies. elim (before_or_now j i before) [
                    | inl earlier ↦ never.0 j earlier copies
                    | inr now ↦
                        (let e = one_copy i q p one (subst (λ x. Copies x p) now copies) in
                        absurd (omega (arith, e, over, from)))
                  ],
                  never.1,
                )
          ];
        }))

    status : (i : ℕ) → i ≤ count → Status i
    status zero le =
        inl (record {
          scan = (let e = round.begins in omega (arith, e));
          before = λ j q less copies. absurd (omega (arith, less));
        })
    status (suc i) le =
        let old = status i (omega (arith, le)) in
        elim (step_at i (omega (arith, le))) [
          | inl keeps ↦ kept i (omega (arith, le)) keeps.0 keeps.1 old
          | inr copies ↦ copied i copies.0 (omega (arith, le)) copies.1 old
        ]

    -- the round ends: a page that the scan has not passed is not copied
    left_at_end : (look : ℕ) → next_page m (at count) ≡ None → First look → NotCopied count
        → (at count).scan ≤ p → is_skipped (at count) p ≡ (at look).log p
        → IsCopied m version n commands at count p
        ↔ (((at 0).to_send p ≡ true) × ((at look).log p ≡ false))
    left_at_end look ended first not_yet le skipped = (
      λ was. absurd (not_yet was.0 was.1 was.2),
      λ due. absurd (both_false (is_skipped (at count) p)
          (and_not_false ((at count).to_send p) (is_skipped (at count) p)
          (least_none (λ x. (at count).to_send x && not (is_skipped (at count) x)) (at count).scan
          (page_count m (at count).guest - (at count).scan) ended p le
          (let few = (sets count (omega arith)).pages in omega (arith, few, le, here)))
          (ap (λ t. t p) (sets count (omega arith)).to_send ∙ due.0)) (skipped ∙ due.1)),
    )

    at_end : next_page m (at count) ≡ None → Status count
        → (look : ℕ) × First look × (IsCopied m version n commands at count p
        ↔ (((at 0).to_send p ≡ true) × ((at look).log p ≡ false)))
    at_end ended (inl un) =
        let first : First count = record {
          within = omega arith;
          looks = inl refl;
          not_before = un.before;
        } in
        let le = un.scan in
        let not_yet : NotCopied count = λ j less copies.
        (let before = un.before j p less copies in omega (arith, before)) in (
          count,
          first,
          left_at_end count ended first not_yet (omega (arith, le))
              (skip_before (at count) p un.scan),
        )
    at_end ended (inr (inl looked)) = (
      looked.look,
      looked.first,
      left_at_end looked.look ended looked.first looked.not_yet looked.scan looked.skipped,
    )
    at_end ended (inr (inr passed)) = (
      passed.look,
      passed.first,
      elim passed.fate [
        | inl was ↦ (λ c. (was.1, was.2), λ due. was.0)
        | inr never ↦ (
          λ c. absurd (never.0 c.0 c.1 c.2),
          λ due. absurd (both_false ((at passed.look).log p) (never.1 due.0) due.1),
        )
      ],
    )

  pub round_law : (version n : ℕ) → RoundsCopyWhatIsNotWrittenAgain m version n
  unfolding RoundsCopyWhatIsNotWrittenAgain
  round_law version n commands at count p round ended here =
      at_end version n commands at count p round here ended
      (status version n commands at count p round here count (omega arith))
