-- A round's end tells how many of its replies were copies, and how many of its pages had none.
use Rattle.std.proofs.Common.{◌≡◌, inl, inr, ℕ, zero, suc, ◌+◌, ◌-◌, ◌<◌, ◌≤◌, ◌==◌, Bool, true, false, not, ◌&&◌, ◌||◌, if◌then◌else◌, None, refl, sym, ap, ◌∙◌, subst, arith}
use Rattle.std.proofs.lemmas.Bool.{eqb-true, eq-eqb, ne_eqb}
use Rattle.rvm_protocol.specs.Commands.{Command, Copy}
use Rattle.rvm_protocol.specs.Guest.{Guest, IsGuest}
use Rattle.rvm_protocol.specs.Modes.{Copying, Stopped, says}
use Rattle.rvm_protocol.specs.Obeying.{obey, copy_page}
use Rattle.rvm_protocol.specs.Pages.{Pages, size}
use Rattle.rvm_protocol.specs.Replies.{Reply, Copied, RoundEnded, Stopping}
use Rattle.rvm_protocol.specs.RoundCopies.{IsRound, RoundsTellTheirCopies, copies_among, is_copy, is_copy_of, pages_among}
use Rattle.rvm_protocol.specs.Rounds.{Rounds, is_skipped, next_page, page_count, stopped}
use Rattle.rvm_protocol.proofs.Basics.{and_not, both_false, least_found, or_true, same_or}
use Rattle.rvm_protocol.proofs.RoundCopies.{CopiesOne, Keeps, Step, step}

-- SIZES OF SETS

size_same : (s t : Pages) (n : ℕ) → ((p : ℕ) → s p ≡ t p) → size s n ≡ size t n
unfolding size
size_same s t zero same = refl
size_same s t (suc n) same = λ i. (if same n i then 1 else 0) + size_same s t n same i

size_nothing : (s : Pages) (n : ℕ) → ((p : ℕ) → s p ≡ false) → size s n ≡ 0
unfolding size
size_nothing s zero none = refl
size_nothing s (suc n) none =
    let rest = size_nothing s n none in
    ap (λ t. (if t then 1 else 0) + size s n) (none n) ∙ rest_only (size s n) rest
  where
    rest_only : (x : ℕ) → x ≡ 0 → 0 + x ≡ 0
    rest_only x h = omega (arith, h)

size_next : (s : Pages) (n : ℕ) (b : Bool) → s n ≡ b → size s (suc n) ≡ (if b then suc (size s n) else size s n)
unfolding size
size_next s n b is = ap (λ t. (if t then 1 else 0) + size s n) is ∙ added b (size s n)
  where
    added : (b : Bool) (x : ℕ) → (if b then 1 else 0) + x ≡ (if b then suc x else x)
    added true x = omega arith
    added false x = omega arith

-- members below the new one are the same
size_below : (s : Pages) (q n : ℕ) → n ≤ q → size (λ p. p == q || s p) n ≡ size s n
unfolding size
size_below s q zero le = refl
size_below s q (suc n) le =
    (λ i. (if ne_eqb n q (λ e. omega (arith, e, le)) i || s n then 1 else 0) + size (λ p. p == q || s p) n)
    ∙ ap (λ z. (if s n then 1 else 0) + z) (size_below s q n (omega (arith, le)))

-- one member more
size_one_more : (s : Pages) (q n : ℕ) → q < n → s q ≡ false → size (λ p. p == q || s p) n ≡ suc (size s n)
unfolding size
size_one_more s q zero lt new = absurd (omega (arith, lt))
size_one_more s q (suc n) lt new =
    elim (same_or n q) [
      | inl e ↦
          here (n == q) (s n) (size (λ p. p == q || s p) n) (size s n) (eq-eqb n q e)
          (subst (λ z. s z ≡ false) (sym e) new) (size_below s q n (omega (arith, e)))
      | inr ne ↦
          behind (n == q) (s n) (size (λ p. p == q || s p) n) (size s n) (ne_eqb n q ne)
          (size_one_more s q n (omega (arith, lt, ne)) new)
    ]
  where
    here : (a b : Bool) (x y : ℕ) → a ≡ true → b ≡ false → x ≡ y
        → (if a || b then 1 else 0) + x ≡ suc ((if b then 1 else 0) + y)
    here true false x y t f h = omega (arith, h)
    here true true x y t f h = cc
    here false b x y t f h = cc

    behind : (a b : Bool) (x y : ℕ) → a ≡ false → x ≡ suc y
        → (if a || b then 1 else 0) + x ≡ suc ((if b then 1 else 0) + y)
    behind false true x y f h = omega (arith, h)
    behind false false x y f h = omega (arith, h)
    behind true b x y f h = cc

-- the rest of a set
size_rest : (s t : Pages) (n : ℕ) → ((p : ℕ) → t p ≡ true → s p ≡ true)
    → size (λ p. s p && not (t p)) n + size t n ≡ size s n
unfolding size
size_rest s t zero among = refl
size_rest s t (suc n) among =
    sums (s n) (t n) (size (λ p. s p && not (t p)) n) (size t n) (size s n) (among n) (size_rest s t n among)
  where
    sums : (a b : Bool) (x y z : ℕ) → (b ≡ true → a ≡ true) → x + y ≡ z
        → ((if a && not b then 1 else 0) + x) + ((if b then 1 else 0) + y) ≡ (if a then 1 else 0) + z
    sums true true x y z up h = omega (arith, h)
    sums true false x y z up h = omega (arith, h)
    sums false true x y z up h = let not_so = up refl in cc
    sums false false x y z up h = omega (arith, h)

-- REPLIES

no_copy : {A : Type 0} (r : Reply A) → ((q k : ℕ) → r ≡ Copied q k → ⊥) → is_copy r ≡ false
no_copy (Copied q k) other = absurd (other q k refl)
no_copy r other = refl

no_copy_of : {A : Type 0} (p : ℕ) (r : Reply A) → ((q k : ℕ) → r ≡ Copied q k → ⊥) → is_copy_of p r ≡ false
no_copy_of p (Copied q k) other = absurd (other q k refl)
no_copy_of p r other = refl

module _ {S P E A B : Type 0} (m : Guest S P E A B) (laws : IsGuest m) (version n : ℕ)
    (commands : ℕ → Command E) (at : ℕ → Rounds S) (count : ℕ)
    (round : IsRound m version n commands at count) (fresh : (at 0).sent ≡ 0) where
  abbrev pages : ℕ
  pages = page_count m (at 0).guest

  abbrev reply_at : ℕ → Reply A
  reply_at i = (obey m version (commands i) (Copying n (at i))).reply

  abbrev copies : Pages
  copies = copies_among m version n commands at

  abbrev copied : ℕ → Pages
  copied i = pages_among m version n commands at i

  step_at : (i : ℕ) → i < count → Step m laws (at i) (at (suc i)) (reply_at i)
  step_at i lt =
      step m laws version n (commands i) (at i) (at (suc i)) (round.goes_on i (omega (arith, lt)))
      (round.goes_on (suc i) (omega (arith, lt)))
      (round.same (suc i) (omega (arith, lt)) ∙ sym (round.same i (omega (arith, lt))))
      (round.each i lt)

  copied_next : (i p : ℕ) (b : Bool) → is_copy_of p (reply_at i) ≡ b → copied (suc i) p ≡ (b || copied i p)
  unfolding pages_among
  copied_next i p b is = ap (λ t. t || copied i p) is

  copied_none : (p : ℕ) → copied 0 p ≡ false
  unfolding pages_among
  copied_none p = refl

  no_size : size copies 0 ≡ 0
  unfolding size
  no_size = refl

  -- the copies so far
  record Tally (i : ℕ) : Type 0 where
    to_send : (at i).to_send ≡ (at 0).to_send
    same : page_count m (at i).guest ≡ pages
    sent : (at i).sent ≡ size copies i
    passed : (p : ℕ) → copied i p ≡ true → p < (at i).scan
    member : (p : ℕ) → copied i p ≡ true → (at 0).to_send p ≡ true
    counted : size (copied i) pages ≡ (at i).sent

  begins : Tally 0
  begins =
      record {
        to_send = refl;
        same = refl;
        sent = fresh ∙ sym no_size;
        passed = λ p h. absurd (both_false (copied 0 p) h (copied_none p));
        member = λ p h. absurd (both_false (copied 0 p) h (copied_none p));
        counted = size_nothing (copied 0) pages copied_none ∙ sym fresh;
      }

  keeps : (i : ℕ) → Keeps m laws (at i) (at (suc i)) → ((q k : ℕ) → reply_at i ≡ Copied q k → ⊥) → Tally i → Tally (suc i)
  keeps i kept silent old =
      let same_set : (p : ℕ) → copied (suc i) p ≡ copied i p =
      λ p. copied_next i p false (no_copy_of p (reply_at i) silent)
      in
      record {
        to_send = kept.to_send ∙ old.to_send;
        same = kept.pages ∙ old.same;
        sent = kept.sent ∙ old.sent ∙ sym (size_next copies i false (no_copy (reply_at i) silent));
        passed = λ p h. subst (λ z. p < z) (sym kept.scan) (old.passed p (sym (same_set p) ∙ h));
        member = λ p h. old.member p (sym (same_set p) ∙ h);
        counted = size_same (copied (suc i)) (copied i) pages same_set ∙ old.counted ∙ sym kept.sent;
      }

  one_more : (i q : ℕ) → CopiesOne m laws (at i) (at (suc i)) (reply_at i) q → Tally i → Tally (suc i)
  one_more i q one old =
      let r = at i in
      let l = least_found (λ x. r.to_send x && not (is_skipped r x)) r.scan (page_count m r.guest - r.scan) q one.found in
      let from = l.from in
      let inside : q < pages = (let a = l.inside in let e = old.same in omega (arith, a, e, from)) in
      let due : (at 0).to_send q ≡ true =
      sym (ap (λ t. t q) old.to_send) ∙ (and_not (r.to_send q) (is_skipped r q) l.holds).0
      in
      let scan : (at (suc i)).scan ≡ suc q = ap (λ x. x.scan) one.next in
      let sent : (at (suc i)).sent ≡ suc r.sent = ap (λ x. x.sent) one.next in
      let set : (p : ℕ) → copied (suc i) p ≡ (p == q || copied i p) =
      λ p. copied_next i p (p == q) (ap (is_copy_of p) one.told)
      in
      let new : copied i q ≡ false = not_yet (copied i q) (λ h. let lt = old.passed q h in omega (arith, lt, from)) in
      record {
        to_send = ap (λ x. x.to_send) one.next ∙ old.to_send;
        same = ap (λ x. page_count m x.guest) one.next ∙ old.same;
        sent = sent ∙ ap suc old.sent ∙ sym (size_next copies i true (ap is_copy one.told));
        passed = λ p h. elim (or_true (p == q) (copied i p) (sym (set p) ∙ h)) [
          | inl e ↦ (let same = eqb-true p q e in omega (arith, same, scan))
          | inr before ↦ (let lt = old.passed p before in omega (arith, lt, from, scan))
        ];
        member = λ p h. elim (or_true (p == q) (copied i p) (sym (set p) ∙ h)) [
          | inl e ↦ subst (λ z. (at 0).to_send z ≡ true) (sym (eqb-true p q e)) due
          | inr before ↦ old.member p before
        ];
        counted =
            size_same (copied (suc i)) (λ p. p == q || copied i p) pages set
            ∙ size_one_more (copied i) q pages inside new ∙ ap suc old.counted ∙ sym sent;
      }
    where
      not_yet : (b : Bool) → (b ≡ true → ⊥) → b ≡ false
      not_yet true never = absurd (never refl)
      not_yet false never = refl

  tally : (i : ℕ) → i ≤ count → Tally i
  tally zero le = begins
  tally (suc i) le =
      let old = tally i (omega (arith, le)) in
      elim (step_at i (omega (arith, le))) [
        | inl kept ↦ keeps i kept.0 kept.1 old
        | inr one ↦ one_more i one.0 one.1 old
      ]

  round_end : (r : Rounds S) → r.stop ≡ false → next_page m r ≡ None
      → (obey {E = E} m version Copy (Copying n r)).reply
      ≡ RoundEnded r.round r.sent (size r.to_send (page_count m r.guest) - r.sent) (size r.log (page_count m r.guest))
  round_end r runs none =
      ap (λ (t : Bool). (if t then says Stopping (Stopped n (stopped m r)) else copy_page m n r (next_page m r)).reply) runs
      ∙ ap (λ q. (copy_page m n r q).reply) none

  told : next_page m (at count) ≡ None
      → (obey {E = E} m version Copy (Copying n (at count))).reply
      ≡ RoundEnded (at 0).round (size copies count) (size (λ p. (at 0).to_send p && not (copied count p)) pages)
      (size (at count).log (page_count m (at count).guest))
  told none =
      let t = tally count (omega arith) in
      let total : size (at count).to_send (page_count m (at count).guest) ≡ size (at 0).to_send pages =
      λ i. size (t.to_send i) (t.same i)
      in
      let rest = size_rest (at 0).to_send (copied count) pages t.member in
      let c = t.counted in
      let skipped : size (at count).to_send (page_count m (at count).guest) - (at count).sent
      ≡ size (λ p. (at 0).to_send p && not (copied count p)) pages = omega (arith, total, rest, c)
      in
      let left = size (at count).log (page_count m (at count).guest) in
      round_end (at count) (round.goes_on count (omega arith)) none
      ∙ (λ i. RoundEnded (round.same count (omega arith) i) (t.sent i) (skipped i) left)

module _ {S P E A B : Type 0} (m : Guest S P E A B) (laws : IsGuest m) where
  pub tell_law : (version n : ℕ) → RoundsTellTheirCopies m version n
  unfolding RoundsTellTheirCopies
  tell_law version n commands at count round fresh none =
      told m laws version n commands at count round fresh none
