-- The frames that a move sends of a guest lead a host that waits to run this guest.
use Rattle.std.proofs.Common.{◌≡◌, ◌≢◌, ◌⊎◌, inl, inr, ℕ, zero, suc, ◌+◌, ◌<◌, ◌≤◌, ◌==◌, nat_lt, ◌&&◌, Bool, true, false, if◌then◌else◌, List, [], ◌∷◌, ◌++◌, length, get_or, set, Some, refl, sym, ap, ◌∙◌, subst, arith, ext_get_or}
use Rattle.std.proofs.lemmas.Bool.{eq-eqb, lt-ltb, le-ltb, ne_eqb}
use Rattle.std.proofs.lemmas.List.{length-set, length-replicate, get_or-set_same, get_or-set_other}
use Rattle.rvm_protocol.specs.Commands.{Came}
use Rattle.rvm_protocol.specs.Frames.{Frame, Offer, Accept, Refuse, RoundEnd, State, Ready, Go, plain}
use Rattle.rvm_protocol.specs.Guest.{Guest, IsGuest}
use Rattle.rvm_protocol.specs.Host.{Host, settled}
use Rattle.rvm_protocol.specs.Modes.{Mode, Empty, Run, Staging, Held, Outcome, says, sends}
use Rattle.rvm_protocol.specs.Pages.{listed, put, size}
use Rattle.rvm_protocol.specs.Receiving.{came, state_compared, guest_read}
use Rattle.rvm_protocol.specs.Replies.{Accepted, Declined, Stored, ReadySent}
use Rattle.rvm_protocol.specs.Rounds.{page_of}
use Rattle.rvm_protocol.specs.Staging.{Stage, new_stage, with_page, lacks}
use Rattle.rvm_command.specs.SentFrames.{after_frame, after_frames, frames_sent, page_sent, waiting}

if_true : {X : Type 0} (b : Bool) (x y : X) → b ≡ true → (if b then x else y) ≡ x
if_true b x y h = ap (λ (t : Bool). if t then x else y) h

if_false : {X : Type 0} (b : Bool) (x y : X) → b ≡ false → (if b then x else y) ≡ y
if_false b x y h = ap (λ (t : Bool). if t then x else y) h

and_true : (a b : Bool) → a ≡ true → b ≡ true → (a && b) ≡ true
and_true true b h k = k
and_true false b h k = cc

same_or : (a b : ℕ) → (a ≡ b) ⊎ (a ≢ b)
same_or zero zero = inl refl
same_or zero (suc b) = inr (λ e. cc)
same_or (suc a) zero = inr (λ e. cc)
same_or (suc a) (suc b) = elim (same_or a b) [
  | inl e ↦ inl (ap suc e)
  | inr n ↦ inr (λ e. n (omega (arith, e)))
]

put_same : {V : Type 0} (f : ℕ → V) (p : ℕ) (v : V) → put f p v p ≡ v
put_same f p v = if_true (p == p) v (f p) (eq-eqb p p refl)

put_other : {V : Type 0} (f : ℕ → V) (p q : ℕ) (v : V) → q ≢ p → put f p v q ≡ f q
put_other f p q v n = if_false (q == p) v (f q) (ne_eqb q p n)

listed_length : {V : Type 0} (f : ℕ → V) (first count : ℕ) → length (listed f first count) ≡ count
unfolding listed
listed_length f first zero = refl
listed_length f first (suc count) = ap suc (listed_length f (suc first) count)

listed_at : {V : Type 0} (f : ℕ → V) (d : V) (first count i : ℕ) → i < count → get_or (listed f first count) i d ≡ f (first + i)
unfolding listed
listed_at f d first zero i lt = absurd (omega (arith, lt))
listed_at f d first (suc count) zero lt = let z : first ≡ first + 0 = omega arith in ap f z
listed_at f d first (suc count) (suc i) lt =
    let z : suc first + i ≡ first + suc i = omega arith in
    listed_at f d (suc first) count i (omega (arith, lt)) ∙ ap f z

size_of_none : (s : ℕ → Bool) (n : ℕ) → ((q : ℕ) → q < n → s q ≡ false) → size s n ≡ 0
unfolding size
size_of_none s zero h = refl
size_of_none s (suc n) h =
    let a = size_of_none s n (λ q lt. h q (omega arith)) in let b = if_false {X = ℕ} (s n) 1 0
    (h n (omega arith)) in omega (arith, a, b)

module _ {S P E A B : Type 0} (m : Guest S P E A B) (laws : IsGuest m) (g : S)
    (room : length (m.pages g) ≤ 4096) (valid : m.valid g ≡ true) where
  abbrev n : ℕ
  n = length (m.pages g)

  -- host 1 in this mode, once it has accepted the offer
  abbrev at : Mode S P → Host S P
  at mode = record { mode = mode; partner = 0 }

  hears : (f : Frame P B) (mode : Mode S P) (o : Outcome S P A B) → came m 4096 (plain m f) mode ≡ o
      → after_frame m f (at mode) ≡ (settled m 1 1 (Came 0 f) 0 o).next
  hears f mode o is = ap (λ (z : Outcome S P A B). (settled m 1 1 (Came 0 f) 0 z).next) is

  -- the stage after p copies came
  stage_at : ℕ → Stage P
  stage_at zero = new_stage m.zeros n (m.processors g)
  stage_at (suc p) = with_page (stage_at p) p (suc p) (page_of m g p)

  offer_comes : after_frame m (Offer 1 n (m.processors g)) waiting ≡ at (Staging 1 (stage_at 0))
  unfolding stage_at
  offer_comes =
      ap (λ (z : Outcome S P A B). (settled m 1 1 (Came 0 (Offer 1 n (m.processors g))) 1 z).next)
      (if_false (nat_lt 4096 n) (sends (Declined 4096) (Refuse 1 4096) (Empty 0))
      (sends Accepted (Accept 1) (Staging 1 (new_stage m.zeros n (m.processors g)))) (le-ltb 4096 n room))

  record Staged (p : ℕ) (s : Stage P) : Type 0 where
    count_is : length s.pages ≡ n
    have : (q : ℕ) → q < p → s.have q ≡ suc q
    have_not : (q : ℕ) → p ≤ q → s.have q ≡ 0
    page : (q : ℕ) → q < p → get_or s.pages q m.zeros ≡ page_of m g q
    processors : s.processors ≡ m.processors g

  staged_more : (p : ℕ) (s : Stage P) → p < n → Staged p s
      → Staged (suc p) (with_page s p (suc p) (page_of m g p))
  staged_more p s lt k =
      record {
        count_is = length-set s.pages p (page_of m g p) ∙ k.count_is;
        have = λ q before. elim (same_or q p) [
          | inl z ↦ ap (put s.have p (suc p)) z ∙ put_same s.have p (suc p) ∙ ap suc (sym z)
          | inr z ↦ put_other s.have p q (suc p) z ∙ k.have q (omega (arith, z))
        ];
        have_not =
            λ q le. put_other s.have p q (suc p) (λ z. let y : q ≡ p = z in omega arith)
            ∙ k.have_not q (omega arith);
        page = λ q before. elim (same_or q p) [
          | inl z ↦
              subst (λ w. get_or (set s.pages p (page_of m g p)) w m.zeros ≡ page_of m g w) (sym z)
              (get_or-set_same s.pages p (page_of m g p) m.zeros
              (let y = k.count_is in omega (arith, y)))
          | inr z ↦
              get_or-set_other s.pages p q (page_of m g p) m.zeros z ∙ k.page q (omega (arith, z))
        ];
        processors = k.processors;
      }

  staged : (p : ℕ) → p ≤ n → Staged p (stage_at p)
  unfolding stage_at
  staged zero le =
      record {
        count_is = length-replicate n m.zeros;
        have = λ q lt. absurd (omega arith);
        have_not = λ q le. refl;
        page = λ q lt. absurd (omega arith);
        processors = refl;
      }
  staged (suc p) le = staged_more p (stage_at p) (omega arith) (staged p (omega arith))

  page_taken : (p : ℕ) → p < n
      → came m 4096 (page_sent m g p) (Staging 1 (stage_at p)) ≡ says
      (Stored p (suc p)) (Staging 1 (with_page (stage_at p) p (suc p) (page_of m g p)))
  page_taken p lt =
      let s = stage_at p in
      let k = staged p (omega arith) in
      if_true (nat_lt p (length s.pages) && nat_lt (s.have p) (suc p)) _ _
      (and_true _ _ (lt-ltb p (length s.pages) (let z = k.count_is in omega (arith, z)))
      (lt-ltb (s.have p) (suc p) (let z = k.have_not p (omega arith) in omega (arith, z))))

  page_comes : (p : ℕ) → p < n
      → after_frame m (page_sent m g p) (at (Staging 1 (stage_at p))) ≡ at (Staging 1 (stage_at (suc p)))
  unfolding stage_at
  page_comes p lt =
      hears (page_sent m g p) (Staging 1 (stage_at p))
      (says (Stored p (suc p)) (Staging 1 (with_page (stage_at p) p (suc p) (page_of m g p)))) (page_taken p lt)

  pages_come : (c p : ℕ) (rest : List (Frame P B)) → p + c ≡ n
      → after_frames m (listed (page_sent m g) p c ++ rest) (at (Staging 1 (stage_at p)))
      ≡ after_frames m rest (at (Staging 1 (stage_at n)))
  unfolding listed after_frames
  pages_come zero p rest is =
      let z : p ≡ n = omega (arith, is) in ap (λ q. after_frames m rest (at (Staging 1 (stage_at q)))) z
  pages_come (suc c) p rest is =
      ap (after_frames m (listed (page_sent m g) (suc p) c ++ rest)) (page_comes p (omega (arith, is)))
      ∙ pages_come c (suc p) rest (omega (arith, is))

  state_taken : came m 4096 (State 1 (listed suc 0 n) (m.body g)) (Staging 1 (stage_at n))
      ≡ sends ReadySent (Ready 1) (Held 1 g)
  state_taken =
      let t = stage_at n in
      let k = staged n (omega arith) in
      let c : length t.pages ≡ n = k.count_is in
      let same : t.pages ≡ m.pages g = ext_get_or m.zeros t.pages (m.pages g) c
      (λ p lt. k.page p (omega (arith, c, lt))) in
      let here : size (lacks t (listed suc 0 n)) (length t.pages) ≡ 0 = size_of_none
      (lacks t (listed suc 0 n)) (length t.pages) (λ q lt.
      let inside : q < n = omega (arith, c) in
      le-ltb (t.have q) (get_or (listed suc 0 n) q 0) (
      let a : t.have q ≡ suc q = k.have q inside in
      let b : get_or (listed suc 0 n) q 0 ≡ suc (0 + q) = listed_at suc 0 0 n q inside in
      omega (arith, a, b)
      )) in
      let count = size (lacks t (listed suc 0 n)) (length t.pages) in
      let build : m.build t.processors (m.body g) t.pages ≡ Some g = ap
      (λ z. m.build z (m.body g) t.pages) k.processors
      ∙ ap (m.build (m.processors g) (m.body g)) same ∙ laws.read_back g valid in
      if_true (length (listed suc 0 n) == length t.pages)
      (state_compared m 1 t t (listed suc 0 n) (m.body g)) _
      (eq-eqb (length (listed suc 0 n)) (length t.pages) (listed_length suc 0 n ∙ sym c))
      ∙ if_false (nat_lt 0 count) _
      (guest_read m 1 t (m.build t.processors (m.body g) t.pages))
      (le-ltb 0 count (omega (arith, here)))
      ∙ ap (guest_read m 1 t) build

  -- the state comes, and the commit
  state_comes : after_frames m (State 1 (listed suc 0 n) (m.body g) ∷ Go 1 ∷ []) (at (Staging 1 (stage_at n)))
      ≡ at (Run 1 g)
  unfolding after_frames
  state_comes =
      ap (after_frames m (Go 1 ∷ []))
      (hears (State 1 (listed suc 0 n) (m.body g)) (Staging 1 (stage_at n)) (sends ReadySent (Ready 1) (Held 1 g)) state_taken)

  pub arrives : after_frames m (frames_sent m g) waiting ≡ at (Run 1 g)
  unfolding after_frames
  arrives =
      let last : List (Frame P B) = RoundEnd 1 1 n 0 0 ∷ State 1 (listed suc 0 n) (m.body g) ∷ Go 1 ∷ [] in
      ap (after_frames m (listed (page_sent m g) 0 n ++ last)) offer_comes
      ∙ pages_come n 0 last (omega arith)
      ∙ state_comes
