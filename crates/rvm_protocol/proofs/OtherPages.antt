-- The third part of the invariant is kept by frames that come, at either host, and by commands at
-- the other host.
use Rattle.std.proofs.Common.{◌≡◌, inl, inr, ℕ, suc, ◌<◌, ◌≤◌, ◌==◌, true, ◌&&◌, nat_lt, List, length, get_or, set, Option, Some, None, refl, sym, ap, ◌∙◌, subst, arith, ext_get_or, ◌+◌, [], if◌then◌else◌, Bool, ◌||◌, ◌∷◌, add-zero, zero}
use Rattle.std.proofs.lemmas.Bool.{ltb-true, ltb-false, eqb-true}
use Rattle.std.proofs.lemmas.List.{length-set, length-replicate, get_or-set_same, get_or-set_other}
use Rattle.rvm_protocol.specs.Frames.{Frame, Offer, Accept, Refuse, Page, RoundEnd, Lost, State, Ready, Go, Started, Abort, Part}
use Rattle.rvm_protocol.specs.Guest.{Guest, IsGuest}
use Rattle.rvm_protocol.specs.Modes.{Mode, Empty, Run, Offering, Copying, Stopped, Given, Staging, Held, Outcome, ignores, says, sends, move_of, guest_in}
use Rattle.rvm_protocol.specs.Pages.{size, put, gathered, with_first}
use Rattle.rvm_protocol.specs.Receiving.{came, offered, offer_above, of_this_move}
use Rattle.rvm_protocol.specs.Replies.{Reply, Committed, Accepted, Declined, Stored}
use Rattle.rvm_protocol.specs.Rounds.{Rounds, Last}
use Rattle.rvm_protocol.specs.Staging.{Stage, lacks, new_stage, with_page, takes_part, with_part}
use Rattle.rvm_protocol.proofs.PairInvariant.{More, Modes, StageOk, BesideOk, CopyingOk, TrueState, HeldOk, StoppedOk, Content}
use Rattle.rvm_protocol.proofs.CurrentModes.{either, held_num}
use Rattle.rvm_protocol.proofs.OtherModes.{alone, copying_num, stopped_num}
use Rattle.rvm_protocol.proofs.Basics.{some_is, same_or, size_none, put_same, put_other, and_first, is_either, none_some, and_both}
use Rattle.rvm_protocol.proofs.CurrentPages.{open_ok, fixing}
use Rattle.rvm_protocol.proofs.StateCases.{state_cases, part_cases}

module _ {S P E A B : Type 0} (m : Guest S P E A B) (laws : IsGuest m) where
  pub commits_pages : (n : ℕ) (l : Last S) (T : Mode S P) (F R : Frame P B → Type 0)
      → Modes (Stopped n l) T F R → R (Ready n) → Content m T (Given n l.guest) R
  commits_pages n l (Held n' g) F R i came = tt
  commits_pages n l (Staging n' s) F R i came = tt
  commits_pages n l (Empty k) F R i came = tt
  commits_pages n l (Run k g) F R i came = tt
  commits_pages n l (Offering k g p) F R i came = absurd i.meet
  commits_pages n l (Copying k r) F R i came = absurd i.meet
  commits_pages n l (Stopped k q) F R i came = absurd i.meet
  commits_pages n l (Given k kept) F R i came = tt

  abbrev pub turned_pages : Mode S P → (Frame P B → Type 0) → (Frame P B → Type 0) → Reply A
      → Mode S P → Option (Frame P B) → Type 0
  turned_pages T F R (Committed n) O x = Content m T O R
  turned_pages T F R r O x = Content m O T (More F x)

  abbrev pub AfterPages : Mode S P → (Frame P B → Type 0) → (Frame P B → Type 0) → Outcome S P A B
      → Type 0
  AfterPages T F R o = turned_pages T F R o.reply o.next o.made

  equal_pages : (n k : ℕ) (o : Outcome S P A B) (O T : Mode S P) (F R : Frame P B → Type 0)
      → Content m O T F → (n ≡ k → AfterPages T F R o) → AfterPages T F R (of_this_move m n k o O)
  equal_pages n k o O T F R ok f =
      either (AfterPages T F R) (n == k) o (ignores O) (λ e. f (eqb-true n k e)) (λ _. ok)

  -- a frame that comes to the current host
  pub owner_pages_came : (limit : ℕ) (f : Frame P B) (O T : Mode S P) (F R : Frame P B → Type 0)
      → R f → Modes O T F R → Content m O T F → AfterPages T F R (came m limit f O)
  owner_pages_came limit (Offer k a b) (Held n g) T F R h i ok =
      either (AfterPages T F R) (nat_lt n k) (offered m limit k a b (Held n g)) (ignores (Held n g))
      (λ e. let lt : n < k = ltb-true n k e in let le : k < suc (move_of T) = i.their
      (Offer k a b) h in let same : move_of T ≡ n = held_num n T i.meet in absurd (omega arith))
      (λ _. ok)
  owner_pages_came limit (Offer k a b) (Empty n) T F R h i ok = absurd i.meet
  owner_pages_came limit (Offer k a b) (Given n kept) T F R h i ok = absurd i.meet
  owner_pages_came limit (Offer k a b) (Staging n s) T F R h i ok = absurd i.meet
  owner_pages_came limit (Accept k) (Offering n g p) T F R h i ok =
      equal_pages n k _ (Offering n g p) T F R ok λ e. open_ok m laws n g p T F R i ok.1
  owner_pages_came limit (Refuse k a) (Offering n g p) T F R h i ok =
      equal_pages n k _ (Offering n g p) T F R ok λ e. tt
  owner_pages_came limit (Lost k ps) (Stopped n l) T F R h i ok =
      equal_pages n k _ (Stopped n l) T F R ok λ e. fixing m laws n l ps T F ok
  owner_pages_came limit (Ready k) (Stopped n l) T F R h i ok =
      equal_pages n k _ (Stopped n l) T F R ok λ e. commits_pages n l T F R i
      (subst (λ z. R (Ready z)) (sym e) h)
  owner_pages_came limit (Go k) (Run n g) T F R h i ok =
      equal_pages n k _ (Run n g) T F R ok λ e. tt
  owner_pages_came limit (Go k) (Held n g) T F R h i ok =
      equal_pages n k _ (Held n g) T F R ok λ e. tt
  owner_pages_came limit (State k ns b) (Held n g) T F R h i ok =
      equal_pages n k _ (Held n g) T F R ok λ e. tt
  owner_pages_came limit (Part k st j u x) (Held n g) T F R h i ok =
      equal_pages n k _ (Held n g) T F R ok λ e. tt
  owner_pages_came limit (Part k st j u x) (Staging n s) T F R h i ok = absurd i.meet
  owner_pages_came limit (Abort k) (Held n g) T F R h i ok =
      equal_pages n k _ (Held n g) T F R ok λ e. tt
  owner_pages_came limit (Page k p q b) (Staging n s) T F R h i ok = absurd i.meet
  owner_pages_came limit (RoundEnd k a b c d) (Staging n s) T F R h i ok = absurd i.meet
  owner_pages_came limit (State k ns b) (Staging n s) T F R h i ok = absurd i.meet
  owner_pages_came limit (Started k) (Given n kept) T F R h i ok = absurd i.meet
  owner_pages_came limit (Abort k) (Staging n s) T F R h i ok = absurd i.meet
  owner_pages_came limit f O T F R h i ok = ok

  beside_copying : (e : ℕ) (r : Rounds S) (T T' : Mode S P) (F : Frame P B → Type 0)
      → CopyingOk m e r T F → BesideOk m e (length (m.pages r.guest)) (m.processors r.guest) F T'
      → CopyingOk m e r T' F
  beside_copying e r T T' F ok new =
      record { beside = new; copies = ok.copies; stale = ok.stale; skip = ok.skip; over = ok.over }

  beside_stopped : (e : ℕ) (l : Last S) (T T' : Mode S P) (F : Frame P B → Type 0)
      → StoppedOk m e l T F → BesideOk m e (length (m.pages l.guest)) (m.processors l.guest) F T'
      → HeldOk m l.guest T' → StoppedOk m e l T' F
  beside_stopped e l T T' F ok new held =
      record {
        beside = new;
        copies = ok.copies;
        stale = ok.stale;
        states = ok.states;
        turn =
            ok.turn;
        numbers = ok.numbers;
        now = ok.now;
        parts = ok.parts;
        held = held;
      }

  -- the other host goes to T'
  move_other : (O T T' : Mode S P) (F : Frame P B → Type 0)
      → ((e c h : ℕ) → BesideOk m e c h F T → BesideOk m e c h F T')
      → ((g : S) → HeldOk m g T → HeldOk m g T') → Content m O T F → Content m O T' F
  move_other (Offering e g p) T T' F up held ok = (ok.0, up e _ _ ok.1)
  move_other (Copying e r) T T' F up held ok = beside_copying e r T T' F ok (up e _ _ ok.beside)
  move_other (Stopped e l) T T' F up held ok =
      beside_stopped e l T T' F ok (up e _ _ ok.beside) (held l.guest ok.held)
  move_other (Empty n) T T' F up held ok = tt
  move_other (Run n g) T T' F up held ok = tt
  move_other (Given n kept) T T' F up held ok = tt
  move_other (Staging n s) T T' F up held ok = tt
  move_other (Held n g) T T' F up held ok = tt

  offer_staged : (O T : Mode S P) (k a b : ℕ) (F R : Frame P B → Type 0) → Modes O T F R
      → Content m O T F → F (Offer k a b) → move_of T < k
      → Content m O (Staging k (new_stage m.zeros a b)) F
  offer_staged (Offering e g p) T k a b F R i ok h lt = (
    ok.0,
    λ same. let w = ok.0 a b (subst (λ z. F (Offer z a b)) same h) in
        record {
          count = length-replicate a m.zeros
              ∙ w.0;
          processors = w.1;
          staged = λ p lt. inl refl;
          kept = λ i x q. cc;
        },
  )
  offer_staged (Copying e r) T k a b F R i ok h lt =
      beside_copying e r T (Staging k (new_stage m.zeros a b)) F ok
      (λ same. let q : move_of T ≡ e = copying_num e T i.meet in absurd (omega arith))
  offer_staged (Stopped e l) T k a b F R i ok h lt =
      beside_stopped e l T (Staging k (new_stage m.zeros a b)) F ok
      (λ same. let q : move_of T ≡ e = stopped_num e T i.meet in absurd (omega arith)) tt
  offer_staged (Empty n) T k a b F R i ok h lt = tt
  offer_staged (Run n g) T k a b F R i ok h lt = tt
  offer_staged (Given n kept) T k a b F R i ok h lt = tt
  offer_staged (Staging n s) T k a b F R i ok h lt = tt
  offer_staged (Held n g) T k a b F R i ok h lt = tt

  stage_stored : (e c h n p k : ℕ) (y : P) (s : Stage P) (F : Frame P B → Type 0)
      → p < length s.pages → (n ≡ e → F (Page e p k y)) → BesideOk m e c h F (Staging n s)
      → BesideOk m e c h F (Staging n (with_page s p k y))
  stage_stored e c h n p k y s F lt sent ok =
      λ same.
      let st = ok same in
      record {
        count = length-set s.pages p y ∙ st.count;
        processors = st.processors;
        staged = λ q inside.
            elim (same_or q p) [
              | inl e1 ↦ inr (
                  subst (λ z. F (Page e z (put s.have p k z) (get_or (set s.pages p y) z m.zeros)))
                  (sym e1)
                  (subst (λ z. F (Page e p z (get_or (set s.pages p y) p m.zeros)))
                  (sym (put_same s.have p k))
                  (subst (λ z. F (Page e p k z)) (sym (get_or-set_same s.pages p y m.zeros lt))
                  (sent same)))
                  )
              | inr ne ↦ elim (st.staged q inside) [
                | inl z ↦ inl (put_other s.have p q k ne ∙ z)
                | inr f ↦ inr (
                    subst (λ z. F (Page e q z (get_or (set s.pages p y) q m.zeros)))
                    (sym (put_other s.have p q k ne))
                    (subst (λ z. F (Page e q (s.have q) z))
                    (sym (get_or-set_other s.pages p q y m.zeros ne)) f)
                    )
              ]
            ];
        kept = st.kept;
      }

  -- a piece is kept beside those of its stamp
  stage_kept : (e c h n st p u : ℕ) (x : List ℕ) (s : Stage P) (F : Frame P B → Type 0)
      → takes_part s st p u ≡ true → (n ≡ e → F (Part e st p u x)) → BesideOk m e c h F (Staging n s)
      → BesideOk m e c h F (Staging n (with_part s st p u x))
  stage_kept e c h n st p u x s F takes sent ok =
      λ same.
      let k = ok same in
      record {
        count = k.count;
        processors = k.processors;
        staged = k.staged;
        kept = λ i y q.
            elim (same_or i p) [
              | inl z ↦
                  let here : Some x ≡ Some y = sym
                  (put_same (if nat_lt s.stamp st then (λ j. None) else s.pieces) p (Some x))
                  ∙ ap (put (if nat_lt s.stamp st then (λ j. None) else s.pieces) p (Some x))
                  (sym z) ∙ q in
                  subst (λ (w : List ℕ). F (Part e st i u w)) (some_is x y here)
                  (subst (λ w. F (Part e st w u x)) (sym z) (sent same))
              | inr ne ↦
                  older k i y
                  (sym (put_other (if nat_lt s.stamp st then (λ j. None) else s.pieces) p i
                  (Some x) ne) ∙ q)
            ];
      }
    where
      older : StageOk m e c h F s → (i : ℕ) (y : List ℕ)
          → (if nat_lt s.stamp st then (λ (j : ℕ). None) else s.pieces) i ≡ Some y
          → F (Part e st i u y)
      older k i y q =
          elim (is_either (nat_lt s.stamp st)) [
            | inl above ↦
                absurd (none_some y (ap (λ (b : Bool).
                (if b then (λ (j : ℕ). None) else s.pieces) i) (sym above) ∙ q))
            | inr equal ↦
                let both = and_both (st == s.stamp) (u == s.parts)
                (ap (λ b. b || (st == s.stamp && u == s.parts)) (sym equal)
                ∙ (and_both (nat_lt p u) (nat_lt s.stamp st || (st == s.stamp && u == s.parts)) takes).1) in
                subst (λ w. F (Part e w i u y)) (sym (eqb-true st s.stamp both.0))
                (subst (λ w. F (Part e s.stamp i w y)) (sym (eqb-true u s.parts both.1))
                (k.kept i y
                (ap (λ (b : Bool). (if b then (λ (j : ℕ). None) else s.pieces) i) (sym equal)
                ∙ q)))
          ]

  -- pieces that are all there
  gathered_are : {X : Type 0} (f : ℕ → Option X) (d : X) (first count : ℕ) (xs : List X)
      → gathered f first count ≡ Some xs
      → (length xs ≡ count) × ((i : ℕ) → i < count → f (first + i) ≡ Some (get_or xs i d))
  unfolding gathered
  gathered_are {X = X} f d first zero xs h =
      (ap length (sym (some_is [] xs h)), λ i lt. absurd (omega arith))
  gathered_are {X = X} f d first (suc count) xs h =
      both (f first) (gathered f (suc first) count) refl
      (λ ys b. gathered_are f d (suc first) count ys b) h
    where
      at : (y : X) (ys : List X) → f first ≡ Some y
          → ((i : ℕ) → i < count → f (suc first + i) ≡ Some (get_or ys i d)) → (i : ℕ)
          → i < suc count → f (first + i) ≡ Some (get_or (y ∷ ys) i d)
      at y ys a rest zero lt = ap f (add-zero first) ∙ a
      at y ys a rest (suc i) lt =
          let z : first + suc i ≡ suc first + i = omega arith in ap f z ∙ rest i (omega arith)

      both : (q : Option X) (r : Option (List X)) → f first ≡ q
          → ((ys : List X) → r ≡ Some ys
          → (length ys ≡ count) × ((i : ℕ) → i < count → f (suc first + i) ≡ Some (get_or ys i d)))
          → with_first q r ≡ Some xs
          → (length xs ≡ suc count) ×
          ((i : ℕ) → i < suc count → f (first + i) ≡ Some (get_or xs i d))
      both None r a b h = cc
      both (Some y) None a b h = cc
      both (Some y) (Some ys) a b h =
          let rest = b ys refl in
          let is : (y ∷ ys) ≡ xs = some_is (y ∷ ys) xs h in
          subst (λ (zs : List X). (length zs ≡ suc count) ×
          ((i : ℕ) → i < suc count → f (first + i) ≡ Some (get_or zs i d))) is
          (ap suc rest.0, at y ys a rest.1)

  -- the pieces of one stamp join to the state that they were cut from
  pub pieces_are_sent : (e : ℕ) (l : Last S) (T : Mode S P) (F : Frame P B → Type 0) (st : ℕ)
      (xs : List (List ℕ)) (ns : List ℕ) (b : B) → StoppedOk m e l T F → 0 < length xs
      → ((i : ℕ) → i < length xs → F (Part e st i (length xs) (get_or xs i [])))
      → m.join xs ≡ Some (ns, b) → m.valid l.guest ≡ true → TrueState m e F l.guest ns b
  pieces_are_sent e l T F st xs ns b ok some sent join v =
      let numbers = ok.numbers st in
      let cut = m.cut numbers (m.body l.guest) in
      let t = ok.parts st 0 (length xs) (get_or xs 0 []) (sent 0 some) in
      let same : xs ≡ cut = ext_get_or [] xs cut t.count
      (λ j lt. (ok.parts st j (length xs) (get_or xs j []) (sent j lt)).piece) in
      let read : m.join cut ≡ Some (numbers, m.body l.guest) =
      laws.joined l.guest numbers v t.state.count
      (λ p lt. (t.state.named p (subst (λ w. p < w) t.state.count lt), t.fits p lt)) in
      let is : (numbers, m.body l.guest) ≡ (ns, b) = some_is (numbers, m.body l.guest) (ns, b)
      (sym read ∙ ap m.join (sym same) ∙ join) in
      subst (λ (w : List ℕ × B). TrueState m e F l.guest w.0 w.1) is t.state

  joined_is_sent : (e : ℕ) (l : Last S) (T : Mode S P) (F : Frame P B → Type 0) (s : Stage P)
      (xs : List (List ℕ)) (ns : List ℕ) (b : B) (i : ℕ) (x : List ℕ) → StoppedOk m e l T F
      → StageOk m e (length (m.pages l.guest)) (m.processors l.guest) F s
      → F (Part e s.stamp i s.parts x) → gathered s.pieces 0 s.parts ≡ Some xs
      → m.join xs ≡ Some (ns, b) → m.valid l.guest ≡ true → TrueState m e F l.guest ns b
  joined_is_sent e l T F s xs ns b i x ok st came all join v =
      let some : 0 < s.parts = subst (λ w. 0 < w) (sym (ok.parts s.stamp i s.parts x came).count)
      (laws.some_piece (ok.numbers s.stamp) (m.body l.guest)) in
      let got = gathered_are s.pieces [] 0 s.parts xs all in
      pieces_are_sent e l T F s.stamp xs ns b ok (subst (λ w. 0 < w) (sym got.0) some)
      (λ j lt. let z : 0 + j ≡ j = omega arith in
      subst (λ w. F (Part e s.stamp j w (get_or xs j []))) (sym got.0)
      (st.kept j (get_or xs j [])
      (ap s.pieces (sym z) ∙ got.1 j (subst (λ w. j < w) got.0 lt))))
      join v

  -- the guest that was read is the one that was sent
  read_is_sent : (e : ℕ) (g g' : S) (s : Stage P) (ns : List ℕ) (b : B) (F : Frame P B → Type 0)
      → StageOk m e (length (m.pages g)) (m.processors g) F s → TrueState m e F g ns b
      → size (lacks s ns) (length s.pages) ≡ 0 → m.build s.processors b s.pages ≡ Some g'
      → m.valid g ≡ true → g' ≡ g
  read_is_sent e g g' s ns b F st t all read v =
      let same : s.pages ≡ m.pages g = ext_get_or m.zeros s.pages (m.pages g) st.count (λ p lt.
      let inside : p < length (m.pages g) = subst (λ z. p < z) st.count lt in
      let le : get_or ns p 0 ≤ s.have p = ltb-false (s.have p) (get_or ns p 0)
      (size_none (lacks s ns) (length s.pages) all p lt) in
      elim (st.staged p inside) [
        | inl z ↦ let named : 0 < get_or ns p 0 = t.named p inside in absurd (omega arith)
        | inr f ↦ t.copies p (s.have p) (get_or s.pages p m.zeros) inside le f
      ]) in
      some_is g' g
      (sym read ∙ ap (λ x. m.build s.processors b x) same
      ∙ ap (λ x. m.build s.processors x (m.pages g)) t.body
      ∙ ap (λ x. m.build x (m.body g) (m.pages g)) st.processors ∙ laws.read_back g v)

  -- the guest that a state makes is the source's, while that is paused
  ready_pages : (O : Mode S P) (n : ℕ) (s : Stage P) (g' : S) (F R : Frame P B → Type 0)
      → Modes O (Staging n s) F R → Content m O (Staging n s) F
      → ((e : ℕ) (l : Last S) → O ≡ Stopped e l → n ≡ e → StoppedOk m e l (Staging n s) F
      → g' ≡ l.guest) → Content m O (Held n g') F
  ready_pages (Offering e g p) n s g' F R i ok is = (ok.0, tt)
  ready_pages (Copying e r) n s g' F R i ok is =
      beside_copying e r (Staging n s) (Held n g') F ok tt
  ready_pages (Stopped e l) n s g' F R i ok is =
      beside_stopped e l (Staging n s) (Held n g') F ok tt (is e l refl i.meet ok)
  ready_pages (Empty e) n s g' F R i ok is = tt
  ready_pages (Run e g) n s g' F R i ok is = tt
  ready_pages (Given e kept) n s g' F R i ok is = tt
  ready_pages (Staging e t) n s g' F R i ok is = tt
  ready_pages (Held e g) n s g' F R i ok is = tt

  -- what an event at the other host leaves
  abbrev pub BesidePages : Mode S P → (Frame P B → Type 0) → Outcome S P A B → Type 0
  BesidePages O F o = Content m O o.next F

  equal_beside_pages : (n k : ℕ) (o : Outcome S P A B) (O T : Mode S P) (F : Frame P B → Type 0)
      → Content m O T F → (n ≡ k → BesidePages O F o) → BesidePages O F (of_this_move m n k o T)
  equal_beside_pages n k o O T F ok f =
      either (BesidePages O F) (n == k) o (ignores T) (λ e. f (eqb-true n k e)) (λ _. ok)

  offered_pages : (limit k a b : ℕ) (O T : Mode S P) (F R : Frame P B → Type 0) → Modes O T F R
      → Content m O T F → F (Offer k a b) → move_of T < k
      → BesidePages O F (offered m limit k a b T)
  offered_pages limit k a b O T F R i ok h lt =
      either (BesidePages O F) (nat_lt limit a) (sends (Declined limit) (Refuse k limit) T)
      (sends Accepted (Accept k) (Staging k (new_stage m.zeros a b)))
      (λ _. ok)
      (λ _. offer_staged O T k a b F R i ok h lt)

  above_pages : (limit k a b : ℕ) (O T : Mode S P) (F R : Frame P B → Type 0) → Modes O T F R
      → Content m O T F → F (Offer k a b)
      → BesidePages O F (offer_above m (move_of T) limit k a b T)
  above_pages limit k a b O T F R i ok h =
      either (BesidePages O F) (nat_lt (move_of T) k) (offered m limit k a b T) (ignores T)
      (λ e. offered_pages limit k a b O T F R i ok h (ltb-true (move_of T) k e))
      (λ _. ok)

  pub other_pages_came : (limit : ℕ) (f : Frame P B) (O T : Mode S P) (F R : Frame P B → Type 0)
      → F f → Modes O T F R → Content m O T F → ((g : S) → guest_in O ≡ Some g → m.valid g ≡ true)
      → BesidePages O F (came m limit f T)
  other_pages_came limit (Offer k a b) O (Empty n) F R h i ok v =
      above_pages limit k a b O (Empty n) F R i ok h
  other_pages_came limit (Offer k a b) O (Given n kept) F R h i ok v =
      above_pages limit k a b O (Given n kept) F R i ok h
  other_pages_came limit (Offer k a b) O (Held n g) F R h i ok v =
      above_pages limit k a b O (Held n g) F R i ok h
  other_pages_came limit (Offer k a b) O (Staging n s) F R h i ok v =
      either (BesidePages O F) (n == k) (sends Accepted (Accept n) (Staging n s))
      (offer_above m n limit k a b (Staging n s))
      (λ _. ok)
      (λ _. above_pages limit k a b O (Staging n s) F R i ok h)
  other_pages_came limit (Page k p q y) O (Staging n s) F R h i ok v =
      equal_beside_pages n k _ O (Staging n s) F ok λ e.
      either (BesidePages O F) (nat_lt p (length s.pages) && nat_lt (s.have p) q)
      (says (Stored p q)
      (Staging n (record s { pages = set s.pages p y; have = put s.have p q })))
      (ignores (Staging n s))
      (λ t. move_other O (Staging n s) (Staging n _) F
      (λ e' c h'. stage_stored e' c h' n p q y s F
      (ltb-true p (length s.pages) (and_first (nat_lt p (length s.pages)) _ t))
      (λ same. subst (λ z. F (Page z p q y)) (sym e ∙ same) h)) (λ g z. tt) ok)
      (λ _. ok)
  other_pages_came limit (RoundEnd k a b c d) O (Staging n s) F R h i ok v =
      equal_beside_pages n k _ O (Staging n s) F ok λ e. ok
  other_pages_came limit (State k ns b) O (Staging n s) F R h i ok v =
      equal_beside_pages n k _ O (Staging n s) F ok λ e.
      state_cases m (BesidePages O F) n s s ns b ok ok
      (λ g all read. ready_pages O n s g F R i ok
      (λ j l is same st. read_is_sent j l.guest g s ns b F (st.beside same)
      (st.states ns b (subst (λ z. F (State z ns b)) (sym e ∙ same) h)) all read
      (v l.guest (ap guest_in is))))
  other_pages_came limit (Part k st p u x) O (Staging n s) F R h i ok v =
      equal_beside_pages n k _ O (Staging n s) F ok λ e.
      let t = with_part s st p u x in
      let sent : (j : ℕ) → n ≡ j
      → F (Part j st p u x) = λ j same. subst (λ z. F (Part z st p u x)) (sym e ∙ same) h in
      let kept : takes_part s st p u ≡ true
      → Content m O (Staging n t) F =
      λ takes. move_other O (Staging n s) (Staging n t) F
      (λ e' c h'. stage_kept e' c h' n st p u x s F takes (sent e')) (λ g z. tt) ok in
      part_cases m (BesidePages O F) n s st p u x ok ok kept (λ takes ns. kept takes)
      (λ takes xs ns b g all join none read. ready_pages O n s g F R i ok (λ j l is same stopped.
      let stage = stage_kept j _ _ n st p u x s F takes (sent j) stopped.beside same in
      let valid = v l.guest (ap guest_in is) in
      read_is_sent j l.guest g t ns b F stage
      (joined_is_sent j l (Staging n s) F t xs ns b p x stopped stage
      (sent j same) all join valid) none read valid))
  other_pages_came limit (Part k st p u x) O (Held n g) F R h i ok v =
      equal_beside_pages n k _ O (Held n g) F ok λ e. ok
  other_pages_came limit (State k ns b) O (Held n g) F R h i ok v =
      equal_beside_pages n k _ O (Held n g) F ok λ e. ok
  other_pages_came limit (Go k) O (Held n g) F R h i ok v =
      equal_beside_pages n k _ O (Held n g) F ok λ e. let lt : k < n = i.own (Go k) h in absurd
      (omega arith)
  other_pages_came limit (Started k) O (Given n kept) F R h i ok v =
      equal_beside_pages n k _ O (Given n kept) F ok λ e. move_other O (Given n kept) (Empty n) F
      (λ e' c h' z. tt) (λ g z. tt) ok
  other_pages_came limit (Abort k) O (Staging n s) F R h i ok v =
      equal_beside_pages n k _ O (Staging n s) F ok λ e. move_other O (Staging n s) (Empty n) F
      (λ e' c h' z. tt) (λ g z. tt) ok
  other_pages_came limit (Abort k) O (Held n g) F R h i ok v =
      equal_beside_pages n k _ O (Held n g) F ok λ e. move_other O (Held n g) (Empty n) F
      (λ e' c h' z. tt) (λ g' z. tt) ok
  other_pages_came limit (Accept k) O (Offering n g p) F R h i ok v =
      absurd (alone O (Offering n g p) i.meet)
  other_pages_came limit (Refuse k a) O (Offering n g p) F R h i ok v =
      absurd (alone O (Offering n g p) i.meet)
  other_pages_came limit (Lost k ps) O (Stopped n l) F R h i ok v =
      absurd (alone O (Stopped n l) i.meet)
  other_pages_came limit (Ready k) O (Stopped n l) F R h i ok v =
      absurd (alone O (Stopped n l) i.meet)
  other_pages_came limit (Go k) O (Run n g) F R h i ok v = absurd (alone O (Run n g) i.meet)
  other_pages_came limit f O T F R h i ok v = ok
