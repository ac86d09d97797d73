-- In a world of any run, a driven move arrives or is declined.
use Rattle.std.proofs.Common.{◌≡◌, ◌≢◌, inl, inr, ℕ, suc, ◌<◌, ◌==◌, nat_lt, not, true, List, [], ◌∷◌, Option, Some, None, refl, sym, ap, ◌∙◌, subst, arith, ne_eqb}
use Rattle.std.proofs.lemmas.Bool.{lt-ltb, ne_eqb}
use Rattle.rvm_protocol.specs.Guest.{Guest, IsGuest}
use Rattle.rvm_protocol.specs.Frames.{read}
use Rattle.rvm_protocol.specs.Commands.{HostEvent}
use Rattle.rvm_protocol.specs.Replies.{Begun, Declined, MoveDeclined}
use Rattle.rvm_protocol.specs.Rounds.{page_count}
use Rattle.rvm_protocol.specs.Modes.{Mode, Run, move_of, guest_in}
use Rattle.rvm_protocol.specs.Host.{Host}
use Rattle.rvm_protocol.specs.World.{Event, World, mode_at, run, new_world, step, happened, meaning}
use Rattle.rvm_protocol.proofs.PairInvariant.{HoldsNone, Meet, lim}
use Rattle.rvm_protocol.proofs.Basics.{same_or, some_is}
use Rattle.rvm_protocol.proofs.Runs.{SoundAt, run_sound, new_sound}
use Rattle.rvm_protocol.proofs.OtherHosts.{none_at}
use Rattle.rvm_protocol.proofs.CurrentHost.{there_apart}
use Rattle.rvm_protocol.proofs.Phases.{Shows}
use Rattle.rvm_protocol.specs.Told.{Told, at_start}
use Rattle.rvm_protocol.specs.DrivenMove.{drive_replies, state_frames, ADrivenMoveArrives, ATooLargeGuestIsDeclined}
use Rattle.rvm_protocol.proofs.Behind.{apart_run}
use Rattle.rvm_protocol.proofs.Lists.{and_true}
use Rattle.rvm_protocol.proofs.DrivenMove.{Drivable, drive_goes}
use Rattle.rvm_protocol.proofs.DeclinedMove.{declining}

module _ {S P E A B : Type 0} (m : Guest S P E A B) (laws : IsGuest m) where
  -- all hosts but the one in Run are behind it
  record Behind (e : ℕ) (g : S) (T : Mode S P) : Type 0 where
    none : HoldsNone T
    below : move_of T < suc e
    valid : m.valid g ≡ true

  beside_run : (O : Mode S P) (T : Mode S P) (e : ℕ) (g : S) → O ≡ Run e g → Meet O T
      → move_of T < suc e
  beside_run O T e g is i = (apart_run e T (subst (λ z. Meet z T) is i)).1

  behind_run : (w : World S P B) (t : Told S) (x y e : ℕ) (g : S) → SoundAt m laws w t
      → mode_at m w x ≡ Run e g → y ≢ x → Behind e g (mode_at m w y)
  behind_run w t x y e g s is ne =
      let l = s.good in
      let none = λ (z : ℕ) (nz : z ≢ s.c). none_at m laws (w.hosts s.c) (w.hosts s.d) w.hosts
      (read m w.sent) s.c s.d z t l nz in
      elim (same_or x s.c) [
        | inr nx ↦ absurd (subst (λ (X : Mode S P). HoldsNone X) is (none x nx))
        | inl xc ↦
            let run : mode_at m w s.c ≡ Run e g = ap (mode_at m w) (sym xc) ∙ is in
            let yc : y ≢ s.c = λ q. ne (q ∙ sym xc) in
            let same : g ≡ t.guest = some_is g t.guest (ap guest_in (sym run) ∙ l.guest) in
            record {
              none = none y yc;
              below = elim (same_or y s.d) [
                | inl q ↦
                    subst (λ z. move_of (mode_at m w z) < suc e) (sym q)
                    (beside_run (mode_at m w s.c) (mode_at m w s.d) e g run l.modes.meet)
                | inr nd ↦
                    subst (λ (X : Mode S P). move_of (mode_at m w y) < lim X) run
                    (l.others y yc nd).1
              ];
              valid = subst (λ z. m.valid z ≡ true) (sym same) l.valid;
            }
      ]

  run_version : (events : List (Event E)) (w : World S P B)
      → ((run m w events).version ≡ w.version) × ((run m w events).count ≡ w.count) ×
      ((run m w events).limits ≡ w.limits)
  unfolding run
  run_version [] w = (refl, refl, refl)
  run_version (ev ∷ events) w =
      let rest = run_version events (step m w ev) in
      let here = kept (meaning m w ev) in
      (rest.0 ∙ here.0, rest.1 ∙ here.1, rest.2 ∙ here.2)
    where
      kept : (q : Option (ℕ × HostEvent P E B))
          → ((happened m w q).version ≡ w.version) × ((happened m w q).count ≡ w.count) ×
          ((happened m w q).limits ≡ w.limits)
      kept None = (refl, refl, refl)
      kept (Some y) = (refl, refl, refl)

  pub drive_law : ADrivenMoveArrives m
  unfolding ADrivenMoveArrives
  drive_law =
      λ start g version origin count limits events from to e policy.
      λ v is below allowed here there room some few.
      let w = run m (new_world m version origin start count limits) events in
      let s = run_sound m laws events (new_world m version origin start count limits) (at_start origin start)
      (new_sound m laws version origin start count limits v) in
      let apart = there_apart from count to there in
      let b = behind_run w _ from to e g s is apart in
      let T = mode_at m w to in
      let fixed = run_version events (new_world m version origin start count limits) in
      let ok : Drivable m version count limits from to e policy g = record {
        apart = apart;
        here = lt-ltb from count here;
        to_is_there = there;
        from_is_there =
            and_true (nat_lt from count) (not (from == to)) (lt-ltb from count here)
            (ap not (ne_eqb from to (λ q. apart (sym q))));
        below = below;
        allowed = allowed;
        room = room;
        some = some;
        few = few;
        valid = b.valid;
      } in
      let goes = drive_goes m laws version count limits from to e policy g ok (w.hosts from).partner
      (w.hosts to).partner T w.sent b.none (let z = b.below in omega (arith, z)) in
      let shows : Shows m version count limits from to w
      (record {
        source = record { mode = Run e g; partner = (w.hosts from).partner };
        target =
            w.hosts to;
        sent = w.sent;
      }) =
      record {
        version_is = fixed.0;
        count_is = fixed.1;
        limits_are = fixed.2;
        source_is = ap
            (λ z. record { mode = z; partner = (w.hosts from).partner }) is;
        target_is =
            refl;
        sent_is = refl;
      } in
      let end = goes.goes.leads w shows in
      record {
        replied =
            end.0 ∙ ap (λ z. drive_replies z (suc e) (page_count m g) (state_frames m z g))
            (sym fixed.0);
        there = ap (λ (h : Host S P). h.mode) end.1.target_is;
        left = ap (λ (h : Host S P). h.mode) end.1.source_is;
      }

  pub declined_law : ATooLargeGuestIsDeclined m
  unfolding ATooLargeGuestIsDeclined
  declined_law =
      λ start g version origin count limits events from to e policy v is below allowed here there large.
      let w = run m (new_world m version origin start count limits) events in
      let s = run_sound m laws events (new_world m version origin start count limits) (at_start origin start)
      (new_sound m laws version origin start count limits v) in
      let apart = there_apart from count to there in
      let b = behind_run w _ from to e g s is apart in
      let fixed = run_version events (new_world m version origin start count limits) in
      let back = and_true (nat_lt from count) (not (from == to)) (lt-ltb from count here)
      (ap not (ne_eqb from to (λ q. apart (sym q)))) in
      let goes = declining m version count limits from to e policy g (w.hosts from).partner
      (w.hosts to).partner (mode_at m w to) w.sent apart
      (lt-ltb from count here) there back below allowed b.none
      (let z = b.below in omega (arith, z)) large in
      let shows : Shows m version count limits from to w
      (record {
        source = record { mode = Run e g; partner = (w.hosts from).partner };
        target =
            w.hosts to;
        sent = w.sent;
      }) =
      record {
        version_is = fixed.0;
        count_is = fixed.1;
        limits_are = fixed.2;
        source_is = ap
            (λ z. record { mode = z; partner = (w.hosts from).partner }) is;
        target_is =
            refl;
        sent_is = refl;
      } in
      let end = goes.leads w shows in
      record {
        replied =
            end.0 ∙ ap (λ (z : ℕ → ℕ). Begun (suc e) ∷ Declined (z to) ∷ MoveDeclined (z to) ∷ [])
            (sym fixed.2);
        stays = ap (λ (h : Host S P). h.mode) end.1.source_is;
      }
