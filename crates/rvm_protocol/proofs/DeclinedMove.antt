-- A driven move that the target declines.
use Rattle.std.proofs.Common.{◌≡◌, ◌≢◌, ℕ, suc, ◌+◌, ◌-◌, ◌^◌, ◌<◌, ◌≤◌, ◌==◌, nat_lt, true, List, [], ◌∷◌, ◌++◌, length, refl, ap, ◌∙◌, arith, ne_eqb}
use Rattle.std.proofs.lemmas.Bool.{eq-eqb, lt-ltb, ne_eqb}
use Rattle.rvm_protocol.specs.Guest.{Guest}
use Rattle.rvm_protocol.specs.Frames.{Frame, Offer, Accept, Refuse, Addressed}
use Rattle.rvm_protocol.specs.Commands.{Policy, is_allowed, Begin, Do, Came}
use Rattle.rvm_protocol.specs.Replies.{Begun, Accepted, Declined, MoveDeclined}
use Rattle.rvm_protocol.specs.Pages.{none}
use Rattle.rvm_protocol.specs.Staging.{new_stage}
use Rattle.rvm_protocol.specs.Modes.{Mode, Empty, Run, Offering, Copying, Stopped, Given, Staging, Held, move_of, says, sends, ignores}
use Rattle.rvm_protocol.specs.Obeying.{begin, begin_allowed, begun}
use Rattle.rvm_protocol.specs.Receiving.{came, offered, offer_above}
use Rattle.rvm_protocol.specs.Host.{Host, is_there, is_heard, host_step, settled}
use Rattle.rvm_protocol.specs.World.{At, Deliver}
use Rattle.rvm_protocol.proofs.PairInvariant.{HoldsNone}
use Rattle.rvm_protocol.proofs.Basics.{or_left, or_right}
use Rattle.rvm_protocol.proofs.Phases.{Duo, Phase, if_true, if_false, after, commands, to_source, to_target}
use Rattle.rvm_protocol.proofs.Lists.{got_new, length_more, and_true}

module _ {S P E A B : Type 0} (m : Guest S P E A B) (version count : ℕ) (limits : ℕ → ℕ)
    (from to e : ℕ) (policy : Policy) (g : S) where
  declined_above : (seen : ℕ) (T : Mode S P) → seen ≤ e → limits to < length (m.pages g)
      → offer_above m seen (limits to) (suc e) (length (m.pages g)) (m.processors g) T ≡ sends
      (Declined (limits to)) (Refuse (suc e) (limits to)) T
  declined_above seen T le lt =
      if_true (nat_lt seen (suc e))
      (offered m (limits to) (suc e) (length (m.pages g)) (m.processors g) T) (ignores T)
      (lt-ltb seen (suc e) (omega arith))
      ∙ if_true (nat_lt (limits to) (length (m.pages g)))
      (sends (Declined (limits to)) (Refuse (suc e) (limits to)) T)
      (sends Accepted (Accept (suc e))
      (Staging (suc e) (new_stage m.zeros (length (m.pages g)) (m.processors g))))
      (lt-ltb (limits to) (length (m.pages g)) lt)

  offer_declined : (T : Mode S P) → HoldsNone T → move_of T ≤ e → limits to < length (m.pages g)
      → came m (limits to) (Offer (suc e) (length (m.pages g)) (m.processors g)) T ≡ sends
      (Declined (limits to)) (Refuse (suc e) (limits to)) T
  offer_declined (Empty k) h le lt = declined_above k (Empty k) le lt
  offer_declined (Given k kept) h le lt = declined_above k (Given k kept) le lt
  offer_declined (Held k q) h le lt = declined_above k (Held k q) le lt
  offer_declined (Staging k s) h le lt =
      if_false (k == suc e) (sends Accepted (Accept k) (Staging k s))
      (offer_above m k (limits to) (suc e) (length (m.pages g)) (m.processors g) (Staging k s))
      (ne_eqb k (suc e) (λ q. let z : k ≡ suc e = q in omega arith))
      ∙ declined_above k (Staging k s) le lt
  offer_declined (Run k q) h le lt = absurd h
  offer_declined (Offering k q p) h le lt = absurd h
  offer_declined (Copying k r) h le lt = absurd h
  offer_declined (Stopped k l) h le lt = absurd h

  -- Begin, Offer, Refuse
  pub declining : (p q : ℕ) (T : Mode S P) (sent : List (Addressed P B)) → to ≢ from
      → nat_lt from count ≡ true → is_there from count to ≡ true → is_there to count from ≡ true
      → e < 2 ^ 64 - 1 → is_allowed policy ≡ true → HoldsNone T → move_of T ≤ e
      → limits to < length (m.pages g)
      → Phase m version count limits from to
      (record {
        source = record { mode = Run e g; partner = p };
        target =
            record { mode = T; partner = q };
        sent = sent;
      })
      (At from (Begin to policy) ∷ Deliver (length sent) ∷ Deliver (length sent + 1) ∷ [])
      (Begun (suc e) ∷ Declined (limits to) ∷ MoveDeclined (limits to) ∷ [])
      (record {
        source = record { mode = Run (suc e) g; partner = to };
        target =
            record { mode = T; partner = q };
        sent =
            (sent ++ record {
              from = from;
              to = to;
              frame = Offer (suc e) (length (m.pages g))
                  (m.processors g);
            } ∷ [])
            ++ record { from = to; to = from; frame = Refuse (suc e) (limits to) } ∷ [];
      })
  declining p q T sent apart here to_is_there from_is_there below allowed none le lt =
      let M = suc e in
      let offer : Frame P B = Offer M (length (m.pages g)) (m.processors g) in
      let refuse : Frame P B = Refuse M (limits to) in
      let offered_to : Addressed P B = record { from = from; to = to; frame = offer } in
      let refused_by : Addressed P B = record { from = to; to = from; frame = refuse } in
      let O : Mode S P = Offering M g policy in
      let there : Host S P = record { mode = T; partner = q } in
      let d0 : Duo S P B =
      record { source = record { mode = Run e g; partner = p }; target = there; sent = sent } in
      let d1 : Duo S P B =
      record {
        source = record { mode = O; partner = to };
        target = there;
        sent = sent
            ++ offered_to ∷ [];
      } in
      let d2 : Duo S P B =
      record {
        source = record { mode = O; partner = to };
        target = there;
        sent =
            (sent ++ offered_to ∷ []) ++ refused_by ∷ [];
      } in
      let begins : host_step m version from count (limits from) (Do (Begin to policy))
      (record { mode = Run e g; partner = p }) ≡ settled m version from (Do (Begin to policy)) p
      (begun m policy e g) =
      ap (settled m version from (Do (Begin to policy)) p)
      (if_true (is_there from count to) (begin m policy (Run e g)) _ to_is_there
      ∙ if_true (is_allowed policy) (begin_allowed m policy e g) _ allowed
      ∙ if_false (e == 2 ^ 64 - 1) _ (begun m policy e g)
      (ne_eqb e (2 ^ 64 - 1) (λ z. let y : e ≡ 2 ^ 64 - 1 = z in omega (arith, below)))) in
      let hears_offer : is_heard to count from offer there ≡ true = and_true _ _ from_is_there
      (or_right (from == q) (nat_lt (move_of T) M) (lt-ltb (move_of T) M (omega arith))) in
      let offers : host_step m version to count (limits to)
      (Came from offer) there ≡ settled m version to (Came from offer) q
      (sends (Declined (limits to)) refuse T) =
      ap (settled m version to (Came from offer) q)
      (if_true (is_heard to count from offer there) (came m (limits to) offer T)
      (ignores T) hears_offer ∙ offer_declined T none le lt) in
      let hears_refuse : is_heard from count to refuse (record { mode = O; partner = to }) ≡ true =
      and_true _ _ to_is_there (or_left (to == to) _ (eq-eqb to to refl)) in
      let refuses_it : host_step m version from count (limits from) (Came to refuse)
      (record { mode = O; partner = to }) ≡ settled m version from (Came to refuse) to
      (says (MoveDeclined (limits to)) (Run M g)) =
      ap (settled m version from (Came to refuse) to)
      (if_true (is_heard from count to refuse (record { mode = O; partner = to }))
      (came m (limits from) refuse O) (ignores O) hears_refuse
      ∙ if_true (M == M) (says (MoveDeclined (limits to)) (Run M g)) (ignores O)
      (eq-eqb M M refl)) in
      let one : Phase m version count limits from to d0 (At from (Begin to policy) ∷ [])
      (Begun M ∷ []) d1 =
      commands m version count limits from to (Begin to policy) d0
      (settled m version from (Do (Begin to policy)) p
      (begun m policy e g)) apart here begins in
      let two : Phase m version count limits from to d1 (Deliver (length sent) ∷ [])
      (Declined (limits to) ∷ []) d2 =
      to_target m version count limits from to (length sent) from offer d1
      (settled m version to (Came from offer) q (sends (Declined (limits to)) refuse T)) apart
      (got_new sent offered_to (length sent) refl) offers in
      let place : length sent + 1 ≡ length (sent ++ offered_to ∷ []) = let z =
      length_more sent offered_to in omega (arith, z) in
      let three = to_source m version count limits from to (length sent + 1) to refuse d2
      (settled m version from (Came to refuse) to
      (says (MoveDeclined (limits to)) (Run M g))) apart
      (got_new (sent ++ offered_to ∷ []) refused_by (length sent + 1) place) refuses_it in
      after m version count limits from to _ _ _ _ _ _ _
      (after m version count limits from to _ _ _ _ _ _ _ one two) three
