-- The audit of two journals is the audit of a list of two.
use Rattle.std.proofs.Common.{◌≡◌, ◌∙◌, ℕ, zero, suc, ◌<◌, ◌≤◌, ◌==◌, if◌then◌else◌, List, [], ◌∷◌, get_or, length, ap, Some, None, arith, refl, subst, sym, true, inl, inr}
use Rattle.std.specs.Prelude.{slice_get, ◌⊎◌}
use Rattle.std.proofs.lemmas.List.{get_or_default}
use Rattle.std.proofs.lemmas.Option.{same_Some}
use Rattle.rvm_host.specs.Hosts.{new_host}
use Rattle.rvm_board.specs.Guest.{GuestState}
use Rattle.rvm_guest.specs.TheGuest.{board}
use Rattle.rvm_guest.specs.Valid.{is_valid}
use Rattle.rvm_recorder.specs.History.{History}
use Rattle.rvm_protocol.specs.World.{new_world}
use Rattle.rvm_core.specs.declared.event.Event.{Event}
use Rattle.rvm_audit.specs.Orders as every
use Rattle.rvm_audit.specs.Worlds as every_world
use Rattle.rvm_audit.proofs.Law.{is_world_run}
use Rattle.rvm_audit.specs.PlainParts.{PlainPart}
use Rattle.rvm_audit.specs.declared.part.Place.{Place}
use Rattle.rvm_audit.specs.ListOrders.{IsDeadEnd, IsMerge, IsOrder, both}
use Rattle.rvm_audit.specs.Parts.{AreOf, IsOf, taken}
use Rattle.rvm_audit.specs.Rule.{IsEnd}
use Rattle.rvm_audit.proofs.Lists.{at_dead_end, in_order}
use Rattle.rvm_audit.proofs.Behind.{start}
use Rattle.rvm_audit.specs.PairRuns.{AreNew, IsWorldRun}

-- what holds of hosts 0 and 1 holds of both
of_two : (P : ℕ → Type 0) → P 0 → P 1 → (x : ℕ) → x < 2 → P x
of_two P first second zero lt = first
of_two P first second (suc zero) lt = second
of_two P first second (suc (suc x)) lt = absurd (omega (arith, lt))

parts_of_two : (P : ℕ → PlainPart → Type 0) (a b : PlainPart) → P 0 a → P 1 b → (x : ℕ) (part : PlainPart)
    → slice_get (a ∷ b ∷ []) x ≡ Some part → P x part
parts_of_two P a b first second zero part is = subst (P 0) (same_Some a part is) first
parts_of_two P a b first second (suc zero) part is = subst (P 1) (same_Some b part is) second
parts_of_two P a b first second (suc (suc x)) part is = cc

pub are_of : (a b : History) (p q : PlainPart) → IsOf a.opening a.entries p → IsOf b.opening b.entries q
    → AreOf (both a b) (p ∷ q ∷ [])
are_of a b p q first second = record {
  count_is = refl;
  each = parts_of_two (λ x part. IsOf ((both a b).openings.host x) ((both a b).entries x) part) p q first second;
}

-- WHERE A MERGE ENDS

module _ (a b : History) (places : List Place) (events : List Event) (ended : IsEnd (both a b) (taken places) events) where
  pub is_merge : length a.entries ≤ taken places 0 → length b.entries ≤ taken places 1 → IsMerge a b events
  is_merge first second =
      in_order (both a b) places events ended
      (of_two (λ x. length ((both a b).entries x) ≤ taken places x) first second)

  -- a merge that ends before the end of a journal ends at a dead end
  pub is_dead_end : (taken places 0 < length a.entries) ⊎ (taken places 1 < length b.entries)
      → every.IsDeadEnd (both a b) (taken places)
  is_dead_end (inl more) = (at_dead_end (both a b) places events ended 0 (omega arith) more).0
  is_dead_end (inr more) = (at_dead_end (both a b) places events ended 1 (omega arith) more).0

-- a place that is in the list
pub looked_at : (places : List Place) (x : ℕ) (place : Place) → place ≡ get_or places x place → x < length places
    → place.entries ≡ taken places x
looked_at places x place is lt = ap (λ (p : Place). p.entries) (is ∙ get_or_default places x place start lt)

-- the places of two journals
pub places_are : (places : List Place) (i j : ℕ) → length places ≡ 2 → i ≡ taken places 0 → j ≡ taken places 1
    → (x : ℕ) → taken places x ≡ get_or (i ∷ j ∷ []) x 0
places_are [] i j two is js x = absurd (omega (arith, two))
places_are (p ∷ []) i j two is js x = absurd (omega (arith, two))
places_are (p ∷ q ∷ []) i j two is js zero = sym is
places_are (p ∷ q ∷ []) i j two is js (suc zero) = sym js
places_are (p ∷ q ∷ []) i j two is js (suc (suc x)) = refl
places_are (p ∷ q ∷ r ∷ ps) i j two is js x = absurd (omega (arith, two))

pub no_order_at : (a b : History) (places : List Place) (i j : ℕ) → length places ≡ 2 → i ≡ taken places 0
    → j ≡ taken places 1 → every.IsDeadEnd (both a b) (taken places) → IsDeadEnd a b i j
no_order_at a b places i j two is js dead =
    subst (λ (v : ℕ → ℕ). every.IsDeadEnd (both a b) v) (λ k x. places_are places i j two is js x k) dead

-- THE WORLD

pub are_new : (version : ℕ) (g : GuestState) (limits : ℕ → ℕ) (a b : History) → AreNew version g limits a.opening b.opening
    → every_world.AreNew version 0 g limits (both a b).openings
are_new version g limits a b are = record {
  spoken = refl;
  each = of_two
      (λ x. (both a b).openings.host x ≡ new_host (if x == 0 then Some g else None) x 2 (limits x) version)
      are.first are.second;
}

pub world_run : (version : ℕ) (g : GuestState) (limits : ℕ → ℕ) (a b : History) (events : List Event)
    → is_valid g.guest ≡ true → AreNew version g limits a.opening b.opening → IsOrder a b events
    → IsWorldRun (new_world board version 0 g.guest 2 limits) g.guest a b events
world_run version g limits a b events valid are order =
    is_world_run version 0 g limits (both a b) events valid (are_new version g limits a b are) order
