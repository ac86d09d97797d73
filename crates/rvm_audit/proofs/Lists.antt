-- The parts of a list of journals, and how an audit of them ends.
use Rattle.std.proofs.Common.{◌≡◌, ◌∙◌, ℕ, zero, suc, ◌+◌, ◌^◌, ◌<◌, ◌≤◌, List, [], ◌∷◌, ◌++◌, get_or, length, length-append, Some, refl, sym, ap, subst, arith, inl, inr}
use Rattle.std.specs.Prelude.{slice_get}
use Rattle.std.proofs.lemmas.Option.{same_Some}
use denote.Ref.{Bor}
use Rattle.rvm_recorder.specs.Entries.{PlainEntry}
use Rattle.rvm_recorder.specs.History.{History}
use Rattle.rvm_core.specs.declared.event.Event.{Event}
use Rattle.rvm_audit.specs.Orders.{IsDeadEnd, IsOrder, Journals, cut}
use Rattle.rvm_audit.proofs.Gets.{get_last}
use Rattle.rvm_audit.specs.Audits.{ArePartsOf, histories_of}
use Rattle.rvm_audit.specs.PlainParts.{PlainPart}
use Rattle.rvm_audit.specs.declared.part.Place.{Place}
use Rattle.rvm_audit.specs.ListOrders.{journals_of, no_history}
use Rattle.rvm_audit.specs.Parts.{AreOf, AreSized, IsOf, IsSized, taken}
use Rattle.rvm_audit.specs.Rule.{IsEnd, IsMerge}

journal_at : (journals : List (Bor History)) (x : ℕ) (journal : Bor History) → slice_get journals x ≡ Some journal
    → get_or (histories_of journals) x no_history ≡ journal.now
journal_at [] x journal is = cc
journal_at (b ∷ journals) zero journal is = ap (λ (c : Bor History). c.now) (same_Some b journal is)
journal_at (b ∷ journals) (suc x) journal is = journal_at journals x journal is

pub as_many : (journals : List (Bor History)) → length (histories_of journals) ≡ length journals
as_many [] = refl
as_many (b ∷ journals) = ap suc (as_many journals)

-- a list with one more part
pub one_longer : (parts more : List PlainPart) (part : PlainPart) (host : ℕ) → more ≡ parts ++ part ∷ [] → length parts ≡ host
    → length more ≡ host + 1
one_longer parts more part host more_is long =
    let size = ap (λ (ps : List PlainPart). length ps) more_is in
    let one = length-append parts (part ∷ []) in
    omega (arith, size, one, long)

pub one_part : (journals : List (Bor History)) (parts more : List PlainPart) (host : ℕ) (journal : Bor History) (part : PlainPart)
    → more ≡ parts ++ part ∷ [] → ArePartsOf (histories_of journals) parts → length parts ≡ host
    → slice_get journals host ≡ Some journal → IsOf journal.now.opening journal.now.entries part
    → length part.items.now < 2 ^ 63 → length journal.now.entries < 2 ^ 32
    → ArePartsOf (histories_of journals) more
one_part journals parts more host journal part more_is are long here is_of few_items few_entries =
    subst (ArePartsOf (histories_of journals)) (sym more_is) one_more
  where
    sized : IsSized part
    sized = record {
      items = few_items;
      entries = subst (λ (xs : List PlainEntry). length xs < 2 ^ 64) (sym is_of.entries_are)
          (let few = few_entries in omega (arith, few));
    }

    one_more : ArePartsOf (histories_of journals) (parts ++ part ∷ [])
    one_more x other at = elim (get_last parts part x other at) [
      | inl before ↦ are x other before
      | inr last ↦
          (let x_is : host ≡ x = sym long ∙ sym last.1 in
          let history_is : journal.now ≡ get_or (histories_of journals) x no_history =
          sym (journal_at journals host journal here) ∙ ap (λ y. get_or (histories_of journals) y no_history) x_is
          in
          subst (λ (h : History). IsSized other × IsOf h.opening h.entries other) history_is
          (subst (λ (p : PlainPart). IsSized p × IsOf journal.now.opening journal.now.entries p) last.0 (sized, is_of)))
    ]

pub all_sized : (hs : List History) (parts : List PlainPart) → ArePartsOf hs parts → AreSized parts
all_sized hs parts are = λ x part at. (are x part at).0

pub are_all : (journals : List (Bor History)) (parts seen : List PlainPart) → length parts ≡ length journals
    → ArePartsOf (histories_of journals) parts → seen ≡ parts → AreOf (journals_of (histories_of journals)) seen
are_all journals parts seen long are is =
    subst (AreOf (journals_of (histories_of journals))) (sym is)
    (record { count_is = as_many journals ∙ sym long; each = λ x part at. (are x part at).1 })

-- THE END

-- the number of a journal
pub there_in : (journals : List (Bor History)) (x : ℕ) → x < length journals → x < length (histories_of journals)
there_in journals x lt = let many = as_many journals in omega (arith, lt, many)

pub there_of : (journals : List (Bor History)) (x : ℕ) → x < length (histories_of journals) → x < length journals
there_of journals x lt = let many = as_many journals in omega (arith, lt, many)

module _ (j : Journals) (places : List Place) (events : List Event) (ended : IsEnd j (taken places) events) where
  pub in_order : ((x : ℕ) → x < j.openings.count → length (j.entries x) ≤ taken places x) → IsMerge j events
  in_order done = ended.merge (λ x lt. let a = done x lt in let b = ended.within x lt in omega (arith, a, b))

  pub at_dead_end : (x : ℕ) → x < j.openings.count → taken places x < length (j.entries x)
      → IsDeadEnd j (taken places) × ((events : List Event) × IsOrder (cut (taken places) j) events)
  at_dead_end x lt more = (record { within = ended.within; rest = (x, lt, more); stuck = ended.stuck }, (events, ended.order))
