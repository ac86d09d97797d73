-- A map whose keys are bytes: the value of any key after an insertion.
use Rattle.std.proofs.Common.{◌≡◌, ◌∙◌, ℕ, Bool, true, false, List, Option, Some, None, ap, refl, sym, subst, if◌then◌else◌}
use Rattle.std.specs.Prelude.{Vec, bytes_eq, is_some}
use Rattle.std.specs.BTreeMap.{BTreeMap, UpdatesBy, get_by}
use Rattle.std.specs.Cmp.{eq_by_cmp_equiv}
use Rattle.std.specs.Cmp.Lexicographic.{bytes_decides, nat_list_cmp_total, nat_list_eq_equiv, slice_cmp}
use Rattle.std.specs.Map.{AreApart, IsKeyTest, KeepsOthers, lookup}
use Rattle.std.specs.Ordering.{is_eq, nat_cmp}
use Rattle.std.proofs.lemmas.Map.Text.{is_eq-slice_cmp}
use Rattle.std.proofs.lemmas.Slice.Eq.{bytes_eq-Decides}
use Rattle.rvm_audit.specs.Merging.{Places, noted}

apart : (bs cs ks : List ℕ) → bytes_eq bs cs ≡ false → is_eq (slice_cmp nat_cmp bs ks) ≡ true → is_eq (slice_cmp nat_cmp cs ks) ≡ false
apart bs cs ks other here =
    is_eq-slice_cmp cs ks ∙ nat_list_eq_equiv.symm cs ks
    ∙ sym (nat_list_eq_equiv.congr bs ks cs (sym (is_eq-slice_cmp bs ks) ∙ here)) ∙ other

others : {K X : Type 0} (eq : K → K → Bool) (test : K → Bool) (old new : List (K × X)) → KeepsOthers eq test old new
    → (other : K → Bool) → IsKeyTest eq other → AreApart test other → lookup other new ≡ lookup other old
unfolding KeepsOthers
others eq test old new keeps = keeps

at_bytes : {X : Type 0} (b : Bool) (new old w : Option X) → (b ≡ true → new ≡ w) → (b ≡ false → new ≡ old)
    → new ≡ (if b then w else old)
at_bytes true new old w here off = here refl
at_bytes false new old w here off = off refl

-- an insertion sets the value at its bytes, and keeps that at any other
pub updates : {A X : Type 0} (bs : List ℕ) (m n : BTreeMap (Vec ℕ A) X) (w : Option X)
    → UpdatesBy (λ x y. slice_cmp nat_cmp x.items y.items) (λ k. slice_cmp nat_cmp bs k.items) m n w → (cs : List ℕ)
    → get_by (λ k. slice_cmp nat_cmp cs k.items) n ≡ (if bytes_eq bs cs then w else get_by (λ k. slice_cmp nat_cmp cs k.items) m)
updates bs m n w h cs =
    at_bytes (bytes_eq bs cs) _ _ w
    (λ here. subst (λ ds. get_by (λ k. slice_cmp nat_cmp ds k.items) n ≡ w) ((bytes_decides bs cs).0 here) h.1)
    (λ off. others _ _ _ _ h.3 _ (λ x y. (eq_by_cmp_equiv nat_list_cmp_total).congr cs x.items y.items) (λ k. apart bs cs k.items off))

-- a key that had no place has one now
pub noted_now : (new : List ℕ) (place : ℕ) (p q : Places) → p new ≡ None
    → ((key : List ℕ) → q key ≡ (if bytes_eq new key then Some place else p key))
    → (key : List ℕ) → q key ≡ noted (Some new) place p key
noted_now new place p q none is key =
    is key ∙ by_test (bytes_eq new key) (p key) (λ yes. ap p (sym ((bytes_eq-Decides new key).0 yes)) ∙ none)
  where
    by_test : (b : Bool) (o : Option ℕ) → (b ≡ true → o ≡ None)
        → (if b then Some place else o) ≡ (if is_some o then o else (if b then Some place else None))
    by_test true (Some n) h = absurd (let z = h refl in cc)
    by_test true None h = refl
    by_test false (Some n) h = refl
    by_test false None h = refl

pub none_is : (o : Option ℕ) → is_some o ≡ false → o ≡ None
none_is None is = refl
none_is (Some n) is = absurd cc
