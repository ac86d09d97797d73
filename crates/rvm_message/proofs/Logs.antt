-- The dirty log after an event: the old one, and the pages that the event writes.
use Rattle.std.proofs.Common.{◌≡◌, inl, inr, ℕ, ◌*◌, ◌/◌, ◌≤◌, Bool, true, false, ◌||◌, List, [], ◌∷◌, length, replicate, get_or, set, refl, sym, ap, ◌∙◌, arith}
use Rattle.std.proofs.lemmas.Bool.{cases_eq, cases_lt}
use Rattle.std.proofs.lemmas.List.{length-set, length-replicate, get_or-set_same, get_or-set_other, get_or_past}
use Rattle.rvm_mem.specs.Pages.{has, mark_all}
use Rattle.rvm_precopy.proofs.Ties.{has_none}
use Rattle.rvm_board.specs.declared.event.BoardEvent.{BoardEvent}
use Rattle.rvm_board.specs.Guest.{Guest}
use Rattle.rvm_board.specs.Events.{answered}
use Rattle.rvm_guest.specs.Pages.{count_of, writes}

pub or_true : (b : Bool) → (b || true) ≡ true
or_true true = refl
or_true false = refl

pub or_false : (b : Bool) → (b || false) ≡ b
or_false true = refl
or_false false = refl

or_twice : (a b c : Bool) → ((a || b) || c) ≡ (a || (b || c))
or_twice true b c = refl
or_twice false b c = refl

-- a page is in a log after one mark if and only if it was in it, or is in an empty log after this mark
has_mark : (q : ℕ) (d : List Bool) (p : ℕ) → has p (set d q true) ≡ (has p d || has p (set (replicate (length d) false) q true))
has_mark q d p =
    let n = length d in
    let blank = replicate n false in
    let long : length blank ≡ n = length-replicate n false in
    elim (cases_eq p q) [
      | inl e ↦
          elim (cases_lt q n) [
            | inl lt ↦
                ap (λ z. get_or (set d q true) z false) e ∙ get_or-set_same d q true false lt
                ∙ sym (or_true (has p d))
                ∙ ap (λ b. has p d || b) (sym (ap (λ z. get_or (set blank q true) z false) e ∙ get_or-set_same blank q true false (omega (arith, lt, long))))
            | inr ge ↦
                let past : n ≤ p = omega (arith, ge, e) in
                get_or_past (set d q true) p false (let s = length-set d q true in omega (arith, s, past))
                ∙ sym (ap (λ b. b || has p (set blank q true)) (get_or_past d p false past)
                ∙ get_or_past (set blank q true) p false (let s = length-set blank q true in omega (arith, s, past, long)))
          ]
      | inr x ↦
          get_or-set_other d q p true false x
          ∙ sym (ap (λ b. has p d || b) (get_or-set_other blank q p true false x ∙ has_none n p) ∙ or_false (has p d))
    ]

pub length_marked : (ps : List ℕ) (d : List Bool) → length (mark_all ps d) ≡ length d
length_marked [] d = refl
length_marked (q ∷ ps) d = length_marked ps (set d q true) ∙ length-set d q true

-- the same for several marks
pub has_marked : (ps : List ℕ) (d : List Bool) (p : ℕ) → has p (mark_all ps d) ≡ (has p d || has p (mark_all ps (replicate (length d) false)))
has_marked [] d p = sym (ap (λ b. has p d || b) (has_none (length d) p) ∙ or_false (has p d))
has_marked (q ∷ ps) d p =
    let n = length d in
    let blank = replicate n false in
    let rest = has p (mark_all ps (replicate n false)) in
    let long : length (set d q true) ≡ n = length-set d q true in
    let blanks : length (set blank q true) ≡ n = length-set blank q true ∙ length-replicate n false in
    has_marked ps (set d q true) p
    ∙ ap (λ z. has p (set d q true) || has p (mark_all ps (replicate z false))) long
    ∙ ap (λ b. b || rest) (has_mark q d p)
    ∙ or_twice (has p d) (has p (set blank q true)) rest
    ∙ ap (λ b. has p d || b) (sym (has_marked ps (set blank q true) p ∙ ap (λ z. has p (set blank q true) || has p (mark_all ps (replicate z false))) blanks))

pub log_is : (g : Guest) (e : BoardEvent) (d new : List Bool) (p : ℕ) → new ≡ mark_all (answered e g).pages d → length d ≡ count_of g
    → has p new ≡ (has p d || writes g e p)
unfolding writes
log_is g e d new p is n =
    ap (λ z. has p z) is ∙ has_marked (answered e g).pages d p
    ∙ ap (λ z. has p d || has p (mark_all (answered e g).pages (replicate z false))) n

-- a guest has as many pages as its dirty log
pub pages_are : (size pages bytes : ℕ) → bytes ≡ size → bytes ≡ 4096 * pages → pages ≡ size / 4096
pages_are size pages bytes a b = omega (arith, a, b)
