-- Each event of a valid guest leaves a valid guest with as many harts and pages, and does not change the pages that it
-- does not write.
use Rattle.std.proofs.Common.{◌≡◌, inl, inr, ℕ, zero, suc, ◌+◌, ◌*◌, ◌^◌, ◌/◌, ◌%◌, ◌<◌, ◌≤◌, Bool, true, false, ◌==◌, List, [], ◌∷◌, length, get_or, set, replicate, refl, sym, ap, subst, ◌∙◌, arith, below_more}
use Rattle.std.proofs.lemmas.Bool.{cases_eq, cases_lt, eqb-true}
use Rattle.std.proofs.lemmas.Bool.Decides.{nat_tests}
use Rattle.std.proofs.lemmas.List.{length-map, length-set, length-replicate, get_or-set_same, get_or-set_other, get_or_default, get_or_past}
use Rattle.rvm_mem.specs.Others.{NoneOf}
use Rattle.rvm_mem.specs.Pages.{has, mark_all}
use Rattle.rvm_codec.specs.Numbers.{within}
use Rattle.rvm_codec.proofs.Steps.{and_so, both_are, same_number}
use Rattle.rvm_hart.specs.declared.fields.HartFields.{HartFields}
use Rattle.rvm_hart.specs.Fields.{with_number}
use Rattle.rvm_hart.specs.Machine.{HartState}
use Rattle.rvm_hart.specs.Registers.{AreRegisters}
use Rattle.rvm_board.specs.Board.{hart_at, new_hart}
use Rattle.rvm_board.specs.declared.event.BoardEvent.{BoardEvent}
use Rattle.rvm_board.specs.declared.part.HartPart.{HartPart}
use Rattle.rvm_board.specs.Guest.{Guest}
use Rattle.rvm_board.specs.Events.{answered}
use Rattle.rvm_board.specs.Kept.{Keeps}
use Rattle.rvm_board.specs.Parts.{part_of}
use Rattle.rvm_board.specs.State.{guest_of, numbered, parts_of, state_of}
use Rattle.rvm_board.proofs.Answering.{answered_keeps}
use Rattle.rvm_board.proofs.Guests.{length-numbered}
use Rattle.rvm_board.proofs.Made.{numbered_at}
use Rattle.rvm_guest.specs.Pages.{after, count_of, pages_of, size_of, writes, zeros}
use Rattle.rvm_guest.specs.Valid.{is_hart, are_harts, is_valid}
use Rattle.rvm_guest.proofs.Joined.{length_pages, page_at}

-- VALID

-- the hart has this number and 32 registers, of which x0 is 0
pub record IsHart (n : ℕ) (h : HartState) : Type 0 where
  pub number : h.csrs.hart ≡ n
  pub registers : AreRegisters h.regs

hart_is : (n : ℕ) (h : HartState) → is_hart n h ≡ true → IsHart n h
hart_is n h t =
    let a = both_are (h.csrs.hart == n) _ t in
    let b = both_are (length h.regs == 32) _ a.1 in
    record { number = eqb-true _ _ a.0; registers = (eqb-true _ _ b.0, eqb-true _ _ b.1) }

hart_so : (n : ℕ) (h : HartState) → IsHart n h → is_hart n h ≡ true
hart_so n h is =
    and_so (h.csrs.hart == n) _ (same_number _ _ is.number)
    (and_so (length h.regs == 32) _ (same_number _ _ is.registers.0) (same_number _ _ is.registers.1))

harts_are : (first : ℕ) (hs : List HartState) (k : ℕ) (blank : HartState) → are_harts first hs ≡ true → k < length hs → IsHart (first + k) (get_or hs k blank)
harts_are first [] k blank t lt = absurd (omega (arith, lt))
harts_are first (h ∷ hs) zero blank t lt =
    let z : first ≡ first + 0 = omega arith in
    subst (λ n. IsHart n h) z (hart_is first h (both_are (is_hart first h) (are_harts (first + 1) hs) t).0)
harts_are first (h ∷ hs) (suc k) blank t lt =
    let z : first + 1 + k ≡ first + suc k = omega arith in
    subst (λ n. IsHart n (get_or hs k blank)) z
    (harts_are (first + 1) hs k blank (both_are (is_hart first h) (are_harts (first + 1) hs) t).1 (omega (arith, lt)))

harts_so : (first : ℕ) (hs : List HartState) (blank : HartState) → ((k : ℕ) → k < length hs → IsHart (first + k) (get_or hs k blank)) → are_harts first hs ≡ true
harts_so first [] blank each = refl
harts_so first (h ∷ hs) blank each =
    let z : first + 0 ≡ first = omega arith in
    and_so (is_hart first h) (are_harts (first + 1) hs) (hart_so first h (subst (λ n. IsHart n h) z (each 0 (omega arith))))
    (harts_so (first + 1) hs blank
    (λ k lt. let y : first + suc k ≡ first + 1 + k = omega arith in subst (λ n. IsHart n (get_or hs k blank)) y (each (suc k) (omega (arith, lt)))))

-- each of the first n harts of a guest is valid, and has its index as its number
abbrev pub AreHarts : ℕ → Guest → Type 0
AreHarts n g = (k : ℕ) → k < n → IsHart k (hart_at k g.board)

-- a valid guest, part by part
pub record IsValid (g : Guest) : Type 0 where
  pub harts : AreHarts (length g.board.harts) g
  pub msip : length g.board.shared.devices.msip ≡ length g.board.harts
  pub mtimecmp : length g.board.shared.devices.mtimecmp ≡ length g.board.harts
  pub reservations : length g.board.shared.reservations ≡ length g.board.harts
  pub stopped : length g.stopped ≡ length g.board.harts
  pub whole : size_of g % 4096 ≡ 0
  pub count : within 1 4096 (count_of g) ≡ true

pub valid_is : (g : Guest) → is_valid g ≡ true → IsValid g
unfolding is_valid
valid_is g h =
    let n = length g.board.harts in
    let b = both_are (are_harts 0 g.board.harts) _ h in
    let c = both_are (length g.board.shared.devices.msip == n) _ b.1 in
    let d = both_are (length g.board.shared.devices.mtimecmp == n) _ c.1 in
    let e = both_are (length g.board.shared.reservations == n) _ d.1 in
    let f = both_are (length g.stopped == n) _ e.1 in
    let i = both_are (size_of g % 4096 == 0) _ f.1 in
    record {
      harts = λ k lt. let z : 0 + k ≡ k = omega arith in subst (λ n. IsHart n (hart_at k g.board)) z (harts_are 0 g.board.harts k (new_hart 0 0) b.0 lt);
      msip = eqb-true _ _ c.0;
      mtimecmp = eqb-true _ _ d.0;
      reservations = eqb-true _ _ e.0;
      stopped = eqb-true _ _ f.0;
      whole = eqb-true _ _ i.0;
      count = i.1;
    }

pub valid_so : (g : Guest) → IsValid g → is_valid g ≡ true
unfolding is_valid
valid_so g v =
    let n = length g.board.harts in
    and_so (are_harts 0 g.board.harts) _
    (harts_so 0 g.board.harts (new_hart 0 0) (λ k lt. let z : k ≡ 0 + k = omega arith in subst (λ n. IsHart n (hart_at k g.board)) z (v.harts k lt)))
    (and_so (length g.board.shared.devices.msip == n) _ (same_number _ _ v.msip)
    (and_so (length g.board.shared.devices.mtimecmp == n) _ (same_number _ _ v.mtimecmp)
    (and_so (length g.board.shared.reservations == n) _ (same_number _ _ v.reservations)
    (and_so (length g.stopped == n) _ (same_number _ _ v.stopped)
    (and_so (size_of g % 4096 == 0) _ (same_number _ _ v.whole) v.count)))))

-- A GUEST THAT A HOST HAS

-- the first harts have 31 registers besides x0
abbrev pub HaveRegisters : ℕ → List HartPart → Type 0
HaveRegisters n parts = (k : ℕ) → k < n → (blank : HartPart) → length (get_or parts k blank).fields.registers ≡ 31

pub no_harts : (parts : List HartPart) → HaveRegisters 0 parts
no_harts parts k lt = absurd (omega (arith, lt))

pub one_hart_more : (parts : List HartPart) (n : ℕ) (d : HartPart) → n < length parts → length (get_or parts n d).fields.registers ≡ 31 → HaveRegisters n parts → HaveRegisters (n + 1) parts
one_hart_more parts n d lt long so_far =
    below_more (λ k. (blank : HartPart) → length (get_or parts k blank).fields.registers ≡ 31) n so_far
    (λ blank. ap (λ (p : HartPart). length p.fields.registers) (get_or_default parts n blank d lt) ∙ long)

-- the harts that are made of what is kept of each hart are valid
made_harts : (g : Guest) (parts : List HartPart) → numbered 0 parts ≡ g.board.harts → HaveRegisters (length parts) parts → AreHarts (length parts) g
made_harts g parts made have k lt =
    let blank : HartPart = part_of 0 g in
    let fields : HartFields = (get_or parts k blank).fields in
    let number : 0 + k ≡ k = omega arith in
    let is : with_number (0 + k) fields ≡ hart_at k g.board = sym (numbered_at 0 parts k blank (new_hart 0 0) lt) ∙ ap (λ hs. get_or hs k (new_hart 0 0)) made in
    subst (λ h. IsHart k h) is (record { number = number; registers = (ap suc (have k lt blank), refl) })

-- a guest that its values and its RAM make is valid
pub made_valid : (g : Guest) (parts : List HartPart) → parts ≡ parts_of g → guest_of g.board.shared.bytes (state_of g) ≡ g → HaveRegisters (length parts) parts → size_of g % 4096 ≡ 0 → within 1 4096 (count_of g) ≡ true → IsValid g
made_valid g parts are made have whole count =
    let all : List HartPart = parts_of g in
    let harts : numbered 0 all ≡ g.board.harts = ap (λ (x : Guest). x.board.harts) made in
    let long : length g.board.harts ≡ length all = ap length (sym harts) ∙ length-numbered 0 all in
    let there : HaveRegisters (length all) all = subst (λ (ps : List HartPart). HaveRegisters (length ps) ps) are have in
    record {
      harts = λ k lt. made_harts g all harts there k (omega (arith, lt, long));
      msip = ap (λ (x : Guest). length x.board.shared.devices.msip) (sym made) ∙ length-map all (λ p. p.msip) ∙ sym long;
      mtimecmp = ap (λ (x : Guest). length x.board.shared.devices.mtimecmp) (sym made) ∙ length-map all (λ p. p.mtimecmp) ∙ sym long;
      reservations = ap (λ (x : Guest). length x.board.shared.reservations) (sym made) ∙ length-map all (λ p. p.reserved) ∙ sym long;
      stopped = ap (λ (x : Guest). length x.stopped) (sym made) ∙ length-map all (λ p. p.stopped) ∙ sym long;
      whole = whole;
      count = count;
    }

pub sized : (g : Guest) (pages : ℕ) → size_of g ≡ 4096 * pages → 0 < size_of g → size_of g ≤ 2 ^ 24 → (size_of g % 4096 ≡ 0) × (within 1 4096 (count_of g) ≡ true)
sized g pages whole some bound =
    let low : 1 ≤ count_of g = omega (arith, whole, some) in
    let high : count_of g ≤ 4096 = omega (arith, bound) in
    (omega (arith, whole), grind (arith, nat_tests))

-- EVENTS

kept_valid : (g t : Guest) (e : BoardEvent) → t ≡ after g e → IsValid g → IsValid t
kept_valid g t e is v =
    let k : Keeps (answered e g) g = answered_keeps e g in
    subst IsValid (sym is)
    (record {
      harts = λ i lt.
          let below : i < length g.board.harts = let z = k.harts in omega (arith, lt, z) in
          let h : IsHart i (hart_at i g.board) = v.harts i below in
          record { number = k.numbers i below ∙ h.number; registers = k.registers i below h.registers };
      msip = k.msip ∙ v.msip ∙ sym k.harts;
      mtimecmp = k.mtimecmp ∙ v.mtimecmp ∙ sym k.harts;
      reservations = k.reservations ∙ v.reservations ∙ sym k.harts;
      stopped = k.stopped ∙ v.stopped ∙ sym k.harts;
      whole = ap (λ n. n % 4096) k.size ∙ v.whole;
      count = subst (λ n. within 1 4096 (n / 4096) ≡ true) (sym k.size) v.count;
    })

pub stays : (g : Guest) (e : BoardEvent) → is_valid g ≡ true → is_valid (after g e) ≡ true
stays g e h = valid_so (after g e) (kept_valid g (after g e) e refl (valid_is g h))

same_count : (g : Guest) (e : BoardEvent) → count_of (after g e) ≡ count_of g
same_count g e = ap (λ n. n / 4096) (answered_keeps e g).size

pub same_length : (g : Guest) (e : BoardEvent) → length (pages_of (after g e)) ≡ length (pages_of g)
same_length g e =
    length_pages (count_of (after g e)) (after g e).board.shared.bytes ∙ same_count g e
    ∙ sym (length_pages (count_of g) g.board.shared.bytes)

pub same_processors : (g : Guest) (e : BoardEvent) → length (after g e).board.harts ≡ length g.board.harts
same_processors g e = (answered_keeps e g).harts

-- PAGES

-- a page that is not marked after these pages are marked is none of them, and was not marked before
unmarked : (pages : List ℕ) (d : List Bool) (p : ℕ) → p < length d → has p (mark_all pages d) ≡ false → NoneOf p pages × (has p d ≡ false)
unmarked [] d p lt h = (tt, h)
unmarked (q ∷ pages) d p lt h =
    let s = length-set d q true in
    let rest = unmarked pages (set d q true) p (omega (arith, lt, s)) h in
    elim (cases_eq p q) [
      | inl e ↦
          let marked : has p (set d q true) ≡ true = ap (λ z. get_or (set d q true) z false) e ∙ get_or-set_same d q true false (omega (arith, lt, e)) in
          absurd (let f : true ≡ false = sym marked ∙ rest.1 in cc)
      | inr x ↦ ((λ e. x (sym e), rest.0), sym (get_or-set_other d q p true false x) ∙ rest.1)
    ]

pub unwritten : (g : Guest) (e : BoardEvent) (p : ℕ) → writes g e p ≡ false → get_or (pages_of (after g e)) p zeros ≡ get_or (pages_of g) p zeros
unfolding writes
unwritten g e p h =
    let t : Guest = after g e in
    let blank : List Bool = replicate (count_of g) false in
    let long : length blank ≡ count_of g = length-replicate (count_of g) false in
    let same : count_of t ≡ count_of g = same_count g e in
    elim (cases_lt p (count_of g)) [
      | inl lt ↦
          page_at (count_of t) p t.board.shared.bytes zeros (omega (arith, lt, same))
          ∙ (answered_keeps e g).others p (unmarked (answered e g).pages blank p (omega (arith, lt, long)) h).0
          ∙ sym (page_at (count_of g) p g.board.shared.bytes zeros lt)
      | inr ge ↦
          get_or_past (pages_of t) p zeros (let l = length_pages (count_of t) t.board.shared.bytes in omega (arith, ge, same, l))
          ∙ sym (get_or_past (pages_of g) p zeros (let l = length_pages (count_of g) g.board.shared.bytes in omega (arith, ge, l)))
    ]
