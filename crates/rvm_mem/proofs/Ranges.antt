-- One byte more of a range that is read, and the pages of a range that is written.
use Rattle.std.proofs.Common.{◌≡◌, ℕ, zero, suc, Bool, true, add-one, ◌+◌, ◌-◌, ◌/◌, ◌%◌, ◌<◌, ◌≤◌, List, [], ◌∷◌, ◌++◌, length, take, drop, get_or, set, refl, sym, ap, ◌∙◌, arith, append_assoc}
use Rattle.std.proofs.lemmas.List.{take_more, drop_more, get_or-drop, set-append_right, set-set, length-set, length-take-le}
use Rattle.std.proofs.lemmas.List.{length-drop}
use Rattle.rvm_mem.specs.Bytes.{load}
use Rattle.rvm_mem.specs.Pages.{byte_pages, mark, mark_all}

pub load_one : (mem : List ℕ) (at : ℕ) → load 1 at mem ≡ get_or mem at 0
load_one mem at =
    let e : get_or (drop at mem) 0 0 ≡ get_or mem (at + 0) 0 = get_or-drop at mem 0 0 in
    let f : get_or mem (at + 0) 0 ≡ get_or mem at 0 = ap (λ n. get_or mem n 0) (omega arith) in
    omega (arith, e, f)

-- reading: so far, and what is left of the buffer
pub read_more : (mem old : List ℕ) (at i : ℕ) → at + length old ≤ length mem → i < length old → set (take i (drop at mem) ++ drop i old) i (load 1 (at + i) mem) ≡ take (i + 1) (drop at mem) ++ drop (i + 1) old
read_more mem old at i inside more =
    let room : i < length (drop at mem) = omega (arith, length-drop at mem) in
    let so_far : length (take i (drop at mem)) ≡ i = length-take-le i (drop at mem) (omega arith) in
    let v : ℕ = load 1 (at + i) mem in
    let byte : v ≡ get_or (drop at mem) i 0 = load_one mem (at + i) ∙ sym (get_or-drop at mem i 0) in
    set-append_right (take i (drop at mem)) (drop i old) i i v so_far (omega arith)
    ∙ ap (λ n. take i (drop at mem) ++ set (drop i old) n v) (let z : i - i ≡ 0 = omega arith in z)
    ∙ ap (λ rest. take i (drop at mem) ++ set rest 0 v) (drop_more old i 0 more)
    ∙ ap (λ b. take i (drop at mem) ++ b ∷ drop (i + 1) old) byte
    ∙ sym (append_assoc (take i (drop at mem)) (get_or (drop at mem) i 0 ∷ []) (drop (i + 1) old))
    ∙ ap (λ front. front ++ drop (i + 1) old) (sym (take_more (drop at mem) i 0 room))

-- the log with one byte's page more
mark_last : (pages : List ℕ) (page : ℕ) (dirty : List Bool) → mark_all (pages ++ page ∷ []) dirty ≡ mark page (mark_all pages dirty)
mark_last [] page dirty = refl
mark_last (p ∷ pages) page dirty = mark_last pages page (mark p dirty)

pub mark_more : (at n : ℕ) (dirty : List Bool) → mark_all (byte_pages at (n + 1)) dirty ≡ mark ((at + n) / 4096) (mark_all (byte_pages at n) dirty)
unfolding byte_pages
mark_more at n dirty = rw add-one (mark_last (byte_pages at n) ((at + n) / 4096) dirty)

-- n bytes, and more than k after them that lie in one page
pub mark_page : (at n k : ℕ) (dirty : List Bool) → (at + n) / 4096 ≡ (at + n + k) / 4096 → mark_all (byte_pages at (n + 1 + k)) dirty ≡ mark ((at + n) / 4096) (mark_all (byte_pages at n) dirty)
mark_page at n zero dirty same = ap (λ m. mark_all (byte_pages at m) dirty) (let e : n + 1 + 0 ≡ n + 1 = omega arith in e) ∙ mark_more at n dirty
mark_page at n (suc k) dirty same =
    let before : List Bool = mark_all (byte_pages at n) dirty in
    let first : ℕ = (at + n) / 4096 in
    let near : first ≡ (at + n + k) / 4096 = omega (arith, same) in
    let last : (at + (n + 1 + k)) / 4096 ≡ first = omega (arith, same) in
    ap (λ m. mark_all (byte_pages at m) dirty) (let e : n + 1 + suc k ≡ n + 1 + k + 1 = omega arith in e)
    ∙ mark_more at (n + 1 + k) dirty
    ∙ ap (λ page. mark page (mark_all (byte_pages at (n + 1 + k)) dirty)) last
    ∙ ap (mark first) (mark_page at n k dirty near)
    ∙ set-set before first true true

-- the pages of the first bytes of a range are in the log
pub record MarkedTo (at done : ℕ) (old new : List Bool) : Type 0 where
  pub pages : new ≡ mark_all (byte_pages at done) old
  pub size : length new ≡ length old

pub none_marked : (at : ℕ) (dirty : List Bool) → MarkedTo at 0 dirty dirty
unfolding byte_pages
none_marked at dirty = record { pages = refl; size = refl }

-- with the page of the next of them, up to that page's end
pub more_marked : (at done next : ℕ) (old new : List Bool) → MarkedTo at done old new → done < next → next ≤ done + 4096 - (at + done) % 4096 → MarkedTo at next old (mark ((at + done) / 4096) new)
more_marked at done next old new m more near =
    let k : ℕ = next - (done + 1) in
    let e : done + 1 + k ≡ next = omega arith in
    let same : (at + done) / 4096 ≡ (at + done + k) / 4096 = omega (arith, near) in
    record {
      pages = ap (mark ((at + done) / 4096)) m.pages ∙ sym (mark_page at done k old same) ∙ ap (λ n. mark_all (byte_pages at n) old) e;
      size = length-set new ((at + done) / 4096) true ∙ m.size;
    }
