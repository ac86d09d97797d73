-- One page of zeros more.
use Rattle.std.proofs.Common.{◌≡◌, ℕ, ◌+◌, ◌*◌, ◌/◌, ◌<◌, ◌≤◌, List, [], ◌++◌, Bool, true, false, length, drop, get_or, set, replicate, sym, ap, subst, ◌∙◌, arith, append_assoc, inl, inr}
use Rattle.std.proofs.lemmas.List.{take_at, drop-drop, drop_at, drop_all, append-nil, length-replicate, replicate-append-replicate, same_lists, get_or-replicate, length-set, get_or-set_same, get_or-set_other, get_or_default}
use Rattle.std.proofs.lemmas.Bool.{cases_eq}
use Rattle.rvm_mem.specs.Bytes.{replaced}
use Rattle.rvm_mem.specs.Pages.{byte_pages, mark, mark_all}
use Rattle.rvm_mem.proofs.Ranges.{mark_page}

-- the n bytes after zeros become zeros
zeros_behind : (old : List ℕ) (at n : ℕ) → replaced at (replicate n 0) (replicate at 0 ++ drop at old) ≡ replicate (at + n) 0 ++ drop (at + n) old
zeros_behind old at n =
    let front : List ℕ = replicate at 0 in
    let zeros : List ℕ = replicate n 0 in
    let size : length front ≡ at = length-replicate at 0 in
    let rest : drop (at + length zeros) (front ++ drop at old) ≡ drop (at + n) old =
    ap (λ k. drop (at + k) (front ++ drop at old)) (length-replicate n 0)
    ∙ sym (drop-drop n at (front ++ drop at old)) ∙ ap (drop n) (drop_at front (drop at old) at size) ∙ drop-drop n at old in
    ap (λ xs. xs ++ (zeros ++ drop (at + length zeros) (front ++ drop at old))) (take_at front (drop at old) at size)
    ∙ ap (λ xs. front ++ (zeros ++ xs)) rest
    ∙ sym (append_assoc front zeros (drop (at + n) old))
    ∙ ap (λ xs. xs ++ drop (at + n) old) (replicate-append-replicate at n 0)

-- the pages so far are zeros, and those after them are unchanged
pub zeros_more : (old : List ℕ) (i : ℕ) → replaced (4096 * i) (replicate 4096 0) (replicate (4096 * i) 0 ++ drop (4096 * i) old) ≡ replicate (4096 * (i + 1)) 0 ++ drop (4096 * (i + 1)) old
zeros_more old i = zeros_behind old (4096 * i) 4096 ∙ ap (λ n. replicate n 0 ++ drop n old) (let e : 4096 * i + 4096 ≡ 4096 * (i + 1) = omega arith in e)

pub zeros_all : (old : List ℕ) (i n : ℕ) → length old ≡ n → n ≤ 4096 * i → 4096 * i ≤ n → replicate (4096 * i) 0 ++ drop (4096 * i) old ≡ replicate n 0
zeros_all old i n size enough most =
    let same : 4096 * i ≡ n = omega arith in
    let none : drop (4096 * i) old ≡ [] = drop_all (4096 * i) old (omega arith) in
    ap (λ xs. replicate (4096 * i) 0 ++ xs) none ∙ append-nil (replicate (4096 * i) 0) ∙ ap (λ k. replicate k 0) same

-- the pages so far are in the log
pub record Marked (i : ℕ) (old new : List Bool) : Type 0 where
  pub size : length new ≡ length old
  pub pages : (k : ℕ) → k < i → k < length old → get_or new k false ≡ true

marked_one : (i : ℕ) (old new : List Bool) → Marked i old new → Marked (i + 1) old (mark i new)
marked_one i old new m =
    record {
      size = length-set new i true ∙ m.size;
      pages = λ k below inside.
          elim (cases_eq k i) [
            | inl e ↦ ap (λ n. get_or (set new i true) n false) e ∙ get_or-set_same new i true false (omega (arith, m.size))
            | inr n ↦ get_or-set_other new i k true false n ∙ m.pages k (omega arith) inside
          ];
    }

-- a page's bytes mark that page
page_marked : (i : ℕ) (new : List Bool) → mark_all (byte_pages (4096 * i) 4096) new ≡ mark i new
unfolding byte_pages
page_marked i new =
    mark_page (4096 * i) 0 4095 new (omega arith)
    ∙ ap (λ page. mark page new) (let e : (4096 * i + 0) / 4096 ≡ i = omega arith in e)

pub marked_more : (i : ℕ) (old new : List Bool) → Marked i old new → Marked (i + 1) old (mark_all (byte_pages (4096 * i) 4096) new)
marked_more i old new m = let e : mark i new ≡ mark_all (byte_pages (4096 * i) 4096) new = sym (page_marked i new) in
    subst (Marked (i + 1) old) e (marked_one i old new m)

pub marked_all : (i : ℕ) (old new : List Bool) → Marked i old new → length old ≤ i → new ≡ replicate (length old) true
marked_all i old new m enough =
    same_lists new (replicate (length old) true) (m.size ∙ sym (length-replicate (length old) true))
    (λ k d below.
    let inside : k < length old = omega (arith, m.size) in
    get_or_default new k d false below ∙ m.pages k (omega arith) inside ∙ sym (get_or-replicate (length old) k true d inside))
