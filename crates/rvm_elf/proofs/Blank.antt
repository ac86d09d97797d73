-- A write into a board where no hart has a reservation and each page is in the dirty log changes RAM alone.
use Rattle.std.proofs.Common.{◌≡◌, ℕ, zero, suc, ◌+◌, ◌-◌, List, [], ◌∷◌, true, Option, None, length, map, set, replicate, refl, sym, ap, ◌∙◌}
use Rattle.rvm_mem.specs.Bytes.{replaced}
use Rattle.rvm_mem.specs.Pages.{byte_pages, mark_all}
use Rattle.rvm_res.specs.Reservations.{poked, without}
use Rattle.rvm_hart.specs.Bus.{ram_base}
use Rattle.rvm_hart.specs.Pokes.{poked_each}
use Rattle.rvm_board.specs.Board.{BoardState}
use Rattle.rvm_board.specs.Pokes.{memory_poked}
use Rattle.rvm_elf.specs.Placing.{IsBlank, with_ram}

map-none : (word m : ℕ) → map (without word) (replicate {A = Option ℕ} m None) ≡ replicate m None
map-none word zero = refl
map-none word (suc m) = ap (λ ws. None ∷ ws) (map-none word m)

poked_none : (a n m : ℕ) → poked_each a n (replicate m None) ≡ replicate m None
unfolding poked_each
poked_none a zero m = refl
poked_none a (suc n) m = ap (poked (a + n)) (poked_none a n m) ∙ map-none _ m

set-true : (i m : ℕ) → set (replicate m true) i true ≡ replicate m true
set-true i zero = refl
set-true zero (suc m) = refl
set-true (suc i) (suc m) = ap (λ bs. true ∷ bs) (set-true i m)

marked_true : (pages : List ℕ) (m : ℕ) → mark_all pages (replicate m true) ≡ replicate m true
marked_true [] m = refl
marked_true (page ∷ pages) m = ap (mark_all pages) (set-true page m) ∙ marked_true pages m

-- a list that is all of one kind, as replicate
kept : {A : Type 0} (f : List A → List A) (x : A) (xs : List A) → xs ≡ replicate (length xs) x → ((m : ℕ) → f (replicate m x) ≡ replicate m x) → f xs ≡ xs
kept f x xs all keeps = ap f all ∙ keeps (length xs) ∙ sym all

pub poked_blank : (a : ℕ) (bytes : List ℕ) (b : BoardState) → IsBlank b → memory_poked a bytes b ≡ with_ram (replaced (a - ram_base) bytes b.plain.shared.bytes) b
poked_blank a bytes b blank =
    let bare : BoardState = with_ram (replaced (a - ram_base) bytes b.plain.shared.bytes) b in
    ap (λ words. record { plain = record bare.plain { shared = record bare.plain.shared { reservations = words } }; dirty = mark_all (byte_pages (a - ram_base) (length bytes)) b.dirty })
    (kept (poked_each a (length bytes)) None b.plain.shared.reservations blank.reservations (poked_none a (length bytes)))
    ∙ ap (λ dirty. record bare { dirty = dirty }) (kept (mark_all (byte_pages (a - ram_base) (length bytes))) true b.dirty blank.dirty (marked_true (byte_pages (a - ram_base) (length bytes))))
