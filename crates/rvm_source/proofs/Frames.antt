-- A copy of a page as a stream's version sends it, and the frame that offers a guest.
use Rattle.std.proofs.Common.{◌≡◌, ◌↔◌, ℕ, ◌*◌, ◌<◌, ◌≤◌, Bool, true, false, ◌&&◌, if◌then◌else◌, List, length, refl, sym, ap, ◌∙◌, arith}
use Rattle.std.proofs.lemmas.Bool.{false≢true}
use Rattle.std.proofs.lemmas.Bool.Decides.{nat_tests}
use Rattle.rvm_mem.specs.Pages as mem
use Rattle.rvm_board.specs.Guest.{Guest}
use Rattle.rvm_protocol.specs.Frames.{Offer, Page, Zero, written, is_compact}
use Rattle.rvm_protocol.specs.Obeying.{offer_frame}
use Rattle.rvm_protocol.specs.Rounds.{page_count, page_of}
use Rattle.rvm_guest.specs.Pages.{count_of, is_zeros, size_of, zeros}
use Rattle.rvm_guest.proofs.Joined.{length_pages, page_at}
use Rattle.rvm_guest.proofs.TheGuest.{board_laws}
use Rattle.rvm_guest.specs.TheGuest.{board}

pub if_true : {X : Type 0} (b : Bool) (x y : X) → b ≡ true → (if b then x else y) ≡ x
if_true true x y h = refl
if_true false x y h = absurd (cc)

pub if_false : {X : Type 0} (b : Bool) (x y : X) → b ≡ false → (if b then x else y) ≡ y
if_false true x y h = absurd (cc)
if_false false x y h = refl

none_is : (b : Bool) → (b ≡ true → ⊥) → false ≡ b
none_is true never = absurd (never refl)
none_is false never = refl

-- a flag that is set if and only if bytes are a page of zeros is the protocol's test of them
pub zeros_are : (bytes : List ℕ) (told : Bool) → (told ≡ true ↔ bytes ≡ zeros) → told ≡ is_zeros bytes
unfolding board
zeros_are bytes true is = sym (ap is_zeros (is.0 refl))
zeros_are bytes false is = none_is (is_zeros bytes) (λ all. false≢true (is.1 (board_laws.only_zeros_pass bytes all)))

-- a guest has as many pages as its dirty log
pub count_is : (g : Guest) (pages bytes : ℕ) → bytes ≡ size_of g → bytes ≡ 4096 * pages → page_count board g ≡ pages
unfolding board
count_is g pages bytes a b =
    let e : count_of g ≡ pages = omega (arith, a, b) in
    length_pages (count_of g) g.board.shared.bytes ∙ e

pub page_is : (g : Guest) (p : ℕ) (b bytes : List ℕ) → b ≡ mem.page_of p bytes → bytes ≡ g.board.shared.bytes → p < page_count board g
    → b ≡ page_of board g p
unfolding board
page_is g p b bytes e f lt =
    let l = length_pages (count_of g) g.board.shared.bytes in
    e ∙ ap (λ x. mem.page_of p x) f ∙ sym (page_at (count_of g) p g.board.shared.bytes zeros (omega (arith, lt, l)))

pub page_at_is : (g : Guest) (p q pages size : ℕ) (b bytes : List ℕ) → b ≡ mem.page_of q bytes → bytes ≡ g.board.shared.bytes → size ≡ size_of g
    → size ≡ 4096 * pages → q ≡ p → p < pages → b ≡ page_of board g p
page_at_is g p q pages size b bytes e f s t same lt =
    let n = count_is g pages size s t in
    page_is g p b bytes (e ∙ ap (λ k. mem.page_of k bytes) same) f (omega (arith, n, lt))

pub zero_frame : (version n p k : ℕ) (g : Guest) (b : List ℕ) → b ≡ page_of board g p → 2 ≤ version → is_zeros b ≡ true
    → Zero n p k ≡ written board version (Page n p k (page_of board g p))
unfolding board
zero_frame version n p k g b same new zero =
    let pg = page_of board g p in
    let compact : is_compact version ≡ true = grind (arith, nat_tests) in
    sym (if_true (is_compact version && is_zeros pg) (Zero n p k) (Page n p k pg)
    (ap (λ t. t && is_zeros pg) compact ∙ ap is_zeros (sym same) ∙ zero))

pub old_frame : (version n p k : ℕ) (g : Guest) (b : List ℕ) → b ≡ page_of board g p → version < 2
    → Page n p k b ≡ written board version (Page n p k (page_of board g p))
old_frame version n p k g b same old =
    let pg = page_of board g p in
    let compact : is_compact version ≡ false = grind (arith, nat_tests) in
    ap (λ x. Page n p k x) same
    ∙ sym (if_false (is_compact version && board.is_zeros pg) (Zero n p k) (Page n p k pg) (ap (λ t. t && board.is_zeros pg) compact))

pub page_frame : (version n p k : ℕ) (g : Guest) (b : List ℕ) → b ≡ page_of board g p → 2 ≤ version → is_zeros b ≡ false
    → Page n p k b ≡ written board version (Page n p k (page_of board g p))
unfolding board
page_frame version n p k g b same new other =
    let pg = page_of board g p in
    let compact : is_compact version ≡ true = grind (arith, nat_tests) in
    ap (λ x. Page n p k x) same
    ∙ sym (if_false (is_compact version && is_zeros pg) (Zero n p k) (Page n p k pg)
    (ap (λ t. t && is_zeros pg) compact ∙ ap is_zeros (sym same) ∙ other))

pub offer_is : (n pages harts size log : ℕ) (g : Guest) → size ≡ size_of g → size ≡ 4096 * log → pages ≡ log → harts ≡ length g.board.harts
    → Offer n pages harts ≡ offer_frame board n g
unfolding board
offer_is n pages harts size log g s t same count =
    λ i. Offer n ((same ∙ sym (count_is g log size s t)) i) (count i)
