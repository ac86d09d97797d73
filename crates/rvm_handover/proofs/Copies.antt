-- A copy of a page is staged as the protocol of live migration says.
use Rattle.std.proofs.Common.{◌≡◌, ℕ, ◌*◌, ◌/◌, ◌<◌, Bool, true, false, ◌&&◌, nat_lt, if◌then◌else◌, List, length, replicate, get_or, Option, None, refl, sym, ap, ◌∙◌, arith}
use Rattle.std.proofs.Math.Path.{fun_ext}
use Rattle.std.proofs.lemmas.Bool.{ltb-true}
use Rattle.rvm_protocol.specs.Receiving.{page_came}
use Rattle.rvm_protocol.specs.Replies.{Stored}
use Rattle.rvm_protocol.specs.Modes.{Staging, says, ignores}
use Rattle.rvm_protocol.specs.Staging.{new_stage, with_page}
use Rattle.rvm_guest.specs.Pages.{pages_in}
use Rattle.rvm_guest.proofs.Joined.{blank_pages, length_pages, put_page}
use Rattle.rvm_guest.specs.TheGuest.{board}
use Rattle.rvm_handover.specs.Stages.{PlainStage, stage_of, is_newer, with_copy}
use Rattle.rvm_handover.specs.Outcomes.{BoardOutcome, copied}
use Rattle.rvm_handover.proofs.Tables.{of_replicate, set_is_put}

pub new_is : (bytes have : List ℕ) (pages harts : ℕ) → bytes ≡ replicate (4096 * pages) 0 → have ≡ replicate pages 0
    → stage_of (record { bytes = bytes; have = have; harts = harts; stamp = 0; parts = 0; pieces = replicate 6 None }) ≡ new_stage board.zeros pages harts
unfolding board
new_is bytes have pages harts eb eh =
    let rams = ap pages_in eb ∙ blank_pages pages in
    let haves = fun_ext (λ p. ap (λ xs. get_or xs p 0) eh ∙ of_replicate {V = ℕ} pages p 0) in
    let places = fun_ext (λ p. of_replicate {V = Option (List ℕ)} 6 p None) in
    λ i. record { pages = rams i; have = haves i; processors = harts; stamp = 0; parts = 0; pieces = places i }

pub stage_with_copy : (s : PlainStage) (p k : ℕ) (b : List ℕ) → length b ≡ 4096 → length s.bytes ≡ 4096 * length s.have → p < length s.have
    → stage_of (with_copy p k b s) ≡ with_page (stage_of s) p k b
stage_with_copy s p k b lb l lt =
    let rams = put_page p b s.bytes (omega (arith, l)) lb (omega (arith, l, lt)) in
    let haves = set_is_put s.have p k 0 lt in
    λ i. record { pages = rams i; have = haves i; processors = s.harts; stamp = s.stamp; parts = s.parts; pieces = λ j. get_or s.pieces j None }

newer_is : (s : PlainStage) (p k : ℕ) → length s.bytes ≡ 4096 * length s.have
    → (nat_lt p (length (stage_of s).pages) && nat_lt ((stage_of s).have p) k) ≡ is_newer p k s
newer_is s p k l =
    let n : length s.bytes / 4096 ≡ length s.have = omega (arith, l) in
    ap (λ c. nat_lt p c && nat_lt (get_or s.have p 0) k) (length_pages (length s.bytes / 4096) s.bytes ∙ n)

-- the outcome of a copy that comes, by whether it is newer
abbrev came_if : (move p k : ℕ) → List ℕ → PlainStage → Bool → BoardOutcome
came_if move p k b s newer =
    if newer then says (Stored p k) (Staging move (with_page (stage_of s) p k b)) else ignores (Staging move (stage_of s))

and_first : (a b : Bool) → (a && b) ≡ true → a ≡ true
and_first true b h = refl
and_first false b h = h

staged : (move p k : ℕ) (b : List ℕ) (s : PlainStage) (newer : Bool) → newer ≡ is_newer p k s → length b ≡ 4096 → length s.bytes ≡ 4096 * length s.have
    → came_if move p k b s newer ≡ copied move p k newer (if newer then with_copy p k b s else s)
staged move p k b s true is lb l =
    let lt : p < length s.have = ltb-true p (length s.have) (and_first (nat_lt p (length s.have)) (nat_lt (get_or s.have p 0) k) (sym is)) in
    ap (λ x. says (Stored p k) (Staging move x)) (sym (stage_with_copy s p k b lb l lt))
staged move p k b s false is lb l = refl

-- the outcome of a copy that comes is right for the flag that it was stored and the stage after it
pub copy_came : (move p k : ℕ) (b : List ℕ) (s t : PlainStage) (stored : Bool) → length b ≡ 4096 → length s.bytes ≡ 4096 * length s.have
    → stored ≡ is_newer p k s → t ≡ (if is_newer p k s then with_copy p k b s else s)
    → page_came board move (stage_of s) p k b ≡ copied move p k stored t
copy_came move p k b s t stored lb l es et =
    ap (λ c. came_if move p k b s c) (newer_is s p k l)
    ∙ staged move p k b s (is_newer p k s) refl lb l
    ∙ ap (λ x. copied move p k (is_newer p k s) x) (sym et)
    ∙ ap (λ x. copied move p k x t) (sym es)
