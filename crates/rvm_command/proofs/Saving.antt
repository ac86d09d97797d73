-- The bytes that are written for a guest are a saved guest.
use Rattle.std.proofs.Common.{◌≡◌, ℕ, zero, suc, ◌+◌, ◌*◌, ◌<◌, ◌≤◌, ◌&&◌, nat_lt, Bool, true, if◌then◌else◌, List, [], ◌∷◌, ◌++◌, length, map, Option, Some, refl, sym, ap, ◌∙◌, subst, arith}
use Rattle.std.proofs.lemmas.Bool.{lt-ltb}
use Rattle.rvm_board.specs.Guest.{Guest}
use Rattle.rvm_frame.specs.declared.frame.Frame.{Frame}
use Rattle.rvm_frame.specs.declared.frame.Frame.TheVariants as frame
use Rattle.rvm_frame.specs.Grammar.{Received}
use Rattle.rvm_guest.proofs.Bodies.{body_is}
use Rattle.rvm_guest.proofs.Joined.{length_pages, page_at}
use Rattle.rvm_guest.proofs.TheGuest.{board_laws}
use Rattle.rvm_guest.specs.Body.{body_of}
use Rattle.rvm_guest.specs.Pages.{count_of, zeros}
use Rattle.rvm_guest.specs.TheGuest.{board}
use Rattle.rvm_guest.specs.Valid.{is_valid}
use Rattle.rvm_mem.specs.Pages as mem
use Rattle.rvm_message.specs.Frames.{BoardFrame, frame_heard, no_frame}
use Rattle.rvm_protocol.specs.Frames.{Offer, RoundEnd, State, Go}
use Rattle.rvm_protocol.specs.Pages.{listed}
use Rattle.rvm_protocol.specs.Rounds.{page_of}
use Rattle.rvm_command.proofs.Arriving.{arrives}
use Rattle.rvm_command.proofs.FramesPut.{more_put}
use Rattle.rvm_command.specs.Puts.{Puts}
use Rattle.rvm_command.proofs.StreamsSpelled.{begins, no_more, one_more, pages_more, received}
use Rattle.rvm_command.specs.Saved.{BoardHost, IsSavedGuest, after_received, guest_running, page_frame, saved_bytes, saved_frames}
use Rattle.rvm_command.specs.SentFrames.{after_frames, frames_sent, page_sent, running, waiting}
use Rattle.rvm_command.specs.Streams.{AreSpelled, after_all}
use Rattle.rvm_state.specs.Spelling as state

-- frames of a stream, as a host hears them
abbrev heard : List Received → List BoardFrame
heard xs = map (λ x. frame_heard x.1) xs

heard_all : (xs : List Received) (h : BoardHost)
    → after_all after_received guest_running xs h ≡ after_frames board (heard xs) h
unfolding after_all after_frames
heard_all [] h = refl
heard_all (x ∷ xs) h = heard_all xs (after_received x h)

-- the pages of RAM are those of the guest
page_is : (g : Guest) (p : ℕ) → p < count_of g → page_of board g p ≡ mem.page_of p g.board.shared.bytes
unfolding board
page_is g p lt = page_at (count_of g) p g.board.shared.bytes zeros lt

pages_heard : (g : Guest) (count first : ℕ) (fs : List Frame) → first + count ≤ count_of g
    → heard (received (listed (page_frame g.board.shared.bytes) first count ++ fs))
    ≡ listed (page_sent board g) first count ++ heard (received fs)
unfolding listed
pages_heard g zero first fs le = refl
pages_heard g (suc count) first fs le =
    let here : frame_heard (page_frame g.board.shared.bytes first) ≡ page_sent board g first =
    ap (λ b. frame_heard (frame.Page 1 first (suc first) b)) (sym (page_is g first (omega (arith, le)))) in
    let rest = pages_heard g count (suc first) fs (omega (arith, le)) in
    ap (λ f. f ∷ heard (received (listed (page_frame g.board.shared.bytes) (suc first) count ++ fs))) here
    ∙ ap (λ (fs : List BoardFrame). page_sent board g first ∷ fs) rest

-- the frames that are sent of a guest of this many pages
abbrev sent_of : Guest → (n : ℕ) → List BoardFrame
sent_of g n =
    Offer 1 n (length g.board.harts)
    ∷ (listed (page_sent board g) 0 n ++ RoundEnd 1 1 n 0 0 ∷ State 1 (listed suc 0 n) (body_of g) ∷ Go 1 ∷ [])

offer_heard : (n harts : ℕ) → 0 < n → frame_heard (frame.Offer 1 n harts) ≡ Offer 1 n harts
offer_heard n harts some =
    ap (λ (b : Bool). if (nat_lt 0 1 && b) then Offer 1 n harts else no_frame) (lt-ltb 0 n some)

frames_are : (g : Guest) → state.HasSpelling g → 0 < count_of g
    → heard (received (saved_frames g)) ≡ no_frame ∷ frames_sent board g
unfolding board
frames_are g has some =
    let n = count_of g in
    let last : List Frame = frame.RoundEnd 1 1 n 0 0 ∷ frame.State 1 (listed suc 0 n) (state.spelling g) ∷ frame.Go 1 ∷ [] in
    ap (λ (f : BoardFrame). no_frame ∷ f ∷ heard (received (listed (page_frame g.board.shared.bytes) 0 n ++ last)))
    (offer_heard n (length g.board.harts) some)
    ∙ ap (λ (fs : List BoardFrame). no_frame ∷ Offer 1 n (length g.board.harts) ∷ fs) (pages_heard g n 0 last (omega arith))
    ∙ ap (λ (b : List ℕ). no_frame ∷ Offer 1 n (length g.board.harts)
    ∷ (listed (page_sent board g) 0 n ++ RoundEnd 1 1 n 0 0 ∷ State 1 (listed suc 0 n) b ∷ Go 1 ∷ []))
    (sym (body_is g has))
    ∙ ap (λ k. no_frame ∷ sent_of g k) (sym (length_pages n g.board.shared.bytes))

-- a host that waits hears no frame that is none
none_heard : (fs : List BoardFrame) → after_frames board (no_frame ∷ fs) waiting ≡ after_frames board fs waiting
unfolding after_frames
none_heard fs = refl

guest_arrives : (g : Guest) → is_valid g ≡ true → count_of g ≤ 4096
    → running (after_frames board (frames_sent board g) waiting).mode ≡ Some g
unfolding board
guest_arrives g valid few =
    let n = length_pages (count_of g) g.board.shared.bytes in
    ap (λ (h : BoardHost). running h.mode) (arrives board board_laws g (omega (arith, n, few)) valid)

pub saved_is : (g : Guest) → AreSpelled (saved_frames g) → is_valid g ≡ true → state.HasSpelling g → 0 < count_of g
    → count_of g ≤ 4096 → IsSavedGuest (saved_bytes g) g
saved_is g spelled valid has some few =
    let n = count_of g in
    let last : List Frame = frame.RoundEnd 1 1 n 0 0 ∷ frame.State 1 (listed suc 0 n) (state.spelling g) ∷ frame.Go 1 ∷ [] in
    let rest = one_more (frame.Offer 1 n (length g.board.harts)) (listed (page_frame g.board.shared.bytes) 0 n ++ last) refl refl
    (pages_more (λ p. mem.page_of p g.board.shared.bytes) n 0 last
    (one_more (frame.RoundEnd 1 1 n 0 0) (frame.State 1 (listed suc 0 n) (state.spelling g) ∷ frame.Go 1 ∷ []) refl refl
    (one_more (frame.State 1 (listed suc 0 n) (state.spelling g)) (frame.Go 1 ∷ []) refl refl
    (one_more (frame.Go 1) [] refl refl no_more)))) in
    let xs = received (saved_frames g) in
    record {
      frames = xs;
      split = begins _ rest spelled;
      made =
          ap (λ (h : BoardHost). running h.mode)
          (heard_all xs waiting ∙ ap (λ fs. after_frames board fs waiting) (frames_are g has some)
          ∙ none_heard (frames_sent board g))
          ∙ guest_arrives g valid few;
    }

-- the frames of a guest, by how many pages and harts it has
abbrev frames_of : Guest → (pages harts : ℕ) → List Frame
frames_of g pages harts =
    frame.Hello 1 ∷ frame.Offer 1 pages harts
    ∷ (listed (page_frame g.board.shared.bytes) 0 pages
    ++ frame.RoundEnd 1 1 pages 0 0 ∷ frame.State 1 (listed suc 0 pages) (state.spelling g) ∷ frame.Go 1 ∷ [])

pub all_put : (a b c d e f : Option (List ℕ)) (g : Guest) (pages harts : ℕ) → pages ≡ count_of g
    → harts ≡ length g.board.harts → Puts a b (frame.Hello 1 ∷ frame.Offer 1 pages harts ∷ [])
    → Puts b c (listed (page_frame g.board.shared.bytes) 0 pages) → Puts c d (frame.RoundEnd 1 1 pages 0 0 ∷ [])
    → Puts d e (frame.State 1 (listed suc 0 pages) (state.spelling g) ∷ []) → Puts e f (frame.Go 1 ∷ [])
    → Puts a f (saved_frames g)
all_put a b c d e f g pages harts same_pages same_harts opening copies end said commit =
    let state_frame : List Frame = frame.State 1 (listed suc 0 pages) (state.spelling g) ∷ [] in
    let end_frame : List Frame = frame.RoundEnd 1 1 pages 0 0 ∷ [] in
    let two = more_put d e f state_frame (frame.Go 1 ∷ []) said commit in
    let three = more_put c d f end_frame (state_frame ++ frame.Go 1 ∷ []) end two in
    let four = more_put b c f (listed (page_frame g.board.shared.bytes) 0 pages) (end_frame ++ (state_frame ++ frame.Go 1 ∷ [])) copies three in
    let five : Puts a f (frames_of g pages harts) =
    more_put a b f (frame.Hello 1 ∷ frame.Offer 1 pages harts ∷ [])
    (listed (page_frame g.board.shared.bytes) 0 pages ++ (end_frame ++ (state_frame ++ frame.Go 1 ∷ []))) opening four in
    subst (λ n. Puts a f (frames_of g n (length g.board.harts))) same_pages
    (subst (λ h. Puts a f (frames_of g pages h)) same_harts five)

pub saved_back : (a b : Option (List ℕ)) (g : Guest) (pages : ℕ) → Puts a b (saved_frames g) → is_valid g ≡ true
    → state.HasSpelling g → pages ≡ count_of g → 0 < pages → pages ≤ 4096 → IsSavedGuest (saved_bytes g) g
saved_back a b g pages put valid has same some few =
    saved_is g put.spelled valid has (omega (arith, same, some)) (omega (arith, same, few))

-- the number of pages, by the length of the memory
pub pages_are : (g : Guest) (size pages : ℕ) → size ≡ length g.board.shared.bytes → size ≡ 4096 * pages → pages ≡ count_of g
pages_are g size pages a b = omega (arith, a, b)
