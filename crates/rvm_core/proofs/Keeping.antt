-- A frame that was made is kept as bytes, and they are read as that frame again.
use Rattle.std.proofs.Common.{◌≡◌, ℕ, zero, suc, ◌-◌, ◌^◌, ◌<◌, ◌≤◌, ◌&&◌, true, nat_le, nat_lt, if◌then◌else◌, List, [], ◌∷◌, ◌++◌, map, length, get_or, Option, Some, None, Ok, refl, sym, ap, ◌∙◌, subst, arith, append-nil}
use Rattle.std.specs.Prelude.{is_ok}
use Rattle.std.proofs.lemmas.Bool.Decides.{nat_tests}
use Rattle.std.proofs.lemmas.List.{map-append}
use Rattle.rvm_codec.specs.Numbers.{within}
use Rattle.rvm_frame.specs.Bodies.{is_piece}
use Rattle.rvm_frame.specs.declared.addressed.Addressed.{Addressed}
use Rattle.rvm_frame.specs.declared.frame.Frame.{Frame}
use Rattle.rvm_frame.specs.declared.frame.Frame.TheVariants as frame
use Rattle.rvm_frame.specs.Grammar.{HasSpelling, MayStand, sent, spelling}
use Rattle.rvm_frame.specs.Verdict.{one_frame_of, verdict}
use Rattle.rvm_frame.proofs.Verdicts.{verdict_again}
use Rattle.rvm_message.specs.Frames.{addressed_made, can_come, frame_of, no_frame}
use Rattle.rvm_protocol.specs.Frames as protocol
use Rattle.rvm_protocol.specs.Host.{is_there}
use Rattle.rvm_protocol.specs.World.{and_sent}
use Rattle.rvm_host.specs.Bounds.{CanBePosted}
use Rattle.rvm_host.specs.Hosts.{PlainHost}
use Rattle.rvm_host.specs.Spelled.{IsSpelled}
use Rattle.rvm_core.specs.Worlds.{CanBeKept, IsKept, Kept, frame_in, frame_or, is_frame, kept_of, no_kept, posted}

-- THE FRAME

above : (n : ℕ) → within 1 (2 ^ 64 - 1) n ≡ true → nat_lt 0 n ≡ true
above n h = grind (arith, nat_tests)

some_pages : (pages harts : ℕ) → (within 1 4096 pages && within 1 8 harts) ≡ true → nat_lt 0 pages ≡ true
some_pages pages harts h = grind (arith, nat_tests)

few_parts : (stamp part parts len : ℕ)
    → ((within 1 (2 ^ 32 - 1) stamp && (within 0 5 part && within 1 6 parts)) && is_piece part parts len) ≡ true
    → nat_le parts 6 ≡ true
few_parts stamp part parts len h = grind (arith, nat_tests)

-- a frame that has a spelling after Hello can come to a host
pub comes : (version : ℕ) (hosts : Option (ℕ × ℕ)) (f : Frame) → HasSpelling (hosts, f)
    → MayStand (Some version) (hosts, f) → can_come f ≡ true
comes version hosts (frame.Hello v) s m = absurd cc
comes version hosts (frame.Offer n pages harts) s m =
    let a = above n s.move_number in let b = some_pages pages harts s.body in cc
comes version hosts (frame.Accept n) s m = let a = above n s.move_number in cc
comes version hosts (frame.Refuse n limit) s m = let a = above n s.move_number in cc
comes version hosts (frame.Page n page number bytes) s m = let a = above n s.move_number in cc
comes version hosts (frame.RoundEnd n round made skipped left) s m = let a = above n s.move_number in cc
comes version hosts (frame.Lost n pages) s m = let a = above n s.move_number in cc
comes version hosts (frame.State n numbers state) s m = let a = above n s.move_number in cc
comes version hosts (frame.Ready n) s m = let a = above n s.move_number in cc
comes version hosts (frame.Go n) s m = let a = above n s.move_number in cc
comes version hosts (frame.Started n) s m = let a = above n s.move_number in cc
comes version hosts (frame.Abort n) s m = let a = above n s.move_number in cc
comes version hosts (frame.Zero n page number) s m = let a = above n s.move_number in cc
comes version hosts (frame.Part n stamp part parts bytes) s m =
    let a = above n s.move_number in let b = few_parts stamp part parts (length bytes) s.body in cc

module _ (version : ℕ) (a : Addressed) (s : HasSpelling (sent version a))
    (m : MayStand (Some version) (sent version a)) where
  read_again : one_frame_of (verdict (Some version) (spelling (sent version a))) ≡ Ok (sent version a)
  read_again = ap one_frame_of (verdict_again (Some version) (sent version a) s m)

  is_again : is_frame version (spelling (sent version a)) ≡ true
  is_again = ap is_ok read_again

  frame_again : frame_in version (spelling (sent version a)) ≡ frame_of a.frame
  frame_again =
      ap frame_or read_again
      ∙ ap (λ b. if b then frame_of a.frame else no_frame) (comes version (sent version a).0 a.frame s m)

-- what is spelled can be read
pub can_be_read : (version : ℕ) (made : protocol.Addressed (List ℕ) (List ℕ)) (bytes : List ℕ) → IsSpelled version made bytes
    → is_frame version bytes ≡ true
can_be_read version made bytes s =
    ap (is_frame version) s.spells.2 ∙ is_again version s.frame s.spells.0 s.spells.1

-- THE FRAMES THAT WERE SENT

-- with a frame that was made, one more frame is sent
pub kept_made : (h : PlainHost) (most : ℕ) (o : Option Addressed) (xs : List Kept) → CanBePosted h most o
    → map (kept_of h.version) (xs ++ posted h.version o) ≡ and_sent (map (kept_of h.version) xs) (addressed_made o)
kept_made h most None xs p = ap (map (kept_of h.version)) (append-nil xs)
kept_made h most (Some a) xs p =
    map-append (kept_of h.version) xs (posted h.version (Some a))
    ∙ (λ i. map (kept_of h.version) xs
    ++ (record { from = a.from; to = a.to; frame = frame_again h.version a p.spelled p.stands i }) ∷ [])

there : (self count x : ℕ) → is_there self count x ≡ true → x < count
there self count x h = grind (arith, nat_tests)

-- a frame that was made goes between hosts that are there, and is spelled
pub posted_kept : (h : PlainHost) (most : ℕ) (o : Option Addressed) → CanBePosted h most o → h.id < h.count
    → (k : ℕ) → k < length (posted h.version o) → IsKept h.version h.count (get_or (posted h.version o) k no_kept)
posted_kept h most None p lt k lk = absurd (omega (arith, lk))
posted_kept h most (Some a) p lt zero lk =
    record {
      sender = subst (λ z. z < h.count) (sym p.from) lt;
      receiver = there h.id h.count a.to p.to;
      spelled = record {
        frame = a;
        is = λ i. record { from = a.from; to = a.to; frame = sym (frame_again h.version a p.spelled p.stands) i };
        spells = (p.spelled, p.stands, refl);
      };
    }
posted_kept h most (Some a) p lt (suc k) lk = absurd (omega (arith, lk))

-- there is room for a frame that was made
pub can_be_kept : (h : PlainHost) (version most room places : ℕ) (o : Option Addressed) → h.version ≡ version
    → CanBePosted h most o → most ≤ room → (0 < most → 0 < places) → CanBeKept version room places o
can_be_kept h version most room places None same p le some = tt
can_be_kept h version most room places (Some a) same p le some =
    let short : length (spelling (sent h.version a)) ≤ most = p.short in
    let long : 0 < length (spelling (sent h.version a)) = omega arith in
    subst (λ z. CanBeKept z room places (Some a)) same
    (record {
      spelled = p.spelled;
      room = omega (arith, short, le);
      place = some (omega (arith, short, long));
    })
