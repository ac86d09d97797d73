-- A frame that can be sent, with the address that its host gives it.
use Rattle.std.proofs.Common.{◌≡◌, ℕ, ◌+◌, ◌<◌, ◌≤◌, ◌==◌, Bool, true, false, not, ◌&&◌, ◌||◌, nat_lt, if◌then◌else◌, ◌++◌, length, length-append, Option, Some, None, refl, sym, ap, ◌∙◌, subst, arith}
use Rattle.std.specs.Prelude.{is_some}
use Rattle.std.proofs.lemmas.Bool.Decides.{nat_tests}
use Rattle.byteorder.specs.Endian.{little_bytes}
use Rattle.rvm_codec.specs.Numbers.{within}
use Rattle.rvm_codec.proofs.Steps.{both_are}
use Rattle.rvm_frame.specs.declared.addressed.Addressed.{Addressed}
use Rattle.rvm_frame.specs.declared.frame.Frame.{Frame}
use Rattle.rvm_frame.specs.declared.kind.Kind.{Kind}
use Rattle.rvm_frame.specs.declared.kind.Kind.TheVariants as kind
use Rattle.rvm_frame.specs.Grammar.{HasSpelling, MayStand, Received, body_of, hosts_bytes, sent, spelling}
use Rattle.rvm_frame.specs.Kinds.{byte_of, header_len, hosts_fit, kind_of, move_of, names_hosts, stands}
use Rattle.rvm_message.specs.Events.{BoardHostEvent}
use Rattle.rvm_board.specs.declared.event.BoardEvent.{BoardEvent}
use Rattle.rvm_guest.specs.TheGuest.{board}
use Rattle.rvm_message.proofs.Refusing.{refused_makes_none}
use Rattle.rvm_message.specs.Frames.{BoardFrame, addressed_made}
use Rattle.rvm_message.specs.Replies.{is_refused_outright}
use Rattle.rvm_message.specs.Sendable.{CanBeSent, IsSendable}
use Rattle.rvm_message.specs.declared.reply.HostReply.{HostReply}
use Rattle.rvm_protocol.specs.Commands.{Command, Came, Do}
use Rattle.rvm_protocol.specs.Frames as frames
use Rattle.rvm_protocol.specs.Host.{addressee, is_there, partner_then}
use Rattle.rvm_host.specs.Bounds.{CanBePosted, IsHost, IsPosted, IsShort, addressed, came_body, event_body, frame_bound, with_header}
use Rattle.rvm_host.specs.Hosts.{PlainHost, Steps, is_sized, is_spoken, step_of}
use Rattle.rvm_host.specs.Modes.{mode_of}
use Rattle.rvm_host.proofs.Moves.{Goes, host_reaches}

-- after Hello the version is known
known : (version : ℕ) (k : Kind) → stands (Some version) k ≡ true
    → (if byte_of k == 0 then None else Some version) ≡ Some version
known version kind.Hello is = absurd cc
known version kind.Offer is = refl
known version kind.Accept is = refl
known version kind.Refuse is = refl
known version kind.Page is = refl
known version kind.RoundEnd is = refl
known version kind.Lost is = refl
known version kind.State is = refl
known version kind.Ready is = refl
known version kind.Go is = refl
known version kind.Started is = refl
known version kind.Abort is = refl
known version kind.Zero is = refl
known version kind.Part is = refl

-- the hosts that a header names
abbrev named : Bool → (from to : ℕ) → Option (ℕ × ℕ)
named names from to = if names then Some (from, to) else None

named_some : (names : Bool) (from to : ℕ) → ◌≡◌ {A = Bool} (is_some (named names from to)) names
named_some true from to = refl
named_some false from to = refl

named_fit : (names : Bool) (from to : ℕ) → from < 8 → to < 8 → (to == from) ≡ false
    → hosts_fit (named names from to) ≡ true
named_fit false from to a b apart = refl
named_fit true from to a b apart = grind (arith, nat_tests)

header_length : (names : Bool) (from to : ℕ)
    → 1 + (length (hosts_bytes (named names from to)) + (8 + 4)) ≡ header_len names
header_length true from to = refl
header_length false from to = refl

length_spelled : (names : Bool) (from to : ℕ) (f : Frame)
    → length (spelling (named names from to, f)) ≡ header_len names + length (body_of f)
length_spelled names from to f =
    let hosts = hosts_bytes (named names from to) in
    let number = little_bytes 8 (move_of f) in
    let size = little_bytes 4 (length (body_of f)) in
    let eight : length number ≡ 8 = refl in
    let four : length size ≡ 4 = refl in
    omega (
      arith,
      eight,
      four,
      header_length names from to,
      length-append hosts (number ++ (size ++ body_of f)),
      length-append number (size ++ body_of f),
      length-append size (body_of f),
    )

-- the limits of a host's numbers
pub record Sizes (id count limit version : ℕ) : Type 0 where
  pub few : count ≤ 8
  pub below : id < count
  pub some : 1 ≤ limit
  pub limited : limit ≤ 4096
  pub version_fits : within 1 3 version ≡ true

pub sizes : (id count limit version : ℕ) → is_sized id count limit version ≡ true → Sizes id count limit version
sizes id count limit version is =
    let versions = version == 3 || (count == 2 && within 1 2 version) in
    let a = both_are (is_spoken version count) (nat_lt id count && within 1 4096 limit) is in
    let b = both_are (within 2 8 count) versions a.0 in
    let c = both_are (nat_lt id count) (within 1 4096 limit) a.1 in
    record {
      few = grind (arith, nat_tests, b.0);
      below = grind (arith, nat_tests, c.0);
      some = grind (arith, nat_tests, c.1);
      limited = grind (arith, nat_tests, c.1);
      version_fits = grind (arith, nat_tests, b.1);
    }

module _ (h : PlainHost) (ok : IsHost h) where
  sized : Sizes h.id h.count h.limit h.version
  sized = sizes h.id h.count h.limit h.version ok.sized

  is_posted : (to n : ℕ) (f : Frame) → is_there h.id h.count to ≡ true → IsSendable h.version n f → n ≤ 32768
      → IsPosted h (header_len (names_hosts (Some h.version)) + n) (record { from = h.id; to = to; frame = f })
  is_posted to n f there so short =
      let names = names_hosts (Some h.version) in
      let x : Received = (named names h.id to, f) in
      let is : sent h.version (record { from = h.id; to = to; frame = f }) ≡ x =
      ap (λ (v : Option ℕ). (named (names_hosts v) h.id to, f)) (known h.version (kind_of f) so.stands) in
      let a = both_are (nat_lt to h.count) (not (to == h.id)) there in
      let low : to < h.count = grind (arith, nat_tests, a.0) in
      let few = sized.few in
      let below = sized.below in
      record {
        from = refl;
        to = there;
        spelled = subst HasSpelling (sym is) (record {
          hosts = named_fit names h.id to (omega (arith, few, below)) (omega (arith, few, low))
              (apart (to == h.id) a.1);
          move_number = so.move_number;
          body = so.body;
          body_length = omega (arith, so.body_length, short);
        });
        stands = subst (MayStand (Some h.version)) (sym is) (so.stands, named_some names h.id to);
        short = subst (λ (y : Received). length (spelling y) ≤ header_len names + n) (sym is)
            (omega (arith, so.body_length, length_spelled names h.id to f));
      }
    where
      apart : (b : Bool) → not b ≡ true → b ≡ false
      apart false is = refl
      apart true is = sym is

  posted_if : (to : ℕ) (body : Option ℕ) (made : Option Frame) → Goes h.id h.count (addressed h.id to made)
      → IsShort body → CanBeSent h.version body made
      → CanBePosted h (with_header h.version body) (addressed h.id to made)
  posted_if to body None there short so = tt
  posted_if to None (Some f) there short so = absurd so
  posted_if to (Some n) (Some f) there short so = is_posted to n f there (so sized.version_fits) short

  -- the frame of an event can be posted
  posts : (new : PlainHost) (e : BoardHostEvent) (answer : HostReply × Option Addressed) (to : ℕ)
      (made : Option Frame) → Steps h e answer new → answer.1 ≡ addressed h.id to made → IsShort (event_body h e)
      → CanBeSent h.version (event_body h e) made → CanBePosted h (with_header h.version (event_body h e)) answer.1
  posts new e answer to made does is short so =
      let there = subst (Goes h.id h.count) is (host_reaches h ok new e answer does) in
      subst (CanBePosted h (with_header h.version (event_body h e))) (sym is) (posted_if to (event_body h e) made there short so)

  none_made : (o : Option Addressed) → addressed_made o ≡ None → o ≡ None
  none_made None is = refl
  none_made (Some a) is = absurd cc

  posts_unless : (b : Bool) (most : ℕ) (o : Option Addressed) → (b ≡ true → o ≡ None) → CanBePosted h most o
      → CanBePosted h (if b then 0 else most) o
  posts_unless true most o none so = subst (CanBePosted h 0) (sym (none refl)) tt
  posts_unless false most o none so = so

  refused_posts_none : (new : PlainHost) (c : Command BoardEvent) (answer : HostReply × Option Addressed) → Steps h (Do c) answer new
      → is_refused_outright (step_of h (Do c)).reply ≡ true → answer.1 ≡ None
  refused_posts_none new c answer does refused =
      let e : BoardHostEvent = Do c in
      let to = addressee e (partner_then e (step_of h e).reply h.partner) in
      none_made answer.1
      (does.made ∙ ap (λ (f : Option BoardFrame). frames.posted h.id to (frames.made_as board h.version f)) (refused_makes_none h.version h.id h.count c (mode_of h.mode) refused))

  pub host_posts : (new : PlainHost) (e : BoardHostEvent) (answer : HostReply × Option Addressed) (to : ℕ)
      (made : Option Frame) → Steps h e answer new → answer.1 ≡ addressed h.id to made → IsShort (event_body h e)
      → CanBeSent h.version (event_body h e) made → CanBePosted h (frame_bound h e) answer.1
  host_posts new (Do c) answer to made does is short so =
      posts_unless (is_refused_outright (step_of h (Do c)).reply) (with_header h.version (event_body h (Do c))) answer.1
      (refused_posts_none new c answer does) (posts new (Do c) answer to made does is short so)
  host_posts new (Came from f) answer to made does is short so = posts new (Came from f) answer to made does is short so

-- the body of an answer to a frame has at most 32768 bytes
pub came_short : (f : BoardFrame) → IsShort (came_body f)
came_short (frames.Offer n pages harts) = omega arith
came_short (frames.State n numbers state) = omega arith
came_short (frames.Part n stamp part parts bytes) = omega arith
came_short (frames.Ready n) = omega arith
came_short (frames.Go n) = omega arith
came_short f = tt
