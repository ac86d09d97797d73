-- A frame that comes is the one that its bytes spell, and its host sent it to this one.
use Rattle.std.proofs.Common.{◌≡◌, ℕ, ◌<◌, ◌==◌, Bool, true, false, if◌then◌else◌, List, [], ◌++◌, Option, Some, None, is_some, sym, ap, ◌∙◌, arith, inl, inr}
use Rattle.std.proofs.lemmas.Bool.Decides.{nat_tests}
use Rattle.std.proofs.lemmas.Option.{same_Some}
use Rattle.rvm_host.specs.Spelled.{IsSpelled}
use Rattle.rvm_frame.specs.declared.frame.Frame.{Frame}
use Rattle.rvm_frame.specs.Grammar.{Received, known_at, sent}
use Rattle.rvm_frame.specs.Kinds.{names_hosts}
use Rattle.rvm_frame.proofs.Verdicts.{no_prefix_sent}
use Rattle.rvm_message.specs.Frames.{frame_heard, frame_of, no_frame}
use Rattle.rvm_protocol.specs.Frames as protocol
use Rattle.rvm_protocol.specs.Host.{is_there}
use Rattle.rvm_audit.specs.Hosts.{HasBytes, coming}
use Rattle.rvm_audit.specs.Worlds.{knows_hosts}
use Rattle.rvm_core.proofs.Keeping.{comes}
use Rattle.rvm_audit.proofs.Steps.{or_true}

abbrev Posted : Type 0
Posted = protocol.Addressed (List ℕ) (List ℕ)

-- what stands in the stream is the same
same_sent : (version from to : ℕ) (f : Frame) (bytes : List ℕ) (s : Posted) (is : IsSpelled version s bytes)
    → HasBytes version from to f bytes → sent version is.frame ≡ sent version (coming from to f)
same_sent version from to f bytes s is so =
    (no_prefix_sent version is.frame (coming from to f) [] [] is.spells.0 so.spelled
    (ap (λ (ys : List ℕ). ys ++ []) (sym is.spells.2 ∙ so.bytes_are))).0

pub heard : (version from to : ℕ) (f : Frame) (bytes : List ℕ) (s : Posted) → IsSpelled version s bytes
    → HasBytes version from to f bytes → s.frame ≡ frame_heard f
heard version from to f bytes s is so =
    let g = is.frame in
    let same : g.frame ≡ f = ap (λ (r : Received). r.1) (same_sent version from to f bytes s is so) in
    let may = comes version (sent version g).0 g.frame is.spells.0 is.spells.1 in
    ap (λ (a : Posted). a.frame) (sym is.is)
    ∙ ap (λ b. if b then frame_of g.frame else no_frame) (sym may)
    ∙ ap frame_heard same

-- if headers name hosts, they are the same ones
named : (p q : Bool) (a b : ℕ × ℕ) (t : Bool) → t ≡ true
    → is_some (if◌then◌else◌ {A = Option (ℕ × ℕ)} p (Some a) None) ≡ t
    → (if p then Some a else None) ≡ (if q then Some b else None) → a ≡ b
named true true a b t holds is same = same_Some a b same
named true false a b t holds is same = absurd cc
named false q a b t holds is same = absurd cc

to_named : (version from to : ℕ) (f : Frame) (bytes : List ℕ) (s : Posted) → (version == 3) ≡ true
    → IsSpelled version s bytes → HasBytes version from to f bytes → s.to ≡ to
to_named version from to f bytes s three is so =
    let g = is.frame in
    let hosts : (g.from, g.to) ≡ (from, to) =
    named (names_hosts (known_at version g.frame)) (names_hosts (known_at version f)) (g.from, g.to) (from, to)
    (version == 3) three is.spells.1.1
    (ap (λ (r : Received). r.0) (same_sent version from to f bytes s is so))
    in
    ap (λ (a : Posted). a.to) (sym is.is) ∙ ap (λ (h : ℕ × ℕ). h.1) hosts

-- of two hosts, a frame goes to the only other one
to_other : (x from to count : ℕ) → (count == 2) ≡ true → x < count → is_there x count from ≡ true
    → is_there from count to ≡ true → to ≡ x
to_other x from to count two lt other there = grind (arith, nat_tests)

-- it is known which host a frame goes to
pub goes_to : (version count x from : ℕ) (f : Frame) (bytes : List ℕ) (s : Posted) → knows_hosts version count ≡ true
    → x < count → is_there x count from ≡ true → is_there from count s.to ≡ true → IsSpelled version s bytes
    → HasBytes version from x f bytes → s.to ≡ x
goes_to version count x from f bytes s spoken lt other there is so = elim (or_true (count == 2) (version == 3) spoken) [
  | inl two ↦ to_other x from s.to count two lt other there
  | inr three ↦ to_named version from x f bytes s three is so
]
