-- A new world is one of the protocol.
use Rattle.std.proofs.Common.{◌≡◌, inl, inr, ℕ, ◌+◌, ◌<◌, ◌≤◌, ◌==◌, ◌&&◌, Bool, true, false, if◌then◌else◌, List, [], ◌∷◌, ◌++◌, map, length, Some, None, refl, sym, ap, ◌∙◌, subst, arith}
use Rattle.std.proofs.lemmas.Bool.{cases_lt, ne_eqb}
use Rattle.std.proofs.lemmas.Bool.Decides.{nat_tests}
use Rattle.std.proofs.lemmas.List.{ext_get_or, get_or-map, get_or_append_left, get_or_past, get_or_push, length-map, length_push}
use Rattle.std.proofs.Math.Path.{fun_ext}
use Rattle.rvm_codec.specs.Numbers.{within}
use Rattle.rvm_board.specs.Guest.{Guest, GuestState}
use Rattle.rvm_guest.specs.TheGuest.{board}
use Rattle.rvm_guest.specs.Valid.{is_valid}
use Rattle.rvm_protocol.specs.Modes as modes
use Rattle.rvm_protocol.specs.Shown.{Shown, is_held}
use Rattle.rvm_protocol.specs.Told.{at_start}
use Rattle.rvm_protocol.specs.World.{new_world, run}
use Rattle.rvm_protocol.specs.World as worlds
use Rattle.rvm_host.specs.Hosts.{PlainHost, host_of, new_host}
use Rattle.rvm_core.specs.Worlds.{AreNew, BoardWorld, IsReached, IsWorld, Placed, PlainWorld, host_at, is_sized, limit_at, world_of}
use Rattle.rvm_core.proofs.Current.{same_current}

-- ONE MORE HOST

no_host : (g : GuestState) (version : ℕ) (limits : List ℕ) → AreNew g version limits 0 []
no_host g version limits = record { count = refl; each = λ x lt. absurd (omega (arith, lt)) }

one_more : (g : GuestState) (version : ℕ) (limits : List ℕ) (n : ℕ) (hosts all : List PlainHost) (h : PlainHost)
    → AreNew g version limits n hosts → all ≡ hosts ++ h ∷ []
    → h ≡ new_host (if n == 0 then Some g else None) n (length limits) (limit_at limits n) version
    → AreNew g version limits (n + 1) all
one_more g version limits n hosts all h new more is =
    let long = new.count in
    subst (AreNew g version limits (n + 1)) (sym more)
    (record {
      count = length_push hosts h ∙ ap (λ z. z + 1) long;
      each = λ x lt. elim (cases_lt x n) [
        | inl less ↦
            get_or_append_left hosts (h ∷ []) (new_host None x 0 0 0) x (omega (arith, less, long)) ∙ new.each x less
        | inr past ↦
            let last : x ≡ n = omega (arith, lt, past) in
            get_or_push hosts h (new_host None x 0 0 0) x (omega (arith, long, last)) ∙ is
            ∙ ap (λ z. new_host (if z == 0 then Some g else None) z (length limits) (limit_at limits z) version)
            (sym last)
      ];
    })

-- the first host, which has the guest
pub first : (g : GuestState) (version : ℕ) (limits : List ℕ) (none all : List PlainHost) (h : PlainHost)
    → none ≡ [] → all ≡ none ++ h ∷ [] → h ≡ new_host (Some g) 0 (length limits) (limit_at limits 0) version
    → AreNew g version limits 1 all
first g version limits none all h empty more is =
    one_more g version limits 0 [] all h (no_host g version limits) (more ∙ ap (λ z. z ++ h ∷ []) empty) is

-- a host without a guest, after the first one
pub another : (g : GuestState) (version : ℕ) (limits : List ℕ) (n : ℕ) (hosts all : List PlainHost) (h : PlainHost)
    → AreNew g version limits n hosts → all ≡ hosts ++ h ∷ [] → 1 ≤ n
    → h ≡ new_host None n (length limits) (limit_at limits n) version
    → AreNew g version limits (n + 1) all
another g version limits n hosts all h new more behind is =
    let other : (n == 0) ≡ false = ne_eqb n 0 (λ e. omega (arith, e, behind)) in
    one_more g version limits n hosts all h new more
    (is ∙ ap (λ b. new_host (if b then Some g else None) n (length limits) (limit_at limits n) version) (sym other))

-- THE WORLD

two_hosts : (n : ℕ) (versions rest : Bool) → ((within 2 8 n && versions) && rest) ≡ true → 2 ≤ n
two_hosts n versions rest h = grind (arith, nat_tests)

pub two_limits : (version : ℕ) (limits : List ℕ) → is_sized version limits ≡ true → 2 ≤ length limits
two_limits version limits h = two_hosts (length limits) _ _ h

first_host : (b : Bool) (g : GuestState) (x count limit version : ℕ)
    → host_of (new_host (if b then Some g else None) x count limit version)
    ≡ record { mode = if b then modes.Run 0 g.guest else modes.Empty 0; partner = x }
first_host true g x count limit version = refl
first_host false g x count limit version = refl

none_waits : (b : Bool) (g : GuestState)
    → false ≡ is_held {S = Guest} {P = List ℕ} (if b then modes.Run 0 g.guest else modes.Empty 0)
none_waits true g = refl
none_waits false g = refl

no_event : (w : BoardWorld) → run board w [] ≡ w
unfolding run
no_event w = refl

module _ (g : GuestState) (version : ℕ) (limits : List ℕ) (hosts : List PlainHost)
    (sized : is_sized version limits ≡ true) (new : AreNew g version limits (length limits) hosts) where
  limits_are : ◌≡◌ {A = ℕ → ℕ} (λ x. (host_at hosts x).limit) (limit_at limits)
  limits_are =
      fun_ext (λ x. elim (cases_lt x (length limits)) [
        | inl less ↦ ap (λ (h : PlainHost). h.limit) (new.each x less)
        | inr past ↦
            ap (λ (h : PlainHost). h.limit)
            (get_or_past hosts x (new_host None x 0 0 0) (subst (λ z. z ≤ x) (sym new.count) past))
            ∙ sym (get_or_past limits x 0 past)
      ])

  hosts_are : (λ x. host_of (host_at hosts x)) ≡ worlds.new_host board 0 g.guest
  hosts_are =
      fun_ext (λ x. elim (cases_lt x (length limits)) [
        | inl less ↦
            ap host_of (new.each x less) ∙ first_host (x == 0) g x (length limits) (limit_at limits x) version
        | inr past ↦
            let two = two_limits version limits sized in
            let other : (x == 0) ≡ false = ne_eqb x 0 (λ e. omega (arith, e, past, two)) in
            ap host_of (get_or_past hosts x (new_host None x 0 0 0) (subst (λ z. z ≤ x) (sym new.count) past))
            ∙ ap (λ b. record { mode = if b then modes.Run 0 g.guest else modes.Empty 0; partner = x }) (sym other)
      ])

  abbrev world : PlainWorld
  world = record { version = version; hosts = hosts; sent = []; current = 0 }

  pub world_is : world_of world ≡ new_world board version 0 g.guest (length limits) (limit_at limits)
  world_is =
      λ i. record { version = version; count = new.count i; limits = limits_are i; hosts = hosts_are i; sent = [] }

  pub new_shown : Shown (world_of world).hosts (at_start 0 g.guest)
  new_shown =
      subst (λ z. Shown z (at_start 0 g.guest)) (sym hosts_are)
      (record { current = tt; guest = refl; paused = refl; waiting = λ x. none_waits (x == 0) g; target = tt })

  limits_again : map (λ (h : PlainHost). h.limit) hosts ≡ limits
  limits_again =
      let long = length-map hosts (λ (h : PlainHost). h.limit) in
      ext_get_or 0 (map (λ (h : PlainHost). h.limit) hosts) limits (long ∙ new.count)
      (λ i lt.
      let inside : i < length hosts = subst (λ z. i < z) long lt in
      get_or-map (λ (h : PlainHost). h.limit) hosts i (new_host None i 0 0 0) 0 inside
      ∙ ap (λ (h : PlainHost). h.limit) (new.each i (subst (λ z. i < z) new.count inside)))

  new_reached : is_valid g.guest ≡ true → IsReached (world_of world)
  new_reached valid =
      record {
        start = g.guest;
        limits = limit_at limits;
        before = [];
        valid = valid;
        reached = world_is
            ∙ (λ i. new_world board version 0 g.guest (sym new.count i) (limit_at limits))
            ∙ sym (no_event (new_world board version 0 g.guest (length hosts) (limit_at limits)));
      }

  pub new_is_world : is_valid g.guest ≡ true → IsWorld world
  new_is_world valid =
      record {
        sized = ap (is_sized version) limits_again ∙ sized;
        placed = λ x lt.
            subst (λ z. Placed version z x (host_at hosts x)) (sym new.count)
            (subst (λ h. Placed version (length limits) x h) (sym (new.each x (subst (λ z. x < z) new.count lt)))
            (record { named = refl; counts = refl; writes = refl }));
        kept = λ k lt. absurd (omega (arith, lt));
        reached = new_reached valid;
        current = λ t shown.
            same_current (world_of world) (new_reached valid) (at_start 0 g.guest) t new_shown shown;
      }
