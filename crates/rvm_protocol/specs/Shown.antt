-- What the modes of a world show, whatever led to it: where the guest is, whether it is paused,
-- which hosts wait, and the target of the move that goes on.
use Rattle.std.specs.Prelude.{◌≡◌, ℕ, Bool, true, false}
use Rattle.std.specs.declared.option.Option.TheVariants.{Some}
use Rattle.rvm_protocol.specs.Modes.{Mode, Run, Offering, Copying, Stopped, Given, Held, guest_in}
use Rattle.rvm_protocol.specs.Host.{Host}
use Rattle.rvm_protocol.specs.Told.{Told}

module _ {S P : Type 0} where
  -- the guest is here and paused: stopped at its source, or held at its target
  abbrev pub is_paused : Mode S P → Bool
  is_paused (Stopped n l) = true
  is_paused (Held n g) = true
  is_paused mode = false

  -- the whole guest is here, and waits for the commit
  abbrev pub is_held : Mode S P → Bool
  is_held (Held n g) = true
  is_held mode = false

  -- the guest of move n was given away
  abbrev pub has_given : ℕ → Mode S P → Type 0
  has_given n (Given k kept) = k ≡ n
  has_given n mode = ⊥

  -- the guest at host c is the current one: it runs there, or its move from there goes on, or the
  -- host's partner gave it to this one
  abbrev pub holds_current : (partner : Host S P) → ℕ → Mode S P → Type 0
  holds_current partner c (Run n g) = Unit {0}
  holds_current partner c (Offering n g p) = Unit {0}
  holds_current partner c (Copying n r) = Unit {0}
  holds_current partner c (Stopped n l) = Unit {0}
  holds_current partner c (Held n g) = has_given n partner.mode × (partner.partner ≡ c)
  holds_current partner c mode = ⊥

  -- host c is the current host, by its own mode and its partner's
  abbrev pub IsCurrent : (ℕ → Host S P) → ℕ → Type 0
  IsCurrent hosts c = holds_current (hosts (hosts c).partner) c (hosts c).mode

  -- d is the target of the move that goes on at its source, if one does
  abbrev pub IsTarget : (ℕ → ℕ) → ℕ → Mode S P → Type 0
  IsTarget targets d (Offering n g p) = targets n ≡ d
  IsTarget targets d (Copying n r) = targets n ≡ d
  IsTarget targets d (Stopped n l) = targets n ≡ d
  IsTarget targets d mode = Unit {0}

  -- what the replies told is what the modes show
  pub record Shown (hosts : ℕ → Host S P) (t : Told S) : Type 0 where
    pub current : IsCurrent hosts t.current
    pub guest : guest_in (hosts t.current).mode ≡ Some t.guest
    pub paused : t.paused ≡ is_paused (hosts t.current).mode
    pub waiting : (x : ℕ) → t.waiting x ≡ is_held (hosts x).mode
    pub target : IsTarget t.targets (hosts t.current).partner (hosts t.current).mode
