-- The values of a guest as a list of numbers of any size.
use Rattle.std.specs.Prelude.{ℕ, Bool, true, List, [], ◌∷◌, length, Option, Some, None}
use Rattle.rvm_csr.specs.declared.fields.CsrFields.{CsrFields}
use Rattle.rvm_csr.specs.declared.interrupts.Interrupts.{Interrupts}
use Rattle.rvm_dev.specs.declared.fields.DeviceFields.{DeviceFields}
use Rattle.rvm_codec.specs.Codec.{Codec, as_type, both, flag, optional, then_each}
use Rattle.rvm_codec.specs.Format.{Format, alone}
use Rattle.rvm_board.specs.declared.part.HartPart.{HartPart}
use Rattle.rvm_state.specs.Formats.{anything, csrs_of, csr_parts, hart_of, hart_parts, shared_of, shared_parts}
use Rattle.rvm_board.specs.State.{State}

-- the first number, and those after it, if there is one
abbrev pub front : List ℕ → Option (ℕ × List ℕ)
front [] = None
front (n ∷ rest) = Some (n, rest)

-- a number, as it is
unfoldable pub one : Codec ℕ
one = record { fits = λ n. true; write = λ n. n ∷ []; read = front }

-- a list: the number of its values, and each value
abbrev pub many : {A : Type 0} → Codec A → Codec (List A)
many c = as_type (then_each one (λ n. n) c) (λ t. t.1) (λ xs. (length xs, xs))

-- the three interrupts that have these flags: software, timer, external
abbrev pub interrupts_in : Bool × (Bool × Bool) → Interrupts
interrupts_in t = record { software = t.0; timer = t.1.0; external = t.1.1 }

-- the flags of the three interrupts: software, timer, external
abbrev pub flags_of : Interrupts → Bool × (Bool × Bool)
flags_of i = (i.software, (i.timer, i.external))

-- the three interrupts, a flag each
unfoldable pub interrupts : Codec Interrupts
interrupts = as_type (both flag (both flag flag)) interrupts_in flags_of

-- control and status registers, in the order of their bytes
unfoldable pub csrs : Codec CsrFields
csrs =
    as_type
    (both (both flag flag) (both interrupts (both one (both one (both one (both one (both one (both one one))))))))
    csrs_of csr_parts

-- a hart, in the order of its bytes
unfoldable pub hart : Codec HartPart
hart =
    as_type (both one (both (many one) (both csrs (both flag (both one (both (optional one anything) flag))))))
    hart_of hart_parts

-- what the devices keep for all harts together, in the order of their bytes
unfoldable pub shared : Codec DeviceFields
shared = as_type (both (optional one anything) (both flag (both flag one))) shared_of shared_parts

-- all that a guest keeps beside its RAM
abbrev pub ValueParts : Type 0
ValueParts = List HartPart × (DeviceFields × (List ℕ × (List ℕ × List ℕ)))

-- the state that these parts make
abbrev pub values_in : ValueParts → State
values_in t =
    record { harts = t.0; shared = t.1.0; input = t.1.1.0; output = t.1.1.1.0; breakpoints = t.1.1.1.1 }

-- the parts of a state
abbrev pub value_parts : State → ValueParts
value_parts s = (s.harts, (s.shared, (s.input, (s.output, s.breakpoints))))

-- a state as numbers of any size, and nothing after it
unfoldable pub values : Format State
values =
    alone (as_type (both (many hart) (both shared (both (many one) (both (many one) (many one))))) values_in value_parts)
