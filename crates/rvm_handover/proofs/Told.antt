-- The pages whose copies are missing fit in a Lost frame.
use Rattle.std.proofs.Common.{◌≡◌, ◌<◌, ◌≤◌, ℕ, zero, suc, ◌+◌, Bool, true, false, ◌&&◌, if◌then◌else◌, List, ◌∷◌, length, refl, sym, subst, arith}
use Rattle.std.specs.List.{list_all}
use Rattle.std.proofs.lemmas.Bool.{le-leb}
use Rattle.std.specs.Prelude.{nat_le}
use Rattle.rvm_codec.specs.Numbers.{rise_from, within}
use Rattle.rvm_frame.specs.Bodies.{lost}
use Rattle.rvm_protocol.specs.Pages.{Pages, members}
use Rattle.rvm_state.specs.declared.fault.StateFault.{StateFault}
use Rattle.rvm_state.specs.declared.fault.StateFault.TheVariants as faults
use Rattle.rvm_handover.specs.Outcomes.{CanBeTold, reason_of}
use Rattle.rvm_handover.specs.Pieces.{PartCanBeTold, reason_joined}
use Rattle.rvm_handover.specs.declared.not_joined.NotJoined.{NotJoined}
use Rattle.rvm_handover.specs.declared.not_ready.NotReady.{NotReady}
use Rattle.rvm_handover.specs.declared.not_ready.NotReady.TheVariants as ready

both : (a b : Bool) → a ≡ true → b ≡ true → (a && b) ≡ true
both true b h k = k
both false b h k = h

is_within : (low high n : ℕ) → low ≤ n → n ≤ high → within low high n ≡ true
is_within low high n above below = both (nat_le low n) (nat_le n high) (le-leb low n above) (le-leb n high below)

-- MEMBERS OF A SET RISE, AND ARE NO MORE AND NO HIGHER THAN THE NUMBERS THAT ARE LOOKED AT

rise_if : (b : Bool) (low first : ℕ) (rest : List ℕ) → low ≤ first → rise_from (first + 1) rest ≡ true → rise_from low rest ≡ true
    → rise_from low (if b then first ∷ rest else rest) ≡ true
rise_if true low first rest above behind here = both (nat_le low first) (rise_from (first + 1) rest) (le-leb low first above) behind
rise_if false low first rest above behind here = here

members_rise : (s : Pages) (low first count : ℕ) → low ≤ first → rise_from low (members s first count) ≡ true
unfolding members
members_rise s low first zero above = refl
members_rise s low first (suc count) above =
    rise_if (s first) low first (members s (suc first) count) above
    (members_rise s (first + 1) (suc first) count (omega arith))
    (members_rise s low (suc first) count (omega (arith, above)))

low_if : (b : Bool) (high first : ℕ) (rest : List ℕ) → first ≤ high → list_all (within 0 high) rest ≡ true
    → list_all (within 0 high) (if b then first ∷ rest else rest) ≡ true
low_if true high first rest low here = both (within 0 high first) (list_all (within 0 high) rest) (is_within 0 high first (omega arith) low) here
low_if false high first rest low here = here

members_low : (s : Pages) (high first count : ℕ) → first + count ≤ high + 1 → list_all (within 0 high) (members s first count) ≡ true
unfolding members
members_low s high first zero few = refl
members_low s high first (suc count) few =
    low_if (s first) high first (members s (suc first) count) (omega (arith, few))
    (members_low s high (suc first) count (omega (arith, few)))

few_if : (b : Bool) (first count : ℕ) (rest : List ℕ) → length rest ≤ count → length (if b then first ∷ rest else rest) ≤ suc count
few_if true first count rest few = omega (arith, few)
few_if false first count rest few = omega (arith, few)

members_few : (s : Pages) (first count : ℕ) → length (members s first count) ≤ count
unfolding members
members_few s first zero = omega arith
members_few s first (suc count) = few_if (s first) first count (members s (suc first) count) (members_few s (suc first) count)

pub members_fit : (s : Pages) (count : ℕ) → count ≤ 4096 → 0 < length (members s 0 count) → lost.fits (members s 0 count) ≡ true
members_fit s count few some =
    let ps : List ℕ = members s 0 count in
    let many = members_few s 0 count in
    both (within 1 4096 (length ps) && list_all (within 0 4095) ps) (rise_from 0 ps)
    (both (within 1 4096 (length ps)) (list_all (within 0 4095) ps)
    (is_within 1 4096 (length ps) (omega (arith, some)) (omega (arith, many, few)))
    (members_low s 4095 0 count (omega (arith, few))))
    (members_rise s 0 0 count (omega arith))

-- a fault of reading names no pages
pub told_fault : (fault : StateFault) (reason : NotReady) → reason ≡ reason_of fault → CanBeTold reason
told_fault faults.BadState reason is = subst CanBeTold (sym is) tt
told_fault faults.OutOfMemory reason is = subst CanBeTold (sym is) tt

-- if the reason of a state can be told, so can that of the last of its pieces
pub told_joined : (reason : NotReady) (joined : NotJoined) → joined ≡ reason_joined reason → CanBeTold reason → PartCanBeTold joined
told_joined (ready.Lacking pages) joined is told = subst PartCanBeTold (sym is) told
told_joined ready.BadState joined is told = subst PartCanBeTold (sym is) tt
told_joined ready.OutOfMemory joined is told = subst PartCanBeTold (sym is) tt
