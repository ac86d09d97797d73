-- Runs by one seed after the other.
use Rattle.std.proofs.Common.{◌≡◌, ◌⊎◌, ◌∙◌, ◌+◌, ◌<◌, ◌≤◌, ◌==◌, Bool, true, false, ℕ, List, length, Option, None, Some, Result, Ok, Err, ap, arith, inl, inr, subst, sym}
use Rattle.std.proofs.lemmas.Bool.{cases_lt, eqb-true}
use Rattle.std.specs.Io.KnownBytes.{Appends}
use Rattle.std.specs.Prelude.{IfOk}
use Rattle.rvm_asm.specs.Images.{Piece}
use Rattle.rvm_board.specs.Guest.{Guest}
use Rattle.rvm_refusal.specs.declared.refusal.Refusal.TheVariants.{LinkFault}
use Rattle.rvm_arguments.specs.declared.arguments.OrdersArguments.{OrdersArguments}
use Rattle.rvm_command.specs.declared.refused.Refused.{Refused}
use Rattle.rvm_command.specs.declared.run.Ended.{Ended}
use Rattle.rvm_command.specs.Command.{FileImage, guest_of, image_of}
use Rattle.rvm_command.specs.Ends.{IsLoadable}
use Rattle.rvm_command.specs.Refusals.{refused}
use Rattle.rvm_command.specs.Seeds.{AreUnwritten, IsFirstFailure, IsOrdersEnd, IsSeededEnd, PassBelow, verdict_of}
use Rattle.rvm_command.specs.Watched.{run_with}

-- a run without a trace that had something to write has output
pub some_output : (n : ℕ) → (0 < n) ⊎ (0 < 0) → 0 < n
some_output n (inl some) = some
some_output n (inr none) = let it : 0 < 0 = none in absurd (omega (arith, it))

if_ok : {X E : Type 0} (r : Result X E) {P Q : X → Type 0} → ((x : X) → P x → Q x) → IfOk r P → IfOk r Q
if_ok (Ok x) f p = f x p
if_ok (Err e) f p = tt

if_both : {X E : Type 0} (r : Result X E) {P Q R : X → Type 0} → ((x : X) → P x → Q x → R x) → IfOk r P → IfOk r Q → IfOk r R
if_both (Ok x) f p q = f x p q
if_both (Err e) f p q = tt

-- ---- one run

-- the run of a guest that was loaded
pub seeded_end : (a : OrdersArguments) (file input : List ℕ) (seed : ℕ) (g : Guest) (ended : Ended) (before after : Option (List ℕ))
    → IsLoadable (image_of a.guest.raw file) a.guest.pages
    → IfOk (image_of a.guest.raw file) (λ i. g ≡ guest_of a.guest.harts a.guest.pages i.0 i.1)
    → let r = run_with (Some seed) a.stop_at_fault None a.steps input g in ended ≡ r.ended → Appends before after r.written
    → IsSeededEnd a file input seed (Ok ended) before after
seeded_end a file input seed g ended before after loadable loaded end text = (
  loadable,
  if_ok (image_of a.guest.raw file) (λ i is. (
    end ∙ ap (λ (x : Guest). (run_with (Some seed) a.stop_at_fault None a.steps input x).ended) is,
    subst (λ (x : Guest). Appends before after (run_with (Some seed) a.stop_at_fault None a.steps input x).written) is text,
  )) loaded,
)

-- one that could not be written
pub unwritten : (a : OrdersArguments) (file input : List ℕ) (seed : ℕ) (g : Guest) (r : Refused) → seed < a.orders
    → IsLoadable (image_of a.guest.raw file) a.guest.pages
    → IfOk (image_of a.guest.raw file) (λ i. g ≡ guest_of a.guest.harts a.guest.pages i.0 i.1)
    → 0 < length (run_with (Some seed) a.stop_at_fault None a.steps input g).written → r ≡ refused LinkFault
    → AreUnwritten a file input r
unwritten a file input seed g r below loadable loaded some is = (
  is,
  loadable,
  if_ok (image_of a.guest.raw file) (λ i same. (
    seed,
    below,
    subst (λ (x : Guest). 0 < length (run_with (Some seed) a.stop_at_fault None a.steps input x).written) same some,
  )) loaded,
)

-- ---- runs so far

pub pass_none : (a : OrdersArguments) (image : FileImage) (input : List ℕ) → IfOk image (λ i. PassBelow a i input 0)
pass_none a (Ok i) input = λ earlier below. (let it : earlier < 0 = below in absurd (omega (arith, it)))
pass_none a (Err e) input = tt

less_or_same : (n m : ℕ) → n < m + 1 → (n < m) ⊎ (m ≤ n) → (n < m) ⊎ (n ≡ m)
less_or_same n m below (inl less) = inl less
less_or_same n m below (inr more) = inr (omega (arith, below, more))

not_zero : (v : ℕ) (passes : Bool) → passes ≡ (v == 0) → passes ≡ false → v ≡ 0 → ⊥
not_zero v passes is never none = let it : true ≡ false = ap (λ n. n == 0) (sym none) ∙ sym is ∙ never in cc

passed_or_last : (a : OrdersArguments) (i : ℕ × List Piece) (input : List ℕ) (seed earlier : ℕ) → PassBelow a i input seed → verdict_of a i input seed ≡ 0
    → earlier < seed + 1 → (earlier < seed) ⊎ (earlier ≡ seed) → verdict_of a i input earlier ≡ 0
passed_or_last a i input seed earlier passed last below (inl less) = passed earlier less
passed_or_last a i input seed earlier passed last below (inr same) = subst (λ s. verdict_of a i input s ≡ 0) (sym same) last

-- one run more passes
pub pass_more : (a : OrdersArguments) (image : FileImage) (input : List ℕ) (seed : ℕ) (passes : Bool) → IfOk image (λ i. PassBelow a i input seed)
    → IfOk image (λ i. passes ≡ (verdict_of a i input seed == 0)) → passes ≡ true → IfOk image (λ i. PassBelow a i input (seed + 1))
pass_more a image input seed passes so_far this once =
    if_both image (λ i passed is earlier below. passed_or_last a i input seed earlier passed (eqb-true (verdict_of a i input seed) 0 (sym is ∙ once)) below (less_or_same earlier seed below (cases_lt earlier seed))) so_far this

-- the first that does not
pub first_fails : (a : OrdersArguments) (image : FileImage) (input : List ℕ) (seed : ℕ) (passes : Bool) → seed < a.orders → IfOk image (λ i. PassBelow a i input seed)
    → IfOk image (λ i. passes ≡ (verdict_of a i input seed == 0)) → passes ≡ false → IfOk image (λ i. IsFirstFailure a i input (Some seed))
first_fails a image input seed passes below so_far this never =
    if_both image (λ i passed is. (below, passed, λ none. not_zero (verdict_of a i input seed) passes is never none)) so_far this

-- all pass
pub all_pass : (a : OrdersArguments) (image : FileImage) (input : List ℕ) (seed : ℕ) → seed ≤ a.orders → a.orders ≤ seed → IfOk image (λ i. PassBelow a i input seed)
    → IfOk image (λ i. IsFirstFailure a i input None)
all_pass a image input seed within spent so_far =
    let all : seed ≡ a.orders = omega (arith, within, spent) in
    if_ok image (λ i passed. subst (PassBelow a i input) all passed) so_far

-- ---- the runs

-- the run that does not pass, with its output
pub orders_failed : (a : OrdersArguments) (file input : List ℕ) (seed : ℕ) (ended : Ended) (before after : Option (List ℕ))
    → IfOk (image_of a.guest.raw file) (λ i. IsFirstFailure a i input (Some seed)) → IsSeededEnd a file input seed (Ok ended) before after
    → IsOrdersEnd a file input (Ok (Some (record { seed = seed; ended = ended }))) before after
orders_failed a file input seed ended before after first end = (
  end.0,
  if_both (image_of a.guest.raw file) (λ i fails is. (fails, is.0, is.1)) first end.1,
)
