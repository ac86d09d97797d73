use Rattle.std.proofs.Common.{◌≡◌, ℕ, ◌+◌, ◌-◌, ◌*◌, ◌<◌, ◌^◌, drop, length, sym, ap, ◌∙◌, arith, length-drop}
use Rattle.rvm_mem.specs.Pages.{bits}
use Rattle.rvm_mem.proofs.Words.{bits_none, bits_more}
use Rattle.rvm_mem.proofs.Bits.{bits_fit}
use Rattle.rvm_mem.proofs.word.word_of.Goals.{After-from}
use Rattle.rvm_mem.proofs.word.word_of.Goals as goal

pub loop-i-init : goal.loop-i-init
loop-i-init c = bits_none c.args.flags.now (length c.args.flags.now) (omega arith)

-- the number with one flag more
step : (c : After-from) → 2 * c.loop-i.word + c.from.result ≡ bits (drop (c.loop-i.i - 1) c.args.flags.now)
step c =
    let i : ℕ = c.loop-i.i - 1 in
    let here : i + 1 ≡ c.loop-i.i = omega arith in
    ap (λ word. 2 * word + c.from.result) c.loop-i.invariant
    ∙ ap (λ n. 2 * bits (drop n c.args.flags.now) + c.from.result) (sym here)
    ∙ bits_more c.args.flags.now i c.from.result (omega arith) c.from.ensures

pub overflow_mul-word : goal.overflow_mul-word
overflow_mul-word c =
    let fit : bits (drop c.loop-i.i c.args.flags.now) < 2 ^ 63 = bits_fit (drop c.loop-i.i c.args.flags.now) 63 (omega (arith, length-drop c.loop-i.i c.args.flags.now)) in
    let is = c.loop-i.invariant in
    omega arith

pub overflow_add-word : goal.overflow_add-word
overflow_add-word c =
    let i : ℕ = c.loop-i.i - 1 in
    let fit : bits (drop i c.args.flags.now) < 2 ^ 64 = bits_fit (drop i c.args.flags.now) 64 (omega (arith, length-drop i c.args.flags.now)) in
    let is = step c in
    omega arith

pub loop-i-preserved : goal.loop-i-preserved
loop-i-preserved c = step c
