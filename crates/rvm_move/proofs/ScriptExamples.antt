-- What is left out if a script ends at a line for which memory ran out.
use Rattle.std.proofs.Common.{◌≡◌, ℕ, ◌<◌, ◌≤◌, List, ◌∷◌, length, Option, Some, ap, ◌∙◌, arith}
use Rattle.std.proofs.lemmas.List.{length-append}
use Rattle.rvm_move.specs.ScriptEnds.{IsCutShort}
use Rattle.rvm_core.proofs.Spending.{asks_before_the_end}
use Rattle.rvm_core.specs.WorldScript.{Standing, world_script_of}

-- neither a line that is not in the grammar nor one after it is reported as one for which memory ran out
a_script_is_cut_short_before_the_line_that_is_none : (n k : ℕ) (lines : List (List ℕ)) (s : Standing)
    (before after : Option (List ℕ)) → IsCutShort n lines s before after
    → (world_script_of lines 1 s).end ≡ Some k → n < k
a_script_is_cut_short_before_the_line_that_is_none n k lines s before after p ends =
    let first = asks_before_the_end p.done p.left p.line k s p.on p.asks
    (ap (λ ls. (world_script_of ls 1 s).end) p.whole ∙ ends)
    in omega (arith, first, p.number)

-- nor is one after the last
a_script_is_cut_short_at_a_line_of_its_own : (n : ℕ) (lines : List (List ℕ)) (s : Standing)
    (before after : Option (List ℕ)) → IsCutShort n lines s before after → n ≤ length lines
a_script_is_cut_short_at_a_line_of_its_own n lines s before after p =
    let size = ap length p.whole in
    omega (arith, size, p.number, length-append p.done (p.line ∷ p.left))
