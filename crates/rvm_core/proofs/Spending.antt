-- Memory runs out only in a line that takes it, which stands before the line that is not in the grammar.
use Rattle.std.proofs.Common.{◌≡◌, ℕ, ◌+◌, ◌<◌, ◌≤◌, List, [], ◌∷◌, ◌++◌, length, Option, Some, None, ap, sym, ◌∙◌, arith}
use Rattle.rvm_core.specs.Worlds.{BoardWorld}
use Rattle.rvm_core.specs.declared.world_line.Asked.TheVariants as asked
use Rattle.rvm_core.specs.declared.world_line.WorldLine.{WorldLine}
use Rattle.rvm_core.specs.declared.world_line.WorldLine.TheVariants as lines
use Rattle.rvm_core.specs.WorldLines.{world_line_of}
use Rattle.rvm_core.specs.Runs.{AsksMemory, AsksMemoryIn, IsSpent, IsSpentIn}
use Rattle.rvm_core.specs.WorldScript.{Answers, Standing, answers_by, done_by, world_script_of}
use Rattle.rvm_core.proofs.Running.{line_first, script_both}

-- a line in which memory ran out takes memory
spent_asks : (o : Option WorldLine) (s : Standing) (new : BoardWorld) → IsSpentIn o s new → AsksMemory o
spent_asks None s new spent = absurd spent
spent_asks (Some lines.Empty) s new spent = absurd spent
spent_asks (Some (lines.Host host (asked.Guest l))) s new spent = absurd spent
spent_asks (Some (lines.Host host (asked.Begin to p))) s new spent = tt
spent_asks (Some (lines.Host host (asked.Move to p))) s new spent = tt
spent_asks (Some (lines.Host host asked.Copy)) s new spent = tt
spent_asks (Some (lines.Host host asked.Resend)) s new spent = tt
spent_asks (Some (lines.Host host asked.Abort)) s new spent = tt
spent_asks (Some (lines.Deliver k)) s new spent = tt

-- the same for the bytes of a line
pub line_asks : (line : List ℕ) (s : Standing) (new : BoardWorld) → IsSpentIn (world_line_of s.world.count line) s new
    → AsksMemoryIn line s
line_asks line s new spent = spent_asks (world_line_of s.world.count line) s new spent

-- lines do not end at a line before the first of them
ends_by : (o : Option WorldLine) (n k : ℕ) (s : Standing) (rest : Standing → Answers)
    → ((t : Standing) → (rest t).end ≡ Some k → n + 1 ≤ k) → (answers_by o n s rest).end ≡ Some k → n ≤ k
ends_by None n k s rest others ends = let same : n ≡ k = cc in omega (arith, same)
ends_by (Some l) n k s rest others ends =
    let later : n + 1 ≤ k = others (done_by l s).standing ends in omega (arith, later)

ends_late : (ls : List (List ℕ)) (n k : ℕ) (s : Standing) → (world_script_of ls n s).end ≡ Some k → n ≤ k
unfolding world_script_of
ends_late [] n k s ends = absurd cc
ends_late (l ∷ ls) n k s ends =
    ends_by (world_line_of s.world.count l) n k s (world_script_of ls (n + 1)) (ends_late ls (n + 1) k) ends

-- a line that takes memory is not the one that is not in the grammar
asks_before : (o : Option WorldLine) (n k : ℕ) (s : Standing) (rest : Standing → Answers)
    → ((t : Standing) → (rest t).end ≡ Some k → n + 1 ≤ k) → AsksMemory o → (answers_by o n s rest).end ≡ Some k
    → n < k
asks_before None n k s rest others asks ends = absurd asks
asks_before (Some l) n k s rest others asks ends =
    let later : n + 1 ≤ k = others (done_by l s).standing ends in omega (arith, later)

-- a line that takes memory, after lines that were done, stands before the line that is not in the grammar
pub asks_before_the_end : (done left : List (List ℕ)) (line : List ℕ) (k : ℕ) (s : Standing)
    → (world_script_of done 1 s).end ≡ None → AsksMemoryIn line (world_script_of done 1 s).standing
    → (world_script_of (done ++ line ∷ left) 1 s).end ≡ Some k → length done + 1 < k
asks_before_the_end done left line k s on asks ends =
    let d : Standing = (world_script_of done 1 s).standing in
    let n = 1 + length done in
    let here = sym (ap (λ (a : Answers). a.end) (script_both done (line ∷ left) 1 s on)) ∙ ends in
    let before =
    asks_before (world_line_of d.world.count line) n k d (world_script_of left (n + 1)) (ends_late left (n + 1) k) asks
    (sym (ap (λ (a : Answers). a.end) (line_first line left n d)) ∙ here)
    in omega (arith, before)

-- if a script ends at a line that is not in the grammar, no memory runs out in that line or after it
pub spent_before_the_end : (n k : ℕ) (lines : List (List ℕ)) (s : Standing) (new : BoardWorld)
    (before after : Option (List ℕ)) → IsSpent n lines s new before after
    → (world_script_of lines 1 s).end ≡ Some k → n < k
spent_before_the_end n k lines s new before after p ends =
    let d : Standing = (world_script_of p.done 1 s).standing in
    let asks = line_asks p.line d new p.spent in
    let first = asks_before_the_end p.done p.left p.line k s p.on asks
    (ap (λ ls. (world_script_of ls 1 s).end) p.whole ∙ ends)
    in omega (arith, first, p.number)
