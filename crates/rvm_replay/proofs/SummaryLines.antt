-- The lines of a summary, host by host.
use Rattle.std.proofs.Common.{◌≡◌, ◌∙◌, ℕ, ◌+◌, ◌<◌, List, [], ◌∷◌, ◌++◌, append_assoc, append-nil, arith, codes, get_or, length, length-take, take, Option, ap, sym, subst}
use Rattle.std.proofs.lemmas.List.{take_more}
use Rattle.std.proofs.lemmas.List.Concat.{flat_map-append}
use Rattle.std.specs.Io.KnownBytes.{Appends}
use Rattle.rvm_recorder.specs.History.{Recording}
use Rattle.rvm_replay.specs.Counts.{counts_line, counts_of, entries_of_all, host_line, host_lines, plus, summary_of}
use Rattle.rvm_replay.specs.declared.counts.Counts.{Counts}
use Rattle.rvm_replay.proofs.Counting.{all_add}
use Rattle.std.proofs.KnownBytes.{Appends-trans}

-- one host more
lines_push : (x : ℕ) (rs : List Recording) (r : Recording)
    → host_lines x (rs ++ r ∷ []) ≡ host_lines x rs ++ host_line (x + length rs) r
lines_push x [] r =
    let is : x ≡ x + 0 = omega arith in append-nil (host_line x r) ∙ ap (λ y. host_line y r) is
lines_push x (s ∷ rs) r =
    let is : x + 1 + length rs ≡ x + length (s ∷ rs) = omega arith in
    ap (λ z. host_line x s ++ z) (lines_push (x + 1) rs r ∙ ap (λ y. host_lines (x + 1) rs ++ host_line y r) is)
    ∙ sym (append_assoc (host_line x s) (host_lines (x + 1) rs) (host_line (x + length (s ∷ rs)) r))

lines_more : (all : List Recording) (i : ℕ) (r : Recording) → i < length all → get_or all i r ≡ r
    → host_lines 0 (take (i + 1) all) ≡ host_lines 0 (take i all) ++ host_line i r
lines_more all i r less is =
    let long : 0 + length (take i all) ≡ i = omega (arith, less, length-take i all) in
    ap (host_lines 0) (take_more all i r less) ∙ lines_push 0 (take i all) (get_or all i r)
    ∙ ap (λ s. host_lines 0 (take i all) ++ host_line (0 + length (take i all)) s) is
    ∙ ap (λ x. host_lines 0 (take i all) ++ host_line x r) long

entries_more : (all : List Recording) (i : ℕ) (r : Recording) → i < length all → get_or all i r ≡ r
    → entries_of_all (take (i + 1) all) ≡ entries_of_all (take i all) ++ r.journal.entries
entries_more all i r less is =
    ap entries_of_all (take_more all i r less)
    ∙ flat_map-append (λ (s : Recording). s.journal.entries) (take i all) (get_or all i r ∷ [])
    ∙ ap (λ z. entries_of_all (take i all) ++ z) (append-nil (get_or all i r).journal.entries ∙ ap (λ s. s.journal.entries) is)

-- one host more is written, and counted
pub host_more : (before mid after : Option (List ℕ)) (all : List Recording) (i : ℕ) (r : Recording) (sum new counts : Counts)
    → i < length all → get_or all i r ≡ r
    → Appends before mid (host_lines 0 (take i all)) × (sum ≡ counts_of (entries_of_all (take i all)))
    → Appends mid after (host_line i r) → counts ≡ counts_of r.journal.entries → new ≡ plus sum counts
    → Appends before after (host_lines 0 (take (i + 1) all)) × (new ≡ counts_of (entries_of_all (take (i + 1) all)))
host_more before mid after all i r sum new counts less is so line counted added = (
  subst (Appends before after) (sym (lines_more all i r less is))
      (Appends-trans before mid after (host_lines 0 (take i all)) (host_line i r) so.0 line),
  added ∙ (λ j. plus (so.1 j) (counted j)) ∙ all_add r.journal.entries (entries_of_all (take i all))
      ∙ ap counts_of (sym (entries_more all i r less is)),
)

-- the line of all hosts is written after those of each
pub all_written : (before mid after : Option (List ℕ)) (all : List Recording) (name : List ℕ) (sum : Counts)
    → Appends before mid (host_lines 0 all) → sum ≡ counts_of (entries_of_all all) → name ≡ codes "all"
    → Appends mid after (counts_line name sum) → Appends before after (summary_of all)
all_written before mid after all name sum hosts summed named line =
    Appends-trans before mid after (host_lines 0 all) (counts_line (codes "all") (counts_of (entries_of_all all))) hosts
    (subst (λ n. Appends mid after (counts_line n (counts_of (entries_of_all all)))) named
    (subst (λ s. Appends mid after (counts_line name s)) summed line))
