-- The journals of hosts, taken out one after the other.
use Rattle.std.proofs.Common.{◌≡◌, ◌∙◌, ℕ, ◌+◌, ◌<◌, ◌≤◌, List, [], ◌∷◌, ◌++◌, arith, get_or, length, map, take, ap, subst, sym}
use Rattle.std.proofs.lemmas.List.{length-map, map-append, take_more}
use denote.Ref.{Bor}
use Rattle.rvm_recorder.specs.History.{History, Recording}
use Rattle.rvm_audit.specs.Audits.{histories_of}
use Rattle.std.proofs.KnownBytes.{Appends-kept}
use Rattle.std.specs.Io.KnownBytes.{Keeps}
use Rattle.std.specs.Prelude.{OnOk, Option, Result, Ok, Err}
use Rattle.rvm_core.specs.EventLines.{event_lines}
use Rattle.rvm_core.specs.declared.event.Event.{Event}
use Rattle.rvm_replay.specs.Audited.{IsWritten}
use Rattle.rvm_replay.specs.Charts.{chart_of}
use Rattle.rvm_replay.specs.Counts.{summary_of}
use Rattle.rvm_replay.specs.declared.audit.AuditText.{AuditText}
use Rattle.rvm_replay.specs.declared.audit.AuditText.TheVariants.{Chart, Order, Summary}

abbrev journals : List Recording → List History
journals all = map (λ r. r.journal) all

-- one journal more
pub journals_more : (all : List Recording) (i : ℕ) (r : Recording) (old new : List (Bor History)) (j : Bor History)
    → i < length all → get_or all i r ≡ r → histories_of old ≡ journals (take i all) → new ≡ old ++ j ∷ [] → j.now ≡ r.journal
    → histories_of new ≡ journals (take (i + 1) all)
journals_more all i r old new j less at so is own =
    ap histories_of is ∙ map-append (λ (b : Bor History). b.now) old (j ∷ []) ∙ (λ k. so k ++ own k ∷ [])
    ∙ sym (map-append (λ (s : Recording). s.journal) (take i all) (r ∷ []))
    ∙ ap (λ (s : Recording). journals (take i all ++ s ∷ [])) (sym at) ∙ ap journals (sym (take_more all i r less))

-- there are as many journals as hosts
pub same_count : (all : List Recording) (js : List (Bor History)) → histories_of js ≡ journals all → length js ≡ length all
same_count all js is =
    let same : length (histories_of js) ≡ length (journals all) = ap length is in
    omega (arith, same, length-map js (λ (b : Bor History). b.now), length-map all (λ (r : Recording). r.journal))

pub as_many : (all : List Recording) (js : List (Bor History)) → histories_of js ≡ journals all → length all ≤ 8 → length js ≤ 8
as_many all js is few = subst (λ n. n ≤ 8) (sym (same_count all js is)) few

-- what was written is still written after what keeps it
kept : (text : AuditText) (all : List Recording) (events : List Event) (before mid after : Option (List ℕ))
    → IsWritten text all events before mid → Keeps mid after → IsWritten text all events before after
kept Summary all events before mid after written keeps = Appends-kept before mid after (summary_of all) written keeps
kept Order all events before mid after written keeps =
    (written.0, Appends-kept before mid after (event_lines (length all) events) written.1 keeps)
kept Chart all events before mid after written keeps =
    (written.0, Appends-kept before mid after (chart_of (length all) events) written.1 keeps)

-- so it is of what was flushed
pub written_kept : {F : Type 0} (text : AuditText) (all : List Recording) (events : List Event) (before mid after : Option (List ℕ))
    (r : Result Unit F) → IsWritten text all events before mid → Keeps mid after
    → OnOk r (IsWritten text all events before after)
written_kept text all events before mid after (Ok done) written keeps = kept text all events before mid after written keeps
written_kept text all events before mid after (Err fault) written keeps = tt
