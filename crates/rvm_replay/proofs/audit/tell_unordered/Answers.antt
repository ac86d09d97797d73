use Rattle.std.proofs.Common.{◌++◌, List, codes, subst, ℕ}
use Rattle.std.proofs.KnownBytes.{Appends-trans}
use Rattle.std.specs.Io.KnownBytes.{Appends}
use Rattle.rvm_audit.specs.Parts.{taken}
use Rattle.rvm_command.specs.Command.{refused_text}
use Rattle.rvm_command.specs.Refusals.{refused}
use Rattle.rvm_refusal.specs.declared.refusal.Refusal.TheVariants.{NoOrder}
use Rattle.rvm_replay.specs.Findings.{IsUnordered}
use Rattle.rvm_replay.specs.PlaceLines.{place_lines}
use Rattle.rvm_replay.proofs.AuditEnds.{refuted, refuted_untold, undecided, undecided_untold}
use Rattle.rvm_replay.proofs.UntoldReplays.{on_error}
use Rattle.rvm_replay.proofs.audit.tell_unordered.Goals as goal

pub returns-in_ok-tell_refusal-in-Contradicted-clause-status : goal.returns-in_ok-tell_refusal-in-Contradicted-clause-status
returns-in_ok-tell_refusal-in-Contradicted-clause-status g c all why =
    let found = subst (IsUnordered c.args.files.now all) c.in-Contradicted.is why in
    let before = g.E.Write.contents c.args.errors.now in
    let mid = g.E.Write.contents c.write_extent.new.errors in
    let after = g.E.Write.contents c.tell_refusal.new.errors in
    let places = taken c.in-Contradicted.extent.places.items in
    let lines = subst (λ (ns : List ℕ). Appends before mid (place_lines c.args.files.now places 0 ns)) found.0.counts_are
    c.in_ok-write_extent-in-Contradicted.ensures in
    refuted c.args.files.now all before after places found.0.ends found.1
    (Appends-trans before mid after (place_lines c.args.files.now places 0 _)
    (refused_text (refused NoOrder) ++ codes "\n") lines c.in_ok-tell_refusal-in-Contradicted.ensures)

pub returns-in_ok-writeln-in-Undecided-clause-status : goal.returns-in_ok-writeln-in-Undecided-clause-status
returns-in_ok-writeln-in-Undecided-clause-status g c all why =
    let found = subst (IsUnordered c.args.files.now all) c.in-Undecided.is why in
    let before = g.E.Write.contents c.args.errors.now in
    let mid = g.E.Write.contents c.write_extent-in-Undecided.new.errors in
    let after = g.E.Write.contents c.writeln.new.self in
    let places = taken c.in-Undecided.extent.places.items in
    let lines = subst (λ (ns : List ℕ). Appends before mid (place_lines c.args.files.now places 0 ns)) found.0.counts_are
    c.in_ok-write_extent-in-Undecided.ensures in
    undecided c.args.files.now all before after places found.0.ends found.1
    (Appends-trans before mid after (place_lines c.args.files.now places 0 _)
    (codes "undecided: what was cut off may have sent the rest" ++ codes "\n") lines c.in_ok-writeln-in-Undecided.ensures.bytes)

pub returns-in_err-write_extent-in-Contradicted-clause-untold : goal.returns-in_err-write_extent-in-Contradicted-clause-untold
returns-in_err-write_extent-in-Contradicted-clause-untold g c all why =
    let found = subst (IsUnordered c.args.files.now all) c.in-Contradicted.is why in
    on_error c.from_residual.result _
    (refuted_untold c.args.files.now all (taken c.in-Contradicted.extent.places.items) found.0.ends found.1)

pub returns-in_err-tell_refusal-in-Contradicted-clause-untold : goal.returns-in_err-tell_refusal-in-Contradicted-clause-untold
returns-in_err-tell_refusal-in-Contradicted-clause-untold g c all why =
    let found = subst (IsUnordered c.args.files.now all) c.in-Contradicted.is why in
    on_error c.from_residual-in_err-tell_refusal-in-Contradicted.result _
    (refuted_untold c.args.files.now all (taken c.in-Contradicted.extent.places.items) found.0.ends found.1)

pub returns-in_err-write_extent-in-Undecided-clause-untold : goal.returns-in_err-write_extent-in-Undecided-clause-untold
returns-in_err-write_extent-in-Undecided-clause-untold g c all why =
    let found = subst (IsUnordered c.args.files.now all) c.in-Undecided.is why in
    on_error c.from_residual-in_err-write_extent-in-Undecided.result _
    (undecided_untold c.args.files.now all (taken c.in-Undecided.extent.places.items) found.0.ends found.1)

pub returns-in_err-writeln-in-Undecided-clause-untold : goal.returns-in_err-writeln-in-Undecided-clause-untold
returns-in_err-writeln-in-Undecided-clause-untold g c all why =
    let found = subst (IsUnordered c.args.files.now all) c.in-Undecided.is why in
    on_error c.from_residual-in_err-writeln-in-Undecided.result _
    (undecided_untold c.args.files.now all (taken c.in-Undecided.extent.places.items) found.0.ends found.1)
