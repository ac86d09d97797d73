use Rattle.std.proofs.Common.{rules, ◌≡◌, ◌∙◌, ◌++◌, [], None, ap, subst, sym}
use Rattle.std.specs.Io.KnownBytes.{Consumes}
use Rattle.std.specs.Prelude.{codes}
use Rattle.rvm_journal.specs.Told.{header_told}
use Rattle.rvm_journal.proofs.Reading.{has_text, opened, other_first, told_header, unshown}
use Rattle.rvm_journal.proofs.reader.JournalReader.open.Goals as goal

pub returns-in-None-clause-none : goal.returns-in-None-clause-none
returns-in-None-clause-none g c =
    let line = c.next_line.new.line.items in
    let none : header_told c.deref.result.now ≡ None = search rules in
    λ same. other_first (g.I.Read.remaining c.args.input) (g.I.Read.remaining c.next_line.new.input) line
    (search rules) (search rules) (unshown line (ap header_told (sym c.deref.ensures.value) ∙ none))

pub begin-requires-2-clause-header : goal.begin-requires-2-clause-header
begin-requires-2-clause-header g c =
    told_header c.next_line.new.line.items c.text_in.result.now (record { digest = c.in-Some.digest.bytes; events = [] })
    c.in-Some-read.header (ap header_told (sym c.deref.ensures.value) ∙ c.in-Some.ensures) (search rules) (search rules)

pub invariant_of-result : goal.invariant_of-result
invariant_of-result g c =
    let line = c.next_line.new.line.items in
    let known = g.I.Read.remaining c.args.input in
    let now = g.I.Read.remaining c.next_line.new.input in
    let header = c.in-Some-read.header in
    let shown = ap header_told (sym c.deref.ensures.value) ∙ c.in-Some.ensures in
    let consumed : Consumes known now (line ++ codes "\n") = search rules in
    opened _ now header c.in-Ok.read line c.in-Some.digest.bytes c.in-Ok.ensures (search rules)
    (subst (λ k. Consumes k now (line ++ codes "\n")) (sym (ap g.I.Read.remaining c.of-began.ensures)) consumed)
    (told_header line c.text_in.result.now (record { digest = c.in-Some.digest.bytes; events = [] }) header shown
    (search rules) (search rules)) shown c.in-Some-read.ensures.range

pub returns-in-Ok-clause-text : goal.returns-in-Ok-clause-text
returns-in-Ok-clause-text g c =
    let line = c.next_line.new.line.items in
    let known = g.I.Read.remaining c.args.input in
    let now = g.I.Read.remaining c.next_line.new.input in
    let header = c.in-Some-read.header in
    let shown = ap header_told (sym c.deref.ensures.value) ∙ c.in-Some.ensures in
    let consumed : Consumes known now (line ++ codes "\n") = search rules in
    has_text _ now c.in-Ok.read c.in-Some.digest.bytes
    (opened _ now header c.in-Ok.read line c.in-Some.digest.bytes c.in-Ok.ensures (search rules)
    (subst (λ k. Consumes k now (line ++ codes "\n")) (sym (ap g.I.Read.remaining c.of-began.ensures)) consumed)
    (told_header line c.text_in.result.now (record { digest = c.in-Some.digest.bytes; events = [] }) header shown
    (search rules) (search rules)) shown c.in-Some-read.ensures.range)
