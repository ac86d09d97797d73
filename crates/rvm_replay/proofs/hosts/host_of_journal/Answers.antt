use Rattle.std.proofs.Common.{List, Some, ℕ, ap, option_map, subst}
use Rattle.rvm_board.specs.Guest.{GuestState}
use Rattle.rvm_journal.specs.Reading.{IsTextOf}
use Rattle.rvm_recorder.specs.History.{Recording}
use Rattle.rvm_journal.specs.Headers.{header_at}
use Rattle.rvm_journal.specs.Whole.{IsJournal}
use Rattle.rvm_replay.specs.Behind.{most_replayed}
use Rattle.rvm_replay.specs.FileFaults.{IsFileFault}
use Rattle.rvm_journal.proofs.Replayed.{handed_on}
use Rattle.rvm_replay.proofs.Replayed.{done_of, no_memory, open_fault, text_fault, with_its_text}
use Rattle.rvm_replay.proofs.hosts.host_of_journal.Goals as goal

pub returns-in_err-reader-clause-fault : goal.returns-in_err-reader-clause-fault
returns-in_err-reader-clause-fault g c =
    let why = c.in_err-reader.field-0.0 in
    let known = g.I.Read.remaining c.args.journal in
    let image = c.args.image.now in
    handed_on (λ e. (text : List ℕ) × IsJournal known text × IsFileFault e c.args.most most_replayed (header_at text) text image)
    why c.from_residual.result c.from_residual.ensures.1
    (open_fault why c.args.most most_replayed known image c.in_err-reader.ensures.fault)

pub returns-in_err-host-clause-fault : goal.returns-in_err-host-clause-fault
returns-in_err-host-clause-fault g c =
    let why = c.in_err-host.field-0.0 in
    let o = c.in_ok-reader.reader in
    let known = g.I.Read.remaining c.args.journal in
    let image = c.args.image.now in
    handed_on (λ e. (text : List ℕ) × IsJournal known text × IsFileFault e c.args.most most_replayed (header_at text) text image)
    why c.from_residual-in_err-host.result c.from_residual-in_err-host.ensures.1
    (text_fault o known why c.args.most most_replayed image c.in_ok-reader.ensures.known
    (with_its_text o why c.args.most most_replayed image c.header.ensures.text
    (λ bytes. subst (λ h. IsFileFault why c.args.most most_replayed (Some h) bytes image) c.header.ensures.header
    (c.in_err-host.ensures.fault c.header.ensures.range c.args.most most_replayed bytes))))

pub returns-in-Ok-clause-host : goal.returns-in-Ok-clause-host
returns-in-Ok-clause-host g c =
    let read = c.in-Ok.ensures.host in
    done_of g.O.Observer.shows (λ d. option_map (λ (s : GuestState). s.guest) d.guest) (λ d. d.count) (λ d. d.observer)
    c.finish.result c.args.most (g.I.Read.remaining c.args.journal) read.0 c.args.image.now c.in_ok-reader.reader
    c.replay_journal.new.recorder c.in_ok-reader.ensures.known read.1 read.3 c.finish.ensures.guest c.finish.ensures.count
    c.finish.ensures.shown

pub returns-in-Ok-clause-fault : goal.returns-in-Ok-clause-fault
returns-in-Ok-clause-fault g c =
    no_memory c.finish.result (g.I.Read.remaining c.args.journal) c.args.most most_replayed c.args.image.now c.finish.ensures.fault

pub returns-in-Err-clause-fault : goal.returns-in-Err-clause-fault
returns-in-Err-clause-fault g c =
    text_fault c.in_ok-reader.reader (g.I.Read.remaining c.args.journal) c.in-Err.fault c.args.most most_replayed c.args.image.now
    c.in_ok-reader.ensures.known
    (subst (λ n. (text : List ℕ) × IsTextOf c.in_ok-reader.reader text
    × IsFileFault c.in-Err.fault c.args.most n (Some c.in_ok-reader.reader.header) text c.args.image.now)
    (ap (λ (r : Recording). r.capacity) c.new-replayed.ensures) c.in-Err.ensures.fault)
