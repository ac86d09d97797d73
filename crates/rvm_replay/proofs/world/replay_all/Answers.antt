use Rattle.std.proofs.Common.{◌≡◌, ◌∙◌, List, arith, length, map, subst, sym}
use Rattle.std.proofs.lemmas.List.{length-map}
use Rattle.rvm_journal.proofs.Replayed.{handed_on}
use Rattle.rvm_replay.specs.Audited.{AreOfOneWorld, AreOfWorld}
use Rattle.rvm_replay.specs.Journals.{AreTexts, JournalText, headers_in, headers_of}
use Rattle.rvm_replay.specs.Meetings.{HaveMet}
use Rattle.rvm_replay.specs.Unaudited.{AreMetOther, IsHeadersFault, IsJournalsFault}
use Rattle.rvm_replay.proofs.JournalFaults.{of_memory}
use Rattle.rvm_replay.proofs.Worlds.{all_have, any_texts, headers_same, not_opened, of_meetings, of_world, opened_long, other_headers, texts_of}
use Rattle.rvm_replay.proofs.world.replay_all.Goals as goal

pub returns-in_err-readers-clause-fault : goal.returns-in_err-readers-clause-fault
returns-in_err-readers-clause-fault g c =
    let names = c.args.names.now in
    let known = map g.I.Read.remaining c.args.inputs.items in
    let image = c.args.image.now in
    let why = c.in_err-readers.field-0.0 in
    let named = c.requires.named in
    let long : length names ≡ length known = omega (arith, named, length-map c.args.inputs.items g.I.Read.remaining) in
    let bad = not_opened names known why long c.in_err-readers.ensures.fault in
    handed_on (λ e. (files : List JournalText) × AreTexts names known files × IsJournalsFault g.K.Kept.capacity files image e) why
    c.from_residual.result c.from_residual.ensures.1 (bad.0, bad.1, bad.2 g.K.Kept.capacity image)

pub returns-in_err-opening-clause-fault : goal.returns-in_err-opening-clause-fault
returns-in_err-opening-clause-fault g c =
    let names = c.args.names.now in
    let known = map g.I.Read.remaining c.args.inputs.items in
    let image = c.args.image.now in
    let why = c.in_err-opening.field-0.0 in
    let named = c.requires.named in
    let long : length names ≡ length known = omega (arith, named, length-map c.args.inputs.items g.I.Read.remaining) in
    handed_on (λ e. (files : List JournalText) × AreTexts names known files × IsJournalsFault g.K.Kept.capacity files image e) why
    c.from_residual-in_err-opening.result c.from_residual-in_err-opening.ensures.1
    (other_headers names known c.in_ok-readers.readers.items g.K.Kept.capacity image why long c.in_ok-readers.ensures.opened
    (subst (λ os. IsHeadersFault (headers_of os) why) c.as_slice.ensures.value c.in_err-opening.ensures.fault))

pub returns-in_err-world-clause-fault : goal.returns-in_err-world-clause-fault
returns-in_err-world-clause-fault g c =
    let names = c.args.names.now in
    let known = map g.I.Read.remaining c.args.inputs.items in
    let image = c.args.image.now in
    let why = c.in_err-world.field-0.0 in
    let named = c.requires.named in
    let long : length names ≡ length known = omega (arith, named, length-map c.args.inputs.items g.I.Read.remaining) in
    let any = any_texts names known long in
    handed_on (λ e. (files : List JournalText) × AreTexts names known files × IsJournalsFault g.K.Kept.capacity files image e) why
    c.from_residual-in_err-world.result c.from_residual-in_err-world.ensures.1
    (any.0, any.1, of_memory g.K.Kept.capacity any.0 image why c.in_err-world.ensures.memory)

pub replay_each-requires-clause-named : goal.replay_each-requires-clause-named
replay_each-requires-clause-named g c =
    let named = c.requires.named in
    let known = map g.I.Read.remaining c.args.inputs.items in
    let opened = opened_long known c.in_ok-readers.readers.items c.in_ok-readers.ensures.opened in
    omega (arith, named, opened, length-map c.args.inputs.items g.I.Read.remaining)

pub replay_each-requires-clause-texts : goal.replay_each-requires-clause-texts
replay_each-requires-clause-texts g c =
    all_have (map g.I.Read.remaining c.args.inputs.items) c.in_ok-readers.readers.items c.in_ok-readers.ensures.opened

pub returns-in_err-replay_each-clause-fault : goal.returns-in_err-replay_each-clause-fault
returns-in_err-replay_each-clause-fault g c =
    let names = c.args.names.now in
    let known = map g.I.Read.remaining c.args.inputs.items in
    let image = c.args.image.now in
    let why = c.in_err-replay_each.field-0.0 in
    let bad = c.in_err-replay_each.ensures.fault in
    handed_on (λ e. (files : List JournalText) × AreTexts names known files × IsJournalsFault g.K.Kept.capacity files image e) why
    c.from_residual-in_err-replay_each.result c.from_residual-in_err-replay_each.ensures.1
    (bad.0, texts_of names known c.in_ok-readers.readers.items bad.0 c.in_ok-readers.ensures.opened bad.1, bad.2)

pub check_meetings-requires : goal.check_meetings-requires
check_meetings-requires g c =
    let opening = c.in_ok-opening.opening in
    let readers = c.in_ok-readers.readers.items in
    let files = c.replay_each.new.world.files.items in
    subst (λ fs. AreOfOneWorld (headers_in fs) opening.hosts opening) (sym c.as_slice-2.ensures.value)
    (subst (λ hs. AreOfOneWorld hs opening.hosts opening)
    (sym (headers_same c.args.names.now readers files c.in_ok-replay_each.ensures.texts))
    (subst (λ os. AreOfOneWorld (headers_of os) opening.hosts opening) c.as_slice.ensures.value c.in_ok-opening.ensures.world))

pub returns-in_err-check_meetings-clause-fault : goal.returns-in_err-check_meetings-clause-fault
returns-in_err-check_meetings-clause-fault g c =
    let names = c.args.names.now in
    let known = map g.I.Read.remaining c.args.inputs.items in
    let image = c.args.image.now in
    let files = c.replay_each.new.world.files.items in
    let why = c.in_err-check_meetings.field-0.0 in
    handed_on (λ e. (files : List JournalText) × AreTexts names known files × IsJournalsFault g.K.Kept.capacity files image e) why
    c.from_residual-in_err-check_meetings.result c.from_residual-in_err-check_meetings.ensures.1 (
      files,
      texts_of names known c.in_ok-readers.readers.items files c.in_ok-readers.ensures.opened c.in_ok-replay_each.ensures.texts,
      of_meetings g.K.Kept.capacity files image why
          (subst (λ fs. AreMetOther fs why) c.as_slice-2.ensures.value c.in_err-check_meetings.ensures.fault),
    )

pub returns-clause-texts : goal.returns-clause-texts
returns-clause-texts g c =
    texts_of c.args.names.now (map g.I.Read.remaining c.args.inputs.items) c.in_ok-readers.readers.items
    c.replay_each.new.world.files.items c.in_ok-readers.ensures.opened c.in_ok-replay_each.ensures.texts

pub returns-clause-world : goal.returns-clause-world
returns-clause-world g c =
    let opening = c.in_ok-opening.opening in
    let files = c.replay_each.new.world.files.items in
    let count : length c.replay_each.new.world.hosts.items ≡ opening.hosts =
    c.in_ok-replay_each.ensures.long ∙ c.in_ok-world.ensures.long in
    subst (AreOfWorld files) (sym count)
    (of_world c.args.names.now c.in_ok-readers.readers.items files opening.hosts opening c.in_ok-replay_each.ensures.texts
    (subst (λ os. AreOfOneWorld (headers_of os) opening.hosts opening) c.as_slice.ensures.value c.in_ok-opening.ensures.world)
    (subst (λ fs. HaveMet fs (length fs) opening.world) c.as_slice-2.ensures.value c.in_ok-check_meetings.ensures.met))
