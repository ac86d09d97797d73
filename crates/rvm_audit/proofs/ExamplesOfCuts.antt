-- Worked explanations of journals that were cut, and contradictions between them.
use Rattle.std.proofs.Common.{◌≡◌, ◌∙◌, ℕ, zero, suc, ◌<◌, ◌==◌, Bool, true, false, List, [], ◌∷◌, ◌++◌, length, take, None, Some, refl, sym, ap, subst, arith, inl, inr}
use Rattle.std.specs.Prelude.{slice_get}
use Rattle.std.proofs.lemmas.Option.{same_Some}
use Rattle.rvm_board.specs.Guest.{Guest}
use Rattle.rvm_frame.specs.declared.frame.Frame.{Frame}
use Rattle.rvm_frame.specs.declared.frame.Frame.TheVariants.{Go}
use Rattle.rvm_recorder.specs.Entries.{PlainEntry}
use Rattle.rvm_message.specs.declared.event.HostEvent.TheVariants.{Came}
use Rattle.rvm_message.specs.declared.reply.HostRefusal.TheVariants.{Ignored}
use Rattle.rvm_message.specs.declared.reply.HostReply.TheVariants.{Refused}
use Rattle.rvm_audit.specs.Hosts.{HostEntry, entries_at}
use Rattle.rvm_audit.specs.Orders.{IsClosed, IsStuck, Journals, MadeBelow}
use Rattle.rvm_audit.specs.Cuts.{Completes, Contradicts, IsExplained, IsExplanation}
use Rattle.rvm_audit.proofs.Examples.{entries, go_bytes, its_bytes, journals, sends_go, takes_go, three}

module _ (kept : Guest) where
  -- the journal of host 0 without its only entry, by which it made the frame that host 1 has
  abbrev without : ℕ → List PlainEntry
  without (suc zero) = takes_go kept ∷ []
  without x = []

  abbrev cut_journals : Journals
  cut_journals = record { openings = three kept; entries = without }

  abbrev first : ℕ → Bool
  first x = x == 0

  abbrev sequence : List HostEntry
  sequence = (1, takes_go kept) ∷ []

  same : (x : ℕ) → x < 3 → entries_at x sequence ≡ without x
  same zero lt = refl
  same (suc zero) lt = refl
  same (suc (suc zero)) lt = refl
  same (suc (suc (suc x))) lt = absurd (omega (arith, lt))

  -- the entry that made the frame may have been cut off
  a_frame_whose_entry_was_cut_off_is_explained : IsExplanation cut_journals first sequence
  a_frame_whose_entry_was_cut_off_is_explained = record {
    entries = same;
    all = record { there = there; explained = explained };
  }
    where
      there : (k : ℕ) (s : HostEntry) → slice_get sequence k ≡ Some s → s.0 < 3
      there zero s at = let is : 1 ≡ s.0 = cc in omega (arith, is)
      there (suc k) s at = absurd cc

      its : IsExplained cut_journals first [] 1 (Came 0 (Go 1))
      its = inr (record { bytes = go_bytes kept; other = refl; same = its_bytes kept; was_cut = refl; ended = refl })

      explained : (k : ℕ) (s : HostEntry) → slice_get sequence k ≡ Some s
          → IsExplained cut_journals first (take k sequence) s.0 s.1.event
      explained zero s at =
          let is : ◌≡◌ {A = HostEntry} (1, takes_go kept) s = cc in
          subst (λ (t : HostEntry). IsExplained cut_journals first [] t.0 t.1.event) is its
      explained (suc k) s at = absurd cc

  -- the journals of which the first was cut, as they went on
  the_whole_journals_complete_them : Completes cut_journals first (journals kept [])
  the_whole_journals_complete_them = record { openings = refl; goes_on = goes_on; ends = ends } where
    goes_on : (x : ℕ) → x < 3 → (rest : List PlainEntry) × (entries kept [] x ≡ without x ++ rest)
    goes_on zero lt = (sends_go kept ∷ [], refl)
    goes_on (suc zero) lt = ([], refl)
    goes_on (suc (suc zero)) lt = ([], refl)
    goes_on (suc (suc (suc x))) lt = absurd (omega (arith, lt))

    ends : (x : ℕ) → x < 3 → first x ≡ false → entries kept [] x ≡ without x
    ends zero lt whole = absurd cc
    ends (suc zero) lt whole = refl
    ends (suc (suc zero)) lt whole = refl
    ends (suc (suc (suc x))) lt whole = absurd (omega (arith, lt))

  -- THE SAME JOURNALS, NONE OF WHICH WAS CUT

  abbrev begun : ℕ → ℕ
  begun x = 0

  abbrev all : ℕ → Bool
  all x = true

  never_made : (entries : List PlainEntry) (bytes : List ℕ) → MadeBelow entries 0 bytes → ⊥
  never_made entries bytes m = let b = m.below in omega (arith, b)

  stuck : (x : ℕ) → x < 3 → all x ≡ true → IsStuck cut_journals begun x
  stuck zero lt here = inl refl
  stuck (suc zero) lt here = inr (record {
    entry = takes_go kept;
    from = 0;
    frame = Go 1;
    stands = refl;
    came = refl;
    unmade = λ bytes other has m. never_made (without 0) bytes m;
  })
  stuck (suc (suc zero)) lt here = inl refl
  stuck (suc (suc (suc x))) lt here = absurd (omega (arith, lt))

  a_frame_that_a_whole_journal_did_not_make_contradicts : Contradicts cut_journals (λ x. false) begun all
  a_frame_that_a_whole_journal_did_not_make_contradicts = record {
    within = λ x lt. omega arith;
    closed = λ x from frame n bytes lt here at came other has. refl;
    stuck = stuck;
    more = λ x lt here cut. absurd cc;
    rest = (1, omega arith, refl, omega arith);
  }

  -- HOSTS THAT WAIT FOR ONE ANOTHER

  -- hosts 0 and 1 both begin with a frame from the other
  abbrev waiting : ℕ → PlainEntry
  waiting from = record { event = Came from (Go 1); reply = Refused Ignored; frame = None }

  abbrev ring : ℕ → List PlainEntry
  ring zero = waiting 1 ∷ []
  ring (suc zero) = waiting 0 ∷ []
  ring x = []

  abbrev ring_journals : Journals
  ring_journals = record { openings = three kept; entries = ring }

  abbrev both_of_them : ℕ → Bool
  both_of_them zero = true
  both_of_them (suc zero) = true
  both_of_them x = false

  same_sender : (from x : ℕ) (f : Frame) (n : PlainEntry) → n ≡ waiting x → n.event ≡ Came from f → x ≡ from
  same_sender from x f n is came =
      let e : Came x (Go 1) ≡ Came from f = ap (λ (m : PlainEntry). m.event) (sym is) ∙ came in cc

  wait : (x : ℕ) → x < 3 → both_of_them x ≡ true → IsStuck ring_journals begun x
  wait zero lt here = inr (record {
    entry = waiting 1;
    from = 1;
    frame = Go 1;
    stands = refl;
    came = refl;
    unmade = λ bytes other has m. never_made (ring 1) bytes m;
  })
  wait (suc zero) lt here = inr (record {
    entry = waiting 0;
    from = 0;
    frame = Go 1;
    stands = refl;
    came = refl;
    unmade = λ bytes other has m. never_made (ring 0) bytes m;
  })
  wait (suc (suc x)) lt here = absurd cc

  ring_closed : IsClosed ring_journals begun both_of_them
  ring_closed zero from frame n bytes lt here at came other has =
      ap both_of_them (sym (same_sender from 1 frame n (sym (same_Some (waiting 1) n at)) came))
  ring_closed (suc zero) from frame n bytes lt here at came other has =
      ap both_of_them (sym (same_sender from 0 frame n (sym (same_Some (waiting 0) n at)) came))
  ring_closed (suc (suc x)) from frame n bytes lt here at came other has = absurd cc

  -- although all journals were cut: none of these two is at its end
  hosts_that_wait_for_one_another_contradict : Contradicts ring_journals (λ x. true) begun both_of_them
  hosts_that_wait_for_one_another_contradict = record {
    within = λ x lt. omega arith;
    closed = ring_closed;
    stuck = wait;
    more = more;
    rest = (0, omega arith, refl, omega arith);
  }
    where
      more : (x : ℕ) → x < 3 → both_of_them x ≡ true → true ≡ true → 0 < length (ring x)
      more zero lt here cut = omega arith
      more (suc zero) lt here cut = omega arith
      more (suc (suc x)) lt here cut = absurd cc
