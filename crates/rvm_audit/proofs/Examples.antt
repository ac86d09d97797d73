-- Worked orders and interleavings of three hosts.
use Rattle.std.proofs.Common.{◌≡◌, ◌∙◌, ℕ, zero, suc, ◌<◌, ◌==◌, true, if◌then◌else◌, List, [], ◌∷◌, Some, None, get_or, length, refl, ap, arith, inl, inr, ◌≤◌}
use Rattle.std.specs.Prelude.{slice_get}
use Rattle.std.proofs.lemmas.Option.{same_Some}
use Rattle.rvm_host.specs.Hosts.{PlainHost}
use Rattle.rvm_host.specs.Modes.{Empty, Given}
use Rattle.rvm_board.specs.Guest.{Guest}
use Rattle.rvm_frame.specs.declared.frame.Frame.TheVariants.{Go}
use Rattle.rvm_recorder.specs.Entries.{PlainEntry}
use Rattle.rvm_recorder.specs.Replay.{IsReplay}
use Rattle.rvm_message.specs.declared.event.Command.TheVariants.{Resend}
use Rattle.rvm_message.specs.declared.event.HostEvent.TheVariants.{Do, Came}
use Rattle.rvm_message.specs.declared.reply.HostRefusal.TheVariants.{Ignored}
use Rattle.rvm_message.specs.declared.reply.HostReply.TheVariants.{Refused, Resent}
use Rattle.rvm_core.specs.declared.event.Event.{Event}
use Rattle.rvm_core.specs.declared.event.Event.TheVariants.{At, Deliver}
use Rattle.rvm_audit.specs.Hosts.{HasBytes, HostEntry, IsRun, Openings, after_all, coming, entries_at, opened}
use Rattle.rvm_audit.specs.Orders.{IsDeadEnd, IsInterleaving, IsOrder, IsStuck, Journals, cut}
use Rattle.rvm_audit.proofs.Greatest.{all_closed, greatest}
use Rattle.rvm_audit.proofs.Runs.{ends_of}

-- a source keeps the guest that it gave, whichever it was
module _ (kept : Guest) where
  -- host 0 gave its guest to host 1
  abbrev pub opening : ℕ → PlainHost
  opening x =
      record {
        mode = if x == 0 then Given 1 kept else Empty 0;
        partner = if x == 0 then 1 else x;
        id = x;
        count = 3;
        limit = 1;
        version = 3;
      }

  abbrev pub three : Openings
  three = record { count = 3; host = opening }

  -- Go of move 1, from host 0 to host 1
  abbrev pub go_bytes : List ℕ
  go_bytes = 9 ∷ 0 ∷ 1 ∷ 1 ∷ 0 ∷ 0 ∷ 0 ∷ 0 ∷ 0 ∷ 0 ∷ 0 ∷ 0 ∷ 0 ∷ 0 ∷ 0 ∷ []

  abbrev pub sends_go : PlainEntry
  sends_go = record { event = Do Resend; reply = Resent; frame = Some go_bytes }

  abbrev pub takes_go : PlainEntry
  takes_go = record { event = Came 0 (Go 1); reply = Refused Ignored; frame = None }

  abbrev pub entries : (third : List PlainEntry) → ℕ → List PlainEntry
  entries third zero = sends_go ∷ []
  entries third (suc zero) = takes_go ∷ []
  entries third (suc (suc zero)) = third
  entries third x = []

  abbrev pub journals : (third : List PlainEntry) → Journals
  journals third = record { openings = three; entries = entries third }

  abbrev sequence : List HostEntry
  sequence = (0, sends_go) ∷ (1, takes_go) ∷ []

  abbrev events : List Event
  events = At 0 Resend ∷ Deliver 0 ∷ []

  each_has_its_own : (entries_at 0 sequence ≡ sends_go ∷ [])
      × (entries_at 1 sequence ≡ takes_go ∷ []) × (entries_at 2 sequence ≡ [])
  each_has_its_own = (refl, refl, refl)

  go_was_made : (after_all three (opened three) sequence).made ≡ (0, go_bytes) ∷ []
  go_was_made = refl

  pub its_bytes : HasBytes 3 0 1 (Go 1) go_bytes
  its_bytes = record {
    spelled = record { hosts = refl; move_number = refl; body = refl; body_length = omega arith };
    bytes_are = refl;
  }

  a_run : IsRun three (opened three) events sequence
  a_run = (
    record {
      there = omega arith;
      event = (refl, refl);
      answer = record {
        reply = refl;
        frame = record { frame = coming 0 1 (Go 1); is = refl; spells = (its_bytes.spelled, (refl, refl), refl) };
      };
    },
    (
      record {
        there = omega arith;
        event = record {
          from = 0;
          frame = Go 1;
          bytes = go_bytes;
          event = refl;
          other = refl;
          stands = refl;
          same = its_bytes;
        };
        answer = record { reply = refl; frame = tt };
      },
      tt,
    ),
  )

  same : (x : ℕ) → x < 3 → entries_at x sequence ≡ entries [] x
  same zero lt = refl
  same (suc zero) lt = refl
  same (suc (suc zero)) lt = refl
  same (suc (suc (suc x))) lt = absurd (omega (arith, lt))

  pub an_order : IsOrder (journals []) events
  an_order = record { sequence = sequence; run = a_run; entries = same; ends = ends_of (journals []) sequence same }

  replays : (x : ℕ) → x < 3 → IsReplay (opening x) (entries [] x)
  replays zero lt = (a_run.0.answer, tt)
  replays (suc zero) lt = (a_run.1.0.answer, tt)
  replays (suc (suc zero)) lt = tt
  replays (suc (suc (suc x))) lt = absurd (omega (arith, lt))

  an_interleaving : IsInterleaving (journals []) sequence
  an_interleaving = record {
    replays = replays;
    entries = same;
    follow = (
      record { there = omega arith; came = tt },
      (
        record {
          there = omega arith;
          came = record { place = 0; bytes = go_bytes; other = refl; stands = refl; same = its_bytes };
        },
        tt,
      ),
    );
  }

  -- host 2 has a frame that was made for host 1: it explains nothing
  only_go : (place : ℕ) (entry : PlainEntry) (bytes : List ℕ) → place < 1
      → slice_get (sends_go ∷ []) place ≡ Some entry → entry.frame ≡ Some bytes → go_bytes ≡ bytes
  only_go zero entry bytes lt stands made =
      let is : sends_go ≡ entry = same_Some sends_go entry stands in
      same_Some go_bytes bytes (ap (λ (n : PlainEntry). n.frame) is ∙ made)
  only_go (suc place) entry bytes lt stands made = absurd (omega (arith, lt))

  abbrev stray : Journals
  stray = journals (takes_go ∷ [])

  abbrev stopped : ℕ → ℕ
  stopped zero = 1
  stopped (suc zero) = 1
  stopped x = 0

  within : (x : ℕ) → x < 3 → stopped x ≤ length (stray.entries x)
  within zero lt = omega arith
  within (suc zero) lt = omega arith
  within (suc (suc zero)) lt = omega arith
  within (suc (suc (suc x))) lt = absurd (omega (arith, lt))

  stuck : (x : ℕ) → x < 3 → IsStuck stray stopped x
  stuck zero lt = inl refl
  stuck (suc zero) lt = inl refl
  stuck (suc (suc zero)) lt = inr (record {
    entry = takes_go;
    from = 0;
    frame = Go 1;
    stands = refl;
    came = refl;
    unmade = λ bytes other same m.
        (let is = only_go m.place m.entry bytes m.below m.stands m.made ∙ same.bytes_are in
        let third : ◌≡◌ {A = ℕ} 1 2 = ap (λ (xs : List ℕ). get_or xs 2 0) is in
        omega (arith, third));
  })
  stuck (suc (suc (suc x))) lt = absurd (omega (arith, lt))

  a_frame_for_another_host_explains_nothing : IsDeadEnd stray stopped
  a_frame_for_another_host_explains_nothing = record {
    within = within;
    rest = (2, omega arith, omega arith);
    stuck = stuck;
  }

  its_greatest_prefix : (q : ℕ → ℕ) (es : List Event) → IsOrder (cut q stray) es → q 2 ≤ 1 → q 2 ≤ 0
  its_greatest_prefix q es o le =
      greatest stray stopped q (λ x. true) es (all_closed stray stopped) (λ x lt here. stuck x lt) o 2 (omega arith)
      refl le

  -- VERSION 1 OF THREE HOSTS

  -- whose headers name no hosts
  abbrev unnamed : Openings
  unnamed =
      record {
        count = 3;
        host = λ x. record {
          mode = if x == 0 then Given 1 kept else Empty 0;
          partner = if x == 0 then 1 else x;
          id = x;
          count = 3;
          limit = 1;
          version = 1;
        };
      }

  abbrev short_go : List ℕ
  short_go = 9 ∷ 1 ∷ 0 ∷ 0 ∷ 0 ∷ 0 ∷ 0 ∷ 0 ∷ 0 ∷ 0 ∷ 0 ∷ 0 ∷ 0 ∷ []

  short_bytes : (to : ℕ) → HasBytes 1 0 to (Go 1) short_go
  short_bytes to = record {
    spelled = record { hosts = refl; move_number = refl; body = refl; body_length = omega arith };
    bytes_are = refl;
  }

  -- a frame that host 0 made for host 1 comes to host 2: therefore the protocol asks for a version that this many hosts
  -- can speak
  a_frame_for_host_1_would_come_to_host_2 : IsRun unnamed (opened unnamed) events
      ((0, record { event = Do Resend; reply = Resent; frame = Some short_go }) ∷ (2, takes_go) ∷ [])
  a_frame_for_host_1_would_come_to_host_2 = (
    record {
      there = omega arith;
      event = (refl, refl);
      answer = record {
        reply = refl;
        frame = record { frame = coming 0 1 (Go 1); is = refl; spells = ((short_bytes 1).spelled, (refl, refl), refl) };
      };
    },
    (
      record {
        there = omega arith;
        event = record {
          from = 0;
          frame = Go 1;
          bytes = short_go;
          event = refl;
          other = refl;
          stands = refl;
          same = short_bytes 2;
        };
        answer = record { reply = refl; frame = tt };
      },
      tt,
    ),
  )
