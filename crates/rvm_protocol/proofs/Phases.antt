-- Two hosts of a world and the frames sent, and what lists of events at these two make of them.
use Rattle.std.proofs.Common.{◌≡◌, ◌≢◌, ℕ, nat_lt, Bool, true, false, if◌then◌else◌, List, [], ◌∷◌, ◌++◌, Some, refl, sym, ap, ◌∙◌, subst}
use Rattle.std.specs.Prelude.{slice_get}
use Rattle.rvm_protocol.specs.Commands.{Command, HostEvent, Do, Came}
use Rattle.rvm_protocol.specs.Frames.{Frame, Addressed}
use Rattle.rvm_protocol.specs.Guest.{Guest}
use Rattle.rvm_protocol.specs.Host.{Host, Result, host_step}
use Rattle.rvm_protocol.specs.Replies.{Reply, Refused, BadHost, NoFrame}
use Rattle.rvm_protocol.specs.World.{World, Event, At, Deliver, and_sent, frame_for, meaning, happened, result_at, reply_or, reply_to, step, run, replies}
use Rattle.rvm_protocol.proofs.Basics.{put_same, put_other}

pub if_true : {X : Type 0} (b : Bool) (x y : X) → b ≡ true → (if b then x else y) ≡ x
if_true b x y h = ap (λ (t : Bool). if t then x else y) h

pub if_false : {X : Type 0} (b : Bool) (x y : X) → b ≡ false → (if b then x else y) ≡ y
if_false b x y h = ap (λ (t : Bool). if t then x else y) h

pub record Duo (S P B : Type 0) : Type 0 where
  pub source : Host S P
  pub target : Host S P
  pub sent : List (Addressed P B)

module _ {S P E A B : Type 0} (m : Guest S P E A B) where
  run_append : (xs ys : List (Event E)) (w : World S P B)
      → run m w (xs ++ ys) ≡ run m (run m w xs) ys
  unfolding run
  run_append [] ys w = refl
  run_append (x ∷ xs) ys w = run_append xs ys (step m w x)

  replies_append : (xs ys : List (Event E)) (w : World S P B)
      → replies m w (xs ++ ys) ≡ replies m w xs ++ replies m (run m w xs) ys
  unfolding run replies
  replies_append [] ys w = refl
  replies_append (x ∷ xs) ys w = ap (λ z. reply_to m w x ∷ z) (replies_append xs ys (step m w x))

module _ {S P E A B : Type 0} (m : Guest S P E A B) (version count : ℕ) (limits : ℕ → ℕ)
    (from to : ℕ) where
  pub record Shows (w : World S P B) (d : Duo S P B) : Type 0 where
    pub version_is : w.version ≡ version
    pub count_is : w.count ≡ count
    pub limits_are : w.limits ≡ limits
    pub source_is : w.hosts from ≡ d.source
    pub target_is : w.hosts to ≡ d.target
    pub sent_is : w.sent ≡ d.sent

  -- the events lead from one to the other, with these replies
  pub record Phase (d : Duo S P B) (es : List (Event E)) (rs : List (Reply A))
      (d' : Duo S P B) : Type 0 where
    pub leads : (w : World S P B) → Shows w d → (replies m w es ≡ rs) × Shows (run m w es) d'

  pub nothing : (d : Duo S P B) → Phase d [] [] d
  unfolding run replies
  nothing d = record { leads = λ w s. (refl, s) }

  pub after : (d d' d'' : Duo S P B) (es es' : List (Event E)) (rs rs' : List (Reply A))
      → Phase d es rs d' → Phase d' es' rs' d'' → Phase d (es ++ es') (rs ++ rs') d''
  after d d' d'' es es' rs rs' p q =
      record {
        leads = λ w s.
            let a = p.leads w s in
            let b = q.leads (run m w es) a.1 in (
              replies_append m es es' w ∙ ap (λ z. z ++ replies m (run m w es) es') a.0
                  ∙ ap (λ z. rs ++ z) b.0,
              subst (λ z. Shows z d'') (sym (run_append m es es' w)) b.1,
            );
      }

  pub same_replies : (d d' : Duo S P B) (es : List (Event E)) (rs rs' : List (Reply A)) → rs ≡ rs'
      → Phase d es rs d' → Phase d es rs' d'
  same_replies d d' es rs rs' e p = subst (λ z. Phase d es z d') e p

  stepped : (w : World S P B) (d : Duo S P B) (x : ℕ) (e : HostEvent P E B) (h : Host S P)
      (r : Result S P A B) → Shows w d → w.hosts x ≡ h
      → host_step m version x count (limits x) e h ≡ r → result_at m w x e ≡ r
  stepped w d x e h r s at is =
      ap (λ z. host_step m z x w.count (w.limits x) e (w.hosts x)) s.version_is
      ∙ ap (λ z. host_step m version x z (w.limits x) e (w.hosts x)) s.count_is
      ∙ ap (λ (z : ℕ → ℕ). host_step m version x count (z x) e (w.hosts x)) s.limits_are
      ∙ ap (λ z. host_step m version x count (limits x) e z) at
      ∙ is

  -- one event at the source
  source_step : (w : World S P B) (d : Duo S P B) (e : HostEvent P E B) (r : Result S P A B)
      (ev : Event E) → to ≢ from → Shows w d → meaning m w ev ≡ Some (from, e)
      → host_step m version from count (limits from) e d.source ≡ r
      → Shows (step m w ev)
      (record { source = r.next; target = d.target; sent = and_sent d.sent r.made })
  source_step w d e r ev apart s means is =
      let got = stepped w d from e d.source r s s.source_is is in
      subst (λ q. Shows (happened m w q) (record {
        source = r.next;
        target = d.target;
        sent =
            and_sent d.sent r.made;
      })) (sym means)
      (record {
        version_is = s.version_is;
        count_is = s.count_is;
        limits_are = s.limits_are;
        source_is =
            put_same w.hosts from (result_at m w from e).next
            ∙ ap (λ (z : Result S P A B). z.next) got;
        target_is = put_other w.hosts from to (result_at m w from e).next apart ∙ s.target_is;
        sent_is =
            ap (λ z. and_sent z (result_at m w from e).made) s.sent_is
            ∙ ap (λ (z : Result S P A B). and_sent d.sent z.made) got;
      })

  target_step : (w : World S P B) (d : Duo S P B) (e : HostEvent P E B) (r : Result S P A B)
      (ev : Event E) → to ≢ from → Shows w d → meaning m w ev ≡ Some (to, e)
      → host_step m version to count (limits to) e d.target ≡ r
      → Shows (step m w ev)
      (record { source = d.source; target = r.next; sent = and_sent d.sent r.made })
  target_step w d e r ev apart s means is =
      let got = stepped w d to e d.target r s s.target_is is in
      subst (λ q. Shows (happened m w q) (record {
        source = d.source;
        target = r.next;
        sent =
            and_sent d.sent r.made;
      })) (sym means)
      (record {
        version_is = s.version_is;
        count_is = s.count_is;
        limits_are = s.limits_are;
        source_is =
            put_other w.hosts to from (result_at m w to e).next (λ q. apart (sym q)) ∙ s.source_is;
        target_is =
            put_same w.hosts to (result_at m w to e).next ∙ ap (λ (z : Result S P A B). z.next) got;
        sent_is =
            ap (λ z. and_sent z (result_at m w to e).made) s.sent_is
            ∙ ap (λ (z : Result S P A B). and_sent d.sent z.made) got;
      })

  -- a command at the source
  pub commands : (c : Command E) (d : Duo S P B) (r : Result S P A B) → to ≢ from
      → nat_lt from count ≡ true → host_step m version from count (limits from) (Do c) d.source ≡ r
      → Phase d (At from c ∷ []) (r.reply ∷ [])
      (record { source = r.next; target = d.target; sent = and_sent d.sent r.made })
  unfolding run replies
  commands c d r apart here is =
      record {
        leads = λ w s.
            let means : meaning m w (At from c) ≡ Some (from, Do c) = if_true
            (nat_lt from w.count) _ _ (ap (nat_lt from) s.count_is ∙ here) in
            let got = stepped w d from (Do c) d.source r s s.source_is is in (
              ap (λ z. z ∷ [])
                  (ap (reply_or m w (Refused BadHost)) means
                  ∙ ap (λ (z : Result S P A B). z.reply) got),
              source_step w d (Do c) r (At from c) apart s means is,
            );
      }

  came_means : (w : World S P B) (d : Duo S P B) (k : ℕ) (a : Addressed P B) → Shows w d
      → slice_get d.sent k ≡ Some a → meaning m w (Deliver k) ≡ Some (a.to, Came a.from a.frame)
  came_means w d k a s got = ap (λ z. frame_for m (slice_get z k)) s.sent_is ∙ ap (frame_for m) got

  -- a frame comes to the source
  pub to_source : (k y : ℕ) (f : Frame P B) (d : Duo S P B) (r : Result S P A B) → to ≢ from
      → slice_get d.sent k ≡ Some (record { from = y; to = from; frame = f })
      → host_step m version from count (limits from) (Came y f) d.source ≡ r
      → Phase d (Deliver k ∷ []) (r.reply ∷ [])
      (record { source = r.next; target = d.target; sent = and_sent d.sent r.made })
  unfolding run replies
  to_source k y f d r apart sent is =
      record {
        leads = λ w s.
            let means = came_means w d k (record { from = y; to = from; frame = f }) s sent in
            let got = stepped w d from (Came y f) d.source r s s.source_is is in (
              ap (λ z. z ∷ [])
                  (ap (reply_or m w (Refused NoFrame)) means
                  ∙ ap (λ (z : Result S P A B). z.reply) got),
              source_step w d (Came y f) r (Deliver k) apart s means is,
            );
      }

  -- a frame comes to the target
  pub to_target : (k y : ℕ) (f : Frame P B) (d : Duo S P B) (r : Result S P A B) → to ≢ from
      → slice_get d.sent k ≡ Some (record { from = y; to = to; frame = f })
      → host_step m version to count (limits to) (Came y f) d.target ≡ r
      → Phase d (Deliver k ∷ []) (r.reply ∷ [])
      (record { source = d.source; target = r.next; sent = and_sent d.sent r.made })
  unfolding run replies
  to_target k y f d r apart sent is =
      record {
        leads = λ w s.
            let means = came_means w d k (record { from = y; to = to; frame = f }) s sent in
            let got = stepped w d to (Came y f) d.target r s s.target_is is in (
              ap (λ z. z ∷ [])
                  (ap (reply_or m w (Refused NoFrame)) means
                  ∙ ap (λ (z : Result S P A B). z.reply) got),
              target_step w d (Came y f) r (Deliver k) apart s means is,
            );
      }
