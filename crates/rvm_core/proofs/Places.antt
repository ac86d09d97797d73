-- The places of the frames of a run, event by event.
use Rattle.std.proofs.Common.{◌≡◌, ℕ, ◌+◌, ◌<◌, ◌≤◌, List, [], ◌∷◌, ◌++◌, length, map, drop, get_or, Option, refl, sym, ap, ◌∙◌, append_assoc, append-nil}
use Rattle.std.proofs.lemmas.List.{drop_more}
use Rattle.rvm_guest.specs.TheGuest.{board}
use Rattle.rvm_protocol.specs.World.{step}
use Rattle.rvm_core.specs.declared.event.Event.{Event}
use Rattle.rvm_core.specs.declared.event.WorldReply.{WorldReply}
use Rattle.rvm_core.specs.Worlds.{BoardWorld, PlainWorld, kept_of, meant, place_of, places_of, world_of}
use Rattle.rvm_core.proofs.Runs.{drop_all, map_length, map_pushed}

-- the places of the frames of some replies
abbrev pub frames_at : List WorldReply → List (Option ℕ)
frames_at said = map (λ (r : WorldReply). r.frame) said

-- these are the places of the frames of the events before i
pub record Placing (w0 w : BoardWorld) (all : List Event) (i : ℕ) (said : List WorldReply) : Type 0 where
  pub placed : frames_at said ++ places_of w (map meant (drop i all)) ≡ places_of w0 (map meant all)

-- the places of one event and of the others, and of no event
places_first : (w : BoardWorld) (x : Event) (rest : List Event)
    → places_of w (map meant (x ∷ rest))
    ≡ place_of (length w.sent) (length (step board w (meant x)).sent)
    ∷ places_of (step board w (meant x)) (map meant rest)
unfolding places_of
places_first w x rest = refl

no_places : (w : BoardWorld) → places_of w [] ≡ []
unfolding places_of
no_places w = refl

-- a place is the same in the world of the protocol
same_place : (old new : PlainWorld)
    → place_of (length old.sent) (length new.sent) ≡ place_of (length (world_of old).sent) (length (world_of new).sent)
same_place old new =
    let before = map_length (kept_of old.version) old.sent in
    let after = map_length (kept_of new.version) new.sent in
    λ j. place_of (sym before j) (sym after j)

-- before the first event
pub none_placed : (w : BoardWorld) (all : List Event) → Placing w w all 0 []
none_placed w all = record { placed = refl }

-- one event more
pub one_placed : (w0 : BoardWorld) (old new : PlainWorld) (all : List Event) (i : ℕ) (said said' : List WorldReply)
    (x : Event) (r : WorldReply) → Placing w0 (world_of old) all i said → i < length all → x ≡ get_or all i x
    → r.frame ≡ place_of (length old.sent) (length new.sent) → world_of new ≡ step board (world_of old) (meant x)
    → said' ≡ said ++ r ∷ [] → Placing w0 (world_of new) all (i + 1) said'
one_placed w0 old new all i said said' x r so_far lt is place next more =
    let w = world_of old in
    let w' = world_of new in
    let rest = places_of w' (map meant (drop (i + 1) all)) in
    let here : drop i all ≡ x ∷ drop (i + 1) all =
    drop_more all i x lt ∙ ap (λ z. z ∷ drop (i + 1) all) (sym is)
    in
    let told : r.frame ≡ place_of (length w.sent) (length (step board w (meant x)).sent) =
    place ∙ same_place old new ∙ ap (λ (z : BoardWorld). place_of (length w.sent) (length z.sent)) next
    in
    let whole : places_of w (map meant (drop i all)) ≡ r.frame ∷ rest =
    ap (λ z. places_of w (map meant z)) here ∙ places_first w x (drop (i + 1) all)
    ∙ (λ j. sym told j ∷ places_of (sym next j) (map meant (drop (i + 1) all)))
    in
    record {
      placed =
          ap (λ z. frames_at z ++ rest) more
          ∙ ap (λ z. z ++ rest) (map_pushed (λ (r : WorldReply). r.frame) said r)
          ∙ append_assoc (frames_at said) (r.frame ∷ []) rest
          ∙ ap (λ z. frames_at said ++ z) (sym whole)
          ∙ so_far.placed;
    }

-- after the last event
pub all_placed : (w0 w : BoardWorld) (all : List Event) (i : ℕ) (said : List WorldReply) → Placing w0 w all i said
    → length all ≤ i → frames_at said ≡ places_of w0 (map meant all)
all_placed w0 w all i said so_far le =
    sym (append-nil (frames_at said))
    ∙ ap (λ z. frames_at said ++ z) (sym (ap (λ z. places_of w (map meant z)) (drop_all all i le) ∙ no_places w))
    ∙ so_far.placed
