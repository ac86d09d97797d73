-- The bytes of a frame that comes.
use Rattle.std.proofs.Common.{◌≡◌, ◌∙◌, ℕ, ◌<◌, ◌&&◌, not, Bool, true, false, Option, Some, None, List, [], ◌∷◌, MatchOption, sym, ap, subst}
use Rattle.std.specs.Prelude.{IfOk, Vec, Result, Ok, Err}
use Rattle.std.specs.BTreeMap.{BTreeMap, is_at}
use Rattle.std.specs.Cmp.Lexicographic.{slice_cmp}
use Rattle.std.specs.Map.{lookup}
use Rattle.std.specs.Ordering.{nat_cmp}
use Rattle.std.proofs.lemmas.Bool.{lt-ltb, ne_eqb}
use Rattle.std.proofs.lemmas.Option.{MatchOption-at_none}
use Rattle.rvm_frame.specs.declared.addressed.Addressed.{Addressed}
use Rattle.rvm_frame.specs.declared.frame.Frame.{Frame}
use Rattle.rvm_frame.specs.Grammar.{HasSpelling, sent, spelling}
use Rattle.rvm_message.specs.declared.event.HostEvent.{HostEvent}
use Rattle.rvm_message.specs.declared.event.HostEvent.TheVariants.{Came}
use Rattle.rvm_protocol.specs.Host.{is_there}
use Rattle.rvm_audit.specs.Hosts.{HasBytes, coming}
use Rattle.rvm_audit.specs.Merging.{IsKey, IsNoFrame, IsPlaced, IsUnplaced, Places, places_of}
use Rattle.rvm_audit.specs.Passing.{MayNotCome, MayNotPass}

-- a map without entries has no place for any key
pub no_place : {A : Type 0} (map : BTreeMap (Vec ℕ A) ℕ) → map.entries ≡ [] → (key : List ℕ) → places_of map key ≡ None
unfolding places_of
no_place {A} map is key = ap (λ es. lookup (is_at (λ (k : Vec ℕ A). slice_cmp nat_cmp key k.items)) es) is

pub there_from : (x count from : ℕ) → from < count → (from ≡ x → ⊥) → is_there x count from ≡ true
there_from x count from lt ne = λ i. lt-ltb from count lt i && not (ne_eqb from x ne i)

pub is_coming : (from to : ℕ) (f g : Frame) → g ≡ f
    → ◌≡◌ {A = Addressed} (record { from = from; to = to; frame = g }) (coming from to f)
is_coming from to f g is = λ j. record { from = from; to = to; frame = is j }

-- the key of a frame that comes
pub is_key : (version count x from : ℕ) (f : Frame) (a : Addressed) (key : List ℕ) → is_there x count from ≡ true
    → HasSpelling (sent version a) → a ≡ coming from x f → key ≡ from ∷ spelling (sent version a)
    → IsKey version count x from f key
is_key version count x from f a key other has a_is is = record {
  bytes = spelling (sent version a);
  other = other;
  same = record {
    spelled = subst (λ (y : Addressed). HasSpelling (sent version y)) a_is has;
    bytes_are = ap (λ (y : Addressed). spelling (sent version y)) a_is;
  };
  key_is = is;
}

-- a frame has no other key
one_key : (version count x from : ℕ) (f : Frame) (key bytes : List ℕ) → IsKey version count x from f key
    → HasBytes version from x f bytes → from ∷ bytes ≡ key
one_key version count x from f key bytes k has =
    ap (λ (b : List ℕ). from ∷ b) (has.bytes_are ∙ sym k.same.bytes_are) ∙ sym k.key_is

-- the key of a frame has a place, or has none
pub placed : (version count x from : ℕ) (f : Frame) (places : Places) (key : List ℕ) (o : Option ℕ)
    → IsKey version count x from f key → o ≡ places key
    → MatchOption o (IsUnplaced version count x from f places) (λ k. IsPlaced version count x from f places k)
placed version count x from f places key None k found =
    λ bytes there same. ap places (one_key version count x from f key bytes k same) ∙ sym found
placed version count x from f places key (Some n) k found =
    record { bytes = k.bytes; other = k.other; same = k.same; there = ap places (sym k.key_is) ∙ sym found }

-- a frame without a key has no place, and may not come
module _ {K : Type 0} (version count x from : ℕ) (f : Frame) (o : Option K) (IsIts : K → Type 0)
    (found : MatchOption o (IsNoFrame version count x from f) IsIts) (none : o ≡ None) where
  never : IsNoFrame version count x from f
  never = MatchOption-at_none (IsNoFrame version count x from f) IsIts none found

  pub unplaced : (places : Places) → IsUnplaced version count x from f places
  unplaced places = λ bytes other same. absurd (never bytes other same)

  pub may_not_come : (made : Places) (spent : ℕ → Bool) → MayNotCome version count x made spent from f
  may_not_come made spent = λ bytes other same. absurd (never bytes other same)

-- what a frame that may not come says of the event that it came
pub stays_blocked : {E : Type 0} (version count x : ℕ) (made : Places) (spent : ℕ
    → Bool) (e : HostEvent) (r : Result Bool E)
    (from : ℕ) (f : Frame) → e ≡ Came from f → IfOk r (λ b. b ≡ false → MayNotCome version count x made spent from f)
    → IfOk r (λ b. b ≡ false → MayNotPass version count x made spent e)
stays_blocked version count x made spent e (Ok b) from f is told =
    λ so. subst (MayNotPass version count x made spent) (sym is) (told so)
stays_blocked version count x made spent e (Err why) from f is told = tt
