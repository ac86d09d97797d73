-- The verdicts on the bytes of a frame, of a beginning of one, and of what is refused.
use Rattle.std.proofs.Common.{◌≡◌, ◌↔◌, ℕ, suc, ◌+◌, ◌%◌, ◌<◌, ◌≤◌, ◌⊎◌, inl, inr, Bool, true, false, not, cond, eqb, ltb, List, [], ◌∷◌, ◌++◌, length, take, drop, Option, Some, None, Ok, Err, refl, sym, ap, ◌∙◌, append-nil, append_assoc, arith, length-append}
use Rattle.std.specs.Prelude.{is_some}
use Rattle.std.proofs.lemmas.Bool.{eqb-true, ltb-false, le-ltb}
use Rattle.std.proofs.lemmas.Bool.Decides.{nat_tests}
use Rattle.std.proofs.lemmas.List.{take_at, drop_at}
use Rattle.byteorder.specs.Endian.{little_bytes}
use Rattle.rvm_codec.specs.Numbers.{within}
use Rattle.rvm_codec.specs.Exact.{IsBytes}
use Rattle.rvm_codec.proofs.Steps.{both_are, some_is}
use Rattle.rvm_frame.specs.declared.frame.Frame.{Frame}
use Rattle.rvm_frame.specs.declared.kind.Kind.{Kind}
use Rattle.rvm_frame.specs.declared.kind.Kind.TheVariants as kinds
use Rattle.rvm_frame.specs.declared.addressed.Addressed.{Addressed}
use Rattle.rvm_frame.specs.declared.fault.ReadFault.{ReadFault}
use Rattle.rvm_frame.specs.declared.fault.ReadFault.TheVariants.{BadFrame, TooLong}
use Rattle.rvm_frame.specs.Kinds.{byte_of, hosts_fit, is_from, is_version, kind_at, kind_of, limit_of, may_have, move_fits, move_of, names_hosts, stands}
use Rattle.rvm_frame.specs.Grammar.{HasSpelling, MayStand, Received, body_fits, body_of, hosts_bytes, known_at, sent, spelling}
use Rattle.rvm_frame.specs.Bodies.{contents}
use Rattle.rvm_frame.specs.Verdict.{Header, Verdict, after_header, at_header, at_kind, header_at, verdict, wanted, wanted_after, whole, with_hosts}
use Rattle.rvm_frame.proofs.Bodies.{contents_again, contents_take, length_fits}
use Rattle.rvm_frame.proofs.Headers.{header_again, header_is, header_none, header_short, kind_byte, kind_is_at, move_below}

lt_is : (a b : ℕ) → ltb a b ≡ true → a < b
lt_is a b h = grind (arith, nat_tests)

is_lt : (a b : ℕ) → a < b → ltb a b ≡ true
is_lt a b h = grind (arith, nat_tests)

-- ---- the limit of a body

limit_at_most : (b : Bool) → cond b 8194 32768 ≤ 32768
limit_at_most true = omega arith
limit_at_most false = omega arith

limit_at_least : (b : Bool) (n : ℕ) → n ≤ 8194 → n ≤ cond b 8194 32768
limit_at_least true n h = h
limit_at_least false n h = omega (arith, h)

state_limit : (v : Option ℕ) (n : ℕ) → is_version v 1 ≡ true → n ≤ 32768 → n ≤ limit_of v
state_limit None n h le = absurd cc
state_limit (Some v) n h le =
    let one : v ≡ 1 = eqb-true _ _ h in
    rw one le

lost_small : (n : ℕ) → may_have kinds.Lost n ≡ true → n ≤ 8194
lost_small n h =
    let t = both_are (within 4 8194 n) (eqb (n % 2) 0) h in
    grind (arith, nat_tests, t.0)

-- only State may have a body above the limit of a version, in the one that has State
within_limit : (v : Option ℕ) (k : Kind) (n : ℕ) → stands v k ≡ true → may_have k n ≡ true → n ≤ 32768 → n ≤ limit_of v
within_limit v kinds.Hello n s h le = limit_at_least (is_from v 2) n (grind (arith, nat_tests))
within_limit v kinds.Offer n s h le = limit_at_least (is_from v 2) n (grind (arith, nat_tests))
within_limit v kinds.Accept n s h le = limit_at_least (is_from v 2) n (grind (arith, nat_tests))
within_limit v kinds.Refuse n s h le = limit_at_least (is_from v 2) n (grind (arith, nat_tests))
within_limit v kinds.Page n s h le = limit_at_least (is_from v 2) n (grind (arith, nat_tests))
within_limit v kinds.RoundEnd n s h le = limit_at_least (is_from v 2) n (grind (arith, nat_tests))
within_limit v kinds.Lost n s h le = limit_at_least (is_from v 2) n (lost_small n h)
within_limit v kinds.State n s h le = state_limit v n s le
within_limit v kinds.Ready n s h le = limit_at_least (is_from v 2) n (grind (arith, nat_tests))
within_limit v kinds.Go n s h le = limit_at_least (is_from v 2) n (grind (arith, nat_tests))
within_limit v kinds.Started n s h le = limit_at_least (is_from v 2) n (grind (arith, nat_tests))
within_limit v kinds.Abort n s h le = limit_at_least (is_from v 2) n (grind (arith, nat_tests))
within_limit v kinds.Zero n s h le = limit_at_least (is_from v 2) n (grind (arith, nat_tests))
within_limit v kinds.Part n s h le = limit_at_least (is_from v 2) n (grind (arith, nat_tests))

-- ---- after the header

-- the checks with the header's last byte and with the body's last byte
abbrev checks : Bool → Bool → Bool → Bool → Bool → Bool → Verdict → Verdict
checks a b c h d e r = cond a (Err TooLong) (cond (not b) (Err BadFrame) (cond (not c) (Err BadFrame) (cond (not h) (Err BadFrame) (cond d (Ok None) (cond e (Err BadFrame) r)))))

passed : (a b c h d e : Bool) (r : Verdict) (x : Received) → checks a b c h d e r ≡ Ok (Some x) → (a ≡ false) × (b ≡ true) × (c ≡ true) × (h ≡ true) × (d ≡ false) × (e ≡ false) × (r ≡ Ok (Some x))
passed true b c h d e r x eq = absurd cc
passed false false c h d e r x eq = absurd cc
passed false true false h d e r x eq = absurd cc
passed false true true false d e r x eq = absurd cc
passed false true true true true e r x eq = absurd cc
passed false true true true false true r x eq = absurd cc
passed false true true true false false r x eq = (refl, refl, refl, refl, refl, refl, eq)

waits : (a b c h d e : Bool) (o : Option Received) → checks a b c h d e (whole o) ≡ Ok None → (a ≡ false) × (b ≡ true) × (c ≡ true) × (h ≡ true) × (d ≡ true)
waits true b c h d e o eq = absurd cc
waits false false c h d e o eq = absurd cc
waits false true false h d e o eq = absurd cc
waits false true true false d e o eq = absurd cc
waits false true true true true e o eq = (refl, refl, refl, refl, refl)
waits false true true true false true o eq = absurd cc
waits false true true true false false None eq = absurd cc
waits false true true true false false (Some x) eq = absurd cc

too_many : (d e : Bool) (r : Verdict) → d ≡ false → e ≡ true → cond d (Ok None) (cond e (Err BadFrame) r) ≡ Err BadFrame
too_many d e r p q = rw (p, q) refl

-- a body that is refused has all its bytes, or the header was refused; with more bytes it is too long
stays : (a b c h d e : Bool) (o : Option Received) (d' e' : Bool) (r : Verdict) (fault : ReadFault) → checks a b c h d e (whole o) ≡ Err fault → (d ≡ false → (d' ≡ false) × (e' ≡ true)) → checks a b c h d' e' r ≡ Err fault
stays true b c h d e o d' e' r fault eq longer = eq
stays false false c h d e o d' e' r fault eq longer = eq
stays false true false h d e o d' e' r fault eq longer = eq
stays false true true false d e o d' e' r fault eq longer = eq
stays false true true true true e o d' e' r fault eq longer = absurd cc
stays false true true true false true o d' e' r fault eq longer = let l = longer refl in too_many d' e' r l.0 l.1 ∙ eq
stays false true true true false false None d' e' r fault eq longer = let l = longer refl in too_many d' e' r l.0 l.1 ∙ eq
stays false true true true false false (Some x) d' e' r fault eq longer = absurd cc

whole_is : (o : Option Received) (x : Received) → whole o ≡ Ok (Some x) → o ≡ Some x
whole_is None x h = absurd cc
whole_is (Some y) x h = cc

hosts_are : (hosts : Option (ℕ × ℕ)) (o : Option Frame) (x : Received) → with_hosts hosts o ≡ Some x → (hosts ≡ x.0) × (o ≡ Some x.1)
hosts_are hosts None x h = absurd cc
hosts_are hosts (Some f) x h =
    let same : ◌≡◌ {A = Received} (hosts, f) x = some_is _ _ h in
    (ap (λ (y : Received). y.0) same, ap (λ (y : Received). Some y.1) same)

-- a body that has all its bytes
record Behind (v : Option ℕ) (k : Kind) (hosts : Option (ℕ × ℕ)) (m n : ℕ) (body : List ℕ) (x : Received) : Type 0 where
  small : n ≤ 32768
  moves : move_fits k m ≡ true
  fit : hosts_fit hosts ≡ true
  len : length body ≡ n
  from : hosts ≡ x.0
  read : contents k m body ≡ Some x.1

behind_is : (v : Option ℕ) (k : Kind) (hosts : Option (ℕ × ℕ)) (m n : ℕ) (body : List ℕ) (x : Received) → after_header v k hosts m n body ≡ Ok (Some x) → Behind v k hosts m n body x
unfolding after_header
behind_is v k hosts m n body x h =
    let p = passed (ltb (limit_of v) n) (may_have k n) (move_fits k m) (hosts_fit hosts) (ltb (length body) n) (ltb n (length body)) (whole (with_hosts hosts (contents k m body))) x h in
    let small : n ≤ limit_of v = ltb-false _ _ p.0 in
    let most = limit_at_most (is_from v 2) in
    let low : n ≤ length body = ltb-false _ _ p.4 in
    let high : length body ≤ n = ltb-false _ _ p.5 in
    let r = hosts_are hosts (contents k m body) x (whole_is (with_hosts hosts (contents k m body)) x p.6) in
    record { small = omega (arith, small, most); moves = p.2; fit = p.3; len = omega (arith, low, high); from = r.0; read = r.1 }

behind_again : (v : Option ℕ) (k : Kind) (m : ℕ) (body : List ℕ) (x : Received) → length body ≤ limit_of v → may_have k (length body) ≡ true → move_fits k m ≡ true → hosts_fit x.0 ≡ true → contents k m body ≡ Some x.1 → after_header v k x.0 m (length body) body ≡ Ok (Some x)
unfolding after_header
behind_again v k m body x small has moves fit read =
    let a : ltb (limit_of v) (length body) ≡ false = le-ltb _ _ small in
    let d : ltb (length body) (length body) ≡ false = le-ltb _ _ (omega arith) in
    rw (a, has, moves, fit, d, read) refl

-- a body that is not there yet, and what else waits for it
pub record Waits (v : Option ℕ) (k : Kind) (hosts : Option (ℕ × ℕ)) (m n : ℕ) (body : List ℕ) : Type 0 where
  pub short : length body < n
  pub whole_is : (all : List ℕ) → length all ≡ n → after_header v k hosts m n all ≡ whole (with_hosts hosts (contents k m all))
  pub has : may_have k n ≡ true
  pub other : (longer : List ℕ) → length longer < n → after_header v k hosts m n longer ≡ Ok None

pub waits_is : (v : Option ℕ) (k : Kind) (hosts : Option (ℕ × ℕ)) (m n : ℕ) (body : List ℕ) → after_header v k hosts m n body ≡ Ok None → Waits v k hosts m n body
unfolding after_header
waits_is v k hosts m n body h =
    let p = waits (ltb (limit_of v) n) (may_have k n) (move_fits k m) (hosts_fit hosts) (ltb (length body) n) (ltb n (length body)) (with_hosts hosts (contents k m body)) h in
    record {
      short = lt_is (length body) n p.4;
      whole_is = λ all e. let d : ltb (length all) n ≡ false = le-ltb _ _ (omega (arith, e)) in let f : ltb n (length all) ≡ false = le-ltb _ _ (omega (arith, e)) in rw (p.0, p.1, p.2, p.3, d, f) refl;
      has = p.1;
      other = λ longer lt. let d : ltb (length longer) n ≡ true = is_lt (length longer) n lt in rw (p.0, p.1, p.2, p.3, d) refl;
    }

wait_again : (v : Option ℕ) (k : Kind) (hosts : Option (ℕ × ℕ)) (m n : ℕ) (body : List ℕ) → n ≤ limit_of v → may_have k n ≡ true → move_fits k m ≡ true → hosts_fit hosts ≡ true → length body < n → after_header v k hosts m n body ≡ Ok None
unfolding after_header
wait_again v k hosts m n body small has moves fit lt =
    let a : ltb (limit_of v) n ≡ false = le-ltb _ _ small in
    let d : ltb (length body) n ≡ true = is_lt (length body) n lt in
    rw (a, has, moves, fit, d) refl

refused_after : (v : Option ℕ) (k : Kind) (hosts : Option (ℕ × ℕ)) (m n : ℕ) (body : List ℕ) (x : ℕ) (more : List ℕ) (fault : ReadFault) → after_header v k hosts m n body ≡ Err fault → after_header v k hosts m n (body ++ x ∷ more) ≡ Err fault
unfolding after_header
refused_after v k hosts m n body x more fault h =
    let longer = body ++ x ∷ more in
    let len : length longer ≡ length body + suc (length more) = length-append body (x ∷ more) in
    stays (ltb (limit_of v) n) (may_have k n) (move_fits k m) (hosts_fit hosts) (ltb (length body) n) (ltb n (length body)) (with_hosts hosts (contents k m body)) (ltb (length longer) n) (ltb n (length longer)) (whole (with_hosts hosts (contents k m longer))) fault h
    (λ e. let le : n ≤ length body = ltb-false _ _ e in (le-ltb _ _ (omega (arith, len, le)), is_lt n (length longer) (omega (arith, len, le))))

-- ---- the kind

pub at_kind_is : (v : Option ℕ) (o : Option Kind) (k : Kind) (bytes : List ℕ) (h : Option Header) → o ≡ Some k → stands v k ≡ true → header_at (names_hosts v) bytes ≡ h → at_kind v o bytes ≡ at_header v k h
at_kind_is v o k bytes h eo s e = rw (eo, s, e) refl

stood : (b : Bool) (r answer : Verdict) → ((Err BadFrame ≡ answer) → ⊥) → cond b r (Err BadFrame) ≡ answer → (b ≡ true) × (r ≡ answer)
stood true r answer other h = (refl, h)
stood false r answer other h = absurd (other h)

not_ok : {o : Option Received} {e : ReadFault} → Err e ≡ Ok o → ⊥
not_ok h = cc

-- the kind and the rest of bytes that are not refused
pub record Stood (v : Option ℕ) (o : Option Kind) (bytes : List ℕ) (answer : Verdict) : Type 0 where
  pub k : Kind
  pub named : o ≡ Some k
  pub may : stands v k ≡ true
  pub header : at_header v k (header_at (names_hosts v) bytes) ≡ answer

pub stood_is : (v : Option ℕ) (o : Option Kind) (bytes : List ℕ) (x : Option Received) → at_kind v o bytes ≡ Ok x → Stood v o bytes (Ok x)
stood_is v None bytes x h = absurd (not_ok h)
stood_is v (Some k) bytes x h =
    let t = stood (stands v k) (at_header v k (header_at (names_hosts v) bytes)) (Ok x) (λ e. not_ok e) h in
    record { k = k; named = refl; may = t.0; header = t.1 }

-- ---- whole frames

joined : (h h' : Option (ℕ × ℕ)) (m m' n n' : ℕ) (b b' : List ℕ) → h ≡ h' → m ≡ m' → n ≡ n' → b ≡ b' → hosts_bytes h ++ (little_bytes 8 m ++ (little_bytes 4 n ++ b)) ≡ hosts_bytes h' ++ (little_bytes 8 m' ++ (little_bytes 4 n' ++ b'))
joined h h' m m' n n' b b' o p q r = cc

take_header : (v : Option ℕ) (b : ℕ) (bytes : List ℕ) (x : Received) (k : Kind) (o : Option Header) → IsBytes bytes → b ≡ byte_of k → stands v k ≡ true → header_at (names_hosts v) bytes ≡ o → at_header v k o ≡ Ok (Some x) → HasSpelling x × MayStand v x × (b ∷ bytes ≡ spelling x)
take_header v b bytes x k None fits code may e h = absurd cc
take_header v b bytes x k (Some y) fits code may e h =
    let header = header_is (names_hosts v) bytes y e in
    let p = behind_is v k y.0 y.1 y.2 y.3 x h in
    let r = contents_take k y.1 y.3 x.1 (header.body fits) p.read in
    let move = r.move_is p.moves in
    let fits_move : move_fits (kind_of x.1) (move_of x.1) ≡ true = rw (r.kind_is, move) p.moves in
    let len : y.2 ≡ length (body_of x.1) = sym p.len ∙ ap (λ (z : List ℕ). length z) r.body_is in
    let head : b ≡ byte_of (kind_of x.1) = code ∙ ap byte_of (sym r.kind_is) in
    let tail : bytes ≡ hosts_bytes x.0 ++ (little_bytes 8 (move_of x.1) ++ (little_bytes 4 (length (body_of x.1)) ++ body_of x.1)) = header.parts fits ∙ joined y.0 x.0 y.1 (move_of x.1) y.2 (length (body_of x.1)) y.3 (body_of x.1) p.from (sym move) len r.body_is in
    let small = p.small in
    let fit : hosts_fit x.0 ≡ true = rw (← p.from) p.fit in
    let named : is_some x.0 ≡ names_hosts v = rw (← p.from) header.are_named in
    (record { hosts = fit; move_number = fits_move; body = r.fits; body_length = omega (arith, len, small) }, (rw r.kind_is may, named), cc)

-- a whole frame is spelled so, and may stand there
pub verdict_take : (v : Option ℕ) (bytes : List ℕ) (x : Received) → IsBytes bytes → verdict v bytes ≡ Ok (Some x) → HasSpelling x × MayStand v x × (bytes ≡ spelling x)
verdict_take v [] x fits h = absurd cc
verdict_take v (b ∷ bytes) x fits h =
    let s = stood_is v (kind_at b) bytes (Some x) h in
    take_header v b bytes x s.k (header_at (names_hosts v) bytes) (λ i. fits (suc i)) (kind_byte b s.k s.named) s.may refl s.header

-- the header of a frame's spelling, and whatever stands after it
spelled_header : (named : Bool) (x : Received) (body : List ℕ) → HasSpelling x → is_some x.0 ≡ named → header_at named (hosts_bytes x.0 ++ (little_bytes 8 (move_of x.1) ++ (little_bytes 4 (length (body_of x.1)) ++ body))) ≡ Some (x.0, move_of x.1, length (body_of x.1), body)
spelled_header named x body fits is =
    let small = fits.body_length in
    header_again named x.0 (move_of x.1) (length (body_of x.1)) body is fits.hosts (move_below (kind_of x.1) (move_of x.1) fits.move_number) (omega (arith, small))

-- bytes that begin as the spelling of a frame that may stand there are told by what stands after its header
spelled_is : (v : Option ℕ) (x : Received) (body : List ℕ) → HasSpelling x → MayStand v x → verdict v (byte_of (kind_of x.1) ∷ (hosts_bytes x.0 ++ (little_bytes 8 (move_of x.1) ++ (little_bytes 4 (length (body_of x.1)) ++ body)))) ≡ after_header v (kind_of x.1) x.0 (move_of x.1) (length (body_of x.1)) body
spelled_is v x body fits stand = at_kind_is v (kind_at (byte_of (kind_of x.1))) (kind_of x.1) _ (Some (x.0, move_of x.1, length (body_of x.1), body)) (kind_is_at (kind_of x.1)) stand.0 (spelled_header (names_hosts v) x body fits stand.1)

-- what is spelled so is a whole frame
pub verdict_again : (v : Option ℕ) (x : Received) → HasSpelling x → MayStand v x → verdict v (spelling x) ≡ Ok (Some x)
verdict_again v x fits stand =
    let has = length_fits x.1 fits.body in
    spelled_is v x (body_of x.1) fits stand
    ∙ behind_again v (kind_of x.1) (move_of x.1) (body_of x.1) x (within_limit v (kind_of x.1) (length (body_of x.1)) stand.0 has fits.body_length) has fits.move_number fits.hosts (contents_again x.1 fits.body)

pub whole_frame : (v : Option ℕ) (bytes : List ℕ) (x : Received) → IsBytes bytes → (verdict v bytes ≡ Ok (Some x)) ↔ (HasSpelling x × MayStand v x × (bytes ≡ spelling x))
whole_frame v bytes x fits = (λ h. verdict_take v bytes x fits h, λ s. ap (verdict v) s.2 ∙ verdict_again v x s.0 s.1)

-- the spelling of a frame with more bytes after it
spelled_more : (x : Received) (more : List ℕ) → spelling x ++ more ≡ byte_of (kind_of x.1) ∷ (hosts_bytes x.0 ++ (little_bytes 8 (move_of x.1) ++ (little_bytes 4 (length (body_of x.1)) ++ (body_of x.1 ++ more))))
spelled_more x more = ap (λ (b : List ℕ). byte_of (kind_of x.1) ∷ b) (append_assoc (hosts_bytes x.0) (little_bytes 8 (move_of x.1) ++ (little_bytes 4 (length (body_of x.1)) ++ body_of x.1)) more)

-- a whole frame, and what goes on after one, is no beginning
pub whole_or_past : (v : Option ℕ) (x : Received) (more : List ℕ) → HasSpelling x → MayStand v x → verdict v (spelling x ++ more) ≡ Ok None → ⊥
whole_or_past v x more fits stand h =
    let w = waits_is v (kind_of x.1) x.0 (move_of x.1) (length (body_of x.1)) (body_of x.1 ++ more) (sym (spelled_is v x (body_of x.1 ++ more) fits stand) ∙ sym (ap (verdict v) (spelled_more x more)) ∙ h) in
    omega (arith, w.short, length-append (body_of x.1) more)

-- ---- beginnings

begins_header : (v : Option ℕ) (x : Received) (bytes more : List ℕ) (o : Option Header) → HasSpelling x → MayStand v x → bytes ++ more ≡ hosts_bytes x.0 ++ (little_bytes 8 (move_of x.1) ++ (little_bytes 4 (length (body_of x.1)) ++ body_of x.1)) → 0 < length more → header_at (names_hosts v) bytes ≡ o → at_kind v (kind_at (byte_of (kind_of x.1))) bytes ≡ Ok None
begins_header v x bytes more None fits stand same some e = at_kind_is v (kind_at (byte_of (kind_of x.1))) (kind_of x.1) bytes None (kind_is_at (kind_of x.1)) stand.0 e
begins_header v x bytes more (Some h) fits stand same some e =
    let far : ◌≡◌ {A = Option Header} (Some (h.0, h.1, h.2, h.3 ++ more)) (Some (x.0, move_of x.1, length (body_of x.1), body_of x.1)) = sym ((header_is (names_hosts v) bytes h e).more more) ∙ ap (header_at (names_hosts v)) same ∙ spelled_header (names_hosts v) x (body_of x.1) fits stand.1 in
    let parts : ◌≡◌ {A = Header} (h.0, h.1, h.2, h.3 ++ more) (x.0, move_of x.1, length (body_of x.1), body_of x.1) = some_is _ _ far in
    let h-is : h.0 ≡ x.0 = ap (λ (y : Header). y.0) parts in
    let m-is : h.1 ≡ move_of x.1 = ap (λ (y : Header). y.1) parts in
    let n-is : h.2 ≡ length (body_of x.1) = ap (λ (y : Header). y.2) parts in
    let b-is : h.3 ++ more ≡ body_of x.1 = ap (λ (y : Header). y.3) parts in
    let short : length h.3 < h.2 = omega (arith, n-is, some, length-append h.3 more, ap (λ (y : List ℕ). length y) b-is) in
    let has : may_have (kind_of x.1) h.2 ≡ true = rw n-is (length_fits x.1 fits.body) in
    let move : move_fits (kind_of x.1) h.1 ≡ true = rw m-is fits.move_number in
    let fit : hosts_fit h.0 ≡ true = rw h-is fits.hosts in
    let small = fits.body_length in
    at_kind_is v (kind_at (byte_of (kind_of x.1))) (kind_of x.1) bytes (Some h) (kind_is_at (kind_of x.1)) stand.0 e
    ∙ wait_again v (kind_of x.1) h.0 h.1 h.2 h.3 (within_limit v (kind_of x.1) h.2 stand.0 has (omega (arith, small, n-is))) has move fit short

-- a beginning of a frame that may stand there is no whole frame and not refused
pub verdict_begin : (v : Option ℕ) (bytes more : List ℕ) (x : Received) → HasSpelling x → MayStand v x → bytes ++ more ≡ spelling x → 0 < length more → verdict v bytes ≡ Ok None
verdict_begin v [] more x fits stand same some = refl
verdict_begin v (b ∷ bytes) more x fits stand same some =
    let head : b ≡ byte_of (kind_of x.1) = cc in
    let tail : bytes ++ more ≡ hosts_bytes x.0 ++ (little_bytes 8 (move_of x.1) ++ (little_bytes 4 (length (body_of x.1)) ++ body_of x.1)) = cc in
    ap (λ (y : ℕ). at_kind v (kind_at y) bytes) head ∙ begins_header v x bytes more (header_at (names_hosts v) bytes) fits stand tail some refl

not_both : {e : ReadFault} {o : Option Received} → Ok o ≡ Err e → ⊥
not_both h = cc

-- what is refused begins no frame that may stand there
pub nothing_begins : (v : Option ℕ) (bytes more : List ℕ) (x : Received) (e : ReadFault) → verdict v bytes ≡ Err e → HasSpelling x → MayStand v x → bytes ++ more ≡ spelling x → ⊥
nothing_begins v bytes [] x e h fits stand same = not_both (sym (verdict_again v x fits stand) ∙ ap (verdict v) (sym same ∙ append-nil bytes) ∙ h)
nothing_begins v bytes (y ∷ more) x e h fits stand same = not_both (sym (verdict_begin v bytes (y ∷ more) x fits stand same (omega arith)) ∙ h)

-- ---- what is refused stays refused

refused_header : (v : Option ℕ) (k : Kind) (bytes : List ℕ) (x : ℕ) (more : List ℕ) (o : Option Header) (fault : ReadFault) → header_at (names_hosts v) bytes ≡ o → at_header v k o ≡ Err fault → at_header v k (header_at (names_hosts v) (bytes ++ x ∷ more)) ≡ Err fault
refused_header v k bytes x more None fault e h = absurd cc
refused_header v k bytes x more (Some p) fault e h = ap (at_header v k) ((header_is (names_hosts v) bytes p e).more (x ∷ more)) ∙ refused_after v k p.0 p.1 p.2 p.3 x more fault h

refused_stood : (b : Bool) (r longer : Verdict) (fault : ReadFault) → (r ≡ Err fault → longer ≡ Err fault) → cond b r (Err BadFrame) ≡ Err fault → cond b longer (Err BadFrame) ≡ Err fault
refused_stood true r longer fault goes h = goes h
refused_stood false r longer fault goes h = h

refused_kind : (v : Option ℕ) (o : Option Kind) (bytes : List ℕ) (x : ℕ) (more : List ℕ) (fault : ReadFault) → at_kind v o bytes ≡ Err fault → at_kind v o (bytes ++ x ∷ more) ≡ Err fault
refused_kind v None bytes x more fault h = h
refused_kind v (Some k) bytes x more fault h =
    refused_stood (stands v k) (at_header v k (header_at (names_hosts v) bytes)) (at_header v k (header_at (names_hosts v) (bytes ++ x ∷ more))) fault (λ r. refused_header v k bytes x more (header_at (names_hosts v) bytes) fault refl r) h

pub refused_stays : (v : Option ℕ) (bytes more : List ℕ) (fault : ReadFault) → verdict v bytes ≡ Err fault → verdict v (bytes ++ more) ≡ Err fault
refused_stays v bytes [] fault h = ap (verdict v) (append-nil bytes) ∙ h
refused_stays v [] (x ∷ more) fault h = absurd (not_both h)
refused_stays v (b ∷ bytes) (x ∷ more) fault h = refused_kind v (kind_at b) bytes x more fault h

-- ---- no frame begins another

tail_is : (a b : ℕ) (xs ys : List ℕ) → a ∷ xs ≡ b ∷ ys → xs ≡ ys
tail_is a b xs ys e = cc

head_is : (a b : ℕ) (xs ys : List ℕ) → a ∷ xs ≡ b ∷ ys → a ≡ b
head_is a b xs ys e = cc

same_kind : (j k : Kind) → byte_of j ≡ byte_of k → j ≡ k
same_kind j k e = some_is j k (sym (kind_is_at j) ∙ ap kind_at e ∙ kind_is_at k)

same_frame : (f g : Frame) → body_fits f ≡ true → body_fits g ≡ true → kind_of f ≡ kind_of g → move_of f ≡ move_of g → body_of f ≡ body_of g → f ≡ g
same_frame f g hf hg k m b =
    some_is f g (sym (contents_again f hf) ∙ rw (k, m, b) (contents_again g hg))

same_received : (x y : Received) → x.0 ≡ y.0 → x.1 ≡ y.1 → x ≡ y
same_received x y p q = ap (λ (h : Option (ℕ × ℕ)). (h, x.1)) p ∙ ap (λ (f : Frame). (y.0, f)) q

-- frames whose headers name hosts, or not, as their kinds say
pub no_prefix : (x y : Received) (xs ys : List ℕ) → HasSpelling x → HasSpelling y → (kind_of x.1 ≡ kind_of y.1 → is_some x.0 ≡ is_some y.0) → spelling x ++ xs ≡ spelling y ++ ys → (x ≡ y) × (xs ≡ ys)
no_prefix x y xs ys hx hy alike e =
    let all = sym (spelled_more x xs) ∙ e ∙ spelled_more y ys in
    let kind : kind_of x.1 ≡ kind_of y.1 = same_kind _ _ (head_is _ _ _ _ all) in
    let tails = tail_is _ _ _ _ all in
    let ax = spelled_header (is_some x.0) x (body_of x.1 ++ xs) hx refl in
    let ay = spelled_header (is_some x.0) y (body_of y.1 ++ ys) hy (sym (alike kind)) in
    let parts : ◌≡◌ {A = Header} (x.0, move_of x.1, length (body_of x.1), body_of x.1 ++ xs) (y.0, move_of y.1, length (body_of y.1), body_of y.1 ++ ys) = some_is _ _ (sym ax ∙ ap (header_at (is_some x.0)) tails ∙ ay) in
    let h-is : x.0 ≡ y.0 = ap (λ (z : Header). z.0) parts in
    let m-is : move_of x.1 ≡ move_of y.1 = ap (λ (z : Header). z.1) parts in
    let n-is : length (body_of x.1) ≡ length (body_of y.1) = ap (λ (z : Header). z.2) parts in
    let b-is : body_of x.1 ++ xs ≡ body_of y.1 ++ ys = ap (λ (z : Header). z.3) parts in
    let body : body_of x.1 ≡ body_of y.1 = sym (take_at (body_of x.1) xs (length (body_of x.1)) refl) ∙ ap (take (length (body_of x.1))) b-is ∙ take_at (body_of y.1) ys (length (body_of x.1)) (sym n-is) in
    let rest : xs ≡ ys = sym (drop_at (body_of x.1) xs (length (body_of x.1)) refl) ∙ ap (drop (length (body_of x.1))) b-is ∙ drop_at (body_of y.1) ys (length (body_of x.1)) (sym n-is) in
    (same_received x y h-is (same_frame x.1 y.1 hx.body hy.body kind m-is body), rest)

-- frames that may stand at one place of a stream
pub no_prefix_at : (v : Option ℕ) (x y : Received) (xs ys : List ℕ) → HasSpelling x → HasSpelling y → MayStand v x → MayStand v y → spelling x ++ xs ≡ spelling y ++ ys → (x ≡ y) × (xs ≡ ys)
no_prefix_at v x y xs ys hx hy sx sy e = no_prefix x y xs ys hx hy (λ _. sx.1 ∙ sym sy.1) e

some_if : (b : Bool) (h : ℕ × ℕ) → is_some (cond b (Some h) None) ≡ b
some_if true h = refl
some_if false h = refl

sent_names : (version : ℕ) (a : Addressed) → is_some (sent version a).0 ≡ names_hosts (known_at version a.frame)
sent_names version a = some_if (names_hosts (known_at version a.frame)) (a.from, a.to)

-- frames of a version
pub no_prefix_sent : (version : ℕ) (a b : Addressed) (xs ys : List ℕ) → HasSpelling (sent version a) → HasSpelling (sent version b) → spelling (sent version a) ++ xs ≡ spelling (sent version b) ++ ys → (sent version a ≡ sent version b) × (xs ≡ ys)
no_prefix_sent version a b xs ys ha hb e =
    no_prefix (sent version a) (sent version b) xs ys ha hb (λ k. sent_names version a ∙ ap (λ (j : Kind). names_hosts (cond (eqb (byte_of j) 0) None (Some version))) k ∙ sym (sent_names version b)) e

-- no kind but Hello has the byte 0
not_hello : (v : Option ℕ) (k : Kind) → is_some v ≡ true → stands v k ≡ true → eqb (byte_of k) 0 ≡ false
not_hello (Some v) kinds.Hello is s = absurd cc
not_hello None kinds.Hello is s = absurd cc
not_hello v kinds.Offer is s = refl
not_hello v kinds.Accept is s = refl
not_hello v kinds.Refuse is s = refl
not_hello v kinds.Page is s = refl
not_hello v kinds.RoundEnd is s = refl
not_hello v kinds.Lost is s = refl
not_hello v kinds.State is s = refl
not_hello v kinds.Ready is s = refl
not_hello v kinds.Go is s = refl
not_hello v kinds.Started is s = refl
not_hello v kinds.Abort is s = refl
not_hello v kinds.Zero is s = refl
not_hello v kinds.Part is s = refl

as_named : (b : Bool) (h : ℕ × ℕ) (hosts : Option (ℕ × ℕ)) → is_some hosts ≡ b → (hosts ≡ None) ⊎ (hosts ≡ Some h) → cond b (Some h) None ≡ hosts
as_named true h None is o = absurd cc
as_named true h (Some g) is (inl e) = absurd cc
as_named true h (Some g) is (inr e) = sym e
as_named false h None is o = refl
as_named false h (Some g) is o = absurd cc

-- a frame that may stand in a stream of a version is sent as it stands there
pub sent_as_read : (version : ℕ) (a : Addressed) (hosts : Option (ℕ × ℕ)) → MayStand (Some version) (hosts, a.frame) → (hosts ≡ None) ⊎ (hosts ≡ Some (a.from, a.to)) → sent version a ≡ (hosts, a.frame)
sent_as_read version a hosts stand are =
    let known : known_at version a.frame ≡ Some version = ap (λ (b : Bool). cond b None (Some version)) (not_hello (Some version) (kind_of a.frame) refl stand.0) in
    ap (λ (h : Option (ℕ × ℕ)). (h, a.frame)) (ap (λ (v : Option ℕ). cond (names_hosts v) (Some (a.from, a.to)) None) known ∙ as_named (names_hosts (Some version)) (a.from, a.to) hosts stand.1 are)

-- ---- how many bytes the next check needs

more_header : (v : Option ℕ) (b : ℕ) (k : Kind) (bytes xs : List ℕ) (o : Option Header) → header_at (names_hosts v) bytes ≡ o → kind_at b ≡ Some k → stands v k ≡ true → at_header v k o ≡ Ok None → suc (length (bytes ++ xs)) < wanted_after (names_hosts v) o → at_kind v (kind_at b) (bytes ++ xs) ≡ Ok None
more_header v b k bytes xs None e ek s h lt = at_kind_is v (kind_at b) k (bytes ++ xs) None ek s (header_short (names_hosts v) (bytes ++ xs) lt)
more_header v b k bytes xs (Some x) e ek s h lt =
    let header = header_is (names_hosts v) bytes x e in
    let w = waits_is v k x.0 x.1 x.2 x.3 h in
    let longer : length (x.3 ++ xs) < x.2 = omega (arith, lt, header.len, length-append bytes xs, length-append x.3 xs) in
    at_kind_is v (kind_at b) k (bytes ++ xs) (Some (x.0, x.1, x.2, x.3 ++ xs)) ek s (header.more xs) ∙ w.other (x.3 ++ xs) longer

-- before the next check's last byte nothing is decided
pub not_yet : (v : Option ℕ) (bytes xs : List ℕ) → verdict v bytes ≡ Ok None → length (bytes ++ xs) < wanted (names_hosts v) bytes → verdict v (bytes ++ xs) ≡ Ok None
not_yet v [] [] h lt = refl
not_yet v [] (x ∷ xs) h lt = absurd (omega (arith, lt))
not_yet v (b ∷ bytes) xs h lt =
    let s = stood_is v (kind_at b) bytes None h in
    more_header v b s.k bytes xs (header_at (names_hosts v) bytes) refl s.named s.may s.header lt

wants_header : (v : Option ℕ) (k : Kind) (bytes : List ℕ) (o : Option Header) → header_at (names_hosts v) bytes ≡ o → at_header v k o ≡ Ok None → suc (length bytes) < wanted_after (names_hosts v) o
wants_header v k bytes None e h = header_none (names_hosts v) bytes e
wants_header v k bytes (Some x) e h = let w = waits_is v k x.0 x.1 x.2 x.3 h in omega (arith, w.short, (header_is (names_hosts v) bytes x e).len)

pub wants_more : (v : Option ℕ) (bytes : List ℕ) → verdict v bytes ≡ Ok None → length bytes < wanted (names_hosts v) bytes
wants_more v [] h = omega arith
wants_more v (b ∷ bytes) h = let s = stood_is v (kind_at b) bytes None h in wants_header v s.k bytes (header_at (names_hosts v) bytes) refl s.header
