-- A guest that was made of values has these values.
use Rattle.std.proofs.Common.{◌≡◌, ℕ, zero, suc, ◌+◌, ◌<◌, Bool, false, List, [], ◌∷◌, None, Option, length, map, get_or, refl, ap, ◌∙◌, arith}
use Rattle.std.proofs.lemmas.List.{same_lists, get_or-map}
use Rattle.std.proofs.lemmas.List.FromFn.{get_or-map-range_with_len, length-map-range_with_len}
use Rattle.std.specs.List.{range_with_len}
use Rattle.rvm_hart.specs.declared.fields.HartFields.{HartFields}
use Rattle.rvm_hart.specs.Machine.{HartState}
use Rattle.rvm_hart.specs.Fields.{fields_of}
use Rattle.rvm_board.specs.Board.{new_hart}
use Rattle.rvm_board.specs.declared.part.HartPart.{HartPart}
use Rattle.rvm_board.specs.Guest.{Guest}
use Rattle.rvm_board.specs.Parts.{part_of}
use Rattle.rvm_board.specs.State.{State, guest_of, numbered, parts_of, state_of}

pub length-numbered : (h : ℕ) (ps : List HartPart) → length (numbered h ps) ≡ length ps
length-numbered h [] = refl
length-numbered h (p ∷ ps) = ap suc (length-numbered (h + 1) ps)

fields_at : (h : ℕ) (ps : List HartPart) (k : ℕ) (d : HartPart) (blank : HartState) → k < length ps → fields_of (get_or (numbered h ps) k blank) ≡ (get_or ps k d).fields
fields_at h [] k d blank lt = absurd (omega (arith, lt))
fields_at h (p ∷ ps) zero d blank lt = refl
fields_at h (p ∷ ps) (suc k) d blank lt = fields_at (h + 1) ps k d blank (omega (arith, lt))

same_part : (f f' : HartFields) (m m' : Bool) (t t' : ℕ) (r r' : Option ℕ) (b b' : Bool) → f ≡ f' → m ≡ m' → t ≡ t' → r ≡ r' → b ≡ b'
    → ◌≡◌ {A = HartPart} (record { fields = f; msip = m; mtimecmp = t; reserved = r; stopped = b }) (record { fields = f'; msip = m'; mtimecmp = t'; reserved = r'; stopped = b' })
same_part f f' m m' t t' r r' b b' p q u v x =
    let Made : HartFields → Bool → ℕ → Option ℕ → Bool → HartPart = λ f m t r b. record { fields = f; msip = m; mtimecmp = t; reserved = r; stopped = b } in
    ap (λ y. Made y m t r b) p ∙ ap (λ y. Made f' y t r b) q ∙ ap (λ y. Made f' m' y r b) u ∙ ap (λ y. Made f' m' t' y b) v ∙ ap (λ y. Made f' m' t' r' y) x

part_at : (ram : List ℕ) (s : State) (k : ℕ) (d : HartPart) → k < length s.harts → part_of k (guest_of ram s) ≡ get_or s.harts k d
part_at ram s k d lt =
    let p : HartPart = get_or s.harts k d in
    same_part _ p.fields _ p.msip _ p.mtimecmp _ p.reserved _ p.stopped
    (fields_at 0 s.harts k d (new_hart 0 0) lt)
    (get_or-map (λ (q : HartPart). q.msip) s.harts k d false lt)
    (get_or-map (λ (q : HartPart). q.mtimecmp) s.harts k d 0 lt)
    (get_or-map (λ (q : HartPart). q.reserved) s.harts k d None lt)
    (get_or-map (λ (q : HartPart). q.stopped) s.harts k d false lt)

pub parts_made : (ram : List ℕ) (s : State) → parts_of (guest_of ram s) ≡ s.harts
parts_made ram s =
    let g : Guest = guest_of ram s in
    let n : ℕ = length (numbered 0 s.harts) in
    let f : ℕ → HartPart = λ h. part_of h g in
    let long : n ≡ length s.harts = length-numbered 0 s.harts in
    same_lists (map f (range_with_len 0 n)) s.harts (length-map-range_with_len f 0 n ∙ long)
    (λ k d lt.
    let below : k < n = omega (arith, lt, length-map-range_with_len f 0 n) in
    get_or-map-range_with_len f 0 n k k d below (omega arith) ∙ part_at ram s k d (omega (arith, below, long)))

pub state_made : (ram : List ℕ) (s : State) → state_of (guest_of ram s) ≡ s
state_made ram s = ap (λ (ps : List HartPart). record s { harts = ps }) (parts_made ram s)
