-- Steps of harts in turn, one by one.
use Rattle.std.proofs.Common.{List, [], ◌++◌, Bool, true, false, ◌≡◌, ◌∙◌, ℕ, zero, suc, ◌+◌, ◌%◌, ◌<◌, length, get_or, Option, Some, None, refl, sym, ap, subst, arith}
use Rattle.std.proofs.lemmas.List.{length-set}
use Rattle.rvm_hart.specs.declared.outcome.Stepped.{Stepped}
use Rattle.rvm_board.specs.declared.event.BoardReply.TheVariants as reply
use Rattle.rvm_board.specs.declared.retiring.Retired.{Retired}
use Rattle.rvm_board.specs.Guest.{GuestState}
use Rattle.rvm_board.specs.Events.{Answered, reply_of, steps}
use Rattle.rvm_board.specs.Marks.{gone, none_stops}
use Rattle.rvm_board.specs.Retiring.{Ends, Retire, RetiresThen, stepped}
use Rattle.std.proofs.Math.Nat.{mod-add-mod, mod-lt}
use Rattle.rvm_mem.specs.Pages.{mark_all}
use Rattle.rvm_hart.specs.Step.{step}
use Rattle.rvm_hart.specs.Straight.{Steps}
use Rattle.rvm_hart.specs.Straight as straight
use Rattle.rvm_board.specs.Board.{machine_at}
use Rattle.rvm_board.proofs.Going.{Last, gone_none, last_of}
use Rattle.rvm_board.proofs.Turning.{mark_more}

-- one more
pub retire_more : (harts n turn h : ℕ) (old between new : GuestState) → Retire harts n turn old between
    → h ≡ (turn + n) % harts → h < length between.guest.board.harts → (steps h between.guest).reply ≡ reply.Retired
    → new ≡ stepped h between → Retire harts (suc n) turn old new
retire_more harts zero turn h old between new are at there said to =
    let same : h ≡ turn % harts = at ∙ ap (λ t. t % harts) (omega arith) in
    subst (λ k. (k < length old.guest.board.harts) × ((steps k old.guest).reply ≡ reply.Retired) × (new ≡ stepped k old)) same
    (subst (λ (g : GuestState). (h < length g.guest.board.harts) × ((steps h g.guest).reply ≡ reply.Retired) × (new ≡ stepped h g)) are (there, said, to))
retire_more harts (suc n) turn h old between new are at there said to =
    (are.0, are.1, retire_more harts n (turn + 1) h (stepped (turn % harts) old) between new are.2 (at ∙ ap (λ t. t % harts) (omega arith)) there said to)

-- none was made
pub none_retired : (harts turn count : ℕ) (g : GuestState) → RetiresThen harts turn count g g (record { count = 0; last = None })
none_retired harts turn count g = record { between = g; few = omega arith; fewer = λ is. cc; retired = refl; ends = refl }

-- all that were asked for
pub all_retired : (harts there turn count n : ℕ) (old new : GuestState) → harts ≡ there → Retire harts n turn old new
    → count ≡ n → RetiresThen there turn count old new (record { count = count; last = None })
all_retired harts there turn count n old new same are all = subst (λ k. RetiresThen k turn count old new (record { count = count; last = None })) same (record {
  between = new;
  few = omega arith;
  fewer = λ is. cc;
  retired = subst (λ k. Retire harts k turn old new) (sym all) are;
  ends = refl;
})

-- all but the last
pub last_ends : (harts there turn count n made h : ℕ) (old between new : GuestState) (s : Stepped) → harts ≡ there
    → Retire harts n turn old between
    → made ≡ n → n < count → h ≡ (turn + n) % harts → h < length between.guest.board.harts
    → (steps h between.guest).reply ≡ reply_of s → new ≡ stepped h between
    → RetiresThen there turn count old new (record { count = made; last = Some s })
last_ends harts there turn count n made h old between new s same are is less at within said to = subst (λ k. RetiresThen k turn count old new (record { count = made; last = Some s })) same (record {
  between = between;
  few = omega (arith, is, less);
  fewer = λ _. omega (arith, is, less);
  retired = subst (λ k. Retire harts k turn old between) (sym is) are;
  ends = subst (λ k. Ends k (Some s) between new) (at ∙ ap (λ k. (turn + k) % harts) (sym is)) (within, said, to);
})

-- the pages that were written are in the dirty log
pub record IsLogged (old new : List Bool) : Type 0 where
  pub pages : List ℕ
  pub log : new ≡ mark_all pages old

both_logged : (ps qs : List ℕ) (old between new : List Bool) → between ≡ mark_all ps old → new ≡ mark_all qs between
    → IsLogged old new
both_logged ps qs old between new first then =
    record { pages = ps ++ qs; log = then ∙ ap (mark_all qs) first ∙ sym (mark_more ps qs old) }

retire_logged : (harts n turn : ℕ) (old new : GuestState) → Retire harts n turn old new → IsLogged old.dirty new.dirty
retire_logged harts zero turn old new are = record { pages = []; log = ap (λ (g : GuestState). g.dirty) are }
retire_logged harts (suc n) turn old new are =
    let h : ℕ = turn % harts in
    let mid : GuestState = stepped h old in
    let rest = retire_logged harts n (turn + 1) mid new are.2 in
    both_logged (steps h old.guest).pages rest.pages old.dirty mid.dirty new.dirty refl rest.log

ends_logged : (h : ℕ) (o : Option Stepped) (old new : GuestState) → Ends h o old new → IsLogged old.dirty new.dirty
ends_logged h None old new are = record { pages = []; log = ap (λ (g : GuestState). g.dirty) are }
ends_logged h (Some s) old new are =
    record { pages = (steps h old.guest).pages; log = ap (λ (g : GuestState). g.dirty) are.2 }

pub logged : (harts turn count : ℕ) (old new : GuestState) (told : Retired) → RetiresThen harts turn count old new told
    → IsLogged old.dirty new.dirty
logged harts turn count old new told are =
    let first = retire_logged harts told.count turn old are.between are.retired in
    let then = ends_logged ((turn + told.count) % harts) told.last are.between new are.ends in
    both_logged first.pages then.pages old.dirty are.between.dirty new.dirty first.log then.log

-- with one hart, hart 0 has each next turn
pub next_of_one : (turn : ℕ) → 0 ≡ turn % 1
next_of_one turn = let less = mod-lt turn {m = 1} (omega arith) in omega (arith, less)

-- the hart after one
pub next_of : (harts turn n h : ℕ) → h ≡ (turn + n) % harts → (h + 1) % harts ≡ (turn + suc n) % harts
next_of harts turn n h is =
    let one : turn + n + 1 ≡ turn + suc n = omega arith in
    ap (λ k. (k + 1) % harts) is ∙ mod-add-mod (turn + n) harts 1 ∙ ap (λ k. k % harts) one

-- a guest and its dirty log after k steps of hart 0
abbrev gone_on : ℕ → GuestState → GuestState
gone_on k g =
    record { guest = gone 0 k g.guest; dirty = mark_all (straight.steps k (machine_at 0 g.guest.board)).pages g.dirty }

-- k more of hart 0
some_more : (k n turn : ℕ) (old between : GuestState) → Retire 1 n turn old between → 0 < length between.guest.board.harts
    → (0 < k → get_or between.guest.stopped 0 false ≡ false)
    → none_stops between.guest.breakpoints k (machine_at 0 between.guest.board) ≡ true
    → (straight.steps k (machine_at 0 between.guest.board)).retired ≡ true
    → Retire 1 (n + k) turn old (gone_on k between)
unfolding straight.steps
some_more zero n turn old between are inside stand stops retired =
    let same : between ≡ gone_on 0 between = λ i. record { guest = sym (gone_none 0 between.guest) i; dirty = between.dirty } in
    let all : n ≡ n + 0 = omega arith in
    subst (λ i. Retire 1 i turn old (gone_on 0 between)) all (subst (λ (x : GuestState). Retire 1 n turn old x) same are)
some_more (suc k) n turn old between are inside stand stops retired =
    let s : Steps = straight.steps k (machine_at 0 between.guest.board) in
    let none : get_or between.guest.stopped 0 false ≡ false = stand (omega arith) in
    let last : Last k 0 between.guest = last_of k 0 between.guest inside none retired stops in
    let so_far : Retire 1 (n + k) turn old (gone_on k between) = some_more k n turn old between are inside (λ some. none) last.stops last.retired in
    let to : gone_on (suc k) between ≡ stepped 0 (gone_on k between) =
    ap (λ (d : List Bool). record { guest = gone 0 (suc k) between.guest; dirty = d }) (mark_more s.pages (step s.machine).pages between.dirty)
    ∙ sym (ap (λ (t : Answered). record { guest = t.guest; dirty = mark_all t.pages (mark_all s.pages between.dirty) }) last.turned) in
    let all : suc (n + k) ≡ n + suc k = omega arith in
    subst (λ i. Retire 1 i turn old (gone_on (suc k) between)) all
    (retire_more 1 (n + k) turn 0 old (gone_on k between) (gone_on (suc k) between) so_far (next_of_one (turn + (n + k)))
    (omega (arith, inside, length-set between.guest.board.harts 0 s.machine.hart)) (ap (λ (t : Answered). t.reply) last.turned) to)

pub retire_straight : (k n m turn : ℕ) (old between new : GuestState) → Retire 1 n turn old between → 0 < length between.guest.board.harts
    → (0 < k → get_or between.guest.stopped 0 false ≡ false)
    → none_stops between.guest.breakpoints k (machine_at 0 between.guest.board) ≡ true
    → (straight.steps k (machine_at 0 between.guest.board)).retired ≡ true
    → new.guest ≡ gone 0 k between.guest → new.dirty ≡ mark_all (straight.steps k (machine_at 0 between.guest.board)).pages between.dirty
    → n + k ≡ m → Retire 1 m turn old new
retire_straight k n m turn old between new are inside stand stops retired left marked all =
    let is : gone_on k between ≡ new = λ i. record { guest = sym left i; dirty = sym marked i } in
    subst (λ i. Retire 1 i turn old new) all
    (subst (λ (x : GuestState). Retire 1 (n + k) turn old x) is (some_more k n turn old between are inside stand stops retired))
