use Rattle.std.proofs.Common.{◌≤◌, length}
use Rattle.rvm_audit.specs.Merging.{places_of}
use Rattle.rvm_audit.specs.Parts.{AllWait, Stands}
use Rattle.rvm_audit.proofs.merging.merge_all.Given as goal

abbrev pub invariant-loop-turn : goal.invariant-loop-turn
invariant-loop-turn l = record {
  stands : Stands l.parts l.places.items l.merge;
  made : l.merge.made ≤ l._turn;
  there : l.host ≤ length l.parts;
  waits : AllWait l.parts l.places.items (places_of l.merge.places) l.host;
}
