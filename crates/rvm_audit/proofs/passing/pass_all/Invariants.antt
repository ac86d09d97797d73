use Rattle.std.proofs.Common.{◌≤◌, length}
use Rattle.rvm_audit.specs.Passing.{AllBlocked, IsPassing}
use Rattle.rvm_audit.proofs.passing.pass_all.Given as goal

abbrev pub invariant-loop-turn : goal.invariant-loop-turn
invariant-loop-turn l = record {
  passing : IsPassing l.parts l.cuts l.places.items l.known;
  there : l.host ≤ length l.parts;
  blocked : AllBlocked l.parts l.cuts l.places.items l.known l.host;
}
