use Rattle.rvm_asm.specs.LineViews.{names_of}
use Rattle.rvm_asm.proofs.assembler.assemble_lines.Goals as goal

pub returns-clause-image : goal.returns-clause-image
returns-clause-image c = (
  names_of c.in_ok-layout.layout.symbols,
  c.in_ok-layout.layout.places.items,
  c.in_ok-layout.ensures.laid,
  rw c.deref-2.ensures.value at c.in_ok-segments.ensures.image,
  c.entry-entry.ensures,
)

pub returns-clause-few : goal.returns-clause-few
returns-clause-few c = (
  names_of c.in_ok-layout.layout.symbols,
  c.in_ok-layout.layout.places.items,
  c.in_ok-layout.ensures.laid,
  rw c.deref.ensures.value at c.in_ok-extents.ensures.few,
)
