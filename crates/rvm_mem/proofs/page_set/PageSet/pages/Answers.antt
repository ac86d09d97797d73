use Rattle.std.proofs.Common.{length, ap, arith}
use Rattle.rvm_mem.proofs.Rows.{length-flags}
use Rattle.rvm_mem.proofs.page_set.PageSet.pages.Goals as goal

pub returns-clause-pages : goal.returns-clause-pages
returns-clause-pages c = omega (arith, ap length c.self.view_is, length-flags c.self.inside.pages c.self.inside.rows.items)
