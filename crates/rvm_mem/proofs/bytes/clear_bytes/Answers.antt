use Rattle.std.proofs.Common.{ℕ, ◌+◌, ◌*◌, replicate, ap, sym, subst, ◌∙◌}
use Rattle.std.proofs.lemmas.List.{length-replicate}
use Rattle.rvm_mem.specs.Bytes.{replaced}
use Rattle.rvm_mem.specs.Pages.{byte_pages, mark_all}
use Rattle.rvm_mem.proofs.Zeros.{Marked, marked_more, zeros_more}
use Rattle.rvm_mem.proofs.bytes.clear_bytes.Goals as goal

pub loop-page-preserved : goal.loop-page-preserved
loop-page-preserved g c =
    let page = c.loop-page.page in
    let log = g.M.Memory.dirty c.loop-page.memory in
    let old = g.M.Memory.dirty c.args.memory.now in
    let marks = c.store_bytes.ensures.dirty ∙ ap (λ n. mark_all (byte_pages (4096 * page) n) log) (length-replicate {A = ℕ} 4096 0) in
    record {
      bytes =
          c.store_bytes.ensures.bytes
          ∙ ap (replaced (4096 * page) (replicate 4096 0)) c.loop-page.invariant.bytes
          ∙ zeros_more (g.M.Memory.bytes c.args.memory.now) page;
      dirty = subst (Marked (page + 1) old) (sym marks) (marked_more page old log c.loop-page.invariant.dirty);
    }
