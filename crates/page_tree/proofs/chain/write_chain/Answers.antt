-- Each page goes in front of what was written so far, and is one of the places.
use Rattle.std.proofs.Common.{◌≡◌, ◌<◌, ◌+◌, ◌-◌, ◌*◌, length, take, drop, ap, ◌∙◌, arith}
use Rattle.std.proofs.lemmas.List.{take_min}
use Rattle.disk_model.proofs.Moments.{and_then, weakened, at_end, keeps_on}
use Rattle.page_tree.specs.Chains.{page_records}
use Rattle.page_tree.specs.ChainWrites.{ChainLeaves}
use Rattle.page_tree.proofs.Chaining.{touched_last, touched_more, leaves_more, chain_step}
use Rattle.page_tree.proofs.chain.write_chain.Goals as goal

pub returns-in_err-write_page-clause-touched : goal.returns-in_err-write_page-clause-touched
returns-in_err-write_page-clause-touched g c =
    touched_last c.args.places.now (c.pages.left - 1)
    (omega (arith, c.pages.invariant.0, c.pages-test.true)) _ _ _ c.pages.invariant.3 c.in_err-write_page.ensures.touched

pub returns-in_err-write_page-clause-any_moment : goal.returns-in_err-write_page-clause-any_moment
returns-in_err-write_page-clause-any_moment g c =
    let inside : c.pages.left - 1 < length c.args.places.now = omega (arith, c.pages.invariant.0, c.pages-test.true) in
    let P = ChainLeaves c.args.places.now (g.D.Disk.state c.args.disk.now).may_leave in
    let page = weakened P c.write_page.ensures.any_moment
    (leaves_more c.args.places.now (c.pages.left - 1) inside (g.D.Disk.state c.args.disk.now).may_leave
    (g.D.Disk.state c.pages.disk).may_leave c.pages.invariant.5) in
    and_then c.pages.invariant.4 page

pub pages-preserved : goal.pages-preserved
pages-preserved g c =
    let inside : c.pages.left - 1 < length c.args.places.now = omega (arith, c.pages.invariant.0, c.pages-test.true) in
    let one_less : c.pages.left ≡ c.pages.left - 1 + 1 = omega (arith, c.pages-test.true) in
    let P = ChainLeaves c.args.places.now (g.D.Disk.state c.args.disk.now).may_leave in
    let page = weakened P c.write_page.ensures.any_moment
    (leaves_more c.args.places.now (c.pages.left - 1) inside (g.D.Disk.state c.args.disk.now).may_leave
    (g.D.Disk.state c.pages.disk).may_leave c.pages.invariant.5) in
    let behind = c.split_at.result.1.now in
    let cut : c.split_at-in-pages.result.0.now ≡ take page_records (drop (page_records * (c.pages.left - 1)) c.args.records.now) =
    c.split_at-in-pages.ensures.front ∙ ap (λ n. take n behind) c.min.ensures ∙ take_min page_records behind
    ∙ ap (take page_records) c.split_at.ensures.back in
    let all = and_then c.pages.invariant.4 page in (
      omega (arith, c.pages.invariant.0),
      keeps_on c.pages.invariant.1 c.write_page.ensures.accounts.keeps,
      chain_step c.args.places.now c.args.records.now c.pages.left
          (c.pages.left - 1) one_less inside _ _ _ c.pages.next _ c.in_ok-write_page.field-0 c.pages.invariant.2 cut
          c.in_ok-write_page.ensures.pointer c.in_ok-write_page.ensures.written,
      touched_more c.args.places.now (c.pages.left - 1) inside _ _ _ _ c.pages.invariant.3 c.in_ok-write_page.ensures.written,
      all,
      at_end all c.crash_laws-in-pages.ensures.here,
    )
