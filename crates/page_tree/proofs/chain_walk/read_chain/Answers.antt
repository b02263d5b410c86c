-- Each page that belongs there is behind what was read so far, and any other is damage.
use Rattle.std.proofs.Common.{◌≡◌, ◌∙◌, ◌+◌, ◌-◌, ℕ, List, suc, ap, subst, sym, arith}
use Rattle.std.specs.Prelude.{IfSome}
use Rattle.disk_model.specs.Images.{Image}
use Rattle.page_tree.specs.Chains.{chain_in, next_in, is_open_to, pointer_or_null}
use Rattle.page_tree.specs.declared.pointer.PagePtr.{PagePtr}
use Rattle.page_tree.proofs.Walking.{Continues, told_start, told_end, told_damage, told_closed, told_wrong, told_step, count_within, page_digest, page_form}
use Rattle.page_tree.proofs.chain_walk.read_chain.Goals as goal

pub pages-init : goal.pages-init
pages-init g c =
    let told = (g.D.Disk.state c.args.disk.now).seen in
    let sectors = (g.D.Disk.state c.args.disk.now).sectors in
    let so : ℕ → PagePtr
    → Type 0 = λ most pointer. IfSome told
    (λ image. Continues image sectors
    (chain_in image sectors c.args.named.now.items c.args.root.now) most c.args.named.now.items c.args.out.now.items c.args.out.now.items
    pointer) in
    let all : sectors ≡ c.sectors-sectors.result - 0 = omega (arith, c.sectors-sectors.ensures.count) in
    let start = told_start told sectors c.args.named.now.items c.args.out.now.items c.args.root.now in (
      subst (so (c.sectors-sectors.result - 0)) (sym c.pointer_or_null-pointer.ensures)
          (subst (λ most. so most (pointer_or_null c.args.root.now)) all start),
      c.sectors-sectors.ensures.count,
      omega arith,
    )

pub returns-then-is_null_pointer-clause-read : goal.returns-then-is_null_pointer-clause-read
returns-then-is_null_pointer-clause-read g c =
    let told = (g.D.Disk.state c.args.disk.now).seen in
    let sectors = (g.D.Disk.state c.args.disk.now).sectors in
    let whole = λ (image : Image). chain_in image sectors c.args.named.now.items c.args.root.now in
    let most = c.sectors-sectors.result - (c.pages.counter + 1) in
    let left : c.sectors-sectors.result - c.pages.counter ≡ suc most = omega (arith, c.pages-test.true) in
    let here = subst (λ n. IfSome told
    (λ image. Continues image sectors (whole image) n c.pages.named.items c.args.out.now.items c.pages.out.items c.pages.pointer)) left
    c.pages.invariant.0 in
    told_end sectors most whole c.pages.named.items c.args.out.now.items c.pages.out.items c.pages.pointer told here
    (sym c.is_null_pointer.ensures ∙ c.if-is_null_pointer.true)

pub returns-then-not-is_open_to-clause-damaged : goal.returns-then-not-is_open_to-clause-damaged
returns-then-not-is_open_to-clause-damaged g c sector is =
    let told = (g.D.Disk.state c.args.disk.now).seen in
    let sectors = (g.D.Disk.state c.args.disk.now).sectors in
    let whole = λ (image : Image). chain_in image sectors c.args.named.now.items c.args.root.now in
    let most = c.sectors-sectors.result - (c.pages.counter + 1) in
    let left : c.sectors-sectors.result - c.pages.counter ≡ suc most = omega (arith, c.pages-test.true) in
    let here = subst (λ n. IfSome told
    (λ image. Continues image sectors (whole image) n c.pages.named.items c.args.out.now.items c.pages.out.items c.pages.pointer)) left
    c.pages.invariant.0 in
    told_damage sectors most whole c.pages.named.items c.args.out.now.items c.pages.out.items c.pages.pointer told here
    (sym c.is_null_pointer.ensures ∙ c.if-is_null_pointer.false)
    (told_closed told sectors c.pages.named.items c.pages.pointer
    (ap (λ n. is_open_to n c.pages.named.items c.pages.pointer.sector) (sym c.sectors-sectors.ensures.count) ∙ sym c.is_open_to.ensures
    ∙ c.if-not-is_open_to.true))

pub returns-then-not-is_page_of-clause-damaged : goal.returns-then-not-is_page_of-clause-damaged
returns-then-not-is_page_of-clause-damaged g c sector is =
    let told = (g.D.Disk.state c.args.disk.now).seen in
    let sectors = (g.D.Disk.state c.args.disk.now).sectors in
    let whole = λ (image : Image). chain_in image sectors c.args.named.now.items c.args.root.now in
    let most = c.sectors-sectors.result - (c.pages.counter + 1) in
    let left : c.sectors-sectors.result - c.pages.counter ≡ suc most = omega (arith, c.pages-test.true) in
    let here = subst (λ n. IfSome told
    (λ image. Continues image sectors (whole image) n c.pages.named.items c.args.out.now.items c.pages.out.items c.pages.pointer)) left
    c.pages.invariant.0 in
    told_damage sectors most whole c.pages.named.items c.args.out.now.items c.pages.out.items c.pages.pointer told here
    (sym c.is_null_pointer.ensures ∙ c.if-is_null_pointer.false)
    (told_wrong told sectors c.pages.named.items c.pages.pointer c.read.new.out c.in-Ok.ensures.bytes
    (sym c.is_page_of.ensures ∙ c.if-not-is_page_of.true))

pub take_records-requires : goal.take_records-requires
take_records-requires g c = count_within c.read.new.out (page_form _ _ (sym c.is_page_of.ensures ∙ c.if-not-is_page_of.false))

pub pages-preserved : goal.pages-preserved
pages-preserved g c =
    let told = (g.D.Disk.state c.args.disk.now).seen in
    let sectors = (g.D.Disk.state c.args.disk.now).sectors in
    let whole = λ (image : Image). chain_in image sectors c.args.named.now.items c.args.root.now in
    let most = c.sectors-sectors.result - (c.pages.counter + 1) in
    let left : c.sectors-sectors.result - c.pages.counter ≡ suc most = omega (arith, c.pages-test.true) in
    let here = subst (λ n. IfSome told
    (λ image. Continues image sectors (whole image) n c.pages.named.items c.args.out.now.items c.pages.out.items c.pages.pointer)) left
    c.pages.invariant.0 in
    let page = c.read.new.out in
    let tests = sym c.is_page_of.ensures ∙ c.if-not-is_page_of.false in
    let is_open = ap (λ n. is_open_to n c.pages.named.items c.pages.pointer.sector) (sym c.sectors-sectors.ensures.count)
    ∙ sym c.is_open_to.ensures ∙ c.if-not-is_open_to.false in
    let step =
    told_step told sectors most whole c.pages.named.items c.args.out.now.items c.pages.out.items c.take_records.new.out.items
    c.pages.pointer page here (sym c.is_null_pointer.ensures ∙ c.if-is_null_pointer.false) is_open c.in-Ok.ensures.bytes
    (page_digest _ _ tests) (page_form _ _ tests) c.in_ok-take_records.ensures.ok in
    let so : List ℕ → PagePtr
    → Type 0 = λ named pointer. IfSome told
    (λ image. Continues image sectors (whole image) most named c.args.out.now.items c.take_records.new.out.items pointer) in (
      subst (so c.append.new.named.items) (sym c.next_of-pointer.ensures)
          (subst (λ named. so named (next_in page)) (sym c.in_ok-append.ensures) step),
      c.sectors-sectors.ensures.count,
      omega (arith, c.pages.invariant.2, c.read.ensures.cause.later),
    )
