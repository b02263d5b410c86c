-- Each chain stands beside those before it, at places of its own.
use Rattle.std.proofs.Common.{◌≡◌, ◌∙◌, ℕ, ◌<◌, List, Option, Some, None, refl, get_or, ap, sym, subst, arith}
use Rattle.std.specs.List.{AllByRecursion}
use Rattle.disk_model.specs.DiskLaws.{TellsImage}
use Rattle.disk_model.proofs.Moments.{and_then, weakened, at_end, keeps_on}
use Rattle.page_tree.specs.Chains.{pointer_or_null}
use Rattle.page_tree.specs.ChainWrites.{ChainLeaves, MayTouchAll, Written, chain_of}
use Rattle.std.specs.Prelude.{slice_set, unwrap_or}
use Rattle.page_tree.specs.Pointers.{null_pointer}
use Rattle.page_tree.specs.declared.pointer.PagePtr.{PagePtr}
use Rattle.table_state.specs.Sealed.{ChainPart, places_in}
use Rattle.txg_sync.proofs.Parts.{part_below, part_leaves, part_touched, part_held, root_set, all_at}
use Rattle.txg_sync.proofs.store.write_parts.Goals as goal

-- the pointer of a chain that may have none
unwrapped : (root : Option PagePtr) → unwrap_or root null_pointer ≡ pointer_or_null root
unwrapped None = refl
unwrapped (Some pointer) = refl

pub write_chain-requires-clause-within : goal.write_chain-requires-clause-within
write_chain-requires-clause-within g c κs outlives k d within =
    let part : ChainPart = c.index-parts-i.result in
    let places : c.as_slice-in-chains.result.now ≡ part.places = c.as_slice-in-chains.ensures
    ∙ ap (λ (q : ChainPart). q.places) c.part.view_is in
    let below = part_below c.args.parts.now c.chains.i part c.chains-test.true c.index-parts-i.is (g.D.Disk.state c.args.disk.now).sectors
    c.requires.places in
    let all = subst (λ (ps : List ℕ). AllByRecursion (λ place. place < (g.D.Disk.state c.args.disk.now).sectors) ps) (sym places) below in
    subst (λ n. get_or c.as_slice-in-chains.result.now k d < n) (sym c.chains.invariant.0.sectors)
    (all_at (λ place. place < (g.D.Disk.state c.args.disk.now).sectors) c.as_slice-in-chains.result.now all k d within)

pub returns-in_err-root-clause-touched : goal.returns-in_err-root-clause-touched
returns-in_err-root-clause-touched g c =
    let part : ChainPart = c.index-parts-i.result in
    let places : c.as_slice-in-chains.result.now ≡ part.places = c.as_slice-in-chains.ensures
    ∙ ap (λ (q : ChainPart). q.places) c.part.view_is in
    part_touched c.args.parts.now c.chains.i part c.chains-test.true c.index-parts-i.is (g.D.Disk.state c.args.disk.now).sectors
    c.requires.places _ _ _ c.chains.invariant.3
    (subst (λ (ps : List ℕ). MayTouchAll (g.D.Disk.state c.chains.disk).seen (g.D.Disk.state c.write_chain.new.disk).seen ps) places
    c.write_chain.ensures.touched)

pub returns-in_err-root-clause-any_moment : goal.returns-in_err-root-clause-any_moment
returns-in_err-root-clause-any_moment g c =
    let part : ChainPart = c.index-parts-i.result in
    let places : c.as_slice-in-chains.result.now ≡ part.places = c.as_slice-in-chains.ensures
    ∙ ap (λ (q : ChainPart). q.places) c.part.view_is in
    let P = ChainLeaves (places_in c.args.parts.now) (g.D.Disk.state c.args.disk.now).may_leave in
    let leaves = part_leaves c.args.parts.now c.chains.i part c.chains-test.true c.index-parts-i.is (g.D.Disk.state c.args.disk.now).sectors
    c.requires.places (g.D.Disk.state c.args.disk.now).may_leave (g.D.Disk.state c.chains.disk).may_leave c.chains.invariant.5 in
    and_then c.chains.invariant.4
    (weakened P c.write_chain.ensures.any_moment
    (λ c' from. leaves c' (subst (λ (ps : List ℕ). ChainLeaves ps (g.D.Disk.state c.chains.disk).may_leave c') places from)))

pub chains-preserved : goal.chains-preserved
chains-preserved g c =
    let part : ChainPart = c.index-parts-i.result in
    let places : c.as_slice-in-chains.result.now ≡ part.places = c.as_slice-in-chains.ensures
    ∙ ap (λ (q : ChainPart). q.places) c.part.view_is in
    let records : c.as_slice.result.now ≡ part.records = c.as_slice.ensures ∙ ap (λ (q : ChainPart). q.records) c.part.view_is in
    let sectors : ℕ = (g.D.Disk.state c.args.disk.now).sectors in
    let tells = subst (λ n. TellsImage n (g.D.Disk.state c.args.disk.now).seen) c.sectors-sectors.ensures.count
    c.sectors-sectors.ensures.told in
    let P = ChainLeaves (places_in c.args.parts.now) (g.D.Disk.state c.args.disk.now).may_leave in
    let leaves = part_leaves c.args.parts.now c.chains.i part c.chains-test.true c.index-parts-i.is sectors c.requires.places
    (g.D.Disk.state c.args.disk.now).may_leave (g.D.Disk.state c.chains.disk).may_leave c.chains.invariant.5 in
    let touched = subst (λ (ps : List ℕ). MayTouchAll (g.D.Disk.state c.chains.disk).seen (g.D.Disk.state c.write_chain.new.disk).seen ps)
    places c.write_chain.ensures.touched in
    let written = subst (λ (rs : List (List ℕ)). Written (g.D.Disk.state c.chains.disk).seen (g.D.Disk.state c.write_chain.new.disk).seen
    (chain_of part.places rs).writes) records
    (subst (λ (ps : List ℕ). Written (g.D.Disk.state c.chains.disk).seen (g.D.Disk.state c.write_chain.new.disk).seen
    (chain_of ps c.as_slice.result.now).writes) places c.in_ok-root.ensures.written) in
    let root : c.in_ok-root.root ≡ (chain_of part.places part.records).root = c.in_ok-root.ensures.root
    ∙ ap (λ (ps : List ℕ). (chain_of ps c.as_slice.result.now).root) places
    ∙ ap (λ (rs : List (List ℕ)). (chain_of part.places rs).root) records in
    let all = and_then c.chains.invariant.4
    (weakened P c.write_chain.ensures.any_moment
    (λ c' from. leaves c' (subst (λ (ps : List ℕ). ChainLeaves ps (g.D.Disk.state c.chains.disk).may_leave c') places from))) in (
      keeps_on c.chains.invariant.0 c.write_chain.ensures.accounts.keeps,
      part_held c.args.parts.now c.chains.i part c.chains-test.true c.index-parts-i.is sectors c.requires.places _ _ _ tells
          c.chains.invariant.3 c.chains.invariant.1 touched written,
      ap (λ (r : PagePtr). slice_set c.chains.pointers c.chains.i r) (c.unwrap_or.ensures ∙ unwrapped c.in_ok-root.root)
          ∙ root_set c.args.parts.now c.chains.i part c.chains-test.true c.index-parts-i.is sectors c.requires.places c.args.pointers.now
          c.chains.pointers c.in_ok-root.root (omega (arith, c.requires.few, c.told-pointers)) c.chains.invariant.2 root,
      part_touched c.args.parts.now c.chains.i part c.chains-test.true c.index-parts-i.is sectors c.requires.places _ _ _
          c.chains.invariant.3 touched,
      all,
      at_end all c.crash_laws-in-chains.ensures.here,
    )
