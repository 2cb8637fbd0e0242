use Rattle.std.proofs.Common.{ℕ, ◌<◌, ◌≤◌, ◌≡◌, true, false, ap, sym, subst}
use Rattle.atlas_search.specs.Heaps.{tag_of}
use Rattle.atlas_search.specs.Tables.{is_used_at, CanHold}
use Rattle.atlas_store.specs.declared.slots.Ring.{Ring}
use Rattle.atlas_store.proofs.StoreLemmas.ListedSlots.{leaves, left, nodes-bare, tells}
use Rattle.atlas_store.proofs.slots.lists.unlist.Goals as goal

pub remove-rest-requires : goal.remove-rest-requires
remove-rest-requires g c =
    let k = c.requires.kept in
    leaves k.0 c.args.slots.now c.args.lists.now.heads c.args.at.number c.requires.free c.requires.exact c.requires.short k.1.unused
    k.1.places
    k.1.filed k.1.kept

pub set_top-requires : goal.set_top-requires
set_top-requires g c =
    let k = c.requires.kept in
    subst (λ (r : Ring). 4261412864 ≤ r.up.number → (n : ℕ) × (n < 2704) × (r.up.number ≡ tag_of n)
    × (is_used_at c.args.lists.now.heads n ≡ true)
    × (c.args.lists.now.is_grown ≡ false → CanHold c.args.lists.now.heads n c.remove-rest.result))
    (sym c.read_ring.ensures)
    (tells k.0 c.args.slots.now c.args.lists.now.heads c.args.at.number c.requires.free c.requires.exact c.requires.short k.1.unused
    k.1.places
    k.1.filed k.1.kept c.args.lists.now.is_grown c.requires.few c.remove-rest.new.entries c.remove-rest.result
    c.remove-rest.ensures.removed c.remove-rest.auto.entries)

pub returns-clause-filed : goal.returns-clause-filed
returns-clause-filed g c o unused p filed kept =
    left o c.args.slots.now c.args.lists.now.heads c.args.at.number c.requires.free c.requires.exact c.requires.short unused p filed kept
    c.remove-rest.new.entries c.set_top.new.lists.heads c.read_ring.result.up c.remove-rest.result
    (ap (λ (r : Ring). r.up) c.read_ring.ensures) c.remove-rest.ensures.removed c.remove-rest.ensures.bare c.remove-rest.auto.entries
    c.set_top.ensures.heads

pub returns-clause-same_nodes : goal.returns-clause-same_nodes
returns-clause-same_nodes g c = nodes-bare c.args.slots.now c.remove-rest.new.entries c.remove-rest.ensures.bare
