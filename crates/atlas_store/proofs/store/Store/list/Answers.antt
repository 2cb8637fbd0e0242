use Rattle.std.proofs.Common.{◌≡◌, false, refl, arith}
use Rattle.atlas_model.specs.Pixels.{options_of}
use Rattle.atlas_store.specs.Slots.{nodes, node_at}
use Rattle.atlas_search.specs.Bands.{list_of}
use Rattle.atlas_store.specs.Slots.Lists.{node_sides}
use Rattle.atlas_store.specs.Slots.Links.{with_mark}
use Rattle.atlas_search.specs.Numbers.{lists_with}
use Rattle.atlas_store.specs.Stored.{places_of}
use Rattle.atlas_store.specs.Store.Holdings.{shelf_of}
use Rattle.atlas_store.proofs.StoreLemmas.StoreFacts.{are-slots, across-call}
use Rattle.atlas_store.proofs.StoreLemmas.StoreSteps.{all-exact, listed-holds, long-over}
use Rattle.atlas_store.proofs.StoreLemmas.TakenOnce.{once-same}
use Rattle.atlas_store.proofs.store.Store.list.Goals as goal

pub enlist-requires-clause-exact : goal.enlist-requires-clause-exact
enlist-requires-clause-exact g c =
    let leaf = c.requires.1 in
    all-exact (shelf_of c.args.self.now) c.deref_mut.result.now c.requires.0 c.deref_mut.ensures.value leaf.holds

pub enlist-requires-clause-few : goal.enlist-requires-clause-few
enlist-requires-clause-few g c small =
    omega (arith, c.args.self.now.room small, c.deref_mut.ensures.len, c.args.self.now.slots.ok)

pub returns : goal.returns
returns g c =
    let slots = are-slots c.args.self.now c.deref_mut.ensures.value c.deref_mut.ensures.len c.enlist.auto.slots in
    let same = across-call (λ a b. nodes b ≡ nodes a) slots c.enlist.ensures.same_nodes in
    record {
      kept = λ h leaf.
          let sides = node_sides (node_at (nodes c.deref_mut.result.now) c.args.at.number) in
          let free_lists : _ = lists_with h.free_lists (list_of (options_of c.args.self.now.options) sides) c.args.at.number in (
            free_lists,
            listed-holds (shelf_of c.args.self.now) c.deref_mut.result.now c.enlist.new.slots _ c.enlist.new.lists.heads
                c.enlist.new.recent h
                free_lists
                (with_mark h.detached c.args.at.number false) slots c.enlist.ensures.same_nodes
                (λ filed. c.enlist.ensures.filed c.args.self.now.unused (places_of (λ i. 0) h) filed leaf.holds.is_recent leaf.detached)
                (c.enlist.ensures.recent (places_of (λ i. 0) h)) leaf.holds,
          );
      nodes = same;
      slots = long-over _ _ _ _ slots;
      takes = record { options = refl; capacity = refl; turns = refl; once = once-same same };
    }
