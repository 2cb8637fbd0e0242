use Rattle.std.proofs.Common.{◌≡◌, true, refl, arith}
use Rattle.atlas_model.specs.Pixels.{options_of}
use Rattle.atlas_store.specs.Slots.Links.{lists_without, with_mark}
use Rattle.atlas_store.specs.Slots.{nodes}
use Rattle.atlas_store.specs.Stored.{places_of}
use Rattle.atlas_store.specs.Store.Holdings.{shelf_of}
use Rattle.atlas_store.proofs.StoreLemmas.StoreFacts.{are-slots, across-call}
use Rattle.atlas_store.proofs.StoreLemmas.StoreSteps.{all-exact, listed-holds, long-over}
use Rattle.atlas_store.proofs.StoreLemmas.TakenOnce.{once-same}
use Rattle.atlas_store.proofs.store.Store.unlist.Goals as goal

pub unlist-requires-clause-exact : goal.unlist-requires-clause-exact
unlist-requires-clause-exact g c =
    all-exact (shelf_of c.args.self.now) c.deref_mut.result.now c.requires.ready.0 c.deref_mut.ensures.value c.requires.ready.1

pub unlist-requires-clause-few : goal.unlist-requires-clause-few
unlist-requires-clause-few g c small =
    omega (arith, c.args.self.now.room small, c.deref_mut.ensures.len, c.args.self.now.slots.ok)

pub returns : goal.returns
returns g c =
    let slots = are-slots c.args.self.now c.deref_mut.ensures.value c.deref_mut.ensures.len c.unlist.auto.slots in
    let same = across-call (λ a b. nodes b ≡ nodes a) slots c.unlist.ensures.same_nodes in
    record {
      kept = λ h holds listed. (
        lists_without h.free_lists c.args.at.number,
        listed-holds (shelf_of c.args.self.now) c.deref_mut.result.now c.unlist.new.slots _ c.unlist.new.lists.heads c.unlist.new.recent h
            (lists_without h.free_lists c.args.at.number) (with_mark h.detached c.args.at.number true) slots c.unlist.ensures.same_nodes
            (λ filed. c.unlist.ensures.filed (options_of c.args.self.now.options) c.args.self.now.unused (places_of (λ i. 0) h) filed
            listed)
            (c.unlist.ensures.recent (places_of (λ i. 0) h) holds.is_recent) holds,
      );
      nodes = same;
      slots = long-over _ _ _ _ slots;
      takes = record { options = refl; capacity = refl; turns = refl; once = once-same same };
    }
