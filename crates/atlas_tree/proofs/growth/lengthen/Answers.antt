use Rattle.std.proofs.Common.{◌≡◌, sym, ◌∙◌, arith}
use Rattle.std.proofs.lemmas.Bool.{true≢false}
use Rattle.atlas_store.specs.declared.slots.NodeKind.TheVariants.{Free}
use Rattle.atlas_model.specs.Pixels.{sides_of}
use Rattle.atlas_store.specs.Store.Holdings.{shelf_of, node_in}
use Rattle.atlas_tree.proofs.PlanLemmas.GrownSlots.{end-slot, stretch-ready, stretch-list, stretch-lengthened, append-ready, append-list}
use Rattle.atlas_tree.proofs.PlanLemmas.GrownSlots.{append-lengthened}
use Rattle.atlas_store.proofs.StoreLemmas.TakenOnce.{only-takes}
use Rattle.atlas_tree.proofs.growth.lengthen.Goals as goal

pub is_free-requires-clause-slot : goal.is_free-requires-clause-slot
is_free-requires-clause-slot g c =
    let t = c.requires.ready in
    end-slot (shelf_of c.args.store.now) (sides_of c.args.size) t.1 c.args.last.number t.0 t.3.holds t.3.end

pub stretch-requires-clause-ready : goal.stretch-requires-clause-ready
stretch-requires-clause-ready g c = stretch-ready c.requires.ready.3 (c.is_free.ensures.0 c.if-is_free.true) c.unlist.ensures

pub list-requires : goal.list-requires
list-requires g c =
    stretch-list c.requires.ready.3 (c.is_free.ensures.0 c.if-is_free.true) c.unlist.ensures c.stretch.ensures

pub append-strip-requires-clause-ready : goal.append-strip-requires-clause-ready
append-strip-requires-clause-ready g c = grind (arith, true≢false, append-ready)

pub list-requires-else-is_free : goal.list-requires-else-is_free
list-requires-else-is_free g c =
    let busy : (node_in (shelf_of c.args.store.now) c.args.last.number).kind ≡ Free → ⊥ =
    (λ f. true≢false (sym (c.is_free.ensures.1 f) ∙ c.if-is_free.false)) in
    append-list c.requires.ready.3 busy c.append-strip.ensures

pub returns-then-is_free : goal.returns-then-is_free
returns-then-is_free g c = record {
  kept = λ h d n s. stretch-lengthened s (c.is_free.ensures.0 c.if-is_free.true) c.unlist.ensures c.stretch.ensures c.list.ensures;
  takes = only-takes (only-takes c.unlist.ensures.takes c.stretch.ensures.takes) c.list.ensures.takes;
}

pub returns-else-is_free : goal.returns-else-is_free
returns-else-is_free g c =
    let busy : (node_in (shelf_of c.args.store.now) c.args.last.number).kind ≡ Free → ⊥ =
    (λ f. true≢false (sym (c.is_free.ensures.1 f) ∙ c.if-is_free.false)) in
    record {
      kept = λ h d n s. append-lengthened s busy c.append-strip.ensures c.list-else-is_free.ensures;
      takes = only-takes c.append-strip.ensures.takes c.list-else-is_free.ensures.takes;
    }
