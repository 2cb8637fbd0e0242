use Rattle.std.proofs.Common.{◌≡◌, List, refl, ap, ◌∙◌}
use Rattle.atlas_search.specs.declared.link.Link.{Link}
use Rattle.atlas_search.specs.Numbers.{no_slot}
use Rattle.atlas_search.specs.Tables.{Lists, is_used_at}
use Rattle.atlas_store.specs.Stored.{Shelf}
use Rattle.atlas_store.proofs.StoreLemmas.RestoredStores.{IsMade, made-unlisted, restored}
use Rattle.atlas_store.proofs.store.Store.restore.Goals as goal
use Rattle.atlas_store.proofs.store.Store.restore.Goals.{then-capacity-gt-FEW+in_ok-grow, else-capacity-gt-FEW}

pub list_all-requires : goal.list_all-requires
list_all-requires g c =
    let heads : c.if-capacity-gt-FEW.lists.heads ≡ c.new-lists.result.heads = elim c.if-capacity-gt-FEW.branch [
      | then-capacity-gt-FEW+in_ok-grow w ↦ ap (λ (t : Lists). t.heads) w.lists-is ∙ w.grow.ensures.heads
      | else-capacity-gt-FEW w ↦ ap (λ (t : Lists). t.heads) w.lists-is
    ] in
    let v : Shelf = record {
      slots = c.in_ok-slots.slots.items;
      heads = c.if-capacity-gt-FEW.lists.heads;
      unused = c.args.unused;
      recent = record { at = record { number = no_slot }; list = 0 };
      options = c.new.result;
    } in
    let made : IsMade v c.args.nodes.now c.args.unused = record {
      slots = c.in_ok-slots.ensures;
      lists = λ k. ap (λ (h : List Link). is_used_at h k) heads ∙ c.new-lists.ensures k;
      unused = refl;
      recent = refl;
    } in
    let t = c.requires.tree in
    let l = c.requires.line in
    (_, made-unlisted v c.args.nodes.now c.args.unused c.args.options.now made c.requires c.new.ensures t.0 t.1 l.0 t.2 l.1)

pub returns-clause-restored : goal.returns-clause-restored
returns-clause-restored g c =
    let heads : c.if-capacity-gt-FEW.lists.heads ≡ c.new-lists.result.heads = elim c.if-capacity-gt-FEW.branch [
      | then-capacity-gt-FEW+in_ok-grow w ↦ ap (λ (t : Lists). t.heads) w.lists-is ∙ w.grow.ensures.heads
      | else-capacity-gt-FEW w ↦ ap (λ (t : Lists). t.heads) w.lists-is
    ] in
    let v : Shelf = record {
      slots = c.in_ok-slots.slots.items;
      heads = c.if-capacity-gt-FEW.lists.heads;
      unused = c.args.unused;
      recent = record { at = record { number = no_slot }; list = 0 };
      options = c.new.result;
    } in
    let made : IsMade v c.args.nodes.now c.args.unused = record {
      slots = c.in_ok-slots.ensures;
      lists = λ k. ap (λ (h : List Link). is_used_at h k) heads ∙ c.new-lists.ensures k;
      unused = refl;
      recent = refl;
    } in
    restored c.list_all.new.self v c.args.nodes.now c.args.unused c.args.options.now made c.requires c.new.ensures
    c.list_all.ensures.nodes c.list_all.ensures.listed c.list_all.ensures.takes.options
