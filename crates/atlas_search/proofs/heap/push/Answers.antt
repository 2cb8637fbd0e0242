use Rattle.std.proofs.Common.{◌≤◌, ◌<◌, length, map, refl, ap, sym, ◌∙◌, subst, arith, rules}
use Rattle.std.proofs.lemmas.List.{length-map}
use Rattle.atlas_model.specs.Boxes.{Sides}
use Rattle.atlas_search.specs.Forks.{cell_of}
use Rattle.atlas_search.specs.Items.{item_at, item_sides}
use Rattle.atlas_search.specs.HeapCalls.{HasSorted}
use Rattle.atlas_search.proofs.HeapLemmas.Alone.{alone}
use Rattle.atlas_search.proofs.HeapLemmas.Hanging.{top-up}
use Rattle.atlas_search.proofs.HeapLemmas.Melding.{linked-as, linked-by}
use Rattle.atlas_search.proofs.HeapLemmas.Pushing.{near-inside, push-sorts, pushed-near, sorted-pushed}
use Rattle.atlas_search.proofs.HeapLemmas.Sorting.{sort-inside, sort-solid, sorted-alike, sorted-alone, sorted-apart}
use Rattle.atlas_search.proofs.SearchLemmas.Bests.{natural-most}
use Rattle.atlas_search.proofs.heap.push.Goals as goal

pub returns-then-top-eq-NO_SLOT-clause-pushed : goal.returns-then-top-eq-NO_SLOT-clause-pushed
returns-then-top-eq-NO_SLOT-clause-pushed g c h can =
    let es = map g.E.Entry.item c.args.entries.now in
    let sides = c.size_at-size.ensures.sides in
    let tag = c.args.tag.number in
    let top = c.args.top.number in
    let near = c.args.near.number in
    let at = c.args.at.number in
    let cell = cell_of (item_sides (item_at es at)) in
    let sorts = push-sorts es tag top near at h can cell refl
    (subst (λ (s : Sides). s.width ≤ 2147483647) sides (natural-most c.size_at-size.result.width (search rules)))
    (subst (λ (s : Sides). s.height ≤ 2147483647) sides (natural-most c.size_at-size.result.height (search rules))) in
    let fs = map g.E.Entry.item c.put.new.entries in
    sorted-pushed es tag top near at h can fs at cell refl
    (sorted-alone es fs cell top at h sorts tag c.put.ensures.put c.if-top-eq-NO_SLOT.true)

pub returns-then-is_place-clause-pushed : goal.returns-then-is_place-clause-pushed
returns-then-is_place-clause-pushed g c h can =
    let es = map g.E.Entry.item c.args.entries.now in
    let fs = map g.E.Entry.item c.put-then-is_place.new.entries in
    let gs = map g.E.Entry.item c.relink.new.entries in
    let near = c.args.near.number in
    let at = c.args.at.number in
    let k = c.links_at-links in
    let some = c.is_place.ensures.some c.if-is_place.true in
    let alike = c.is_place.ensures.alike c.if-is_place.true in
    let inside : near < length fs = omega (
      arith,
      near-inside es c.args.tag.number c.args.top.number near at h can some,
      c.put-then-is_place.ensures.put.long,
    ) in
    pushed-near es fs gs c.args.tag.number c.args.top.number near at h can some (c.is_place.ensures.left c.if-is_place.true)
    (c.is_place.ensures.first c.if-is_place.true) alike.0 alike.1 c.put-then-is_place.ensures.put
    (linked-as fs gs near k.result.up.number at k.result.right.number (item_at fs near).up at (item_at fs near).right
    k.ensures.up refl k.ensures.right
    (linked-by fs gs near k.result.up.number at k.result.right.number inside c.relink.ensures.links))

pub is_alike-requires-clause-top : goal.is_alike-requires-clause-top
is_alike-requires-clause-top g c =
    let es = map g.E.Entry.item c.args.entries.now in
    let sides = c.size_at-size.ensures.sides in
    let tag = c.args.tag.number in
    let top = c.args.top.number in
    let near = c.args.near.number in
    let at = c.args.at.number in
    let cell = cell_of (item_sides (item_at es at)) in
    let sorts = push-sorts es tag top near at c.requires.0 c.requires.1 cell refl
    (subst (λ (s : Sides). s.width ≤ 2147483647) sides (natural-most c.size_at-size.result.width (search rules)))
    (subst (λ (s : Sides). s.height ≤ 2147483647) sides (natural-most c.size_at-size.result.height (search rules))) in
    omega (arith, length-map c.args.entries.now g.E.Entry.item, sort-inside es es cell top at c.requires.0 sorts c.if-top-eq-NO_SLOT.false)

pub is_alike-requires-clause-top_solid : goal.is_alike-requires-clause-top_solid
is_alike-requires-clause-top_solid g c =
    let es = map g.E.Entry.item c.args.entries.now in
    let sides = c.size_at-size.ensures.sides in
    let tag = c.args.tag.number in
    let top = c.args.top.number in
    let near = c.args.near.number in
    let at = c.args.at.number in
    let cell = cell_of (item_sides (item_at es at)) in
    let sorts = push-sorts es tag top near at c.requires.0 c.requires.1 cell refl
    (subst (λ (s : Sides). s.width ≤ 2147483647) sides (natural-most c.size_at-size.result.width (search rules)))
    (subst (λ (s : Sides). s.height ≤ 2147483647) sides (natural-most c.size_at-size.result.height (search rules))) in
    sort-solid es es cell top at c.requires.0 sorts c.if-top-eq-NO_SLOT.false

pub meld-requires : goal.meld-requires
meld-requires g c =
    let es = map g.E.Entry.item c.args.entries.now in
    let sides = c.size_at-size.ensures.sides in
    let tag = c.args.tag.number in
    let top = c.args.top.number in
    let near = c.args.near.number in
    let at = c.args.at.number in
    let cell = cell_of (item_sides (item_at es at)) in
    let sorts = push-sorts es tag top near at c.requires.0 c.requires.1 cell refl
    (subst (λ (s : Sides). s.width ≤ 2147483647) sides (natural-most c.size_at-size.result.width (search rules)))
    (subst (λ (s : Sides). s.height ≤ 2147483647) sides (natural-most c.size_at-size.result.height (search rules))) in
    let fs = map g.E.Entry.item c.put-then-is_alike.new.entries in
    let some = c.if-top-eq-NO_SLOT.false in (
      sorts.under,
      c.requires.0,
      alone at,
      sorted-apart es fs cell top at c.requires.0 sorts tag c.put-then-is_alike.ensures.put some
          (sym (top-up es tag top c.requires.0 c.requires.1.sound.heap some)),
    )

pub returns-then-is_alike-clause-pushed : goal.returns-then-is_alike-clause-pushed
returns-then-is_alike-clause-pushed g c h can =
    let es = map g.E.Entry.item c.args.entries.now in
    let sides = c.size_at-size.ensures.sides in
    let tag = c.args.tag.number in
    let top = c.args.top.number in
    let near = c.args.near.number in
    let at = c.args.at.number in
    let cell = cell_of (item_sides (item_at es at)) in
    let sorts = push-sorts es tag top near at h can cell refl
    (subst (λ (s : Sides). s.width ≤ 2147483647) sides (natural-most c.size_at-size.result.width (search rules)))
    (subst (λ (s : Sides). s.height ≤ 2147483647) sides (natural-most c.size_at-size.result.height (search rules))) in
    let fs = map g.E.Entry.item c.put-then-is_alike.new.entries in
    let gs = map g.E.Entry.item c.meld.new.entries in
    let some = c.if-top-eq-NO_SLOT.false in
    let is = c.put-then-is_alike.ensures.put in
    let first = c.meld.result.number in
    let alike = c.is_alike.ensures.yes c.if-is_alike.true in
    sorted-pushed es tag top near at h can gs first cell refl
    (sorted-alike es fs cell top at h sorts tag is gs tag first some alike.0 alike.1
    (c.meld.ensures.melded sorts.under h (alone at)
    (sorted-apart es fs cell top at h sorts tag is some (sym (top-up es tag top h can.sound.heap some)))) c.meld.ensures.areas)

pub is_fork_before-requires-clause-top : goal.is_fork_before-requires-clause-top
is_fork_before-requires-clause-top g c = λ some.
    let es = map g.E.Entry.item c.args.entries.now in
    let sides = c.size_at-size.ensures.sides in
    let tag = c.args.tag.number in
    let top = c.args.top.number in
    let near = c.args.near.number in
    let at = c.args.at.number in
    let cell = c.around-cell.result in
    let is = c.around-cell.ensures ∙ ap cell_of sides in
    omega (
      arith,
      length-map c.args.entries.now g.E.Entry.item,
      sort-inside es es cell top at c.requires.0 (push-sorts es tag top near at c.requires.0 c.requires.1 cell is
          (subst (λ (s : Sides). s.width ≤ 2147483647) sides (natural-most c.size_at-size.result.width (search rules)))
          (subst (λ (s : Sides). s.height ≤ 2147483647) sides (natural-most c.size_at-size.result.height (search rules)))) some,
    )

pub is_fork_before-requires-clause-top_solid : goal.is_fork_before-requires-clause-top_solid
is_fork_before-requires-clause-top_solid g c = λ some.
    let es = map g.E.Entry.item c.args.entries.now in
    let sides = c.size_at-size.ensures.sides in
    let tag = c.args.tag.number in
    let top = c.args.top.number in
    let near = c.args.near.number in
    let at = c.args.at.number in
    let cell = c.around-cell.result in
    let is = c.around-cell.ensures ∙ ap cell_of sides in
    sort-solid es es cell top at c.requires.0 (push-sorts es tag top near at c.requires.0 c.requires.1 cell is
    (subst (λ (s : Sides). s.width ≤ 2147483647) sides (natural-most c.size_at-size.result.width (search rules)))
    (subst (λ (s : Sides). s.height ≤ 2147483647) sides (natural-most c.size_at-size.result.height (search rules)))) some

pub sort_below-requires-clause-sorted : goal.sort_below-requires-clause-sorted
sort_below-requires-clause-sorted g c =
    let es = map g.E.Entry.item c.args.entries.now in
    let sides = c.size_at-size.ensures.sides in
    let tag = c.args.tag.number in
    let top = c.args.top.number in
    let near = c.args.near.number in
    let at = c.args.at.number in
    let cell = c.around-cell.result in
    let is = c.around-cell.ensures ∙ ap cell_of sides in (
      c.requires.0,
      push-sorts es tag top near at c.requires.0 c.requires.1 cell is
          (subst (λ (s : Sides). s.width ≤ 2147483647) sides (natural-most c.size_at-size.result.width (search rules)))
          (subst (λ (s : Sides). s.height ≤ 2147483647) sides (natural-most c.size_at-size.result.height (search rules))),
    )

pub returns-then-is_fork_before-clause-pushed : goal.returns-then-is_fork_before-clause-pushed
returns-then-is_fork_before-clause-pushed g c h can =
    let es = map g.E.Entry.item c.args.entries.now in
    let sides = c.size_at-size.ensures.sides in
    let tag = c.args.tag.number in
    let top = c.args.top.number in
    let near = c.args.near.number in
    let at = c.args.at.number in
    let cell = c.around-cell.result in
    let is = c.around-cell.ensures ∙ ap cell_of sides in
    let fs = map g.E.Entry.item c.sort_below.new.entries in
    let some = c.is_fork_before.ensures.some c.if-is_fork_before.true in
    sorted-pushed es tag top near at h can fs top cell is
    (subst (λ n. HasSorted es fs cell n top at h) (top-up es tag top h can.sound.heap some)
    (c.sort_below.ensures.sorted h (push-sorts es tag top near at h can cell is
    (subst (λ (s : Sides). s.width ≤ 2147483647) sides (natural-most c.size_at-size.result.width (search rules)))
    (subst (λ (s : Sides). s.height ≤ 2147483647) sides (natural-most c.size_at-size.result.height (search rules))))))

pub sort_in-requires-clause-hangs : goal.sort_in-requires-clause-hangs
sort_in-requires-clause-hangs g c =
    top-up (map g.E.Entry.item c.args.entries.now) c.args.tag.number c.args.top.number c.requires.0 c.requires.1.sound.heap

pub sort_in-requires-clause-sorted : goal.sort_in-requires-clause-sorted
sort_in-requires-clause-sorted g c =
    let es = map g.E.Entry.item c.args.entries.now in
    let sides = c.size_at-size.ensures.sides in
    let tag = c.args.tag.number in
    let top = c.args.top.number in
    let near = c.args.near.number in
    let at = c.args.at.number in
    let cell = c.around-cell.result in
    let is = c.around-cell.ensures ∙ ap cell_of sides in (
      c.requires.0,
      push-sorts es tag top near at c.requires.0 c.requires.1 cell is
          (subst (λ (s : Sides). s.width ≤ 2147483647) sides (natural-most c.size_at-size.result.width (search rules)))
          (subst (λ (s : Sides). s.height ≤ 2147483647) sides (natural-most c.size_at-size.result.height (search rules))),
    )

pub returns-clause-pushed : goal.returns-clause-pushed
returns-clause-pushed g c h can =
    let es = map g.E.Entry.item c.args.entries.now in
    let sides = c.size_at-size.ensures.sides in
    let tag = c.args.tag.number in
    let top = c.args.top.number in
    let near = c.args.near.number in
    let at = c.args.at.number in
    let cell = c.around-cell.result in
    let is = c.around-cell.ensures ∙ ap cell_of sides in
    sorted-pushed es tag top near at h can (map g.E.Entry.item c.sort_in.new.entries) c.sort_in.result.number cell is
    (c.sort_in.ensures.sorted h (push-sorts es tag top near at h can cell is
    (subst (λ (s : Sides). s.width ≤ 2147483647) sides (natural-most c.size_at-size.result.width (search rules)))
    (subst (λ (s : Sides). s.height ≤ 2147483647) sides (natural-most c.size_at-size.result.height (search rules)))))
