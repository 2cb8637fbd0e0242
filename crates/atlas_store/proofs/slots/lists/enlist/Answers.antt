use Rattle.std.proofs.Common.{◌∙◌, refl, ap, sym, subst, subst₂}
use Rattle.atlas_model.specs.Pixels.{options_of}
use Rattle.atlas_search.specs.Bands.{number_of}
use Rattle.atlas_search.specs.HeapCalls.{CanPush, HasPushed}
use Rattle.atlas_search.specs.Heaps.{Heap, tag_of}
use Rattle.atlas_search.specs.Tables.{head_of, CanHold}
use Rattle.atlas_search.specs.declared.link.Link.{Link}
use Rattle.atlas_store.proofs.SlotLemmas.SlotAreas.{free-inside}
use Rattle.atlas_store.proofs.StoreLemmas.FiledSlots.{number-is}
use Rattle.atlas_store.proofs.StoreLemmas.ListedSlots.{IsNear, joined, joined-few, joined-some, joins, nodes-bare, recent-joined}
use Rattle.atlas_store.proofs.StoreLemmas.SlotLists.{items}
use Rattle.atlas_store.proofs.slots.lists.enlist.Goals as goal

pub read_node-node-requires : goal.read_node-node-requires
read_node-node-requires g c = free-inside c.args.slots.now c.args.at.number c.requires.free

pub push-first-requires : goal.push-first-requires
push-first-requires g c =
    let o = options_of c.args.options.now in
    let i = c.args.at.number in
    let n = number_of c.place_for-place.result in
    let em = number-is o c.place_for-place.result c.exact_size.result _ _ c.place_for-place.ensures.number c.exact_size.ensures.sides
    c.read_node-node.ensures in
    let k = c.requires.detached in
    let near = subst (λ m. IsNear c.in_list.result.number (k.places.free_lists m)) em (c.in_list.ensures k.places.free_lists k.is_recent) in
    subst₂ (λ t f. (h : Heap) × CanPush (items c.args.slots.now) t f c.in_list.result.number i h)
    (sym (c.tag.ensures ∙ ap tag_of em)) (sym (ap (λ (l : Link). l.number) (c.head.ensures ∙ ap (head_of c.args.lists.now.heads) em)))
    (joins o c.args.slots.now c.args.lists.now.heads i c.requires.free c.requires.exact c.requires.short k.unused k.places k.filed
    k.is_detached
    c.in_list.result.number near)

pub raise-requires-clause-slot : goal.raise-requires-clause-slot
raise-requires-clause-slot g c =
    let o = options_of c.args.options.now in
    let i = c.args.at.number in
    let n = number_of c.place_for-place.result in
    let em = number-is o c.place_for-place.result c.exact_size.result _ _ c.place_for-place.ensures.number c.exact_size.ensures.sides
    c.read_node-node.ensures in
    let k = c.requires.detached in
    let near = subst (λ m. IsNear c.in_list.result.number (k.places.free_lists m)) em (c.in_list.ensures k.places.free_lists k.is_recent) in
    joined-some o c.args.slots.now c.args.lists.now.heads i c.requires.free c.requires.exact c.requires.short k.unused k.places k.filed
    k.is_detached
    c.in_list.result.number near c.push-first.new.entries c.push-first.result.number
    (subst₂ (λ t f. (h : Heap) → CanPush (items c.args.slots.now) t f c.in_list.result.number i h
    → HasPushed (items c.args.slots.now) (items c.push-first.new.entries) t c.push-first.result.number i h)
    (c.tag.ensures ∙ ap tag_of em) (ap (λ (l : Link). l.number) (c.head.ensures ∙ ap (head_of c.args.lists.now.heads) em))
    c.push-first.ensures.pushed)
    c.push-first.auto.entries

pub raise-requires-clause-few : goal.raise-requires-clause-few
raise-requires-clause-few g c small =
    let o = options_of c.args.options.now in
    let i = c.args.at.number in
    let n = number_of c.place_for-place.result in
    let em = number-is o c.place_for-place.result c.exact_size.result _ _ c.place_for-place.ensures.number c.exact_size.ensures.sides
    c.read_node-node.ensures in
    let k = c.requires.detached in
    let near = subst (λ m. IsNear c.in_list.result.number (k.places.free_lists m)) em (c.in_list.ensures k.places.free_lists k.is_recent) in
    subst (λ m. CanHold c.args.lists.now.heads m c.push-first.result) (sym em)
    (joined-few o c.args.slots.now c.args.lists.now.heads i c.requires.free c.requires.exact c.requires.short k.unused k.places k.filed
    k.is_detached c.in_list.result.number near (c.requires.few small) c.push-first.new.entries c.push-first.result
    (subst₂ (λ t f. (h : Heap) → CanPush (items c.args.slots.now) t f c.in_list.result.number i h
    → HasPushed (items c.args.slots.now) (items c.push-first.new.entries) t c.push-first.result.number i h)
    (c.tag.ensures ∙ ap tag_of em) (ap (λ (l : Link). l.number) (c.head.ensures ∙ ap (head_of c.args.lists.now.heads) em))
    c.push-first.ensures.pushed)
    c.push-first.auto.entries)

pub returns-clause-filed : goal.returns-clause-filed
returns-clause-filed g c unused p filed is_recent kept =
    let o = options_of c.args.options.now in
    let i = c.args.at.number in
    let n = number_of c.place_for-place.result in
    let em = number-is o c.place_for-place.result c.exact_size.result _ _ c.place_for-place.ensures.number c.exact_size.ensures.sides
    c.read_node-node.ensures in
    let near = subst (λ m. IsNear c.in_list.result.number (p.free_lists m)) em (c.in_list.ensures p.free_lists is_recent) in
    joined o c.args.slots.now c.args.lists.now.heads i c.requires.free c.requires.exact c.requires.short unused p filed kept
    c.in_list.result.number near c.push-first.new.entries c.raise.new.self.heads c.push-first.result
    (subst₂ (λ t f. (h : Heap) → CanPush (items c.args.slots.now) t f c.in_list.result.number i h
    → HasPushed (items c.args.slots.now) (items c.push-first.new.entries) t c.push-first.result.number i h)
    (c.tag.ensures ∙ ap tag_of em) (ap (λ (l : Link). l.number) (c.head.ensures ∙ ap (head_of c.args.lists.now.heads) em))
    c.push-first.ensures.pushed)
    c.push-first.ensures.bare c.push-first.auto.entries (ap (head_of c.raise.new.self.heads) (sym em) ∙ c.raise.ensures.head)
    (λ k ne. c.raise.ensures.heads k (λ e. ne (e ∙ em)))

pub returns-clause-recent : goal.returns-clause-recent
returns-clause-recent g c p =
    let o = options_of c.args.options.now in
    let i = c.args.at.number in
    let n = number_of c.place_for-place.result in
    let em = number-is o c.place_for-place.result c.exact_size.result _ _ c.place_for-place.ensures.number c.exact_size.ensures.sides
    c.read_node-node.ensures in
    recent-joined (record { at = c.args.at; list = n }) p.free_lists _ i refl em

pub returns-clause-same_nodes : goal.returns-clause-same_nodes
returns-clause-same_nodes g c = nodes-bare c.args.slots.now c.push-first.new.entries c.push-first.ensures.bare
