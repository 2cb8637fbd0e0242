-- The calls that extend the top sequence keep what is held: from what the calls on nodes ensure.
use Rattle.std.proofs.Common.{ℕ, ◌+◌, ◌<◌, ◌≡◌, ◌≢◌, ◌^◌, List, [], ◌∷◌, length, refl, ap, arith, Bool, true, FitsSigned, w32}
use Rattle.std.proofs.lemmas.Bool.{cases_eq}
use Rattle.atlas_store.specs.declared.slots.Slot.{Slot}
use Rattle.atlas_store.specs.declared.slots.Node.{Node}
use Rattle.atlas_store.specs.declared.slots.NodeKind.TheVariants as kind
use Rattle.atlas_model.specs.declared.geometry.Size.{Size}
use Rattle.atlas_model.specs.Boxes.{Axis, Sides, other, side, IsPositive}
use Rattle.atlas_model.specs.Boxes.Axis.{Horizontal, Vertical}
use Rattle.atlas_model.specs.Pixels.{options_of, sides_of}
use Rattle.atlas_model.specs.Trees.{IsCut, total}
use Rattle.atlas_store.specs.Slots.{nodes, rings, node_at, use_count}
use Rattle.atlas_search.specs.Numbers.{no_slot, occurs, same}
use Rattle.atlas_search.proofs.SearchLemmas.Bests.{natural-most}
use Rattle.atlas_store.specs.Slots.Numbered.{Numbered, erase, tally, End, Free}
use Rattle.atlas_store.specs.Slots.Standing.{Sequence, Stands}
use Rattle.atlas_store.specs.Slots.Links.{with_mark}
use Rattle.atlas_store.specs.Slots.SlotCalls.{CanAppendTo, CanNestTop, IsLeafStretched, IsLeafAppended, IsTopNested}
use Rattle.atlas_store.specs.Slots.Lists.{AreFiled}
use Rattle.atlas_store.specs.Stored.{Shelf, Holding, Holds, HoldsWith, places_of}
use Rattle.atlas_store.specs.Store.Holdings.{shelf_of, HasSlotsFor, IsDetachedLeaf, with_unused_list}
use Rattle.atlas_store.specs.Store.StoreCalls.{AreSlotsTaken}
use Rattle.atlas_store.specs.Store.TopCalls.{IsExtendable, IsNestable}
use Rattle.atlas_store.specs.declared.store.Store.{Store}
use Rattle.atlas_store.specs.Slots.Growing.{IsEnd, IsLone, Reaches, last_slot, top_along, stretched, appended, nested, after_stretch}
use Rattle.atlas_store.specs.Slots.Growing.{after_whole, after_append, after_nest, whole_sequence}
use Rattle.atlas_store.proofs.SlotLemmas.Frames.{same-self, same-ne}
use Rattle.atlas_store.proofs.StoreLemmas.FiledSlots.{with_mark-same, with_mark-other}
use Rattle.atlas_store.proofs.StoreLemmas.TakenSlots.{AreFiled-moved, StaysOrIsOut}
use Rattle.atlas_store.proofs.StoreLemmas.StoreTakes.{taken-once}
use Rattle.atlas_store.proofs.StoreLemmas.StoreSteps.{AreSlots, over-shelf, long-over, moved-kept, use-kept}
use Rattle.atlas_store.proofs.WalkLemmas.StoredAtlas.{nonempty-total}
use Rattle.atlas_store.proofs.StoreLemmas.ExtendedTrees.{total-stretched, cut-stretched, total-appended, cut-appended, last-member}

-- Extents are positive, and no box passes what an `i32` holds.
record IsInBounds (s : Sequence) (n : Numbered) : Type 0 where
  pub cut : IsCut s.width (erase n)
  pub wide : 0 < s.width
  pub across : s.start + s.width < 2 ^ 31
  pub along : total (erase n) < 2 ^ 31

-- Slots that are claimed are used, and the others keep their use.
record AreUsed (old new : List Slot) (claimed : ℕ → ℕ) (detached detached' : ℕ → Bool) : Type 0 where
  pub moved : (i : ℕ) → StaysOrIsOut (node_at (nodes old) i) (node_at (nodes new) i) (detached i) (detached' i)
  pub counted : (i : ℕ) → use_count (node_at (nodes new) i).kind ≡ claimed i + use_count (node_at (nodes old) i).kind
  pub same_rings : rings new ≡ rings old

-- What is held then, where the slots stand for the tree n in the top sequence s.
held_anew : (claimed : ℕ → ℕ) (v : Shelf) (new : List Slot) (h : Holding) (s : Sequence) (n : Numbered)
    (detached : ℕ → Bool) → length new ≡ length v.slots
    → HoldsWith claimed v h → AreUsed v.slots new claimed h.detached detached → s.parent ≡ no_slot
    → Stands (nodes new) s n → IsInBounds s n
    → Holds (record v { slots = new }) (record h { sequence = s; tree = n; detached = detached })
held_anew claimed v new h s n detached long holds used top stands bounds =
    let moved = AreFiled-moved (options_of v.options) (nodes v.slots) (nodes new) (rings v.slots) v.heads v.unused (places_of claimed h)
    (λ i. 0) detached
    used.moved (λ i l. omega (arith, used.counted i)) holds.filed in
    let filed : AreFiled (options_of v.options) (nodes new) (rings new) v.heads v.unused
    (places_of (λ i. 0) (record h { sequence = s; tree = n; detached = detached })) = rw used.same_rings moved in
    grind arith

-- Each side of a size is what an `i32` holds.
pub sides-fit : (size : Size) → FitsSigned w32 size.width → FitsSigned w32 size.height → (a : Axis)
    → side a (sides_of size) < 2 ^ 31
sides-fit size wide high Horizontal = omega (arith, natural-most size.width wide)
sides-fit size wide high Vertical = omega (arith, natural-most size.height high)

-- A detached leaf changes, and stays in use.
used-leaf : (old new : List Slot) (at : ℕ) (size : Size) (detached : ℕ → Bool) → IsLeafStretched old new at size
    → (node_at (nodes old) at).kind ≡ kind.Free → detached at ≡ true → AreUsed old new (λ i. 0) detached detached
used-leaf old new at size detached w free out = grind (arith, cases_eq)

-- A sequence of this length ends at the far corner.
reaches-end : (size : Sides) (d last : ℕ) (h : Holding) → IsEnd size d last h
    → Reaches size h.sequence (total (erase h.tree) + d)
reaches-end size d last h end = (end.along, omega (arith, end.start, end.across))

-- The last leaf reaches to the far corner of a size.
pub stretched-holds : (v : Shelf) (old mid new : List Slot) (at : ℕ) (size : Size) → AreSlots v.slots old mid new
    → ((a : Axis) → side a (sides_of size) < 2 ^ 31) → IsLeafStretched old mid at size
    → (h : Holding) (d : ℕ) → IsDetachedLeaf v at h → IsEnd (sides_of size) d at h
    → Holds (record v { slots = new }) (after_stretch d h)
stretched-holds v old mid new at size a fit w h d leaf end =
    let own = over-shelf (λ x y. IsLeafStretched x y at size) _ _ _ _ a w in
    held_anew (λ i. 0) v new h h.sequence (stretched d h.tree) h.detached (long-over _ _ _ _ a) leaf.holds
    (used-leaf v.slots new at size h.detached own leaf.kind leaf.detached) leaf.holds.top
    (own.longer h.sequence h.tree d leaf.holds.stands end.ends (reaches-end (sides_of size) d at h end)) (record {
      cut = cut-stretched d h.sequence.width h.tree leaf.holds.cut;
      wide = leaf.holds.wide;
      across = leaf.holds.across;
      along = omega (arith, total-stretched d h.tree, end.along, fit h.sequence.axis);
    })

-- The one leaf becomes as large as a size.
pub whole-holds : (v : Shelf) (old mid new : List Slot) (at : ℕ) (size : Size) → AreSlots v.slots old mid new
    → ((a : Axis) → side a (sides_of size) < 2 ^ 31) → IsPositive (sides_of size) → IsLeafStretched old mid at size
    → (h : Holding) → IsDetachedLeaf v at h → IsLone at h
    → Holds (record v { slots = new }) (after_whole (sides_of size) at h)
whole-holds v old mid new at size a fit positive w h leaf lone =
    let own = over-shelf (λ x y. IsLeafStretched x y at size) _ _ _ _ a w in
    let one : Stands (nodes v.slots) h.sequence (Free at lone.extent End) = rw (← lone.tree) leaf.holds.stands in
    let bounds : IsInBounds (whole_sequence (sides_of size) h.sequence) (Free at (side h.sequence.axis (sides_of size)) End) =
    grind arith in
    held_anew (λ i. 0) v new h (whole_sequence (sides_of size) h.sequence) (Free at (side h.sequence.axis (sides_of size)) End) h.detached
    (long-over v.slots old mid new a) leaf.holds (used-leaf v.slots new at size h.detached own leaf.kind leaf.detached) leaf.holds.top
    (own.whole h.sequence lone.extent one lone.start) bounds

-- The last slot of a tree is used.
last-used : (ns : List Node) (s : Sequence) (n : Numbered) (last : ℕ) → Stands ns s n → 0 < total (erase n)
    → last_slot n ≡ last → (node_at ns last).kind ≢ kind.Unused
last-used ns s n last stands some ends unused =
    let here : 0 < tally last n = rw (← ends) (last-member n (nonempty-total n some)) in
    omega (arith, stands.numbered last, ap use_count unused)

-- A slot was taken, in which a leaf is to come last.
module _ {A : Type 0} {old mid : Store A} {k : ℕ} (took : AreSlotsTaken old mid (k ∷ [])) where
  pub can-append : (size : Sides) (last d : ℕ) (h : Holding) → IsExtendable (shelf_of old) size last d h
      → HasSlotsFor 1 old h → CanAppendTo (nodes mid.slots.items) last k
  can-append size last d h ready slots = record {
    used = last-used (nodes mid.slots.items) h.sequence h.tree last (took.taken h 0 ready.holds slots).1.stands
        ready.end.some ready.end.ends;
    unused = (took.fresh k (omega (arith, same-self k))).unused;
  }

  pub appended-holds : (given left new : List Slot) (last : ℕ) (size : Size)
      → AreSlots mid.slots.items given left new
      → ((a : Axis) → side a (sides_of size) < 2 ^ 31) → IsLeafAppended given left last k size
      → (h : Holding) (unused_list : List ℕ) (d : ℕ) → IsExtendable (shelf_of old) (sides_of size) last d h
      → HoldsWith (λ i. occurs i (k ∷ [])) (shelf_of mid) (with_unused_list unused_list h)
      → Holds (record (shelf_of mid) { slots = new }) (with_unused_list unused_list (after_append k d h))
  appended-holds given left new last size a fit w h unused_list d ready holds =
      let own = over-shelf (λ x y. IsLeafAppended x y last k size) _ _ _ _ a w in
      let unused = (took.fresh k (omega (arith, same-self k))).unused in
      let marks = with_mark h.detached k true in
      let used : AreUsed mid.slots.items new (λ i. occurs i (k ∷ [])) h.detached marks =
      grind (arith, cases_eq, same-self, same-ne, moved-kept, use-kept, with_mark-same, with_mark-other) in
      held_anew (λ i. occurs i (k ∷ [])) (shelf_of mid) new (with_unused_list unused_list h) h.sequence
      (appended k d h.tree) marks (long-over _ _ _ _ a) holds used holds.top
      (own.tree h.sequence h.tree d holds.stands ready.end.ends (reaches-end (sides_of size) d last h ready.end))
      (record {
        cut = cut-appended k d h.sequence.width h.tree ready.more holds.cut;
        wide = holds.wide;
        across = holds.across;
        along = omega (arith, total-appended k d h.tree, ready.end.along, fit h.sequence.axis);
      })

-- Two slots were taken: one for a container of the top sequence, and one for the leaf after it.
module _ {A : Type 0} {old mid : Store A} {c k : ℕ} (took : AreSlotsTaken old mid (c ∷ k ∷ [])) where
  pub can-nest : (inner size : Sides) (first d : ℕ) (h : Holding) → IsNestable (shelf_of old) inner size first d h
      → HasSlotsFor 2 old h → CanNestTop (nodes mid.slots.items) first c k
  can-nest inner size first d h ready slots =
      let held = (took.taken h 0 ready.holds slots).1 in
      record {
        tree = (
          h.sequence,
          h.tree,
          record { stands = held.stands; begins = ready.spans.begins; some = ready.spans.some },
        );
        container = (took.fresh c (omega (arith, same-self c))).unused;
        strip = (took.fresh k (omega (arith, same-self k))).unused;
        apart = λ x. absurd (omega (arith, taken-once took held c, same-self c, ap (same c) x));
      }

  pub nested-holds : (given left new : List Slot) (first : ℕ) (inner size : Size)
      → AreSlots mid.slots.items given left new
      → ((a : Axis) → side a (sides_of size) < 2 ^ 31) → CanNestTop (nodes mid.slots.items) first c k
      → IsTopNested given left first c k inner size
      → (h : Holding) (unused_list : List ℕ) (d : ℕ)
      → IsNestable (shelf_of old) (sides_of inner) (sides_of size) first d h
      → HoldsWith (λ i. occurs i (c ∷ k ∷ [])) (shelf_of mid) (with_unused_list unused_list h)
      → Holds (record (shelf_of mid) { slots = new }) (with_unused_list unused_list (after_nest c k d h))
  nested-holds given left new first inner size a fit can w h unused_list d ready holds =
      let own = over-shelf (λ x y. IsTopNested x y first c k inner size) _ _ _ _ a w in
      let marks = with_mark h.detached k true in
      let used : AreUsed mid.slots.items new (λ i. occurs i (c ∷ k ∷ [])) h.detached marks =
      grind (arith, cases_eq, same-self, same-ne, moved-kept, use-kept, with_mark-same, with_mark-other) in
      let spans = ready.spans in
      held_anew (λ i. occurs i (c ∷ k ∷ [])) (shelf_of mid) new (with_unused_list unused_list h)
      (top_along (other h.sequence.axis) (total (erase h.tree))) (nested c k h.sequence.width d h.tree) marks
      (long-over _ _ _ _ a) holds used refl
      (own.tree h.sequence h.tree d (record { stands = holds.stands; begins = spans.begins; some = spans.some })
      spans.start (spans.along, omega (arith, spans.start, spans.across)) ready.wider)
      (grind (arith, fit (other h.sequence.axis)))
