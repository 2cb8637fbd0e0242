-- The slots of an atlas that grows: what the store holds after each call.
use Rattle.std.proofs.Common.{ℕ, ◌+◌, ◌-◌, ◌<◌, ◌≡◌, ◌↔◌, IsTrue, List, [], length, Bool, cond, true, false, not, refl, sym, ap, subst}
use Rattle.std.proofs.Common.{arith}
use Rattle.std.proofs.lemmas.Bool.{true≢false}
use Rattle.std.proofs.lemmas.List.{length-map}
use Rattle.atlas_store.specs.declared.store.Store.{Store}
use Rattle.atlas_store.specs.declared.slots.NodeKind.TheVariants as kind
use Rattle.atlas_model.specs.Boxes.{Sides, side, IsPositive}
use Rattle.atlas_model.specs.Trees.{total}
use Rattle.atlas_model.specs.Changes.{grown_members}
use Rattle.atlas_store.specs.Slots.{nodes}
use Rattle.atlas_search.specs.Numbers.{no_slot, occurs}
use Rattle.atlas_store.specs.Slots.Lists.{is_free}
use Rattle.atlas_store.specs.Slots.Links.{with_mark}
use Rattle.atlas_store.specs.Slots.Numbered.{erase}
use Rattle.atlas_store.specs.Slots.Standing.{IsSlot}
use Rattle.atlas_store.specs.Stored.{Shelf, Holding, Holds}
use Rattle.atlas_store.specs.Store.Holdings.{shelf_of, node_in, HasSlotsFor, IsDetachedLeaf, KeepsRoom, with_detached, with_free_lists}
use Rattle.atlas_store.specs.Store.Holdings.{with_unused_list}
use Rattle.atlas_store.specs.Slots.Growing.{IsEnd, IsLone, last_slot, after_stretch, after_whole, after_append, after_nest}
use Rattle.atlas_store.specs.Store.StoreCalls.{ListsLeaf, UnlistsLeaf}
use Rattle.atlas_store.specs.Store.TopCalls.{IsAppended, IsEnlarged, IsExtendable, IsNested, IsStretched}
use Rattle.atlas_tree.specs.Plans.Growths.{IsTreeOf, IsGrownHolding, IsLengthenable, IsLengthened, IsWidenable, IsWidened, strip_after}
use Rattle.atlas_tree.specs.Plans.Growths.{strip_need}
use Rattle.atlas_store.proofs.StoreLemmas.FiledSlots.{with_mark-same, with_mark-other}
use Rattle.atlas_store.proofs.SlotLemmas.ReadTrees.{HasMember}
use Rattle.atlas_store.proofs.WalkLemmas.StoredAtlas.{nonempty-total}
use Rattle.atlas_model.proofs.TreeLemmas.TreeBasics.{side_positive}
use Rattle.atlas_store.proofs.StoreLemmas.StoreTakes.{slots-kept, fewer-slots}
use Rattle.atlas_store.proofs.SlotLemmas.Extensions.{first-stretched}
use Rattle.atlas_tree.proofs.PlanLemmas.GrownTrees.{last-inside, erase-stretched, erase-appended, first-appended}

-- A leaf that was listed, and is again.
listed-again : (detached : ℕ → Bool) (k : ℕ) → ((i : ℕ) → occurs i [] ≡ 0 → detached i ≡ false) → (i : ℕ)
    → occurs i [] ≡ 0 → with_mark (with_mark detached k true) k false i ≡ false
listed-again detached k only i z = grind (arith, with_mark-same, with_mark-other)

end_some : (size : Sides) (d last : ℕ) (h : Holding) → IsEnd size d last h → HasMember h.tree
end_some size d last h end = nonempty-total h.tree end.some

-- The last member is a slot.
pub last-slot : (v : Shelf) (h : Holding) → Holds v h → 0 < total (erase h.tree)
    → IsSlot (length v.slots) (last_slot h.tree)
last-slot v h holds some = grind (arith, last-inside, nonempty-total, length-map)

pub end-slot : (v : Shelf) (size : Sides) (d last : ℕ) (h : Holding) → Holds v h → IsEnd size d last h
    → IsSlot (length v.slots) last
end-slot v size d last h holds end = subst (IsSlot (length v.slots)) end.ends (last-slot v h holds end.some)

need-free : (v : Shelf) (last : ℕ) → (node_in v last).kind ≡ kind.Free → strip_need v last ≡ 0
need-free v last free = ap (λ k. strip_after (is_free k)) free

need-busy : (v : Shelf) (last : ℕ) → ((node_in v last).kind ≡ kind.Free → ⊥) → strip_need v last ≡ 1
need-busy v last busy = grind arith

-- The answer whether the last member is free says whether a strip takes a slot.
pub need-answer : (v : Shelf) (last : ℕ) (t : Bool) → (IsTrue t ↔ ((node_in v last).kind ≡ kind.Free))
    → cond (not t) 1 0 ≡ strip_need v last
need-answer v last true says = sym (need-free v last (says.0 refl))
need-answer v last false says = sym (need-busy v last (λ f. true≢false (sym (says.1 f))))

-- A free last member is taken out of its list, stretched and listed again.
module _ {A : Type 0} {v v1 : Store A} {size : Sides} {last d n : ℕ} {h : Holding} (s : IsLengthenable v size last d n h)
    (free : (node_in (shelf_of v) last).kind ≡ kind.Free) (w1 : UnlistsLeaf v v1 last) where
  taken_out : (free_lists : ℕ → List ℕ) × Holds (shelf_of v1) (with_detached last true (with_free_lists free_lists h))
  taken_out = w1.kept h s.holds (s.listed last refl)

  abbrev to_stretch : Holding
  to_stretch = with_detached last true (with_free_lists taken_out.0 h)

  stretch_leaf : IsDetachedLeaf (shelf_of v1) last to_stretch
  stretch_leaf = grind (arith, taken_out, with_mark-same)

  stretch_end : IsEnd size d last to_stretch
  stretch_end = record { start = s.end.start; ends = s.end.ends; some = s.end.some; along = s.end.along; across = s.end.across }

  pub stretch-ready : (h' : Holding) × (d : ℕ) × IsDetachedLeaf (shelf_of v1) last h' × IsEnd size d last h'
  stretch-ready = (to_stretch, d, stretch_leaf, stretch_end)

  module _ {v2 : Store A} (w2 : IsStretched v1 v2 size last) where
    stretched_leaf : IsDetachedLeaf (shelf_of v2) last (after_stretch d to_stretch)
    stretched_leaf = record {
      holds = w2.kept to_stretch d stretch_leaf stretch_end;
      kind = w2.free;
      detached = with_mark-same h.detached last true;
    }

    pub stretch-list : (h' : Holding) × IsDetachedLeaf (shelf_of v2) last h'
    stretch-list = (after_stretch d to_stretch, stretched_leaf)

    pub stretch-lengthened : {v3 : Store A} → ListsLeaf v2 v3 last
        → (h' : Holding) × IsLengthened v3 n d (strip_need (shelf_of v) last) h h'
    stretch-lengthened {v3} w3 =
        let got = w3.kept (after_stretch d to_stretch) stretched_leaf in
        let none : strip_need (shelf_of v) last ≡ 0 = need-free (shelf_of v) last free in
        let room : KeepsRoom v v3 = grind arith in
        let slots : HasSlotsFor (n + strip_need (shelf_of v) last) v3 h =
        slots-kept v v3 (n + strip_need (shelf_of v) last) h room s.slots in (
          with_detached last false (with_free_lists got.0 (after_stretch d to_stretch)),
          record {
            holds = got.1;
            listed = listed-again h.detached last s.listed;
            members =
                erase-stretched d (nodes v.slots.items) h.sequence no_slot 0 h.tree s.holds.stands.standing
                (subst (λ k. (node_in (shelf_of v) k).kind ≡ kind.Free) (sym s.end.ends) free) (λ _. end_some size d last h s.end);
            sequence = refl;
            first = first-stretched d h.tree;
            unused_list = omega (arith, none);
            slots = subst (λ k. HasSlotsFor k v3 h) (omega (arith, none)) slots;
          },
        )

-- There is a slot for a strip after any other last member.
pub append-ready : {A : Type 0} {v : Store A} {size : Sides} {last d n : ℕ} {h : Holding}
    → IsLengthenable v size last d n h
    → ((node_in (shelf_of v) last).kind ≡ kind.Free → ⊥)
    → (h' : Holding) × (d' : ℕ) × IsExtendable (shelf_of v) size last d' h' × HasSlotsFor 1 v h'
append-ready {A} {v} {size} {last} {d} {n} {h} s busy = grind (arith, need-busy, fewer-slots)

-- A strip is appended to any other last member, and listed.
module _ {A : Type 0} {v v1 : Store A} {size : Sides} {last k d n : ℕ} {h : Holding} (s : IsLengthenable v size last d n h)
    (busy : (node_in (shelf_of v) last).kind ≡ kind.Free → ⊥) (w1 : IsAppended v v1 size last k) where
  one_slot : HasSlotsFor (n + 1) v h
  one_slot = subst (λ j. HasSlotsFor (n + j) v h) (need-busy (shelf_of v) last busy) s.slots

  appended_to : (unused_list : List ℕ) × Holds (shelf_of v1) (with_unused_list unused_list (after_append k d h))
      × HasSlotsFor n v1 (with_unused_list unused_list h)
      × (length unused_list ≡ length h.unused_list - 1)
  appended_to = w1.kept d h n (record { holds = s.holds; end = s.end; more = s.more }) one_slot

  abbrev with_strip : Holding
  with_strip = with_unused_list appended_to.0 (after_append k d h)

  strip_leaf : IsDetachedLeaf (shelf_of v1) k with_strip
  strip_leaf = record { holds = appended_to.1; kind = w1.free; detached = with_mark-same h.detached k true }

  pub append-list : (h' : Holding) × IsDetachedLeaf (shelf_of v1) k h'
  append-list = (with_strip, strip_leaf)

  pub append-lengthened : {v2 : Store A} → ListsLeaf v1 v2 k
      → (h' : Holding) × IsLengthened v2 n d (strip_need (shelf_of v) last) h h'
  append-lengthened {v2} w2 =
      let got = w2.kept with_strip strip_leaf in
      let one : strip_need (shelf_of v) last ≡ 1 = need-busy (shelf_of v) last busy in (
        with_detached k false (with_free_lists got.0 with_strip),
        record {
          holds = got.1;
          listed = listed-again h.detached k s.listed;
          members =
              erase-appended k d (nodes v.slots.items) h.sequence no_slot 0 h.tree s.holds.stands.standing (rw s.end.ends busy);
          sequence = refl;
          first = first-appended k d h.tree (end_some size d last h s.end);
          unused_list = omega (arith, one, appended_to.3);
          slots = slots-kept v1 v2 n (with_unused_list appended_to.0 h) (grind arith) appended_to.2;
        },
      )

-- The top sequence is put into a new one, and the strip after it is listed.
module _ {A : Type 0} {v v1 : Store A} {inner size : Sides} {first c k d : ℕ} {h : Holding} (s : IsWidenable v inner size first d h)
    (w1 : IsNested v v1 inner size first c k) where
  nested : (unused_list : List ℕ) × Holds (shelf_of v1) (with_unused_list unused_list (after_nest c k d h))
      × HasSlotsFor 0 v1 (with_unused_list unused_list h)
      × (length unused_list ≡ length h.unused_list - 2)
  nested = w1.kept d h 0 s.nests s.slots

  abbrev with_nested : Holding
  with_nested = with_unused_list nested.0 (after_nest c k d h)

  nested_leaf : IsDetachedLeaf (shelf_of v1) k with_nested
  nested_leaf = record { holds = nested.1; kind = w1.free; detached = with_mark-same h.detached k true }

  pub nest-list : (h' : Holding) × IsDetachedLeaf (shelf_of v1) k h'
  nest-list = (with_nested, nested_leaf)

  pub nest-widened : {v2 : Store A} → ListsLeaf v1 v2 k → (h' : Holding) × IsWidened (shelf_of v2) c d h h'
  nest-widened w2 =
      let got = w2.kept with_nested nested_leaf in (
        with_detached k false (with_free_lists got.0 with_nested),
        record {
          holds = got.1;
          listed = listed-again h.detached k s.listed;
          members = refl;
          sequence = refl;
          first = refl;
          unused_list = nested.3;
        },
      )

-- One free leaf alone becomes as large as the new size.
module _ {A : Type 0} {v v1 : Store A} {at : ℕ} {old : Sides} {h : Holding} (t : IsTreeOf (shelf_of v) old at h) (alone : IsLone at h)
    (w1 : UnlistsLeaf v v1 at) where
  whole_out : (free_lists : ℕ → List ℕ) × Holds (shelf_of v1) (with_detached at true (with_free_lists free_lists h))
  whole_out = w1.kept h t.holds (t.listed at refl)

  abbrev to_enlarge : Holding
  to_enlarge = with_detached at true (with_free_lists whole_out.0 h)

  whole_free : (node_in (shelf_of v) at).kind ≡ kind.Free
  whole_free = grind arith

  whole_leaf : IsDetachedLeaf (shelf_of v1) at to_enlarge
  whole_leaf = grind (arith, whole_out, whole_free, with_mark-same)

  whole_lone : IsLone at to_enlarge
  whole_lone = record { start = alone.start; extent = alone.extent; tree = alone.tree }

  pub whole-ready : (h' : Holding) × IsDetachedLeaf (shelf_of v1) at h' × IsLone at h'
  whole-ready = (to_enlarge, whole_leaf, whole_lone)

  module _ {v2 : Store A} {size : Sides} (w2 : IsEnlarged v1 v2 size at) where
    enlarged_leaf : IsDetachedLeaf (shelf_of v2) at (after_whole size at to_enlarge)
    enlarged_leaf = record {
      holds = w2.kept to_enlarge whole_leaf whole_lone;
      kind = w2.free;
      detached = with_mark-same h.detached at true;
    }

    pub whole-list : (h' : Holding) × IsDetachedLeaf (shelf_of v2) at h'
    whole-list = (after_whole size at to_enlarge, enlarged_leaf)

    pub whole-grown : {v3 : Store A} → ListsLeaf v2 v3 at → IsPositive size
        → (h' : Holding) × IsGrownHolding (shelf_of v3) old size at 0 h h'
    whole-grown w3 positive =
        let got = w3.kept (after_whole size at to_enlarge) enlarged_leaf in
        let some : 0 < side h.sequence.axis size = side_positive h.sequence.axis size positive in (
          with_detached at false (with_free_lists got.0 (after_whole size at to_enlarge)),
          record {
            tree = record {
              holds = got.1;
              listed = listed-again h.detached at t.listed;
              spans = record { start = alone.start; begins = refl; some = omega (arith, some); along = omega arith; across = refl };
            };
            grown = ap (λ n. grown_members old size h.sequence.axis (erase n)) (sym alone.tree);
            unused_list = omega arith;
          },
        )
