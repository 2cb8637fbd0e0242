-- What a turn of a freeing does to the slots with their lists.
use Rattle.std.proofs.Common.{ℕ, ◌+◌, ◌<◌, ◌≤◌, ◌≡◌, List, [], ◌∷◌, refl, sym, ap, subst, ◌∙◌, ◌⊎◌, inl, inr, arith, length, true, false}
use Rattle.std.proofs.lemmas.Bool.{cases_lt}
use Rattle.std.proofs.lemmas.List.{length-map}
use Rattle.atlas_store.specs.declared.slots.Node.{Node}
use Rattle.atlas_store.specs.declared.slots.NodeKind.TheVariants as kind
use Rattle.atlas_store.specs.declared.store.Store.{Store}
use Rattle.atlas_model.specs.Trees.{IsNormal}
use Rattle.atlas_model.specs.Changes.{nf}
use Rattle.atlas_store.specs.Slots.Calm.{IsCalmAt, IsCalmBut, NoneEmpty}
use Rattle.atlas_store.specs.Slots.{nodes, rings}
use Rattle.atlas_search.specs.Numbers.{no_slot, same, occurs}
use Rattle.atlas_store.specs.Slots.Numbered.{erase, numbers, tally, marked, lifted, first_slot}
use Rattle.atlas_store.specs.Slots.Parts.{joined_node}
use Rattle.atlas_store.specs.Slots.Standing.{IsSlot, IsWhole, IsTree}
use Rattle.atlas_store.specs.Stored.{Shelf, Holding, Holds, IsDetachedOnly}
use Rattle.atlas_store.specs.Store.Holdings.{IsDetachedLeaf, KeepsRoom, node_in, with_detached, with_free_lists, after_mark, after_join}
use Rattle.atlas_store.specs.Store.Holdings.{after_lift}
use Rattle.atlas_store.specs.Store.Freeing.{IsSettlingAt, IsTurned, IsApartNext, IsApart, IsFreeable, IsFreed}
use Rattle.atlas_store.proofs.StoreLemmas.FiledSlots.{with_mark-same, with_mark-other}
use Rattle.atlas_search.proofs.Occurrences.{same-self, same-ne, ne-from_same}
use Rattle.atlas_store.proofs.SlotLemmas.Joins.{first-joined}
use Rattle.atlas_store.proofs.SlotLemmas.JoinWrites.{can-join, used-inside}
use Rattle.atlas_store.proofs.SlotLemmas.Lifts.{first-lifted}
use Rattle.atlas_store.proofs.SlotLemmas.MarkedLeaves.{first-marked, numbers-marked}
use Rattle.atlas_store.proofs.SlotLemmas.CalmTrees.{calm-Stands, full-from_normal, erase-marked_at}
use Rattle.atlas_model.proofs.TreeLemmas.TreeNormal.{nf-normal}
use Rattle.atlas_store.proofs.SlotLemmas.Normal.{nf-joined, nf-lifted}
use Rattle.atlas_store.proofs.SlotLemmas.ReadTrees.{numbers-less, numbers-few}
use Rattle.atlas_store.proofs.SlotLemmas.SettledTrees.{IsSettlingTree, full-joined, full-lifted, full-marked, settled, next-slot}
use Rattle.atlas_store.proofs.SlotLemmas.SettledTrees.{previous-slot, previous-leads}

pub few-slots : (v : Shelf) (h : Holding) → Holds v h → length (nodes v.slots) ≤ 16777216
few-slots v h w = simp length-map w.short

count-nodes : (v : Shelf) → length (nodes v.slots) ≡ length v.slots
count-nodes v = simp length-map

pub settling-tree_of : (v : Shelf) (at : ℕ) (h : Holding) → IsSettlingAt v at h
    → IsSettlingTree (nodes v.slots) h.sequence h.tree at
settling-tree_of v at h w = grind arith

whole-of : (v : Shelf) (h : Holding) → Holds v h → IsWhole (nodes v.slots)
whole-of v h w = (h.sequence, h.tree, w.top, w.stands)

tree-in : (v : Shelf) (h : Holding) → Holds v h → IsTree (nodes v.slots)
tree-in v h w = (h.sequence, h.tree, w.stands)

-- The neighbours of the leaf at work are slots or none.

pub next-inside : (v : Shelf) (at m : ℕ) (n : Node) → ((h : Holding) × IsSettlingAt v at h) → n ≡ node_in v at
    → m ≡ length v.slots → IsSlot m n.next.number
next-inside v at m n t e em = grind (arith, next-slot, whole-of, count-nodes)

pub previous-inside : (v : Shelf) (at m : ℕ) (n : Node) → ((h : Holding) × IsSettlingAt v at h) → n ≡ node_in v at
    → m ≡ length v.slots → IsSlot m n.previous.number
previous-inside v at m n t e em = grind (arith, few-slots, previous-slot, whole-of, count-nodes)

-- A slot other than the one at work stands in its list.
listed : (v : Shelf) (at x : ℕ) (h : Holding) → IsSettlingAt v at h → (x ≡ at → ⊥) → h.detached x ≡ false
listed v at x h w ne = w.only x (omega (arith, same-ne x at ne))

-- Two neighbours are free, the later one comes next, and no other free slot is detached: they can be joined.
pub record IsJoinable (v : Shelf) (i j at : ℕ) (h : Holding) : Type 0 where
  pub holds : Holds v h
  pub free : (node_in v i).kind ≡ kind.Free
  pub next : (node_in v i).next.number ≡ j
  pub next_free : (node_in v j).kind ≡ kind.Free
  pub detached : h.detached i ≡ true
  pub next_detached : h.detached j ≡ true
  pub only : IsDetachedOnly (i ∷ j ∷ []) h
  pub apart : j ≡ i → ⊥
  pub which : (at ≡ i) ⊎ (at ≡ j)
  pub calm : IsCalmBut (nodes v.slots) at
  pub full : NoneEmpty (erase h.tree)

apart-next : (v : Shelf) (i j : ℕ) (h : Holding) → Holds v h → (node_in v i).kind ≡ kind.Free
    → (node_in v i).next.number ≡ j → (node_in v j).kind ≡ kind.Free → j ≡ i → ⊥
apart-next v i j h w fi e fj = grind (arith, few-slots, can-join, tree-in)

leads-here : (v : Shelf) (at x : ℕ) (h : Holding) → IsSettlingAt v at h → x ≡ (node_in v at).previous.number
    → (node_in v x).kind ≡ kind.Free → (node_in v x).next.number ≡ at
leads-here v at x h w e f = grind (arith, few-slots, previous-leads, whole-of)

-- Only the leaf at work and the one that was taken out of its list are detached.
only-two : (i j : ℕ) (h : Holding) (free_lists : ℕ → List ℕ) → IsDetachedOnly (i ∷ []) h
    → IsDetachedOnly (i ∷ j ∷ []) (with_detached j true (with_free_lists free_lists h))
only-two i j h free_lists only k z = grind (arith, ne-from_same, with_mark-other, only, same-ne)

pub next-listed : (v : Shelf) (at x : ℕ) (h : Holding) → IsSettlingAt v at h → x ≡ (node_in v at).next.number
    → (node_in v x).kind ≡ kind.Free → h.detached x ≡ false
next-listed v at x h w e f = listed v at x h w (apart-next v at x h w.leaf.holds w.leaf.kind (sym e) f)

pub previous-listed : (v : Shelf) (at x : ℕ) (h : Holding) → IsSettlingAt v at h → x ≡ (node_in v at).previous.number
    → (node_in v x).kind ≡ kind.Free → h.detached x ≡ false
previous-listed v at x h w e f = grind (arith, listed, apart-next, leads-here)

pub joinable-next : (v u : Shelf) (at x : ℕ) (h : Holding) (free_lists : ℕ → List ℕ) → IsSettlingAt v at h
    → x ≡ (node_in v at).next.number → (node_in v x).kind ≡ kind.Free → nodes u.slots ≡ nodes v.slots
    → Holds u (with_detached x true (with_free_lists free_lists h))
    → IsJoinable u at x at (with_detached x true (with_free_lists free_lists h))
joinable-next v u at x h free_lists w e f same_nodes holds =
    grind (arith, apart-next, with_mark-other, with_mark-same, only-two)

pub joinable-previous : (v u : Shelf) (at x : ℕ) (h : Holding) (free_lists : ℕ → List ℕ) → IsSettlingAt v at h
    → x ≡ (node_in v at).previous.number → (node_in v x).kind ≡ kind.Free → nodes u.slots ≡ nodes v.slots
    → Holds u (with_detached x true (with_free_lists free_lists h))
    → IsJoinable u x at at (with_detached x true (with_free_lists free_lists h))
joinable-previous v u at x h free_lists w e f same_nodes holds =
    grind (arith, leads-here, apart-next, with_mark-same, with_mark-other, only-two)

-- One slot was given back, so there is one member fewer.
pub fewer-given : (v u : Shelf) (h less : Holding) (j : ℕ) → Holds v h → Holds u less → length u.slots ≡ length v.slots
    → less.unused_list ≡ j ∷ h.unused_list → numbers less.tree + 1 ≡ numbers h.tree
fewer-given v u h less j w k same_length given =
    let lj : j < length (rings u.slots) = (rw given at k.filed.line).0 in
    let nv : length (nodes v.slots) ≡ length v.slots = simp length-map in
    let nu : length (nodes u.slots) ≡ length u.slots = simp length-map in
    let rv : length (rings v.slots) ≡ length v.slots = simp length-map in
    let ru : length (rings u.slots) ≡ length u.slots = simp length-map in
    let unused_list : (x : ℕ) → occurs x less.unused_list ≡ same x j + occurs x h.unused_list = λ x. ap (occurs x) given in
    let tallies : (x : ℕ) → tally x less.tree + same x j ≡ tally x h.tree = λ x. elim (cases_lt x (length v.slots)) [
      | inl l ↦ omega (
        arith,
        w.filed.each x (omega arith),
        k.filed.each x (omega arith),
        w.stands.numbered x,
        k.stands.numbered x,
        unused_list x,
      )
      | inr g ↦ omega (arith, beyond v h x w g, beyond u less x k (omega arith), same-ne x j (λ q. absurd (omega arith)))
    ] in
    numbers-less (length (nodes v.slots)) j h.tree less.tree (omega arith)
    (λ x c. used-inside (nodes v.slots) x (rw (← w.stands.numbered x) c)) tallies
  where
    beyond : (v : Shelf) (h : Holding) (x : ℕ) → Holds v h → length v.slots ≤ x → tally x h.tree ≡ 0
    beyond v h x w g =
        let nv : length (nodes v.slots) ≡ length v.slots = simp length-map in
        grind (arith, cases_lt 0 (tally x h.tree), used-inside (nodes v.slots) x)

-- An unused slot is not free.
unused_list-apart : (u : Shelf) (less : Holding) (c j : ℕ) (rest : List ℕ) → Holds u less → less.unused_list ≡ j ∷ rest
    → (node_in u c).kind ≡ kind.Free → c ≡ j → ⊥
unused_list-apart u less c j rest k given f e = grind (arith, same-self)

-- What a join makes of two leaves that can be joined.
pub settling-joined : (v u : Shelf) (i j at : ℕ) (h : Holding) → IsJoinable v i j at h
    → Holds u (after_join i (node_in v i).next.number h) → length u.slots ≡ length v.slots → IsCalmBut (nodes u.slots) i
    → node_in u i ≡ joined_node (node_in v i) (node_in v j)
    → (less : Holding) × IsSettlingAt u i less × IsTurned 1 h less
settling-joined v u i j at h w was same_length calm leaf =
    let k : Holds u (after_join i j h) = subst (λ x. Holds u (after_join i x h)) w.next was in (
      after_join i j h,
      record {
        leaf = record {
          holds = k;
          kind = ap (λ (n : Node). n.kind) leaf ∙ w.free;
          detached =
              with_mark-other h.detached j false i (λ q. w.apart (sym q)) ∙ w.detached;
        };
        only = grind (arith, with_mark-same, with_mark-other, w.only, same-ne);
        calm = calm;
        full = full-joined i h.tree w.full;
      },
      record {
        same_nf = nf-joined i h.tree;
        fewer = fewer-given v u h (after_join i j h) j w.holds k same_length refl;
        sequence = refl;
        first = first-joined i h.tree;
      },
    )

-- What no longer is free wasn't free.
abbrev pub NoneFreed : (v u : Shelf) → Type 0
NoneFreed v u = (k : ℕ) → (node_in u k).kind ≡ kind.Free → (node_in v k).kind ≡ kind.Free

-- After a leaf that took in the next one nothing is free, since that one was calm.
pub apart-next_joined : (v u : Shelf) (i j : ℕ) (h : Holding) → IsJoinable v i j i h
    → node_in u i ≡ joined_node (node_in v i) (node_in v j) → NoneFreed v u → IsApartNext u i
apart-next_joined v u i j h w leaf frees f =
    let e : (node_in u i).next.number ≡ (node_in v j).next.number = ap (λ (n : Node). n.next.number) leaf in
    let back : (node_in v (node_in v j).next.number).kind ≡ kind.Free = frees _ (rw (← e) f) in
    let can = can-join (nodes v.slots) i j _ (omega (arith, few-slots v h w.holds)) (tree-in v h w.holds) w.free w.next w.next_free refl in
    can.apart.1 (w.calm.apart j w.apart w.next_free back)

-- Nothing beside a leaf that was taken in by the previous one is free, since that one was calm.
pub apart-previous_joined : (v u : Shelf) (i j : ℕ) (h : Holding) → IsJoinable v i j j h → IsApartNext v j
    → node_in u i ≡ joined_node (node_in v i) (node_in v j) → NoneFreed v u → IsApart u i
apart-previous_joined v u i j h w next leaf frees =
    let en : (node_in u i).next.number ≡ (node_in v j).next.number = ap (λ (n : Node). n.next.number) leaf in
    let ep : (node_in u i).previous.number ≡ (node_in v i).previous.number = ap (λ (n : Node). n.previous.number) leaf in
    record {
      next = λ f. next (frees _ (rw (← en) f));
      previous = λ f.
          let q = (node_in v i).previous.number in
          let free : (node_in v q).kind ≡ kind.Free = frees _ (rw (← ep) f) in
          let leads : (node_in v q).next.number ≡ i = previous-leads (nodes v.slots) i (omega (arith, few-slots v h w.holds))
          (whole-of v h w.holds) w.free free in
          grind (arith, w.calm.apart);
    }

-- Turns of a tree are those of the same tree with other lists.
pub turned-same : (n : ℕ) (h free_lists less : Holding) → free_lists.tree ≡ h.tree → free_lists.sequence ≡ h.sequence
    → IsTurned n free_lists less → IsTurned n h less
turned-same n h free_lists less et es w = grind arith

pub turned-none : (h : Holding) → IsTurned 0 h h
turned-none h = grind arith

pub turned-then : (n k : ℕ) (h m less : Holding) → IsTurned n h m → IsTurned k m less → IsTurned (n + k) h less
turned-then n k h m less x y = grind arith

-- What a lift makes of the leaf at work.
pub settling-lifted : (v u : Shelf) (c at : ℕ) (h : Holding) → IsSettlingAt v at h → Holds u (after_lift c at h)
    → length u.slots ≡ length v.slots → IsCalmBut (nodes u.slots) c → (node_in u c).kind ≡ kind.Free
    → (less : Holding) × IsSettlingAt u c less × IsTurned 1 h less
settling-lifted v u c at h w k same_length calm free =
    let ne : c ≡ at → ⊥ = unused_list-apart u (after_lift c at h) c at h.unused_list k refl free in
    let outer = with_detached c true (record h { tree = lifted c h.tree }) in (
      after_lift c at h,
      record {
        leaf = record {
          holds = k;
          kind = free;
          detached = with_mark-other outer.detached at false c ne ∙
              with_mark-same h.detached c true;
        };
        only = grind (arith, with_mark-same, same-self, with_mark-other, same-ne);
        calm = calm;
        full = full-lifted c h.tree w.full;
      },
      record {
        same_nf = nf-lifted c h.tree;
        fewer = fewer-given v u h (after_lift c at h) at w.leaf.holds k same_length refl;
        sequence = refl;
        first = first-lifted c h.tree;
      },
    )

-- Where no neighbour is free and the leaf isn't alone in a container, the tree is normal.
pub settled-at : (v : Shelf) (at : ℕ) (n : Node) (h : Holding) → n ≡ node_in v at → IsSettlingAt v at h → IsApart v at
    → (n.previous.number ≡ no_slot → n.next.number ≡ no_slot → n.parent.number ≡ no_slot) → IsNormal (erase h.tree)
settled-at v at n h e w apart alone = grind (arith, few-slots, settled, settling-tree_of)

-- A freeing between two turns, from the tree of h on: n slots were given back, and slot `at` of the tree of m settles.
pub record IsFreeing (now : Shelf) (slot at n : ℕ) (h m : Holding) : Type 0 where
  pub settling : IsSettlingAt now at m
  pub same_nf : nf (erase m.tree) ≡ nf (erase (marked slot h.tree))
  pub given : numbers m.tree + n ≡ numbers h.tree
  pub sequence : m.sequence ≡ h.sequence
  pub first : first_slot m.tree ≡ first_slot h.tree

pub granted-inside : (v : Shelf) (i : ℕ) → (node_in v i).kind ≡ kind.Alloc → i < length (nodes v.slots)
granted-inside v i was = used-inside (nodes v.slots) i (rw was (omega arith))

-- A marking begins a freeing.
pub freeing-marked : (v u : Shelf) (i : ℕ) (n : Node) (h : Holding) → IsFreeable v i h → Holds u (after_mark i h)
    → (((k : ℕ) → IsCalmAt (nodes v.slots) k) → IsCalmBut (nodes u.slots) i)
    → node_in u i ≡ record n { kind = kind.Free } → IsFreeing u i i 0 h (after_mark i h)
freeing-marked v u i n h w k calm free =
    let few = few-slots v h w.holds in
    let inside = granted-inside v i w.granted in
    record {
      settling = record {
        leaf = record { holds = k; kind = ap (λ (n : Node). n.kind) free; detached = with_mark-same h.detached i true };
        only = λ x z. with_mark-other h.detached i true x (λ q. absurd (omega (arith, same-self i, ap (λ v. same v i) q))) ∙ w.only x refl;
        calm = calm (calm-Stands (nodes v.slots) h.sequence h.tree (omega arith) w.holds.top w.holds.stands w.normal);
        full = full-marked i h.tree (full-from_normal (erase h.tree) w.normal);
      };
      same_nf = refl;
      given = omega (arith, numbers-marked i h.tree);
      sequence = refl;
      first = first-marked i h.tree;
    }

-- Turns go on with it.
pub freeing-turned : (u : Shelf) (i next n k : ℕ) (h m less : Holding) (at : ℕ) (now : Shelf) → IsFreeing now i at n h m
    → IsSettlingAt u next less → IsTurned k m less → IsFreeing u i next (n + k) h less
freeing-turned u i next n k h m less at now w s t = grind arith

-- There are no more turns than slots.
pub freeing-short : (v u : Shelf) (i at n : ℕ) (h m : Holding) → IsFreeable v i h → IsFreeing u i at n h m
    → n < length v.slots
freeing-short v u i at n h m w f = grind (arith, length-map, numbers-few)

-- And ends it where the tree is normal and the leaf is listed.
pub freed-listed : (v now u : Shelf) (i at n : ℕ) (h m : Holding) (free_lists : ℕ → List ℕ) → IsFreeable v i h
    → IsFreeing now i at n h m → IsNormal (erase m.tree)
    → Holds u (with_detached at false (with_free_lists free_lists m))
    → IsFreed v u i n h (with_detached at false (with_free_lists free_lists m))
freed-listed v now u i at n h m free_lists w f normal k =
    grind (arith, few-slots, with_mark-same, with_mark-other, same-ne, nf-normal, erase-marked_at, granted-inside)

-- A leaf is as detached on the same slots.
pub detached-same : (v u : Shelf) (at : ℕ) (h : Holding) → u ≡ v → IsSettlingAt v at h → IsDetachedLeaf u at h
detached-same v u at h e w = rw e w.leaf

-- Rooms are kept one after another.
pub keeps-room : {A : Type 0} (a b c : Store A) → KeepsRoom a b → KeepsRoom b c → KeepsRoom a c
keeps-room a b c x y = grind arith
