-- The tree that links lead through, and that it stands where each member agrees with its neighbours.
use Rattle.std.proofs.Common.{ℕ, ◌+◌, ◌<◌, ◌≤◌, ◌≡◌, ◌≢◌, ◌⊎◌, List, refl, sym, ap, ◌∙◌, inl, inr, arith, zero, suc, subst}
use Rattle.std.proofs.lemmas.Bool.{cases_eq}
use Rattle.atlas_image.specs.Members.{IsUsed}
use Rattle.atlas_image.proofs.ImageLemmas.Spans.{sequence_of, place_of}
use Rattle.atlas_model.specs.Pixels.{rectangle_of}
use Rattle.atlas_model.specs.Trees.{IsCut, total}
use Rattle.atlas_search.specs.Numbers.{no_slot}
use Rattle.atlas_store.specs.declared.slots.Node.{Node}
use Rattle.atlas_store.specs.declared.slots.NodeKind.{NodeKind}
use Rattle.atlas_store.specs.declared.slots.NodeKind.TheVariants as kind
use Rattle.atlas_store.specs.Slots.{node_at, use_count}
use Rattle.atlas_store.specs.Slots.Numbered.{Numbered, erase, first_slot, End, Free, Alloc, Seq}
use Rattle.atlas_store.specs.Slots.Reading.{built, extent_of}
use Rattle.atlas_store.specs.Slots.Standing.{Sequence, Standing, inside, member_box}

-- The members from slot i on, in so many steps, where `d` has the first member of each container.
abbrev pub grown : ℕ → List Node → (d : ℕ → ℕ) → ℕ → Numbered
grown zero ns d i = End
grown (suc fuel) ns d i =
    built (node_at ns i).kind i (node_at ns i) (grown fuel ns d (d i)) (grown fuel ns d (node_at ns i).next.number)

-- Slot j follows slot i in a sequence; `ends` is where that ends, and ranks rise.
pub record IsNextIn (ns : List Node) (r : ℕ → ℕ) (ends : Node → ℕ) (i j : ℕ) : Type 0 where
  pub used : IsUsed (node_at ns j)
  pub previous : (node_at ns j).previous.number ≡ i
  pub sequence : sequence_of (node_at ns j) ≡ sequence_of (node_at ns i)
  pub place : place_of (node_at ns j) ≡ place_of (node_at ns i) + extent_of (node_at ns i)
  pub until : ends (node_at ns j) ≡ ends (node_at ns i)
  pub rank : r i < r j

-- Slot c comes first in the container of slot i.
pub record IsInnerIn (ns : List Node) (r : ℕ → ℕ) (ends : Node → ℕ) (i c : ℕ) : Type 0 where
  pub used : IsUsed (node_at ns c)
  pub previous : (node_at ns c).previous.number ≡ no_slot
  pub parent : (node_at ns c).parent.number ≡ i
  pub sequence : sequence_of (node_at ns c)
      ≡ inside (sequence_of (node_at ns i)) i (place_of (node_at ns i)) (extent_of (node_at ns i))
  pub place : place_of (node_at ns c) ≡ (sequence_of (node_at ns i)).start
  pub until : ends (node_at ns c) ≡ (sequence_of (node_at ns i)).start + (sequence_of (node_at ns i)).width
  pub rank : r i < r c

-- A used slot that agrees with those that follow it and that it holds.
pub record IsJoint (ns : List Node) (d r : ℕ → ℕ) (ends : Node → ℕ) (i : ℕ) : Type 0 where
  pub area : (node_at ns i).area
      ≡ rectangle_of (member_box (sequence_of (node_at ns i)) (place_of (node_at ns i)) (extent_of (node_at ns i)))
  pub extent : 0 < extent_of (node_at ns i)
  pub last : (node_at ns i).next.number ≡ no_slot
      → place_of (node_at ns i) + extent_of (node_at ns i) ≡ ends (node_at ns i)
  pub next : (node_at ns i).next.number ≢ no_slot → IsNextIn ns r ends i (node_at ns i).next.number
  pub inner : (node_at ns i).kind ≡ kind.Container → IsInnerIn ns r ends i (d i)

-- Each used slot does, and ranks are below m.
pub record AreJoints (ns : List Node) (d r : ℕ → ℕ) (ends : Node → ℕ) (m : ℕ) : Type 0 where
  pub joint : (i : ℕ) → IsUsed (node_at ns i) → IsJoint ns d r ends i
  pub below : (i : ℕ) → r i < m
  pub none : (node_at ns no_slot).kind ≡ kind.Unused

-- The members t stand from slot i on, to the end of its sequence.
pub record IsTreeAt (ns : List Node) (ends : Node → ℕ) (i : ℕ) (t : Numbered) : Type 0 where
  pub stands : Standing ns (sequence_of (node_at ns i)) (node_at ns i).previous.number (place_of (node_at ns i)) t
  pub first : first_slot t ≡ i
  pub along : place_of (node_at ns i) + total (erase t) ≡ ends (node_at ns i)
  pub cut : IsCut (sequence_of (node_at ns i)).width (erase t)

-- They stand after slot i.
pub record IsRestAt (ns : List Node) (ends : Node → ℕ) (i : ℕ) (t : Numbered) : Type 0 where
  pub stands : Standing ns (sequence_of (node_at ns i)) i (place_of (node_at ns i) + extent_of (node_at ns i)) t
  pub first : first_slot t ≡ (node_at ns i).next.number
  pub along : place_of (node_at ns i) + extent_of (node_at ns i) + total (erase t) ≡ ends (node_at ns i)
  pub cut : IsCut (sequence_of (node_at ns i)).width (erase t)

-- What a used slot is used for.
pub kinds : (k : NodeKind) → 0 < use_count k → (k ≡ kind.Container) ⊎ ((k ≡ kind.Alloc) ⊎ (k ≡ kind.Free))
kinds kind.Container h = inl refl
kinds kind.Alloc h = inr (inl refl)
kinds kind.Free h = inr (inr refl)
kinds kind.Unused h = absurd (omega arith)

built_container : (k : NodeKind) (i : ℕ) (n : Node) (inner rest : Numbered) → k ≡ kind.Container
    → built k i n inner rest ≡ Seq i (extent_of n) inner rest
built_container k i n inner rest e = rw e refl

built_alloc : (k : NodeKind) (i : ℕ) (n : Node) (inner rest : Numbered) → k ≡ kind.Alloc
    → built k i n inner rest ≡ Alloc i n.generation (extent_of n) rest
built_alloc k i n inner rest e = rw e refl

built_free : (k : NodeKind) (i : ℕ) (n : Node) (inner rest : Numbered) → k ≡ kind.Free
    → built k i n inner rest ≡ Free i (extent_of n) rest
built_free k i n inner rest e = rw e refl

built_unused : (k : NodeKind) (i : ℕ) (n : Node) (inner rest : Numbered) → k ≡ kind.Unused
    → built k i n inner rest ≡ End
built_unused k i n inner rest e = rw e refl

-- One step, by what a slot is used for.
module _ (ns : List Node) (d : ℕ → ℕ) (fuel i : ℕ) where
  pub grown-container : (node_at ns i).kind ≡ kind.Container
      → grown (suc fuel) ns d i
      ≡ Seq i (extent_of (node_at ns i)) (grown fuel ns d (d i)) (grown fuel ns d (node_at ns i).next.number)
  grown-container e = built_container _ _ _ _ _ e

  pub grown-alloc : (node_at ns i).kind ≡ kind.Alloc
      → grown (suc fuel) ns d i
      ≡ Alloc i (node_at ns i).generation (extent_of (node_at ns i)) (grown fuel ns d (node_at ns i).next.number)
  grown-alloc e = built_alloc _ _ _ _ _ e

  pub grown-free : (node_at ns i).kind ≡ kind.Free
      → grown (suc fuel) ns d i ≡ Free i (extent_of (node_at ns i)) (grown fuel ns d (node_at ns i).next.number)
  grown-free e = built_free _ _ _ _ _ e

pub grown-none : (ns : List Node) (d : ℕ → ℕ) (fuel i : ℕ) → (node_at ns i).kind ≡ kind.Unused → grown fuel ns d i ≡ End
grown-none ns d zero i e = refl
grown-none ns d (suc fuel) i e = built_unused _ _ _ _ _ e

moved : (ns : List Node) (s u : Sequence) (b c p q : ℕ) (t : Numbered) → s ≡ u → b ≡ c → p ≡ q → Standing ns s b p t
    → Standing ns u c q t
moved ns s u b c p q t e f g h = rw (← e, ← f, ← g) h

cut_moved : (s u : Sequence) (t : Numbered) → s ≡ u → IsCut s.width (erase t) → IsCut u.width (erase t)
cut_moved s u t e h = rw (← e) h

module _ (ns : List Node) (d r : ℕ → ℕ) (ends : Node → ℕ) (i : ℕ) (j : IsJoint ns d r ends i) where
  -- Nothing comes after the last member.
  last_rest : (node_at ns i).next.number ≡ no_slot → IsRestAt ns ends i End
  last_rest e = record { stands = tt; first = sym e; along = omega (arith, j.last e); cut = tt }

  -- What comes after another one is what stands from the next one on.
  next_rest : (t : Numbered) → IsNextIn ns r ends i (node_at ns i).next.number
      → IsTreeAt ns ends (node_at ns i).next.number t → IsRestAt ns ends i t
  next_rest t n h =
      record {
        stands = moved ns _ _ _ _ _ _ t n.sequence n.previous n.place h.stands;
        first = h.first;
        along = omega (arith, h.along, n.place, n.until);
        cut = cut_moved _ _ t n.sequence h.cut;
      }

  free_at : (rest : Numbered) → (node_at ns i).kind ≡ kind.Free → IsRestAt ns ends i rest
      → IsTreeAt ns ends i (Free i (extent_of (node_at ns i)) rest)
  free_at rest k h =
      record {
        stands = (
          record { parent = refl; previous = refl; next = sym h.first; kind = k; axis = refl },
          j.area,
          h.stands,
        );
        first = refl;
        along = omega (arith, h.along);
        cut = (j.extent, h.cut);
      }

  alloc_at : (rest : Numbered) → (node_at ns i).kind ≡ kind.Alloc → IsRestAt ns ends i rest
      → IsTreeAt ns ends i (Alloc i (node_at ns i).generation (extent_of (node_at ns i)) rest)
  alloc_at rest k h =
      record {
        stands = (
          record { parent = refl; previous = refl; next = sym h.first; kind = k; axis = refl },
          j.area,
          refl,
          h.stands,
        );
        first = refl;
        along = omega (arith, h.along);
        cut = (j.extent, h.cut);
      }

  container_at : (inner rest : Numbered) → (node_at ns i).kind ≡ kind.Container → IsInnerIn ns r ends i (d i)
      → IsTreeAt ns ends (d i) inner → IsRestAt ns ends i rest
      → IsTreeAt ns ends i (Seq i (extent_of (node_at ns i)) inner rest)
  container_at inner rest k n g h =
      record {
        stands = (
          record { parent = refl; previous = refl; next = sym h.first; kind = k; axis = refl },
          j.area,
          moved ns _ _ _ _ _ _ inner n.sequence n.previous n.place g.stands,
          h.stands,
        );
        first = refl;
        along = omega (arith, h.along);
        cut = (j.extent, omega (arith, g.along, n.place, n.until), cut_moved _ _ inner n.sequence g.cut, h.cut);
      }

module _ (ns : List Node) (d r : ℕ → ℕ) (ends : Node → ℕ) (m : ℕ) (all : AreJoints ns d r ends m) where
  -- The tree that is grown from a used slot stands.
  pub grown-stands : (fuel i : ℕ) → IsUsed (node_at ns i) → m ≤ fuel + r i → IsTreeAt ns ends i (grown fuel ns d i)
  grown-stands zero i u l = absurd (omega (arith, all.below i))
  grown-stands (suc fuel) i u l =
      let j = all.joint i u in
      let next = (node_at ns i).next.number in
      let rest : IsRestAt ns ends i (grown fuel ns d next) = elim (cases_eq next no_slot) [
        | inl e ↦ subst (IsRestAt ns ends i) (sym (grown-none ns d fuel next (ap (λ v. (node_at ns v).kind) e ∙ all.none)))
            (last_rest ns d r ends i j e)
        | inr ne ↦
            let n = j.next ne in
            next_rest ns d r ends i j (grown fuel ns d next) n (grown-stands fuel next n.used (omega (arith, n.rank)))
      ] in
      elim (kinds (node_at ns i).kind u) [
        | inl k ↦
            let n = j.inner k in
            subst (IsTreeAt ns ends i) (sym (grown-container ns d fuel i k))
            (container_at ns d r ends i j (grown fuel ns d (d i)) (grown fuel ns d next) k n
            (grown-stands fuel (d i) n.used (omega (arith, n.rank))) rest)
        | inr (inl k) ↦ subst (IsTreeAt ns ends i) (sym (grown-alloc ns d fuel i k))
            (alloc_at ns d r ends i j (grown fuel ns d next) k rest)
        | inr (inr k) ↦ subst (IsTreeAt ns ends i) (sym (grown-free ns d fuel i k))
            (free_at ns d r ends i j (grown fuel ns d next) k rest)
      ]
