-- An atlas made of plain data.
use Rattle.std.proofs.Common.{ℕ, ◌<◌, ◌≤◌, ◌≡◌, ◌^◌, List, [], ◌∷◌, refl, sym, ap, ◌∙◌, arith, length, map, subst, zero, suc}
use Rattle.std.proofs.lemmas.List.{length-map}
use Rattle.atlas_allocator.specs.Images.{image_of, state_in}
use Rattle.atlas_image.specs.Imaged.{AreImaged, IsTreeOfNodes, used_below}
use Rattle.atlas_image.proofs.ImageLemmas.AlignedGrants.{AreAligned, aligned-Standing, ids-apart}
use Rattle.atlas_image.proofs.ImageLemmas.Joints.{used-numbers}
use Rattle.atlas_model.specs.declared.geometry.Size.{Size}
use Rattle.atlas_model.specs.declared.options.AllocatorOptions.{AllocatorOptions}
use Rattle.atlas_model.specs.Boxes.{Axis, IsPositive, Sides, other, side}
use Rattle.atlas_model.specs.Boxes.Axis.{Horizontal, Vertical}
use Rattle.atlas_model.specs.Choice.{AreValid}
use Rattle.atlas_model.specs.Pixels.{natural, options_of, sides_of}
use Rattle.atlas_model.specs.States.{IsSound}
use Rattle.atlas_model.specs.Trees.{most_slots}
use Rattle.atlas_model.proofs.TreeLemmas.TreeBasics.{live_among, side_positive}
use Rattle.atlas_search.specs.declared.link.Link.{Link}
use Rattle.atlas_search.specs.Numbers.{no_slot}
use Rattle.atlas_store.specs.declared.slots.Node.{Node}
use Rattle.atlas_store.specs.declared.slots.NodeKind.{NodeKind}
use Rattle.atlas_store.specs.declared.slots.NodeKind.TheVariants as kind
use Rattle.atlas_store.specs.declared.slots.Slot.{Slot}
use Rattle.atlas_store.specs.Slots.{node_at, node_of, nodes, use_count}
use Rattle.atlas_store.specs.Slots.Growing.{top_along}
use Rattle.atlas_store.specs.Slots.Numbered.{Numbered, erase, first_slot, numbers}
use Rattle.atlas_store.specs.Slots.Reading.{tree_of}
use Rattle.atlas_store.specs.Slots.Standing.{Sequence, Stands}
use Rattle.atlas_store.specs.declared.store.Store.{Store}
use Rattle.atlas_store.specs.Store.Holdings.{shelf_of}
use Rattle.atlas_store.specs.Store.Restoring.{CanRestore, IsRestored, StandWhole, image_node, next_of}
use Rattle.atlas_store.specs.Stored.{AtlasValue, Holding, Holds, IsAtlas, IsDetachedOnly, Stored, state_of}
use Rattle.atlas_store.proofs.SlotLemmas.Frames.{Standing-same}
use Rattle.atlas_store.proofs.SlotLemmas.Normal.{numbers-erase}
use Rattle.atlas_store.proofs.SlotLemmas.ReadTrees.{HasMember, numbers-few, tree_of-Stands}
use Rattle.atlas_store.proofs.SlotLemmas.Spots.{spot-origin}
use Rattle.atlas_store.proofs.StoreLemmas.Sizes.{size_is}
use Rattle.atlas_store.proofs.WalkLemmas.StoredAtlas.{nonempty-IsAtlas, nonempty-total}

side_below : (a : Axis) (s : Sides) (m : ℕ) → s.width < m → s.height < m → side a s < m
side_below Horizontal s m w h = w
side_below Vertical s m w h = h

-- The sequence of the tree's members.
abbrev pub whole_in : Axis → Sides → Sequence
whole_in a size = top_along a (side (other a) size)

module _ (ns : List Node) (size : Sides) (options : AllocatorOptions) (first : ℕ) (n : Numbered)
    (t : IsTreeOfNodes ns size options first n) (positive : IsPositive size) where
  abbrev s : Sequence
  s = whole_in t.axis size

  -- What a store asks of the nodes.
  pub stand-whole : size.width < 2 ^ 31 → size.height < 2 ^ 31 → StandWhole ns s n
  stand-whole w h =
      record {
        top = refl;
        stands = t.stands;
        cut = t.cut;
        wide = side_positive (other t.axis) size positive;
        across = omega (arith, side_below (other t.axis) size (2 ^ 31) w h);
        along = omega (arith, t.along, side_below t.axis size (2 ^ 31) w h);
      }

  -- The tree that is read from the nodes.
  tree_is : length ns < no_slot → tree_of ns ≡ record { axis = t.axis; members = erase n }
  tree_is short = tree_of-Stands ns s n short refl t.stands
      (nonempty-total n (omega (arith, t.along, side_positive t.axis size positive)))

  -- A state with this tree is sound.
  tree_sound : (limit kept : ℕ) → AreValid (options_of options) → length ns ≡ kept → kept ≤ limit → length ns ≤ 2 ^ 24
      → IsSound (record {
        tree = record { axis = t.axis; members = erase n };
        size = size;
        options = options_of options;
        limit = limit;
        kept = kept;
      })
  tree_sound limit kept valid long less short =
      record {
        well_formed = record {
          nonempty = positive;
          along = t.along;
          cut = t.cut;
          apart = ids-apart ns s n t.stands short;
        };
        normal = t.normal;
        valid = valid;
        aligned = subst (λ o. AreAligned (options_of options) (live_among t.axis o (side (other t.axis) size) (erase n)))
            (spot-origin t.axis) (aligned-Standing (options_of options) ns t.aligned s no_slot 0 n t.stands.standing);
        counted = omega (arith, numbers-few ns s n t.stands, numbers-erase n);
        limited = less;
      }

-- A store of such nodes is that of an atlas.
pub record IsMadeOf (v : Stored) (ns : List Node) (n : Numbered) : Type 0 where
  pub tree : IsTreeOfNodes ns (sides_of v.size) v.shelf.options v.first.number n
  pub nodes : nodes v.shelf.slots ≡ ns
  pub holding : (h : Holding) × Holds v.shelf h × IsDetachedOnly [] h
      × (h.sequence ≡ whole_in tree.axis (sides_of v.size)) × (h.tree ≡ n)
  pub used : v.used ≡ used_below ns (length ns)
  pub positive : IsPositive (sides_of v.size)
  pub kept : length ns ≤ v.limit
  pub most : v.limit ≤ most_slots

pub imaged-atlas : (v : Stored) (ns : List Node) (n : Numbered) → IsMadeOf v ns n → IsAtlas v
imaged-atlas v ns n m =
    let h = m.holding in
    let a = m.tree.axis in
    let long : length ns ≡ length v.shelf.slots = ap (λ (x : List Node). length x) (sym m.nodes) ∙ length-map v.shelf.slots node_of in
    let few : length ns ≤ 2 ^ 24 = omega (arith, m.kept, m.most) in
    let is : tree_of (nodes v.shelf.slots) ≡ record { axis = a; members = erase n } =
    ap tree_of m.nodes ∙ tree_is ns (sides_of v.size) v.shelf.options v.first.number n m.tree m.positive (omega arith) in
    let sound = tree_sound ns (sides_of v.size) v.shelf.options v.first.number n m.tree m.positive v.limit
    (length v.shelf.slots) h.1.valid long (omega (arith, m.kept, long)) few in
    record {
      holding = h.0;
      holds = h.1;
      at_rest = h.2;
      start = ap (λ (x : Sequence). x.start) h.3;
      across = subst (λ (x : Sequence). x.width ≡ side (other x.axis) (sides_of v.size)) (sym h.3) refl;
      first = sym (ap first_slot h.4 ∙ m.tree.first);
      used = m.used ∙ used-numbers ns (whole_in a (sides_of v.size)) n m.tree.stands ∙ sym (ap numbers h.4);
      sound = subst (λ x. IsSound (record {
        tree = x;
        size = sides_of v.size;
        options = options_of v.shelf.options;
        limit = v.limit;
        kept = length v.shelf.slots;
      })) (sym is) sound;
      exact = size_is v.size m.positive;
      limited = m.most;
    }

-- What an unused slot says of the next one is no part of the tree.

used_image : (k : NodeKind) (s : Slot) → 0 < use_count k → next_of k s ≡ s.next
used_image kind.Container s l = refl
used_image kind.Alloc s l = refl
used_image kind.Free s l = refl
used_image kind.Unused s l = absurd (omega arith)

images_at : (ss : List Slot) (i : ℕ) → 0 < use_count (node_at (nodes ss) i).kind
    → node_at (map image_node ss) i ≡ node_at (nodes ss) i
images_at [] i l = refl
images_at (s ∷ ss) zero l = ap (λ v. record (node_of s) { next = v }) (used_image s.kind s l)
images_at (s ∷ ss) (suc i) l = images_at ss i l

pub kinds-at : (ss : List Slot) (i : ℕ) → (node_at (map image_node ss) i).kind ≡ (node_at (nodes ss) i).kind
kinds-at [] i = refl
kinds-at (s ∷ ss) zero = refl
kinds-at (s ∷ ss) (suc i) = kinds-at ss i

pub image-stands : (ss : List Slot) (s : Sequence) (n : Numbered) → Stands (nodes ss) s n → Stands (map image_node ss) s n
image-stands ss s n h =
    record {
      standing = Standing-same (nodes ss) (map image_node ss) s no_slot 0 n
          (λ j l. images_at ss j (omega (arith, h.numbered j, l))) h.standing;
      numbered = λ i. h.numbered i ∙ ap use_count (sym (kinds-at ss i));
    }

-- The data of an atlas have its tree.
pub image-tree : (v : Stored) → IsAtlas v → tree_of (map image_node v.shelf.slots) ≡ tree_of (nodes v.shelf.slots)
image-tree v a =
    let h = a.holding in
    let ss = v.shelf.slots in
    let few : length ss ≤ 16777216 = a.holds.short in
    let some : HasMember h.tree = nonempty-IsAtlas v a in
    let one = tree_of-Stands (map image_node ss) h.sequence h.tree (omega (arith, few, length-map ss image_node)) a.holds.top
    (image-stands ss h.sequence h.tree a.holds.stands) some in
    let other = tree_of-Stands (nodes ss) h.sequence h.tree (omega (arith, few, length-map ss node_of)) a.holds.top
    a.holds.stands some in
    one ∙ sym other

pub image-state : (v : AtlasValue) → IsAtlas v.stored → state_in (image_of v) ≡ state_of v
image-state v a = rw (image-tree v.stored a, length-map v.stored.shelf.slots image_node) refl

-- Nodes that pass the test.
module _ (ns : List Node) (unused : Link) (size : Size) (options : AllocatorOptions) (first : Link)
    (h : AreImaged ns unused size options first) (positive : IsPositive (sides_of size))
    (w : natural size.width < 2 ^ 31) (t : natural size.height < 2 ^ 31) where
  abbrev tree : IsTreeOfNodes ns (sides_of size) options first.number h.tree.0
  tree = h.tree.1

  abbrev whole : StandWhole ns (whole_in tree.axis (sides_of size)) h.tree.0
  whole = stand-whole ns (sides_of size) options first.number h.tree.0 tree positive w t

  -- A store can be made of them.
  pub imaged-restorable : AreValid (options_of options) → length ns ≤ most_slots → CanRestore ns unused options
  imaged-restorable valid short = record {
    tree = (whole_in tree.axis (sides_of size), h.tree.0, whole);
    line = h.line;
    valid = valid;
    short = short;
  }

  -- That store is an atlas's.
  pub restored-atlas : {A : Type 0} (it : Store A) (limit used : ℕ) → IsRestored it ns unused options
      → used ≡ used_below ns (length ns) → length ns ≤ limit → limit ≤ most_slots
      → IsAtlas (record { shelf = shelf_of it; first = first; used = used; size = size; limit = limit })
  restored-atlas it limit used r u less most =
      imaged-atlas _ ns h.tree.0 (record {
        tree = subst (λ o. IsTreeOfNodes ns (sides_of size) o first.number h.tree.0) (sym r.options) tree;
        nodes = r.nodes;
        holding = r.holds (whole_in tree.axis (sides_of size)) h.tree.0 whole;
        used = u;
        positive = positive;
        kept = less;
        most = most;
      })
