-- The data of an atlas pass the test.
use Rattle.std.proofs.Common.{ℕ, ◌+◌, ◌<◌, ◌≤◌, ◌≡◌, ◌≢◌, List, [], ◌∷◌, ◌++◌, refl, sym, ap, ◌∙◌, inl, inr, arith}
use Rattle.std.proofs.Common.{length, map, subst, zero, suc}
use Rattle.std.specs.List.{All}
use Rattle.std.proofs.lemmas.Bool.{cases_eq, cases_lt}
use Rattle.std.proofs.lemmas.List.{length-map}
use Rattle.std.proofs.lemmas.List.Elements.{All-cons, All-head, All-nil, All-tail}
use Rattle.atlas_allocator.specs.Images.{Image, IsImage}
use Rattle.atlas_allocator.proofs.AtlasLemmas.ImagedAtlas.{image-stands, kinds-at, whole_in}
use Rattle.atlas_image.specs.Imaged.{AreImaged, IsTreeOfNodes}
use Rattle.atlas_image.proofs.ImageLemmas.AlignedGrants.{AreAligned}
use Rattle.atlas_model.specs.Boxes.{Axis, IsPositive, box_sides, other, side}
use Rattle.atlas_model.specs.Choice.{AreValid, Options}
use Rattle.atlas_model.specs.Pixels.{box_of, options_of, sides_of}
use Rattle.atlas_model.specs.States.{IsAligned, IsSound}
use Rattle.atlas_model.specs.Trees.{most_slots}
use Rattle.atlas_model.proofs.TreeLemmas.TreeBasics.{live_among, live_among-seq}
use Rattle.atlas_search.specs.declared.link.Link.{Link}
use Rattle.atlas_search.specs.Numbers.{no_slot, occurs}
use Rattle.atlas_store.specs.declared.slots.Node.{Node}
use Rattle.atlas_store.specs.declared.slots.NodeKind.{NodeKind}
use Rattle.atlas_store.specs.declared.slots.NodeKind.TheVariants as kind
use Rattle.atlas_store.specs.declared.slots.Slot.{Slot}
use Rattle.atlas_store.specs.Slots.{node_at, nodes, ring_at, rings, use_count}
use Rattle.atlas_store.specs.Slots.Lists.{Line}
use Rattle.atlas_store.specs.Slots.Numbered.{Numbered, erase, tally, End, Free, Alloc, Seq}
use Rattle.atlas_store.specs.Slots.Growing.{top_along}
use Rattle.atlas_store.specs.Slots.Standing.{Sequence, Standing, Stands, inside, member_box, spot}
use Rattle.atlas_store.specs.Store.Restoring.{IsUnusedLine, NodeLine, image_node, next_of}
use Rattle.atlas_store.specs.Stored.{Holding, Holds, IsAtlas, Shelf, Stored}
use Rattle.atlas_store.proofs.SlotLemmas.Frames.{same-ne, same-self}
use Rattle.atlas_store.proofs.SlotLemmas.Spots.{moved-spot, spot-origin, spot-other}
use Rattle.atlas_store.proofs.StoreLemmas.Lines.{Line-inside}
use Rattle.atlas_store.proofs.WalkLemmas.StoredAtlas.{tree_of-IsAtlas}
use Rattle.atlas_store.proofs.StoreLemmas.StoreSteps.{length-rings}

-- The list of unused slots.

unused_next : (k : NodeKind) (s : Slot) → use_count k ≡ 0 → next_of k s ≡ s.right
unused_next kind.Container s z = absurd (omega arith)
unused_next kind.Alloc s z = absurd (omega arith)
unused_next kind.Free s z = absurd (omega arith)
unused_next kind.Unused s z = refl

next_at : (ss : List Slot) (i : ℕ) → i < length (rings ss) → use_count (node_at (nodes ss) i).kind ≡ 0
    → (node_at (map image_node ss) i).next ≡ (ring_at (rings ss) i).right
next_at [] i l z = absurd (omega arith)
next_at (s ∷ ss) zero l z = unused_next s.kind s z
next_at (s ∷ ss) (suc i) l z = next_at ss i (omega arith) z

image_line : (ss : List Slot) (xs : List ℕ) → Line (rings ss) xs
    → ((i : ℕ) → 0 < occurs i xs → use_count (node_at (nodes ss) i).kind ≡ 0) → NodeLine (map image_node ss) xs
image_line ss [] h u = tt
image_line ss (x ∷ xs) h u = (
  omega (arith, h.0, length-rings ss, length-map ss image_node),
  ap (λ (l : Link). l.number) (next_at ss x h.0 (u x (omega (arith, same-self x)))) ∙ h.1,
  image_line ss xs h.2 (λ i l. u i (omega (arith, l))),
)

image_unused : (v : Shelf) (h : Holding) → Holds v h → IsUnusedLine (map image_node v.slots) v.unused.number h.unused_list
image_unused v h holds =
    let f = holds.filed in
    record {
      line = image_line v.slots h.unused_list f.line
          (λ i l. omega (arith, l, f.each i (Line-inside (rings v.slots) i h.unused_list f.line l)));
      begins = f.begins;
      each = λ i l. omega (
        arith,
        f.each i (omega (arith, l, length-rings v.slots, length-map v.slots image_node)),
        ap use_count (kinds-at v.slots i),
      );
    }

-- Where all that is granted is aligned, the rectangle of each granted slot is.

all_left : {X : Type 0} (P : X → Type 0) (xs ys : List X) → All P (xs ++ ys) → All P xs
all_left P [] ys h = All-nil P
all_left P (x ∷ xs) ys h = All-cons P x xs (All-head P x (xs ++ ys) h) (all_left P xs ys (All-tail P x (xs ++ ys) h))

all_right : {X : Type 0} (P : X → Type 0) (xs ys : List X) → All P (xs ++ ys) → All P ys
all_right P [] ys h = h
all_right P (x ∷ xs) ys h = all_right P xs ys (All-tail P x (xs ++ ys) h)

module _ (o : Options) (ns : List Node) (i : ℕ) (granted : (node_at ns i).kind ≡ kind.Alloc) where
  not_free : (j : ℕ) → (node_at ns j).kind ≡ kind.Free → i ≢ j
  not_free j f e = let z = sym granted ∙ ap (λ v. (node_at ns v).kind) e ∙ f in absurd (cc)

  not_container : (j : ℕ) → (node_at ns j).kind ≡ kind.Container → i ≢ j
  not_container j f e = let z = sym granted ∙ ap (λ v. (node_at ns v).kind) e ∙ f in absurd (cc)

  aligned_at : (s : Sequence) (b q : ℕ) (n : Numbered) → Standing ns s b q n
      → AreAligned o (live_among s.axis (spot s.axis q s.start) s.width (erase n)) → 0 < tally i n
      → IsAligned o (box_sides (box_of (node_at ns i).area))
  aligned_at s b q End h a l = absurd (omega arith)
  aligned_at s b q (Free j e rest) h a l =
      aligned_at s j (q + e) rest h.2
      (subst (λ v. AreAligned o (live_among s.axis v s.width (erase rest))) (moved-spot s.axis q s.start e) a)
      (omega (arith, l, same-ne i j (not_free j h.0.kind)))
  aligned_at s b q (Alloc j g e rest) h a l = elim (cases_eq i j) [
    | inl same ↦
        let here : IsAligned o (box_sides (member_box s q e)) = All-head (λ x. IsAligned o (box_sides x.box)) _ _ a in
        subst (λ v. IsAligned o (box_sides (box_of (node_at ns v).area))) (sym same)
        (subst (λ v. IsAligned o (box_sides (box_of v))) (sym h.1) here)
    | inr ne ↦ aligned_at s j (q + e) rest h.3
        (subst (λ v. AreAligned o (live_among s.axis v s.width (erase rest))) (moved-spot s.axis q s.start e)
        (All-tail (λ x. IsAligned o (box_sides x.box)) _ _ a))
        (omega (arith, l, same-ne i j ne))
  ]
  aligned_at s b q (Seq j e inner rest) h a l =
      let both = subst (AreAligned o)
      (live_among-seq s.axis (spot s.axis q s.start) s.width e (erase inner) (erase rest)) a in
      elim (cases_lt 0 (tally i inner)) [
        | inl x ↦ aligned_at (inside s j q e) no_slot s.start inner h.2
            (subst (λ v. AreAligned o (live_among (other s.axis) v e (erase inner))) (sym (spot-other s.axis q s.start))
            (all_left (λ x. IsAligned o (box_sides x.box)) _ _ both)) x
        | inr x ↦ aligned_at s j (q + e) rest h.3
            (subst (λ v. AreAligned o (live_among s.axis v s.width (erase rest))) (moved-spot s.axis q s.start e)
            (all_right (λ x. IsAligned o (box_sides x.box)) _ _ both))
            (omega (arith, l, x, same-ne i j (not_container j h.0.kind)))
      ]

sequence_parts : (s : Sequence) (w : ℕ) → s.parent ≡ no_slot → s.start ≡ 0 → s.width ≡ w → s ≡ top_along s.axis w
sequence_parts s w e f g = λ i. record { parent = e i; axis = s.axis; start = f i; width = g i }

module _ (v : Stored) (a : IsAtlas v) where
  abbrev ns : List Node
  ns = map image_node v.shelf.slots

  abbrev n : Numbered
  n = a.holding.tree

  abbrev axis : Axis
  axis = a.holding.sequence.axis

  stands : Stands ns (whole_in axis (sides_of v.size)) n
  stands = subst (λ s. Stands ns s n)
      (sequence_parts a.holding.sequence (side (other axis) (sides_of v.size)) a.holds.top a.start a.across)
      (image-stands v.shelf.slots a.holding.sequence n a.holds.stands)

  sound : IsSound (record {
    tree = record { axis = axis; members = erase n };
    size = sides_of v.size;
    options = options_of v.shelf.options;
    limit = v.limit;
    kept = length v.shelf.slots;
  })
  sound = subst (λ t. IsSound (record {
    tree = t;
    size = sides_of v.size;
    options = options_of v.shelf.options;
    limit = v.limit;
    kept = length v.shelf.slots;
  })) (tree_of-IsAtlas v a) a.sound

  tree : IsTreeOfNodes ns (sides_of v.size) v.shelf.options v.first.number n
  tree = record {
    axis = axis;
    stands = stands;
    cut = sound.well_formed.cut;
    along = sound.well_formed.along;
    first = sym a.first;
    normal = sound.normal;
    aligned = λ i k.
        aligned_at (options_of v.shelf.options) ns i k (whole_in axis (sides_of v.size)) no_slot 0 n stands.standing
        (subst (λ o. AreAligned (options_of v.shelf.options)
        (live_among axis o (side (other axis) (sides_of v.size)) (erase n))) (sym (spot-origin axis)) sound.aligned)
        (omega (arith, stands.numbered i, ap use_count k));
  }

  pub kept-imaged : AreImaged ns v.shelf.unused v.size v.shelf.options v.first
  kept-imaged = record { tree = (n, tree); line = (a.holding.unused_list, image_unused v.shelf a.holding a.holds) }

-- What is asked of data, before their nodes are looked at.
pub record IsFit (i : Image) : Type 0 where
  pub positive : IsPositive (sides_of i.size)
  pub valid : AreValid (options_of i.options)
  pub limited : length i.nodes ≤ i.limit
  pub most : i.limit ≤ most_slots

module _ (i : Image) (k : IsImage i) where
  pub image-accepted : AreImaged i.nodes i.unused i.size i.options k.atlas.stored.first
  image-accepted = subst (λ (x : Image). AreImaged x.nodes x.unused x.size x.options k.atlas.stored.first) k.image
      (kept-imaged k.atlas.stored k.is_atlas)
