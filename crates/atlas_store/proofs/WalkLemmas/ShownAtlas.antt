-- What is shown of an atlas: at first nothing, and a run of open members is a free box once what is shown is freed.
use Rattle.std.proofs.Common.{ℕ, ◌+◌, ◌<◌, ◌≡◌, List, Bool, false, sym, ap, subst, ◌∙◌, Contains}
use Rattle.std.proofs.lemmas.Bool.{and_left, and_right, true≢false}
use Rattle.std.specs.Prelude.{slice_index_or}
use Rattle.atlas_model.specs.Boxes.{Box, Sides, other, side, origin}
use Rattle.atlas_model.specs.Changes.{release, nf, mark}
use Rattle.atlas_model.specs.Pixels.{sides_of}
use Rattle.atlas_model.specs.States.{after_freeing, free_in}
use Rattle.atlas_model.specs.Trees.{IsCut, IsNormal, is_idle, free_boxes}
use Rattle.atlas_model.proofs.TreeLemmas.TreeBasics.{free_among}
use Rattle.atlas_search.specs.Numbers.{no_slot}
use Rattle.atlas_store.specs.declared.slots.Node.{Node}
use Rattle.atlas_store.specs.Slots.{node_at}
use Rattle.atlas_store.specs.Slots.Lists.{is_free}
use Rattle.atlas_store.specs.Slots.Numbered.{Numbered, erase, End, Free, Alloc, Seq}
use Rattle.atlas_store.specs.Slots.Standing.{Sequence, Standing, inside}
use Rattle.atlas_store.specs.Slots.Rehearsing.{is_open, all_open, Shows, IsRunIn}
use Rattle.atlas_store.specs.Stored.{Stored, IsAtlas, state_of}
use Rattle.atlas_store.proofs.SlotLemmas.OpenMembers.{or_false}
use Rattle.atlas_store.proofs.SlotLemmas.OpenRuns.{free_from, opened-marked, run-free}
use Rattle.atlas_store.proofs.WalkLemmas.StoredAtlas.{origin-spot, tree_of-IsAtlas}

-- A run of open members is a free box of the tree that is left.
pub run-released : (o set : ℕ → Bool) (box : Box) (size : Sides) (s : Sequence) (n : Numbered) → s.start ≡ 0
    → s.width ≡ side (other s.axis) size → 0 < s.width → IsCut s.width (erase n) → Shows o set n
    → IsRunIn o box false s 0 n
    → Contains (free_boxes size (release set (record { axis = s.axis; members = erase n }))) box
run-released o set box size s n start across wide cut f run =
    let m = nf (mark set (erase n)) in
    let same = opened-marked o set s.width n wide cut f in
    let there = subst (λ k. Contains (free_from s 0 k) box) same (run-free o set box s 0 n f run) in
    let at_origin = sym (origin-spot s.axis s.start start) in
    let here = subst (λ q. Contains (free_among s.axis q s.width m) box) at_origin there in
    subst (λ w. Contains (free_among s.axis origin w m) box) across here

pub run-in_atlas : (v : Stored) (a : IsAtlas v) (o set : ℕ → Bool) (box : Box) (turns capacity : ℕ)
    → Shows o set a.holding.tree → IsRunIn o box false a.holding.sequence 0 a.holding.tree
    → Contains (free_in (after_freeing (state_of (record { stored = v; turns = turns; capacity = capacity })) set)) box
run-in_atlas v a o set box turns capacity f run =
    let h = run-released o set box (sides_of v.size) a.holding.sequence a.holding.tree a.start a.across a.holds.wide a.holds.cut f run in
    subst (λ t. Contains (free_boxes (sides_of v.size) (release set t)) box) (sym (tree_of-IsAtlas v a)) h

-- Nothing is shown at first.
module _ (ns : List Node) (o : ℕ → Bool) (as_free : (k : ℕ) → o k ≡ is_free (node_at ns k).kind) where
  -- In a normal tree a nested sequence has a member that isn't free.
  busy-closed : (s : Sequence) (b p : ℕ) (n : Numbered) → Standing ns s b p n → IsNormal (erase n)
      → is_idle (erase n) ≡ false → all_open o n ≡ false
  busy-closed s b p End h normal busy = absurd (true≢false busy)
  busy-closed s b p (Free j e End) h normal busy = absurd (true≢false busy)
  busy-closed s b p (Free j e (Free k d rest)) h normal busy = absurd (true≢false normal.0)
  busy-closed s b p (Free j e (Alloc k g d rest)) h normal busy =
      and_right _ _ (and_left _ _ (as_free k ∙ ap is_free h.2.0.kind))
  busy-closed s b p (Free j e (Seq k d inner rest)) h normal busy =
      and_right _ _ (and_left _ _ (as_free k ∙ ap is_free h.2.0.kind))
  busy-closed s b p (Alloc j g e rest) h normal busy = and_left _ _ (as_free j ∙ ap is_free h.0.kind)
  busy-closed s b p (Seq j e inner rest) h normal busy = and_left _ _ (as_free j ∙ ap is_free h.0.kind)

  pub shows-free : (s : Sequence) (b p : ℕ) (n : Numbered) → Standing ns s b p n → IsNormal (erase n)
      → Shows o (λ k. false) n
  shows-free s b p End h normal = tt
  shows-free s b p (Free j e rest) h normal =
      (as_free j ∙ ap is_free h.0.kind, shows-free s j (p + e) rest h.2 normal.1)
  shows-free s b p (Alloc j g e rest) h normal =
      (as_free j ∙ ap is_free h.0.kind, shows-free s j (p + e) rest h.3 normal)
  shows-free s b p (Seq j e inner rest) h normal = (
    as_free j ∙ ap is_free h.0.kind ∙ sym (busy-closed (inside s j p e) no_slot s.start inner h.2 normal.1 normal.0),
    shows-free (inside s j p e) no_slot s.start inner h.2 normal.1,
    shows-free s j (p + e) rest h.3 normal.2,
  )

pub shows-none : (ns : List Node) (marks : List Bool) (s : Sequence) (b p : ℕ) (n : Numbered)
    → ((k : ℕ) → slice_index_or marks k false ≡ false) → Standing ns s b p n → IsNormal (erase n)
    → Shows (is_open ns marks) (λ k. false) n
shows-none ns marks s b p n unmarked h normal =
    shows-free ns (is_open ns marks) (λ k. or_false _ _ (unmarked k)) s b p n h normal
