-- The calls of the store keep what it holds: from what the calls on nodes and on lists ensure.
use Rattle.std.proofs.Common.{ℕ, ◌+◌, ◌<◌, ◌≤◌, ◌≡◌, ◌≢◌, List, [], ◌∷◌, refl, sym, ap, ◌∙◌, ◌++◌, arith, length, set, length-set, Bool}
use Rattle.std.proofs.Common.{true, false, ◌⊎◌, inl, inr, subst}
use Rattle.std.proofs.lemmas.Bool.{cases_eq, cases_lt}
use Rattle.atlas_store.specs.declared.slots.Slot.{Slot}
use Rattle.atlas_search.specs.declared.link.Link.{Link}
use Rattle.atlas_store.specs.declared.slots.Node.{Node}
use Rattle.atlas_store.specs.declared.slots.Ring.{Ring}
use Rattle.atlas_store.specs.declared.slots.placing.Parts.{Parts}
use Rattle.atlas_store.specs.declared.slots.placing.Plan.{Plan}
use Rattle.atlas_store.specs.declared.slots.NodeKind.TheVariants as kind
use Rattle.atlas_model.specs.Choice.{Options}
use Rattle.atlas_model.specs.Pixels.{options_of}
use Rattle.atlas_store.specs.Slots.{nodes, rings, node_at, use_count, KeepsUse}
use Rattle.atlas_search.specs.Numbers.{no_slot, front, occurs}
use Rattle.atlas_store.specs.Slots.Numbered.{Numbered, joined, lifted, marked}
use Rattle.atlas_store.specs.Slots.Standing.{Sequence, Stands}
use Rattle.atlas_store.specs.Slots.SlotCalls.{IsLeafFreed, IsNextJoined, IsChildLifted}
use Rattle.atlas_store.specs.Slots.Placing.{granted_by, left_by, marks_of, planned, taken_by, CanPlace, IsCarriedOut}
use Rattle.atlas_store.proofs.SlotLemmas.Frames.{Standing-same, same-ne}
use Rattle.atlas_store.specs.Slots.Lists.{AreFiled, IsRecent, Places, Line, is_free}
use Rattle.atlas_store.specs.declared.slots.lists.Recent.{Recent}
use Rattle.std.proofs.lemmas.List.{length-map, length_push}
use Rattle.atlas_store.specs.Slots.Links.{with_mark, with_count, given_back, IsTaken}
use Rattle.atlas_search.specs.Rectangles.{IsSolid}
use Rattle.atlas_store.specs.Stored.{Shelf, Holding, Holds, HoldsWith, IsDetachedOnly, places_of}
use Rattle.atlas_store.specs.Store.Holdings.{node_in, IsDetachedLeaf, after_take, after_mark, after_join, after_lift, after_place}
use Rattle.atlas_store.proofs.StoreLemmas.FiledSlots.{with_mark-same, with_mark-other, with_count-same, with_count-other}
use Rattle.atlas_store.proofs.StoreLemmas.TakenSlots.{AreFiled-moved, AreFiled-nodes, StaysOrIsOut}
use Rattle.atlas_store.proofs.SlotLemmas.Recuts.{IsRecut, recut-marked, recut-joined, recut-lifted, recut-planned}
use Rattle.atlas_store.proofs.SlotLemmas.PlannedLeaves.{Stands-placed, placed-leaf, placed-others, placed-part, untaken-unmarked}
use Rattle.atlas_store.proofs.SlotLemmas.PlannedLeaves.{used_after}
use Rattle.atlas_store.proofs.SlotLemmas.JoinWrites.{none-unused}
use Rattle.atlas_store.specs.Slots.Picks.{AreExact}
use Rattle.atlas_store.proofs.SlotLemmas.SlotBoxes.{slot-exact}

-- What is held once the slots and the unused list changed, and no list of free slots.
pub held_again : (claimed claimed' : ℕ → ℕ) (v : Shelf) (new : List Slot) (unused : Link) (h : Holding)
    (tree : Numbered)
    (unused_list : List ℕ) (detached : ℕ → Bool)
    → length new ≤ 16777216 → HoldsWith claimed v h → Stands (nodes new) h.sequence tree
    → AreFiled (options_of v.options) (nodes new) (rings new) v.heads unused
    (record { unused_list = unused_list; free_lists = h.free_lists; claimed = claimed'; detached = detached })
    → IsRecut h.sequence.width h.tree tree
    → HoldsWith claimed' (record v { slots = new; unused = unused }) (record h
    { tree = tree; unused_list = unused_list; detached = detached })
held_again claimed claimed' v new unused h tree unused_list detached short holds stands filed recut = grind arith

-- A slot that keeps its use stays as it was for the lists.
pub moved-kept : (n m : Node) (detached detached' : Bool) → KeepsUse n m → detached' ≡ detached
    → StaysOrIsOut n m detached detached'
moved-kept n m detached detached' k e = inl (k.kind, k.area, e)

pub use-kept : (n m : Node) → KeepsUse n m → use_count m.kind ≡ use_count n.kind
use-kept n m k = ap use_count k.kind

-- One detached slot changes, and stays in use.
pub filed-one : (o : Options) (ns ms : List Node) (rs ts : List Ring) (heads : List Link) (unused : Link)
    (p : Places) (i : ℕ) (mark : Bool)
    → ts ≡ rs → StaysOrIsOut (node_at ns i) (node_at ms i) (p.detached i) mark
    → use_count (node_at ms i).kind ≡ use_count (node_at ns i).kind
    → ((k : ℕ) → k ≢ i → KeepsUse (node_at ns k) (node_at ms k))
    → AreFiled o ns rs heads unused p
    → AreFiled o ms ts heads unused (record p { detached = with_mark p.detached i mark })
filed-one o ns ms rs ts heads unused p i mark same here used others filed =
    rw same (AreFiled-moved o ns ms rs heads unused p p.claimed (with_mark p.detached i mark) moved counts filed)
  where
    moved : (j : ℕ) → StaysOrIsOut (node_at ns j) (node_at ms j) (p.detached j) (with_mark p.detached i mark j)
    moved j = elim (cases_eq j i) [
      | inl e ↦
          subst (λ k. StaysOrIsOut (node_at ns k) (node_at ms k) (p.detached k) (with_mark p.detached i mark k)) (sym e)
          (subst (StaysOrIsOut (node_at ns i) (node_at ms i) (p.detached i)) (sym (with_mark-same p.detached i mark)) here)
      | inr ne ↦ moved-kept (node_at ns j) (node_at ms j) (p.detached j) (with_mark p.detached i mark j) (others j ne)
          (with_mark-other p.detached i mark j ne)
    ]

    counts : (j : ℕ) → j < length rs → p.claimed j + use_count (node_at ms j).kind ≡ p.claimed j + use_count (node_at ns j).kind
    counts j l = ap (λ n. p.claimed j + n) (elim (cases_eq j i) [
      | inl e ↦ subst (λ k. use_count (node_at ms k).kind ≡ use_count (node_at ns k).kind) (sym e) used
      | inr ne ↦ use-kept (node_at ns j) (node_at ms j) (others j ne)
    ])

-- The slots of a shelf, and those that a call left.
pub record AreSlots (own old mid new : List Slot) : Type 0 where
  pub given : old ≡ own
  pub left : new ≡ mid
  pub long : length mid ≡ length old

-- What a call says of the slots that it was given and of those that it left is so of the shelf's.
pub over-shelf : (P : List Slot → List Slot → Type 0) (own old mid new : List Slot) → AreSlots own old mid new
    → P old mid
    → P own new
over-shelf P own old mid new a p = subst (λ s. P s new) a.given (subst (P old) (sym a.left) p)

pub long-over : (own old mid new : List Slot) → AreSlots own old mid new → length new ≡ length own
long-over own old mid new a = ap (λ s. length s) a.left ∙ a.long ∙ ap (λ s. length s) a.given

pub short-mid : (own old mid new : List Slot) → AreSlots own old mid new → length own ≤ 16777216 → length mid ≤ 16777216
short-mid own old mid new a h = omega (arith, ap (λ s. length s) a.given, a.long, h)

pub filed-before : (claimed : ℕ → ℕ) (v : Shelf) (old : List Slot) (h : Holding) → old ≡ v.slots → HoldsWith claimed v h
    → AreFiled (options_of v.options) (nodes old) (rings old) v.heads v.unused (places_of claimed h)
filed-before claimed v old h e holds = grind arith

pub stands-before : (claimed : ℕ → ℕ) (v : Shelf) (old : List Slot) (h : Holding) → old ≡ v.slots
    → HoldsWith claimed v h → Stands (nodes old) h.sequence h.tree
stands-before claimed v old h e holds = let Q : List Slot → Type 0 = λ slots. Stands (nodes slots) h.sequence h.tree in
    subst Q (sym e) holds.stands

-- A granted leaf becomes free.
pub marked-holds : (v : Shelf) (new : List Slot) (at : ℕ) → length new ≡ length v.slots → IsLeafFreed v.slots new at
    → (node_in v at).kind ≡ kind.Alloc → (h : Holding) → Holds v h → Holds (record v { slots = new }) (after_mark at h)
marked-holds v new at long w was h holds =
    let here : StaysOrIsOut (node_in v at) (node_at (nodes new) at) (h.detached at) true = inr (inr (ap is_free was), inl refl) in
    let used : use_count (node_at (nodes new) at).kind ≡ use_count (node_in v at).kind =
    ap (λ (n : Node). use_count n.kind) w.leaf ∙ sym (ap use_count was) in
    let filed = filed-one (options_of v.options) (nodes v.slots) (nodes new) (rings v.slots) (rings new) v.heads v.unused
    (places_of (λ i. 0) h) at true
    w.same_rings here used w.others holds.filed in
    held_again (λ i. 0) (λ i. 0) v new v.unused h (marked at h.tree) h.unused_list (with_mark h.detached at true)
    (omega (arith, long, holds.short))
    holds (w.tree h.sequence h.tree holds.stands) filed (recut-marked at h.sequence.width h.tree)

-- Two slots change: i stays in use, and j is claimed or was.
pub record ChangesTwo (ns ms : List Node) (i j : ℕ) (claimed claimed' : ℕ → ℕ) (detached detached' : ℕ → Bool) : Type 0 where
  pub apart : i ≢ j
  pub first : StaysOrIsOut (node_at ns i) (node_at ms i) (detached i) (detached' i)
  pub second : StaysOrIsOut (node_at ns j) (node_at ms j) (detached j) (detached' j)
  pub used : use_count (node_at ms i).kind ≡ use_count (node_at ns i).kind
  pub counted : claimed' j + use_count (node_at ms j).kind ≡ claimed j + use_count (node_at ns j).kind
  pub hands : (k : ℕ) → k ≢ j → claimed' k ≡ claimed k
  pub marks : (k : ℕ) → k ≢ i → k ≢ j → detached' k ≡ detached k
  pub others : (k : ℕ) → k ≢ i → k ≢ j → KeepsUse (node_at ns k) (node_at ms k)

pub filed-two : (o : Options) (ns ms : List Node) (rs ts : List Ring) (heads : List Link) (unused : Link)
    (p : Places) (claimed' : ℕ → ℕ) (detached' : ℕ → Bool) (i j : ℕ)
    → ts ≡ rs → ChangesTwo ns ms i j p.claimed claimed' p.detached detached'
    → AreFiled o ns rs heads unused p
    → AreFiled o ms ts heads unused (record p { claimed = claimed'; detached = detached' })
filed-two o ns ms rs ts heads unused p claimed' detached' i j same c filed =
    let moved : (k : ℕ) → StaysOrIsOut (node_at ns k) (node_at ms k) (p.detached k) (detached' k) =
    λ k. grind (arith, cases_eq k i, cases_eq k j, moved-kept) in
    let counts : (k : ℕ) → k < length rs → claimed' k + use_count (node_at ms k).kind ≡ p.claimed k + use_count (node_at ns k).kind =
    λ k _. grind (arith, cases_eq k i, cases_eq k j, use-kept) in
    subst (λ r. AreFiled o ms r heads unused (record p { claimed = claimed'; detached = detached' })) (sym same)
    (AreFiled-moved o ns ms rs heads unused p claimed' detached' moved counts filed)

-- What is claimed may be said in another way.
pub filed-claimed : (o : Options) (ns : List Node) (rs : List Ring) (heads : List Link) (unused : Link) (p : Places)
    (claimed' : ℕ → ℕ)
    → ((i : ℕ) → claimed' i ≡ p.claimed i) → AreFiled o ns rs heads unused p
    → AreFiled o ns rs heads unused (record p { claimed = claimed' })
filed-claimed o ns rs heads unused p claimed' e filed = grind (arith, AreFiled-nodes)

pub holds-claimed : (claimed claimed' : ℕ → ℕ) (v : Shelf) (h : Holding) → ((i : ℕ) → claimed' i ≡ claimed i)
    → HoldsWith claimed v h → HoldsWith claimed' v h
holds-claimed claimed claimed' v h e holds = grind (arith, filed-claimed)

-- One slot that was claimed, and is no more.
pub claimed-back : (claimed : ℕ → ℕ) (j m : ℕ) → claimed j ≡ 0 → (i : ℕ)
    → with_count (with_count claimed j m) j 0 i ≡ claimed i
claimed-back claimed j m none i = grind (arith, with_count-same, with_count-other)

-- A free leaf leaves its list, or enters it: the nodes stay.
pub listed-holds : (v : Shelf) (old mid new : List Slot) (heads : List Link) (recent : Recent) (h : Holding)
    (free_lists : ℕ → List ℕ) (detached : ℕ → Bool)
    → AreSlots v.slots old mid new → nodes mid ≡ nodes old
    → (AreFiled (options_of v.options) (nodes old) (rings old) v.heads v.unused (places_of (λ i. 0) h)
    → AreFiled (options_of v.options) (nodes mid) (rings mid) heads v.unused
    (record (places_of (λ i. 0) h) { free_lists = free_lists; detached = detached }))
    → IsRecent recent free_lists → Holds v h
    → Holds (record v { slots = new; heads = heads; recent = recent }) (record h { free_lists = free_lists; detached = detached })
listed-holds v old mid new heads recent h free_lists detached a same filed is_recent holds =
    grind (arith, stands-before, filed-before, short-mid)

-- The rectangle of a free leaf is exact.
pub leaf-exact : (v : Shelf) (old : List Slot) (at : ℕ) (h : Holding) → old ≡ v.slots → Holds v h
    → (node_in v at).kind ≡ kind.Free
    → IsSolid (node_at (nodes old) at).area
leaf-exact v old at h e holds free = grind (arith, slot-exact)

pub all-exact : (v : Shelf) (old : List Slot) (h : Holding) → old ≡ v.slots → Holds v h → AreExact (nodes old)
all-exact v old h e holds i free =
    leaf-exact v old i h e holds (subst (λ (s : List Slot). (node_at (nodes s) i).kind ≡ kind.Free) e free)

-- Slot j, which was claimed, is given back.
pub record GivesBack (v : Shelf) (old new : List Slot) (unused : Link) (j : ℕ) : Type 0 where
  pub same_nodes : nodes new ≡ nodes old
  pub long : length new ≡ length old
  pub filed :
      (o : Options) (heads : List Link) (p : Places)
      → AreFiled o (nodes old) (rings old) heads v.unused p → 0 < p.claimed j
      → AreFiled o (nodes new) (rings new) heads unused (given_back p j)

-- What the lists hold once slot j, which is claimed, is given back.
given-filed : (v : Shelf) (old new : List Slot) (unused : Link) (j : ℕ) (o : Options) (heads : List Link)
    (p : Places)
    → GivesBack v old new unused j
    → AreFiled o (nodes old) (rings old) heads v.unused (record p { claimed = with_count (λ i. 0) j 1 })
    → AreFiled o (nodes new) (rings new) heads unused (record p { unused_list = j ∷ p.unused_list; claimed = λ i. 0 })
given-filed v old new unused j o heads p b filed =
    filed-claimed o (nodes new) (rings new) heads unused (given_back (record p { claimed = with_count (λ i. 0) j 1 }) j) (λ i. 0)
    (λ i. sym (claimed-back (λ k. 0) j 1 refl i))
    (b.filed o heads (record p { claimed = with_count (λ i. 0) j 1 }) filed (omega (arith, with_count-same (λ i. 0) j 1)))

-- What is held once slot j was claimed, and was given back.
given-holds : (v : Shelf) (mid new : List Slot) (unused : Link) (i j : ℕ) (h : Holding) (tree : Numbered)
    (detached : ℕ → Bool)
    → length mid ≡ length v.slots → rings mid ≡ rings v.slots → GivesBack v mid new unused j → Holds v h
    → ChangesTwo (nodes v.slots) (nodes mid) i j (λ k. 0) (with_count (λ k. 0) j 1) h.detached detached
    → Stands (nodes mid) h.sequence tree → IsRecut h.sequence.width h.tree tree
    → Holds (record v { slots = new; unused = unused }) (record h { tree = tree; unused_list = j ∷ h.unused_list; detached = detached })
given-holds v mid new unused i j h tree detached long same back holds two stands recut =
    let S : List Node → Type 0 = λ ns. Stands ns h.sequence tree in
    let filed : AreFiled (options_of v.options) (nodes mid) (rings mid) v.heads v.unused
    (record (places_of (with_count (λ k. 0) j 1) h) { detached = detached }) =
    filed-two (options_of v.options) (nodes v.slots) (nodes mid) (rings v.slots) (rings mid) v.heads v.unused
    (places_of (λ k. 0) h) (with_count (λ k. 0) j 1) detached i j same two holds.filed in
    held_again (λ k. 0) (λ k. 0) v new unused h tree (j ∷ h.unused_list) detached
    (omega (arith, back.long, long, holds.short)) holds (subst S (sym back.same_nodes) stands)
    (given-filed v mid new unused j (options_of v.options) v.heads (record (places_of (λ k. 0) h) { detached = detached }) back filed)
    recut

-- A detached leaf takes in the next one, whose slot is given back.
pub joined-holds : (v : Shelf) (mid new : List Slot) (unused : Link) (i j : ℕ) → length mid ≡ length v.slots
    → IsNextJoined v.slots mid i j → GivesBack v mid new unused j → (node_in v j).kind ≡ kind.Free
    → (h : Holding) → IsDetachedLeaf v i h → h.detached j ≡ true
    → Holds (record v { slots = new; unused = unused }) (after_join i j h)
joined-holds v mid new unused i j long w back other_free h leaf detached_j =
    grind (
      arith,
      given-holds v mid new unused i j h (joined i h.tree) (with_mark h.detached j false) long w.same_rings back leaf.holds,
      with_mark-other h.detached j false i,
      with_count-same,
      with_count-other,
      with_mark-other h.detached j false,
      recut-joined i h.sequence.width h.tree,
    )

-- A container gives way to its lone child, whose slot is given back.
pub lifted-holds : (v : Shelf) (mid new : List Slot) (unused : Link) (i c : ℕ) → length mid ≡ length v.slots
    → IsChildLifted v.slots mid i c → GivesBack v mid new unused c → (h : Holding) → IsDetachedLeaf v c h
    → Holds (record v { slots = new; unused = unused }) (after_lift i c h)
lifted-holds v mid new unused i c long w back h leaf =
    let gone : (node_at (nodes mid) c).kind ≡ kind.Unused = ap (λ n. n.kind) w.given in
    let free : (node_at (nodes mid) i).kind ≡ kind.Free = ap (λ n. n.kind) w.leaf in
    let apart : i ≢ c =
    (λ e. let z : kind.Container ≡ kind.Free = sym w.container ∙ ap (λ x. (node_in v x).kind) e ∙ leaf.kind in cc) in
    given-holds v mid new unused i c h (lifted i h.tree) (with_mark (with_mark h.detached i true) c false) long w.same_rings back leaf.holds
    (record {
      apart = apart;
      first = inr (
        inr (ap is_free w.container),
        inl (with_mark-other (with_mark h.detached i true) c false i apart ∙
            with_mark-same h.detached i true),
      );
      second = inr (inl leaf.detached, inr (ap is_free gone));
      used = ap use_count free ∙ sym (ap use_count w.container);
      counted = omega (arith, with_count-same (λ k. 0) c 1, ap use_count gone, ap use_count leaf.kind);
      hands = λ k ne. with_count-other (λ k. 0) c 1 k ne;
      marks = λ k ne nf. with_mark-other (with_mark h.detached i true) c false k nf ∙ with_mark-other h.detached i true k ne;
      others = w.others;
    })
    (w.tree h.sequence h.tree leaf.holds.top leaf.holds.stands) (recut-lifted i h.sequence.width h.tree)

-- The tree stays where a slot that isn't used changes, and stays unused.
pub stands-taken : (ns ms : List Node) (i : ℕ) (s : Sequence) (n : Numbered) → (node_at ns i).kind ≡ kind.Unused
    → (node_at ms i).kind ≡ kind.Unused
    → ((k : ℕ) → k ≢ i → node_at ms k ≡ node_at ns k) → Stands ns s n → Stands ms s n
stands-taken ns ms i s n was is others stands = grind (arith, others, Standing-same)

-- An unused slot is taken.
pub taken-holds : (v : Shelf) (new : List Slot) (unused : Link) (at : ℕ) (h : Holding) (claimed : ℕ → ℕ)
    → length new ≤ 16777216
    → ((k : ℕ) → k ≢ at → node_at (nodes new) k ≡ node_at (nodes v.slots) k)
    → IsTaken (options_of v.options) v.slots new v.heads unused (places_of claimed h) at
    → HoldsWith claimed v h
    → HoldsWith (with_count claimed at 1) (record v { slots = new; unused = unused }) (after_take h)
taken-holds v new unused at h claimed short others taken holds = grind (arith, held_again, stands-taken, others)

-- A list of slots begins at a slot.
pub some-front : (xs : List ℕ) (rs : List Ring) → length rs ≤ 16777216 → Line rs xs → front xs ≡ no_slot → 1 ≤ length xs
    → ⊥
some-front [] rs short line e h = omega arith
some-front (x ∷ xs) rs short line e h = omega (arith, line.0, e)

pub length-rings : (slots : List Slot) → length (rings slots) ≡ length slots
length-rings slots = simp length-map

pub length-nodes : (slots : List Slot) → length (nodes slots) ≡ length slots
length-nodes slots = simp length-map

-- There are not too many slots once one is taken for which there was room.
pub taken-short : (v : Shelf) (new : List Slot) (capacity i : ℕ) (n : Node) (slot : Slot) (h : Holding)
    (claimed : ℕ → ℕ)
    → HoldsWith claimed v h
    → (1 ≤ length h.unused_list)
    ⊎ ((length v.slots + 1 ≤ length h.unused_list + capacity) × (length v.slots + 1 ≤ length h.unused_list + 16777216))
    → ((v.unused.number ≡ no_slot → ⊥) → nodes new ≡ set (nodes v.slots) i n)
    → (v.unused.number ≡ no_slot → new ≡ v.slots ++ slot ∷ [])
    → length new ≤ 16777216
taken-short v new capacity i n slot h claimed holds room again fresh =
    grind (arith, length_push, some-front, length-rings, length-set, length-nodes)

-- A plan is carried out in a detached leaf, the only one, in slots that are claimed.
module _ (v : Shelf) (new : List Slot) (at : Link) (p : Plan) (t : Parts) (long : length new ≡ length v.slots)
    (placed : IsCarriedOut (nodes v.slots) (nodes new) at p t) (same : rings new ≡ rings v.slots)
    (can : CanPlace (nodes v.slots) at.number p t) (h : Holding)
    (holds : HoldsWith (λ i. occurs i (taken_by p t)) v h) (detached : h.detached at.number ≡ true)
    (only : IsDetachedOnly (at.number ∷ []) h) where
  abbrev ns : List Node
  ns = nodes v.slots

  abbrev ms : List Node
  ms = nodes new

  placed_moved : (i : ℕ) → StaysOrIsOut (node_at ns i) (node_at ms i) (h.detached i) (marks_of (left_by p t) i)
  placed_moved i = elim (cases_eq i at.number) [
    | inl e ↦ inr (inl (ap h.detached e ∙ detached), inr (ap (λ x. is_free (node_at ms x).kind) e ∙ (placed-leaf ns ms at p t placed).1))
    | inr ne ↦ elim (cases_lt 0 (occurs i (taken_by p t))) [
      | inl l ↦ inr (inr (ap is_free (can.unused i l)), (placed-part ns ms at p t placed i l).1)
      | inr z ↦
          let none : occurs i (taken_by p t) ≡ 0 = omega (arith, z) in
          moved-kept (node_at ns i) (node_at ms i) (h.detached i) (marks_of (left_by p t) i)
          (placed-others ns ms at p t placed can i ne none)
          (untaken-unmarked p t i none ∙ sym (only i (omega (arith, same-ne i at.number ne))))
    ]
  ]

  placed_filed : AreFiled (options_of v.options) ms (rings new) v.heads v.unused
      (record { unused_list = h.unused_list; free_lists = h.free_lists; claimed = λ i. 0; detached = marks_of (left_by p t) })
  placed_filed =
      subst (λ r. AreFiled (options_of v.options) ms r v.heads v.unused
      (record { unused_list = h.unused_list; free_lists = h.free_lists; claimed = λ i. 0; detached = marks_of (left_by p t) })) (sym same)
      (AreFiled-moved (options_of v.options) ns ms (rings v.slots) v.heads v.unused (places_of (λ i. occurs i (taken_by p t)) h)
      (λ i. 0) (marks_of (left_by p t)) placed_moved (λ i _. omega (arith, used_after ns ms at p t placed can i)) holds.filed)

  pub placed-holds : Holds
      (record v { slots = new }) (after_place p t at.number (node_in v (granted_by p t at.number)).generation h)
  placed-holds =
      let g = (node_in v (granted_by p t at.number)).generation in
      let short : length ns < no_slot = omega (arith, holds.short, length-nodes v.slots) in
      held_again (λ i. occurs i (taken_by p t)) (λ i. 0) v new v.unused h (planned p t at.number g h.sequence.width h.tree) h.unused_list
      (marks_of (left_by p t)) (omega (arith, long, holds.short)) holds
      (Stands-placed ns ms at p t placed can h.sequence h.tree (none-unused ns short) holds.stands) placed_filed
      (recut-planned p t at.number g ns can.feasible h.sequence no_slot 0 h.tree holds.stands.standing)
