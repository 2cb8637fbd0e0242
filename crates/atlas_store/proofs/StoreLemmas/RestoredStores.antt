-- A store made of nodes that stand for a tree.
use Rattle.std.proofs.Common.{
  ℕ,
  ◌+◌,
  ◌<◌,
  ◌≤◌,
  ◌≡◌,
  ◌≢◌,
  ◌&&◌,
  Bool,
  true,
  false,
  List,
  [],
  ◌∷◌,
  refl,
  sym,
  ap,
  ap₂,
  ◌∙◌,
  if◌then◌else◌,
  inl,
  inr,
  arith,
  zero,
  suc,
  subst,
  length,
  map,
}
use Rattle.std.proofs.lemmas.Bool.{cases_eq, true≢false, false_from_ne_true}
use Rattle.std.proofs.lemmas.List.{length-map}
use Rattle.atlas_model.specs.declared.options.AllocatorOptions.{AllocatorOptions}
use Rattle.atlas_model.specs.Choice.{Options}
use Rattle.atlas_model.specs.Pixels.{options_of}
use Rattle.atlas_search.specs.declared.link.Link.{Link}
use Rattle.atlas_search.specs.Numbers.{front, no_slot, occurs}
use Rattle.atlas_search.specs.Tables.{head_of, is_used_at}
use Rattle.atlas_store.specs.declared.slots.Node.{Node}
use Rattle.atlas_store.specs.declared.slots.NodeKind.{NodeKind}
use Rattle.atlas_store.specs.declared.slots.NodeKind.TheVariants as kind
use Rattle.atlas_store.specs.declared.slots.Ring.{Ring}
use Rattle.atlas_store.specs.declared.slots.Slot.{Slot}
use Rattle.atlas_store.specs.Slots.{node_at, node_of, nodes, ring_at, rings, use_count}
use Rattle.atlas_store.specs.Slots.Links.{with_mark}
use Rattle.atlas_store.specs.Slots.Lists.{AreFiled, Line, filed, is_free}
use Rattle.atlas_store.specs.Slots.Numbered.{Numbered}
use Rattle.atlas_store.specs.Slots.Standing.{Sequence}
use Rattle.atlas_store.specs.Stored.{Holding, Holds, IsDetachedOnly, Shelf}
use Rattle.atlas_store.specs.declared.store.Store.{Store}
use Rattle.atlas_store.specs.Store.Holdings.{IsDetachedLeaf, OnlyTakes, node_in, shelf_of, with_detached, with_free_lists}
use Rattle.atlas_store.specs.Store.StoreCalls.{ListsLeaf}
use Rattle.atlas_store.specs.Store.Restoring.{
  CanRestore,
  HoldsSame,
  IsListedFrom,
  IsRestored,
  IsUnusedLine,
  ListsAll,
  NodeLine,
  StandWhole,
  image_node,
  made_slot,
  next_of,
}
use Rattle.atlas_store.proofs.SlotLemmas.Frames.{same-ne, used-inside}
use Rattle.atlas_store.proofs.StoreLemmas.FiledSlots.{unless_detached, with_mark-other, with_mark-same, free_kind}
use Rattle.atlas_store.proofs.StoreLemmas.LinkedLists.{linked-none}
use Rattle.atlas_store.proofs.StoreLemmas.ListedSlots.{recent-none}
use Rattle.atlas_store.proofs.StoreLemmas.TakenOnce.{only-takes}
use Rattle.atlas_store.proofs.StoreLemmas.TakenSlots.{none-used}

-- The nodes of slots that were made of nodes.
pub made-nodes : (ns : List Node) → nodes (map made_slot ns) ≡ ns
made-nodes [] = refl
made-nodes (n ∷ ns) = ap (λ v. n ∷ v) (made-nodes ns)

-- What is on the right of each.
pub made-right : (ns : List Node) (x : ℕ) → x < length ns
    → (ring_at (rings (map made_slot ns)) x).right ≡ (node_at ns x).next
made-right [] x l = absurd (omega arith)
made-right (n ∷ ns) zero l = refl
made-right (n ∷ ns) (suc x) l = made-right ns x (omega arith)

pub made-length : (ns : List Node) → length (rings (map made_slot ns)) ≡ length ns
made-length [] = refl
made-length (n ∷ ns) = ap suc (made-length ns)

pub made-line : (ns : List Node) (xs : List ℕ) → NodeLine ns xs → Line (rings (map made_slot ns)) xs
made-line ns [] h = tt
made-line ns (x ∷ xs) h =
    (omega (arith, made-length ns, h.0), ap (λ (l : Link). l.number) (made-right ns x h.0) ∙ h.1, made-line ns xs h.2)

-- Each free slot is detached, and no other.
abbrev pub free_marks : List Node → ℕ → Bool
free_marks ns i = is_free (node_at ns i).kind

nowhere_kind : (c : NodeKind) (b : Bool) → unless_detached (is_free c) (if is_free c && b then 1 else 0) ≡ 0
nowhere_kind kind.Container b = refl
nowhere_kind kind.Alloc b = refl
nowhere_kind kind.Free b = refl
nowhere_kind kind.Unused b = refl

nowhere : (o : Options) (k : ℕ) (n : Node) → unless_detached (is_free n.kind) (filed o k n) ≡ 0
nowhere o k n = nowhere_kind n.kind _

free_true : (c : NodeKind) → c ≡ kind.Free → is_free c ≡ true
free_true c e = rw e refl

-- What the slots hold, before the first free one is listed.
abbrev pub unlisted_holding : List Node → Sequence → Numbered → List ℕ → Holding
unlisted_holding ns s n xs =
    record { sequence = s; tree = n; unused_list = xs; free_lists = λ k. []; detached = free_marks ns }

pub record IsMade (v : Shelf) (ns : List Node) (first : Link) : Type 0 where
  pub slots : v.slots ≡ map made_slot ns
  pub lists : (k : ℕ) → is_used_at v.heads k ≡ false
  pub unused : v.unused ≡ first
  pub recent : v.recent.at.number ≡ no_slot

module _ (v : Shelf) (ns : List Node) (unused : Link) (options : AllocatorOptions) (made : IsMade v ns unused)
    (can : CanRestore ns unused options) (same_options : v.options ≡ options) where
  made_filed : (xs : List ℕ) → IsUnusedLine ns unused.number xs
      → AreFiled (options_of v.options) ns (rings (map made_slot ns)) v.heads v.unused
      (record { unused_list = xs; free_lists = λ k. []; claimed = λ i. 0; detached = free_marks ns })
  made_filed xs l =
      record {
        free = λ k below. record {
          links = linked-none ns (rings (map made_slot ns)) k (head_of v.heads k) (none-used v.heads k (made.lists k));
          each = λ i. sym (nowhere (options_of v.options) k (node_at ns i));
        };
        line = made-line ns xs l.line;
        begins = ap (λ (u : Link). u.number) made.unused ∙ l.begins;
        each = λ i below. omega (arith, l.each i (omega (arith, made-length ns)));
      }

  made_holds : (s : Sequence) (n : Numbered) (xs : List ℕ) → StandWhole ns s n → IsUnusedLine ns unused.number xs
      → Holds v (unlisted_holding ns s n xs)
  made_holds s n xs t l =
      let same : nodes v.slots ≡ ns = ap nodes made.slots ∙ made-nodes ns in
      record {
        top = t.top;
        stands = rw same t.stands;
        filed = rw (same, made.slots) (made_filed xs l);
        is_recent = recent-none v.recent (λ k. []) made.recent;
        short = omega (arith, can.short, ap (λ (x : List Node). length x) same, length-map v.slots node_of);
        valid = rw same_options can.valid;
        cut = t.cut;
        wide = t.wide;
        across = t.across;
        along = t.along;
      }

  pub made-unlisted : (s : Sequence) (n : Numbered) (xs : List ℕ) → StandWhole ns s n → IsUnusedLine ns unused.number xs
      → IsListedFrom 0 v (unlisted_holding ns s n xs)
  made-unlisted s n xs t l =
      let same : nodes v.slots ≡ ns = ap nodes made.slots ∙ made-nodes ns in
      record {
        holds = made_holds s n xs t l;
        free = λ k _ e. free_true (node_at ns k).kind (ap (λ x. (node_at x k).kind) (sym same) ∙ e);
        from = λ k e. omega arith;
        only = λ k e. ap (λ x. (node_at x k).kind) same ∙ free_kind (node_at ns k).kind e;
      }

-- One slot more is in its list.
module _ (i : ℕ) (v w : Shelf) (h : Holding) (u : IsListedFrom i v h) (same : nodes w.slots ≡ nodes v.slots) where
  same_kind : (k : ℕ) → (node_in w k).kind ≡ (node_in v k).kind
  same_kind k = ap (λ x. (node_at x k).kind) same

  pub listed-more : (free_lists : ℕ → List ℕ) → Holds w (with_detached i false (with_free_lists free_lists h))
      → IsListedFrom (i + 1) w (with_detached i false (with_free_lists free_lists h))
  listed-more free_lists holds =
      record {
        holds = holds;
        free = λ k l e.
            let ne : k ≢ i = omega arith in
            with_mark-other h.detached i false k ne ∙ u.free k (omega arith) (sym (same_kind k) ∙ e);
        from = λ k e. (left k e).0;
        only = λ k e. same_kind k ∙ u.only k (left k e).1;
      }
    where
      left : (k : ℕ) → with_mark h.detached i false k ≡ true → (i + 1 ≤ k) × (h.detached k ≡ true)
      left k e = elim (cases_eq k i) [
        | inl q ↦ absurd (true≢false (sym e ∙ ap (with_mark h.detached i false) q ∙ with_mark-same h.detached i false))
        | inr ne ↦
            let d : h.detached k ≡ true = sym (with_mark-other h.detached i false k ne) ∙ e in
            (omega (arith, u.from k d), d)
      ]

-- A slot that isn't free needs none.
pub listed-over : (i : ℕ) (v : Shelf) (h : Holding) → IsListedFrom i v h → ((node_in v i).kind ≡ kind.Free → ⊥)
    → IsListedFrom (i + 1) v h
listed-over i v h u never =
    record {
      holds = u.holds;
      free = λ k l e. u.free k (omega arith) e;
      from = λ k e. elim (cases_eq k i) [
        | inl q ↦ absurd (never (ap (λ x. (node_in v x).kind) (sym q) ∙ u.only k e))
        | inr ne ↦ omega (arith, u.from k e)
      ];
      only = u.only;
    }

-- Past the last slot all are in their lists.
pub listed-all : (i : ℕ) (v : Shelf) (h : Holding) → IsListedFrom i v h → length v.slots ≤ i → IsDetachedOnly [] h
listed-all i v h u l = λ k _. false_from_ne_true (h.detached k) (λ e.
    let f : (node_in v k).kind ≡ kind.Free = u.only k e in
    let inside : k < length (nodes v.slots) = used-inside (nodes v.slots) k (rw f (omega arith)) in
    absurd (omega (arith, inside, u.from k e, length-map v.slots node_of)))

-- The free slots before the i-th are in their lists.
pub record IsListing {A : Type 0} (first now : Store A) (i : ℕ) : Type 0 where
  pub listed : (h : Holding) → IsListedFrom 0 (shelf_of first) h
      → (g : Holding) × IsListedFrom i (shelf_of now) g × HoldsSame h g
  pub nodes : nodes now.slots.items ≡ nodes first.slots.items
  pub slots : length now.slots.items ≡ length first.slots.items
  pub takes : OnlyTakes first now

module _ {A : Type 0} (first old : Store A) (i : ℕ) (l : IsListing first old i) where
  -- Slot i is listed.
  pub listing-more : (new : Store A) → (node_in (shelf_of old) i).kind ≡ kind.Free → ListsLeaf old new i
      → IsListing first new (i + 1)
  listing-more new free w =
      record {
        listed = λ h u.
            let s = l.listed h u in
            let leaf : IsDetachedLeaf (shelf_of old) i s.0 = record {
              holds = s.1.holds;
              kind = free;
              detached = s.1.free i (omega arith) free;
            } in
            let k = w.kept s.0 leaf in (
              with_detached i false (with_free_lists k.0 s.0),
              listed-more i (shelf_of old) (shelf_of new) s.0 s.1 w.nodes k.0 k.1,
              record { sequence = s.2.sequence; tree = s.2.tree; unused_list = s.2.unused_list },
            );
        nodes = w.nodes ∙ l.nodes;
        slots = w.slots ∙ l.slots;
        takes = only-takes l.takes w.takes;
      }

  pub listing-over : ((node_in (shelf_of old) i).kind ≡ kind.Free → ⊥) → IsListing first old (i + 1)
  listing-over never =
      record {
        listed = λ h u. let s = l.listed h u in (s.0, listed-over i (shelf_of old) s.0 s.1 never, s.2);
        nodes = l.nodes;
        slots = l.slots;
        takes = l.takes;
      }

  pub listing-all : length old.slots.items ≤ i → ListsAll first old
  listing-all end =
      record {
        listed = λ h u. let s = l.listed h u in (s.0, s.1.holds, listed-all i (shelf_of old) s.0 s.1 end, s.2);
        nodes = l.nodes;
        slots = l.slots;
        takes = l.takes;
      }

-- The unused slots say which comes next.
line_next : (ns : List Node) (rs : List Ring) (xs : List ℕ) → Line rs xs → NodeLine ns xs → (i : ℕ) → 0 < occurs i xs
    → (ring_at rs i).right.number ≡ (node_at ns i).next.number
line_next ns rs [] h g i l = absurd (omega arith)
line_next ns rs (x ∷ xs) h g i l = elim (cases_eq i x) [
  | inl e ↦ rw e (h.1 ∙ sym g.1)
  | inr ne ↦ line_next ns rs xs h.2 g.2 i (omega (arith, same-ne i x ne))
]

pub link_same : (a b : Link) → a.number ≡ b.number → a ≡ b
link_same a b e = ap (λ n. record { number = n }) e

next_by : (c : NodeKind) (s : Slot) → (c ≡ kind.Unused → s.right ≡ s.next) → next_of c s ≡ s.next
next_by kind.Container s right = refl
next_by kind.Alloc s right = refl
next_by kind.Free s right = refl
next_by kind.Unused s right = right refl

image_self : (s : Slot) → (s.kind ≡ kind.Unused → s.right ≡ s.next) → image_node s ≡ node_of s
image_self s right = ap (λ l. record (node_of s) { next = l }) (next_by s.kind s right)

-- An unused slot of the list has on its right what its node says comes next.
abbrev AreRight : List Slot → Type 0
AreRight ss = (i : ℕ) → i < length ss → (node_at (nodes ss) i).kind ≡ kind.Unused
    → (ring_at (rings ss) i).right ≡ (node_at (nodes ss) i).next

images_are : (ss : List Slot) → AreRight ss → map image_node ss ≡ nodes ss
images_are [] right = refl
images_are (s ∷ ss) right =
    ap₂ (λ x xs. x ∷ xs) (image_self s (right 0 (omega arith))) (images_are ss (λ i l. right (suc i) (omega arith)))

module _ (v w : Shelf) (ns : List Node) (unused : Link) (options : AllocatorOptions) (made : IsMade v ns unused)
    (can : CanRestore ns unused options) (same_options : v.options ≡ options) (same_nodes : nodes w.slots ≡ nodes v.slots)
    (listed : (h : Holding) → IsListedFrom 0 v h → (g : Holding) × Holds w g × IsDetachedOnly [] g × HoldsSame h g) where
  pub restored-nodes : nodes w.slots ≡ ns
  restored-nodes = same_nodes ∙ ap nodes made.slots ∙ made-nodes ns

  pub restored-holds : (s : Sequence) (n : Numbered) → StandWhole ns s n
      → (h : Holding) × Holds w h × IsDetachedOnly [] h × (h.sequence ≡ s) × (h.tree ≡ n)
  restored-holds s n t =
      let l = can.line in
      let r = listed (unlisted_holding ns s n l.0)
      (made-unlisted v ns unused options made can same_options s n l.0 t l.1) in
      (r.0, r.1, r.2, r.3.sequence, r.3.tree)

  -- The list of unused slots stays.
  record IsLineOf (xs : List ℕ) : Type 0 where
    line : Line (rings w.slots) xs
    begins : w.unused.number ≡ front xs

  line_kept : IsLineOf can.line.0
  line_kept =
      let l = can.line in
      let t = can.tree in
      let r = listed (unlisted_holding ns t.0 t.1 l.0)
      (made-unlisted v ns unused options made can same_options t.0 t.1 l.0 t.2 l.1) in
      record {
        line = subst (Line (rings w.slots)) r.3.unused_list r.1.filed.line;
        begins = r.1.filed.begins ∙ ap front r.3.unused_list;
      }

  pub restored-unused : w.unused ≡ unused
  restored-unused = link_same w.unused unused (line_kept.begins ∙ sym can.line.1.begins)

  pub restored-images : map image_node w.slots ≡ ns
  restored-images = images_are w.slots (λ i l u.
      let e : (node_at ns i).kind ≡ kind.Unused = ap (λ x. (node_at x i).kind) (sym restored-nodes) ∙ u in
      let inside : i < length ns = omega (arith, l, ap (λ (x : List Node). length x) restored-nodes, length-map w.slots node_of) in
      let on : 0 < occurs i can.line.0 = omega (arith, can.line.1.each i inside, ap use_count e) in
      link_same _ _ (line_next ns (rings w.slots) can.line.0 line_kept.line can.line.1.line i on
      ∙ ap (λ x. (node_at x i).next.number) (sym restored-nodes))) ∙ restored-nodes

-- The store that was made, once its free slots are in their lists.
pub restored : {A : Type 0} (new : Store A) (v : Shelf) (ns : List Node) (unused : Link) (options : AllocatorOptions)
    → IsMade v ns unused → CanRestore ns unused options → v.options ≡ options → nodes new.slots.items ≡ nodes v.slots
    → ((h : Holding) → IsListedFrom 0 v h
    → (g : Holding) × Holds (shelf_of new) g × IsDetachedOnly [] g × HoldsSame h g)
    → new.options ≡ v.options → IsRestored new ns unused options
restored new v ns unused options made can same_options same_nodes listed kept =
    let w = shelf_of new in
    record {
      nodes = restored-nodes v w ns unused options made can same_options same_nodes listed;
      images = restored-images v w ns unused options made can same_options same_nodes listed;
      holds = restored-holds v w ns unused options made can same_options same_nodes listed;
      unused = restored-unused v w ns unused options made can same_options same_nodes listed;
      options = kept ∙ same_options;
    }
