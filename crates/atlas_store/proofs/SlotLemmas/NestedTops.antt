-- The members of the top sequence get another holder, one after the other.
use Rattle.std.proofs.Common.{ℕ, ◌+◌, ◌<◌, ◌≤◌, ◌≡◌, ◌≢◌, List, refl, ◌∙◌, arith, length, set, length-set, pos}
use Rattle.std.proofs.lemmas.Bool.{cases_eq}
use Rattle.std.proofs.lemmas.List.{length-map}
use Rattle.atlas_search.specs.declared.link.Link.{Link}
use Rattle.atlas_store.specs.declared.slots.Node.{Node}
use Rattle.atlas_store.specs.declared.slots.NodeKind.{NodeKind}
use Rattle.atlas_store.specs.declared.slots.NodeKind.TheVariants as kind
use Rattle.atlas_store.specs.declared.slots.Slot.{Slot}
use Rattle.atlas_model.specs.declared.geometry.Size.{Size}
use Rattle.atlas_model.specs.Boxes.{other}
use Rattle.atlas_model.specs.Pixels.{sides_of, size_of}
use Rattle.atlas_search.specs.Rectangles.{beyond_in, flipped}
use Rattle.atlas_model.specs.Trees.{total}
use Rattle.atlas_store.specs.Slots.{nodes, node_at, use_count, axis_of, KeepsUse, node_of}
use Rattle.atlas_search.specs.Numbers.{no_slot, same}
use Rattle.atlas_store.specs.Slots.Numbered.{Numbered, erase, tally, first_slot, End, Free, Alloc, Seq}
use Rattle.atlas_store.specs.Slots.Standing.{Sequence, Standing, Stands, IsLinkedIn, inside}
use Rattle.atlas_store.specs.Slots.Growing.{Reaches, IsWider, held_by, nested, top_along}
use Rattle.atlas_store.specs.Slots.SlotCalls.{BeginsAt, CanNestTop}
use Rattle.atlas_store.proofs.WalkLemmas.StoredAtlas.{nonempty-total}
use Rattle.atlas_store.proofs.SlotLemmas.Frames.{Standing-same, IsWritten, IsWritten-by, same-self, same-ne, keeps-same, used-le}
use Rattle.atlas_store.proofs.SlotLemmas.Frames.{ne-from_same, ne-from_count}
use Rattle.atlas_store.proofs.SlotLemmas.JoinWrites.{none-unused}
use Rattle.atlas_model.proofs.TreeLemmas.TreeBasics.{other_twice}
use Rattle.atlas_store.proofs.SlotLemmas.PlannedLeaves.{axis_of-flipped}
use Rattle.atlas_store.proofs.SlotLemmas.Extensions.{box-beyond}
use Rattle.atlas_store.proofs.SlotLemmas.ReadTrees.{first-axis}
use Rattle.atlas_store.proofs.SlotLemmas.Followers.{outermost, outermost-few, followers, followers-outermost, begins-inside}
use Rattle.atlas_store.proofs.SlotLemmas.MemberLinks.{begins-none}

-- The nodes are hung as far as slot `at`: what is left still stands, and once it hangs too, all of n does.
pub record IsHanging (ns : List Node) (c at : ℕ) (s : Sequence) (n : Numbered) : Type 0 where
  pub before : ℕ
  pub start : ℕ
  pub rest : Numbered
  pub standing : Standing ns s before start rest
  pub begins : at ≡ first_slot rest
  pub once : (k : ℕ) → tally k rest ≤ 1
  pub none : tally no_slot rest ≡ 0
  pub few : outermost rest ≤ length ns
  pub ends : (ms : List Node) → ((k : ℕ) → tally k rest ≡ 0 → node_at ms k ≡ node_at ns k)
      → Standing ms (held_by c s) before start rest → Standing ms (held_by c s) no_slot 0 n

-- At first nothing is hung.
pub hanging-begins : (ns : List Node) (c at : ℕ) (s : Sequence) (n : Numbered) → length ns < no_slot
    → BeginsAt ns at s n → IsHanging ns c at s n
hanging-begins ns c at s n short h = grind (arith, used-le, none-unused, outermost-few)

-- Past the last member all hang.
pub hanging-ends : (ns : List Node) (c at : ℕ) (s : Sequence) (n : Numbered) → at ≡ no_slot → IsHanging ns c at s n
    → Standing ns (held_by c s) no_slot 0 n
hanging-ends ns c at s n e g = grind (arith, begins-none)

hanging-inside : (ns : List Node) (c at : ℕ) (s : Sequence) (n : Numbered) → (at ≡ no_slot → ⊥) → IsHanging ns c at s n
    → at < length ns
hanging-inside ns c at s n ne g = grind (arith, begins-inside)

pub hanging-slot : (slots : List Slot) (c at : ℕ) (s : Sequence) (n : Numbered) → (at ≡ no_slot → ⊥)
    → IsHanging (nodes slots) c at s n → at < length slots
hanging-slot slots c at s n ne g =
    let inside = hanging-inside (nodes slots) c at s n ne g in
    omega (arith, length-map slots node_of)

hanging-followers : (ns : List Node) (c at : ℕ) (s : Sequence) (n : Numbered) → (g : IsHanging ns c at s n)
    → followers (length ns) ns at ≡ outermost g.rest
hanging-followers ns c at s n g = grind (arith, followers-outermost)

-- The node at slot `at` is hung.
pub record IsHung (ns ms : List Node) (at : ℕ) (c : Link) : Type 0 where
  pub written : IsWritten ns ms at (record (node_at ns at) { parent = c })
  pub long : length ms ≡ length ns

pub hung-by : (ns ms : List Node) (at : ℕ) (c : Link) (node : Node) (s : Sequence) (n : Numbered) → (at ≡ no_slot → ⊥)
    → IsHanging ns c.number at s n → node ≡ node_at ns at → ms ≡ set ns at (record node { parent = c })
    → IsHung ns ms at c
hung-by ns ms at c node s n ne g e w =
    grind (arith, IsWritten-by ns ms at, hanging-inside ns c.number at s n ne g, length-set ns at)

module _ (ns ms : List Node) (at : ℕ) (c : Link) (w : IsHung ns ms at c) where
  -- A tree without the member stays.
  stays : (i : ℕ) (n : Numbered) → at ≡ i → tally i n ≡ 0 → (k : ℕ) → 0 < tally k n → node_at ms k ≡ node_at ns k
  stays i n e z k l = w.written.others k (λ x. ne-from_count i k n z l (x ∙ e))

  -- And so does all that came before.
  before_stays : (xs : List Node) (i : ℕ) (m rest : Numbered) → at ≡ i → ((k : ℕ) → same k i + tally k rest ≤ tally k m)
      → ((k : ℕ) → tally k rest ≡ 0 → node_at xs k ≡ node_at ms k) → (k : ℕ) → tally k m ≡ 0
      → node_at xs k ≡ node_at ns k
  before_stays xs i m rest e le keeps k z = grind (arith, ne-from_same)

  hung_at : (xs : List Node) (i : ℕ) → at ≡ i → node_at xs i ≡ node_at ms i
      → node_at xs i ≡ record (node_at ns i) { parent = c }
  hung_at xs i e x = x ∙ (rw (← e) w.written.there)

  placed_hung : (xs : List Node) (s : Sequence) (b a i : ℕ) (k : NodeKind)
      → node_at xs i ≡ record (node_at ns i) { parent = c } → IsLinkedIn (node_at ns i) s b a k
      → IsLinkedIn (node_at xs i) (held_by c.number s) b a k
  placed_hung xs s b a i k x h = grind arith

  -- One member further, of so many that were left.
  abbrev IsShorter : (s : Sequence) (n : Numbered) (count : ℕ) → Type 0
  IsShorter s n count = (g : IsHanging ms c.number (node_at ns at).next.number s n) × (outermost g.rest + 1 ≡ count)

  goes_on : (s : Sequence) (i p : ℕ) (m rest n : Numbered) → at ≡ i → ((k : ℕ) → same k i + tally k rest ≤ tally k m)
      → ((k : ℕ) → tally k m ≤ 1) → tally no_slot m ≡ 0 → outermost m ≤ length ns → outermost rest + 1 ≡ outermost m
      → (node_at ns i).next.number ≡ first_slot rest → Standing ns s i p rest
      → ((xs : List Node) → ((k : ℕ) → tally k rest ≡ 0 → node_at xs k ≡ node_at ms k)
      → Standing xs (held_by c.number s) i p rest → Standing xs (held_by c.number s) no_slot 0 n)
      → IsShorter s n (outermost m)
  goes_on s i p m rest n e le once none few one next h f =
      let z : tally i rest ≡ 0 = omega (arith, le i, once i, same-self i) in (
        record {
          before = i;
          start = p;
          rest = rest;
          standing = Standing-same ns ms s i p rest (stays i rest e z) h;
          begins = rw e next;
          once = λ k. omega (arith, le k, once k);
          none = omega (arith, le no_slot);
          few = omega (arith, w.long);
          ends = f;
        },
        one,
      )

  pub hanging-goes_on : (s : Sequence) (n : Numbered) → (at ≡ no_slot → ⊥) → (g : IsHanging ns c.number at s n)
      → IsShorter s n (outermost g.rest)
  hanging-goes_on s n ne g = from g.before g.start g.rest g.standing g.begins g.once g.none g.few g.ends
    where
      from : (b p : ℕ) (m : Numbered) → Standing ns s b p m → at ≡ first_slot m → ((k : ℕ) → tally k m ≤ 1)
          → tally no_slot m ≡ 0 → outermost m ≤ length ns
          → ((xs : List Node) → ((k : ℕ) → tally k m ≡ 0 → node_at xs k ≡ node_at ns k)
          → Standing xs (held_by c.number s) b p m → Standing xs (held_by c.number s) no_slot 0 n)
          → IsShorter s n (outermost m)
      from b p End h e once none few f = absurd (ne e)
      from b p (Free i d rest) h e once none few f =
          goes_on s i (p + d) (Free i d rest) rest n e (λ k. omega arith) once none few (omega arith) h.0.next h.2 (λ xs keeps t.
          let x = hung_at xs i e (keeps i (omega (arith, once i, same-self i))) in
          f xs (before_stays xs i (Free i d rest) rest e (λ k. omega arith) keeps) (placed_hung xs s b _ i _ x h.0, rw x h.1, t))
      from b p (Alloc i a d rest) h e once none few f =
          goes_on s i (p + d) (Alloc i a d rest) rest n e (λ k. omega arith) once none few (omega arith) h.0.next h.3 (λ xs keeps t.
          let x = hung_at xs i e (keeps i (omega (arith, once i, same-self i))) in
          f xs (before_stays xs i (Alloc i a d rest) rest e (λ k. omega arith) keeps)
          (placed_hung xs s b _ i _ x h.0, rw x h.1, rw x h.2, t))
      from b p (Seq i d inner rest) h e once none few f =
          goes_on s i (p + d) (Seq i d inner rest) rest n e (λ k. omega arith) once none few (omega arith) h.0.next h.3 (λ xs keeps t.
          let x = hung_at xs i e (keeps i (omega (arith, once i, same-self i))) in
          let z : tally i inner ≡ 0 = omega (arith, once i, same-self i) in
          let within : (k : ℕ) → 0 < tally k inner → node_at xs k ≡ node_at ns k =
          (λ k l. keeps k (omega (arith, once k)) ∙ stays i inner e z k l) in
          f xs (before_stays xs i (Seq i d inner rest) rest e (λ k. omega arith) keeps)
          (placed_hung xs s b _ i _ x h.0, rw x h.1, Standing-same ns xs (inside s i p d) no_slot s.start inner within h.2, t))

  -- Fewer members follow.
  pub hanging-falls : (s : Sequence) (n : Numbered) → (at ≡ no_slot → ⊥) → IsHanging ns c.number at s n
      → followers (length ms) ms (node_at ns at).next.number < followers (length ns) ns at
  hanging-falls s n ne g =
      let less = hanging-goes_on s n ne g in
      omega (arith, less.1, hanging-followers ns c.number at s n g, hanging-followers ms c.number (node_at ns at).next.number s n less.0)

  pub hung-uses : (k : ℕ) → KeepsUse (node_at ns k) (node_at ms k)
  hung-uses k = grind (arith, keeps-same)

pub uses-from : (n m l : Node) → KeepsUse n m → KeepsUse m l → KeepsUse n l
uses-from n m l a b = grind arith

-- The node of an unused slot once it holds a whole sequence of this size, whose first member is given; slot k follows.
abbrev pub top_node : (first unused : Node) → Size → (k : Link) → Node
top_node first unused size k =
    record {
      parent = record { number = no_slot };
      previous = record { number = no_slot };
      next = k;
      area = record { min = record { x = pos 0; y = pos 0 }; max = record { x = size.width; y = size.height } };
      kind = kind.Container;
      axis = flipped first.axis;
      generation = unused.generation;
    }

-- The node of an unused slot once it is a free leaf that follows slot c, as far as the far corner of a size.
abbrev pub last_node : (top unused : Node) → Size → (c : Link) → Node
last_node top unused size c =
    record top {
      previous = c;
      next = record { number = no_slot };
      area = beyond_in top.axis top.area size;
      kind = kind.Free;
      generation = unused.generation;
    }

-- The members hang in slot c; then that is written, and slot k after it.
module _ (ns ms xs ks : List Node) (i : ℕ) (c k : Link) (inner size : Size) (can : CanNestTop ns i c.number k.number)
    (uses : (x : ℕ) → KeepsUse (node_at ns x) (node_at ms x))
    (w1 : IsWritten ms xs c.number (top_node (node_at ns i) (node_at ns c.number) inner k))
    (w2 : IsWritten xs ks k.number
    (last_node (top_node (node_at ns i) (node_at ns c.number) inner k) (node_at ns k.number) size c)) where
  pub nested-top : node_at ks c.number ≡ top_node (node_at ns i) (node_at ns c.number) inner k
  nested-top = w2.others c.number can.apart ∙ w1.there

  stays_hung : (x : ℕ) → x ≢ c.number → x ≢ k.number → node_at ks x ≡ node_at ms x
  stays_hung x nc nk = w2.others x nk ∙ w1.others x nc

  pub nested-others : (x : ℕ) → x ≢ c.number → x ≢ k.number → KeepsUse (node_at ns x) (node_at ks x)
  nested-others x nc nk = rw (stays_hung x nc nk) (uses x)

  pub nested-generations : (x : ℕ) → (node_at ks x).generation ≡ (node_at ns x).generation
  nested-generations x = grind (arith, cases_eq x c.number, cases_eq x k.number, nested-top, nested-others)

  nested_use : (x : ℕ)
      → use_count (node_at ks x).kind ≡ same x c.number + (same x k.number + use_count (node_at ns x).kind)
  nested_use x = grind (arith, cases_eq x c.number, cases_eq x k.number, same-self, same-ne, nested-top, nested-others)

  module _ (exact_inner : inner ≡ size_of (sides_of inner)) (exact : size ≡ size_of (sides_of size)) (s : Sequence)
      (n : Numbered) (d : ℕ) (h : BeginsAt ns i s n) (start : s.start ≡ 0)
      (reach : Reaches (sides_of inner) s (total (erase n))) (wider : IsWider s.axis (sides_of inner) (sides_of size) d) where
    abbrev outside : Sequence
    outside = top_along (other s.axis) (total (erase n))

    axis_outside : axis_of (flipped (node_at ns i).axis) ≡ other s.axis
    axis_outside = grind (arith, axis_of-flipped, first-axis ns s no_slot 0 n h.stands.standing, nonempty-total)

    -- The leaf ends at the far corner.
    reaches_far : Reaches (sides_of size) outside (0 + s.width + d)
    reaches_far = grind (arith, other_twice)

    away : (x : ℕ) → 0 < tally x n → node_at ks x ≡ node_at ms x
    away x l = grind (arith, stays_hung, ne-from_count)

    pub Stands-nested : Standing ms (held_by c.number s) no_slot 0 n
        → Stands ks outside (nested c.number k.number s.width d n)
    Stands-nested hung =
        let beyond = box-beyond _ outside 0 s.width (0 + s.width) d size axis_outside exact refl reaches_far in
        let held = Standing-same ms ks (held_by c.number s) no_slot 0 n away hung in
        grind (arith, nested-top, axis_outside, other_twice, nested_use)
