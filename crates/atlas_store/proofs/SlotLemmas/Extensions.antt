-- The last leaf reaches to the far corner of a size, or a leaf that does is appended.
use Rattle.std.proofs.Common.{ℕ, ◌+◌, ◌<◌, ◌≤◌, ◌≡◌, ◌≢◌, ◌∙◌, true, false, cond, List, refl, sym, ap, arith, length, set, get_or-set_same}
use Rattle.std.proofs.Common.{get_or-set_other, length-set}
use Rattle.std.proofs.lemmas.Bool.{cases_eq, cond_both}
use Rattle.std.proofs.lemmas.List.{get_or_past, length-map}
use Rattle.atlas_store.specs.declared.slots.Slot.{Slot}
use Rattle.atlas_search.specs.declared.link.Link.{Link}
use Rattle.atlas_store.specs.declared.slots.Node.{Node}
use Rattle.atlas_store.specs.declared.slots.NodeKind.{NodeKind}
use Rattle.atlas_store.specs.declared.slots.NodeKind.TheVariants as kind
use Rattle.atlas_model.specs.declared.geometry.Size.{Size}
use Rattle.atlas_search.specs.declared.cut.Orientation.{Orientation}
use Rattle.atlas_model.specs.Boxes.{Sides, other}
use Rattle.atlas_model.specs.Pixels.{sides_of, size_of, rectangle_of}
use Rattle.atlas_model.specs.Trees.{total}
use Rattle.atlas_store.specs.Slots.SlotCalls.{CanAppendTo}
use Rattle.atlas_store.specs.Slots.{nodes, node_at, use_count, axis_of, KeepsUse, node_of}
use Rattle.atlas_search.specs.Numbers.{no_slot, same}
use Rattle.atlas_search.specs.Rectangles.{beyond_in}
use Rattle.atlas_store.specs.Slots.Numbered.{Numbered, weigh, tally, erase, first_slot, edited_in, End, Free, Alloc, Seq}
use Rattle.atlas_store.specs.Slots.Standing.{Sequence, Standing, Stands, IsLinkedIn, member_box}
use Rattle.atlas_store.specs.Slots.Growing.{is_last, extended, with_free_after, lengthened_by, last_after, last_slot, stretched, appended}
use Rattle.atlas_store.specs.Slots.Growing.{stretched_area, Reaches}
use Rattle.atlas_store.proofs.SlotLemmas.Frames.{IsWritten, Standing-same, same-self, same-ne, used-le, ne-from_count}
use Rattle.atlas_store.proofs.SlotLemmas.ReadTrees.{HasMember, nonempty-tally}
use Rattle.atlas_store.proofs.SlotLemmas.Edits.{edited-keeps}

-- The slot that comes last after k is k or a member.
pub last-in : (i k : ℕ) (n : Numbered) → last_after k n ≡ i → 0 < same i k + tally i n
last-in i k End e = rw e (omega (arith, same-self i))
last-in i k (Free j f rest) e = omega (arith, last-in i j rest e)
last-in i k (Alloc j g f rest) e = omega (arith, last-in i j rest e)
last-in i k (Seq j f inner rest) e = omega (arith, last-in i j rest e)

-- Where there is a member, the last is one of them.
pub last-later : (i k : ℕ) (n : Numbered) → HasMember n → last_after k n ≡ i → 0 < tally i n
last-later i k End some e = absurd (omega arith)
last-later i k n some e = grind (arith, last-in)

-- The rectangle of the last member is longer.
box-stretched : (s : Sequence) (p e d : ℕ) (size : Size) → size ≡ size_of (sides_of size)
    → Reaches (sides_of size) s (p + (e + d))
    → stretched_area (rectangle_of (member_box s p e)) size ≡ rectangle_of (member_box s p (e + d))
box-stretched s p e d size exact far = grind arith

-- A relation between members and the extended ones, which holds further where a member comes before.
pub record IsCarriedOn (R : (old new : Numbered) → Type 0) : Type 0 where
  pub free : (i e : ℕ) (m n : Numbered) → HasMember m → R m n → R (Free i e m) (Free i e n)
  pub alloc : (i g e : ℕ) (m n : Numbered) → HasMember m → R m n → R (Alloc i g e m) (Alloc i g e n)
  pub seq : (i e : ℕ) (inner m n : Numbered) → HasMember m → R m n → R (Seq i e inner m) (Seq i e inner n)

inner-same : (n : Numbered) → edited_in is_last (λ e m. m) (λ m. m) n ≡ n
inner-same = edited-keeps is_last (λ e m. m) (λ a m n. n ≡ m) (grind arith) (λ a m t. refl) 0

module _ (change : Numbered → Numbered) (R : (old new : Numbered) → Type 0) (kept : IsCarriedOn R)
    (here : (m : Numbered) → is_last m ≡ true → R m (change m)) where
  choice : (m v : Numbered) → (is_last m ≡ false → R m v) → R m (cond (is_last m) (change m) v)
  choice m v other = cond_both (is_last m) (change m) v (λ x. R m x) (here m) other

  -- The walk along the top sequence.
  pub extended-keeps : (n : Numbered) → R n (extended change n)
  extended-keeps End = here End refl
  extended-keeps (Free i e rest) = grind (arith, choice, same-self, extended-keeps rest)
  extended-keeps (Alloc i g e rest) = grind (arith, choice, same-self, extended-keeps rest)
  extended-keeps (Seq i e inner rest) = grind (arith, choice, same-self, inner-same, extended-keeps rest)

pub first-stretched : (d : ℕ) (n : Numbered) → first_slot (stretched d n) ≡ first_slot n
first-stretched d =
    extended-keeps (lengthened_by d) (λ m n. first_slot n ≡ first_slot m) (grind arith) (grind arith)

pub weigh-stretched : (w : ℕ → ℕ) (d : ℕ) (n : Numbered) → weigh w (stretched d n) ≡ weigh w n
weigh-stretched w d =
    extended-keeps (lengthened_by d) (λ m n. weigh w n ≡ weigh w m) (grind arith) (grind arith)

pub weigh-appended : (w : ℕ → ℕ) (k d : ℕ) (n : Numbered) → weigh w (appended k d n) ≡ weigh w n + w k
weigh-appended w k d =
    extended-keeps (with_free_after k d) (λ m n. weigh w n ≡ weigh w m + w k) (grind arith) (grind arith)

-- Members whose last is that of slot i, and d before the far corner of a size, stand changed.
abbrev IsExtendedTo : (ns ms : List Node) (i : ℕ) (size : Sides) (d : ℕ) (s : Sequence) (b p : ℕ)
    → (old new : Numbered) → Type 0
IsExtendedTo ns ms i size d s b p m v =
    HasMember m → last_after b m ≡ i → Reaches size s (p + (total (erase m) + d)) → Standing ns s b p m
    → Standing ms s b p v

-- Of the tree n the last member changes.
pub record IsExtension (ns ms : List Node) (change : Numbered → Numbered) (i : ℕ) (size : Sides) (d : ℕ) (n : Numbered)
    : Type 0 where
  pub once : (x : ℕ) → tally x n ≤ 1
  pub first : (m : Numbered) → is_last m ≡ true → HasMember m → first_slot (change m) ≡ first_slot m
  pub here : (s : Sequence) (b p : ℕ) (m : Numbered) → is_last m ≡ true → ((x : ℕ) → tally x m ≤ tally x n)
      → IsExtendedTo ns ms i size d s b p m (change m)
  pub others : (x : ℕ) → (x ≡ i → ⊥) → 0 < tally x n → node_at ms x ≡ node_at ns x

module _ (ns ms : List Node) (change : Numbered → Numbered) (i : ℕ) (size : Sides) (d : ℕ) (n : Numbered)
    (w : IsExtension ns ms change i size d n) where
  -- A slot before the last stays.
  before_stays : (j : ℕ) (m : Numbered) → HasMember m → last_after j m ≡ i → (x : ℕ) → tally x m ≡ 0 → 0 < tally x n
      → node_at ms x ≡ node_at ns x
  before_stays j m some is x z here = w.others x (λ e. ne-from_count x i m z (last-later i j m some is) (sym e)) here

  abbrev IsExtended : (old new : Numbered) → Type 0
  IsExtended m v =
      (HasMember m → first_slot v ≡ first_slot m)
      × ((s : Sequence) (b p : ℕ) → ((x : ℕ) → tally x m ≤ tally x n) → IsExtendedTo ns ms i size d s b p m v)

  Standing-extended : (m : Numbered) → IsExtended m (extended change m)
  Standing-extended =
      extended-keeps change IsExtended (grind (arith, before_stays, w.once, same-self, Standing-same))
      (grind (arith, w.first, w.here))

  Stands-extended : (s : Sequence) → HasMember n → Stands ns s n → last_slot n ≡ i
      → Reaches size s (total (erase n) + d)
      → ((x : ℕ) → tally x (extended change n) ≡ use_count (node_at ms x).kind) → Stands ms s (extended change n)
  Stands-extended s some h is far uses =
      let reach : Reaches size s (0 + (total (erase n) + d)) = (omega (arith, far.0), far.1) in
      record { standing = (Standing-extended n).1 s no_slot 0 (λ x. omega arith) some is reach h.standing; numbered = uses }

abbrev longer_leaf : Node → Size → Node
longer_leaf leaf size = record leaf { area = stretched_area leaf.area size }

module _ (ns ms : List Node) (i : ℕ) (size : Size) (exact : size ≡ size_of (sides_of size))
    (free : (node_at ns i).kind ≡ kind.Free) (w : IsWritten ns ms i (longer_leaf (node_at ns i) size)) where
  used_after : (x : ℕ) → use_count (node_at ms x).kind ≡ use_count (node_at ns x).kind
  used_after x = grind (arith, cases_eq x i)

  pub Stands-stretched : (s : Sequence) (n : Numbered) (d : ℕ) → Stands ns s n → last_slot n ≡ i
      → Reaches (sides_of size) s (total (erase n) + d) → Stands ms s (stretched d n)
  Stands-stretched s n d h is far =
      let some : HasMember n = nonempty-tally i n (rw (h.numbered i, free) (omega arith)) in
      let edit : IsExtension ns ms (lengthened_by d) i (sides_of size) d n = grind (arith, h.numbered, used-le, box-stretched) in
      Stands-extended ns ms (lengthened_by d) i (sides_of size) d n edit s some h is far (λ x.
      omega (arith, weigh-stretched (same x) d n, used_after x, h.numbered x))

-- Beyond a member lies the next one.
pub box-beyond : (o : Orientation) (s : Sequence) (p e q d : ℕ) (size : Size) → axis_of o ≡ s.axis
    → size ≡ size_of (sides_of size) → p + e ≡ q → Reaches (sides_of size) s (q + d)
    → beyond_in o (rectangle_of (member_box s p e)) size ≡ rectangle_of (member_box s q d)
box-beyond o s p e q d size axis exact ends far = grind arith

-- The free leaf after the member `last`, in a slot that was unused.
abbrev strip_node : (last : Node) → (before : Link) → Size → (unused : Node) → Node
strip_node last before size unused =
    record {
      parent = last.parent;
      previous = before;
      next = record { number = no_slot };
      area = beyond_in last.axis last.area size;
      kind = kind.Free;
      axis = last.axis;
      generation = unused.generation;
    }

-- The nodes ms are ns after the unused slot k came after the member i.
pub record IsStripAdded (ns ms : List Node) (i k : Link) (size : Size) : Type 0 where
  pub some : i.number ≢ no_slot
  pub unused : (node_at ns k.number).kind ≡ kind.Unused
  pub last : node_at ms i.number ≡ record (node_at ns i.number) { next = k }
  pub strip : node_at ms k.number ≡ strip_node (node_at ns i.number) i size (node_at ns k.number)
  pub others : (x : ℕ) → (x ≡ i.number → ⊥) → (x ≡ k.number → ⊥) → node_at ms x ≡ node_at ns x

-- The other slots keep what they are used for.
pub keeps-appended : (ns ms : List Node) (at fresh : Link) (size : Size) → IsStripAdded ns ms at fresh size → (x : ℕ)
    → x ≢ fresh.number → KeepsUse (node_at ns x) (node_at ms x)
keeps-appended ns ms at fresh size w x ne = grind (arith, cases_eq x at.number)

module _ (ns ms : List Node) (at fresh : Link) (size : Size) (exact : size ≡ size_of (sides_of size))
    (w : IsStripAdded ns ms at fresh size) where
  abbrev i : ℕ
  i = at.number

  abbrev k : ℕ
  k = fresh.number

  -- The new leaf itself, after the member of slot i.
  strip_stands : (s : Sequence) (d b a p e : ℕ) (v : NodeKind) → IsLinkedIn (node_at ns i) s b a v
      → (node_at ns i).area ≡ rectangle_of (member_box s p e) → Reaches (sides_of size) s (p + (e + 0 + d))
      → Standing ms s i (p + e) (Free k d End)
  strip_stands s d b a p e v h area far = grind (arith, box-beyond)

  at_last : (d : ℕ) (s : Sequence) (b p : ℕ) (m : Numbered) → is_last m ≡ true → ((x : ℕ) → tally x m ≤ 1)
      → tally k m ≡ 0 → IsExtendedTo ns ms i (sides_of size) d s b p m (with_free_after k d m)
  at_last d s b p = grind (arith, strip_stands, Standing-same)

  used_appended : (x : ℕ) → use_count (node_at ms x).kind ≡ use_count (node_at ns x).kind + same x k
  used_appended x = grind (arith, cases_eq x k, same-self, same-ne, keeps-appended ns ms at fresh size w)

  pub Stands-appended : (s : Sequence) (n : Numbered) (d : ℕ) → Stands ns s n → last_slot n ≡ i
      → Reaches (sides_of size) s (total (erase n) + d) → Stands ms s (appended k d n)
  Stands-appended s n d h is far =
      let new : tally k n ≡ 0 = h.numbered k ∙ ap use_count w.unused in
      let some : HasMember n = grind (arith, same-self) in
      let edit : IsExtension ns ms (with_free_after k d) i (sides_of size) d n = grind (arith, h.numbered, used-le, at_last) in
      Stands-extended ns ms (with_free_after k d) i (sides_of size) d n edit s some h is far (λ x.
      omega (arith, weigh-appended (same x) k d n, used_appended x, h.numbered x))

-- A used slot is inside.
used-within : (ns : List Node) (i : ℕ) → (node_at ns i).kind ≢ kind.Unused → i < length ns
used-within ns i used = grind (arith, get_or_past)

pub last-inside : (slots : List Slot) (i k : ℕ) → CanAppendTo (nodes slots) i k → i < length slots
last-inside slots i k can = omega (arith, used-within (nodes slots) i can.used, length-map slots node_of)

-- What the writes make.
pub appended-by : (ns ms1 ms : List Node) (at fresh : Link) (size : Size) (leaf unused n1 n2 : Node)
    → length ns < no_slot
    → fresh.number < length ns → CanAppendTo ns at.number fresh.number
    → leaf ≡ node_at ns at.number → unused ≡ node_at ns fresh.number
    → n1 ≡ record leaf { next = fresh } → n2 ≡ strip_node leaf at size unused
    → ms1 ≡ set ns at.number n1 → ms ≡ set ms1 fresh.number n2 → IsStripAdded ns ms at fresh size
appended-by ns ms1 ms at fresh size leaf unused n1 n2 short lk can el eu en1 en2 e1 e =
    grind (arith, used-within, get_or-set_same, get_or-set_other, length-set)
