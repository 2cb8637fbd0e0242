-- The members of a tree that grows, with the numbers of their slots and without.
use Rattle.std.proofs.Common.{ℕ, ◌+◌, ◌-◌, ◌<◌, ◌≤◌, ◌≡◌, List, Bool, true, false, cond, ltb, refl, sym, ap, subst, ◌∙◌, arith, length}
use Rattle.std.proofs.lemmas.Bool.{lt-ltb, le-ltb, ltb-true, ltb-false}
use Rattle.atlas_store.specs.declared.slots.Node.{Node}
use Rattle.atlas_store.specs.declared.slots.NodeKind.{NodeKind}
use Rattle.atlas_store.specs.declared.slots.NodeKind.TheVariants as kind
use Rattle.atlas_model.specs.Boxes.{Axis, Sides, other, side}
use Rattle.atlas_store.specs.Slots.{node_at}
use Rattle.atlas_search.specs.Numbers.{no_slot}
use Rattle.atlas_store.specs.Slots.Lists.{is_free}
use Rattle.atlas_model.specs.Trees.{Members, Tree, total, is_one_free, node_count}
use Rattle.atlas_model.specs.Trees as tree
use Rattle.atlas_model.specs.Changes.{lengthened, lengthened_to, widened, grown_members}
use Rattle.atlas_store.specs.Slots.Numbered.{Numbered, erase, first_slot, id_of, numbers}
use Rattle.atlas_store.specs.Slots.Standing.{Sequence, Standing, Stands}
use Rattle.atlas_store.specs.Slots.Growing.{last_after, last_slot, with_free_after, lengthened_by, stretched, appended}
use Rattle.atlas_tree.specs.Plans.Growths.{strip_after}
use Rattle.atlas_store.proofs.SlotLemmas.JoinWrites.{used-inside}
use Rattle.atlas_store.proofs.SlotLemmas.ReadTrees.{HasMember}
use Rattle.atlas_store.proofs.SlotLemmas.Normal.{numbers-erase}
use Rattle.atlas_model.proofs.TreeLemmas.TreeKept.{total-lengthened}
use Rattle.atlas_store.proofs.SlotLemmas.Extensions.{extended-keeps, weigh-stretched, weigh-appended}
use Rattle.atlas_store.proofs.StoreLemmas.ExtendedTrees.{last-member}
use Rattle.atlas_model.proofs.TreeLemmas.TreeGrowth.{grown-other}

-- The last member.

pub last-inside : (ns : List Node) (s : Sequence) (n : Numbered) → Stands ns s n → HasMember n
    → last_slot n < length ns
last-inside ns s n h some =
    used-inside ns (last_slot n) (subst (λ k. 0 < k) (h.numbered (last_slot n)) (last-member n some))

-- A free member before others isn't the one that is longer.
lengthened-later : (d e : ℕ) (m : Numbered) → HasMember m
    → lengthened d (tree.Free e (erase m)) ≡ tree.Free e (lengthened d (erase m))
lengthened-later d e m some = grind arith

-- A free last member is longer.
pub erase-stretched : (d : ℕ) (ns : List Node) (s : Sequence) (b p : ℕ) (n : Numbered) → Standing ns s b p n
    → (node_at ns (last_after b n)).kind ≡ kind.Free → ((node_at ns b).kind ≡ kind.Free → HasMember n)
    → erase (stretched d n) ≡ lengthened d (erase n)
erase-stretched d ns s b p n =
    extended-keeps (lengthened_by d) (λ m v. (s : Sequence) (b p : ℕ) → Standing ns s b p m
    → (node_at ns (last_after b m)).kind ≡ kind.Free → ((node_at ns b).kind ≡ kind.Free → HasMember m)
    → erase v ≡ lengthened d (erase m)) (grind (arith, lengthened-later)) (grind arith) n s b p

-- A strip comes after any other last member.
pub erase-appended : (k d : ℕ) (ns : List Node) (s : Sequence) (b p : ℕ) (n : Numbered) → Standing ns s b p n
    → ((node_at ns (last_after b n)).kind ≡ kind.Free → ⊥)
    → erase (appended k d n) ≡ lengthened d (erase n)
erase-appended k d ns s b p n =
    extended-keeps (with_free_after k d) (λ m v. (s : Sequence) (b p : ℕ) → Standing ns s b p m
    → ((node_at ns (last_after b m)).kind ≡ kind.Free → ⊥) → erase v ≡ lengthened d (erase m)) (record {
      free = λ i e m v some h s b p st busy. ap (tree.Free e) (h s i (p + e) st.2 busy) ∙ sym (lengthened-later d e m some);
      alloc = λ i g e m v some h s b p st busy. ap (tree.Alloc (id_of i g) e) (h s i (p + e) st.3 busy);
      seq = λ i e inner m v some h s b p st busy. ap (tree.Seq e (erase inner)) (h s i (p + e) st.3 busy);
    }) (grind arith) n s b p

-- The first member stays.
pub first-appended : (k d : ℕ) (n : Numbered) → HasMember n → first_slot (appended k d n) ≡ first_slot n
first-appended k d =
    extended-keeps (with_free_after k d) (λ m n. HasMember m → first_slot n ≡ first_slot m) (grind arith) (grind arith)

-- n if b is more than a.
abbrev pub if_longer : (a b n : ℕ) → ℕ
if_longer a b n = cond (ltb a b) n 0

pub if_longer-more : (a b n : ℕ) → a < b → if_longer a b n ≡ n
if_longer-more a b n h = ap (λ t. cond t n 0) (lt-ltb a b h)

pub if_longer-not : (a b n : ℕ) → b ≤ a → if_longer a b n ≡ 0
if_longer-not a b n h = ap (λ t. cond t n 0) (le-ltb a b h)

module _ (ns : List Node) (s : Sequence) (n : Numbered) (h : Stands ns s n) (some : HasMember n) where
  abbrev last_kind : NodeKind
  last_kind = (node_at ns (last_slot n)).kind

  nodes_longer : (d : ℕ) (k : NodeKind) → last_kind ≡ k
      → node_count (lengthened d (erase n)) ≡ numbers n + strip_after (is_free k)
  nodes_longer d k e = by_kind k e
    where
      longer : (last_kind ≡ kind.Free → ⊥) → node_count (lengthened d (erase n)) ≡ numbers n + 1
      longer busy =
          ap node_count (sym (erase-appended 0 d ns s no_slot 0 n h.standing busy)) ∙ sym (numbers-erase (appended 0 d n)) ∙
          weigh-appended (λ _. 1) 0 d n

      by_kind : (k : NodeKind) → last_kind ≡ k
          → node_count (lengthened d (erase n)) ≡ numbers n + strip_after (is_free k)
      by_kind kind.Free q =
          ap node_count (sym (erase-stretched d ns s no_slot 0 n h.standing q (λ _. some))) ∙ sym (numbers-erase (stretched d n)) ∙
          weigh-stretched (λ _. 1) d n ∙ omega arith
      by_kind kind.Alloc q = longer (λ f. absurd (cc))
      by_kind kind.Container q = longer (λ f. absurd (cc))
      by_kind kind.Unused q = longer (λ f. absurd (cc))

  nodes_longer_to : (a b : ℕ)
      → node_count (lengthened_to a b (erase n)) ≡ numbers n + if_longer a b (strip_after (is_free last_kind))
  nodes_longer_to a b = by_test (ltb a b)
    where
      by_test : (x : Bool)
          → node_count (cond x (lengthened (b - a) (erase n)) (erase n)) ≡ numbers n + cond x (strip_after (is_free last_kind)) 0
      by_test true = nodes_longer (b - a) last_kind refl
      by_test false = sym (numbers-erase n) ∙ omega arith

  -- A tree that isn't one free leaf takes a strip at its end, and two members more across.
  pub nodes-grown_by : (old new : Sides) (axis : Axis) → is_one_free (erase n) ≡ false
      → numbers n + (if_longer (side axis old) (side axis new) (strip_after (is_free last_kind)) + if_longer (side (other axis) old)
      (side (other axis) new) 2)
      ≡ node_count (grown_members old new axis (erase n)).members
  nodes-grown_by old new axis busy =
      sym
      (ap (λ (t : Tree). node_count t.members) (grown-other old new axis (erase n) busy)
      ∙ nodes_wider (side (other axis) old) (side (other axis) new) (lengthened_to (side axis old) (side axis new) (erase n))
      ∙ ap (λ k. k + if_longer (side (other axis) old) (side (other axis) new) 2) (nodes_longer_to (side axis old) (side axis new))
      ∙ omega arith)
    where
      nodes_wider : (u w : ℕ) (m : Members) → node_count (widened u w axis m).members ≡ node_count m + if_longer u w 2
      nodes_wider u w m = by_test (ltb u w)
        where
          by_test : (x : Bool)
              → node_count (cond {A = Tree} x (record { axis = other axis; members = tree.Seq u m (tree.Free (w - u) tree.End) })
              (record { axis = axis; members = m })).members
              ≡ node_count m + cond x 2 0
          by_test true = omega arith
          by_test false = omega arith

-- Members that grow to a side.

pub lengthened_to-more : (a b : ℕ) (m : Members) → a < b → lengthened_to a b m ≡ lengthened (b - a) m
lengthened_to-more a b m h = ap (λ t. cond t (lengthened (b - a) m) m) (lt-ltb a b h)

pub lengthened_to-same : (a b : ℕ) (m : Members) → b ≤ a → lengthened_to a b m ≡ m
lengthened_to-same a b m h = ap (λ t. cond t (lengthened (b - a) m) m) (le-ltb a b h)

pub total-lengthened_to : (a b : ℕ) (m : Members) → a ≤ b → total m ≡ a → total (lengthened_to a b m) ≡ b
total-lengthened_to a b m le e = grind (arith, ltb-true, total-lengthened, ltb-false)

pub widened-more : (u w : ℕ) (axis : Axis) (m : Members) → u < w
    → widened u w axis m ≡ record { axis = other axis; members = tree.Seq u m (tree.Free (w - u) tree.End) }
widened-more u w axis m h = grind (arith, lt-ltb)

pub widened-same : (u w : ℕ) (axis : Axis) (m : Members) → w ≤ u
    → widened u w axis m ≡ record { axis = axis; members = m }
widened-same u w axis m h = grind (arith, le-ltb)
