-- The lists of free slots and the list of unused ones, all together.
use Rattle.std.proofs.Common.{ℕ, ◌<◌, ◌≤◌, ◌≡◌, List, ◌∷◌, refl, sym, ap, ◌∙◌, inl, inr, arith, length, Bool, true, false, eqb}
use Rattle.std.specs.Prelude.{if◌then◌else◌, ◌≢◌, not}
use Rattle.std.proofs.lemmas.Bool.{cases_eq, cases_lt, cond_both, cond-true, cond-false, eq-eqb, ne_eqb, and_parts, and_from, and_right}
use Rattle.std.proofs.lemmas.List.{length-map}
use Rattle.atlas_store.specs.declared.slots.Slot.{Slot}
use Rattle.atlas_model.specs.declared.geometry.Size.{Size}
use Rattle.atlas_search.specs.declared.link.Link.{Link}
use Rattle.atlas_store.specs.declared.slots.Node.{Node}
use Rattle.atlas_store.specs.declared.slots.Ring.{Ring}
use Rattle.atlas_store.specs.declared.slots.NodeKind.{NodeKind}
use Rattle.atlas_store.specs.declared.slots.NodeKind.TheVariants as kind
use Rattle.atlas_search.specs.declared.bands.Place.{Place}
use Rattle.atlas_model.specs.Boxes.{box_sides}
use Rattle.atlas_model.specs.Pixels.{sides_of, box_of}
use Rattle.atlas_model.specs.Choice.{Options}
use Rattle.atlas_store.specs.Slots.{nodes, rings, node_at, ring_at, use_count, ring_of}
use Rattle.atlas_search.specs.Numbers.{no_slot, same, occurs, without, lists_with}
use Rattle.atlas_store.specs.Slots.Lists.{IsLinked, IsFiled, AreFiled, Places, filed, node_sides, is_free}
use Rattle.atlas_search.specs.Bands.{list_of, number_of}
use Rattle.atlas_search.specs.Tables.{head_of, is_used_at}
use Rattle.atlas_store.specs.Slots.Links.{IsFiledSlot, with_mark, with_count, unlisted, listed}
use Rattle.atlas_search.proofs.Occurrences.{same-self, same-ne, ne-from_occurs, without-none, occurs-without}
use Rattle.atlas_search.proofs.SearchLemmas.BandLaws.{list_of-most}
use Rattle.atlas_store.proofs.StoreLemmas.LinkedLists.{IsLinked-kept, linked-some}
use Rattle.atlas_store.proofs.StoreLemmas.Lines.{Line-kept, Line-inside}
pub use Rattle.atlas_store.proofs.SlotLemmas.Frames.{past-unused, used-inside}

-- The list that a node belongs in if it is free.
abbrev pub list_for : Options → Node → ℕ
list_for o n = list_of o (node_sides n)

pub filed-free : (o : Options) (n : Node) → n.kind ≡ kind.Free → filed o (list_for o n) n ≡ 1
filed-free o n e = grind (arith, cond-true, and_from, eq-eqb)

pub filed-other : (o : Options) (k : ℕ) (n : Node) → (k ≡ list_for o n → ⊥) → filed o k n ≡ 0
filed-other o k n ne = cond-false _ 1 0 (and_right _ _ (ne_eqb (list_for o n) k (λ q. ne (sym q))))

pub filed-list : (o : Options) (k : ℕ) (n : Node) → 0 < filed o k n → k ≡ list_for o n
filed-list o k n l = elim (cases_eq k (list_for o n)) [ inl e ↦ e | inr ne ↦ absurd (omega (arith, filed-other o k n ne)) ]

free_use : (k : NodeKind) → is_free k ≡ true → use_count k ≡ 1
free_use k e = grind arith

pub free_kind : (k : NodeKind) → is_free k ≡ true → k ≡ kind.Free
free_kind k e = grind arith

-- What stands in a list is free.
pub filed-kind : (o : Options) (k : ℕ) (n : Node) → 0 < filed o k n → n.kind ≡ kind.Free
filed-kind o k n = grind (arith, free_kind, and_parts)

-- What stands in a list is used.
pub filed-use : (o : Options) (k : ℕ) (n : Node) → filed o k n ≤ use_count n.kind
filed-use o k n = grind (arith, free_use, and_parts)

use-most : (k : NodeKind) → use_count k ≤ 1
use-most kind.Container = omega arith
use-most kind.Alloc = omega arith
use-most kind.Free = omega arith
use-most kind.Unused = omega arith

pub with_mark-same : (detached : ℕ → Bool) (i : ℕ) (mark : Bool) → with_mark detached i mark i ≡ mark
with_mark-same detached i mark = cond-true _ mark (detached i) (eq-eqb i i refl)

pub with_mark-other : (detached : ℕ → Bool) (i : ℕ) (mark : Bool) (k : ℕ) → (k ≡ i → ⊥)
    → with_mark detached i mark k ≡ detached k
with_mark-other detached i mark k ne = cond-false _ mark (detached k) (ne_eqb k i ne)

pub with_count-same : (claimed : ℕ → ℕ) (i n : ℕ) → with_count claimed i n i ≡ n
with_count-same claimed i n = cond-true _ n (claimed i) (eq-eqb i i refl)

pub with_count-other : (claimed : ℕ → ℕ) (i n k : ℕ) → (k ≡ i → ⊥) → with_count claimed i n k ≡ claimed k
with_count-other claimed i n k ne = cond-false _ n (claimed k) (ne_eqb k i ne)

-- 0 where a slot is detached, or else n.
abbrev pub unless_detached : Bool → ℕ → ℕ
unless_detached b n = if b then 0 else n

pub unless-detached : (b : Bool) (n : ℕ) → b ≡ true → unless_detached b n ≡ 0
unless-detached b n e = cond-true b 0 n e

pub unless-not : (b : Bool) (n : ℕ) → b ≡ false → unless_detached b n ≡ n
unless-not b n e = cond-false b 0 n e

pub unless-le : (b : Bool) (n : ℕ) → unless_detached b n ≤ n
unless-le b n = cond_both b 0 n (λ v. v ≤ n) (λ _. omega arith) (λ _. omega arith)

-- The slots xs are free, and each stands there once.
pub record AreFreeOnce (ns : List Node) (xs : List ℕ) : Type 0 where
  pub once : (k : ℕ) → occurs k xs ≤ 1
  pub free : (k : ℕ) → 0 < occurs k xs → (node_at ns k).kind ≡ kind.Free

module _ (o : Options) (ns : List Node) (rs : List Ring) (heads : List Link) (unused : Link) (p : Places)
    (f : AreFiled o ns rs heads unused p) where
  -- A slot that stands in a list belongs there.
  pub listed-list : (k i : ℕ) → k < 2704 → 0 < occurs i (p.free_lists k) → k ≡ list_for o (node_at ns i)
  listed-list k i l h = filed-list o k (node_at ns i) (omega (
    arith,
    (f.free k l).each i,
    unless-le (p.detached i) (filed o k (node_at ns i)),
  ))

  pub listed-kind : (k i : ℕ) → k < 2704 → 0 < occurs i (p.free_lists k) → (node_at ns i).kind ≡ kind.Free
  listed-kind k i l h = filed-kind o k (node_at ns i) (omega (
    arith,
    (f.free k l).each i,
    unless-le (p.detached i) (filed o k (node_at ns i)),
  ))

  -- A slot stands in no list but its own.
  pub elsewhere : (k i : ℕ) → k < 2704 → (k ≡ list_for o (node_at ns i) → ⊥) → occurs i (p.free_lists k) ≡ 0
  elsewhere k i l ne = elim (cases_lt 0 (occurs i (p.free_lists k))) [ inl h ↦ absurd (ne (listed-list k i l h)) | inr z ↦ omega arith ]

  pub apart : (k m i : ℕ) → k < 2704 → m < 2704 → (k ≡ m → ⊥) → 0 < occurs i (p.free_lists k)
      → occurs i (p.free_lists m) ≡ 0
  apart k m i lk lm ne h = elsewhere m i lm (λ q. ne (listed-list k i lk h ∙ sym q))

  pub listed-own : (k : ℕ) → k < 2704 → AreFreeOnce ns (p.free_lists k)
  listed-own k l = record {
    once = λ i. omega (
      arith,
      (f.free k l).each i,
      unless-le (p.detached i) (filed o k (node_at ns i)),
      filed-use o k (node_at ns i),
      use-most (node_at ns i).kind,
    );
    free = λ i h. listed-kind k i l h;
  }

  -- A slot that is free and not detached stands in its list.
  pub listed-one : (i : ℕ) → (node_at ns i).kind ≡ kind.Free → p.detached i ≡ false
      → occurs i (p.free_lists (list_for o (node_at ns i))) ≡ 1
  listed-one i e nl =
      let k = list_for o (node_at ns i) in
      (f.free k (list_of-most o (node_sides (node_at ns i)))).each i ∙ unless-not (p.detached i) _ nl ∙ filed-free o (node_at ns i) e

  -- A detached slot stands in no list.
  pub detached-nowhere : (k i : ℕ) → k < 2704 → p.detached i ≡ true → occurs i (p.free_lists k) ≡ 0
  detached-nowhere k i l e = (f.free k l).each i ∙ unless-detached (p.detached i) _ e

  -- An unused slot stands in no list.
  pub unused-nowhere : (k i : ℕ) → k < 2704 → use_count (node_at ns i).kind ≡ 0 → occurs i (p.free_lists k) ≡ 0
  unused-nowhere k i l e = omega (
    arith,
    (f.free k l).each i,
    unless-le (p.detached i) (filed o k (node_at ns i)),
    filed-use o k (node_at ns i),
  )

  -- What is in the unused list is not used.
  pub unused_list-use : (i : ℕ) → 0 < occurs i p.unused_list → (use_count (node_at ns i).kind ≡ 0) × (p.claimed i ≡ 0)
  unused_list-use i h = let e = f.each i (Line-inside rs i p.unused_list f.line h) in (omega arith, omega arith)

  -- A used slot is not in the unused list.
  pub used-not-unused_list : (i : ℕ) → 0 < use_count (node_at ns i).kind → occurs i p.unused_list ≡ 0
  used-not-unused_list i u = elim (cases_lt 0 (occurs i p.unused_list))
      [ inl h ↦ (let e = unused_list-use i h in absurd (omega (arith, e.0))) | inr z ↦ omega arith ]

-- A list stays as it was: its slots keep their rings.
pub IsFiled-kept : (o : Options) (ns : List Node) (rs ts : List Ring) (heads heads' : List Link) (k : ℕ)
    (xs ys : List ℕ) (detached detached' : ℕ → Bool)
    → head_of heads' k ≡ head_of heads k → ys ≡ xs → length rs ≤ length ts
    → ((j : ℕ) → 0 < occurs j xs → ring_at ts j ≡ ring_at rs j)
    → ((j : ℕ) → unless_detached (detached' j) (filed o k (node_at ns j)) ≡ unless_detached (detached j) (filed o k (node_at ns j)))
    → IsFiled o ns rs heads k xs detached → IsFiled o ns ts heads' k ys detached'
IsFiled-kept o ns rs ts heads heads' k xs ys detached detached' eh ey lt same_at marks h =
    record {
      links = rw (eh, ey) (IsLinked-kept ns ns rs ts k (head_of heads k) xs lt same_at (λ j _. refl) h.links);
      each = λ i. ap (occurs i) ey ∙ h.each i ∙ sym (marks i);
    }

-- Slot i left list m, which begins with this link and had the slots xs.
pub record IsTakenOut (ns : List Node) (rs ts : List Ring) (m : ℕ) (new : Link) (i : ℕ) (xs : List ℕ) : Type 0 where
  pub same_length : length ts ≡ length rs
  pub links : IsLinked ns ts m new (without i xs)
  pub others : (k : ℕ) → occurs k xs ≡ 0 → ring_at ts k ≡ ring_at rs k

-- Slot i joined list m, which begins with this link and had the slots xs.
pub record IsPutIn (ns : List Node) (rs ts : List Ring) (m : ℕ) (new : Link) (i : ℕ) (xs : List ℕ) : Type 0 where
  pub same_length : length ts ≡ length rs
  pub links : IsLinked ns ts m new (i ∷ xs)
  pub others : (k : ℕ) → (k ≡ i → ⊥) → occurs k xs ≡ 0 → ring_at ts k ≡ ring_at rs k

module _ (o : Options) (ns : List Node) (rs ts : List Ring) (heads heads' : List Link) (unused : Link) (p : Places)
    (f : AreFiled o ns rs heads unused p) (i m : ℕ) (em : m ≡ list_for o (node_at ns i)) (is_free : (node_at ns i).kind ≡ kind.Free)
    (same_lists : (k : ℕ) → k ≢ m → head_of heads' k ≡ head_of heads k) where
  below : m < 2704
  below = rw em (list_of-most o (node_sides (node_at ns i)))

  in_use : 0 < use_count (node_at ns i).kind
  in_use = omega (arith, ap use_count is_free)

  used_free : (j : ℕ) → 0 < occurs j p.unused_list → occurs j (p.free_lists m) ≡ 0
  used_free j h = unused-nowhere o ns rs heads unused p f m j below (unused_list-use o ns rs heads unused p f j h).0

  marks : (k : ℕ) (mark : Bool) → (k ≡ m → ⊥) → (j : ℕ)
      → unless_detached (with_mark p.detached i mark j) (filed o k (node_at ns j)) ≡ unless_detached (p.detached j)
      (filed o k (node_at ns j))
  marks k mark ne j = grind (arith, filed-other, unless-le, with_mark-other)

  pub AreFiled-unlisted : p.detached i ≡ false → IsTakenOut ns rs ts m (head_of heads' m) i (p.free_lists m)
      → AreFiled o ns ts heads' unused (unlisted p i)
  AreFiled-unlisted kept w =
      let mine = f.free m below in
      let one : occurs i (p.free_lists m) ≡ 1 = rw em (listed-one o ns rs heads unused p f i is_free kept) in
      let on : 0 < occurs i (p.free_lists m) = omega arith in
      let same_at : (j : ℕ) → occurs j (p.free_lists m) ≡ 0 → ring_at ts j ≡ ring_at rs j = w.others in
      let links : IsLinked ns ts m (head_of heads' m) (without i (p.free_lists m)) = w.links in
      let changed : IsFiled o ns ts heads' m (without i (p.free_lists m)) (with_mark p.detached i true) =
      grind (arith, unless-detached, with_mark-same, occurs-without, same-self, same-ne, with_mark-other) in
      record {
        free = λ k l. elim (cases_eq k m) [
          | inl e ↦ rw e changed
          | inr ne ↦ IsFiled-kept o ns rs ts heads heads' k (p.free_lists k) (without i (p.free_lists k)) p.detached
              (with_mark p.detached i true) (same_lists k ne) (without-none i (p.free_lists k)
              (elsewhere o ns rs heads unused p f k i l (λ q. ne (q ∙ sym em)))) (omega (arith, w.same_length))
              (λ j h. same_at j (apart o ns rs heads unused p f k m j l below ne h)) (marks k true ne) (f.free k l)
        ];
        line = Line-kept rs ts p.unused_list (omega (arith, w.same_length)) (λ j h. same_at j (used_free j h)) f.line;
        begins = f.begins;
        each = λ j l. f.each j (omega (arith, w.same_length));
      }

  pub AreFiled-listed : p.detached i ≡ true → IsPutIn ns rs ts m (head_of heads' m) i (p.free_lists m)
      → AreFiled o ns ts heads' unused (listed p m i)
  AreFiled-listed kept w =
      let mine = f.free m below in
      let none : occurs i (p.free_lists m) ≡ 0 = detached-nowhere o ns rs heads unused p f m i below kept in
      let same_at : (j : ℕ) → (j ≡ i → ⊥) → occurs j (p.free_lists m) ≡ 0 → ring_at ts j ≡ ring_at rs j = w.others in
      let changed : IsFiled o ns ts heads' m (i ∷ p.free_lists m) (with_mark p.detached i false) = record {
        links = w.links;
        each = λ j. elim (cases_eq j i) [
          | inl e ↦
              let z : unless_detached (with_mark p.detached i false j) (filed o m (node_at ns j)) ≡ 1 =
              unless-not (with_mark p.detached i false j) (filed o m (node_at ns j)) (rw e (with_mark-same p.detached i false)) ∙
              rw (e, em) (filed-free o (node_at ns i) is_free) in
              let u : occurs j (p.free_lists m) ≡ 0 = rw e none in
              let s : same j i ≡ 1 = rw e (same-self i) in
              (let v : occurs j (i ∷ p.free_lists m) ≡ 1 = omega arith in v) ∙ sym z
          | inr nj ↦
              let s = same-ne j i nj in
              let v : occurs j (i ∷ p.free_lists m) ≡ occurs j (p.free_lists m) = omega arith in
              v ∙ mine.each j ∙ sym (ap (λ b. unless_detached b (filed o m (node_at ns j))) (with_mark-other p.detached i false j nj))
        ];
      } in
      record {
        free = λ k l. elim (cases_eq k m) [
          | inl e ↦ rw (e, cond-true (eqb m m) (i ∷ p.free_lists m) (p.free_lists m) (eq-eqb m m refl)) changed
          | inr ne ↦ IsFiled-kept o ns rs ts heads heads' k (p.free_lists k) (lists_with p.free_lists m i k) p.detached
              (with_mark p.detached i false) (same_lists k ne) (cond-false (eqb k m) (i ∷ p.free_lists k) (p.free_lists k) (ne_eqb k m ne))
              (omega (arith, w.same_length)) (λ j h. same_at j (λ q. absurd
              (ne-from_occurs i j (p.free_lists k) (detached-nowhere o ns rs heads unused p f k i l kept) h q))
              (apart o ns rs heads unused p f k m j l below ne h)) (marks k false ne) (f.free k l)
        ];
        line = Line-kept rs ts p.unused_list (omega (arith, w.same_length))
            (λ j h. same_at j (λ q. absurd (ne-from_occurs i j p.unused_list (used-not-unused_list o ns rs heads unused p f i in_use) h q))
            (used_free j h)) f.line;
        begins = f.begins;
        each = λ j l. f.each j (omega (arith, w.same_length));
      }

pub number-is : (o : Options) (place : Place) (size : Size) (node n : Node)
    → number_of place ≡ list_of o (sides_of size) → sides_of size ≡ box_sides (box_of node.area) → node ≡ n
    → number_of place ≡ list_for o n
number-is o place size node n e s r = e ∙ ap (list_of o) s ∙ ap (list_for o) r

-- A slot that stands in a list makes it one that is used.
pub is-used : (ns : List Node) (rs : List Ring) (heads : List Link) (k j : ℕ) (xs : List ℕ) → length rs ≤ no_slot
    → IsLinked ns rs k (head_of heads k) xs → 0 < occurs j xs → is_used_at heads k ≡ true
is-used ns rs heads k j xs short h l =
    ap not (ne_eqb _ _ (linked-some ns rs k (head_of heads k) xs short h j l))

-- What a call needs of it.
module _ {o : Options} {slots : List Slot} {heads : List Link} {i : ℕ} (k : IsFiledSlot o slots heads i)
    (free : (node_at (nodes slots) i).kind ≡ kind.Free)
    (short : length slots < 2147483648) where
  same_count : length (rings slots) ≡ length slots
  same_count = length-map slots ring_of

pub length-rings : (xs ys : List Slot) → length ys ≡ length xs → length (rings ys) ≡ length (rings xs)
length-rings xs ys e = length-map ys _ ∙ e ∙ sym (length-map xs _)
