-- Each entry of the simple allocator is a free box or unused: how many there are of both.
use Rattle.std.proofs.Common.{◌≡◌, ℕ, zero, suc, ◌+◌, ◌<◌, ◌≤◌, max, inl, inr, true, false, List, [], ◌∷◌, length, refl, sym, ap, subst}
use Rattle.std.proofs.Common.{arith}
use Rattle.std.proofs.Math.Nat.{max-eq_left}
use Rattle.std.proofs.lemmas.Bool.{cases_Bool, cond-true, cond-false}
use Rattle.atlas_model.specs.Choice.{Options}
use Rattle.atlas_model.proofs.ListLemmas.Sums.{sums, sums-add, sums-all, sums-none}
use Rattle.atlas_search.specs.Items.{Item, item_at, item_box}
use Rattle.atlas_search.specs.Numbers.{no_slot, occurs, same}
use Rattle.guillotiere.specs.FreeBoxes.BoxShelves.{BoxShelf, AddsWhatIsUsed, AreKept, AreKeptWith, IsIdleFrom, free_count, free_item_boxes}
use Rattle.atlas_search.proofs.Occurrences.{same-self, same-ne}
use Rattle.guillotiere.proofs.SimpleLemmas.FreeItems.{are-free}
use Rattle.atlas_store.proofs.SlotLemmas.ReadTrees.{sums-same}

-- ---- the chain of unused entries

pub idle-inside : (es : List Item) (from : ℕ) (xs : List ℕ) → IsIdleFrom es from xs → (i : ℕ) → 0 < occurs i xs → i < length es
idle-inside es from [] p i h = absurd (omega arith)
idle-inside es from (x ∷ xs) p i h = grind (arith, same-ne, idle-inside es (item_at es x).up xs p.2 i)

-- It reads only the links of its own entries.
pub idle-frame : (es fs : List Item) (from : ℕ) (xs : List ℕ) → length es ≤ length fs
    → ((i : ℕ) → 0 < occurs i xs → (item_at fs i).up ≡ (item_at es i).up) → IsIdleFrom es from xs → IsIdleFrom fs from xs
idle-frame es fs from [] long same_up p = p
idle-frame es fs from (x ∷ xs) long same_up p =
    grind (arith, same-self, idle-frame es fs (item_at es x).up xs long (λ i h. same_up i (omega arith)) p.2)

-- ---- one entry

pub count-of_free : (t : Item) → t.is_free ≡ true → free_count t ≡ 1
count-of_free t f = cond-true t.is_free 1 0 f

pub count-of_idle : (t : Item) → t.is_free ≡ false → free_count t ≡ 0
count-of_idle t f = cond-false t.is_free 1 0 f

pub idle-of_count : (t : Item) → free_count t ≡ 0 → t.is_free ≡ false
idle-of_count t none = elim (cases_Bool t.is_free) [ inl f ↦ absurd (omega (arith, count-of_free t f)) | inr f ↦ f ]

-- An entry that counts elsewhere isn't free.
pub kept-idle : (claimed : ℕ → ℕ) (o : Options) (v : BoxShelf) (kept : AreKeptWith claimed o v) (i : ℕ)
    → i < length v.entries → 0 < occurs i kept.unused_list + claimed i
    → (item_at v.entries i).is_free ≡ false
kept-idle claimed o v kept i inside some = idle-of_count (item_at v.entries i) (omega (arith, kept.each i inside))

pub unused_list-idle : (claimed : ℕ → ℕ) (o : Options) (v : BoxShelf) (kept : AreKeptWith claimed o v) (i : ℕ)
    → 0 < occurs i kept.unused_list → (item_at v.entries i).is_free ≡ false
unused_list-idle claimed o v kept i some =
    kept-idle claimed o v kept i (idle-inside v.entries v.unused.number kept.unused_list kept.chain i some) (omega arith)

-- ---- all entries

sums-front : (f : ℕ → ℕ) (m : ℕ) → sums f (suc m) ≡ f 0 + sums (λ i. f (suc i)) m
unfolding sums
sums-front f zero = refl
sums-front f (suc m) = omega (arith, sums-front f m)

sums-occurs : (es : List Item) (from m : ℕ) (xs : List ℕ) → length es ≤ m → IsIdleFrom es from xs
    → sums (λ i. occurs i xs) m ≡ length xs
sums-occurs es from m [] l path = sums-none (λ i. 0) m (λ i b. refl)
sums-occurs es from m (x ∷ xs) l path =
    omega (
      arith,
      sums-add (λ i. same i x) (λ i. occurs i xs) m,
      sums-same x m (omega (arith, path.1)),
      sums-occurs es (item_at es x).up m xs l path.2,
    )

count-first : (t : Item) (es : List Item)
    → length (free_item_boxes (t ∷ es)) ≡ free_count t + length (free_item_boxes es)
count-first t es =
    elim (cases_Bool t.is_free) [
      | inl f ↦ omega (arith, count-of_free t f, ap length (cond-true t.is_free (item_box t ∷ free_item_boxes es) (free_item_boxes es) f))
      | inr f ↦ omega (arith, count-of_idle t f, ap length (cond-false t.is_free (item_box t ∷ free_item_boxes es) (free_item_boxes es) f))
    ]

sums-free : (es : List Item) → sums (λ i. free_count (item_at es i)) (length es) ≡ length (free_item_boxes es)
unfolding sums
sums-free [] = refl
sums-free (t ∷ es) = omega (arith, sums-front (λ i. free_count (item_at (t ∷ es) i)) (length es), sums-free es, count-first t es)

-- The entries that aren't unused are as many as the free boxes.
pub used-free : (o : Options) (v : BoxShelf) → AreKept o v → v.used ≡ length (free_item_boxes v.entries)
used-free o v kept =
    let m : ℕ = length v.entries in
    let f : ℕ → ℕ = λ i. occurs i kept.unused_list in
    let g : ℕ → ℕ = λ i. free_count (item_at v.entries i) in
    let all : sums (λ i. f i + g i) m ≡ m = sums-all (λ i. f i + g i) m (λ i l. omega (arith, kept.each i l)) in
    let unused_list : sums f m ≡ length kept.unused_list = sums-occurs v.entries v.unused.number m kept.unused_list (omega arith) kept.chain
    in
    omega (arith, all, sums-add f g m, unused_list, sums-free v.entries, kept.used)

-- A free box is used.
pub used-some : (o : Options) (v : BoxShelf) (i : ℕ) → AreKept o v → (item_at v.entries i).is_free ≡ true → 0 < v.used
used-some o v i kept f = omega (arith, used-free o v kept, ((are-free v.entries).of_box i f).1)

-- There are no more entries in use than entries.
pub used-few : (claimed : ℕ → ℕ) (o : Options) (v : BoxShelf) → AreKeptWith claimed o v → v.used ≤ length v.entries
used-few claimed o v kept = omega (arith, kept.used)

-- Where none is unused, all are used.
pub used-all : (o : Options) (v : BoxShelf) → AreKept o v → v.unused.number ≡ no_slot → v.used ≡ length v.entries
used-all o v kept none = go kept.unused_list kept.chain kept.used
  where
    go : (xs : List ℕ) → IsIdleFrom v.entries v.unused.number xs → v.used + length xs ≡ length v.entries
        → v.used ≡ length v.entries
    go [] path count = omega arith
    go (x ∷ xs) path count = absurd (omega (arith, none, path.0, path.1, kept.listed.short))

-- Where one is unused, not all are used.
pub used-less : (o : Options) (v : BoxShelf) → AreKept o v → (v.unused.number ≡ no_slot → ⊥) → v.used < length v.entries
used-less o v kept some = go kept.unused_list kept.chain kept.used
  where
    go : (xs : List ℕ) → IsIdleFrom v.entries v.unused.number xs → v.used + length xs ≡ length v.entries
        → v.used < length v.entries
    go [] path count = absurd (some path)
    go (x ∷ xs) path count = omega arith

-- Entries are added as free boxes are.
pub uses-old : (o : Options) (old new : BoxShelf) → AreKept o new → AddsWhatIsUsed old new
    → length new.entries ≡ max (length old.entries) (length (free_item_boxes new.entries))
uses-old o old new kept adds = subst (λ n. length new.entries ≡ max (length old.entries) n) (used-free o new kept) adds

-- Nothing is added where nothing changes.
pub uses-same : (o : Options) (v : BoxShelf) → AreKept o v
    → length v.entries ≡ max (length v.entries) (length (free_item_boxes v.entries))
uses-same o v kept = sym (max-eq_left (omega (arith, used-free o v kept, used-few (λ i. 0) o v kept)))
