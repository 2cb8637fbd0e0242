-- How many members of a numbered tree are looked for, and how often a slot is that of a free or allocated member.
use Rattle.std.proofs.Common.{ℕ, ◌+◌, ◌<◌, ◌≤◌, ◌≡◌, Bool, true, false, cond, List, refl, sym, ap, ◌∙◌, arith}
use Rattle.std.proofs.lemmas.Bool.{true≢false}
use Rattle.atlas_store.specs.declared.slots.Node.{Node}
use Rattle.atlas_store.specs.declared.slots.NodeKind.{NodeKind}
use Rattle.atlas_store.specs.declared.slots.NodeKind.TheVariants as kind
use Rattle.atlas_store.specs.Slots.{node_at}
use Rattle.atlas_search.specs.Numbers.{no_slot, same}
use Rattle.atlas_store.specs.Slots.Numbered.{Numbered, tally, first_slot, is_free_at, is_alloc_at, End, Free, Alloc, Seq}
use Rattle.atlas_store.specs.Slots.Standing.{Sequence, Standing, Stands, inside}
use Rattle.atlas_store.proofs.SlotLemmas.Frames.{same-self, same-ne}

-- How many members are looked for.
abbrev pub places : (is : Numbered → Bool) → Numbered → ℕ
places is End = 0
places is (Free i e rest) = places is rest + cond (is (Free i e rest)) 1 0
places is (Alloc i g e rest) = places is rest + cond (is (Alloc i g e rest)) 1 0
places is (Seq i e inner rest) = places is inner + places is rest + cond (is (Seq i e inner rest)) 1 0

-- How often a slot is that of a free member.
abbrev pub free_tally : ℕ → Numbered → ℕ
free_tally i End = 0
free_tally i (Free j e rest) = same i j + free_tally i rest
free_tally i (Alloc j g e rest) = free_tally i rest
free_tally i (Seq j e inner rest) = free_tally i inner + free_tally i rest

-- How often a slot is that of an allocated member.
abbrev pub alloc_tally : ℕ → Numbered → ℕ
alloc_tally i End = 0
alloc_tally i (Free j e rest) = alloc_tally i rest
alloc_tally i (Alloc j g e rest) = same i j + alloc_tally i rest
alloc_tally i (Seq j e inner rest) = alloc_tally i inner + alloc_tally i rest

pub places-free : (i : ℕ) (n : Numbered) → places (is_free_at i) n ≡ free_tally i n
places-free i End = refl
places-free i (Free j e rest) = omega (arith, places-free i rest)
places-free i (Alloc j g e rest) = omega (arith, places-free i rest)
places-free i (Seq j e inner rest) = omega (arith, places-free i inner, places-free i rest)

-- The first member isn't looked for.
pub not_here : (b : Bool) (x y : ℕ) → b ≡ false → x + cond b 1 0 ≡ y → x ≡ y
not_here b x y other e = grind arith

-- Or it is.
some_here : (b : Bool) (x : ℕ) → b ≡ true → 0 < x + cond b 1 0
some_here b x t = grind arith

pub places-some : (is : Numbered → Bool) → is End ≡ false → (m : Numbered) → is m ≡ true → 0 < places is m
places-some is never End t = absurd (true≢false (sym t ∙ never))
places-some is never m t = some_here _ _ t

pub free_tally-le : (i : ℕ) (n : Numbered) → free_tally i n ≤ tally i n
free_tally-le i End = omega arith
free_tally-le i (Free j e rest) = omega (arith, free_tally-le i rest)
free_tally-le i (Alloc j g e rest) = omega (arith, free_tally-le i rest)
free_tally-le i (Seq j e inner rest) = omega (arith, free_tally-le i inner, free_tally-le i rest)

pub free-in : (i : ℕ) (n : Numbered) → places (is_free_at i) n ≡ 1 → 0 < tally i n
free-in i n one = omega (arith, one, places-free i n, free_tally-le i n)

-- Where a slot is looked for, it is a member.
module _ (is : Numbered → Bool) (i : ℕ) (begins : (m : Numbered) → is m ≡ true → first_slot m ≡ i) where
  hit : (b : Bool) (j : ℕ) → (b ≡ true → j ≡ i) → cond b 1 0 ≤ same i j
  hit true j h = omega (arith, same-self i, ap (same i) (h refl))
  hit false j h = omega arith

  pub places-le : (n : Numbered) → places is n ≤ tally i n
  places-le End = omega arith
  places-le (Free j e rest) = omega (arith, hit _ j (begins (Free j e rest)), places-le rest)
  places-le (Alloc j g e rest) = omega (arith, hit _ j (begins (Alloc j g e rest)), places-le rest)
  places-le (Seq j e inner rest) = omega (arith, hit _ j (begins (Seq j e inner rest)), places-le inner, places-le rest)

-- A slot is looked for as often as it is a member, if its kind says which members are looked for.
module _ (ns : List Node) (i : ℕ) (is : Numbered → Bool)
    (free : (j e : ℕ) (rest : Numbered) → (node_at ns j).kind ≡ kind.Free → cond (is (Free j e rest)) 1 0 ≡ same i j)
    (alloc : (j g e : ℕ) (rest : Numbered) → (node_at ns j).kind ≡ kind.Alloc → cond (is (Alloc j g e rest)) 1 0 ≡ same i j)
    (seq : (j e : ℕ) (inner rest : Numbered) → (node_at ns j).kind ≡ kind.Container → cond (is (Seq j e inner rest)) 1 0 ≡ same i j) where
  places-Standing : (s : Sequence) (b p : ℕ) (n : Numbered) → Standing ns s b p n → places is n ≡ tally i n
  places-Standing s b p End h = refl
  places-Standing s b p (Free j e rest) h = omega (arith, free j e rest h.0.kind, places-Standing s j (p + e) rest h.2)
  places-Standing s b p (Alloc j g e rest) h = omega (arith, alloc j g e rest h.0.kind, places-Standing s j (p + e) rest h.3)
  places-Standing s b p (Seq j e inner rest) h =
      omega (
        arith,
        seq j e inner rest h.0.kind,
        places-Standing (inside s j p e) no_slot s.start inner h.2,
        places-Standing s j (p + e) rest h.3,
      )

module _ (ns : List Node) (i : ℕ) where
  -- Another slot, since its kind is another.
  other_kind : (j : ℕ) (k l : NodeKind) → (node_at ns i).kind ≡ k → (node_at ns j).kind ≡ l → (k ≡ l → ⊥) → 0 ≡ same i j
  other_kind j k l ki lj ne = sym (same-ne i j (λ e. ne (sym ki ∙ ap (λ x. (node_at ns x).kind) e ∙ lj)))

  pub free_place : (s : Sequence) (n : Numbered) → (node_at ns i).kind ≡ kind.Free → Stands ns s n
      → places (is_free_at i) n ≡ 1
  free_place s n f h = grind (arith, places-Standing, other_kind)

  pub free_once : (s : Sequence) (n : Numbered) → (node_at ns i).kind ≡ kind.Free → Stands ns s n → free_tally i n ≡ 1
  free_once s n f h = sym (places-free i n) ∙ free_place s n f h

  pub alloc_place : (s : Sequence) (n : Numbered) → (node_at ns i).kind ≡ kind.Alloc → Stands ns s n
      → places (is_alloc_at i) n ≡ 1
  alloc_place s n f h = grind (arith, places-Standing, other_kind)
