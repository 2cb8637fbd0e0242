-- One slot more in a walk over slots.
use Rattle.std.proofs.Common.{rules, ℕ, ◌+◌, ◌<◌, ◌≡◌, Bool, false, cond, List, [], ◌∷◌, get_or, drop, length, refl}
use Rattle.std.proofs.Common.{sym, ap, ◌∙◌}
use Rattle.std.proofs.lemmas.Bool.{true≢false}
use Rattle.std.proofs.lemmas.List.{at_drop_more}
use Rattle.std.specs.Borrow.{Bor}
use Rattle.std.specs.Fn.{Mut, Called, CalledAt}
use Rattle.std.specs.Iterator.{CallableAtEachTurn}
use Rattle.std.specs.List.{FoldsTo}
use Rattle.atlas_store.specs.Slots.{nodes, node_of}
use Rattle.atlas_store.specs.Slots.Lists.{is_free}
use Rattle.atlas_store.specs.Slots.Numbered.{id_of}
use Rattle.atlas_store.specs.Visits.{CalledAtGrant, is_alloc, allocation_at, allocated_from, free_areas}
use Rattle.atlas_store.specs.Walks.{first_of, IsCallableAlong, IsCallableAlongGrants}
use Rattle.atlas_store.specs.contracts.slots.NodeKind.{the_type}
use Rattle.atlas_model.specs.declared.geometry.Rectangle.{Rectangle}
use Rattle.atlas_store.specs.declared.slots.NodeKind.{NodeKind}
use Rattle.atlas_store.specs.declared.slots.Slot.{Slot}
use denote.Enum.Bare.{sameb}
use Rattle.std.specs.Fn.{Takes}
use Rattle.atlas_store.specs.declared.slots.NodeKind.TheVariants as kind

-- The list from an allocated slot on.
allocated-next : (xs : List Slot) (i : ℕ) (d : Slot) → i < length xs → (node_of (get_or xs i d)).kind ≡ kind.Alloc
    → allocated_from i (nodes (drop i xs)) ≡ allocation_at i (node_of (get_or xs i d)) ∷ allocated_from (i + 1) (nodes (drop (i + 1) xs))
allocated-next xs i d low is =
    at_drop_more (λ ys. allocated_from i (nodes ys)) xs i d low
    ∙ ap (λ k. cond (is_alloc k) (allocation_at i (node_of (get_or xs i d)) ∷ allocated_from (i + 1) (nodes (drop (i + 1) xs)))
    (allocated_from (i + 1) (nodes (drop (i + 1) xs)))) is

-- A kind that the test of the code tells apart.
pub not_alloc : (k : NodeKind) (b : Bool) → b ≡ sameb the_type k kind.Alloc → b ≡ false → is_alloc k ≡ false
not_alloc kind.Alloc b e f = absurd (true≢false (sym e ∙ f))
not_alloc k b e f = refl

pub not_free : (k : NodeKind) (b : Bool) → b ≡ sameb the_type k kind.Free → b ≡ false → is_free k ≡ false
not_free kind.Free b e f = absurd (true≢false (sym e ∙ f))
not_free k b e f = refl

-- And from one that isn't.
allocated-past : (xs : List Slot) (i : ℕ) (d : Slot) (b : Bool) → i < length xs
    → b ≡ sameb the_type (node_of (get_or xs i d)).kind kind.Alloc → b ≡ false
    → allocated_from i (nodes (drop i xs)) ≡ allocated_from (i + 1) (nodes (drop (i + 1) xs))
allocated-past xs i d b low test is =
    at_drop_more (λ ys. allocated_from i (nodes ys)) xs i d low
    ∙ ap (λ b. cond b (allocation_at i (node_of (get_or xs i d)) ∷ allocated_from (i + 1) (nodes (drop (i + 1) xs)))
    (allocated_from (i + 1) (nodes (drop (i + 1) xs)))) (not_alloc _ b test is)

-- The same of free slots.
pub free-next : (xs : List Slot) (i : ℕ) (d : Slot) → i < length xs → (node_of (get_or xs i d)).kind ≡ kind.Free
    → free_areas (nodes (drop i xs)) ≡ (node_of (get_or xs i d)).area ∷ free_areas (nodes (drop (i + 1) xs))
free-next xs i d low is =
    at_drop_more (λ ys. free_areas (nodes ys)) xs i d low
    ∙ ap (λ k. cond (is_free k) ((node_of (get_or xs i d)).area ∷ free_areas (nodes (drop (i + 1) xs)))
    (free_areas (nodes (drop (i + 1) xs)))) is

pub free-pass : (xs : List Slot) (i : ℕ) (d : Slot) (b : Bool) → i < length xs
    → b ≡ sameb the_type (node_of (get_or xs i d)).kind kind.Free → b ≡ false
    → free_areas (nodes (drop i xs)) ≡ free_areas (nodes (drop (i + 1) xs))
free-pass xs i d b low test is =
    at_drop_more (λ ys. free_areas (nodes ys)) xs i d low
    ∙ ap (λ b. cond b ((node_of (get_or xs i d)).area ∷ free_areas (nodes (drop (i + 1) xs))) (free_areas (nodes (drop (i + 1) xs))))
    (not_free _ b test is)

-- The call at one allocated slot more.
pub visits-allocated : {F : Type 0} (g : Mut F (ℕ × (Bor Rectangle × Unit {0})) (Unit {0})) (f f' at last : F)
    (xs : List Slot) (i : ℕ) (d : Slot) (id : ℕ) (shown : Bor Rectangle)
    → i < length xs → (node_of (get_or xs i d)).kind ≡ kind.Alloc → id ≡ id_of i (node_of (get_or xs i d)).generation
    → shown.now ≡ (node_of (get_or xs i d)).area
    → Called g f (id, (shown, tt)) tt f' → at ≡ f'
    → FoldsTo (CalledAtGrant g) at (allocated_from (i + 1) (nodes (drop (i + 1) xs))) last
    → FoldsTo (CalledAtGrant g) f (allocated_from i (nodes (drop i xs))) last
visits-allocated g f f' at last xs i d id shown low is same_id same_area call here more =
    search (rules, allocated-next)

-- No call at a slot that isn't allocated.
pub passes-allocated : {F : Type 0} (g : Mut F (ℕ × (Bor Rectangle × Unit {0})) (Unit {0})) (f at last : F)
    (xs : List Slot) (i : ℕ) (d : Slot) (b : Bool)
    → i < length xs → b ≡ sameb the_type (node_of (get_or xs i d)).kind kind.Alloc → b ≡ false → at ≡ f
    → FoldsTo (CalledAtGrant g) at (allocated_from (i + 1) (nodes (drop (i + 1) xs))) last
    → FoldsTo (CalledAtGrant g) f (allocated_from i (nodes (drop i xs))) last
passes-allocated g f at last xs i d b low test is here more = search (rules, allocated-past)

-- The call at one free slot more.
pub visits-free : {F : Type 0} (g : Mut F (Bor Rectangle × Unit {0}) (Unit {0})) (f f' at last : F) (xs : List Slot)
    (i : ℕ) (d : Slot)
    → i < length xs → (node_of (get_or xs i d)).kind ≡ kind.Free → CalledAt g f (node_of (get_or xs i d)).area tt f' → at ≡ f'
    → FoldsTo (λ p x q. CalledAt g p x tt q) at (free_areas (nodes (drop (i + 1) xs))) last
    → FoldsTo (λ p x q. CalledAt g p x tt q) f (free_areas (nodes (drop i xs))) last
visits-free g f f' at last xs i d low is call here more = search (rules, free-next)

-- No call at a slot that isn't free.
pub passes-free : {F : Type 0} (g : Mut F (Bor Rectangle × Unit {0}) (Unit {0})) (f at last : F) (xs : List Slot)
    (i : ℕ) (d : Slot) (b : Bool)
    → i < length xs → b ≡ sameb the_type (node_of (get_or xs i d)).kind kind.Free → b ≡ false → at ≡ f
    → FoldsTo (λ p x q. CalledAt g p x tt q) at (free_areas (nodes (drop (i + 1) xs))) last
    → FoldsTo (λ p x q. CalledAt g p x tt q) f (free_areas (nodes (drop i xs))) last
passes-free g f at last xs i d b low test is here more = search (rules, free-pass)

-- A callback along a list: at its first item, and after a call of it along the rest.

module _ {X F : Type 0} (R : F → X → F → Type 0) (Q : F → X → Type 0) where
  abbrev Along : F → List X → Type 0
  Along f xs = CallableAtEachTurn first_of R Q xs f

  pub along-first : (f : F) (x : X) (xs : List X) → Along f (x ∷ xs) → Q f x
  along-first f x xs h = h.at [] (x ∷ xs) f x xs refl refl refl

  pub along-rest : (f q : F) (x : X) (xs : List X) → Along f (x ∷ xs) → R f x q → Along q xs
  along-rest f q x xs h r = record { at = λ ys t v y u a b c. h.at (x ∷ ys) t v y u (xs, refl, a) (q, r, b) c }

module _ {F : Type 0} (g : Mut F (Bor Rectangle × Unit {0}) (Unit {0})) (xs : List Slot) (i : ℕ) (d : Slot) (low : i < length xs) where
  abbrev From : F → ℕ → Type 0
  From f k = IsCallableAlong g (λ _. Unit {0}) f (free_areas (nodes (drop k xs)))

  -- A callback may be called at a free slot.
  pub asks-free : (f : F) (shown : Bor Rectangle) → (node_of (get_or xs i d)).kind ≡ kind.Free
      → shown.now ≡ (node_of (get_or xs i d)).area → From f i → Takes g f (shown, tt)
  asks-free f shown is same h = search (rules, along-first, free-next)

  -- And after that call at those that follow.
  pub asks-more-free : (f f' at : F) → (node_of (get_or xs i d)).kind ≡ kind.Free
      → CalledAt g f (node_of (get_or xs i d)).area tt f' → at ≡ f' → From f i → From at (i + 1)
  asks-more-free f f' at is call here h = search (rules, along-rest, free-next)

  -- A slot that isn't free is passed over.
  pub asks-past-free : (f at : F) (b : Bool) → b ≡ sameb the_type (node_of (get_or xs i d)).kind kind.Free → b ≡ false
      → at ≡ f → From f i → From at (i + 1)
  asks-past-free f at b test is here h = search (rules, free-pass)

module _ {F : Type 0} (g : Mut F (ℕ × (Bor Rectangle × Unit {0})) (Unit {0})) (xs : List Slot) (i : ℕ) (d : Slot) (low : i < length xs)
  where
    abbrev GrantsFrom : F → ℕ → Type 0
    GrantsFrom f k = IsCallableAlongGrants g (λ _. Unit {0}) f (allocated_from k (nodes (drop k xs)))

    -- A callback may be called at an allocated slot.
    pub asks-allocated : (f : F) (id : ℕ) (shown : Bor Rectangle) → (node_of (get_or xs i d)).kind ≡ kind.Alloc
        → id ≡ id_of i (node_of (get_or xs i d)).generation
        → shown.now ≡ (node_of (get_or xs i d)).area → GrantsFrom f i → Takes g f (id, (shown, tt))
    asks-allocated f id shown is same_id same h = search (rules, along-first, allocated-next)

    -- And after that call at those that follow.
    pub asks-more-allocated : (f f' at : F) (id : ℕ) (shown : Bor Rectangle) → (node_of (get_or xs i d)).kind ≡ kind.Alloc
        → id ≡ id_of i (node_of (get_or xs i d)).generation
        → shown.now ≡ (node_of (get_or xs i d)).area → Called g f (id, (shown, tt)) tt f' → at ≡ f' → GrantsFrom f i
        → GrantsFrom at (i + 1)
    asks-more-allocated f f' at id shown is same_id same call here h = search (rules, along-rest, allocated-next)

    -- A slot that isn't allocated is passed over.
    pub asks-past-allocated : (f at : F) (b : Bool) → b ≡ sameb the_type (node_of (get_or xs i d)).kind kind.Alloc → b ≡ false
        → at ≡ f → GrantsFrom f i → GrantsFrom at (i + 1)
    asks-past-allocated f at b test is here h = search (rules, allocated-past)
