-- The lists of the live and of the free boxes, as the code gathers them.
use Rattle.std.proofs.Common.{◌≡◌, ℕ, ◌+◌, ◌<◌, ◌≤◌, ◌⊎◌, inl, inr, ℤ, pos, ◌<ℤ◌, ◌≤ℤ◌, List, [], ◌∷◌, length, map, get_or, cond, Option}
use Rattle.std.proofs.Common.{false, refl, sym, ap, ◌∙◌, subst, arith}
use Rattle.std.specs.List.{All}
use Rattle.std.specs.List.Sorted.{IsPermutation, IsSortedByKey}
use Rattle.std.specs.Ordering.{is_lt, ordering_then, int_cmp, MatchOrdering}
use Rattle.std.specs.Cmp.{int_ranks}
use Rattle.std.proofs.lemmas.Int.{ints}
use Rattle.std.specs.declared.cmp.Ordering.{Ordering}
use Rattle.std.specs.declared.cmp.Ordering.TheVariants.{Less, Equal, Greater}
use Rattle.std.proofs.lemmas.List.{get_or-map, length-map}
use Rattle.std.proofs.lemmas.List.Elements.{All-tail}
use Rattle.std.proofs.lemmas.List.Sorted.{IsPermutation-map, All-permutation, sum_by-IsPermutation}
use Rattle.guillotiere.specs.declared.Allocation.{Allocation}
use Rattle.guillotiere.specs.declared.Change.{Change}
use Rattle.guillotiere.specs.declared.Rectangle.{Rectangle}
use Rattle.guillotiere.specs.Boxes.{Box}
use Rattle.guillotiere.specs.Choice.{ComesFirst}
use Rattle.guillotiere.specs.Pixels.{box_of, rectangle_of}
use Rattle.guillotiere.specs.States.{State}
use Rattle.guillotiere.specs.Replies.{grant_of, IsExact}
use Rattle.guillotiere.specs.Stored.{AtlasValue, state_of}
use Rattle.guillotiere.specs.Visits.{AreGrants, AreFreeAreas}
use Rattle.guillotiere.specs.Rearranging.{IsExactChange, transfer_of}
use Rattle.guillotiere.specs.SimpleStored.{SimpleValue}
use Rattle.guillotiere_recording.specs.Recordings.{SessionValue}
use Rattle.atlas_lines.specs.declared.standing.Standing.TheVariants.{Atlas, Session}
use Rattle.atlas_lines.specs.Machine.{tool_state_of}
use Rattle.atlas_lines.specs.Machine.{ToolReply, Held, with_atlas, with_session, session_in, simple_in, ShowsLive, HoldsHoles, AreInOrder}
use Rattle.atlas_lines.specs.Machine.{allocation_of, change_of}

same_allocation : (a : Allocation) → IsExact a.rectangle → a ≡ allocation_of (grant_of a)
same_allocation a e = λ i. record { id = a.id; rectangle = e i }

pub granted_back : (found : List Allocation) → All (λ (a : Allocation). IsExact a.rectangle) found
    → found ≡ map allocation_of (map grant_of found)
granted_back [] exact = refl
granted_back (a ∷ found) exact =
    let first = same_allocation a (exact 0 a (omega arith)) in
    let others = granted_back found (All-tail (λ (b : Allocation). IsExact b.rectangle) a found exact) in
    ap (λ (b : Allocation). b ∷ found) first ∙ ap (λ (bs : List Allocation). allocation_of (grant_of a) ∷ bs) others

same_change : (c : Change) → IsExactChange c → c ≡ change_of (transfer_of c)
same_change c e =
    let old = same_allocation c.old e.0 in
    let new = same_allocation c.new e.1 in
    λ i. record { old = old i; new = new i }

pub changes_back : (found : List Change) → All IsExactChange found → found ≡ map change_of (map transfer_of found)
changes_back [] exact = refl
changes_back (c ∷ found) exact =
    let first = same_change c (exact 0 c (omega arith)) in
    let others = changes_back found (All-tail IsExactChange c found exact) in
    ap (λ (d : Change). d ∷ found) first ∙ ap (λ (ds : List Change). change_of (transfer_of c) ∷ ds) others

pub changes_shown : (changes : List Change) (failures : List Allocation) → All IsExactChange changes
    → All (λ (a : Allocation). IsExact a.rectangle) failures
    → ToolReply.ChangeLines changes failures ≡ ToolReply.ChangeLines (map change_of (map transfer_of changes))
    (map allocation_of (map grant_of failures))
changes_shown changes failures exact lost =
    let moved = changes_back changes exact in
    let left = granted_back failures lost in
    λ i. ToolReply.ChangeLines (moved i) (left i)

-- The gathered live list is one that may be shown.
pub live_shown : (state : State) (found : List Allocation) → AreGrants state found
    → ShowsLive state (ToolReply.LiveLines found)
live_shown state found grants = (map grant_of found, grants.list, granted_back found grants.exact)

areas_back : (found : List Rectangle) → All IsExact found → found ≡ map rectangle_of (map box_of found)
areas_back [] exact = refl
areas_back (r ∷ found) exact =
    let first : r ≡ rectangle_of (box_of r) = exact 0 r (omega arith) in
    let others = areas_back found (All-tail IsExact r found exact) in
    ap (λ (s : Rectangle). s ∷ found) first ∙ ap (λ (rs : List Rectangle). rectangle_of (box_of r) ∷ rs) others

-- ---- the order of the holes

-- Whether the lower left corner of the first comes before that of the second.
by_corner : (o p : Ordering) (a b x y : ℤ) → MatchOrdering o (a <ℤ b) (a ≡ b) (b <ℤ a)
    → MatchOrdering p (x <ℤ y) (x ≡ y) (y <ℤ x) → is_lt (ordering_then o p) ≡ false
    → (b <ℤ a) ⊎ ((b ≡ a) × (y ≤ℤ x))
by_corner Less p a b x y m n e = absurd (cc)
by_corner Equal Less a b x y m n e = absurd (cc)
by_corner Equal Equal a b x y m n e = inr (sym m, omega (arith, ints, n))
by_corner Equal Greater a b x y m n e = inr (sym m, omega (arith, ints, n))
by_corner Greater p a b x y m n e = inl m

natural_corner : (a b x y : ℕ) → (pos b <ℤ pos a) ⊎ ((pos b ≡ pos a) × (pos y ≤ℤ pos x)) → (b < a) ⊎ ((b ≡ a) × (y ≤ x))
natural_corner a b x y (inl above) = inl (omega (arith, ints, above))
natural_corner a b x y (inr beside) = inr (omega (arith, ints, beside.0), omega (arith, ints, beside.1))

abbrev pub corner_key : Rectangle → ℤ × ℤ
corner_key r = (r.min.y, r.min.x)

abbrev pub corner_cmp : ℤ × ℤ → ℤ × ℤ → Ordering
corner_cmp a b = ordering_then (int_cmp a.0 b.0) (int_cmp a.1 b.1)

first_by_key : (b c : Box) → is_lt (corner_cmp (corner_key (rectangle_of c)) (corner_key (rectangle_of b))) ≡ false
    → ComesFirst b c
first_by_key b c e =
    natural_corner c.min.y b.min.y c.min.x b.min.x
    (by_corner (int_cmp (pos c.min.y) (pos b.min.y)) (int_cmp (pos c.min.x) (pos b.min.x)) (pos c.min.y) (pos b.min.y) (pos c.min.x)
    (pos b.min.x)
    (int_ranks (pos c.min.y) (pos b.min.y)) (int_ranks (pos c.min.x) (pos b.min.x)) e)

exact_order : (r s : Rectangle) → IsExact r → IsExact s → is_lt (corner_cmp (corner_key s) (corner_key r)) ≡ false
    → ComesFirst (box_of r) (box_of s)
exact_order r s e f h =
    let P : Rectangle → Rectangle → Type 0 = λ x y. is_lt (corner_cmp (corner_key y) (corner_key x)) ≡ false in
    first_by_key (box_of r) (box_of s) (subst (λ y. P (rectangle_of (box_of r)) y) f (subst (λ x. P x s) e h))

in_order : (sorted : List Rectangle) → All IsExact sorted → IsSortedByKey corner_key corner_cmp sorted
    → AreInOrder (map box_of sorted)
in_order sorted exact order k b h =
    let n : length (map box_of sorted) ≡ length sorted = length-map sorted box_of in
    let d = rectangle_of b in
    let low : k < length sorted = omega arith in
    let high : k + 1 < length sorted = omega arith in
    let first = get_or-map box_of sorted k d b low in
    let next = get_or-map box_of sorted (k + 1) d b high in
    let P : Box → Box → Type 0 = ComesFirst in
    subst (λ y. P (get_or (map box_of sorted) k b) y) (sym next)
    (subst (λ x. P x (box_of (get_or sorted (k + 1) d))) (sym first)
    (exact_order (get_or sorted k d) (get_or sorted (k + 1) d) (exact k d low) (exact (k + 1) d high) (order k d (omega arith) high)))

pub holes_listed : (state : State) (found sorted : List Rectangle) → AreFreeAreas state found
    → IsPermutation found sorted → IsSortedByKey corner_key corner_cmp sorted → HoldsHoles state sorted
holes_listed state found sorted areas moved order =
    let exact = All-permutation IsExact found sorted moved areas.exact in (
      map box_of sorted,
      record {
        free = λ p. sum_by-IsPermutation (λ b. cond (p b) 1 0) (map box_of found) (map box_of sorted)
            (IsPermutation-map box_of found sorted moved) ∙ areas.list p;
        ordered = in_order sorted exact order;
      },
      areas_back sorted exact,
    )

-- A new atlas in the tool.
pub made_atlas : (held : Held) (simple : Option SimpleValue) (value : AtlasValue) (made : State) → simple ≡ held.simple
    → state_of value ≡ made
    → tool_state_of (record { stand = Atlas value; simple = simple }) ≡ with_atlas (tool_state_of held) made
made_atlas held simple value made e f = λ i. record { stand = Atlas (f i); simple = simple_in (e i) }

-- A new session in the tool.
pub made_session : (held : Held) (simple : Option SimpleValue) (value : SessionValue) → simple ≡ held.simple
    → tool_state_of (record { stand = Session value; simple = simple }) ≡ with_session (tool_state_of held) (session_in value)
made_session held simple value e = λ i. record { stand = Session (session_in value); simple = simple_in (e i) }
