-- The entries in a box of a page freed one after another, and the room that this leaves.
use Rattle.std.proofs.Common.{ℕ, ◌≡◌, ◌||◌, ◌&&◌, true, false, eqb, Bool, List, [], ◌∷◌, ◌++◌, Some}
use Rattle.std.proofs.Common.{refl, sym, ap, subst, ◌∙◌, option_map, slice_get, Contains, inl, inr}
use Rattle.std.proofs.Math.Bool.{or-true, or_comm}
use Rattle.std.proofs.lemmas.Bool.{and_from, cases_Bool, eq-eqb, le-leb, false≢true}
use Rattle.std.proofs.lemmas.Bool.Decides.{eqb_tells}
use Rattle.std.proofs.lemmas.List.Elements.{All-contains_itself, All-weaker}
use Rattle.std.specs.List.{AllByRecursion}
use Rattle.guillotiere.specs.declared.Rectangle.{Rectangle}
use Rattle.guillotiere.specs.declared.Size.{Size}
use Rattle.guillotiere.specs.Boxes.{Box, IsInside, IsPositive}
use Rattle.guillotiere.specs.Changes.{and_id, only, release}
use Rattle.guillotiere.specs.Choice.{HasRoom}
use Rattle.guillotiere.specs.Laws.RoomLaws.{HasThoseInside}
use Rattle.guillotiere.specs.Pages.{rectangle_on, HasRoomFor, HasRoomOn}
use Rattle.guillotiere.specs.Pixels.{box_of, rectangle_of, sides_of}
use Rattle.guillotiere.specs.Replies.{live_box}
use Rattle.guillotiere.specs.States.{State, live_in, free_in, after_freeing, IsSound}
use Rattle.guillotiere.specs.Stored.{AtlasValue, state_of}
use Rattle.guillotiere.specs.Trees.{free_boxes, Grant}
use Rattle.guillotiere.proofs.ListLemmas.CallerLemmas.{find-counted_once}
use Rattle.guillotiere.proofs.StepLemmas.FreedRoom.{room_is_kept}
use Rattle.guillotiere.proofs.StepLemmas.LiveBoxes.{is_for, few_live}
use Rattle.guillotiere.proofs.TreeLemmas.TreeNormal.{release-none, release-release}
use Rattle.atlas_entries.specs.declared.entries.Entry.{Entry}
use Rattle.atlas_entries.specs.Entries.{is_blank, lying, no_page}
use Rattle.atlas_cache.specs.Caches.{HoldsEntries}
use Rattle.atlas_cache.specs.Placing.{FreesOn}
use Rattle.atlas_cache.specs.Vacating.{is_inside, ids_inside, ids_on, lies_in, IsRoomWithout}
use Rattle.atlas_cache.proofs.BlankLemmas.{lying-append}
use Rattle.atlas_cache.proofs.HoldingLemmas.{id_cases, IsLiveOn}
use Rattle.atlas_cache.proofs.VacateLemmas.{eqb-sym}

inside-true : (b c : Box) → IsInside b c → is_inside b c ≡ true
inside-true b c h =
    and_from _ _ (and_from _ _ (le-leb c.min.x b.min.x h.0) (le-leb c.min.y b.min.y h.1))
    (and_from _ _ (le-leb b.max.x c.max.x h.2) (le-leb b.max.y c.max.y h.3))

-- The box of a live grant is that of its id.
live-here : (s : State) (g : Grant) → IsSound s → Contains (live_in s) g → live_box s g.id ≡ Some g.box
live-here s g sound held =
    ap (option_map (λ (k : Grant). k.box))
    (find-counted_once (is_for g.id) (live_in s) g (few_live s g.id sound) held (eq-eqb g.id g.id refl))

rectangle-here : (pages : List AtlasValue) (page : ℕ) (v : AtlasValue) (g : Grant) → slice_get pages page ≡ Some v
    → IsSound (state_of v) → Contains (live_in (state_of v)) g
    → rectangle_on pages page g.id ≡ Some (rectangle_of g.box)
rectangle-here pages page v g at sound held =
    rw at (ap (option_map rectangle_of) (live-here (state_of v) g sound held))

either-more : (p i d r q : Bool) → (r ≡ true → q ≡ true) → (((p && i) && d) || r) ≡ true → ((p && d) || q) ≡ true
either-more true true true r q f is = refl
either-more true true false r q f is = f is
either-more true false true r q f is = refl
either-more true false false r q f is = f is
either-more false i d r q f is = f is

same-value : (v w : AtlasValue) → Some v ≡ Some w → v ≡ w
same-value v w is = cc

same-rectangle : (o : Rectangle) (r : Rectangle) → Some o ≡ Some r → o ≡ r
same-rectangle o r is = cc

inside-none : (K : Type 0) (page : ℕ) (box : Box) → ids_inside {K = K} page box [] ≡ (λ k. false)
inside-none K page box = λ i k. false

module _ {K : Type 0} where
  inside-on : (page : ℕ) (box : Box) (es : List (Entry K)) (k : ℕ) → ids_inside page box es k ≡ true
      → ids_on page es k ≡ true
  inside-on page box [] k is = is
  inside-on page box (e ∷ es) k is =
      either-more (eqb e.page page) (is_inside (box_of e.rectangle) box) (eqb e.id k) (ids_inside page box es k)
      (ids_on page es k) (inside-on page box es k) is

  live-later : (pages : List AtlasValue) (xs ys : List (Entry K)) → AllByRecursion (IsLiveOn pages) (xs ++ ys)
      → AllByRecursion (IsLiveOn pages) ys
  live-later pages [] ys all = all
  live-later pages (x ∷ xs) ys all = live-later pages xs ys all.1

  lies-here : (page : ℕ) (box b : Box) (e : Entry K) → e.page ≡ page → rectangle_of b ≡ e.rectangle → IsInside b box
      → lies_in page box e ≡ true
  lies-here page box b e on same inside =
      and_from _ _ (eq-eqb e.page page on)
      (subst (λ (r : Rectangle). is_inside (box_of r) box ≡ true) same (inside-true b box inside))

  module _ (pages : List AtlasValue) (page : ℕ) (lies : page ≡ no_page → ⊥) where
    live-rest : (e : Entry K) (es : List (Entry K)) → AllByRecursion (IsLiveOn pages) (lying (e ∷ es))
        → AllByRecursion (IsLiveOn pages) (lying es)
    live-rest e es live = elim (cases_Bool (is_blank e)) [
      | inl blank ↦ rw blank at live
      | inr on ↦ let both = rw on at live in both.1
    ]

    live-first : (e : Entry K) (es : List (Entry K)) → AllByRecursion (IsLiveOn pages) (lying (e ∷ es)) → e.page ≡ page
        → IsLiveOn pages e
    live-first e es live here = elim (cases_Bool (is_blank e)) [
      | inl blank ↦ elim (eqb_tells e.page no_page) [
        | inl none ↦ absurd (lies (sym here ∙ none.1))
        | inr differ ↦ absurd (false≢true (sym differ.0 ∙ blank))
      ]
      | inr on ↦ let both = rw on at live in both.0
    ]

    -- An id of the entries whose box lies inside is one of those inside.
    held-inside : (box b : Box) (es : List (Entry K)) (id : ℕ) → AllByRecursion (IsLiveOn pages) (lying es)
        → rectangle_on pages page id ≡ Some (rectangle_of b) → IsInside b box → ids_on page es id ≡ true
        → ids_inside page box es id ≡ true
    held-inside box b [] id live there inside is = is
    held-inside box b (e ∷ es) id live there inside is = elim (id_cases page id e) [
      | inl it ↦
          let own : rectangle_on pages e.page e.id ≡ Some e.rectangle = live-first e es live it.1 in
          let mine : rectangle_on pages page id ≡ Some e.rectangle = rw (it.1, it.2) at own in
          let same : rectangle_of b ≡ e.rectangle = same-rectangle (rectangle_of b) e.rectangle (sym there ∙ mine) in
          rw (lies-here page box b e it.1 same inside, eq-eqb e.id id it.2) refl
      | inr other ↦
          let rest = held-inside box b es id (live-rest e es live) there inside (rw other.0 at is) in
          rw rest (or-true (lies_in page box e && eqb e.id id))
    ]

  -- A box that would be free once all of the entries go is as good once those inside it go.
  pub room-left : (asked : Size) (pages : List AtlasValue) (page : ℕ) (newer es : List (Entry K)) (box : Box)
      → ((v : AtlasValue) → slice_get pages page ≡ Some v → IsSound (state_of v))
      → HoldsEntries pages (lying (newer ++ es)) → (page ≡ no_page → ⊥) → IsPositive (sides_of asked)
      → IsRoomWithout asked pages page (ids_on page es) box → (v : AtlasValue) → slice_get pages page ≡ Some v
      → HasRoom (free_in (after_freeing (state_of v) (ids_inside page box es))) (state_of v).options (sides_of asked)
  room-left asked pages page newer es box sound held lies positive room v at =
      room_is_kept (state_of v) (ids_on page es) (ids_inside page box es) box (sides_of asked) (sound v at) those
      (room v at).free positive (room v at).fits
    where
      live : AllByRecursion (IsLiveOn pages) (lying es)
      live = live-later pages (lying newer) (lying es)
          (subst (AllByRecursion (IsLiveOn pages)) (lying-append newer es) held.live)

      those : HasThoseInside (state_of v).size (state_of v).tree (ids_on page es) (ids_inside page box es) box
      those = record {
        of_set = inside-on page box es;
        inside = All-weaker (Contains (live_in (state_of v)))
            (λ g. ids_on page es g.id ≡ true → IsInside g.box box → ids_inside page box es g.id ≡ true)
            (λ g has on inside. held-inside pages page lies box g.box es g.id live
            (rectangle-here pages page v g at (sound v at) has) inside on)
            (live_in (state_of v)) (All-contains_itself (live_in (state_of v)));
      }

  -- A page is as it was, but for the entries of a list that lay in a box there: they were freed.
  pub record IsClearedTo (base w : AtlasValue) (page : ℕ) (box : Box) (es : List (Entry K)) : Type 0 where
    pub tree : (state_of w).tree ≡ release (ids_inside page box es) (state_of base).tree
    pub size : (state_of w).size ≡ (state_of base).size
    pub options : (state_of w).options ≡ (state_of base).options

  inside-more : (page : ℕ) (box : Box) (e : Entry K) (es : List (Entry K)) → lies_in page box e ≡ true
      → and_id (ids_inside page box es) e.id ≡ ids_inside page box (e ∷ es)
  inside-more page box e es lies = λ i k. at_each k i
    where
      at_each : (k : ℕ) → and_id (ids_inside page box es) e.id k ≡ ids_inside page box (e ∷ es) k
      at_each k = rw (lies, eqb-sym k e.id) (or_comm (ids_inside page box es k) (eqb e.id k))

  inside-other : (page : ℕ) (box : Box) (e : Entry K) (es : List (Entry K)) → lies_in page box e ≡ false
      → ids_inside page box es ≡ ids_inside page box (e ∷ es)
  inside-other page box e es other = λ i k. at_each k i
    where
      at_each : (k : ℕ) → ids_inside page box es k ≡ ids_inside page box (e ∷ es) k
      at_each k = rw other refl

  module _ (base : AtlasValue) (page : ℕ) (box : Box) where
    pub cleared-start : IsSound (state_of base) → IsClearedTo base base page box []
    cleared-start sound = record {
      tree = sym (ap (λ s. release s (state_of base).tree) (inside-none K page box) ∙ release-none (state_of base).tree sound.normal);
      size = refl;
      options = refl;
    }

    pub cleared-one : (pages new : List AtlasValue) (v w : AtlasValue) (e : Entry K) (es : List (Entry K))
        → slice_get pages page ≡ Some v → slice_get new page ≡ Some w → FreesOn pages new page e.id
        → lies_in page box e ≡ true → IsClearedTo base v page box es → IsClearedTo base w page box (e ∷ es)
    cleared-one pages new v w e es at_v at_w frees lies p =
        let freed : state_of w ≡ after_freeing (state_of v) (only e.id) = frees v w at_v at_w in
        record {
          tree = ap (λ (s : State). s.tree) freed ∙ ap (release (only e.id)) p.tree
              ∙ release-release (only e.id) (ids_inside page box es) (state_of base).tree
              ∙ ap (λ s. release s (state_of base).tree) (inside-more page box e es lies);
          size = ap (λ (s : State). s.size) freed ∙ p.size;
          options = ap (λ (s : State). s.options) freed ∙ p.options;
        }

    pub cleared-other : (w : AtlasValue) (e : Entry K) (es : List (Entry K)) → lies_in page box e ≡ false
        → IsClearedTo base w page box es → IsClearedTo base w page box (e ∷ es)
    cleared-other w e es other p = record {
      tree = p.tree ∙ ap (λ s. release s (state_of base).tree) (inside-other page box e es other);
      size = p.size;
      options = p.options;
    }

    pub cleared-free : (w : AtlasValue) (es : List (Entry K)) → IsClearedTo base w page box es
        → free_in (state_of w) ≡ free_in (after_freeing (state_of base) (ids_inside page box es))
    cleared-free w es p = ap (λ n. free_boxes n (state_of w).tree) p.size ∙ ap (free_boxes (state_of base).size) p.tree

    pub cleared-keeps_room : (asked : Size) (w : AtlasValue) (es : List (Entry K)) → IsClearedTo base w page box es
        → HasRoom (free_in (after_freeing (state_of base) (ids_inside page box es))) (state_of base).options (sides_of asked)
        → HasRoomFor asked w
    cleared-keeps_room asked w es p room =
        subst (λ o. HasRoom (free_in (state_of w)) o (sides_of asked)) (sym p.options)
        (subst (λ f. HasRoom f (state_of base).options (sides_of asked)) (sym (cleared-free w es p)) room)

  -- The same of the page in a list.
  abbrev pub IsClearedOn : (base : AtlasValue) → List AtlasValue → (page : ℕ) → Box → List (Entry K) → Type 0
  IsClearedOn base pages page box es =
      (v : AtlasValue) → slice_get pages page ≡ Some v → IsClearedTo base v page box es

  module _ (base : AtlasValue) (pages : List AtlasValue) (page : ℕ) (box : Box) where
    pub cleared_on-start : slice_get pages page ≡ Some base → IsSound (state_of base) → IsClearedOn base pages page box []
    cleared_on-start at sound v is =
        subst (λ (w : AtlasValue). IsClearedTo base w page box []) (same-value base v (sym at ∙ is))
        (cleared-start base page box sound)

    pub cleared_on-one : (new : List AtlasValue) (v : AtlasValue) (e : Entry K) (es : List (Entry K))
        → slice_get pages page ≡ Some v → FreesOn pages new page e.id → lies_in page box e ≡ true
        → IsClearedOn base pages page box es → IsClearedOn base new page box (e ∷ es)
    cleared_on-one new v e es at frees lies p w is =
        cleared-one base page box pages new v w e es at is frees lies (p v at)

    pub cleared_on-other : (e : Entry K) (es : List (Entry K)) → lies_in page box e ≡ false
        → IsClearedOn base pages page box es → IsClearedOn base pages page box (e ∷ es)
    cleared_on-other e es other p w is = cleared-other base page box w e es other (p w is)

  -- Once all those in the box are freed, there is the room for which they were.
  module _ (asked : Size) (pages : List AtlasValue) (page : ℕ) (box : Box) (newer es : List (Entry K)) where
    pub cleared-room : ((v : AtlasValue) → slice_get pages page ≡ Some v → IsSound (state_of v))
        → HoldsEntries pages (lying (newer ++ es)) → (page ≡ no_page → ⊥) → IsPositive (sides_of asked)
        → IsRoomWithout asked pages page (ids_on page es) box → (base w : AtlasValue) → slice_get pages page ≡ Some base
        → IsClearedTo base w page box es → HasRoomFor asked w
    cleared-room sound held lies positive room base w at p =
        cleared-keeps_room base page box asked w es p (room-left asked pages page newer es box sound held lies positive room base at)

    pub cleared_on-room : ((v : AtlasValue) → slice_get pages page ≡ Some v → IsSound (state_of v))
        → HoldsEntries pages (lying (newer ++ es)) → (page ≡ no_page → ⊥) → IsPositive (sides_of asked)
        → IsRoomWithout asked pages page (ids_on page es) box → (base : AtlasValue) (new : List AtlasValue)
        → slice_get pages page ≡ Some base → IsClearedOn base new page box es → HasRoomOn asked new page
    cleared_on-room sound held lies positive room base new at p w is =
        cleared-room sound held lies positive room base w at (p w is)
