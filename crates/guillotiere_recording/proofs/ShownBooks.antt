-- What a recording allocator shows is the book of its events.
use Rattle.std.proofs.Common.{◌≡◌, ℕ, ◌+◌, ◌<◌, ◌≤◌, ◌==◌, Bool, get_or, List, [], ◌∷◌, ◌++◌, length, map, find, refl, ap, sym, subst, ◌∙◌}
use Rattle.std.proofs.Common.{arith, All, AllPairs, Contains, Option, Some, None, IsSome, IfSome, option_map}
use Rattle.std.specs.List.{count_by}
use Rattle.std.proofs.lemmas.Bool.{eqb-true, eq-eqb}
use Rattle.std.proofs.lemmas.List.{get_or-map, get_or_default, length-map}
use Rattle.std.proofs.lemmas.List.Elements.{All-map}
use Rattle.guillotiere.specs.declared.Allocation.{Allocation}
use Rattle.guillotiere.specs.Boxes.{Box, IsNonempty, IsWithin}
use Rattle.guillotiere.specs.Pixels.{sides_of, options_of, box_of, rectangle_of}
use Rattle.guillotiere.specs.Walks.{IsShownArea}
use Rattle.guillotiere.proofs.StepLemmas.ApartBoxes.{all_lie_within}
use Rattle.guillotiere.specs.Trees.{Grant, grant}
use Rattle.guillotiere.specs.States.{State, IsSound, live_in}
use Rattle.guillotiere.specs.Renaming.{renamed_grant}
use Rattle.guillotiere.specs.Replies.{grant_of, IsExact, live_box}
use Rattle.guillotiere.specs.Stored.{state_of}
use Rattle.guillotiere.proofs.ListLemmas.CallerLemmas.{find-counted, find-counted_once}
use Rattle.guillotiere.proofs.ListLemmas.ListCounts.{count_by-cons, count_by-append, count_some, split_at, IsSplitAt}
use Rattle.guillotiere.proofs.TreeLemmas.TreeBasics.{one_if}
use Rattle.guillotiere.proofs.StepLemmas.LiveBoxes.{few_live}
use Rattle.guillotiere_recording.specs.declared.names.LiveName.{LiveName as Entry}
use Rattle.guillotiere_recording.specs.Books.{AreSameGrants, book}
use Rattle.guillotiere_recording.specs.Names.{entries_of, name_among, box_or_none, shown}
use Rattle.guillotiere_recording.specs.Recordings.{SessionValue, session_of, AreBooked, IsRecordedSession}
use Rattle.guillotiere_recording.proofs.Counts.{count_map, count_alike}
use Rattle.guillotiere_recording.proofs.Entries.{name_of}
use Rattle.guillotiere_recording.proofs.Books.{books_are_true}
use Rattle.guillotiere_recording.proofs.RecordedSessions.{session_named}

count_split : (q : ℕ → Bool) (before : List ℕ) (x : ℕ) (after : List ℕ)
    → count_by q (before ++ x ∷ after) ≡ one_if (q x) + count_by q (before ++ after)
count_split q before x after =
    let a = count_by-append q before (x ∷ after) in
    let b = count_by-cons q x after in
    let c = count_by-append q before after in
    omega (arith, a, b, c)

-- Lists that count each number alike count each test alike.
pub each_counts : (xs ys : List ℕ) → ((k : ℕ) → count_by (λ x. x == k) xs ≡ count_by (λ x. x == k) ys) → (q : ℕ → Bool)
    → count_by q xs ≡ count_by q ys
each_counts [] [] h q = refl
each_counts [] (y ∷ ys) h q =
    let e = count_by-cons (λ x. x == y) y ys in
    let one : one_if (y == y) ≡ 1 = ap one_if (eq-eqb y y refl) in
    let none : 0 ≡ count_by (λ x. x == y) (y ∷ ys) = h y in
    absurd (omega (arith, e, one, none))
each_counts (x ∷ xs) ys h q = found (split_at (λ z. z == x) ys some) (λ zs more. each_counts xs zs more q)
  where
    some : 1 ≤ count_by (λ z. z == x) ys
    some =
        let e = count_by-cons (λ z. z == x) x xs in
        let one : one_if (x == x) ≡ 1 = ap one_if (eq-eqb x x refl) in
        let same = h x in
        omega (arith, e, one, same)

    found : IsSplitAt (λ z. z == x) ys → ((zs : List ℕ) → ((k : ℕ) → count_by (λ z. z == k) xs ≡ count_by (λ z. z == k) zs) →
        count_by q xs ≡ count_by q zs)
        → count_by q (x ∷ xs) ≡ count_by q ys
    found s later =
        let is : ys ≡ s.before ++ x ∷ s.after = s.is ∙ ap (λ z. s.before ++ z ∷ s.after) (eqb-true s.here x s.passes) in
        let rest : (k : ℕ) → count_by (λ z. z == k) xs ≡ count_by (λ z. z == k) (s.before ++ s.after) = λ k.
        let a = count_by-cons (λ z. z == k) x xs in
        let b : count_by (λ z. z == k) (x ∷ xs) ≡ count_by (λ z. z == k) (s.before ++ x ∷ s.after) = h k ∙ ap (count_by (λ z. z == k)) is in
        let c = count_split (λ z. z == k) s.before x s.after in
        omega (arith, a, b, c) in
        count_by-cons q x xs ∙ ap (λ n. one_if (q x) + n) (later (s.before ++ s.after) rest)
        ∙ sym (count_split q s.before x s.after) ∙ ap (count_by q) (sym is)

-- The live box of a listed grant.
pub box_of_live : (s : State) (g : Grant) → IsSound s → Contains (live_in s) g → box_or_none (live_box s g.id) ≡ g.box
box_of_live s g sound at =
    let it : find (λ (k : Grant). k.id == g.id) (live_in s) ≡ Some g =
    find-counted_once (λ k. k.id == g.id) (live_in s) g (few_live s g.id sound) at (eq-eqb g.id g.id refl) in
    ap (λ (o : Option Grant). box_or_none (option_map (λ (k : Grant). k.box) o)) it

-- Each entry's id has a box.
pub entries_have_boxes : (v : SessionValue) → IsRecordedSession v
    → All (λ (n : Entry). IsSome (live_box (state_of v.atlas) n.id)) v.names
entries_have_boxes v h k d below =
    let n : Entry = get_or v.names k d in
    let there : Contains v.names n = (k, below, get_or_default v.names k n d below) in
    let some : 1 ≤ entries_of n.id v.names = count_some (λ (m : Entry). m.id == n.id) v.names n there (eq-eqb n.id n.id refl) in
    let it = find-counted (λ (g : Grant). g.id == n.id) (live_in (state_of v.atlas)) (subst (λ c. 1 ≤ c) (h.ids n.id) some) in
    subst (λ (o : Option Grant). IsSome (option_map (λ (g : Grant). g.box) o)) (sym it.1) refl

pub shown_book : (v : SessionValue) (found : List Allocation) → IsRecordedSession v
    → found ≡ map (shown (state_of v.atlas)) v.names
    → AreBooked v.recording.events found
shown_book v found h is = subst (AreBooked v.recording.events) (sym is) it
  where
    under_name : ℕ → Grant
    under_name id = grant (name_among v.names id) (box_or_none (live_box (state_of v.atlas) id))

    counts : AreSameGrants (map grant_of (map (shown (state_of v.atlas)) v.names)) (book v.recording.events)
    counts p =
        count_map grant_of p (map (shown s) v.names) ∙ count_map (shown s) (λ a. p (grant_of a)) v.names
        ∙ count_alike (λ (n : Entry). p (grant_of (shown s n))) (λ (n : Entry). p (under_name n.id)) v.names named
        ∙ sym (count_map (λ (n : Entry). n.id) (λ id. p (under_name id)) v.names)
        ∙ each_counts (map (λ (n : Entry). n.id) v.names) (map (λ (g : Grant). g.id) (live_in s)) ids (λ id. p (under_name id))
        ∙ count_map (λ (g : Grant). g.id) (λ id. p (under_name id)) (live_in s)
        ∙ count_alike (λ (g : Grant). p (under_name g.id)) (λ (g : Grant). p (renamed_grant (name_among v.names) g)) (live_in s) boxed
        ∙ sym (count_map (renamed_grant (name_among v.names)) p (live_in s))
        ∙ sym (books_are_true (sides_of v.recording.size) (options_of v.recording.options) v.recording.events (session_of v)
        h.faithful.leads p)
      where
        s : State
        s = state_of v.atlas

        named : (n : Entry) → Contains v.names n → p (grant_of (shown (state_of v.atlas) n)) ≡ p (under_name n.id)
        named n there =
            let one = few_live (state_of v.atlas) n.id (session_named v h).sound in
            let i = h.ids n.id in
            ap (λ m. p (grant m (box_or_none (live_box (state_of v.atlas) n.id))))
            (sym (name_of n.id v.names n (omega (arith, one, i)) there refl))

        ids : (k : ℕ) → count_by (λ x. x == k) (map (λ (n : Entry). n.id) v.names)
            ≡ count_by (λ x. x == k) (map (λ (g : Grant). g.id) (live_in (state_of v.atlas)))
        ids k =
            count_map (λ (n : Entry). n.id) (λ x. x == k) v.names ∙ h.ids k
            ∙ sym (count_map (λ (g : Grant). g.id) (λ x. x == k) (live_in (state_of v.atlas)))

        boxed : (g : Grant) → Contains (live_in (state_of v.atlas)) g
            → p (under_name g.id) ≡ p (renamed_grant (name_among v.names) g)
        boxed g there =
            ap (λ b. p (grant (name_among v.names g.id) b)) (box_of_live (state_of v.atlas) g (session_named v h).sound there)

    rises : AllPairs (λ (a b : Allocation). a.id < b.id) (map (shown (state_of v.atlas)) v.names)
    rises i j d less below =
        let none : Entry = record { name = 0; id = 0 } in
        let low : j < length v.names = subst (λ n. j < n) (length-map v.names (shown (state_of v.atlas))) below in
        let a = ap (λ (a : Allocation). a.id) (get_or-map (shown (state_of v.atlas)) v.names i none d (omega (arith, low, less))) in
        let b = ap (λ (a : Allocation). a.id) (get_or-map (shown (state_of v.atlas)) v.names j none d low) in
        let names : (get_or v.names i none).name < (get_or v.names j none).name = h.rising i j none less low in
        omega (arith, a, b, names)

    it : AreBooked v.recording.events (map (shown (state_of v.atlas)) v.names)
    it = record {
      list = counts;
      rising = rises;
      exact = All-map (λ (a : Allocation). IsExact a.rectangle) (shown (state_of v.atlas)) v.names (λ k d below. refl);
    }

-- A live box shows a rectangle that can be measured and isn't empty.
shown_area : (s : State) (o : Option Box) → s.size.width ≤ 2147483647 → s.size.height ≤ 2147483647 → IsSome o
    → IfSome (option_map rectangle_of o) (λ r. IsNonempty (box_of r) × IsWithin s.size (box_of r))
    → IsShownArea (rectangle_of (box_or_none o))
shown_area s (Some b) wide high some h = record { exact = refl; measurable = grind arith; nonempty = h.0 }
shown_area s None wide high some h = absurd (cc)

pub entries_show_areas : (v : SessionValue) → IsRecordedSession v → (state_of v.atlas).size.width ≤ 2147483647
    → (state_of v.atlas).size.height ≤ 2147483647
    → All (λ (a : Allocation). IsShownArea a.rectangle) (map (shown (state_of v.atlas)) v.names)
entries_show_areas v h wide high =
    All-map (λ (a : Allocation). IsShownArea a.rectangle) (shown (state_of v.atlas)) v.names
    (λ k d below. shown_area (state_of v.atlas) (live_box (state_of v.atlas) (get_or v.names k d).id) wide high
    (entries_have_boxes v h k d below)
    (all_lie_within (state_of v.atlas) (session_named v h).sound (get_or v.names k d).id))
