-- How a replay begins, goes on and ends.
use Rattle.std.proofs.Common.{◌≡◌, ℕ, suc, drop, remove, ap₂, ◌+◌, ◌<◌, ◌≤◌, ◌==◌, ◌⊎◌, inl, inr, false, List, [], ◌∷◌, ◌++◌, length, map}
use Rattle.std.proofs.Common.{take, get_or, refl, ap, sym, subst, ◌∙◌, zero-add, arith, All, AllPairs, Contains, Option, Some, None, IsSome}
use Rattle.std.proofs.Common.{option_map, slice_get, cond}
use Rattle.std.specs.List.{count_by, AllByRecursion}
use Rattle.std.specs.List.Sorted.{IsStrictlySortedBy}
use Rattle.std.specs.declared.cmp.Ordering.TheVariants.{Less}
use Rattle.std.specs.Ordering.{nat_cmp, is_eq}
use Rattle.std.specs.Map.{lookup}
use Rattle.std.specs.BTreeMap.{get, is_at, IsOrdered}
use Rattle.std.proofs.lemmas.Bool.{eq-eqb, ne_eqb, false≢true, cases_eq}
use Rattle.std.proofs.lemmas.List.{get_or-map, length-map, take_more, take_all, take-map, drop-map}
use Rattle.std.proofs.lemmas.List.Elements.{All-map, All-contains}
use Rattle.std.proofs.lemmas.Map.Keys.{sorted_head, sorted_tail, below_from_sorted}
use Rattle.guillotiere.specs.declared.Rectangle.{Rectangle}
use Rattle.guillotiere.specs.declared.Size.{Size}
use Rattle.guillotiere.specs.declared.AllocatorOptions.{AllocatorOptions}
use Rattle.guillotiere.specs.declared.Allocation.{Allocation}
use Rattle.guillotiere.specs.Boxes.{Box, IsPositive}
use Rattle.guillotiere.specs.Choice.{AreValid}
use Rattle.guillotiere.specs.Pixels.{sides_of, options_of, rectangle_of}
use Rattle.guillotiere.specs.Trees.{Grant, grant}
use Rattle.guillotiere.specs.States.{State, IsLive, live_in, started}
use Rattle.guillotiere.specs.Renaming.{renamed_grant}
use Rattle.guillotiere.specs.Replies.{live_box, grant_of, IsExact}
use Rattle.guillotiere.specs.Laws.StepLaws.{live_count}
use Rattle.guillotiere.specs.Stored.{AtlasValue, state_of}
use Rattle.guillotiere.proofs.ListLemmas.CallerLemmas.{find-counted}
use Rattle.guillotiere.proofs.ListLemmas.ListCounts.{count_by-cons}
use Rattle.guillotiere.proofs.TreeLemmas.TreeBasics.{one_if}
use Rattle.guillotiere.proofs.TreeLemmas.TreeIds.{Contains-none}
use Rattle.guillotiere.proofs.StepLemmas.LiveBoxes.{live_counted, few_live}
use Rattle.guillotiere_recording.specs.declared.steps.EventFault.{EventFault}
use Rattle.guillotiere_recording.specs.declared.steps.EventFault.TheVariants as stop
use Rattle.guillotiere_recording.specs.declared.event.Event.{Event}
use Rattle.guillotiere_recording.specs.Events.{EventValue, event_of}
use Rattle.guillotiere_recording.specs.Logs.{RecordingValue}
use Rattle.guillotiere_recording.specs.Sessions.{Named, fresh_session}
use Rattle.guillotiere_recording.specs.Names.{box_or_none}
use Rattle.guillotiere_recording.specs.Books.{AreSameGrants, book}
use Rattle.guillotiere_recording.specs.Recordings.{LeadsTo, AreBooked}
use Rattle.guillotiere_recording.specs.Replays.{first_events, IsFaultOf, IsRecorded}
use Rattle.guillotiere_recording.specs.Standing.{Names, ShowsNamed, CarriesOut, IsStopped, fault_of, shown_entry}
use Rattle.guillotiere_recording.proofs.Books.{sessions_are_named, books_are_true, listed_is_live}
use Rattle.guillotiere_recording.proofs.Counts.{count_map, count_alike}
use Rattle.guillotiere_recording.proofs.ReplaySteps.{at_same, at_other}
use Rattle.guillotiere_recording.proofs.ShownBooks.{each_counts, box_of_live}
use Rattle.guillotiere_recording.proofs.RecordedSessions.{recorded_more}
use Rattle.guillotiere_recording.proofs.NameSteps.{area_of}

abbrev pub Entries : Type 0
Entries = List (ℕ × ℕ)

-- The map has the entry.
abbrev pub IsFound : Names → ℕ × ℕ → Type 0
IsFound names e = get nat_cmp names e.0 ≡ Some e.1

pub shown_by : (s : State) (said name id : ℕ) (area : Rectangle) → said ≡ name
    → option_map rectangle_of (live_box s id) ≡ Some area
    → record { id = said; rectangle = area } ≡ shown_entry s (name, id)
shown_by s said name id area same is =
    let shown : area ≡ rectangle_of (box_or_none (live_box s id)) = area_of (live_box s id) area is in
    ap (λ n. let a : Allocation = record { id = n; rectangle = area } in a) same
    ∙ ap (λ r. let a : Allocation = record { id = name; rectangle = r } in a) shown

-- Atlas and names show a state to which the first events lead.
abbrev pub StandsAt : RecordingValue → (i : ℕ) → AtlasValue → Names → Type 0
StandsAt r i a names = (s : Named) × LeadsTo (first_events i r) s × ShowsNamed a names s

nothing_found : (names : Names) (name id : ℕ) → names.entries ≡ [] → get nat_cmp names name ≡ Some id → ⊥
nothing_found names name id empty is =
    let none : None ≡ Some id = sym (ap (λ (es : Entries). lookup (is_at (nat_cmp name)) es) empty) ∙ is in
    absurd (cc)

pub begins : (r : RecordingValue) (a : AtlasValue) (names : Names) → IsPositive (sides_of r.size)
    → AreValid (options_of r.options)
    → state_of a ≡ started (sides_of r.size) (options_of r.options) 16777216 → names.entries ≡ [] → StandsAt r 0 a names
begins r a names nonempty valid is empty = (
  s,
  led,
  record {
    state = sym is;
    finds = λ name id. ((λ found. absurd (nothing_found names name id empty found)), λ (live, named). absurd (Contains-none id live));
    named = sessions_are_named (sides_of r.size) (options_of r.options) []
        (fresh_session (sides_of r.size) (options_of r.options) (λ id. id)) led;
  },
)
  where
    s : Named
    s = fresh_session (sides_of r.size) (options_of r.options) (λ id. id)

    led : LeadsTo (first_events 0 r) (fresh_session (sides_of r.size) (options_of r.options) (λ id. id))
    led = record { nonempty = nonempty; valid = valid; name = λ id. id; leads = refl }

pub goes_on : (r : RecordingValue) (i : ℕ) (event : EventValue) (a b : AtlasValue) (names left : Names)
    → i < length r.events
    → get_or r.events i event ≡ event → CarriesOut a names event b left → StandsAt r i a names
    → StandsAt r (i + 1) b left
goes_on r i event a b names left low here carried (s, led, shows) =
    let t = carried s shows in
    let more : LeadsTo (record r { events = take i r.events ++ event ∷ [] }) t.0 = recorded_more (first_events i r) event s t.0 led t.1 in
    let next : take (i + 1) r.events ≡ take i r.events ++ event ∷ [] =
    take_more r.events i event low ∙ ap (λ e. take i r.events ++ e ∷ []) here in
    (t.0, subst (λ es. LeadsTo (record r { events = es }) t.0) (sym next) more, t.2)

pub stops : (r : RecordingValue) (i : ℕ) (event : EventValue) (fault : EventFault) (a : AtlasValue) (names : Names)
    → slice_get r.events i ≡ Some event → IsStopped a names event fault → StandsAt r i a names
    → IsFaultOf r (fault_of fault i)
stops r i event stop.Memory a names here stopped stands = tt
stops r i event stop.Slots a names here stopped (s, led, shows) =
    (i, record { event = event; here = here; at = s; before = led; stops = stopped s shows })
stops r i event stop.Differs a names here stopped (s, led, shows) =
    record { event = event; here = here; at = s; before = led; stops = stopped s shows }
stops r i event stop.Bad a names here stopped (s, led, shows) =
    record { event = event; here = here; at = s; before = led; stops = stopped s shows }

-- What is shown has a box.
pub found_has_box : (a : AtlasValue) (names : Names) (s : Named) (name id : ℕ) → ShowsNamed a names s
    → get nat_cmp names name ≡ Some id
    → IsSome (live_box (state_of a) id)
found_has_box a names s name id h is =
    let live : IsLive s.state id = ((h.finds name id).0 is).0 in
    let some : 1 ≤ live_count id s.state = live_counted s.state id live in
    let it = find-counted (λ (g : Grant). g.id == id) (live_in s.state) some in
    subst (λ (t : State). IsSome (live_box t id)) h.state
    (subst (λ (o : Option Grant). IsSome (option_map (λ (g : Grant). g.box) o)) (sym it.1) refl)

-- How often a key stands among entries by rising key.

none_later : (k : ℕ) (ks : List ℕ) → AllByRecursion (λ y. nat_cmp k y ≡ Less) ks → count_by (λ x. x == k) ks ≡ 0
none_later k [] h = refl
none_later k (y ∷ ks) (less, rest) =
    let other : y ≡ k → ⊥ = λ same. false≢true (sym (ap is_eq less) ∙ at_same k y same) in
    let e = count_by-cons (λ x. x == k) y ks in
    let none : one_if (y == k) ≡ 0 = ap one_if (ne_eqb y k other) in
    let later = none_later k ks rest in
    omega (arith, e, none, later)

abbrev pub how_many : Option ℕ → ℕ
how_many None = 0
how_many (Some id) = 1

pub keys_counted : (es : Entries) → IsStrictlySortedBy nat_cmp (map (λ e. e.0) es) → (k : ℕ)
    → count_by (λ x. x == k) (map (λ e. e.0) es) ≡ how_many (lookup (is_at (nat_cmp k)) es)
keys_counted [] sorted k = refl
keys_counted (e ∷ es) sorted k =
    by_key (cases_eq e.0 k) (count_by-cons (λ x. x == k) e.0 (map (λ (e : ℕ × ℕ). e.0) es))
    (keys_counted es (sorted_tail nat_cmp e.0 (map (λ (e : ℕ × ℕ). e.0) es) sorted) k)
    (sorted_head nat_cmp e.0 (map (λ (e : ℕ × ℕ). e.0) es) sorted)
  where
    by_key : (e.0 ≡ k) ⊎ (e.0 ≡ k → ⊥)
        → count_by (λ x. x == k) (map (λ (e : ℕ × ℕ). e.0) (e ∷ es)) ≡ one_if (e.0 == k) + count_by (λ x. x == k)
        (map (λ (e : ℕ × ℕ). e.0) es)
        → count_by (λ x. x == k) (map (λ (e : ℕ × ℕ). e.0) es) ≡ how_many (lookup (is_at (nat_cmp k)) es)
        → AllByRecursion (λ y. nat_cmp e.0 y ≡ Less) (map (λ (e : ℕ × ℕ). e.0) es)
        → count_by (λ x. x == k) (map (λ (e : ℕ × ℕ). e.0) (e ∷ es)) ≡ how_many (lookup (is_at (nat_cmp k)) (e ∷ es))
    by_key (inl same) count later head =
        let one : one_if (e.0 == k) ≡ 1 = ap one_if (eq-eqb e.0 k same) in
        let none : count_by (λ x. x == k) (map (λ (e : ℕ × ℕ). e.0) es) ≡ 0 =
        subst (λ j. count_by (λ x. x == j) (map (λ (e : ℕ × ℕ). e.0) es) ≡ 0) same (none_later e.0 (map (λ (e : ℕ × ℕ). e.0) es) head) in
        let two : count_by (λ x. x == k) (map (λ (e : ℕ × ℕ). e.0) (e ∷ es)) ≡ 1 = omega (arith, count, one, none) in
        two ∙ sym (ap (λ b. how_many (cond b (Some e.1) (lookup (is_at (nat_cmp k)) es))) (at_same k e.0 same))
    by_key (inr other) count later head =
        let none : one_if (e.0 == k) ≡ 0 = ap one_if (ne_eqb e.0 k other) in
        let rest : count_by (λ x. x == k) (map (λ (e : ℕ × ℕ). e.0) (e ∷ es)) ≡ count_by (λ x. x == k) (map (λ (e : ℕ × ℕ). e.0) es) =
        omega (arith, count, none) in
        rest ∙ later ∙ sym (ap (λ b. how_many (cond b (Some e.1) (lookup (is_at (nat_cmp k)) es))) (at_other k e.0 other))

-- Names are counted alike among the entries and among what is live.
names_counted : (a : AtlasValue) (names : Names) (s : Named) → ShowsNamed a names s → (k : ℕ) (o : Option ℕ)
    → get nat_cmp names k ≡ o
    → count_by (λ x. x == k) (map (λ (g : Grant). s.name g.id) (live_in s.state)) ≡ how_many o
names_counted a names s h k (Some id) is =
    let has = (h.finds k id).0 is in
    let some = live_counted s.state id has.0 in
    let one = few_live s.state id h.named.sound in
    let mapped = count_map (λ (g : Grant). s.name g.id) (λ x. x == k) (live_in s.state) in
    let alike : count_by (λ (g : Grant). s.name g.id == k) (live_in s.state) ≡ live_count id s.state =
    count_alike (λ (g : Grant). s.name g.id == k) (λ (g : Grant). g.id == id) (live_in s.state) (λ g at. told has.0 has.1 g at) in
    omega (arith, some, one, mapped, alike)
  where
    told : IsLive s.state id → s.name id ≡ k → (g : Grant) → Contains (live_in s.state) g
        → (s.name g.id == k) ≡ (g.id == id)
    told live named g at = by_id (cases_eq g.id id)
      where
        by_id : (g.id ≡ id) ⊎ (g.id ≡ id → ⊥) → (s.name g.id == k) ≡ (g.id == id)
        by_id (inl same) = eq-eqb (s.name g.id) k (ap s.name same ∙ named) ∙ sym (eq-eqb g.id id same)
        by_id (inr other) =
            ne_eqb (s.name g.id) k (λ same. other (h.named.names g.id id (listed_is_live s.state g at) live (same ∙ sym named)))
            ∙ sym (ne_eqb g.id id other)
names_counted a names s h k None is =
    let mapped = count_map (λ (g : Grant). s.name g.id) (λ x. x == k) (live_in s.state) in
    let alike : count_by (λ (g : Grant). s.name g.id == k) (live_in s.state) ≡ count_by (λ (g : Grant). false) (live_in s.state) =
    count_alike (λ (g : Grant). s.name g.id == k) (λ (g : Grant). false) (live_in s.state) (λ g at. none g at) in
    mapped ∙ alike ∙ count_none (live_in s.state)
  where
    none : (g : Grant) → Contains (live_in s.state) g → (s.name g.id == k) ≡ false
    none g at = ne_eqb (s.name g.id) k (λ same.
        let found : get nat_cmp names k ≡ Some g.id = (h.finds k g.id).1 (listed_is_live s.state g at, same) in
        let no : None ≡ Some g.id = sym is ∙ found in
        absurd (cc))

    count_none : (gs : List Grant) → count_by (λ (g : Grant). false) gs ≡ 0
    count_none [] = refl
    count_none (g ∷ gs) = count_by-cons (λ (g : Grant). false) g gs ∙ zero-add _ ∙ count_none gs

abbrev boxed : State → Option ℕ → Option Box
boxed s None = None
boxed s (Some id) = live_box s id

-- What is gathered at the end is the book.
pub gathered_book : (r : RecordingValue) (a : AtlasValue) (names : Names) (s : Named) (found : List Allocation)
    → LeadsTo r s
    → ShowsNamed a names s → IsOrdered nat_cmp names → All (IsFound names) names.entries
    → found ≡ map (shown_entry (state_of a)) names.entries → AreBooked r.events found
gathered_book r a names s found led h ordered all is =
    subst (AreBooked r.events) (sym (is ∙ ap (λ t. map (shown_entry t) names.entries) (sym h.state))) it
  where
    counts : AreSameGrants (map grant_of (map (shown_entry s.state) names.entries)) (book r.events)
    counts p =
        count_map grant_of p (map (shown_entry s.state) names.entries)
        ∙ count_map (shown_entry s.state) (λ x. p (grant_of x)) names.entries
        ∙ count_alike (λ e. p (grant_of (shown_entry s.state e))) (λ e. p (grant e.0 (box_or_none (boxed s.state (get nat_cmp names e.0)))))
        names.entries
        (λ e at. ap (λ o. p (grant e.0 (box_or_none (boxed s.state o)))) (sym (All-contains (IsFound names) names.entries e all at)))
        ∙ sym (count_map (λ (e : ℕ × ℕ). e.0) (λ n. p (grant n (box_or_none (boxed s.state (get nat_cmp names n))))) names.entries)
        ∙ each_counts (map (λ (e : ℕ × ℕ). e.0) names.entries) (map (λ (g : Grant). s.name g.id) (live_in s.state))
        (λ k. keys_counted names.entries ordered k ∙ sym (names_counted a names s h k (get nat_cmp names k) refl))
        (λ n. p (grant n (box_or_none (boxed s.state (get nat_cmp names n)))))
        ∙ count_map (λ (g : Grant). s.name g.id) (λ n. p (grant n (box_or_none (boxed s.state (get nat_cmp names n))))) (live_in s.state)
        ∙ count_alike (λ (g : Grant). p (grant (s.name g.id) (box_or_none (boxed s.state (get nat_cmp names (s.name g.id))))))
        (λ (g : Grant). p (renamed_grant s.name g)) (live_in s.state)
        (λ g at. ap (λ b. p (grant (s.name g.id) b))
        (ap (λ o. box_or_none (boxed s.state o)) ((h.finds (s.name g.id) g.id).1 (listed_is_live s.state g at, refl))
        ∙ box_of_live s.state g h.named.sound at))
        ∙ sym (count_map (renamed_grant s.name) p (live_in s.state))
        ∙ sym (books_are_true (sides_of r.size) (options_of r.options) r.events s led p)

    rises : AllPairs (λ (x y : Allocation). x.id < y.id) (map (shown_entry s.state) names.entries)
    rises i j d less below =
        let none : ℕ × ℕ = (0, 0) in
        let low : j < length names.entries = subst (λ n. j < n) (length-map names.entries (shown_entry s.state)) below in
        let x = ap (λ (x : Allocation). x.id) (get_or-map (shown_entry s.state) names.entries i none d (omega (arith, low, less))) in
        let y = ap (λ (x : Allocation). x.id) (get_or-map (shown_entry s.state) names.entries j none d low) in
        let k = get_or-map (λ (e : ℕ × ℕ). e.0) names.entries i none 0 (omega (arith, low, less)) in
        let l = get_or-map (λ (e : ℕ × ℕ). e.0) names.entries j none 0 low in
        let most : j < length (map (λ (e : ℕ × ℕ). e.0) names.entries) = subst (λ n. j < n)
        (sym (length-map names.entries (λ (e : ℕ × ℕ). e.0))) low in
        let order = below_from_sorted (map (λ (e : ℕ × ℕ). e.0) names.entries) i j 0 ordered less most in
        omega (arith, x, y, k, l, order)

    it : AreBooked r.events (map (shown_entry s.state) names.entries)
    it = record {
      list = counts;
      rising = rises;
      exact = All-map (λ (x : Allocation). IsExact x.rectangle) (shown_entry s.state) names.entries (λ k d below. refl);
    }

-- The end.
pub ends : (r : RecordingValue) (i : ℕ) (a : AtlasValue) (names : Names) (found : List Allocation) → length r.events ≤ i
    → StandsAt r i a names → IsOrdered nat_cmp names → All (IsFound names) names.entries
    → found ≡ map (shown_entry (state_of a)) names.entries → IsRecorded r × AreBooked r.events found
ends r i a names found whole (s, led, shows) ordered all is =
    let all_led : LeadsTo r s = subst (λ es. LeadsTo (record r { events = es }) s) (take_all i r.events whole) led in
    ((s, all_led), gathered_book r a names s found all_led shows ordered all is)

-- An event less.

map_append : {X Y : Type 0} (f : X → Y) (xs ys : List X) → map f (xs ++ ys) ≡ map f xs ++ map f ys
map_append f [] ys = refl
map_append f (x ∷ xs) ys = ap (λ zs. f x ∷ zs) (map_append f xs ys)

pub without_event : {A : Type 0} (size : Size) (options : AllocatorOptions) (items left : List (Event A)) (at : ℕ)
    (v : RecordingValue)
    → left ≡ remove items at → record { size = size; options = options; events = map event_of items } ≡ v
    → record { size = size; options = options; events = map event_of left } ≡ record v { events = remove v.events at }
without_event size options items left at v is whole =
    let less : map event_of left ≡ remove (map event_of items) at =
    ap (map event_of) is ∙ map_append event_of (take at items) (drop (suc at) items)
    ∙ ap₂ (λ xs ys. xs ++ ys) (sym (take-map event_of at items)) (sym (drop-map event_of (suc at) items)) in
    ap (λ es. let r : RecordingValue = record { size = size; options = options; events = es } in r) less
    ∙ ap (λ (r : RecordingValue). record r { events = remove r.events at }) whole
