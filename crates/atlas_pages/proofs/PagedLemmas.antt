-- Pages of which one changes, one comes last, or the last ones go.
use Rattle.std.proofs.Common.{◌≡◌, ◌≢◌, ◌<◌, ◌≤◌, ◌+◌, ◌++◌, ◌∷◌, ◌∙◌, [], ℕ, zero, suc, List, Option, Some, None, Ok, Err, length}
use Rattle.std.proofs.Common.{Result, IfErr, OnErr, OnOk, get_or, slice_get, slice_set, take}
use Rattle.std.proofs.Common.{refl, sym, ap, subst, arith, inl, inr, length-append}
use Rattle.std.specs.Prelude.{max, IfOk, IfSome}
use Rattle.std.specs.Option.{option_and_then}
use Rattle.std.proofs.lemmas.Bool.Decides.{eqb_tells}
use Rattle.std.proofs.lemmas.Option.{slice_get-get_or, slice_get_cases, slice_get_within}
use Rattle.std.proofs.lemmas.List.{with_items_is}
use Rattle.std.proofs.Math.Seq.{map-set_same}
use Rattle.std.specs.Prelude.{Vec}
use Rattle.std.specs.Vec.{with_items}
use Rattle.guillotiere.specs.declared.Allocation.{Allocation}
use Rattle.guillotiere.specs.declared.AtlasError.{AtlasError}
use Rattle.guillotiere.specs.declared.AtlasError.TheVariants.{Memory, NotLive, Slots}
use Rattle.guillotiere.specs.declared.Rectangle.{Rectangle}
use Rattle.guillotiere.specs.declared.Size.{Size}
use Rattle.guillotiere.specs.Boxes.{Fits}
use Rattle.guillotiere.specs.Callers.{rectangle_in, AddsBox, HasFrame, IsGranted, IsShortage, KeepsAll, KeepsFrame}
use Rattle.guillotiere.specs.Pages.{page_sizes, rectangle_on, size_of_page, AddsBoxOn, HasSameRectangles, IsAnswerOn}
use Rattle.guillotiere.specs.Pages.{NoneHasRoomBelow}
use Rattle.guillotiere.specs.Pixels.{box_of, options_of, sides_of, size_of}
use Rattle.guillotiere.specs.Choice.{HasNoRoom}
use Rattle.guillotiere.specs.Replies.{allocate_reply, done_reply}
use Rattle.guillotiere.specs.States.{State, free_in, live_in}
use Rattle.guillotiere.specs.Trees.{grant}
use Rattle.guillotiere.specs.Steps.{AtlasCall, AtlasReply, Step}
use Rattle.guillotiere.specs.Steps.AtlasCall.{Allocate, Clear, Deallocate, Grow}
use Rattle.guillotiere.specs.Steps.AtlasReply.{Allocated, Done, Refused}
use Rattle.guillotiere.specs.Stored.{AtlasValue, state_of}
use Rattle.guillotiere.proofs.Callers.{page_added, page_adds, page_goes, page_keeps, page_stays, same_boxes, others_stay, last_there}
use Rattle.guillotiere.proofs.ListLemmas.CallerLemmas.{slice_get-set_here, slice_get-set_other}
use Rattle.atlas_pages.specs.Paged.{empty_page, AreIdleAmong, GrowsOn, IsFirstOn, IsGrantedOn}
use Rattle.atlas_pages.specs.Paged.{IsGrowthFault, IsGrowthFaultIn, IsIdle, IsLastBusy}
use Rattle.atlas_pages.specs.declared.error.PagesError.{PagesError}
use Rattle.atlas_pages.specs.declared.error.PagesError.TheVariants as fault
use Rattle.atlas_pages.specs.Paged.{AreSpent, IsNewFault, IsRefusedOn, JoinsPage, PagedState, StepsAt, StepsOn, state_at, state_on, told}
use Rattle.atlas_pages.specs.declared.paged.PageAllocation.{PageAllocation}

-- One page of a list, a, becomes b.
module _ (pages : List AtlasValue) (page : ℕ) (d b : AtlasValue) (within : page < length pages) where
  abbrev a : AtlasValue
  a = get_or pages page d

  pub page_grows : (r : Result (Unit {0}) PagesError) (size : Size) → KeepsAll (state_of a) (state_of b)
      → OnOk r (HasFrame (state_of b) (sides_of size) (state_of a).options (state_of a).limit)
      → OnOk r (GrowsOn pages (slice_set pages page b) page size)
  page_grows (Err e) size keeps frame = tt
  page_grows (Ok x) size keeps frame = record {
    there =
        page_goes pages page d b within
        (λ s t. KeepsAll (state_of s) (state_of t)
        × HasFrame (state_of t) (sides_of size) (state_of s).options (state_of s).limit) (keeps, frame);
    others = λ k other. slice_get-set_other pages page k b other;
    same = page_keeps pages page d b within (same_boxes (state_of a) (state_of b) keeps.live);
  }

  pub growth_steps : (r : Result (Unit {0}) PagesError) (size : Size)
      → OnOk r (Step (state_of a) (Grow (sides_of size)) Done (state_of b))
      → OnOk r (StepsAt pages (slice_set pages page b) page (Grow (sides_of size)) Done)
  growth_steps (Err e) size step = tt
  growth_steps (Ok x) size step = λ empty.
      rw (slice_get-get_or pages page d within, slice_get-set_here pages page b within) step

  pub growth_refused : (r : Result (Unit {0}) PagesError) → OnErr r (b ≡ a) → OnErr r (slice_set pages page b ≡ pages)
  growth_refused (Ok x) same = tt
  growth_refused (Err e) same = page_stays pages page d b within same

  pub page_steps : (call : AtlasCall) (reply : AtlasReply) → Step (state_of a) call reply (state_of b)
      → StepsAt pages (slice_set pages page b) page call reply
  page_steps call reply step empty =
      rw (slice_get-get_or pages page d within, slice_get-set_here pages page b within) step

  pub size_kept : KeepsFrame (state_of a) (state_of b) → page_sizes (slice_set pages page b) ≡ page_sizes pages
  size_kept frame = map-set_same size_of_page pages page b d (ap size_of frame.size)

  -- A page is cleared, after others.
  pub one_more_clears : (before : List AtlasValue) → Step (state_of a) Clear Done (state_of b)
      → ((k : ℕ) → k < page → StepsAt before pages k Clear Done)
      → ((k : ℕ) → page ≤ k → slice_get pages k ≡ slice_get before k)
      → (k : ℕ) → k < page + 1 → StepsAt before (slice_set pages page b) k Clear Done
  one_more_clears before step each rest k below empty = elim (eqb_tells k page) [
    | inl here ↦
        rw (here.1, sym (rest page (omega arith)), slice_get-get_or pages page d within, slice_get-set_here pages page b within)
        step
    | inr other ↦ rw (slice_get-set_other pages page k b other.1) (each k (omega (arith, below, other.1)) empty)
  ]

  pub later_stay : (before : List AtlasValue) → ((k : ℕ) → page ≤ k → slice_get pages k ≡ slice_get before k)
      → (k : ℕ) → page + 1 ≤ k → slice_get (slice_set pages page b) k ≡ slice_get before k
  later_stay before rest k least =
      slice_get-set_other pages page k b (λ same. absurd (omega (arith, same, least))) ∙ rest k (omega (arith, least))

  -- A page to which nothing is granted any more, after others.
  pub one_more_cleared : IsIdle b → AreIdleAmong pages 0 page → AreIdleAmong (slice_set pages page b) 0 (page + 1)
  one_more_cleared idle before k s least below there = elim (eqb_tells k page) [
    | inl here ↦
        let this = rw (here.1, slice_get-set_here pages page b within) at there in
        let same : b ≡ s = cc in
        subst IsIdle same idle
    | inr other ↦ before k s least (omega (arith, below, other.1)) (sym (slice_get-set_other pages page k b other.1) ∙ there)
  ]

-- A page that is read.
module _ (pages : List AtlasValue) (page : ℕ) (d : AtlasValue) (within : page < length pages) where
  abbrev read : AtlasValue
  read = get_or pages page d

  there_is : slice_get pages page ≡ Some read
  there_is = slice_get-get_or pages page d within

  is_read : (s : AtlasValue) → slice_get pages page ≡ Some s → read ≡ s
  is_read s there = let known = there_is in cc

  pub growth_fault : (r : Result (Unit {0}) PagesError) (size : Size) → IfErr r (IsGrowthFaultIn read size)
      → IfErr r (IsGrowthFault pages page size)
  growth_fault (Ok x) size why = tt
  growth_fault (Err fault.NoPage) size why = absurd why
  growth_fault (Err fault.EmptySize) size why = absurd why
  growth_fault (Err fault.Alignment) size why = absurd why
  growth_fault (Err fault.Thresholds) size why = absurd why
  growth_fault (Err fault.Shrinks) size why =
      (within, λ s there. subst (λ (v : AtlasValue). Fits (state_of v).size (sides_of size) → ⊥) (is_read s there) why)
  growth_fault (Err (fault.Refused e)) size why = (
    within,
    λ s there.
        subst (λ (v : AtlasValue). Step (state_of v) (Grow (sides_of size)) (Refused e) (state_of v)) (is_read s there) why,
  )

  pub one_more_idle : (n : ℕ) → IsIdle read → AreIdleAmong pages n page → AreIdleAmong pages n (page + 1)
  one_more_idle n idle before k s least below there = elim (eqb_tells k page) [
    | inl here ↦
        let this = rw here.1 at there in
        let same : read ≡ s = (let known = there_is in cc) in
        subst IsIdle same idle
    | inr other ↦ before k s least (omega (arith, below, other.1)) there
  ]

  pub last_busy : (IsIdle read → ⊥) → IsLastBusy pages (page + 1)
  last_busy busy k s number there idle =
      let here : k ≡ page = omega (arith, number) in
      let this = rw here at there in
      let same : s ≡ read = (let known = there_is in cc) in
      busy (subst IsIdle same idle)

-- What a slice of a list was made into is what the list has.
module _ {Z : Type 0} (v : Vec AtlasValue Z) (seen new : List AtlasValue) (value : seen ≡ v.items) (same : length new ≡ length seen)
  where
    items_are : (with_items v new).items ≡ new
    items_are = with_items_is v new (same ∙ ap length value ∙ sym v.ok.0)

    pub written : (P : List AtlasValue → List AtlasValue → Type 0) → P seen new → P v.items (with_items v new).items
    written P holds = subst (P v.items) (sym items_are) (subst (λ l. P l new) value holds)

-- What a page answers.
module _ (request : Size) (s : PagedState) (page : ℕ) (within : page < length s.pages) where
  page_there : (v : AtlasValue) × (slice_get s.pages page ≡ Some v)
  page_there = elim (slice_get_cases s.pages page).1 [
    | inl found ↦ (found.0, found.2)
    | inr past ↦ let beyond = past.0 in absurd (omega (arith, within))
  ]

  pub is_short : (e : AtlasError) → IsAnswerOn s.pages page request (Err e) → IsShortage e
  is_short e answer = (answer page_there.0 page_there.1).0

  pub is_granted : (a : Allocation) → IsAnswerOn s.pages page request (Ok (Some a)) → IsGrantedOn s request page a.rectangle
  is_granted a answer = rw page_there.1 (answer page_there.0 page_there.1)

-- Pages, and what comes behind the last one.
past_last : {X : Type 0} (xs : List X) → slice_get xs (length xs) ≡ None
past_last [] = refl
past_last (x ∷ xs) = past_last xs

set_last : (pages : List AtlasValue) (a b : AtlasValue) → slice_set (pages ++ a ∷ []) (length pages) b ≡ pages ++ b ∷ []
set_last [] a b = refl
set_last (p ∷ pages) a b = ap (λ l. p ∷ l) (set_last pages a b)

get_last : (pages : List AtlasValue) (a : AtlasValue) → get_or (pages ++ a ∷ []) (length pages) a ≡ a
get_last [] a = refl
get_last (p ∷ pages) a = get_last pages a

within_last : (pages : List AtlasValue) (a : AtlasValue) → length pages < length (pages ++ a ∷ [])
within_last pages a = omega (arith, length-append pages (a ∷ []))

no_last : (pages : List AtlasValue) (s : AtlasValue) {X : Type 0} → slice_get pages (length pages) ≡ Some s → X
no_last pages s there = absurd (let some : None ≡ Some s = sym (past_last pages) ∙ there in cc)

-- A page with one box on it comes last.
pub page_joins : (s : PagedState) (b : AtlasValue) (id : ℕ) (r : Rectangle) → IsFirstOn (empty_page s) b id r
    → AddsBoxOn s.pages (s.pages ++ b ∷ []) (length s.pages) id r
page_joins s b id r first =
    let pages = s.pages in
    let a = first.was in
    let idle : live_in (state_of a) ≡ [] = ap live_in first.state in
    let mid =
    page_adds (pages ++ a ∷ []) (length pages) a b (within_last pages a) id r first.exact
    (subst (λ (v : AtlasValue). AddsBox (state_of v) (state_of b) id (box_of r)) (sym (get_last pages a)) first.adds) in
    let here = subst (λ l. AddsBoxOn (pages ++ a ∷ []) l (length pages) id r) (set_last pages a b) mid in
    record {
      adds = λ v t h k. no_last pages v h;
      others = others_stay pages b;
      unused = ap (λ o. option_and_then (λ (v : AtlasValue). rectangle_in (state_of v) id) o) (past_last pages);
      here = here.here;
      same = λ k i differ. here.same k i differ ∙ page_added pages a idle k i;
    }

-- What is granted on a page that comes last.
pub is_granted_last : (request : Size) (s : PagedState) (r : Rectangle) → IsGranted (empty_page s) request r
    → IsGrantedOn s request (length s.pages) r
is_granted_last request s r granted = rw (past_last s.pages) granted

-- A page that comes last makes its first step.
pub steps_last : (s : PagedState) (b : AtlasValue) (call : AtlasCall) (reply : AtlasReply)
    → Step (empty_page s) call reply (state_of b)
    → StepsOn s (record s { pages = s.pages ++ b ∷ [] }) (length s.pages) call reply
steps_last s b call reply step = rw (past_last s.pages, last_there s.pages b) step

state_last : (s : PagedState) → state_on s (length s.pages) ≡ empty_page s
state_last s = rw (past_last s.pages) refl

-- A page isn't added: its atlas, or memory, is refused.
pub refused_last : (request : Size) (s : PagedState) (e : AtlasError) → NoneHasRoomBelow request s.pages (length s.pages)
    → length s.pages < s.most → IsNewFault (empty_page s) request e → IsRefusedOn request s e
refused_last request s e none few fault = record {
  page = length s.pages;
  few = few;
  number = omega arith;
  first = none;
  why = elim fault [
    | inl step ↦
        inl (subst (λ (t : State). Step t (Allocate (sides_of request)) (Refused e) t) (sym (state_last s)) step)
    | inr memory ↦ inr (refl, memory)
  ];
}

-- A page that has room refuses.
pub refused_there : (request : Size) (s : PagedState) (page : ℕ) (e : AtlasError) → NoneHasRoomBelow request s.pages page
    → page < length s.pages → length s.pages ≤ s.most → StepsOn s s page (Allocate (sides_of request)) (Refused e)
    → IsRefusedOn request s e
refused_there request s page e none within few step = record {
  page = page;
  few = omega (arith, within, few);
  number = omega (arith, within);
  first = none;
  why = inl step;
}

-- Pages from the nth on with nothing on them go.
pub pages_go : (pages : List AtlasValue) (n : ℕ) → ((k : ℕ) (s : AtlasValue) → n ≤ k → slice_get pages k ≡ Some s → IsIdle s)
    → HasSameRectangles pages (take n pages)
pages_go [] zero idle k i = refl
pages_go [] (suc n) idle k i = refl
pages_go (p ∷ pages) zero idle zero i = let none = idle 0 p (omega arith) refl in rw none refl
pages_go (p ∷ pages) zero idle (suc k) i = pages_go pages zero (λ j s l h. idle (suc j) s (omega arith) h) k i
pages_go (p ∷ pages) (suc n) idle zero i = refl
pages_go (p ∷ pages) (suc n) idle (suc k) i = pages_go pages n (λ j s l h. idle (suc j) s (omega (arith, l)) h) k i

pub idle_go : (pages : List AtlasValue) (n : ℕ) → AreIdleAmong pages n (length pages) → HasSameRectangles pages (take n pages)
idle_go pages n idle = pages_go pages n (λ k s least there. idle k s least (slice_get_within pages k s there) there)

-- On pages with nothing on them no id has a rectangle.
pub nothing_on : (pages : List AtlasValue) → AreIdleAmong pages 0 (length pages) → (page id : ℕ) → rectangle_on pages page id ≡ None
nothing_on pages idle page id = elim (slice_get_cases pages page).1 [
  | inl found ↦
      let none = idle page found.0 (omega arith) found.1 found.2 in
      rw (found.2, none) refl
  | inr past ↦ rw past.1 refl
]

-- A request to a page, and what is told of it.
abbrev Answer : Type 0
Answer = Result (Option Allocation) AtlasError

-- Where a page has no room, and none before it, none up to it has.
pub none_more : (request : Size) (pages : List AtlasValue) (page : ℕ) → NoneHasRoomBelow request pages page
    → IsAnswerOn pages page request (Ok None) → NoneHasRoomBelow request pages (page + 1)
none_more request pages page none answer k s below there room = elim (eqb_tells k page) [
  | inl here ↦ answer s (subst (λ n. slice_get pages n ≡ Some s) here.1 there) room
  | inr other ↦ none k s (omega (arith, below, other.1)) there room
]

-- What holds of what is granted.
abbrev OnGrant : Result (Option PageAllocation) AtlasError → (PageAllocation → Type 0) → Type 0
OnGrant r P = IfOk r (λ granted. IfSome granted P)

-- The first page that doesn't answer None.
module _ (s : PagedState) (new : List AtlasValue) (request : Size) (page : ℕ) (within : page < length s.pages) where
  abbrev changed : PagedState
  changed = record s { pages = new }

  abbrev Call : AtlasCall
  Call = Allocate (sides_of request)

  pub there_step : (r : Answer) → StepsAt s.pages new page Call (allocate_reply r)
      → OnGrant (told page r) (λ a. StepsOn s changed a.page Call (Allocated (grant a.id (box_of a.rectangle))))
  there_step (Ok (Some a)) step = step (empty_page s)
  there_step (Ok None) step = tt
  there_step (Err e) step = tt

  pub there_adds : (r : Answer) → IfOk r (λ granted. IfSome granted (λ a. AddsBoxOn s.pages new page a.id a.rectangle))
      → OnGrant (told page r) (λ a. AddsBoxOn s.pages new a.page a.id a.rectangle)
  there_adds (Ok (Some a)) adds = adds
  there_adds (Ok None) adds = tt
  there_adds (Err e) adds = tt

  pub there_granted : (r : Answer) → IsAnswerOn s.pages page request r
      → OnGrant (told page r) (λ a. IsGrantedOn s request a.page a.rectangle)
  there_granted (Ok (Some a)) answer = is_granted request s page within a answer
  there_granted (Ok None) answer = tt
  there_granted (Err e) answer = tt

  pub there_first : (r : Answer) → NoneHasRoomBelow request s.pages page
      → OnGrant (told page r) (λ a. NoneHasRoomBelow request s.pages a.page)
  there_first (Ok (Some a)) none = none
  there_first (Ok None) none = tt
  there_first (Err e) none = tt

  pub there_count : (r : Answer) → length new ≡ length s.pages
      → OnGrant (told page r) (λ a. length new ≡ max (length s.pages) (a.page + 1))
  there_count (Ok (Some a)) same = omega (arith, same, within)
  there_count (Ok None) same = tt
  there_count (Err e) same = tt

  pub there_some : (r : Answer) → r ≢ Ok None → told page r ≡ Ok None → ⊥
  there_some (Ok (Some a)) some same = cc
  there_some (Ok None) some same = some refl
  there_some (Err e) some same = cc

  pub there_refused : (r : Answer) → OnErr r (new ≡ s.pages) → OnErr (told page r) (changed ≡ s)
  there_refused (Ok (Some a)) same = tt
  there_refused (Ok None) same = tt
  there_refused (Err e) same = ap (λ (l : List AtlasValue). record s { pages = l }) same

  pub there_errors : (r : Answer) → IsAnswerOn s.pages page request r → IfErr (told page r) IsShortage
  there_errors (Ok (Some a)) answer = tt
  there_errors (Ok None) answer = tt
  there_errors (Err e) answer = is_short request s page within e answer

  pub there_fault : (r : Answer) → NoneHasRoomBelow request s.pages page → length s.pages ≤ s.most
      → OnErr r (new ≡ s.pages) → StepsAt s.pages new page Call (allocate_reply r)
      → IfErr (told page r) (IsRefusedOn request s)
  there_fault (Ok (Some a)) none few same step = tt
  there_fault (Ok None) none few same step = tt
  there_fault (Err e) none few same step =
      refused_there request s page e none within few
      (subst (λ (l : List AtlasValue). Step (state_on s page) Call (Refused e) (state_at (empty_page s) (slice_get l page))) same
      (step (empty_page s)))

-- A request to a page that comes last, where no other has room.
module _ (s : PagedState) (new : List AtlasValue) (request : Size) where
  abbrev grown : PagedState
  grown = record s { pages = new }

  abbrev Joins : Answer → Type 0
  Joins r = IfOk r (λ granted. IfSome granted (λ a. JoinsPage (empty_page s) s.pages new request a))

  pub anew_step : (r : Answer) → Joins r
      → OnGrant (told (length s.pages) r)
      (λ a. StepsOn s grown a.page (Allocate (sides_of request)) (Allocated (grant a.id (box_of a.rectangle))))
  anew_step (Ok (Some a)) joins =
      subst
      (λ (l : List AtlasValue). StepsOn s (record s { pages = l }) (length s.pages) (Allocate (sides_of request))
      (Allocated (grant a.id (box_of a.rectangle))))
      (sym joins.pages)
      (steps_last s joins.page (Allocate (sides_of request)) (Allocated (grant a.id (box_of a.rectangle))) joins.step)
  anew_step (Ok None) joins = tt
  anew_step (Err e) joins = tt

  pub anew_adds : (r : Answer) → Joins r
      → OnGrant (told (length s.pages) r) (λ a. AddsBoxOn s.pages new a.page a.id a.rectangle)
  anew_adds (Ok (Some a)) joins =
      subst (λ (l : List AtlasValue). AddsBoxOn s.pages l (length s.pages) a.id a.rectangle) (sym joins.pages)
      (page_joins s joins.page a.id a.rectangle joins.first)
  anew_adds (Ok None) joins = tt
  anew_adds (Err e) joins = tt

  pub anew_granted : (r : Answer) → Joins r
      → OnGrant (told (length s.pages) r) (λ a. IsGrantedOn s request a.page a.rectangle)
  anew_granted (Ok (Some a)) joins = is_granted_last request s a.rectangle joins.granted
  anew_granted (Ok None) joins = tt
  anew_granted (Err e) joins = tt

  pub anew_first : (r : Answer) → NoneHasRoomBelow request s.pages (length s.pages)
      → OnGrant (told (length s.pages) r) (λ a. NoneHasRoomBelow request s.pages a.page)
  anew_first (Ok (Some a)) none = none
  anew_first (Ok None) none = tt
  anew_first (Err e) none = tt

  one_more_page : (a : Allocation) → JoinsPage (empty_page s) s.pages new request a → length new ≡ length s.pages + 1
  one_more_page a joins = omega (arith, ap length joins.pages, length-append s.pages (joins.page ∷ []))

  pub anew_count : (r : Answer) → Joins r
      → OnGrant (told (length s.pages) r) (λ a. length new ≡ max (length s.pages) (a.page + 1))
  anew_count (Ok (Some a)) joins = let more = one_more_page a joins in omega (arith, more)
  anew_count (Ok None) joins = tt
  anew_count (Err e) joins = tt

  pub anew_few : (r : Answer) → Joins r → (r ≡ Ok None → new ≡ s.pages) → OnErr r (new ≡ s.pages)
      → length s.pages < s.most → length new ≤ s.most
  anew_few (Ok (Some a)) joins none refused few = let more = one_more_page a joins in omega (arith, more, few)
  anew_few (Ok None) joins none refused few = let same = ap length (none refl) in omega (arith, same, few)
  anew_few (Err e) joins none refused few = let same = ap length refused in omega (arith, same, few)

  pub anew_spent : (r : Answer) → NoneHasRoomBelow request s.pages (length s.pages)
      → (r ≡ Ok None → HasNoRoom (free_in (empty_page s)) (options_of s.options) (sides_of request))
      → told (length s.pages) r ≡ Ok None → AreSpent request s
  anew_spent (Ok (Some a)) none room same = absurd cc
  anew_spent (Ok None) none room same = record { none = none; full = inr (room refl) }
  anew_spent (Err e) none room same = absurd cc

  pub anew_none : (r : Answer) → (r ≡ Ok None → new ≡ s.pages) → told (length s.pages) r ≡ Ok None → grown ≡ s
  anew_none (Ok (Some a)) stays same = absurd cc
  anew_none (Ok None) stays same = ap (λ (l : List AtlasValue). record s { pages = l }) (stays refl)
  anew_none (Err e) stays same = absurd cc

  pub anew_refused : (r : Answer) → OnErr r (new ≡ s.pages) → OnErr (told (length s.pages) r) (grown ≡ s)
  anew_refused (Ok (Some a)) same = tt
  anew_refused (Ok None) same = tt
  anew_refused (Err e) same = ap (λ (l : List AtlasValue). record s { pages = l }) same

  pub anew_fault : (r : Answer) → NoneHasRoomBelow request s.pages (length s.pages) → length s.pages < s.most
      → IfErr r (IsNewFault (empty_page s) request) → IfErr (told (length s.pages) r) (IsRefusedOn request s)
  anew_fault (Ok (Some a)) none few fault = tt
  anew_fault (Ok None) none few fault = tt
  anew_fault (Err e) none few fault = refused_last request s e none few fault

  pub anew_errors : (r : Answer) → IfErr r (IsNewFault (empty_page s) request)
      → IfErr (told (length s.pages) r) IsShortage
  anew_errors (Ok (Some a)) fault = tt
  anew_errors (Ok None) fault = tt
  anew_errors (Err Memory) fault = inl refl
  anew_errors (Err Slots) fault = inr refl
  anew_errors (Err NotLive) fault = elim fault [
    | inl step ↦ absurd step
    | inr memory ↦ absurd cc
  ]

-- A call of one page, and what it makes of all.
module _ (s : PagedState) (new : List AtlasValue) (page : ℕ) where
  pub freeing_steps : (id : ℕ) (r : Result (Unit {0}) AtlasError) → StepsAt s.pages new page (Deallocate id) (done_reply r)
      → OnOk r (StepsOn s (record s { pages = new }) page (Deallocate id) Done)
  freeing_steps id (Ok x) step = step (empty_page s)
  freeing_steps id (Err e) step = tt

  pub growing_steps : (size : Size) (r : Result (Unit {0}) PagesError)
      → OnOk r (StepsAt s.pages new page (Grow (sides_of size)) Done)
      → OnOk r (StepsOn s (record s { pages = new }) page (Grow (sides_of size)) Done)
  growing_steps size (Ok x) step = step (empty_page s)
  growing_steps size (Err e) step = tt

  pub growth_changes_nothing : (r : Result (Unit {0}) PagesError) → OnErr r (new ≡ s.pages)
      → OnErr r (record s { pages = new } ≡ s)
  growth_changes_nothing (Ok x) same = tt
  growth_changes_nothing (Err e) same = ap (λ (l : List AtlasValue). record s { pages = l }) same

pub holds_on_ok : (r : Result (Unit {0}) PagesError) (P : Type 0) → P → OnOk r P
holds_on_ok (Ok x) P holds = holds
holds_on_ok (Err e) P holds = tt
