-- Lemmas by topic, for callers: `#[tactic(auto, using(guillotiere::proofs::Callers::pages))]` names one topic.
use Rattle.std.proofs.Common.{◌≡◌, ◌≢◌, ◌<◌, ◌≤◌, ◌++◌, ◌∷◌, [], ℕ, zero, suc, List, Option, Some, None, length}
use Rattle.std.proofs.Common.{get_or, slice_get, slice_set, refl, sym, ap, ◌∙◌, subst, subst₂, inl, inr, ◌==◌}
use Rattle.std.proofs.Common.{◌↔◌, ◌+◌, arith, Result, Ok, Err, IfOk, IfSome, IsSome, OnErr}
use Rattle.std.specs.Option.{option_and_then, option_map}
use Rattle.std.proofs.lemmas.Option.{get_or_from_slice_get, slice_get-get_or, slice_get_past}
use Rattle.std.proofs.lemmas.Bool.Decides.{eqb_tells}
use Rattle.std.specs.List.{find}
use Rattle.atlas_model.specs.Boxes.{Box}
use Rattle.atlas_model.specs.declared.allocation.Allocation.{Allocation}
use Rattle.atlas_model.specs.declared.error.AtlasError.{AtlasError}
use Rattle.atlas_model.specs.declared.geometry.Rectangle.{Rectangle}
use Rattle.atlas_model.specs.declared.geometry.Size.{Size}
use Rattle.atlas_model.specs.Pixels.{box_of, rectangle_of}
use Rattle.atlas_model.specs.States.{live_in, IsLive, State}
use Rattle.atlas_model.specs.Replies.{live_box, IsExact}
use Rattle.atlas_model.specs.Callers.{rectangle_in, AddsBox, LeavesNoBox, HasSameBoxes}
use Rattle.atlas_model.proofs.ListLemmas.CallerLemmas.{slice_get-set_here, slice_get-set_other, slice_set-read}
use Rattle.atlas_model.proofs.StepLemmas.LiveBoxes.{live_have_boxes}
use Rattle.atlas_model.proofs.StepLemmas.GivenBack.{grants_are_given_back, many_are_given_back}
use Rattle.atlas_store.specs.Stored.{AtlasValue, state_of}
use Rattle.guillotiere.specs.Pages.{rectangle_on, AddsBoxOn, HasRoomFor, NoneHasRoomBelow, HasSameRectangles, LeavesNoBoxOn, OthersHaveSame}
use Rattle.guillotiere.specs.Pages.{PagesAreGivenBack, KeepsPages}

-- What a look-up on one page reads.
abbrev on : Option AtlasValue → ℕ → Option Rectangle
on o id = option_and_then (λ s. rectangle_in (state_of s) id) o

-- One page of a list becomes b.
module _ (pages : List AtlasValue) (page : ℕ) (d b : AtlasValue) (within : page < length pages) where
  abbrev a : AtlasValue
  a = get_or pages page d

  abbrev now : List AtlasValue
  now = slice_set pages page b

  has_a : slice_get pages page ≡ Some a
  has_a = slice_get-get_or pages page d within

  has_b : slice_get now page ≡ Some b
  has_b = slice_get-set_here pages page b within

  was : (s : AtlasValue) → slice_get pages page ≡ Some s → a ≡ s
  was s has = let here = has_a in cc

  is : (t : AtlasValue) → slice_get now page ≡ Some t → b ≡ t
  is t has = let here = has_b in cc

  -- What other ids of this page have is what they had: so it is with each id but one of the list.
  others_same : (id : ℕ) → ((k : ℕ) → k ≢ id → rectangle_in (state_of b) k ≡ rectangle_in (state_of a) k)
      → OthersHaveSame pages now page id
  others_same id keeps k i differ = elim (eqb_tells k page) [
    | inl eq ↦ rw (eq.1, has_b, has_a) (keeps i (differ eq.1))
    | inr ne ↦ ap (λ o. on o i) (slice_get-set_other pages page k b ne.1)
  ]

  pub page_adds : (id : ℕ) (r : Rectangle) → IsExact r → AddsBox (state_of a) (state_of b) id (box_of r)
      → AddsBoxOn pages now page id r
  page_adds id r exact adds = record {
    adds = λ s t h k.
        subst₂ (λ (s t : AtlasValue). AddsBox (state_of s) (state_of t) id (box_of r)) (was s h) (is t k) adds;
    others = λ k differ. slice_get-set_other pages page k b differ;
    unused = rw (has_a, adds.unused) refl;
    here = rw (has_b, adds.here) (ap Some (sym exact));
    same = others_same id (λ k differ. elim (eqb_tells k id) [
      | inl eq ↦ absurd (differ eq.1)
      | inr ne ↦ ap (option_map rectangle_of) (adds.boxes k ∙ (rw ne.0 refl))
    ]);
  }

  pub page_leaves : (id : ℕ) → LeavesNoBox (state_of a) (state_of b) id → LeavesNoBoxOn pages now page id
  page_leaves id leaves = record {
    leaves = λ s t h k.
        subst₂ (λ (s t : AtlasValue). LeavesNoBox (state_of s) (state_of t) id) (was s h) (is t k) leaves;
    others = λ k differ. slice_get-set_other pages page k b differ;
    gone = rw (has_b, leaves.gone) refl;
    same = others_same id (λ k differ. ap (option_map rectangle_of) (leaves.others k differ));
  }

  -- What a request to the page is answered.
  pub page_answers : (r : Result (Option Allocation) AtlasError) → IfOk r (λ o. IfSome o (λ al. IsExact al.rectangle))
      → IfOk r (λ o. IfSome o (λ al. AddsBox (state_of a) (state_of b) al.id (box_of al.rectangle)))
      → IfOk r (λ o. IfSome o (λ al. AddsBoxOn pages now page al.id al.rectangle))
  page_answers (Ok (Some al)) exact adds = page_adds al.id al.rectangle exact adds
  page_answers (Ok None) exact adds = tt
  page_answers (Err error) exact adds = tt

  pub page_stays : b ≡ a → now ≡ pages
  page_stays same = slice_set-read pages page b (same ∙ sym (get_or_from_slice_get pages page a b has_a)) within

  pub page_stays_if_refused : {T : Type 0} (r : Result T AtlasError) → OnErr r (b ≡ a) → OnErr r (now ≡ pages)
  page_stays_if_refused (Ok x) same = tt
  page_stays_if_refused (Err error) same = page_stays same

  pub page_reads : (P : AtlasValue → Type 0) → ((s : AtlasValue) → slice_get pages page ≡ Some s → P s) → P a
  page_reads P each = each a has_a

  pub page_goes : (R : AtlasValue → AtlasValue → Type 0) → R a b → (s t : AtlasValue) → slice_get pages page ≡ Some s
      → slice_get now page ≡ Some t → R s t
  page_goes R holds s t h k = subst₂ R (was s h) (is t k) holds

  pub page_is : (P : AtlasValue → Type 0) → P a → (s : AtlasValue) → slice_get pages page ≡ Some s → P s
  page_is P holds s has = subst P (was s has) holds

  -- An id is live on the page exactly if it has a rectangle there.
  pub page_lives : (id : ℕ) → IsLive (state_of a) id ↔ IsSome (rectangle_on pages page id)
  page_lives id = rw has_a (by_box (live_box (state_of a) id) (live_have_boxes (state_of a) id))
    where
      by_box : (o : Option Box) → (IsLive (state_of a) id ↔ IsSome o)
          → IsLive (state_of a) id ↔ IsSome (option_map rectangle_of o)
      by_box None both = both
      by_box (Some x) both = both

  -- No id of the page loses its box.
  pub page_keeps : HasSameBoxes (state_of a) (state_of b) → HasSameRectangles pages now
  page_keeps same k i = elim (eqb_tells k page) [
    | inl eq ↦ rw (eq.1, has_b, has_a) (ap (option_map rectangle_of) (same i))
    | inr ne ↦ ap (λ o. on o i) (slice_get-set_other pages page k b ne.1)
  ]

-- Going through pages: where one has no room, none up to it has.
pub one_more : (request : Size) (pages : List AtlasValue) (n : ℕ) (d : AtlasValue) → n < length pages
    → (HasRoomFor request (get_or pages n d) → ⊥) → NoneHasRoomBelow request pages n
    → NoneHasRoomBelow request pages (n + 1)
one_more request pages n d within none before k s below has room = elim (eqb_tells k n) [
  | inl eq ↦
      let here : get_or pages n d ≡ s = get_or_from_slice_get pages n s d (subst (λ m. slice_get pages m ≡ Some s) eq.1 has) in
      none (subst (HasRoomFor request) (sym here) room)
  | inr ne ↦ before k s (omega (arith, below, ne.1)) has room
]

-- A page in which nothing is live comes last.
pub page_added : (pages : List AtlasValue) (a : AtlasValue) → live_in (state_of a) ≡ []
    → HasSameRectangles pages (pages ++ a ∷ [])
page_added [] a idle zero i = rw idle refl
page_added [] a idle (suc k) i = refl
page_added (p ∷ pages) a idle zero i = refl
page_added (p ∷ pages) a idle (suc k) i = page_added pages a idle k i

-- A grant on a page that is freed leaves no trace.
pub pages_given_back : PagesAreGivenBack
pages_given_back old mid new page id r adds leaves k i = elim (eqb_tells k page) [
  | inl page ↦ elim (eqb_tells i id) [
    | inl id ↦ rw (page.1, id.1) (leaves.gone ∙ sym adds.unused)
    | inr other ↦ leaves.same k i (λ e. other.1) ∙ adds.same k i (λ e. other.1)
  ]
  | inr other ↦ leaves.same k i (λ e. absurd (other.1 e)) ∙ adds.same k i (λ e. absurd (other.1 e))
]

-- On a page that isn't there no id has a rectangle.
pub no_rectangle_off : (pages : List AtlasValue) (page id : ℕ) → length pages ≤ page → rectangle_on pages page id ≡ None
no_rectangle_off pages page id past = let none = slice_get_past pages page past in rw none refl

-- Nor has one a box there that could leave, and nothing changes.
pub leaves_off_pages : (pages : List AtlasValue) (page id : ℕ) → length pages ≤ page → LeavesNoBoxOn pages pages page id
leaves_off_pages pages page id past = record {
  leaves = λ s t was is. absurd (let some : None ≡ Some s = sym (slice_get_past pages page past) ∙ was in cc);
  others = λ k other. refl;
  gone = no_rectangle_off pages page id past;
  same = λ k i other. refl;
}

-- A page comes last: the others stay.
pub others_stay : (pages : List AtlasValue) (b : AtlasValue) → KeepsPages pages (pages ++ b ∷ []) (length pages)
others_stay [] b zero other = absurd (other refl)
others_stay [] b (suc k) other = refl
others_stay (p ∷ pages) b zero other = refl
others_stay (p ∷ pages) b (suc k) other = others_stay pages b k (λ same. other (omega (arith, same)))

pub last_there : {X : Type 0} (xs : List X) (x : X) → slice_get (xs ++ x ∷ []) (length xs) ≡ Some x
last_there [] x = refl
last_there (y ∷ xs) x = last_there xs x

-- Where the same is live, each id has the box that it had.
pub same_boxes : (s t : State) → live_in t ≡ live_in s → HasSameBoxes s t
same_boxes s t live id = ap (λ gs. option_map (λ g. g.box) (find (λ g. g.id == id) gs)) live

-- Several atlases in a list: what it has once one of them was changed.
pub ruleset pages = (slice_get-set_here, slice_get-set_other, slice_set-read)

-- What is granted and then freed.
pub ruleset given_back = (grants_are_given_back, many_are_given_back)
