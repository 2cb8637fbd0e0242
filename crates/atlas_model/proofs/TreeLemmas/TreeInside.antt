-- A free box needs only those freed whose boxes lie inside it.
use Rattle.std.proofs.Common.{◌≡◌, ℕ, ◌+◌, ◌<◌, Bool, true, false, not, cond, ◌||◌, List, [], ◌∷◌, ◌++◌, refl, ap, ap₂, subst, sym}
use Rattle.std.proofs.Common.{◌∙◌, arith, inl, inr, ◌⊎◌, Contains}
use Rattle.std.proofs.lemmas.Bool.{true≢false, false≢true, eqb-true, cases_lt}
use Rattle.std.proofs.lemmas.List.Elements.{All-contains, Contains-append_left, Contains-append_right}
use Rattle.atlas_model.specs.Boxes.{Axis, Position, Sides, Box, other, side, sized, moved, box_at, origin, IsInside}
use Rattle.atlas_model.specs.Boxes.{IsNonempty, IsWithin, covers}
use Rattle.atlas_model.specs.Changes.{only, free_before, seq_before, nf, mark, release}
use Rattle.atlas_model.specs.Laws.RoomLaws.{RoomComesFromInside, FreeingMakesOneBox, OneFreeBoxAround}
use Rattle.atlas_model.specs.Trees.{Grant, Members, Tree, total, begins_free, is_idle, IsCut, IsNormal, IsWellFormed}
use Rattle.atlas_model.specs.Trees.{grant, live, free_boxes}
use Rattle.atlas_model.specs.Trees.Members.{End, Free, Alloc, Seq}
use Rattle.atlas_model.proofs.TreeLemmas.TreeBasics.{moved-twice, turned, live_among, free_among, live_among-seq, free_among-seq}
use Rattle.atlas_model.proofs.TreeLemmas.TreeIds.{Contains-first, Contains-later, Contains-none, Contains-cons_cases}
use Rattle.atlas_model.proofs.ListLemmas.CallerLemmas.{Contains-filter}
use Rattle.atlas_model.proofs.ListLemmas.ListCounts.{counted_once}
use Rattle.atlas_model.proofs.TreeLemmas.BoxLists.{free_in_place, free_once}
use Rattle.atlas_model.proofs.TreeLemmas.TreeKept.{release_well_formed, release_normal}
use Rattle.atlas_model.proofs.TreeLemmas.TreeLive.{live_release}
use Rattle.atlas_model.proofs.TreeLemmas.TreeNormal.{nf-normal, release-like, release-release}
use Rattle.atlas_model.proofs.TreeLemmas.TreeRoom.{inside_trans, inside_first, inside_second}

-- f is among these, by recursion.
abbrev pub Among : Box → List Box → Type 0
Among f [] = ⊥
Among f (c ∷ cs) = (c ≡ f) ⊎ Among f cs

-- No leaf of an id of the set has a box inside f.
abbrev pub NoneInside : (ℕ → Bool) → Box → Axis → Position → (across : ℕ) → Members → Type 0
NoneInside s f axis o across End = Unit {0}
NoneInside s f axis o across (Free e rest) = NoneInside s f axis (moved axis o e) across rest
NoneInside s f axis o across (Alloc id e rest) =
    (s id ≡ true → IsInside (box_at o (sized axis e across)) f → ⊥) × NoneInside s f axis (moved axis o e) across rest
NoneInside s f axis o across (Seq e inner rest) =
    NoneInside s f (other axis) o e inner × NoneInside s f axis (moved axis o e) across rest

inside_itself : (b : Box) → IsInside b b
inside_itself b = (omega arith, omega arith, omega arith, omega arith)

module _ (s : ℕ → Bool) (f : Box) where
  -- Members that lie inside f have no leaf of the set.
  mark-none_inside : (axis : Axis) (o : Position) (across : ℕ) (m : Members) → IsCut across m
      → NoneInside s f axis o across m → IsInside (box_at o (sized axis (total m) across)) f → mark s m ≡ m
  mark-none_inside axis o across End cut none within = refl
  mark-none_inside axis o across (Free e rest) cut none within =
      ap (Free e) (mark-none_inside axis (moved axis o e) across rest cut.1 none
      (inside_trans _ _ f (inside_second axis o e (total rest) across) within))
  mark-none_inside axis o across (Alloc id e rest) cut none within =
      by_test (s id) refl
      (mark-none_inside axis (moved axis o e) across rest cut.1 none.1
      (inside_trans _ _ f (inside_second axis o e (total rest) across) within))
    where
      by_test : (b : Bool) → s id ≡ b → mark s rest ≡ rest
          → cond b (Free e (mark s rest)) (Alloc id e (mark s rest)) ≡ Alloc id e rest
      by_test true is same = absurd (none.0 is (inside_trans _ _ f (inside_first axis o e (total rest) across) within))
      by_test false is same = ap (Alloc id e) same
  mark-none_inside axis o across (Seq e inner rest) cut none within =
      ap₂ (Seq e)
      (mark-none_inside (other axis) o e inner cut.2 none.0
      (subst (λ b. IsInside b f) (sym (ap (λ k. box_at o (sized (other axis) k e)) cut.1 ∙ turned axis o e across))
      (inside_trans _ _ f (inside_first axis o e (total rest) across) within)))
      (mark-none_inside axis (moved axis o e) across rest cut.3 none.1
      (inside_trans _ _ f (inside_second axis o e (total rest) across) within))

  -- A sequence that becomes one free member inside f had none but free members.
  busy : (axis : Axis) (o : Position) (across e j : ℕ) (inner : Members) → IsCut across (Seq e inner End)
      → IsNormal (Seq e inner End) → NoneInside s f axis o across (Seq e inner End)
      → IsInside (box_at o (sized axis e across)) f → nf (mark s inner) ≡ Free j End → ⊥
  busy axis o across e j inner cut normal none within one =
      true≢false (sym (ap is_idle (sym (nf-normal inner normal.1) ∙ ap nf (sym same) ∙ one)) ∙ normal.0)
    where
      same : mark s inner ≡ inner
      same = mark-none_inside (other axis) o e inner cut.2 none.0
          (subst (λ b. IsInside b f) (sym (ap (λ k. box_at o (sized (other axis) k e)) cut.1 ∙ turned axis o e across)) within)

  -- What a free extent before members makes of its box.
  longer : (axis : Axis) (o : Position) (across e k : ℕ) (m r : Members) → free_before e m ≡ Free k r
      → IsInside (box_at o (sized axis k across)) f → IsInside (box_at o (sized axis e across)) f
  longer axis o across e k (Free j rest) r is within =
      inside_trans _ _ f (inside_first axis o e j across)
      (subst (λ i. IsInside (box_at o (sized axis i across)) f) (sym (extent (e + j) k rest r is)) within)
    where
      extent : (i k : ℕ) (m r : Members) → Free i m ≡ Free k r → i ≡ k
      extent i k m r is = cc
  longer axis o across e k m r is within =
      subst (λ i. IsInside (box_at o (sized axis i across)) f) (sym (extent e k m r is)) within
    where
      extent : (i k : ℕ) (m r : Members) → Free i m ≡ Free k r → i ≡ k
      extent i k m r is = cc

  -- Normal members whose first isn't free don't begin with a free one inside f afterwards.
  first_stays : (axis : Axis) (o : Position) (across k : ℕ) (m r : Members) → IsCut across m → IsNormal m
      → NoneInside s f axis o across m → begins_free m ≡ false → nf (mark s m) ≡ Free k r
      → IsInside (box_at o (sized axis k across)) f → ⊥
  first_stays axis o across k End r cut normal none first is within = false≢true (ap begins_free is)
  first_stays axis o across k (Free e rest) r cut normal none first is within = true≢false first
  first_stays axis o across k (Alloc id e rest) r cut normal none first is within = by_test (s id) refl is
    where
      by_test : (b : Bool) → s id ≡ b → nf (cond b (Free e (mark s rest)) (Alloc id e (mark s rest))) ≡ Free k r → ⊥
      by_test true chosen is = none.0 chosen (longer axis o across e k (nf (mark s rest)) r is within)
      by_test false unchosen is = false≢true (ap begins_free is)
  first_stays axis o across k (Seq e inner rest) r cut normal none first is within = by_inner (nf (mark s inner)) refl is
    where
      by_inner : (x : Members) → nf (mark s inner) ≡ x → seq_before e x (nf (mark s rest)) ≡ Free k r → ⊥
      by_inner (Free j End) one is =
          busy axis o across e j inner (cut.0, cut.1, cut.2, tt) (normal.0, normal.1, tt) (none.0, tt)
          (longer axis o across e k (nf (mark s rest)) r is within) one
      by_inner x one is = false≢true (ap begins_free is)

  -- Where f is among what a free extent makes with members: it is the first, joined with the next or alone, or a later one.
  abbrev Joins : Axis → Position → (across e : ℕ) → Members → Type 0
  Joins axis o across e m =
      ((k : ℕ) × (r : Members) × (m ≡ Free k r) × (box_at o (sized axis (e + k) across) ≡ f))
      ⊎ ((box_at o (sized axis e across) ≡ f) ⊎ Among f (free_among axis (moved axis o e) across m))

  among-free_before : (axis : Axis) (o : Position) (across e : ℕ) (m : Members)
      → Among f (free_among axis o across (free_before e m)) → Joins axis o across e m
  among-free_before axis o across e (Free k r) (inl h) = inl (k, r, refl, h)
  among-free_before axis o across e (Free k r) (inr h) =
      inr (inr (inr (subst (λ p. Among f (free_among axis p across r)) (sym (moved-twice axis o e k)) h)))
  among-free_before axis o across e End (inl h) = inr (inl h)
  among-free_before axis o across e End (inr h) = inr (inr h)
  among-free_before axis o across e (Alloc id k r) (inl h) = inr (inl h)
  among-free_before axis o across e (Alloc id k r) (inr h) = inr (inr h)
  among-free_before axis o across e (Seq k inner r) (inl h) = inr (inl h)
  among-free_before axis o across e (Seq k inner r) (inr h) = inr (inr h)

  among_cases : (bs cs : List Box) → Among f (bs ++ cs) → Among f bs ⊎ Among f cs
  among_cases [] cs h = inr h
  among_cases (b ∷ bs) cs (inl h) = inl (inl h)
  among_cases (b ∷ bs) cs (inr h) = grind (arith, among_cases bs cs h)

  among_left : (bs cs : List Box) → Among f bs → Among f (bs ++ cs)
  among_left [] cs h = absurd h
  among_left (b ∷ bs) cs (inl h) = inl h
  among_left (b ∷ bs) cs (inr h) = inr (among_left bs cs h)

  among_right : (bs cs : List Box) → Among f cs → Among f (bs ++ cs)
  among_right [] cs h = h
  among_right (b ∷ bs) cs h = inr (among_right bs cs h)

  -- Where f is free after a free extent whose box doesn't lie inside f, it is free behind it.
  joined_later : (axis : Axis) (o : Position) (across e : ℕ) (m : Members)
      → (IsInside (box_at o (sized axis e across)) f → ⊥) → Among f (free_among axis o across (free_before e m))
      → Among f (free_among axis (moved axis o e) across m)
  joined_later axis o across e m outside h = by_cases (among-free_before axis o across e m h)
    where
      by_cases : Joins axis o across e m → Among f (free_among axis (moved axis o e) across m)
      by_cases (inl (k, r, is, eq)) = absurd (outside (subst (IsInside (box_at o (sized axis e across))) eq
          (inside_first axis o e k across)))
      by_cases (inr (inl eq)) = absurd (outside (subst (IsInside (box_at o (sized axis e across))) eq (inside_itself _)))
      by_cases (inr (inr later)) = later

  still_free : (axis : Axis) (o : Position) (across : ℕ) (m : Members) → IsCut across m → IsNormal m
      → NoneInside s f axis o across m → Among f (free_among axis o across (nf (mark s m)))
      → Among f (free_among axis o across m)
  still_free axis o across End cut normal none h = h
  still_free axis o across (Free e rest) cut normal none h =
      by_cases (among-free_before axis o across e (nf (mark s rest)) h)
      (still_free axis (moved axis o e) across rest cut.1 normal.1 none)
    where
      by_cases : Joins axis o across e (nf (mark s rest))
          → (Among f (free_among axis (moved axis o e) across (nf (mark s rest))) → Among f (free_among axis (moved axis o e) across rest))
          → (box_at o (sized axis e across) ≡ f) ⊎ Among f (free_among axis (moved axis o e) across rest)
      by_cases (inl (k, r, is, eq)) later =
          absurd (first_stays axis (moved axis o e) across k rest r cut.1 normal.1 none normal.0 is
          (subst (IsInside (box_at (moved axis o e) (sized axis k across))) eq (inside_second axis o e k across)))
      by_cases (inr (inl eq)) later = inl eq
      by_cases (inr (inr h)) later = inr (later h)
  still_free axis o across (Alloc id e rest) cut normal none h =
      by_test (s id) refl h (still_free axis (moved axis o e) across rest cut.1 normal none.1)
    where
      by_test : (b : Bool) → s id ≡ b
          → Among f (free_among axis o across (nf (cond b (Free e (mark s rest)) (Alloc id e (mark s rest)))))
          → (Among f (free_among axis (moved axis o e) across (nf (mark s rest))) → Among f (free_among axis (moved axis o e) across rest))
          → Among f (free_among axis (moved axis o e) across rest)
      by_test true chosen h later = later (joined_later axis o across e (nf (mark s rest)) (none.0 chosen) h)
      by_test false unchosen h later = later h
  still_free axis o across (Seq e inner rest) cut normal none h =
      subst (Among f) (sym (free_among-seq axis o across e inner rest))
      (by_inner (nf (mark s inner)) refl h (still_free (other axis) o e inner cut.2 normal.1 none.0)
      (still_free axis (moved axis o e) across rest cut.3 normal.2 none.1))
    where
      by_inner : (x : Members) → nf (mark s inner) ≡ x → Among f (free_among axis o across (seq_before e x (nf (mark s rest))))
          → (Among f (free_among (other axis) o e (nf (mark s inner))) → Among f (free_among (other axis) o e inner))
          → (Among f (free_among axis (moved axis o e) across (nf (mark s rest))) → Among f (free_among axis (moved axis o e) across rest))
          → Among f (free_among (other axis) o e inner ++ free_among axis (moved axis o e) across rest)
      by_inner (Free j End) one h within later =
          among_right (free_among (other axis) o e inner) (free_among axis (moved axis o e) across rest)
          (later (joined_later axis o across e (nf (mark s rest))
          (λ i. busy axis o across e j inner (cut.0, cut.1, cut.2, tt) (normal.0, normal.1, tt) (none.0, tt) i one) h))
      by_inner x one h within later =
          both (among_cases (free_among (other axis) o e x) (free_among axis (moved axis o e) across (nf (mark s rest)))
          (subst (Among f) (free_among-seq axis o across e x (nf (mark s rest))) h))
        where
          both : Among f (free_among (other axis) o e x) ⊎ Among f (free_among axis (moved axis o e) across (nf (mark s rest)))
              → Among f (free_among (other axis) o e inner ++ free_among axis (moved axis o e) across rest)
          both (inl h) = among_left _ _ (within (subst (λ y. Among f (free_among (other axis) o e y)) (sym one) h))
          both (inr h) = among_right (free_among (other axis) o e inner) _ (later h)

  none_inside : (axis : Axis) (o : Position) (across : ℕ) (m : Members)
      → ((g : Grant) → Contains (live_among axis o across m) g → s g.id ≡ true → IsInside g.box f → ⊥)
      → NoneInside s f axis o across m
  none_inside axis o across End none = tt
  none_inside axis o across (Free e rest) none = none_inside axis (moved axis o e) across rest none
  none_inside axis o across (Alloc id e rest) none = (
    none (grant id (box_at o (sized axis e across))) (Contains-first _ (live_among axis (moved axis o e) across rest)),
    none_inside axis (moved axis o e) across rest (λ g at. none g (Contains-later _ _ g at)),
  )
  none_inside axis o across (Seq e inner rest) none = (
    none_inside (other axis) o e inner (λ g at. none g (subst (λ gs. Contains gs g) (sym (live_among-seq axis o across e inner rest))
        (Contains-append_left (live_among (other axis) o e inner) (live_among axis (moved axis o e) across rest) g at))),
    none_inside axis (moved axis o e) across rest (λ g at. none g (subst (λ gs. Contains gs g)
        (sym (live_among-seq axis o across e inner rest))
        (Contains-append_right (live_among (other axis) o e inner) (live_among axis (moved axis o e) across rest) g at))),
  )

  among_from : (bs : List Box) → Contains bs f → Among f bs
  among_from [] at = Contains-none f at
  among_from (b ∷ bs) at = grind (arith, among_from bs, Contains-cons_cases)

  contains_from : (bs : List Box) → Among f bs → Contains bs f
  contains_from [] h = absurd h
  contains_from (b ∷ bs) (inl e) = subst (Contains (b ∷ bs)) e (Contains-first b bs)
  contains_from (b ∷ bs) (inr h) = Contains-later b bs f (contains_from bs h)

  -- A free box of a freeing in a normal tree is free before it, if no box that is freed lies inside.
  pub was_free : (size : Sides) (t : Tree) → IsWellFormed size t → IsNormal t.members
      → ((g : Grant) → Contains (live size t) g → s g.id ≡ true → IsInside g.box f → ⊥)
      → Contains (free_boxes size (release s t)) f → Contains (free_boxes size t) f
  was_free size t well normal none at =
      contains_from (free_boxes size t)
      (still_free t.axis origin (side (other t.axis) size) t.members well.cut normal
      (none_inside t.axis origin (side (other t.axis) size) t.members none) (among_from (free_boxes size (release s t)) at))

-- A part of a set freed first changes nothing of what the set leaves.
pub release-part : (set part : ℕ → Bool) (t : Tree) → ((id : ℕ) → part id ≡ true → set id ≡ true)
    → release set (release part t) ≡ release set t
release-part set part t of_set =
    release-release set part t
    ∙ release-like (λ k. part k || set k) set t (λ k. joined (part k) (set k) (of_set k))
  where
    joined : (p q : Bool) → (p ≡ true → q ≡ true) → (p || q) ≡ q
    joined true q h = sym (h refl)
    joined false q h = refl

pub room_comes_from_inside : RoomComesFromInside
room_comes_from_inside size t set part f well those at =
    was_free set f size (release part t) (release_well_formed size part t well) (release_normal size part t well) none
    (subst (λ u. Contains (free_boxes size u) f) (sym (release-part set part t those.of_set)) at)
  where
    none : (g : Grant) → Contains (live size (release part t)) g → set g.id ≡ true → IsInside g.box f → ⊥
    none g in_part chosen within =
        let kept = Contains-filter (λ (k : Grant). not (part k.id)) (live size t) g
        (subst (λ gs. Contains gs g) (live_release size part t) in_part) in
        let there : part g.id ≡ true =
        All-contains (λ (k : Grant). set k.id ≡ true → IsInside k.box f → part k.id ≡ true) (live size t) g those.inside kept.0 chosen
        within in
        true≢false (sym kept.1 ∙ ap not there)

inside_or_not : (b f : Box) → IsInside b f ⊎ (IsInside b f → ⊥)
inside_or_not b f =
    elim (cases_lt b.min.x f.min.x) [
      | inl left ↦ inr (λ h. absurd (omega (arith, left, h.0)))
      | inr x ↦ elim (cases_lt b.min.y f.min.y) [
        | inl above ↦ inr (λ h. absurd (omega (arith, above, h.1)))
        | inr y ↦ elim (cases_lt f.max.x b.max.x) [
          | inl right ↦ inr (λ h. absurd (omega (arith, right, h.2)))
          | inr x' ↦ elim (cases_lt f.max.y b.max.y) [
            | inl below ↦ inr (λ h. absurd (omega (arith, below, h.3)))
            | inr y' ↦ inl (x, y, x', y')
          ]
        ]
      ]
    ]

-- A grant of the list with this id and a box inside f, or none.
owned_inside : (id : ℕ) (f : Box) (gs : List Grant)
    → ((b : Box) × Contains gs (grant id b) × IsInside b f)
    ⊎ ((g : Grant) → Contains gs g → only id g.id ≡ true → IsInside g.box f → ⊥)
owned_inside id f [] = inr (λ g at. absurd (Contains-none g at))
owned_inside id f (h ∷ hs) = by_test (only id h.id) refl (inside_or_not h.box f) (owned_inside id f hs)
  where
    by_test : (p : Bool) → only id h.id ≡ p → IsInside h.box f ⊎ (IsInside h.box f → ⊥)
        → ((b : Box) × Contains hs (grant id b) × IsInside b f)
        ⊎ ((g : Grant) → Contains hs g → only id g.id ≡ true → IsInside g.box f → ⊥)
        → ((b : Box) × Contains (h ∷ hs) (grant id b) × IsInside b f)
        ⊎ ((g : Grant) → Contains (h ∷ hs) g → only id g.id ≡ true → IsInside g.box f → ⊥)
    by_test p is here (inl (b, at, within)) = inl (b, Contains-later h hs (grant id b) at, within)
    by_test true is (inl within) (inr none) =
        inl (h.box, subst (λ k. Contains (h ∷ hs) (grant k h.box)) (eqb-true h.id id is) (Contains-first h hs), within)
    by_test true is (inr outside) (inr none) = inr (λ g at chosen within. elim (Contains-cons_cases h hs g at) [
      | inl same ↦ outside (subst (λ (k : Grant). IsInside k.box f) (sym same) within)
      | inr later ↦ none g later chosen within
    ])
    by_test false is here (inr none) = inr (λ g at chosen within. elim (Contains-cons_cases h hs g at) [
      | inl same ↦ false≢true (sym is ∙ ap (λ (k : Grant). only id k.id) same ∙ chosen)
      | inr later ↦ none g later chosen within
    ])

pub freeing_makes_one_box : FreeingMakesOneBox
freeing_makes_one_box size t set id f well at = by_owner (owned_inside id f (live size (release set t)))
  where
    by_owner :
        ((b : Box) × Contains (live size (release set t)) (grant id b) × IsInside b f)
        ⊎ ((g : Grant) → Contains (live size (release set t)) g → only id g.id ≡ true → IsInside g.box f → ⊥)
        → Contains (free_boxes size (release set t)) f ⊎ ((b : Box) × Contains (live size t) (grant id b) × IsInside b f)
    by_owner (inl (b, held, within)) =
        inr (
          b,
          (Contains-filter (λ (k : Grant). not (set k.id)) (live size t) (grant id b)
              (subst (λ gs. Contains gs (grant id b)) (live_release size set t) held)).0,
          within,
        )
    by_owner (inr none) =
        inl (was_free (only id) f size (release set t) (release_well_formed size set t well) (release_normal size set t well) none
        (subst (λ u. Contains (free_boxes size u) f) (sym (release-release (only id) set t)) at))

pub one_free_box_around : OneFreeBoxAround
one_free_box_around size t b f g well some at_f at_g in_f in_g = counted_once (covers b.min.x b.min.y) (free_boxes size t) f g
    (free_once size t well b.min.x b.min.y inside.0 inside.1) at_f at_g (covered in_f) (covered in_g)
  where
    covered : {c : Box} → IsInside b c → covers b.min.x b.min.y c ≡ true
    covered {c} within = grind arith

    inside : (b.min.x < size.width) × (b.min.y < size.height)
    inside =
        let place : IsNonempty f × IsWithin size f =
        All-contains (λ k. IsNonempty k × IsWithin size k) (free_boxes size t) f (free_in_place size t well) at_f in
        (omega (arith, some.0, in_f.2, place.1.0), omega (arith, some.1, in_f.3, place.1.1))
