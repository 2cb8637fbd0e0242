-- Groups that are asked for one after another, whether the sheet takes them as well.
use Rattle.std.proofs.Common.{◌≡◌, ◌≢◌, ◌==◌, ◌||◌, ◌+◌, ◌<◌, ◌≤◌, ◌⊎◌, ℕ, zero, suc, Bool, true, false, inl, inr, List, [], ◌∷◌, length}
use Rattle.std.proofs.Common.{replicate, take, get_or, All, Option, Some, None, refl, ap, sym, subst, ◌∙◌, arith}
use Rattle.std.specs.List.{AllZip, slice_get}
use Rattle.std.proofs.lemmas.Bool.{cases_eq, eq-eqb, eqb-true, false≢true, or_left, or_right}
use Rattle.std.proofs.lemmas.List.Elements.{All-nil}
use Rattle.std.proofs.lemmas.Option.{get_or_from_slice_get}
use Rattle.guillotiere.specs.declared.Size.{Size}
use Rattle.guillotiere.specs.Boxes.{Sides}
use Rattle.atlas_sheet.specs.declared.options.SheetOptions.{SheetOptions}
use Rattle.atlas_sheet.specs.Allowances.{IsGreatest, pixels}
use Rattle.atlas_sheet.specs.Grouping.{AreGroupsThere, AreTooMany, HasMember, IsFirstGroup, IsLeftOut, IsSlotIn, chosen_row, members}
use Rattle.atlas_sheet.specs.Grouping.{picked, pixels_together, with_one}
use Rattle.atlas_sheet.proofs.GroupTakes.{Not, chosen_some, first_before, member_here, member_still, none_more, pixels_with, slot_members}
use Rattle.atlas_sheet.proofs.TooMany.{too_many_pixels}

-- What is known of a group that was asked for.
abbrev pub IsSettled : SheetOptions → List Size → List (Option ℕ) → (first : ℕ) → (ℕ → Bool) → ℕ → Type 0
IsSettled o sprites groups first there g = (there g ≡ true) ⊎ IsLeftOut o sprites groups first there g

-- There are so many pixels at most beside the sprites that are chosen.
abbrev pub HasRoom : SheetOptions → List Size → (row : List Bool) → (room : ℕ) → Type 0
HasRoom o sprites row room =
    (sheet : Sides) × IsGreatest o.allowed sheet × (pixels sheet ≤ room + pixels_together (picked row sprites))

-- Why a group isn't tried: it was asked for, it is there, or it has more pixels than there is room for.
abbrev pub IsShut : (slot : Option ℕ) (asked : List Bool) (chosen : Bool) (pixels_in : List ℕ) (room : ℕ) → Type 0
IsShut slot asked chosen pixels_in room =
    ((s : ℕ) × (slot ≡ Some s) × (slice_get asked s ≡ Some true))
    ⊎ (chosen ≡ true) ⊎ ((s : ℕ) × (slot ≡ Some s) × (room < get_or pixels_in s 0))

-- Whose slot was asked for afterwards.
abbrev pub IsMarked : (slot : Option ℕ) (asked new : List Bool) (s : ℕ) → Type 0
IsMarked slot asked new s = slice_get new s ≡ Some true → (slice_get asked s ≡ Some true) ⊎ (slot ≡ Some s)

-- The groups of the first k sprites were asked for.
pub record AreAskedTo (o : SheetOptions) (sprites : List Size) (groups slots : List (Option ℕ)) (k : ℕ) (asked row : List Bool) (room : ℕ)
    : Type 0 where
  pub first : ℕ
  pub is_first : IsFirstGroup first groups
  pub sorted : List ℕ
  pub are_slots : AllZip (IsSlotIn sorted) groups slots
  pub there : ℕ → Bool
  pub row_is : row ≡ chosen_row there 0 groups
  pub opened : there first ≡ true
  pub seen : (n : ℕ) → there n ≡ true → (n ≡ first) ⊎ HasMember n (take k groups)
  pub known : (g : ℕ) → All (Not g) (take k groups) ⊎ IsSettled o sprites groups first there g
  pub were_asked : (s g : ℕ) → slice_get asked s ≡ Some true → slice_get sorted s ≡ Some g → HasMember g (take k groups)
  pub has_room : HasRoom o sprites row room

bare_false : (n s : ℕ) → get_or (replicate n false) s false ≡ false
bare_false zero s = refl
bare_false (suc n) zero = refl
bare_false (suc n) (suc s) = bare_false n s

-- Of none the slot was asked for at first.
pub none_asked : (n : ℕ) (asked : List Bool) → asked ≡ replicate n false → (s : ℕ) → slice_get asked s ≡ Some true → ⊥
none_asked n asked is s was =
    false≢true (sym (bare_false n s) ∙ ap (λ r. get_or r s false) (sym is) ∙ get_or_from_slice_get asked s true false was)

-- There is other room.
with_room : {o : SheetOptions} {sprites : List Size} {groups slots : List (Option ℕ)} {k : ℕ} {asked row : List Bool} {room : ℕ}
    → AreAskedTo o sprites groups slots k asked row room → (less : ℕ) → HasRoom o sprites row less
    → AreAskedTo o sprites groups slots k asked row less
with_room so less has = record {
  first = so.first;
  is_first = so.is_first;
  sorted = so.sorted;
  are_slots = so.are_slots;
  there = so.there;
  row_is = so.row_is;
  opened = so.opened;
  seen = so.seen;
  known = so.known;
  were_asked = so.were_asked;
  has_room = has;
}

-- The same of equal values.
pub asked_as : {o : SheetOptions} {sprites : List Size} {groups slots : List (Option ℕ)} {k : ℕ} {asked row : List Bool} {room : ℕ}
    → AreAskedTo o sprites groups slots k asked row room
    → (new more : List Bool) (less : ℕ) → new ≡ asked → more ≡ row → less ≡ room
    → AreAskedTo o sprites groups slots k new more less
asked_as {o} {sprites} {groups} {slots} {k} {asked} {row} {room} so new more less new_is more_is less_is =
    subst (λ a. AreAskedTo o sprites groups slots k a more less) (sym new_is)
    (subst (λ r. AreAskedTo o sprites groups slots k asked r less) (sym more_is)
    (subst (λ m. AreAskedTo o sprites groups slots k asked row m) (sym less_is) so))

pub asked_begin : (o : SheetOptions) (sprites : List Size) (groups slots : List (Option ℕ)) (asked row : List Bool) (room first : ℕ)
    (sorted : List ℕ)
    → IsFirstGroup first groups → row ≡ chosen_row (λ n. n == first) 0 groups
    → AllZip (IsSlotIn sorted) groups slots → ((s : ℕ) → slice_get asked s ≡ Some true → ⊥) → HasRoom o sprites row room
    → AreAskedTo o sprites groups slots 0 asked row room
asked_begin o sprites groups slots asked row room first sorted is_first row_is are_slots none has_room = record {
  first = first;
  is_first = is_first;
  sorted = sorted;
  are_slots = are_slots;
  there = λ n. n == first;
  row_is = row_is;
  opened = eq-eqb first first refl;
  seen = λ n on. inl (eqb-true n first on);
  known = λ g. inl (All-nil (Not g));
  were_asked = λ s g was is. absurd (none s was);
  has_room = has_room;
}

slot_at : (sorted : List ℕ) (groups slots : List (Option ℕ)) → AllZip (IsSlotIn sorted) groups slots
    → (k : ℕ) → k < length groups
    → IsSlotIn sorted (get_or groups k None) (get_or slots k None)
slot_at sorted groups slots each k inside = AllZip-at groups slots each k inside
  where
    AllZip-at : (groups slots : List (Option ℕ)) → AllZip (IsSlotIn sorted) groups slots → (k : ℕ) → k < length groups
        → IsSlotIn sorted (get_or groups k None) (get_or slots k None)
    AllZip-at [] slots each k inside = absurd (omega (arith, inside))
    AllZip-at (g ∷ groups) [] each k inside = absurd each
    AllZip-at (g ∷ groups) (q ∷ slots) each zero inside = each.0
    AllZip-at (g ∷ groups) (q ∷ slots) each (suc k) inside = AllZip-at groups slots each.1 k (omega (arith, inside))

-- What is left out stays so where more are there.
left_still : (o : SheetOptions) (sprites : List Size) (groups : List (Option ℕ)) (first : ℕ) (there more : ℕ → Bool)
    → ((n : ℕ) → there n ≡ true → more n ≡ true)
    → (g : ℕ) → IsSettled o sprites groups first there g → IsSettled o sprites groups first more g
left_still o sprites groups first there more still g (inl on) = inl (still g on)
left_still o sprites groups first there more still g (inr left) = inr (record {
  beside = left.beside;
  opened = left.opened;
  earlier = λ n on. let e = left.earlier n on in (still n e.0, e.1);
  many = left.many;
})

or_parts : (a b : Bool) → (a || b) ≡ true → (a ≡ true) ⊎ (b ≡ true)
or_parts true b on = inl refl
or_parts false b on = inr on

module _ {o : SheetOptions} {sprites : List Size} {groups slots : List (Option ℕ)} {k : ℕ} {asked row : List Bool} {room : ℕ}
    (so : AreAskedTo o sprites groups slots k asked row room) (inside : k < length groups) where
  -- A sprite in no group.
  pub asked_none : get_or groups k None ≡ None → AreAskedTo o sprites groups slots (k + 1) asked row room
  asked_none none = record {
    first = so.first;
    is_first = so.is_first;
    sorted = so.sorted;
    are_slots = so.are_slots;
    there = so.there;
    row_is = so.row_is;
    opened = so.opened;
    seen = λ n on. still n (so.seen n on);
    known = λ g. more g (so.known g);
    were_asked = λ s g was is. member_still groups k g inside (so.were_asked s g was is);
    has_room = so.has_room;
  }
    where
      some : Option ℕ → Bool
      some None = false
      some (Some m) = true

      still : (n : ℕ) → (n ≡ so.first) ⊎ HasMember n (take k groups) → (n ≡ so.first) ⊎ HasMember n (take (k + 1) groups)
      still n (inl e) = inl e
      still n (inr has) = inr (member_still groups k n inside has)

      more : (g : ℕ) → All (Not g) (take k groups) ⊎ IsSettled o sprites groups so.first so.there g
          → All (Not g) (take (k + 1) groups) ⊎ IsSettled o sprites groups so.first so.there g
      more g (inl before) = inl (none_more groups k g inside (λ e. false≢true (ap some (sym none ∙ e))) before)
      more g (inr settled) = inr settled

  -- A sprite in a group.
  module _ (g : ℕ) (at : get_or groups k None ≡ Some g) (new : List Bool)
      (marks : (s : ℕ) → IsMarked (get_or slots k None) asked new s) where
    were : (s h : ℕ) → slice_get new s ≡ Some true → slice_get so.sorted s ≡ Some h → HasMember h (take (k + 1) groups)
    were s h was is = by_mark (marks s was)
      where
        number : Option ℕ → ℕ
        number None = 0
        number (Some m) = m

        by_mark : (slice_get asked s ≡ Some true) ⊎ (get_or slots k None ≡ Some s) → HasMember h (take (k + 1) groups)
        by_mark (inl old) = member_still groups k h inside (so.were_asked s h old is)
        by_mark (inr here) =
            let slot : slice_get so.sorted s ≡ get_or groups k None =
            subst (IsSlotIn so.sorted (get_or groups k None)) here (slot_at so.sorted groups slots so.are_slots k inside) in
            member_here groups k h inside (sym slot ∙ is)

    still : (n : ℕ) → (n ≡ so.first) ⊎ HasMember n (take k groups) → (n ≡ so.first) ⊎ HasMember n (take (k + 1) groups)
    still n (inl e) = inl e
    still n (inr has) = inr (member_still groups k n inside has)

    some_other : (h : ℕ) → (h ≡ g → ⊥) → get_or groups k None ≢ Some h
    some_other h other e = other (ap number (sym e ∙ at))
      where
        number : Option ℕ → ℕ
        number None = 0
        number (Some m) = m

    known_with : (there : ℕ → Bool) → ((n : ℕ) → so.there n ≡ true → there n ≡ true)
        → IsSettled o sprites groups so.first there g
        → (h : ℕ) → All (Not h) (take (k + 1) groups) ⊎ IsSettled o sprites groups so.first there h
    known_with there on settled h = by_known (so.known h) (cases_eq h g)
      where
        by_known : All (Not h) (take k groups) ⊎ IsSettled o sprites groups so.first so.there h → (h ≡ g) ⊎ (h ≢ g)
            → All (Not h) (take (k + 1) groups) ⊎ IsSettled o sprites groups so.first there h
        by_known (inr before) same = inr (left_still o sprites groups so.first so.there there on h before)
        by_known (inl none) (inl same) = inr (subst (IsSettled o sprites groups so.first there) (sym same) settled)
        by_known (inl none) (inr other) = inl (none_more groups k h inside (some_other h other) none)

    -- What is known of the group stays so.
    pub asked_settled : IsSettled o sprites groups so.first so.there g → AreAskedTo o sprites groups slots (k + 1) new row room
    asked_settled settled = record {
      first = so.first;
      is_first = so.is_first;
      sorted = so.sorted;
      are_slots = so.are_slots;
      there = so.there;
      row_is = so.row_is;
      opened = so.opened;
      seen = λ n on. still n (so.seen n on);
      known = known_with so.there (λ n on. on) settled;
      were_asked = were;
      has_room = so.has_room;
    }

    -- It was asked for before.
    pub asked_before : (s : ℕ) → get_or slots k None ≡ Some s → slice_get asked s ≡ Some true
        → AreAskedTo o sprites groups slots (k + 1) new row room
    asked_before s here was = asked_settled (by_known (so.known g))
      where
        has : HasMember g (take k groups)
        has =
            let slot : slice_get so.sorted s ≡ get_or groups k None =
            subst (IsSlotIn so.sorted (get_or groups k None)) here (slot_at so.sorted groups slots so.are_slots k inside) in
            so.were_asked s g was (slot ∙ at)

        by_known : All (Not g) (take k groups) ⊎ IsSettled o sprites groups so.first so.there g
            → IsSettled o sprites groups so.first so.there g
        by_known (inl none) = absurd (has none)
        by_known (inr settled) = settled

    -- It is there already.
    pub asked_there : get_or row k false ≡ true → AreAskedTo o sprites groups slots (k + 1) new row room
    asked_there on =
        asked_settled (inl (sym (chosen_some so.there groups k g inside at) ∙ ap (λ r. get_or r k false) (sym so.row_is) ∙ on))

    module _ (off : get_or row k false ≡ false) where
      not_there : so.there g ≡ false
      not_there = sym (chosen_some so.there groups k g inside at) ∙ ap (λ r. get_or r k false) (sym so.row_is) ∙ off

      -- It is too many.
      pub asked_many : AreTooMany o (picked (chosen_row (with_one g so.there) 0 groups) sprites)
          → AreAskedTo o sprites groups slots (k + 1) new row room
      asked_many many = asked_settled (by_known (so.known g))
        where
          by_known : All (Not g) (take k groups) ⊎ IsSettled o sprites groups so.first so.there g
              → IsSettled o sprites groups so.first so.there g
          by_known (inr settled) = settled
          by_known (inl none) = inr (record {
            beside = so.there;
            opened = so.opened;
            earlier = λ n on. (on, (k, before n on, none));
            many = many;
          })
            where
              before : (n : ℕ) → so.there n ≡ true → HasMember n (take k groups)
              before n on = by_seen (so.seen n on)
                where
                  by_seen : (n ≡ so.first) ⊎ HasMember n (take k groups) → HasMember n (take k groups)
                  by_seen (inr has) = has
                  by_seen (inl is) =
                      subst (λ m. HasMember m (take k groups)) (sym is)
                      (first_before so.first groups k g so.is_first inside at
                      (λ same. false≢true (sym not_there ∙ ap so.there same ∙ so.opened)))

      -- It has more pixels than there is room for.
      pub asked_over : (s amount : ℕ) → length groups ≡ length sprites → get_or slots k None ≡ Some s
          → amount ≤ pixels_together (members s slots sprites) → room < amount
          → AreAskedTo o sprites groups slots (k + 1) new row room
      asked_over s amount long here less over =
          asked_many (too_many_pixels o (picked (chosen_row (with_one g so.there) 0 groups) sprites) so.has_room.0 so.has_room.1 more)
        where
          more : pixels so.has_room.0 < pixels_together (picked (chosen_row (with_one g so.there) 0 groups) sprites)
          more =
              let slot : slice_get so.sorted s ≡ get_or groups k None =
              subst (IsSlotIn so.sorted (get_or groups k None)) here (slot_at so.sorted groups slots so.are_slots k inside) in
              let a = slot_members so.sorted s g (slot ∙ at) groups slots sprites so.are_slots in
              let b = pixels_with g so.there not_there groups sprites long in
              let c : pixels so.has_room.0 ≤ room + pixels_together (picked (chosen_row so.there 0 groups) sprites) =
              subst (λ r. pixels so.has_room.0 ≤ room + pixels_together (picked r sprites)) so.row_is so.has_room.2 in
              omega (arith, a, b, c, less, over)

    -- It is there as well.
    pub asked_joined : (joined : List Bool) (less : ℕ) → joined ≡ chosen_row (with_one g so.there) 0 groups
        → HasRoom o sprites joined less
        → AreAskedTo o sprites groups slots (k + 1) new joined less
    asked_joined joined less joined_is room_less = record {
      first = so.first;
      is_first = so.is_first;
      sorted = so.sorted;
      are_slots = so.are_slots;
      there = with_one g so.there;
      row_is = joined_is;
      opened = or_left (so.there so.first) (so.first == g) so.opened;
      seen = λ n on. by_parts n (or_parts (so.there n) (n == g) on);
      known = known_with (with_one g so.there) (λ n on. or_left (so.there n) (n == g) on)
          (inl (or_right (so.there g) (g == g) (eq-eqb g g refl)));
      were_asked = were;
      has_room = room_less;
    }
      where
        by_parts : (n : ℕ) → (so.there n ≡ true) ⊎ ((n == g) ≡ true) → (n ≡ so.first) ⊎ HasMember n (take (k + 1) groups)
        by_parts n (inl on) = still n (so.seen n on)
        by_parts n (inr is) = inr (subst (λ m. HasMember m (take (k + 1) groups)) (sym (eqb-true n g is))
            (member_here groups k g inside at))

    -- It was tried.
    pub asked_tried : get_or row k false ≡ false → (tried : List Bool) (less : ℕ)
        → (tried ≡ chosen_row (with_one g so.there) 0 groups)
        ⊎ ((tried ≡ row) × AreTooMany o (picked (chosen_row (with_one g so.there) 0 groups) sprites))
        → HasRoom o sprites tried less
        → AreAskedTo o sprites groups slots (k + 1) new tried less
    asked_tried off tried less (inl is) has = asked_joined tried less is has
    asked_tried off tried less (inr same) has =
        subst (λ r. AreAskedTo o sprites groups slots (k + 1) new r less) (sym same.0)
        (with_room (asked_many off same.1) less (subst (λ r. HasRoom o sprites r less) same.0 has))

    -- It isn't tried.
    pub asked_closed : (pixels_in : List ℕ) → length groups ≡ length sprites
        → ((s : ℕ) → get_or pixels_in s 0 ≤ pixels_together (members s slots sprites))
        → IsShut (get_or slots k None) asked (get_or row k false) pixels_in room
        → AreAskedTo o sprites groups slots (k + 1) new row room
    asked_closed pixels_in long less (inl before) = asked_before before.0 before.1 before.2
    asked_closed pixels_in long less (inr (inl on)) = asked_there on
    asked_closed pixels_in long less (inr (inr over)) = by_row (get_or row k false) refl
      where
        by_row : (b : Bool) → get_or row k false ≡ b → AreAskedTo o sprites groups slots (k + 1) new row room
        by_row true on = asked_there on
        by_row false off = asked_over off over.0 (get_or pixels_in over.0 0) long over.1 (less over.0) over.2

-- Once all were asked for.
pub asked_end : {o : SheetOptions} {sprites : List Size} {groups slots : List (Option ℕ)} {k : ℕ} {asked row : List Bool} {room : ℕ}
    → (so : AreAskedTo o sprites groups slots k asked row room) → take k groups ≡ groups
    → (there : ℕ → Bool) × AreGroupsThere o sprites groups there × (row ≡ chosen_row there 0 groups)
asked_end {o} {sprites} {groups} {slots} {k} {asked} {row} {room} so all = (
  so.there,
  record {
    first = so.first;
    is_first = so.is_first;
    opened = so.opened;
    others = λ g has off. by_known g has off (so.known g);
  },
  so.row_is,
)
  where
    by_known : (g : ℕ) → HasMember g groups → so.there g ≡ false
        → All (Not g) (take k groups) ⊎ IsSettled o sprites groups so.first so.there g
        → IsLeftOut o sprites groups so.first so.there g
    by_known g has off (inl none) = absurd (has (subst (All (Not g)) all none))
    by_known g has off (inr (inl on)) = absurd (false≢true (sym off ∙ on))
    by_known g has off (inr (inr left)) = left
