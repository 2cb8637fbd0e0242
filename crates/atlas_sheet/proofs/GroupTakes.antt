-- Which groups and which sprites in no group are taken for a sheet.
use Rattle.std.proofs.Common.{◌≡◌, ◌≢◌, ◌==◌, ◌||◌, ◌+◌, ◌-◌, ◌<◌, ◌≤◌, ◌⊎◌, ℕ, zero, suc, Bool, true, false, cond, is_none, inl, inr, List}
use Rattle.std.proofs.Common.{[], ◌∷◌, ◌++◌, length, map, drop, take, get_or, append-nil, add-one, All, Option, Some, None, IfNone, IfSome}
use Rattle.std.proofs.Common.{IsNone, IsTrue, ◌↔◌, refl, ap, sym, subst, ◌∙◌, arith}
use Rattle.std.specs.List.{AllZip, count_by, slice_get}
use Rattle.std.proofs.lemmas.Bool.{cases_lt, eq-eqb, eqb-true, false≢true}
use Rattle.std.proofs.Math.ListN.{drop_of_length-le}
use Rattle.std.proofs.Math.Seq.{drop-cons, take-append_seam, take-suc}
use Rattle.std.proofs.lemmas.List.{append_assoc}
use Rattle.std.proofs.lemmas.List.Elements.{All-nil, All-cons, All-head, All-push, All-tail}
use Rattle.std.proofs.lemmas.List.Sums.{sum_by-cons}
use Rattle.guillotiere.specs.declared.Size.{Size}
use Rattle.guillotiere.specs.Pixels.{sides_of}
use Rattle.atlas_sheet.specs.declared.options.SheetOptions.{SheetOptions}
use Rattle.atlas_sheet.specs.Allowances.{pixels}
use Rattle.atlas_sheet.specs.Grouping.{AreGroupsThere, AreSpritesThere, AreTooMany, HasMember, IsFirstGroup, IsSlotIn, chosen_row, is_in}
use Rattle.atlas_sheet.specs.Grouping.{members, picked, pixels_together, with_one}

-- A row has as many as the numbers.
pub chosen_long : (there : ℕ → Bool) (many : ℕ) (groups : List (Option ℕ))
    → length (chosen_row there many groups) ≡ length groups
chosen_long there many [] = refl
chosen_long there many (Some n ∷ groups) = ap suc (chosen_long there many groups)
chosen_long there zero (None ∷ groups) = ap suc (chosen_long there zero groups)
chosen_long there (suc many) (None ∷ groups) = ap suc (chosen_long there many groups)

-- The sprites of one group.
pub chosen_in : (group : ℕ) (groups : List (Option ℕ))
    → map (is_in group) groups ≡ chosen_row (λ n. n == group) 0 groups
chosen_in group [] = refl
chosen_in group (None ∷ groups) = ap (λ r. false ∷ r) (chosen_in group groups)
chosen_in group (Some n ∷ groups) = ap (λ r. (n == group) ∷ r) (chosen_in group groups)

-- What a row says of a sprite in a group.
pub chosen_some : (there : ℕ → Bool) (groups : List (Option ℕ)) (k n : ℕ) → k < length groups
    → get_or groups k None ≡ Some n
    → get_or (chosen_row there 0 groups) k false ≡ there n
chosen_some there [] k n inside at = absurd (omega (arith, inside))
chosen_some there (None ∷ groups) zero n inside at = absurd (false≢true (ap is_some at))
  where
    is_some : Option ℕ → Bool
    is_some None = false
    is_some (Some m) = true
chosen_some there (Some m ∷ groups) zero n inside at = ap there (ap (λ g. number g) at)
  where
    number : Option ℕ → ℕ
    number None = 0
    number (Some m) = m
chosen_some there (None ∷ groups) (suc k) n inside at = chosen_some there groups k n (omega (arith, inside)) at
chosen_some there (Some m ∷ groups) (suc k) n inside at = chosen_some there groups k n (omega (arith, inside)) at

-- What it says of a sprite in none.
pub chosen_none : (there : ℕ → Bool) (groups : List (Option ℕ)) (k : ℕ) → k < length groups
    → get_or groups k None ≡ None
    → get_or (chosen_row there 0 groups) k false ≡ false
chosen_none there [] k inside at = absurd (omega (arith, inside))
chosen_none there (None ∷ groups) zero inside at = refl
chosen_none there (Some m ∷ groups) zero inside at = absurd (false≢true (sym (ap is_some at)))
  where
    is_some : Option ℕ → Bool
    is_some None = false
    is_some (Some m) = true
chosen_none there (None ∷ groups) (suc k) inside at = chosen_none there groups k (omega (arith, inside)) at
chosen_none there (Some m ∷ groups) (suc k) inside at = chosen_none there groups k (omega (arith, inside)) at

-- With a group as well.
with_at : (group : ℕ) (there : ℕ → Bool) (groups : List (Option ℕ)) (k : ℕ) → k < length groups
    → get_or (chosen_row (with_one group there) 0 groups) k false
    ≡ (get_or (chosen_row there 0 groups) k false || is_in group (get_or groups k None))
with_at group there [] k inside = absurd (omega (arith, inside))
with_at group there (None ∷ groups) zero inside = refl
with_at group there (Some n ∷ groups) zero inside = refl
with_at group there (None ∷ groups) (suc k) inside = with_at group there groups k (omega (arith, inside))
with_at group there (Some n ∷ groups) (suc k) inside = with_at group there groups k (omega (arith, inside))

pub with_more : (group : ℕ) (there : ℕ → Bool) (groups : List (Option ℕ)) (row : List Bool) (k : ℕ) (all more : List Bool) (new : Bool)
    → k < length groups → row ≡ chosen_row there 0 groups
    → new ≡ (get_or row k false || is_in group (get_or groups k None)) → more ≡ all ++ new ∷ []
    → all ≡ take k (chosen_row (with_one group there) 0 groups)
    → more ≡ take (k + 1) (chosen_row (with_one group there) 0 groups)
with_more group there groups row k all more new inside row_is new_is added so =
    let full : List Bool = chosen_row (with_one group there) 0 groups in
    let within : k < length full = let e = chosen_long (with_one group there) 0 groups in omega (arith, e, inside) in
    let here : new ≡ get_or full k false =
    new_is ∙ ap (λ r. get_or r k false || is_in group (get_or groups k None)) row_is ∙ sym (with_at group there groups k inside) in
    added ∙ (λ i. so i ++ here i ∷ []) ∙ sym (take-suc full k false within) ∙ ap (λ m. take m full) (sym (add-one k))

-- With sprites in no group.
abbrev pub AreSinglesTo : (there : ℕ → Bool) (many : ℕ) → List (Option ℕ) → (k room : ℕ) → List Bool → Type 0
AreSinglesTo there many groups k room all = chosen_row there many groups ≡ all ++ chosen_row there room (drop k groups)

single_next : (there : ℕ → Bool) (room next : ℕ) (g : Option ℕ) (rest : List (Option ℕ)) (b new : Bool)
    → IfSome g (λ n. b ≡ there n) → (g ≡ None → b ≡ false)
    → IfSome g (λ n. new ≡ b) → IfNone g (b ≡ false → (IsTrue new ↔ (0 < room)))
    → (new ≡ b → next ≡ room) → (new ≢ b → next ≡ room - 1)
    → chosen_row there room (g ∷ rest) ≡ new ∷ chosen_row there next rest
single_next there room next (Some n) rest b new is none group single same less =
    λ i. (sym is ∙ sym group) i ∷ chosen_row there (sym (same group) i) rest
single_next there room next None rest true new is none group single same less = absurd (false≢true (sym (none refl)))
single_next there zero next None rest false true is none group single same less =
    absurd (let some : 0 < 0 = (single refl).0 refl in omega (arith, some))
single_next there zero next None rest false false is none group single same less =
    ap (λ m. false ∷ chosen_row there m rest) (sym (same refl))
single_next there (suc room) next None rest false true is none group single same less =
    let less_one : next ≡ suc room - 1 = less (λ e. false≢true (sym e)) in
    let m : room ≡ next = omega (arith, less_one) in
    ap (λ n. true ∷ chosen_row there n rest) m
single_next there (suc room) next None rest false false is none group single same less =
    let some : 0 < suc room = omega arith in
    absurd (false≢true ((single refl).1 some))

pub single_more : (there : ℕ → Bool) (many : ℕ) (groups : List (Option ℕ)) (row : List Bool) (k room next : ℕ) (all more : List Bool)
    (new : Bool)
    → k < length groups → row ≡ chosen_row there 0 groups
    → IfSome (get_or groups k None) (λ n. new ≡ get_or row k false)
    → IfNone (get_or groups k None) (get_or row k false ≡ false → (IsTrue new ↔ (0 < room)))
    → (new ≡ get_or row k false → next ≡ room) → (new ≢ get_or row k false → next ≡ room - 1)
    → more ≡ all ++ new ∷ []
    → AreSinglesTo there many groups k room all → AreSinglesTo there many groups (k + 1) next more
single_more there many groups row k room next all more new inside row_is group single same less added so =
    let g : Option ℕ = get_or groups k None in
    let rest : List (Option ℕ) = drop (k + 1) groups in
    let at : drop k groups ≡ g ∷ rest = drop-cons groups k None inside ∙ ap (λ m. g ∷ drop m groups) (sym (add-one k)) in
    let step : chosen_row there room (g ∷ rest) ≡ new ∷ chosen_row there next rest =
    single_next there room next g rest (get_or row k false) new (in_group g refl)
    (λ none. ap (λ r. get_or r k false) row_is ∙ chosen_none there groups k inside none) group single same less in
    so ∙ ap (λ gs. all ++ chosen_row there room gs) at ∙ ap (λ r. all ++ r) step
    ∙ sym (append_assoc all (new ∷ []) (chosen_row there next rest)) ∙ ap (λ r. r ++ chosen_row there next rest) (sym added)
  where
    in_group : (g : Option ℕ) → get_or groups k None ≡ g → IfSome g (λ n. get_or row k false ≡ there n)
    in_group None is = tt
    in_group (Some n) is = ap (λ r. get_or r k false) row_is ∙ chosen_some there groups k n inside is

pub single_end : (there : ℕ → Bool) (many : ℕ) (groups : List (Option ℕ)) (k room : ℕ) (all : List Bool) → length groups ≤ k
    → AreSinglesTo there many groups k room all → all ≡ chosen_row there many groups
single_end there many groups k room all end so =
    sym (so ∙ ap (λ gs. all ++ chosen_row there room gs) (drop_of_length-le groups end) ∙ append-nil all)

-- Members of the first ones.
last_of : {X : Type 0} (P : X → Type 0) (xs : List X) (x : X) → All P (xs ++ x ∷ []) → P x
last_of P [] x each = All-head P x [] each
last_of P (y ∷ xs) x each = last_of P xs x (All-tail P y (xs ++ x ∷ []) each)

front_of : {X : Type 0} (P : X → Type 0) (xs : List X) (x : X) → All P (xs ++ x ∷ []) → All P xs
front_of P [] x each = All-nil P
front_of P (y ∷ xs) x each =
    All-cons P y xs (All-head P y (xs ++ x ∷ []) each) (front_of P xs x (All-tail P y (xs ++ x ∷ []) each))

abbrev pub Not : (n : ℕ) → Option ℕ → Type 0
Not n g = g ≢ Some n

taken : (groups : List (Option ℕ)) (k : ℕ) → k < length groups
    → take (k + 1) groups ≡ take k groups ++ get_or groups k None ∷ []
taken groups k inside = ap (λ m. take m groups) (add-one k) ∙ take-suc groups k None inside

pub member_still : (groups : List (Option ℕ)) (k n : ℕ) → k < length groups → HasMember n (take k groups)
    → HasMember n (take (k + 1) groups)
member_still groups k n inside has none =
    has (front_of (Not n) (take k groups) (get_or groups k None) (subst (All (Not n)) (taken groups k inside) none))

pub member_here : (groups : List (Option ℕ)) (k n : ℕ) → k < length groups → get_or groups k None ≡ Some n
    → HasMember n (take (k + 1) groups)
member_here groups k n inside at none =
    last_of (Not n) (take k groups) (get_or groups k None) (subst (All (Not n)) (taken groups k inside) none) at

pub none_more : (groups : List (Option ℕ)) (k n : ℕ) → k < length groups → get_or groups k None ≢ Some n → All (Not n) (take k groups)
    → All (Not n) (take (k + 1) groups)
none_more groups k n inside other none =
    subst (All (Not n)) (sym (taken groups k inside)) (All-push (Not n) (take k groups) (get_or groups k None) none other)

-- A member stands where another number doesn't.
pub has_at : (groups : List (Option ℕ)) (k n : ℕ) → k < length groups → get_or groups k None ≡ Some n → HasMember n groups
has_at [] k n inside at none = absurd (omega (arith, inside))
has_at (g ∷ groups) zero n inside at none = All-head (Not n) g groups none at
has_at (g ∷ groups) (suc k) n inside at none = has_at groups k n (omega (arith, inside)) at (All-tail (Not n) g groups none)

get_or_taken : (groups : List (Option ℕ)) (k f : ℕ) → f < k → k ≤ length groups
    → get_or (take k groups) f None ≡ get_or groups f None
get_or_taken [] k f less inside = absurd (omega (arith, less, inside))
get_or_taken (g ∷ groups) zero f less inside = absurd (omega (arith, less))
get_or_taken (g ∷ groups) (suc k) zero less inside = refl
get_or_taken (g ∷ groups) (suc k) (suc f) less inside = get_or_taken groups k f (omega (arith, less)) (omega (arith, inside))

length_taken : (groups : List (Option ℕ)) (k : ℕ) → k ≤ length groups → length (take k groups) ≡ k
length_taken groups zero inside = refl
length_taken [] (suc k) inside = absurd (omega (arith, inside))
length_taken (g ∷ groups) (suc k) inside = ap suc (length_taken groups k (omega (arith, inside)))

none_at : (groups : List (Option ℕ)) (k f : ℕ) → k < f → f ≤ length groups → All IsNone (take f groups)
    → get_or groups k None ≡ None
none_at [] k f less inside none = absurd (omega (arith, less, inside))
none_at (g ∷ groups) k zero less inside none = absurd (omega (arith, less))
none_at (None ∷ groups) zero (suc f) less inside none = refl
none_at (Some m ∷ groups) zero (suc f) less inside none = absurd (false≢true (sym (All-head IsNone (Some m) (take f groups) none)))
none_at (g ∷ groups) (suc k) (suc f) less inside none =
    none_at groups k f (omega (arith, less)) (omega (arith, inside)) (All-tail IsNone g (take f groups) none)

-- The first group has a sprite before one of another group.
pub first_before : (first : ℕ) (groups : List (Option ℕ)) (k g : ℕ) → IsFirstGroup first groups → k < length groups
    → get_or groups k None ≡ Some g → (g ≡ first → ⊥) → HasMember first (take k groups)
first_before first groups k g is_first inside at other = by_place (cases_lt (is_first.0) k)
  where
    by_place : (is_first.0 < k) ⊎ (k ≤ is_first.0) → HasMember first (take k groups)
    by_place (inl before) =
        has_at (take k groups) (is_first.0) first (let e = length_taken groups k (omega (arith, inside)) in omega (arith, e, before))
        (get_or_taken groups k (is_first.0) before (omega (arith, inside)) ∙ is_first.2)
    by_place (inr after) = by_equal (cases_lt k (is_first.0))
      where
        number : Option ℕ → ℕ
        number None = 0
        number (Some m) = m

        some : Option ℕ → Bool
        some None = false
        some (Some m) = true

        by_equal : (k < is_first.0) ⊎ (is_first.0 ≤ k) → HasMember first (take k groups)
        by_equal (inl less) =
            let none : get_or groups k None ≡ None = none_at groups k (is_first.0) less (omega (arith, is_first.1)) is_first.3 in
            absurd (false≢true (ap some (sym none ∙ at)))
        by_equal (inr not_less) =
            let same : is_first.0 ≡ k = omega (arith, after, not_less) in
            absurd (other (ap number (sym at ∙ ap (λ m. get_or groups m None) (sym same) ∙ is_first.2)))

-- Pixels of a row with one group more.
pub pixels_with : (group : ℕ) (there : ℕ → Bool) → there group ≡ false
    → (groups : List (Option ℕ)) (sprites : List Size) → length groups ≡ length sprites
    → pixels_together (picked (chosen_row (with_one group there) 0 groups) sprites)
    ≡ pixels_together (picked (chosen_row there 0 groups) sprites) + pixels_together (members group groups sprites)
pixels_with group there off [] [] long = refl
pixels_with group there off [] (s ∷ sprites) long = absurd (omega (arith, long))
pixels_with group there off (g ∷ groups) [] long = absurd (omega (arith, long))
pixels_with group there off (None ∷ groups) (s ∷ sprites) long = pixels_with group there off groups sprites (omega (arith, long))
pixels_with group there off (Some n ∷ groups) (s ∷ sprites) long =
    by_both (there n) (n == group) refl refl (pixels_with group there off groups sprites (omega (arith, long)))
  where
    by_both : (b c : Bool) → there n ≡ b → (n == group) ≡ c
        → pixels_together (picked (chosen_row (with_one group there) 0 groups) sprites)
        ≡ pixels_together (picked (chosen_row there 0 groups) sprites) + pixels_together (members group groups sprites)
        → pixels_together (cond (b || c) (s ∷ picked (chosen_row (with_one group there) 0 groups) sprites)
        (picked (chosen_row (with_one group there) 0 groups) sprites))
        ≡ pixels_together (cond b (s ∷ picked (chosen_row there 0 groups) sprites) (picked (chosen_row there 0 groups) sprites))
        + pixels_together (cond c (s ∷ members group groups sprites) (members group groups sprites))
    by_both true true on is rest = absurd (false≢true (sym off ∙ ap there (sym (eqb-true n group is)) ∙ on))
    by_both true false on is rest =
        let a = sum_by-cons (λ t. pixels (sides_of t)) s (picked (chosen_row (with_one group there) 0 groups) sprites) in
        let b = sum_by-cons (λ t. pixels (sides_of t)) s (picked (chosen_row there 0 groups) sprites) in
        omega (arith, a, b, rest)
    by_both false true on is rest =
        let a = sum_by-cons (λ t. pixels (sides_of t)) s (picked (chosen_row (with_one group there) 0 groups) sprites) in
        let b = sum_by-cons (λ t. pixels (sides_of t)) s (members group groups sprites) in
        omega (arith, a, b, rest)
    by_both false false on is rest = rest

-- The sprites with a slot are of one group.
pub slot_members : (sorted : List ℕ) (s g : ℕ) → slice_get sorted s ≡ Some g
    → (groups slots : List (Option ℕ)) (sprites : List Size) → AllZip (IsSlotIn sorted) groups slots
    → pixels_together (members s slots sprites) ≤ pixels_together (members g groups sprites)
slot_members sorted s g is [] [] sprites each = omega arith
slot_members sorted s g is [] (q ∷ slots) sprites each = absurd each
slot_members sorted s g is (h ∷ groups) [] sprites each = absurd each
slot_members sorted s g is (h ∷ groups) (q ∷ slots) [] each = omega arith
slot_members sorted s g is (h ∷ groups) (None ∷ slots) (t ∷ sprites) each =
    by_head (is_in g h) (slot_members sorted s g is groups slots sprites each.1)
  where
    by_head : (b : Bool) → pixels_together (members s slots sprites) ≤ pixels_together (members g groups sprites)
        → pixels_together (members s slots sprites) ≤ pixels_together (cond b (t ∷ members g groups sprites) (members g groups sprites))
    by_head true rest = let a = sum_by-cons (λ u. pixels (sides_of u)) t (members g groups sprites) in omega (arith, a, rest)
    by_head false rest = rest
slot_members sorted s g is (h ∷ groups) (Some q ∷ slots) (t ∷ sprites) each =
    by_both (q == s) (is_in g h) refl refl (slot_members sorted s g is groups slots sprites each.1)
  where
    by_both : (b c : Bool) → (q == s) ≡ b → is_in g h ≡ c
        → pixels_together (members s slots sprites) ≤ pixels_together (members g groups sprites)
        → pixels_together (cond b (t ∷ members s slots sprites) (members s slots sprites))
        ≤ pixels_together (cond c (t ∷ members g groups sprites) (members g groups sprites))
    by_both true true on in_it rest =
        let a = sum_by-cons (λ u. pixels (sides_of u)) t (members g groups sprites) in
        let b = sum_by-cons (λ u. pixels (sides_of u)) t (members s slots sprites) in
        omega (arith, a, b, rest)
    by_both true false on in_it rest =
        let here : h ≡ Some g = sym each.0 ∙ ap (slice_get sorted) (eqb-true q s on) ∙ is in
        absurd (false≢true (sym in_it ∙ ap (is_in g) here ∙ eq-eqb g g refl))
    by_both false true on in_it rest = let a = sum_by-cons (λ u. pixels (sides_of u)) t (members g groups sprites) in omega (arith, a, rest)
    by_both false false on in_it rest = rest

-- So many of those in no group are taken, and so many are too many, or there aren't as many.
pub record AreSinglesTaken (o : SheetOptions) (sprites : List Size) (groups : List (Option ℕ)) (whole : List Bool) (taken refused : ℕ)
    (row : List Bool)
    : Type 0 where
  pub there : ℕ → Bool
  pub groups_there : AreGroupsThere o sprites groups there
  pub whole_is : whole ≡ chosen_row there 0 groups
  pub row_is : row ≡ chosen_row there taken groups
  pub full : (refused ≡ count_by is_none groups + 1) ⊎ AreTooMany o (picked (chosen_row there refused groups) sprites)

module _ {o : SheetOptions} {sprites : List Size} {groups : List (Option ℕ)} {whole : List Bool} {taken refused : ℕ} {row : List Bool}
    (so : AreSinglesTaken o sprites groups whole taken refused row) where
  pub singles_more : (many : ℕ) (more : List Bool) → more ≡ chosen_row so.there many groups
      → AreSinglesTaken o sprites groups whole many refused more
  singles_more many more more_is = record {
    there = so.there;
    groups_there = so.groups_there;
    whole_is = so.whole_is;
    row_is = more_is;
    full = so.full;
  }

  pub singles_less : (many : ℕ) (more : List Bool) → more ≡ chosen_row so.there many groups
      → AreTooMany o (picked more sprites)
      → AreSinglesTaken o sprites groups whole taken many row
  singles_less many more more_is too_many = record {
    there = so.there;
    groups_there = so.groups_there;
    whole_is = so.whole_is;
    row_is = so.row_is;
    full = inr (subst (λ r. AreTooMany o (picked r sprites)) more_is too_many);
  }

  pub singles_end : taken < refused → refused ≤ taken + 1 → AreSpritesThere o sprites groups row
  singles_end below end = record {
    there = so.there;
    groups = so.groups_there;
    many = taken;
    chosen = so.row_is;
    full = by_full so.full;
  }
    where
      by_full : (refused ≡ count_by is_none groups + 1) ⊎ AreTooMany o (picked (chosen_row so.there refused groups) sprites)
          → (taken ≡ count_by is_none groups) ⊎ AreTooMany o (picked (chosen_row so.there (suc taken) groups) sprites)
      by_full (inl all) = inl (omega (arith, all, below, end))
      by_full (inr many) =
          let next : refused ≡ suc taken = omega (arith, below, end) in
          inr (subst (λ m. AreTooMany o (picked (chosen_row so.there m groups) sprites)) next many)

-- What was written through a slice of a whole list.
pub written : {X : Type 0} (n : ℕ) (new old : List X) → length new ≡ n → take n (new ++ drop (length new) old) ≡ new
written n new old long =
    ap (λ m. take m (new ++ drop (length new) old)) (sym long) ∙ take-append_seam new (drop (length new) old)

-- Pixels that are added to those of a slot.
pub slot_more : (slots : List (Option ℕ)) (sprites : List Size) (k s old new total : ℕ) (d : Size) → k < length slots
    → length slots ≡ length sprites
    → new ≤ old + cond (is_in s (get_or slots k None)) (pixels (sides_of (get_or sprites k d))) 0
    → old + pixels_together (members s (drop k slots) (drop k sprites)) ≤ total
    → new + pixels_together (members s (drop (k + 1) slots) (drop (k + 1) sprites)) ≤ total
slot_more slots sprites k s old new total d inside long added before =
    by_test (is_in s (get_or slots k None)) added (subst (λ n. old + n ≤ total) split before)
  where
    split : pixels_together (members s (drop k slots) (drop k sprites))
        ≡ pixels_together (cond (is_in s (get_or slots k None)) (get_or sprites k d ∷ members s (drop (k + 1) slots) (drop (k + 1) sprites))
        (members s (drop (k + 1) slots) (drop (k + 1) sprites)))
    split =
        let a : drop k slots ≡ get_or slots k None ∷ drop (k + 1) slots =
        drop-cons slots k None inside ∙ ap (λ m. get_or slots k None ∷ drop m slots) (sym (add-one k)) in
        let b : drop k sprites ≡ get_or sprites k d ∷ drop (k + 1) sprites =
        drop-cons sprites k d (omega (arith, inside, long)) ∙ ap (λ m. get_or sprites k d ∷ drop m sprites) (sym (add-one k)) in
        λ i. pixels_together (members s (a i) (b i))

    by_test : (b : Bool) → new ≤ old + cond b (pixels (sides_of (get_or sprites k d))) 0
        → old + pixels_together (cond b (get_or sprites k d ∷ members s (drop (k + 1) slots) (drop (k + 1) sprites))
        (members s (drop (k + 1) slots) (drop (k + 1) sprites))) ≤ total
        → new + pixels_together (members s (drop (k + 1) slots) (drop (k + 1) sprites)) ≤ total
    by_test false more less = omega (arith, more, less)
    by_test true more less =
        let e : pixels_together (get_or sprites k d ∷ members s (drop (k + 1) slots) (drop (k + 1) sprites))
        ≡ pixels (sides_of (get_or sprites k d)) + pixels_together (members s (drop (k + 1) slots) (drop (k + 1) sprites)) =
        sum_by-cons (λ t. pixels (sides_of t)) (get_or sprites k d) (members s (drop (k + 1) slots) (drop (k + 1) sprites)) in
        omega (arith, more, less, e)
