-- Each step of the simple allocator keeps what it keeps, and the boxes that are held.
use Rattle.std.proofs.Common.{◌≡◌, ℕ, ◌+◌, ◌≤◌, ◌<◌, Bool, true, false, ltb, List, [], ◌∷◌, ◌++◌, map, refl, ap, sym, ◌∙◌, subst, arith}
use Rattle.std.proofs.Common.{rules}
use Rattle.std.specs.List.{All, count_by}
use Rattle.std.proofs.lemmas.Bool.{ltb-true}
use Rattle.std.proofs.lemmas.Bool.Decides.{nat_tests}
use Rattle.std.proofs.lemmas.List.Elements.{All-nil, All-cons, All-head, All-tail, All-append, All-weaker}
use Rattle.std.proofs.lemmas.List.Sums.{sum_by-cons, sum_by-append}
use Rattle.atlas_model.specs.declared.error.AtlasError.TheVariants.{Memory}
use Rattle.atlas_model.specs.Boxes.{Sides, Box, box_sides, whole_box, covers, Fits, IsPositive, IsNonempty, IsWithin}
use Rattle.atlas_model.specs.Cuts.{cut_axis}
use Rattle.atlas_model.specs.Choice.{AreValid}
use Rattle.atlas_model.specs.Trees.{Grant}
use Rattle.atlas_model.specs.States.{State, live_in, free_in}
use Rattle.atlas_model.specs.Simple.SimpleAtlasCall.{Allocate, Grow, Clear, Reset, Start}
use Rattle.atlas_model.specs.Simple.SimpleAnswer.{Granted, NoRoom, Done, Refused, BadCall}
use Rattle.atlas_model.specs.Simple.{SimpleState, IsSimple, SimplyGrows, StartsFrom, IsGuarded, is_kept, added_by, live_boxes}
use Rattle.atlas_model.specs.Simple.{SimpleAtlasCall, SimpleAnswer, SimpleStep}
use Rattle.atlas_model.specs.Simple.SimpleRuns.{held_after}
use Rattle.atlas_model.proofs.TreeLemmas.BoxLists.{squares_in_one, boxes_in_place}
use Rattle.atlas_model.proofs.SimpleLemmas.SimpleGrants.{one_if, squares_of_cut, kept_le, count-none, none-count, misplaced, well_placed}
use Rattle.atlas_model.proofs.SimpleLemmas.SimpleGrants.{not_misplaced, kept-placed, grant-simple, grant-guarded, start-simple}
use Rattle.atlas_model.proofs.TreeLemmas.TreeKept.{longer_positive}
use Rattle.atlas_model.proofs.StepLemmas.ApartBoxes.{covered_within}

-- A unit square lies inside a size, or no box within the size covers it.

outside : (size : Sides) (x y : ℕ) → ((x < size.width) × (y < size.height) → ⊥) → (b : Box) → IsWithin size b
    → covers x y b ≡ false
outside size x y out b within = grind (arith, covered_within)

none-outside : (size : Sides) (x y : ℕ) → ((x < size.width) × (y < size.height) → ⊥) → (boxes : List Box)
    → All (λ b. IsWithin size b) boxes → count_by (covers x y) boxes ≡ 0
none-outside size x y out boxes within = grind (arith, count-none, All-weaker, outside)

within-all : (size : Sides) (boxes : List Box) → All (λ b. IsNonempty b × IsWithin size b) boxes
    → All (λ b. IsWithin size b) boxes
within-all size boxes h = All-weaker (λ b. IsNonempty b × IsWithin size b) (λ b. IsWithin size b) (λ b w. w.1) boxes h

-- Boxes within a size cover each unit square at most so often as inside it.
at-most-inside : (size : Sides) (x y n : ℕ) (boxes : List Box) → All (λ b. IsWithin size b) boxes
    → (x < size.width → y < size.height → count_by (covers x y) boxes ≤ n) → count_by (covers x y) boxes ≤ n
at-most-inside size x y n boxes within inside = by_tests (ltb x size.width) (ltb y size.height) refl refl
  where
    by_tests : (s t : Bool) → ltb x size.width ≡ s → ltb y size.height ≡ t → count_by (covers x y) boxes ≤ n
    by_tests true true d e = inside (ltb-true x size.width d) (ltb-true y size.height e)
    by_tests false t d e = let none = none-outside size x y (λ h. grind (arith, nat_tests)) boxes within in omega arith
    by_tests true false d e = let none = none-outside size x y (λ h. grind (arith, nat_tests)) boxes within in omega arith

-- A growth.

pub whole-fits : (s n : Sides) → Fits s n → Fits s (box_sides (whole_box n))
whole-fits s n fits = (omega (arith, fits), omega (arith, fits))

whole-nonempty : (n : Sides) → IsPositive n → IsNonempty (whole_box n)
whole-nonempty n positive = (omega (arith, positive), omega (arith, positive))

-- What a growth adds lies beyond the old size.
added-squares : (old : SimpleState) (n : Sides) → IsSimple old → Fits old.size n → (x y : ℕ)
    → one_if (covers x y (whole_box old.size)) + count_by (covers x y) (added_by old n) ≤ one_if (covers x y (whole_box n))
added-squares old n simple fits x y =
    grind (arith, squares_of_cut, whole-nonempty n, longer_positive, whole-fits, kept_le (is_kept old.options))

at-most-one : (b : Bool) → one_if b ≤ 1
at-most-one true = omega arith
at-most-one false = omega arith

-- Boxes held within the old size stay apart from what is added.
grown-apart : (old : SimpleState) (n : Sides) (held : List Box) → IsSimple old → Fits old.size n
    → All (λ b. IsWithin old.size b) held
    → (x y : ℕ) → count_by (covers x y) held + count_by (covers x y) old.free ≤ 1
    → count_by (covers x y) held + (count_by (covers x y) (added_by old n) + count_by (covers x y) old.free) ≤ 1
grown-apart old n held simple fits within x y apart = by_test (covers x y (whole_box old.size)) refl
  where
    by_test : (t : Bool) → covers x y (whole_box old.size) ≡ t
        → count_by (covers x y) held + (count_by (covers x y) (added_by old n) + count_by (covers x y) old.free) ≤ 1
    by_test true e =
        let squares = added-squares old n simple fits x y in
        let one : one_if (covers x y (whole_box old.size)) ≡ 1 = ap one_if e in
        omega (arith, squares, one, at-most-one (covers x y (whole_box n)), apart)
    by_test false e =
        let out : (x < old.size.width) × (y < old.size.height) → ⊥ = λ h. grind (arith, nat_tests) in
        let squares = added-squares old n simple fits x y in
        let none_held = none-outside old.size x y out held within in
        let none_free = none-outside old.size x y out old.free (within-all old.size old.free simple.boxes) in
        omega (arith, squares, none_held, none_free, at-most-one (covers x y (whole_box n)))

grown-count : (old new : SimpleState) (n : Sides) (p : Box → Bool) → SimplyGrows old n new
    → count_by p new.free ≡ count_by p (added_by old n) + count_by p old.free
grown-count old new n p grows = grows.free p ∙ sum_by-append (λ b. one_if (p b)) (added_by old n) old.free

grow-boxes : (old new : SimpleState) (n : Sides) → IsSimple old → Fits old.size n → SimplyGrows old n new
    → All (λ b. IsNonempty b × IsWithin new.size b) new.free
grow-boxes old new n simple fits grows =
    let P : Sides → Box → Type 0 = λ size b. IsNonempty b × IsWithin size b in
    let f = whole_box n in
    let bad = misplaced n in
    let wider : (b : Box) → P old.size b → P n b = λ b h. (h.0, (omega (arith, h.1, fits), omega (arith, h.1, fits))) in
    let kept = kept-placed old.options n (cut_axis (box_sides f) old.size) f old.size simple.valid
    (whole-nonempty n (longer_positive old.size n simple.nonempty fits)) (omega arith, omega arith) (whole-fits old.size n fits) in
    let free = All-weaker (P old.size) (P n) wider old.free simple.boxes in
    let before : count_by bad (added_by old n ++ old.free) ≡ 0 =
    count-none bad (added_by old n ++ old.free)
    (All-weaker (P n) (λ b. bad b ≡ false) (not_misplaced n) (added_by old n ++ old.free)
    (All-append (P n) (added_by old n) old.free kept free)) in
    let after : count_by bad new.free ≡ 0 = grows.free bad ∙ before in
    let here : All (P n) new.free = All-weaker (λ b. bad b ≡ false) (P n) (well_placed n) new.free (none-count bad new.free after) in
    subst (λ size. All (P size) new.free) (sym grows.size) here

pub grow-simple : (old new : SimpleState) (n : Sides) → IsSimple old → Fits old.size n → SimplyGrows old n new
    → IsSimple new
grow-simple old new n simple fits grows = record {
  nonempty = subst IsPositive (sym grows.size) (longer_positive old.size n simple.nonempty fits);
  valid = subst AreValid (sym grows.options) simple.valid;
  boxes = grow-boxes old new n simple fits grows;
  disjoint = λ x y.
      let apart = grown-apart old n [] simple fits (All-nil (λ b. IsWithin old.size b)) x y (omega (arith, simple.disjoint x y)) in
      omega (arith, apart, grown-count old new n (covers x y) grows);
}

pub grow-guarded : (old new : SimpleState) (n : Sides) (held : List Box) → IsSimple old → Fits old.size n
    → SimplyGrows old n new → IsGuarded old held → IsGuarded new held
grow-guarded old new n held simple fits grows guarded = record {
  within =
      let wider : (b : Box) → IsWithin old.size b → IsWithin n b = λ b h. (omega (arith, h, fits), omega (arith, h, fits)) in
      subst (λ size. All (λ b. IsWithin size b) held) (sym grows.size) (All-weaker (λ b. IsWithin old.size b) (λ b. IsWithin n b) wider held
      guarded.within);
  disjoint = λ x y.
      let g = λ (b : Box). one_if (covers x y b) in
      let before : count_by (covers x y) held + count_by (covers x y) old.free ≤ 1 =
      omega (arith, guarded.disjoint x y, sum_by-append g held old.free) in
      let apart = grown-apart old n held simple fits guarded.within x y before in
      omega (arith, apart, grown-count old new n (covers x y) grows, sum_by-append g held new.free);
}

-- A start from an atlas.

mapped-all : (P : Box → Type 0) (gs : List Grant) (free : List Box) → All P (map (λ (g : Grant). g.box) gs ++ free)
    → All P (map (λ (g : Grant). g.box) gs)
mapped-all P [] free h = All-nil P
mapped-all P (g ∷ gs) free h = search (rules, All-cons, All-head, mapped-all P gs free, All-tail)

free-all : (P : Box → Type 0) (gs : List Grant) (free : List Box) → All P (map (λ (g : Grant). g.box) gs ++ free)
    → All P free
free-all P [] free h = h
free-all P (g ∷ gs) free h = free-all P gs free (All-tail P g.box (map (λ (k : Grant). k.box) gs ++ free) h)

started-count : (source : State) (new : SimpleState) → StartsFrom source new → (x y : ℕ)
    → count_by (covers x y) (live_boxes source) + count_by (covers x y) new.free ≤ 1
started-count source new starts x y =
    let well = starts.sound.well_formed in
    let P : Box → Type 0 = λ b. IsNonempty b × IsWithin source.size b in
    let all = within-all source.size (live_boxes source ++ free_in source) (boxes_in_place source.size source.tree well) in
    let once = at-most-inside source.size x y 1 (live_boxes source ++ free_in source) all
    (λ in_x in_y. let one = squares_in_one source.size source.tree well x y in_x in_y in omega (arith, one)) in
    omega (arith, once, sum_by-append (λ b. one_if (covers x y b)) (live_boxes source) (free_in source), starts.free (covers x y))

pub starts-simple : (source : State) (new : SimpleState) → StartsFrom source new → IsSimple new
starts-simple source new starts = record {
  nonempty = subst IsPositive (sym starts.size) starts.sound.well_formed.nonempty;
  valid = subst AreValid (sym starts.options) starts.sound.valid;
  boxes =
      let P : Sides → Box → Type 0 = λ size b. IsNonempty b × IsWithin size b in
      let bad = misplaced source.size in
      let free : All (P source.size) (free_in source) = free-all (P source.size) (live_in source) (free_in source)
      (boxes_in_place source.size source.tree starts.sound.well_formed) in
      let none : count_by bad new.free ≡ 0 = starts.free bad ∙ count-none bad (free_in source)
      (All-weaker (P source.size) (λ b. bad b ≡ false) (not_misplaced source.size) (free_in source) free) in
      subst (λ size. All (P size) new.free) (sym starts.size) (All-weaker (λ b. bad b ≡ false) (P source.size) (well_placed source.size)
      new.free (none-count bad new.free none));
  disjoint = λ x y. omega (arith, started-count source new starts x y);
}

pub starts-guarded : (source : State) (new : SimpleState) → StartsFrom source new → IsGuarded new (live_boxes source)
starts-guarded source new starts = record {
  within =
      subst (λ size. All (λ b. IsWithin size b) (live_boxes source)) (sym starts.size)
      (within-all source.size (live_boxes source)
      (mapped-all (λ b. IsNonempty b × IsWithin source.size b) (live_in source) (free_in source)
      (boxes_in_place source.size source.tree starts.sound.well_formed)));
  disjoint = λ x y. omega (
    arith,
    started-count source new starts x y,
    sum_by-append (λ b. one_if (covers x y b)) (live_boxes source)
        new.free,
  );
}

-- Each step.

pub step-simple : (old new : SimpleState) (call : SimpleAtlasCall) (answer : SimpleAnswer) → IsSimple old
    → SimpleStep old call answer new → IsSimple new
step-simple old new (Allocate r) (Granted box) simple step = grant-simple old new r box simple step
step-simple old new (Allocate r) NoRoom simple step = subst IsSimple (sym step.1) simple
step-simple old new (Allocate r) (Refused Memory) simple step = subst IsSimple (sym step.1) simple
step-simple old new (Grow n) Done simple step = grow-simple old new n simple step.0 step.1
step-simple old new (Grow n) BadCall simple step = subst IsSimple (sym step.1) simple
step-simple old new (Grow n) (Refused Memory) simple step = subst IsSimple (sym step.2) simple
step-simple old new Clear Done simple step = subst IsSimple (sym step) (start-simple old.size old.options simple.nonempty simple.valid)
step-simple old new (Reset n o) Done simple step = subst IsSimple (sym step.2) (start-simple n o step.0 step.1)
step-simple old new (Reset n o) BadCall simple step = subst IsSimple (sym step.1) simple
step-simple old new (Start source) Done simple step = starts-simple source new step
step-simple old new (Start source) (Refused Memory) simple step = subst IsSimple (sym step) simple
step-simple old new call answer simple step = absurd step

-- A simple allocator guards no box at all.
pub none-guarded : (s : SimpleState) → IsSimple s → IsGuarded s []
none-guarded s simple = record { within = All-nil (λ b. IsWithin s.size b); disjoint = simple.disjoint }

-- The order of what is held has no meaning.
last-guarded : (s : SimpleState) (box : Box) (held : List Box) → IsGuarded s (box ∷ held)
    → IsGuarded s (held ++ box ∷ [])
last-guarded s box held guarded = record {
  within =
      let P : Box → Type 0 = λ b. IsWithin s.size b in
      All-append P held (box ∷ []) (All-tail P box held guarded.within)
      (All-cons P box [] (All-head P box held guarded.within) (All-nil P));
  disjoint = λ x y.
      let g = λ (b : Box). one_if (covers x y b) in
      omega (
        arith,
        guarded.disjoint x y,
        sum_by-append g (box ∷ held) s.free,
        sum_by-cons g box held,
        sum_by-append g (held ++ box ∷ []) s.free,
        sum_by-append g held (box ∷ []),
        sum_by-cons g box [],
      );
}

pub step-held : (old new : SimpleState) (call : SimpleAtlasCall) (answer : SimpleAnswer) (held : List Box)
    → IsSimple old → SimpleStep old call answer new
    → IsGuarded old held → IsGuarded new (held_after held call answer)
step-held old new (Allocate r) (Granted box) held simple step guarded = last-guarded new box held
    (grant-guarded old new r box held simple step guarded)
step-held old new (Allocate r) NoRoom held simple step guarded = subst (λ s. IsGuarded s held) (sym step.1) guarded
step-held old new (Allocate r) (Refused Memory) held simple step guarded = subst (λ s. IsGuarded s held) (sym step.1) guarded
step-held old new (Grow n) Done held simple step guarded = grow-guarded old new n held simple step.0 step.1 guarded
step-held old new (Grow n) BadCall held simple step guarded = subst (λ s. IsGuarded s held) (sym step.1) guarded
step-held old new (Grow n) (Refused Memory) held simple step guarded = subst (λ s. IsGuarded s held) (sym step.2) guarded
step-held old new Clear Done held simple step guarded = none-guarded new (step-simple old new Clear Done simple step)
step-held old new (Reset n o) Done held simple step guarded = none-guarded new (step-simple old new (Reset n o) Done simple step)
step-held old new (Reset n o) BadCall held simple step guarded = subst (λ s. IsGuarded s held) (sym step.1) guarded
step-held old new (Start source) Done held simple step guarded = starts-guarded source new step
step-held old new (Start source) (Refused Memory) held simple step guarded = subst (λ s. IsGuarded s held) (sym step) guarded
step-held old new call answer held simple step guarded = absurd step
