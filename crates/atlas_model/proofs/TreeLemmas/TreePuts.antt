-- How a box is cut, and what then stands in place of a free member.
use Rattle.std.proofs.Common.{◌≡◌, ℕ, ◌-◌, ◌*◌, ◌<◌, ◌≤◌, true, false, ltb, List, ◌∷◌, refl, arith}
use Rattle.std.proofs.lemmas.Bool.{eqb-true, eqb-false}
use Rattle.atlas_model.specs.Boxes.{Axis, Position, Sides, other, side, sized, moved, box_at, box_sides, Fits}
use Rattle.atlas_model.specs.Boxes.{IsPositive}
use Rattle.atlas_model.specs.Boxes.Axis.{Horizontal, Vertical}
use Rattle.atlas_model.specs.Changes.{put}
use Rattle.atlas_model.specs.Cuts.{Cut, cut, cap}
use Rattle.atlas_model.specs.Cuts.Cut.{Whole, Strip, Corner}
use Rattle.atlas_model.specs.Trees.{Grant, grant, Members, ids, IsCut, begins_free, IsNormal}
use Rattle.atlas_model.proofs.TreeLemmas.TreeBasics.{live_among}

-- What a cut says of the sides.
abbrev pub CutSays : Cut → (whole r : Sides) → Type 0
CutSays Whole whole r = (whole.width ≡ r.width) × (whole.height ≡ r.height)
CutSays (Strip a) whole r = (side (other a) whole ≡ side (other a) r) × (side a r < side a whole)
CutSays (Corner a) whole r = (r.width < whole.width) × (r.height < whole.height)

no_width : (a b h : ℕ) (n : ℕ) → a ≡ b → ltb (cap n) (cap ((a - b) * h)) ≡ false
no_width a b h n e = grind arith

some_width : (a b h w y z : ℕ) → b < a → 0 < h → y ≡ z → ltb (cap (w * (y - z))) (cap ((a - b) * h)) ≡ true
some_width a b h w y z lt pos e = grind arith

pub cut_says : (whole r : Sides) → IsPositive r → Fits r whole → CutSays (cut whole r) whole r
cut_says whole r pos fit = grind (arith, eqb-true, eqb-false, no_width, some_width)

-- In place of one free member.

pub sized_back : (axis : Axis) (o : Position) (e across : ℕ)
    → box_sides (box_at o (sized axis e across)) ≡ sized axis e across
sized_back Horizontal o e across = grind arith
sized_back Vertical o e across = grind arith

pub ids-put : (c : Cut) (axis : Axis) (e across p q id : ℕ) (rest : Members)
    → ids (put c axis e across p q id rest) ≡ id ∷ ids rest
ids-put Whole axis e across p q id rest = refl
ids-put c axis e across p q id rest = grind arith

pub normal-put : (c : Cut) (axis : Axis) (e across p q id : ℕ) (rest : Members) → begins_free rest ≡ false
    → IsNormal rest
    → IsNormal (put c axis e across p q id rest)
normal-put Whole axis e across p q id rest apart normal = normal
normal-put c axis e across p q id rest apart normal = grind arith

pub cut-put : (c : Cut) (axis : Axis) (e across id : ℕ) (r : Sides) (rest : Members) → CutSays c (sized axis e across) r
    → IsPositive r → 0 < e → IsCut across rest
    → IsCut across (put c axis e across (side axis r) (side (other axis) r) id rest)
cut-put Whole axis e across id r rest says pos long well = (long, well)
cut-put (Strip Horizontal) Horizontal e across id r rest says pos long well = (pos.0, (omega (arith, says.1), well))
cut-put (Strip Vertical) Vertical e across id r rest says pos long well = (pos.1, (omega (arith, says.1), well))
cut-put c axis e across id r rest says pos long well = grind arith

same_grant : (id : ℕ) (o : Position) (w h w' h' : ℕ) (rest : List Grant) → w ≡ w' → h ≡ h'
    → ((grant id (box_at o (record { width = w; height = h }))) ∷ rest)
    ≡ ((grant id (box_at o (record { width = w'; height = h' }))) ∷ rest)
same_grant id o w h w' h' rest p q = λ i. (grant id (box_at o (record { width = p i; height = q i }))) ∷ rest

pub live-put : (c : Cut) (axis : Axis) (o : Position) (e across id : ℕ) (r : Sides) (rest : Members)
    → CutSays c (sized axis e across) r → side axis r ≤ e
    → live_among axis o across (put c axis e across (side axis r) (side (other axis) r) id rest)
    ≡ ((grant id (box_at o r)) ∷ live_among axis (moved axis o e) across rest)
live-put (Strip Horizontal) Horizontal o e across id r rest says fit = grind arith
live-put (Strip Vertical) Vertical o e across id r rest says fit = grind arith
live-put (Strip Horizontal) Vertical o e across id r rest says fit = same_grant id o r.width e r.width r.height _ refl says.0
live-put (Strip Vertical) Horizontal o e across id r rest says fit = same_grant id o e r.height r.width r.height _ says.0 refl
live-put (Corner Horizontal) Horizontal o e across id r rest says fit = grind arith
live-put (Corner Vertical) Vertical o e across id r rest says fit = grind arith
live-put (Corner Horizontal) Vertical o e across id r rest says fit = refl
live-put (Corner Vertical) Horizontal o e across id r rest says fit = refl
live-put Whole axis o e across id r rest says fit = grind arith
