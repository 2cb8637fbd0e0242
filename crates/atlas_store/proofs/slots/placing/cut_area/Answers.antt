use Rattle.std.proofs.Common.{◌<◌, ◌^◌, FitsSigned, w32, rules, arith}
use Rattle.std.proofs.lemmas.Int.{ints}
use Rattle.atlas_model.specs.declared.geometry.Rectangle.{Rectangle}
use Rattle.atlas_search.specs.declared.cut.Orientation.{Orientation}
use Rattle.atlas_search.specs.declared.cut.Orientation.TheVariants.{Horizontal, Vertical}
use Rattle.atlas_search.proofs.SearchLemmas.Bests.{natural-most}
use Rattle.atlas_model.specs.Boxes.{box_sides, side}
use Rattle.atlas_model.specs.Pixels.{box_of}
use Rattle.atlas_store.specs.Slots.{axis_of}
use Rattle.atlas_store.proofs.slots.placing.cut_area.Goals as goal

-- A side of a rectangle's box is what an `i32` holds.
side-fits : (o : Orientation) (r : Rectangle) → FitsSigned w32 r.max.x → FitsSigned w32 r.max.y
    → side (axis_of o) (box_sides (box_of r)) < 2 ^ 31
side-fits Horizontal r x y = omega (arith, natural-most r.max.x x)
side-fits Vertical r x y = omega (arith, natural-most r.max.y y)

pub overflow_cast-extent : goal.overflow_cast-extent
overflow_cast-extent c =
    omega (arith, ints, c.requires.less, side-fits c.args.axis c.args.area (search rules) (search rules))
